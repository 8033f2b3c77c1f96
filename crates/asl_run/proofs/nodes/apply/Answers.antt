use Rattle.std.proofs.Common.{refl, sym, subst, slice_set}
use Rattle.asl_run.specs.Changing.{IsWritten}
use Rattle.asl_run.specs.declared.nodes.Node.TheVariants as variants
use Rattle.asl_run.proofs.Parts.{read_there}
use Rattle.asl_run.proofs.WrittenTables.{alike_at, err_any, ask_written, end_written, enter_written, retry_written, split_made}
use Rattle.asl_run.proofs.nodes.apply.Goals as goal

pub retry-requires : goal.retry-requires
retry-requires c =
    let node = c.index_mut-in-Retry.result.now in
    λ visit e. c.requires.rises node (read_there c.args.nodes.now.items c.args.number node c.requires.within c.index_mut-in-Retry.ensures.value) visit c.in-Retry.retrier e c.in-Retry.is

pub returns-in_err-retry-in-Retry-clause-unchanged : goal.returns-in_err-retry-in-Retry-clause-unchanged
returns-in_err-retry-in-Retry-clause-unchanged c =
    let node = c.index_mut-in-Retry.result.now in
    err_any c.from_residual-in_err-retry-in-Retry.result
    (alike_at c.args.nodes.now.items c.args.number node c.retry.new.self (read_there c.args.nodes.now.items c.args.number node c.requires.within c.index_mut-in-Retry.ensures.value) c.in_err-retry-in-Retry.ensures.unchanged)

pub returns-in-Enter-clause-changed : goal.returns-in-Enter-clause-changed
returns-in-Enter-clause-changed c =
    subst (λ change. IsWritten c.args.number c.args.nodes.now.items change (slice_set c.args.nodes.now.items c.args.number (variants.Ready c.in-Enter.visit))) (sym c.in-Enter.is) (enter_written c.args.number c.args.nodes.now.items _ c.in-Enter.visit refl)

pub returns-in-End-clause-changed : goal.returns-in-End-clause-changed
returns-in-End-clause-changed c =
    subst (λ change. IsWritten c.args.number c.args.nodes.now.items change (slice_set c.args.nodes.now.items c.args.number (variants.Ended c.in-End.outcome))) (sym c.in-End.is) (end_written c.args.number c.args.nodes.now.items _ c.in-End.outcome refl)

pub returns-in-Ask-clause-changed : goal.returns-in-Ask-clause-changed
returns-in-Ask-clause-changed c =
    let node = c.index_mut-in-Ask.result.now in
    let all = c.args.nodes.now.items in
    subst (λ change. IsWritten c.args.number all change (slice_set all c.args.number c.wait.new.self)) (sym c.in-Ask.is)
    (ask_written c.args.number all _ node c.wait.new.self c.in-Ask.payload (read_there all c.args.number node c.requires.within c.index_mut-in-Ask.ensures.value) refl c.wait.ensures.alone c.wait.ensures.waits)

pub returns-in_ok-children-in-SplitInto-clause-changed : goal.returns-in_ok-children-in-SplitInto-clause-changed
returns-in_ok-children-in-SplitInto-clause-changed c =
    let node = c.index_mut-in-SplitInto.result.now in
    let all = c.args.nodes.now.items in
    let longer = c.add.new.nodes.items in
    subst (λ change. IsWritten c.args.number all change (slice_set longer c.args.number c.split.new.self)) (sym c.in-SplitInto.is)
    (split_made c.args.number all longer _ c.in-SplitInto.visits node c.split.new.self c.in_ok-children-in-SplitInto.children c.requires.within c.in_ok-children-in-SplitInto.ensures.first c.in_ok-children-in-SplitInto.ensures.count c.in_ok-children-in-SplitInto.ensures.added c.index_mut-in-SplitInto.ensures.value refl c.split.ensures.no_others c.split.ensures.splits)

pub returns-in_ok-retry-in-Retry-clause-changed : goal.returns-in_ok-retry-in-Retry-clause-changed
returns-in_ok-retry-in-Retry-clause-changed c =
    let node = c.index_mut-in-Retry.result.now in
    let all = c.args.nodes.now.items in
    subst (λ change. IsWritten c.args.number all change (slice_set all c.args.number c.retry.new.self)) (sym c.in-Retry.is)
    (retry_written c.args.number all _ node c.retry.new.self c.in-Retry.retrier (read_there all c.args.number node c.requires.within c.index_mut-in-Retry.ensures.value) refl c.in_ok-retry-in-Retry.ensures.alone c.in_ok-retry-in-Retry.ensures.retries)
