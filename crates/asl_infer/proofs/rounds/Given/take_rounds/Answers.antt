use Rattle.std.proofs.Common.{subst}
use Rattle.std.proofs.lemmas.Result.{err_from_is_err_and}
use Rattle.asl_numbered.specs.Laws.{keeps_trans}
use Rattle.asl_drafts.specs.Drafted.{draft_view}
use Rattle.asl_infer.specs.Rounds.{IsChanged, declared_in, table_in}
use Rattle.asl_infer.proofs.Declared.{given_kept}
use Rattle.asl_infer.proofs.TakenRounds.{never-settled, one-taken, told}
use Rattle.asl_infer.proofs.rounds.Given.take_rounds.Goals as goal

pub take_round-requires-clause-given : goal.take_round-requires-clause-given
take_round-requires-clause-given c = given_kept c.args.walker.now.draft.store c.loop.walker.draft.store c.args.self.now c.loop.invariant.keeps c.requires.given

pub returns-in_err-changed-clause-told : goal.returns-in_err-changed-clause-told
returns-in_err-changed-clause-told c =
    let p = err_from_is_err_and c.from_residual.result c.from_residual.ensures.1 in
    rw (p.1, p.2) (told c.args.self.now.strictness (table_in c.args.self.now) (declared_in c.args.self.now) c.args.max_rounds c.loop.counter (draft_view c.loop.walker.draft) c.in_err-changed.field-0.0 c.loop.invariant.taken c.loop-test.true c.in_err-changed.ensures.told)

pub loop-preserved : goal.loop-preserved
loop-preserved c =
    let now = draft_view c.loop.walker.draft in
    let next = draft_view c.take_round.new.walker.draft in
    let known = c.in_ok-changed.ensures in
    record {
      keeps = keeps_trans _ _ _ c.loop.invariant.keeps known.keeps;
      calm = known.calm;
      taken = one-taken c.args.self.now.strictness (table_in c.args.self.now) (declared_in c.args.self.now) c.loop.counter now next c.loop.invariant.taken known.round (subst (λ b. IsChanged now b next) c.if-not-changed.false known.changed);
    }

pub returns-clause-told : goal.returns-clause-told
returns-clause-told c = never-settled c.args.self.now.strictness (table_in c.args.self.now) (declared_in c.args.self.now) c.args.max_rounds c.loop.counter (draft_view c.loop.walker.draft) c.loop.invariant.taken c.loop-test.false
