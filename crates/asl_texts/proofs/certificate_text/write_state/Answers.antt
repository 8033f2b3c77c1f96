use Rattle.std.proofs.Common.{◌++◌, sym, ap, subst, ◌∙◌}
use Rattle.asl_tree.specs.Written.{tree_tokens, ReadsBack}
use Rattle.asl_texts.specs.CertificateTokens.{branches_tokens, item_tokens, stands_for, tree_at, ItemReadsBack, NumbersReadBack}
use Rattle.asl_texts.proofs.CertificateTokens.{entry_appended, state_back, state_tokens}
use Rattle.asl_texts.proofs.certificate_text.write_state.Goals as goal

pub returns-clause-reads_back : goal.returns-clause-reads_back
returns-clause-reads_back c =
    let state = c.args.state.now in
    let shapes = c.args.spellings.now.shapes in
    let one = c.in_ok-write_branches.ensures.kept.shapes in
    let two = c.in_ok-write.ensures.kept.shapes ∙ one in
    let three = c.in_ok-write_item.ensures.kept.shapes ∙ two in
    let branches = subst (NumbersReadBack (stands_for shapes) shapes) c.deref.ensures.value c.in_ok-write_branches.ensures.read_back in
    let input = subst (λ s. ReadsBack (tree_at s state.input)) one c.in_ok-write.ensures.reads_back in
    let item = subst (λ s. ItemReadsBack s state.item) two c.in_ok-write_item.ensures.read_back in
    let output = subst (λ s. ReadsBack (tree_at s state.output)) three c.in_ok-write-2.ensures.reads_back in
    state_back shapes state branches input item output

pub returns-clause-tokens : goal.returns-clause-tokens
returns-clause-tokens c =
    let state = c.args.state.now in
    let shapes = c.args.spellings.now.shapes in
    let one = c.in_ok-write_branches.ensures.kept.shapes in
    let two = c.in_ok-write.ensures.kept.shapes ∙ one in
    let three = c.in_ok-write_item.ensures.kept.shapes ∙ two in
    let input = c.in_ok-write.ensures.tokens ∙ ap (λ s. c.key.new.self.tokens ++ tree_tokens (tree_at s state.input)) one in
    let item = c.in_ok-write_item.ensures.tokens ∙ ap (λ s. c.write.new.writer.tokens ++ item_tokens s state.item) two in
    let output = c.in_ok-write-2.ensures.tokens ∙ ap (λ s. c.key-2.new.self.tokens ++ tree_tokens (tree_at s state.output)) three in
    let branches = c.in_ok-write_branches.ensures.tokens ∙ ap (λ ns. c.begin_object.new.self.tokens ++ branches_tokens shapes ns) c.deref.ensures.value in
    entry_appended _ _ _ _ _ _ _ _ _ c.in_ok-begin_object.ensures.ok branches c.in_ok-key.ensures.ok input item c.in_ok-key-2.ensures.ok output c.in_ok-end_object.ensures.ok ∙ ap (λ ts. c.args.writer.now.tokens ++ ts) (sym (state_tokens shapes state))
