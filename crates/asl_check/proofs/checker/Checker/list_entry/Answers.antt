use Rattle.std.proofs.Common.{◌≡◌, not, ◌||◌, length, is_some, codes, Bor, sym, ap, ◌∙◌, subst}
use Rattle.std.proofs.lemmas.Result.{on_ok_weaker}
use Rattle.asl_model.specs.Certificate.{certified, under}
use Rattle.asl_model.specs.Finding.{NotCertified, TaskUndeclared, breach_unless, found_at, is_certified}
use Rattle.asl_model.specs.Machine.{is_task}
use Rattle.asl_states.specs.Machine.{kind_view}
use Rattle.asl_records.specs.View.{declared_view, task_view}
use Rattle.asl_records.specs.declared.records.TaskShapes.{TaskShapes}
use Rattle.asl_check.specs.Listing.{Adds}
use Rattle.asl_check.specs.Numbers.{certificate_of}
use Rattle.asl_check.proofs.EntryRules.{both_added, task_declared, undeclared_passed}
use Rattle.asl_check.proofs.LookedUp.{certified_lent}
use Rattle.asl_check.proofs.TaskNumbers.{is_some-map}
use Rattle.asl_check.proofs.checker.Checker.list_entry.Goals as goal
use Rattle.asl_check.proofs.checker.Checker.list_entry.Goals.{then-not-is_task, else-not-is_task}

pub returns : goal.returns
returns c = λ table.
    let checker = c.args.self.now in
    let declared = checker.declared.now in
    let n = c.args.row.now.name.now in
    let kind = kind_view c.args.row.now.state.now.kind in
    let entry = certified (certificate_of table checker) n in
    let known = is_some (under n (declared_view declared).tasks) in
    let holds = c.if-not-is_task.declared in
    let form = c.is_certified-certified.ensures table ∙ ap (is_certified kind) (certified_lent table checker n c.get.result c.get.ensures.value) in
    let is : holds ≡ (not (is_task kind) || known) = elim c.if-not-is_task.branch [
      | then-not-is_task w ↦ undeclared_passed (is_task kind) known holds (sym c.is_task.ensures ∙ w.if-not-is_task.true) (w.declared-is ∙ ap not w.if-not-is_task.true)
      | else-not-is_task w ↦ task_declared (is_task kind) known holds (sym c.is_task.ensures ∙ w.if-not-is_task.false) (w.declared-is ∙ w.is_some-declared.ensures ∙ sym (is_some-map (λ (task : Bor TaskShapes). task_view task.now) w.task.result) ∙ ap is_some w.task.ensures)
    ] in
    let first = c.breach_unless-uncertified.ensures.told table ∙ ap (λ b. breach_unless b (codes "states") NotCertified) form in
    let second = c.breach_unless-undeclared.ensures.told table ∙ ap (λ b. breach_unless b (codes "Resource") TaskUndeclared) is in
    let before = c.args.rules.now.items in
    let middle = c.list.new.rules.items in
    let after = c.list-2.new.rules.items in
    let front = subst (λ told. Adds table before middle (found_at n told)) first (c.in_ok-list.ensures table (c.breach_unless-uncertified.ensures.below (length table))) in
    on_ok_weaker c.list-2.result (λ p. both_added table n before middle after (breach_unless (is_certified kind entry) (codes "states") NotCertified) (breach_unless (not (is_task kind) || known) (codes "Resource") TaskUndeclared) front (subst (λ told. Adds table middle after (found_at n told)) second p)) (c.list-2.ensures table (c.breach_unless-undeclared.ensures.below (length table)))
