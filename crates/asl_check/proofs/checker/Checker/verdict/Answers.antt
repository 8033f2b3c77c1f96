use Rattle.std.proofs.Common.{sym, ap, ◌∙◌, subst}
use Rattle.asl_model.specs.Certificate.{Certificate}
use Rattle.asl_model.specs.RecordShapes.{HoldsForCertificate}
use Rattle.asl_model.specs.Shape.{IsOrdered}
use Rattle.asl_numbered.specs.Laws.{keeps_trans}
use Rattle.asl_machine_table.specs.Table.{scope_in}
use Rattle.asl_records.specs.View.{declared_view}
use Rattle.asl_check.specs.Listing.{rules_view}
use Rattle.asl_check.specs.Noting.{AreNoted, notes_view}
use Rattle.asl_check.specs.Numbers.{certificate_of}
use Rattle.asl_check.specs.View.{findings_view}
use Rattle.asl_check.proofs.Adding.{no_rules, some_rules}
use Rattle.asl_check.proofs.Grown.{certificate_kept}
use Rattle.asl_check.proofs.RightVerdicts.{accepted, first_told, rejected}
use Rattle.asl_check.proofs.checker.Checker.verdict.Goals as goal

pub returns-then-is_empty-clause-verdict : goal.returns-then-is_empty-clause-verdict
returns-then-is_empty-clause-verdict c =
    let checker = c.args.self.now in
    let rules = c.in_ok-rules.rules.items in
    let none = no_rules rules _ c.in_ok-rules.rules.ok.0 (sym c.is_empty.ensures ∙ c.if-is_empty.true) in
    accepted checker.machine.now (scope_in checker.machine.now) c.is_shown.ensures.shown (declared_view checker.declared.now) (certificate_of c.args.shapes.now checker) (ap (rules_view c.list_all.new.shapes) (sym none) ∙ c.in_ok-rules.ensures.listed)

pub returns-clause-verdict : goal.returns-clause-verdict
returns-clause-verdict c =
    let checker = c.args.self.now in
    let machine = scope_in checker.machine.now in
    let declared = declared_view checker.declared.now in
    let a = c.args.shapes.now in
    let b = c.list_all.new.shapes in
    let certificate = certificate_of a checker in
    let rules = c.in_ok-rules.rules.items in
    let listed = c.in_ok-rules.ensures.listed in
    let notes = notes_view c.in_ok-notes.notes.entries in
    let same = certificate_kept a b c.in_ok-rules.ensures.keeps checker c.requires.within in
    let ordered = subst (λ (certified : Certificate). HoldsForCertificate IsOrdered certified) same c.are_in_order.ensures.certified in
    let some = some_rules b rules _ c.in_ok-rules.rules.ok.0 (sym c.is_empty.ensures ∙ c.if-is_empty.false) in
    rejected checker.machine.now machine c.is_shown.ensures.shown declared certificate notes (findings_view c.in_ok-findings.findings.items)
    (λ f stands. c.findings_are_exactly_the_broken_rules.ensures.broken machine declared certificate f c.are_in_order.ensures.declared ordered stands)
    (λ none. some (listed ∙ none)) (subst (λ all. AreNoted all notes) (ap (rules_view b) c.deref.ensures.value ∙ listed) c.in_ok-notes.ensures.noted)
    c.in_ok-findings.ensures.same c.in_ok-findings.ensures.in_order

pub returns-clause-first : goal.returns-clause-first
returns-clause-first c =
    let notes = notes_view c.in_ok-notes.notes.entries in
    first_told _ notes (findings_view c.in_ok-findings.findings.items) (subst (λ all. AreNoted all notes) (ap (rules_view c.list_all.new.shapes) c.deref.ensures.value ∙ c.in_ok-rules.ensures.listed) c.in_ok-notes.ensures.noted) c.in_ok-findings.ensures.same c.in_ok-findings.ensures.in_order

pub returns-clause-keeps : goal.returns-clause-keeps
returns-clause-keeps c = keeps_trans _ _ _ c.in_ok-rules.ensures.keeps c.in_ok-notes.ensures.keeps
