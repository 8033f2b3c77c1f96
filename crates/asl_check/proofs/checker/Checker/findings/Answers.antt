use Rattle.std.proofs.Common.{IfOk, Result, Ok, Err, ap, ◌∙◌, subst}
use Rattle.std.specs.List.{Contains}
use Rattle.std.proofs.lemmas.Result.{IfOk-weaker}
use Rattle.asl_numbered.specs.Laws.{keeps_trans}
use Rattle.asl_machine_table.specs.Table.{scope_in}
use Rattle.asl_records.specs.View.{declared_view}
use Rattle.asl_check.specs.Listing.{rules_view}
use Rattle.asl_check.specs.Numbers.{certificate_of}
use Rattle.asl_check.proofs.Paths.{exactly}
use Rattle.asl_check.proofs.RightVerdicts.{each_stands}
use Rattle.asl_check.proofs.checker.Checker.findings.Goals as goal

-- what follows from two facts about an answer
of_two : {A E : Type 0} {P Q R : A → Type 0} (r : Result A E) → ((x : A) → P x → Q x → R x) → IfOk r P → IfOk r Q → IfOk r R
of_two (Ok x) f p q = f x p q
of_two (Err e) f p q = tt

pub returns-clause-listed : goal.returns-clause-listed
returns-clause-listed c =
    IfOk-weaker c.tell_each.result _ _ (λ findings told. told ∙ (ap (rules_view c.list_all.new.shapes) c.deref.ensures.value ∙ c.in_ok-rules.ensures.listed)) c.tell_each.ensures.told

-- each is listed, so it stands
pub returns-clause-exactly : goal.returns-clause-exactly
returns-clause-exactly c =
    let checker = c.args.self.now in
    let machine = scope_in checker.machine.now in
    let declared = declared_view checker.declared.now in
    let certificate = certificate_of c.args.shapes.now checker in
    let listed = ap (rules_view c.list_all.new.shapes) c.deref.ensures.value ∙ c.in_ok-rules.ensures.listed in
    of_two c.tell_each.result (λ all told located. exactly all.items (λ f among. c.findings_are_exactly_the_broken_rules.ensures.shown machine declared certificate f (each_stands checker.machine.now machine c.is_shown.ensures.shown declared certificate f (subst (λ rules. Contains rules f) (told ∙ listed) among))) located) c.tell_each.ensures.told c.tell_each.ensures.located

pub returns-clause-keeps : goal.returns-clause-keeps
returns-clause-keeps c = keeps_trans _ _ _ c.in_ok-rules.ensures.keeps c.tell_each.ensures.keeps
