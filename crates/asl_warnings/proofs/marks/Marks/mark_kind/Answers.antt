use Rattle.std.proofs.Common.{map, sym, subst, option_map}
use Rattle.std.specs.Prelude.{OnOk, option_to_list}
use Rattle.asl_warnings.specs.Adding.{Adds}
use Rattle.asl_warnings.specs.Led.{chosen_by, named_in_kind, number_of}
use Rattle.asl_warnings.proofs.Added.{adds-then}
use Rattle.asl_warnings.proofs.marks.Marks.mark_kind.Goals as goal

pub returns-in_ok-mark_choices-in-Choice : goal.returns-in_ok-mark_choices-in-Choice
returns-in_ok-mark_choices-in-Choice c =
    let choice = c.in-Choice in
    subst (λ kind. OnOk c.mark_if_named.result (Adds c.args.self.now c.mark_if_named.new.self (named_in_kind kind))) (sym choice.is)
    (adds-then c.args.self.now c.mark_choices.new.self c.mark_if_named.new.self (map chosen_by choice.choices.items) (option_to_list (option_map number_of choice.default)) c.mark_if_named.result
    (subst (λ cs. Adds c.args.self.now c.mark_choices.new.self (map chosen_by cs)) c.deref.ensures.value c.in_ok-mark_choices-in-Choice.ensures) c.mark_if_named.ensures)
