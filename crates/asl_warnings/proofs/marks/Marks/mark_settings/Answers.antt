use Rattle.std.proofs.Common.{map, subst, option_map}
use Rattle.std.specs.Prelude.{OnOk, option_to_list}
use Rattle.asl_warnings.specs.Adding.{Adds}
use Rattle.asl_warnings.specs.Led.{caught_by, number_of}
use Rattle.asl_warnings.proofs.Added.{adds-then}
use Rattle.asl_warnings.proofs.marks.Marks.mark_settings.Goals as goal

pub returns : goal.returns
returns c =
    let settings = c.args.settings.now in
    adds-then c.args.self.now c.mark_if_named.new.self c.mark_catchers.new.self (option_to_list (option_map number_of settings.next)) (map caught_by settings.catchers.items) c.mark_catchers.result c.in_ok-mark_if_named.ensures
    (subst (λ cs. OnOk c.mark_catchers.result (Adds c.mark_if_named.new.self c.mark_catchers.new.self (map caught_by cs))) c.deref.ensures.value c.mark_catchers.ensures)
