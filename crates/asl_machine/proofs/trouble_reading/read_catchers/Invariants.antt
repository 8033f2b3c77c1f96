use Rattle.std.proofs.Common.{◌≡◌, map, take, drop}
use Rattle.serde_json.specs.View.{view, items_view}
use Rattle.asl_model.specs.StandsFor.{members_in, state_names, catcher_of, catchers_complaints}
use Rattle.asl_states.specs.Machine.{catcher_view}
use Rattle.asl_fields.specs.Verdicts.{place_view}
use Rattle.asl_machine.proofs.trouble_reading.read_catchers.Given as goal

abbrev pub invariant-loop-index : goal.invariant-loop-index
invariant-loop-index l = record {
  read : map catcher_view l.catchers.items ≡ map (λ v. catcher_of (view v)) (take l.index l.elements);
  told : catchers_complaints (place_view l.place) (state_names (members_in (view l.scope))) (items_view l.elements) ≡ catchers_complaints (place_view l.place) (state_names (members_in (view l.scope))) (items_view (drop l.index l.elements));
}
