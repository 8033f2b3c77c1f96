use Rattle.std.proofs.Common.{◌≡◌, map, take, drop}
use Rattle.serde_json.specs.View.{view, items_view}
use Rattle.asl_model.specs.StandsFor.{retrier_of, retriers_complaints}
use Rattle.asl_states.specs.Machine.{retrier_view}
use Rattle.asl_fields.specs.Verdicts.{place_view}
use Rattle.asl_machine.proofs.trouble_reading.read_retriers.Given as goal

abbrev pub invariant-loop-index : goal.invariant-loop-index
invariant-loop-index l = record {
  read : map retrier_view l.retriers.items ≡ map (λ v. retrier_of (view v)) (take l.index l.elements);
  told : retriers_complaints (place_view l.place) (items_view l.elements) ≡ retriers_complaints (place_view l.place) (items_view (drop l.index l.elements));
}
