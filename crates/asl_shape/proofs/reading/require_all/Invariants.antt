use Rattle.std.proofs.Common.{◌≡◌, drop}
use Rattle.std.specs.Prelude.{IsTrue}
use Rattle.asl_model.specs.ShapeSpelling as model
use Rattle.asl_shape.specs.LevelView.{texts}
use Rattle.asl_shape.specs.Properness.{fields_proper}
use Rattle.asl_shape.specs.View.{fields_view}
use Rattle.asl_shape.proofs.reading.require_all.Given as goal

abbrev pub invariant-loop-name : goal.invariant-loop-name
invariant-loop-name l =
    (model.with_all_needed l.extra (texts l.names) (fields_view l.initial.fields.entries) ≡ model.with_all_needed l.extra (texts (drop l.name-index l.names)) (fields_view l.fields.entries))
    × (IsTrue (fields_proper l.initial.fields.entries) → IsTrue (fields_proper l.fields.entries))
