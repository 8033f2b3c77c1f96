use Rattle.std.proofs.Common.{◌≡◌, ◌<◌, Ok, drop, length}
use Rattle.asl_choice.specs.View.{tests_view}
use Rattle.asl_model.specs.ShapeFlow.{each_found, each_true_of, where_found}
use Rattle.asl_numbered.specs.Expansion.{shape_at, Keeps}
use Rattle.asl_shape_rules.proofs.rules.+narrow.Given as goal

abbrev pub invariant-check_all-loop-test : goal.invariant-check_all-loop-test
invariant-check_all-loop-test l =
    Keeps l.initial.shapes l.shapes
    × (l.number < length l.shapes)
    × (shape_at l.shapes l.number ≡ shape_at l.initial.shapes l.number)
    × (where_found (each_found (tests_view l.tests) (shape_at l.initial.shapes l.number)) (Ok (shape_at l.initial.shapes l.number))
    ≡ where_found (each_found (tests_view (drop l.test-index l.tests)) (shape_at l.initial.shapes l.number)) (Ok (shape_at l.initial.shapes l.number)))

abbrev pub invariant-narrow_by_all-loop-test : goal.invariant-narrow_by_all-loop-test
invariant-narrow_by_all-loop-test l =
    Keeps l.initial.shapes l.shapes × (l.narrowed < length l.shapes)
    × (each_true_of (tests_view l.tests) (shape_at l.initial.shapes l.initial.narrowed)
    ≡ each_true_of (tests_view (drop l.test-index l.tests)) (shape_at l.shapes l.narrowed))
