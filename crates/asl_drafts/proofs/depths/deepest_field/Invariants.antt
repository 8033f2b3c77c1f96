use Rattle.std.proofs.Common.{◌≡◌, length, max, List}
use Rattle.asl_model.specs.Shape as model
use Rattle.asl_numbered.specs.Expansion.{fields_at, numbers_in, AreBelow}
use Rattle.asl_drafts.specs.Depths.{told_depth_of_fields, AreDepths}
use Rattle.asl_drafts.proofs.depths.deepest_field.Given as goal

abbrev pub invariant-loop-field : goal.invariant-loop-field
invariant-loop-field l =
    AreBelow (length l.depths) (numbers_in l.field-iterator)
    × ((table : List model.Shape) → AreDepths table l.depths
    → max l.deepest (told_depth_of_fields (fields_at table l.field-iterator)) ≡ told_depth_of_fields (fields_at table l.fields.entries))
