-- The segments of the definitions that the code's segments stand for.
use Rattle.std.specs.Prelude.{List, map, string_bytes}
use Rattle.asl_model.specs.Path as model
use Rattle.asl_path.specs.declared.Segment.{Segment}
use Rattle.asl_path.specs.declared.Segment.TheVariants.{Name, Index}

-- the segment
abbrev pub segment_view : Segment → model.Segment
segment_view (Name n) = model.Name (string_bytes n)
segment_view (Index i) = model.Index i

-- the segments of a path
abbrev pub segments_view : List Segment → List model.Segment
segments_view = map segment_view
