use Rattle.std.proofs.Common.{◌≡◌, drop, map}
use Rattle.asl_model.specs.ShapeSpelling.{is_among}
use Rattle.asl_records.proofs.fields.is_known.Given as goal

abbrev pub invariant-loop-name : goal.invariant-loop-name
invariant-loop-name l = is_among l.field (map (λ name. name.now) l.known) ≡ is_among l.field (map (λ name. name.now) (drop l.name-index l.known))
