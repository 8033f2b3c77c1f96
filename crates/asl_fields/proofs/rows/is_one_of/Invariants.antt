use Rattle.std.proofs.Common.{◌≡◌, drop, map}
use Rattle.asl_model.specs.ShapeSpelling.{is_among}
use Rattle.asl_fields.proofs.rows.is_one_of.Given as goal

abbrev pub invariant-loop-text : goal.invariant-loop-text
invariant-loop-text l = is_among l.name (map (λ text. text.now) l.texts) ≡ is_among l.name (map (λ text. text.now) (drop l.text-index l.texts))
