use Rattle.std.proofs.Common.{◌≡◌, ◌+◌, drop}
use Rattle.asl_model.specs.PathSpelling.{front_length}
use Rattle.asl_intrinsic.specs.Parts.{may_stand_in}
use Rattle.asl_intrinsic.proofs.scanning.Part.length_in.Given as goal

abbrev pub invariant-loop-place : goal.invariant-loop-place
invariant-loop-place l = front_length (may_stand_in l.self) l.text ≡ l.place + front_length (may_stand_in l.self) (drop l.place l.text)
