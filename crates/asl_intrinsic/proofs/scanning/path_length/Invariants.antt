use Rattle.std.proofs.Common.{◌≡◌, ◌≢◌, ◌+◌, IfSome, drop, unwrap_or}
use Rattle.asl_model.specs.CallSpelling.{path_length}
use Rattle.asl_intrinsic.proofs.scanning.path_length.Given as goal

abbrev pub invariant-loop-place : goal.invariant-loop-place
invariant-loop-place l = (path_length 0 l.text ≡ l.place + path_length (unwrap_or l.open_quote 0) (drop l.place l.text)) × IfSome l.open_quote (λ quote. quote ≢ 0)
