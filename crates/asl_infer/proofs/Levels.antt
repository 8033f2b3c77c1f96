-- What is written of a certificate of such shapes reads back.
use Rattle.std.proofs.Common.{◌≤◌, suc, arith}
use Rattle.serde_json.specs.Data as json
use Rattle.serde_json.specs.Read.{max_depth}
use Rattle.asl_model.specs.Certificate as model
use Rattle.asl_model.specs.Json.{value_of}
use Rattle.asl_model.specs.RecordShapes.{HoldsForCertificate}
use Rattle.asl_model.specs.Written.{written_certificate}
use Rattle.asl_drafts.specs.Cutting.{IsShallow, deepest}
use Rattle.asl_model.proofs.WrittenNesting.{certificate_nests}

pub written_shallow : (certificate : model.Certificate) → HoldsForCertificate IsShallow certificate → json.depth (value_of (written_certificate certificate)) ≤ max_depth
written_shallow certificate h = omega (arith, certificate_nests (suc deepest) certificate h)
