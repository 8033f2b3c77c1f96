-- What is written of a certificate.
use Rattle.std.specs.Prelude.{◌≤◌, Bool, true, false}
use Rattle.serde_json.specs.Data.{depth}
use Rattle.serde_json.specs.Read.{max_depth}
use Rattle.asl_model.specs.Certificate.{Certificate}
use Rattle.asl_model.specs.Json.{value_of}
use Rattle.asl_model.specs.Tree.{Tree}
use Rattle.asl_model.specs.Written.{written_certificate}
use Rattle.asl_model.specs.WrittenNumbered.{written_numbered}

-- the tree of a certificate, with a list of its shapes or without one
abbrev pub written_as : Bool → Certificate → Tree
written_as true certificate = written_numbered certificate
written_as false certificate = written_certificate certificate

-- the certificate, spelled out, nests no deeper than JSON is read
abbrev pub IsShallow : Certificate → Type 0
IsShallow certificate = depth (value_of (written_certificate certificate)) ≤ max_depth
