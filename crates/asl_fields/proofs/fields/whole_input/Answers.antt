use Rattle.std.proofs.Common.{◌≡◌, Some, codes}
use Rattle.asl_model.specs.PathSpelling.{path_of}
use Rattle.asl_model.proofs.PathReading.{Spells-path_of}
use Rattle.asl_fields.proofs.fields.whole_input.Goals as goal

pub returns-in-Ok : goal.returns-in-Ok
returns-in-Ok c =
    let read : path_of (codes "$") ≡ Some c.in-Ok.path = Spells-path_of (codes "$") c.in-Ok.path c.in-Ok.ensures.path in
    cc
