use Rattle.std.proofs.Common.{◌≡◌, Some, None, refl, arith}
use Rattle.asl_model.specs.PathSpelling.{path_of}
use Rattle.asl_model.proofs.PathReading.{Spells-path_of, path_of-none}
use Rattle.asl_fields.proofs.fields.parse_path.Goals as goal

pub returns-in-Ok-clause-path : goal.returns-in-Ok-clause-path
returns-in-Ok-clause-path c = Spells-path_of c.args.text.now c.in-Ok.path c.in-Ok.ensures.path

pub returns-in-Ok-clause-faults : goal.returns-in-Ok-clause-faults
returns-in-Ok-clause-faults c =
    let read : path_of c.args.text.now ≡ Some c.in-Ok.path = Spells-path_of c.args.text.now c.in-Ok.path c.in-Ok.ensures.path in
    record { holds = rw read refl }

pub returns-in_default-clause-faults : goal.returns-in_default-clause-faults
returns-in_default-clause-faults c =
    let none : path_of c.args.text.now ≡ None = path_of-none c.args.text.now (λ p s. c.in_default.not-OutOfMemory (c.in-Err.ensures.every_path p s)) in
    record { holds = rw none (0, omega arith, refl) }
