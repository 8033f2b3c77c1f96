use Rattle.std.proofs.Common.{◌≡◌, Err, rules}
use Rattle.asl_numbered.specs.Expansion.{shape_at}
use Rattle.asl_shape_paths.specs.declared.looking.LookRefusal.TheVariants.{OutOfMemory}
use Rattle.asl_shape_paths.proofs.FoundPaths.{never_refused}
use Rattle.asl_shape_paths.proofs.looking.look_at.Goals as goal

pub returns-in_err-part-clause-may_be_missing : goal.returns-in_err-part-clause-may_be_missing
returns-in_err-part-clause-may_be_missing c =
    let refused : c.from_residual.result ≡ Err OutOfMemory = search rules in
    λ at. (λ e. absurd (cc), λ e. absurd (never_refused c.args.path.now (shape_at c.args.shapes.now c.args.number) at c.in_err-part.ensures.refused e))
