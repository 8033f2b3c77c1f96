use Rattle.asl_model.specs.StandsFor.{complaint_at}
use Rattle.asl_fields.specs.View.{def_fault_view}
use Rattle.std.proofs.Common.{rules}
use Rattle.asl_fields.specs.Verdicts.{place_view}
use Rattle.asl_fields.proofs.Checks.{among_mapped}
use Rattle.asl_fields.proofs.places.Place.complaint.Goals as goal

pub returns-clause-among : goal.returns-clause-among
returns-clause-among c faults h = among_mapped (complaint_at (place_view c.args.self.now) c.args.field.now) faults (def_fault_view c.args.fault) _ h (search rules)
