use Rattle.std.proofs.Common.{subst, sym}
use Rattle.asl_fields.specs.Verdicts.{IsAmong, complaint_view, place_view, told_unless}
use Rattle.asl_fields.specs.View.{def_fault_view}
use Rattle.asl_fields.proofs.Told.{told_right, told_wrong}
use Rattle.asl_fields.proofs.places.Place.complain_unless.Goals as goal

pub returns-then-right : goal.returns-then-right
returns-then-right c = rw c.if-right.true (record { holds = told_right (place_view c.args.self.now) c.args.field.now (def_fault_view c.args.fault) })

pub returns-else-right : goal.returns-else-right
returns-else-right c = rw c.if-right.false (record { holds = told_wrong (place_view c.args.self.now) c.args.field.now (def_fault_view c.args.fault) (complaint_view c.complaint.result) c.complaint.ensures.seen })
