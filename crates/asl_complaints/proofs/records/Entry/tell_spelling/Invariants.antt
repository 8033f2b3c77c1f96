use Rattle.std.proofs.Common.{map, true}
use Rattle.asl_model.specs.ShapeSpelling as model
use Rattle.asl_tree.specs.View.{view}
use Rattle.asl_records.specs.View.{complaint_view}
use Rattle.asl_complaints.proofs.Parts.{FaultsLeft}
use Rattle.asl_complaints.proofs.records.Entry.tell_spelling.Given as goal

abbrev pub invariant-loop-fault : goal.invariant-loop-fault
invariant-loop-fault l =
    FaultsLeft l.fault-iterator.rest.items (model.shape_faults true (view l.tree)) (map complaint_view l.initial.told.items) (map complaint_view l.told.items) l.self.name.now l.field
