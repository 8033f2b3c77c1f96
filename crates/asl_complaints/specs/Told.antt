-- What is told behind what was told before.
use Rattle.std.specs.Prelude.{◌≡◌, ◌≤◌, List, [], ◌∷◌, ◌++◌, length, map, Option, Some, None}
use Rattle.asl_model.specs.ShapeSpelling.{ShapeFault}
use Rattle.asl_model.specs.Records.{RecordComplaint}
use Rattle.asl_records.specs.View.{complaint_view}
use Rattle.asl_records.specs.declared.refusals.RecordRefusal.{RecordRefusal}
use Rattle.asl_shape.specs.Refusal.{fault_named}
use Rattle.asl_shape.specs.declared.ShapeRefusal.{ShapeRefusal}

-- those were told, in their order, and nothing else
pub record Tells {A : Type 0} (before after : List (Option A)) (wrong : List A) : Type 0 where
  pub holds : after ≡ before ++ map Some wrong

-- those faults of a shape were
abbrev pub TellsFaults : List ShapeRefusal → List ShapeRefusal → List ShapeFault → Type 0
TellsFaults before after wrong = Tells (map fault_named before) (map fault_named after) wrong

-- those complaints about declared shapes were
abbrev pub TellsComplaints : List RecordRefusal → List RecordRefusal → List RecordComplaint → Type 0
TellsComplaints before after wrong = Tells (map complaint_view before) (map complaint_view after) wrong

-- that fault was told; want of memory is none
abbrev pub IsTold : List ShapeRefusal → List ShapeRefusal → Option ShapeFault → Type 0
IsTold before after None = ⊥
IsTold before after (Some f) = TellsFaults before after (f ∷ [])

-- there is at most one
pub record IsSingle {A : Type 0} (wrong : List A) : Type 0 where
  pub holds : length wrong ≤ 1
