-- What stands in lists of complaints.
use Rattle.std.proofs.Common.{suc, List, ◌∷◌, refl, arith}
use Rattle.std.specs.List.{Contains}
use Rattle.asl_model.specs.StandsFor.{Complaint}

pub here : (c : Complaint) (xs : List Complaint) → Contains (c ∷ xs) c
here c xs = (0, omega arith, refl)

pub further : (x c : Complaint) (xs : List Complaint) → Contains xs c → Contains (x ∷ xs) c
further x c xs h = (suc h.0, omega arith, h.2)
