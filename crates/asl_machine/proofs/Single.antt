-- Rules that can be broken once at most.
use Rattle.std.proofs.Common.{ℕ, List, [], ◌∷◌, Bool, true, false, Option, Some, None, if◌then◌else◌}
use Rattle.asl_model.specs.DefinitionTable as model
use Rattle.asl_model.specs.StandsFor.{Place, complain_unless, complaint_at, target_complaints, one_of_complaints, unknown_type}
use Rattle.asl_fields.specs.Telling.{IsSingle}
use Rattle.asl_fields.proofs.Single.{none, one}

-- ---- rules on several fields

-- one complaint, or none
pub single_if : {A : Type 0} (right : Bool) (c : A) → IsSingle (if right then [] else c ∷ [])
single_if true c = none
single_if false c = one c

pub single_unless : (right : Bool) (place : Place) (field : List ℕ) (fault : model.DefFault) → IsSingle (complain_unless right place field fault)
single_unless true place field fault = none
single_unless false place field fault = one (complaint_at place field fault)

pub single_target : (place : Place) (names : List (List ℕ)) (field : List ℕ) (target : Option (List ℕ)) → IsSingle (target_complaints place names field target)
single_target place names field None = none
single_target place names field (Some n) = single_unless _ place field model.NoSuchState

pub single_one_of : (place : Place) (first : List ℕ) (given : List (List ℕ)) → IsSingle (one_of_complaints place first given)
single_one_of place first [] = one _
single_one_of place first (n ∷ []) = none
single_one_of place first (n ∷ (m ∷ ns)) = one _

pub single_type : (place : Place) (type : Option (List ℕ)) → IsSingle (unknown_type place type)
single_type place None = none
single_type place (Some s) = single_unless _ place _ model.UnknownType
