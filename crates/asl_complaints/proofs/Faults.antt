-- Faults of a shape that are told, and rules that can be broken once at most.
use Rattle.std.proofs.Common.{◌≡◌, ◌≤◌, ℕ, zero, suc, List, [], ◌∷◌, length, map, Bool, true, false, Option, Some, None, Result, Ok, Err, OnOk, sym, ap, subst, arith}
use Rattle.std.specs.Prelude.{IfOk, IfErr, IfSome}
use Rattle.std.specs.List.{Contains}
use Rattle.asl_model.specs.ShapeSpelling.{ShapeFault, NotAShape, BadType, MinItems, unless, type_faults, faults_first, required_faults, extra_faults, min_items_faults}
use Rattle.asl_model.specs.Tree.{Tree, Null, Boolean, Integer, Text, Array, Object}
use Rattle.asl_shape.specs.Refusal.{Tells, fault_named}
use Rattle.asl_shape.specs.declared.ShapeRefusal.{ShapeRefusal}
use Rattle.asl_complaints.specs.Told.{IsSingle, IsTold, TellsFaults}
use Rattle.asl_complaints.proofs.Telling.{tells_none}

-- ---- one at most

none : {A : Type 0} → IsSingle {A = A} []
none = record { holds = omega arith }

one : {A : Type 0} (x : A) → IsSingle (x ∷ [])
one x = record { holds = omega arith }

single_unless : (right : Bool) (fault : ShapeFault) → IsSingle (unless right fault)
single_unless true fault = none
single_unless false fault = one fault

pub single_type : (t : Tree) → IsSingle (type_faults true t)
single_type Null = one NotAShape
single_type (Boolean b) = one NotAShape
single_type (Integer n) = one NotAShape
single_type (Text s) = single_unless _ BadType
single_type (Array ts) = single_unless _ BadType
single_type (Object fs) = one NotAShape

pub single_count : (o : Option Tree) (n : ℕ) → IsSingle (min_items_faults o n)
single_count None n = single_unless _ MinItems
single_count (Some Null) n = one NotAShape
single_count (Some (Boolean b)) n = one NotAShape
single_count (Some (Integer m)) n = single_unless _ MinItems
single_count (Some (Text s)) n = one NotAShape
single_count (Some (Array ts)) n = one NotAShape
single_count (Some (Object fs)) n = one NotAShape

pub single_required : (o : Option Tree) → IsSingle (required_faults o)
single_required None = none
single_required (Some Null) = one NotAShape
single_required (Some (Boolean b)) = one NotAShape
single_required (Some (Integer n)) = one NotAShape
single_required (Some (Text s)) = one NotAShape
single_required (Some (Array ts)) = single_unless _ NotAShape
single_required (Some (Object fs)) = one NotAShape

pub single_extra : (o : Option Tree) → IsSingle (extra_faults o)
single_extra None = none
single_extra (Some Null) = one NotAShape
single_extra (Some (Boolean b)) = none
single_extra (Some (Integer n)) = one NotAShape
single_extra (Some (Text s)) = one NotAShape
single_extra (Some (Array ts)) = one NotAShape
single_extra (Some (Object fs)) = one NotAShape

-- in a list of one at most what stands there is all
only : {A : Type 0} (xs : List A) (x : A) → length xs ≤ 1 → Contains xs x → xs ≡ x ∷ []
only [] x few (i, within, is) = absurd (omega (arith, within))
only (y ∷ []) x few (zero, within, is) = ap (λ z. z ∷ []) is
only (y ∷ []) x few (suc i, within, is) = absurd (omega (arith, within))
only (y ∷ (z ∷ zs)) x few h = absurd (omega (arith, few))

-- ---- what is told

-- the only fault there is
single_told : (before after : List ShapeRefusal) (e : ShapeRefusal) (faults : List ShapeFault) → IsTold before after (fault_named e) → Tells e faults → IsSingle faults → TellsFaults before after faults
single_told before after e faults told one_of single = by (fault_named e) told one_of.listed
  where
    by : (o : Option ShapeFault) → IsTold before after o → IfSome o (Contains faults) → TellsFaults before after faults
    by None t h = absurd t
    by (Some f) t h = subst (TellsFaults before after) (sym (only faults f single.holds h)) t

pub told_single : {E : Type 0} (result : Result (Unit {0}) E) (before after : List ShapeRefusal) (e : ShapeRefusal) (faults : List ShapeFault) → OnOk result (IsTold before after (fault_named e)) → Tells e faults → IsSingle faults → OnOk result (TellsFaults before after faults)
told_single (Ok nothing) before after e faults told one_of single = single_told before after e faults told one_of single
told_single (Err x) before after e faults told one_of single = tt

-- which is in front of others
first_told : (before after : List ShapeRefusal) (e : ShapeRefusal) (faults others : List ShapeFault) → IsTold before after (fault_named e) → Tells e faults → IsSingle faults → TellsFaults before after (faults_first faults others)
first_told before after e faults others told one_of single = by (fault_named e) told one_of.listed
  where
    by : (o : Option ShapeFault) → IsTold before after o → IfSome o (Contains faults) → TellsFaults before after (faults_first faults others)
    by None t h = absurd t
    by (Some f) t h = subst (λ fs. TellsFaults before after (faults_first fs others)) (sym (only faults f single.holds h)) t

pub told_first : {E : Type 0} (result : Result (Unit {0}) E) (before after : List ShapeRefusal) (e : ShapeRefusal) (faults others : List ShapeFault) → OnOk result (IsTold before after (fault_named e)) → Tells e faults → IsSingle faults → OnOk result (TellsFaults before after (faults_first faults others))
told_first (Ok nothing) before after e faults others told one_of single = first_told before after e faults others told one_of single
told_first (Err x) before after e faults others told one_of single = tt

-- what a check refuses
pub refused_told : {E T : Type 0} (result : Result (Unit {0}) E) (before after : List ShapeRefusal) (checked : Result T ShapeRefusal) (e : ShapeRefusal) → checked ≡ Err e → OnOk result (IsTold before after (fault_named e))
    → OnOk result ((faults : List ShapeFault) → IfOk checked (λ _. faults ≡ []) → IfErr checked (λ e. Tells e faults) → IsSingle faults → TellsFaults before after faults)
refused_told (Ok nothing) before after checked e is told = λ faults right refused single. single_told before after e faults told (subst (λ r. IfErr r (λ e. Tells e faults)) is refused) single
refused_told (Err x) before after checked e is told = tt

pub right_told : {T : Type 0} (told : List ShapeRefusal) (checked : Result T ShapeRefusal) (x : T) → checked ≡ Ok x
    → (faults : List ShapeFault) → IfOk checked (λ _. faults ≡ []) → IfErr checked (λ e. Tells e faults) → IsSingle faults → TellsFaults told told faults
right_told told checked x is = λ faults right refused single. subst (TellsFaults told told) (sym (subst (λ r. IfOk r (λ _. faults ≡ [])) is right)) (tells_none (map fault_named told))

-- for those faults
pub told_of : {E T : Type 0} (result : Result (Unit {0}) E) (before after : List ShapeRefusal) (checked : Result T ShapeRefusal) (faults : List ShapeFault)
    → OnOk result ((faults : List ShapeFault) → IfOk checked (λ _. faults ≡ []) → IfErr checked (λ e. Tells e faults) → IsSingle faults → TellsFaults before after faults)
    → IfOk checked (λ _. faults ≡ []) → IfErr checked (λ e. Tells e faults) → IsSingle faults → OnOk result (TellsFaults before after faults)
told_of (Ok nothing) before after checked faults told right refused single = told faults right refused single
told_of (Err x) before after checked faults told right refused single = tt
