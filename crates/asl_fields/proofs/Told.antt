-- Complaints that are told one after another.
use Rattle.std.proofs.Common.{◌≡◌, ◌≤◌, zero, suc, ℕ, true, false, option_map, rules, List, [], ◌∷◌, ◌++◌, length, map, Option, Some, None, Result, Ok, Err, OnOk, refl, sym, ap, ◌∙◌, subst, append-nil, append_assoc, arith}
use Rattle.std.specs.List.{Contains}
use Rattle.std.proofs.lemmas.List.{map-append}
use Rattle.asl_model.specs.DefinitionTable as model
use Rattle.asl_model.specs.StandsFor.{Complaint, Place, complaint_at}
use Rattle.asl_fields.specs.declared.places.Complaint.{Complaint as Objection}
use Rattle.asl_fields.specs.Verdicts.{IsAmong, IsVerdict, complaint_view, told_unless}
use Rattle.asl_fields.specs.Telling.{IsSingle, IsTold, Tells, Told}

-- ---- lists of complaints

-- nothing is told
pub tells_none : (told : List (Option Complaint)) → Tells told told []
tells_none told = record { holds = sym (append-nil told) }

-- some, and then others
pub tells_then : {a b c : List (Option Complaint)} {xs ys : List Complaint} → Tells a b xs → Tells b c ys → Tells a c (xs ++ ys)
tells_then {a} {b} {c} {xs} {ys} first second =
    record { holds = second.holds ∙ ap (λ told. told ++ map Some ys) first.holds ∙ append_assoc a (map Some xs) (map Some ys) ∙ ap (λ more. a ++ more) (sym (map-append Some xs ys)) }

-- ---- what is left to be told

-- what was told and what is left are all
pub record TellsOf (before after : List (Option Complaint)) (all left : List Complaint) : Type 0 where
  pub holds : after ++ map Some left ≡ before ++ map Some all

pub all_left : (told : List (Option Complaint)) (all : List Complaint) → TellsOf told told all all
all_left told all = record { holds = refl }

pub less_left : {a b c : List (Option Complaint)} {all left xs more : List Complaint} → TellsOf a b all left → left ≡ xs ++ more → Tells b c xs → TellsOf a c all more
less_left {a} {b} {c} {all} {left} {xs} {more} so_far parted next =
    record { holds = ap (λ told. told ++ map Some more) next.holds ∙ append_assoc b (map Some xs) (map Some more) ∙ ap (λ rest. b ++ rest) (sym (map-append Some xs more)) ∙ ap (λ rest. b ++ map Some rest) (sym parted) ∙ so_far.holds }

pub none_left : {a b : List (Option Complaint)} {all left : List Complaint} → TellsOf a b all left → left ≡ [] → Tells a b all
none_left {a} {b} {all} {left} so_far done =
    record { holds = sym (append-nil b) ∙ ap (λ rest. b ++ map Some rest) (sym done) ∙ so_far.holds }

-- ---- what is found

-- in a list of one at most what stands there is all
only : {A : Type 0} (xs : List A) (x : A) → length xs ≤ 1 → Contains xs x → xs ≡ x ∷ []
only [] x few (i, within, is) = absurd (omega (arith, within))
only (y ∷ []) x few (zero, within, is) = ap (λ z. z ∷ []) is
only (y ∷ []) x few (suc i, within, is) = absurd (omega (arith, within))
only (y ∷ (z ∷ zs)) x few h = absurd (omega (arith, few))

-- where nothing is found
pub found_none : {A : Type 0} (told : List Objection) (wrong : List Complaint) (a : A) → IsVerdict wrong (Ok a) → Told told told wrong
found_none told wrong a h = subst (λ xs. Told told told xs) (sym h.holds) (tells_none (map complaint_view told))

-- where something is, that is told
pub found_told : {A : Type 0} (before after : List Objection) (wrong : List Complaint) (c : Objection) → IsTold before after (complaint_view c) → IsVerdict {A = A} wrong (Err c) → IsSingle wrong → Told before after wrong
found_told before after wrong c told h single = by (complaint_view c) told h.holds
  where
    by : (o : Option Complaint) → IsTold before after o → IsAmong wrong o → Told before after wrong
    by None t among = absurd t
    by (Some x) t among = subst (λ xs. Told before after xs) (sym (only wrong x single.holds among)) t

-- ---- what a call tells

-- a complaint that is told where one was found
pub told_where_found : {E : Type 0} (result : Result (Unit {0}) E) (before after : List Objection) (found : Result (Unit {0}) Objection) (c : Objection) → found ≡ Err c → OnOk result (IsTold before after (complaint_view c))
    → OnOk result ((wrong : List Complaint) → IsVerdict wrong found → IsSingle wrong → Told before after wrong)
told_where_found (Ok nothing) before after found c is h = λ wrong verdict single. found_told before after wrong c h (subst (λ r. IsVerdict wrong r) is verdict) single
told_where_found (Err e) before after found c is h = tt

single_mapped : {A B : Type 0} (f : A → B) (xs : List A) → IsSingle xs → IsSingle (map f xs)
single_mapped f [] h = record { holds = omega arith }
single_mapped f (x ∷ []) h = record { holds = omega arith }
single_mapped f (x ∷ (y ∷ xs)) h = absurd (omega (arith, h.holds))

-- what is found with a value, told of its field
pub fault_told : {E : Type 0} (result : Result (Unit {0}) E) (before after : List Objection) (found : Result (Unit {0}) Objection) (P : List model.DefFault → Type 0) (f : model.DefFault → Complaint) → OnOk result ((wrong : List Complaint) → IsVerdict wrong found → IsSingle wrong → Told before after wrong)
    → ((faults : List model.DefFault) → P faults → IsVerdict (map f faults) found) → OnOk result ((faults : List model.DefFault) → P faults → IsSingle faults → Told before after (map f faults))
fault_told (Ok nothing) before after found P f h told = λ faults is single. h (map f faults) (told faults is) (single_mapped f faults single)
fault_told (Err e) before after found P f h told = tt

-- the same under another name
pub tells_as : {a b : List (Option Complaint)} {xs ys : List Complaint} → xs ≡ ys → Tells a b xs → Tells a b ys
tells_as {a} {b} e h = subst (λ zs. Tells a b zs) e h

-- ---- one fault, unless a test holds

pub told_right : (place : Place) (field : List ℕ) (fault : Option model.DefFault) → told_unless true place field fault ≡ []
told_right place field None = refl
told_right place field (Some f) = refl

pub told_wrong : (place : Place) (field : List ℕ) (fault : Option model.DefFault) (told : Option Complaint) → told ≡ option_map (complaint_at place field) fault → IsAmong (told_unless false place field fault) told
told_wrong place field None told is = subst (IsAmong []) (sym is) tt
told_wrong place field (Some f) told is = subst (IsAmong (complaint_at place field f ∷ [])) (sym is) (search rules)
