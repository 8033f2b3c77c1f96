-- What a refusal tells, and that what it tells of some complaints, it tells of more.
use Rattle.std.proofs.Common.{◌≡◌, ℕ, List, [], ◌∷◌, ◌++◌, Some, option_map, Result, IfErr, String, Global, string_bytes, refl, zero, suc, ap, subst, ◌∙◌, lit<, arith}
use Rattle.std.specs.List.{Contains}
use Rattle.std.specs.Result.{IsErrAnd}
use Rattle.std.proofs.lemmas.Result.{err_from_is_err_and}
use Rattle.std.proofs.lemmas.List.Elements.{Contains-append_left, Contains-append_right}
use Rattle.asl_model.specs.Records.{RecordComplaint, RecordFault}
use Rattle.asl_records.specs.View.{record_fault_view}
use Rattle.asl_records.specs.Parts.{Blames, TellsOneOf, complaint_of}
use Rattle.asl_records.specs.declared.refusals.ReadFault.{ReadFault}
use Rattle.asl_records.specs.declared.refusals.ReadFault.TheVariants as kept
use Rattle.asl_records.specs.declared.refusals.RecordFault.{RecordFault as Fault}

-- where every complaint of one list is one of another
blamed : (f : ReadFault) (xs ys : List RecordComplaint) → ((c : RecordComplaint) → Contains xs c → Contains ys c) → Blames xs f → Blames ys f
blamed (kept.Record refusal) xs ys all h = (h.0, h.1, all h.0 h.2)
blamed kept.OutOfMemory xs ys all h = h

pub only : (x c : RecordComplaint) → Contains (x ∷ []) c → x ≡ c
only x c (zero, h, e) = e
only x c (suc k, h, e) = absurd (omega arith)

pub told_all : (f : ReadFault) (xs ys : List RecordComplaint) → ((c : RecordComplaint) → Contains xs c → Contains ys c) → TellsOneOf xs f → TellsOneOf ys f
told_all f xs ys all h = record { told = blamed f xs ys all h.told }

-- a single complaint that stands among others
pub told_within : (f : ReadFault) (x : RecordComplaint) (ys : List RecordComplaint) → TellsOneOf (x ∷ []) f → Contains ys x → TellsOneOf ys f
told_within f x ys h there = record { told = blamed f (x ∷ []) ys (λ c h. subst (Contains ys) (only x c h) there) h.told }

pub told_left : (f : ReadFault) (xs ys : List RecordComplaint) → TellsOneOf xs f → TellsOneOf (xs ++ ys) f
told_left f xs ys h = record { told = blamed f xs (xs ++ ys) (λ c. Contains-append_left xs ys c) h.told }

pub told_right : (f : ReadFault) (xs ys : List RecordComplaint) → TellsOneOf ys f → TellsOneOf (xs ++ ys) f
told_right f xs ys h = record { told = blamed f ys (xs ++ ys) (λ c. Contains-append_right xs ys c) h.told }

pub told_same : (f : ReadFault) (xs ys : List RecordComplaint) → TellsOneOf xs f → xs ≡ ys → TellsOneOf ys f
told_same f xs ys h same = subst (λ zs. TellsOneOf zs f) same h

-- a refusal with a fault at a name and a field tells their complaint
pub recorded : (fault : Fault) (f : RecordFault) (name field : String Global) (n d : List ℕ) → record_fault_view fault ≡ Some f → string_bytes name ≡ n → string_bytes field ≡ d
    → TellsOneOf (complaint_of n d f ∷ []) (kept.Record (record { fault = fault; name = name; field = field }))
recorded fault f name field n d shown named at =
    record { told = (complaint_of n d f, ap (option_map (complaint_of (string_bytes name) (string_bytes field))) shown ∙ (rw (named, at) refl), (0, lit< tt, refl)) }

-- what a call is left with is what the one that it calls was refused with
pub handed_on : {T : Type 0} (r : Result T ReadFault) (e : ReadFault) (P : ReadFault → Type 0) → IsErrAnd r (λ y. y ≡ e) → P e → IfErr r P
handed_on r e P h told = let p = err_from_is_err_and r h in rw (p.1, p.2) told
