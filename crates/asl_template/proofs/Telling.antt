-- What a refusal tells of one of two lists of faults, it tells of both.
use Rattle.std.proofs.Common.{◌≡◌, ℕ, List, ◌++◌, Bool, Option, Some, None, subst, rules}
use Rattle.std.specs.Prelude.{IfSome}
use Rattle.std.specs.List.{Contains}
use Rattle.std.proofs.lemmas.List.Elements.{Contains-append_left, Contains-append_right}
use Rattle.asl_model.specs.CallSpelling.{CallFault, call_from}
use Rattle.asl_model.specs.CallGrammar.{IsRefusedCall}
use Rattle.asl_model.specs.TemplateSpelling.{TemplateFault, unless_call}
use Rattle.asl_model.proofs.CallMeaning.{refusal_exactly}
use Rattle.asl_template.specs.Refusal.{Tells, fault_named}
use Rattle.asl_template.specs.declared.refusal.SpellingRefusal.{SpellingRefusal}
use Rattle.asl_template.specs.declared.refusal.SpellingRefusal.TheVariants.{BadIntrinsic}

-- in the first list
left : (named : Option TemplateFault) (xs ys : List TemplateFault) → IfSome named (Contains xs) → IfSome named (Contains (xs ++ ys))
left None xs ys h = h
left (Some f) xs ys h = Contains-append_left xs ys f h

-- in the second
right : (named : Option TemplateFault) (xs ys : List TemplateFault) → IfSome named (Contains ys) → IfSome named (Contains (xs ++ ys))
right None xs ys h = h
right (Some f) xs ys h = Contains-append_right xs ys f h

-- so for a refusal
pub told_left : (e : SpellingRefusal) (xs ys : List TemplateFault) → Tells e xs → Tells e (xs ++ ys)
told_left e xs ys h = record { listed = left (fault_named e) xs ys h.listed }

-- and there
pub told_right : (e : SpellingRefusal) (xs ys : List TemplateFault) → Tells e ys → Tells e (xs ++ ys)
told_right e xs ys h = record { listed = right (fault_named e) xs ys h.listed }

-- along an equation of the faults
pub told_same : (e : SpellingRefusal) (xs ys : List TemplateFault) → Tells e xs → xs ≡ ys → Tells e ys
told_same e xs ys h same = subst (Tells e) same h

-- a text that is refused as a call
pub call_told : (item : Bool) (text : List ℕ) (f : CallFault) → IsRefusedCall item text f → Tells BadIntrinsic (unless_call (call_from item text))
call_told item text f h = rw ((refusal_exactly item text f).1 h) (record { listed = search rules })
