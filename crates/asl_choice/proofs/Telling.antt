-- What a refusal tells of a fault that was met on the way.
use Rattle.std.proofs.Common.{◌≡◌, ℕ, List, [], ◌++◌, Option, Some, None, Result, Ok, subst, rules}
use Rattle.std.specs.Prelude.{IfSome}
use Rattle.std.specs.List.{Contains}
use Rattle.std.proofs.lemmas.List.Elements.{Contains-append_left, Contains-append_right}
use Rattle.asl_model.specs.Tree.{Tree}
use Rattle.asl_model.specs.Path.{Segment}
use Rattle.asl_model.specs.PathSpelling.{path_of, Spells}
use Rattle.asl_model.specs.Test.{as_text, Comparison, AtPath, Compare, StringMatches, Test}
use Rattle.asl_model.specs.RuleSpelling.{RuleFault, BadPath, BadPattern, Matching, WithPath, operator_test, fault_of, given_or, pattern_of}
use Rattle.asl_model.proofs.PathReading.{path_of-none}
use Rattle.asl_choice.specs.declared.refusal.RuleRefusal.{RuleRefusal}
use Rattle.asl_choice.specs.declared.refusal.RuleRefusal.TheVariants as refusal
use Rattle.asl_choice.specs.Refusal.{Tells, fault_named, missing}

-- along an equation
pub told_same : (e : RuleRefusal) (xs ys : List RuleFault) → Tells e xs → xs ≡ ys → Tells e ys
told_same e xs ys h same = subst (Tells e) same h

left : (named : Option RuleFault) (xs ys : List RuleFault) → IfSome named (Contains xs) → IfSome named (Contains (xs ++ ys))
left None xs ys h = h
left (Some f) xs ys h = Contains-append_left xs ys f h

right : (named : Option RuleFault) (xs ys : List RuleFault) → IfSome named (Contains ys) → IfSome named (Contains (xs ++ ys))
right None xs ys h = h
right (Some f) xs ys h = Contains-append_right xs ys f h

-- what is told of one of two lists is told of both
pub told_left : (e : RuleRefusal) (xs ys : List RuleFault) → Tells e xs → Tells e (xs ++ ys)
told_left e xs ys h = record { listed = left (fault_named e) xs ys h.listed }

pub told_right : (e : RuleRefusal) (xs ys : List RuleFault) → Tells e ys → Tells e (xs ++ ys)
told_right e xs ys h = record { listed = right (fault_named e) xs ys h.listed }

-- where something is missing, nothing more is read
behind_told : {A : Type 0} (e : RuleRefusal) (fault : RuleFault) (f : A → Result Test RuleFault) (o : Option A) → Tells e (missing fault o) → Tells e (fault_of (given_or fault f o))
behind_told e fault f None h = h
behind_told e fault f (Some a) h = told_left e [] (fault_of (f a)) h

-- behind an operator, a path that can't be read
pub operand_path_told : (e : RuleRefusal) (p : List Segment) (comparison : Comparison) (t : Tree) (s : List ℕ) → as_text t ≡ Some s → Tells e (missing BadPath (path_of s)) → Tells e (fault_of (operator_test p (WithPath comparison) t))
operand_path_told e p comparison t s is told = rw is (behind_told e BadPath (λ q. Ok (Compare p comparison (AtPath q))) (path_of s) told)

-- behind an operator, a pattern that can't be read
pub pattern_told : (e : RuleRefusal) (p : List Segment) (t : Tree) (s bytes : List ℕ) → as_text t ≡ Some s → bytes ≡ s → Tells e (missing BadPattern (pattern_of bytes)) → Tells e (fault_of (operator_test p Matching t))
pattern_told e p t s bytes is same told = rw (is, ← same) (behind_told e BadPattern (λ parts. Ok (StringMatches p parts)) (pattern_of bytes) told)

-- a text that spells no path is told so
pub path_told : (text : List ℕ) → ((p : List Segment) → Spells text p → ⊥) → Tells refusal.BadPath (missing BadPath (path_of text))
path_told text not = rw (path_of-none text not) (record { listed = search rules })
