-- What checks and readings answer one after another.
use Rattle.std.proofs.Common.{◌≡◌, List, [], ◌∷◌, ◌++◌, map, Option, Some, None, Result, Ok, Err, refl, sym, ap, ◌∙◌, subst, ◌⊎◌, inl, inr}
use Rattle.std.specs.Prelude.{IfOk, IfErr, OnOk}
use Rattle.std.specs.Result.{IsErrAnd}
use Rattle.std.specs.List.{Contains}
use Rattle.std.proofs.lemmas.Result.{err_from_is_err_and}
use Rattle.std.proofs.lemmas.List.Elements.{Contains-append_right, Contains-append_cases}
use Rattle.asl_fields.specs.Verdicts.{IsAmong, IsAnswer}
pub use Rattle.asl_fields.proofs.Checks.{among_first, handed_on, left_after, told_first, told_of_left}

pub among_second : {F : Type 0} (xs ys : List F) (o : Option F) → IsAmong ys o → IsAmong (xs ++ ys) o
among_second xs ys None h = tt
among_second xs ys (Some f) h = Contains-append_right xs ys f h

-- what stands in two lists stands in one of them
pub among_either : {F : Type 0} (xs ys zs : List F) (o : Option F) → IsAmong (xs ++ ys) o → (IsAmong xs o → IsAmong zs o) → (IsAmong ys o → IsAmong zs o) → IsAmong zs o
among_either xs ys zs None h first second = tt
among_either xs ys zs (Some f) h first second = by (Contains-append_cases xs ys f h)
  where
    by : Contains xs f ⊎ Contains ys f → Contains zs f
    by (inl g) = first g
    by (inr g) = second g

-- what holds of any error that was returned holds of the answer
pub handed_error : {B E : Type 0} (r : Result B E) (e : E) (P : E → Type 0) → IsErrAnd r (λ y. y ≡ e) → P e → IfErr r P
handed_error r e P h told = let p = err_from_is_err_and r h in rw (p.1, p.2) told

-- what was built is what is returned
pub built_as : {B E : Type 0} (P : B → Type 0) (r : Result B E) (b : B) → r ≡ Ok b → IfOk r P → P b
built_as P r b is h = subst (λ x. IfOk x P) is h

pub built_on : {B E F : Type 0} (P : Type 0) (r : Result B E) (built : Result B F) → IfOk r (λ b. built ≡ Ok b) → OnOk built P → OnOk r P
built_on P (Ok b) built is h = subst (λ x. OnOk x P) is h
built_on P (Err e) built is h = tt

-- what holds of all on success holds of one
pub all_on : {B E X : Type 0} (Y Z : X → Type 0) (r : Result B E) (x : X) → OnOk r ((y : X) → Y y → Z y) → Y x → OnOk r (Z x)
all_on Y Z (Ok b) x h y = h x y
all_on Y Z (Err e) x h y = tt

-- want of memory is told of anything
told_without_memory : {A E F : Type 0} {shown : E → Option F} (wrong : List F) (e : E) → shown e ≡ None → IsAnswer {A = A} shown wrong (Err e)
told_without_memory {shown = shown} wrong e none = record { holds = subst (λ o. IsAmong wrong o) (sym none) tt }

-- after an answer that finds nothing only want of memory can be told
pub told_but_memory : {A B E F : Type 0} {shown : E → Option F} (wrong : List F) (r : Result B E) {read : A} → IsAnswer shown wrong (Ok read) → IfErr r (λ e. shown e ≡ None) → IsAnswer shown wrong r
told_but_memory wrong (Ok b) g h = record { holds = g.holds }
told_but_memory wrong (Err e) g h = told_without_memory wrong e h

-- after an answer that finds nothing the next answers for both
pub told_next : {A B E F : Type 0} {shown : E → Option F} (xs ys : List F) (result : Result B E) {read : A} → IsAnswer shown xs (Ok read) → IsAnswer shown ys result → IsAnswer shown (xs ++ ys) result
told_next xs ys (Ok last) g h = record { holds = ap (λ zs. zs ++ ys) g.holds ∙ h.holds }
told_next {shown = shown} xs ys (Err e) g h = record { holds = among_second xs ys (shown e) h.holds }

-- where both together are empty each of them is
pub first_none : {A : Type 0} (xs ys : List A) → xs ++ ys ≡ [] → xs ≡ []
first_none [] ys e = refl
first_none (x ∷ xs) ys e = absurd (cc)

pub second_none : {A : Type 0} (xs ys : List A) → xs ++ ys ≡ [] → ys ≡ []
second_none [] ys e = e
second_none (x ∷ xs) ys e = absurd (cc)

pub unmapped_none : {A B : Type 0} (f : A → B) (xs : List A) → map f xs ≡ [] → xs ≡ []
unmapped_none f [] e = refl
unmapped_none f (x ∷ xs) e = absurd (cc)
