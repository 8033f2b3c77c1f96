-- What an option or an answer that is equal to a value holds.
use Rattle.std.proofs.Common.{◌≡◌, refl, true, false, Option, Some, None, Result, Ok, Err, is_some, IsTrue}

-- equal values, where they are there
pub some_inj : {A : Type 0} {a b : A} → Some a ≡ Some b → a ≡ b
some_inj h = cc

-- nothing is there, so not this
pub none_some : {A B : Type 0} {a : A} → None ≡ Some a → B
none_some h = absurd (cc)

-- something is there
pub some_there : {A : Type 0} (o : Option A) → IsTrue (is_some o) → (a : A) × (o ≡ Some a)
some_there None h = absurd (cc)
some_there (Some a) h = (a, refl)

pub there_some : {A : Type 0} (o : Option A) {a : A} → o ≡ Some a → IsTrue (is_some o)
there_some None h = none_some h
there_some (Some b) h = refl

-- a fact that is none
pub false_true : {B : Type 0} → false ≡ true → B
false_true h = absurd (cc)

-- equal answers
pub same_ok : {A E : Type 0} {a b : A} → ◌≡◌ {A = Result A E} (Ok a) (Ok b) → a ≡ b
same_ok h = cc

-- equal refusals
pub same_err : {A E : Type 0} {e f : E} → ◌≡◌ {A = Result A E} (Err e) (Err f) → e ≡ f
same_err h = cc

-- an answer is no refusal
pub ok_or_err : {A E B : Type 0} {a : A} {e : E} → ◌≡◌ {A = Result A E} (Ok a) (Err e) → B
ok_or_err h = absurd (cc)
