-- What an answer of a reader says about its steps.
use Rattle.std.proofs.Common.{◌≡◌, Bool, true, false, Option, Some, None, if◌then◌else◌, option_map, option_and_then, refl, sym, ◌∙◌}
use Rattle.std.proofs.lemmas.Option.{none-some, same_Some}

pub taken_if : {A : Type 0} (c : Bool) (x : Option A) (y : A) → (if c then x else None) ≡ Some y → (c ≡ true) × (x ≡ Some y)
taken_if true x y h = (refl, h)
taken_if false x y h = absurd (none-some y h)

pub taken_unless : {A : Type 0} (c : Bool) (x : Option A) (y : A) → (if c then None else x) ≡ Some y → (c ≡ false) × (x ≡ Some y)
taken_unless true x y h = absurd (none-some y h)
taken_unless false x y h = (refl, h)

pub then_from : {A B : Type 0} (f : A → Option B) (o : Option A) (y : B) → option_and_then f o ≡ Some y → (x : A) × (o ≡ Some x) × (f x ≡ Some y)
then_from f None y h = absurd (none-some y h)
then_from f (Some x) y h = (x, refl, h)

pub map_from : {A B : Type 0} (f : A → B) (o : Option A) (y : B) → option_map f o ≡ Some y → (x : A) × (o ≡ Some x) × (f x ≡ y)
map_from f None y h = absurd (none-some y h)
map_from f (Some x) y h = (x, refl, same_Some (f x) y h)

-- a reader that is a function reads at most one value
pub one_value : {A : Type 0} {o : Option A} (x y : A) → o ≡ Some x → o ≡ Some y → x ≡ y
one_value x y p q = same_Some x y (sym p ∙ q)
