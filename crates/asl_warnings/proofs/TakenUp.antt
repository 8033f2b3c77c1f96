-- Errors that are taken by elements one after the other.
use Rattle.std.proofs.Common.{◌≡◌, ◌<◌, ◌+◌, ◌⊎◌, inl, inr, ℕ, List, [], ◌∷◌, ◌++◌, length, Bool, true, false, ◌||◌, bytes_eq, codes, String, string_bytes, map, take, get_or, add-one, refl, sym, ap, ◌∙◌, subst}
use Rattle.std.specs.declared.alloc.Global.{Global}
use Rattle.std.proofs.lemmas.Bool.{false≢true}
use Rattle.asl_model.specs.Names.{ErrorName}
use Rattle.asl_model.specs.Run.{takes_error}
use Rattle.asl_shape.proofs.Naming.{IsWith}
use Rattle.asl_warnings.specs.Coming.{is_taken, DoesNotCome, NoneComes, TakesUp}
use Rattle.asl_warnings.specs.Taken.{has_name, may_raise}
use Rattle.asl_warnings.specs.declared.errors.Coming.{Coming}
use Rattle.asl_warnings.proofs.Added.{or-right, taken}

-- ---- names of several elements

takes-left : (e : ErrorName) (xs ys : List ErrorName) → takes_error e xs ≡ true → takes_error e (xs ++ ys) ≡ true
takes-left e [] ys is = absurd (false≢true is)
takes-left e (x ∷ xs) ys is = by (bytes_eq x e || bytes_eq x (codes "States.ALL")) refl is (takes-left e xs ys)
  where
    by : (b : Bool) → (bytes_eq x e || bytes_eq x (codes "States.ALL")) ≡ b → (b || takes_error e xs) ≡ true → (takes_error e xs ≡ true → takes_error e (xs ++ ys) ≡ true) → ((bytes_eq x e || bytes_eq x (codes "States.ALL")) || takes_error e (xs ++ ys)) ≡ true
    by true here is later = ap (λ b. b || takes_error e (xs ++ ys)) here
    by false here is later = or-right (bytes_eq x e || bytes_eq x (codes "States.ALL")) (later is)

takes-right : (e : ErrorName) (xs ys : List ErrorName) → takes_error e ys ≡ true → takes_error e (xs ++ ys) ≡ true
takes-right e [] ys is = is
takes-right e (x ∷ xs) ys is = or-right (bytes_eq x e || bytes_eq x (codes "States.ALL")) (takes-right e xs ys is)

takes-split : (e : ErrorName) (xs ys : List ErrorName) → takes_error e (xs ++ ys) ≡ true → (takes_error e xs ≡ true) ⊎ (takes_error e ys ≡ true)
takes-split e [] ys is = inr is
takes-split e (x ∷ xs) ys is = by (bytes_eq x e || bytes_eq x (codes "States.ALL")) refl is (takes-split e xs ys)
  where
    later_too : (takes_error e xs ≡ true) ⊎ (takes_error e ys ≡ true) → (takes_error e (x ∷ xs) ≡ true) ⊎ (takes_error e ys ≡ true)
    later_too (inl is) = inl (or-right (bytes_eq x e || bytes_eq x (codes "States.ALL")) is)
    later_too (inr is) = inr is

    by : (b : Bool) → (bytes_eq x e || bytes_eq x (codes "States.ALL")) ≡ b → (b || takes_error e (xs ++ ys)) ≡ true → (takes_error e (xs ++ ys) ≡ true → (takes_error e xs ≡ true) ⊎ (takes_error e ys ≡ true)) → (takes_error e (x ∷ xs) ≡ true) ⊎ (takes_error e ys ≡ true)
    by true here is later = inl (ap (λ b. b || takes_error e xs) here)
    by false here is later = later_too (later is)

-- ---- one name more

pub takes-one : (old new : Coming) (name : ErrorName) → new.raised ≡ old.raised → new.all ≡ old.all → IsWith old.named.keys new.named.keys name → TakesUp old new (name ∷ [])
takes-one old new name raised all with = record { raised = raised; only = λ e is. by e old.all (bytes_eq name e) (has_name old.named.keys e) refl refl refl (sym (whole e) ∙ is) }
  where
    whole : (e : ErrorName) → is_taken new e ≡ (old.all || (bytes_eq name e || has_name old.named.keys e))
    whole e = ap (λ a. a || has_name new.named.keys e) all ∙ ap (λ h. old.all || h) (with e)

    by : (e : ErrorName) (a b h : Bool) → old.all ≡ a → bytes_eq name e ≡ b → has_name old.named.keys e ≡ h → (a || (b || h)) ≡ true → (is_taken old e ≡ true) ⊎ (takes_error e (name ∷ []) ≡ true)
    by e true b h ea eb eh is = inl (ap (λ x. x || has_name old.named.keys e) ea)
    by e false true h ea eb eh is = inr (ap (λ x. (x || bytes_eq name (codes "States.ALL")) || false) eb)
    by e false false true ea eb eh is = inl (or-right old.all eh)
    by e false false false ea eb eh is = absurd (false≢true is)

pub takes-none : (a : Coming) → TakesUp a a []
takes-none a = record { raised = refl; only = λ e is. inl is }

takes-both : (a b c : Coming) (xs ys : List ErrorName) → TakesUp a b xs → TakesUp b c ys → TakesUp a c (xs ++ ys)
takes-both a b c xs ys first second = record { raised = second.raised ∙ first.raised; only = λ e is. by e (second.only e is) }
  where
    sooner : (e : ErrorName) → (is_taken a e ≡ true) ⊎ (takes_error e xs ≡ true) → (is_taken a e ≡ true) ⊎ (takes_error e (xs ++ ys) ≡ true)
    sooner e (inl is) = inl is
    sooner e (inr is) = inr (takes-left e xs ys is)

    by : (e : ErrorName) → (is_taken b e ≡ true) ⊎ (takes_error e ys ≡ true) → (is_taken a e ≡ true) ⊎ (takes_error e (xs ++ ys) ≡ true)
    by e (inl is) = sooner e (first.only e is)
    by e (inr is) = inr (takes-right e xs ys is)

pub takes-item : (a b c : Coming) (names : List (String Global)) (i : ℕ) (name : String Global) → i < length names → name ≡ get_or names i name → TakesUp a b (map string_bytes (take i names)) → TakesUp b c (string_bytes name ∷ []) → TakesUp a c (map string_bytes (take (i + 1) names))
takes-item a b c names i name within is first second =
    subst (λ n. TakesUp a c (map string_bytes (take n names))) (sym (add-one i)) (subst (TakesUp a c) (sym (taken string_bytes names i name within is)) (takes-both a b c (map string_bytes (take i names)) (string_bytes name ∷ []) first second))

-- ---- one name more that doesn't come

pub none-of-none : (a : Coming) → NoneComes a []
none-of-none a = record { none = λ e is may. absurd (false≢true is) }

pub none-more : (a : Coming) (names : List (String Global)) (i : ℕ) (name : String Global) → i < length names → name ≡ get_or names i name → NoneComes a (map string_bytes (take i names)) → DoesNotCome a (string_bytes name) → NoneComes a (map string_bytes (take (i + 1) names))
none-more a names i name within is before one =
    subst (λ n. NoneComes a (map string_bytes (take n names))) (sym (add-one i)) (subst (NoneComes a) (sym (taken string_bytes names i name within is)) (record { none = λ e is may. by e may (takes-split e (map string_bytes (take i names)) (string_bytes name ∷ []) is) }))
  where
    by : (e : ErrorName) → may_raise a.raised.now e ≡ true → (takes_error e (map string_bytes (take i names)) ≡ true) ⊎ (takes_error e (string_bytes name ∷ []) ≡ true) → is_taken a e ≡ true
    by e may (inl is) = before.none e is may
    by e may (inr is) = one.none e is may
