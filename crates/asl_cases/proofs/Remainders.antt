-- What is left of a run against what is left of what is expected of it.
use Rattle.std.proofs.Common.{◌≡◌, ◌↔◌, ◌<◌, ◌≤◌, refl, sym, ap, ◌∙◌, ℕ, zero, suc, ◌+◌, arith, List, [], ◌∷◌, Option, Some, None, Result, Ok, Err, IfOk, All, drop, get_or, length, map, option_map, slice_get}
use Rattle.std.specs.List.{filter_map, cons_option}
use Rattle.std.specs.Option.{IsSome}
use Rattle.std.proofs.lemmas.List.{drop_all, drop_more, length-map}
use Rattle.std.proofs.lemmas.List.Elements.{All-cons, All-rest, All-same}
use Rattle.std.proofs.lemmas.Option.{get_or_from_slice_get, slice_get-map, slice_get_read, slice_get_within}

-- what stands at a place is in front of what is behind it
stands_there : {X : Type 0} (xs : List X) (i : ℕ) (x : X) → slice_get xs i ≡ Some x → drop i xs ≡ x ∷ drop (i + 1) xs
stands_there xs i x h = drop_more xs i x (slice_get_within xs i x h) ∙ ap (λ y. y ∷ drop (i + 1) xs) (get_or_from_slice_get xs i x x h)

-- where nothing does, nothing is left
none_there : {X : Type 0} (xs : List X) (i : ℕ) → slice_get xs i ≡ None → drop i xs ≡ []
none_there [] zero h = refl
none_there [] (suc i) h = refl
none_there (x ∷ xs) zero h = absurd (cc)
none_there (x ∷ xs) (suc i) h = none_there xs i h

-- the first of a list
abbrev front_of : {B : Type 0} → List B → Option B
front_of [] = None
front_of (b ∷ bs) = Some b

-- those behind it
abbrev behind : {B : Type 0} → List B → List B
behind [] = []
behind (b ∷ bs) = bs

front_there : {B : Type 0} (bs : List B) (k : ℕ) (b : B) (rest : List B) → drop k bs ≡ b ∷ rest → slice_get bs k ≡ Some b
front_there [] zero b rest h = absurd (cc)
front_there [] (suc k) b rest h = absurd (cc)
front_there (c ∷ bs) zero b rest h = ap front_of h
front_there (c ∷ bs) (suc k) b rest h = front_there bs k b rest h

-- what f makes of those left of a list, as g sees them, is what is left of another
abbrev pub IsLeft : {X Y B : Type 0} → (Y → Option B) → (X → Y) → List X → List B → ℕ → ℕ → Type 0
IsLeft f g xs bs i k = filter_map f (drop i (map g xs)) ≡ drop k bs

next_made : {X Y B : Type 0} (f : Y → Option B) (g : X → Y) (xs : List X) (i : ℕ) (x : X) → i < length xs → x ≡ get_or xs i x → filter_map f (drop i (map g xs)) ≡ cons_option (f (g x)) (filter_map f (drop (i + 1) (map g xs)))
next_made f g xs i x within here = ap (filter_map f) (stands_there (map g xs) i (g x) (slice_get-map g xs i ∙ ap (option_map g) (slice_get_read xs (length xs) i x refl within here)))

-- f makes nothing of the next
pub skipped : {X Y B P : Type 0} (f : Y → Option B) (g : X → Y) (xs : List X) (bs : List B) (i k : ℕ) (x : X) → (P ↔ IsLeft f g xs bs i k) → i < length xs → x ≡ get_or xs i x → f (g x) ≡ None → P ↔ IsLeft f g xs bs (i + 1) k
skipped f g xs bs i k x (whole, left) within here none =
    let same : filter_map f (drop i (map g xs)) ≡ filter_map f (drop (i + 1) (map g xs)) = next_made f g xs i x within here ∙ ap (λ o. cons_option o (filter_map f (drop (i + 1) (map g xs)))) none in
    (λ p. sym same ∙ whole p, λ rest. left (same ∙ rest))

made : {X Y B : Type 0} (f : Y → Option B) (g : X → Y) (xs : List X) (i : ℕ) (x : X) (b : B) → i < length xs → x ≡ get_or xs i x → f (g x) ≡ Some b → filter_map f (drop i (map g xs)) ≡ b ∷ filter_map f (drop (i + 1) (map g xs))
made f g xs i x b within here is = next_made f g xs i x within here ∙ ap (λ o. cons_option o (filter_map f (drop (i + 1) (map g xs)))) is

-- what it makes of the next is the next of the other list
pub met : {X Y B P : Type 0} (f : Y → Option B) (g : X → Y) (xs : List X) (bs : List B) (i k : ℕ) (x : X) (b : B) → (P ↔ IsLeft f g xs bs i k) → i < length xs → x ≡ get_or xs i x → f (g x) ≡ Some b → slice_get bs k ≡ Some b → P ↔ IsLeft f g xs bs (i + 1) (k + 1)
met f g xs bs i k x b (whole, left) within here is there =
    let front = made f g xs i x b within here is in
    let other = stands_there bs k b there in
    (λ p. ap behind (sym front ∙ whole p ∙ other), λ rest. left (front ∙ ap (λ l. b ∷ l) rest ∙ sym other))

-- it has to be, where the whole is right
pub has_to_meet : {X Y B P : Type 0} (f : Y → Option B) (g : X → Y) (xs : List X) (bs : List B) (i k : ℕ) (x : X) (b : B) → (P ↔ IsLeft f g xs bs i k) → i < length xs → x ≡ get_or xs i x → f (g x) ≡ Some b → P → slice_get bs k ≡ Some b
has_to_meet f g xs bs i k x b (whole, left) within here is p = front_there bs k b (filter_map f (drop (i + 1) (map g xs))) (sym (whole p) ∙ made f g xs i x b within here is)

nothing_made : {X Y B : Type 0} (f : Y → Option B) (g : X → Y) (xs : List X) (i : ℕ) → length xs ≤ i → filter_map f (drop i (map g xs)) ≡ []
nothing_made f g xs i all = ap (filter_map f) (drop_all i (map g xs) (omega (arith, length-map xs g)))

-- nothing is left of the first list, and something of the other
pub lacks : {X Y B P : Type 0} (f : Y → Option B) (g : X → Y) (xs : List X) (bs : List B) (i k : ℕ) (b : B) → (P ↔ IsLeft f g xs bs i k) → length xs ≤ i → slice_get bs k ≡ Some b → P → ⊥
lacks f g xs bs i k b (whole, left) all there p =
    let empty = sym (nothing_made f g xs i all) ∙ whole p ∙ stands_there bs k b there in
    absurd (cc)

-- nothing is left of either
pub is_whole : {X Y B P : Type 0} (f : Y → Option B) (g : X → Y) (xs : List X) (bs : List B) (i k : ℕ) → (P ↔ IsLeft f g xs bs i k) → length xs ≤ i → slice_get bs k ≡ None → P
is_whole f g xs bs i k (whole, left) all there = left (nothing_made f g xs i all ∙ sym (none_there bs k there))

-- where there are words and the whole is wrong, there are none exactly where it is right
pub told_apart : {P S E : Type 0} (r : Result (Option S) E) → IfOk r IsSome → (P → ⊥) → IfOk r (λ words. words ≡ None ↔ P)
told_apart (Ok (Some s)) some wrong = (λ e. absurd (cc), λ p. absurd (wrong p))
told_apart (Ok None) some wrong = absurd (cc)
told_apart (Err e) some wrong = tt

-- where the next is right, all are where those behind it are
pub all_with_next : {X P : Type 0} (Q : X → Type 0) (xs : List X) (i : ℕ) (x : X) → (P ↔ All Q (drop i xs)) → i < length xs → x ≡ get_or xs i x → Q x → P ↔ All Q (drop (i + 1) xs)
all_with_next Q xs i x (whole, left) within here right =
    let there = stands_there xs i x (slice_get_read xs (length xs) i x refl within here) in
    (λ p. All-rest Q x (drop (i + 1) xs) (drop i xs) there (whole p), λ rest. left (All-same Q (drop i xs) (x ∷ drop (i + 1) xs) there (All-cons Q x (drop (i + 1) xs) right rest)))
