-- A state's number is its position in the list of all states, where no name stands twice.
use Rattle.std.proofs.Common.{◌≡◌, refl, sym, ap, ◌∙◌, subst, ℕ, suc, ◌+◌, ◌<◌, length, List, [], ◌∷◌, map, Bool, true, false, not, ◌||◌, ◌&&◌, cond, bytes_eq, slice_get, Some, None, inl, inr, nat_lt, lt-ltb, arith}
use Rattle.std.specs.List.{position_or_len}
use Rattle.std.proofs.lemmas.List.{length-map}
use Rattle.std.proofs.lemmas.Slice.Eq.{bytes_eq-Decides}
use Rattle.asl_model.specs.ShapeSpelling.{is_among, are_distinct}
use Rattle.asl_model.specs.Numbering.{Standing, state_number}
use Rattle.asl_model.proofs.NumberedScopes.{IsListed}

-- the names of states
abbrev names : List Standing → List (List ℕ)
names states = map (λ s. s.name) states

-- a state that is listed has its name among the names
name_listed : (states : List Standing) (s : Standing) → IsListed states s → is_among s.name (names states) ≡ true
name_listed [] s h = absurd h
name_listed (x ∷ xs) s (inl e) = ap (λ b. b || is_among s.name (names xs)) ((bytes_eq-Decides x.name s.name).1 (ap (λ (t : Standing). t.name) e))
name_listed (x ∷ xs) s (inr h) = by (bytes_eq x.name s.name) (name_listed xs s h)
  where
    by : (b : Bool) → is_among s.name (names xs) ≡ true → (b || is_among s.name (names xs)) ≡ true
    by true g = refl
    by false g = g

-- so many states stand in front of the first of that name, and the next is this one
pub record StandsAt (states : List Standing) (s : Standing) : Type 0 where
  pub number : ℕ
  pub in_front : position_or_len (bytes_eq s.name) (names states) ≡ number
  pub within : number < length states
  pub here : slice_get states number ≡ Some s

-- the first has the name
stands_first : (x : Standing) (xs : List Standing) (s : Standing) → x ≡ s → StandsAt (x ∷ xs) s
stands_first x xs s e = record {
  number = 0;
  in_front = ap (λ b. cond (not b) (1 + position_or_len (bytes_eq s.name) (names xs)) 0) ((bytes_eq-Decides s.name x.name).1 (ap (λ (t : Standing). t.name) (sym e)));
  within = omega arith;
  here = ap Some e;
}

-- one more stands in front
stands_behind : (x : Standing) (xs : List Standing) (s : Standing) → bytes_eq s.name x.name ≡ false → StandsAt xs s → StandsAt (x ∷ xs) s
stands_behind x xs s e h = record {
  number = suc h.number;
  in_front = ap (λ b. cond (not b) (1 + position_or_len (bytes_eq s.name) (names xs)) 0) e ∙ (ap (λ n. 1 + n) h.in_front ∙ omega arith);
  within = (let k : h.number < length xs = h.within in omega arith);
  here = h.here;
}

-- both are true where their conjunction is
left_true : (a b : Bool) → (not a && b) ≡ true → a ≡ false
left_true true b h = absurd (cc)
left_true false b h = refl

right_true : (a b : Bool) → (not a && b) ≡ true → b ≡ true
right_true true b h = absurd (cc)
right_true false b h = h

-- where no name stands twice, a listed state stands at one number
pub stands_at : (states : List Standing) (s : Standing) → are_distinct (names states) ≡ true → IsListed states s → StandsAt states s
stands_at [] s d h = absurd h
stands_at (x ∷ xs) s d (inl e) = stands_first x xs s e
stands_at (x ∷ xs) s d (inr h) = stands_behind x xs s (other (bytes_eq s.name x.name) refl) (stands_at xs s (right_true (is_among x.name (names xs)) (are_distinct (names xs)) d) h)
  where
    other : (b : Bool) → bytes_eq s.name x.name ≡ b → bytes_eq s.name x.name ≡ false
    other true f = absurd (let g : is_among x.name (names xs) ≡ true = subst (λ (n : List ℕ). is_among n (names xs) ≡ true) ((bytes_eq-Decides s.name x.name).0 f) (name_listed xs s h) in let k : is_among x.name (names xs) ≡ false = left_true (is_among x.name (names xs)) (are_distinct (names xs)) d in cc)
    other false f = f

-- that is its number, and the state of that number is this one
pub number_found : (states : List Standing) (s : Standing) (h : StandsAt states s) → state_number states s.name ≡ Some h.number
number_found states s h =
    ap (λ i. cond (nat_lt i (length (names states))) (Some i) None) h.in_front ∙ ap (λ b. cond b (Some h.number) None) (lt-ltb h.number (length (names states)) (subst (λ n. h.number < n) (sym (length-map states (λ t. t.name))) h.within))
