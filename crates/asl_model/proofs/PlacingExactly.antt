-- The relations of naming and placing are exactly the functions.
use Rattle.std.proofs.Common.{◌≡◌, ◌↔◌, refl, ap, ◌∙◌, subst, List, [], ◌∷◌, Option, Some, None, option_map, option_and_then}
use Rattle.asl_model.specs.Tree.{Tree, Null, Boolean, Integer, Text, Array, Object, element, field_named}
use Rattle.asl_model.specs.Path.{Segment, Name, Index, named_by, Names, names_itself, names_in_field, names_in_element}
use Rattle.asl_model.specs.Placing.{set_field, set_element, only_field, built, in_or_built, placed, Builds, builds_nothing, builds_object, Places, places_itself, places_in_field, places_new_field, places_in_element}
use Rattle.asl_model.proofs.RunOptions.{some_inj, none_some}

-- what is named is found
pub found : {p : List Segment} {v w : Tree} → Names p v w → named_by p v ≡ Some w
found names_itself = refl
found (names_in_field {q = q} e h) = ap (option_and_then (named_by q)) e ∙ found h
found (names_in_element {q = q} e h) = ap (option_and_then (named_by q)) e ∙ found h

-- what is found is named
pub named : (p : List Segment) (v w : Tree) → named_by p v ≡ Some w → Names p v w
named [] v w h = subst (Names [] v) (some_inj h) names_itself
named (s ∷ p) Null w h = none_some h
named (s ∷ p) (Boolean b) w h = none_some h
named (s ∷ p) (Integer n) w h = none_some h
named (s ∷ p) (Text t) w h = none_some h
named (Name n ∷ p) (Array ts) w h = none_some h
named (Index i ∷ p) (Array ts) w h = go (element i ts) refl h (λ u. named p u w)
  where
    go : (there : Option Tree) → element i ts ≡ there → option_and_then (named_by p) there ≡ Some w → ((u : Tree) → named_by p u ≡ Some w → Names p u w) → Names (Index i ∷ p) (Array ts) w
    go None e g inner = none_some g
    go (Some u) e g inner = names_in_element e (inner u g)
named (Name n ∷ p) (Object fs) w h = go (field_named n fs) refl h (λ u. named p u w)
  where
    go : (there : Option Tree) → field_named n fs ≡ there → option_and_then (named_by p) there ≡ Some w → ((u : Tree) → named_by p u ≡ Some w → Names p u w) → Names (Name n ∷ p) (Object fs) w
    go None e g inner = none_some g
    go (Some u) e g inner = names_in_field e (inner u g)
named (Index i ∷ p) (Object fs) w h = none_some h

pub names_exactly : (p : List Segment) (v w : Tree) → Names p v w ↔ named_by p v ≡ Some w
names_exactly p v w = (found, named p v w)

-- what is built for names that remain
builds_found : {p : List Segment} {w u : Tree} → Builds p w u → built p w ≡ Some u
builds_found builds_nothing = refl
builds_found (builds_object {n = n} h) = ap (option_map (only_field n)) (builds_found h)

builds_named : (p : List Segment) (w u : Tree) → built p w ≡ Some u → Builds p w u
builds_named [] w u h = subst (Builds [] w) (some_inj h) builds_nothing
builds_named (Name n ∷ p) w u h = go (built p w) refl h (λ x. builds_named p w x)
  where
    go : (there : Option Tree) → built p w ≡ there → option_map (only_field n) there ≡ Some u → ((x : Tree) → built p w ≡ Some x → Builds p w x) → Builds (Name n ∷ p) w u
    go None e g inner = none_some g
    go (Some x) e g inner = subst (Builds (Name n ∷ p) w) (some_inj g) (builds_object (inner x e))
builds_named (Index i ∷ p) w u h = none_some h

-- what is placed comes out
pub comes_out : {p : List Segment} {w v u : Tree} → Places p w v u → placed p w v ≡ Some u
comes_out places_itself = refl
comes_out (places_in_field {n = n} {p = p} {w = w} {fs = fs} e h) = ap (λ there. option_map (λ x. Object (set_field n x fs)) (in_or_built (placed p w) (built p w) there)) e ∙ ap (option_map (λ x. Object (set_field n x fs))) (comes_out h)
comes_out (places_new_field {n = n} {p = p} {w = w} {fs = fs} e h) = ap (λ there. option_map (λ x. Object (set_field n x fs)) (in_or_built (placed p w) (built p w) there)) e ∙ ap (option_map (λ x. Object (set_field n x fs))) (builds_found h)
comes_out (places_in_element {i = i} {p = p} {w = w} {ts = ts} e h) = ap (λ there. option_map (λ x. Array (set_element i x ts)) (option_and_then (placed p w) there)) e ∙ ap (option_map (λ x. Array (set_element i x ts))) (comes_out h)

-- what comes out is placed
pub placed_so : (p : List Segment) (w v u : Tree) → placed p w v ≡ Some u → Places p w v u
placed_so [] w v u h = subst (Places [] w v) (some_inj h) places_itself
placed_so (s ∷ p) w Null u h = none_some h
placed_so (s ∷ p) w (Boolean b) u h = none_some h
placed_so (s ∷ p) w (Integer n) u h = none_some h
placed_so (s ∷ p) w (Text t) u h = none_some h
placed_so (Name n ∷ p) w (Array ts) u h = none_some h
placed_so (Index i ∷ p) w (Array ts) u h = go (element i ts) refl h (λ v x. placed_so p w v x)
  where
    whole : Tree → Tree
    whole x = Array (set_element i x ts)

    there : (v : Tree) → element i ts ≡ Some v → (inner : Option Tree) → placed p w v ≡ inner → option_map (λ x. Array (set_element i x ts)) inner ≡ Some u → ((x : Tree) → placed p w v ≡ Some x → Places p w v x) → Places (Index i ∷ p) w (Array ts) u
    there v e None f g below = none_some g
    there v e (Some x) f g below = subst (Places (Index i ∷ p) w (Array ts)) (some_inj g) (places_in_element e (below x f))

    go : (found : Option Tree) → element i ts ≡ found → option_map (λ x. Array (set_element i x ts)) (option_and_then (placed p w) found) ≡ Some u → ((v x : Tree) → placed p w v ≡ Some x → Places p w v x) → Places (Index i ∷ p) w (Array ts) u
    go None e g below = none_some g
    go (Some v) e g below = there v e (placed p w v) refl g (below v)
placed_so (Name n ∷ p) w (Object fs) u h = go (field_named n fs) refl h (λ v x. placed_so p w v x)
  where
    there : (v : Tree) → field_named n fs ≡ Some v → (inner : Option Tree) → placed p w v ≡ inner → option_map (λ x. Object (set_field n x fs)) inner ≡ Some u → ((x : Tree) → placed p w v ≡ Some x → Places p w v x) → Places (Name n ∷ p) w (Object fs) u
    there v e None f g below = none_some g
    there v e (Some x) f g below = subst (Places (Name n ∷ p) w (Object fs)) (some_inj g) (places_in_field e (below x f))

    new : field_named n fs ≡ None → (inner : Option Tree) → built p w ≡ inner → option_map (λ x. Object (set_field n x fs)) inner ≡ Some u → Places (Name n ∷ p) w (Object fs) u
    new e None f g = none_some g
    new e (Some x) f g = subst (Places (Name n ∷ p) w (Object fs)) (some_inj g) (places_new_field e (builds_named p w x f))

    go : (found : Option Tree) → field_named n fs ≡ found → option_map (λ x. Object (set_field n x fs)) (in_or_built (placed p w) (built p w) found) ≡ Some u → ((v x : Tree) → placed p w v ≡ Some x → Places p w v x) → Places (Name n ∷ p) w (Object fs) u
    go None e g below = new e (built p w) refl g
    go (Some v) e g below = there v e (placed p w v) refl g (below v)
placed_so (Index i ∷ p) w (Object fs) u h = none_some h

pub places_exactly : (p : List Segment) (w v u : Tree) → Places p w v u ↔ placed p w v ≡ Some u
places_exactly p w v u = (comes_out, placed_so p w v u)
