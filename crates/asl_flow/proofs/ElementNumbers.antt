-- The numbers of the shapes of elements, and of lists that are made of them.
use Rattle.std.proofs.Common.{◌≡◌, ◌<◌, ◌≤◌, ◌+◌, ℕ, zero, suc, List, [], ◌∷◌, length, get_or, drop, replicate, Vec, Global, refl, sym, ap, ◌∙◌, drop-cons, add-one}
use Rattle.std.proofs.lemmas.List.{drop_all}
use Rattle.std.specs.Prelude.{if◌then◌else◌}
use Rattle.asl_model.specs.Finding.{at_each_place, element_shape, map_result}
use Rattle.asl_model.specs.Shape.{Shape, Never, AndShape, inhabited}
use Rattle.asl_model.specs.ShapeOrder.{join, joined_with_each}
use Rattle.asl_numbered.specs.declared.node.Node.TheVariants.{List as Elements}
use Rattle.asl_numbered.specs.Expansion.{shape_at, shapes_at, shape_over, AreBelow, RefersBelow}

-- ---- the join of all

-- one more is joined
pub one_joined : (all : Shape) (old a b : List Shape) (ns : List ℕ) (i d element more : ℕ) → i < length ns
    → shape_at a (get_or ns i d) ≡ shape_at old (get_or ns i d)
    → shape_at b more ≡ join (shape_at a element) (shape_at a (get_or ns i d))
    → all ≡ joined_with_each join (shape_at a element) (shapes_at old (drop i ns))
    → all ≡ joined_with_each join (shape_at b more) (shapes_at old (drop (i + 1) ns))
one_joined all old a b ns i d element more within kept joined e =
    let split : shapes_at old (drop i ns) ≡ AndShape (shape_at old (get_or ns i d)) (shapes_at old (drop (i + 1) ns)) =
    ap (shapes_at old) (drop-cons ns i d within) ∙ rw add-one refl in
    let more_joined : join (shape_at a element) (shape_at old (get_or ns i d)) ≡ shape_at b more =
    ap (join (shape_at a element)) (sym kept) ∙ sym joined in
    e ∙ ap (joined_with_each join (shape_at a element)) split
    ∙ ap (λ s. joined_with_each join s (shapes_at old (drop (i + 1) ns))) more_joined

-- all are joined, and the further ones with them
pub all_joined : (old a b : List Shape) (ns : List ℕ) (i element rest n : ℕ) → length ns ≤ i
    → joined_with_each join Never (shapes_at old ns)
    ≡ joined_with_each join (shape_at a element) (shapes_at old (drop i ns))
    → shape_at a rest ≡ shape_at old rest
    → shape_at b n ≡ join (shape_at a element) (shape_at a rest)
    → shape_at b n ≡ element_shape (shapes_at old ns) (shape_at old rest)
all_joined old a b ns i element rest n end e kept is =
    let first : joined_with_each join Never (shapes_at old ns) ≡ shape_at a element =
    e ∙ ap (λ left. joined_with_each join (shape_at a element) (shapes_at old left)) (drop_all i ns end) in
    is ∙ ap (join (shape_at a element)) kept ∙ sym (ap (λ s. join s (shape_at old rest)) first)

-- ---- lists that are made

-- one number for each place
replicated_below : (bound k n : ℕ) → n < bound → AreBelow bound (replicate k n)
replicated_below bound zero n h = tt
replicated_below bound (suc k) n h = (h, replicated_below bound k n h)

at_each : (table : List Shape) (n : ℕ) (ns : List ℕ)
    → shapes_at table (replicate (length ns) n) ≡ at_each_place (shape_at table n) (shapes_at table ns)
at_each table n [] = refl
at_each table n (m ∷ ns) = ap (AndShape (shape_at table n)) (at_each table n ns)

each_alike : (s : Shape) (a b : List Shape) (ns : List ℕ)
    → at_each_place s (shapes_at a ns) ≡ at_each_place s (shapes_at b ns)
each_alike s a b [] = refl
each_alike s a b (n ∷ ns) = ap (AndShape s) (each_alike s a b ns)

pub outputs_refer : (bound k output : ℕ) (first : Vec ℕ Global) (rest : ℕ) → output < bound → rest < bound
    → first.items ≡ replicate k output → RefersBelow bound (Elements first rest)
outputs_refer bound k output first rest within below is =
    record { each = (below, rw is (replicated_below bound k output within)) }

pub outputs_shape : (old now : List Shape) (output : ℕ) (ns : List ℕ) (further : ℕ) (first : Vec ℕ Global) (rest : ℕ)
    → first.items ≡ replicate (length ns) output → shape_at now output ≡ shape_at old output
    → shape_at now rest ≡ (if inhabited (shape_at old further) then shape_at old output else Never)
    → shape_over now (Elements first rest)
    ≡ map_result (shape_at old output) (shapes_at old ns) (shape_at old further)
outputs_shape old now output ns further first rest is kept number =
    let places : shapes_at now first.items ≡ at_each_place (shape_at old output) (shapes_at old ns) =
    ap (shapes_at now) is ∙ at_each now output ns ∙ ap (λ s. at_each_place s (shapes_at now ns)) kept
    ∙ each_alike (shape_at old output) now old ns in
    rw (places, number) refl
