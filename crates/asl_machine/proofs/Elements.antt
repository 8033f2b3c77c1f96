-- Reading the elements of a list of a definition, one after another.
use Rattle.std.proofs.Common.{◌≡◌, ℕ, ◌+◌, ◌<◌, ◌≤◌, List, [], ◌∷◌, ◌++◌, length, get_or, take, map, refl, sym, ap, ◌∙◌}
use Rattle.std.proofs.lemmas.List.{map-append, take_all, take_more}
use Rattle.serde_json.specs.Data.{Data}
use Rattle.serde_json.specs.View.{view, items_view}
use Rattle.serde_json.specs.declared.value.Value.{Value}
use Rattle.asl_model.specs.StandsFor.{listed}

mapped : {B : Type 0} (f : Data → B) (vs : List Value) → map (λ v. f (view v)) vs ≡ map f (listed (items_view vs))
mapped f [] = refl
mapped f (v ∷ vs) = ap (λ bs. f (view v) ∷ bs) (mapped f vs)

-- what the elements that are gone through stand for, to the end
pub mapped_all : {B : Type 0} (f : Data → B) (done : List B) (vs : List Value) (i : ℕ) → length vs ≤ i → done ≡ map (λ v. f (view v)) (take i vs) → done ≡ map f (listed (items_view vs))
mapped_all f done vs i end e = e ∙ ap (map (λ v. f (view v))) (take_all i vs end) ∙ mapped f vs

-- one more element of a list that is read
pub mapped_more : {B C : Type 0} (f : Data → B) (shown : C → B) (before after : List C) (c : C) (vs : List Value) (i : ℕ) (v : Value) → after ≡ before ++ c ∷ [] → i < length vs → v ≡ get_or vs i v → shown c ≡ f (view v) → map shown before ≡ map (λ x. f (view x)) (take i vs)
    → map shown after ≡ map (λ x. f (view x)) (take (i + 1) vs)
mapped_more f shown before after c vs i v pushed within is reads e =
    let parted : take (i + 1) vs ≡ take i vs ++ v ∷ [] = take_more vs i v within ∙ ap (λ x. take i vs ++ x ∷ []) (sym is) in
    ap (map shown) pushed ∙ (map-append shown before (c ∷ []) ∙ (ap (λ bs. bs ++ shown c ∷ []) e ∙ (ap (λ b. map (λ x. f (view x)) (take i vs) ++ b ∷ []) reads
    ∙ sym (ap (map (λ x. f (view x))) parted ∙ map-append (λ x. f (view x)) (take i vs) (v ∷ [])))))
