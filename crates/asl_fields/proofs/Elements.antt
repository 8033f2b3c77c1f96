-- Reading the elements of a list of a definition, one after another.
use Rattle.std.proofs.Common.{◌≡◌, ℕ, ◌+◌, ◌<◌, ◌≤◌, List, [], ◌∷◌, ◌++◌, length, get_or, take, Option, Some, None, refl, sym, ap, ◌∙◌, append-nil}
use Rattle.std.specs.List.{filter_map, cons_option}
use Rattle.std.proofs.lemmas.List.{take_all, take_more}
use Rattle.std.proofs.lemmas.List.Elements.{filter_map-append}
use Rattle.serde_json.specs.Data.{Data}
use Rattle.serde_json.specs.View.{view, items_view}
use Rattle.serde_json.specs.declared.value.Value.{Value}
use Rattle.asl_model.specs.StandsFor.{listed}

filtered : {B : Type 0} (f : Data → Option B) (vs : List Value) → filter_map (λ v. f (view v)) vs ≡ filter_map f (listed (items_view vs))
filtered f [] = refl
filtered f (v ∷ vs) = ap (cons_option (f (view v))) (filtered f vs)

-- what the elements that are gone through stand for, to the end, where some stand for nothing
pub filtered_all : {B : Type 0} (f : Data → Option B) (done : List B) (vs : List Value) (i : ℕ) → length vs ≤ i → done ≡ filter_map (λ v. f (view v)) (take i vs) → done ≡ filter_map f (listed (items_view vs))
filtered_all f done vs i end e = e ∙ ap (filter_map (λ v. f (view v))) (take_all i vs end) ∙ filtered f vs

further : {B : Type 0} (f : Data → Option B) (vs : List Value) (i : ℕ) (v : Value) → i < length vs → v ≡ get_or vs i v → filter_map (λ x. f (view x)) (take (i + 1) vs) ≡ filter_map (λ x. f (view x)) (take i vs) ++ cons_option (f (view v)) []
further f vs i v within is =
    let parted : take (i + 1) vs ≡ take i vs ++ v ∷ [] = take_more vs i v within ∙ ap (λ x. take i vs ++ x ∷ []) (sym is) in
    ap (filter_map (λ x. f (view x))) parted ∙ filter_map-append (λ x. f (view x)) (take i vs) (v ∷ [])

-- one more element that stands for something
pub filtered_more : {B : Type 0} (f : Data → Option B) (done : List B) (vs : List Value) (i : ℕ) (v : Value) (b : B) → i < length vs → v ≡ get_or vs i v → f (view v) ≡ Some b → done ≡ filter_map (λ x. f (view x)) (take i vs)
    → done ++ b ∷ [] ≡ filter_map (λ x. f (view x)) (take (i + 1) vs)
filtered_more f done vs i v b within is gives e = sym (further f vs i v within is ∙ rw (gives, e) refl)

-- one that stands for nothing
pub filtered_past : {B : Type 0} (f : Data → Option B) (done : List B) (vs : List Value) (i : ℕ) (v : Value) → i < length vs → v ≡ get_or vs i v → f (view v) ≡ None → done ≡ filter_map (λ x. f (view x)) (take i vs)
    → done ≡ filter_map (λ x. f (view x)) (take (i + 1) vs)
filtered_past f done vs i v within is gives e = sym (further f vs i v within is ∙ rw gives (append-nil (filter_map (λ x. f (view x)) (take i vs))) ∙ sym e)
