-- What is told of values one after another.
use Rattle.std.proofs.Common.{◌≡◌, ℕ, ◌+◌, ◌<◌, List, [], ◌∷◌, ◌++◌, length, map, drop, drop-cons, get_or, add-one, Ok, Err, refl, arith, sym, ap, ◌∙◌}
use Rattle.std.proofs.lemmas.List.{map-append}
use Rattle.serde_json.specs.Data as json
use Rattle.serde_json.specs.Data.{Data, Items}
use Rattle.serde_json.specs.View.{view, items_view}
use Rattle.serde_json.specs.declared.value.Value.{Value}
use Rattle.asl_model.specs.DefinitionTable as model
use Rattle.asl_model.specs.StandsFor.{Complaint}
use Rattle.asl_fields.specs.declared.refusals.DefFault.{DefFault}
use Rattle.asl_fields.specs.Verdicts.{IsMisfit}
use Rattle.asl_fields.proofs.Checks.{told_of_left}

-- a list with an element isn't told as empty
pub some_there : (vs : List Value) → 0 < length vs → IsMisfit {A = Unit {0}} (model.some_elements (items_view vs)) (Ok tt)
some_there [] h = absurd (omega arith)
some_there (v ∷ vs) h = record { holds = refl }

-- what is left of a list of values is its first and those behind it
pub items_parts : {F : Type 0} (of : Items → List F) (wrong : List F) (vs : List Value) (i : ℕ) (x : Value) → i < length vs → x ≡ get_or vs i x
    → wrong ≡ of (items_view (drop i vs)) → wrong ≡ of (json.item (view x) (items_view (drop (i + 1) vs)))
items_parts of wrong vs i x h e all = all ∙ ap (λ rest. of (items_view rest)) (drop-cons vs i x h) ∙ (rw (add-one, sym e) refl)

-- what is told of one of them is told of all
pub each_told : {A B : Type 0} (of : Data → List model.DefFault) (vs : List Value) (i : ℕ) (x : Value) (fault : DefFault) → i < length vs → x ≡ get_or vs i x
    → model.wrong_with_each of (items_view vs) ≡ model.wrong_with_each of (items_view (drop i vs)) → IsMisfit {A = A} (of (view x)) (Err fault)
    → IsMisfit {A = B} (model.wrong_with_each of (items_view vs)) (Err fault)
each_told of vs i x fault h e all told =
    told_of_left (model.wrong_with_each of (items_view vs)) (of (view x)) (model.wrong_with_each of (items_view (drop (i + 1) vs))) fault (items_parts (model.wrong_with_each of) (model.wrong_with_each of (items_view vs)) vs i x h e all) told

-- the elements left are the first of them and those behind it
pub elements_split : (f : model.DefFault → Complaint) (of : Data → List model.DefFault) (vs : List Value) (i : ℕ) (x : Value) → i < length vs → x ≡ get_or vs i x
    → map f (model.wrong_with_each of (items_view (drop i vs))) ≡ map f (of (view x)) ++ map f (model.wrong_with_each of (items_view (drop (i + 1) vs)))
elements_split f of vs i x h e =
    items_parts (λ left. map f (model.wrong_with_each of left)) _ vs i x h e refl ∙ map-append f (of (view x)) (model.wrong_with_each of (items_view (drop (i + 1) vs)))
