-- What the functions answer for values.
use Rattle.std.proofs.Common.{◌≡◌, ℕ, suc, ℤ, pos, List, [], ◌∷◌, length, map, ◌++◌, string_bytes, String, Option, Some, None, option_map, option_and_then, Ok, Err, Vec, Global, refl, ap, rules}
use Rattle.asl_model.specs.Intrinsic as model
use Rattle.asl_model.specs.Intrinsic.{holes_filled, format_text}
use Rattle.asl_model.specs.Tree as trees_model
use Rattle.asl_tree.specs.View as trees
use Rattle.asl_tree.specs.declared.Tree as code
use Rattle.asl_intrinsic.specs.Answer.{Answers, value_view, values_view}
use Rattle.asl_intrinsic.specs.declared.EvalRefusal.TheVariants.{IntrinsicFailure}
use Rattle.asl_intrinsic.specs.declared.value.Value.{Value}

-- as many elements are seen as there are
counted : (ts : List code.Tree) → trees_model.count (trees.elements_view ts) ≡ length ts
counted [] = refl
counted (t ∷ ts) = ap suc (counted ts)

-- a list is seen as an array of its elements
seen_list : (v : Vec code.Tree Global) → trees.view (code.List v) ≡ trees_model.Array (trees.elements_view v.items)
seen_list v = search (rules, code.the_lemmas)

-- a number is seen as that number
seen_int : (z : ℤ) → trees.view (code.Int z) ≡ trees_model.Integer z
seen_int z = search (rules, code.the_lemmas)

-- the length of a list is answered
pub length_answered : (t : code.Tree) (v : Vec code.Tree Global) (z y : ℤ) → t ≡ code.List v → z ≡ pos (length v.items) → y ≡ z → Answers trees.view (Ok (code.Int y)) (model.length_of (trees.view t))
length_answered t v z y is counts same = record {
  gives = rw (is, seen_list v, counted v.items, seen_int y, same, counts) refl;
  fails = λ h. absurd (cc);
}

-- `States.ArrayLength` takes one argument
pub one_is_taken : (values : List Value) → (length values ≡ 1 → ⊥) → Answers trees.view (Err IntrinsicFailure) (model.array_length (values_view values))
one_is_taken [] h = record { gives = tt; fails = λ e. refl }
one_is_taken (v ∷ []) h = absurd (h refl)
one_is_taken (v ∷ u ∷ values) h = record { gives = tt; fails = λ e. refl }

-- nothing is filled where there are not as many values as holes
apart : (text : List ℕ) (pieces : List (String Global)) (values : List Value) → (length values ≡ length pieces → ⊥) → holes_filled text (map string_bytes pieces) (values_view values) ≡ None
apart text [] [] h = absurd (h refl)
apart text [] (v ∷ values) h = refl
apart text (p ∷ pieces) [] h = refl
apart text (p ∷ pieces) (v ∷ values) h = nothing_behind (format_text (value_view v)) (apart (string_bytes p) pieces values (λ e. h (ap suc e)))
  where
    nothing_behind : (word : Option (List ℕ)) {rest : Option (List ℕ)} → rest ≡ None → option_and_then (λ w. option_map (λ (further : List ℕ). text ++ (w ++ further)) rest) word ≡ None
    nothing_behind None e = refl
    nothing_behind (Some w) e = rw e refl

-- there are as many values as holes
pub as_many_as_holes : (text : List ℕ) (pieces : List (String Global)) (values : List Value) → (length values ≡ length pieces → ⊥) → Answers trees.view (Err IntrinsicFailure) (option_map trees_model.Text (holes_filled text (map string_bytes pieces) (values_view values)))
as_many_as_holes text pieces values h = record { gives = tt; fails = λ e. rw (apart text pieces values h) refl }
