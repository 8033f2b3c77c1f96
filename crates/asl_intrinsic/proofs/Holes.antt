-- Texts with holes, and what fills them.
use Rattle.std.proofs.Common.{◌≡◌, ◌<◌, ℕ, suc, List, [], ◌∷◌, ◌++◌, length, get_or, drop, drop-cons, map, Option, Some, None, option_map, option_and_then, String, Global, string_bytes, codes, refl, sym, ap, ◌∙◌, append_assoc}
use Rattle.asl_model.specs.Intrinsic.{holes_filled, joined_by_holes, format_text}
use Rattle.asl_model.specs.Tree.{Tree, Trees, NoTrees, AndTree}

-- ---- a literal text as a value

-- a front goes on in front of the pieces
joined-front : (a b : List ℕ) (pieces : List (List ℕ)) → joined_by_holes (a ++ b) pieces ≡ a ++ joined_by_holes b pieces
joined-front a b [] = refl
joined-front a b (piece ∷ pieces) = append_assoc a b _

-- the first piece is written
pub first_piece : (old first text new : List ℕ) (pieces items : List (String Global)) → items ≡ pieces → text ≡ first → new ≡ old ++ text → old ++ joined_by_holes first (map string_bytes pieces) ≡ joined_by_holes new (map string_bytes items)
first_piece old first text new pieces items same is at_end = rw (at_end, is, same) (sym (joined-front old first _))

-- one more piece is written
pub one_piece_more : (whole text : List ℕ) (pieces : List (String Global)) (i next : ℕ) (d : String Global) (hole new : List ℕ) → whole ≡ joined_by_holes text (map string_bytes (drop i pieces)) → i < length pieces → next ≡ suc i → d ≡ get_or pieces i d → hole ≡ text ++ codes "{}" → new ≡ hole ++ string_bytes d
    → whole ≡ joined_by_holes new (map string_bytes (drop next pieces))
one_piece_more whole text pieces i next d hole new so_far within after is at_hole at_end =
    so_far ∙ rw (after, drop-cons pieces i d within, ← is, at_end, at_hole) (sym (joined-front (text ++ codes "{}") (string_bytes d) _ ∙ append_assoc text (codes "{}") _))

-- ---- holes filled one after the other

-- a front goes on in front of the filled text
filled-front : (a b : List ℕ) (pieces : List (List ℕ)) (ts : Trees) → holes_filled (a ++ b) pieces ts ≡ option_map (λ further. a ++ further) (holes_filled b pieces ts)
filled-front a b [] NoTrees = refl
filled-front a b [] (AndTree t ts) = refl
filled-front a b (piece ∷ pieces) NoTrees = refl
filled-front a b (piece ∷ pieces) (AndTree t ts) = go (format_text t) (holes_filled piece pieces ts)
  where
    go : (word further : Option (List ℕ)) → option_and_then (λ w. option_map (λ f. (a ++ b) ++ (w ++ f)) further) word ≡ option_map (λ f. a ++ f) (option_and_then (λ w. option_map (λ f. b ++ (w ++ f)) further) word)
    go None further = refl
    go (Some w) None = refl
    go (Some w) (Some f) = ap Some (append_assoc a b (w ++ f))

-- two fronts may be put in front one after the other
regrouped : (a b : List ℕ) (o : Option (List ℕ)) → option_map (λ further. (a ++ b) ++ further) o ≡ option_map (λ further. a ++ (b ++ further)) o
regrouped a b None = refl
regrouped a b (Some further) = ap Some (append_assoc a b further)

-- where a value has a word, its hole is filled with it
pub filled_with : (text piece new : List ℕ) (pieces : List (List ℕ)) (t : Tree) (ts : Trees) (worded : List ℕ) → option_map (λ word. text ++ word) (format_text t) ≡ Some worded → new ≡ worded ++ piece → holes_filled text (piece ∷ pieces) (AndTree t ts) ≡ holes_filled new pieces ts
filled_with text piece new pieces t ts worded e is = go (format_text t) refl
  where
    go : (word : Option (List ℕ)) → format_text t ≡ word → holes_filled text (piece ∷ pieces) (AndTree t ts) ≡ holes_filled new pieces ts
    go None none = let h : option_map (λ (word : List ℕ). text ++ word) None ≡ Some worded = rw none at e in absurd (cc)
    go (Some w) some =
        let h : option_map (λ (word : List ℕ). text ++ word) (Some w) ≡ Some worded = rw some at e in
        let at_end : worded ≡ text ++ w = cc in
        rw (some, is, at_end) (sym (filled-front (text ++ w) piece pieces ts ∙ regrouped text w (holes_filled piece pieces ts)))

-- where a value has none, nothing is filled
pub filled_with_none : (text piece : List ℕ) (pieces : List (List ℕ)) (t : Tree) (ts : Trees) → format_text t ≡ None → holes_filled text (piece ∷ pieces) (AndTree t ts) ≡ None
filled_with_none text piece pieces t ts none = rw none refl
