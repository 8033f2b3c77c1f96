-- Texts whose holes are filled with values, one after the other.
use Rattle.std.proofs.Common.{◌≡◌, ◌<◌, ◌≤◌, ℕ, suc, List, [], ◌∷◌, ◌++◌, length, get_or, drop, drop-cons, map, Option, Some, None, option_map, Result, Ok, Err, String, Global, string_bytes, codes, refl, ◌∙◌, rules, arith}
use Rattle.std.proofs.lemmas.List.{drop_all}
use Rattle.std.specs.Str.Pattern.{FindsText, HasMatch, SplitsAroundMatch}
use Rattle.asl_model.specs.Intrinsic.{cut_at_holes, holes_filled, format_text}
use Rattle.asl_model.specs.Tree as model
use Rattle.asl_tree.specs.View as trees
use Rattle.asl_tree.specs.declared.Tree as code
use Rattle.asl_intrinsic.proofs.Cuts.{cut_at_found, cut_at_match, cut_without_match}
use Rattle.asl_intrinsic.proofs.Holes.{filled_with, filled_with_none}
use Rattle.asl_intrinsic.specs.Answer.{Answers, value_view, values_view}
use Rattle.asl_intrinsic.specs.declared.EvalRefusal.{EvalRefusal}
use Rattle.asl_intrinsic.specs.declared.EvalRefusal.TheVariants.{IntrinsicFailure}
use Rattle.asl_intrinsic.specs.declared.value.Value.{Value}

-- ---- answers

-- a text is seen as its bytes
seen_text : (text : String Global) → trees.view (code.Text text) ≡ model.Text (string_bytes text)
seen_text text = search (rules, code.the_lemmas)

-- the filled text is answered
pub text_answered : (whole : Option (List ℕ)) (text : String Global) → whole ≡ Some (string_bytes text) → Answers trees.view (Ok (code.Text text)) (option_map model.Text whole)
text_answered whole text is = record { gives = rw (is, seen_text text) refl; fails = λ e. absurd (cc) }

-- a failure is answered where nothing is filled
pub text_refused : (whole : Option (List ℕ)) (r : Result code.Tree EvalRefusal) (refusal : EvalRefusal) → r ≡ Err refusal → (refusal ≡ IntrinsicFailure → whole ≡ None) → Answers trees.view r (option_map model.Text whole)
text_refused whole r refusal is none = rw is (record { gives = tt; fails = λ e. rw (none (let same : refusal ≡ IntrinsicFailure = cc in same)) refl })

-- ---- the pieces of a literal text

-- the next hole is filled
pub hole_filled : (whole : Option (List ℕ)) (text worded new : List ℕ) (pieces : List (String Global)) (values : List Value) (i next : ℕ) (p : String Global) (v : Value)
    → whole ≡ holes_filled text (map string_bytes (drop i pieces)) (values_view (drop i values)) → i < length values → length values ≡ length pieces → next ≡ suc i → v ≡ get_or values i v → p ≡ get_or pieces i p
    → option_map (λ word. text ++ word) (format_text (value_view v)) ≡ Some worded → new ≡ worded ++ string_bytes p → whole ≡ holes_filled new (map string_bytes (drop next pieces)) (values_view (drop next values))
hole_filled whole text worded new pieces values i next p v so_far within same after at_value at_piece word is =
    let within_pieces : i < length pieces = omega arith in
    so_far ∙ rw (after, drop-cons values i v within, drop-cons pieces i p within_pieces, ← at_value, ← at_piece) (filled_with text (string_bytes p) new (map string_bytes (drop (suc i) pieces)) (value_view v) (values_view (drop (suc i) values)) worded word is)

-- the next value has no word
pub hole_unfilled : (whole : Option (List ℕ)) (text : List ℕ) (pieces : List (String Global)) (values : List Value) (i : ℕ) (v : Value)
    → whole ≡ holes_filled text (map string_bytes (drop i pieces)) (values_view (drop i values)) → i < length values → length values ≡ length pieces → v ≡ get_or values i v → format_text (value_view v) ≡ None → whole ≡ None
hole_unfilled whole text pieces values i v so_far within same at_value none =
    let within_pieces : i < length pieces = omega arith in
    so_far ∙ rw (drop-cons values i v within, ← at_value) (piece_or_not (map string_bytes (drop i pieces)))
  where
    piece_or_not : (left : List (List ℕ)) → holes_filled text left (model.AndTree (value_view v) (values_view (drop (suc i) values))) ≡ None
    piece_or_not [] = refl
    piece_or_not (piece ∷ left) = filled_with_none text piece left (value_view v) _ none

-- every hole is filled
pub holes_are_filled : (whole : Option (List ℕ)) (text : List ℕ) (pieces : List (String Global)) (values : List Value) (i : ℕ) → whole ≡ holes_filled text (map string_bytes (drop i pieces)) (values_view (drop i values)) → length values ≤ i → length values ≡ length pieces → whole ≡ Some text
holes_are_filled whole text pieces values i so_far end same =
    let end_of_pieces : length pieces ≤ i = omega arith in
    so_far ∙ rw (drop_all i values end, drop_all i pieces end_of_pieces) refl

-- ---- a text that is a value

-- behind the next hole of the text the rest goes on
pub piece_filled : (whole : Option (List ℕ)) (filled pushed worded : List ℕ) (rest piece behind : List ℕ) (values : List Value) (i next : ℕ) (v : Value)
    → whole ≡ holes_filled (filled ++ (cut_at_holes rest).first) (cut_at_holes rest).after_holes (values_view (drop i values)) → SplitsAroundMatch (FindsText (codes "{}")) rest piece behind → i < length values → next ≡ suc i → v ≡ get_or values i v → pushed ≡ filled ++ piece
    → option_map (λ word. pushed ++ word) (format_text (value_view v)) ≡ Some worded → whole ≡ holes_filled (worded ++ (cut_at_holes behind).first) (cut_at_holes behind).after_holes (values_view (drop next values))
piece_filled whole filled pushed worded rest piece behind values i next v so_far split within after at is word =
    so_far ∙ rw (after, cut_at_match rest piece behind split, drop-cons values i v within, ← at, ← is) (filled_with pushed (cut_at_holes behind).first _ (cut_at_holes behind).after_holes (value_view v) (values_view (drop (suc i) values)) worded word refl)

-- the next value has no word
pub piece_unfilled : (whole : Option (List ℕ)) (filled : List ℕ) (rest piece behind : List ℕ) (values : List Value) (i : ℕ) (v : Value)
    → whole ≡ holes_filled (filled ++ (cut_at_holes rest).first) (cut_at_holes rest).after_holes (values_view (drop i values)) → SplitsAroundMatch (FindsText (codes "{}")) rest piece behind → i < length values → v ≡ get_or values i v → format_text (value_view v) ≡ None → whole ≡ None
piece_unfilled whole filled rest piece behind values i v so_far split within at none =
    so_far ∙ rw (cut_at_match rest piece behind split, drop-cons values i v within, ← at, none) refl

-- there is no hole for the next value
pub hole_is_missing : (whole : Option (List ℕ)) (filled rest : List ℕ) (values : List Value) (i : ℕ) (v : Value)
    → whole ≡ holes_filled (filled ++ (cut_at_holes rest).first) (cut_at_holes rest).after_holes (values_view (drop i values)) → FindsText (codes "{}") rest None → i < length values → whole ≡ None
hole_is_missing whole filled rest values i v so_far lacks within = so_far ∙ rw (cut_without_match rest lacks, drop-cons values i v within) refl

-- there is no value for the next hole
pub value_is_missing : (whole : Option (List ℕ)) (filled rest : List ℕ) (values : List Value) (i : ℕ)
    → whole ≡ holes_filled (filled ++ (cut_at_holes rest).first) (cut_at_holes rest).after_holes (values_view (drop i values)) → HasMatch (FindsText (codes "{}")) rest → length values ≤ i → whole ≡ None
value_is_missing whole filled rest values i so_far match end = so_far ∙ rw (cut_at_found rest match.0 match.1 match.2, drop_all i values end) refl

-- the rest stands behind the last value
pub rest_is_filled : (whole : Option (List ℕ)) (filled rest new : List ℕ) (values : List Value) (i : ℕ)
    → whole ≡ holes_filled (filled ++ (cut_at_holes rest).first) (cut_at_holes rest).after_holes (values_view (drop i values)) → FindsText (codes "{}") rest None → length values ≤ i → new ≡ filled ++ rest → whole ≡ Some new
rest_is_filled whole filled rest new values i so_far lacks end is = so_far ∙ rw (cut_without_match rest lacks, drop_all i values end, is) refl
