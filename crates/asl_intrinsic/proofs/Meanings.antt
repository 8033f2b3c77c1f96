-- What arguments and calls as they are written mean.
use Rattle.std.proofs.Common.{◌≡◌, ℕ, ℤ, List, ◌++◌, Bool, true, false, Option, Some, None, Ok, bytes_eq, codes, refl, sym, ap, subst, rules}
use Rattle.std.proofs.lemmas.Slice.Eq.{bytes_eq-Decides}
use Rattle.asl_model.specs.Intrinsic as model
use Rattle.asl_model.proofs.CallMeaning.{behind_is}
use Rattle.asl_model.proofs.PathReading.{path_of-Spells, spelled_not_refused}
use Rattle.asl_model.specs.Path.{Segment}
use Rattle.asl_model.specs.PathSpelling.{BadSegment, IsRefusedPath, LeftOut, PathFault, path_of}
use Rattle.asl_path.specs.Refusal.{IsRefused}
use Rattle.asl_path.specs.declared.PathRefusal.{PathRefusal}
use Rattle.asl_path.specs.declared.PathRefusal.TheVariants as path
use Rattle.asl_model.specs.CallSpelling.{behind, context_of, WrittenNull, WrittenBoolean, WrittenInteger, whole_number, literal_argument}
use Rattle.asl_intrinsic.specs.Meaning.{IsPlainWord, argument_meaning, argument_seen}
use Rattle.asl_intrinsic.specs.View.{argument_view}
use Rattle.asl_intrinsic.specs.declared.call.Arg as code

-- ---- words

-- null is seen as null
seen_null : argument_view code.Null ≡ model.NullArgument
seen_null = search (rules, code.the_lemmas)

-- a truth value is seen as that value
seen_boolean : (b : Bool) → argument_view (code.Bool b) ≡ model.BooleanArgument b
seen_boolean b = search (rules, code.the_lemmas)

-- a number is seen as that number
seen_integer : (z : ℤ) → argument_view (code.Int z) ≡ model.IntegerArgument z
seen_integer z = search (rules, code.the_lemmas)

-- the word for null
pub null_word : (word : List ℕ) → word ≡ codes "null" → IsPlainWord (literal_argument word) (Some code.Null)
null_word word is = (WrittenNull, ap literal_argument is, λ item. rw seen_null refl)

-- the word for true
pub true_word : (word : List ℕ) → word ≡ codes "true" → IsPlainWord (literal_argument word) (Some (code.Bool true))
true_word word is = (WrittenBoolean true, ap literal_argument is, λ item. rw (seen_boolean true) refl)

-- the word for false
pub false_word : (word : List ℕ) → word ≡ codes "false" → IsPlainWord (literal_argument word) (Some (code.Bool false))
false_word word is = (WrittenBoolean false, ap literal_argument is, λ item. rw (seen_boolean false) refl)

-- texts that aren't the same are told apart
pub differs : (m n : List ℕ) → (m ≡ n → ⊥) → bytes_eq m n ≡ false
differs m n h = go (bytes_eq m n) refl
  where
    go : (same : Bool) → bytes_eq m n ≡ same → same ≡ false
    go true e = absurd (h ((bytes_eq-Decides m n).0 e))
    go false e = refl

-- a word that is none of these three, and spells a number
pub number_word : (word : List ℕ) (z y : ℤ) → (word ≡ codes "null" → ⊥) → (word ≡ codes "true" → ⊥) → (word ≡ codes "false" → ⊥) → whole_number word ≡ Some z → y ≡ z → IsPlainWord (literal_argument word) (Some (code.Int y))
number_word word z y no_null no_true no_false is same =
    (WrittenInteger z, rw (differs word (codes "null") no_null, differs word (codes "true") no_true, differs word (codes "false") no_false, is) refl, λ item. rw (seen_integer y, same) refl)

-- a number means itself
pub number_meant : (item : Bool) (z y : ℤ) → y ≡ z → argument_meaning item (WrittenInteger z) ≡ argument_seen (Ok (code.Int y))
number_meant item z y same = rw (seen_integer y, same) refl

-- ---- paths

-- a text that is refused as a path spells none
refused_path : (text : List ℕ) (f : PathFault) → IsRefusedPath text f → None ≡ path_of text
refused_path text f refused = go (path_of text) refl
  where
    go : (o : Option (List Segment)) → path_of text ≡ o → None ≡ o
    go None e = refl
    go (Some p) e = absurd (spelled_not_refused text p f (path_of-Spells text p e) refused)

-- so does one that is refused for a bad segment
pub bad_segment : (text : List ℕ) (refusal : PathRefusal) (b : ℕ) → refusal ≡ path.BadSegment b → IsRefused text refusal → None ≡ path_of text
bad_segment text refusal b is refused = refused_path text (BadSegment b) (subst (IsRefused text) is refused)

-- so does one that is refused for what is left out
pub left_out : (text : List ℕ) (refusal : PathRefusal) (b : ℕ) → refusal ≡ path.LeftOut b → IsRefused text refusal → None ≡ path_of text
left_out text refusal b is refused = refused_path text (LeftOut b) (subst (IsRefused text) is refused)

-- nothing stands behind a front that the text doesn't begin with
not_behind : (front text : List ℕ) → ((rest : List ℕ) → text ≡ front ++ rest → ⊥) → behind front text ≡ None
not_behind front text lacks = go (behind front text) refl
  where
    go : (o : Option (List ℕ)) → behind front text ≡ o → o ≡ None
    go None e = refl
    go (Some rest) e = absurd (lacks rest (behind_is front text rest e))

-- neither the item's number nor a path into the item
pub no_context : (text : List ℕ) → false ≡ bytes_eq text (codes "$$.Map.Item.Index") → ((rest : List ℕ) → text ≡ codes "$$.Map.Item.Value" ++ rest → ⊥) → context_of text ≡ None
no_context text other lacks = rw (sym other, not_behind (codes "$$.Map.Item.Value") text lacks) refl
