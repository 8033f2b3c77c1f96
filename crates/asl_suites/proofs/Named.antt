-- Answers by the names of states.
use Rattle.std.proofs.Common.{◌≡◌, ◌≢◌, ℕ, List, false, cond, Option, Some, None, option_map, bytes_eq, nat_cmp, string_bytes, string_cmp, String, Global, BTreeMap, refl, sym, ap, ◌∙◌}
use Rattle.std.proofs.lemmas.Bool.{false_from_ne_true}
use Rattle.std.proofs.lemmas.Cmp.{eq_by_cmp_equiv}
use Rattle.std.proofs.lemmas.Map.Keys.{IsDistinct-from_sorted}
use Rattle.std.proofs.lemmas.Map.Made.{update_all_distinct}
use Rattle.std.proofs.lemmas.Map.Text.{btree_map_updates_text}
use Rattle.std.proofs.lemmas.Slice.Eq.{bytes_eq-Decides}
use Rattle.std.specs.BTreeMap.{InsertsAll, IsOrdered, UpdatesBy, get, get_by_text}
use Rattle.std.specs.Cmp.Lexicographic.{slice_cmp}
use Rattle.std.specs.Map.{keys_of}
use Rattle.std.specs.Option.{option_or}
use Rattle.std.specs.Ordering.{eq_by_cmp}
use Rattle.std.specs.String.{string_cmp_total}
use Rattle.asl_suites.specs.View.{state_view}
use Rattle.asl_suites.specs.declared.answers.StateAnswers.{StateAnswers}

abbrev Map : Type 0
Map = BTreeMap (String Global) StateAnswers

-- a change at one name leaves what stands under another
pub others_stay : (state : List ℕ) (m after : Map) (w : Option StateAnswers) (n : List ℕ) → UpdatesBy string_cmp (λ k. slice_cmp nat_cmp state (string_bytes k)) m after w → n ≢ state → option_map state_view (get_by_text after n) ≡ option_map state_view (get_by_text m n)
others_stay state m after w n updates other =
    let differ : bytes_eq state n ≡ false = false_from_ne_true _ (λ same. other (sym ((bytes_eq-Decides state n).0 same))) in
    ap (option_map state_view) (btree_map_updates_text state m after w updates n ∙ ap (λ b. cond b w (get_by_text m n)) differ)

-- what is seen of the first of two that is there
seen_first : (own mocked : Option StateAnswers) → option_map state_view (option_or own mocked) ≡ option_or (option_map state_view own) (option_map state_view mocked)
seen_first None mocked = refl
seen_first (Some answers) mocked = refl

-- once all of the one are put over the other
pub put_over : (own mocked both : Map) → IsOrdered string_cmp own → InsertsAll string_cmp mocked own.entries both → (n : String Global) → option_map state_view (get_by_text both (string_bytes n)) ≡ option_or (option_map state_view (get_by_text own (string_bytes n))) (option_map state_view (get_by_text mocked (string_bytes n)))
put_over own mocked both ordered inserted n =
    let distinct = IsDistinct-from_sorted string_cmp (keys_of own.entries) ordered in
    let found : get string_cmp both n ≡ option_or (get string_cmp own n) (get string_cmp mocked n) = inserted.0 n ∙ update_all_distinct (eq_by_cmp_equiv string_cmp_total) (eq_by_cmp string_cmp) (λ x y. refl) (get string_cmp mocked) own.entries n distinct in
    ap (option_map state_view) found ∙ seen_first (get string_cmp own n) (get string_cmp mocked n)
