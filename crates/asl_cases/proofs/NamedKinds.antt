-- Whether the answers of a state are by item, among all that a case has.
use Rattle.std.proofs.Common.{◌≡◌, refl, ap, ◌∙◌, ℕ, Bool, true, false, if◌then◌else◌, cond, List, [], ◌∷◌, map, bytes_eq, nat_cmp, string_bytes, String, Global, Some, option_map}
use Rattle.std.specs.BTreeMap.{is_at}
use Rattle.std.specs.Cmp.Lexicographic.{slice_cmp}
use Rattle.std.specs.Map.{lookup}
use Rattle.asl_tree.proofs.Values.{same_name}
use Rattle.asl_suites.specs.View.{entry_kind, is_by_item, state_view}
use Rattle.asl_suites.specs.declared.answers.StateAnswers.{StateAnswers}
use Rattle.asl_suites.specs.declared.answers.StateAnswers.TheVariants as kept
use Rattle.asl_cases.specs.Asking.{are_by_item}

-- the first of that name tells it
abbrev pub kind_among : List ℕ → List (List ℕ × Bool) → Bool
kind_among n [] = false
kind_among n (told ∷ others) = if bytes_eq told.0 n then told.1 else kind_among n others

kind_of : (answers : StateAnswers) → is_by_item answers ≡ are_by_item (Some (state_view answers))
kind_of (kept.ByAttempt script) = refl
kind_of (kept.ByItem scripts) = refl

-- it is what is found under the name
pub kind_known : (n : List ℕ) (es : List (String Global × StateAnswers)) → kind_among n (map entry_kind es) ≡ are_by_item (option_map state_view (lookup (is_at (λ k. slice_cmp nat_cmp n (string_bytes k))) es))
kind_known n [] = refl
kind_known n (e ∷ es) = ap (λ b. if b then is_by_item e.1 else kind_among n (map entry_kind es)) (same_name n (string_bytes e.0)) ∙ picked (is_at (λ k. slice_cmp nat_cmp n (string_bytes k)) e.0) (kind_known n es)
  where
    picked : (same : Bool) → kind_among n (map entry_kind es) ≡ are_by_item (option_map state_view (lookup (is_at (λ k. slice_cmp nat_cmp n (string_bytes k))) es))
        → (if same then is_by_item e.1 else kind_among n (map entry_kind es)) ≡ are_by_item (option_map state_view (cond same (Some e.1) (lookup (is_at (λ k. slice_cmp nat_cmp n (string_bytes k))) es)))
    picked true further = kind_of e.1
    picked false further = further
