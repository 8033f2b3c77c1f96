-- Errors among what is told, in whatever order.
use Rattle.std.proofs.Common.{◌≡◌, ◌≢◌, List, [], ◌∷◌, Bool, true, false, map, refl, ap, ◌∙◌, cond, ◌||◌}
use Rattle.std.specs.List.{filter, list_any}
use Rattle.std.specs.List.Sorted.{IsPermutation}
use Rattle.std.proofs.lemmas.List.Sorted.{list_any-IsPermutation}

module _ {T : Type 0} (is_error : T → Bool) where
  -- by whether the first one passes
  none_kept_by : (b : Bool) (t : T) (ts : List T) → (list_any is_error ts ≡ false → filter is_error ts ≡ []) → (b || list_any is_error ts) ≡ false → cond b (t ∷ filter is_error ts) (filter is_error ts) ≡ []
  none_kept_by true t ts rest none = absurd (cc)
  none_kept_by false t ts rest none = rest none

  some_kept_by : (b : Bool) (t : T) (ts : List T) → (list_any is_error ts ≡ true → filter is_error ts ≢ []) → (b || list_any is_error ts) ≡ true → cond b (t ∷ filter is_error ts) (filter is_error ts) ≢ []
  some_kept_by true t ts rest some = λ none. absurd (cc)
  some_kept_by false t ts rest some = rest some

  none_met_by : (b : Bool) (t : T) (ts : List T) → (filter is_error ts ≡ [] → list_any is_error ts ≡ false) → cond b (t ∷ filter is_error ts) (filter is_error ts) ≡ [] → (b || list_any is_error ts) ≡ false
  none_met_by true t ts rest none = absurd (cc)
  none_met_by false t ts rest none = rest none

  -- nothing is kept by a test that none passes
  pub none_kept : (ts : List T) → list_any is_error ts ≡ false → filter is_error ts ≡ []
  none_kept [] none = refl
  none_kept (t ∷ ts) none = none_kept_by (is_error t) t ts (none_kept ts) none

  -- something is kept by a test that one passes
  pub some_kept : (ts : List T) → list_any is_error ts ≡ true → filter is_error ts ≢ []
  some_kept [] some none = absurd (cc)
  some_kept (t ∷ ts) some none = some_kept_by (is_error t) t ts (some_kept ts) some none

  -- none passes where nothing is kept
  pub none_met : (ts : List T) → filter is_error ts ≡ [] → list_any is_error ts ≡ false
  none_met [] none = refl
  none_met (t ∷ ts) none = none_met_by (is_error t) t ts (none_met ts) none

  module _ {D : Type 0} (told : D → T) where
    any_told : (ds : List D) → list_any is_error (map told ds) ≡ list_any (λ d. is_error (told d)) ds
    any_told [] = refl
    any_told (d ∷ ds) = ap (λ b. is_error (told d) || b) (any_told ds)

    -- what is told in another order has an error where it is one of the diagnostics
    pub any_in_order : (ts : List T) (ds : List D) → IsPermutation ts (map told ds) → list_any is_error ts ≡ list_any (λ d. is_error (told d)) ds
    any_in_order ts ds same = list_any-IsPermutation is_error ts (map told ds) same ∙ any_told ds
