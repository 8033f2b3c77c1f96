-- What is told last, and where.
use Rattle.std.proofs.Common.{◌≡◌, ◌-◌, refl, sym, ap, ◌∙◌, ℕ, suc, arith, List, [], ◌∷◌, ◌++◌, map, length, slice_get, Option, Some, None, option_map, Bor}
use Rattle.std.specs.Option.{option_copied, unwrap_or}
use Rattle.std.proofs.lemmas.List.{reverse-append}
use Rattle.asl_model.specs.Numbering.{Table}
use Rattle.asl_run.specs.Entries.{entry_view}
use Rattle.asl_run.specs.declared.entries.Entry.{Entry}
use Rattle.asl_cases.specs.Asking.{item_at, item_behind, item_under, last_of, owner_in}
use Rattle.asl_cases.specs.Stepping.{place_asked, place_in}

-- the last of a list by its number
last_by_number : {A : Type 0} (xs : List A) → slice_get xs (length xs - 1) ≡ last_of xs
last_by_number [] = refl
last_by_number (x ∷ []) = refl
last_by_number (x ∷ y ∷ ys) =
    let less : length (x ∷ y ∷ ys) - 1 ≡ suc (length (y ∷ ys) - 1) = omega arith in
    ap (slice_get (x ∷ y ∷ ys)) less ∙ last_by_number (y ∷ ys)

last_seen : {A B : Type 0} (f : A → B) (xs : List A) → last_of (map f xs) ≡ option_map f (last_of xs)
last_seen f [] = refl
last_seen f (x ∷ []) = refl
last_seen f (x ∷ y ∷ ys) = last_seen f (y ∷ ys)

-- the last entry, as it is seen
pub last_entry : (trace : List Entry) (last : Option (Bor Entry)) → option_copied last ≡ slice_get trace (length trace - 1) → last_of (map entry_view trace) ≡ option_map entry_view (option_copied last)
last_entry trace last is = last_seen entry_view trace ∙ ap (option_map entry_view) (sym (is ∙ last_by_number trace))

-- the place of the last entry, if it tells that a task was asked
pub asked_of : (trace : List Entry) (last : Option (Bor Entry)) → option_copied last ≡ slice_get trace (length trace - 1)
    → place_asked (map entry_view trace) ≡ unwrap_or (option_map (λ e. place_in (entry_view e)) (option_copied last)) []
asked_of trace last is =
    ap (λ o. unwrap_or (option_map place_in o) []) (last_seen entry_view trace)
    ∙ seen (last_of trace)
    ∙ ap (λ o. unwrap_or (option_map (λ e. place_in (entry_view e)) o) []) (sym (is ∙ last_by_number trace))
  where
    seen : (o : Option Entry) → unwrap_or (option_map place_in (option_map entry_view o)) [] ≡ unwrap_or (option_map (λ e. place_in (entry_view e)) o) []
    seen None = refl
    seen (Some e) = refl

-- one child further out
pub item_step : (table : Table) (number child : ℕ) (rest further : List ℕ) → rest ≡ further ++ child ∷ [] → item_at table number rest ≡ item_under table (owner_in table number) child (λ owner. item_at table owner further)
item_step table number child rest further is = ap (item_at table number) is ∙ ap (item_behind table number) (reverse-append further (child ∷ []))

-- no child is further out
pub none_further : (table : Table) (number : ℕ) (rest : List ℕ) → length rest ≡ 0 → item_at table number rest ≡ None
none_further table number [] none = refl
none_further table number (child ∷ rest) none = absurd (omega (arith, none))
