-- The steps of numbering a certificate's shapes, and of making them again.
use Rattle.std.proofs.Common.{◌≡◌, ◌<◌, ℕ, List, [], ◌∷◌, ◌++◌, length, map, Some, String, Global, string_bytes, string_cmp, refl, sym, ap, ◌∙◌, subst, append_assoc, append-nil}
use Rattle.std.proofs.lemmas.List.{map-append}
use Rattle.std.specs.BTreeMap.{insert_entry}
use Rattle.std.specs.List.{AllByRecursion}
use Rattle.std.specs.List.Sorted.{IsStrictlySortedBy}
use Rattle.std.specs.Map.{keys_of}
use Rattle.asl_model.specs.Certificate as model
use Rattle.asl_model.specs.Shape.{Shape}
use Rattle.asl_numbered.specs.Expansion.{shape_at, AreBelow, IsNumberOf, Keeps}
use Rattle.asl_numbered.proofs.Appending.{names, appended_by}
use Rattle.asl_numbered.specs.Laws.{below-append, keeps_same, keeps_trans, kept_shape, kept_within}
use Rattle.asl_shape.specs.View.{view}
use Rattle.asl_shape.specs.declared.shape.Shape as code
use Rattle.asl_records.specs.Numbered.{numbers_view, numbered_entries, AreNumbersBelow, AreEntriesBelow, AreWithin}
use Rattle.asl_records.specs.Numbering.{IsItemOf, AreListOf, AreStateOf, AreStatesOf}
use Rattle.asl_records.specs.View.{entry_view, entries_view}
use Rattle.asl_records.specs.declared.records.NumberedCertificate.{NumberedCertificate}
use Rattle.asl_records.specs.declared.records.StateShapes.{StateShapes}
use Rattle.asl_records.specs.declared.records.StateNumbers.{StateNumbers}
use Rattle.asl_records.specs.Laws.{Entry, list_kept, states_kept}

-- an entry of a map of states with shapes of their own
abbrev pub Certified : Type 0
Certified = String Global × StateShapes

-- ---- a map that is made entry by entry of another

-- X and Y are what the maps keep, and A is what both stand for
module _ {X Y A : Type 0} (see : X → A) (show : Y → A) where
  abbrev pub seen : List (String Global × X) → List (List ℕ × A)
  seen es = map (λ e. (string_bytes e.0, see e.1)) es

  abbrev pub shown : List (String Global × Y) → List (List ℕ × A)
  shown es = map (λ e. (string_bytes e.0, show e.1)) es

  abbrev Same : String Global × Y → String Global × X → Type 0
  Same y x =
      let made : List ℕ × A = (string_bytes y.0, show y.1) in
      let given : List ℕ × A = (string_bytes x.0, see x.1) in
      made ≡ given

  same_names : (es : List (String Global × Y)) (done : List (String Global × X)) → shown es ≡ seen done → names es ≡ names done
  same_names [] [] e = refl
  same_names [] (d ∷ done) e = absurd (cc)
  same_names (x ∷ es) [] e = absurd (cc)
  same_names (x ∷ es) (d ∷ done) e =
      let own : Same x d = cc in
      let others : shown es ≡ seen done = cc in
      rw (ap (λ p. p.0) own, same_names es done others) refl

  -- the next entry goes last
  pub goes_last : (done left : List (String Global × X)) (m : String Global × X) (es new : List (String Global × Y)) (k : String Global) (y : Y) → IsStrictlySortedBy string_cmp (keys_of (done ++ m ∷ left))
      → shown es ≡ seen done → string_bytes k ≡ string_bytes m.0 → new ≡ insert_entry string_cmp es k y → new ≡ es ++ (k, y) ∷ []
  goes_last done left m es new k y sorted so_far named made = made ∙ appended_by string_bytes string_bytes done m left es k y sorted (same_names es done so_far) named

  -- and stands for the entry that it was made of
  pub one_more : (done : List (String Global × X)) (m : String Global × X) (es new : List (String Global × Y)) (k : String Global) (y : Y) → shown es ≡ seen done → string_bytes k ≡ string_bytes m.0 → show y ≡ see m.1
      → new ≡ es ++ (k, y) ∷ [] → shown new ≡ seen (done ++ m ∷ [])
  one_more done m es new k y so_far named is last =
      let entry : Same (k, y) m = rw (named, is) refl in
      ap shown last ∙ map-append _ es ((k, y) ∷ []) ∙ rw (so_far, entry) (sym (map-append _ done (m ∷ [])))

-- ---- numbering

-- one more number
below-push : (bound : ℕ) (ns : List ℕ) (n : ℕ) → AreBelow bound ns → n < bound → AreBelow bound (ns ++ n ∷ [])
below-push bound ns n h last = below-append bound ns (n ∷ []) h (last, tt)

pub none_listed : (table : List Shape) → AreListOf table [] []
none_listed table = record { below = tt; same = refl }

pub listed_push : (old new : List Shape) (shapes : List Shape) (s : Shape) (ns : List ℕ) (n : ℕ) → Keeps old new → AreListOf old shapes ns → IsNumberOf new s n → AreListOf new (shapes ++ s ∷ []) (ns ++ n ∷ [])
listed_push old new shapes s ns n keeps are is =
    let now = list_kept old new keeps shapes ns are in
    let below : n < length new = is.within in
    record { below = below-push (length new) ns n now.below below; same = map-append (shape_at new) ns (n ∷ []) ∙ rw (now.same, is.same) refl }

pub listed_more : (old new : List Shape) (before after : List code.Shape) (s : code.Shape) (ns ms : List ℕ) (n : ℕ) → Keeps old new → AreListOf old (map view before) ns → IsNumberOf new (view s) n
    → after ≡ before ++ s ∷ [] → ms ≡ ns ++ n ∷ [] → AreListOf new (map view after) ms
listed_more old new before after s ns ms n keeps are is more also =
    rw (more, also, map-append view before (s ∷ [])) (listed_push old new (map view before) (view s) ns n keeps are is)

pub item_numbered : (table : List Shape) (s : Shape) (n : ℕ) → IsNumberOf table s n → IsItemOf table (Some s) (Some n)
item_numbered table s n is = record { below = is.within; same = ap Some is.same }

-- the parts of a state, which get their numbers one after another
pub state_numbered : (one two three four : List Shape) (shapes : model.StateShapes) (numbers : StateNumbers) → IsNumberOf one shapes.input numbers.input → Keeps one two → IsNumberOf two shapes.output numbers.output
    → Keeps two three → AreListOf three shapes.branches numbers.branches.items → Keeps three four → IsItemOf four shapes.item numbers.item → AreStateOf four shapes numbers
state_numbered one two three four shapes numbers input second output third branches last item =
    let further = keeps_trans two three four third last in
    let all = keeps_trans one two four second further in
    let first : numbers.input < length one = input.within in
    let next : numbers.output < length two = output.within in
    let listed = list_kept three four last shapes.branches numbers.branches.items branches in
    record {
      below = record { input = kept_within one four numbers.input all first; output = kept_within two four numbers.output further next; branches = listed.below; item = item.below };
      same = rw (kept_shape one four numbers.input all first, input.same, kept_shape two four numbers.output further next, output.same, listed.same, item.same) refl;
    }

-- the entries done have numbers, and those that are left make up the rest
pub record Numbers (old new : List Shape) (all left : List Certified) (es : List Entry) : Type 0 where
  pub done : List Certified
  pub whole : all ≡ done ++ left
  pub keeps : Keeps old new
  pub numbered : AreStatesOf new (entries_view done) es

pub numbers_begun : (table : List Shape) (all left : List Certified) (es : List Entry) → left ≡ all → es ≡ [] → Numbers table table all left es
numbers_begun table all left es same none =
    rw (same, none) (record { done = []; whole = refl; keeps = keeps_same table; numbered = record { below = record { each = tt }; same = refl } })

each_pushed : (bound : ℕ) (es : List Entry) (e : Entry) → AllByRecursion (λ (entry : Entry). AreNumbersBelow bound entry.1) es → AreNumbersBelow bound e.1 → AllByRecursion (λ (entry : Entry). AreNumbersBelow bound entry.1) (es ++ e ∷ [])
each_pushed bound [] e h last = (last, tt)
each_pushed bound (first ∷ es) e h last = (h.0, each_pushed bound es e h.1 last)

pub entries_pushed : (bound : ℕ) (es : List Entry) (e : Entry) → AreEntriesBelow bound es → AreNumbersBelow bound e.1 → AreEntriesBelow bound (es ++ e ∷ [])
entries_pushed bound es e h last = record { each = each_pushed bound es e h.each last }

pub numbers_gone_on : (old now new : List Shape) (all left rest : List Certified) (es more : List Entry) (m : Certified) (k : String Global) (numbers : StateNumbers) → Numbers old now all left es → left ≡ m ∷ rest
    → IsStrictlySortedBy string_cmp (keys_of all) → Keeps now new → string_bytes k ≡ string_bytes m.0 → AreStateOf new (entry_view m.1) numbers → more ≡ insert_entry string_cmp es k numbers → Numbers old new all rest more
numbers_gone_on old now new all left rest es more m k numbers h split sorted keeps named are made =
    let whole : all ≡ h.done ++ m ∷ rest = h.whole ∙ ap (λ ms. h.done ++ ms) split in
    let kept = states_kept now new keeps (entries_view h.done) es h.numbered in
    let last = goes_last entry_view (numbers_view new) h.done rest m es more k numbers (subst (λ ms. IsStrictlySortedBy string_cmp (keys_of ms)) whole sorted) kept.same named made in
    record {
      done = h.done ++ m ∷ [];
      whole = whole ∙ sym (append_assoc h.done (m ∷ []) rest);
      keeps = keeps_trans old now new h.keeps keeps;
      numbered = record {
        below = subst (AreEntriesBelow (length new)) (sym last) (entries_pushed (length new) es (k, numbers) kept.below are.below);
        same = one_more entry_view (numbers_view new) h.done m es more k numbers kept.same named are.same last;
      };
    }

pub numbers_done : (old new : List Shape) (all left : List Certified) (es : List Entry) → Numbers old new all left es → left ≡ [] → AreStatesOf new (entries_view all) es
numbers_done old new all left es h end =
    subst (λ ms. AreStatesOf new (entries_view ms) es) (sym (h.whole ∙ ap (λ ms. h.done ++ ms) end ∙ append-nil h.done)) h.numbered

-- the numbers of a certificate whose output was numbered before its states
pub certificate_numbered : (one : List Shape) (numbered : NumberedCertificate) (output : Shape) (states : List (List ℕ × model.StateShapes)) → IsNumberOf one output numbered.output → Keeps one numbered.shapes
    → AreStatesOf numbered.shapes states numbered.states.entries → AreWithin numbered
certificate_numbered one numbered output states is keeps are =
    let below : numbered.output < length one = is.within in
    record { output = kept_within one numbered.shapes numbered.output keeps below; states = are.below }

-- ---- making shapes of their own again

pub made_more : (table : List Shape) (ns ms : List ℕ) (n : ℕ) (before after : List code.Shape) (s : code.Shape) → map view before ≡ map (shape_at table) ns → view s ≡ shape_at table n → ms ≡ ns ++ n ∷ [] → after ≡ before ++ s ∷ []
    → map view after ≡ map (shape_at table) ms
made_more table ns ms n before after s so_far is more also =
    rw (more, also) (map-append view before (s ∷ []) ∙ rw (so_far, is) (sym (map-append (shape_at table) ns (n ∷ []))))

-- the entries done have shapes of their own, and those that are left make up the rest
pub record Expands (table : List Shape) (all left : List Entry) (es : List Certified) : Type 0 where
  pub done : List Entry
  pub whole : all ≡ done ++ left
  pub below : AreEntriesBelow (length table) left
  pub same : entries_view es ≡ numbered_entries table done

pub expands_begun : (table : List Shape) (all left : List Entry) (es : List Certified) → AreEntriesBelow (length table) all → left ≡ all → es ≡ [] → Expands table all left es
expands_begun table all left es below same none = rw (same, none) (record { done = []; whole = refl; below = below; same = refl })

-- the numbers of the next entry, and those behind it, are in the table
pub next_below : (bound : ℕ) (left rest : List Entry) (m : Entry) → left ≡ m ∷ rest → AreEntriesBelow bound left → AreNumbersBelow bound m.1 × AreEntriesBelow bound rest
next_below bound left rest m split h =
    let each = subst (AllByRecursion (λ (entry : Entry). AreNumbersBelow bound entry.1)) split h.each in
    (each.0, record { each = each.1 })

pub expands_gone_on : (table : List Shape) (all left rest : List Entry) (es more : List Certified) (m : Entry) (k : String Global) (shapes : StateShapes) → Expands table all left es → left ≡ m ∷ rest → IsStrictlySortedBy string_cmp (keys_of all)
    → string_bytes k ≡ string_bytes m.0 → entry_view shapes ≡ numbers_view table m.1 → more ≡ insert_entry string_cmp es k shapes → Expands table all rest more
expands_gone_on table all left rest es more m k shapes h split sorted named is made =
    let whole : all ≡ h.done ++ m ∷ rest = h.whole ∙ ap (λ ms. h.done ++ ms) split in
    let last = goes_last (numbers_view table) entry_view h.done rest m es more k shapes (subst (λ ms. IsStrictlySortedBy string_cmp (keys_of ms)) whole sorted) h.same named made in
    record {
      done = h.done ++ m ∷ [];
      whole = whole ∙ sym (append_assoc h.done (m ∷ []) rest);
      below = (next_below (length table) left rest m split h.below).1;
      same = one_more (numbers_view table) entry_view h.done m es more k shapes h.same named is last;
    }

pub expands_done : (table : List Shape) (all left : List Entry) (es : List Certified) → Expands table all left es → left ≡ [] → entries_view es ≡ numbered_entries table all
expands_done table all left es h end =
    h.same ∙ ap (numbered_entries table) (sym (h.whole ∙ ap (λ ms. h.done ++ ms) end ∙ append-nil h.done))
