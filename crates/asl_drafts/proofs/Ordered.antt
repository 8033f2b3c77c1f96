-- The rows of a table in byte order of their names, as a map by name holds them.
use Rattle.std.proofs.Common.{◌≡◌, ◌≢◌, ◌<◌, ◌≤◌, ◌+◌, ◌-◌, ℕ, zero, suc, List, [], ◌∷◌, length, drop, map, zip, Bor, Bool, true, false, if◌then◌else◌, Option, Some, None, option_map, slice_get, Ordering, Less, Equal, Greater, nat_cmp, refl, sym, ap, ap₂, ◌∙◌, subst, ◌⊎◌, inl, inr, arith}
use Rattle.std.specs.BTreeMap.{insert_entry}
use Rattle.std.specs.Bool.{⊤}
use Rattle.std.proofs.Math.ListN.{drop_of_length-le}
use Rattle.std.specs.Ordering.{match_ordering, ordering_reverse, is_eq}
use Rattle.std.specs.Cmp.Lexicographic.{slice_cmp}
use Rattle.std.proofs.lemmas.Cmp.{nat_list_cmp_total}
use Rattle.std.proofs.lemmas.Map.Text.{is_eq-slice_cmp}
use Rattle.std.proofs.lemmas.Slice.Eq.{bytes_eq-Decides}
use Rattle.std.specs.Ordering.{is_eq}
use Rattle.asl_model.specs.Machine.{State}
use Rattle.asl_model.specs.Numbering.{Table}
use Rattle.asl_model.specs.ShapeSpelling.{are_distinct}
use Rattle.asl_model.specs.Tree.{comes_before}
use Rattle.asl_model.proofs.NumberedRows.{one_number}
use Rattle.asl_model.proofs.RunOptions.{none_some, some_inj}
use Rattle.asl_draft_laws.specs.Drafts.{Row, in_name_order, rows_from, rows_of, with_named}
use Rattle.asl_draft_laws.proofs.CertifiedRows.{Among, IsRowFrom, from-only, name_of, ordered-only}
use Rattle.asl_draft_laws.proofs.DraftShapes.{there-within}
use Rattle.asl_drafts.specs.Order.{AreOrdered, IsPlaced, entry_seen, row_seen}
use Rattle.asl_drafts.specs.Waiting.{StandOnce}

module _ {K V W : Type 0} (cmp : K → K → Ordering) (key : K → List ℕ) (seen : V → W) (made : Row → W) where
  -- an entry as it is seen, and what is made of a row
  abbrev pub entry_as : K × V → List ℕ × W
  entry_as e = (key e.0, seen e.1)

  abbrev pub row_as : Row → List ℕ × W
  row_as row = (row.name, made row)

  -- one entry more is that of the row
  pub record IsPut (es new : List (K × V)) (row : Row) : Type 0 where
    pub name : K
    pub value : V
    pub put : new ≡ insert_entry cmp es name value
    pub named : key name ≡ row.name
    pub same : seen value ≡ made row

  module _ (ordered : (x y : K) → cmp x y ≡ slice_cmp nat_cmp (key x) (key y)) where
    -- one more row is put into the map
    insert-row : (es : List (K × V)) (rows : List Row) (k : K) (v : V) (row : Row) → key k ≡ row.name → seen v ≡ made row → map entry_as es ≡ map row_as rows → ((r : Row) → Among rows r → r.name ≢ row.name) → map entry_as (insert_entry cmp es k v) ≡ map row_as (with_named name_of row rows)
    insert-row [] [] k v row named same are others = ap₂ (λ n w. (n, w) ∷ []) named same
    insert-row [] (r ∷ rows) k v row named same are others = absurd (cc)
    insert-row (e ∷ es) [] k v row named same are others = absurd (cc)
    insert-row (e ∷ es) (r ∷ rows) k v row named same are others = by (cmp k e.0) refl (insert-row es rows k v row named same behind (λ s h. others s (inr h)))
      where
        front : entry_as e ≡ row_as r
        front = cc

        behind : map entry_as es ≡ map row_as rows
        behind = cc

        name : key e.0 ≡ r.name
        name = ap (λ p. p.0) front

        -- the row's name against the other's
        order : cmp k e.0 ≡ slice_cmp nat_cmp row.name r.name
        order = ordered k e.0 ∙ ap₂ (slice_cmp nat_cmp) named name

        back : slice_cmp nat_cmp r.name row.name ≡ ordering_reverse (cmp k e.0)
        back = nat_list_cmp_total.antisymm r.name row.name ∙ ap ordering_reverse (sym order)

        by : (o : Ordering) → cmp k e.0 ≡ o → map entry_as (insert_entry cmp es k v) ≡ map row_as (with_named name_of row rows)
            → map entry_as (match_ordering o ((k, v) ∷ e ∷ es) ((e.0, v) ∷ es) (e ∷ insert_entry cmp es k v)) ≡ map row_as (if comes_before r.name row.name then r ∷ with_named name_of row rows else row ∷ (r ∷ rows))
        by Less is further =
            let greater : slice_cmp nat_cmp r.name row.name ≡ Greater = back ∙ ap ordering_reverse is in
            rw greater (ap₂ (λ p ps. p ∷ ps) (ap₂ (λ n w. (n, w)) named same) are)
        by Equal is further = absurd (others r (inl refl) (sym (equal row.name r.name (sym order ∙ is))))
          where
            equal : (m n : List ℕ) → slice_cmp nat_cmp m n ≡ Equal → m ≡ n
            equal m n h = (bytes_eq-Decides m n).0 (sym (is_eq-slice_cmp m n) ∙ ap is_eq h)
        by Greater is further =
            let less : slice_cmp nat_cmp r.name row.name ≡ Less = back ∙ ap ordering_reverse is in
            rw less (ap₂ (λ p ps. p ∷ ps) front further)

-- what stands behind so many
slice-behind : {A : Type 0} (xs : List A) (i p : ℕ) → slice_get (drop i xs) p ≡ slice_get xs (i + p)
slice-behind [] zero p = refl
slice-behind [] (suc i) p = refl
slice-behind (x ∷ xs) zero p = let e : 0 + p ≡ p = omega arith in rw e refl
slice-behind (x ∷ xs) (suc i) p = let e : suc i + p ≡ suc (i + p) = omega arith in rw e (slice-behind xs i p)

drop-from : {A : Type 0} (xs : List A) (i : ℕ) (x : A) → slice_get xs i ≡ Some x → drop i xs ≡ x ∷ drop (suc i) xs
drop-from [] i x h = none_some h
drop-from (y ∷ ys) zero x h = ap (λ z. z ∷ ys) (some_inj h)
drop-from (y ∷ ys) (suc i) x h = drop-from ys i x h

drop-past : {A : Type 0} (xs : List A) (i : ℕ) → slice_get xs i ≡ None → drop i xs ≡ []
drop-past [] zero h = refl
drop-past [] (suc i) h = refl
drop-past (y ∷ ys) zero h = none_some (sym h)
drop-past (y ∷ ys) (suc i) h = drop-past ys i h

no-rows : (i : ℕ) (names : List (List ℕ)) (states : List State) → states ≡ [] → rows_from i (zip names states) ≡ []
no-rows i [] states none = refl
no-rows i (n ∷ names) states none = rw none refl

-- ---- the map, from the last row on

module _ {E W : Type 0} (seen : E → W) (made : Row → W) (table : Table) where
  -- none so far
  pub placed-none : (from : ℕ) → length table.states ≤ from → IsPlaced seen made table from []
  placed-none from past = record { placed = λ distinct. sym (ap (λ rows. map made (in_name_order name_of rows)) (no-rows from (drop from table.names) (drop from table.states) (drop_of_length-le table.states past))) }

  -- a row whose name is missing
  placed-nameless : (from : ℕ) (es : List E) → slice_get table.names from ≡ None → IsPlaced seen made table (suc from) es → IsPlaced seen made table from es
  placed-nameless from es missing is = record {
    placed = λ distinct.
        let none : drop from table.names ≡ [] = drop-past table.names from missing in
        let further : drop (suc from) table.names ≡ [] = past-more table.names from none in
        is.placed distinct ∙ (ap (λ ns. map made (in_name_order name_of (rows_from (suc from) (zip ns (drop (suc from) table.states))))) further ∙ sym (ap (λ ns. map made (in_name_order name_of (rows_from from (zip ns (drop from table.states))))) none));
  }
    where
      past-more : {A : Type 0} (xs : List A) (i : ℕ) → drop i xs ≡ [] → drop (suc i) xs ≡ []
      past-more [] i e = refl
      past-more (x ∷ xs) zero e = absurd (cc)
      past-more (x ∷ xs) (suc i) e = past-more xs i e

module _ {K V W : Type 0} (cmp : K → K → Ordering) (key : K → List ℕ) (seen : V → W) (made : Row → W) (ordered : (x y : K) → cmp x y ≡ slice_cmp nat_cmp (key x) (key y)) (table : Table) where
  -- the entries are those of the rows from that number on
  abbrev pub ArePlaced : ℕ → List (K × V) → Type 0
  ArePlaced from es = IsPlaced (entry_as cmp key seen made) (row_as cmp key seen made) table from es

  -- one more
  placed-row : (from : ℕ) (es new : List (K × V)) (n : List ℕ) (state : State) → slice_get table.names from ≡ Some n → slice_get table.states from ≡ Some state → IsPut cmp key seen made es new (record { number = from; name = n; state = state }) → ArePlaced (suc from) es → ArePlaced from new
  placed-row from es new n state named at put is = record {
    placed = λ distinct.
        let row : Row = record { number = from; name = n; state = state } in
        let further : List Row = rows_from (suc from) (zip (drop (suc from) table.names) (drop (suc from) table.states)) in
        ap (map (entry_as cmp key seen made)) put.put
        ∙ (insert-row cmp key seen made ordered es (in_name_order name_of further) put.name put.value row put.named put.same (is.placed distinct) (λ r h e. twice distinct r (from-only (suc from) (drop (suc from) table.names) (drop (suc from) table.states) r (ordered-only name_of further r h)) e)
        ∙ sym (ap₂ (λ ns ss. map (row_as cmp key seen made) (in_name_order name_of (rows_from from (zip ns ss)))) (drop-from table.names from n named) (drop-from table.states from state at)));
  }
    where
      twice : are_distinct table.names ≡ true → (r : Row) → IsRowFrom (suc from) (drop (suc from) table.names) (drop (suc from) table.states) r → r.name ≡ n → ⊥
      twice distinct r known e =
          let there : slice_get table.names (suc from + known.place) ≡ Some n = sym (slice-behind table.names (suc from) known.place) ∙ (known.named ∙ ap Some e) in
          let one : suc from + known.place ≡ from = one_number table.names (suc from + known.place) from n distinct there named in
          omega (arith, one)

  -- the row of a number, whose name may be missing
  pub placed-at : (number : ℕ) (es new : List (K × V)) → number < length table.states → (slice_get table.names number ≡ None → new ≡ es)
      → ((n : List ℕ) (state : State) → slice_get table.names number ≡ Some n → slice_get table.states number ≡ Some state → IsPut cmp key seen made es new (record { number = number; name = n; state = state }))
      → ArePlaced (suc number) es → ArePlaced number new
  placed-at number es new within missing there before =
      let at = there-within table.states number within in
      by (slice_get table.names number) refl at.0 at.1
    where
      by : (o : Option (List ℕ)) → slice_get table.names number ≡ o → (state : State) → slice_get table.states number ≡ Some state → ArePlaced number new
      by None none state at = subst (ArePlaced number) (sym (missing none)) (placed-nameless (entry_as cmp key seen made) (row_as cmp key seen made) table number es none before)
      by (Some n) some state at = placed-row number es new n state some at (there n state some at) before

-- ---- the numbers alone, by borrowed names

abbrev pub Entry : Type 0
Entry = Bor (List ℕ) × ℕ

-- byte order of names
abbrev pub by_name : Bor (List ℕ) → Bor (List ℕ) → Ordering
by_name = λ x y. slice_cmp nat_cmp x.now y.now

module _ (table : Table) where
  abbrev pub AreNumbered : ℕ → List Entry → Type 0
  AreNumbered from es = IsPlaced entry_seen row_seen table from es

  -- the row of a number, whose name may be there
  pub placed-next : (count passed number : ℕ) (es new : List Entry) (name : Option (Bor (List ℕ))) → number ≡ count - passed - 1 → passed < count → count ≡ length table.states → option_map (λ (n : Bor (List ℕ)). n.now) name ≡ slice_get table.names number
      → AreNumbered (count - passed) es → (name ≡ None → new ≡ es) → ((k : Bor (List ℕ)) → name ≡ Some k → new ≡ insert_entry by_name es k number) → AreNumbered (count - (passed + 1)) new
  placed-next count passed number es new name is more all named placed missing there =
      let before : AreNumbered (suc number) es = subst (λ n. AreNumbered n es) (omega (arith, is, more)) placed in
      subst (λ n. AreNumbered n new) (omega (arith, is, more))
      (placed-at by_name (λ k. k.now) (λ n. n) (λ row. row.number) (λ x y. refl) table number es new (omega (arith, is, more, all)) (λ none. missing (absent none)) (λ n state some at. put name refl n state some) before)
    where
      absent : slice_get table.names number ≡ None → name ≡ None
      absent none = by name refl
        where
          by : (p : Option (Bor (List ℕ))) → name ≡ p → name ≡ None
          by None e = e
          by (Some k) e = none_some (sym none ∙ (sym named ∙ ap (option_map (λ (n : Bor (List ℕ)). n.now)) e))

      put : (o : Option (Bor (List ℕ))) → name ≡ o → (n : List ℕ) (state : State) → slice_get table.names number ≡ Some n → IsPut by_name (λ k. k.now) (λ n. n) (λ row. row.number) es new (record { number = number; name = n; state = state })
      put None none n state some = none_some (sym (ap (option_map (λ (m : Bor (List ℕ)). m.now)) none) ∙ (named ∙ some))
      put (Some k) is_k n state some = record {
        name = k;
        value = number;
        put = there k is_k;
        named = some_inj (sym (ap (option_map (λ (m : Bor (List ℕ)). m.now)) is_k) ∙ (named ∙ some));
        same = refl;
      }

  -- the numbers of all entries
  pub all-ordered : (entries : List Entry) (numbers : List ℕ) → AreNumbered 0 entries → numbers ≡ map (λ (e : Entry). e.1) entries → AreOrdered table numbers
  all-ordered entries numbers is these = record {
    ordered = λ distinct.
        these ∙ (firsts entries ∙ (ap (map (λ (p : List ℕ × ℕ). p.1)) (is.placed distinct) ∙ seconds (rows_of table)));
  }
    where
      firsts : (es : List Entry) → map (λ (e : Entry). e.1) es ≡ map (λ (p : List ℕ × ℕ). p.1) (map entry_seen es)
      firsts [] = refl
      firsts (e ∷ es) = ap (λ ns. e.1 ∷ ns) (firsts es)

      seconds : (rows : List Row) → map (λ (p : List ℕ × ℕ). p.1) (map row_seen rows) ≡ map (λ (row : Row). row.number) rows
      seconds [] = refl
      seconds (row ∷ rows) = ap (λ ns. row.number ∷ ns) (seconds rows)

-- ---- no number stands twice

-- the rows have different numbers
abbrev AreApart : List Row → Type 0
AreApart [] = ⊤
AreApart (row ∷ rows) = ((other : Row) → Among rows other → other.number ≢ row.number) × AreApart rows

-- those with one row more
with-among : (x z : Row) (rows : List Row) → Among (with_named name_of x rows) z → (x ≡ z) ⊎ Among rows z
with-among x z [] h = h
with-among x z (y ∷ ys) h = by (comes_before y.name x.name) h (with-among x z ys)
  where
    front : (x ≡ z) ⊎ Among ys z → (x ≡ z) ⊎ ((y ≡ z) ⊎ Among ys z)
    front (inl e) = inl e
    front (inr a) = inr (inr a)

    by : (b : Bool) → Among (if b then y ∷ with_named name_of x ys else x ∷ (y ∷ ys)) z → (Among (with_named name_of x ys) z → (x ≡ z) ⊎ Among ys z) → (x ≡ z) ⊎ ((y ≡ z) ⊎ Among ys z)
    by true (inl e) further = inr (inl e)
    by true (inr a) further = front (further a)
    by false a further = a

with-apart : (x : Row) (rows : List Row) → ((z : Row) → Among rows z → z.number ≢ x.number) → AreApart rows → AreApart (with_named name_of x rows)
with-apart x [] new apart = (λ z h. absurd h, tt)
with-apart x (y ∷ ys) new apart = by (comes_before y.name x.name) (with-apart x ys (λ z h. new z (inr h)) apart.1)
  where
    front : (z : Row) → (x ≡ z) ⊎ Among ys z → z.number ≢ y.number
    front z (inl e) same = new y (inl refl) (sym (ap (λ (r : Row). r.number) e ∙ same))
    front z (inr a) same = apart.0 z a same

    by : (b : Bool) → AreApart (with_named name_of x ys) → AreApart (if b then y ∷ with_named name_of x ys else x ∷ (y ∷ ys))
    by true further = (λ z h. front z (with-among x z ys h), further)
    by false further = (new, apart)

order-apart : (rows : List Row) → AreApart rows → AreApart (in_name_order name_of rows)
order-apart [] apart = tt
order-apart (x ∷ xs) apart = with-apart x (in_name_order name_of xs) (λ z h. apart.0 z (ordered-only name_of xs z h)) (order-apart xs apart.1)

-- those of a table
from-apart : (i : ℕ) (names : List (List ℕ)) (states : List State) → AreApart (rows_from i (zip names states))
from-apart i [] states = tt
from-apart i (n ∷ names) [] = tt
from-apart i (n ∷ names) (state ∷ states) = (λ z h. later z (from-only (suc i) names states z h), from-apart (suc i) names states)
  where
    later : (z : Row) → IsRowFrom (suc i) names states z → z.number ≢ i
    later z known same = omega (arith, same, known.number)

-- the row of a number in the list
numbered-row : (rows : List Row) (i n : ℕ) → slice_get (map (λ (row : Row). row.number) rows) i ≡ Some n → (row : Row) × Among rows row × (row.number ≡ n)
numbered-row [] i n h = none_some h
numbered-row (r ∷ rows) zero n h = (r, inl refl, some_inj h)
numbered-row (r ∷ rows) (suc i) n h =
    let further = numbered-row rows i n h in
    (further.0, inr further.1, further.2)

apart-once : (rows : List Row) → AreApart rows → (i j n : ℕ) → slice_get (map (λ (row : Row). row.number) rows) i ≡ Some n → slice_get (map (λ (row : Row). row.number) rows) j ≡ Some n → i ≡ j
apart-once [] apart i j n a b = none_some a
apart-once (r ∷ rows) apart zero zero n a b = refl
apart-once (r ∷ rows) apart zero (suc j) n a b =
    let other = numbered-row rows j n b in
    absurd (apart.0 other.0 other.1 (other.2 ∙ sym (some_inj a)))
apart-once (r ∷ rows) apart (suc i) zero n a b =
    let other = numbered-row rows i n a in
    absurd (apart.0 other.0 other.1 (other.2 ∙ sym (some_inj b)))
apart-once (r ∷ rows) apart (suc i) (suc j) n a b = ap suc (apart-once rows apart.1 i j n a b)

-- the numbers in the order of the names
pub stand-once : (table : Table) (numbers : List ℕ) → AreOrdered table numbers → are_distinct table.names ≡ true → StandOnce numbers
stand-once table numbers are distinct = record {
  once = λ i j n a b. apart-once (rows_of table) (order-apart (rows_from 0 (zip table.names table.states)) (from-apart 0 table.names table.states)) i j n (there i n a) (there j n b);
}
  where
    there : (i n : ℕ) → slice_get numbers i ≡ Some n → slice_get (map (λ (row : Row). row.number) (rows_of table)) i ≡ Some n
    there i n h = ap (λ ns. slice_get ns i) (sym (are.ordered distinct)) ∙ h
