-- A name that comes behind all that a map has goes last.
use Rattle.std.proofs.Common.{◌≡◌, ℕ, List, [], ◌∷◌, ◌++◌, map, String, Global, string_bytes, nat_cmp, Ordering, Less, Greater, refl, ap, ◌∙◌}
use Rattle.std.proofs.lemmas.Cmp.{nat_list_cmp_total}
use Rattle.std.specs.BTreeMap.{insert_entry}
use Rattle.std.specs.Cmp.Lexicographic.{slice_cmp}
use Rattle.std.specs.List.{AllByRecursion}
use Rattle.std.specs.List.Sorted.{IsStrictlySortedBy}
use Rattle.std.specs.Map.{keys_of}
use Rattle.std.specs.Ordering.{ordering_reverse}
use Rattle.std.specs.Rc.{rc_str_bytes}
use Rattle.asl_numbered.specs.Names.{Name, name_cmp}

-- the names, as bytes
abbrev pub names : {X : Type 0} → List (String Global × X) → List (List ℕ)
names es = map (λ e. string_bytes e.0) es

abbrev pub shared_names : {X : Type 0} → List (Name × X) → List (List ℕ)
shared_names es = map (λ e. rc_str_bytes e.0) es

-- ---- keys that are compared by their bytes

abbrev pub by_bytes : {K : Type 0} → (K → List ℕ) → K → K → Ordering
by_bytes bytes a b = slice_cmp nat_cmp (bytes a) (bytes b)

below_middle : {K V : Type 0} (bytes : K → List ℕ) (first : K × V) (es : List (K × V)) (e : K × V) (more : List (K × V)) → AllByRecursion (λ y. by_bytes bytes first.0 y ≡ Less) (keys_of (es ++ e ∷ more)) → by_bytes bytes first.0 e.0 ≡ Less
below_middle bytes first [] e more h = h.0
below_middle bytes first (x ∷ es) e more h = below_middle bytes first es e more h.1

pub after_first_by : {K V : Type 0} (bytes : K → List ℕ) (first : K × V) (es : List (K × V)) (e : K × V) (more : List (K × V)) → AllByRecursion (λ y. by_bytes bytes first.0 y ≡ Less) (keys_of (es ++ e ∷ more)) → by_bytes bytes e.0 first.0 ≡ Greater
after_first_by bytes first es e more h = nat_list_cmp_total.antisymm (bytes e.0) (bytes first.0) ∙ ap ordering_reverse (below_middle bytes first es e more h)

pub appended_by : {K L X Y : Type 0} (own : K → List ℕ) (other : L → List ℕ) (done : List (K × X)) (m : K × X) (more : List (K × X)) (es : List (L × Y)) (k : L) (v : Y) → IsStrictlySortedBy (by_bytes own) (keys_of (done ++ m ∷ more)) → map (λ e. other e.0) es ≡ map (λ e. own e.0) done → other k ≡ own m.0
    → insert_entry (by_bytes other) es k v ≡ es ++ (k, v) ∷ []
unfolding IsStrictlySortedBy
appended_by own other [] m more [] k v h same named = refl
appended_by own other [] m more (e ∷ es) k v h same named = absurd (cc)
appended_by own other (first ∷ done) m more [] k v h same named = absurd (cc)
appended_by own other (first ∷ done) m more (e ∷ es) k v h same named =
    let first_name : other e.0 ≡ own first.0 = cc in
    let others : map (λ e. other e.0) es ≡ map (λ e. own e.0) done = cc in
    let above : slice_cmp nat_cmp (other k) (other e.0) ≡ Greater = rw (named, first_name) (after_first_by own first done m more h.0) in
    rw above (ap (λ x. e ∷ x) (appended_by own other done m more es k v h.1 others named))

-- ---- names that are shared

-- a name comes after the first of those before it
pub after_first : {V : Type 0} (first : Name × V) (es : List (Name × V)) (e : Name × V) (more : List (Name × V)) → AllByRecursion (λ y. name_cmp first.0 y ≡ Less) (keys_of (es ++ e ∷ more)) → slice_cmp nat_cmp (rc_str_bytes e.0) (rc_str_bytes first.0) ≡ Greater
after_first first es e more h = after_first_by rc_str_bytes first es e more h
