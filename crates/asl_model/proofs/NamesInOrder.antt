-- The order of names by bytes, and mentions that stand in it.
use Rattle.std.proofs.Common.{◌≡◌, ℕ, List, Bool, true, false, Some, None, refl, sym, Ordering}
use Rattle.std.specs.Prelude.{IsTrue, bytes_eq}
use Rattle.std.specs.Ordering.{nat_cmp, match_ordering}
use Rattle.std.specs.declared.cmp.Ordering.TheVariants.{Less, Equal, Greater}
use Rattle.std.specs.Cmp.Lexicographic.{slice_cmp}
use Rattle.std.proofs.lemmas.Bool.{false≢true}
use Rattle.std.proofs.lemmas.Cmp.{nat_list_cmp_total, tied_itself}
use Rattle.std.proofs.lemmas.Slice.Eq.{bytes_eq-Decides}
use Rattle.asl_model.specs.Tree.{comes_before}
use Rattle.asl_model.specs.Shape.{Shape, FieldShapes, NoFieldShapes, AndFieldShape, before_mentions, AreOrderedFields}
use Rattle.asl_model.specs.ShapeOrder.{mention_of}

pub comes_before-Less : (m n : List ℕ) → IsTrue (comes_before m n) → slice_cmp nat_cmp m n ≡ Less
comes_before-Less m n h = go (slice_cmp nat_cmp m n) h
  where
    go : (o : Ordering) → match_ordering o true false false ≡ true → o ≡ Less
    go Less h' = refl
    go Equal h' = absurd (false≢true h')
    go Greater h' = absurd (false≢true h')

pub comes_before-trans : (m n k : List ℕ) → IsTrue (comes_before m n) → IsTrue (comes_before n k) → IsTrue (comes_before m k)
comes_before-trans m n k first second =
    let less : slice_cmp nat_cmp m k ≡ Less = nat_list_cmp_total.trans m n k (comes_before-Less m n first) (comes_before-Less n k second) in
    rw less refl

pub comes_before-other : (m n : List ℕ) → IsTrue (comes_before m n) → bytes_eq m n ≡ false
comes_before-other m n h = go (bytes_eq m n) refl
  where
    go : (b : Bool) → bytes_eq m n ≡ b → bytes_eq m n ≡ false
    go false e = e
    go true e =
        let same : m ≡ n = (bytes_eq-Decides m n).0 e in
        let less : slice_cmp nat_cmp n n ≡ Less = comes_before-Less n n (rw same at h) in
        let tied : slice_cmp nat_cmp n n ≡ Equal = tied_itself nat_list_cmp_total n in
        absurd (cc)

pub bytes_eq-comm : (m n : List ℕ) → bytes_eq m n ≡ false → bytes_eq n m ≡ false
bytes_eq-comm m n h = go (bytes_eq n m) refl
  where
    go : (b : Bool) → bytes_eq n m ≡ b → bytes_eq n m ≡ false
    go false e = e
    go true e =
        let same : n ≡ m = (bytes_eq-Decides n m).0 e in
        let again : bytes_eq m n ≡ true = (bytes_eq-Decides m n).1 (sym same) in
        absurd (cc)

-- the name comes before every mention
abbrev pub BeforeAll : List ℕ → FieldShapes → Type 0
BeforeAll n NoFieldShapes = Unit {0}
BeforeAll n (AndFieldShape m needed s shapes) = IsTrue (comes_before n m) × BeforeAll n shapes

pub before_more : (n m : List ℕ) (shapes : FieldShapes) → IsTrue (comes_before n m) → IsTrue (before_mentions m shapes) → IsTrue (before_mentions n shapes)
before_more n m NoFieldShapes first second = refl
before_more n m (AndFieldShape k needed s shapes) first second = comes_before-trans n m k first second

pub before_all : (n : List ℕ) (shapes : FieldShapes) → IsTrue (before_mentions n shapes) → AreOrderedFields shapes → BeforeAll n shapes
before_all n NoFieldShapes h ordered = tt
before_all n (AndFieldShape m needed s shapes) h ordered = (h, before_all n shapes (before_more n m shapes h ordered.0) ordered.2)

-- a name before all isn't mentioned
pub before-none : (n : List ℕ) (shapes : FieldShapes) → BeforeAll n shapes → mention_of n shapes ≡ None
before-none n NoFieldShapes h = refl
before-none n (AndFieldShape m needed s shapes) h = rw (bytes_eq-comm n m (comes_before-other n m h.0)) (before-none n shapes h.1)

-- each of the second mentions is the first of its name among the first ones
abbrev pub AreFirst : FieldShapes → FieldShapes → Type 0
AreFirst whole NoFieldShapes = Unit {0}
AreFirst whole (AndFieldShape n needed s shapes) = (mention_of n whole ≡ Some (needed, s)) × AreFirst whole shapes

-- so they are behind a mention whose name comes before theirs
first-behind : (n : List ℕ) (needed : Bool) (s : Shape) (whole shapes : FieldShapes) → BeforeAll n shapes → AreFirst whole shapes → AreFirst (AndFieldShape n needed s whole) shapes
first-behind n needed s whole NoFieldShapes before first = tt
first-behind n needed s whole (AndFieldShape m other t shapes) before first = (rw (comes_before-other n m before.0) first.0, first-behind n needed s whole shapes before.1 first.1)

-- of mentions in order each is the first of its name
pub ordered-first : (shapes : FieldShapes) → AreOrderedFields shapes → AreFirst shapes shapes
ordered-first NoFieldShapes ordered = tt
ordered-first (AndFieldShape n needed s shapes) ordered = (rw ((bytes_eq-Decides n n).1 refl) refl, first-behind n needed s shapes shapes (before_all n shapes ordered.0 ordered.2) (ordered-first shapes ordered.2))
