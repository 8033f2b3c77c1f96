-- Shapes of a table taken apart kind by kind, and put together.
use Rattle.std.proofs.Common.{◌≡◌, ◌<◌, ◌≤◌, ℕ, List, [], ◌∷◌, ◌++◌, length, map, get_or, Bool, true, Option, Some, None, refl, sym, ap, ◌∙◌, subst, append_assoc, arith}
use Rattle.std.proofs.lemmas.List.{map-append}
use Rattle.std.specs.Option.{option_or}
use Rattle.asl_model.specs.Shape.{Shape, Never}
use Rattle.asl_shape.specs.View.{merged, with_kinds, first_arrays, first_objects}
use Rattle.asl_shape.proofs.Merging.{with_none, with_assoc}
use Rattle.asl_numbered.specs.declared.kinds.NodeKinds.{NodeKinds}
use Rattle.asl_numbered.specs.declared.kinds.NodeArrays.{NodeArrays}
use Rattle.asl_numbered.specs.declared.kinds.NodeObjects.{NodeObjects}
use Rattle.asl_numbered.specs.Expansion.{shape_at, AreBelow, IsNumberOf, AreDistinct, Keeps}
use Rattle.asl_numbered.specs.TakenApart.{arrays_over, objects_over, kinds_over, both_kinds, AreArraysIfAny, AreObjectsIfAny, AreKindsAt, AreListed, part_if}
use Rattle.asl_numbered.proofs.Expansions.{list_stays}
use Rattle.asl_numbered.specs.Laws.{below-append, below-wider, keeps_longer}

-- ---- kinds of two

or-arrays : (table : List Shape) (a b : Option NodeArrays) → arrays_over table (option_or a b) ≡ first_arrays (arrays_over table a) (arrays_over table b)
or-arrays table None b = refl
or-arrays table (Some a) b = refl

or-objects : (table : List Shape) (a b : Option NodeObjects) → objects_over table (option_or a b) ≡ first_objects (objects_over table a) (objects_over table b)
or-objects table None b = refl
or-objects table (Some a) b = refl

both-over : (table : List Shape) (a b : NodeKinds) → kinds_over table (both_kinds a b) ≡ with_kinds (kinds_over table a) (kinds_over table b)
both-over table a b = rw (or-arrays table a.arrays b.arrays, or-objects table a.objects b.objects) refl

wider-arrays : (table : List Shape) (m n : ℕ) (a : Option NodeArrays) → m ≤ n → AreArraysIfAny table m a → AreArraysIfAny table n a
wider-arrays table m n None h are = tt
wider-arrays table m n (Some a) h are = record { within = omega (arith, h, are.within); alone = are.alone; first = are.first; rest = are.rest }

wider-objects : (table : List Shape) (m n : ℕ) (a : Option NodeObjects) → m ≤ n → AreObjectsIfAny table m a → AreObjectsIfAny table n a
wider-objects table m n None h are = tt
wider-objects table m n (Some a) h are = record { within = omega (arith, h, are.within); alone = are.alone; fields = are.fields }

both-arrays : (table : List Shape) (n : ℕ) (a b : Option NodeArrays) → AreArraysIfAny table n a → AreArraysIfAny table n b → AreArraysIfAny table n (option_or a b)
both-arrays table n None b h i = i
both-arrays table n (Some a) b h i = h

both-objects : (table : List Shape) (n : ℕ) (a b : Option NodeObjects) → AreObjectsIfAny table n a → AreObjectsIfAny table n b → AreObjectsIfAny table n (option_or a b)
both-objects table n None b h i = i
both-objects table n (Some a) b h i = h

pub both_at : (table : List Shape) (m n : ℕ) (a b c : NodeKinds) → c ≡ both_kinds a b → m ≤ n → AreKindsAt table n a → AreKindsAt table m b → AreKindsAt table n c
both_at table m n a b c e h own other =
    rw e (record { arrays = both-arrays table n a.arrays b.arrays own.arrays (wider-arrays table m n b.arrays h other.arrays); objects = both-objects table n a.objects b.objects own.objects (wider-objects table m n b.objects h other.objects) })

-- one more part
pub taken_next : (table : List Shape) (all now left : List Shape) (s : Shape) (a b c : NodeKinds) → merged all ≡ with_kinds (kinds_over table a) (merged now) → now ≡ s ∷ left → kinds_over table b ≡ s → c ≡ both_kinds a b → merged all ≡ with_kinds (kinds_over table c) (merged left)
taken_next table all now left s a b c so_far split is e =
    so_far ∙ ap (λ ss. with_kinds (kinds_over table a) (merged ss)) split ∙ ap (λ x. with_kinds (kinds_over table a) (with_kinds x (merged left))) (sym is)
    ∙ sym (with_assoc (kinds_over table a) (kinds_over table b) (merged left))
    ∙ ap (λ x. with_kinds x (merged left)) (sym (both-over table a b)) ∙ ap (λ k. with_kinds (kinds_over table k) (merged left)) (sym e)

-- ---- numbers listed

pub listed_kept : (old new ss : List Shape) (ns : List ℕ) → Keeps old new → AreListed old ss ns → AreListed new ss ns
listed_kept old new ss ns keeps are =
    record { within = below-wider (length old) (length new) ns (keeps_longer old new keeps) are.within; same = ap (λ t. map (shape_at t) ns) keeps.whole ∙ list_stays old keeps.added ns are.within ∙ are.same }

pub listed_more : (table ss ts : List Shape) (ns ms : List ℕ) → AreListed table ss ns → AreListed table ts ms → AreListed table (ss ++ ts) (ns ++ ms)
listed_more table ss ts ns ms are more =
    record { within = below-append (length table) ns ms are.within more.within; same = map-append (shape_at table) ns ms ∙ rw (are.same, more.same) refl }

pub listed_none : (table : List Shape) → AreListed table [] []
listed_none table = record { within = tt; same = refl }

pub listed_one : (table : List Shape) (s : Shape) (n : ℕ) → IsNumberOf table s n → AreListed table (s ∷ []) (n ∷ [])
listed_one table s n is = record { within = (is.within, tt); same = ap (λ x. x ∷ []) is.same }

-- the shape of a number is that of no other
pub number_there : (table : List Shape) (n : ℕ) (s : Shape) → AreDistinct table → n < length table → shape_at table n ≡ s → IsNumberOf table s n
number_there table n s distinct within e = record { within = within; same = e; alone = λ m h same. distinct.apart m n h within (same ∙ sym e) }

-- one more shape, if it is wanted
pub listed_if : (old new ss : List Shape) (s : Shape) (ns ms : List ℕ) (n : ℕ) (wanted : Bool) → wanted ≡ true → Keeps old new → IsNumberOf new s n → ms ≡ ns ++ n ∷ [] → AreListed old ss ns → AreListed new (ss ++ part_if wanted s) ms
listed_if old new ss s ns ms n wanted e keeps is more are =
    rw (e, more) (listed_more new ss (s ∷ []) ns (n ∷ []) (listed_kept old new ss ns keeps are) (listed_one new s n is))

-- the numbers of all kinds, listed one after another
pub all_listed : (table a b i n o t : List Shape) (ns : List ℕ) → AreListed table (((((([] ++ a) ++ b) ++ i) ++ n) ++ o) ++ t) ns → AreListed table (a ++ (b ++ (i ++ (n ++ (o ++ t))))) ns
all_listed table a b i n o t ns are =
    let first = append_assoc (((a ++ b) ++ i) ++ n) o t in
    let second = append_assoc ((a ++ b) ++ i) n (o ++ t) in
    let third = append_assoc (a ++ b) i (n ++ (o ++ t)) in
    let last = append_assoc a b (i ++ (n ++ (o ++ t))) in
    subst (λ ss. AreListed table ss ns) (first ∙ second ∙ third ∙ last) are

-- one part alone
pub one_together : (table : List Shape) (ns : List ℕ) (n : ℕ) → AreDistinct table → AreBelow (length table) ns → length ns ≡ 1 → n ≡ get_or ns 0 n → IsNumberOf table (merged (map (shape_at table) ns)) n
one_together table [] n distinct within one is = absurd (omega (arith, one))
one_together table (m ∷ (k ∷ ns)) n distinct within one is = absurd (omega (arith, one))
one_together table (m ∷ []) n distinct within one is =
    let own : n ≡ m = is in
    rw own (number_there table m (with_kinds (shape_at table m) Never) distinct within.0 (sym (with_none (shape_at table m))))
