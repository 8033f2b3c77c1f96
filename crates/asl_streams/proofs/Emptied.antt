-- The keywords of a shape with an empty object in the place of what stands under `properties`: what they say, and the number
-- of the shape.
use Rattle.std.proofs.Common.{◌≡◌, ℕ, List, [], ◌∷◌, Bool, true, false, Option, Some, None, Ok, codes, bytes_eq, if◌then◌else◌, Ordering, Less, Equal, Greater, nat_cmp, refl, sym, ap, ◌∙◌, subst}
use Rattle.std.specs.Cmp.Lexicographic.{slice_cmp}
use Rattle.std.specs.Ordering.{is_eq, match_ordering}
use Rattle.std.proofs.lemmas.Slice.Eq.{bytes_eq-Decides}
use Rattle.asl_model.specs.Shape.{Shape, Simple, ObjectShape}
use Rattle.asl_model.specs.ShapeSpelling.{ShapeFault, BadType, annotations, is_among, foreign_faults, simple_named, typed_faults, types_in, with_all_needed}
use Rattle.asl_model.specs.Tree.{Tree, Object, Fields, NoFields, AndField, field_named}
use Rattle.asl_shape.specs.Level.{OfTypes, ObjectLevel, SpelledOver, level_of, level_faults, typed_level, only_if, array_level, object_level}
use Rattle.asl_shape.proofs.Mentions.{equal_names, not_equal}
use Rattle.asl_shape.proofs.Wholes.{over}
use Rattle.asl_numbered.specs.Expansion.{fields_at, IsNumberOf}
use Rattle.asl_numbered.specs.Laws.{keeps_same}
use Rattle.asl_numbered.specs.Names.{Name}
use Rattle.asl_numbered.specs.Reading.{AreArraysRead, IsRead}
use Rattle.asl_numbered.specs.References.{without_arrays}
use Rattle.asl_numbered.specs.TakenApart.{kinds_at}
use Rattle.asl_numbered.specs.declared.kinds.KindNumbers.{KindNumbers}
use Rattle.asl_numbered.specs.declared.node.NodeField.{NodeField}
use Rattle.asl_numbered.proofs.Readings.{kinds_read, object_read, over_answer}
use Rattle.asl_streams.specs.Shaped.{IsAround, emptied, emptied_at}
use Rattle.asl_tree.proofs.Views.{put}

abbrev properties : List ℕ
properties = codes "properties"

-- ---- names

itself : (k : List ℕ) → bytes_eq k k ≡ true
itself k = (bytes_eq-Decides k k).1 refl

-- a name that is another than that of the properties isn't theirs
apart : (m n : List ℕ) → bytes_eq properties n ≡ false → bytes_eq m n ≡ true → bytes_eq m properties ≡ false
apart m n other same = by (bytes_eq m properties) refl
  where
    by : (b : Bool) → bytes_eq m properties ≡ b → b ≡ false
    by false is = refl
    by true is =
        let theirs : m ≡ properties = (bytes_eq-Decides m properties).0 is in
        let both : bytes_eq properties n ≡ true = subst (λ k. bytes_eq k n ≡ true) theirs same in
        absurd (cc)

-- ---- one more field

pub there_put : (k : List ℕ) (t : Tree) (fs : Fields) → field_named k (put k t fs) ≡ Some t
there_put k t NoFields = rw (itself k) refl
there_put k t (AndField m u fs) = go (slice_cmp nat_cmp k m) refl (there_put k t fs)
  where
    go : (o : Ordering) → slice_cmp nat_cmp k m ≡ o → field_named k (put k t fs) ≡ Some t
        → field_named k (match_ordering o (AndField k t (AndField m u fs)) (AndField m t fs) (AndField m u (put k t fs))) ≡ Some t
    go Less is later = rw (itself k) refl
    go Equal is later = rw ((bytes_eq-Decides m k).1 (sym (equal_names k m is))) refl
    go Greater is later = rw (not_equal k m (ap is_eq is)) later

pub before_put : (n k : List ℕ) (t : Tree) (fs : Fields) → bytes_eq k n ≡ false → field_named n (put k t fs) ≡ field_named n fs
before_put n k t NoFields other = rw other refl
before_put n k t (AndField m u fs) other = go (slice_cmp nat_cmp k m) refl (before_put n k t fs other)
  where
    go : (o : Ordering) → slice_cmp nat_cmp k m ≡ o → field_named n (put k t fs) ≡ field_named n fs
        → field_named n (match_ordering o (AndField k t (AndField m u fs)) (AndField m t fs) (AndField m u (put k t fs))) ≡ field_named n (AndField m u fs)
    go Less is later = rw other refl
    go Equal is later =
        let own : bytes_eq m n ≡ false = subst (λ x. bytes_eq x n ≡ false) (equal_names k m is) other in
        rw own refl
    go Greater is later = ap (λ found. if bytes_eq m n then Some u else found) later

pub emptied_put : (k : List ℕ) (t : Tree) (fs : Fields) → emptied (put k t fs) ≡ put k (emptied_at k t) (emptied fs)
emptied_put k t NoFields = refl
emptied_put k t (AndField m u fs) = go (slice_cmp nat_cmp k m) refl (emptied_put k t fs)
  where
    go : (o : Ordering) → slice_cmp nat_cmp k m ≡ o → emptied (put k t fs) ≡ put k (emptied_at k t) (emptied fs)
        → emptied (match_ordering o (AndField k t (AndField m u fs)) (AndField m t fs) (AndField m u (put k t fs)))
        ≡ match_ordering o (AndField k (emptied_at k t) (AndField m (emptied_at m u) (emptied fs))) (AndField m (emptied_at k t) (emptied fs)) (AndField m (emptied_at m u) (put k (emptied_at k t) (emptied fs)))
    go Less is later = refl
    go Equal is later = ap (λ n. AndField m (emptied_at n t) (emptied fs)) (sym (equal_names k m is))
    go Greater is later = ap (AndField m (emptied_at m u)) later

-- ---- what the fields say

-- without properties they are as they were
pub emptied_none : (fs : Fields) → field_named properties fs ≡ None → emptied fs ≡ fs
emptied_none NoFields none = refl
emptied_none (AndField m t fs) none = by (bytes_eq m properties) none (emptied_none fs)
  where
    by : (b : Bool) → (if b then Some t else field_named properties fs) ≡ None → (field_named properties fs ≡ None → emptied fs ≡ fs) → AndField m (if b then Object NoFields else t) (emptied fs) ≡ AndField m t fs
    by true gone later = absurd (cc)
    by false gone later = ap (AndField m t) (later gone)

named_emptied : (n : List ℕ) (fs : Fields) → bytes_eq properties n ≡ false → field_named n (emptied fs) ≡ field_named n fs
named_emptied n NoFields other = refl
named_emptied n (AndField m t fs) other = by (bytes_eq m n) refl (named_emptied n fs other)
  where
    by : (b : Bool) → bytes_eq m n ≡ b → field_named n (emptied fs) ≡ field_named n fs → (if b then Some (emptied_at m t) else field_named n (emptied fs)) ≡ (if b then Some t else field_named n fs)
    by true is later = rw (apart m n other is) refl
    by false is later = later

properties_emptied : (fs : Fields) (t : Tree) → field_named properties fs ≡ Some t → field_named properties (emptied fs) ≡ Some (Object NoFields)
properties_emptied NoFields t there = absurd (cc)
properties_emptied (AndField m u fs) t there = by (bytes_eq m properties) there (properties_emptied fs t)
  where
    by : (b : Bool) → (if b then Some u else field_named properties fs) ≡ Some t → (field_named properties fs ≡ Some t → field_named properties (emptied fs) ≡ Some (Object NoFields)) → (if b then Some (if b then Object NoFields else u) else field_named properties (emptied fs)) ≡ Some (Object NoFields)
    by true found later = refl
    by false found later = later found

foreign_emptied : (fault : ShapeFault) (known : List (List ℕ)) (fs : Fields) → foreign_faults fault known (emptied fs) ≡ foreign_faults fault known fs
foreign_emptied fault known NoFields = refl
foreign_emptied fault known (AndField m t fs) = ap (λ faults. if is_among m known then faults else fault ∷ faults) (foreign_emptied fault known fs)

typed_emptied : (several : Bool) (o : Option Tree) (fs : Fields) (arrays objects : List ShapeFault) → typed_faults several o (emptied fs) arrays objects ≡ typed_faults several o fs arrays objects
typed_emptied several None fs arrays objects = foreign_emptied BadType annotations fs
typed_emptied several (Some t) fs arrays objects = rw (foreign_emptied _ _ fs) refl

faults_emptied : (several : Bool) (fs ps : Fields) → field_named properties fs ≡ Some (Object ps) → level_faults several (Object fs) ≡ level_faults several (Object (emptied fs))
faults_emptied several fs ps there =
    rw (named_emptied (codes "type") fs refl, named_emptied (codes "prefixItems") fs refl, named_emptied (codes "minItems") fs refl, named_emptied (codes "required") fs refl, named_emptied (codes "additionalProperties") fs refl, properties_emptied fs (Object ps) there, there)
    (sym (typed_emptied several (field_named (codes "type") fs) fs _ _))

-- ---- the level

none_only : {A : Type 0} (wanted : Bool) (a b : A) → only_if wanted a ≡ None → only_if wanted b ≡ None
none_only true a b none = absurd (cc)
none_only false a b none = refl

some_only : {A : Type 0} (wanted : Bool) (a b c : A) → only_if wanted a ≡ Some b → only_if wanted c ≡ Some c
some_only true a b c some = refl
some_only false a b c some = absurd (cc)

is_only : {A : Type 0} (wanted : Bool) (a b : A) → only_if wanted a ≡ Some b → a ≡ b
is_only true a b some = cc
is_only false a b some = absurd (cc)

-- what is said of objects, with those properties
abbrev with_those : Fields → ObjectLevel → ObjectLevel
with_those ps object = record { properties = ps; names = object.names; extra = object.extra }

object_emptied : (fs ps : Fields) → field_named properties fs ≡ Some (Object ps) → object_level fs ≡ with_those ps (object_level (emptied fs))
object_emptied fs ps there =
    rw (there, named_emptied (codes "required") fs refl, named_emptied (codes "additionalProperties") fs refl) refl

level_emptied : (fs ps : Fields) (simple : Simple) (object : ObjectLevel) → field_named properties fs ≡ Some (Object ps) → level_of (Object (emptied fs)) ≡ OfTypes simple None (Some object) → level_of (Object fs) ≡ OfTypes simple None (Some (with_those ps object))
level_emptied fs ps simple object there is =
    by (types_in (field_named (codes "type") fs)) (subst (λ o. typed_level (types_in o) (emptied fs) ≡ OfTypes simple None (Some object)) (named_emptied (codes "type") fs refl) is)
  where
    by : (names : List (List ℕ)) → typed_level names (emptied fs) ≡ OfTypes simple None (Some object) → typed_level names fs ≡ OfTypes simple None (Some (with_those ps object))
    by [] said = absurd (cc)
    by (n ∷ names) said =
        let all = n ∷ names in
        let first : simple_named all ≡ simple = cc in
        let lists : only_if (is_among (codes "array") all) (array_level (emptied fs)) ≡ None = cc in
        let objects : only_if (is_among (codes "object") all) (object_level (emptied fs)) ≡ Some object = cc in
        let none = none_only (is_among (codes "array") all) (array_level (emptied fs)) (array_level fs) lists in
        let some = some_only (is_among (codes "object") all) (object_level (emptied fs)) object (object_level fs) objects in
        let own : object_level (emptied fs) ≡ object = is_only (is_among (codes "object") all) (object_level (emptied fs)) object objects in
        let object_same : only_if (is_among (codes "object") all) (object_level fs) ≡ Some (with_those ps object) = some ∙ ap Some (object_emptied fs ps there ∙ ap (with_those ps) own) in
        rw (first, none, object_same) refl

pub over_emptied : (several : Bool) (fs ps : Fields) (simple : Simple) (object : ObjectLevel) → field_named properties fs ≡ Some (Object ps) → SpelledOver several (Object (emptied fs)) (OfTypes simple None (Some object)) → SpelledOver several (Object fs) (OfTypes simple None (Some (with_those ps object)))
over_emptied several fs ps simple object there spelled =
    over several (Object fs) (OfTypes simple None (Some (with_those ps object))) (level_emptied fs ps simple object there spelled.same) (faults_emptied several fs ps there ∙ spelled.none_wrong)

-- ---- the number

pub around_read : (several : Bool) (given : Option (List Shape)) (fs : Fields) (t : Tree) (start middle now : List Shape) (es : List (Name × NodeField)) (object : ObjectLevel) (kinds : KindNumbers) (m n : ℕ) → IsAround several given start fs t es
    → kinds.arrays ≡ None → kinds.objects ≡ Some m
    → SpelledOver several t (OfTypes (record { null = kinds.null; boolean = kinds.boolean; integer = kinds.integer; text = kinds.text }) None (Some object))
    → IsNumberOf middle (ObjectShape (with_all_needed object.extra object.names (fields_at start es)) object.extra) m → IsNumberOf now (kinds_at middle kinds) n → IsRead several given (Object fs) now n
around_read several given fs t start middle now es object kinds m n around no_arrays some_objects spelled objects is =
    let ps = around.properties in
    let simple : Simple = record { null = kinds.null; boolean = kinds.boolean; integer = kinds.integer; text = kinds.text } in
    let over = over_emptied several fs ps simple object around.there (subst (λ u. SpelledOver several u (OfTypes simple None (Some object))) around.same spelled) in
    let lists : AreArraysRead several given None middle None = record { within = tt; spelled = without_arrays } in
    let read = object_read several given (with_those ps object) start middle es m around.read objects in
    let whole = kinds_read several given None (Some (with_those ps object)) middle middle now kinds n (keeps_same middle) (rw no_arrays lists) (rw some_objects read) is in
    over_answer several given (Object fs) (OfTypes simple None (Some (with_those ps object))) now (Ok n) over whole
