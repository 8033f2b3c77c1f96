-- Shapes of one kind each, in byte order of the names of their types, and what they are together.
use Rattle.std.proofs.Common.{◌≡◌, ◌<◌, ◌≤◌, ◌↔◌, ◌+◌, ℕ, suc, List, [], ◌∷◌, ◌++◌, length, map, drop, get_or, Bool, true, false, ◌&&◌, ◌||◌, cond, if◌then◌else◌, eqb, Option, Some, None, subst, refl, sym, ap, ◌∙◌, arith}
use Rattle.std.proofs.Math.Seq.{drop-cons}
use Rattle.std.proofs.lemmas.List.{length-append}
use Rattle.std.specs.List.{list_any, list_all}
use Rattle.std.specs.Prelude.{IfSome}
use Rattle.asl_model.specs.Shape as model
use Rattle.asl_model.specs.Shape.{Shape, Any, OfKinds, Simple, Arrays, WithoutArrays, ArraysOf, Objects, WithoutObjects, ObjectsOf, Never, BooleanShape, IntegerShape, NullShape, StringShape, inhabited, has_several, are_several, type_names, name_if, has_arrays, has_objects}
use Rattle.asl_model.specs.ShapeOrder.{takes_all, takes_all_arrays, takes_all_objects}
use Rattle.asl_shape.specs.View.{merged, with_kinds}
use Rattle.asl_numbered.specs.Kinds.{IsOfKind, arrays_alone, booleans_alone, integers_alone, null_alone, objects_alone, strings_alone, AscendFrom, none_left, one_behind, AreSeveral, IsProperNode, full, full_arrays, full_objects, tidy, place_of}
use Rattle.asl_numbered.specs.declared.node.Node.{Node}
use Rattle.asl_numbered.specs.declared.node.Node.TheVariants as nodes
use Rattle.asl_numbered.specs.Expansion.{shape_at, shape_over}
use Rattle.asl_numbered.specs.TakenApart.{part_if, arrays_part, objects_part, parts_of}

-- the shape is of kinds, none of them at a place before that one
abbrev Begins : ℕ → Shape → Type 0
Begins place Any = ⊥
Begins place (OfKinds simple arrays objects) =
    (0 < place → arrays ≡ WithoutArrays) × (1 < place → simple.boolean ≡ false) × (2 < place → simple.integer ≡ false)
    × (3 < place → simple.null ≡ false) × (4 < place → objects ≡ WithoutObjects) × (5 < place → simple.text ≡ false)

begins-with : (place kind : ℕ) (s t : Shape) → place ≤ kind → IsOfKind kind s → Begins (suc kind) t → Begins place (with_kinds s t)
begins-with place kind s Any h is b = absurd b
begins-with place kind s (OfKinds simple arrays objects) h arrays_alone b =
    (λ i. absurd (omega (arith, h, i)), λ i. absurd (omega (arith, h, i)), λ i. absurd (omega (arith, h, i)), λ i. absurd (omega (arith, h, i)), λ i. absurd (omega (arith, h, i)), λ i. absurd (omega (arith, h, i)))
begins-with place kind s (OfKinds simple arrays objects) h booleans_alone b =
    (λ i. b.0 (omega arith), λ i. absurd (omega (arith, h, i)), λ i. absurd (omega (arith, h, i)), λ i. absurd (omega (arith, h, i)), λ i. absurd (omega (arith, h, i)), λ i. absurd (omega (arith, h, i)))
begins-with place kind s (OfKinds simple arrays objects) h integers_alone b =
    (λ i. b.0 (omega arith), λ i. b.1 (omega arith), λ i. absurd (omega (arith, h, i)), λ i. absurd (omega (arith, h, i)), λ i. absurd (omega (arith, h, i)), λ i. absurd (omega (arith, h, i)))
begins-with place kind s (OfKinds simple arrays objects) h null_alone b =
    (λ i. b.0 (omega arith), λ i. b.1 (omega arith), λ i. b.2 (omega arith), λ i. absurd (omega (arith, h, i)), λ i. absurd (omega (arith, h, i)), λ i. absurd (omega (arith, h, i)))
begins-with place kind s (OfKinds simple arrays objects) h objects_alone b =
    (λ i. b.0 (omega arith), λ i. b.1 (omega arith), λ i. b.2 (omega arith), λ i. b.3 (omega arith), λ i. absurd (omega (arith, h, i)), λ i. absurd (omega (arith, h, i)))
begins-with place kind s (OfKinds simple arrays objects) h strings_alone b =
    (λ i. b.0 (omega arith), λ i. b.1 (omega arith), λ i. b.2 (omega arith), λ i. b.3 (omega arith), λ i. b.4 (omega arith), λ i. absurd (omega (arith, h, i)))

begins : (place : ℕ) (ss : List Shape) → AscendFrom place ss → Begins place (merged ss)
begins place [] none_left = (λ i. refl, λ i. refl, λ i. refl, λ i. refl, λ i. refl, λ i. refl)
begins place (s ∷ ss) (one_behind {kind = kind} h is behind) = begins-with place kind s (merged ss) h is (begins (suc kind) ss behind)

-- ---- together they are just these kinds

parts-with : (kind : ℕ) (s t : Shape) → IsOfKind kind s → Begins (suc kind) t → parts_of (with_kinds s t) ≡ s ∷ parts_of t
parts-with kind s Any is b = absurd b
parts-with kind s (OfKinds simple arrays objects) arrays_alone b = rw (b.0 (omega arith)) refl
parts-with kind s (OfKinds simple arrays objects) booleans_alone b = rw (b.0 (omega arith), b.1 (omega arith)) refl
parts-with kind s (OfKinds simple arrays objects) integers_alone b =
    rw (b.0 (omega arith), b.1 (omega arith), b.2 (omega arith)) refl
parts-with kind s (OfKinds simple arrays objects) null_alone b =
    rw (b.0 (omega arith), b.1 (omega arith), b.2 (omega arith), b.3 (omega arith)) refl
parts-with kind s (OfKinds simple arrays objects) objects_alone b =
    rw (b.0 (omega arith), b.1 (omega arith), b.2 (omega arith), b.3 (omega arith), b.4 (omega arith)) refl
parts-with kind s (OfKinds simple arrays objects) strings_alone b =
    rw (b.0 (omega arith), b.1 (omega arith), b.2 (omega arith), b.3 (omega arith), b.4 (omega arith), b.5 (omega arith)) refl

pub parts_merged : (place : ℕ) (ss : List Shape) → AscendFrom place ss → parts_of (merged ss) ≡ ss
parts_merged place [] none_left = refl
parts_merged place (s ∷ ss) (one_behind {kind = kind} h is behind) =
    parts-with kind s (merged ss) is (begins (suc kind) ss behind) ∙ ap (λ more. s ∷ more) (parts_merged (suc kind) ss behind)

-- ---- what is true of the shape of all is found in the parts

inhabited-with : (kind : ℕ) (s t : Shape) → IsOfKind kind s → Begins (suc kind) t → inhabited (with_kinds s t) ≡ (inhabited s || inhabited t)
inhabited-with kind s Any is b = absurd b
inhabited-with kind s (OfKinds simple arrays objects) arrays_alone b = rw (b.0 (omega arith)) (grind arith)
inhabited-with kind s (OfKinds simple arrays objects) booleans_alone b = grind arith
inhabited-with kind s (OfKinds simple arrays objects) integers_alone b = grind arith
inhabited-with kind s (OfKinds simple arrays objects) null_alone b = grind arith
inhabited-with kind s (OfKinds simple arrays objects) objects_alone b = rw (b.4 (omega arith)) (grind arith)
inhabited-with kind s (OfKinds simple arrays objects) strings_alone b = grind arith

-- some tree is there where one of the shapes has one
pub inhabited_merged : (place : ℕ) (ss : List Shape) → AscendFrom place ss → inhabited (merged ss) ≡ list_any inhabited ss
inhabited_merged place [] none_left = refl
inhabited_merged place (s ∷ ss) (one_behind {kind = kind} h is behind) =
    inhabited-with kind s (merged ss) is (begins (suc kind) ss behind) ∙ ap (λ b. inhabited s || b) (inhabited_merged (suc kind) ss behind)

full-with : (kind : ℕ) (s t : Shape) → IsOfKind kind s → Begins (suc kind) t → full (with_kinds s t) ≡ (full s && full t)
full-with kind s Any is b = absurd b
full-with kind s (OfKinds simple arrays objects) arrays_alone b = rw (b.0 (omega arith)) (grind arith)
full-with kind s (OfKinds simple arrays objects) booleans_alone b = refl
full-with kind s (OfKinds simple arrays objects) integers_alone b = refl
full-with kind s (OfKinds simple arrays objects) null_alone b = refl
full-with kind s (OfKinds simple arrays objects) objects_alone b = rw (b.4 (omega arith)) (grind arith)
full-with kind s (OfKinds simple arrays objects) strings_alone b = refl

-- it has all trees of its kinds where each of the shapes has those of its own
pub full_merged : (place : ℕ) (ss : List Shape) → AscendFrom place ss → full (merged ss) ≡ list_all full ss
full_merged place [] none_left = refl
full_merged place (s ∷ ss) (one_behind {kind = kind} h is behind) =
    full-with kind s (merged ss) is (begins (suc kind) ss behind) ∙ ap (λ b. full s && b) (full_merged (suc kind) ss behind)

tidy-with : (kind : ℕ) (s t : Shape) → IsOfKind kind s → Begins (suc kind) t → tidy (with_kinds s t) ≡ (tidy s && tidy t)
tidy-with kind s Any is b = absurd b
tidy-with kind s (OfKinds simple arrays objects) arrays_alone b = rw (b.0 (omega arith)) (grind arith)
tidy-with kind s (OfKinds simple arrays objects) booleans_alone b = refl
tidy-with kind s (OfKinds simple arrays objects) integers_alone b = refl
tidy-with kind s (OfKinds simple arrays objects) null_alone b = refl
tidy-with kind s (OfKinds simple arrays objects) objects_alone b = rw (b.4 (omega arith)) (grind arith)
tidy-with kind s (OfKinds simple arrays objects) strings_alone b = refl

-- nothing in it is left out where nothing in one of the shapes is
pub tidy_merged : (place : ℕ) (ss : List Shape) → AscendFrom place ss → tidy (merged ss) ≡ list_all tidy ss
tidy_merged place [] none_left = refl
tidy_merged place (s ∷ ss) (one_behind {kind = kind} h is behind) =
    tidy-with kind s (merged ss) is (begins (suc kind) ss behind) ∙ ap (λ b. tidy s && b) (tidy_merged (suc kind) ss behind)

-- ---- how many kinds there are

abbrev one_if : Bool → ℕ
one_if b = cond b 1 0

at-most : (b : Bool) → one_if b ≤ 1
at-most true = omega arith
at-most false = omega arith

part-count : (b : Bool) (s : Shape) → length (part_if b s) ≡ one_if b
part-count true s = refl
part-count false s = refl

arrays-count : (arrays : Arrays) → length (arrays_part arrays) ≡ one_if (has_arrays arrays)
arrays-count WithoutArrays = refl
arrays-count (ArraysOf first rest) = refl

objects-count : (objects : Objects) → length (objects_part objects) ≡ one_if (has_objects objects)
objects-count WithoutObjects = refl
objects-count (ObjectsOf shapes extra) = refl

counted : (simple : Simple) (arrays : Arrays) (objects : Objects) → length (parts_of (OfKinds simple arrays objects))
    ≡ one_if (has_arrays arrays) + (one_if simple.boolean + (one_if simple.integer + (one_if simple.null + (one_if (has_objects objects) + one_if simple.text))))
counted simple arrays objects =
    length-append (arrays_part arrays) _ ∙ rw (arrays-count arrays) (ap (λ n. one_if (has_arrays arrays) + n)
    (length-append (part_if simple.boolean BooleanShape) _ ∙ rw (part-count simple.boolean BooleanShape) (ap (λ n. one_if simple.boolean + n)
    (length-append (part_if simple.integer IntegerShape) _ ∙ rw (part-count simple.integer IntegerShape) (ap (λ n. one_if simple.integer + n)
    (length-append (part_if simple.null NullShape) _ ∙ rw (part-count simple.null NullShape) (ap (λ n. one_if simple.null + n)
    (length-append (objects_part objects) (part_if simple.text StringShape) ∙ rw (objects-count objects, part-count simple.text StringShape) refl))))))))

longer : (wanted : Bool) (n : List ℕ) (ns : List (List ℕ)) (m : ℕ) → length ns ≡ m → length (name_if wanted n ns) ≡ one_if wanted + m
longer true n ns m e = omega (arith, e)
longer false n ns m e = omega (arith, e)

named : (simple : Simple) (arrays : Arrays) (objects : Objects) → length (type_names simple arrays objects)
    ≡ one_if (has_arrays arrays) + (one_if simple.boolean + (one_if simple.integer + (one_if simple.null + (one_if (has_objects objects) + (one_if simple.text + 0)))))
named simple arrays objects =
    longer (has_arrays arrays) _ _ _ (longer simple.boolean _ _ _ (longer simple.integer _ _ _ (longer simple.null _ _ _ (longer (has_objects objects) _ _ _ (longer simple.text _ [] 0 refl)))))

several-names : (names : List (List ℕ)) → 2 ≤ length names → are_several names ≡ true
several-names [] h = absurd (omega (arith, h))
several-names (n ∷ []) h = absurd (omega (arith, h))
several-names (n ∷ (m ∷ names)) h = refl

or_true : (a b : Bool) → a ≡ true → (a || b) ≡ true
or_true a b e = rw e refl

has-several : (s : Shape) → 2 ≤ length (parts_of s) → has_several s ≡ true
has-several Any h = absurd (omega (arith, h))
has-several (OfKinds simple arrays objects) h =
    or_true _ _ (several-names (type_names simple arrays objects) (omega (arith, h, named simple arrays objects, counted simple arrays objects)))

pub several_merged : (ss : List Shape) → AreSeveral ss → has_several (merged ss) ≡ true
several_merged ss are = has-several (merged ss) (rw (parts_merged 0 ss are.ascend) are.two)

-- ---- all kinds

few : (n : ℕ) → n < 6 → eqb n 6 ≡ false
few n h = grind arith

six : (a b i n o t : Bool) → eqb (one_if a + (one_if b + (one_if i + (one_if n + (one_if o + one_if t))))) 6 ≡ (a && (b && (i && (n && (o && t)))))
six false b i n o t = few _ (omega (arith, at-most b, at-most i, at-most n, at-most o, at-most t))
six true false i n o t = few _ (omega (arith, at-most i, at-most n, at-most o, at-most t))
six true true false n o t = few _ (omega (arith, at-most n, at-most o, at-most t))
six true true true false o t = few _ (omega (arith, at-most o, at-most t))
six true true true true false t = few _ (omega (arith, at-most t))
six true true true true true false = refl
six true true true true true true = refl

arrays-all : (arrays : Arrays) → takes_all_arrays arrays ≡ (has_arrays arrays && full_arrays arrays)
arrays-all WithoutArrays = refl
arrays-all (ArraysOf first rest) = refl

objects-all : (objects : Objects) → takes_all_objects objects ≡ (has_objects objects && full_objects objects)
objects-all WithoutObjects = refl
objects-all (ObjectsOf shapes extra) = refl

all_of : (n b i t a o x y : Bool) → ((n && (b && (i && t))) && ((a && x) && (o && y))) ≡ ((x && y) && (a && (b && (i && (n && (o && t))))))
all_of n b i t a o x y = grind arith

takes-all : (simple : Simple) (arrays : Arrays) (objects : Objects) → takes_all (OfKinds simple arrays objects) ≡ (full (OfKinds simple arrays objects) && eqb (length (parts_of (OfKinds simple arrays objects))) 6)
takes-all simple arrays objects =
    rw (counted simple arrays objects, six (has_arrays arrays) simple.boolean simple.integer simple.null (has_objects objects) simple.text, arrays-all arrays, objects-all objects)
    (all_of simple.null simple.boolean simple.integer simple.text (has_arrays arrays) (has_objects objects) (full_arrays arrays) (full_objects objects))

-- every tree is there where all kinds are, and of each all trees
pub all_merged : (ss : List Shape) → AscendFrom 0 ss → takes_all (merged ss) ≡ (full (merged ss) && eqb (length ss) 6)
all_merged ss ascend = go (merged ss) (begins 0 ss ascend) (parts_merged 0 ss ascend)
  where
    go : (s : Shape) → Begins 0 s → parts_of s ≡ ss → takes_all s ≡ (full s && eqb (length ss) 6)
    go Any b e = absurd b
    go (OfKinds simple arrays objects) b e =
        takes-all simple arrays objects ∙ ap (λ ps. full (OfKinds simple arrays objects) && eqb (length ps) 6) e

-- ---- the test

-- a shape of one kind is one part
one-part : (kind : ℕ) (s : Shape) → IsOfKind kind s → length (parts_of s) ≡ 1
one-part kind s arrays_alone = refl
one-part kind s booleans_alone = refl
one-part kind s integers_alone = refl
one-part kind s null_alone = refl
one-part kind s objects_alone = refl
one-part kind s strings_alone = refl

-- so it is none of Any, Never and several
apart : (kind : ℕ) (s t : Shape) → s ≡ t → (length (parts_of s) ≡ 1 → ⊥) → IsOfKind kind t → ⊥
apart kind s t e several is = several (ap (λ x. length (parts_of x)) e ∙ one-part kind t is)

-- what a node says of the kind of its shape
pub kind_found : (table : List Shape) (node : Node) (s : Shape) (answer : Option ℕ) → answer ≡ place_of node → shape_over table node ≡ s → IfSome answer (λ kind. IsOfKind kind s)
kind_found table node s answer is own = rw (is, ← own) (each node)
  where
    each : (node : Node) → IfSome (place_of node) (λ kind. IsOfKind kind (shape_over table node))
    each nodes.Any = tt
    each nodes.Never = tt
    each nodes.Null = null_alone
    each nodes.Bool = booleans_alone
    each nodes.Int = integers_alone
    each nodes.Text = strings_alone
    each (nodes.List first rest) = arrays_alone
    each (nodes.Object fields extra) = objects_alone
    each (nodes.Several numbers) = tt

pub kind_missing : (table : List Shape) (node : Node) (s : Shape) (answer : Option ℕ) → answer ≡ place_of node → shape_over table node ≡ s → IsProperNode table node → answer ≡ None → (kind : ℕ) → IsOfKind kind s → ⊥
kind_missing table nodes.Any s answer is own proper none kind one = apart kind model.Any s own (λ e. absurd (omega (arith, e))) one
kind_missing table nodes.Never s answer is own proper none kind one = apart kind model.Never s own (λ e. absurd (omega (arith, e))) one
kind_missing table nodes.Null s answer is own proper none kind one = absurd (let there : Some 3 ≡ None = sym is ∙ none in cc)
kind_missing table nodes.Bool s answer is own proper none kind one = absurd (let there : Some 1 ≡ None = sym is ∙ none in cc)
kind_missing table nodes.Int s answer is own proper none kind one = absurd (let there : Some 2 ≡ None = sym is ∙ none in cc)
kind_missing table nodes.Text s answer is own proper none kind one = absurd (let there : Some 5 ≡ None = sym is ∙ none in cc)
kind_missing table (nodes.List first rest) s answer is own proper none kind one =
    absurd (let there : Some 0 ≡ None = sym is ∙ none in cc)
kind_missing table (nodes.Object fields extra) s answer is own proper none kind one =
    absurd (let there : Some 4 ≡ None = sym is ∙ none in cc)
kind_missing table (nodes.Several numbers) s answer is own proper none kind one =
    let parts = parts_merged 0 (map (shape_at table) numbers.items) proper.proper.ascend in
    apart kind (merged (map (shape_at table) numbers.items)) s own (λ e. omega (arith, proper.proper.two, ap length parts, e)) one

-- where there is no number there is Never
pub kind_past : (s : Shape) → Never ≡ s → (kind : ℕ) → IsOfKind kind s → ⊥
kind_past s e kind one = apart kind Never s e (λ n. absurd (omega (arith, n))) one

-- the shape of the next number
pub next_shape : (table : List Shape) (ns : List ℕ) (i : ℕ) → i < length ns → map (shape_at table) (drop i ns) ≡ shape_at table (get_or ns i 0) ∷ map (shape_at table) (drop (i + 1) ns)
next_shape table ns i h =
    let more : suc i ≡ i + 1 = omega arith in
    ap (map (shape_at table)) (drop-cons ns i 0 h) ∙ ap (λ k. shape_at table (get_or ns i 0) ∷ map (shape_at table) (drop k ns)) more

-- the place of the first kind
abbrev first_place : Shape → ℕ
first_place Any = 0
first_place (OfKinds simple arrays objects) =
    if has_arrays arrays then 0 else (if simple.boolean then 1 else (if simple.integer then 2 else (if simple.null then 3 else (if has_objects objects then 4 else 5))))

placed : (kind : ℕ) (s : Shape) → IsOfKind kind s → first_place s ≡ kind
placed kind s arrays_alone = refl
placed kind s booleans_alone = refl
placed kind s integers_alone = refl
placed kind s null_alone = refl
placed kind s objects_alone = refl
placed kind s strings_alone = refl

-- the first shape is of a kind that isn't before the place, so what is left is about the others
pub ascend_next : (place kind next : ℕ) (s : Shape) (now ss : List Shape) → now ≡ s ∷ ss → next ≡ suc kind → place ≤ kind → IsOfKind kind s → AscendFrom place now ↔ AscendFrom next ss
ascend_next place kind next s now ss split is h own =
    rw (split, is) (forth, λ behind. one_behind h own behind)
  where
    forth : AscendFrom place (s ∷ ss) → AscendFrom (suc kind) ss
    forth (one_behind {kind = other} i its behind) =
        subst (λ k. AscendFrom (suc k) ss) (sym (placed other s its) ∙ placed kind s own) behind

-- it is of none
pub ascend_none : (place : ℕ) (s : Shape) (now ss : List Shape) → now ≡ s ∷ ss → ((kind : ℕ) → IsOfKind kind s → ⊥) → AscendFrom place now → ⊥
ascend_none place s now ss split none ascend = back (subst (AscendFrom place) split ascend)
  where
    back : AscendFrom place (s ∷ ss) → ⊥
    back (one_behind {kind = kind} h is behind) = none kind is

-- it is of one before the place
pub ascend_before : (place kind : ℕ) (s : Shape) (now ss : List Shape) → now ≡ s ∷ ss → kind < place → IsOfKind kind s → AscendFrom place now → ⊥
ascend_before place kind s now ss split h own ascend = back (subst (AscendFrom place) split ascend)
  where
    back : AscendFrom place (s ∷ ss) → ⊥
    back (one_behind {kind = other} i its behind) =
        omega (arith, h, i, placed other s its, placed kind s own)

pub ascend_end : (place : ℕ) (ss : List Shape) → ss ≡ [] → AscendFrom place ss
ascend_end place ss e = rw e none_left

-- ---- the kinds of a shape one by one

sooner : (m n : ℕ) (ss : List Shape) → m ≤ n → AscendFrom n ss → AscendFrom m ss
sooner m n [] h none_left = none_left
sooner m n (s ∷ ss) h (one_behind i is behind) = one_behind (omega (arith, h, i)) is behind

text-ascends : (wanted : Bool) → AscendFrom 5 (part_if wanted StringShape)
text-ascends true = one_behind (omega arith) strings_alone none_left
text-ascends false = none_left

part-ascends : (kind : ℕ) (s : Shape) (wanted : Bool) (ss : List Shape) → IsOfKind kind s → AscendFrom (suc kind) ss → AscendFrom kind (part_if wanted s ++ ss)
part-ascends kind s true ss is behind = one_behind (omega arith) is behind
part-ascends kind s false ss is behind = sooner kind (suc kind) ss (omega arith) behind

arrays-ascend : (arrays : Arrays) (ss : List Shape) → AscendFrom 1 ss → AscendFrom 0 (arrays_part arrays ++ ss)
arrays-ascend WithoutArrays ss behind = sooner 0 1 ss (omega arith) behind
arrays-ascend (ArraysOf first rest) ss behind = one_behind (omega arith) arrays_alone behind

objects-ascend : (objects : Objects) (ss : List Shape) → AscendFrom 5 ss → AscendFrom 4 (objects_part objects ++ ss)
objects-ascend WithoutObjects ss behind = sooner 4 5 ss (omega arith) behind
objects-ascend (ObjectsOf shapes extra) ss behind = one_behind (omega arith) objects_alone behind

pub parts_ascend : (s : Shape) → AscendFrom 0 (parts_of s)
parts_ascend Any = none_left
parts_ascend (OfKinds simple arrays objects) =
    arrays-ascend arrays _ (part-ascends 1 BooleanShape simple.boolean _ booleans_alone (part-ascends 2 IntegerShape simple.integer _ integers_alone (part-ascends 3 NullShape simple.null _ null_alone (objects-ascend objects _ (text-ascends simple.text)))))
