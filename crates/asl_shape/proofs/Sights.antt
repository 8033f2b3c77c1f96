-- What is seen of shapes: whether each is proper, and its place among the six kinds.
use Rattle.std.proofs.Common.{◌≡◌, ℕ, suc, ◌≤◌, List, [], ◌∷◌, ◌++◌, Bool, true, false, ◌&&◌, Option, Some, None, map, nat_le, Vec, Box, String, Ordering, Less, Equal, Greater, string_cmp, refl, sym, ap, ◌∙◌, arith}
use Rattle.std.proofs.lemmas.Bool.{and_parts, and_from, false≢true}
use Rattle.std.specs.Prelude.{IsTrue}
use Rattle.std.specs.BTreeMap.{BTreeMap, insert_entry}
use Rattle.std.specs.Map.{lookup, set_value}
use Rattle.std.specs.Ordering.{match_ordering}
use Rattle.std.specs.declared.alloc.Global.{Global}
use Rattle.asl_shape.specs.Kinds.{part_if, array_part, object_part, parts_of}
use Rattle.asl_shape.specs.declared.kinds.OwnedArrays.{OwnedArrays}
use Rattle.asl_shape.specs.declared.kinds.OwnedObjects.{OwnedObjects}
use Rattle.asl_shape.specs.declared.kinds.OwnedKinds.{OwnedKinds}
use Rattle.asl_shape.specs.declared.shape.Field.{Field}
use Rattle.asl_shape.specs.declared.shape.Shape.{Shape}
use Rattle.asl_shape.specs.declared.shape.Shape as shape
use Rattle.asl_shape.specs.declared.shape.Shape.TheFolds.{fold-roll-Shape, fold-Field, fold_out-Field}
use Rattle.asl_shape.specs.declared.shape.Shape.TheOpen
use Rattle.asl_shape.specs.declared.shape.Shape.TheVariants
use Rattle.asl_shape.specs.declared.shape.Shape.TheViews
use Rattle.asl_shape.proofs.Spellings.{Mention}
use Rattle.asl_shape.specs.Properness.{Seen, seen, seen_step, seen_field, all_proper, are_proper, fields_proper, is_proper, ascend_from, arrays_proper, objects_proper, kinds_proper}

pub seen_list : (first : Vec Shape Global) (rest : Box Shape Global) → seen (TheViews.List first rest) ≡ record { place = Some 0; proper = are_proper first.items && is_proper rest.value }
seen_list first rest =
    ap seen (sym (TheVariants.rolls-List first rest)) ∙ fold-roll-Shape Seen Seen seen_step seen_field (TheOpen.List first rest)

-- a field that is opened by its fold shows what it holds
fields_seen : (ms : List (String Global × Field)) → map (λ (m : String Global × Seen). m.1) (map (λ m. (m.0, fold-Field Seen Seen seen_step seen_field m.1)) ms) ≡ map (λ m. seen m.1.shape) ms
fields_seen [] = refl
fields_seen (m ∷ ms) = rw (fold_out-Field Seen Seen seen_step seen_field m.1, fields_seen ms) refl

pub seen_object : (fields : BTreeMap (String Global) Field) (extra : Bool) → seen (TheViews.Object fields extra) ≡ record { place = Some 4; proper = fields_proper fields.entries }
seen_object fields extra =
    ap seen (sym (TheVariants.rolls-Object fields extra)) ∙ fold-roll-Shape Seen Seen seen_step seen_field (TheOpen.Object fields extra) ∙ ap (λ ss. record { place = Some 4; proper = all_proper ss }) (fields_seen fields.entries)

-- ---- a simple shape

seen_bool : seen shape.Bool ≡ record { place = Some 1; proper = true }
seen_bool = ap seen (sym TheVariants.rolls-Bool) ∙ fold-roll-Shape Seen Seen seen_step seen_field TheOpen.Bool

seen_int : seen shape.Int ≡ record { place = Some 2; proper = true }
seen_int = ap seen (sym TheVariants.rolls-Int) ∙ fold-roll-Shape Seen Seen seen_step seen_field TheOpen.Int

seen_null : seen shape.Null ≡ record { place = Some 3; proper = true }
seen_null = ap seen (sym TheVariants.rolls-Null) ∙ fold-roll-Shape Seen Seen seen_step seen_field TheOpen.Null

seen_text : seen shape.Text ≡ record { place = Some 5; proper = true }
seen_text = ap seen (sym TheVariants.rolls-Text) ∙ fold-roll-Shape Seen Seen seen_step seen_field TheOpen.Text

-- ---- a part for each kind

-- the places of the shapes among the six kinds
abbrev pub places : List Shape → List (Option ℕ)
places ss = map (λ s. s.place) (map seen ss)

-- that ascend from a place on, ascend from an earlier one on
earlier : (least n : ℕ) (ps : List (Option ℕ)) → n ≤ least → IsTrue (ascend_from least ps) → IsTrue (ascend_from n ps)
earlier least n [] h up = refl
earlier least n (None ∷ ps) h up = absurd (false≢true up)
earlier least n (Some m ∷ ps) h up =
    let both = and_parts (nat_le least m) (ascend_from (suc m) ps) up in
    let first : IsTrue (nat_le least m) = both.0 in
    let here : IsTrue (nat_le n m) = grind arith in
    and_from (nat_le n m) (ascend_from (suc m) ps) here both.1

-- a part at a place, in front of parts at later ones
part_first : (wanted : Bool) (s : Shape) (n : ℕ) (rest : List Shape) → (seen s).place ≡ Some n → IsTrue (ascend_from (suc n) (places rest)) → IsTrue (ascend_from n (places (part_if wanted s ++ rest)))
part_first true s n rest at up =
    let here : IsTrue (nat_le n n) = grind arith in
    rw at (and_from (nat_le n n) (ascend_from (suc n) (places rest)) here up)
part_first false s n rest at up = earlier (suc n) n (places rest) (omega arith) up

array_first : (a : Option OwnedArrays) (rest : List Shape) → IsTrue (ascend_from 1 (places rest)) → IsTrue (ascend_from 0 (places (array_part a ++ rest)))
array_first None rest up = earlier 1 0 (places rest) (omega arith) up
array_first (Some arrays) rest up = rw (seen_list arrays.first arrays.rest) up

object_first : (o : Option OwnedObjects) (rest : List Shape) → IsTrue (ascend_from 5 (places rest)) → IsTrue (ascend_from 4 (places (object_part o ++ rest)))
object_first None rest up = earlier 5 4 (places rest) (omega arith) up
object_first (Some objects) rest up = rw (seen_object objects.fields objects.extra) up

text_alone : (t : Bool) → IsTrue (ascend_from 5 (places (part_if t shape.Text)))
text_alone true = rw seen_text refl
text_alone false = refl

pub parts_ascend : (kinds : OwnedKinds) → IsTrue (ascend_from 0 (places (parts_of kinds)))
parts_ascend kinds =
    array_first kinds.arrays _ (part_first kinds.boolean shape.Bool 1 _ (ap (λ s. s.place) seen_bool) (part_first kinds.integer shape.Int 2 _ (ap (λ s. s.place) seen_int) (part_first kinds.null shape.Null 3 _ (ap (λ s. s.place) seen_null) (object_first kinds.objects _ (text_alone kinds.text)))))

-- a simple part in front is proper
simple_first : (wanted : Bool) (s : Shape) (rest : List Shape) → is_proper s ≡ true → are_proper (part_if wanted s ++ rest) ≡ are_proper rest
simple_first true s rest h = rw h refl
simple_first false s rest h = refl

object_then : (o : Option OwnedObjects) (rest : List Shape) → are_proper (object_part o ++ rest) ≡ (objects_proper o && are_proper rest)
object_then None rest = refl
object_then (Some objects) rest = rw (seen_object objects.fields objects.extra) refl

array_then : (a : Option OwnedArrays) (rest : List Shape) → are_proper (array_part a ++ rest) ≡ (arrays_proper a && are_proper rest)
array_then None rest = refl
array_then (Some arrays) rest = rw (seen_list arrays.first arrays.rest) refl

and_true : (b : Bool) → (b && true) ≡ b
and_true true = refl
and_true false = refl

text_proper : (t : Bool) → are_proper (part_if t shape.Text) ≡ true
text_proper true = rw seen_text refl
text_proper false = refl

pub parts_proper : (kinds : OwnedKinds) → are_proper (parts_of kinds) ≡ kinds_proper kinds
parts_proper kinds =
    array_then kinds.arrays _
    ∙ ap (λ b. arrays_proper kinds.arrays && b) (simple_first kinds.boolean shape.Bool _ (ap (λ s. s.proper) seen_bool) ∙ simple_first kinds.integer shape.Int _ (ap (λ s. s.proper) seen_int) ∙ simple_first kinds.null shape.Null _ (ap (λ s. s.proper) seen_null) ∙ object_then kinds.objects _ ∙ ap (λ b. objects_proper kinds.objects && b) (text_proper kinds.text) ∙ and_true (objects_proper kinds.objects))

-- ---- one shape more

are_pushed : (ss : List Shape) (s : Shape) → IsTrue (are_proper ss) → IsTrue (is_proper s) → IsTrue (are_proper (ss ++ s ∷ []))
are_pushed [] s h i = and_from (is_proper s) true i refl
are_pushed (r ∷ ss) s h i =
    let both = and_parts (is_proper r) (are_proper ss) h in
    and_from (is_proper r) (are_proper (ss ++ s ∷ [])) both.0 (are_pushed ss s both.1 i)

-- behind the others
pub pushed_proper : (ss new : List Shape) (s : Shape) → IsTrue (are_proper ss) → IsTrue (is_proper s) → new ≡ ss ++ s ∷ [] → IsTrue (are_proper new)
pushed_proper ss new s h i pushed = ap are_proper pushed ∙ are_pushed ss s h i

-- as a field of a map
inserted_at : (o : Ordering) (e : Mention) (k : String Global) (f : Field) (es more : List Mention) → IsTrue (fields_proper (e ∷ es)) → IsTrue (is_proper f.shape) → IsTrue (fields_proper more) → IsTrue (fields_proper (match_ordering o ((k, f) ∷ (e ∷ es)) ((e.0, f) ∷ es) (e ∷ more)))
inserted_at Less e k f es more h i j = and_from (is_proper f.shape) (fields_proper (e ∷ es)) i h
inserted_at Equal e k f es more h i j = and_from (is_proper f.shape) (fields_proper es) i (and_parts (is_proper e.1.shape) (fields_proper es) h).1
inserted_at Greater e k f es more h i j = and_from (is_proper e.1.shape) (fields_proper more) (and_parts (is_proper e.1.shape) (fields_proper es) h).0 j

are_inserted : (es : List Mention) (k : String Global) (f : Field) → IsTrue (fields_proper es) → IsTrue (is_proper f.shape) → IsTrue (fields_proper (insert_entry string_cmp es k f))
are_inserted [] k f h i = and_from (is_proper f.shape) true i refl
are_inserted (e ∷ es) k f h i =
    inserted_at (string_cmp k e.0) e k f es (insert_entry string_cmp es k f) h i (are_inserted es k f (and_parts (is_proper e.1.shape) (fields_proper es) h).1 i)

pub inserted_proper : (es new : List Mention) (k : String Global) (f : Field) → IsTrue (fields_proper es) → IsTrue (is_proper f.shape) → new ≡ insert_entry string_cmp es k f → IsTrue (fields_proper new)
inserted_proper es new k f h i inserted = ap fields_proper inserted ∙ are_inserted es k f h i

-- a field's shape stays where the field is set
are_set : (test : String Global → Bool) (es : List Mention) (f g : Field) → g.shape ≡ f.shape → lookup test es ≡ Some f → fields_proper (set_value test es g) ≡ fields_proper es
are_set test [] f g same found = absurd (cc)
are_set test (e ∷ es) f g same found = go (test e.0) refl (are_set test es f g same)
  where
    go : (here : Bool) → test e.0 ≡ here → (lookup test es ≡ Some f → fields_proper (set_value test es g) ≡ fields_proper es) → fields_proper (set_value test (e ∷ es) g) ≡ fields_proper (e ∷ es)
    go true is below =
        let there : Some e.1 ≡ Some f = rw is at found in
        let found_here : e.1 ≡ f = cc in
        rw (is, same, found_here) refl
    go false is below =
        let there : lookup test es ≡ Some f = rw is at found in
        rw is (ap (λ b. is_proper e.1.shape && b) (below there))

pub set_proper : (test : String Global → Bool) (es : List Mention) (f g : Field) (new : List Mention) → g.shape ≡ f.shape → lookup test es ≡ Some f → IsTrue (fields_proper es) → new ≡ set_value test es g → IsTrue (fields_proper new)
set_proper test es f g new same found proper set = ap fields_proper set ∙ are_set test es f g same found ∙ proper
