-- Fields and places of which one is replaced.
use Rattle.std.proofs.Common.{◌≡◌, ◌<◌, ◌≤◌, ℕ, zero, suc, List, [], ◌∷◌, ◌++◌, Bool, true, false, IsTrue, bytes_eq, Global, Vec, Ordering, Less, Equal, Greater, nat_cmp, length, slice_set, refl, sym, ap, ◌∙◌, subst, arith}
use Rattle.std.proofs.lemmas.Map.Text.{is_eq-slice_cmp}
use Rattle.std.proofs.lemmas.Slice.Eq.{bytes_eq-Decides}
use Rattle.std.specs.BTreeMap.{BTreeMap, insert_entry}
use Rattle.std.specs.Cmp.Lexicographic.{slice_cmp}
use Rattle.std.specs.List.{AllZip}
use Rattle.std.specs.Ordering.{is_eq}
use Rattle.asl_model.specs.Shape as model
use Rattle.asl_model.specs.Shape.{AndFieldShape, AndShape, NoFieldShapes, FieldShapes, before_mentions, AreProperFields}
use Rattle.asl_model.specs.ShapeFlow.{set_place}
use Rattle.asl_model.specs.ShapeOrder.{set_mention}
use Rattle.asl_shape_paths.specs.Changing.{AreWithField, AreWithPlace}
use Rattle.asl_model.specs.Tree.{comes_before}
use Rattle.asl_shape_paths.proofs.Stays.{unmentioned, in_front, before_next}
use Rattle.asl_shape.proofs.Spellings.{put}
use Rattle.asl_numbered.specs.declared.node.NodeField.{NodeField}
use Rattle.asl_numbered.specs.declared.node.Node.TheVariants.{List as Elements, Object}
use Rattle.asl_numbered.specs.Expansion.{shape_at, shapes_at, fields_at, numbers_in, AreBelow, RefersBelow}
use Rattle.asl_numbered.proofs.Parts.{Entry, put-shown, put-below}
use Rattle.std.specs.Rc.{rc_str_bytes}
use Rattle.asl_numbered.specs.Names.{Name, name_cmp}

-- ---- fields

-- a field goes in front of the first name that comes behind, or in place of its own
put-set : (n : List ℕ) (s : model.Shape) (shapes : FieldShapes) → AreProperFields shapes → put n true s shapes ≡ set_mention n true s shapes
put-set n s NoFieldShapes proper = refl
put-set n s (AndFieldShape m other r shapes) proper = go (bytes_eq m n) refl (slice_cmp nat_cmp n m) refl (put-set n s shapes proper.3)
  where
    not_at : (order : Ordering) → slice_cmp nat_cmp n m ≡ order → is_eq order ≡ bytes_eq n m
    not_at order at = ap is_eq (sym at) ∙ is_eq-slice_cmp n m

    go : (same : Bool) → bytes_eq m n ≡ same → (order : Ordering) → slice_cmp nat_cmp n m ≡ order → put n true s shapes ≡ set_mention n true s shapes → put n true s (AndFieldShape m other r shapes) ≡ set_mention n true s (AndFieldShape m other r shapes)
    go true is Less at below =
        let again : bytes_eq n m ≡ true = (bytes_eq-Decides n m).1 (sym ((bytes_eq-Decides m n).0 is)) in
        let differ : false ≡ bytes_eq n m = not_at Less at in
        absurd (cc)
    go true is Greater at below =
        let again : bytes_eq n m ≡ true = (bytes_eq-Decides n m).1 (sym ((bytes_eq-Decides m n).0 is)) in
        let differ : false ≡ bytes_eq n m = not_at Greater at in
        absurd (cc)
    go true is Equal at below =
        let same : m ≡ n = (bytes_eq-Decides m n).0 is in
        let before : IsTrue (before_mentions n shapes) = subst (λ x. IsTrue (before_mentions x shapes)) same proper.1 in
        rw (is, at, unmentioned n shapes before proper.3, in_front n s shapes before, same) refl
    go false is Less at below =
        let first : IsTrue (comes_before n m) = rw at refl in
        rw (is, unmentioned n shapes (before_next n m shapes first proper.1) proper.3, at) refl
    go false is Equal at below =
        let same : n ≡ m = (bytes_eq-Decides n m).0 (sym (is_eq-slice_cmp n m) ∙ ap is_eq at) in
        let again : bytes_eq m n ≡ true = (bytes_eq-Decides m n).1 (sym same) in
        absurd (cc)
    go false is Greater at below = rw (is, at) (ap (AndFieldShape m other r) below)

-- the second fields have the names and the numbers of the first
abbrev pub AreAlike : List Entry → List Entry → Type 0
AreAlike old new = AllZip (λ (p q : Entry). (rc_str_bytes q.0 ≡ rc_str_bytes p.0) × (q.1 ≡ p.1)) old new

alike_shown : (table : List model.Shape) (old new : List Entry) → AreAlike old new → fields_at table new ≡ fields_at table old
alike_shown table [] [] alike = refl
alike_shown table [] (f ∷ new) alike = absurd alike
alike_shown table (e ∷ old) [] alike = absurd alike
alike_shown table (e ∷ old) (f ∷ new) alike = rw (alike.0.0, alike.0.1, alike_shown table old new alike.1) refl

alike_below : (bound : ℕ) (old new : List Entry) → AreAlike old new → AreBelow bound (numbers_in old) → AreBelow bound (numbers_in new)
alike_below bound [] [] alike below = tt
alike_below bound [] (f ∷ new) alike below = absurd alike
alike_below bound (e ∷ old) [] alike below = absurd alike
alike_below bound (e ∷ old) (f ∷ new) alike below = (subst (λ (g : NodeField). g.shape < bound) (sym alike.0.1) below.0, alike_below bound old new alike.1 below.1)

-- inserting a field into a clone is the setting of its mention
pub field_set : (name : List ℕ) (k : Name) (f : NodeField) (old cloned new : List Entry) → rc_str_bytes k ≡ name → f.needed ≡ true → AreAlike old cloned → new ≡ insert_entry name_cmp cloned k f → AreWithField name f.shape old new
field_set name k f old cloned new same needed alike inserted = record {
  shapes = λ table proper. ap (fields_at table) inserted ∙ put-shown table cloned k f ∙ rw (same, needed, alike_shown table old cloned alike) (put-set name (shape_at table f.shape) (fields_at table old) proper);
  below = λ bound within below. subst (λ es. AreBelow bound (numbers_in es)) (sym inserted) (put-below bound cloned k f within (alike_below bound old cloned alike below));
}

-- the node with the changed fields has numbers of the table alone
pub field_refers : (bound m : ℕ) (name : List ℕ) (old : List Entry) (new : BTreeMap Name NodeField) (extra : Bool) → AreBelow bound (numbers_in old) → m < bound → AreWithField name m old new.entries → RefersBelow bound (Object new extra)
field_refers bound m name old new extra below also are = record { each = are.below bound also below }

-- ---- places

set_shapes : (table : List model.Shape) (ns : List ℕ) (i n : ℕ) → i < length ns → shapes_at table (slice_set ns i n) ≡ set_place i (shape_at table n) (shapes_at table ns)
set_shapes table [] i n h = absurd (omega arith)
set_shapes table (m ∷ ns) zero n h = refl
set_shapes table (m ∷ ns) (suc i) n h = ap (AndShape (shape_at table m)) (set_shapes table ns i n (omega arith))

set_below : (bound : ℕ) (ns : List ℕ) (i n : ℕ) → i < length ns → n < bound → AreBelow bound ns → AreBelow bound (slice_set ns i n)
set_below bound [] i n h within below = absurd (omega arith)
set_below bound (m ∷ ns) zero n h within below = (within, below.1)
set_below bound (m ∷ ns) (suc i) n h within below = (below.0, set_below bound ns i n (omega arith) within below.1)

none_set : (s : model.Shape) (table : List model.Shape) (ns : List ℕ) (i : ℕ) → length ns ≤ i → shapes_at table ns ≡ set_place i s (shapes_at table ns)
none_set s table [] i h = refl
none_set s table (m ∷ ns) zero h = absurd (omega arith)
none_set s table (m ∷ ns) (suc i) h = ap (AndShape (shape_at table m)) (none_set s table ns i (omega arith))

-- the place at an index is set
pub place_set : (ns new : List ℕ) (i n : ℕ) → i < length ns → new ≡ slice_set ns i n → AreWithPlace i n ns new
place_set ns new i n h is = record {
  shapes = λ table. ap (shapes_at table) is ∙ set_shapes table ns i n h;
  below = λ bound within below. subst (AreBelow bound) (sym is) (set_below bound ns i n h within below);
}

-- there is none at the index
pub no_place : (ns new : List ℕ) (i n : ℕ) → length ns ≤ i → new ≡ ns → AreWithPlace i n ns new
no_place ns new i n h is = record {
  shapes = λ table. ap (shapes_at table) is ∙ none_set (shape_at table n) table ns i h;
  below = λ bound within below. subst (AreBelow bound) (sym is) below;
}

-- all places, copied behind none
pub copied_all : (none copied ns : List ℕ) → none ≡ [] → copied ≡ none ++ ns → copied ≡ ns
copied_all none copied ns empty h = h ∙ rw empty

-- the places as they were copied, of which one was set
pub copy_set : (ns copied new : List ℕ) (i n : ℕ) → copied ≡ ns → AreWithPlace i n copied new → AreWithPlace i n ns new
copy_set ns copied new i n same are = subst (λ ms. AreWithPlace i n ms new) same are

-- the node with the changed places has numbers of the table alone
pub place_refers : (bound m i : ℕ) (old : List ℕ) (new : Vec ℕ Global) (rest : ℕ) → AreBelow bound old → rest < bound → m < bound → AreWithPlace i m old new.items → RefersBelow bound (Elements new rest)
place_refers bound m i old new rest below further also are = record { each = (further, are.below bound also below) }
