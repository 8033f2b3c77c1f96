-- Fields with numbers that become needed.
use Rattle.std.proofs.Common.{◌≡◌, ◌<◌, ℕ, List, [], ◌∷◌, length, Bool, true, false, Some, None, Ordering, Less, Equal, Greater, refl, sym, ap, ◌∙◌, subst}
use Rattle.std.specs.BTreeMap.{is_at, insert_entry}
use Rattle.std.specs.Map.{lookup, set_value}
use Rattle.std.specs.Cmp.Lexicographic.{slice_cmp}
use Rattle.std.specs.Ordering.{is_eq, nat_cmp}
use Rattle.asl_model.specs.Shape.{insert_mention}
use Rattle.asl_model.specs.Shape as model
use Rattle.asl_model.specs.ShapeSpelling.{unmentioned, with_mention_needed, with_needed, with_all_needed}
use Rattle.asl_shape.proofs.Lookups.{same_name}
use Rattle.asl_numbered.proofs.Comparisons.{mentions_under}
use Rattle.asl_numbered.specs.declared.node.NodeField.{NodeField}
use Rattle.asl_numbered.specs.Expansion.{shape_at, fields_at, numbers_in, AreBelow, IsNumberOf, AreFieldsOf, Keeps}
use Rattle.asl_numbered.proofs.Growing.{fields_kept}
use Rattle.asl_numbered.specs.Names.{Name, text_cmp, name_cmp}
use Rattle.std.specs.Rc.{rc_str_bytes}

-- a look-up by the bytes of a name
abbrev at_name : List ℕ → Name → Bool
at_name n = is_at (text_cmp n)

-- a name that wasn't mentioned goes to its place
inserted_new : (table : List model.Shape) (k : Name) (f : NodeField) (es : List (Name × NodeField)) → lookup (at_name (rc_str_bytes k)) es ≡ None → fields_at table (insert_entry name_cmp es k f) ≡ insert_mention (rc_str_bytes k) f.needed (shape_at table f.shape) (fields_at table es)
inserted_new table k f [] none = refl
inserted_new table k f (e ∷ es) none = go (name_cmp k e.0) refl none (inserted_new table k f es)
  where
    go : (o : Ordering) → name_cmp k e.0 ≡ o → lookup (at_name (rc_str_bytes k)) (e ∷ es) ≡ None → (lookup (at_name (rc_str_bytes k)) es ≡ None → fields_at table (insert_entry name_cmp es k f) ≡ insert_mention (rc_str_bytes k) f.needed (shape_at table f.shape) (fields_at table es))
        → fields_at table (insert_entry name_cmp (e ∷ es) k f) ≡ insert_mention (rc_str_bytes k) f.needed (shape_at table f.shape) (fields_at table (e ∷ es))
    go Less is none later = rw is refl
    go Equal is none later =
        let none_here : Some e.1 ≡ None = rw is at none in
        absurd (cc)
    go Greater is none later =
        let none_later : lookup (at_name (rc_str_bytes k)) es ≡ None = rw is at none in
        rw is (ap (model.AndFieldShape (rc_str_bytes e.0) e.1.needed (shape_at table e.1.shape)) (later none_later))

needed_new : (table : List model.Shape) (extra : Bool) (k : Name) (f : NodeField) (es : List (Name × NodeField)) → f.needed ≡ true → shape_at table f.shape ≡ unmentioned extra → lookup (at_name (rc_str_bytes k)) es ≡ None → fields_at table (insert_entry name_cmp es k f) ≡ with_needed extra (rc_str_bytes k) (fields_at table es)
needed_new table extra k f es needed shape none = rw (mentions_under table (rc_str_bytes k) es, none) (inserted_new table k f es none ∙ rw (needed, shape) refl)

-- a name that was mentioned becomes needed
made_needed : (table : List model.Shape) (n : List ℕ) (f g : NodeField) (es : List (Name × NodeField)) → g.needed ≡ true → g.shape ≡ f.shape → lookup (at_name n) es ≡ Some f → fields_at table (set_value (at_name n) es g) ≡ with_mention_needed n (fields_at table es)
made_needed table n f g [] needed same found = absurd (cc)
made_needed table n f g (e ∷ es) needed same found = go (is_eq (slice_cmp nat_cmp n (rc_str_bytes e.0))) refl found (made_needed table n f g es needed same)
  where
    go : (here : Bool) → is_eq (slice_cmp nat_cmp n (rc_str_bytes e.0)) ≡ here → lookup (at_name n) (e ∷ es) ≡ Some f → (lookup (at_name n) es ≡ Some f → fields_at table (set_value (at_name n) es g) ≡ with_mention_needed n (fields_at table es))
        → fields_at table (set_value (at_name n) (e ∷ es) g) ≡ with_mention_needed n (fields_at table (e ∷ es))
    go true is found later =
        let here : Some e.1 ≡ Some f = rw is at found in
        let same_field : e.1 ≡ f = cc in
        rw (same_name n (rc_str_bytes e.0), is, needed, same, same_field) refl
    go false is found later =
        let found_later : lookup (at_name n) es ≡ Some f = rw is at found in
        rw (same_name n (rc_str_bytes e.0), is) (ap (model.AndFieldShape (rc_str_bytes e.0) e.1.needed (shape_at table e.1.shape)) (later found_later))

needed_found : (table : List model.Shape) (extra : Bool) (n : List ℕ) (f g : NodeField) (es : List (Name × NodeField)) → g.needed ≡ true → g.shape ≡ f.shape → lookup (at_name n) es ≡ Some f → fields_at table (set_value (at_name n) es g) ≡ with_needed extra n (fields_at table es)
needed_found table extra n f g es needed same found = rw (mentions_under table n es, found) (made_needed table n f g es needed same found)

-- a field that keeps its number changes no number
numbers_set : (test : Name → Bool) (es : List (Name × NodeField)) (f g : NodeField) → g.shape ≡ f.shape → lookup test es ≡ Some f → numbers_in (set_value test es g) ≡ numbers_in es
numbers_set test [] f g same found = refl
numbers_set test (e ∷ es) f g same found = go (test e.0) refl (numbers_set test es f g same)
  where
    go : (here : Bool) → test e.0 ≡ here → (lookup test es ≡ Some f → numbers_in (set_value test es g) ≡ numbers_in es) → numbers_in (set_value test (e ∷ es) g) ≡ numbers_in (e ∷ es)
    go true is later =
        let this : Some e.1 ≡ Some f = rw is at found in
        let same_field : e.1 ≡ f = cc in
        rw is (ap (λ n. n ∷ numbers_in es) (same ∙ ap (λ x. x.shape) (sym same_field)))
    go false is later = rw is (ap (λ ns. e.1.shape ∷ ns) (later (rw is at found)))

below_inserted : (bound : ℕ) (es : List (Name × NodeField)) (k : Name) (f : NodeField) → f.shape < bound → AreBelow bound (numbers_in es) → AreBelow bound (numbers_in (insert_entry name_cmp es k f))
below_inserted bound [] k f h below = (h, tt)
below_inserted bound (e ∷ es) k f h below = go (name_cmp k e.0) refl (below_inserted bound es k f h below.1)
  where
    go : (o : Ordering) → name_cmp k e.0 ≡ o → AreBelow bound (numbers_in (insert_entry name_cmp es k f)) → AreBelow bound (numbers_in (insert_entry name_cmp (e ∷ es) k f))
    go Less is later = rw is (h, below)
    go Equal is later = rw is (h, below.1)
    go Greater is later = rw is (below.0, later)

-- a field that is mentioned
pub mark_found : (table : List model.Shape) (extra : Bool) (n : List ℕ) (f g : NodeField) (es new : List (Name × NodeField)) → AreBelow (length table) (numbers_in es) → g.needed ≡ true → g.shape ≡ f.shape → lookup (at_name n) es ≡ Some f → new ≡ set_value (at_name n) es g → AreFieldsOf table (with_needed extra n (fields_at table es)) new
mark_found table extra n f g es new below needed same found is =
    record {
      within = subst (AreBelow (length table)) (sym (ap numbers_in is ∙ numbers_set (at_name n) es f g same found)) below;
      same = ap (fields_at table) is ∙ needed_found table extra n f g es needed same found;
    }

-- one that isn't
pub mark_new : (old now : List model.Shape) (extra : Bool) (n : List ℕ) (key : Name) (f : NodeField) (es new : List (Name × NodeField)) (other : model.Shape) → Keeps old now → AreBelow (length old) (numbers_in es) → rc_str_bytes key ≡ n → f.needed ≡ true → IsNumberOf now other f.shape → other ≡ unmentioned extra → lookup (at_name n) es ≡ None → new ≡ insert_entry name_cmp es key f → AreFieldsOf now (with_needed extra n (fields_at old es)) new
mark_new old now extra n key f es new other keeps below named needed number is none inserted =
    let kept : AreFieldsOf now (fields_at old es) es = fields_kept old now (fields_at old es) es keeps (record { within = below; same = refl }) in
    let absent : lookup (at_name (rc_str_bytes key)) es ≡ None = subst (λ bs. lookup (at_name bs) es ≡ None) (sym named) none in
    record {
      within = subst (λ fs. AreBelow (length now) (numbers_in fs)) (sym inserted) (below_inserted (length now) es key f number.within kept.within);
      same = ap (fields_at now) inserted ∙ needed_new now extra key f es needed (number.same ∙ is) absent ∙ ap (λ n. with_needed extra n (fields_at now es)) named ∙ ap (with_needed extra n) kept.same;
    }

-- the fields have numbers in the table, and what is left to mark in them gives what all names give in the first ones
pub record Marks (extra : Bool) (all : List (List ℕ)) (first : model.FieldShapes) (left : List (List ℕ)) (table : List model.Shape) (es : List (Name × NodeField)) : Type 0 where
  pub within : AreBelow (length table) (numbers_in es)
  pub same : with_all_needed extra all first ≡ with_all_needed extra left (fields_at table es)

pub marks_start : (extra : Bool) (all : List (List ℕ)) (table : List model.Shape) (es : List (Name × NodeField)) → AreBelow (length table) (numbers_in es) → Marks extra all (fields_at table es) all table es
marks_start extra all table es below = record { within = below; same = refl }

pub marks_step : (extra : Bool) (all : List (List ℕ)) (first : model.FieldShapes) (now left : List (List ℕ)) (n : List ℕ) (old new : List model.Shape) (es fs : List (Name × NodeField)) → Marks extra all first now old es → now ≡ n ∷ left → AreFieldsOf new (with_needed extra n (fields_at old es)) fs → Marks extra all first left new fs
marks_step extra all first now left n old new es fs marks split are =
    record { within = are.within; same = marks.same ∙ ap (λ ns. with_all_needed extra ns (fields_at old es)) split ∙ ap (with_all_needed extra left) (sym are.same) }
