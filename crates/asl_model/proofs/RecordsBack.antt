-- What is written for declared shapes and certificates is read as the same ones.
use Rattle.std.proofs.Common.{◌≡◌, ℕ, ℤ, pos, List, [], ◌∷◌, ◌++◌, Bool, true, false, ◌||◌, if◌then◌else◌, Option, Some, None, option_map, option_and_then, IfSome, codes, is_some, refl, ap, ap₂, ◌∙◌}
use Rattle.std.specs.Ordering.{int_eq}
use Rattle.std.specs.List.{AllByRecursion, list_any}
use Rattle.std.specs.Option.{unwrap_or}
use Rattle.serde_json.specs.Data as json
use Rattle.serde_json.specs.Data.{Data, Items, Members, Num}
use Rattle.serde_json.specs.Find.{as_i64}
use Rattle.asl_model.specs.Tree.{Tree, Integer, Array, Object, Trees, NoTrees, AndTree, Fields, NoFields, AndField}
use Rattle.asl_model.specs.Shape.{Shape, has_several, IsProperShape}
use Rattle.asl_model.specs.Json.{tree_of, elements_of, members_of}
use Rattle.asl_model.specs.Certificate.{TaskShapes, Declared, StateShapes, Certificate}
use Rattle.asl_model.specs.Records.{Reading, declared_reading, RecordRow, version_misfits, StandsForDeclared, StandsForCertificate, shape_misfits, shapes_misfits, shape_from, shapes_from, object_complaints, entries_complaints, entries_from, task_rows, task_from, state_rows, state_from}
use Rattle.asl_model.specs.RecordShapes.{HoldsForTask, HoldsForDeclared, HoldsForState, HoldsForCertificate}
use Rattle.asl_model.specs.Written.{written_shape, written_list, written_entries, written_task, written_declared, written_state, state_has_several, certificate_has_several, version_of, written_certificate}
use Rattle.asl_model.proofs.SpellingWritten.{IsSpelled, May, may_parts, faults_same, written_spells}

-- ---- the value of which a tree was made

-- an object
pub object_in : (v : Data) (fs : Fields) → tree_of v ≡ Some (Object fs) → (ms : Members) × (v ≡ json.object ms) × (members_of ms ≡ Some fs)
object_in json.null fs e = absurd (cc)
object_in (json.boolean b) fs e = absurd (cc)
object_in (json.number n) fs e = by (as_i64 n) e
  where
    by : (o : Option ℤ) → option_map Integer o ≡ Some (Object fs) → (ms : Members) × (json.number n ≡ json.object ms) × (members_of ms ≡ Some fs)
    by None h = absurd (cc)
    by (Some m) h = absurd (cc)
object_in (json.string s) fs e = absurd (cc)
object_in (json.array vs) fs e = by (elements_of vs) e
  where
    by : (o : Option Trees) → option_map Array o ≡ Some (Object fs) → (ms : Members) × (json.array vs ≡ json.object ms) × (members_of ms ≡ Some fs)
    by None h = absurd (cc)
    by (Some ts) h = absurd (cc)
object_in (json.object ms) fs e = (ms, refl, by (members_of ms) e)
  where
    by : (o : Option Fields) → option_map Object o ≡ Some (Object fs) → o ≡ Some fs
    by None h = absurd (cc)
    by (Some gs) h = cc

-- an array
pub array_in : (v : Data) (ts : Trees) → tree_of v ≡ Some (Array ts) → (vs : Items) × (v ≡ json.array vs) × (elements_of vs ≡ Some ts)
array_in json.null ts e = absurd (cc)
array_in (json.boolean b) ts e = absurd (cc)
array_in (json.number n) ts e = by (as_i64 n) e
  where
    by : (o : Option ℤ) → option_map Integer o ≡ Some (Array ts) → (vs : Items) × (json.number n ≡ json.array vs) × (elements_of vs ≡ Some ts)
    by None h = absurd (cc)
    by (Some m) h = absurd (cc)
array_in (json.string s) ts e = absurd (cc)
array_in (json.array vs) ts e = (vs, refl, by (elements_of vs) e)
  where
    by : (o : Option Trees) → option_map Array o ≡ Some (Array ts) → o ≡ Some ts
    by None h = absurd (cc)
    by (Some us) h = cc
array_in (json.object ms) ts e = by (members_of ms) e
  where
    by : (o : Option Fields) → option_map Object o ≡ Some (Array ts) → (vs : Items) × (json.object ms ≡ json.array vs) × (elements_of vs ≡ Some ts)
    by None h = absurd (cc)
    by (Some fs) h = absurd (cc)

-- a number
pub number_in : (v : Data) (m : ℤ) → tree_of v ≡ Some (Integer m) → (n : Num) × (v ≡ json.number n) × (as_i64 n ≡ Some m)
number_in json.null m e = absurd (cc)
number_in (json.boolean b) m e = absurd (cc)
number_in (json.number n) m e = (n, refl, by (as_i64 n) e)
  where
    by : (o : Option ℤ) → option_map Integer o ≡ Some (Integer m) → o ≡ Some m
    by None h = absurd (cc)
    by (Some k) h = cc
number_in (json.string s) m e = absurd (cc)
number_in (json.array vs) m e = by (elements_of vs) e
  where
    by : (o : Option Trees) → option_map Array o ≡ Some (Integer m) → (n : Num) × (json.array vs ≡ json.number n) × (as_i64 n ≡ Some m)
    by None h = absurd (cc)
    by (Some ts) h = absurd (cc)
number_in (json.object ms) m e = by (members_of ms) e
  where
    by : (o : Option Fields) → option_map Object o ≡ Some (Integer m) → (n : Num) × (json.object ms ≡ json.number n) × (as_i64 n ≡ Some m)
    by None h = absurd (cc)
    by (Some fs) h = absurd (cc)

-- no members
pub none_in : (ms : Members) → members_of ms ≡ Some NoFields → ms ≡ json.no_members
none_in json.no_members e = refl
none_in (json.member n v ms) e = by (tree_of v) (members_of ms) e
  where
    by : (t : Option Tree) (fs : Option Fields) → option_and_then (λ u. option_map (AndField n u) fs) t ≡ Some NoFields → json.member n v ms ≡ json.no_members
    by None fs h = absurd (cc)
    by (Some t) None h = absurd (cc)
    by (Some t) (Some fs) h = absurd (cc)

-- one member in front of others
pub member_in : (ms : Members) (n : List ℕ) (t : Tree) (fs : Fields) → members_of ms ≡ Some (AndField n t fs) → (v : Data) × (others : Members) × (ms ≡ json.member n v others) × (tree_of v ≡ Some t) × (members_of others ≡ Some fs)
member_in json.no_members n t fs e = absurd (cc)
member_in (json.member m v ms) n t fs e = let same = by (tree_of v) (members_of ms) e in (v, ms, ap (λ k. json.member k v ms) same.0, same.1, same.2)
  where
    by : (u : Option Tree) (gs : Option Fields) → option_and_then (λ x. option_map (AndField m x) gs) u ≡ Some (AndField n t fs) → (m ≡ n) × (u ≡ Some t) × (gs ≡ Some fs)
    by None gs h = absurd (cc)
    by (Some u) None h = absurd (cc)
    by (Some u) (Some gs) h = (cc, cc, cc)

-- no elements
pub no_item_in : (vs : Items) → elements_of vs ≡ Some NoTrees → vs ≡ json.no_items
no_item_in json.no_items e = refl
no_item_in (json.item v vs) e = by (tree_of v) (elements_of vs) e
  where
    by : (t : Option Tree) (ts : Option Trees) → option_and_then (λ u. option_map (AndTree u) ts) t ≡ Some NoTrees → json.item v vs ≡ json.no_items
    by None ts h = absurd (cc)
    by (Some t) None h = absurd (cc)
    by (Some t) (Some ts) h = absurd (cc)

-- one element in front of others
pub item_in : (vs : Items) (t : Tree) (ts : Trees) → elements_of vs ≡ Some (AndTree t ts) → (v : Data) × (others : Items) × (vs ≡ json.item v others) × (tree_of v ≡ Some t) × (elements_of others ≡ Some ts)
item_in json.no_items t ts e = absurd (cc)
item_in (json.item v vs) t ts e = let same = by (tree_of v) (elements_of vs) e in (v, vs, refl, same.0, same.1)
  where
    by : (u : Option Tree) (us : Option Trees) → option_and_then (λ x. option_map (AndTree x) us) u ≡ Some (AndTree t ts) → (u ≡ Some t) × (us ≡ Some ts)
    by None us h = absurd (cc)
    by (Some u) None h = absurd (cc)
    by (Some u) (Some us) h = (cc, cc)

-- ---- shapes

-- the value is what is written for the shape, and is read as it
pub record IsShape (reading : Reading) (v : Data) (s : Shape) : Type 0 where
  pub none_wrong : shape_misfits reading v ≡ []
  pub same : shape_from reading.listed v ≡ s

-- it is spelled by what is written for it, also where it is read so
pub record IsSpelledIn (several : Bool) (s : Shape) : Type 0 where
  pub spelled : IsSpelled s
  pub may : May several (has_several s)

-- how shapes are read where none is listed
abbrev pub plainly : Bool → Reading
plainly several = record { several = several; listed = None }

shape_there : (several : Bool) (v : Data) (s : Shape) → IsSpelledIn several s → tree_of v ≡ Some (written_shape s) → IsShape (plainly several) v s
shape_there several v s h e = record { none_wrong = rw (e, faults_same several s h.may, h.spelled.none_wrong) refl; same = rw (e, h.spelled.same) refl }

-- ---- objects of a few fields

one_left : (ms : Members) (n : List ℕ) (t : Tree) → members_of ms ≡ Some (AndField n t NoFields) → (a : Data) × (ms ≡ json.member n a json.no_members) × (tree_of a ≡ Some t)
one_left ms n t e =
    let first = member_in ms n t NoFields e in
    (first.0, first.2 ∙ ap (json.member n first.0) (none_in first.1 first.4), first.3)

two_left : (ms : Members) (n m : List ℕ) (t u : Tree) → members_of ms ≡ Some (AndField n t (AndField m u NoFields)) → (a : Data) × (b : Data) × (ms ≡ json.member n a (json.member m b json.no_members)) × (tree_of a ≡ Some t) × (tree_of b ≡ Some u)
two_left ms n m t u e =
    let first = member_in ms n t (AndField m u NoFields) e in
    let others = one_left first.1 m u first.4 in
    (first.0, others.0, first.2 ∙ ap (json.member n first.0) others.1, first.3, others.2)

three_left : (ms : Members) (n m k : List ℕ) (t u w : Tree) → members_of ms ≡ Some (AndField n t (AndField m u (AndField k w NoFields)))
    → (a : Data) × (b : Data) × (c : Data) × (ms ≡ json.member n a (json.member m b (json.member k c json.no_members))) × (tree_of a ≡ Some t) × (tree_of b ≡ Some u) × (tree_of c ≡ Some w)
three_left ms n m k t u w e =
    let first = member_in ms n t (AndField m u (AndField k w NoFields)) e in
    let others = two_left first.1 m k u w first.4 in
    (first.0, others.0, others.1, first.2 ∙ ap (json.member n first.0) others.2, first.3, others.3, others.4)

four_left : (ms : Members) (n m k l : List ℕ) (t u w x : Tree) → members_of ms ≡ Some (AndField n t (AndField m u (AndField k w (AndField l x NoFields))))
    → (a : Data) × (b : Data) × (c : Data) × (d : Data) × (ms ≡ json.member n a (json.member m b (json.member k c (json.member l d json.no_members)))) × (tree_of a ≡ Some t) × (tree_of b ≡ Some u) × (tree_of c ≡ Some w) × (tree_of d ≡ Some x)
four_left ms n m k l t u w x e =
    let first = member_in ms n t (AndField m u (AndField k w (AndField l x NoFields))) e in
    let others = three_left first.1 m k l u w x first.4 in
    (first.0, others.0, others.1, others.2, first.2 ∙ ap (json.member n first.0) others.3, first.3, others.4, others.5, others.6)

-- so of an object
two_in : (v : Data) (n m : List ℕ) (t u : Tree) → tree_of v ≡ Some (Object (AndField n t (AndField m u NoFields)))
    → (a : Data) × (b : Data) × (v ≡ json.object (json.member n a (json.member m b json.no_members))) × (tree_of a ≡ Some t) × (tree_of b ≡ Some u)
two_in v n m t u e =
    let o = object_in v (AndField n t (AndField m u NoFields)) e in
    let two = two_left o.0 n m t u o.2 in
    (two.0, two.1, o.1 ∙ ap json.object two.2, two.3, two.4)

pub three_in : (v : Data) (n m k : List ℕ) (t u w : Tree) → tree_of v ≡ Some (Object (AndField n t (AndField m u (AndField k w NoFields))))
    → (a : Data) × (b : Data) × (c : Data) × (v ≡ json.object (json.member n a (json.member m b (json.member k c json.no_members)))) × (tree_of a ≡ Some t) × (tree_of b ≡ Some u) × (tree_of c ≡ Some w)
three_in v n m k t u w e =
    let o = object_in v (AndField n t (AndField m u (AndField k w NoFields))) e in
    let three = three_left o.0 n m k t u w o.2 in
    (three.0, three.1, three.2, o.1 ∙ ap json.object three.3, three.4, three.5, three.6)

pub four_in : (v : Data) (n m k l : List ℕ) (t u w x : Tree) → tree_of v ≡ Some (Object (AndField n t (AndField m u (AndField k w (AndField l x NoFields)))))
    → (a : Data) × (b : Data) × (c : Data) × (d : Data) × (v ≡ json.object (json.member n a (json.member m b (json.member k c (json.member l d json.no_members))))) × (tree_of a ≡ Some t) × (tree_of b ≡ Some u) × (tree_of c ≡ Some w) × (tree_of d ≡ Some x)
four_in v n m k l t u w x e =
    let o = object_in v (AndField n t (AndField m u (AndField k w (AndField l x NoFields)))) e in
    let four = four_left o.0 n m k l t u w x o.2 in
    (four.0, four.1, four.2, four.3, o.1 ∙ ap json.object four.4, four.5, four.6, four.7, four.8)

-- ---- entries

-- the value is read as that, with nothing wrong in the entry of any name
pub record IsEntry {A : Type 0} (reading : Reading) (rows : List RecordRow) (from : Data → A) (v : Data) (a : A) : Type 0 where
  pub none_wrong : (n : List ℕ) → object_complaints reading n rows v ≡ []
  pub same : from v ≡ a

-- so for each entry under its name
pub record AreEntries {A : Type 0} (reading : Reading) (rows : List RecordRow) (from : Data → A) (ms : Members) (entries : List (List ℕ × A)) : Type 0 where
  pub none_wrong : entries_complaints reading rows ms ≡ []
  pub same : entries_from from ms ≡ entries

pub entries_there : {A : Type 0} (reading : Reading) (rows : List RecordRow) (from : Data → A) (written : A → Tree) (P : A → Type 0) → ((a : A) (v : Data) → P a → tree_of v ≡ Some (written a) → IsEntry reading rows from v a)
    → (entries : List (List ℕ × A)) (ms : Members) → AllByRecursion (λ (entry : List ℕ × A). P entry.1) entries → members_of ms ≡ Some (written_entries written entries) → AreEntries reading rows from ms entries
entries_there reading rows from written P there [] ms h e = rw (none_in ms e) (record { none_wrong = refl; same = refl })
entries_there reading rows from written P there (entry ∷ entries) ms h e =
    let it = member_in ms entry.0 (written entry.1) (written_entries written entries) e in
    let first = there entry.1 it.0 h.0 it.3 in
    let others = entries_there reading rows from written P there entries it.1 h.1 it.4 in
    rw it.2 (record { none_wrong = ap₂ ◌++◌ (first.none_wrong entry.0) others.none_wrong; same = rw (first.same, others.same) refl })

-- ---- declared shapes

-- several kinds may stand in declared shapes
in_declared : (s : Shape) → IsSpelled s → IsSpelledIn true s
in_declared s h = record { spelled = h; may = refl }

task_there : (task : TaskShapes) (v : Data) → HoldsForTask IsSpelled task → tree_of v ≡ Some (written_task task) → IsEntry declared_reading task_rows task_from v task
task_there task v h e =
    let two = two_in v (codes "gives") (codes "takes") (written_shape task.gives) (written_shape task.takes) e in
    let gives = shape_there true two.0 task.gives (in_declared task.gives h.gives) two.3 in
    let takes = shape_there true two.1 task.takes (in_declared task.takes h.takes) two.4 in
    rw two.2 (record { none_wrong = (λ n. rw (gives.none_wrong, takes.none_wrong) refl); same = rw (gives.same, takes.same) refl })

pub declared_back : (v : Data) (d : Declared) → HoldsForDeclared IsSpelled d → tree_of v ≡ Some (written_declared d) → StandsForDeclared v d
declared_back v d h e =
    let two = two_in v (codes "input") (codes "tasks") (written_shape d.input) (Object (written_entries written_task d.tasks)) e in
    let input = shape_there true two.0 d.input (in_declared d.input h.input) two.3 in
    let object = object_in two.1 (written_entries written_task d.tasks) two.4 in
    let tasks = entries_there declared_reading task_rows task_from written_task (HoldsForTask IsSpelled) task_there d.tasks object.0 h.tasks object.2 in
    record {
      whole = ap is_some e;
      none_wrong = rw (two.2, object.1, input.none_wrong, tasks.none_wrong) refl;
      same = rw (two.2, object.1, input.same, tasks.same) refl;
    }

-- ---- certificates

-- where each shape is written so that its value is read as it
module _ (reading : Reading) (written : Shape → Tree) (P : Shape → Type 0) (there : (v : Data) (s : Shape) → P s → tree_of v ≡ Some (written s) → IsShape reading v s) where
  -- so of several
  pub record AreShapes (vs : Items) (shapes : List Shape) : Type 0 where
    pub none_wrong : shapes_misfits reading vs ≡ []
    pub same : shapes_from reading.listed vs ≡ shapes

  shapes_there : (shapes : List Shape) (vs : Items) → AllByRecursion P shapes → elements_of vs ≡ Some (written_list written shapes) → AreShapes vs shapes
  shapes_there [] vs h e = rw (no_item_in vs e) (record { none_wrong = refl; same = refl })
  shapes_there (s ∷ shapes) vs h e =
      let it = item_in vs (written s) (written_list written shapes) e in
      let first = there it.0 s h.0 it.3 in
      let others = shapes_there shapes it.1 h.1 it.4 in
      rw it.2 (record { none_wrong = rw (first.none_wrong, others.none_wrong) refl; same = rw (first.same, others.same) refl })

  pub state_there : (shapes : StateShapes) (v : Data) → HoldsForState P shapes → tree_of v ≡ Some (written_state written shapes) → IsEntry reading state_rows (state_from reading.listed) v shapes
  state_there shapes v h e = by shapes.branches shapes.item h.branches h.item e
    where
      -- the entry with those branches and that item
      entry : List Shape → Option Shape → StateShapes
      entry branches item = record { input = shapes.input; output = shapes.output; branches = branches; item = item }

      by : (branches : List Shape) (item : Option Shape) → AllByRecursion P branches → IfSome item P → tree_of v ≡ Some (written_state written (entry branches item)) → IsEntry reading state_rows (state_from reading.listed) v (entry branches item)
      by [] None b i e =
          let two = two_in v (codes "input") (codes "output") (written shapes.input) (written shapes.output) e in
          let input = there two.0 shapes.input h.input two.3 in
          let output = there two.1 shapes.output h.output two.4 in
          rw two.2 (record { none_wrong = (λ n. rw (input.none_wrong, output.none_wrong) refl); same = rw (input.same, output.same) refl })
      by [] (Some s) b i e =
          let three = three_in v (codes "input") (codes "item") (codes "output") (written shapes.input) (written s) (written shapes.output) e in
          let input = there three.0 shapes.input h.input three.4 in
          let item = there three.1 s i three.5 in
          let output = there three.2 shapes.output h.output three.6 in
          rw three.3 (record { none_wrong = (λ n. rw (input.none_wrong, item.none_wrong, output.none_wrong) refl); same = rw (input.same, item.same, output.same) refl })
      by (s ∷ further) None b i e =
          let three = three_in v (codes "branches") (codes "input") (codes "output") (Array (written_list written (s ∷ further))) (written shapes.input) (written shapes.output) e in
          let array = array_in three.0 (written_list written (s ∷ further)) three.4 in
          let branches = shapes_there (s ∷ further) array.0 b array.2 in
          let input = there three.1 shapes.input h.input three.5 in
          let output = there three.2 shapes.output h.output three.6 in
          rw (three.3, array.1) (record { none_wrong = (λ n. rw (branches.none_wrong, input.none_wrong, output.none_wrong) refl); same = rw (branches.same, input.same, output.same) refl })
      by (s ∷ further) (Some t) b i e =
          let four = four_in v (codes "branches") (codes "input") (codes "item") (codes "output") (Array (written_list written (s ∷ further))) (written shapes.input) (written t) (written shapes.output) e in
          let array = array_in four.0 (written_list written (s ∷ further)) four.5 in
          let branches = shapes_there (s ∷ further) array.0 b array.2 in
          let input = there four.1 shapes.input h.input four.6 in
          let item = there four.2 t i four.7 in
          let output = there four.3 shapes.output h.output four.8 in
          rw (four.4, array.1) (record { none_wrong = (λ n. rw (branches.none_wrong, input.none_wrong, item.none_wrong, output.none_wrong) refl); same = rw (branches.same, input.same, item.same, output.same) refl })

-- the version that is written is read as whether there may be several kinds
pub version_read : (several : Bool) → int_eq (pos 2) (pos (if several then 2 else 1)) ≡ several
version_read true = refl
version_read false = refl

pub version_right : (several : Bool) → version_misfits (Some (pos (if several then 2 else 1))) ≡ []
version_right true = refl
version_right false = refl

-- where a shape of a certificate is of several kinds, each may be; where none is, none is
item_may : (several : Bool) (item : Option Shape) → May several (unwrap_or (option_map has_several item) false) → IfSome item (λ s. May several (has_several s))
item_may several None h = tt
item_may several (Some s) h = h

all_may : (several : Bool) (shapes : List Shape) → May several (list_any has_several shapes) → AllByRecursion (λ s. May several (has_several s)) shapes
all_may several [] h = tt
all_may several (s ∷ shapes) h = let both = may_parts several (has_several s) (list_any has_several shapes) h in (both.0, all_may several shapes both.1)

state_may : (several : Bool) (shapes : StateShapes) → May several (state_has_several shapes) → HoldsForState (λ s. May several (has_several s)) shapes
state_may several shapes h =
    let items = unwrap_or (option_map has_several shapes.item) false in
    let branches = list_any has_several shapes.branches in
    let i = may_parts several (has_several shapes.input) (has_several shapes.output || (branches || items)) h in
    let o = may_parts several (has_several shapes.output) (branches || items) i.1 in
    let b = may_parts several branches items o.1 in
    record { input = i.0; output = o.0; branches = all_may several shapes.branches b.0; item = item_may several shapes.item b.1 }

states_may : (several : Bool) (entries : List (List ℕ × StateShapes)) → May several (list_any (λ entry. state_has_several entry.1) entries) → AllByRecursion (λ (entry : List ℕ × StateShapes). HoldsForState (λ s. May several (has_several s)) entry.1) entries
states_may several [] h = tt
states_may several (entry ∷ entries) h =
    let both = may_parts several (state_has_several entry.1) (list_any (λ e. state_has_several e.1) entries) h in
    (state_may several entry.1 both.0, states_may several entries both.1)

may_itself : (several : Bool) → May several several
may_itself true = refl
may_itself false = refl

pub certificate_may : (c : Certificate) → HoldsForCertificate (λ s. May (certificate_has_several c) (has_several s)) c
certificate_may c =
    let several = certificate_has_several c in
    let both = may_parts several (has_several c.output) (list_any (λ entry. state_has_several entry.1) c.states) (may_itself several) in
    record { output = both.0; states = states_may several c.states both.1 }

-- what follows from two things that hold for every shape of a certificate holds for every one
module _ (P Q R : Shape → Type 0) (f : (s : Shape) → P s → Q s → R s) where
  both_all : (shapes : List Shape) → AllByRecursion P shapes → AllByRecursion Q shapes → AllByRecursion R shapes
  both_all [] h p = tt
  both_all (s ∷ shapes) h p = (f s h.0 p.0, both_all shapes h.1 p.1)

  both_item : (item : Option Shape) → IfSome item P → IfSome item Q → IfSome item R
  both_item None h p = tt
  both_item (Some s) h p = f s h p

  both_state : (shapes : StateShapes) → HoldsForState P shapes → HoldsForState Q shapes → HoldsForState R shapes
  both_state shapes h p = record { input = f shapes.input h.input p.input; output = f shapes.output h.output p.output; branches = both_all shapes.branches h.branches p.branches; item = both_item shapes.item h.item p.item }

  both_states : (entries : List (List ℕ × StateShapes)) → AllByRecursion (λ (entry : List ℕ × StateShapes). HoldsForState P entry.1) entries → AllByRecursion (λ (entry : List ℕ × StateShapes). HoldsForState Q entry.1) entries → AllByRecursion (λ (entry : List ℕ × StateShapes). HoldsForState R entry.1) entries
  both_states [] h p = tt
  both_states (entry ∷ entries) h p = (both_state entry.1 h.0 p.0, both_states entries h.1 p.1)

  pub both_certificate : (c : Certificate) → HoldsForCertificate P c → HoldsForCertificate Q c → HoldsForCertificate R c
  both_certificate c h p = record { output = f c.output h.output p.output; states = both_states c.states h.states p.states }

pub certificate_back : (v : Data) (c : Certificate) → HoldsForCertificate IsSpelled c → tree_of v ≡ Some (written_certificate c) → StandsForCertificate v c
certificate_back v c spelled e =
    let several = certificate_has_several c in
    let h = both_certificate IsSpelled (λ s. May several (has_several s)) (IsSpelledIn several) (λ s own may. record { spelled = own; may = may }) c spelled (certificate_may c) in
    let three = three_in v (codes "output") (codes "states") (codes "version") (written_shape c.output) (Object (written_entries (written_state written_shape) c.states)) (Integer (pos (version_of c))) e in
    let output = shape_there several three.0 c.output h.output three.4 in
    let object = object_in three.1 (written_entries (written_state written_shape) c.states) three.5 in
    let number = number_in three.2 (pos (version_of c)) three.6 in
    let states = entries_there (plainly several) state_rows (state_from None) (written_state written_shape) (HoldsForState (IsSpelledIn several)) (state_there (plainly several) written_shape (IsSpelledIn several) (shape_there several)) c.states object.0 h.states object.2 in
    record {
      whole = ap is_some e;
      none_wrong = rw (three.3, object.1, number.1, number.2, version_read several, version_right several, output.none_wrong, states.none_wrong) refl;
      same = rw (three.3, object.1, output.same, states.same) refl;
    }

-- ---- proper shapes

-- what follows for each shape of a list
each : {A : Type 0} (P Q : A → Type 0) → ((a : A) → P a → Q a) → (xs : List A) → AllByRecursion P xs → AllByRecursion Q xs
each P Q f [] h = tt
each P Q f (x ∷ xs) h = (f x h.0, each P Q f xs h.1)

spelled_there : (o : Option Shape) → IfSome o IsProperShape → IfSome o IsSpelled
spelled_there None h = tt
spelled_there (Some s) h = written_spells s h

spelled_task : (task : TaskShapes) → HoldsForTask IsProperShape task → HoldsForTask IsSpelled task
spelled_task task h = record { takes = written_spells task.takes h.takes; gives = written_spells task.gives h.gives }

spelled_state : (shapes : StateShapes) → HoldsForState IsProperShape shapes → HoldsForState IsSpelled shapes
spelled_state shapes h = record { input = written_spells shapes.input h.input; output = written_spells shapes.output h.output; branches = each IsProperShape IsSpelled written_spells shapes.branches h.branches; item = spelled_there shapes.item h.item }

pub proper_declared_back : (v : Data) (d : Declared) → HoldsForDeclared IsProperShape d → tree_of v ≡ Some (written_declared d) → StandsForDeclared v d
proper_declared_back v d h e =
    declared_back v d (record { input = written_spells d.input h.input; tasks = each (λ (entry : List ℕ × TaskShapes). HoldsForTask IsProperShape entry.1) (λ (entry : List ℕ × TaskShapes). HoldsForTask IsSpelled entry.1) (λ entry. spelled_task entry.1) d.tasks h.tasks }) e

pub proper_certificate_back : (v : Data) (c : Certificate) → HoldsForCertificate IsProperShape c → tree_of v ≡ Some (written_certificate c) → StandsForCertificate v c
proper_certificate_back v c h e =
    certificate_back v c (record { output = written_spells c.output h.output; states = each (λ (entry : List ℕ × StateShapes). HoldsForState IsProperShape entry.1) (λ (entry : List ℕ × StateShapes). HoldsForState IsSpelled entry.1) (λ entry. spelled_state entry.1) c.states h.states }) e
