-- Values whose whole numbers are all signed: each value is the same tree as such a one, which is the one value of its tree.
use Rattle.std.proofs.Common.{◌≡◌, ℕ, ℤ, List, Option, Some, None, option_map, option_and_then, Ordering, Less, Equal, Greater, nat_cmp, refl, ap, ◌∙◌}
use Rattle.std.specs.Cmp.Lexicographic.{slice_cmp}
use Rattle.std.specs.Option.{unwrap_or}
use Rattle.std.specs.Ordering.{match_ordering}
use Rattle.serde_json.specs.Data as json
use Rattle.serde_json.specs.Data.{Data, Items, Members, Num, negative}
use Rattle.serde_json.specs.Find.{as_i64, get_member}
use Rattle.asl_model.specs.Json.{tree_of, elements_of, members_of}
use Rattle.asl_model.specs.Tree.{Tree, Null, Boolean, Integer, Text, Array, Object, Trees, NoTrees, AndTree, Fields, NoFields, AndField}
use Rattle.asl_records.specs.Values.{as_value, as_items, as_members}

-- a whole number as a signed one
abbrev pub signed_number : Num → Num
signed_number n = unwrap_or (option_map negative (as_i64 n)) n

abbrev mutual
  -- and so each number of a value
  pub signed : Data → Data
  signed json.null = json.null
  signed (json.boolean b) = json.boolean b
  signed (json.number n) = json.number (signed_number n)
  signed (json.string s) = json.string s
  signed (json.array vs) = json.array (signed_items vs)
  signed (json.object ms) = json.object (signed_members ms)

  pub signed_items : Items → Items
  signed_items json.no_items = json.no_items
  signed_items (json.item v vs) = json.item (signed v) (signed_items vs)

  pub signed_members : Members → Members
  signed_members json.no_members = json.no_members
  signed_members (json.member n v ms) = json.member n (signed v) (signed_members ms)

-- ---- it is the same tree

pub as_i64-signed : (n : Num) → as_i64 (signed_number n) ≡ as_i64 n
as_i64-signed n = by (as_i64 n) refl
  where
    by : (o : Option ℤ) → as_i64 n ≡ o → as_i64 (unwrap_or (option_map negative o) n) ≡ o
    by None e = e
    by (Some z) e = refl

mutual
  pub tree_of-signed : (v : Data) → tree_of (signed v) ≡ tree_of v
  tree_of-signed json.null = refl
  tree_of-signed (json.boolean b) = refl
  tree_of-signed (json.number n) = ap (option_map Integer) (as_i64-signed n)
  tree_of-signed (json.string s) = refl
  tree_of-signed (json.array vs) = ap (option_map Array) (elements_of-signed vs)
  tree_of-signed (json.object ms) = ap (option_map Object) (members_of-signed ms)

  elements_of-signed : (vs : Items) → elements_of (signed_items vs) ≡ elements_of vs
  elements_of-signed json.no_items = refl
  elements_of-signed (json.item v vs) = rw (tree_of-signed v, elements_of-signed vs) refl

  members_of-signed : (ms : Members) → members_of (signed_members ms) ≡ members_of ms
  members_of-signed json.no_members = refl
  members_of-signed (json.member n v ms) = rw (tree_of-signed v, members_of-signed ms) refl

-- ---- and the one value of the tree

-- what a step found, where the next found something
there : {A B : Type 0} (f : A → Option B) (o : Option A) (b : B) → option_and_then f o ≡ Some b → (a : A) × (o ≡ Some a) × (f a ≡ Some b)
there f None b e = absurd (cc)
there f (Some a) b e = (a, refl, e)

mapped : {A B : Type 0} (f : A → B) (o : Option A) (b : B) → option_map f o ≡ Some b → (a : A) × (o ≡ Some a) × (f a ≡ b)
mapped f None b e = absurd (cc)
mapped f (Some a) b e = let same : f a ≡ b = cc in (a, refl, same)

mutual
  pub signed_value : (v : Data) (t : Tree) → tree_of v ≡ Some t → signed v ≡ as_value t
  signed_value json.null t e = let is : Null ≡ t = cc in ap as_value is
  signed_value (json.boolean b) t e = let is : Boolean b ≡ t = cc in ap as_value is
  signed_value (json.number n) t e = let z = mapped Integer (as_i64 n) t e in rw z.1 (ap as_value z.2)
  signed_value (json.string s) t e = let is : Text s ≡ t = cc in ap as_value is
  signed_value (json.array vs) t e = let ts = mapped Array (elements_of vs) t e in ap json.array (signed_items_of vs ts.0 ts.1) ∙ ap as_value ts.2
  signed_value (json.object ms) t e = let fs = mapped Object (members_of ms) t e in ap json.object (signed_members_of ms fs.0 fs.1) ∙ ap as_value fs.2

  signed_items_of : (vs : Items) (ts : Trees) → elements_of vs ≡ Some ts → signed_items vs ≡ as_items ts
  signed_items_of json.no_items ts e = let is : NoTrees ≡ ts = cc in ap as_items is
  signed_items_of (json.item v vs) ts e =
      let t = there (λ t. option_map (AndTree t) (elements_of vs)) (tree_of v) ts e in
      let us = mapped (AndTree t.0) (elements_of vs) ts t.2 in
      rw (signed_value v t.0 t.1, signed_items_of vs us.0 us.1) (ap as_items us.2)

  signed_members_of : (ms : Members) (fs : Fields) → members_of ms ≡ Some fs → signed_members ms ≡ as_members fs
  signed_members_of json.no_members fs e = let is : NoFields ≡ fs = cc in ap as_members is
  signed_members_of (json.member n v ms) fs e =
      let t = there (λ t. option_map (AndField n t) (members_of ms)) (tree_of v) fs e in
      let gs = mapped (AndField n t.0) (members_of ms) fs t.2 in
      rw (signed_value v t.0 t.1, signed_members_of ms gs.0 gs.1) (ap as_members gs.2)

-- the one value of a tree is it
mutual
  pub tree_of-value : (t : Tree) → tree_of (as_value t) ≡ Some t
  tree_of-value Null = refl
  tree_of-value (Boolean b) = refl
  tree_of-value (Integer n) = refl
  tree_of-value (Text s) = refl
  tree_of-value (Array ts) = ap (option_map Array) (elements_of-items ts)
  tree_of-value (Object fs) = ap (option_map Object) (members_of-members fs)

  elements_of-items : (ts : Trees) → elements_of (as_items ts) ≡ Some ts
  elements_of-items NoTrees = refl
  elements_of-items (AndTree t ts) = rw (tree_of-value t, elements_of-items ts) refl

  members_of-members : (fs : Fields) → members_of (as_members fs) ≡ Some fs
  members_of-members NoFields = refl
  members_of-members (AndField n t fs) = rw (tree_of-value t, members_of-members fs) refl

-- ---- what stands under a name

pub get_member-signed : (k : List ℕ) (ms : Members) → get_member k (signed_members ms) ≡ option_map signed (get_member k ms)
get_member-signed k json.no_members = refl
get_member-signed k (json.member n v ms) = rw (get_member-signed k ms) (by (slice_cmp nat_cmp k n))
  where
    by : (o : Ordering) → match_ordering o (option_map signed (get_member k ms)) (Some (signed v)) (option_map signed (get_member k ms)) ≡ option_map signed (match_ordering o (get_member k ms) (Some v) (get_member k ms))
    by Less = refl
    by Equal = refl
    by Greater = refl
