-- What a reading of tokens spells, an element and a field at a time.
use Rattle.std.proofs.Common.{◌≡◌, ℕ, ◌-◌, ◌<◌, ◌≤◌, List, [], ◌∷◌, ◌++◌, length, Option, Some, None, option_map, option_and_then, Ordering, Less, Equal, Greater, nat_cmp, refl, ap, ◌∙◌}
use Rattle.std.specs.Cmp.Lexicographic.{slice_cmp}
use Rattle.json.specs.Token.{Token}
use Rattle.json.specs.Json as json
use Rattle.json.specs.Json.{Parse, parse_map, after_end_array, read_key, items, members, value, if_last}
use Rattle.json.proofs.Grammar.{items_end, items_more, members_end, members_more, value_is, value-begin_array, value-begin_object}
use Rattle.serde_json.specs.Data as values
use Rattle.serde_json.specs.Data.{Data, Items, Members}
use Rattle.serde_json.specs.Read.{of_json, of_items, of_members, converted}
use Rattle.asl_model.specs.Json.{tree_of, elements_of, members_of}
use Rattle.asl_model.specs.Tree as model
use Rattle.asl_tree.specs.Parsed.{spelled, spelled_elements, spelled_fields}
use Rattle.asl_tree.specs.View.{view, elements_view}
use Rattle.asl_tree.specs.declared.Tree.{Tree}
use Rattle.asl_tree.proofs.Views.{put}

-- what a step found, where the next found something
there : {A B : Type 0} (f : A → Option B) (o : Option A) (b : B) → option_and_then f o ≡ Some b → (a : A) × (o ≡ Some a) × (f a ≡ Some b)
there f None b e = absurd (cc)
there f (Some a) b e = (a, refl, e)

mapped_there : {A B : Type 0} (f : A → B) (o : Option A) (b : B) → option_map f o ≡ Some b → (a : A) × (o ≡ Some a) × (f a ≡ b)
mapped_there f None b e = absurd (cc)
mapped_there f (Some a) b e = let same : f a ≡ b = cc in (a, refl, same)

-- what was converted, and what is left
pub converted_there : {A B : Type 0} (f : A → Option B) (o : Option (A × List Token)) (b : B) (r : List Token) → converted f o ≡ Some (b, r) → (a : A) × (o ≡ Some (a, r)) × (f a ≡ Some b)
converted_there f None b r e = absurd (cc)
converted_there {A} {B} f (Some p) b r e =
    let found = mapped_there {B = B × List Token} (λ y. (y, p.1)) (f p.0) (b, r) e in (
      p.0,
      ap (λ y. Some (p.0, y.1)) found.2,
      found.1 ∙ ap (λ y. Some y.0) found.2,
    )

mapped_twice : {A B : Type 0} (g : A → B) (r : List Token) (x : Option A) → option_map (λ b. (b, r)) (option_map g x) ≡ parse_map g (option_map (λ a. (a, r)) x)
mapped_twice g r None = refl
mapped_twice g r (Some a) = refl

-- ---- elements

spelled_item : (d : Data) (t : model.Tree) (r : List Token) (x : Option Items) → tree_of d ≡ Some t
    → option_map (λ b. (b, r)) (option_and_then elements_of (option_map (values.item d) x)) ≡ parse_map (model.AndTree t) (option_map (λ b. (b, r)) (option_and_then elements_of x))
spelled_item d t r None e = refl
spelled_item d t r (Some ds) e = rw e (mapped_twice (model.AndTree t) r (elements_of ds))

with_item : (j : json.Json) (t : model.Tree) (o : Option (json.Items × List Token)) → spelled j ≡ Some t → converted spelled_elements (parse_map (json.item j) o) ≡ parse_map (model.AndTree t) (converted spelled_elements o)
with_item j t None e = refl
with_item j t (Some q) e = let d = there tree_of (of_json j) t e in rw d.1 (spelled_item d.0 t q.1 (of_items q.0) d.2)

pub element_spelled : (p : Parse json.Json) (n : ℕ) (ts r : List Token) (t : model.Tree) → 0 < n → after_end_array ts ≡ None → converted spelled (p ts) ≡ Some (t, r)
    → converted spelled_elements (items p n ts) ≡ parse_map (model.AndTree t) (converted spelled_elements (items p (n - 1) r))
element_spelled p n ts r t some going e =
    let j = converted_there spelled (p ts) t r e in
    ap (converted spelled_elements) (items_more p n ts r j.0 some going j.1) ∙ with_item j.0 t _ j.2

pub elements_over : (p : Parse json.Json) (n : ℕ) (ts r : List Token) → length ts ≤ n → after_end_array ts ≡ Some r → converted spelled_elements (items p n ts) ≡ Some (model.NoTrees, r)
elements_over p n ts r enough e = ap (converted spelled_elements) (items_end p n ts r enough e)

-- the trees that were read, in front of those to come
abbrev pub trees_before : List Tree → model.Trees → model.Trees
trees_before [] rest = rest
trees_before (t ∷ ts) rest = model.AndTree (view t) (trees_before ts rest)

pub trees_before_none : (ts : List Tree) → trees_before ts model.NoTrees ≡ elements_view ts
trees_before_none [] = refl
trees_before_none (t ∷ ts) = ap (model.AndTree (view t)) (trees_before_none ts)

trees_pushed : (ts : List Tree) (t : Tree) (rest : model.Trees) → trees_before ts (model.AndTree (view t) rest) ≡ trees_before (ts ++ t ∷ []) rest
trees_pushed [] t rest = refl
trees_pushed (u ∷ ts) t rest = ap (model.AndTree (view u)) (trees_pushed ts t rest)

pub tree_pushed : (ts : List Tree) (t : Tree) (r : Option (model.Trees × List Token)) → parse_map (trees_before ts) (parse_map (model.AndTree (view t)) r) ≡ parse_map (trees_before (ts ++ t ∷ [])) r
tree_pushed ts t None = refl
tree_pushed ts t (Some p) = ap (λ us. Some (us, p.1)) (trees_pushed ts t p.0)

pub nothing_before : (r : Option (model.Trees × List Token)) → r ≡ parse_map (trees_before []) r
nothing_before None = refl
nothing_before (Some p) = refl

-- ---- fields

-- the fields of a reading that goes on behind these members
abbrev pub spelled_behind : Members → json.Members → Option model.Fields
spelled_behind found ms = option_and_then members_of (of_members ms found)

with_member : (k : List ℕ) (j : json.Json) (d : Data) (found : Members) (o : Option (json.Members × List Token)) → of_json j ≡ Some d
    → converted (spelled_behind found) (parse_map (json.member k j) o) ≡ converted (spelled_behind (values.put k d found)) o
with_member k j d found None e = refl
with_member k j d found (Some p) e = rw e

pub put_among : (k : List ℕ) (d : Data) (t : model.Tree) (found : Members) (fs : model.Fields) → tree_of d ≡ Some t → members_of found ≡ Some fs → members_of (values.put k d found) ≡ Some (put k t fs)
put_among k d t values.no_members fs e h = let none : model.NoFields ≡ fs = cc in rw e (ap (λ gs. Some (put k t gs)) none)
put_among k d t (values.member l c ms) fs e h =
    let u = there (λ u. option_map (model.AndField l u) (members_of ms)) (tree_of c) fs h in
    let gs = mapped_there (model.AndField l u.0) (members_of ms) fs u.2 in
    by u.0 gs.0 u.1 gs.1 (put_among k d t ms gs.0 e gs.1) (slice_cmp nat_cmp k l) refl ∙ ap (λ all. Some (put k t all)) gs.2
  where
    by : (u : model.Tree) (gs : model.Fields) → tree_of c ≡ Some u → members_of ms ≡ Some gs → members_of (values.put k d ms) ≡ Some (put k t gs)
        → (o : Ordering) → slice_cmp nat_cmp k l ≡ o → members_of (values.put k d (values.member l c ms)) ≡ Some (put k t (model.AndField l u gs))
    by u gs first rest later Less is = rw (is, e, first, rest) refl
    by u gs first rest later Equal is = rw (is, e, rest) refl
    by u gs first rest later Greater is = rw (is, first, later) refl

-- members whose fields are these, and what a reading behind them spells
pub record AreFound (p : Parse json.Json) (n : ℕ) (left : List Token) (fs : model.Fields) (whole : Option (model.Fields × List Token)) : Type 0 where
  pub found : Members
  pub fields : members_of found ≡ Some fs
  pub goes_on : whole ≡ converted (spelled_behind found) (members p n left)

pub none_found : (p : Parse json.Json) (n : ℕ) (left : List Token) → AreFound p n left model.NoFields (converted spelled_fields (members p n left))
none_found p n left = record { found = values.no_members; fields = refl; goes_on = refl }

pub field_found : (p : Parse json.Json) (n : ℕ) (k : List ℕ) (left s r : List Token) (t : model.Tree) (fs : model.Fields) (whole : Option (model.Fields × List Token)) → 0 < n → read_key left ≡ Some (Some k, s)
    → converted spelled (p s) ≡ Some (t, r) → AreFound p n left fs whole → AreFound p (n - 1) r (put k t fs) whole
field_found p n k left s r t fs whole some key e h =
    let j = converted_there spelled (p s) t r e in
    let d = there tree_of (of_json j.0) t j.2 in
    record {
      found = values.put k d.0 h.found;
      fields = put_among k d.0 t h.found fs d.2 h.fields;
      goes_on = h.goes_on ∙ ap (converted (spelled_behind h.found)) (members_more p n k left s r j.0 some key j.1) ∙ with_member k j.0 d.0 h.found _ d.1;
    }

pub fields_over : (p : Parse json.Json) (n : ℕ) (left r : List Token) (fs : model.Fields) (whole : Option (model.Fields × List Token)) → length left ≤ n → read_key left ≡ Some (None, r) → AreFound p n left fs whole → whole ≡ Some (fs, r)
fields_over p n left r fs whole enough e h =
    h.goes_on ∙ ap (converted (spelled_behind h.found)) (members_end p n left r enough e) ∙ rw h.fields refl

-- ---- an array and an object, and the whole text

array_mapped : (r : List Token) (x : Option Items) → option_map (λ b. (b, r)) (option_and_then tree_of (option_map values.array x)) ≡ parse_map model.Array (option_map (λ b. (b, r)) (option_and_then elements_of x))
array_mapped r None = refl
array_mapped r (Some vs) = mapped_twice model.Array r (elements_of vs)

pub spelled_array : (o : Option (json.Items × List Token)) → converted spelled (parse_map json.array o) ≡ parse_map model.Array (converted spelled_elements o)
spelled_array None = refl
spelled_array (Some p) = array_mapped p.1 (of_items p.0)

object_mapped : (r : List Token) (x : Option Members) → option_map (λ b. (b, r)) (option_and_then tree_of (option_map values.object x)) ≡ parse_map model.Object (option_map (λ b. (b, r)) (option_and_then members_of x))
object_mapped r None = refl
object_mapped r (Some ms) = mapped_twice model.Object r (members_of ms)

pub spelled_object : (o : Option (json.Members × List Token)) → converted spelled (parse_map json.object o) ≡ parse_map model.Object (converted spelled_fields o)
spelled_object None = refl
spelled_object (Some p) = object_mapped p.1 (of_members p.0 values.no_members)

pub array_opened : (levels : ℕ) (ts r : List Token) (us : model.Trees) → 0 < levels → converted spelled_elements (items (value (levels - 1)) (length ts) ts) ≡ Some (us, r)
    → converted spelled (value levels (Token.begin_array ∷ ts)) ≡ Some (model.Array us, r)
array_opened levels ts r us some e = ap (converted spelled) (value-begin_array levels ts some) ∙ spelled_array (items (value (levels - 1)) (length ts) ts) ∙ ap (parse_map model.Array) e

pub object_opened : (levels : ℕ) (ts r : List Token) (fs : model.Fields) → 0 < levels → converted spelled_fields (members (value (levels - 1)) (length ts) ts) ≡ Some (fs, r)
    → converted spelled (value levels (Token.begin_object ∷ ts)) ≡ Some (model.Object fs, r)
object_opened levels ts r fs some e = ap (converted spelled) (value-begin_object levels ts some) ∙ spelled_object (members (value (levels - 1)) (length ts) ts) ∙ ap (parse_map model.Object) e

pub number_spelled : (levels : ℕ) (s : List ℕ) (r : List Token) (t : model.Tree) → spelled (json.number s) ≡ Some t → converted spelled (value levels (Token.number s ∷ r)) ≡ Some (t, r)
number_spelled levels s r t e = ap (converted spelled) (value_is levels (Token.number s ∷ r)) ∙ ap (option_map (λ b. (b, r))) e

pub whole_spelled : (o : Option (json.Json × List Token)) (t : model.Tree) → converted spelled o ≡ Some (t, []) → (v : Data) × (option_and_then of_json (option_and_then (λ p. if_last p.0 p.1) o) ≡ Some v) × (tree_of v ≡ Some t)
whole_spelled o t e =
    let j = converted_there spelled o t [] e in
    let d = there tree_of (of_json j.0) t j.2 in
    (d.0, ap (λ q. option_and_then of_json (option_and_then (λ p. if_last p.0 p.1) q)) j.1 ∙ d.1, d.2)
