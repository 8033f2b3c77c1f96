-- Shapes read from tokens: keywords, properties and elements, one after another, and what is kept of them as the table grows.
use Rattle.std.proofs.Common.{◌≡◌, ◌-◌, ◌<◌, ◌≤◌, ℕ, Bool, false, List, [], ◌∷◌, ◌++◌, length, Option, Some, None, Bor, codes, bytes_eq, Ordering, Less, Equal, Greater, refl, sym, ap, ◌∙◌, subst, arith}
use Rattle.std.specs.Prelude.{IfSome}
use Rattle.std.specs.BTreeMap.{insert_entry}
use Rattle.std.specs.Ordering.{match_ordering}
use Rattle.std.specs.Rc.{rc_str_bytes}
use Rattle.json.specs.Json.{after_end_array, read_key, members, value}
use Rattle.json.specs.Token.{Token}
use Rattle.json.proofs.Grammar.{after_end_array-shorter, read_key-shorter}
use Rattle.serde_json.specs.Data as values
use Rattle.serde_json.specs.Data.{Data, Items}
use Rattle.serde_json.specs.Read.{converted}
use Rattle.asl_model.specs.Shape.{Shape, FieldShapes}
use Rattle.asl_model.specs.Tree.{Tree, Object, Trees, NoTrees, AndTree, Fields, NoFields, AndField, field_named}
use Rattle.asl_numbered.specs.Expansion.{shape_at, fields_at, numbers_in, AreBelow, Keeps}
use Rattle.asl_numbered.specs.Laws.{keeps_longer, keeps_same, keeps_trans, kept_shape}
use Rattle.asl_numbered.specs.Names.{Name, name_cmp}
use Rattle.asl_numbered.specs.Reading.{AreFieldsRead, IsRead}
use Rattle.asl_numbered.specs.References.{SpellsWith, SpellFields, no_field, and_field, shapes_given}
use Rattle.asl_numbered.specs.declared.node.NodeField.{NodeField}
use Rattle.asl_numbered.proofs.Readings.{fields_grown, given_below, given_same, no_fields_read}
use Rattle.asl_records.specs.Listed.{AreInTable}
use Rattle.asl_records.specs.Values.{AreItems, IsValue}
use Rattle.asl_streams.specs.Shaped.{AreKeywords, AreProperties, IsAround, IsSpelled, ReadsElements, ReadsMentions, ReadsProperties, ReadsShape, ReadsSpelling, SpellEach, SpellsNumber, in_front, others_view, properties_view}
use Rattle.asl_streams.specs.declared.spellings.Spelling.{Spelling}
use Rattle.asl_streams.proofs.Emptied.{before_put, emptied_none, emptied_put, there_put}
use Rattle.asl_streams.proofs.Lists.{GoesOn, all_over, front_push, nothing, one_more}
use Rattle.asl_streams.proofs.Values.{value_spelled}
use Rattle.asl_tree.specs.Parsed.{spelled, spelled_fields}
use Rattle.asl_tree.proofs.Parsed.{AreFound, field_found, fields_over, none_found, object_opened}
use Rattle.asl_tree.proofs.Views.{put}

-- ---- in a table that has grown

pub shape_grown : (several : Bool) (given : Option (List Shape)) (t : Tree) (old new : List Shape) (n : ℕ) → Keeps old new → IsRead several given t old n → IsRead several given t new n
shape_grown several given t old new n keeps read = record {
  within = omega (arith, keeps_longer old new keeps, read.within);
  spelled = subst (SpellsWith several given t) (sym (kept_shape old new n keeps read.within)) read.spelled;
}

-- references mean the shapes that they meant before
pub still_given : (start now : List Shape) (listed : Option (Bor (List ℕ))) → Keeps start now → AreInTable start listed → shapes_given now listed ≡ shapes_given start listed
still_given start now listed keeps there = given_same start now listed keeps (given_below (length start) listed there.below)

-- ---- fields, one after another

-- fields that were found, and what the tokens that are left add to them
pub record FieldsFound (levels : ℕ) (before left : List Token) (fs : Fields) : Type 0 where
  pub turns : ℕ
  pub enough : length left ≤ turns
  pub less : length left ≤ length before
  pub found : AreFound (value levels) turns left fs (converted spelled_fields (members (value levels) (length before) before))

found_begun : (levels : ℕ) (before : List Token) → FieldsFound levels before before NoFields
found_begun levels before = record { turns = length before; enough = omega arith; less = omega arith; found = none_found (value levels) (length before) before }

found_more : (levels : ℕ) (k : List ℕ) (before left s r : List Token) (t : Tree) (fs : Fields) → read_key left ≡ Some (Some k, s) → converted spelled (value levels s) ≡ Some (t, r) → length r < length s → FieldsFound levels before left fs → FieldsFound levels before r (put k t fs)
found_more levels k before left s r t fs key e shorter h =
    let less = read_key-shorter left (Some k) s key in
    record {
      turns = h.turns - 1;
      enough = omega (arith, h.enough, less, shorter);
      less = omega (arith, h.less, less, shorter);
      found = field_found (value levels) h.turns k left s r t fs _ (omega (arith, h.enough, less)) key e h.found;
    }

found_over : (levels : ℕ) (before left r : List Token) (fs : Fields) → read_key left ≡ Some (None, r) → FieldsFound levels before left fs → converted spelled_fields (members (value levels) (length before) before) ≡ Some (fs, r)
found_over levels before left r fs end h = fields_over (value levels) h.turns left r fs _ h.enough end h.found

found_shorter : (levels : ℕ) (before left r : List Token) (fs : Fields) → read_key left ≡ Some (None, r) → FieldsFound levels before left fs → length r < length before
found_shorter levels before left r fs end h = let less = read_key-shorter left None r end in omega (arith, h.less, less)

-- ---- keywords

properties_below : (several : Bool) (given : Option (List Shape)) (now : List Shape) (stated : Option Tree) (entries : Option (List (Name × NodeField))) → AreProperties several given now stated entries → IfSome entries (λ es. AreBelow (length now) (numbers_in es))
properties_below several given now None None h = tt
properties_below several given now None (Some es) h = absurd h
properties_below several given now (Some t) None h = absurd h
properties_below several given now (Some t) (Some es) h = h.read.within

properties_absent : (several : Bool) (given : Option (List Shape)) (now : List Shape) (stated : Option Tree) → AreProperties several given now stated None → stated ≡ None
properties_absent several given now None h = refl
properties_absent several given now (Some t) h = absurd h

stated_there : (several : Bool) (given : Option (List Shape)) (now : List Shape) (stated : Option Tree) (es : List (Name × NodeField)) → AreProperties several given now stated (Some es) → (ps : Fields) × (stated ≡ Some (Object ps)) × AreFieldsRead several given ps now es
stated_there several given now None es h = absurd h
stated_there several given now (Some t) es h = (h.fields, ap Some h.is, h.read)

-- a tree without properties is that of the keywords
pub as_they_are : (several : Bool) (given : Option (List Shape)) (now : List Shape) (fs others : Fields) (properties : Option (List (Name × NodeField))) → properties ≡ None → AreKeywords several given now fs others properties → others ≡ fs
as_they_are several given now fs others properties none h =
    h.others_are ∙ emptied_none fs (properties_absent several given now (field_named (codes "properties") fs) (subst (AreProperties several given now (field_named (codes "properties") fs)) none h.properties_are))

-- with them it stands around them
pub around_them : (several : Bool) (given : Option (List Shape)) (now : List Shape) (fs others : Fields) (properties : Option (List (Name × NodeField))) (es : List (Name × NodeField)) → properties ≡ Some es → AreKeywords several given now fs others properties → IsAround several given now fs (Object others) es
around_them several given now fs others properties es some h =
    let there = stated_there several given now (field_named (codes "properties") fs) es (subst (AreProperties several given now (field_named (codes "properties") fs)) some h.properties_are) in
    record { properties = there.0; there = there.1; same = ap Object h.others_are; read = there.2 }

module _ (several : Bool) (listed : Option (Bor (List ℕ))) (levels : ℕ) (before : List Token) (start : List Shape) where
  abbrev before_keywords : Option (List Shape)
  before_keywords = shapes_given start listed

  -- so far these keywords were read
  pub record Keywords (now : List Shape) (left : List Token) (spelling : Spelling) : Type 0 where
    pub fields : Fields
    pub found : FieldsFound levels before left fields
    pub keeps : Keeps start now
    pub are : AreKeywords several before_keywords now fields (others_view spelling) (properties_view spelling)

  pub keywords_begun : (spelling : Spelling) → others_view spelling ≡ NoFields → properties_view spelling ≡ None → Keywords start before spelling
  keywords_begun spelling no_others no_properties = record {
    fields = NoFields;
    found = found_begun levels before;
    keeps = keeps_same start;
    are = record { others_are = no_others; properties_are = rw no_properties tt };
  }

  pub keyword_gone_on : (now : List Shape) (left s r : List Token) (k : List ℕ) (t : Tree) (old new : Spelling) → bytes_eq k (codes "properties") ≡ false → read_key left ≡ Some (Some k, s) → converted spelled (value levels s) ≡ Some (t, r) → length r < length s
      → others_view new ≡ put k t (others_view old) → properties_view new ≡ properties_view old → Keywords now left old → Keywords now r new
  keyword_gone_on now left s r k t old new other key e shorter others same h = record {
    fields = put k t h.fields;
    found = found_more levels k before left s r t h.fields key e shorter h.found;
    keeps = h.keeps;
    are = record {
      others_are = others ∙ ap (put k t) h.are.others_are ∙ sym (emptied_put k t h.fields ∙ (rw other refl));
      properties_are = rw (same, before_put (codes "properties") k t h.fields other) h.are.properties_are;
    };
  }

  pub properties_gone_on : (now new : List Shape) (left s r : List Token) (old spelling : Spelling) (es : List (Name × NodeField)) → AreInTable start listed → read_key left ≡ Some (Some (codes "properties"), s) → ReadsProperties several (shapes_given now listed) levels s r new es → length r < length s → Keeps now new
      → others_view spelling ≡ put (codes "properties") (Object NoFields) (others_view old) → properties_view spelling ≡ Some es → Keywords now left old → Keywords new r spelling
  properties_gone_on now new left s r old spelling es there key read shorter keeps others same h =
      let k = codes "properties" in
      let t = Object read.fields in
      let fields = subst (λ g. AreFieldsRead several g read.fields new es) (still_given start now listed h.keeps there) read.read in
      record {
        fields = put k t h.fields;
        found = found_more levels k before left s r t h.fields key read.spelled shorter h.found;
        keeps = keeps_trans start now new h.keeps keeps;
        are = record {
          others_are = others ∙ ap (put k (Object NoFields)) h.are.others_are ∙ sym (emptied_put k t h.fields);
          properties_are = rw (same, there_put k t h.fields) (record { fields = read.fields; is = refl; read = fields });
        };
      }

  keywords_within : (now : List Shape) (left : List Token) (spelling : Spelling) → Keywords now left spelling → IfSome (properties_view spelling) (λ es. AreBelow (length now) (numbers_in es))
  keywords_within now left spelling h = properties_below several before_keywords now (field_named (codes "properties") h.fields) (properties_view spelling) h.are.properties_are

  pub keywords_over : (now : List Shape) (left r : List Token) (spelling : Spelling) → read_key left ≡ Some (None, r) → Keywords now left spelling → ReadsSpelling several before_keywords levels before r now spelling
  keywords_over now left r spelling end h = record { fields = h.fields; spelled = found_over levels before left r h.fields end h.found; are = h.are; within = keywords_within now left spelling h }

  pub keywords_shorter : (now : List Shape) (left r : List Token) (spelling : Spelling) → read_key left ≡ Some (None, r) → Keywords now left spelling → length r < length before
  keywords_shorter now left r spelling end h = found_shorter levels before left r h.fields end h.found

-- the keywords, where references mean the shapes of a table that has grown
pub spelling_are : (several : Bool) (listed : Option (Bor (List ℕ))) (levels : ℕ) (ts r : List Token) (start now : List Shape) (spelling : Spelling) → AreInTable start listed → Keeps start now → (h : ReadsSpelling several (shapes_given start listed) levels ts r now spelling)
    → AreKeywords several (shapes_given now listed) now h.fields (others_view spelling) (properties_view spelling)
spelling_are several listed levels ts r start now spelling there keeps h =
    subst (λ g. AreKeywords several g now h.fields (others_view spelling) (properties_view spelling)) (sym (still_given start now listed keeps there)) h.are

-- and the shape that they spell
pub spelling_read : (several : Bool) (listed : Option (Bor (List ℕ))) (levels : ℕ) (before ts r : List Token) (start now new : List Shape) (spelling : Spelling) (n : ℕ) → AreInTable start listed → Keeps start now → 0 < levels → before ≡ Token.begin_object ∷ ts
    → (h : ReadsSpelling several (shapes_given start listed) (levels - 1) ts r now spelling) → IsRead several (shapes_given now listed) (Object h.fields) new n → ReadsShape several (shapes_given start listed) levels before r new n
spelling_read several listed levels before ts r start now new spelling n there keeps some first h read = record {
  tree = Object h.fields;
  spelled = ap (λ all. converted spelled (value levels all)) first ∙ object_opened levels ts r h.fields some h.spelled;
  read = subst (λ g. IsRead several g (Object h.fields) new n) (still_given start now listed keeps there) read;
}

-- ---- mentions

-- a mention more, at the place of its name
spell_put : (several : Bool) (given : Option (List Shape)) (table : List Shape) (k : Name) (f : NodeField) (v : Tree) → f.needed ≡ false → SpellsWith several given v (shape_at table f.shape)
    → {fs : Fields} {shapes : FieldShapes} → SpellFields several given fs shapes → (es : List (Name × NodeField)) → shapes ≡ fields_at table es → SpellFields several given (put (rc_str_bytes k) v fs) (fields_at table (insert_entry name_cmp es k f))
spell_put several given table k f v plain own no_field [] same = rw plain (and_field own no_field)
spell_put several given table k f v plain own no_field (e ∷ es) same = absurd (cc)
spell_put several given table k f v plain own (and_field first others) [] same = absurd (cc)
spell_put several given table k f v plain own (and_field {n} {t} {s} {fs} {shapes} first others) (e ∷ es) same =
    let named : n ≡ rc_str_bytes e.0 = cc in
    let needless : false ≡ e.1.needed = cc in
    let shaped : s ≡ shape_at table e.1.shape = cc in
    let rest : shapes ≡ fields_at table es = cc in
    let this = subst (SpellsWith several given t) shaped first in
    let those = subst (SpellFields several given fs) rest others in
    let later = spell_put several given table k f v plain own others es rest in
    rw named (go (name_cmp k e.0) needless this those later)
  where
    go : (o : Ordering) → false ≡ e.1.needed → SpellsWith several given t (shape_at table e.1.shape) → SpellFields several given fs (fields_at table es) → SpellFields several given (put (rc_str_bytes k) v fs) (fields_at table (insert_entry name_cmp es k f))
        → SpellFields several given (match_ordering o (AndField (rc_str_bytes k) v (AndField (rc_str_bytes e.0) t fs)) (AndField (rc_str_bytes e.0) v fs) (AndField (rc_str_bytes e.0) t (put (rc_str_bytes k) v fs)))
        (fields_at table (match_ordering o ((k, f) ∷ e ∷ es) ((e.0, f) ∷ es) (e ∷ insert_entry name_cmp es k f)))
    go Less needless this those later = rw (plain, sym needless) (and_field own (and_field this those))
    go Equal needless this those later = rw plain (and_field own those)
    go Greater needless this those later = rw (sym needless) (and_field this later)

below_put : (bound : ℕ) (k : Name) (f : NodeField) (es : List (Name × NodeField)) → f.shape < bound → AreBelow bound (numbers_in es) → AreBelow bound (numbers_in (insert_entry name_cmp es k f))
below_put bound k f [] own all = (own, tt)
below_put bound k f (e ∷ es) own all = go (name_cmp k e.0) (below_put bound k f es own all.1)
  where
    go : (o : Ordering) → AreBelow bound (numbers_in (insert_entry name_cmp es k f)) → AreBelow bound (numbers_in (match_ordering o ((k, f) ∷ e ∷ es) ((e.0, f) ∷ es) (e ∷ insert_entry name_cmp es k f)))
    go Less later = (own, all)
    go Equal later = (own, all.1)
    go Greater later = (all.0, later)

mention_put : (several : Bool) (given : Option (List Shape)) (table : List Shape) (k : Name) (f : NodeField) (t : Tree) (fs : Fields) (es : List (Name × NodeField)) → f.needed ≡ false → IsRead several given t table f.shape → AreFieldsRead several given fs table es → AreFieldsRead several given (put (rc_str_bytes k) t fs) table (insert_entry name_cmp es k f)
mention_put several given table k f t fs es plain read are = record {
  within = below_put (length table) k f es read.within are.within;
  spelled = spell_put several given table k f t plain read.spelled are.spelled es refl;
}

module _ (several : Bool) (listed : Option (Bor (List ℕ))) (levels : ℕ) (before : List Token) (start : List Shape) where
  abbrev before_mentions : Option (List Shape)
  before_mentions = shapes_given start listed

  -- so far these fields were mentioned
  pub record Mentions (now : List Shape) (left : List Token) (es : List (Name × NodeField)) : Type 0 where
    pub fields : Fields
    pub found : FieldsFound levels before left fields
    pub keeps : Keeps start now
    pub read : AreFieldsRead several before_mentions fields now es

  pub mentions_begun : (es : List (Name × NodeField)) → es ≡ [] → Mentions start before es
  mentions_begun es none = record { fields = NoFields; found = found_begun levels before; keeps = keeps_same start; read = rw none (no_fields_read several before_mentions start) }

  pub mentions_gone_on : (now new : List Shape) (left s r : List Token) (k : List ℕ) (name : Name) (field : NodeField) (es more : List (Name × NodeField)) → AreInTable start listed → read_key left ≡ Some (Some k, s) → rc_str_bytes name ≡ k → field.needed ≡ false → ReadsShape several (shapes_given now listed) levels s r new field.shape
      → length r < length s → Keeps now new → more ≡ insert_entry name_cmp es name field → Mentions now left es → Mentions new r more
  mentions_gone_on now new left s r k name field es more there key named plain read shorter keeps made h =
      let one = subst (λ g. IsRead several g read.tree new field.shape) (still_given start now listed h.keeps there) read.read in
      record {
        fields = put k read.tree h.fields;
        found = found_more levels k before left s r read.tree h.fields key read.spelled shorter h.found;
        keeps = keeps_trans start now new h.keeps keeps;
        read = rw (made, sym named) (mention_put several before_mentions new name field read.tree h.fields es plain one (fields_grown several before_mentions h.fields now new es keeps h.read));
      }

  pub mentions_over : (now : List Shape) (left r : List Token) (es : List (Name × NodeField)) → read_key left ≡ Some (None, r) → Mentions now left es → ReadsMentions several before_mentions levels before r now es
  mentions_over now left r es end h = record { fields = h.fields; spelled = found_over levels before left r h.fields end h.found; read = h.read }

  pub mentions_shorter : (now : List Shape) (left r : List Token) (es : List (Name × NodeField)) → read_key left ≡ Some (None, r) → Mentions now left es → length r < length before
  mentions_shorter now left r es end h = found_shorter levels before left r h.fields end h.found

-- ---- elements

pub number_grown : (several : Bool) (given : Option (List Shape)) (old new : List Shape) (v : Data) (n : ℕ) → Keeps old new → SpellsNumber several given old v n → SpellsNumber several given new v n
number_grown several given old new v n keeps h = record { tree = h.tree; is = h.is; read = shape_grown several given h.tree old new n keeps h.read }

pub spelled_grown : (several : Bool) (given : Option (List Shape)) (old new : List Shape) → Keeps old new → (o : Option Data) (n : Option ℕ) → IsSpelled several given old o n → IsSpelled several given new o n
spelled_grown several given old new keeps None None h = tt
spelled_grown several given old new keeps None (Some n) h = absurd h
spelled_grown several given old new keeps (Some d) None h = absurd h
spelled_grown several given old new keeps (Some d) (Some n) h = number_grown several given old new d n keeps h

pub each_grown : (several : Bool) (given : Option (List Shape)) (old new : List Shape) → Keeps old new → (vs : List Data) (ns : List ℕ) → SpellEach several given old vs ns → SpellEach several given new vs ns
each_grown several given old new keeps [] [] h = tt
each_grown several given old new keeps [] (n ∷ ns) h = absurd h
each_grown several given old new keeps (v ∷ vs) [] h = absurd h
each_grown several given old new keeps (v ∷ vs) (n ∷ ns) h = (number_grown several given old new v n keeps h.0, each_grown several given old new keeps vs ns h.1)

each_pushed : (several : Bool) (given : Option (List Shape)) (now : List Shape) (v : Data) (n : ℕ) → SpellsNumber several given now v n → (vs : List Data) (ns : List ℕ) → SpellEach several given now vs ns → SpellEach several given now (vs ++ v ∷ []) (ns ++ n ∷ [])
each_pushed several given now v n own [] [] h = (own, tt)
each_pushed several given now v n own [] (m ∷ ns) h = absurd h
each_pushed several given now v n own (w ∷ vs) [] h = absurd h
each_pushed several given now v n own (w ∷ vs) (m ∷ ns) h = (h.0, each_pushed several given now v n own vs ns h.1)

front_whole : (v : Data) (t : Tree) (vs : List Data) → IsValue t v → ((rest : Items) (ts : Trees) → AreItems ts rest → (all : Trees) × AreItems all (in_front vs rest)) → (rest : Items) (ts : Trees) → AreItems ts rest → (all : Trees) × AreItems all (in_front (vs ++ v ∷ []) rest)
front_whole v t vs is whole rest ts are = rw (front_push vs v rest) (whole (values.item v rest) (AndTree t ts) (rw (is, are) refl))

module _ (several : Bool) (listed : Option (Bor (List ℕ))) (levels : ℕ) (before : List Token) (start : List Shape) where
  abbrev before_elements : Option (List Shape)
  before_elements = shapes_given start listed

  -- so far these elements were read
  pub record Elements (now : List Shape) (left : List Token) (ns : List ℕ) : Type 0 where
    pub found : List Data
    pub goes_on : GoesOn levels before left found
    pub keeps : Keeps start now
    pub each : SpellEach several before_elements now found ns
    pub whole : (rest : Items) (ts : Trees) → AreItems ts rest → (all : Trees) × AreItems all (in_front found rest)

  pub elements_begun : (ns : List ℕ) → ns ≡ [] → Elements start before ns
  elements_begun ns none = record {
    found = [];
    goes_on = record { turns = length before; enough = omega arith; less = omega arith; same = nothing _ };
    keeps = keeps_same start;
    each = rw none tt;
    whole = λ rest ts are. (ts, are);
  }

  pub elements_gone_on : (now new : List Shape) (left r : List Token) (n : ℕ) (ns more : List ℕ) → AreInTable start listed → after_end_array left ≡ None → ReadsShape several (shapes_given now listed) levels left r new n → length r < length left → Keeps now new → more ≡ ns ++ n ∷ [] → Elements now left ns → Elements new r more
  elements_gone_on now new left r n ns more there going read shorter keeps made h =
      let v = value_spelled (value levels left) read.tree r read.spelled in
      let one = subst (λ g. IsRead several g read.tree new n) (still_given start now listed h.keeps there) read.read in
      record {
        found = h.found ++ v.value ∷ [];
        goes_on = one_more levels v.value before left r h.found going v.read shorter h.goes_on;
        keeps = keeps_trans start now new h.keeps keeps;
        each = rw made (each_pushed several before_elements new v.value n (record { tree = read.tree; is = v.is; read = one }) h.found ns (each_grown several before_elements now new keeps h.found ns h.each));
        whole = front_whole v.value read.tree h.found v.is h.whole;
      }

  pub elements_over : (now : List Shape) (left r : List Token) (ns : List ℕ) → after_end_array left ≡ Some r → Elements now left ns → ReadsElements several before_elements levels before r now ns
  elements_over now left r ns end h =
      let all = h.whole values.no_items NoTrees refl in
      record { found = h.found; spelled = all_over levels before left r h.found end h.goes_on; elements = all.0; whole = all.1; each = h.each }

  pub elements_shorter : (now : List Shape) (left r : List Token) (ns : List ℕ) → after_end_array left ≡ Some r → Elements now left ns → length r < length before
  elements_shorter now left r ns end h = let less = after_end_array-shorter left r end in omega (arith, h.goes_on.less, less)
