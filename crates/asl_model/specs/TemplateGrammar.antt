-- The grammar of payload templates (States Language, "Payload Template"): which tree stands for which template, a case
-- for each rule. The functions that read templates are those of TemplateSpelling, and give exactly this.
use Rattle.std.specs.Prelude.{◌≡◌, ℕ, ℤ, List, ◌++◌, Bool, IsTrue, codes}
use Rattle.asl_model.specs.Tree.{Tree, Null, Boolean, Integer, Text, Array, Object, Trees}
use Rattle.asl_model.specs.Tree.{NoTrees, AndTree, Fields, NoFields, AndField, comes_before}
use Rattle.asl_model.specs.Intrinsic.{Reference, Call}
use Rattle.asl_model.specs.Template.{Template, Literal, FromPath, FromCall, ArrayTemplate, ObjectTemplate, Templates}
use Rattle.asl_model.specs.Template.{NoTemplates, AndTemplate, FieldTemplates, NoFieldTemplates, AndFieldTemplate}
use Rattle.asl_model.specs.CallGrammar.{SpellsReference, SpellsCall}

-- the text of a field whose name ends in `.$` stands for what the path names that it spells, or for the value of a
-- call; the first argument says whether paths to a Map's item are allowed
pub data StandsForMarked (item : Bool) : List ℕ → Template → Type 0 where
  stands_for_path : {s : List ℕ} {r : Reference} → SpellsReference item s r → StandsForMarked item s (FromPath r)
  stands_for_call : {s : List ℕ} {c : Call} → SpellsCall item s c → StandsForMarked item s (FromCall c)

-- Fields with one more, put in byte order of names: behind those whose names are lesser, in front of the first whose
-- name is greater. There is no place for a name that is there.
pub data PutsField (n : List ℕ) (p : Template) : FieldTemplates → FieldTemplates → Type 0 where
  puts_last : PutsField n p NoFieldTemplates (AndFieldTemplate n p NoFieldTemplates)
  puts_in_front : {m : List ℕ} {q : Template} {fields : FieldTemplates} → IsTrue (comes_before n m)
      → PutsField n p (AndFieldTemplate m q fields) (AndFieldTemplate n p (AndFieldTemplate m q fields))
  puts_behind : {m : List ℕ} {q : Template} {fields all : FieldTemplates} → IsTrue (comes_before m n)
      → PutsField n p fields all → PutsField n p (AndFieldTemplate m q fields) (AndFieldTemplate m q all)

mutual
  -- a value inside a template stands for itself, unless a field of it, at any depth, is marked by `.$`
  pub data StandsForPart (item : Bool) : Tree → Template → Type 0 where
    stands_for_null : StandsForPart item Null (Literal Null)
    stands_for_boolean : {b : Bool} → StandsForPart item (Boolean b) (Literal (Boolean b))
    stands_for_integer : {n : ℤ} → StandsForPart item (Integer n) (Literal (Integer n))
    stands_for_text : {s : List ℕ} → StandsForPart item (Text s) (Literal (Text s))
    stands_for_array : {ts : Trees} {parts : Templates} → StandForParts item ts parts
        → StandsForPart item (Array ts) (ArrayTemplate parts)
    stands_for_object : {fs : Fields} {fields : FieldTemplates} → StandForFields item fs fields
        → StandsForPart item (Object fs) (ObjectTemplate fields)

  -- so for the elements, in order
  pub data StandForParts (item : Bool) : Trees → Templates → Type 0 where
    no_part_is_left : StandForParts item NoTrees NoTemplates
    and_part : {t : Tree} {p : Template} {ts : Trees} {parts : Templates} → StandsForPart item t p
        → StandForParts item ts parts → StandForParts item (AndTree t ts) (AndTemplate p parts)

  -- so for the fields; one that is marked loses its suffix, and no two have one name then
  pub data StandForFields (item : Bool) : Fields → FieldTemplates → Type 0 where
    no_field_is_left : StandForFields item NoFields NoFieldTemplates
    and_marked_field : {n s : List ℕ} {p : Template} {fs : Fields} {fields all : FieldTemplates}
        → StandsForMarked item s p → StandForFields item fs fields → PutsField n p fields all
        → StandForFields item (AndField (n ++ codes ".$") (Text s) fs) all
    and_plain_field : {n : List ℕ} {t : Tree} {p : Template} {fs : Fields} {fields all : FieldTemplates}
        → ((m : List ℕ) → n ≡ m ++ codes ".$" → ⊥) → StandsForPart item t p → StandForFields item fs fields
        → PutsField n p fields all → StandForFields item (AndField n t fs) all

-- the tree stands for the template: it is an object
pub data StandsForTemplate (item : Bool) : Tree → Template → Type 0 where
  object_stands : {fs : Fields} {fields : FieldTemplates} → StandForFields item fs fields
      → StandsForTemplate item (Object fs) (ObjectTemplate fields)
