-- How payload templates are spelled (States Language, "Payload Template").
-- A template is an object. At any depth a field whose name ends in `.$` loses that suffix, and its value, a text, is a
-- path into the template's input (one leading `$`), a context path (`$$`), or an intrinsic call. All else stands for
-- itself. Every tree has here a template, with defaults where something is wrong, and a list of all that is wrong.
use Rattle.std.specs.Prelude.{◌≡◌, ◌-◌, ℕ, List, [], ◌∷◌, ◌++◌, length, take, drop, slice_index}
use Rattle.std.specs.Prelude.{◌==◌, Bool, true, false, is_some, if◌then◌else◌, Option, Some}
use Rattle.std.specs.Prelude.{None, option_map, Result, Ok, Err, bytes_eq, codes}
use Rattle.std.specs.Option.{unwrap_or}
use Rattle.std.specs.List.{Contains}
use Rattle.asl_model.specs.Tree.{Tree, Null, Boolean, Integer, Text, Array, Object, Trees}
use Rattle.asl_model.specs.Tree.{NoTrees, AndTree, Fields, NoFields, AndField, comes_before}
use Rattle.asl_model.specs.Intrinsic.{Call}
use Rattle.asl_model.specs.Template.{Template, Literal, FromPath, FromCall, ArrayTemplate, ObjectTemplate, Templates}
use Rattle.asl_model.specs.Template.{NoTemplates, AndTemplate, FieldTemplates, NoFieldTemplates, AndFieldTemplate}
use Rattle.asl_model.specs.ShapeSpelling.{are_distinct}
use Rattle.asl_model.specs.CallSpelling.{is_context, reference_of, CallFault, call_from}

-- what can be wrong with a template
pub data TemplateFault : Type 0 where
  NotObject : TemplateFault
  -- the value of a field whose name ends in `.$`
  NotText : TemplateFault
  BadPath : TemplateFault
  BadIntrinsic : TemplateFault
  -- two fields of an object have one name once the suffix is lost
  DuplicateAfterStrip : TemplateFault
  -- a context path that isn't allowed
  LeftOutContext : TemplateFault

-- the name ends in `.$`
abbrev pub is_marked : List ℕ → Bool
is_marked n = bytes_eq (drop (length n - 2) n) (codes ".$")

-- the name without that suffix
abbrev pub renamed : List ℕ → List ℕ
renamed n = if is_marked n then take (length n - 2) n else n

-- ---- the values of marked fields

-- the text begins with `$`
abbrev pub begins_path : List ℕ → Bool
begins_path s = slice_index s 0 == 36

-- the call, or null where there is none
abbrev pub call_or_null : Result Call CallFault → Template
call_or_null (Ok c) = FromCall c
call_or_null (Err fault) = Literal Null

-- what the text of a field whose name ends in `.$` stands for: a path or a call
abbrev pub marked_text : Bool → List ℕ → Template
marked_text item s =
    if begins_path s then unwrap_or (option_map FromPath (reference_of item s)) (Literal Null)
    else call_or_null (call_from item s)

-- what the value of such a field stands for
abbrev pub marked_value : Bool → Tree → Template
marked_value item Null = Literal Null
marked_value item (Boolean b) = Literal Null
marked_value item (Integer n) = Literal Null
marked_value item (Text s) = marked_text item s
marked_value item (Array ts) = Literal Null
marked_value item (Object fs) = Literal Null

-- the fault of a call, where it has one
abbrev pub unless_call : Result Call CallFault → List TemplateFault
unless_call (Ok c) = []
unless_call (Err fault) = BadIntrinsic ∷ []

-- what is wrong with the text of such a field
abbrev pub marked_text_faults : Bool → List ℕ → List TemplateFault
marked_text_faults item s =
    if begins_path s
    then (if is_some (reference_of item s) then [] else (if is_context s then LeftOutContext ∷ [] else BadPath ∷ []))
    else unless_call (call_from item s)

-- with its value, which has to be a text
abbrev pub marked_faults : Bool → Tree → List TemplateFault
marked_faults item Null = NotText ∷ []
marked_faults item (Boolean b) = NotText ∷ []
marked_faults item (Integer n) = NotText ∷ []
marked_faults item (Text s) = marked_text_faults item s
marked_faults item (Array ts) = NotText ∷ []
marked_faults item (Object fs) = NotText ∷ []

-- ---- templates

-- the fields with one more, in byte order of names
abbrev pub with_field : List ℕ → Template → FieldTemplates → FieldTemplates
with_field n p NoFieldTemplates = AndFieldTemplate n p NoFieldTemplates
with_field n p (AndFieldTemplate m q fields) =
    if comes_before m n then AndFieldTemplate m q (with_field n p fields)
    else AndFieldTemplate n p (AndFieldTemplate m q fields)

abbrev mutual
  -- the template that a value inside a template spells
  pub part_of : Bool → Tree → Template
  part_of item Null = Literal Null
  part_of item (Boolean b) = Literal (Boolean b)
  part_of item (Integer n) = Literal (Integer n)
  part_of item (Text s) = Literal (Text s)
  part_of item (Array ts) = ArrayTemplate (parts_of item ts)
  part_of item (Object fs) = ObjectTemplate (field_templates_of item fs)

  -- so for the elements
  pub parts_of : Bool → Trees → Templates
  parts_of item NoTrees = NoTemplates
  parts_of item (AndTree t ts) = AndTemplate (part_of item t) (parts_of item ts)

  -- so for the fields, each under its name without `.$`
  pub field_templates_of : Bool → Fields → FieldTemplates
  field_templates_of item NoFields = NoFieldTemplates
  field_templates_of item (AndField n t fs) =
      with_field (renamed n) (elim (is_marked n) [ true ↦ marked_value item t | false ↦ part_of item t ])
      (field_templates_of item fs)

-- the names of the fields, renamed
abbrev pub renamed_names : Fields → List (List ℕ)
renamed_names NoFields = []
renamed_names (AndField n t fs) = renamed n ∷ renamed_names fs

-- no two fields have one name once `.$` is taken away
abbrev pub duplicate_faults : Fields → List TemplateFault
duplicate_faults fs = if are_distinct (renamed_names fs) then [] else DuplicateAfterStrip ∷ []

abbrev mutual
  -- what is wrong inside a template
  pub part_faults : Bool → Tree → List TemplateFault
  part_faults item Null = []
  part_faults item (Boolean b) = []
  part_faults item (Integer n) = []
  part_faults item (Text s) = []
  part_faults item (Array ts) = parts_faults item ts
  part_faults item (Object fs) = duplicate_faults fs ++ fields_faults item fs

  -- with each element
  pub parts_faults : Bool → Trees → List TemplateFault
  parts_faults item NoTrees = []
  parts_faults item (AndTree t ts) = part_faults item t ++ parts_faults item ts

  -- with each field
  pub fields_faults : Bool → Fields → List TemplateFault
  fields_faults item NoFields = []
  fields_faults item (AndField n t fs) =
      (elim (is_marked n) [ true ↦ marked_faults item t | false ↦ part_faults item t ]) ++ fields_faults item fs

-- all that is wrong with a tree as a template; the first argument says whether paths to a Map's item are allowed
abbrev pub template_faults : Bool → Tree → List TemplateFault
template_faults item Null = NotObject ∷ []
template_faults item (Boolean b) = NotObject ∷ []
template_faults item (Integer n) = NotObject ∷ []
template_faults item (Text s) = NotObject ∷ []
template_faults item (Array ts) = NotObject ∷ []
template_faults item (Object fs) = part_faults item (Object fs)

-- there is no fault
abbrev pub none_among : List TemplateFault → Bool
none_among [] = true
none_among (fault ∷ further) = false

-- the template that a tree spells
abbrev pub template_of : Bool → Tree → Option Template
template_of item t = if none_among (template_faults item t) then Some (part_of item t) else None

-- the tree spells the template
pub record SpellsTemplate (item : Bool) (t : Tree) (p : Template) : Type 0 where
  pub none_wrong : template_faults item t ≡ []
  pub same : part_of item t ≡ p

-- that is wrong with the tree
pub record HasTemplateFault (item : Bool) (t : Tree) (f : TemplateFault) : Type 0 where
  pub listed : Contains (template_faults item t) f
