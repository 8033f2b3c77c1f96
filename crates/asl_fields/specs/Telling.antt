-- What is told behind what was told before.
use Rattle.std.specs.Prelude.{◌≡◌, ◌≤◌, ℕ, List, [], ◌∷◌, ◌++◌, length, map, if◌then◌else◌, Option, Some, None}
use Rattle.serde_json.specs.Data.{Data}
use Rattle.asl_model.specs.DefinitionTable as model
use Rattle.asl_model.specs.Json.{tree_of}
use Rattle.asl_model.specs.ShapeSpelling.{is_among}
use Rattle.asl_model.specs.StandsFor.{Complaint, Place, complaint_at, has_row}
use Rattle.asl_fields.specs.declared.field_telling.Element.{Element}
use Rattle.asl_fields.specs.declared.field_telling.Element.TheVariants as element
use Rattle.asl_fields.specs.declared.places.Complaint.{Complaint as Objection}
use Rattle.asl_fields.specs.Verdicts.{complaint_view}

-- those complaints were told, in their order, and nothing else
pub record Tells (before after : List (Option Complaint)) (wrong : List Complaint) : Type 0 where
  pub holds : after ≡ before ++ map Some wrong

abbrev pub Told : List Objection → List Objection → List Complaint → Type 0
Told before after wrong = Tells (map complaint_view before) (map complaint_view after) wrong

-- that complaint was told; want of memory is none
abbrev pub IsTold : List Objection → List Objection → Option Complaint → Type 0
IsTold before after None = ⊥
IsTold before after (Some c) = Told before after (c ∷ [])

-- there is at most one
pub record IsSingle {A : Type 0} (wrong : List A) : Type 0 where
  pub holds : length wrong ≤ 1

-- ---- lists that are told in one

-- that a field has no row, where it has none
abbrev pub field_told : Place → List model.Row → List ℕ → List Complaint
field_told place rows n =
    if has_row n rows then [] else
    complaint_at place n (if is_among n model.left_out_fields then model.LeftOut else model.UnknownField) ∷ []

-- what is wrong with an element where such a one is wanted
abbrev pub element_misfits : Element → Data → List model.DefFault
element_misfits element.Text v = model.text_misfits v
element_misfits element.Rule v = model.rule_misfits (tree_of v)
