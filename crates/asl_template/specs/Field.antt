-- The parts that a template is read by.
use Rattle.std.specs.Prelude.{ℕ, List, [], ◌∷◌, Bool, true, false, is_some, if◌then◌else◌, option_map}
use Rattle.std.specs.Option.{unwrap_or}
use Rattle.asl_model.specs.CallSpelling.{is_context, reference_of}
use Rattle.asl_model.specs.Template.{Template, Literal, FromPath}
use Rattle.asl_model.specs.TemplateSpelling.{TemplateFault, BadPath, LeftOutContext, is_marked, marked_value, marked_faults, part_of, part_faults}
use Rattle.asl_model.specs.Tree.{Tree, Null}

-- what a text stands for as a path
abbrev pub path_template : Bool → List ℕ → Template
path_template item s = unwrap_or (option_map FromPath (reference_of item s)) (Literal Null)

-- what is wrong with it
abbrev pub path_faults : Bool → List ℕ → List TemplateFault
path_faults item s = if is_some (reference_of item s) then [] else (if is_context s then LeftOutContext ∷ [] else BadPath ∷ [])

-- what a field's value stands for, by its name
abbrev pub field_template : Bool → List ℕ → Tree → Template
field_template item n t = elim (is_marked n) [ true ↦ marked_value item t | false ↦ part_of item t ]

-- what is wrong with it
abbrev pub field_faults : Bool → List ℕ → Tree → List TemplateFault
field_faults item n t = elim (is_marked n) [ true ↦ marked_faults item t | false ↦ part_faults item t ]
