-- What is wrong with the fields of an object that are read, and with the others, which are only checked.
use Rattle.std.specs.Prelude.{ℕ, List, [], ◌∷◌, ◌++◌, map, Bool, true, false}
use Rattle.std.specs.Prelude.{if◌then◌else◌, Option, Some, None, option_and_then, codes}
use Rattle.std.specs.List.{filter_map}
use Rattle.std.specs.Option.{unwrap_or}
use Rattle.serde_json.specs.Data.{Data, Items, Members}
use Rattle.serde_json.specs.Find.{get_member}
use Rattle.serde_json.specs.View.{view}
use Rattle.serde_json.specs.declared.value.Value.{Value}
use Rattle.asl_model.specs.DefinitionTable as model
use Rattle.asl_model.specs.Json.{tree_of}
use Rattle.asl_model.specs.RuleSpelling.{rule_of}
use Rattle.asl_model.specs.Test.{Rule}
use Rattle.asl_model.specs.StandsFor.{Complaint, Place, complaint_at, row_faults}
use Rattle.asl_model.specs.StandsFor.{members_in, listed}
use Rattle.asl_model.specs.StandsFor.{foreign_complaints, text_at}

-- ---- what the values of a definition are

-- the fields of a value, none where it is no object
abbrev pub fields_of : Value → Members
fields_of v = members_in (view v)

-- the text of a field, and a default where there is none
abbrev pub text_or : List ℕ → List ℕ → Value → List ℕ
text_or default field v = unwrap_or (text_at field (fields_of v)) default

-- the empty text where there is none
abbrev pub text_or_none : List ℕ → Value → List ℕ
text_or_none field v = text_or [] field v

-- the rules that elements spell
abbrev pub rules_among : Items → List Rule
rules_among vs = filter_map (λ v. option_and_then rule_of (tree_of v)) (listed vs)

-- what is wrong with elements as rules
abbrev pub wrong_rules : Items → List model.DefFault
wrong_rules vs = model.wrong_with_each (λ v. model.rule_misfits (tree_of v)) vs

-- a value of that kind is read where it stands: a path, a template, a list of rules
abbrev pub is_read : model.Wanted → Bool
is_read model.TextValue = false
is_read model.PositiveValue = false
is_read model.CountValue = false
is_read model.NumberValue = false
is_read model.TruthValue = false
is_read model.LanguageValue = false
is_read model.PathValue = true
is_read model.PathOrNullValue = true
is_read model.TemplateValue = true
is_read model.ItemTemplateValue = true
is_read model.AnyValue = false
is_read model.ConfigValue = false
is_read model.StatesValue = false
is_read model.ScopeValue = false
is_read model.ScopesValue = false
is_read model.RulesValue = true
is_read model.NamesValue = false
is_read model.RetriersValue = false
is_read model.CatchersValue = false

-- what is wrong with a value, where it isn't read
abbrev pub misfits_unread : model.Wanted → Data → List model.DefFault
misfits_unread wanted v = if is_read wanted then [] else model.misfits wanted v

-- ---- the fields of an object

-- what is wrong with the field of a row that isn't read
abbrev pub checked_faults : model.Row → Option Data → List model.DefFault
checked_faults row o = if is_read row.wanted then [] else row_faults row o

-- with all of these
abbrev pub checked_complaints : Place → List model.Row → Members → List Complaint
checked_complaints place [] ms = []
checked_complaints place (row ∷ rows) ms =
    map (complaint_at place row.field) (checked_faults row (get_member row.field ms)) ++ checked_complaints place rows ms

-- what is wrong with the fields of an object, but for what is read
abbrev pub fields_told : Place → List model.Row → Members → List Complaint
fields_told place rows ms = checked_complaints place rows ms ++ foreign_complaints place rows ms

-- what is wrong with the value of a field, or with its absence where it is required
abbrev pub given_faults : Bool → model.Wanted → Option Data → List model.DefFault
given_faults required wanted None = if required then model.MissingField ∷ [] else []
given_faults required wanted (Some v) = model.misfits wanted v

-- what is told of a field that may be absent
abbrev pub told_at : Place → List ℕ → model.Wanted → Members → List Complaint
told_at place field wanted ms = map (complaint_at place field) (given_faults false wanted (get_member field ms))

-- a template, in which paths to a Map's item may be allowed
abbrev pub template_wanted : Bool → model.Wanted
template_wanted item = if item then model.ItemTemplateValue else model.TemplateValue

-- ---- the fields of a state that are read

-- the rules of a Choice
abbrev pub rules_told : Place → Members → List Complaint
rules_told place ms =
    map (complaint_at place (codes "Choices")) (given_faults true model.RulesValue (get_member (codes "Choices") ms))
