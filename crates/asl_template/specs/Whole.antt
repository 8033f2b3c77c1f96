-- What a JSON value is as a template, by the tree that it is.
use Rattle.std.specs.Prelude.{Bool}
use Rattle.serde_json.specs.Data.{Data}
use Rattle.asl_model.specs.Template.{Template}
use Rattle.asl_model.specs.TemplateGrammar.{StandsForTemplate}
use Rattle.asl_model.specs.TemplateSpelling.{TemplateFault, SpellsTemplate, HasTemplateFault}
use Rattle.asl_tree.specs.Values.{IsTreeWith}

-- the value is a tree that spells the template
abbrev pub ValueSpells : Bool → Data → Template → Type 0
ValueSpells item v p = IsTreeWith (λ t. SpellsTemplate item t p) v

-- the value is a tree that stands for the template
abbrev pub ValueStandsFor : Bool → Data → Template → Type 0
ValueStandsFor item v p = IsTreeWith (λ t. StandsForTemplate item t p) v

-- the value is a tree with that fault as a template
abbrev pub ValueHasFault : Bool → Data → TemplateFault → Type 0
ValueHasFault item v f = IsTreeWith (λ t. HasTemplateFault item t f) v
