-- What the two texts read as. No public clause cites this module.
use Rattle.std.specs.Prelude.{map, Option, Some, None}
use Rattle.serde_json.specs.View.{view}
use Rattle.serde_json.specs.declared.value.Value.{Value}
use Rattle.asl_model.specs.Json.{ReadsAsValue}
use Rattle.asl_model.specs.Names.{Bytes}
use Rattle.asl_model.specs.Texts.{IsNoJson, ReadsAsDeclared}
use Rattle.asl_records.specs.View.{declared_view}
use Rattle.asl_texts.specs.Verifying.{ReadsInto}
use Rattle.asl_lint.specs.Tells.{TellsOfDeclared, TellsOfDefinition}
use Rattle.asl_problems.specs.Told.{told_by}
use Rattle.asl_lint.specs.declared.reading.Declaration.{Declaration}
use Rattle.asl_lint.specs.declared.reading.Declaration.TheVariants as declaration
use Rattle.asl_lint.specs.declared.reading.Definition.{Definition}
use Rattle.asl_lint.specs.declared.reading.Definition.TheVariants as definition

-- the value that the text reads as, where it is JSON
abbrev pub IsValueOf : Bytes → Option Value → Type 0
IsValueOf text None = IsNoJson text
IsValueOf text (Some value) = ReadsAsValue text (view value)

-- what the definition reads as, or what is told of it
abbrev pub IsDefinition : Bytes → Definition → Type 0
IsDefinition text (definition.Machine machine) = ReadsInto text machine
IsDefinition text (definition.Refused problems) = TellsOfDefinition text (map told_by problems.items)

-- so of the declared shapes
abbrev pub IsDeclaration : Bytes → Declaration → Type 0
IsDeclaration text (declaration.Declared declared) = ReadsAsDeclared text (declared_view declared)
IsDeclaration text (declaration.Refused problems) = TellsOfDeclared text (map told_by problems.items)
