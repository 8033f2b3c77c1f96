-- What the diagnostics of a definition and of declared shapes promise.
use Rattle.std.specs.Prelude.{ℕ, List, map, Option, Some, None, Bool, bytes_eq, codes, option_map, ⊤}
use Rattle.std.specs.List.Sorted.{IsPermutation}
use Rattle.asl_model.specs.Finding.{Finding}
use Rattle.asl_model.specs.Names.{Bytes}
use Rattle.asl_model.specs.Texts.{TextFault, IsDeclaredFault, IsDefinitionFault}
use Rattle.asl_tool.specs.Inferred.{AreFewRounds, IsFindingOn}
use Rattle.asl_diagnostics.specs.declared.Diagnostic.{Diagnostic}
use Rattle.asl_lint.specs.Tells.{TellsOfTexts}
use Rattle.asl_problems.specs.Told.{Told, errors_in, told_of}
use Rattle.asl_problems.specs.declared.files.File.{File}

-- the bytes of a file, where it is given
abbrev pub text_of : Option File → Option Bytes
text_of file = option_map (λ f. f.text.now) file

-- the diagnostics tell what is told of the texts, in another order: the errors among it are those of the texts
pub record Tells (rounds : ℕ) (definition : Bytes) (declared : Option Bytes) (ds : List Diagnostic) : Type 0 where
  pub all : List Told
  pub errors : TellsOfTexts rounds definition declared (errors_in all)
  pub each : IsPermutation all (map told_of ds)

-- what holds of the declared shapes where they are given; what holds where they aren't
abbrev pub WhereDeclared : (Bytes → Type 0) → Option File → Type 0
WhereDeclared promise None = ⊤
WhereDeclared promise (Some file) = promise file.text.now

abbrev pub WhereUndeclared : Type 0 → Option File → Type 0
WhereUndeclared promise None = promise
WhereUndeclared promise (Some file) = ⊤

-- verifying the two texts in so many rounds says another thing than yes
pub data IsFaulty (rounds : ℕ) (definition declared : Bytes) : Type 0 where
  bad_definition : {f : TextFault} → IsDefinitionFault definition f → IsFaulty rounds definition declared
  bad_declared : {f : TextFault} → IsDeclaredFault declared f → IsFaulty rounds definition declared
  finding : {found : Finding} → IsFindingOn rounds definition declared found → IsFaulty rounds definition declared
  unsettled : AreFewRounds definition declared rounds → IsFaulty rounds definition declared

-- the diagnostic says that a text is no JSON
abbrev pub tells_no_json : Diagnostic → Bool
tells_no_json d = bytes_eq d.rule.now.id.now (codes "NotJson")
