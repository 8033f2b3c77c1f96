-- Which errors are told of the texts of a definition and of declared shapes.
use Rattle.std.specs.Prelude.{◌≡◌, ◌≢◌, ◌*◌, ◌≤◌, ℕ, List, [], ◌∷◌, ◌++◌, map, Option, Some, None}
use Rattle.serde_json.specs.Data.{Data}
use Rattle.asl_model.specs.Certificate.{Certificate, Declared}
use Rattle.asl_model.specs.Finding.{Finding}
use Rattle.asl_model.specs.Json.{ReadsAsValue, tree_of}
use Rattle.asl_model.specs.Machine.{Scope}
use Rattle.asl_model.specs.Names.{Bytes}
use Rattle.asl_model.specs.Numbering.{table_of}
use Rattle.asl_model.specs.Records.{declared_complaints}
use Rattle.asl_model.specs.StandsFor.{complaints}
use Rattle.asl_model.specs.Texts.{IsNoJson, ReadsAsDeclared, ReadsAsMachine}
use Rattle.asl_model.specs.Verdict.{Accepted, IsRight}
use Rattle.asl_draft_laws.specs.Drafts.{IsInferred, IsTold, NeverSettles}
use Rattle.asl_check.specs.Told.{listed}
use Rattle.asl_infer.specs.Inferring.{IsOfMachine, certified_shapes}
use Rattle.asl_infer.specs.Lenient.{IsInferredLeniently, NeverSettlesLeniently}
use Rattle.asl_problems.specs.Told.{Told, not_json, not_settled, not_whole, of_complaint, of_finding, of_record}

-- of a text that reads as no machine: it is no JSON, or each complaint of its value as a definition
pub data TellsOfDefinition (text : Bytes) : List Told → Type 0 where
  definition_no_json : IsNoJson text → TellsOfDefinition text (not_json ∷ [])
  definition_refused : {v : Data} → ReadsAsValue text v → complaints v ≢ []
      → TellsOfDefinition text (map of_complaint (complaints v))

-- of a text that reads as no declared shapes: it is no JSON, a number in it isn't whole, or each complaint of its value as
-- declared shapes
pub data TellsOfDeclared (text : Bytes) : List Told → Type 0 where
  declared_no_json : IsNoJson text → TellsOfDeclared text (not_json ∷ [])
  declared_not_whole : {v : Data} → ReadsAsValue text v → tree_of v ≡ None → TellsOfDeclared text (not_whole ∷ [])
  declared_refused : {v : Data} → ReadsAsValue text v → declared_complaints v ≢ []
      → TellsOfDeclared text (map of_record (declared_complaints v))

-- each broken rule of the certificate, at least one
pub record AreBroken (machine : Scope) (shapes : Declared) (certified : Certificate) (told : List Told) : Type 0 where
  pub some : listed (table_of machine) shapes certified ≢ []
  pub each : told ≡ map of_finding (listed (table_of machine) shapes certified)

-- of a machine where the rounds tell a finding instead: each rule that the certificate of lenient rounds breaks; or that
-- finding, where they come to no certificate, or to one that breaks none
pub data TellsInstead (rounds : ℕ) (machine : Scope) (shapes : Declared) (found : Finding) : List Told → Type 0 where
  leniently : {certified : Certificate} {told : List Told}
      → IsInferredLeniently (table_of machine) shapes rounds certified
      → AreBroken machine shapes certified told → TellsInstead rounds machine shapes found told
  unsettled_leniently : NeverSettlesLeniently (table_of machine) shapes rounds
      → TellsInstead rounds machine shapes found (of_finding found ∷ [])
  unbroken : {certified : Certificate} → IsInferredLeniently (table_of machine) shapes rounds certified
      → listed (table_of machine) shapes certified ≡ []
      → TellsInstead rounds machine shapes found (of_finding found ∷ [])

-- of a machine and declared shapes, for so many rounds: nothing where a certificate is inferred, which breaks no rule
pub data TellsOfMachine (rounds : ℕ) (machine : Scope) (shapes : Declared) : List Told → Type 0 where
  inferred : {certified : Certificate} → IsInferred (table_of machine) shapes rounds certified
      → IsRight machine shapes certified Accepted → TellsOfMachine rounds machine shapes []
  stopped : {found : Finding} {told : List Told} → IsTold (table_of machine) shapes rounds found
      → IsOfMachine machine shapes found → TellsInstead rounds machine shapes found told
      → TellsOfMachine rounds machine shapes told
  unsettled : NeverSettles (table_of machine) shapes rounds → rounds ≤ 33 * certified_shapes (table_of machine)
      → TellsOfMachine rounds machine shapes (not_settled ∷ [])

-- Of a definition alone.
pub data TellsOfOne (definition : Bytes) : List Told → Type 0 where
  alone_reads : {machine : Scope} → ReadsAsMachine definition machine → TellsOfOne definition []
  alone_refused : {told : List Told} → TellsOfDefinition definition told → TellsOfOne definition told

-- Of a definition and of declared shapes: of each text that is refused, and of the machine where both read.
pub data TellsOfBoth (rounds : ℕ) (definition declared : Bytes) : List Told → Type 0 where
  both_read : {machine : Scope} {shapes : Declared} {told : List Told}
      → ReadsAsMachine definition machine → ReadsAsDeclared declared shapes
      → TellsOfMachine rounds machine shapes told → TellsOfBoth rounds definition declared told
  definition_reads : {machine : Scope} {told : List Told}
      → ReadsAsMachine definition machine → TellsOfDeclared declared told
      → TellsOfBoth rounds definition declared told
  declared_reads : {shapes : Declared} {told : List Told}
      → TellsOfDefinition definition told → ReadsAsDeclared declared shapes
      → TellsOfBoth rounds definition declared told
  neither_reads : {told others : List Told}
      → TellsOfDefinition definition told → TellsOfDeclared declared others
      → TellsOfBoth rounds definition declared (told ++ others)

-- of a definition, and of declared shapes where they are given
abbrev pub TellsOfTexts : ℕ → Bytes → Option Bytes → List Told → Type 0
TellsOfTexts rounds definition None told = TellsOfOne definition told
TellsOfTexts rounds definition (Some declared) told = TellsOfBoth rounds definition declared told
