-- What is found in texts, by what they read as.
use Rattle.std.proofs.Common.{◌≡◌, ℕ, List, ◌++◌, sym, subst}
use Rattle.asl_model.specs.Names.{Bytes}
use Rattle.asl_model.specs.Texts.{ReadsAsDeclared}
use Rattle.asl_machine_table.specs.Held.{Held}
use Rattle.asl_machine_table.specs.Table.{scope_in}
use Rattle.asl_records.specs.View.{declared_view}
use Rattle.asl_records.specs.declared.records.Declared.{Declared}
use Rattle.asl_texts.specs.Verifying.{ReadsInto}
use Rattle.asl_lint.specs.Tells.{TellsOfBoth, TellsOfDeclared, TellsOfDefinition, TellsOfMachine, both_read, declared_reads, definition_reads, neither_reads}
use Rattle.asl_problems.specs.Told.{Told}

module _ (rounds : ℕ) (definition declared : Bytes) where
  pub read_both : (machine : Held) (shapes : Declared) (told : List Told) → ReadsInto definition machine → ReadsAsDeclared declared (declared_view shapes) → TellsOfMachine rounds (scope_in machine) (declared_view shapes) told → TellsOfBoth rounds definition declared told
  read_both machine shapes told r d t = both_read r d t

  pub read_one : (machine : Held) (told : List Told) → ReadsInto definition machine → TellsOfDeclared declared told → TellsOfBoth rounds definition declared told
  read_one machine told r t = definition_reads r t

  pub read_other : (shapes : Declared) (told : List Told) → TellsOfDefinition definition told → ReadsAsDeclared declared (declared_view shapes) → TellsOfBoth rounds definition declared told
  read_other shapes told t d = declared_reads t d

  pub read_none : (front others told : List Told) → TellsOfDefinition definition front → TellsOfDeclared declared others → told ≡ front ++ others → TellsOfBoth rounds definition declared told
  read_none front others told t u is = subst (TellsOfBoth rounds definition declared) (sym is) (neither_reads t u)
