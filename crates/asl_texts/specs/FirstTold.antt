-- Which findings a verdict on texts tells: of each name that has a broken rule, the first one.
use Rattle.std.specs.Prelude.{ℕ, List}
use Rattle.asl_model.specs.Certificate.{Declared, Certificate}
use Rattle.asl_model.specs.Headline.{ReadAs}
use Rattle.asl_model.specs.Machine.{Scope}
use Rattle.asl_model.specs.Numbering.{table_of}
use Rattle.asl_model.specs.Verdict.{Verdict}
use Rattle.asl_check.specs.Told.{listed, TellsFirst}

-- the three texts read, and each finding that is told is the first of its name among the rules that are broken for what
-- they read as
pub record TellsFirstOn (definition declared certificate : List ℕ) (told : Verdict) : Type 0 where
  pub machine : Scope
  pub shapes : Declared
  pub certified : Certificate
  pub read : ReadAs definition declared certificate machine shapes certified
  pub first : TellsFirst (listed (table_of machine) shapes certified) told
