-- What is answered of a machine, what is declared for it and a certificate, as the code has them.
use Rattle.asl_machine_table.specs.Held.{Held}
use Rattle.asl_machine_table.specs.Table.{scope_in, table_view}
use Rattle.asl_model.specs.Verdict.{IsRight}
use Rattle.asl_records.specs.View.{declared_view, certificate_view}
use Rattle.asl_records.specs.declared.records.Certificate.{Certificate}
use Rattle.asl_records.specs.declared.records.Declared.{Declared}
use Rattle.asl_check.specs.Told.{listed, TellsFirst}
use Rattle.asl_check.specs.View.{verdict_view}
use Rattle.asl_check.specs.declared.verdicts.Verdict.{Verdict}

-- the verdict on them is right
abbrev pub IsVerdict : Held → Declared → Certificate → Verdict → Type 0
IsVerdict machine declared certificate verdict =
    IsRight (scope_in machine) (declared_view declared) (certificate_view certificate) (verdict_view verdict)

-- it tells of each name the first rule that is broken
abbrev pub IsOfFirst : Held → Declared → Certificate → Verdict → Type 0
IsOfFirst machine declared certificate verdict =
    TellsFirst (listed (table_view machine) (declared_view declared) (certificate_view certificate)) (verdict_view verdict)
