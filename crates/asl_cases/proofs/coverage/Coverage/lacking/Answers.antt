use Rattle.std.proofs.Common.{◌≡◌, [], length, sym, subst, Vec, String, Global}
use Rattle.std.specs.Prelude.{◌↔◌}
use Rattle.std.proofs.lemmas.Result.{IfOk-weaker}
use Rattle.asl_machine_table.specs.Table.{table_view}
use Rattle.asl_cases.specs.Coverage.{AreFlagsOf, IsCovered, lacking}
use Rattle.asl_cases.proofs.Lacks.{no_line_is_covered}
use Rattle.asl_cases.proofs.coverage.Coverage.lacking.Goals as goal

pub returns-clause-covered : goal.returns-clause-covered
returns-clause-covered c = λ told is.
    let table = table_view c.args.machine.now in
    let noted = subst (AreFlagsOf table told) (sym c.deref.ensures.value) is.noted in
    IfOk-weaker c.lines_of.result
    (λ (lines : Vec (String Global) Global). length lines.items ≡ length (lacking table told))
    (λ (lines : Vec (String Global) Global). lines.items ≡ [] ↔ IsCovered table told)
    (λ lines h. no_line_is_covered lines.items table told h)
    (c.lines_of.ensures told noted)
