use Rattle.std.proofs.lemmas.Result.{IfOk-equal}
use Rattle.std.proofs.Common.{◌++◌, ap}
use Rattle.asl_run.specs.Faults.{fault_view}
use Rattle.asl_trace.proofs.EntryLines.{raise_line}
use Rattle.asl_trace.proofs.lines.Lines.add_raise.Goals as goal

pub returns : goal.returns
returns c =
    let line = raise_line c.args.at.now c.args.state.now (fault_view c.args.fault) c.name.result.now c.name.ensures in
    IfOk-equal c.add_line.result _ _ _ c.add_line.ensures (ap (λ s. c.args.self.now.bytes.items ++ s) line)
