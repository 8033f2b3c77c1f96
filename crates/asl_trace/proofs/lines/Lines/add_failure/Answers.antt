use Rattle.std.proofs.lemmas.Result.{IfOk-equal}
use Rattle.std.proofs.Common.{◌++◌, ap}
use Rattle.asl_trace.proofs.EntryLines.{failure_line}
use Rattle.asl_trace.proofs.lines.Lines.add_failure.Goals as goal

pub returns : goal.returns
returns c =
    IfOk-equal c.add_line.result _ _ _ c.add_line.ensures (ap (λ s. c.args.self.now.bytes.items ++ s) (failure_line c.args.at.now c.args.cause.now c.args.error.now c.args.state.now))
