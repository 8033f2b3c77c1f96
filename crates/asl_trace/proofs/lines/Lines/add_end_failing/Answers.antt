use Rattle.std.proofs.Common.{◌++◌, ap}
use Rattle.std.proofs.lemmas.Result.{IfOk-equal}
use Rattle.asl_trace.proofs.EntryLines.{failed_line}
use Rattle.asl_trace.proofs.lines.Lines.add_end_failing.Goals as goal

pub returns : goal.returns
returns c =
    IfOk-equal c.add_line.result _ _ _ c.add_line.ensures (ap (λ s. c.args.self.now.bytes.items ++ s) (failed_line c.args.at.now c.args.cause.now c.args.error.now))
