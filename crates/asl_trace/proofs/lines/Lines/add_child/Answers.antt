use Rattle.std.proofs.lemmas.Result.{IfOk-equal}
use Rattle.std.proofs.Common.{◌++◌, ap}
use Rattle.asl_trace.proofs.EntryLines.{child_line}
use Rattle.asl_trace.proofs.lines.Lines.add_child.Goals as goal

pub returns : goal.returns
returns c =
    IfOk-equal c.add_line.result _ _ _ c.add_line.ensures (ap (λ s. c.args.self.now.bytes.items ++ s) (child_line c.args.at.now c.args.cause.now c.args.child c.args.error.now c.args.state.now))
