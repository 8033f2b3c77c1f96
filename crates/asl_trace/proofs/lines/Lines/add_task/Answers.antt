use Rattle.std.proofs.Common.{◌++◌, ap}
use Rattle.std.proofs.lemmas.Result.{IfOk-equal}
use Rattle.asl_tree.specs.View.{view}
use Rattle.asl_trace.proofs.EntryLines.{asked_line}
use Rattle.asl_trace.proofs.lines.Lines.add_task.Goals as goal

pub returns : goal.returns
returns c =
    IfOk-equal c.add_data.result _ _ _ c.add_data.ensures (ap (λ s. c.args.self.now.bytes.items ++ s) (asked_line c.args.at.now c.args.state.now (view c.args.payload.now.value)))
