use Rattle.std.proofs.Common.{◌++◌, ap}
use Rattle.std.proofs.lemmas.Result.{IfOk-equal}
use Rattle.asl_tree.specs.View.{view}
use Rattle.asl_trace.proofs.EntryLines.{output_line}
use Rattle.asl_trace.proofs.lines.Lines.add_output.Goals as goal

pub returns : goal.returns
returns c =
    IfOk-equal c.add_line.result _ _ _ c.add_line.ensures (ap (λ s. c.args.self.now.bytes.items ++ s) (output_line c.args.at.now (view c.args.output.now.value)))
