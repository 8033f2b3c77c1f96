use Rattle.std.proofs.lemmas.Result.{IfOk-equal}
use Rattle.std.proofs.Common.{◌++◌, ap}
use Rattle.asl_trace.proofs.EntryLines.{catch_line}
use Rattle.asl_trace.proofs.lines.Lines.add_catch.Goals as goal

pub returns : goal.returns
returns c =
    IfOk-equal c.add_line.result _ _ _ c.add_line.ensures (ap (λ s. c.args.self.now.bytes.items ++ s) (catch_line c.args.at.now c.args.catcher c.args.next.now c.args.state.now))
