use Rattle.std.proofs.Common.{arith}
use Rattle.asl_trace.proofs.Traces.{goes_on, all_added}
use Rattle.asl_trace.proofs.lines.Lines.add.Goals as goal

pub loop-entry-preserved : goal.loop-entry-preserved
loop-entry-preserved c =
    let l = c.loop-entry in
    goes_on c.args.entries.now l.entry-index c.entry-item.result c.args.self.now.bytes.items l.self.bytes.items c.add_entry.new.self.bytes.items
    (omega arith) c.entry-item.is l.invariant c.in_ok-add_entry.ensures

pub returns : goal.returns
returns c = all_added c.args.entries.now c.loop-entry.entry-index c.args.self.now.bytes.items c.loop-entry.self.bytes.items (omega arith) c.loop-entry.invariant
