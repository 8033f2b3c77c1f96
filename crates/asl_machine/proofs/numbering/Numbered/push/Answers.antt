use Rattle.std.proofs.Common.{refl}
use Rattle.asl_machine.proofs.Numbers.{one_row_more}
use Rattle.asl_machine.proofs.numbering.Numbered.push.Goals as goal

pub returns : goal.returns
returns c absent done h = one_row_more done c.args.row c.args.row.home c.args.self.now record { names = c.insert.new.self; states = c.push.new.self; homes = c.push-2.new.self } absent c.in_ok-insert.ensures.keys c.in_ok-push.ensures.items c.in_ok-push-2.ensures.items refl h
