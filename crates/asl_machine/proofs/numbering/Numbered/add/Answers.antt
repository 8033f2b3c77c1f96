use Rattle.std.proofs.Common.{sym, ◌∙◌}
use Rattle.asl_fields.specs.View.{refusal_view}
use Rattle.asl_machine.proofs.Numbers.{row_again}
use Rattle.asl_machine.proofs.numbering.Numbered.add.Goals as goal

pub returns-then-contains-clause-refused : goal.returns-then-contains-clause-refused
returns-then-contains-clause-refused c done further h = row_again done further c.args.row c.args.self.now (refusal_view c.new-refusal.result) c.deref.result.now c.deref.ensures (sym c.contains.ensures ∙ c.if-contains.true) h c.new-refusal.ensures

pub returns-in-Ok-clause-added : goal.returns-in-Ok-clause-added
returns-in-Ok-clause-added c done h = c.in-Ok.ensures (sym c.contains.ensures ∙ c.if-contains.false) done h
