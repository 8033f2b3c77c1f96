use Rattle.std.proofs.Common.{sym, ◌∙◌}
use Rattle.asl_machine.proofs.Repeated.{none_behind, one_again, one_new}
use Rattle.asl_machine.proofs.repeating.find_repeated.Goals as goal

pub loop-name-init : goal.loop-name-init
loop-name-init c = none_behind c.args.names.items c.new-further.result c.new-repeated.result.items c.new-further.ensures.empty c.new-repeated.ensures.items

pub loop-name-preserved-in-Continue-1 : goal.loop-name-preserved-in-Continue-1
loop-name-preserved-in-Continue-1 c =
    let l = c.loop-name in
    one_again c.args.names.items l.left.items c.pop.new.self.items l.further l.repeated.items c.push.new.self.items c.in-Some.name l.invariant c.in-Some.ensures.items (sym c.contains_key.ensures ∙ c.if-contains_key.true) c.in_ok-push.ensures.items

pub loop-name-preserved : goal.loop-name-preserved
loop-name-preserved c =
    let l = c.loop-name in
    one_new c.args.names.items l.left.items c.pop.new.self.items l.further c.insert.new.self l.repeated.items c.in-Some.name l.invariant c.in-Some.ensures.items (sym c.contains_key.ensures ∙ c.if-contains_key.false) c.in_ok-insert.ensures.updates
