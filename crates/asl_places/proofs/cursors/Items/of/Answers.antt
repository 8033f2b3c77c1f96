use Rattle.std.proofs.Common.{arith}
use Rattle.asl_places.proofs.Steps.{no_bracket_at, no_value_past, list_opens, no_list_opens}
use Rattle.asl_places.proofs.cursors.Items.of.Goals as goal

pub returns-then-at-nodes-clause-items : goal.returns-then-at-nodes-clause-items
returns-then-at-nodes-clause-items c j begins =
    absurd (no_value_past c.args.nodes.now c.args.list.token j c.if-at-nodes.true begins)

pub returns-in_default : goal.returns-in_default
returns-in_default c = record {
  tokens = tt;
  opens = no_bracket_at c.args.nodes.now c.args.list.token (omega arith) c.in_default.not-Array;
  items = λ j begins. no_list_opens c.args.nodes.now c.args.list.token j (omega arith) c.in_default.not-Array begins;
}

pub returns-clause-items : goal.returns-clause-items
returns-clause-items c j begins =
    list_opens c.args.nodes.now c.args.list.token c.in-Array.field-0 j (omega arith) c.in-Array.is begins
