use Rattle.std.proofs.Common.{arith}
use Rattle.asl_places.proofs.Steps.{no_brace_at, no_value_past, object_opens, no_object_opens}
use Rattle.asl_places.proofs.cursors.Members.of.Goals as goal

pub returns-then-at-nodes-clause-members : goal.returns-then-at-nodes-clause-members
returns-then-at-nodes-clause-members c j begins =
    absurd (no_value_past c.args.nodes.now c.args.object.token j c.if-at-nodes.true begins)

pub returns-in_default : goal.returns-in_default
returns-in_default c = record {
  tokens = tt;
  opens = no_brace_at c.args.nodes.now c.args.object.token (omega arith) c.in_default.not-Object;
  members = λ j begins. no_object_opens c.args.nodes.now c.args.object.token j (omega arith) c.in_default.not-Object begins;
}

pub returns-clause-members : goal.returns-clause-members
returns-clause-members c j begins =
    object_opens c.args.nodes.now c.args.object.token c.in-Object.field-0 j (omega arith) c.in-Object.is begins
