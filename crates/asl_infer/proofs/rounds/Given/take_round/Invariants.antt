use Rattle.std.proofs.Common.{◌≤◌, ◌-◌, length}
use Rattle.asl_numbered.specs.Expansion.{Keeps}
use Rattle.asl_drafts.specs.Drafted.{draft_view}
use Rattle.asl_infer.specs.Rounds.{AreCalm, declared_in, table_in}
use Rattle.asl_infer.proofs.TakenRounds.{IsInRound}
use Rattle.asl_infer.proofs.rounds.Given.take_round.Given as goal

abbrev pub invariant-loop-turn : goal.invariant-loop-turn
invariant-loop-turn l = record {
  keeps : Keeps l.fn.walker.draft.store l.walker.draft.store;
  calm : AreCalm (table_in l.self) (declared_in l.self) l.walker;
  within : l.from ≤ length l.walker.waiting.order.items;
  round : IsInRound l.self.strictness (table_in l.self) (declared_in l.self) (draft_view l.fn.walker.draft) l.from l.changed (draft_view l.walker.draft);
}

abbrev pub decreases-loop-turn : goal.decreases-loop-turn
decreases-loop-turn l = length l.walker.waiting.order.items - l.from
