use Rattle.asl_numbered.specs.Expansion.{Keeps}
use Rattle.asl_drafts.specs.Drafted.{draft_view}
use Rattle.asl_infer.specs.Rounds.{AreCalm, declared_in, table_in}
use Rattle.asl_infer.proofs.TakenRounds.{AreTaken}
use Rattle.asl_infer.proofs.rounds.Given.take_rounds.Given as goal

abbrev pub invariant-loop : goal.invariant-loop
invariant-loop l = record {
  keeps : Keeps l.fn.walker.draft.store l.walker.draft.store;
  calm : AreCalm (table_in l.self) (declared_in l.self) l.walker;
  taken : AreTaken l.self.strictness (table_in l.self) (declared_in l.self) l.counter (draft_view l.walker.draft);
}
