-- Why the texts of a run aren't read, and what the sink holds then.
use Rattle.std.proofs.Common.{Bool, sym, subst}
use Rattle.asl_model.specs.Texts.{Which}
use Rattle.asl_texts.specs.Runs.{GivenTexts, GivesFault, InputReads, IsFirstRefused, SourceFault}
use Rattle.asl_texts.specs.View.{text_fault_view}
use Rattle.asl_texts.specs.declared.refusals.RunFault.{RunFault}
use Rattle.asl_texts.specs.declared.refusals.RunFault.TheVariants as run

-- the answers are what isn't read
pub answers_unread : (texts : GivenTexts) (failed : Bool) (fault : RunFault) → InputReads texts → SourceFault texts.answers failed fault → GivesFault texts failed fault
answers_unread texts failed (run.Text refusal) before h =
    subst (λ (which : Which). IsFirstRefused texts which (text_fault_view refusal.fault)) (sym h.0) (before, h.1)
answers_unread texts failed run.TooLong before h = (before, h)
answers_unread texts failed run.Read before h = (before, h)
answers_unread texts failed run.Write before h = h
answers_unread texts failed run.OutOfMemory before h = h
