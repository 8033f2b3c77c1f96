use Rattle.asl_model.proofs.CallMeaning.{spelled_or_refused, one_call, spelled_not_refused, one_refusal, call_exactly, refusal_exactly}
use Rattle.asl_model.proofs.reading_laws.texts_spell_calls_or_are_refused.Goals as goal

pub returns : goal.returns
returns c = record { either = spelled_or_refused; call = one_call; no_refusal = spelled_not_refused; one_refusal = one_refusal; read = call_exactly; refused = refusal_exactly }
