use Rattle.std.proofs.Common.{◌≡◌, codes, map, IfOk, subst}
use Rattle.asl_model.specs.StandsFor.{place_within, listed, retrier_of, retriers_complaints}
use Rattle.asl_states.specs.Machine.{retrier_view}
use Rattle.asl_fields.specs.Verdicts.{IsVerdict}
use Rattle.asl_machine.proofs.trouble_reading.read_retry.Goals as goal

pub returns-clause-retriers : goal.returns-clause-retriers
returns-clause-retriers c = subst (λ vs. IfOk c.read_retriers.result (λ read. map retrier_view read.items ≡ map retrier_of (listed vs))) c.elements_of.ensures c.read_retriers.ensures.retriers

pub returns-clause-told : goal.returns-clause-told
returns-clause-told c = subst (λ vs. IsVerdict (retriers_complaints (place_within c.args.name.now (codes "Retry")) vs) c.read_retriers.result) c.elements_of.ensures c.read_retriers.ensures.told
