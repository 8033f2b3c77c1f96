use Rattle.std.proofs.Common.{ℕ, Global, Vec, ap, ◌∙◌}
use Rattle.asl_records.specs.View.{declared_view}
use Rattle.asl_machine_table.specs.Table.{table_view}
use Rattle.asl_infer.proofs.CalmStates.{first-calm}
use Rattle.asl_infer.proofs.Declared.{given_of_kept}
use Rattle.asl_infer.proofs.inferring.begin.Goals as goal

pub returns-clause-given : goal.returns-clause-given
returns-clause-given c = given_of_kept c.args.machine.now c.args.declared.now c.args.strictness _ c.in_ok-draft.draft.store c.in_ok-given.given c.in_ok-draft.ensures.keeps c.in_ok-given.ensures.given

pub returns-clause-calm : goal.returns-clause-calm
returns-clause-calm c = first-calm (table_view c.args.machine.now) (declared_view c.args.declared.now) _ c.states.result c.in_ok-waiting.ensures.waits c.states.ensures.number (record { ordered = λ distinct. ap (λ (v : Vec ℕ Global). v.items) c.in_ok-waiting.ensures.order ∙ c.requires.ordered distinct })
