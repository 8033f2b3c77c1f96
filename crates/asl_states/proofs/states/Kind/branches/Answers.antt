use Rattle.std.proofs.Common.{sym, ap, ◌∙◌}
use Rattle.asl_model.specs.Certificate.{branches_in}
use Rattle.asl_states.specs.Machine.{kind_view}
use Rattle.asl_states.proofs.Branches.{one_each}
use Rattle.asl_states.proofs.states.Kind.branches.Goals as goal

pub returns-in-Parallel : goal.returns-in-Parallel
returns-in-Parallel c = record { count = c.len.ensures ∙ c.in-Parallel.branches.ok.0 ∙ sym (one_each c.in-Parallel.branches.items) ∙ ap (λ kind. branches_in (kind_view kind)) (sym c.in-Parallel.is) }
