use Rattle.std.proofs.Common.{subst, sym}
use Rattle.asl_states.specs.Machine.{kind_view}
use Rattle.asl_processing.specs.Leading.{Leads}
use Rattle.asl_states.specs.Targets.{EachChoiceTarget, EachKindTarget}
use Rattle.asl_processing.proofs.working.work_of.Goals as goal

pub returns-in-Choice-clause-leads : goal.returns-in-Choice-clause-leads
returns-in-Choice-clause-leads c = λ names leads.
    let kind = subst (EachKindTarget (Leads names)) c.in-Choice.is leads.kind in
    c.choice.ensures.leads names (kind_view c.args.state.now.kind) (subst (EachChoiceTarget (Leads names)) (sym c.deref.ensures.value) kind.0) kind.1

pub returns-in-Wait-clause-leads : goal.returns-in-Wait-clause-leads
returns-in-Wait-clause-leads c = λ names leads. c.wait.ensures.leads names (kind_view c.args.state.now.kind) leads.settings
