use Rattle.std.proofs.Common.{subst, sym}
use Rattle.serde_json.specs.View.{view}
use Rattle.asl_model.specs.StandsFor.{StandsFor}
use Rattle.asl_lint.proofs.reading.definition_of.Goals as goal

pub returns-in-Ok : goal.returns-in-Ok
returns-in-Ok c = λ text reads.
    let value = view c.args.value.now in
    record { value = value; reads = reads; stands = subst (StandsFor value) (sym c.in-Ok.ensures.scope) c.in-Ok.ensures.machine }
