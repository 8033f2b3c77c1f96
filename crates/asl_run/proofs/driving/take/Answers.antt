use Rattle.std.proofs.Common.{◌<◌, length, arith}
use Rattle.asl_run.specs.Entries.{event_view}
use Rattle.asl_run.specs.Running.{run_view, scope_of}
use Rattle.asl_run.proofs.Driven.{few_are_told}
use Rattle.asl_run.proofs.driving.take.Goals as goal
use Rattle.asl_run.proofs.driving.take.Goals.{In-Err-append}

-- there is room for the entries of a step
has_room : (c : In-Err-append) → ⊥
has_room c =
    let entries = c.in-Ok-step.entries in
    let many : 4 < length entries.items = omega (arith, entries.ok.0, c.in-Ok.ensures.ok, c.in-Err-append.ensures.full) in
    few_are_told (scope_of c.args.run.now) (run_view c.args.run.now) (run_view c.step.new.self) (event_view c.args.event) entries.items c.in-Ok-step.ensures.taken many

pub returns-in-Ok-step-clause-stays : goal.returns-in-Ok-step-clause-stays
returns-in-Ok-step-clause-stays c = absurd (has_room (goal.at.returns-in-Ok-step-clause-stays c).In-Err-append)

pub returns-in-Ok-step-clause-returned : goal.returns-in-Ok-step-clause-returned
returns-in-Ok-step-clause-returned c = absurd (has_room (goal.at.returns-in-Ok-step-clause-returned c).In-Err-append)
