use Rattle.asl_run.specs.Entries.{event_view}
use Rattle.asl_run.specs.Running.{run_view, scope_of}
use Rattle.asl_run.proofs.StepsRun.{so_taken, so_refused, so_unchanged, so_no_place, so_not_enabled, so_enabled}
use Rattle.asl_run.proofs.running.Run.step.Goals as goal

pub returns-in-Ok-clause-taken : goal.returns-in-Ok-clause-taken
returns-in-Ok-clause-taken c =
    so_taken c.args.self.now.machine (scope_of c.args.self.now) (event_view c.args.event).place (run_view c.args.self.now) (run_view c.take.new.self) (event_view c.args.event).action c.take.result _ c.in-Ok.is c.stands.ensures.shown c.stands.ensures.stands c.take.ensures.steps

pub returns-clause-unchanged : goal.returns-clause-unchanged
returns-clause-unchanged c =
    so_unchanged c.args.self.now.machine (scope_of c.args.self.now) (event_view c.args.event).place (run_view c.args.self.now) (run_view c.take.new.self) (event_view c.args.event).action c.take.result c.in-Err.refusal c.in-Err.is c.stands.ensures.shown c.stands.ensures.stands c.take.ensures.steps

pub returns-clause-no_place : goal.returns-clause-no_place
returns-clause-no_place c =
    let place = (event_view c.args.event).place in
    let action = (event_view c.args.event).action in
    let before = run_view c.args.self.now in
    so_no_place c.in-Err.refusal place (scope_of c.args.self.now) before action (so_refused c.args.self.now.machine (scope_of c.args.self.now) place before (run_view c.take.new.self) action c.take.result c.in-Err.refusal c.in-Err.is c.stands.ensures.shown c.stands.ensures.stands c.take.ensures.steps)

pub returns-clause-not_enabled : goal.returns-clause-not_enabled
returns-clause-not_enabled c =
    let place = (event_view c.args.event).place in
    let action = (event_view c.args.event).action in
    let before = run_view c.args.self.now in
    so_not_enabled c.in-Err.refusal place (scope_of c.args.self.now) before action (so_refused c.args.self.now.machine (scope_of c.args.self.now) place before (run_view c.take.new.self) action c.take.result c.in-Err.refusal c.in-Err.is c.stands.ensures.shown c.stands.ensures.stands c.take.ensures.steps)

pub returns-clause-enabled : goal.returns-clause-enabled
returns-clause-enabled c =
    let place = (event_view c.args.event).place in
    let action = (event_view c.args.event).action in
    let before = run_view c.args.self.now in
    so_enabled c.in-Err.refusal place (scope_of c.args.self.now) before action (so_refused c.args.self.now.machine (scope_of c.args.self.now) place before (run_view c.take.new.self) action c.take.result c.in-Err.refusal c.in-Err.is c.stands.ensures.shown c.stands.ensures.stands c.take.ensures.steps)
