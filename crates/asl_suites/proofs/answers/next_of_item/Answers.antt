use Rattle.std.proofs.Common.{refl, arith}
use Rattle.asl_suites.specs.Scripts as model
use Rattle.asl_suites.specs.View.{script_view}
use Rattle.asl_suites.proofs.Items.{when_changed, unless_changed}
use Rattle.asl_suites.proofs.answers.next_of_item.Goals as goal

pub returns-in-Some-clause-left : goal.returns-in-Some-clause-left
returns-in-Some-clause-left c =
    let i = c.args.item in
    let xs = c.args.scripts.now.items in
    when_changed c.next.result script_view xs i c.in-Some.script.now c.next.new.self model.silent model.rest_of (omega (arith, c.args.scripts.now.ok.0, c.in-Some.ensures.variant.0 refl)) c.in-Some.ensures.value c.next.ensures.rest

pub returns-in-Some-clause-kept : goal.returns-in-Some-clause-kept
returns-in-Some-clause-kept c =
    let i = c.args.item in
    let xs = c.args.scripts.now.items in
    unless_changed c.next.result script_view xs i c.in-Some.script.now c.next.new.self (omega (arith, c.args.scripts.now.ok.0, c.in-Some.ensures.variant.0 refl)) c.in-Some.ensures.value c.next.ensures.kept
