use Rattle.std.proofs.Common.{Bor, Option, option_map, sym, ap, ◌∙◌, subst, IsTrue, ◌≡◌, true}
use Rattle.asl_model.specs.Certificate as model
use Rattle.asl_records.specs.View.{declared_view}
use Rattle.asl_records.specs.declared.records.Declared.{Declared}
use Rattle.asl_texts.specs.Runs.{fits_input, given_of, given_view}
use Rattle.asl_texts.specs.View.{run_end_view}
use Rattle.asl_texts.specs.declared.running.Traced.{Traced}
use Rattle.asl_texts.proofs.RunEnds.{Ran, not_run, run_so, shapes_seen}
use Rattle.asl_texts.proofs.running.run_given.Goals as goal

pub returns-then-not-fits_input : goal.returns-then-not-fits_input
returns-then-not-fits_input c =
    let seen = λ (d : Bor Declared). declared_view d.now in
    not_run (given_view c.args.given) (option_map seen c.as_ref.result) c.args.order c.args.max_steps c.new.result.items
    (shapes_seen c.as_ref.result c.args.given.declared c.as_ref.ensures.value) c.if-not-fits_input.ensures c.new.ensures.items

pub returns : goal.returns
returns c =
    let seen = λ (d : Bor Declared). declared_view d.now in
    let given = given_view c.args.given in
    let for_shapes = λ (s : Option model.Declared). given_of given.machine s given.input given.answers in
    let end = λ (told : Traced). run_end_view told.end in
    let text = λ (told : Traced). told.trace.items in
    let same = shapes_seen c.as_ref.result c.args.given.declared c.as_ref.ensures.value in
    let again = shapes_seen c.as_ref-2.result c.args.given.declared c.as_ref-2.ensures.value in
    let fits : fits_input given.shapes given.input ≡ true = sym (c.if-not-fits_input.ensures ∙ ap (λ s. fits_input s given.input) same) in
    let P : Option model.Declared → Type 0 = λ s. IsTrue (fits_input s given.input) → Ran end text c.run_with.result (for_shapes s) c.args.order c.args.max_steps in
    let run : P given.shapes = subst P again c.run_with.ensures in
    run_so end text c.run_with.result given c.args.order c.args.max_steps (run fits)
