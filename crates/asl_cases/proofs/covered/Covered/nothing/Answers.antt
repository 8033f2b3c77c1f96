use Rattle.std.proofs.Common.{◌≡◌, length, map, false, refl, sym, ap, ◌∙◌, arith}
use Rattle.std.proofs.lemmas.List.{length-map}
use Rattle.asl_states.specs.Machine.{catcher_view, choice_rule_view, kind_view, retrier_view, settings_view}
use Rattle.asl_cases.specs.Coverage.{rules_of}
use Rattle.asl_cases.proofs.Noted.{none_noted}
use Rattle.asl_cases.proofs.Numbered.{none_set}
use Rattle.asl_cases.proofs.covered.Covered.nothing.Goals as goal

pub returns : goal.returns
returns c =
    let state = c.args.state.now in
    let rules = rules_of (kind_view state.kind) in
    let retriers = state.settings.retriers.items in
    let catchers = state.settings.catchers.items in
    let many : length c.rules_of.result.now ≡ length rules = sym (length-map c.rules_of.result.now choice_rule_view) ∙ ap length c.rules_of.ensures in
    let retrier_count : c.len.result ≡ length (map retrier_view retriers) = omega (arith, c.len.ensures, state.settings.retriers.ok.0, length-map retriers retrier_view) in
    let catcher_count : c.len-2.result ≡ length (map catcher_view catchers) = omega (arith, c.len-2.ensures, state.settings.catchers.ok.0, length-map catchers catcher_view) in
    none_noted
    (record {
      entered = false;
      rules = c.in_ok-vec.field-0.items;
      default = false;
      retriers = c.in_ok-vec-2.field-0.items;
      catchers = c.in_ok-vec-3.field-0.items;
    })
    (settings_view state.settings) (kind_view state.kind) refl
    (c.in_ok-vec.ensures.items_if_clones_equal (λ y h. h) ∙ none_set (length c.rules_of.result.now) rules many)
    refl
    (c.in_ok-vec-2.ensures.items_if_clones_equal (λ y h. h) ∙ none_set c.len.result (map retrier_view retriers) retrier_count)
    (c.in_ok-vec-3.ensures.items_if_clones_equal (λ y h. h) ∙ none_set c.len-2.result (map catcher_view catchers) catcher_count)
