use Rattle.std.proofs.Common.{◌≡◌, ◌+◌, ◌++◌, ◌∷◌, length, map, option_map, option_to_list, sym, ap, ◌∙◌, arith}
use Rattle.std.proofs.lemmas.Result.{IfOk-equal}
use Rattle.asl_states.specs.Machine.{catcher_view, choice_rule_view, kind_view, retrier_view}
use Rattle.asl_cases.specs.Coverage.{Itself, RuleAt, ByDefault, RetrierAt, CatcherAt, by_number, default_of, retriers_in, rules_of, untaken}
use Rattle.asl_cases.proofs.Lacks.{parts_counted}
use Rattle.asl_cases.proofs.Numbered.{by_number_seen}
use Rattle.asl_cases.proofs.lacking.push_parts.Goals as goal

pub returns : goal.returns
returns c = λ taken is entered.
    let kind = kind_view c.args.state.now.kind in
    let retriers = c.args.state.now.settings.retriers.items in
    let catchers = c.args.state.now.settings.catchers.items in
    let rule_parts = by_number (λ i. RuleAt i) (rules_of kind) in
    let default_parts = option_to_list (option_map (λ next. ByDefault) (default_of kind)) in
    let retrier_parts = retriers_in (map retrier_view retriers) in
    let catcher_parts = by_number (λ i. CatcherAt i) (map catcher_view catchers) in
    let rule_flags = c.deref.ensures.value
    ∙ (ap (λ f. f.rules) is
    ∙ (ap (by_number (λ i. taken (RuleAt i))) (sym c.rules_of.ensures)
    ∙ by_number_seen (λ i. taken (RuleAt i)) choice_rule_view c.rules_of.result.now)) in
    let same_rules = sym (by_number_seen (λ i. RuleAt i) choice_rule_view c.rules_of.result.now)
    ∙ ap (by_number (λ i. RuleAt i)) c.rules_of.ensures in
    let by_rules : length c.push_rules.new.lines.items ≡ length c.args.lines.now.items + length (untaken taken rule_parts) =
    c.in_ok-push_rules.ensures taken rule_flags
    ∙ ap (λ parts. length c.args.lines.now.items + length (untaken taken parts)) same_rules in
    let by_default : length c.push_default.new.lines.items ≡ length c.push_rules.new.lines.items + length (untaken taken default_parts) =
    c.in_ok-push_default.ensures taken (ap (λ f. f.default) is) in
    let retrier_flags = c.deref-3.ensures.value
    ∙ (ap (λ f. f.retriers) is
    ∙ (by_number_seen (λ i. taken (RetrierAt i)) retrier_view retriers
    ∙ ap (by_number (λ i. taken (RetrierAt i))) (sym c.deref-2.ensures.value))) in
    let by_retriers : length c.push_retriers.new.lines.items ≡ length c.push_default.new.lines.items + length (untaken taken retrier_parts) =
    c.in_ok-push_retriers.ensures taken retrier_flags
    ∙ ap (λ given. length c.push_default.new.lines.items + length (untaken taken (retriers_in (map retrier_view given)))) c.deref-2.ensures.value in
    let catcher_flags = c.deref-5.ensures.value
    ∙ (ap (λ f. f.catchers) is
    ∙ (by_number_seen (λ i. taken (CatcherAt i)) catcher_view catchers
    ∙ ap (by_number (λ i. taken (CatcherAt i))) (sym c.deref-4.ensures.value))) in
    let same_catchers = ap (by_number (λ i. CatcherAt i)) c.deref-4.ensures.value
    ∙ sym (by_number_seen (λ i. CatcherAt i) catcher_view catchers) in
    let by_catchers = ap (λ parts. length (untaken taken parts)) same_catchers in
    let all = parts_counted taken rule_parts default_parts retrier_parts catcher_parts (sym (ap (λ f. f.entered) is) ∙ entered) in
    IfOk-equal c.push_catchers.result (length c.push_catchers.new.lines.items)
    (length c.push_retriers.new.lines.items + length (untaken taken (by_number (λ i. CatcherAt i) c.deref-4.result.now)))
    (length c.args.lines.now.items + length (untaken taken (Itself ∷ (rule_parts ++ (default_parts ++ (retrier_parts ++ catcher_parts))))))
    (c.push_catchers.ensures taken catcher_flags) (omega arith)
