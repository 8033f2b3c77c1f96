use Rattle.std.proofs.Common.{◌≡◌, ◌↔◌, sym, ap, ◌∙◌, subst, All, IfOk, IfSome, None, map, option_map, string_bytes}
use Rattle.asl_run.specs.Entries.{entry_view, outcome_view}
use Rattle.asl_cases.specs.Judging.{AreAsked, path_of}
use Rattle.asl_cases.proofs.judging.difference.Goals as goal
use Rattle.asl_cases.proofs.Passing.{end_of, ended_so, no_pass, whole_told}

pub returns-in_default : goal.returns-in_default
returns-in_default c =
    let none = sym (ap (option_map (λ outcome. outcome_view outcome.now)) c.in_default.is) ∙ c.outcome.ensures in
    record { passed = (λ e. absurd (cc), λ passed. absurd (no_pass c.args.expected.now (map entry_view c.args.played.now.trace.items) none passed)) }

pub returns-in-Some-2 : goal.returns-in-Some-2
returns-in-Some-2 c =
    let right = end_of c.args.expected.now (map entry_view c.args.played.now.trace.items) (outcome_view c.in-Some.outcome.now) c.in-Some.ensures in
    record { passed = (λ e. absurd (cc), λ passed. sym c.in-Some-2.is ∙ c.in_ok-words.ensures.1 (right passed)) }

pub returns : goal.returns
returns c =
    let expected = c.args.expected.now in
    let told = map entry_view c.args.played.now.trace.items in
    let outcome = outcome_view c.in-Some.outcome.now in
    let path = subst (λ trace. IfSome expected.path (λ path. path_of (map entry_view trace) ≡ map string_bytes path.items)) c.deref-2.ensures.value (c.in_ok-words-2.ensures.0 c.in_default-3.is) in
    let last = subst (λ payloads. IfOk c.difference_of_payloads.result (λ words. words ≡ None ↔ All (AreAsked (map entry_view c.deref-4.result.now)) payloads)) c.deref-3.ensures.value c.difference_of_payloads.ensures in
    let last = subst (λ trace. IfOk c.difference_of_payloads.result (λ words. words ≡ None ↔ All (AreAsked (map entry_view trace)) expected.payloads.items)) c.deref-4.ensures.value last in
    record {
      passed = whole_told c.difference_of_payloads.result last
          (λ payloads. record { outcome = outcome; ended = ended_so told outcome c.in-Some.ensures; end = c.in_ok-words.ensures.0 c.in_default-2.is; path = path; payloads = payloads })
          (λ passed. passed.payloads);
    }
