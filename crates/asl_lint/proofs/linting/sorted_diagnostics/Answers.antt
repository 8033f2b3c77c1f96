use Rattle.std.proofs.Common.{map, subst}
use Rattle.std.specs.List.Sorted.{IsPermutation}
use Rattle.std.proofs.lemmas.List.Sorted.{IsPermutation-map}
use Rattle.asl_lint.specs.Tells.{TellsOfTexts}
use Rattle.asl_problems.specs.Told.{errors_of, told_by, told_of}
use Rattle.asl_lint.proofs.linting.sorted_diagnostics.Goals as goal

pub returns : goal.returns
returns c =
    let problems = c.in_ok-problems.problems.items in
    let before = c.in_ok-diagnostics.diagnostics.items in
    let after = c.sort.new.diagnostics.items in
    record {
      all = map told_by problems;
      errors = subst (λ text. TellsOfTexts c.args.max_rounds c.args.definition.text.now text (errors_of problems)) c.text_of.ensures c.in_ok-problems.ensures;
      each = subst (λ ts. IsPermutation ts (map told_of after)) c.in_ok-diagnostics.ensures (IsPermutation-map told_of before after c.in_ok-sort.ensures.same);
    }
