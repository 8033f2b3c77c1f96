use Rattle.std.proofs.Common.{◌≡◌}
use Rattle.std.specs.List.{All}
use Rattle.asl_numbered.specs.Expansion.{Keeps}
use Rattle.asl_check.specs.Listing.{rules_view}
use Rattle.asl_check.specs.View.{IsLocated}
use Rattle.asl_check.proofs.Findings.{with_left}
use Rattle.asl_check.proofs.telling.tell_each.Given as goal

-- what is told so far and the rules that are left are all rules, each path is told right, and the shapes have kept their
-- numbers
abbrev pub invariant-loop-rule : goal.invariant-loop-rule
invariant-loop-rule l =
    let table = l.fn.shapes in
    record {
      keeps : Keeps table l.shapes;
      located : All IsLocated l.findings.items;
      told : with_left table l.rules l.findings.items l.rule-index ≡ rules_view table l.rules;
    }
