use Rattle.std.proofs.Common.{sym, ap, ◌∙◌, ◌++◌, option_and_then}
use Rattle.asl_model.specs.CallSpelling.{behind}
use Rattle.asl_model.specs.RuleSpelling.{relation_named}
use Rattle.asl_choice.proofs.Names.{behind_found, behind_none}
use Rattle.asl_choice.proofs.operators.relation_behind.Goals as goal

pub returns-in-Some : goal.returns-in-Some
returns-in-Some c =
    let found = c.in-Some.ensures.cases in
    c.relation_named.ensures ∙ ap (option_and_then relation_named) (sym (ap (behind c.args.front.now) (found.1.1 ∙ ap (λ rest. c.args.front.now ++ rest) (sym found.2)) ∙ behind_found c.args.front.now c.in-Some.relation.now))

pub returns-in-None : goal.returns-in-None
returns-in-None c = sym (ap (option_and_then relation_named) (behind_none c.args.front.now c.args.name.now c.in-None.ensures.cases))
