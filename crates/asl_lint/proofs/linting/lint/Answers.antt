use Rattle.asl_lint.proofs.Promises.{alone, exactly, headline, otherwise}
use Rattle.asl_lint.proofs.linting.lint.Goals as goal

pub returns-clause-exactly : goal.returns-clause-exactly
returns-clause-exactly c = exactly c.args.max_rounds c.args.definition.text.now c.args.declared c.in_ok-diagnostics.diagnostics.items c.in_ok-diagnostics.ensures

pub returns-clause-headline : goal.returns-clause-headline
returns-clause-headline c =
    headline c.no_broken_rule_means_closed.ensures.closed (λ declared certificate machine. c.closed_runs_tell_no_fault.ensures declared certificate machine) (λ declared certificate machine. c.closed_runs_never_fault.ensures declared certificate machine)
    c.args.max_rounds c.args.definition.text.now c.args.declared c.in_ok-diagnostics.diagnostics.items c.in_ok-diagnostics.ensures

pub returns-clause-otherwise : goal.returns-clause-otherwise
returns-clause-otherwise c = otherwise c.args.max_rounds c.args.definition.text.now c.args.declared c.in_ok-diagnostics.diagnostics.items c.in_ok-diagnostics.ensures

pub returns-clause-alone : goal.returns-clause-alone
returns-clause-alone c = alone c.args.max_rounds c.args.definition.text.now c.args.declared c.in_ok-diagnostics.diagnostics.items c.in_ok-diagnostics.ensures
