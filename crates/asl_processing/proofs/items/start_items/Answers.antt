use Rattle.std.proofs.Common.{option_map}
use Rattle.asl_template.specs.View as templates
use Rattle.asl_tree.specs.View.{view}
use Rattle.asl_processing.proofs.Children.{one_begins, start_alike}
use Rattle.asl_processing.proofs.Inputs.{one_pushed, all_pushed}
use Rattle.asl_processing.proofs.items.start_items.Goals as goal

pub loop-index-preserved : goal.loop-index-preserved
loop-index-preserved c =
    let l = c.loop-index in
    record {
      done = one_pushed (option_map templates.view c.args.selector.now) (view c.args.input.now) c.args.items.now l.index c.index-items-index.result c.in_ok-own.own c.new.result l.children.items c.push.new.self.items c.loop-index-test.true c.index-items-index.is c.in_ok-own.ensures.gives c.new.ensures.given c.in_ok-push.ensures.items l.invariant.done;
      begin = one_begins c.args.start.now.number c.new.result l.children.items c.push.new.self.items c.in_ok-push.ensures.items c.new.ensures.begins l.invariant.begin;
    }

pub returns-clause-inputs : goal.returns-clause-inputs
returns-clause-inputs c =
    let l = c.loop-index in
    record {
      gives = all_pushed (option_map templates.view c.args.selector.now) (view c.args.input.now) c.args.items.now l.index l.children.items c.loop-index-test.false l.invariant.done;
      fails = λ fault e. absurd (cc);
    }

pub returns-clause-starts : goal.returns-clause-starts
returns-clause-starts c = λ names leads. start_alike names c.args.start.now c.loop-index.children.items c.loop-index.invariant.begin leads
