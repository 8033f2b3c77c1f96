use Rattle.std.proofs.Common.{◌≡◌, ◌<◌, List, length, slice_get, Some, sym, subst}
use Rattle.asl_run.specs.Changing.{CanApply}
use Rattle.asl_run.specs.declared.nodes.Node.{Node}
use Rattle.asl_run.proofs.WrittenTables.{alike_where_err, applied_where_ok, same_where_err, table_kept}
use Rattle.asl_run.proofs.nodes.Nodes.change.Goals as goal

pub apply-requires-clause-rises : goal.apply-requires-clause-rises
apply-requires-clause-rises c = subst (λ (l : List Node). (node : Node) → slice_get l c.args.number.0 ≡ Some node → CanApply node c.args.change) (sym c.self.view_is) c.requires.rises

pub invariant_of-self : goal.invariant_of-self
invariant_of-self c =
    table_kept c.apply.result c.args.number.0 c.self.inside.nodes.items c.args.change c.apply.new.nodes.items c.self.invariant (subst (λ (l : List Node). c.args.number.0 < length l) (sym c.self.view_is) c.requires.within) c.apply.ensures.changed c.apply.ensures.unchanged

pub returns-clause-changed : goal.returns-clause-changed
returns-clause-changed c =
    applied_where_ok c.apply.result c.args.number.0 c.self.inside.nodes.items c.args.self.now c.args.change c.apply.new.nodes.items c.self.view_is c.self.invariant (subst (λ (l : List Node). c.args.number.0 < length l) (sym c.self.view_is) c.requires.within) c.apply.ensures.changed

pub returns-clause-unchanged : goal.returns-clause-unchanged
returns-clause-unchanged c = same_where_err c.apply.result c.self.inside.nodes.items c.args.self.now c.apply.new.nodes.items c.self.view_is c.apply.ensures.unchanged

pub returns-clause-alike : goal.returns-clause-alike
returns-clause-alike c = alike_where_err c.apply.result c.self.inside.nodes.items c.args.self.now c.apply.new.nodes.items c.self.view_is c.apply.ensures.unchanged
