use Rattle.std.proofs.Common.{Ok, ap, sym, ◌∙◌}
use Rattle.asl_choice.specs.View.{kind_view}
use Rattle.asl_numbered.specs.Expansion.{shape_at}
use Rattle.asl_numbered.specs.Laws.{kept_within}
use Rattle.asl_shape_rules.proofs.TestedKinds.{never_tested}
use Rattle.asl_shape_rules.proofs.kind_tests.narrow_to_kind.Goals as goal

pub returns-then-not-is_inhabited-clause-as_defined : goal.returns-then-not-is_inhabited-clause-as_defined
returns-then-not-is_inhabited-clause-as_defined c =
    let s = shape_at c.args.shapes.now c.args.number in
    never_tested c.args.path.now (kind_view c.args.kind) c.args.wanted s (sym (sym c.is_inhabited.ensures.as_defined ∙ c.if-not-is_inhabited.true))
    ∙ ap Ok (sym c.in_ok-put_never.ensures.shown.same)

pub put_where_found-requires-clause-number : goal.put_where_found-requires-clause-number
put_where_found-requires-clause-number c =
    kept_within c.args.shapes.now c.keep_by_kind.new.shapes c.args.number c.in_ok-narrowed-in-Ok.ensures.keeps c.requires.number
