use Rattle.std.proofs.Common.{◌∙◌, ap, arith}
use Rattle.asl_model.specs.Tree.{Object}
use Rattle.asl_tree.proofs.Wholes.{view_object}
use Rattle.asl_numbered.specs.Expansion.{numbers_in}
use Rattle.asl_numbered.specs.Outside.{needed_of}
use Rattle.asl_numbered.proofs.Stepping.{below_len, field_set}
use Rattle.asl_numbered.proofs.outside.build_with.Goals as goal

pub build_needed-requires-clause-within : goal.build_needed-requires-clause-within
build_needed-requires-clause-within c = omega (arith, c.len.ensures)

pub build_needed-requires-clause-below : goal.build_needed-requires-clause-below
build_needed-requires-clause-below c = below_len c.args.table.now c.len.result (numbers_in c.args.fields.now.entries) c.len.ensures c.requires

pub returns : goal.returns
returns c =
    view_object c.insert.new.self
    ∙ ap Object (field_set c.args.name.now c.in_ok-from_str.field-0 c.args.inside (needed_of c.args.table.now c.args.fields.now.entries) c.in_ok-built.built.entries c.insert.new.self.entries c.in_ok-built.ensures.built c.in_ok-from_str.ensures.ok c.in_ok-insert.ensures.entries)
