use Rattle.std.proofs.Common.{option_map, sym, ap, ◌∙◌, subst}
use Rattle.asl_model.specs.Tree as model
use Rattle.asl_streams.specs.Shaped.{IsAround, others_view, properties_view}
use Rattle.asl_streams.proofs.SpelledShapes.{around_them, as_they_are}
use Rattle.asl_streams.proofs.spellings.Spelling.output.Goals as goal
use Rattle.asl_tree.specs.View.{view}
use Rattle.asl_tree.specs.declared.Tree as Tree
use Rattle.asl_tree.proofs.Wholes.{view_object}

pub returns-in_ok-number-in-Some-clause-output : goal.returns-in_ok-number-in-Some-clause-output
returns-in_ok-number-in-Some-clause-output c = λ given fields are.
    let self = c.args.self in
    let several = c.args.reader.several in
    let es = c.in-Some.properties.entries in
    let around = around_them several given c.args.shapes.now fields (others_view self) (properties_view self) es (ap (option_map (λ m. m.entries)) c.in-Some.is) are in
    let whole = subst (λ u. IsAround several given c.args.shapes.now fields u es) (sym (view_object self.others)) around in
    c.in_ok-number-in-Some.ensures.number given fields (subst (λ p. IsAround several given c.args.shapes.now fields (view (Tree.Object self.others)) p.entries) (sym c.in-Some.properties-is) whole)

pub returns-in-None-clause-output : goal.returns-in-None-clause-output
returns-in-None-clause-output c = λ given fields are.
    let self = c.args.self in
    view_object self.others ∙ ap model.Object (as_they_are c.args.reader.several given c.args.shapes.now fields (others_view self) (properties_view self) (ap (option_map (λ m. m.entries)) c.in-None.is) are)
