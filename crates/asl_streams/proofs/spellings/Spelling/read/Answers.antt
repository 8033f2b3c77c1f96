use Rattle.std.proofs.Common.{option_map, ap, ◌∙◌, subst}
use Rattle.std.proofs.lemmas.Result.{IfOk-weaker}
use Rattle.asl_model.specs.Tree as model
use Rattle.asl_numbered.specs.Reading.{IsRead}
use Rattle.asl_numbered.specs.References.{shapes_given}
use Rattle.asl_streams.specs.Shaped.{others_view, properties_view}
use Rattle.asl_streams.proofs.SpelledShapes.{as_they_are}
use Rattle.asl_streams.proofs.spellings.Spelling.read.Goals as goal
use Rattle.asl_tree.proofs.Wholes.{view_object}

pub returns-clause-number : goal.returns-clause-number
returns-clause-number c = λ fields are.
    let self = c.args.self in
    let several = c.args.reader.several in
    let given = shapes_given c.args.shapes.now c.args.reader.listed in
    let same = view_object self.others ∙ ap model.Object (as_they_are several given c.args.shapes.now fields (others_view self) (properties_view self) (ap (option_map (λ m. m.entries)) c.in-None.is) are) in
    IfOk-weaker c.read_tree.result _ _ (λ n read. subst (λ u. IsRead several given u c.read_tree.new.shapes n) same read) c.read_tree.ensures.number
