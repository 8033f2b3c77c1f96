use Rattle.std.proofs.lemmas.Result.{IfOk-weaker}
use Rattle.asl_shape.specs.LevelView.{texts}
use Rattle.asl_model.specs.ShapeSpelling.{with_all_needed}
use Rattle.asl_numbered.specs.Expansion.{fields_at}
use Rattle.asl_numbered.proofs.Readings.{object_put, object_refers}
use Rattle.asl_numbered.proofs.reading.put_object.Goals as goal

pub put-requires-clause-refers : goal.put-requires-clause-refers
put-requires-clause-refers c = object_refers _ _ c.require_all.new.fields c.args.extra c.in_ok-require_all.ensures.needed

pub returns-clause-number : goal.returns-clause-number
returns-clause-number c =
    IfOk-weaker c.put.result _ _ (λ n is. object_put (with_all_needed c.args.extra (texts c.args.needed.now) (fields_at c.args.table.now c.args.fields.entries)) _ _ c.require_all.new.fields c.args.extra n c.in_ok-require_all.ensures.needed is) c.put.ensures.number
