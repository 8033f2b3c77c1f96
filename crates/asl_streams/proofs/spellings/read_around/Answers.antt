use Rattle.std.proofs.Common.{◌≡◌, None, Some, refl, subst}
use Rattle.asl_model.specs.Shape.{ObjectShape}
use Rattle.asl_model.specs.ShapeSpelling.{with_all_needed}
use Rattle.asl_shape.specs.LevelView.{level_view, object_view, texts}
use Rattle.asl_shape.specs.Level.{SpelledOver}
use Rattle.asl_shape.specs.declared.levels.Level.TheVariants.{Kinds}
use Rattle.asl_numbered.specs.Expansion.{fields_at, IsNumberOf}
use Rattle.asl_tree.specs.View.{view}
use Rattle.asl_streams.proofs.Emptied.{around_read}
use Rattle.asl_streams.proofs.spellings.read_around.Goals as goal

pub returns-in_ok-add_kinds-in-Ok-Kinds-default-default-default-default-None-Some-clause-number : goal.returns-in_ok-add_kinds-in-Ok-Kinds-default-default-default-default-None-Some-clause-number
returns-in_ok-add_kinds-in-Ok-Kinds-default-default-default-default-None-Some-clause-number c = λ given fields around.
    let k = c.in-Ok-Kinds-default-default-default-default-None-Some in
    let objects = c.in_ok-objects-in-Ok-Kinds-default-default-default-default-None-Some in
    let number = c.in_ok-add_kinds-in-Ok-Kinds-default-default-default-default-None-Some in
    let es = c.args.properties.entries in
    let is = subst (λ ns. IsNumberOf c.add_object.new.self (ObjectShape (with_all_needed k.object.extra (texts ns) (fields_at c.args.shapes.now es)) k.object.extra) objects.objects) c.deref.ensures.value objects.ensures.number in
    let first = k.field-0-is in
    let lists = k.field-0-4-is in
    let others = k.field-0-5-is in
    let whole : k.field-0 ≡ Kinds k.null k.boolean k.integer k.text None (Some k.object) = cc in
    let level = subst (λ l. SpelledOver c.args.reader.several (view c.args.tree.now) (level_view l)) whole k.ensures.level in
    around_read c.args.reader.several given fields (view c.args.tree.now) c.args.shapes.now c.add_object.new.self c.add_kinds.new.self es (object_view k.object)
    (record { null = k.null; boolean = k.boolean; integer = k.integer; text = k.text; arrays = None; objects = Some objects.objects }) objects.objects number.field-0 around refl refl level is number.ensures.number
