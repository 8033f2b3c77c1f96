use Rattle.std.proofs.Common.{[], ◌++◌, option_to_list, sym, subst}
use Rattle.asl_model.specs.Shape.{BooleanShape, IntegerShape, NullShape, StringShape}
use Rattle.asl_numbered.specs.TakenApart.{arrays_at, objects_at, arrays_part, objects_part, part_if, AreListed}
use Rattle.asl_numbered.proofs.Taking.{listed_none, listed_more, listed_kept, all_listed}
use Rattle.asl_numbered.proofs.kinds.put_parts.Goals as goal
use Rattle.asl_numbered.specs.Laws.{keeps_trans}

pub returns-clause-listed : goal.returns-clause-listed
returns-clause-listed c =
    let old = c.args.table.now in
    let arrays = arrays_part (arrays_at old c.args.kinds.arrays) in
    let objects = objects_part (objects_at old c.args.kinds.objects) in
    let none = subst (AreListed old []) (sym c.new-parts.ensures.items) (listed_none old) in
    let with_arrays = subst (AreListed old ([] ++ arrays)) (sym c.in_ok-push_number.ensures) (listed_more old [] arrays c.new-parts.result.items (option_to_list c.arrays_number-arrays.result) none c.arrays_number-arrays.ensures.listed) in
    let with_booleans = c.in_ok-push_if.ensures.listed ([] ++ arrays) with_arrays in
    let with_integers = c.in_ok-push_if-2.ensures.listed _ with_booleans in
    let with_null = c.in_ok-push_if-3.ensures.listed _ with_integers in
    let middle = c.push_if-3.new.table in
    let keeps = keeps_trans old c.push_if.new.table middle c.in_ok-push_if.ensures.keeps (keeps_trans c.push_if.new.table c.push_if-2.new.table middle c.in_ok-push_if-2.ensures.keeps c.in_ok-push_if-3.ensures.keeps) in
    let own = listed_kept old middle objects (option_to_list c.objects_number-objects.result) keeps c.objects_number-objects.ensures.listed in
    let with_objects = subst (AreListed middle _) (sym c.in_ok-push_number-2.ensures) (listed_more middle _ objects c.push_if-3.new.parts.items (option_to_list c.objects_number-objects.result) with_null own) in
    let kinds = c.args.kinds in
    all_listed _ arrays (part_if kinds.boolean BooleanShape) (part_if kinds.integer IntegerShape) (part_if kinds.null NullShape) objects (part_if kinds.text StringShape) _ (c.in_ok-push_if-4.ensures.listed _ with_objects)

pub returns-clause-keeps : goal.returns-clause-keeps
returns-clause-keeps c = keeps_trans _ _ _ (keeps_trans _ _ _ (keeps_trans _ _ _ c.in_ok-push_if.ensures.keeps c.in_ok-push_if-2.ensures.keeps) c.in_ok-push_if-3.ensures.keeps) c.in_ok-push_if-4.ensures.keeps
