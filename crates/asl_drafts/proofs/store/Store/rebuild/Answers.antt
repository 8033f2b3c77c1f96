use Rattle.std.proofs.Common.{◌≡◌, length, map, IfOk, refl, ap, ◌∙◌, subst}
use Rattle.asl_numbered.specs.Expansion.{shape_at, Shows}
use Rattle.asl_numbered.specs.declared.kinds.KindNumbers.{KindNumbers}
use Rattle.asl_numbered.specs.TakenApart.{kinds_over}
use Rattle.asl_numbered.specs.Laws.{below-wider, keeps_longer}
use Rattle.asl_drafts.specs.Parts.{with_parts}
use Rattle.asl_drafts.proofs.Rebuilt.{kinds_put, parts_as_many}
use Rattle.asl_drafts.proofs.store.Store.rebuild.Goals as goal

pub rebuild_kinds-requires : goal.rebuild_kinds-requires
rebuild_kinds-requires c =
    parts_as_many c.self.inside.shapes c.args.number c.in-Some.kinds (length c.args.parts.now) c.in-Some.ensures.shown (rw (← c.self.view_is) at c.requires.counted)

pub put_level-requires : goal.put_level-requires
put_level-requires c = c.in_ok-built.ensures.arrays _ c.requires.below

pub put_level-requires-2 : goal.put_level-requires-2
put_level-requires-2 c =
    let old = c.args.self.now in
    let new = c.put_level.new.self in
    c.in_ok-built.ensures.objects _ (below-wider (length old) (length new) c.args.parts.now (keeps_longer old new c.in_ok-arrays.ensures.keeps) c.requires.below)

pub returns-clause-rebuilt : goal.returns-clause-rebuilt
returns-clause-rebuilt c =
    let old = c.args.self.now in
    let between = c.put_level.new.self in
    let new = c.put_level-2.new.self in
    let table = old in
    let kinds = c.in-Some.kinds in
    let put : KindNumbers = record { null = kinds.null; boolean = kinds.boolean; integer = kinds.integer; text = kinds.text; arrays = c.in_ok-arrays.arrays; objects = c.in_ok-objects.objects } in
    let parts = map (shape_at table) c.args.parts.now in
    let shown : kinds_over table kinds ≡ shape_at table c.args.number = rw (← c.self.view_is) c.in-Some.ensures.shown in
    let both = kinds_put old between new kinds c.in_ok-built.built put c.in_ok-arrays.ensures.keeps c.in_ok-objects.ensures.keeps (c.in_ok-built.ensures.objects _ c.requires.below) c.in_ok-arrays.ensures.number c.in_ok-objects.ensures.number refl refl refl refl in
    let whole = both ∙ c.in_ok-built.ensures.shape table ∙ ap (λ s. with_parts s parts) shown in
    subst (λ s. IfOk c.put_kinds.result (Shows c.put_kinds.new.self s)) whole c.put_kinds.ensures.number
