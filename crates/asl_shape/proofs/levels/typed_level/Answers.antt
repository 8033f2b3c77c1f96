use Rattle.std.proofs.Common.{◌≡◌, true, not, map, refl, subst, ◌∙◌}
use Rattle.std.specs.List.{Contains}
use Rattle.asl_model.specs.ShapeSpelling as model
use Rattle.asl_shape.specs.Spelled as trees
use Rattle.asl_shape.specs.Spelled.{entries_view}
use Rattle.asl_shape.specs.declared.ShapeRefusal.TheVariants.{Keyword}
use Rattle.asl_shape.proofs.Telling.{told_left}
use Rattle.asl_shape.proofs.levels.typed_level.Goals as goal

pub returns-then-not-all_among-clause-refused : goal.returns-then-not-all_among-clause-refused
returns-then-not-all_among-clause-refused c =
    let fs = entries_view c.args.keywords.now.entries in
    let names = model.texts_among (trees.elements_view c.args.names.now) in
    let none : not c.all_among.result ≡ true = cc in
    let same : map (λ k. k.now) c.known_keywords.result.now ≡ model.keywords_of names = c.known_keywords.ensures ∙ rw (c.says-array.ensures, c.says-object.ensures) refl in
    told_left Keyword (model.foreign_faults model.Keyword (model.keywords_of names) fs) _ (record { listed = subst (λ ks. Contains (model.foreign_faults model.Keyword ks fs) model.Keyword) same (c.all_among.ensures.foreign none model.Keyword) })
