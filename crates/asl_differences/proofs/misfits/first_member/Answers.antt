use Rattle.std.proofs.Common.{◌≡◌, option_map, string_bytes, sym, ap, ◌∙◌}
use Rattle.asl_model.specs.Path.{child}
use Rattle.asl_model.specs.Path as model
use Rattle.asl_model.specs.Tree.{Object}
use Rattle.asl_path.proofs.Nodes.{view_of_ref, view-lookup}
use Rattle.asl_tree.specs.View.{view, entries_view}
use Rattle.asl_differences.specs.Places.{told}
use Rattle.asl_differences.specs.declared.paths.Step.TheVariants.{Name}
use Rattle.asl_differences.proofs.Places.{part_there}
use Rattle.asl_differences.proofs.misfits.first_member.Goals as goal

pub returns-then-not-fits-clause-place : goal.returns-then-not-fits-clause-place
returns-then-not-fits-clause-place c =
    let es = c.args.members.now.entries in
    let n = string_bytes c.in-Some.name.now in
    let found = c.get-found.result in
    let there : child (model.Name c.deref.result.now) (Object (entries_view es)) ≡ told found =
    ap (λ k. child (model.Name k) (Object (entries_view es))) c.deref.ensures
    ∙ sym (view_of_ref found ∙ ap (option_map view) c.get-found.ensures.value ∙ view-lookup n es) in
    part_there (Object (entries_view es)) (Name c.deref.result) found c.part_at.result there c.part_at.ensures.place
