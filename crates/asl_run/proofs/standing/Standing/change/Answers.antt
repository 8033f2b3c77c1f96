use Rattle.std.proofs.Common.{◌≡◌, List, [], slice_get, Some, arith, subst, sym, rules}
use Rattle.asl_run.specs.Changing.{CanApply}
use Rattle.asl_run.specs.Counting.{IsKept, own_count_of}
use Rattle.asl_run.specs.declared.nodes.Node.{Node}
use Rattle.asl_run.specs.declared.standing.Progress.{Progress}
use Rattle.asl_run.proofs.Kept.{kept_alike}
use Rattle.asl_run.proofs.KeptRuns.{begun_made, can_pass, changes_made, closed_before, kept_after, opened_fits}
use Rattle.asl_run.proofs.standing.Standing.change.Goals as goal

pub change-requires-clause-rises : goal.change-requires-clause-rises
change-requires-clause-rises c = subst (λ (l : List Node). (node : Node) → slice_get l c.args.number.0 ≡ Some node → CanApply node c.args.change) (sym c.self.view_is) c.requires.rises

pub count_places-requires-clause-few : goal.count_places-requires-clause-few
count_places-requires-clause-few c = λ names.
    let closed = closed_before c.args.self.now c.self.inside.nodes c.self.inside.progress.items c.self.inside.open_count c.args.place.now c.args.number.0 c.parent_of-parent.result c.self.view_is c.self.invariant c.requires.at c.parent_of-parent.ensures names in
    omega (arith, closed, c.self.ranges)

pub overflow_add-closed : goal.overflow_add-closed
overflow_add-closed c =
    let closed = closed_before c.args.self.now c.self.inside.nodes c.self.inside.progress.items c.self.inside.open_count c.args.place.now c.args.number.0 c.parent_of-parent.result c.self.view_is c.self.invariant c.requires.at c.parent_of-parent.ensures [] in
    let own : c.own_place.result ≡ own_count_of c.self.inside.progress.items c.parent_of-parent.result = search rules in
    omega (arith, closed, c.self.ranges, c.count_places.ensures [], own)

pub invariant_of-self-in_err-change : goal.invariant_of-self-in_err-change
invariant_of-self-in_err-change c =
    kept_alike c.self.inside.nodes c.change.new.self c.reserve.new.self.items c.self.inside.open_count c.in_err-change.ensures.alike
    (subst (λ (l : List Progress). IsKept c.self.inside.nodes l c.self.inside.open_count) (sym c.in_ok-reserve.ensures.items) c.self.invariant)

pub note_end-requires : goal.note_end-requires
note_end-requires c =
    let changes = changes_made c.args.self.now c.self.inside.nodes c.change.new.self c.self.inside.progress.items c.self.inside.open_count c.args.place.now c.args.number.0 c.parent_of-parent.result c.args.change c.self.view_is c.self.invariant c.requires.at c.parent_of-parent.ensures c.requires.wanted c.in_ok-change.ensures.changed in
    can_pass c.self.inside.nodes c.change.new.self c.self.inside.progress.items c.note_children.new.progress.items c.self.inside.open_count c.args.place.now c.args.number.0 c.parent_of-parent.result c.args.change changes
    (begun_made c.args.number.0 c.children-added.result _ c.self.inside.progress.items c.reserve.new.self.items c.note_children.new.progress.items c.in_ok-reserve.ensures.items c.children-added.ensures c.note_children.ensures)

pub count_places-requires-2-clause-few : goal.count_places-requires-2-clause-few
count_places-requires-2-clause-few c = λ names.
    let changes = changes_made c.args.self.now c.self.inside.nodes c.change.new.self c.self.inside.progress.items c.self.inside.open_count c.args.place.now c.args.number.0 c.parent_of-parent.result c.args.change c.self.view_is c.self.invariant c.requires.at c.parent_of-parent.ensures c.requires.wanted c.in_ok-change.ensures.changed in
    let begun = begun_made c.args.number.0 c.children-added.result _ c.self.inside.progress.items c.reserve.new.self.items c.note_children.new.progress.items c.in_ok-reserve.ensures.items c.children-added.ensures c.note_children.ensures in
    let fits = opened_fits c.self.inside.nodes c.change.new.self c.self.inside.progress.items c.note_children.new.progress.items c.note_end.new.progress.items c.self.inside.open_count c.args.place.now c.args.number.0 c.parent_of-parent.result c.args.change (record { changes = changes; begins = begun; passes = c.note_end.ensures }) names in
    omega (arith, fits, c.in_ok-change.ensures.few)

pub overflow_add-opened : goal.overflow_add-opened
overflow_add-opened c =
    let changes = changes_made c.args.self.now c.self.inside.nodes c.change.new.self c.self.inside.progress.items c.self.inside.open_count c.args.place.now c.args.number.0 c.parent_of-parent.result c.args.change c.self.view_is c.self.invariant c.requires.at c.parent_of-parent.ensures c.requires.wanted c.in_ok-change.ensures.changed in
    let begun = begun_made c.args.number.0 c.children-added.result _ c.self.inside.progress.items c.reserve.new.self.items c.note_children.new.progress.items c.in_ok-reserve.ensures.items c.children-added.ensures c.note_children.ensures in
    let fits = opened_fits c.self.inside.nodes c.change.new.self c.self.inside.progress.items c.note_children.new.progress.items c.note_end.new.progress.items c.self.inside.open_count c.args.place.now c.args.number.0 c.parent_of-parent.result c.args.change (record { changes = changes; begins = begun; passes = c.note_end.ensures }) [] in
    let own : c.own_place-2.result ≡ own_count_of c.note_end.new.progress.items c.parent_of-parent.result = search rules in
    omega (arith, fits, c.in_ok-change.ensures.few, c.count_places-2.ensures [], own)

pub overflow_sub-self : goal.overflow_sub-self
overflow_sub-self c =
    let closed = closed_before c.args.self.now c.self.inside.nodes c.self.inside.progress.items c.self.inside.open_count c.args.place.now c.args.number.0 c.parent_of-parent.result c.self.view_is c.self.invariant c.requires.at c.parent_of-parent.ensures [] in
    let own : c.own_place.result ≡ own_count_of c.self.inside.progress.items c.parent_of-parent.result = search rules in
    omega (arith, closed, c.count_places.ensures [], own)

pub overflow_add-self : goal.overflow_add-self
overflow_add-self c =
    let changes = changes_made c.args.self.now c.self.inside.nodes c.change.new.self c.self.inside.progress.items c.self.inside.open_count c.args.place.now c.args.number.0 c.parent_of-parent.result c.args.change c.self.view_is c.self.invariant c.requires.at c.parent_of-parent.ensures c.requires.wanted c.in_ok-change.ensures.changed in
    let begun = begun_made c.args.number.0 c.children-added.result _ c.self.inside.progress.items c.reserve.new.self.items c.note_children.new.progress.items c.in_ok-reserve.ensures.items c.children-added.ensures c.note_children.ensures in
    let own : c.own_place.result ≡ own_count_of c.self.inside.progress.items c.parent_of-parent.result = search rules in
    let again : c.own_place-2.result ≡ own_count_of c.note_end.new.progress.items c.parent_of-parent.result = search rules in
    let kept = kept_after c.self.inside.nodes c.change.new.self c.self.inside.progress.items c.note_children.new.progress.items c.note_end.new.progress.items c.self.inside.open_count c.args.place.now c.args.number.0 c.parent_of-parent.result c.args.change (record { changes = changes; begins = begun; passes = c.note_end.ensures })
    c.count_places.result c.own_place.result c.count_places-2.result c.own_place-2.result c.count_places.ensures own c.count_places-2.ensures again in
    omega (arith, kept.few, c.in_ok-change.ensures.few)

pub invariant_of-self-2 : goal.invariant_of-self-2
invariant_of-self-2 c =
    let changes = changes_made c.args.self.now c.self.inside.nodes c.change.new.self c.self.inside.progress.items c.self.inside.open_count c.args.place.now c.args.number.0 c.parent_of-parent.result c.args.change c.self.view_is c.self.invariant c.requires.at c.parent_of-parent.ensures c.requires.wanted c.in_ok-change.ensures.changed in
    let begun = begun_made c.args.number.0 c.children-added.result _ c.self.inside.progress.items c.reserve.new.self.items c.note_children.new.progress.items c.in_ok-reserve.ensures.items c.children-added.ensures c.note_children.ensures in
    let own : c.own_place.result ≡ own_count_of c.self.inside.progress.items c.parent_of-parent.result = search rules in
    let again : c.own_place-2.result ≡ own_count_of c.note_end.new.progress.items c.parent_of-parent.result = search rules in
    kept_after c.self.inside.nodes c.change.new.self c.self.inside.progress.items c.note_children.new.progress.items c.note_end.new.progress.items c.self.inside.open_count c.args.place.now c.args.number.0 c.parent_of-parent.result c.args.change (record { changes = changes; begins = begun; passes = c.note_end.ensures })
    c.count_places.result c.own_place.result c.count_places-2.result c.own_place-2.result c.count_places.ensures own c.count_places-2.ensures again
