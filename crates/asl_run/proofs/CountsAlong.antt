-- How many places of a run want an event, where a node is changed: along the place from the machine's own on.
use Rattle.std.proofs.Common.{◌≡◌, refl, sym, ap, ◌∙◌, subst, arith, ℕ, ◌+◌, false, List, [], ◌∷◌, Option, Some, None, option_and_then}
use Rattle.asl_model.specs.Run.{joining, set_child}
use Rattle.asl_model.proofs.RunOptions.{some_inj, none_some}
use Rattle.asl_tree.specs.View.{view}
use Rattle.asl_run.specs.Changing.{IsChangedAt}
use Rattle.asl_run.specs.Counting.{open_count}
use Rattle.asl_run.specs.Enabling.{has_ended}
use Rattle.asl_run.specs.Nodes.{child_number, in_table, number_from, shown_at, shown_from}
use Rattle.asl_run.specs.Standing.{children_of, name_in}
use Rattle.asl_run.specs.declared.nodes.Node.{Node}
use Rattle.asl_run.proofs.Above.{IsAbove, above_itself, place_above, up, up_add}
use Rattle.asl_run.proofs.ChangedTables.{child_shown, shown_on_the_way}
use Rattle.asl_run.proofs.OpenCounts.{own_count, split_changed, split_set}
use Rattle.asl_run.proofs.Tables.{IsChild, child_found}

-- node i goes on, and has d more places than before where it had c, whatever these numbers have in common
pub record IsCounted (names : List (List ℕ)) (before after : List Node) (c d i : ℕ) : Type 0 where
  pub same : open_count (shown_at names after i) + c ≡ open_count (shown_at names before i) + d
  pub went : has_ended (shown_at names before i) ≡ false
  pub goes : has_ended (shown_at names after i) ≡ false

above_above : (parents : ℕ → ℕ) (j q i : ℕ) → IsAbove parents j q → IsAbove parents q i → IsAbove parents j i
above_above parents j q i h g = record { levels = g.levels + h.levels; is = up_add parents g.levels h.levels j ∙ ap (up parents g.levels) h.is ∙ g.is }

-- as it is at a node above the changed one, so it is at the nodes above that
pub counted_along : (names : List (List ℕ)) (j : ℕ) (before after : List Node) (changed : IsChangedAt j before after) (c d q : ℕ) → IsAbove changed.table.parents j q → IsCounted names before after c d q
    → (place : List ℕ) (i : ℕ) → number_from before i place ≡ Some q → IsCounted names before after c d i
counted_along names j before after changed c d q above here [] i e = subst (IsCounted names before after c d) (sym (some_inj e)) here
counted_along names j before after changed c d q above here (k ∷ place) i e =
    by_child (child_number before i k) refl e (λ x f. counted_along names j before after changed c d q above here place x f)
  where
    through : (x : ℕ) → IsChild before i k x → IsAbove changed.table.parents j x → IsCounted names before after c d x → IsCounted names before after c d i
    through x child on_the_way inner =
        let visit = child.visit in
        let n = name_in names visit.state in
        let children = children_of (in_table (Some child.children) (shown_from names 0 before)) in
        let shown = shown_on_the_way names j before after changed i k x child on_the_way in
        let whole = split_set n (view visit.raw.value) visit.counts.items k children (shown_at names before x) (shown_at names after x) (child_shown names before changed.table i k x child) inner.went inner.goes in
        let was = ap open_count shown.0 in
        let now = ap open_count shown.1 in
        let same = inner.same in
        record { same = omega (arith, whole, was, now, same); went = ap has_ended shown.0; goes = ap has_ended shown.1 }

    by_child : (o : Option ℕ) → child_number before i k ≡ o → option_and_then (λ x. number_from before x place) o ≡ Some q → ((x : ℕ) → number_from before x place ≡ Some q → IsCounted names before after c d x)
        → IsCounted names before after c d i
    by_child None f g inner = none_some g
    by_child (Some x) f g inner = through x (child_found before i k x f) (above_above changed.table.parents j q x above (place_above before changed.table place x q g)) (inner x g)

-- whatever it is changed to, at its parent: that one's own place counts, too
pub counted_at_parent : (names : List (List ℕ)) (j : ℕ) (before after : List Node) (changed : IsChangedAt j before after) (q k : ℕ) (child : IsChild before q k j)
    → let children = children_of (in_table (Some child.children) (shown_from names 0 before)) in
    IsCounted names before after (open_count (shown_at names before j) + own_count (joining 0 children)) (open_count (shown_at names after j) + own_count (joining 0 (set_child k (shown_at names after j) children))) q
counted_at_parent names j before after changed q k child =
    let visit = child.visit in
    let n = name_in names visit.state in
    let children = children_of (in_table (Some child.children) (shown_from names 0 before)) in
    let shown = shown_on_the_way names j before after changed q k j child (above_itself changed.table.parents j) in
    let whole = split_changed n (view visit.raw.value) visit.counts.items k children (shown_at names before j) (shown_at names after j) (child_shown names before changed.table q k j child) in
    let was = ap open_count shown.0 in
    let now = ap open_count shown.1 in
    record { same = omega (arith, whole, was, now); went = ap has_ended shown.0; goes = ap has_ended shown.1 }
