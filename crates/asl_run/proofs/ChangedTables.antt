-- A change at one node changes what is shown at its place alone.
use Rattle.std.proofs.Common.{◌≡◌, ◌≢◌, ◌<◌, ◌≤◌, refl, sym, ap, ◌∙◌, subst, arith, ℕ, zero, suc, ◌+◌, List, length, drop, slice_get, slice_set, Option, Some, None}
use Rattle.asl_model.specs.Run as model
use Rattle.asl_model.specs.Run.{child_at, set_child}
use Rattle.asl_run.specs.Changing.{IsChangedAt}
use Rattle.asl_run.specs.Nodes.{IsTable, in_table, range_of, shown_at, shown_from, shown_over}
use Rattle.asl_run.specs.Standing.{children_of}
use Rattle.asl_run.specs.declared.nodes.Children.{Children}
use Rattle.asl_run.specs.declared.nodes.Node.{Node}
use Rattle.asl_run.specs.declared.nodes.Node.TheVariants.{Split}
use Rattle.asl_run.proofs.Above.{IsAbove, above_itself, above_lower, one_above, parent_above}
use Rattle.asl_run.proofs.Parts.{there, get_drop, in_part, same_front, front_but_one}
use Rattle.asl_run.proofs.Tables.{IsChild, child_of, child_within, set_of, shown_here, shown_there, some_shown}

-- what stands elsewhere is shown as before
pub same_elsewhere : (names : List (List ℕ)) (j : ℕ) (before after : List Node) (changed : IsChangedAt j before after) (fuel i : ℕ) → length before ≤ i + fuel → i < length before → (IsAbove changed.table.parents j i → ⊥)
    → slice_get (shown_from names 0 after) i ≡ slice_get (shown_from names 0 before) i
same_elsewhere names j before after changed zero i enough within elsewhere = absurd (omega arith)
same_elsewhere names j before after changed (suc fuel) i enough within elsewhere =
    let found = there before i within in
    let node = found.0 in
    let now : slice_get after i ≡ Some node = changed.others i within (λ e. elsewhere (subst (IsAbove changed.table.parents j) (sym e) (above_itself changed.table.parents j))) ∙ found.1 in
    shown_there names after changed.still i node now
    ∙ ap (λ xs. Some (shown_over names (children_of xs) node)) (below node found.1 (λ k range less. same_elsewhere names j before after changed fuel k (omega (arith, range, less, enough)) less))
    ∙ sym (shown_there names before changed.table i node found.1)
  where
    parents : ℕ → ℕ
    parents = changed.table.parents

    below : (node : Node) → slice_get before i ≡ Some node → ((k : ℕ) → i < k → k < length before → (IsAbove parents j k → ⊥) → slice_get (shown_from names 0 after) k ≡ slice_get (shown_from names 0 before) k)
        → in_table (range_of node) (shown_from names 0 after) ≡ in_table (range_of node) (shown_from names 0 before)
    below node e rest = by_range (range_of node) refl
      where
        by_range : (range : Option Children) → range_of node ≡ range → in_table range (shown_from names 0 after) ≡ in_table range (shown_from names 0 before)
        by_range None f = refl
        by_range (Some children) f =
            let range = changed.table.ranges i node children e f in
            same_front children.count (drop children.first.0 (shown_from names 0 after)) (drop children.first.0 (shown_from names 0 before)) (λ k less.
            get_drop children.first.0 (shown_from names 0 after) k
            ∙ rest (children.first.0 + k) (omega (arith, range.behind)) (omega (arith, range.within, less)) (λ h. elsewhere (parent_above parents j (children.first.0 + k) i h (range.owned k less)))
            ∙ sym (get_drop children.first.0 (shown_from names 0 before) k))

-- ---- at a node on the way to node j

-- the children of the one on the way, when its child of that number is shown otherwise
pub children_on_the_way : (names : List (List ℕ)) (j : ℕ) (before after : List Node) (changed : IsChangedAt j before after) (i k c : ℕ) (child : IsChild before i k c) → IsAbove changed.table.parents j c
    → children_of (in_table (Some child.children) (shown_from names 0 after)) ≡ set_child k (shown_at names after c) (children_of (in_table (Some child.children) (shown_from names 0 before)))
children_on_the_way names j before after changed i k c child above =
    ap children_of but_one ∙ set_of k (in_table (Some children) was) (shown_at names after c)
  where
    children : Children
    children = child.children

    first : ℕ
    first = children.first.0

    was : List model.Activity
    was = shown_from names 0 before

    now : List model.Activity
    now = shown_from names 0 after

    parents : ℕ → ℕ
    parents = changed.table.parents

    within : (k : ℕ) → k < children.count → (i < first + k) × (first + k < length before) × (parents (first + k) ≡ i)
    within k less =
        let range = changed.table.ranges i (Split child.visit children) children child.stands refl in
        (omega (arith, range.behind), omega (arith, range.within, less), range.owned k less)

    there_before : slice_get (drop first was) k ≡ Some (shown_at names before c)
    there_before = get_drop first was k ∙ ap (slice_get was) (sym child.is) ∙ some_shown names before changed.table c (child_within before changed.table i k c child).1

    there_after : slice_get (drop first now) k ≡ Some (shown_at names after c)
    there_after =
        let longer = changed.no_shorter in
        let lower = (child_within before changed.table i k c child).1 in
        get_drop first now k ∙ ap (slice_get now) (sym child.is) ∙ some_shown names after changed.still c (omega (arith, longer, lower))

    other : (m : ℕ) → m < children.count → m ≢ k → slice_get (drop first now) m ≡ slice_get (drop first was) m
    other m less apart =
        let here = within m less in
        let on_the_way = within k child.less in
        get_drop first now m
        ∙ same_elsewhere names j before after changed (length before) (first + m) (omega arith) here.1 (λ h.
        one_above parents changed.table.lower j i c (first + m) (ap parents child.is ∙ on_the_way.2) here.2 (omega (arith, child.is, on_the_way.0)) here.0 (λ e. apart (omega (arith, e, child.is))) above h)
        ∙ sym (get_drop first was m)

    but_one : in_table (Some children) now ≡ slice_set (in_table (Some children) was) k (shown_at names after c)
    but_one = front_but_one children.count k (drop first was) (drop first now) (shown_at names before c) (shown_at names after c) child.less there_before there_after other

-- what is shown of it before and after
pub shown_on_the_way : (names : List (List ℕ)) (j : ℕ) (before after : List Node) (changed : IsChangedAt j before after) (i k c : ℕ) (child : IsChild before i k c) → IsAbove changed.table.parents j c
    → (shown_at names before i ≡ shown_over names (children_of (in_table (Some child.children) (shown_from names 0 before))) (Split child.visit child.children))
    × (shown_at names after i ≡ shown_over names (set_child k (shown_at names after c) (children_of (in_table (Some child.children) (shown_from names 0 before)))) (Split child.visit child.children))
shown_on_the_way names j before after changed i k c child above = (
  shown_here names before changed.table i node child.stands,
  shown_here names after changed.still i node (changed.others i (omega (arith, within.0, within.1)) (λ e. absurd (omega (arith, e, within.0, lower))) ∙ child.stands)
      ∙ ap (λ cs. shown_over names cs node) (children_on_the_way names j before after changed i k c child above),
)
  where
    node : Node
    node = Split child.visit child.children

    within : (i < c) × (c < length before)
    within = child_within before changed.table i k c child

    lower : c ≤ j
    lower = above_lower changed.table.parents changed.table.lower j c above

-- the child's own number is what is shown there
pub child_shown : (names : List (List ℕ)) (nodes : List Node) → IsTable nodes → (i k c : ℕ) (child : IsChild nodes i k c) → child_at k (children_of (in_table (Some child.children) (shown_from names 0 nodes))) ≡ Some (shown_at names nodes c)
child_shown names nodes table i k c child =
    child_of k (in_table (Some child.children) (shown_from names 0 nodes))
    ∙ in_part child.children (shown_from names 0 nodes) k child.less
    ∙ ap (slice_get (shown_from names 0 nodes)) (sym child.is)
    ∙ some_shown names nodes table c (child_within nodes table i k c child).1
