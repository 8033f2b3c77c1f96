-- The numbers of the nodes along a place, in the table.
use Rattle.std.proofs.Common.{◌≡◌, ◌<◌, ◌≤◌, refl, sym, ap, ◌∙◌, arith, ℕ, zero, suc, ◌+◌, ◌^◌, List, [], ◌∷◌, length, get_or, drop, drop-cons, add-one, slice_get, Option, Some, None, IfSome, option_map, option_and_then}
use Rattle.std.proofs.lemmas.List.{drop_all}
use Rattle.asl_model.proofs.RunOptions.{some_inj, none_some}
use Rattle.asl_run.specs.Nodes.{IsTable, child_number, number_from, number_in_range, range_of}
use Rattle.asl_processing.specs.declared.activities.Visit.{Visit}
use Rattle.asl_run.specs.declared.nodes.Children.{Children}
use Rattle.asl_run.specs.declared.nodes.Node.{Node}
use Rattle.asl_run.specs.declared.nodes.Node.TheVariants.{Ready, Split}
use Rattle.asl_run.specs.declared.nodes.NodeNumber.{NodeNumber}
use Rattle.asl_run.proofs.Tables.{child_found, child_within}

-- ---- a table of one node

pub one_node : (visit : Visit) → IsTable (Ready visit ∷ [])
one_node visit = record { parents = λ k. 0; lower = λ k. omega arith; ranges = λ i node children e f. absurd (alone i node children e f); some = omega arith }
  where
    alone : (i : ℕ) (node : Node) (children : Children) → slice_get (Ready visit ∷ []) i ≡ Some node → range_of node ≡ Some children → ⊥
    alone zero node children e f = none_some (ap range_of (some_inj e) ∙ f)
    alone (suc i) node children e f = none_some e

-- ---- a child

-- the numbers of its children are small
pub children_fit : (nodes : List Node) → IsTable nodes → length nodes < 2 ^ 64 → (i : ℕ) (visit : Visit) (children : Children) → slice_get nodes i ≡ Some (Split visit children) → children.first.0 + children.count < 2 ^ 64
children_fit nodes table few i visit children e = omega (arith, few, (table.ranges i (Split visit children) children e refl).within)

pub number_of_child : (nodes : List Node) (i k : ℕ) (node : Node) (r : Option NodeNumber) → slice_get nodes i ≡ Some node → option_map (λ n. n.0) r ≡ number_in_range (range_of node) k → option_map (λ n. n.0) r ≡ child_number nodes i k
number_of_child nodes i k node r e is = is ∙ sym (ap (λ o. number_in_range (option_and_then range_of o) k) e)

-- its number is one of the table
pub child_in_table : (nodes : List Node) → IsTable nodes → (i k : ℕ) (r : Option NodeNumber) → option_map (λ n. n.0) r ≡ child_number nodes i k → IfSome r (λ n. n.0 < length nodes)
child_in_table nodes table i k None is = tt
child_in_table nodes table i k (Some n) is = (child_within nodes table i k n.0 (child_found nodes i k n.0 (sym is))).1

-- ---- going down a place

next_number : (nodes : List Node) (p : List ℕ) (here i k : ℕ) → i < length p → k ≡ get_or p i 0 → number_from nodes here (drop i p) ≡ option_and_then (λ c. number_from nodes c (drop (i + 1) p)) (child_number nodes here k)
next_number nodes p here i k within is = ap (number_from nodes here) (drop-cons p i 0 within) ∙ rw (← is, add-one) refl

-- one level further down
pub one_number_down : (nodes : List Node) (p : List ℕ) (start here next i k : ℕ) (child : Option ℕ) → number_from nodes start p ≡ number_from nodes here (drop i p) → i < length p → k ≡ get_or p i 0 → child ≡ child_number nodes here k → child ≡ Some next
    → number_from nodes start p ≡ number_from nodes next (drop (i + 1) p)
one_number_down nodes p start here next i k child so_far within is step some =
    so_far ∙ next_number nodes p here i k within is ∙ ap (option_and_then (λ c. number_from nodes c (drop (i + 1) p))) (sym step ∙ some)

-- there is no such child, so no such place
pub no_number_down : (nodes : List Node) (p : List ℕ) (start here i k : ℕ) (child : Option ℕ) → number_from nodes start p ≡ number_from nodes here (drop i p) → i < length p → k ≡ get_or p i 0 → child ≡ child_number nodes here k → child ≡ None
    → None ≡ number_from nodes start p
no_number_down nodes p start here i k child so_far within is step none =
    sym (so_far ∙ next_number nodes p here i k within is ∙ ap (option_and_then (λ c. number_from nodes c (drop (i + 1) p))) (sym step ∙ none))

-- at its end
pub number_at_end : (nodes : List Node) (p : List ℕ) (start here i : ℕ) → number_from nodes start p ≡ number_from nodes here (drop i p) → length p ≤ i → Some here ≡ number_from nodes start p
number_at_end nodes p start here i so_far end = sym (so_far ∙ ap (number_from nodes here) (drop_all i p end))
