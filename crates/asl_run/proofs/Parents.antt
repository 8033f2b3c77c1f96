-- The parent of what stands at a place, and what is noted there.
use Rattle.std.proofs.Common.{◌≡◌, ◌<◌, refl, sym, ap, ◌∙◌, subst, arith, ℕ, ◌+◌, List, [], ◌∷◌, ◌++◌, length, slice_get, slice_set, Option, Some, None, option_map, option_and_then, length-append}
use Rattle.std.specs.List.{IsLastAndRest}
use Rattle.asl_model.proofs.RunOptions.{some_inj, none_some}
use Rattle.asl_run.specs.Counting.{CanPass, HasParent, IsBegun, IsFurther, IsPassed, of_new}
use Rattle.asl_run.specs.Nodes.{child_number, number_from, range_of}
use Rattle.asl_run.specs.declared.nodes.Children.{Children}
use Rattle.asl_run.specs.declared.nodes.Node.{Node}
use Rattle.asl_run.specs.declared.nodes.NodeNumber.{NodeNumber}
use Rattle.asl_run.specs.declared.standing.Progress.{Progress}
use Rattle.asl_run.proofs.Parts.{get_append, get_set_other, get_set_same, length_set}

-- ---- one place higher

-- a place leads to a child of the node of the place above
pub last_number : (nodes : List Node) (above : List ℕ) (k i : ℕ) → number_from nodes i (above ++ k ∷ []) ≡ option_and_then (λ q. child_number nodes q k) (number_from nodes i above)
last_number nodes [] k i = end (child_number nodes i k)
  where
    end : (o : Option ℕ) → option_and_then (λ c. number_from nodes c []) o ≡ o
    end None = refl
    end (Some c) = refl
last_number nodes (first ∷ above) k i = by (child_number nodes i first) (λ c. last_number nodes above k c)
  where
    by : (o : Option ℕ) → ((c : ℕ) → number_from nodes c (above ++ k ∷ []) ≡ option_and_then (λ q. child_number nodes q k) (number_from nodes c above))
        → option_and_then (λ c. number_from nodes c (above ++ k ∷ [])) o ≡ option_and_then (λ q. child_number nodes q k) (option_and_then (λ c. number_from nodes c above) o)
    by None below = refl
    by (Some c) below = below c

pub parent_found : (nodes : List Node) (place above : List ℕ) (k child : ℕ) (r : Option NodeNumber) → IsLastAndRest place k above → option_map (λ n. n.0) r ≡ number_from nodes 0 above → number_from nodes 0 place ≡ Some child → HasParent nodes place child r
parent_found nodes place above k child None split is at =
    none_some (ap (option_and_then (λ q. child_number nodes q k)) is ∙ sym (last_number nodes above k 0) ∙ ap (number_from nodes 0) (sym split.0) ∙ at)
parent_found nodes place above k child (Some q) split is at = record {
  above = above;
  number = k;
  whole = split.0;
  at = sym is;
  is = ap (option_and_then (λ p. child_number nodes p k)) is ∙ sym (last_number nodes above k 0) ∙ ap (number_from nodes 0) (sym split.0) ∙ at;
}

-- ---- what is noted

-- it is written anew
pub passed_there : (nodes : List Node) (progress : List Progress) (parent : Option NodeNumber) (j : ℕ) (q : NodeNumber) (node : Node) (children : Children) (noted far : Progress) → CanPass nodes progress parent j → parent ≡ Some q → slice_get nodes q.0 ≡ Some node → range_of node ≡ Some children
    → slice_get progress q.0 ≡ Some noted → IsFurther nodes children j noted far → IsPassed nodes parent j progress (slice_set progress q.0 far)
passed_there nodes progress parent j q node children noted far can is there range at further =
    subst (λ p. IsPassed nodes p j progress (slice_set progress q.0 far)) (sym is) (record {
      long = length_set progress q.0 far;
      others = λ i other. get_set_other progress q.0 i far other;
      here = λ found others was now e f g h.
          let within = (can.noted q is).1 in
          let same : children ≡ others = some_inj (sym range ∙ ap range_of (some_inj (sym there ∙ e)) ∙ f) in
          let before : noted ≡ was = some_inj (sym at ∙ g) in
          let after : far ≡ now = some_inj (sym (get_set_same progress q.0 far within) ∙ h) in
          subst (λ (c : Children). IsFurther nodes c j was now) same (subst (λ (p : Progress). IsFurther nodes children j p now) before (subst (λ (p : Progress). IsFurther nodes children j noted p) after further));
    })

-- ---- new children

pub none_begun : (progress : List Progress) (j added : ℕ) → j < length progress → IsBegun j added 0 progress (slice_set progress j (of_new added))
none_begun progress j added within = record {
  long = let long = length_set progress j (of_new added) in omega (arith, long);
  own = get_set_same progress j (of_new added) within;
  others = λ i less other. get_set_other progress j i (of_new added) other;
}

pub one_begun : (before now longer : List Progress) (j added k : ℕ) (one : Progress) → j < length before → longer ≡ now ++ one ∷ [] → IsBegun j added k before now → IsBegun j added (k + 1) before longer
one_begun before now longer j added k one within is h = subst (IsBegun j added (k + 1) before) (sym is) (record {
  long = omega (arith, h.long, length-append now (one ∷ []));
  own = get_append now (one ∷ []) j (omega (arith, h.long, within)) ∙ h.own;
  others = λ i less other. get_append now (one ∷ []) i (omega (arith, h.long, less)) ∙ h.others i less other;
})
