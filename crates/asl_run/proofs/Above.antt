-- The nodes above a node: its parent, that one's parent, and so on.
use Rattle.std.proofs.Common.{◌≡◌, ◌≢◌, ◌<◌, ◌≤◌, refl, sym, ap, ◌∙◌, arith, ℕ, zero, suc, ◌+◌, List, [], ◌∷◌, Option, Some, None, option_and_then}
use Rattle.asl_model.proofs.RunOptions.{some_inj, none_some}
use Rattle.asl_run.specs.Nodes.{IsTable, child_number, number_from}
use Rattle.asl_run.specs.declared.nodes.Node.{Node}
use Rattle.asl_run.specs.declared.nodes.Node.TheVariants.{Split}
use Rattle.asl_run.proofs.Tables.{child_found}

-- the node so many levels above node j
abbrev pub up : (ℕ → ℕ) → ℕ → ℕ → ℕ
up parents zero j = j
up parents (suc n) j = parents (up parents n j)

-- the node is above node j, or that node itself
pub record IsAbove (parents : ℕ → ℕ) (j i : ℕ) : Type 0 where
  pub levels : ℕ
  pub is : up parents levels j ≡ i

up_first : (parents : ℕ → ℕ) (n j : ℕ) → up parents (suc n) j ≡ up parents n (parents j)
up_first parents zero j = refl
up_first parents (suc n) j = ap parents (up_first parents n j)

pub up_add : (parents : ℕ → ℕ) (m n j : ℕ) → up parents (m + n) j ≡ up parents m (up parents n j)
up_add parents zero n j = let e : 0 + n ≡ n = omega arith in ap (λ k. up parents k j) e
up_add parents (suc m) n j = let e : suc m + n ≡ suc (m + n) = omega arith in ap (λ k. up parents k j) e ∙ ap parents (up_add parents m n j)

up_lower : (parents : ℕ → ℕ) → ((k : ℕ) → parents k ≤ k) → (n j : ℕ) → up parents n j ≤ j
up_lower parents lower zero j = omega arith
up_lower parents lower (suc n) j = omega (arith, lower (up parents n j), up_lower parents lower n j)

pub above_lower : (parents : ℕ → ℕ) → ((k : ℕ) → parents k ≤ k) → (j i : ℕ) → IsAbove parents j i → i ≤ j
above_lower parents lower j i h = omega (arith, up_lower parents lower h.levels j, h.is)

pub above_itself : (parents : ℕ → ℕ) (j : ℕ) → IsAbove parents j j
above_itself parents j = record { levels = 0; is = refl }

pub parent_above : (parents : ℕ → ℕ) (j c i : ℕ) → IsAbove parents j c → parents c ≡ i → IsAbove parents j i
parent_above parents j c i h e = record { levels = suc h.levels; is = ap parents h.is ∙ e }

-- two numbers: the same, or one some levels further
pub by_levels : {C : Type 0} (n m : ℕ) → (n ≡ m → C) → ((t : ℕ) → m ≡ suc t + n → C) → ((t : ℕ) → n ≡ suc t + m → C) → C
by_levels zero zero same more less = same refl
by_levels zero (suc m) same more less = more m (omega arith)
by_levels (suc n) zero same more less = less n (omega arith)
by_levels (suc n) (suc m) same more less = by_levels n m (λ e. same (ap (λ k. suc k) e)) (λ t e. more t (omega (arith, e))) (λ t e. less t (omega (arith, e)))

-- no child stands above another of the same parent
not_higher : (parents : ℕ → ℕ) → ((k : ℕ) → parents k ≤ k) → (j i c d n t : ℕ) → parents c ≡ i → i < d → up parents n j ≡ c → up parents (suc t + n) j ≡ d → ⊥
not_higher parents lower j i c d n t owned behind is other =
    let same : up parents t i ≡ d = ap (up parents t) (sym owned) ∙ sym (up_first parents t c) ∙ ap (up parents (suc t)) (sym is) ∙ sym (up_add parents (suc t) n j) ∙ other in
    absurd (omega (arith, up_lower parents lower t i, same, behind))

-- so only one child of a node is above a node
pub one_above : (parents : ℕ → ℕ) → ((k : ℕ) → parents k ≤ k) → (j i c d : ℕ) → parents c ≡ i → parents d ≡ i → i < c → i < d → c ≢ d → IsAbove parents j c → IsAbove parents j d → ⊥
one_above parents lower j i c d owned owned_too behind behind_too other h g =
    by_levels h.levels g.levels
    (λ e. other (sym h.is ∙ ap (λ n. up parents n j) e ∙ g.is))
    (λ t e. not_higher parents lower j i c d h.levels t owned behind_too h.is (ap (λ n. up parents n j) (sym e) ∙ g.is))
    (λ t e. not_higher parents lower j i d c g.levels t owned_too behind g.is (ap (λ n. up parents n j) (sym e) ∙ h.is))

-- a node is above those at the places below it
pub place_above : (nodes : List Node) (table : IsTable nodes) (place : List ℕ) (i j : ℕ) → number_from nodes i place ≡ Some j → IsAbove table.parents j i
place_above nodes table [] i j e = record { levels = 0; is = sym (some_inj e) }
place_above nodes table (k ∷ place) i j e = by_child (child_number nodes i k) refl e (λ c f. place_above nodes table place c j f)
  where
    by_child : (o : Option ℕ) → child_number nodes i k ≡ o → option_and_then (λ c. number_from nodes c place) o ≡ Some j → ((c : ℕ) → number_from nodes c place ≡ Some j → IsAbove table.parents j c) → IsAbove table.parents j i
    by_child None f g below = none_some g
    by_child (Some c) f g below =
        let child = child_found nodes i k c f in
        let range = table.ranges i (Split child.visit child.children) child.children child.stands refl in
        parent_above table.parents j c i (below c g) (ap table.parents child.is ∙ range.owned k child.less)
