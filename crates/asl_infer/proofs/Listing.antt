-- What is in two lists, and in the rules that are broken along a walk.
use Rattle.std.proofs.Common.{◌≡◌, ℕ, List, [], ◌∷◌, ◌++◌, Option, Some, None, Contains, IsTrue, refl, ap, subst, ◌⊎◌, inl, inr}
use Rattle.std.proofs.lemmas.List.Elements.{Contains-append_left, Contains-append_right}
use Rattle.std.specs.List.{AllByRecursion}
use Rattle.asl_model.specs.Edges.{Destination, DestinationShapes, ToInput, ToOutput, ToEnd, ToTask, Walked, Flows, Breaks, breaches_along, breaches_at, stands_at}
use Rattle.asl_model.specs.Examples.{outside}
use Rattle.asl_model.specs.Finding.{Breach, FindingFault, breach_shown, breach_unless_sub}
use Rattle.asl_model.specs.Inference.{is_of_machine}
use Rattle.asl_model.specs.Shape.{Shape}
use Rattle.asl_model.specs.Tree.{Tree}
use Rattle.asl_model.proofs.Listed.{first_in, first_or_later, later_in, none_in}
use Rattle.asl_draft_laws.specs.Drafts.{own_breaches}
use Rattle.asl_draft_laws.proofs.SettledClosed.{own_shapes}
use Rattle.asl_infer.proofs.BrokenRules.{IsOfMachine}

-- what is in two lists is in one of them
pub either-in : {A : Type 0} (xs ys : List A) (b : A) → Contains (xs ++ ys) b → Contains xs b ⊎ Contains ys b
either-in [] ys b h = inr h
either-in (x ∷ xs) ys b h = go (first_or_later x b (xs ++ ys) h) (either-in xs ys b)
  where
    next : Contains xs b ⊎ Contains ys b → Contains (x ∷ xs) b ⊎ Contains ys b
    next (inl c) = inl (later_in x b xs c)
    next (inr c) = inr c

    go : (x ≡ b) ⊎ Contains (xs ++ ys) b → (Contains (xs ++ ys) b → Contains xs b ⊎ Contains ys b) → Contains (x ∷ xs) b ⊎ Contains ys b
    go (inl e) further = inl (subst (λ z. Contains (x ∷ xs) z) e (first_in x xs))
    go (inr c) further = next (further c)

-- what a tree shows has that fault
shown-fault : (field : List ℕ) (fault : FindingFault) (o : Option Tree) (b : Breach) → Contains (breach_shown field fault o) b → fault ≡ b.fault
shown-fault field fault None b h = none_in b h
shown-fault field fault (Some t) b h = go (first_or_later (record { field = field; fault = fault; example = Some t }) b [] h)
  where
    go : (let breach : Breach = record { field = field; fault = fault; example = Some t } in breach ≡ b) ⊎ Contains [] b → fault ≡ b.fault
    go (inl e) = ap (λ (x : Breach). x.fault) e
    go (inr c) = none_in b c

-- ---- the rules that are broken whatever is certified elsewhere

-- are among those that are broken along the walk
own-at : (standing : DestinationShapes) (step : Walked) (b : Breach) → Contains (breaches_at (own_shapes standing.takes) step) b → Contains (breaches_at standing step) b
own-at standing (Breaks breach) b h = h
own-at standing (Flows edge) b h = by edge.destination h
  where
    by : (to : Destination) → Contains (breach_unless_sub edge.field edge.fault edge.flowing (stands_at (own_shapes standing.takes) to)) b → Contains (breach_unless_sub edge.field edge.fault edge.flowing (stands_at standing to)) b
    by (ToInput next) k = none_in b k
    by ToOutput k = none_in b k
    by ToEnd k = none_in b k
    by ToTask k = k

pub own-along : (standing : DestinationShapes) (steps : List Walked) (b : Breach) → Contains (own_breaches standing.takes steps) b → Contains (breaches_along standing steps) b
own-along standing [] b h = h
own-along standing (step ∷ steps) b h = go (either-in (breaches_at (own_shapes standing.takes) step) (own_breaches standing.takes steps) b h) (own-along standing steps b)
  where
    go : Contains (breaches_at (own_shapes standing.takes) step) b ⊎ Contains (own_breaches standing.takes steps) b → (Contains (own_breaches standing.takes steps) b → Contains (breaches_along standing steps) b) → Contains (breaches_at standing step ++ breaches_along standing steps) b
    go (inl c) further = Contains-append_left (breaches_at standing step) (breaches_along standing steps) b (own-at standing step b c)
    go (inr c) further = Contains-append_right (breaches_at standing step) (breaches_along standing steps) b (further c)

-- ---- the faults of the machine

own-at-machine : (takes : Shape) (step : Walked) (b : Breach) → IsOfMachine step → Contains (breaches_at (own_shapes takes) step) b → IsTrue (is_of_machine b.fault)
own-at-machine takes (Breaks breach) b is h = go (first_or_later breach b [] h)
  where
    go : (breach ≡ b) ⊎ Contains [] b → IsTrue (is_of_machine b.fault)
    go (inl e) = subst (λ (x : Breach). IsTrue (is_of_machine x.fault)) e is
    go (inr c) = none_in b c
own-at-machine takes (Flows edge) b is h = by edge.destination refl h
  where
    by : (to : Destination) → edge.destination ≡ to → Contains (breach_unless_sub edge.field edge.fault edge.flowing (stands_at (own_shapes takes) to)) b → IsTrue (is_of_machine b.fault)
    by (ToInput next) e k = none_in b k
    by ToOutput e k = none_in b k
    by ToEnd e k = none_in b k
    by ToTask e k = subst (λ fault. IsTrue (is_of_machine fault)) (shown-fault edge.field edge.fault (outside edge.flowing takes) b k) (is e)

pub own-of-machine : (takes : Shape) (steps : List Walked) (b : Breach) → AllByRecursion IsOfMachine steps → Contains (own_breaches takes steps) b → IsTrue (is_of_machine b.fault)
own-of-machine takes [] b all h = none_in b h
own-of-machine takes (step ∷ steps) b all h = go (either-in (breaches_at (own_shapes takes) step) (own_breaches takes steps) b h) (own-of-machine takes steps b all.1)
  where
    go : Contains (breaches_at (own_shapes takes) step) b ⊎ Contains (own_breaches takes steps) b → (Contains (own_breaches takes steps) b → IsTrue (is_of_machine b.fault)) → IsTrue (is_of_machine b.fault)
    go (inl c) further = own-at-machine takes step b all.0 c
    go (inr c) further = further c
