use Rattle.std.proofs.Common.{ℕ, ◌<◌, ◌≤◌, List, map, length, drop, Some, None, refl, ap, subst, arith}
use Rattle.std.proofs.lemmas.List.{length-map}
use Rattle.json.specs.Token.{Token}
use Rattle.json.specs.Find.{HasValue, NextItem}
use Rattle.json.specs.Tape.{node_token}
use Rattle.asl_places.specs.Standing.{StepsOverElement}
use Rattle.asl_places.proofs.Steps.{no_value_past, no_value_closed, item_next, items_past, items_closed}
use Rattle.asl_places.proofs.cursors.Items.next.Goals as goal

pub returns-then-at-nodes-clause-value : goal.returns-then-at-nodes-clause-value
returns-then-at-nodes-clause-value c =
    subst (λ (p : List Token × ℕ). NextItem (drop p.1 p.0) None (drop p.1 p.0)) c.self.view_is (items_past c.self.inside.nodes.now c.self.inside.next c.if-at-nodes.true)

pub returns-in-EndArray-clause-value : goal.returns-in-EndArray-clause-value
returns-in-EndArray-clause-value c =
    subst (λ (p : List Token × ℕ). NextItem (drop p.1 p.0) None (drop p.1 p.0)) c.self.view_is (items_closed c.self.inside.nodes.now c.self.inside.next (omega arith) c.in-EndArray.is)

pub returns-then-at-nodes-clause-steps : goal.returns-then-at-nodes-clause-steps
returns-then-at-nodes-clause-steps c =
    subst (λ (p : List Token × ℕ). HasValue (drop p.1 p.0) → ⊥) c.self.view_is (λ has. no_value_past c.self.inside.nodes.now c.self.inside.next has.0 c.if-at-nodes.true has.1)

pub returns-in-EndArray-clause-steps : goal.returns-in-EndArray-clause-steps
returns-in-EndArray-clause-steps c =
    subst (λ (p : List Token × ℕ). HasValue (drop p.1 p.0) → ⊥) c.self.view_is (λ has. no_value_closed c.self.inside.nodes.now c.self.inside.next has.0 (omega arith) c.in-EndArray.is has.1)

pub returns : goal.returns
returns c =
    let nodes = c.self.inside.nodes.now in
    let at = c.self.inside.next in
    let behind = c.behind-self-inside.result in
    let next = item_next nodes at behind (omega arith) c.in_default.not-EndArray c.behind-self-inside.ensures.value in
    record {
      tokens = ap (λ p. p.0) c.self.view_is;
      value = subst (λ (p : List Token × ℕ). NextItem (drop p.1 p.0) (Some (drop at p.0)) (drop behind (map node_token nodes))) c.self.view_is next;
      steps = subst (λ (p : List Token × ℕ). StepsOverElement p.0 p.1 (Some (record { token = at })) behind) c.self.view_is (refl, c.behind-self-inside.ensures.passes);
      later = subst (λ (p : List Token × ℕ). (p.1 ≤ at) × (at < behind) × (behind ≤ length p.0)) c.self.view_is (omega arith, omega arith, omega (arith, length-map nodes node_token));
    }
