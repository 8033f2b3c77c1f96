use Rattle.std.proofs.Common.{◌++◌, ◌∷◌, [], ℕ, Contains, sym, ap, ◌∙◌, subst, append_assoc}
use Rattle.std.proofs.lemmas.List.{append-nil}
use Rattle.asl_model.proofs.RunOptions.{some_inj}
use Rattle.asl_drafts.specs.declared.predecessors.Origin.{Origin}
use Rattle.asl_drafts.proofs.Inflows.{all-found, found-next, none-found}
use Rattle.asl_drafts.proofs.predecessors.Predecessors.inflows.Goals as goal
use Rattle.asl_drafts.proofs.predecessors.Predecessors.inflows.Goals.{in-Some+in-None, in_default}

pub loop-origin-preserved : goal.loop-origin-preserved
loop-origin-preserved c =
    let l = c.loop-origin in
    let done = l.invariant.done in
    let e : Origin × ℕ = (c.in-Some-2.origin.now, c.in-Some-2.flowing.now) in
    let left = c.next.new.self in
    record {
      done = done ++ e ∷ [];
      whole = l.invariant.whole ∙ ap (λ es. done ++ es) c.in-Some-2.ensures.steps ∙ sym (append_assoc done (e ∷ []) left);
      found = found-next done e l.found.items c.push.new.self.items l.invariant.found c.in_ok-push.ensures.items;
    }

pub returns : goal.returns
returns c = record {
  all = λ origin n is. elim c.match-get.branch [
    | in-Some+in-None w ↦
        let l = w.loop-origin in
        let all = l.invariant.whole ∙ ap (λ es. l.invariant.done ++ es) w.in-None.ensures.steps.0 ∙ append-nil l.invariant.done in
        let entries = sym all ∙ (w.into_iter-origin-iterator.ensures.into_iter_gives ∙ w.iter-origin-items.ensures.rest) in
        subst (λ v. Contains v.items (record { state = origin.state; flowing = n })) (sym w.found-is) (all-found c.args.self.now c.args.target origin n is l.invariant.done l.found.items (λ inner at. ap (λ m. m.entries) (some_inj (sym at ∙ sym w.in-Some.ensures.value)) ∙ sym entries) l.invariant.found)
    | in_default w ↦ none-found c.args.self.now c.args.target origin n is (sym w.in_default.ensures.value)
  ];
}
