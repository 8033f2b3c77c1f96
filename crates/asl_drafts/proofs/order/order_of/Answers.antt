use Rattle.std.proofs.Common.{◌≡◌, ◌-◌, ◌+◌, ◌++◌, ◌∷◌, [], map, refl, sym, ap, ◌∙◌, subst, append_assoc, arith}
use Rattle.std.proofs.lemmas.List.{append-nil, map-append}
use Rattle.std.specs.BTreeMap.{insert_entry}
use Rattle.asl_model.proofs.RunOptions.{none_some, some_inj}
use Rattle.asl_machine_table.specs.Table.{table_view}
use Rattle.asl_drafts.specs.Order.{IsPlaced, entry_seen, row_seen}
use Rattle.asl_drafts.proofs.Ordered.{Entry, all-ordered, by_name, placed-next, placed-none}
use Rattle.asl_drafts.proofs.order.order_of.Goals as goal
use Rattle.asl_drafts.proofs.order.order_of.Goals.{in-Some+in_ok-insert, in_default}

pub loop-passed-init : goal.loop-passed-init
loop-passed-init c =
    let table = table_view c.args.machine.now in
    subst (λ es. IsPlaced entry_seen row_seen table (c.states-count.result - 0) es) (sym c.new-named.ensures.empty) (placed-none entry_seen row_seen table (c.states-count.result - 0) (omega (arith, c.states-count.ensures.number)))

pub loop-passed-preserved : goal.loop-passed-preserved
loop-passed-preserved c =
    let table = table_view c.args.machine.now in
    let count = c.states-count.result in
    let passed = c.loop-passed.passed in
    let es = c.loop-passed.named.entries in
    elim c.match-name.branch [
      | in-Some+in_ok-insert w ↦ subst (λ m. IsPlaced entry_seen row_seen table (count - (passed + 1)) m.entries) (sym w.named-is)
          (placed-next table count passed (count - passed - 1) es w.insert.new.self.entries c.name.result refl c.loop-passed-test.true c.states-count.ensures.number c.name.ensures.name c.loop-passed.invariant (λ none. none_some (sym none ∙ w.in-Some.is)) (λ k some. subst (λ key. w.insert.new.self.entries ≡ insert_entry by_name es key (count - passed - 1)) (some_inj (sym w.in-Some.is ∙ some)) w.in_ok-insert.ensures.entries))
      | in_default w ↦ subst (λ m. IsPlaced entry_seen row_seen table (count - (passed + 1)) m.entries) (sym w.named-is)
          (placed-next table count passed (count - passed - 1) es es c.name.result refl c.loop-passed-test.true c.states-count.ensures.number c.name.ensures.name c.loop-passed.invariant (λ none. refl) (λ k some. absurd (w.in_default.not-Some k some)))
    ]

pub loop-number-preserved : goal.loop-number-preserved
loop-number-preserved c =
    let l = c.loop-number in
    let done = l.invariant.done in
    let e : Entry = (c.in-Some-2.field-0-0.now, c.in-Some-2.number.now) in
    let left = c.next.new.self in
    record {
      done = done ++ e ∷ [];
      whole = l.invariant.whole ∙ ap (λ es. done ++ es) c.in-Some-2.ensures.steps ∙ sym (append_assoc done (e ∷ []) left);
      numbers = c.in_ok-push.ensures.items ∙ ap (λ ns. ns ++ e.1 ∷ []) l.invariant.numbers ∙ sym (map-append (λ (x : Entry). x.1) done (e ∷ []));
    }

pub returns : goal.returns
returns c =
    let table = table_view c.args.machine.now in
    let l = c.loop-number in
    let passed = c.loop-passed.passed in
    let placed : IsPlaced entry_seen row_seen table 0 c.loop-passed.named.entries = subst (λ n. IsPlaced entry_seen row_seen table n c.loop-passed.named.entries) (omega (arith, c.loop-passed-test.false)) c.loop-passed.invariant in
    let all = l.invariant.whole ∙ ap (λ es. l.invariant.done ++ es) c.in-None.ensures.steps.0 ∙ append-nil l.invariant.done in
    all-ordered table c.loop-passed.named.entries l.numbers.items placed (l.invariant.numbers ∙ ap (map (λ (e : Entry). e.1)) (sym all ∙ (c.into_iter-number-iterator.ensures.into_iter_gives ∙ c.iter-number-items.ensures.rest)))
