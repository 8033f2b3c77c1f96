-- The states that a machine's graph leads to.
use Rattle.std.proofs.Common.{◌≡◌, ◌<◌, ◌≤◌, ◌+◌, ◌⊎◌, ◌↔◌, inl, inr, ℕ, zero, suc, List, [], ◌∷◌, length, slice_get, true, false, Some, None, Option, option_map, refl, sym, ap, ◌∙◌, subst, arith, Contains, get_or}
use Rattle.std.specs.Prelude.{option_to_list}
use Rattle.std.proofs.lemmas.Bool.{false≢true}
use Rattle.std.proofs.lemmas.Option.{slice_get_within, slice_get-get_or}
use Rattle.std.proofs.lemmas.List.Elements.{Contains-push}
use Rattle.asl_model.proofs.RunOptions.{some_inj}
use Rattle.asl_model.specs.Numbering.{Placement}
use Rattle.asl_machine_table.specs.Table.{states_in, table_view}
use Rattle.asl_machine_table.specs.declared.machine.Machine.{Machine}
use Rattle.asl_states.specs.declared.states.State.{State}
use Rattle.asl_warnings.specs.Adding.{Adds, is_marked}
use Rattle.asl_warnings.specs.Led.{IsLed, is_start, is_named, named_by, named_in, start_of}
use Rattle.asl_warnings.specs.declared.marks.Marks.{Marks}
use Rattle.asl_warnings.proofs.Added.{Same, same, other, compared, stands-place, marked-within}

-- the number of the machine's start, if it has one
abbrev pub starts : Machine → List ℕ
starts m = option_to_list (option_map start_of (slice_get (table_view m).placements 0))

-- States to which a way leads are marked, the start is, and so is what those name that were marked before that place.
pub record AreLed (m : Machine) (marks : Marks) (before : ℕ) : Type 0 where
  pub many : length marks.marks.items ≡ length (states_in m)
  pub start : (number : ℕ) → Contains (starts m) number → number < length (states_in m) → is_marked marks number ≡ true
  pub led : (number : ℕ) → is_marked marks number ≡ true → IsLed m number
  pub closed : (place number next : ℕ) (state : State) → place < before → slice_get marks.order.items place ≡ Some number → slice_get (states_in m) number ≡ Some state → Contains (named_in state) next → next < length (states_in m) → is_marked marks next ≡ true

no-element : (n : ℕ) → Contains [] n → ⊥
no-element n has = let within = has.1 in omega (arith, within)

start-led : (m : Machine) (n : ℕ) → Contains (starts m) n → IsLed m n
start-led m n has = by (slice_get (table_view m).placements 0) refl has
  where
    by : (o : Option Placement) → slice_get (table_view m).placements 0 ≡ o → Contains (option_to_list (option_map start_of o)) n → IsLed m n
    by None e has = absurd (no-element n has)
    by (Some scope) e has = subst (IsLed m) (alone scope has) (is_start scope e)
      where
        alone : (scope : Placement) → Contains (scope.start ∷ []) n → scope.start ≡ n
        alone scope (zero, within, is) = is
        alone scope (suc i, within, is) = absurd (omega (arith, within))

named-led : (m : Machine) (number next : ℕ) → IsLed m number → Contains (named_by (slice_get (states_in m) number)) next → IsLed m next
named-led m number next led has = by (slice_get (states_in m) number) refl has
  where
    by : (o : Option State) → slice_get (states_in m) number ≡ o → Contains (named_by o) next → IsLed m next
    by None e has = absurd (no-element next has)
    by (Some state) e has = is_named number next state led e has

-- the marks are none but that of the start
pub led-first : (m : Machine) (a b : Marks) → length a.marks.items ≡ length (states_in m) → ((n : ℕ) → is_marked a n ≡ false) → Adds a b (starts m) → AreLed m b 0
led-first m a b many none adds = record {
  many = adds.many ∙ many;
  start = λ n has within. adds.marks n has (subst (λ k. n < k) (sym many) within);
  led = λ n is. by n (adds.only n is);
  closed = λ place number next state sooner stands is has within. absurd (omega (arith, sooner));
}
  where
    by : (n : ℕ) → (is_marked a n ≡ true) ⊎ Contains (starts m) n → IsLed m n
    by n (inl is) = absurd (false≢true (sym (none n) ∙ is))
    by n (inr has) = start-led m n has

-- what the state at the place names is marked, too
pub led-on : (m : Machine) (a b : Marks) (place number : ℕ) → AreLed m a place → slice_get a.order.items place ≡ Some number → Adds a b (named_by (slice_get (states_in m) number)) → AreLed m b (place + 1)
led-on m a b place number are stands adds = record {
  many = adds.many ∙ are.many;
  start = λ n has within. adds.keeps n (are.start n has within);
  led = λ n is. by n (adds.only n is);
  closed = closed;
}
  where
    led-here : IsLed m number
    led-here = are.led number (a.listed.each_marked place number stands)

    by : (n : ℕ) → (is_marked a n ≡ true) ⊎ Contains (named_by (slice_get (states_in m) number)) n → IsLed m n
    by n (inl is) = are.led n is
    by n (inr has) = named-led m number n led-here has

    -- what stands at a place of the later order up to that one stands there in the sooner one
    stood : (q n : ℕ) → q ≤ place → slice_get b.order.items q ≡ Some n → slice_get a.order.items q ≡ Some n
    stood q n at_most is =
        let within = slice_get_within a.order.items place number stands in
        let here = slice_get-get_or a.order.items q 0 (omega (arith, within, at_most)) in
        here ∙ ap Some (some_inj (sym (adds.begins q (get_or a.order.items q 0) here) ∙ is))

    at_place : (n next : ℕ) (state : State) → number ≡ n → slice_get (states_in m) n ≡ Some state → Contains (named_in state) next → next < length (states_in m) → is_marked b next ≡ true
    at_place n next state here is has within =
        adds.marks next (subst (λ o. Contains (named_by o) next) (sym (subst (λ k. slice_get (states_in m) k ≡ Some state) (sym here) is)) has) (subst (λ k. next < k) (sym are.many) within)

    closed : (q n next : ℕ) (state : State) → q < place + 1 → slice_get b.order.items q ≡ Some n → slice_get (states_in m) n ≡ Some state → Contains (named_in state) next → next < length (states_in m) → is_marked b next ≡ true
    closed q n next state sooner there is has within = which (compared q place)
      where
        before : slice_get a.order.items q ≡ Some n
        before = stood q n (omega (arith, sooner)) there

        which : Same q place → is_marked b next ≡ true
        which (same e) = at_place n next state (some_inj (sym stands ∙ subst (λ k. slice_get a.order.items k ≡ Some n) e before)) is has within
        which (other e) = adds.keeps next (are.closed q n next state (omega (arith, sooner, e)) before is has within)

-- where each that is marked stands before the place, those are marked to which a way leads
pub led-exactly : (m : Machine) (marks : Marks) (before : ℕ) → AreLed m marks before → length marks.order.items ≤ before → (n : ℕ) → n < length (states_in m) → is_marked marks n ≡ true ↔ IsLed m n
led-exactly m marks before are all n within = (are.led n, λ led. marked n led within)
  where
    marked : (n : ℕ) → IsLed m n → n < length (states_in m) → is_marked marks n ≡ true
    marked n (is_start scope e) within =
        are.start n (subst (λ o. Contains (option_to_list (option_map start_of o)) n) (sym e) (Contains-push [] n)) within
    marked n (is_named number next state led is has) within =
        let here = marked number led (slice_get_within (states_in m) number state is) in
        let stands = stands-place number marks.order.items (marks.listed.each_stands number here) in
        let sooner = slice_get_within marks.order.items stands.0 number stands.1 in
        are.closed stands.0 number n state (omega (arith, sooner, all)) stands.1 is has within

-- there are no more marks than states
pub few-marked : (m : Machine) (marks : Marks) (before : ℕ) → AreLed m marks before → length marks.order.items ≤ length (states_in m)
few-marked m marks before are =
    let many = marks.listed.many in
    let few = marked-within marks.marks.items in
    let as_many = are.many in
    omega (arith, many, few, as_many)
