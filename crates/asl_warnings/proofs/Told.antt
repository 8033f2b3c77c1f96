-- Notices, and what they tell of states to which no way leads.
use Rattle.std.proofs.Common.{◌≡◌, ◌<◌, ◌≤◌, ◌+◌, ◌⊎◌, inl, inr, ℕ, zero, suc, List, [], ◌∷◌, ◌++◌, length, slice_get, Bool, true, false, Some, None, Option, refl, sym, ap, ◌∙◌, subst, arith, Contains, get_or, is_some}
use Rattle.std.proofs.lemmas.Bool.{false≢true}
use Rattle.std.proofs.lemmas.Option.{slice_get_within, slice_get_cases}
use Rattle.std.proofs.lemmas.List.Elements.{Contains-append_left, Contains-append_right, Contains-append_cases, Contains-push}
use Rattle.asl_model.specs.Names.{StateName}
use Rattle.asl_machine_table.specs.Table.{states_in, table_view}
use Rattle.asl_machine_table.specs.declared.machine.Machine.{Machine}
use Rattle.asl_states.specs.declared.states.State.{State}
use Rattle.asl_warnings.specs.Adding.{is_marked}
use Rattle.asl_warnings.specs.LedNames.{IsExact, told_at, told_by}
use Rattle.asl_warnings.specs.Notices.{KeepsUnled}
use Rattle.asl_warnings.specs.Unled.{IsUnled, TellsUnled}
use Rattle.asl_warnings.specs.declared.marks.Marks.{Marks}
use Rattle.asl_warnings.specs.declared.notice.Notice.{Notice}
use Rattle.asl_warnings.proofs.Added.{Same, same, other, compared}

-- ---- a notice more

pub keeps-same : (old : List Notice) → KeepsUnled old old
keeps-same old = record { same = refl }

pub keeps-both : (a b c : List Notice) → KeepsUnled a b → KeepsUnled b c → KeepsUnled a c
keeps-both a b c first second = record { same = second.same ∙ first.same }

-- ---- over the states

-- the names are those of the states below that number to which no way leads
pub record TellsBelow (m : Machine) (below : ℕ) (names : List StateName) : Type 0 where
  pub right : (name : StateName) → Contains names name → (number : ℕ) × IsUnled m number name
  pub all : (number : ℕ) (name : StateName) → number < below → IsUnled m number name → Contains names name

no-name : (name : StateName) → Contains [] name → ⊥
no-name name has = let within = has.1 in omega (arith, within)

-- none of them is below 0

-- that of one more state
pub tells-more : (m : Machine) (led : Marks) (number : ℕ) (before after : List StateName) → IsExact m led → TellsBelow m number before → after ≡ before ++ told_at m led number → TellsBelow m (number + 1) after
tells-more m led number before after exact tells whole = subst (TellsBelow m (number + 1)) (sym whole) (record { right = right; all = all })
  where
    unled : (name : StateName) (state : State) → slice_get (table_view m).names number ≡ Some name → slice_get (states_in m) number ≡ Some state → is_marked led number ≡ false → IsUnled m number name
    unled name state named stands isnt =
        let within = slice_get_within (states_in m) number state stands in
        record { named = named; stands = within; unled = λ is. false≢true (sym isnt ∙ (exact.exact number within).1 is) }

    here : (name : StateName) (n : Option StateName) (s : Option State) (b : Bool) → slice_get (table_view m).names number ≡ n → slice_get (states_in m) number ≡ s → is_marked led number ≡ b → Contains (told_by n s b) name → IsUnled m number name
    here name None s b named stands is has = absurd (no-name name has)
    here name (Some told) None b named stands is has = absurd (no-name name has)
    here name (Some told) (Some state) true named stands is has = absurd (no-name name has)
    here name (Some told) (Some state) false named stands is has = subst (IsUnled m number) (alone told has) (unled told state named stands is)
      where
        alone : (another : StateName) → Contains (another ∷ []) name → another ≡ name
        alone another has = by (Contains-append_cases [] (another ∷ []) name has)
          where
            by : Contains [] name ⊎ Contains (another ∷ []) name → another ≡ name
            by (inl none) = absurd (no-name name none)
            by (inr (zero, within, is)) = is
            by (inr (suc i, within, is)) = absurd (omega (arith, within))

    right : (name : StateName) → Contains (before ++ told_at m led number) name → (k : ℕ) × IsUnled m k name
    right name has = by (Contains-append_cases before (told_at m led number) name has)
      where
        by : Contains before name ⊎ Contains (told_at m led number) name → (k : ℕ) × IsUnled m k name
        by (inl has) = tells.right name has
        by (inr has) = (number, here name _ _ _ refl refl refl has)

    told : (name : StateName) → IsUnled m number name → (s : Option State) (b : Bool) → slice_get (states_in m) number ≡ s → is_marked led number ≡ b → Contains (told_by (Some name) s b) name
    told name is None b stands marked = absurd (none_there (states_in m) is.stands stands)
      where
        none_there : (states : List State) → number < length states → slice_get states number ≡ None → ⊥
        none_there states within none = by (slice_get_cases states number).1
          where
            by : ((x : State) × (number < length states) × (slice_get states number ≡ Some x) × (get_or states number x ≡ x)) ⊎ ((length states ≤ number) × (slice_get states number ≡ None)) → ⊥
            by (inl (x, inside, is, itself)) = false≢true (ap is_some (sym none ∙ is))
            by (inr (past, is)) = absurd (omega (arith, within, past))
    told name is (Some state) true stands marked = absurd (is.unled ((exact.exact number is.stands).0 marked))
    told name is (Some state) false stands marked = Contains-push [] name

    all : (k : ℕ) (name : StateName) → k < number + 1 → IsUnled m k name → Contains (before ++ told_at m led number) name
    all k name sooner is = by (compared k number)
      where
        by : Same k number → Contains (before ++ told_at m led number) name
        by (same e) =
            let here = subst (λ j. IsUnled m j name) e is in
            Contains-append_right before (told_at m led number) name (subst (λ n. Contains (told_by n (slice_get (states_in m) number) (is_marked led number)) name) (sym here.named) (told name here _ _ refl refl))
        by (other e) = Contains-append_left before (told_at m led number) name (tells.all k name (omega (arith, sooner, e)) is)

-- those of all states
pub tells-all : (m : Machine) (many : ℕ) (names : List StateName) → TellsBelow m many names → length (states_in m) ≤ many → TellsUnled m names
tells-all m many names tells whole = record {
  right = tells.right;
  all = λ number name is. let stands = is.stands in tells.all number name (omega (arith, stands, whole)) is;
}
