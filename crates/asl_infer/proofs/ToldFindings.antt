-- A finding that is told in a round stands for some certificate.
use Rattle.std.proofs.Common.{◌≡◌, ℕ, zero, suc, List, [], ◌∷◌, Contains, slice_get, Some, Result, Ok, Err, refl, sym, ap, ◌∙◌, subst, inl, inr}
use Rattle.asl_model.specs.Certificate.{Declared, StateShapes, gives_of, takes_of}
use Rattle.asl_model.specs.Edges.{Walked, destination_shapes}
use Rattle.asl_model.specs.Finding.{Breach, Finding, Surroundings, found_at, surrounded_by}
use Rattle.asl_model.specs.Inference.{IsBrokenAnyway, StandsForSome, finding_of}
use Rattle.asl_model.specs.Machine.{Scope, State, kind_of, settings_of}
use Rattle.asl_model.specs.Numbering.{Table, table_of}
use Rattle.asl_model.specs.Shape.{Shape}
use Rattle.asl_model.proofs.Listed.{first_in}
use Rattle.asl_draft_laws.specs.Drafts.{Draft, Row, after_rounds, all_walked, entry_of, input_taken, own_breaches, round, rows_of, steps_of, steps_taken, first_draft, misnamed, unless_found, unless_told, walked}
use Rattle.asl_draft_laws.proofs.CertifiedRows.{Among, row-known}
use Rattle.asl_infer.proofs.Listing.{own-along, own-of-machine}
use Rattle.asl_infer.proofs.BrokenRules.{walk_of_machine}
use Rattle.asl_infer.specs.Inferring.{IsOfMachine}

-- a rule stands for some certificate that is broken in a state whatever is certified elsewhere
abbrev pub StandsInTable : Type 0
StandsInTable = (machine : Scope) (declared : Declared) (i : ℕ) (n : List ℕ) (state : State) (entry : StateShapes) (breach : Breach) → slice_get (table_of machine).names i ≡ Some n → slice_get (table_of machine).states i ≡ Some state → IsBrokenAnyway declared n state entry breach → StandsForSome machine declared (finding_of n breach)

module _ (law : StandsInTable) (machine : Scope) (declared : Declared) where
  abbrev table : Table
  table = table_of machine

  -- in the walk through a state
  in-walk : (row : Row) (draft : Draft) (found : Finding) → Among (rows_of table) row → walked table declared row draft ≡ Err found → IsOfMachine machine declared found
  in-walk row draft found there h = go (own_breaches takes steps) refl h
    where
      entry : StateShapes
      entry = entry_of draft row

      steps : List Walked
      steps = steps_of declared draft row

      takes : Shape
      takes = takes_of declared row.name

      known : (slice_get table.names row.number ≡ Some row.name) × (slice_get table.states row.number ≡ Some row.state)
      known = row-known table row there

      anyway : (b : Breach) → Contains (own_breaches takes steps) b → IsBrokenAnyway declared row.name row.state entry b
      anyway b among inputs end =
          let around : Surroundings = surrounded_by declared inputs end row.name entry in
          own-along (destination_shapes around) steps b among

      go : (breaches : List Breach) → own_breaches takes steps ≡ breaches → unless_found (found_at row.name breaches) (steps_taken table row.number steps draft) ≡ Err found → IsOfMachine machine declared found
      go [] is e = absurd (cc)
      go (b ∷ further) is e =
          let told : finding_of row.name b ≡ found = cc in
          let among : Contains (own_breaches takes steps) b = subst (λ bs. Contains bs b) (sym is) (first_in b further) in
          subst (IsOfMachine machine declared) told (record {
            fault = own-of-machine takes steps b (walk_of_machine (gives_of declared row.name) (settings_of row.state) (kind_of row.state) entry).each among;
            stands = law machine declared row.number row.name row.state entry b known.0 known.1 (anyway b among);
          })

  -- in the walks through several
  in-walks : (rows : List Row) (draft : Draft) (found : Finding) → ((r : Row) → Among rows r → Among (rows_of table) r) → all_walked table declared rows draft ≡ Err found → IsOfMachine machine declared found
  in-walks [] draft found all h = absurd (cc)
  in-walks (row ∷ rows) draft found all h = go (walked table declared row draft) refl h (λ next e. in-walks rows next found (λ r a. all r (inr a)) e)
    where
      go : (r : Result Draft Finding) → walked table declared row draft ≡ r → unless_told (all_walked table declared rows) r ≡ Err found → ((next : Draft) → all_walked table declared rows next ≡ Err found → IsOfMachine machine declared found) → IsOfMachine machine declared found
      go (Ok next) is e further = further next e
      go (Err other) is e further =
          let same : other ≡ found = cc in
          in-walk row draft found (all row (inl refl)) (is ∙ ap Err same)

  -- in a round, and in so many
  in-round : (draft : Draft) (found : Finding) → round table declared draft ≡ Err found → IsOfMachine machine declared found
  in-round draft found h = in-walks (rows_of table) (input_taken table declared draft) found (λ r a. a) h

  -- of the names of tasks
  in-names : ((found : Finding) → Among (misnamed table declared) found → IsOfMachine machine declared found) → (found : Finding) → unless_found (misnamed table declared) (first_draft table) ≡ Err found → IsOfMachine machine declared found
  in-names names found h = go (misnamed table declared) refl h
    where
      go : (findings : List Finding) → misnamed table declared ≡ findings → unless_found findings (first_draft table) ≡ Err found → IsOfMachine machine declared found
      go [] is e = absurd (cc)
      go (first ∷ further) is e =
          let same : first ≡ found = cc in
          names found (subst (λ fs. Among fs found) (sym is) (inl same))

  pub in-rounds : ((found : Finding) → Among (misnamed table declared) found → IsOfMachine machine declared found) → (n : ℕ) (found : Finding) → after_rounds table declared n ≡ Err found → IsOfMachine machine declared found
  in-rounds names zero found h = in-names names found h
  in-rounds names (suc n) found h = go (after_rounds table declared n) refl h (in-rounds names n found)
    where
      go : (r : Result Draft Finding) → after_rounds table declared n ≡ r → unless_told (round table declared) r ≡ Err found → (after_rounds table declared n ≡ Err found → IsOfMachine machine declared found) → IsOfMachine machine declared found
      go (Ok draft) is e further = in-round draft found e
      go (Err other) is e further =
          let same : other ≡ found = cc in
          further (is ∙ ap Err same)
