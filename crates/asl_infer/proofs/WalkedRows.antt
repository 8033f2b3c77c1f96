-- Walks through the states of a table.
use Rattle.std.proofs.Common.{◌≡◌, ℕ, List, [], ◌∷◌, slice_get, Bool, true, false, Some, None, Ok, Err, refl, sym, ap, ◌∙◌, subst}
use Rattle.asl_model.specs.Certificate as model
use Rattle.asl_model.specs.Certificate.{takes_of}
use Rattle.asl_model.specs.Edges.{Walked}
use Rattle.asl_model.specs.Finding.{Breach, found_at}
use Rattle.asl_model.specs.Inference.{finding_of}
use Rattle.asl_model.specs.Numbering.{Table}
use Rattle.asl_model.proofs.RunOptions.{none_some, some_inj}
use Rattle.asl_draft_laws.specs.Drafts.{Draft, Row, own_breaches, steps_of, steps_taken, unless_found, walked}
use Rattle.asl_infer.specs.Rounds.{IsIn, IsNoRow, Tells, WalkTells, Walks, walked_by}
use Rattle.asl_infer.specs.declared.inferring.InferRefusal.{InferRefusal}
use Rattle.asl_infer.specs.declared.inferring.InferRefusal.TheVariants as refusal
use Rattle.asl_infer.specs.declared.rounds.Strictness.{Strictness}
use Rattle.asl_infer.specs.declared.rounds.Strictness.TheVariants.{Strict, Lenient}

-- ---- the row of a number

module _ (table : Table) where
  pub same-row : (one two : Row) → IsIn table one → IsIn table two → one.number ≡ two.number → one ≡ two
  same-row one two is also same =
      let name : one.name ≡ two.name = some_inj (sym is.named ∙ (ap (slice_get table.names) same ∙ also.named)) in
      let state : one.state ≡ two.state = some_inj (sym is.at ∙ (ap (slice_get table.states) same ∙ also.at)) in
      ap (λ n. let row : Row = record { number = n; name = one.name; state = one.state } in row) same
      ∙ (ap (λ m. let row : Row = record { number = two.number; name = m; state = one.state } in row) name
      ∙ ap (λ s. let row : Row = record { number = two.number; name = two.name; state = s } in row) state)

  -- there is none without a name, or without a state
  pub no-name : (number : ℕ) → slice_get table.names number ≡ None → IsNoRow table number
  no-name number none = record { none = λ row is same. none_some (sym none ∙ (ap (slice_get table.names) (sym same) ∙ is.named)) }

-- ---- walks

module _ (strictness : Strictness) (table : Table) (declared : model.Declared) where
  -- of the row of that number
  pub walks-row : (number : ℕ) (row : Row) (before after : Draft) → IsIn table row → row.number ≡ number → walked_by strictness table declared row before ≡ Ok after → Walks strictness table declared number before after
  walks-row number row before after is same h = record { walks = λ r also here. subst (λ (x : Row). walked_by strictness table declared x before ≡ Ok after) (same-row table row r is also (same ∙ sym here)) h }

  pub tells-row : (number : ℕ) (row : Row) (before : Draft) (why : InferRefusal) → IsIn table row → row.number ≡ number → Tells (walked_by strictness table declared row before) why → WalkTells strictness table declared number before why
  tells-row number row before why is same h = record { tells = λ r also here. subst (λ (x : Row). Tells (walked_by strictness table declared x before) why) (same-row table row r is also (same ∙ sym here)) h }

module _ (table : Table) (declared : model.Declared) where
  -- no rule is broken
  pub walked-whole : (row : Row) (steps : List Walked) (before after : Draft) → steps_of declared before row ≡ steps → own_breaches (takes_of declared row.name) steps ≡ [] → after ≡ steps_taken table row.number steps before → walked table declared row before ≡ Ok after
  walked-whole row steps before after seen whole made =
      ap (λ ss. unless_found (found_at row.name (own_breaches (takes_of declared row.name) ss)) (steps_taken table row.number ss before)) seen
      ∙ (ap (λ bs. unless_found (found_at row.name bs) (steps_taken table row.number steps before)) whole
      ∙ ap Ok (sym made))

  -- or the rounds are lenient
  pub walked-steps : (strictness : Strictness) (row : Row) (steps : List Walked) (before after : Draft) (are_whole : Bool) → steps_of declared before row ≡ steps → (are_whole ≡ true → own_breaches (takes_of declared row.name) steps ≡ []) → (are_whole ≡ false → strictness ≡ Lenient) → after ≡ steps_taken table row.number steps before → walked_by strictness table declared row before ≡ Ok after
  walked-steps Strict row steps before after true seen whole lenient made = walked-whole row steps before after seen (whole refl) made
  walked-steps Strict row steps before after false seen whole lenient made = absurd (let other : Strict ≡ Lenient = lenient refl in cc)
  walked-steps Lenient row steps before after are_whole seen whole lenient made = ap (λ ss. Ok (steps_taken table row.number ss before)) seen ∙ ap Ok (sym made)

  -- one is
  pub walked-broken : (row : Row) (before : Draft) (breach : Breach) → slice_get (own_breaches (takes_of declared row.name) (steps_of declared before row)) 0 ≡ Some breach → walked table declared row before ≡ Err (finding_of row.name breach)
  walked-broken row before breach h = by (own_breaches (takes_of declared row.name) (steps_of declared before row)) h
    where
      by : (breaches : List Breach) → slice_get breaches 0 ≡ Some breach → unless_found (found_at row.name breaches) (steps_taken table row.number (steps_of declared before row) before) ≡ Err (finding_of row.name breach)
      by [] e = absurd (cc)
      by (b ∷ further) e =
          let same : b ≡ breach = cc in
          ap (λ x. Err (finding_of row.name x)) same
