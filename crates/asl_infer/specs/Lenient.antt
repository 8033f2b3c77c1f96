-- Lenient rounds (the profile's own): those of an inference in which no rule is told. What flows at the steps of a state is
-- taken in whatever rules are broken there. Nothing flows on where one is broken on the way, so no tree has the input of
-- a state that lies behind it alone.
use Rattle.std.specs.Prelude.{◌≡◌, ◌≢◌, ◌<◌, ℕ, zero, suc}
use Rattle.std.specs.List.{fold}
use Rattle.asl_model.specs.Certificate.{Certificate, Declared}
use Rattle.asl_model.specs.Numbering.{Table}
use Rattle.asl_draft_laws.specs.Drafts.{Draft, Row, certificate_of, first_draft, input_taken, rows_of, steps_of, steps_taken}

-- the draft after the walk through a state, whatever rules are broken there
abbrev pub lenient_walk : Table → Declared → Draft → Row → Draft
lenient_walk table declared draft row = steps_taken table row.number (steps_of declared draft row) draft

-- the draft after one more round
abbrev pub lenient_round : Table → Declared → Draft → Draft
lenient_round table declared draft = fold (lenient_walk table declared) (input_taken table declared draft) (rows_of table)

-- the draft after so many rounds
abbrev pub after_lenient_rounds : Table → Declared → ℕ → Draft
after_lenient_rounds table declared zero = first_draft table
after_lenient_rounds table declared (suc n) = lenient_round table declared (after_lenient_rounds table declared n)

-- The draft is one that a round leaves as it is, after fewer than so many of them: the rounds settle on it.
pub record SettlesLeniently (table : Table) (declared : Declared) (rounds : ℕ) (draft : Draft) : Type 0 where
  pub before : ℕ
  pub within : before < rounds
  pub comes : after_lenient_rounds table declared before ≡ draft
  pub stays : lenient_round table declared draft ≡ draft

-- the certificate is that of the draft on which the rounds settle
pub record IsInferredLeniently (table : Table) (declared : Declared) (rounds : ℕ) (certificate : Certificate)
    : Type 0 where
  pub draft : Draft
  pub settles : SettlesLeniently table declared rounds draft
  pub same : certificate ≡ certificate_of table draft

-- each of the rounds changes the draft before it
pub record NeverSettlesLeniently (table : Table) (declared : Declared) (rounds : ℕ) : Type 0 where
  pub changes : (n : ℕ) → n < rounds
      → after_lenient_rounds table declared (suc n) ≢ after_lenient_rounds table declared n
