-- How often the shapes of the first draft may change.
use Rattle.std.proofs.Common.{◌≡◌, ◌+◌, ◌*◌, ℕ, zero, suc, List, [], ◌∷◌, map, replicate, refl, arith}
use Rattle.std.specs.Prelude.{sum_by}
use Rattle.std.proofs.lemmas.List.Sums.{sum_by-cons}
use Rattle.asl_model.specs.Machine.{State, kind_of}
use Rattle.asl_model.specs.Numbering.{Table}
use Rattle.asl_draft_laws.specs.Drafts.{DraftEntry, Growth, children_in, first_draft, first_entry, ungrown}
use Rattle.asl_drafts.specs.Drafted.{room}
use Rattle.asl_drafts.specs.Entries.{ends_room, entries_room, entry_room}
use Rattle.asl_infer.specs.Inferring.{certified_shapes}

replicated : (n : ℕ) → ends_room (replicate n ungrown) ≡ 33 * n
replicated zero = refl
replicated (suc n) = omega (arith, sum_by-cons (λ (g : Growth). g.changes_left) ungrown (replicate n ungrown), replicated n)

-- the first entry of a state
abbrev first_of_state : State → DraftEntry
first_of_state state = first_entry (children_in (kind_of state))

entries-first : (states : List State) → entries_room (map first_of_state states) ≡ 33 * sum_by (λ (state : State). 2 + children_in (kind_of state)) states
entries-first [] = refl
entries-first (state ∷ states) =
    omega (
      arith,
      sum_by-cons entry_room (first_of_state state) (map first_of_state states),
      sum_by-cons (λ (s : State). 2 + children_in (kind_of s)) state states,
      replicated (children_in (kind_of state)),
      entries-first states,
    )

pub first-room : (table : Table) → room (first_draft table) ≡ 33 * certified_shapes table
first-room table = omega (arith, entries-first table.states)
