-- The states that wait, and their turns. No public clause but those of `Waiting` cites this module.
use Rattle.std.specs.Prelude.{◌≡◌, ◌<◌, ◌≤◌, ℕ, List, length, Bool, false, true, Some, slice_get}
use Rattle.std.specs.BTreeSet.{BTreeSet, contains}
use Rattle.std.specs.Option.{unwrap_or}
use Rattle.std.specs.Ordering.{nat_cmp}
use Rattle.asl_drafts.specs.declared.waiting.Turn.{Turn}

-- the state of that number waits
abbrev pub waits_in : List Bool → ℕ → Bool
waits_in waits n = unwrap_or (slice_get waits n) false

-- no number stands twice in the order
pub record StandOnce (order : List ℕ) : Type 0 where
  pub once : (i j n : ℕ) → slice_get order i ≡ Some n → slice_get order j ≡ Some n → i ≡ j

-- each number has a place where it stands in the order, or one that isn't in the order
pub record ArePlaced (order places : List ℕ) : Type 0 where
  pub stands : (n place : ℕ) → slice_get places n ≡ Some place → place < length order
      → slice_get order place ≡ Some n
  pub placed : StandOnce order → (n place : ℕ) → slice_get order place ≡ Some n → n < length places
      → slice_get places n ≡ Some place

-- the turns are at the first so many of the places
pub record AreTurnsAt (places : List ℕ) (many : ℕ) (turns : BTreeSet ℕ) : Type 0 where
  pub each : (n place : ℕ) → n < many → slice_get places n ≡ Some place → contains nat_cmp turns place ≡ true
  pub only : (place : ℕ) → contains nat_cmp turns place ≡ true → (n : ℕ) × (slice_get places n ≡ Some place)

-- the turns are the places of the states that wait, so far as they are in the order
pub record AreQueued (order places : List ℕ) (waits : List Bool) (turns : BTreeSet ℕ) : Type 0 where
  pub many : length places ≡ length waits
  pub placed : ArePlaced order places
  pub queued : (n place : ℕ) → slice_get places n ≡ Some place → place < length order
      → waits_in waits n ≡ true → contains nat_cmp turns place ≡ true
  pub turn_waits : (n place : ℕ) → contains nat_cmp turns place ≡ true → slice_get order place ≡ Some n
      → waits_in waits n ≡ true
  pub turn_placed : (n place : ℕ) → contains nat_cmp turns place ≡ true → slice_get order place ≡ Some n
      → slice_get places n ≡ Some place

-- none waits of the states that stand from one place on and before the other
pub record NoneWaits (order : List ℕ) (waits : List Bool) (from to : ℕ) : Type 0 where
  pub none : StandOnce order → (n place : ℕ) → from ≤ place → place < to → slice_get order place ≡ Some n
      → waits_in waits n ≡ false

-- the turn is that of a state that waits and stands from that place on, and none before it waits
pub record IsNextTurn (order : List ℕ) (waits : List Bool) (from : ℕ) (turn : Turn) : Type 0 where
  pub after : from ≤ turn.place
  pub stands : slice_get order turn.place ≡ Some turn.number
  pub turn_waits : waits_in waits turn.number ≡ true
  pub passed : NoneWaits order waits from turn.place
