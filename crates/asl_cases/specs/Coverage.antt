-- What the runs of cases take of a machine.
use Rattle.std.specs.Prelude.{◌≡◌, ℕ, List, [], ◌∷◌, ◌++◌, map, take, length, Bool, true, false, not, ◌&&◌, if◌then◌else◌}
use Rattle.std.specs.Prelude.{nat_eq, nat_lt, bytes_eq, position, slice_get, IsTrue, All}
use Rattle.std.specs.Prelude.{Option, Some, None, is_some, option_map, option_to_list}
use Rattle.std.specs.List.{enumerate_from, filter, flat_map, list_all, list_any, range_with_len}
use Rattle.std.specs.Option.{option_eq, option_map_or}
use Rattle.std.specs.Result.{result_ok}
use Rattle.asl_model.specs.Flow.{effective_input}
use Rattle.asl_model.specs.Machine.{State, StateOf, Settings, Retrier, Kind, Choice}
use Rattle.asl_model.specs.Names.{StateName}
use Rattle.asl_model.specs.Numbering.{Table}
use Rattle.asl_model.specs.Run.{Entry, Entered, Retried, Caught}
use Rattle.asl_model.specs.Test.{Rule, same_truth, truth}
use Rattle.asl_model.specs.Tree.{Tree, Object, NoFields}
use Rattle.asl_tree.specs.View.{view}
use Rattle.asl_run.specs.Driving.{Told}
use Rattle.asl_cases.specs.declared.covered.Covered.{Covered}
use Rattle.asl_cases.specs.declared.coverage.Coverage.{Coverage}

-- ---- what there is to take

-- What a run may take of a state. Rules, retriers and catchers go by their numbers, counted from 0.
pub data Part : Type 0 where
  -- the state, by being entered
  Itself : Part
  -- a rule of a Choice, by being the first that is true
  RuleAt : ℕ → Part
  -- `Default`, by each rule being false
  ByDefault : Part
  -- a retrier, by retrying
  RetrierAt : ℕ → Part
  -- a catcher, by catching
  CatcherAt : ℕ → Part

-- the rules of a Choice; another type has none
abbrev pub rules_of : Kind → List Rule
rules_of (Choice rules default) = rules
rules_of kind = []

-- the `Default` of a Choice, where it is given
abbrev pub default_of : Kind → Option StateName
default_of (Choice rules default) = default
default_of kind = None

-- for each of a list what its number gives
abbrev pub by_number : {A B : Type 0} → (ℕ → B) → List A → List B
by_number give list = map give (range_with_len 0 (length list))

-- the retriers that may retry
abbrev pub retriers_in : List Retrier → List Part
retriers_in retriers = map (λ numbered. RetrierAt numbered.0)
    (filter (λ numbered. nat_lt 0 numbered.1.max_attempts) (enumerate_from 0 retriers))

-- all there is to take of a state
abbrev pub parts_of : State → List Part
parts_of (StateOf settings kind) =
    Itself ∷ (by_number RuleAt (rules_of kind) ++ (option_to_list (option_map (λ next. ByDefault) (default_of kind))
    ++ (retriers_in settings.retriers ++ by_number CatcherAt settings.catchers)))

-- ---- what is taken

-- the effective input of a Choice, which has no `Parameters`; None where `InputPath` names nothing
abbrev pub choice_input : Settings → Tree → Option Tree
choice_input settings raw = result_ok (effective_input (record settings { parameters = None }) raw)

-- the rule's test has that truth on an input
abbrev pub has_truth : Bool → Tree → Rule → Bool
has_truth wanted input rule = option_map_or (same_truth wanted) (truth rule.test input) false

-- each of the rules is false
abbrev pub are_false : List Rule → Tree → Bool
are_false rules input = list_all (has_truth false input) rules

-- the rule of that number is true, and those before it are false
abbrev pub is_first_true : List Rule → ℕ → Tree → Bool
is_first_true rules i input =
    option_map_or (has_truth true input) (slice_get rules i) false && are_false (take i rules) input

-- an entry takes that part of the state of which it tells
abbrev pub takes : State → Entry → Part → Bool
takes (StateOf settings kind) (Entered n raw) Itself = true
takes (StateOf settings kind) (Entered n raw) (RuleAt i) =
    option_map_or (is_first_true (rules_of kind) i) (choice_input settings raw) false
takes (StateOf settings kind) (Entered n raw) ByDefault =
    is_some (default_of kind) && option_map_or (are_false (rules_of kind)) (choice_input settings raw) false
takes (StateOf settings kind) (Retried n i) (RetrierAt j) = nat_eq i j
takes (StateOf settings kind) (Caught n i next) (CatcherAt j) = nat_eq i j
takes (StateOf settings kind) entry part = false

-- the name of the state of which an entry takes something
abbrev pub taker : Entry → Option StateName
taker (Entered n raw) = Some n
taker (Retried n i) = Some n
taker (Caught n i next) = Some n
taker entry = None

-- that is the name of the state of that number
abbrev pub is_name_of : Table → ℕ → StateName → Bool
is_name_of table number n = option_eq nat_eq (position (bytes_eq n) table.names) (Some number)

-- an entry takes that part of the state of that number
abbrev pub takes_there : Table → ℕ → State → Part → Entry → Bool
takes_there table number state part entry =
    option_map_or (is_name_of table number) (taker entry) false && takes state entry part

-- one of the entries that are told takes it
abbrev pub is_taken : Table → Told → ℕ → State → Part → Bool
is_taken table told number state part =
    list_any (λ entry. takes_there table number state part entry.1) told

-- Everything is covered: all that there is to take of each state is taken.
abbrev pub IsCovered : Table → Told → Type 0
IsCovered table told = (number : ℕ) (state : State) → slice_get table.states number ≡ Some state
    → All (λ part. IsTrue (is_taken table told number state part)) (parts_of state)

-- ---- what is lacking

-- those parts that aren't taken
abbrev pub untaken : (Part → Bool) → List Part → List Part
untaken taken parts = filter (λ part. not (taken part)) parts

-- what is lacking of a state: itself where it isn't entered, else what of it isn't taken
abbrev pub lacking_of : (Part → Bool) → State → List Part
lacking_of taken state = if taken Itself then untaken taken (parts_of state) else Itself ∷ []

-- what is lacking of a machine, state by state
abbrev pub lacking : Table → Told → List Part
lacking table told =
    flat_map (λ s. lacking_of (is_taken table told s.0 s.1) s.1) (enumerate_from 0 table.states)

-- ---- what is noted

-- what is noted of a state: for each part whether it is taken
pub record Flags : Type 0 where
  pub entered : Bool
  pub rules : List Bool
  pub default : Bool
  pub retriers : List Bool
  pub catchers : List Bool

-- each flag is set exactly where its part is taken
abbrev pub flags_of : (Part → Bool) → State → Flags
flags_of taken (StateOf settings kind) = record {
  entered = taken Itself;
  rules = by_number (λ i. taken (RuleAt i)) (rules_of kind);
  default = taken ByDefault;
  retriers = by_number (λ i. taken (RetrierAt i)) settings.retriers;
  catchers = by_number (λ i. taken (CatcherAt i)) settings.catchers;
}

-- the flags of a state in the code
abbrev pub flags_view : Covered → Flags
flags_view covered = record {
  entered = covered.entered;
  rules = covered.rules.items;
  default = covered.default;
  retriers = covered.retriers.items;
  catchers = covered.catchers.items;
}

-- what is noted of each state is exactly what is taken of it
pub record AreFlagsOf (table : Table) (told : Told) (states : List Covered) : Type 0 where
  pub many : length states ≡ length table.states
  pub each : (number : ℕ) (state : State) (covered : Covered) → slice_get table.states number ≡ Some state
      → slice_get states number ≡ Some covered
      → flags_view covered ≡ flags_of (is_taken table told number state) state

-- That coverage is of those runs: it notes exactly what they take.
pub record IsCoverageOf (table : Table) (told : Told) (coverage : Coverage) : Type 0 where
  -- what stands for the effective input where `InputPath` is null
  pub empty : view coverage.empty ≡ Object NoFields
  pub noted : AreFlagsOf table told coverage.states.items
