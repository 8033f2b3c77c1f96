-- Errors that are taken, and those that may be raised.
use Rattle.std.specs.Prelude.{◌≡◌, ◌||◌, ℕ, List, Bool, true, codes, nat_eq}
use Rattle.std.specs.List.{list_any, starts_with}
use Rattle.std.specs.Borrow.{Bor}
use Rattle.std.specs.Cmp.Lexicographic.{slice_cmp}
use Rattle.std.specs.Ordering.{is_eq, nat_cmp}
use Rattle.asl_model.specs.Names.{ErrorName}
use Rattle.asl_model.specs.Machine.{is_task}
use Rattle.asl_states.specs.Machine.{kind_view}
use Rattle.asl_states.specs.declared.states.State.{State}
use Rattle.asl_warnings.specs.declared.raising.Raised.{Raised}
use Rattle.asl_warnings.specs.declared.raising.Raised.TheVariants as raised

-- one of the names is that one
abbrev pub has_name : List (Bor (List ℕ)) → ErrorName → Bool
has_name names name = list_any (λ other. is_eq (slice_cmp nat_cmp name other.now)) names

-- an interpreter itself may raise it
abbrev pub is_reserved : ErrorName → Bool
is_reserved name = starts_with nat_eq name (codes "States.") || starts_with nat_eq name (codes "Path.")

-- it may be raised
abbrev pub may_raise : Raised → ErrorName → Bool
may_raise raised.Any name = true
may_raise (raised.Named names) name = is_reserved name || has_name names.keys name

-- at a Task every error may be raised
pub record RaisesAll (state : State) (raised : Raised) : Type 0 where
  pub all : is_task (kind_view state.kind) ≡ true → (error : ErrorName) → may_raise raised error ≡ true
