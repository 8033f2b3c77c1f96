-- The walk through a certified state.
use Rattle.std.proofs.Common.{◌≡◌, ◌<◌, ℕ, List, length, map, None, Some, Bor, option_map, sym, ap, ◌∙◌, subst}
use Rattle.asl_model.specs.Certificate.{Declared, StateShapes, TaskShapes, gives_among, gives_of, under}
use Rattle.asl_model.specs.Edges.{Walked, walk}
use Rattle.asl_model.specs.Machine.{Kind, Settings}
use Rattle.asl_model.specs.Shape.{Shape}
use Rattle.asl_shape.proofs.Views.{view_any}
use Rattle.asl_shape.specs.View.{view}
use Rattle.asl_shape.specs.declared.shape.Shape as shape
use Rattle.asl_numbered.specs.Expansion.{shape_at, AreBelow, IsNumberOf, Keeps}
use Rattle.asl_numbered.specs.Laws.{kept_shape, kept_within}
use Rattle.asl_records.specs.Numbered.{numbers_view, AreNumbersBelow}
use Rattle.asl_records.specs.declared.records.StateNumbers.{StateNumbers}
use Rattle.asl_records.specs.Laws.{numbers_shown, numbers_within}
use Rattle.asl_state_edges.specs.Entry.{entry_view, IsEntryBelow}
use Rattle.asl_state_edges.specs.declared.found.Entry.{Entry}

-- ---- what its task gives

pub task_gives : (a : List Shape) (declared : Declared) (n : List ℕ) (task : TaskShapes) (gives : ℕ) → Some task ≡ under n declared.tasks → IsNumberOf a task.gives gives → shape_at a gives ≡ gives_of declared n
task_gives a declared n task gives known is = is.same ∙ ap gives_among known

pub any_gives : (a : List Shape) (declared : Declared) (n : List ℕ) (any : ℕ) → None ≡ under n declared.tasks → IsNumberOf a (view shape.Any) any → shape_at a any ≡ gives_of declared n
any_gives a declared n any missing is = is.same ∙ view_any ∙ ap gives_among missing

-- ---- its entry, with an input of its own

module _ (entry : StateNumbers) (input : ℕ) (branches : Bor (List ℕ)) (are : branches.now ≡ entry.branches.items) where
  abbrev entered : Entry
  entered = record { input = input; output = entry.output; branches = branches; item = entry.item }

  own : (table : List Shape) → entry_view table entered ≡ record (numbers_view table entry) { input = shape_at table input }
  own table = ap (λ ns. record { input = shape_at table input; output = shape_at table entry.output; branches = map (shape_at table) ns; item = option_map (shape_at table) entry.item }) are

  module _ (a b : List Shape) (keeps : Keeps a b) (below : AreNumbersBelow (length a) entry) (input_below : input < length a) where
    pub entered_below : IsEntryBelow (length b) entered
    entered_below =
        let now = numbers_within a b keeps entry below in
        record { input = kept_within a b input keeps input_below; output = now.output; branches = subst (AreBelow (length b)) (sym are) now.branches; item = now.item }

    -- it is walked with the shape that the input has had
    pub entered_view : entry_view b entered ≡ record (numbers_view a entry) { input = shape_at a input }
    entered_view = own b ∙ (ap (λ (own : StateShapes). record own { input = shape_at b input }) (numbers_shown a b keeps entry below) ∙ ap (λ (s : Shape). record (numbers_view a entry) { input = s }) (kept_shape a b input keeps input_below))

    pub entered_walk : (gives given : Shape) (settings : Settings) (kind : Kind) (steps : List Walked) → gives ≡ given → steps ≡ walk gives settings kind (entry_view b entered) → steps ≡ walk given settings kind (record (numbers_view a entry) { input = shape_at a input })
    entered_walk gives given settings kind steps same is = is ∙ ap (λ (e : StateShapes). walk gives settings kind e) entered_view ∙ ap (λ s. walk s settings kind (record (numbers_view a entry) { input = shape_at a input })) same
