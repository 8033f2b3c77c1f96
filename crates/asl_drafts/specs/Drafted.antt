-- A draft of the code, as it is defined. No public clause cites this module.
use Rattle.std.specs.Prelude.{◌+◌, ℕ, List, [], Option, Some, None, slice_get}
use Rattle.std.specs.Option.{option_and_then, unwrap_or}
use Rattle.asl_model.specs.Certificate.{StateShapes}
use Rattle.asl_model.specs.Machine.{Kind}
use Rattle.asl_draft_laws.specs.Drafts as model
use Rattle.asl_drafts.specs.Entries.{entries_room, entries_view, growing_in, numbers_in}
use Rattle.asl_drafts.specs.Growing.{growth_view}
use Rattle.asl_drafts.specs.declared.draft.Draft.{Draft}
use Rattle.asl_drafts.specs.declared.draft.Target.{Target}
use Rattle.asl_drafts.specs.declared.draft.Target.TheVariants as target
use Rattle.asl_drafts.specs.declared.entries.DraftEntry.{DraftEntry}
use Rattle.asl_drafts.specs.declared.entries.Part.{Part}
use Rattle.asl_drafts.specs.declared.entries.Part.TheVariants as part
use Rattle.asl_drafts.specs.declared.growing.Growing.{Growing}

-- its shapes
abbrev pub draft_view : Draft → model.Draft
draft_view draft = record {
  output = growth_view draft.store draft.output;
  entries = entries_view draft.store draft.entries.items;
}

-- the entry of the state of that number, and what it comes to for a state of that type
abbrev pub entry_at : model.Draft → ℕ → model.DraftEntry
entry_at draft n = unwrap_or (slice_get draft.entries n) (model.first_entry 0)

abbrev pub shapes_of : model.Draft → ℕ → Kind → StateShapes
shapes_of draft n kind = model.entry_with kind (entry_at draft n)

-- one of its shapes
abbrev pub target_view : Target → model.Target
target_view target.MachineOutput = model.MachineOutput
target_view (target.Input state) = model.Input state
target_view (target.Output state) = model.Output state
target_view (target.End state child) = model.End state child

-- the state whose entry has it, and which of the entry's it is; none has the machine's output
abbrev pub part_of : Target → Option (ℕ × Part)
part_of target.MachineOutput = None
part_of (target.Input state) = Some (state, part.Input)
part_of (target.Output state) = Some (state, part.Output)
part_of (target.End state child) = Some (state, part.End child)

-- how often they may still change
abbrev pub room : model.Draft → ℕ
room draft = draft.output.changes_left + entries_room draft.entries

-- the growing shape of the code, if it is there
abbrev pub growing_at : Draft → Option (ℕ × Part) → Option Growing
growing_at draft None = Some draft.output
growing_at draft (Some place) = option_and_then (growing_in place.1) (slice_get draft.entries.items place.0)

abbrev pub growing_of : Draft → Target → Option Growing
growing_of draft t = growing_at draft (part_of t)

-- the numbers of the shapes of the state of that number; where it has no entry, that one, and no ends
abbrev pub numbers_or : ℕ → Option DraftEntry → ℕ × ℕ × List ℕ
numbers_or never None = (never, never, [])
numbers_or never (Some entry) = numbers_in entry

abbrev pub numbers_at : Draft → ℕ → ℕ → ℕ × ℕ × List ℕ
numbers_at draft n never = numbers_or never (slice_get draft.entries.items n)
