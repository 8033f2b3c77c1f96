-- The shapes of a state in a table that has grown.
use Rattle.std.proofs.Common.{◌≡◌, List, length, refl}
use Rattle.asl_model.specs.Shape.{Shape}
use Rattle.asl_numbered.specs.Expansion.{Keeps}
use Rattle.asl_numbered.specs.Laws.{kept_item, kept_item_within, kept_numbers, kept_shape, kept_shapes, kept_within}
use Rattle.asl_state_edges.specs.Entry.{entry_view, IsEntryBelow}
use Rattle.asl_state_edges.specs.declared.found.Entry.{Entry}

pub entry_shown : (a b : List Shape) (entry : Entry) → Keeps a b → IsEntryBelow (length a) entry → entry_view b entry ≡ entry_view a entry
entry_shown a b entry keeps h =
    rw (kept_shape a b entry.input keeps h.input, kept_shape a b entry.output keeps h.output, kept_shapes a b entry.branches.now keeps h.branches, kept_item a b entry.item keeps h.item) refl

pub entry_within : (a b : List Shape) (entry : Entry) → Keeps a b → IsEntryBelow (length a) entry → IsEntryBelow (length b) entry
entry_within a b entry keeps h = record {
  input = kept_within a b entry.input keeps h.input;
  output = kept_within a b entry.output keeps h.output;
  branches = kept_numbers a b entry.branches.now keeps h.branches;
  item = kept_item_within a b entry.item keeps h.item;
}
