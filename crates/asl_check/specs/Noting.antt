-- What the checker notes: of each name that has a broken rule, the first.
use Rattle.std.specs.Prelude.{◌≡◌, ℕ, List, map, String, string_bytes, option_map}
use Rattle.std.specs.declared.alloc.Global.{Global}
use Rattle.asl_model.specs.Finding as finding
use Rattle.asl_tree.specs.View.{view as tree_view}
use Rattle.asl_state_edges.specs.View.{finding_fault_view}
use Rattle.asl_check.specs.Told.{first_of}
use Rattle.asl_check.specs.declared.noting.Noted.{Noted}

-- a rule that is told
abbrev pub noted_breach : Noted → finding.Breach
noted_breach rule = record {
  field = rule.field.now;
  fault = finding_fault_view rule.fault;
  example = option_map tree_view rule.example;
}

-- a noted rule, as a finding of its name
abbrev pub note_view : String Global × Noted → finding.Finding
note_view note = record {
  state = string_bytes note.0;
  field = note.1.field.now;
  fault = finding_fault_view note.1.fault;
  example = option_map tree_view note.1.example;
}

abbrev pub notes_view : List (String Global × Noted) → List finding.Finding
notes_view notes = map note_view notes

-- of each name the notes have the first of those rules
pub record AreNoted (rules notes : List finding.Finding) : Type 0 where
  pub first : (n : List ℕ) → first_of n notes ≡ first_of n rules
