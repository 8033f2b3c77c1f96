-- What stands in a line of a trace. No public clause cites this module.
use Rattle.std.specs.Prelude.{ℕ, pos, List, [], ◌∷◌, ◌++◌, codes}
use Rattle.std.specs.Borrow.{Bor}
use Rattle.asl_model.specs.Json.{compact_text}
use Rattle.asl_model.specs.TracePrinted.{numbers}
use Rattle.asl_model.specs.Tree.{Tree, Integer, Text, Array}
use Rattle.asl_tree.specs.View.{view}
use Rattle.asl_trace.specs.declared.shown.Shown.{Shown}
use Rattle.asl_trace.specs.declared.shown.Shown.TheVariants as shown

-- a place as the list of its numbers
abbrev pub place_tree : List ℕ → Tree
place_tree at = Array (numbers at)

-- what is shown
abbrev pub shown_tree : Shown → Tree
shown_tree (shown.Text text) = Text text.now
shown_tree (shown.Name name) = Text name.now
shown_tree (shown.Number n) = Integer (pos n)
shown_tree (shown.Place at) = place_tree at.now
shown_tree (shown.Datum datum) = view datum.now.value

-- the texts that stand in front of what is shown, each with the text of that, up to the end of the line
abbrev pub line_of : List (Bor (List ℕ) × Shown) → List ℕ
line_of [] = codes "}\n"
line_of (field ∷ fields) = field.0.now ++ (compact_text (shown_tree field.1) ++ line_of fields)

-- the line that shows a datum of a state, with what stands between it and the place
abbrev pub data_line : List ℕ → List ℕ → Tree → List ℕ → List ℕ
data_line at front datum state =
    codes "{\"at\":" ++ (compact_text (place_tree at) ++ (front ++ (compact_text datum ++ (codes ",\"state\":"
    ++ (compact_text (Text state) ++ codes "}\n")))))
