use Rattle.std.proofs.Common.{◌≡◌, ℕ, ◌+◌, ◌*◌, ◌≤◌, length}
use Rattle.json.specs.Json.{items, members, value, parse_map}
use Rattle.serde_json.specs.Read.{converted}
use Rattle.asl_tree.specs.Parsed.{spelled_elements, spelled_fields}
use Rattle.asl_tree.specs.View.{entries_view}
use Rattle.asl_tree.proofs.Parsed.{AreFound, trees_before}
use Rattle.asl_tree.proofs.parsing.+parse.Given as goal

abbrev pub decreases-next_tree : goal.decreases-next_tree
decreases-next_tree l = 2 * l.levels

abbrev pub decreases-elements : goal.decreases-elements
decreases-elements l = 2 * l.levels + 1

abbrev pub decreases-fields : goal.decreases-fields
decreases-fields l = 2 * l.levels + 1

abbrev pub invariant-elements-elements : goal.invariant-elements-elements
invariant-elements-elements l =
    (n : ℕ) × (length l.reader ≤ n)
    × (converted spelled_elements (items (value l.levels) (length l.initial.reader) l.initial.reader) ≡ parse_map (trees_before l.elements.items) (converted spelled_elements (items (value l.levels) n l.reader)))
    × (length l.reader ≤ length l.initial.reader)

abbrev pub decreases-elements-elements : goal.decreases-elements-elements
decreases-elements-elements l = length l.reader

abbrev pub invariant-fields-fields : goal.invariant-fields-fields
invariant-fields-fields l =
    (n : ℕ) × (length l.reader ≤ n)
    × AreFound (value l.levels) n l.reader (entries_view l.fields.entries) (converted spelled_fields (members (value l.levels) (length l.initial.reader) l.initial.reader))
    × (length l.reader ≤ length l.initial.reader)

abbrev pub decreases-fields-fields : goal.decreases-fields-fields
decreases-fields-fields l = length l.reader
