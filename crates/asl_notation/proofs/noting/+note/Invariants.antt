use Rattle.std.proofs.Common.{◌≡◌, ◌+◌, ◌*◌, ◌++◌, drop, map, string_bytes}
use Rattle.asl_numbered.specs.Expansion.{shapes_at, fields_at}
use Rattle.asl_notation.specs.Notation.{noted, places_noted, fields_noted}
use Rattle.asl_notation.proofs.noting.+note.Given as goal

abbrev pub decreases-note : goal.decreases-note
decreases-note l = 6 * l.limits.depth + 5

abbrev pub decreases-note_kinds : goal.decreases-note_kinds
decreases-note_kinds l = 6 * l.limits.depth + 4

abbrev pub decreases-push_lists : goal.decreases-push_lists
decreases-push_lists l = 6 * l.limits.depth + 3

abbrev pub decreases-push_objects : goal.decreases-push_objects
decreases-push_objects l = 6 * l.limits.depth + 3

abbrev pub decreases-push_elements : goal.decreases-push_elements
decreases-push_elements l = 6 * l.limits.depth + 2

abbrev pub decreases-push_members : goal.decreases-push_members
decreases-push_members l = 6 * l.limits.depth + 2

abbrev pub decreases-push_places : goal.decreases-push_places
decreases-push_places l = 6 * l.limits.depth + 7

abbrev pub decreases-push_rest : goal.decreases-push_rest
decreases-push_rest l = 6 * l.limits.depth + 7

abbrev pub decreases-push_fields : goal.decreases-push_fields
decreases-push_fields l = 6 * l.limits.depth + 7

abbrev pub decreases-note_field : goal.decreases-note_field
decreases-note_field l = 6 * l.limits.depth + 6

abbrev pub invariant-push_places-loop-place : goal.invariant-push_places-loop-place
invariant-push_places-loop-place l =
    (map string_bytes l.initial.parts.items ++ places_noted (noted l.limits.depth l.limits.width) l.limits.width (shapes_at l.shapes l.places))
    ≡ (map string_bytes l.parts.items ++ places_noted (noted l.limits.depth l.limits.width) l.left (shapes_at l.shapes (drop l.place-index l.places)))

abbrev pub invariant-push_fields-loop-name : goal.invariant-push_fields-loop-name
invariant-push_fields-loop-name l =
    (map string_bytes l.initial.parts.items ++ fields_noted (noted l.limits.depth l.limits.width) l.limits.width (fields_at l.shapes l.fields.entries))
    ≡ (map string_bytes l.parts.items ++ fields_noted (noted l.limits.depth l.limits.width) l.left (fields_at l.shapes l.name-iterator))
