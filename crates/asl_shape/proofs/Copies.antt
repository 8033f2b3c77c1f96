-- The fields of an object shape, copied in the order of their names, and shapes copied one after another.
use Rattle.std.proofs.Common.{◌≡◌, List, [], ◌∷◌, ◌++◌, map, String, Global, string_bytes, string_cmp, refl, ap, sym, ◌∙◌}
use Rattle.std.specs.BTreeMap.{insert_entry}
use Rattle.std.specs.List.Sorted.{IsStrictlySortedBy}
use Rattle.std.specs.Map.{keys_of}
use Rattle.std.proofs.lemmas.List.{map-append}
use Rattle.asl_model.specs.Shape as model
use Rattle.asl_tree.proofs.Texts.{after_first}
use Rattle.asl_shape.specs.View.{view, fields_view}
use Rattle.asl_shape.specs.declared.shape.Field.{Field}
use Rattle.asl_shape.specs.declared.shape.Shape.{Shape}
use Rattle.asl_shape.proofs.Spellings.{Mention, put, put_shown}

-- a name that is above those before it goes last
put_last : (done : List Mention) (m : Mention) (more : List Mention) → IsStrictlySortedBy string_cmp (keys_of (done ++ m ∷ more)) → put (string_bytes m.0) m.1.needed (view m.1.shape) (fields_view done) ≡ fields_view (done ++ m ∷ [])
unfolding IsStrictlySortedBy
put_last [] m more h = refl
put_last (first ∷ done) m more h =
    rw (after_first first done m more h.0) (ap (model.AndFieldShape (string_bytes first.0) first.1.needed (view first.1.shape)) (put_last done m more h.1))

-- a field equal to the next one goes behind those that are equal to the fields before it
pub field_copied : (done : List Mention) (m : Mention) (more : List Mention) (copies : List Mention) (k : String Global) (f : Field) → IsStrictlySortedBy string_cmp (keys_of (done ++ m ∷ more)) → fields_view copies ≡ fields_view done → string_bytes k ≡ string_bytes m.0 → f.needed ≡ m.1.needed → view f.shape ≡ view m.1.shape → fields_view (insert_entry string_cmp copies k f) ≡ fields_view (done ++ m ∷ [])
field_copied done m more copies k f sorted so_far named needed shape =
    put_shown copies k f ∙ rw (named, needed, shape, so_far) (put_last done m more sorted)

-- a shape that shows what the next one shows goes behind the others
pub pushed_shown : (copies new front next : List Shape) (s item : Shape) → map view copies ≡ map view front → view s ≡ view item → next ≡ front ++ item ∷ [] → new ≡ copies ++ s ∷ [] → map view new ≡ map view next
pushed_shown copies new front next s item so_far is more pushed =
    let here : (map view copies ++ view s ∷ []) ≡ (map view front ++ view item ∷ []) = rw (so_far, is) refl in
    ap (map view) pushed ∙ map-append view copies (s ∷ []) ∙ here ∙ sym (ap (map view) more ∙ map-append view front (item ∷ []))
