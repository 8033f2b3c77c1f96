-- Numbers for the shapes of what stands in a list or a map, as they grow.
use Rattle.std.proofs.Common.{◌≡◌, ℕ, List, [], ◌∷◌, ◌++◌, length, map, true, String, Global, string_bytes, string_cmp, refl, ap, ◌∙◌}
use Rattle.std.specs.BTreeMap.{insert_entry}
use Rattle.std.specs.List.Sorted.{IsStrictlySortedBy}
use Rattle.std.specs.Map.{keys_of}
use Rattle.asl_model.specs.Shape as model
use Rattle.asl_shape.specs.View.{shapes_of}
use Rattle.asl_numbered.specs.declared.node.NodeField.{NodeField}
use Rattle.asl_numbered.specs.Expansion.{shape_at, shapes_at, fields_at, AreNumbersOf, AreFieldsOf, Keeps, Shows}
use Rattle.asl_numbered.proofs.Appending.{names, shared_names, appended_by}
use Rattle.asl_numbered.proofs.Growing.{numbers_push, numbers_kept, fields_kept}
use Rattle.asl_numbered.specs.Laws.{below-append}
use Rattle.asl_flow.proofs.Needed.{needed_by}
use Rattle.std.specs.Rc.{rc_str_bytes}
use Rattle.asl_numbered.specs.Names.{Name, name_cmp}

-- the shapes of what stands in a list
abbrev pub shapes_by : {V : Type 0} → (V → model.Shape) → List V → model.Shapes
shapes_by shape vs = shapes_of (map shape vs)

-- ---- one more

module _ {V : Type 0} (shape : V → model.Shape) where
  shapes-push : (table : List model.Shape) (ns : List ℕ) (n : ℕ) (vs : List V) (v : V) → shapes_at table ns ≡ shapes_by shape vs → shape_at table n ≡ shape v → shapes_at table (ns ++ n ∷ []) ≡ shapes_by shape (vs ++ v ∷ [])
  shapes-push table [] n [] v e own = ap (λ x. model.AndShape x model.NoShapes) own
  shapes-push table [] n (other ∷ vs) v e own = absurd (cc)
  shapes-push table (m ∷ ns) n [] v e own = absurd (cc)
  shapes-push table (m ∷ ns) n (other ∷ vs) v e own =
      let here : shape_at table m ≡ shape other = cc in
      let behind : shapes_at table ns ≡ shapes_by shape vs = cc in
      rw (here, shapes-push table ns n vs v behind own) refl

  same-names : (table : List model.Shape) (fs : List (Name × NodeField)) (es : List (String Global × V)) → fields_at table fs ≡ needed_by shape es → shared_names fs ≡ names es
  same-names table [] [] e = refl
  same-names table [] (first ∷ es) e = absurd (cc)
  same-names table (f ∷ fs) [] e = absurd (cc)
  same-names table (f ∷ fs) (first ∷ es) e =
      let own : rc_str_bytes f.0 ≡ string_bytes first.0 = cc in
      let behind : fields_at table fs ≡ needed_by shape es = cc in
      rw (own, same-names table fs es behind) refl

  fields-push : (table : List model.Shape) (fs : List (Name × NodeField)) (k : Name) (f : NodeField) (es : List (String Global × V)) (e : String Global × V) → fields_at table fs ≡ needed_by shape es → rc_str_bytes k ≡ string_bytes e.0 → f.needed ≡ true → shape_at table f.shape ≡ shape e.1 → fields_at table (fs ++ (k, f) ∷ []) ≡ needed_by shape (es ++ e ∷ [])
  fields-push table [] k f [] e same named needed own = rw (named, needed, own) refl
  fields-push table [] k f (first ∷ es) e same named needed own = absurd (cc)
  fields-push table (g ∷ fs) k f [] e same named needed own = absurd (cc)
  fields-push table (g ∷ fs) k f (first ∷ es) e same named needed own =
      let name : rc_str_bytes g.0 ≡ string_bytes first.0 = cc in
      let also : g.1.needed ≡ true = cc in
      let here : shape_at table g.1.shape ≡ shape first.1 = cc in
      let behind : fields_at table fs ≡ needed_by shape es = cc in
      rw (name, also, here, fields-push table fs k f es e behind named needed own) refl

  -- one more number, in a table that has grown
  pub number_more : (old new : List model.Shape) (before after : List V) (v : V) (ns ms : List ℕ) (n : ℕ) → Keeps old new → AreNumbersOf old (shapes_by shape before) ns → Shows new (shape v) n → after ≡ before ++ v ∷ [] → ms ≡ ns ++ n ∷ [] → AreNumbersOf new (shapes_by shape after) ms
  number_more old new before after v ns ms n keeps are is more also =
      let now = numbers_kept old new (shapes_by shape before) ns keeps are in
      rw (more, also) (record { within = below-append (length new) ns (n ∷ []) now.within (is.within, tt); same = shapes-push new ns n before v now.same is.same })

  -- one more field, whose name comes last
  pub field_more : (old new : List model.Shape) (before left : List (String Global × V)) (e : String Global × V) (fs gs : List (Name × NodeField)) (k : Name) (f : NodeField) → IsStrictlySortedBy string_cmp (keys_of (before ++ e ∷ left)) → Keeps old new → AreFieldsOf old (needed_by shape before) fs → rc_str_bytes k ≡ string_bytes e.0 → f.needed ≡ true → Shows new (shape e.1) f.shape → gs ≡ insert_entry name_cmp fs k f → AreFieldsOf new (needed_by shape (before ++ e ∷ [])) gs
  field_more old new before left e fs gs k f sorted keeps are named needed is inserted =
      let now = fields_kept old new (needed_by shape before) fs keeps are in
      let last : gs ≡ fs ++ (k, f) ∷ [] = inserted ∙ appended_by string_bytes rc_str_bytes before e left fs k f sorted (same-names new fs before now.same) named in
      rw last (record { within = numbers_push (length new) fs k f now.within is.within; same = fields-push new fs k f before e now.same named needed is.same })
