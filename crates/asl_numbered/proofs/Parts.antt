-- The join of two shapes of a table, made of the joins of their parts.
use Rattle.std.proofs.Common.{◌≡◌, ◌<◌, ◌≤◌, ℕ, min, List, length, map, take, drop, arith, [], ◌∷◌, ◌++◌, Bool, true, false, ◌&&◌, ◌||◌, Option, Some, None, Ordering, Less, Equal, Greater, nat_cmp, bytes_eq, option_map, unwrap_or, is_some, Bor, Result, Ok, Err, append_assoc, refl, sym, ap, ◌∙◌, subst}
use Rattle.std.proofs.Math.Seq.{drop-append_seam, take-append_seam}
use Rattle.std.proofs.lemmas.Cmp.{nat_list_cmp_total}
use Rattle.std.proofs.lemmas.Map.Text.{is_eq-slice_cmp}
use Rattle.std.proofs.lemmas.Slice.Eq.{bytes_eq-Decides}
use Rattle.std.proofs.lemmas.List.{append-nil, drop-map, length-append, length-map, map-append, nil_from_length, take-map}
use Rattle.std.specs.BTreeMap.{BTreeMap, is_at, insert_entry}
use Rattle.std.specs.Cmp.Lexicographic.{slice_cmp}
use Rattle.std.specs.List.{AllByRecursion}
use Rattle.std.specs.List.Sorted.{IsStrictlySortedBy}
use Rattle.std.specs.Map.{keys_of, lookup}
use Rattle.std.specs.Ordering.{is_eq, match_ordering}
use Rattle.std.specs.Prelude.{IfSome, IfOk}
use Rattle.std.specs.Slice.Iter.{iter_rest, iter_steps}
use Rattle.std.specs.declared.slice.Iter.{Iter}
use Rattle.asl_model.specs.Shape as model
use Rattle.asl_model.specs.Shape.{Shape, Any, OfKinds, Arrays, WithoutArrays, ArraysOf, Objects, WithoutObjects, ObjectsOf, FieldShapes, NoFieldShapes, AndFieldShape, ArrayShape, ObjectShape, insert_mention}
use Rattle.asl_model.specs.ShapeOrder.{mention_of, set_mention, without_mention, further_places, common_joins, joined_with_each, keep_joined, joined_fields, with_optional_unless, with_other_fields, either, join_arrays, join_objects, join_kinds, join}
use Rattle.asl_model.proofs.JoinFuel.{join-inhabited}
use Rattle.asl_tree.specs.declared.OutOfMemory.{OutOfMemory}
use Rattle.asl_shape.proofs.Lookups.{same_name}
use Rattle.asl_shape.proofs.Spellings.{put}
use Rattle.asl_numbered.specs.declared.joining.JoinedKinds.{JoinedKinds}
use Rattle.asl_numbered.specs.declared.joining.Part.{Part}
use Rattle.asl_numbered.specs.declared.joining.Part.TheVariants.{Number, Level}
use Rattle.asl_numbered.specs.declared.kinds.NodeArrays.{NodeArrays}
use Rattle.asl_numbered.specs.declared.kinds.NodeKinds.{NodeKinds}
use Rattle.asl_numbered.specs.declared.kinds.NodeObjects.{NodeObjects}
use Rattle.asl_numbered.specs.declared.node.Node.{Node}
use Rattle.asl_numbered.specs.declared.node.Node.TheVariants as nodes
use Rattle.asl_numbered.specs.declared.node.NodeField.{NodeField}
use Rattle.asl_numbered.specs.declared.pair.Pair.{Pair}
use Rattle.asl_numbered.specs.Expansion.{shape_at, shapes_at, fields_at, shape_over, numbers_in, parts, AreBelow, RefersBelow, IsNumberOf, Keeps, Shows}
use Rattle.asl_numbered.specs.Kinds.{AreSeveral, HasProperParts}
use Rattle.asl_numbered.specs.TakenApart.{arrays_over, objects_over, kinds_over, arrays_of, objects_of, arrays_at, objects_at, kinds_at, AreArraysIfAny, AreObjectsIfAny, AreKindsAt}
use Rattle.asl_numbered.specs.Joins.{joint, place_joins, with_field_join, field_joins, array_joins, object_joins, kinds_joins, kept, found_in, AreMadeOf, AreArraysWithin, AreObjectsWithin, AreKindsWithin, AreKindsOf, part_shape, IsPartWithin, HasPart, IsPutPart, IsOfArrays, IsOfObjects, simple_of, AreJoined, IsArrayJoin, IsObjectJoin, AreJoinedFields, AreWithOthers, IsListOf}
use Rattle.asl_numbered.proofs.Comparisons.{mentions_number, mention_of_number}
use Rattle.asl_numbered.proofs.Expansions.{shape_over_stays}
use Rattle.asl_numbered.proofs.Joins.{common_places}
use Rattle.asl_numbered.specs.Laws.{below-behind, below-drop, below-take, below-wider, keeps_longer, kept_shape}
use Rattle.asl_numbered.specs.Names.{Name, name_cmp}
use Rattle.std.specs.Rc.{rc_str_bytes}
use Rattle.asl_numbered.proofs.Appending.{after_first}

-- a name, and what a node says of its field
abbrev pub Entry : Type 0
Entry = Name × NodeField

-- ---- the names of fields, in order

-- each name comes behind that one
abbrev AllAbove : List ℕ → List Entry → Type 0
AllAbove n es = AllByRecursion (λ (k : Name). slice_cmp nat_cmp n (rc_str_bytes k) ≡ Less) (keys_of es)

above-trans : (n k : List ℕ) (es : List Entry) → slice_cmp nat_cmp n k ≡ Less → AllAbove k es → AllAbove n es
above-trans n k [] less h = tt
above-trans n k (e ∷ es) less h = (nat_list_cmp_total.trans n k (rc_str_bytes e.0) less h.0, above-trans n k es less h.1)

not-equal : (n m : List ℕ) → is_eq (slice_cmp nat_cmp n m) ≡ false → bytes_eq m n ≡ false
not-equal n m apart = same_name n m ∙ apart

equal-names : (n m : List ℕ) → slice_cmp nat_cmp n m ≡ Equal → n ≡ m
equal-names n m e = (bytes_eq-Decides n m).0 (sym (is_eq-slice_cmp n m) ∙ ap is_eq e)

-- ---- one more field

module _ (table : List Shape) where
  above-without : (n : List ℕ) (es : List Entry) → AllAbove n es → without_mention n (fields_at table es) ≡ fields_at table es
  above-without n [] h = refl
  above-without n (e ∷ es) h = rw (not-equal n (rc_str_bytes e.0) (ap is_eq h.0), above-without n es h.1) refl

  above-insert : (n : List ℕ) (needed : Bool) (s : Shape) (es : List Entry) → AllAbove n es → insert_mention n needed s (fields_at table es) ≡ AndFieldShape n needed s (fields_at table es)
  above-insert n needed s [] h = refl
  above-insert n needed s (e ∷ es) h = rw h.0 refl

  -- where the names are in order, putting a mention is setting it
  put-is-set : (n : List ℕ) (needed : Bool) (s : Shape) (es : List Entry) → IsStrictlySortedBy name_cmp (keys_of es) → put n needed s (fields_at table es) ≡ set_mention n needed s (fields_at table es)
  unfolding IsStrictlySortedBy
  put-is-set n needed s [] h = refl
  put-is-set n needed s (e ∷ es) h = go (slice_cmp nat_cmp n (rc_str_bytes e.0)) refl (put-is-set n needed s es h.1)
    where
      go : (order : Ordering) → slice_cmp nat_cmp n (rc_str_bytes e.0) ≡ order → put n needed s (fields_at table es) ≡ set_mention n needed s (fields_at table es) → put n needed s (fields_at table (e ∷ es)) ≡ set_mention n needed s (fields_at table (e ∷ es))
      go Less is below =
          let all : AllAbove n (e ∷ es) = (is, above-trans n (rc_str_bytes e.0) es is h.0) in
          rw is (sym (ap (insert_mention n needed s) (above-without n (e ∷ es) all) ∙ above-insert n needed s (e ∷ es) all))
      go Equal is below =
          let same : n ≡ rc_str_bytes e.0 = equal-names n (rc_str_bytes e.0) is in
          let all : AllAbove n es = subst (λ k. AllAbove k es) (sym same) h.0 in
          rw (is, (bytes_eq-Decides (rc_str_bytes e.0) n).1 (sym same)) (sym (ap (insert_mention n needed s) (above-without n es all) ∙ above-insert n needed s es all ∙ ap (λ k. AndFieldShape k needed s (fields_at table es)) same))
      go Greater is below = rw (is, not-equal n (rc_str_bytes e.0) (ap is_eq is), is) (ap (AndFieldShape (rc_str_bytes e.0) e.1.needed (shape_at table e.1.shape)) below)

  shown-by : (o : Ordering) (a b c : List Entry) → fields_at table (match_ordering o a b c) ≡ match_ordering o (fields_at table a) (fields_at table b) (fields_at table c)
  shown-by Less a b c = refl
  shown-by Equal a b c = refl
  shown-by Greater a b c = refl

  pub put-shown : (es : List Entry) (k : Name) (f : NodeField) → fields_at table (insert_entry name_cmp es k f) ≡ put (rc_str_bytes k) f.needed (shape_at table f.shape) (fields_at table es)
  put-shown [] k f = refl
  put-shown (e ∷ es) k f = shown-by (name_cmp k e.0) _ _ _ ∙ rw (put-shown es k f)

-- the numbers of fields with one more
pub put-below : (bound : ℕ) (es : List Entry) (k : Name) (f : NodeField) → f.shape < bound → AreBelow bound (numbers_in es) → AreBelow bound (numbers_in (insert_entry name_cmp es k f))
put-below bound [] k f h below = (h, tt)
put-below bound (e ∷ es) k f h below = go (name_cmp k e.0) (put-below bound es k f h below.1)
  where
    go : (o : Ordering) → AreBelow bound (numbers_in (insert_entry name_cmp es k f)) → AreBelow bound (numbers_in (match_ordering o ((k, f) ∷ e ∷ es) ((e.0, f) ∷ es) (e ∷ insert_entry name_cmp es k f)))
    go Less behind = (h, below)
    go Equal behind = (h, below.1)
    go Greater behind = (below.0, behind)

-- ---- the first object's fields

module _ (table : List Shape) (os : FieldShapes) (more : Bool) where
  -- the joined fields of the first object, in front of others
  abbrev joined-front : List Entry → FieldShapes → FieldShapes
  joined-front [] behind = behind
  joined-front (e ∷ es) behind = keep_joined join (rc_str_bytes e.0) e.1.needed (shape_at table e.1.shape) more (mention_of (rc_str_bytes e.0) os) (joined-front es behind)

  front-all : (done es : List Entry) → joined_fields join (fields_at table (done ++ es)) os more ≡ joined-front done (joined_fields join (fields_at table es) os more)
  front-all [] es = refl
  front-all (e ∷ done) es = ap (keep_joined join (rc_str_bytes e.0) e.1.needed (shape_at table e.1.shape) more (mention_of (rc_str_bytes e.0) os)) (front-all done es)

  front-alone : (done : List Entry) → joined_fields join (fields_at table done) os more ≡ joined-front done NoFieldShapes
  front-alone [] = refl
  front-alone (e ∷ done) = ap (keep_joined join (rc_str_bytes e.0) e.1.needed (shape_at table e.1.shape) more (mention_of (rc_str_bytes e.0) os)) (front-alone done)

  -- a name that is above another goes behind its field, where that is kept
  put-behind : (n m : List ℕ) (needed own : Bool) (s r : Shape) (open_ : Bool) (mention : Option (Bool × Shape)) (kept behind : FieldShapes) → slice_cmp nat_cmp n m ≡ Greater → put n needed s kept ≡ behind → put n needed s (keep_joined join m own r open_ mention kept) ≡ keep_joined join m own r open_ mention behind
  put-behind n m needed own s r true None kept behind above is = is
  put-behind n m needed own s r false None kept behind above is = rw above (ap (AndFieldShape m false r) is)
  put-behind n m needed own s r open_ (Some o) kept behind above is = rw above (ap (AndFieldShape m (own && o.0) (join r o.1)) is)

  put-last : (done : List Entry) (e : Entry) (left : List Entry) (needed : Bool) (s : Shape) → IsStrictlySortedBy name_cmp (keys_of (done ++ e ∷ left)) → put (rc_str_bytes e.0) needed s (joined-front done NoFieldShapes) ≡ joined-front done (AndFieldShape (rc_str_bytes e.0) needed s NoFieldShapes)
  unfolding IsStrictlySortedBy
  put-last [] e left needed s h = refl
  put-last (first ∷ done) e left needed s h =
      put-behind (rc_str_bytes e.0) (rc_str_bytes first.0) needed first.1.needed s (shape_at table first.1.shape) more (mention_of (rc_str_bytes first.0) os) _ _ (after_first first done e left h.0) (put-last done e left needed s h.1)

  -- a field that is kept goes behind those before it
  kept-last : (done : List Entry) (e : Entry) (left joined : List Entry) (k : Name) (f : NodeField) → IsStrictlySortedBy name_cmp (keys_of (done ++ e ∷ left)) → fields_at table joined ≡ joined_fields join (fields_at table done) os more → rc_str_bytes k ≡ rc_str_bytes e.0 → AndFieldShape (rc_str_bytes e.0) f.needed (shape_at table f.shape) NoFieldShapes ≡ joined_fields join (fields_at table (e ∷ [])) os more → fields_at table (insert_entry name_cmp joined k f) ≡ joined_fields join (fields_at table (done ++ e ∷ [])) os more
  kept-last done e left joined k f sorted so_far named is =
      put-shown table joined k f
      ∙ rw (named, so_far, front-alone done) (put-last done e left f.needed (shape_at table f.shape) sorted)
      ∙ ap (joined-front done) is
      ∙ sym (front-all done (e ∷ []))

  -- one that is dropped
  dropped-last : (done : List Entry) (e : Entry) (joined : FieldShapes) → joined ≡ joined_fields join (fields_at table done) os more → NoFieldShapes ≡ joined_fields join (fields_at table (e ∷ [])) os more → joined ≡ joined_fields join (fields_at table (done ++ e ∷ [])) os more
  dropped-last done e joined so_far nothing =
      so_far ∙ front-alone done ∙ ap (joined-front done) nothing ∙ sym (front-all done (e ∷ []))

-- ---- the loop over them

-- the parts are the joins of the fields that both mention
abbrev AreFieldJoins : List Shape → List Entry → List Entry → List ℕ → Type 0
AreFieldJoins table fields others parts = found_in table parts ≡ field_joins (fields_at table fields) (fields_at table others)

-- The fields up to those that are left are joined, by the parts up to those that are left.
pub record AreJoinedSoFar (fields others : List Entry) (more : Bool) (parts : List ℕ) (left : List Entry) (behind : List ℕ) (joined : List Entry) : Type 0 where
  pub done : List Entry
  pub whole : fields ≡ done ++ left
  pub rest : (table : List Shape) → AreFieldJoins table fields others parts → AreFieldJoins table left others behind
  pub shapes : (table : List Shape) → AreFieldJoins table fields others parts → fields_at table joined ≡ joined_fields join (fields_at table done) (fields_at table others) more
  pub below : (bound : ℕ) → AreBelow bound (numbers_in fields) → AreBelow bound parts → AreBelow bound behind × AreBelow bound (numbers_in joined)

pub all_joined : (fields others : List Entry) (more : Bool) (parts : List ℕ) (left : List Entry) (behind : List ℕ) (joined : List Entry) → left ≡ [] → AreJoinedSoFar fields others more parts left behind joined → AreJoinedFields fields others more parts joined
all_joined fields others more parts left behind joined none h =
    let whole : fields ≡ h.done = h.whole ∙ ap (λ es. h.done ++ es) none ∙ append-nil h.done in
    record { shapes = λ table are. h.shapes table are ∙ ap (λ es. joined_fields join (fields_at table es) (fields_at table others) more) (sym whole); below = λ bound own below. (h.below bound own below).1 }

-- the mention of a name in the second object
mention-there : (table : List Shape) (k : Name) (others : List Entry) (o : Option NodeField) → lookup (is_at (name_cmp k)) others ≡ o → mention_of (rc_str_bytes k) (fields_at table others) ≡ option_map (λ f. (f.needed, shape_at table f.shape)) o
mention-there table k others o found = mention_of_number table k others ∙ ap (option_map (λ (f : NodeField). (f.needed, shape_at table f.shape))) found

-- the first of the parts; the field's own number where there is none
pub data IsNextPart : List ℕ → List ℕ → ℕ → ℕ → Type 0 where
  next_part : {n own : ℕ} {next : List ℕ} → IsNextPart (n ∷ next) next own n
  no_part : {own : ℕ} → IsNextPart [] [] own own

-- an iterator's next one, or else the field's own
pub taken_next : (s t : Iter ℕ) (r : Option (Bor ℕ)) (own n : Bor ℕ) → iter_steps s r t → n ≡ unwrap_or r own → IsNextPart (iter_rest s) (iter_rest t) own.now n.now
taken_next s t None own n steps is = rw (is, steps.1, nil_from_length (iter_rest s) steps.0) no_part
taken_next s t (Some x) own n steps is = rw (is, steps) next_part

pub part-below : (bound : ℕ) (behind next : List ℕ) (own n : ℕ) → IsNextPart behind next own n → own < bound → AreBelow bound behind → (n < bound) × AreBelow bound next
part-below bound behind next own n next_part h below = below
part-below bound behind next own n no_part h below = (h, tt)

part-shown : (table : List Shape) (behind next : List ℕ) (own n : ℕ) → IsNextPart behind next own n → (s : Shape) (ss : List Shape) → found_in table behind ≡ s ∷ ss → (shape_at table n ≡ s) × (found_in table next ≡ ss)
part-shown table behind next own n next_part s ss e = (cc, cc)
part-shown table behind next own n no_part s ss e = absurd (cc)

module _ (fields others : List Entry) (more : Bool) (parts : List ℕ) (now left : List Entry) (e : Entry) (behind : List ℕ) (joined : List Entry) (split : now ≡ e ∷ left) (h : AreJoinedSoFar fields others more parts now behind joined) where
  abbrev done : List Entry
  done = h.done

  all : fields ≡ done ++ e ∷ left
  all = h.whole ∙ ap (λ es. done ++ es) split

  further : fields ≡ (done ++ e ∷ []) ++ left
  further = all ∙ sym (append_assoc done (e ∷ []) left)

  sorted : IsStrictlySortedBy name_cmp (keys_of fields) → IsStrictlySortedBy name_cmp (keys_of (done ++ e ∷ left))
  sorted ordered = subst (λ es. IsStrictlySortedBy name_cmp (keys_of es)) all ordered

  own-below : (bound : ℕ) → AreBelow bound (numbers_in fields) → e.1.shape < bound
  own-below bound own = (below-behind bound (numbers_in done) (numbers_in (e ∷ left)) (subst (AreBelow bound) (map-append (λ f. f.1.shape) done (e ∷ left)) (subst (λ es. AreBelow bound (numbers_in es)) all own))).0

  -- what is left of the parts, by whether the second object mentions the field
  parts-left : (table : List Shape) (o : Option NodeField) → lookup (is_at (name_cmp e.0)) others ≡ o → AreFieldJoins table fields others parts → found_in table behind ≡ with_field_join (shape_at table e.1.shape) (option_map (λ f. (f.needed, shape_at table f.shape)) o) (field_joins (fields_at table left) (fields_at table others))
  parts-left table o found are =
      h.rest table are
      ∙ ap (λ es. field_joins (fields_at table es) (fields_at table others)) split
      ∙ ap (λ m. with_field_join (shape_at table e.1.shape) m (field_joins (fields_at table left) (fields_at table others))) (mention-there table e.0 others o found)

  -- one that both mention: the next part is the number of its join
  pub both_joined : (o f : NodeField) (k : Name) (new : List Entry) (next : List ℕ) → IsStrictlySortedBy name_cmp (keys_of fields) → lookup (is_at (name_cmp e.0)) others ≡ Some o → rc_str_bytes k ≡ rc_str_bytes e.0 → f.needed ≡ (e.1.needed && o.needed) → IsNextPart behind next e.1.shape f.shape → new ≡ insert_entry name_cmp joined k f → AreJoinedSoFar fields others more parts left next new
  both_joined o f k new next ordered found named needed part inserted = rw inserted (record {
    done = done ++ e ∷ [];
    whole = further;
    rest = λ table are. (parts_next table are).1;
    shapes = λ table are. kept-last table (fields_at table others) more done e left joined k f (sorted ordered) (h.shapes table are) named (rw (mention-there table e.0 others (Some o) found, needed, (parts_next table are).0) refl);
    below = λ bound own below.
        let so_far = h.below bound own below in
        let here = part-below bound behind next e.1.shape f.shape part (own-below bound own) so_far.0 in
        (here.1, put-below bound joined k f here.0 so_far.1);
  })
    where
      parts_next : (table : List Shape) → AreFieldJoins table fields others parts → (shape_at table f.shape ≡ join (shape_at table e.1.shape) (shape_at table o.shape)) × AreFieldJoins table left others next
      parts_next table are = part-shown table behind next e.1.shape f.shape part _ _ (parts-left table (Some o) found are)

  -- one that the first alone mentions, where the second has no other fields
  pub one_joined : (f : NodeField) (k : Name) (new : List Entry) → IsStrictlySortedBy name_cmp (keys_of fields) → lookup (is_at (name_cmp e.0)) others ≡ None → rc_str_bytes k ≡ rc_str_bytes e.0 → more ≡ false → f.needed ≡ false → f.shape ≡ e.1.shape → new ≡ insert_entry name_cmp joined k f → AreJoinedSoFar fields others more parts left behind new
  one_joined f k new ordered none named closed optional shape inserted = rw inserted (record {
    done = done ++ e ∷ [];
    whole = further;
    rest = λ table are. parts-left table None none are;
    shapes = λ table are. kept-last table (fields_at table others) more done e left joined k f (sorted ordered) (h.shapes table are) named (rw (mention-there table e.0 others None none, closed, optional, shape) refl);
    below = λ bound own below. let so_far = h.below bound own below in (so_far.0, put-below bound joined k f (rw shape (own-below bound own)) so_far.1);
  })

  -- one that is dropped
  pub one_dropped : lookup (is_at (name_cmp e.0)) others ≡ None → more ≡ true → AreJoinedSoFar fields others more parts left behind joined
  one_dropped none open_ = record {
    done = done ++ e ∷ [];
    whole = further;
    rest = λ table are. parts-left table None none are;
    shapes = λ table are. dropped-last table (fields_at table others) more done e (fields_at table joined) (h.shapes table are) (rw (mention-there table e.0 others None none, open_) refl);
    below = h.below;
  }

-- ---- the second object's fields

-- The fields of the second object behind those that are left were added.
pub record AreAddedSoFar (fields : List Entry) (extra : Bool) (others left old new : List Entry) : Type 0 where
  pub done : List Entry
  pub whole : others ≡ left ++ done
  pub shapes : (table : List Shape) → fields_at table new ≡ with_other_fields (fields_at table fields) extra (fields_at table done) (fields_at table old)
  pub below : (bound : ℕ) → AreBelow bound (numbers_in others) → AreBelow bound (numbers_in old) → AreBelow bound (numbers_in new)

pub all_added : (fields : List Entry) (extra : Bool) (others left old new : List Entry) → left ≡ [] → AreAddedSoFar fields extra others left old new → AreWithOthers fields extra others old new
all_added fields extra others left old new none h =
    let whole : others ≡ h.done = h.whole ∙ ap (λ es. es ++ h.done) none in
    record { shapes = λ table. h.shapes table ∙ ap (λ es. with_other_fields (fields_at table fields) extra (fields_at table es) (fields_at table old)) (sym whole); below = h.below }

module _ (fields : List Entry) (extra : Bool) (others now left : List Entry) (e : Entry) (old joined : List Entry) (split : now ≡ left ++ e ∷ []) (h : AreAddedSoFar fields extra others now old joined) where
  before : others ≡ left ++ e ∷ h.done
  before = h.whole ∙ ap (λ es. es ++ h.done) split ∙ append_assoc left (e ∷ []) h.done

  -- one field more, where it is known whether it is dropped
  next : (table : List Shape) (dropped : Bool) → (extra || is_some (lookup (is_at (name_cmp e.0)) fields)) ≡ dropped → with_other_fields (fields_at table fields) extra (fields_at table (e ∷ h.done)) (fields_at table old) ≡ with_optional_unless dropped (rc_str_bytes e.0) (shape_at table e.1.shape) (fields_at table joined)
  next table dropped is =
      ap (λ b. with_optional_unless b (rc_str_bytes e.0) (shape_at table e.1.shape) (with_other_fields (fields_at table fields) extra (fields_at table h.done) (fields_at table old))) (ap (λ b. extra || b) (mentions_number table e.0 fields) ∙ is)
      ∙ ap (with_optional_unless dropped (rc_str_bytes e.0) (shape_at table e.1.shape)) (sym (h.shapes table))

  other-below : (bound : ℕ) → AreBelow bound (numbers_in others) → e.1.shape < bound
  other-below bound own = (below-behind bound (numbers_in left) (numbers_in (e ∷ h.done)) (subst (AreBelow bound) (map-append (λ f. f.1.shape) left (e ∷ h.done)) (subst (λ es. AreBelow bound (numbers_in es)) before own))).0

  pub other_dropped : (extra || is_some (lookup (is_at (name_cmp e.0)) fields)) ≡ true → AreAddedSoFar fields extra others left old joined
  other_dropped there = record { done = e ∷ h.done; whole = before; shapes = λ table. sym (next table true there); below = h.below }

  pub other_added : (k : Name) (f : NodeField) (new : List Entry) → extra ≡ false → is_some (lookup (is_at (name_cmp e.0)) fields) ≡ false → rc_str_bytes k ≡ rc_str_bytes e.0 → f.needed ≡ false → f.shape ≡ e.1.shape → IsStrictlySortedBy name_cmp (keys_of joined) → new ≡ insert_entry name_cmp joined k f → AreAddedSoFar fields extra others left old new
  other_added k f new closed absent named optional shape ordered inserted = rw inserted (record {
    done = e ∷ h.done;
    whole = before;
    shapes = λ table. put-shown table joined k f ∙ rw (named, optional, shape) (put-is-set table (rc_str_bytes e.0) false (shape_at table e.1.shape) joined ordered) ∙ sym (next table false (rw (closed, absent) refl));
    below = λ bound more below. put-below bound joined k f (rw shape (other-below bound more)) (h.below bound more below);
  })

-- ---- what a shape takes of each kind

-- what is taken of the shape of a number of the table is in the table
pub kinds_within : (table : List Shape) (number : ℕ) (kinds : NodeKinds) → number < length table → AreKindsAt table number kinds → AreKindsWithin table kinds
kinds_within table number kinds within h = record { arrays = of-arrays kinds.arrays h.arrays; objects = of-objects kinds.objects h.objects }
  where
    of-arrays : (arrays : Option NodeArrays) → AreArraysIfAny table number arrays → AreArraysWithin table arrays
    of-arrays None at = tt
    of-arrays (Some arrays) at =
        let below : arrays.number < length table = omega (arith, at.within, within) in
        record { within = below; alone = at.alone; parts = (omega (arith, at.rest, below), below-wider arrays.number (length table) arrays.first.now (omega (arith, below)) at.first) }

    of-objects : (objects : Option NodeObjects) → AreObjectsIfAny table number objects → AreObjectsWithin table objects
    of-objects None at = tt
    of-objects (Some objects) at =
        let below : objects.number < length table = omega (arith, at.within, within) in
        record { within = below; alone = at.alone; parts = below-wider objects.number (length table) (numbers_in objects.fields.now.entries) (omega (arith, below)) at.fields }

-- the join of two shapes of kinds whose uninhabited parts were left out
abbrev joined_kept : Shape → Shape → Shape
joined_kept Any b = Any
joined_kept (OfKinds some others more) Any = Any
joined_kept (OfKinds some others more) (OfKinds simple arrays objects) = OfKinds (either some simple) (join_arrays join others arrays) (join_objects join more objects)

kept-joined : (a b : Shape) → join_kinds join a b ≡ joined_kept (kept a) (kept b)
kept-joined Any b = refl
kept-joined (OfKinds some others more) Any = refl
kept-joined (OfKinds some others more) (OfKinds simple arrays objects) = refl

-- ---- the lists of a join

pub list_joined : (arrays others : NodeArrays) (numbers : List ℕ) (node : Node) → IsListOf numbers node → IsArrayJoin (Some arrays) (Some others) numbers (Some (Level node))
list_joined arrays others numbers node listed = record { joined = λ table own other below are. (record { within = (record { each = subst (AreBelow (length table)) (sym listed.each) below }, listed.proper table) }, go table numbers are listed) }
  where
    go : (table : List Shape) (ms : List ℕ) → found_in table ms ≡ array_joins (arrays_over table (Some arrays)) (arrays_over table (Some others)) → IsListOf ms node → shape_over table node ≡ ArrayShape (common_joins join (shapes_at table arrays.first.now) (shapes_at table others.first.now)) (join (join (joined_with_each join model.Never (further_places (shapes_at table arrays.first.now) (shapes_at table others.first.now))) (shape_at table arrays.rest)) (shape_at table others.rest))
    go table [] e l = absurd (cc)
    go table (m ∷ ms) e l =
        let behind : shape_at table m ≡ join (join (joined_with_each join model.Never (further_places (shapes_at table arrays.first.now) (shapes_at table others.first.now))) (shape_at table arrays.rest)) (shape_at table others.rest) = cc in
        let places_joined : found_in table ms ≡ place_joins (shapes_at table arrays.first.now) (shapes_at table others.first.now) = cc in
        l.shape table m ms refl ∙ rw (behind, places_joined, common_places (shapes_at table arrays.first.now) (shapes_at table others.first.now)) refl

-- how many joins of places there are
pub places_counted : (table : List Shape) (ps os : List ℕ) → length (place_joins (shapes_at table ps) (shapes_at table os)) ≡ min (length ps) (length os)
places_counted table [] os = omega arith
places_counted table (p ∷ ps) [] = omega arith
places_counted table (p ∷ ps) (o ∷ os) = omega (arith, places_counted table ps os)

-- ---- the objects of a join

pub objects_joined : (objects others : NodeObjects) (numbers : List ℕ) (joined : List Entry) (new : BTreeMap Name NodeField) (any : Bool) → AreJoinedFields objects.fields.now.entries others.fields.now.entries others.extra numbers joined → AreWithOthers objects.fields.now.entries objects.extra others.fields.now.entries joined new.entries → any ≡ (objects.extra || others.extra) → IsObjectJoin (Some objects) (Some others) numbers (Some (Level (nodes.Object new any)))
objects_joined objects others numbers joined new any joins adds is = record {
  joined = λ table own other below are. (
    record { within = (record { each = adds.below (length table) other.parts (joins.below (length table) own.parts below) }, record { proper = tt }) },
    ap (λ fs. ObjectShape fs any) (adds.shapes table ∙ ap (with_other_fields (fields_at table objects.fields.now.entries) objects.extra (fields_at table others.fields.now.entries)) (joins.shapes table are))
        ∙ ap (ObjectShape (with_other_fields (fields_at table objects.fields.now.entries) objects.extra (fields_at table others.fields.now.entries) (joined_fields join (fields_at table objects.fields.now.entries) (fields_at table others.fields.now.entries) others.extra))) is,
  );
}

-- ---- the join, kind by kind

module _ (table : List Shape) (p : Pair) (numbers : List ℕ) (h : AreMadeOf table p numbers) where
  abbrev a : Shape
  a = shape_at table p.first

  abbrev b : Shape
  b = shape_at table p.second

  by-kinds : joint table p ≡ join_kinds join a b
  by-kinds = join-inhabited a b h.inhabited.first h.inhabited.second

  module _ (first second : NodeKinds) (apart : AreKindsOf table p (Some (first, second))) (n : ℕ) (is : n ≡ length (array_joins (arrays_over table first.arrays) (arrays_over table second.arrays))) where
    -- the joins of the parts of the arrays, and those of the objects
    abbrev front : List Shape
    front = array_joins (arrays_over table first.arrays) (arrays_over table second.arrays)

    abbrev behind : List Shape
    behind = object_joins (objects_over table first.objects) (objects_over table second.objects)

    whole : found_in table numbers ≡ front ++ behind
    whole = h.all ∙ sym (ap (λ s. kinds_joins s (kinds_over table second)) apart.apart.0 ∙ ap (kinds_joins (kept a)) apart.apart.1)

    -- so many numbers are there
    pub parts_enough : n ≤ length numbers
    parts_enough = omega (arith, is, length-map numbers (shape_at table), ap length whole, length-append front behind)

    first-parts : found_in table (take n numbers) ≡ front
    first-parts = sym (take-map (shape_at table) n numbers) ∙ ap (take n) whole ∙ ap (λ k. take k (front ++ behind)) is ∙ take-append_seam front behind

    last-parts : found_in table (drop n numbers) ≡ behind
    last-parts = sym (drop-map (shape_at table) n numbers) ∙ ap (drop n) whole ∙ ap (λ k. drop k (front ++ behind)) is ∙ drop-append_seam front behind

    pub kinds_joined : (kinds : JoinedKinds) → simple_of kinds ≡ either (record { null = first.null; boolean = first.boolean; integer = first.integer; text = first.text }) (record { null = second.null; boolean = second.boolean; integer = second.integer; text = second.text }) → IsArrayJoin first.arrays second.arrays (take n numbers) kinds.arrays → IsObjectJoin first.objects second.objects (drop n numbers) kinds.objects → AreJoined table (Some kinds) (joint table p)
    kinds_joined kinds simple of_arrays of_objects =
        let same : joint table p ≡ joined_kept (kinds_over table first) (kinds_over table second) =
        by-kinds ∙ kept-joined a b ∙ sym (ap (λ s. joined_kept s (kinds_over table second)) apart.apart.0 ∙ ap (joined_kept (kept a)) apart.apart.1) in
        subst (AreJoined table (Some kinds)) (sym same) (record {
          joined = (
            simple,
            of_arrays.joined table apart.apart.2.arrays apart.apart.3.arrays (below-take (length table) n numbers h.below) first-parts,
            of_objects.joined table apart.apart.2.objects apart.apart.3.objects (below-drop (length table) n numbers h.below) last-parts,
          );
        })

-- ---- the parts of a join, in the table

module _ (old new : List Shape) (keeps : Keeps old new) where
  numbers-stay : (ns : List ℕ) → AreBelow (length old) ns → map (shape_at new) ns ≡ map (shape_at old) ns
  numbers-stay [] h = refl
  numbers-stay (n ∷ ns) h = rw (kept_shape old new n keeps h.0, numbers-stay ns h.1) refl

  proper-stays : (node : Node) → AreBelow (length old) (parts node) → HasProperParts old node → HasProperParts new node
  proper-stays nodes.Any below h = tt
  proper-stays nodes.Never below h = tt
  proper-stays nodes.Null below h = tt
  proper-stays nodes.Bool below h = tt
  proper-stays nodes.Int below h = tt
  proper-stays nodes.Text below h = tt
  proper-stays (nodes.List first rest) below h = tt
  proper-stays (nodes.Object fields extra) below h = tt
  proper-stays (nodes.Several numbers) below h = subst AreSeveral (sym (numbers-stay numbers.items below)) h

  -- a part stays in a table that grows
  part-stays : (part : Part) → IsPartWithin old part → IsPartWithin new part
  part-stays (Number n) h = record { within = omega (arith, h.within, keeps_longer old new keeps) }
  part-stays (Level node) h =
      let below = below-wider (length old) (length new) (parts node) (keeps_longer old new keeps) h.within.0.each in
      record { within = (record { each = below }, record { proper = proper-stays node h.within.0.each h.within.1.proper }) }

  part-same : (part : Part) → IsPartWithin old part → part_shape new part ≡ part_shape old part
  part-same (Number n) h = kept_shape old new n keeps h.within
  part-same (Level node) h = ap (λ table. shape_over table node) keeps.whole ∙ shape_over_stays old keeps.added node h.within.0.each

  objects-stay : (part : Option Part) (objects : Objects) → IsOfObjects old part objects → IsOfObjects new part objects
  objects-stay None objects h = h
  objects-stay (Some part) WithoutObjects h = absurd h
  objects-stay (Some part) (ObjectsOf shapes extra) h = (part-stays part h.0, part-same part h.0 ∙ h.1)

objects-within : (table : List Shape) (part : Option Part) (objects : Objects) → IsOfObjects table part objects → IfSome part (IsPartWithin table)
objects-within table None objects h = tt
objects-within table (Some part) WithoutObjects h = absurd h
objects-within table (Some part) (ObjectsOf shapes extra) h = h.0

-- where the part of the arrays was put, that of the objects is still there
pub objects_there : (old new : List Shape) (kinds : JoinedKinds) (s : Shape) → Keeps old new → AreJoined old (Some kinds) s → IfSome kinds.objects (IsPartWithin new)
objects_there old new kinds Any keeps h = absurd h.joined
objects_there old new kinds (OfKinds simple arrays objects) keeps h = objects-within new kinds.objects objects (objects-stay old new keeps kinds.objects objects h.joined.2)

arrays-number : (old new later : List Shape) (part : Option Part) (number : Option ℕ) (arrays : Arrays) → Keeps new later → IsOfArrays old part arrays → HasPart old new part number → arrays_at later number ≡ arrays
arrays-number old new later None number arrays keeps of put = ap (arrays_at later) put ∙ sym of
arrays-number old new later (Some part) number WithoutArrays keeps of put = absurd of
arrays-number old new later (Some part) None (ArraysOf first rest) keeps of put = absurd put
arrays-number old new later (Some part) (Some n) (ArraysOf first rest) keeps of put = ap arrays_of (kept_shape new later n keeps put.within ∙ put.same ∙ of.1)

objects-number : (old new : List Shape) (part : Option Part) (number : Option ℕ) (objects : Objects) → IsOfObjects old part objects → HasPart old new part number → objects_at new number ≡ objects
objects-number old new None number objects of put = ap (objects_at new) put ∙ sym of
objects-number old new (Some part) number WithoutObjects of put = absurd of
objects-number old new (Some part) None (ObjectsOf shapes extra) of put = absurd put
objects-number old new (Some part) (Some n) (ObjectsOf shapes extra) of put = ap objects_of (put.same ∙ of.1)

-- the number of the kinds whose parts were put is that of the join
pub assembled : (old middle now new : List Shape) (kinds : JoinedKinds) (s : Shape) (first second : Option ℕ) (r : Result ℕ OutOfMemory) → AreJoined old (Some kinds) s → Keeps old middle → IsPutPart old middle kinds.arrays first → Keeps middle now → IsPutPart middle now kinds.objects second → IfOk r (IsNumberOf new (kinds_at now (record { null = kinds.null; boolean = kinds.boolean; integer = kinds.integer; text = kinds.text; arrays = first; objects = second }))) → IfOk r (Shows new s)
assembled old middle now new kinds Any first second r h keeps one then_keeps two is = absurd h.joined
assembled old middle now new kinds (OfKinds simple arrays objects) first second (Err e) h keeps one then_keeps two is = tt
assembled old middle now new kinds (OfKinds simple arrays objects) first second (Ok n) h keeps one then_keeps two is =
    let same_arrays : arrays_at now first ≡ arrays = arrays-number old middle now kinds.arrays first arrays then_keeps h.joined.1 one.put in
    let same_objects : objects_at now second ≡ objects = objects-number middle now kinds.objects second objects (objects-stay old middle keeps kinds.objects objects h.joined.2) two.put in
    let whole : OfKinds (simple_of kinds) (arrays_at now first) (objects_at now second) ≡ OfKinds simple arrays objects = rw (h.joined.0, same_arrays, same_objects) refl in
    record { within = is.within; same = is.same ∙ whole }

-- a level that is to be put refers to earlier numbers
pub level_refers : (table : List Shape) (part : Option Part) (own : Part) (node : Node) → part ≡ Some own → own ≡ Level node → IfSome part (IsPartWithin table) → RefersBelow (length table) node
level_refers table part own node is own_is h =
    let level : IsPartWithin table (Level node) = subst (IsPartWithin table) own_is (subst (λ o. IfSome o (IsPartWithin table)) is h) in
    level.within.0
