-- What is written for a certificate that lists its shapes is read as the same one.
use Rattle.std.proofs.Common.{◌≡◌, ℕ, pos, List, [], ◌∷◌, ◌++◌, Bool, true, false, ◌||◌, if◌then◌else◌, IfSome, Option, Some, None, option_map, unwrap_or, codes, is_some, refl, sym, ap, subst, ◌∙◌, append_assoc, append-nil}
use Rattle.std.proofs.lemmas.List.{map-append}
use Rattle.std.specs.List.{AllByRecursion}
use Rattle.serde_json.specs.Data.{Data, Items}
use Rattle.asl_model.specs.Tree.{Tree, Null, Integer, Array, Object}
use Rattle.asl_model.specs.Shape.{Shape, Any, OfKinds, Arrays, WithoutArrays, ArraysOf, Objects, WithoutObjects, ObjectsOf, Shapes, NoShapes, AndShape, FieldShapes, NoFieldShapes, AndFieldShape, type_names, are_several, has_several, arrays_have_several, objects_have_several, some_has_several, field_has_several, IsProperShape}
use Rattle.asl_model.specs.Json.{tree_of, elements_of}
use Rattle.asl_model.specs.Certificate.{StateShapes, Certificate}
use Rattle.asl_model.specs.References.{spelled_out}
use Rattle.asl_model.specs.Records.{Reading, StandsForCertificate, tree_misfits, plain_tree, listed_after, listed_misfits, state_rows, state_from}
use Rattle.asl_model.specs.RecordShapes.{HoldsForState, HoldsForCertificate}
use Rattle.asl_model.specs.Written.{written_shape, written_list, written_entries, written_state, certificate_has_several, version_of, certificate_written}
use Rattle.asl_model.specs.WrittenNumbered.{place_of, is_listed, with_last_if_listed, list_after, list_after_arrays, list_after_objects, list_after_places, list_after_fields, list_after_all, list_after_item, list_after_state, list_after_states, shapes_listed, referring, written_over, written_numbered}
use Rattle.asl_model.proofs.Listing.{AreBehind, IsThere, IsListing, IsOut, all_listed, over_more, over_out, referring_out, written_all}
use Rattle.asl_model.proofs.RecordsBack.{IsShape, both_certificate, certificate_may, version_read, version_right, array_in, entries_there, four_in, item_in, no_item_in, number_in, object_in, proper_certificate_back, state_there}
use Rattle.asl_model.proofs.SpellingWritten.{May, may_parts, faults_same, written_spells}

-- ---- a shape

-- a shape that is there is read as it
record Fits (several : Bool) (listed : List Shape) (s : Shape) : Type 0 where
  is_there : IsThere listed s
  proper : IsProperShape s
  may : May several (has_several s)

-- how shapes are read where these are listed
abbrev with_these : Bool → List Tree → Reading
with_these several listed = record { several = several; listed = Some listed }

-- where a tree is spelled out as what is written for a proper shape, nothing is wrong with it
out_right : (several : Bool) (listed : List Tree) (t : Tree) (s : Shape) → IsProperShape s → May several (has_several s) → IsOut listed t (written_shape s) → tree_misfits (with_these several listed) t ≡ []
out_right several listed t s proper may out = rw (out.right, out.same, faults_same several s may, (written_spells s proper).none_wrong) refl

out_there : (several : Bool) (listed : List Tree) (v : Data) (t : Tree) (s : Shape) → IsProperShape s → May several (has_several s) → IsOut listed t (written_shape s) → tree_of v ≡ Some t → IsShape (with_these several listed) v s
out_there several listed v t s proper may out e = record {
  none_wrong = rw e (out_right several listed t s proper may out);
  same = rw (e, out.same) ((written_spells s proper).same);
}

there : (several : Bool) (listed : List Shape) (v : Data) (s : Shape) → Fits several listed s → tree_of v ≡ Some (referring listed s) → IsShape (with_these several (written_all listed)) v s
there several listed v s fits e = out_there several (written_all listed) v (referring listed s) s fits.proper fits.may (referring_out listed s fits.is_there) e

-- ---- the listed shapes

-- where there may be several kinds in each shape that a walk goes through, there may be in each that is listed
abbrev AllMay : Bool → List Shape → Type 0
AllMay several listed = AllByRecursion (λ s. May several (has_several s)) listed

last_may : (several : Bool) (listed : List Shape) (s : Shape) → AllMay several listed → May several (has_several s) → AllMay several (listed ++ s ∷ [])
last_may several [] s all own = (own, tt)
last_may several (t ∷ listed) s all own = (all.0, last_may several listed s all.1 own)

last_if_listed_may : (several : Bool) (listed : List Shape) (s : Shape) → AllMay several listed → May several (has_several s) → AllMay several (with_last_if_listed s listed)
last_if_listed_may several listed s all own = go (is_listed s) (is_some (place_of s listed))
  where
    go : (a b : Bool) → AllMay several (if a then (if b then listed else listed ++ s ∷ []) else listed)
    go true true = all
    go true false = last_may several listed s all own
    go false b = all

mutual
  shape_may : (several : Bool) (listed : List Shape) (s : Shape) → AllMay several listed → May several (has_several s) → AllMay several (list_after listed s)
  shape_may several listed Any all h = all
  shape_may several listed (OfKinds simple arrays objects) all h =
      let own = may_parts several (are_several (type_names simple arrays objects)) (arrays_have_several arrays || objects_have_several objects) h in
      let both = may_parts several (arrays_have_several arrays) (objects_have_several objects) own.1 in
      let one = list_after_arrays listed arrays in
      last_if_listed_may several (list_after_objects one objects) (OfKinds simple arrays objects) (objects_may several one objects (arrays_may several listed arrays all both.0) both.1) h

  arrays_may : (several : Bool) (listed : List Shape) (arrays : Arrays) → AllMay several listed → May several (arrays_have_several arrays) → AllMay several (list_after_arrays listed arrays)
  arrays_may several listed WithoutArrays all h = all
  arrays_may several listed (ArraysOf first rest) all h =
      let both = may_parts several (some_has_several first) (has_several rest) h in
      shape_may several (list_after_places listed first) rest (places_may several listed first all both.0) both.1

  objects_may : (several : Bool) (listed : List Shape) (objects : Objects) → AllMay several listed → May several (objects_have_several objects) → AllMay several (list_after_objects listed objects)
  objects_may several listed WithoutObjects all h = all
  objects_may several listed (ObjectsOf fields extra) all h = fields_may several listed fields all h

  places_may : (several : Bool) (listed : List Shape) (first : Shapes) → AllMay several listed → May several (some_has_several first) → AllMay several (list_after_places listed first)
  places_may several listed NoShapes all h = all
  places_may several listed (AndShape s first) all h =
      let both = may_parts several (has_several s) (some_has_several first) h in
      places_may several (list_after listed s) first (shape_may several listed s all both.0) both.1

  fields_may : (several : Bool) (listed : List Shape) (fields : FieldShapes) → AllMay several listed → May several (field_has_several fields) → AllMay several (list_after_fields listed fields)
  fields_may several listed NoFieldShapes all h = all
  fields_may several listed (AndFieldShape n needed s fields) all h =
      let both = may_parts several (has_several s) (field_has_several fields) h in
      fields_may several (list_after listed s) fields (shape_may several listed s all both.0) both.1

-- so after the shapes of a state, and after those of states
shapes_may : (several : Bool) (listed shapes : List Shape) → AllMay several listed → AllMay several shapes → AllMay several (list_after_all listed shapes)
shapes_may several listed [] all h = all
shapes_may several listed (s ∷ shapes) all h = shapes_may several (list_after listed s) shapes (shape_may several listed s all h.0) h.1

item_listed_may : (several : Bool) (listed : List Shape) (item : Option Shape) → AllMay several listed → IfSome item (λ s. May several (has_several s)) → AllMay several (list_after_item listed item)
item_listed_may several listed None all h = all
item_listed_may several listed (Some s) all h = shape_may several listed s all h

state_listed_may : (several : Bool) (listed : List Shape) (shapes : StateShapes) → AllMay several listed → HoldsForState (λ s. May several (has_several s)) shapes → AllMay several (list_after_state listed shapes)
state_listed_may several listed shapes all h =
    let one = list_after_all listed shapes.branches in
    let two = list_after one shapes.input in
    let three = list_after_item two shapes.item in
    shape_may several three shapes.output (item_listed_may several two shapes.item (shape_may several one shapes.input (shapes_may several listed shapes.branches all h.branches) h.input) h.item) h.output

states_listed_may : (several : Bool) (listed : List Shape) (entries : List (List ℕ × StateShapes)) → AllMay several listed → AllByRecursion (λ (entry : List ℕ × StateShapes). HoldsForState (λ s. May several (has_several s)) entry.1) entries → AllMay several (list_after_states listed entries)
states_listed_may several listed [] all h = all
states_listed_may several listed (entry ∷ entries) all h = states_listed_may several (list_after_state listed entry.1) entries (state_listed_may several listed entry.1 all h.0) h.1

listed_may : (c : Certificate) → AllMay (certificate_has_several c) (shapes_listed c)
listed_may c =
    let several = certificate_has_several c in
    let may = certificate_may c in
    states_listed_may several (list_after [] c.output) c.states (shape_may several [] c.output tt may.output) may.states

-- ---- the list

-- the elements that are left are read behind those that were
pub record IsRead (several : Bool) (all done : List Shape) (vs : Items) : Type 0 where
  pub after : listed_after (written_all done) vs ≡ written_all all
  pub none_wrong : listed_misfits several (written_all done) vs ≡ []

list_there : (several : Bool) (all done left : List Shape) (vs : Items) → all ≡ done ++ left → AreBehind [] all → AreBehind done left → AllMay several left → elements_of vs ≡ Some (written_list (written_over all) left) → IsRead several all done vs
list_there several all done [] vs whole behind h may e =
    rw (no_item_in vs e) (record { after = ap written_all (sym (whole ∙ append-nil done)); none_wrong = refl })
list_there several all done (s ∷ left) vs whole behind h may e =
    let it = item_in vs (written_over all s) (written_list (written_over all) left) e in
    let same : written_over all s ≡ written_over done s = ap (λ l. written_over l s) whole ∙ over_more done (s ∷ left) (subst (AreBehind []) whole behind) s h.0 in
    let out = over_out done s h.0 in
    let tree : tree_of it.0 ≡ Some (written_over done s) = it.3 ∙ ap Some same in
    let plain : plain_tree (written_all done) it.0 ≡ written_shape s = ap (λ o. unwrap_or (option_map (spelled_out (written_all done)) o) Null) tree ∙ out.same in
    let grown : written_all done ++ plain_tree (written_all done) it.0 ∷ [] ≡ written_all (done ++ s ∷ []) = ap (λ t. written_all done ++ t ∷ []) plain ∙ sym (map-append written_shape done (s ∷ [])) in
    let first = out_there several (written_all done) it.0 (written_over done s) s h.1 may.0 out tree in
    let others = list_there several all (done ++ s ∷ []) left it.1 (whole ∙ sym (append_assoc done (s ∷ []) left)) behind h.2 may.1 it.4 in
    rw it.2 (record {
      after = ap (λ l. listed_after l it.1) grown ∙ others.after;
      none_wrong = rw (first.none_wrong, grown) others.none_wrong;
    })

-- ---- the certificate

all_fit : (c : Certificate) (listed : List Shape) → HoldsForCertificate (IsThere listed) c → HoldsForCertificate IsProperShape c → HoldsForCertificate (Fits (certificate_has_several c) listed) c
all_fit c listed are proper =
    let several = certificate_has_several c in
    let may = both_certificate IsProperShape (λ s. May several (has_several s)) (λ s. IsProperShape s × May several (has_several s)) (λ s p m. (p, m)) c proper (certificate_may c) in
    both_certificate (IsThere listed) (λ s. IsProperShape s × May several (has_several s)) (Fits several listed) (λ s is both. record { is_there = is; proper = both.0; may = both.1 }) c are may

listing_back : (v : Data) (c : Certificate) (s : Shape) (further : List Shape) → IsListing c (s ∷ further) → AllMay (certificate_has_several c) (s ∷ further) → HoldsForCertificate IsProperShape c → tree_of v ≡ Some (certificate_written (written_over (s ∷ further)) (s ∷ further) (referring (s ∷ further)) c) → StandsForCertificate v c
listing_back v c s further is may p e =
    let listed = s ∷ further in
    let several = certificate_has_several c in
    let fit = all_fit c listed is.there p in
    let four = four_in v (codes "output") (codes "shapes") (codes "states") (codes "version") (referring listed c.output) (Array (written_list (written_over listed) listed)) (Object (written_entries (written_state (referring listed)) c.states)) (Integer (pos (version_of c))) e in
    let array = array_in four.1 (written_list (written_over listed) listed) four.6 in
    let read = list_there several listed [] listed array.0 refl is.behind is.behind may array.2 in
    let output = there several listed four.0 c.output fit.output four.5 in
    let object = object_in four.2 (written_entries (written_state (referring listed)) c.states) four.7 in
    let number = number_in four.3 (pos (version_of c)) four.8 in
    let trees = written_all listed in
    let reading = with_these several trees in
    let states = entries_there reading state_rows (state_from (Some trees)) (written_state (referring listed)) (HoldsForState (Fits several listed)) (state_there reading (referring listed) (Fits several listed) (there several listed)) c.states object.0 fit.states object.2 in
    record {
      whole = ap is_some e;
      none_wrong = rw (four.4, array.1, object.1, number.1, read.after, number.2, version_read several, version_right several, output.none_wrong, states.none_wrong, read.none_wrong) refl;
      same = rw (four.4, array.1, object.1, read.after, output.same, states.same) refl;
    }

pub numbered_back : (v : Data) (c : Certificate) → HoldsForCertificate IsProperShape c → tree_of v ≡ Some (written_numbered c) → StandsForCertificate v c
numbered_back v c p e = go (shapes_listed c) (all_listed c p) (listed_may c) e
  where
    go : (listed : List Shape) → IsListing c listed → AllMay (certificate_has_several c) listed → tree_of v ≡ Some (certificate_written (written_over listed) listed (referring listed) c) → StandsForCertificate v c
    go [] is may e = proper_certificate_back v c p e
    go (s ∷ further) is may e = listing_back v c s further is may p e
