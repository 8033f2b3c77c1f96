-- Shapes cut to a depth, by number.
use Rattle.std.proofs.Common.{◌≡◌, ◌<◌, ◌≤◌, ◌+◌, ℕ, zero, suc, List, [], ◌∷◌, ◌++◌, length, map, take, get_or, refl, sym, ap, ◌∙◌, subst, arith}
use Rattle.std.proofs.lemmas.List.{length-map, map-append, take_more}
use Rattle.asl_model.specs.Shape as model
use Rattle.asl_model.specs.ShapeOrder.{depth, depth_of_arrays, depth_of_objects, depth_of_elements, depth_of_fields}
use Rattle.asl_numbered.specs.Expansion.{shape_at, AreBelow, Keeps, Shows}
use Rattle.asl_numbered.specs.Laws.{below-append, below-wider, keeps_longer, kept_shape, kept_within}
use Rattle.asl_drafts.specs.Cutting.{cut_to, cut_arrays_to, cut_objects_to, cut_elements_to, cut_fields_to}
use Rattle.asl_drafts.specs.Cuts.{AreCutTo}
use Rattle.asl_drafts.specs.Depths.{told_depth}
use Rattle.asl_drafts.specs.Parts.{parts_of, with_parts}
use Rattle.asl_drafts.proofs.Rebuilt.{cut_parts}

-- ---- shapes that are left as they are

mutual
  -- a shape with no more levels
  few_levels : (levels : ℕ) (s : model.Shape) → depth s ≤ levels → cut_to levels s ≡ s
  few_levels zero model.Any h = refl
  few_levels zero (model.OfKinds simple arrays objects) h = absurd (omega (arith, h))
  few_levels (suc levels) model.Any h = refl
  few_levels (suc levels) (model.OfKinds simple arrays objects) h = rw (few_arrays levels arrays (omega (arith, h)), few_objects levels objects (omega (arith, h))) refl

  few_arrays : (levels : ℕ) (arrays : model.Arrays) → depth_of_arrays arrays ≤ levels → cut_arrays_to levels arrays ≡ arrays
  few_arrays levels model.WithoutArrays h = refl
  few_arrays levels (model.ArraysOf first rest) h = rw (few_elements levels first (omega (arith, h)), few_levels levels rest (omega (arith, h))) refl

  few_objects : (levels : ℕ) (objects : model.Objects) → depth_of_objects objects ≤ levels → cut_objects_to levels objects ≡ objects
  few_objects levels model.WithoutObjects h = refl
  few_objects levels (model.ObjectsOf fields extra) h = ap (λ fs. model.ObjectsOf fs extra) (few_fields levels fields h)

  few_elements : (levels : ℕ) (first : model.Shapes) → depth_of_elements first ≤ levels → cut_elements_to levels first ≡ first
  few_elements levels model.NoShapes h = refl
  few_elements levels (model.AndShape s others) h = rw (few_levels levels s (omega (arith, h)), few_elements levels others (omega (arith, h))) refl

  few_fields : (levels : ℕ) (fields : model.FieldShapes) → depth_of_fields fields ≤ levels → cut_fields_to levels fields ≡ fields
  few_fields levels model.NoFieldShapes h = refl
  few_fields levels (model.AndFieldShape n needed s others) h = rw (few_levels levels s (omega (arith, h)), few_fields levels others (omega (arith, h))) refl

-- one with few levels, as its depth is told
pub left_as_it_is : (table : List model.Shape) (n levels d : ℕ) → n < length table → d ≡ told_depth (shape_at table n) → d ≤ levels → levels ≤ 48 → Shows table (cut_to levels (shape_at table n)) n
left_as_it_is table n levels d there told few most = record { within = there; same = sym (few_levels levels (shape_at table n) (omega (arith, told, few, most))) }

-- ---- several numbers

map_shown : (a b : List model.Shape) (ns : List ℕ) → Keeps a b → AreBelow (length a) ns → map (shape_at b) ns ≡ map (shape_at a) ns
map_shown a b [] keeps h = refl
map_shown a b (n ∷ ns) keeps h = rw (kept_shape a b n keeps h.0, map_shown a b ns keeps h.1) refl

-- one of them
pub one_below : (bound : ℕ) (numbers : List ℕ) (i : ℕ) → i < length numbers → AreBelow bound numbers → get_or numbers i 0 < bound
one_below bound [] i there h = absurd (omega (arith, there))
one_below bound (n ∷ numbers) zero there h = h.0
one_below bound (n ∷ numbers) (suc i) there h = one_below bound numbers i (omega (arith, there)) h.1

pub one_more_cut : (levels : ℕ) (old now new : List model.Shape) (numbers : List ℕ) (i : ℕ) (cuts more : List ℕ) (m : ℕ) → AreBelow (length old) numbers → i < length numbers → Keeps old now → AreCutTo levels old (take i numbers) now cuts → Keeps now new → Shows new (cut_to levels (shape_at now (get_or numbers i 0))) m → more ≡ cuts ++ m ∷ [] → AreCutTo levels old (take (i + 1) numbers) new more
one_more_cut levels old now new numbers i cuts more m below there keeps so_far further is last =
    let n = get_or numbers i 0 in
    let cut : ℕ → model.Shape = λ k. cut_to levels (shape_at old k) in
    let same : shape_at new m ≡ cut n = is.same ∙ ap (cut_to levels) (kept_shape old now n keeps (one_below (length old) numbers i there below)) in
    record {
      shapes =
          ap (map (shape_at new)) last
          ∙ map-append (shape_at new) cuts (m ∷ [])
          ∙ ap (λ ss. ss ++ shape_at new m ∷ []) (map_shown now new cuts further so_far.below ∙ so_far.shapes)
          ∙ ap (λ s. map cut (take i numbers) ++ s ∷ []) same
          ∙ sym (map-append cut (take i numbers) (n ∷ []))
          ∙ ap (map cut) (sym (take_more numbers i 0 there));
      below = subst (AreBelow (length new)) (sym last) (below-append (length new) cuts (m ∷ []) (below-wider (length now) (length new) cuts (keeps_longer now new further) so_far.below) (is.within, tt));
    }

-- ---- a shape with its parts cut

-- from the table at the start, which is measured, to that in which the parts are cut, and that with the shape made of them
module _ (start measured cut : List model.Shape) (below levels n : ℕ) (ns cuts : List ℕ) (same : measured ≡ start) (keeps : Keeps measured cut) (there : n < length start) (parts : map (shape_at measured) ns ≡ parts_of (shape_at measured n)) (are : AreCutTo below measured ns cut cuts) where
  there_measured : n < length measured
  there_measured = rw same there

  -- the number is in the table
  pub there_cut : n < length cut
  there_cut = kept_within measured cut n keeps there_measured

  shown_cut : shape_at cut n ≡ shape_at measured n
  shown_cut = kept_shape measured cut n keeps there_measured

  mapped : (ks : List ℕ) → map (λ k. cut_to below (shape_at measured k)) ks ≡ map (cut_to below) (map (shape_at measured) ks)
  mapped [] = refl
  mapped (k ∷ ks) = ap (λ ss. cut_to below (shape_at measured k) ∷ ss) (mapped ks)

  parts_cut : map (shape_at cut) cuts ≡ map (cut_to below) (parts_of (shape_at cut n))
  parts_cut = are.shapes ∙ mapped ns ∙ ap (map (cut_to below)) (parts ∙ ap parts_of (sym shown_cut))

  -- there are as many cuts as parts
  pub cuts_counted : length cuts ≡ length (parts_of (shape_at cut n))
  cuts_counted = sym (length-map cuts (shape_at cut)) ∙ ap length parts_cut ∙ length-map (parts_of (shape_at cut n)) (cut_to below)

  module _ (made : List model.Shape) (m : ℕ) (count : levels ≡ suc below) (further : Keeps cut made) (rebuilt : Shows made (with_parts (shape_at cut n) (map (shape_at cut) cuts)) m) where
    whole : with_parts (shape_at cut n) (map (shape_at cut) cuts) ≡ cut_to levels (shape_at cut n)
    whole = ap (with_parts (shape_at cut n)) parts_cut ∙ cut_parts below (shape_at cut n) ∙ ap (λ k. cut_to k (shape_at cut n)) (sym count)

    made_cut : Shows made (cut_to levels (shape_at cut n)) m
    made_cut = subst (λ s. Shows made s m) whole rebuilt

    -- what is made is the shape that was cut
    pub made_of_start : Shows made (cut_to levels (shape_at start n)) m
    made_of_start = subst (λ s. Shows made (cut_to levels s) m) (shown_cut ∙ ap (λ table. shape_at table n) same) made_cut

    -- so in its own table
    pub made_of_own : Shows made (cut_to levels (shape_at made n)) m
    made_of_own = subst (λ s. Shows made (cut_to levels s) m) (sym (kept_shape cut made n further there_cut)) made_cut
