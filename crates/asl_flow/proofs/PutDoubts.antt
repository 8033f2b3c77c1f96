-- Doubts that are put down one after the other, in a table that grows, and what they come to.
use Rattle.std.proofs.Common.{◌≡◌, ℕ, List, [], ◌∷◌, ◌++◌, length, map, Option, None, Result, Ok, Err, refl, sym, ap, ◌∙◌, append_assoc}
use Rattle.std.proofs.lemmas.List.{append-nil, map-append}
use Rattle.std.specs.List.{AllByRecursion}
use Rattle.std.specs.Result.{result_ok}
use Rattle.std.specs.Prelude.{OnOk}
use Rattle.asl_model.specs.Shape.{Shape, Never}
use Rattle.asl_model.specs.ShapeFlow as model
use Rattle.asl_model.specs.ShapeFlow.{doubts_at, or_none, unless_doubtful}
use Rattle.asl_numbered.specs.Expansion.{shape_at, Keeps, Shows}
use Rattle.asl_numbered.specs.Laws.{kept_shape, kept_within}
use Rattle.asl_flow.specs.CallAnswer.{Answers}
use Rattle.asl_flow.specs.Doubts.{cause_at, IsCauseBelow, AreDoubtsBelow}
use Rattle.asl_flow.specs.Sources.{at_field, IsPart}
use Rattle.asl_flow.specs.TemplateAnswer.{told_at, named_fault, ArePutDown}
use Rattle.asl_flow.specs.declared.doubts.Cause.{Cause}
use Rattle.asl_flow.specs.declared.doubts.Cause.TheVariants.{MayBeMissing, MayFail, MayNotFit}
use Rattle.asl_flow.specs.declared.doubts.Doubt.{Doubt}

abbrev pub Told : Type 0
Told = List (List ℕ × model.Doubt)

-- what holds of each of two lists holds of each of both
pub all_append : {A : Type 0} (P : A → Type 0) (xs ys : List A) → AllByRecursion P xs → AllByRecursion P ys → AllByRecursion P (xs ++ ys)
all_append P [] ys h k = k
all_append P (x ∷ xs) ys h k = (h.0, all_append P xs ys h.1 k)

-- what holds holds where there is a value
pub on_ok : {A E : Type 0} {P : Type 0} (r : Result A E) → P → OnOk r P
on_ok (Ok a) p = p
on_ok (Err e) p = tt

-- ---- in a table that has grown

module _ (old new : List Shape) (keeps : Keeps old new) where
  -- a cause is the same fault
  pub cause_kept : (field : List ℕ) (cause : Cause) → IsCauseBelow (length old) cause → cause_at new field cause ≡ cause_at old field cause
  cause_kept field (MayBeMissing d) below = ap (λ (s : Shape). model.MissingAt field (record { path = d.path.now; segment = d.segment; shape = s })) (kept_shape old new d.shape keeps below)
  cause_kept field MayFail below = refl
  cause_kept field MayNotFit below = refl

  -- and speaks of shapes of it
  pub cause_still : (cause : Cause) → IsCauseBelow (length old) cause → IsCauseBelow (length new) cause
  cause_still (MayBeMissing d) below = kept_within old new d.shape keeps below
  cause_still MayFail below = tt
  cause_still MayNotFit below = tt

  doubts-kept : (ds : List Doubt) → AreDoubtsBelow (length old) ds → map (named_fault new) ds ≡ map (named_fault old) ds
  doubts-kept [] below = refl
  doubts-kept (d ∷ ds) below = rw (cause_kept d.field.now d.cause below.0, doubts-kept ds below.1) refl

  doubts-still : (ds : List Doubt) → AreDoubtsBelow (length old) ds → AreDoubtsBelow (length new) ds
  doubts-still [] below = tt
  doubts-still (d ∷ ds) below = (cause_still d.cause below.0, doubts-still ds below.1)

  -- doubts that are put down behind others
  pub put_behind : (field : List ℕ) (first further : Told) (xs ys zs : List Doubt) → ArePutDown old field first xs ys → ArePutDown new field further ys zs → ArePutDown new field (first ++ further) xs zs
  put_behind field first further xs ys zs h k =
      let table = new in
      let front : map (told_at field) first ≡ map (named_fault table) h.added = h.same ∙ sym (doubts-kept h.added h.below) in
      record {
        added = h.added ++ k.added;
        whole = k.whole ∙ ap (λ ds. ds ++ k.added) h.whole ∙ append_assoc xs h.added k.added;
        same = map-append (told_at field) first further ∙ rw (front, k.same) (sym (map-append (named_fault table) h.added k.added));
        below = all_append (λ (d : Doubt). IsCauseBelow (length new) d.cause) h.added k.added (doubts-still h.added h.below) k.below;
      }

  -- those that were put down stay
  pub put_kept : (field : List ℕ) (told : Told) (xs ys : List Doubt) → ArePutDown old field told xs ys → ArePutDown new field told xs ys
  put_kept field told xs ys h = record {
    added = h.added;
    whole = h.whole;
    same = h.same ∙ sym (doubts-kept h.added h.below);
    below = doubts-still h.added h.below;
  }

-- none are
pub none_put : (table : List Shape) (field : List ℕ) (told : Told) (ds : List Doubt) → told ≡ [] → ArePutDown table field told ds ds
none_put table field told ds none = rw none (record { added = []; whole = sym (append-nil ds); same = refl; below = tt })

-- ---- parts

module _ (table : List Shape) (whole : Result Shape model.Doubt) where
  -- a part by number has a shape
  pub part_found : (n : ℕ) → IsPart table whole (Ok n) → whole ≡ Ok (shape_at table n)
  part_found n is = go whole (is.same [])
    where
      go : (r : Result Shape model.Doubt) → at_field [] r ≡ Ok (shape_at table n) → r ≡ Ok (shape_at table n)
      go (Ok s) e = cc
      go (Err doubt) e = absurd (cc)

  -- which is shown
  pub part_shown : (n : ℕ) → IsPart table whole (Ok n) → Shows table (or_none whole) n
  part_shown n is = record { within = is.within; same = sym (ap or_none (part_found n is)) }

  -- and no doubt
  pub part_undoubted : (field name : List ℕ) (n : ℕ) (ds : List Doubt) → IsPart table whole (Ok n) → ArePutDown table field (doubts_at name whole) ds ds
  part_undoubted field name n ds is = none_put table field (doubts_at name whole) ds (ap (doubts_at name) (part_found n is))

  -- where there is none, Never stands for it
  pub never_for : (cause : Cause) → IsPart table whole (Err cause) → Never ≡ or_none whole
  never_for cause is = go whole (is.same [])
    where
      go : (r : Result Shape model.Doubt) → at_field [] r ≡ Err (cause_at table [] cause) → Never ≡ or_none r
      go (Ok s) e = absurd (cc)
      go (Err doubt) e = refl

  -- and its doubt is put down
  pub part_doubted : (new : List Shape) (keeps : Keeps table new) (d : Doubt) (ds es : List Doubt) → IsPart table whole (Err d.cause) → es ≡ ds ++ d ∷ [] → ArePutDown new d.field.now (doubts_at d.name.now whole) ds es
  part_doubted new keeps d ds es is pushed =
      record {
        added = d ∷ [];
        whole = pushed;
        same = go whole (is.same d.field.now);
        below = (cause_still table new keeps d.cause is.below, tt);
      }
    where
      go : (r : Result Shape model.Doubt) → at_field d.field.now r ≡ Err (cause_at table d.field.now d.cause) → map (told_at d.field.now) (doubts_at d.name.now r) ≡ named_fault new d ∷ []
      go (Ok s) e = absurd (cc)
      go (Err doubt) e =
          let own : model.doubt_fault d.field.now doubt ≡ cause_at table d.field.now d.cause = cc in
          rw (own, cause_kept table new keeps d.field.now d.cause is.below) refl

-- an argument's value is there where its part is
pub part_answers : (table : List Shape) (whole : Result Shape model.Doubt) (part : Result ℕ Cause) (value : Option ℕ) (shape : Option Shape) → shape ≡ unless_doubtful whole → IsPart table whole part → value ≡ result_ok part → Answers table shape value
part_answers table whole (Ok n) value shape own is there = rw (own, there, part_found table whole n is) (record { same = refl; within = is.within })
part_answers table whole (Err cause) value shape own is there = rw (own, there) (record { same = go whole (is.same []); within = tt })
  where
    go : (r : Result Shape model.Doubt) → at_field [] r ≡ Err (cause_at table [] cause) → unless_doubtful r ≡ None
    go (Ok s) e = absurd (cc)
    go (Err doubt) e = refl
