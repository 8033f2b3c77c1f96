-- A path's text, as far as it was read.
use Rattle.std.proofs.Common.{◌≡◌, ◌==◌, ℕ, suc, ◌-◌, ◌<◌, ◌≤◌, List, [], ◌∷◌, ◌++◌, length, true, IsUtf8, Some, None, refl, ap, subst, ◌∙◌, arith}
use Rattle.std.proofs.lemmas.Bool.Decides.{nat_tests}
use Rattle.asl_model.specs.Path.{Segment}
use Rattle.asl_model.specs.PathSpelling as model
use Rattle.asl_path.specs.Refusal.{IsRefused}
use Rattle.asl_path.specs.declared.PathRefusal.{PathRefusal}
use Rattle.asl_path.specs.declared.PathRefusal.TheVariants.{NoDollar, BadSegment, LeftOut, OutOfMemory}
use Rattle.asl_path.specs.View.{segment_view, segments_view}
use Rattle.asl_path.specs.declared.Segment as code
use Rattle.asl_model.specs.PathSpelling.{Begins, Spells, StopsAt, after, cut_segment, have_spellings}
use Rattle.asl_model.proofs.PathReading.{after_is, segment_rest, spelled_not_refused}
use Rattle.asl_model.proofs.PathPrinting.{begun_have_spellings}

-- the text is `$`, the segments found, and the rest
pub record SoFar (text : List ℕ) (found : List Segment) (rest : List ℕ) : Type 0 where
  pub segments : List ℕ
  pub dollar : text ≡ 36 ∷ segments
  pub front : Begins found segments rest
  pub within : length rest ≤ length text
  pub utf8 : IsUtf8 rest

pub begun : (text rest : List ℕ) → after 36 text ≡ Some rest → IsUtf8 rest → SoFar text [] rest
begun text rest e u =
    let is = after_is 36 text rest e in
    record { segments = rest; dollar = is; front = refl; within = rw is (omega arith); utf8 = u }

one_more : (p : List Segment) (s : Segment) (text rest behind : List ℕ) → Begins p text rest → cut_segment rest ≡ Some (s, behind) → Begins (p ++ s ∷ []) text behind
one_more [] s text rest behind b e = (behind, ap cut_segment b ∙ e, refl)
one_more (t ∷ p) s text rest behind b e = (b.0, b.1, one_more p s b.0 rest behind b.2 e)

pub more : (text : List ℕ) (found : List Segment) (rest : List ℕ) (s : Segment) (behind : List ℕ) → SoFar text found rest → cut_segment rest ≡ Some (s, behind) → IsUtf8 behind → SoFar text (found ++ s ∷ []) behind
more text found rest s behind so_far e u =
    let shorter = segment_rest rest (s, behind) e in
    let within = so_far.within in
    record { segments = so_far.segments; dollar = so_far.dollar; front = one_more found s so_far.segments rest behind so_far.front e; within = omega arith; utf8 = u }

nothing : (rest : List ℕ) → (length rest == 0) ≡ true → rest ≡ []
nothing [] e = refl
nothing (x ∷ rest) e = absurd (let h : suc (length rest) ≡ 0 = grind (arith, nat_tests) in omega arith)

pub spelled : (text : List ℕ) (found : List Segment) (rest : List ℕ) → SoFar text found rest → (length rest == 0) ≡ true → Spells text found
spelled text found rest so_far e = record { segments = so_far.segments; dollar = so_far.dollar; all = subst (λ r. Begins found so_far.segments r) (nothing rest e) so_far.front }

pub have : (text : List ℕ) (found : List Segment) (rest : List ℕ) → SoFar text found rest → have_spellings found ≡ true
have text found rest so_far = begun_have_spellings found so_far.segments rest so_far.front

pub stopped : (text : List ℕ) (found : List Segment) (rest : List ℕ) (b : ℕ) → SoFar text found rest → 0 < length rest → cut_segment rest ≡ None → b ≡ length text - length rest → StopsAt text b rest
stopped text found rest b so_far some none place =
    let within = so_far.within in
    record { segments = so_far.segments; before = found; dollar = so_far.dollar; front = so_far.front; some = grind (arith, nat_tests); none = none; place = omega arith }

pub segments_view-push : (ss : List code.Segment) (s : code.Segment) → segments_view ss ++ segment_view s ∷ [] ≡ segments_view (ss ++ s ∷ [])
segments_view-push [] s = refl
segments_view-push (t ∷ ss) s = ap (λ p. segment_view t ∷ p) (segments_view-push ss s)

-- a refusal of a text that spells a path is want of memory
pub only_memory : (text : List ℕ) (p : List Segment) (refusal : PathRefusal) → Spells text p → IsRefused text refusal → refusal ≡ OutOfMemory
only_memory text p NoDollar s r = absurd (spelled_not_refused text p model.NoDollar s r)
only_memory text p (BadSegment b) s r = absurd (spelled_not_refused text p (model.BadSegment b) s r)
only_memory text p (LeftOut b) s r = absurd (spelled_not_refused text p (model.LeftOut b) s r)
only_memory text p OutOfMemory s r = refl
