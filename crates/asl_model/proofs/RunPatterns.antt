-- The test of a pattern is exactly that the text can be cut so.
use Rattle.std.proofs.Common.{◌≡◌, ◌↔◌, refl, ap, subst, ℕ, List, [], ◌∷◌, ◌++◌, Bool, true, false, ◌&&◌, ◌||◌, nat_eq, IsTrue, eqb-true, eq-eqb, ◌⊎◌, inl, inr}
use Rattle.asl_model.specs.Test.{PatternPart, ByteOf, Star, IsCutBy, cut_is_over, cut_off_byte, cut_off_star, some_end, is_cut_by}
use Rattle.asl_model.proofs.RunOptions.{false_true}

both : (a b : Bool) → IsTrue (a && b) → IsTrue a × IsTrue b
both true b h = (refl, h)
both false b h = false_true h

both_pass : (a b : Bool) → IsTrue a → IsTrue b → IsTrue (a && b)
both_pass true b g h = h
both_pass false b g h = false_true g

one_of : (a b : Bool) → IsTrue (a || b) → IsTrue a ⊎ IsTrue b
one_of true b h = inl refl
one_of false b h = inr h

first_of_two : (a b : Bool) → IsTrue a → IsTrue (a || b)
first_of_two true b h = refl
first_of_two false b h = false_true h

second_of_two : (a b : Bool) → IsTrue b → IsTrue (a || b)
second_of_two true b h = refl
second_of_two false b h = h

-- some end that passes: what is in front of it, and that it passes
record PassingEnd (passes : List ℕ → Bool) (text : List ℕ) : Type 0 where
  front : List ℕ
  end : List ℕ
  whole : front ++ end ≡ text
  passing : IsTrue (passes end)

passing_end : (passes : List ℕ → Bool) (text : List ℕ) → IsTrue (some_end passes text) → PassingEnd passes text
passing_end passes [] h = record { front = []; end = []; whole = refl; passing = h }
passing_end passes (b ∷ bs) h = go (one_of (passes (b ∷ bs)) (some_end passes bs) h) (passing_end passes bs)
  where
    go : IsTrue (passes (b ∷ bs)) ⊎ IsTrue (some_end passes bs) → (IsTrue (some_end passes bs) → PassingEnd passes bs) → PassingEnd passes (b ∷ bs)
    go (inl g) further = record { front = []; end = b ∷ bs; whole = refl; passing = g }
    go (inr g) further = let rest = further g in record { front = b ∷ rest.front; end = rest.end; whole = ap (λ cs. b ∷ cs) rest.whole; passing = rest.passing }

end_passes : (passes : List ℕ → Bool) (front end : List ℕ) → IsTrue (passes end) → IsTrue (some_end passes (front ++ end))
end_passes passes [] [] h = h
end_passes passes [] (c ∷ cs) h = first_of_two (passes (c ∷ cs)) (some_end passes cs) h
end_passes passes (b ∷ front) end h = second_of_two (passes (b ∷ (front ++ end))) (some_end passes (front ++ end)) (end_passes passes front end h)

same_byte : (a b : ℕ) → IsTrue (nat_eq a b) → a ≡ b
same_byte a b h = eqb-true a b h

itself : (a : ℕ) → IsTrue (nat_eq a a)
itself a = eq-eqb a a refl

pub cut_passes : {parts : List PatternPart} {text : List ℕ} → IsCutBy parts text → IsTrue (is_cut_by parts text)
cut_passes cut_is_over = refl
cut_passes (cut_off_byte {b = b} {parts = parts} {further = further} h) = both_pass (nat_eq b b) (is_cut_by parts further) (itself b) (cut_passes h)
cut_passes (cut_off_star {parts = parts} {further = further} front h) = end_passes (is_cut_by parts) front further (cut_passes h)

pub passes_cut : (parts : List PatternPart) (text : List ℕ) → IsTrue (is_cut_by parts text) → IsCutBy parts text
passes_cut [] [] h = cut_is_over
passes_cut [] (b ∷ bs) h = false_true h
passes_cut (ByteOf b ∷ parts) [] h = false_true h
passes_cut (ByteOf b ∷ parts) (c ∷ cs) h =
    let two = both (nat_eq b c) (is_cut_by parts cs) h in
    subst (λ (d : ℕ). IsCutBy (ByteOf b ∷ parts) (d ∷ cs)) (same_byte b c two.0) (cut_off_byte (passes_cut parts cs two.1))
passes_cut (Star ∷ parts) text h =
    let rest = passing_end (is_cut_by parts) text h in
    subst (IsCutBy (Star ∷ parts)) rest.whole (cut_off_star rest.front (passes_cut parts rest.end rest.passing))

pub cut_exactly : (parts : List PatternPart) (text : List ℕ) → IsCutBy parts text ↔ IsTrue (is_cut_by parts text)
cut_exactly parts text = (cut_passes, passes_cut parts text)
