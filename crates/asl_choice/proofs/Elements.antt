-- Reading a pattern, element by element.
use Rattle.std.proofs.Common.{◌≡◌, ℕ, List, [], ◌∷◌, ◌++◌, Option, Some, None, option_map, eqb, Bool, true, false, if◌then◌else◌, refl, ap, ◌∙◌}
use Rattle.std.proofs.lemmas.Bool.{ne_eqb}
use Rattle.asl_model.specs.Test as model
use Rattle.asl_model.specs.RuleSpelling.{pattern_of}
use Rattle.asl_choice.specs.declared.rule.PatternPart.{PatternPart}
use Rattle.asl_choice.specs.View.{part_view, pattern_view}

-- a byte that is no backslash
plain : (x : ℕ) (others : List ℕ) → ¬ (x ≡ 92) → pattern_of (x ∷ others) ≡ option_map (λ parts. (if eqb x 42 then model.Star else model.ByteOf x) ∷ parts) (pattern_of others)
plain x [] not = rw (ne_eqb x 92 not) (by (eqb x 42))
  where
    by : (star : Bool) → (if star then Some (model.Star ∷ []) else Some (model.ByteOf x ∷ [])) ≡ Some ((if star then model.Star else model.ByteOf x) ∷ [])
    by true = refl
    by false = refl
plain x (y ∷ rest) not = rw (ne_eqb x 92 not, pattern_of) refl

-- a star; another byte
pub star_off : (x : ℕ) (others : List ℕ) → ¬ (x ≡ 92) → x ≡ 42 → pattern_of (x ∷ others) ≡ option_map (λ parts. model.Star ∷ parts) (pattern_of others)
star_off x others not is = plain x others not ∙ rw is refl

pub byte_off : (x : ℕ) (others : List ℕ) → ¬ (x ≡ 92) → ¬ (x ≡ 42) → pattern_of (x ∷ others) ≡ option_map (λ parts. model.ByteOf x ∷ parts) (pattern_of others)
byte_off x others not nor = plain x others not ∙ rw (ne_eqb x 42 nor) refl

-- what is read so far and one more element
pub one_read : (parts : List PatternPart) (part : PatternPart) (o : Option (List model.PatternPart)) → option_map (λ further. pattern_view parts ++ further) (option_map (λ further. part_view part ∷ further) o) ≡ option_map (λ further. pattern_view (parts ++ (part ∷ [])) ++ further) o
one_read parts part None = refl
one_read parts part (Some further) = ap Some (joined parts)
  where
    joined : (parts : List PatternPart) → pattern_view parts ++ (part_view part ∷ further) ≡ pattern_view (parts ++ (part ∷ [])) ++ further
    joined [] = refl
    joined (p ∷ ps) = ap (λ rest. part_view p ∷ rest) (joined ps)
