-- What comes of walking along a pattern and a text together. No public clause cites this module.
use Rattle.std.specs.Prelude.{◌≡◌, ◌++◌, ◌∷◌, ℕ, List, map, true, false}
use Rattle.asl_model.specs.Test as model
use Rattle.asl_choice.specs.declared.matching.WalkEnd.{WalkEnd}
use Rattle.asl_choice.specs.declared.matching.WalkEnd.TheVariants.{Matched, Stuck, AtStar}
use Rattle.asl_choice.specs.declared.rule.PatternPart.{PatternPart}
use Rattle.asl_choice.specs.View.{pattern_view}

-- the pattern and the text begin with the same bytes, and parts and rest stand behind them
pub record StandsBehind (pattern : List PatternPart) (text : List ℕ) (parts : List model.PatternPart) (rest : List ℕ) : Type 0 where
  pub front : List ℕ
  pub in_pattern : pattern_view pattern ≡ map model.ByteOf front ++ parts
  pub in_text : text ≡ front ++ rest

-- the walk ends so
abbrev pub WalksTo : WalkEnd → List PatternPart → List ℕ → Type 0
WalksTo Matched pattern text = model.is_cut_by (pattern_view pattern) text ≡ true
WalksTo Stuck pattern text = model.is_cut_by (pattern_view pattern) text ≡ false
WalksTo (AtStar parts rest) pattern text = StandsBehind pattern text (model.Star ∷ pattern_view parts.now) rest.now
