-- What rules ask of paths, as the code keeps it.
use Rattle.std.specs.Prelude.{◌≡◌, List, Bool, Option, Some, None, string_bytes}
use Rattle.asl_model.specs.Path.{Segment}
use Rattle.asl_model.specs.PathSpelling.{path_of, printed_path}
use Rattle.asl_model.specs.ShapeFlow as model
use Rattle.asl_model.specs.Test.{NullKind, NumericKind, StringKind, BooleanKind}
use Rattle.asl_shape_rules.specs.declared.settling.Asks.{Asks}
use Rattle.asl_shape_rules.specs.declared.settling.Asks.TheVariants.{Presence, Null, Numeric, Text, Boolean, Truth}
use Rattle.asl_shape_rules.specs.declared.settling.Question.{Question}

-- the question of what is asked of a path
abbrev pub question_at : Asks → List Segment → model.Question
question_at Presence path = model.IsThere path
question_at Null path = model.IsOf NullKind path
question_at Numeric path = model.IsOf NumericKind path
question_at Text path = model.IsOf StringKind path
question_at Boolean path = model.IsOf BooleanKind path
question_at Truth path = model.IsItTrue path

-- the question is that one, of the path whose text it has
pub record IsQuestion (asked : model.Question) (question : Question) : Type 0 where
  pub path : List Segment
  pub same : asked ≡ question_at question.asks path
  pub printed : string_bytes question.path ≡ printed_path path
  pub read_back : path_of (string_bytes question.path) ≡ Some path

-- what is asked, with the answer that is wanted, is that question with that answer; where nothing is, there is none
abbrev pub IsAsked : Option (model.Question × Bool) → Option (Question × Bool) → Type 0
IsAsked None None = Unit {0}
IsAsked None (Some told) = ⊥
IsAsked (Some one) None = ⊥
IsAsked (Some one) (Some told) = IsQuestion one.0 told.0 × (one.1 ≡ told.1)
