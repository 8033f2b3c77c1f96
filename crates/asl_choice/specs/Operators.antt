-- The operators of the definitions that those of the code stand for. No public clause cites this module.
use Rattle.asl_model.specs.RuleSpelling as model
use Rattle.asl_choice.specs.declared.operators.Operator.{Operator}
use Rattle.asl_choice.specs.declared.operators.Operator.TheVariants.{WithValue, WithPath, Matching, OfKind, Presence}
use Rattle.asl_choice.specs.View.{comparison_view, kind_view}

-- the operator
abbrev pub operator_view : Operator → model.Operator
operator_view (WithValue comparison) = model.WithValue (comparison_view comparison)
operator_view (WithPath comparison) = model.WithPath (comparison_view comparison)
operator_view Matching = model.Matching
operator_view (OfKind kind) = model.OfKind (kind_view kind)
operator_view Presence = model.Presence
