-- The tests and rules of the definitions that those of the code stand for.
use Rattle.std.specs.Prelude.{List, [], ◌∷◌, map, string_bytes}
use Rattle.asl_model.specs.Test as model
use Rattle.asl_tree.specs.View as trees
use Rattle.asl_choice.specs.declared.rule.Relation.{Relation}
use Rattle.asl_choice.specs.declared.rule.Relation.TheVariants.{Equals, LessThan, GreaterThan, LessThanEquals, GreaterThanEquals}
use Rattle.asl_choice.specs.declared.rule.Comparison.{Comparison}
use Rattle.asl_choice.specs.declared.rule.Comparison.TheVariants as comparisons
use Rattle.asl_choice.specs.declared.rule.Operand.{Operand}
use Rattle.asl_choice.specs.declared.rule.Operand.TheVariants.{Constant, AtPath}
use Rattle.asl_choice.specs.declared.rule.ValueKind.{ValueKind}
use Rattle.asl_choice.specs.declared.rule.ValueKind.TheVariants as kinds
use Rattle.asl_choice.specs.declared.rule.PatternPart.{PatternPart}
use Rattle.asl_choice.specs.declared.rule.PatternPart.TheVariants.{Byte, Star}
use Rattle.asl_choice.specs.declared.rule.Test.{Test, fold-Test}
use Rattle.asl_choice.specs.declared.rule.Test.TheOpen.{Test-F}
use Rattle.asl_choice.specs.declared.rule.Rule.{Rule}

-- the relation
abbrev pub relation_view : Relation → model.Relation
relation_view Equals = model.Equals
relation_view LessThan = model.LessThan
relation_view GreaterThan = model.GreaterThan
relation_view LessThanEquals = model.LessThanEquals
relation_view GreaterThanEquals = model.GreaterThanEquals

-- the comparison
abbrev pub comparison_view : Comparison → model.Comparison
comparison_view (comparisons.String relation) = model.StringIs (relation_view relation)
comparison_view (comparisons.Numeric relation) = model.NumericIs (relation_view relation)
comparison_view comparisons.BooleanEquals = model.BooleanEquals

-- the second value of a comparison
abbrev pub operand_view : Operand → model.Operand
operand_view (Constant t) = model.Constant (trees.view t)
operand_view (AtPath p) = model.AtPath p

-- the kind of values
abbrev pub kind_view : ValueKind → model.ValueKind
kind_view kinds.Null = model.NullKind
kind_view kinds.Numeric = model.NumericKind
kind_view kinds.String = model.StringKind
kind_view kinds.Boolean = model.BooleanKind

-- the element of a pattern
abbrev pub part_view : PatternPart → model.PatternPart
part_view (Byte b) = model.ByteOf b
part_view Star = model.Star

-- the pattern
abbrev pub pattern_view : List PatternPart → List model.PatternPart
pattern_view = map part_view

-- the tests of a list, as parts of `And` or `Or`
abbrev pub tests_of : List model.Test → model.Tests
tests_of [] = model.NoTests
tests_of (test ∷ tests) = model.AndTest test (tests_of tests)

-- one level, with each test inside already seen
abbrev pub view_step : Test-F model.Test → model.Test
view_step (Test-F.And tests) = model.And (tests_of tests.items)
view_step (Test-F.Or tests) = model.Or (tests_of tests.items)
view_step (Test-F.Not test) = model.Not test.value
view_step (Test-F.Compare p comparison operand) = model.Compare p (comparison_view comparison) (operand_view operand)
view_step (Test-F.StringMatches p pattern) = model.StringMatches p (pattern_view pattern.items)
view_step (Test-F.IsOfKind p kind wanted) = model.IsOfKind p (kind_view kind) wanted
view_step (Test-F.IsPresent p wanted) = model.IsPresent p wanted

-- the test
abbrev pub view : Test → model.Test
view = fold-Test model.Test view_step

-- the tests of a list
abbrev pub tests_view : List Test → model.Tests
tests_view tests = tests_of (map view tests)

-- the rule
abbrev pub rule_view : Rule → model.Rule
rule_view rule = record { test = view rule.test; next = string_bytes rule.next }
