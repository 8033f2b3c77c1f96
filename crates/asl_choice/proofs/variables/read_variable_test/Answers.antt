use Rattle.std.proofs.lemmas.Result.{err_from_is_err_and}
use Rattle.asl_tree.specs.Values.{tree_in}
use Rattle.asl_choice.proofs.VariableTests.{variable_told, operator_right, operator_test, operator_told}
use Rattle.asl_choice.proofs.variables.read_variable_test.Goals as goal

pub returns-in_err-variable-clause-refused : goal.returns-in_err-variable-clause-refused
returns-in_err-variable-clause-refused c =
    let p = err_from_is_err_and c.from_residual.result c.from_residual.ensures.1 in
    rw (p.1, p.2) (variable_told c.in_err-variable.field-0.0 (tree_in c.args.variable.now) c.args.name.now (tree_in c.args.operand.now) c.in-Some.text.now c.in-Some.ensures c.in_err-variable.ensures.refused)

pub returns-clause-right : goal.returns-clause-right
returns-clause-right c =
    operator_right (tree_in c.args.variable.now) c.args.name.now (tree_in c.args.operand.now) c.in-Some.text.now c.in_ok-variable.variable c.read_operator.result c.in-Some.ensures c.in_ok-variable.ensures.path c.read_operator.ensures.test

pub returns-clause-test : goal.returns-clause-test
returns-clause-test c =
    operator_test (tree_in c.args.variable.now) c.args.name.now (tree_in c.args.operand.now) c.in-Some.text.now c.in_ok-variable.variable c.read_operator.result c.in-Some.ensures c.in_ok-variable.ensures.path c.read_operator.ensures.test

pub returns-clause-refused : goal.returns-clause-refused
returns-clause-refused c =
    operator_told (tree_in c.args.variable.now) c.args.name.now (tree_in c.args.operand.now) c.in-Some.text.now c.in_ok-variable.variable c.read_operator.result c.in-Some.ensures c.in_ok-variable.ensures.path c.read_operator.ensures.refused
