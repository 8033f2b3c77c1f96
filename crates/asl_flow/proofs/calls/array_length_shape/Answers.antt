use Rattle.std.proofs.Common.{arith}
use Rattle.asl_flow.proofs.FunctionShapes.{one_argument}
use Rattle.asl_flow.proofs.calls.array_length_shape.Goals as goal

pub returns-in_default-2-clause-answers : goal.returns-in_default-2-clause-answers
returns-in_default-2-clause-answers c =
    record { same = one_argument c.args.shapes.now c.args.arguments.now (λ one. omega (arith, c.in_default.len_at_least, one)); within = tt }
