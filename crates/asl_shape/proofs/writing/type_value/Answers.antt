use Rattle.std.proofs.Common.{◌≡◌, length, rules, ◌∙◌}
use Rattle.asl_shape.proofs.Writings.{types_shown}
use Rattle.asl_shape.proofs.writing.type_value.Goals as goal

pub returns-else-len-eq1 : goal.returns-else-len-eq1
returns-else-len-eq1 c ns e =
    let lengths : c.len.result ≡ length c.args.names.items = search rules in
    types_shown c.args.names ns (λ one. c.if-len-eq1.false (lengths ∙ one)) e
