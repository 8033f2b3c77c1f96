use Rattle.std.proofs.Common.{Err, ap, ◌∙◌}
use Rattle.asl_lint.proofs.reading.read_declaration.Goals as goal

pub returns-in-Ok : goal.returns-in-Ok
returns-in-Ok c = c.declaration_of.ensures c.args.text.now c.in-Ok.ensures.tree

pub returns-in-Err-NotJson : goal.returns-in-Err-NotJson
returns-in-Err-NotJson c = c.no_declaration.ensures c.args.text.now (c.read.ensures.no_value (c.in-Err-NotJson.is ∙ ap Err c.in-Err-NotJson.field-0-is))
