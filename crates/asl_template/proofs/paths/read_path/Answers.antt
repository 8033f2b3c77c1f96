use Rattle.std.proofs.Common.{sym, ap, ◌∙◌}
use Rattle.asl_model.specs.CallSpelling.{reference_of}
use Rattle.asl_model.specs.Template.{Literal, FromPath}
use Rattle.asl_model.specs.Tree.{Null}
use Rattle.std.proofs.Common.{option_map, unwrap_or}
use Rattle.asl_template.proofs.Contexts.{path_found, path_right, context_told, path_told}
use Rattle.asl_template.proofs.paths.read_path.Goals as goal

pub path_in_template-requires : goal.path_in_template-requires
path_in_template-requires c =
    let found = path_found c.in_ok-path.field-0 (reference_of c.args.item c.args.text.now) c.in-Some.path c.in_ok-path.ensures c.in-Some.is in
    (found.0, found.2)

pub returns-in-Some-clause-right : goal.returns-in-Some-clause-right
returns-in-Some-clause-right c =
    let found = path_found c.in_ok-path.field-0 (reference_of c.args.item c.args.text.now) c.in-Some.path c.in_ok-path.ensures c.in-Some.is in
    path_right c.args.item c.args.text.now found.0 found.1

pub returns-in-Some-clause-template : goal.returns-in-Some-clause-template
returns-in-Some-clause-template c =
    let found = path_found c.in_ok-path.field-0 (reference_of c.args.item c.args.text.now) c.in-Some.path c.in_ok-path.ensures c.in-Some.is in
    c.path_in_template.ensures found.0 found.2 ∙ sym (ap (λ o. unwrap_or (option_map FromPath o) (Literal Null)) found.1)

pub returns-then-starts_with-clause-refused : goal.returns-then-starts_with-clause-refused
returns-then-starts_with-clause-refused c =
    context_told c.args.item c.args.text.now _ c.in_ok-path.field-0 c.if-starts_with.ensures.cases.1.1 c.in_ok-path.ensures c.in-None.is

pub returns-else-starts_with-clause-refused : goal.returns-else-starts_with-clause-refused
returns-else-starts_with-clause-refused c =
    path_told c.args.item c.args.text.now c.in_ok-path.field-0 c.if-starts_with.ensures.cases c.in_ok-path.ensures c.in-None.is
