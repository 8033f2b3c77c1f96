use Rattle.std.proofs.Common.{codes, sym, ◌∙◌, subst}
use Rattle.serde_json.specs.Find.{get_member}
use Rattle.asl_records.specs.Values.{IsPart}
use Rattle.asl_shape.specs.Spelled.{tree_there}
use Rattle.asl_streams.proofs.Values.{lent_tree}
use Rattle.asl_streams.proofs.Fielded.{equal, output_shown, stands, within}
use Rattle.asl_streams.proofs.certificates.certificate_of.Goals as goal

pub returns-clause-certificate : goal.returns-clause-certificate
returns-clause-certificate c = λ found are.
    let several = c.args.several in
    let parts = c.in-Some-Some in
    let same = equal c.in-Ok.read several c.if-read-several.true in
    let version : IsPart (tree_there c.as_ref.result) (get_member (codes "version") found) = subst (λ o. IsPart o (get_member (codes "version") found)) (sym (lent_tree c.args.fields.version c.as_ref.result c.as_ref.ensures.value)) are.version in
    let told = c.in-Ok.ensures in
    let number = c.in_ok-output in
    stands several c.args.shapes c.number.new.shapes found c.args.fields parts.output number.output parts.states parts.is-0 parts.is-1 are number.ensures.keeps
    (output_shown several c.args.shapes c.number.new.shapes c.args.fields parts.output number.output c.as_deref.result c.as_deref.ensures.cases number.ensures.number)
    (same ∙ told.several.each (get_member (codes "version") found) version) (told.right.each (get_member (codes "version") found) version)

pub returns-clause-within : goal.returns-clause-within
returns-clause-within c = λ found are.
    let several = c.args.several in
    let parts = c.in-Some-Some in
    let number = c.in_ok-output in
    within several c.args.shapes c.number.new.shapes found c.args.fields parts.output number.output parts.states parts.is-0 parts.is-1 are number.ensures.keeps
    (output_shown several c.args.shapes c.number.new.shapes c.args.fields parts.output number.output c.as_deref.result c.as_deref.ensures.cases number.ensures.number)
