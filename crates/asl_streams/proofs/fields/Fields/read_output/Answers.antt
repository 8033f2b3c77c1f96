use Rattle.std.proofs.Common.{subst}
use Rattle.json.specs.Json.{value}
use Rattle.asl_streams.specs.Shaped.{IsOutputOf}
use Rattle.asl_streams.proofs.Fielded.{given_there}
use Rattle.asl_streams.proofs.OutputShapes.{listed_shapes}
use Rattle.asl_streams.proofs.PutFields.{output_put}
use Rattle.asl_streams.proofs.Values.{value_spelled}
use Rattle.asl_numbered.specs.References.{numbers_given}
use Rattle.asl_streams.proofs.fields.Fields.read_output.Goals as goal

pub next_output-requires : goal.next_output-requires
next_output-requires c = record { listed = given_there c.args.shapes.now c.args.self.now c.reader-reader.result.listed c.reader-reader.ensures.listed c.requires.listed }

pub returns-clause-read : goal.returns-clause-read
returns-clause-read c =
    let several = c.args.several in
    let old = c.args.self.now in
    let output = c.in_ok-next_output.field-0 in
    let read = c.in_ok-next_output.ensures.output in
    let stated = value_spelled (value 126 c.args.tokens.now) read.tree c.next_output.new.tokens read.spelled in
    let is = subst (λ g. IsOutputOf several g c.next_output.new.shapes read.tree output) (listed_shapes c.args.shapes.now old (numbers_given c.reader-reader.result.listed) c.reader-reader.ensures.listed) (rw (← c.reader-reader.ensures.several) read.is) in
    record {
      value = stated.value;
      spelled = stated.read;
      are = λ found are. output_put several found old c.args.shapes.now c.next_output.new.shapes output stated.value c.in_ok-next_output.ensures.keeps (record { tree = read.tree; value = stated.is; is = is }) are;
    }
