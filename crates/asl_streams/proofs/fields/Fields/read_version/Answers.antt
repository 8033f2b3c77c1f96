use Rattle.json.specs.Json.{value}
use Rattle.asl_tree.specs.View.{view}
use Rattle.asl_streams.proofs.PutFields.{version_put}
use Rattle.asl_streams.proofs.Values.{value_spelled}
use Rattle.asl_streams.proofs.fields.Fields.read_version.Goals as goal

pub returns-in-Ok-clause-read : goal.returns-in-Ok-clause-read
returns-in-Ok-clause-read c = λ several table.
    let tree = c.in-Ok.tree in
    let read = value_spelled (value 126 c.args.tokens.now) (view tree) c.next_tree.new.reader c.in-Ok.ensures.tree in
    record { value = read.value; spelled = read.read; are = λ found are. version_put several found c.args.self.now table tree read.value read.is are }
