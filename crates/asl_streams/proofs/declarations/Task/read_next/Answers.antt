use Rattle.json.specs.Json.{value}
use Rattle.asl_streams.proofs.Declaring.{gives_put, takes_put}
use Rattle.asl_streams.proofs.Values.{value_spelled}
use Rattle.asl_streams.proofs.declarations.Task.read_next.Goals as goal

pub returns-in_ok-next_own_shape-in-takes-clause-read : goal.returns-in_ok-next_own_shape-in-takes-clause-read
returns-in_ok-next_own_shape-in-takes-clause-read c =
    let read = c.in_ok-next_own_shape-in-takes.ensures.shape in
    let stated = value_spelled (value c.args.levels c.args.tokens.now) read.tree c.next_own_shape.new.tokens read.spelled in
    rw c.in-takes.is (record {
      value = stated.value;
      spelled = stated.read;
      are = λ found are. takes_put found c.args.self.now are stated.value c.in_ok-next_own_shape-in-takes.field-0 (record { tree = read.tree; is = stated.is; read = read.read });
    })

pub returns-in_ok-next_own_shape-in-gives-clause-read : goal.returns-in_ok-next_own_shape-in-gives-clause-read
returns-in_ok-next_own_shape-in-gives-clause-read c =
    let read = c.in_ok-next_own_shape-in-gives.ensures.shape in
    let stated = value_spelled (value c.args.levels c.args.tokens.now) read.tree c.next_own_shape-in-gives.new.tokens read.spelled in
    rw c.in-gives.is (record {
      value = stated.value;
      spelled = stated.read;
      are = λ found are. gives_put found c.args.self.now are stated.value c.in_ok-next_own_shape-in-gives.field-0 (record { tree = read.tree; is = stated.is; read = read.read });
    })
