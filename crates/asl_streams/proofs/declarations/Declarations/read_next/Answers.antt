use Rattle.json.specs.Json.{value}
use Rattle.asl_streams.proofs.Declaring.{input_put, tasks_put}
use Rattle.asl_streams.proofs.Values.{value_spelled}
use Rattle.asl_streams.proofs.declarations.Declarations.read_next.Goals as goal

pub returns-in_ok-next_own_shape-in-input-clause-read : goal.returns-in_ok-next_own_shape-in-input-clause-read
returns-in_ok-next_own_shape-in-input-clause-read c =
    let read = c.in_ok-next_own_shape-in-input.ensures.shape in
    let stated = value_spelled (value 126 c.args.tokens.now) read.tree c.next_own_shape.new.tokens read.spelled in
    rw c.in-input.is (record {
      value = stated.value;
      spelled = stated.read;
      are = λ found are. input_put found c.args.self.now are stated.value c.in_ok-next_own_shape-in-input.field-0 (record { tree = read.tree; is = stated.is; read = read.read });
    })

pub returns-in_ok-next_tasks-in-tasks-clause-read : goal.returns-in_ok-next_tasks-in-tasks-clause-read
returns-in_ok-next_tasks-in-tasks-clause-read c =
    let read = c.in_ok-next_tasks-in-tasks.ensures.tasks in
    rw c.in-tasks.is (record {
      value = read.stated;
      spelled = read.spelled;
      are = λ found are. tasks_put found c.args.self.now are read.stated c.in_ok-next_tasks-in-tasks.field-0 read.read;
    })
