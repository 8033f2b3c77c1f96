use Rattle.json.specs.Json.{value}
use Rattle.asl_streams.proofs.StateParts.{branches_put, input_put, item_put, output_put}
use Rattle.asl_streams.proofs.Values.{value_spelled}
use Rattle.asl_numbered.specs.References.{shapes_given}
use Rattle.asl_streams.proofs.states.Entry.read_next.Goals as goal

pub returns-in_ok-next_shape-in-input-clause-read : goal.returns-in_ok-next_shape-in-input-clause-read
returns-in_ok-next_shape-in-input-clause-read c =
    let read = c.in_ok-next_shape-in-input.ensures.number in
    let stated = value_spelled (value c.args.levels c.args.tokens.now) read.tree c.next_shape.new.tokens read.spelled in
    rw c.in-input.is (record {
      value = stated.value;
      spelled = stated.read;
      are = λ found are. input_put c.args.reader.several (shapes_given c.args.shapes.now c.args.reader.listed) c.args.shapes.now c.next_shape.new.shapes c.in_ok-next_shape-in-input.ensures.keeps found c.args.self.now are stated.value c.in_ok-next_shape-in-input.field-0 (record { tree = read.tree; is = stated.is; read = read.read });
    })

pub returns-in_ok-next_shape-in-output-clause-read : goal.returns-in_ok-next_shape-in-output-clause-read
returns-in_ok-next_shape-in-output-clause-read c =
    let read = c.in_ok-next_shape-in-output.ensures.number in
    let stated = value_spelled (value c.args.levels c.args.tokens.now) read.tree c.next_shape-in-output.new.tokens read.spelled in
    rw c.in-output.is (record {
      value = stated.value;
      spelled = stated.read;
      are = λ found are. output_put c.args.reader.several (shapes_given c.args.shapes.now c.args.reader.listed) c.args.shapes.now c.next_shape-in-output.new.shapes c.in_ok-next_shape-in-output.ensures.keeps found c.args.self.now are stated.value c.in_ok-next_shape-in-output.field-0 (record { tree = read.tree; is = stated.is; read = read.read });
    })

pub returns-in_ok-next_shapes-in-branches-clause-read : goal.returns-in_ok-next_shapes-in-branches-clause-read
returns-in_ok-next_shapes-in-branches-clause-read c =
    let read = c.in_ok-next_shapes-in-branches.ensures.numbers in
    rw c.in-branches.is (record {
      value = read.stated;
      spelled = read.spelled;
      are = λ found are. branches_put c.args.reader.several (shapes_given c.args.shapes.now c.args.reader.listed) c.args.shapes.now c.next_shapes.new.shapes c.in_ok-next_shapes-in-branches.ensures.keeps found c.args.self.now are read.stated c.in_ok-next_shapes-in-branches.field-0 read.read;
    })

pub returns-in_ok-next_shape-in-item-clause-read : goal.returns-in_ok-next_shape-in-item-clause-read
returns-in_ok-next_shape-in-item-clause-read c =
    let read = c.in_ok-next_shape-in-item.ensures.number in
    let stated = value_spelled (value c.args.levels c.args.tokens.now) read.tree c.next_shape-in-item.new.tokens read.spelled in
    rw c.in-item.is (record {
      value = stated.value;
      spelled = stated.read;
      are = λ found are. item_put c.args.reader.several (shapes_given c.args.shapes.now c.args.reader.listed) c.args.shapes.now c.next_shape-in-item.new.shapes c.in_ok-next_shape-in-item.ensures.keeps found c.args.self.now are stated.value c.in_ok-next_shape-in-item.field-0 (record { tree = read.tree; is = stated.is; read = read.read });
    })
