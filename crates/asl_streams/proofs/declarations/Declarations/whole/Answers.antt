use Rattle.asl_streams.proofs.Declaring.{declared_stands, own_tasks}
use Rattle.asl_streams.proofs.declarations.Declarations.whole.Goals as goal

pub returns : goal.returns
returns c = λ found are.
    declared_stands found c.args.self (record { input = c.in-Some.input; tasks = c.unwrap_or-tasks.result }) c.in-Some.is (own_tasks c.args.self.tasks c.unwrap_or-tasks.result c.new.result c.unwrap_or-tasks.ensures c.new.ensures.empty) are
