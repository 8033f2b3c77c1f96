use Rattle.std.proofs.Common.{◌≡◌, ◌++◌, [], length}
use Rattle.asl_numbered.specs.Expansion.{Keeps}
use Rattle.asl_machine_table.specs.Table.{table_view}
use Rattle.asl_ways.specs.Adding.{Adds}
use Rattle.asl_ways.specs.Coming.{leaves_first, starts}
use Rattle.asl_ways.specs.Given.{given_in}
use Rattle.asl_ways.proofs.leaving.Walker.arrivals.Given as goal

abbrev pub invariant-loop-number : goal.invariant-loop-number
invariant-loop-number l =
    let given = given_in l.fn.shapes l.self in
    record {
      count : l.count ≡ length (table_view l.self.machine.now).states;
      keeps : Keeps l.fn.shapes l.shapes;
      adds : Adds l.shapes [] l.arrivals.items (starts given ++ leaves_first given l.number);
    }
