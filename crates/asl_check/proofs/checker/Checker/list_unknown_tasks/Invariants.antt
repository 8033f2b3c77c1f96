use Rattle.std.proofs.Common.{List, map, string_bytes}
use Rattle.std.specs.BTreeMap.{keys}
use Rattle.asl_machine_table.specs.Table.{table_view}
use Rattle.asl_model.specs.Shape.{Shape}
use Rattle.asl_check.specs.Rules.{found_by, task_rule}
use Rattle.asl_check.proofs.Passes.{AreLeft}
use Rattle.asl_check.proofs.checker.Checker.list_unknown_tasks.Given as goal

-- those of the names left are still to be listed
abbrev pub invariant-loop-name : goal.invariant-loop-name
invariant-loop-name l = (shapes : List Shape) →
    let rule = task_rule (table_view l.self.machine.now) in
    AreLeft shapes l.initial.rules.items l.rules.items (found_by rule (map string_bytes (keys l.self.declared.now.tasks))) (found_by rule (map string_bytes l.name-iterator))
