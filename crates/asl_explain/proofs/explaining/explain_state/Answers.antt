use Rattle.std.proofs.Common.{ap, sym, subst}
use Rattle.std.specs.Prelude.{bytes_eq, position}
use Rattle.std.specs.Option.{IsSome, is_some}
use Rattle.asl_machine_table.specs.Table.{scope_in}
use Rattle.asl_model.specs.Numbering.{Table}
use Rattle.asl_records.specs.View.{declared_view}
use Rattle.asl_explain.proofs.explaining.explain_state.Goals as goal

pub returns : goal.returns
returns c = λ definition declared subject.
    let settled = rw c.in-Some-2.is at c.in_ok-known.ensures.settled in
    record {
      machine = scope_in c.args.subject.now.machine;
      shapes = declared_view c.args.subject.now.declared;
      certified = settled.certified;
      as_machine = subject.machine;
      as_declared = subject.as_declared;
      there = subst (λ (table : Table). IsSome (position (bytes_eq c.args.name.now) table.names)) c.is_shown.ensures.shown.table (sym (ap is_some c.in-Some.ensures.number));
      inferred = settled.inferred;
    }
