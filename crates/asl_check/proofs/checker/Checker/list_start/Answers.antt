use Rattle.std.proofs.Common.{subst}
use Rattle.std.proofs.lemmas.Result.{on_ok_weaker}
use Rattle.asl_model.specs.Finding.{found_at}
use Rattle.asl_machine_table.specs.Table.{table_view}
use Rattle.asl_records.specs.View.{declared_view}
use Rattle.asl_check.specs.Listing.{Adds}
use Rattle.asl_check.specs.Numbers.{certificate_of}
use Rattle.asl_check.specs.Rules.{found_of_start}
use Rattle.asl_check.proofs.EntryRules.{no_start}
use Rattle.asl_check.proofs.checker.Checker.list_start.Goals as goal

pub returns-in_default-clause-adds : goal.returns-in_default-clause-adds
returns-in_default-clause-adds c =
    let checker = c.args.self.now in
    let table = c.args.shapes.now in
    no_start table (table_view checker.machine.now) (declared_view checker.declared.now) (certificate_of table checker) c.args.rules.now.items c.in_default.ensures

pub returns-clause-adds : goal.returns-clause-adds
returns-clause-adds c =
    let checker = c.args.self.now in
    let a = c.args.shapes.now in
    let table = c.broken_at_start.new.shapes in
    let b = table in
    let n = c.in-Some.start.now in
    let fault = c.in_ok-fault.fault in
    let of_start = found_of_start (table_view checker.machine.now) (declared_view checker.declared.now) (certificate_of a checker) in
    let added = c.list.ensures b (c.in_ok-fault.ensures.below) in
    on_ok_weaker c.list.result (λ p. subst (λ start. Adds b c.args.rules.now.items c.list.new.rules.items (of_start start)) c.in-Some.ensures (subst (λ told. Adds b c.args.rules.now.items c.list.new.rules.items (found_at n told)) c.in_ok-fault.ensures.told p)) added
