use Rattle.std.proofs.Common.{◌≡◌, length, rules}
use Rattle.serde_json.specs.View.{view}
use Rattle.asl_machine.proofs.Complete.{all_told}
use Rattle.asl_machine.proofs.Single.{single_if}
use Rattle.asl_machine.proofs.complaining.tell_all.Goals as goal

pub returns : goal.returns
returns c =
    let walked = c.tell_definition.new.telling in
    let counted : c.len.result ≡ length walked.names.items = search rules in
    all_told (view c.args.value.now) (record { told = c.new.result; names = c.new-2.result }) walked c.tell_repeated.new.told.items c.tell_found.new.told.items c.len.result c.new.ensures.items c.new-2.ensures.items c.in_ok-tell_definition.ensures c.in_ok-tell_repeated.ensures counted
    (c.in_ok-tell_found.ensures _ c.check_count-found.ensures (single_if _ _))
