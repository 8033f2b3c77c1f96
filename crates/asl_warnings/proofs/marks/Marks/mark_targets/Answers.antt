use Rattle.asl_warnings.specs.Led.{named_in_kind, named_in_settings}
use Rattle.asl_warnings.proofs.Added.{adds-then}
use Rattle.asl_warnings.proofs.marks.Marks.mark_targets.Goals as goal

pub returns : goal.returns
returns c =
    adds-then c.args.self.now c.mark_settings.new.self c.mark_kind.new.self (named_in_settings c.args.state.now.settings) (named_in_kind c.args.state.now.kind) c.mark_kind.result c.in_ok-mark_settings.ensures c.mark_kind.ensures
