use Rattle.std.proofs.Common.{sym, ap, option_map}
use Rattle.asl_model.specs.Intrinsic.{PathArgument}
use Rattle.asl_intrinsic.proofs.Meanings.{no_context}
use Rattle.asl_intrinsic.proofs.references.item_reference.Goals as goal

pub returns-in_default : goal.returns-in_default
returns-in_default c = sym (ap (option_map PathArgument) (no_context c.args.text.now c.if-eq.ensures c.in_default.ensures.cases))
