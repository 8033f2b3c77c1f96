use Rattle.std.proofs.Common.{sym, subst}
use Rattle.asl_numbered.specs.Kinds.{AscendFrom}
use Rattle.asl_numbered.specs.TakenApart.{kinds_at}
use Rattle.asl_numbered.proofs.Ascending.{parts_ascend}
use Rattle.asl_numbered.proofs.kinds.put_kinds.Goals as goal

pub put_together-requires-clause-ascend : goal.put_together-requires-clause-ascend
put_together-requires-clause-ascend c =
    subst (AscendFrom 0) (sym c.in_ok-parts.ensures.listed.same) (parts_ascend (kinds_at c.args.table.now c.args.kinds))
