-- Where what has flowed into the shapes of a draft came from. No public clause cites this module.
use Rattle.std.specs.Prelude.{ℕ, Option}
use Rattle.std.specs.Option.{option_and_then}
use Rattle.std.specs.BTreeMap as sorted
use Rattle.indexmap.specs.IndexMap.{get}
use Rattle.asl_drafts.specs.contracts.draft.TargetPartialEq.TheImpl as target_eq
use Rattle.asl_drafts.specs.contracts.predecessors.OriginOrd.TheImpl as origin_order
use Rattle.asl_drafts.specs.declared.draft.Target.{Target}
use Rattle.asl_drafts.specs.declared.predecessors.Origin.{Origin}
use Rattle.asl_drafts.specs.declared.predecessors.Predecessors.{Predecessors}

-- the number of the shape that flowed last along the edge into the shape
abbrev pub flowed : Predecessors → Target → Origin → Option ℕ
flowed predecessors target origin =
    option_and_then (λ inflows. sorted.get origin_order.ghosts.cmp inflows origin)
    (get target_eq.ghosts.eq predecessors.inflows target)
