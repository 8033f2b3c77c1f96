-- The trees of the definitions that data of a run stand for.
use Rattle.std.specs.declared.alloc.Global.{Global}
use Rattle.std.specs.declared.rc.Rc.{Rc}
use Rattle.asl_model.specs.Tree as model
use Rattle.asl_tree.specs.View.{view}
use Rattle.asl_tree.specs.declared.Tree.{Tree}
use Rattle.asl_processing.specs.declared.data.Data.{Data}
use Rattle.asl_processing.specs.declared.data.Data.TheVariants.{Lent, Shared, Made}

-- a tree that parts of a run share
abbrev pub datum_view : Rc Tree Global → model.Tree
datum_view d = view d.value

-- a tree on its way through a state
abbrev pub data_view : Data → model.Tree
data_view (Lent t) = view t.now
data_view (Shared d) = view d.now.value
data_view (Made t) = view t
