use Rattle.std.proofs.Common.{refl}
use Rattle.asl_model.specs.ShapeSpelling as model
use Rattle.asl_tree.specs.View.{view as tree_view}
use Rattle.asl_shape.specs.declared.ShapeRefusal.TheVariants.{NotAShape, Keyword, BadType, MinItems}
use Rattle.asl_shape.proofs.Trees.{spells, fault_of}
use Rattle.asl_shape.proofs.reading.read.Goals as goal

pub returns-clause-spelled : goal.returns-clause-spelled
returns-clause-spelled c = spells (tree_view c.args.tree.now) c.read_spelling.result c.read_spelling.ensures.spelled

pub returns-clause-not_a_shape : goal.returns-clause-not_a_shape
returns-clause-not_a_shape c = fault_of (tree_view c.args.tree.now) c.read_spelling.result NotAShape model.NotAShape refl c.read_spelling.ensures.refused

pub returns-clause-keyword : goal.returns-clause-keyword
returns-clause-keyword c = fault_of (tree_view c.args.tree.now) c.read_spelling.result Keyword model.Keyword refl c.read_spelling.ensures.refused

pub returns-clause-bad_type : goal.returns-clause-bad_type
returns-clause-bad_type c = fault_of (tree_view c.args.tree.now) c.read_spelling.result BadType model.BadType refl c.read_spelling.ensures.refused

pub returns-clause-min_items : goal.returns-clause-min_items
returns-clause-min_items c = fault_of (tree_view c.args.tree.now) c.read_spelling.result MinItems model.MinItems refl c.read_spelling.ensures.refused
