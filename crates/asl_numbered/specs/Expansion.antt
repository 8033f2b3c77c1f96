-- The shapes that a list of nodes stands for, where each node has numbers for its parts.
use Rattle.std.specs.Prelude.{◌≡◌, ◌<◌, ℕ, List, [], ◌∷◌, ◌++◌, length, map, get_or}
use Rattle.asl_model.specs.Shape as model
use Rattle.asl_shape.specs.View.{shapes_of, merged}
use Rattle.asl_numbered.specs.declared.node.Node.{Node}
use Rattle.asl_numbered.specs.declared.node.Node.TheVariants.{Any, Never, Null, Bool as Truth, Int, Text, List as Elements, Object, Several}
use Rattle.asl_numbered.specs.declared.node.NodeField.{NodeField}
use Rattle.asl_numbered.specs.Names.{Name}
use Rattle.std.specs.Rc.{rc_str_bytes}

-- the shape of that number; Never where there is none
abbrev pub shape_at : List model.Shape → ℕ → model.Shape
shape_at table n = get_or table n model.Never

-- the shapes of those numbers, in order
abbrev pub shapes_at : List model.Shape → List ℕ → model.Shapes
shapes_at table ns = shapes_of (map (shape_at table) ns)

-- the fields, with the shapes of their numbers
abbrev pub fields_at : List model.Shape → List (Name × NodeField) → model.FieldShapes
fields_at table [] = model.NoFieldShapes
fields_at table (f ∷ fs) = model.AndFieldShape (rc_str_bytes f.0) f.1.needed (shape_at table f.1.shape) (fields_at table fs)

-- the shape whose first level is the node, and whose parts are the shapes of the node's numbers
abbrev pub shape_over : List model.Shape → Node → model.Shape
shape_over table Any = model.Any
shape_over table Never = model.Never
shape_over table Null = model.NullShape
shape_over table Truth = model.BooleanShape
shape_over table Int = model.IntegerShape
shape_over table Text = model.StringShape
shape_over table (Elements first rest) = model.ArrayShape (shapes_at table first.items) (shape_at table rest)
shape_over table (Object fields extra) = model.ObjectShape (fields_at table fields.entries) extra
shape_over table (Several numbers) = merged (map (shape_at table) numbers.items)

-- the numbers of fields
abbrev pub numbers_in : List (Name × NodeField) → List ℕ
numbers_in fs = map (λ f. f.1.shape) fs

-- the numbers in a node
abbrev pub parts : Node → List ℕ
parts Any = []
parts Never = []
parts Null = []
parts Truth = []
parts Int = []
parts Text = []
parts (Elements first rest) = rest ∷ first.items
parts (Object fields extra) = numbers_in fields.entries
parts (Several numbers) = numbers.items

-- each of the numbers is below that bound
abbrev pub AreBelow : ℕ → List ℕ → Type 0
AreBelow bound [] = Unit {0}
AreBelow bound (n ∷ ns) = (n < bound) × AreBelow bound ns

-- the numbers in the node are below that bound
pub record RefersBelow (bound : ℕ) (node : Node) : Type 0 where
  pub each : AreBelow bound (parts node)

-- the shapes so far, and then those of the nodes in order, each over the shapes before it
abbrev pub expansions_after : List model.Shape → List Node → List model.Shape
expansions_after table [] = table
expansions_after table (node ∷ nodes) = expansions_after (table ++ shape_over table node ∷ []) nodes

-- the shapes that the nodes stand for
abbrev pub expansions : List Node → List model.Shape
expansions nodes = expansions_after [] nodes

-- no shape stands in the table under two numbers
pub record AreDistinct (table : List model.Shape) : Type 0 where
  pub apart : (m n : ℕ) → m < length table → n < length table → shape_at table m ≡ shape_at table n → m ≡ n

-- the number is in the table, and its shape is that one
pub record Shows (table : List model.Shape) (s : model.Shape) (n : ℕ) : Type 0 where
  pub within : n < length table
  pub same : shape_at table n ≡ s

-- the number is that of the shape in the table, and no other is
pub record IsNumberOf (table : List model.Shape) (s : model.Shape) (n : ℕ) : Type 0 where
  pub within : n < length table
  pub same : shape_at table n ≡ s
  pub alone : (m : ℕ) → m < length table → shape_at table m ≡ s → m ≡ n

-- the new table has the old one's shapes under their numbers, and perhaps more
pub record Keeps (old new : List model.Shape) : Type 0 where
  pub added : List model.Shape
  pub whole : new ≡ old ++ added

-- the numbers are in the table, and their shapes are these
pub record AreNumbersOf (table : List model.Shape) (shapes : model.Shapes) (ns : List ℕ) : Type 0 where
  pub within : AreBelow (length table) ns
  pub same : shapes_at table ns ≡ shapes

-- the fields' numbers are in the table, and the fields with their shapes are these
pub record AreFieldsOf (table : List model.Shape) (shapes : model.FieldShapes) (fs : List (Name × NodeField)) : Type 0 where
  pub within : AreBelow (length table) (numbers_in fs)
  pub same : fields_at table fs ≡ shapes
