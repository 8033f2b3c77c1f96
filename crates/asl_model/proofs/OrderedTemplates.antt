-- Names stay in order in shapes: where they stand in order in the shapes that go in, they do in what paths name and
-- templates give.
use Rattle.std.proofs.Common.{◌≡◌, ℕ, List, [], ◌∷◌, Bool, true, false, ◌&&◌, ◌||◌, not, if◌then◌else◌, IfSome, Option, Some, None, Result, Ok, Err, refl}
use Rattle.asl_model.specs.Tree.{Tree, Null, Boolean, Integer, Text, Array, Object, Trees, NoTrees, AndTree, Fields, NoFields, AndField}
use Rattle.asl_model.specs.Path.{Segment}
use Rattle.asl_model.specs.Intrinsic.{Reference, InInput, ItemIndex, InItem, Function, StatesArray, StatesArrayLength, StatesFormat, Call, CallOf, Argument, NullArgument, BooleanArgument, IntegerArgument, TextArgument, PathArgument, CallArgument, Arguments, NoArguments, AndArgument, Pieces, literal_pieces}
use Rattle.asl_model.specs.Template.{Template, Literal, FromPath, FromCall, ArrayTemplate, ObjectTemplate, Templates, NoTemplates, AndTemplate, FieldTemplates, NoFieldTemplates, AndFieldTemplate}
use Rattle.asl_model.specs.Shape.{Shape, Never, Shapes, NoShapes, AndShape, inhabited, IsOrdered, AreOrderedShapes, AreOrderedFields}
use Rattle.asl_model.specs.ShapeFlow.{look, look_at, through, one_further, part_at, DoubtfulPath, or_doubtful, found, literal, literals, literal_fields, Doubt, or_missing, item_part, index_part, reference_shape, unless_doubtful, is_array_shape, and_argument, array_length_of, fits_holes, all_formattable, format_of, value_shape, call_shape, argument_shape, argument_shapes, or_may_fail, or_none, doubts, filled_shape, filled_elements, filled_fields, unless_doubts, template_shape}
use Rattle.asl_model.proofs.ShapeOrdered.{Ordered, set-ordered}
use Rattle.asl_model.proofs.ShapeMissing.{part-ordered}

-- the shape that is there stands in order
pub is-ordered : {E : Type 0} (r : Result Shape E) (s : Shape) → r ≡ Ok s → Ordered r → IsOrdered s
is-ordered r s e ordered = rw e at ordered

-- one of two answers
pub either-ordered : {E : Type 0} (test : Bool) (r q : Result Shape E) → Ordered r → Ordered q → Ordered (if test then r else q)
either-ordered true r q one other = one
either-ordered false r q one other = other

-- Paths

further-ordered : (r : Result Shape ℕ) → Ordered r → Ordered (one_further r)
further-ordered (Ok s) ordered = ordered
further-ordered (Err at) ordered = tt

looked_at-ordered : (path : List Segment) (s : Shape) → IsOrdered s → Ordered (look_at path s)
looked_at-ordered [] s ordered = ordered
looked_at-ordered (segment ∷ path) s ordered = go (part_at segment s) refl (looked_at-ordered path)
  where
    go : (part : Option Shape) → part_at segment s ≡ part → ((t : Shape) → IsOrdered t → Ordered (look_at path t)) → Ordered (through (look_at path) part)
    go None at below = tt
    go (Some t) at below = further-ordered (look_at path t) (below t (part-ordered segment s t at ordered))

looked-ordered : (path : List Segment) (s : Shape) → IsOrdered s → Ordered (look path s)
looked-ordered path s ordered = either-ordered (inhabited s) (look_at path s) (Ok Never) (looked_at-ordered path s ordered) (tt, tt)

pub look-ordered : (path : List Segment) (s t : Shape) → IsOrdered s → look path s ≡ Ok t → IsOrdered t
look-ordered path s t ordered e = is-ordered (look path s) t e (looked-ordered path s ordered)

pub or_doubtful-ordered : (path : List Segment) (s : Shape) (r : Result Shape ℕ) → Ordered r → Ordered (or_doubtful path s r)
or_doubtful-ordered path s (Ok part) ordered = ordered
or_doubtful-ordered path s (Err at) ordered = tt

pub found-ordered : (path : List Segment) (s : Shape) → IsOrdered s → Ordered (found path s)
found-ordered path s ordered = or_doubtful-ordered path s (look path s) (looked-ordered path s ordered)

-- Literals

mutual
  pub literal-ordered : (t : Tree) → IsOrdered (literal t)
  literal-ordered Null = (tt, tt)
  literal-ordered (Boolean b) = (tt, tt)
  literal-ordered (Integer n) = (tt, tt)
  literal-ordered (Text s) = (tt, tt)
  literal-ordered (Array ts) = ((literals-ordered ts, (tt, tt)), tt)
  literal-ordered (Object fs) = (tt, literal_fields-ordered fs)

  literals-ordered : (ts : Trees) → AreOrderedShapes (literals ts)
  literals-ordered NoTrees = tt
  literals-ordered (AndTree t ts) = (literal-ordered t, literals-ordered ts)

  literal_fields-ordered : (fs : Fields) → AreOrderedFields (literal_fields fs)
  literal_fields-ordered NoFields = tt
  literal_fields-ordered (AndField n t fs) = set-ordered n true (literal t) (literal_fields fs) (literal_fields-ordered fs) (literal-ordered t)

-- Templates

or_missing-ordered : (r : Result Shape DoubtfulPath) → Ordered r → Ordered (or_missing r)
or_missing-ordered (Ok s) ordered = ordered
or_missing-ordered (Err doubtful) ordered = tt

doubtless-ordered : (r : Result Shape Doubt) → Ordered r → IfSome (unless_doubtful r) IsOrdered
doubtless-ordered (Ok s) ordered = ordered
doubtless-ordered (Err doubt) ordered = tt

certain-ordered : (value : Option Shape) → IfSome value IsOrdered → Ordered (or_may_fail value)
certain-ordered None ordered = tt
certain-ordered (Some s) ordered = ordered

or_none-ordered : (r : Result Shape Doubt) → Ordered r → IsOrdered (or_none r)
or_none-ordered (Ok s) ordered = ordered
or_none-ordered (Err doubt) ordered = (tt, tt)

only_if-ordered : (test : Bool) (s : Shape) → IsOrdered s → IfSome (if test then Some s else None) IsOrdered
only_if-ordered true s ordered = ordered
only_if-ordered false s ordered = tt

and_argument-ordered : (first : Option Shape) (others : Option Shapes) → IfSome first IsOrdered → IfSome others AreOrderedShapes → IfSome (and_argument first others) AreOrderedShapes
and_argument-ordered None others one more = tt
and_argument-ordered (Some s) None one more = tt
and_argument-ordered (Some s) (Some others) one more = (one, more)

length-ordered : (shapes : Option Shapes) → IfSome (array_length_of shapes) IsOrdered
length-ordered None = tt
length-ordered (Some NoShapes) = tt
length-ordered (Some (AndShape s NoShapes)) = only_if-ordered (not (inhabited s) || is_array_shape s) _ (tt, tt)
length-ordered (Some (AndShape s (AndShape other others))) = tt

format-ordered : (literal_text : Option Pieces) (shapes : Option Shapes) → IfSome (format_of literal_text shapes) IsOrdered
format-ordered literal_text None = tt
format-ordered literal_text (Some NoShapes) = tt
format-ordered literal_text (Some (AndShape s others)) = only_if-ordered (fits_holes literal_text s others && all_formattable others) _ (tt, tt)

value-ordered : (function : Function) (literal_text : Option Pieces) (shapes : Option Shapes) → IfSome shapes AreOrderedShapes → IfSome (value_shape function literal_text shapes) IsOrdered
value-ordered StatesArray literal_text None ordered = tt
value-ordered StatesArray literal_text (Some given) ordered = ((ordered, (tt, tt)), tt)
value-ordered StatesArrayLength literal_text given ordered = length-ordered given
value-ordered StatesFormat literal_text given ordered = format-ordered literal_text given

unless_doubts-ordered : (found : List (List ℕ × Doubt)) (s : Shape) → IsOrdered s → Ordered (unless_doubts found s)
unless_doubts-ordered [] s ordered = ordered
unless_doubts-ordered (d ∷ others) s ordered = tt

module _ (input : Shape) (item : Option Shape) (one : IsOrdered input) (other : IfSome item IsOrdered) where
  item_part-ordered : (path : List Segment) (part : Option Shape) → IfSome part IsOrdered → Ordered (item_part path part)
  item_part-ordered path None ordered = tt
  item_part-ordered path (Some s) ordered = or_missing-ordered (found path s) (found-ordered path s ordered)

  index_part-ordered : (part : Option Shape) → Ordered (index_part part)
  index_part-ordered None = tt
  index_part-ordered (Some s) = (tt, tt)

  reference-ordered : (reference : Reference) → Ordered (reference_shape reference input item)
  reference-ordered (InInput path) = or_missing-ordered (found path input) (found-ordered path input one)
  reference-ordered ItemIndex = index_part-ordered item
  reference-ordered (InItem path) = item_part-ordered path item other

  mutual
    call-ordered : (call : Call) → IfSome (call_shape call input item) IsOrdered
    call-ordered (CallOf function arguments) = value-ordered function (literal_pieces arguments) (argument_shapes arguments input item) (arguments-ordered arguments)

    argument-ordered : (argument : Argument) → IfSome (argument_shape argument input item) IsOrdered
    argument-ordered NullArgument = (tt, tt)
    argument-ordered (BooleanArgument b) = (tt, tt)
    argument-ordered (IntegerArgument n) = (tt, tt)
    argument-ordered (TextArgument pieces) = (tt, tt)
    argument-ordered (PathArgument reference) = doubtless-ordered (reference_shape reference input item) (reference-ordered reference)
    argument-ordered (CallArgument call) = call-ordered call

    arguments-ordered : (arguments : Arguments) → IfSome (argument_shapes arguments input item) AreOrderedShapes
    arguments-ordered NoArguments = tt
    arguments-ordered (AndArgument argument others) = and_argument-ordered (argument_shape argument input item) (argument_shapes others input item) (argument-ordered argument) (arguments-ordered others)

  mutual
    filled-ordered : (template : Template) → IsOrdered (filled_shape template input item)
    filled-ordered (Literal t) = literal-ordered t
    filled-ordered (FromPath reference) = or_none-ordered (reference_shape reference input item) (reference-ordered reference)
    filled-ordered (FromCall call) = or_none-ordered (or_may_fail (call_shape call input item)) (certain-ordered (call_shape call input item) (call-ordered call))
    filled-ordered (ArrayTemplate elements) = ((elements-ordered elements, (tt, tt)), tt)
    filled-ordered (ObjectTemplate fields) = (tt, fields-ordered fields)

    elements-ordered : (elements : Templates) → AreOrderedShapes (filled_elements elements input item)
    elements-ordered NoTemplates = tt
    elements-ordered (AndTemplate template others) = (filled-ordered template, elements-ordered others)

    fields-ordered : (fields : FieldTemplates) → AreOrderedFields (filled_fields fields input item)
    fields-ordered NoFieldTemplates = tt
    fields-ordered (AndFieldTemplate n template others) = set-ordered n true (filled_shape template input item) (filled_fields others input item) (fields-ordered others) (filled-ordered template)

  pub filling-ordered : (template : Template) → Ordered (template_shape template input item)
  filling-ordered template = either-ordered (inhabited input) (unless_doubts (doubts template [] input item) (filled_shape template input item)) (Ok Never) (unless_doubts-ordered (doubts template [] input item) (filled_shape template input item) (filled-ordered template)) (tt, tt)

pub template-ordered : (template : Template) (input : Shape) (item : Option Shape) (r : Shape) → IsOrdered input → IfSome item IsOrdered → template_shape template input item ≡ Ok r → IsOrdered r
template-ordered template input item r one other e = is-ordered (template_shape template input item) r e (filling-ordered input item one other template)
