-- Shapes through a state: what follows of the shape of a state's input for what its paths name, its templates give, its
-- rules let through and its output is (States Language, "Input and Output Processing", "Payload Template",
-- "Intrinsic Functions", "Choice State"). The rules are the profile's own, and of a shape without a tree all give
-- Never.
use Rattle.std.specs.Prelude.{ℕ, zero, suc, ◌==◌, List, [], ◌∷◌, ◌++◌, length, map, Bool, true, false, ◌&&◌}
use Rattle.std.specs.Prelude.{◌||◌, not, Option, Some, None, Result, Ok, Err, codes, if◌then◌else◌}
use Rattle.std.specs.Prelude.{filter_map, bytes_eq, nat_eq}
use Rattle.std.specs.Option.{option_map}
use Rattle.asl_model.specs.Names.{FieldName}
use Rattle.asl_model.specs.Tree.{Tree, Null, Boolean, Integer, Text, Array, Object, Trees}
use Rattle.asl_model.specs.Tree.{NoTrees, AndTree, Fields, NoFields, AndField}
use Rattle.asl_model.specs.Path.{Segment, Name, Index}
use Rattle.asl_model.specs.Intrinsic.{Reference, InInput, ItemIndex, InItem, Function, StatesArray}
use Rattle.asl_model.specs.Intrinsic.{StatesArrayLength, StatesFormat, Call, CallOf, Argument, NullArgument}
use Rattle.asl_model.specs.Intrinsic.{BooleanArgument, IntegerArgument, TextArgument, PathArgument, CallArgument}
use Rattle.asl_model.specs.Intrinsic.{Arguments, NoArguments, AndArgument, Pieces, literal_pieces, Item}
use Rattle.asl_model.specs.Template.{Template, Literal, FromPath, FromCall, ArrayTemplate, ObjectTemplate, Templates}
use Rattle.asl_model.specs.Template.{NoTemplates, AndTemplate, FieldTemplates, NoFieldTemplates, AndFieldTemplate}
use Rattle.asl_model.specs.Test.{Test, And, Or, Not, Compare, StringMatches, IsOfKind, IsPresent}
use Rattle.asl_model.specs.Test.{Tests, NoTests, AndTest, Rule, Comparison, StringIs, NumericIs, BooleanEquals}
use Rattle.asl_model.specs.Test.{Operand, Constant, AtPath, ValueKind, NullKind, NumericKind, StringKind}
use Rattle.asl_model.specs.Test.{BooleanKind, as_boolean, same_truth}
use Rattle.asl_model.specs.Machine.{Settings, Kind, Pass, Task, Choice, Wait, Succeed, Fail, Parallel, Map}
use Rattle.asl_model.specs.Shape.{Simple, Shape, Any, OfKinds, Never, NullShape, BooleanShape, IntegerShape}
use Rattle.asl_model.specs.Shape.{StringShape, ArrayShape, ObjectShape, Arrays, WithoutArrays, ArraysOf, Objects}
use Rattle.asl_model.specs.Shape.{WithoutObjects, ObjectsOf, Shapes, NoShapes, AndShape, FieldShapes}
use Rattle.asl_model.specs.Shape.{NoFieldShapes, AndFieldShape, Has, has_arrays, no_simple, some_simple, some_array}
use Rattle.asl_model.specs.Shape.{some_object, all_simple, inhabited}
use Rattle.asl_model.specs.ShapeOrder.{mention_of, set_mention, join, same_simple}

-- Paths

-- the shape of a field that is needed
abbrev pub if_needed : Option (Bool × Shape) → Option Shape
if_needed None = None
if_needed (Some mention) = if mention.0 then Some mention.1 else None

-- the shape at a position, counted from 0
abbrev pub place_at : ℕ → Shapes → Option Shape
place_at i NoShapes = None
place_at zero (AndShape s others) = Some s
place_at (suc i) (AndShape s others) = place_at i others

-- the arrays of a shape, where no other trees have it
abbrev pub arrays_alone : Shape → Arrays
arrays_alone Any = WithoutArrays
arrays_alone (OfKinds simple arrays objects) = if some_simple simple || some_object objects then WithoutArrays else arrays

-- the objects of a shape, where no other trees have it
abbrev pub objects_alone : Shape → Objects
objects_alone Any = WithoutObjects
objects_alone (OfKinds simple arrays objects) = if some_simple simple || some_array arrays then WithoutObjects else objects

-- the shape at a position of these arrays
abbrev pub place_in : ℕ → Arrays → Option Shape
place_in i WithoutArrays = None
place_in i (ArraysOf first rest) = place_at i first

-- the shape of a needed field of these objects
abbrev pub field_in : FieldName → Objects → Option Shape
field_in n WithoutObjects = None
field_in n (ObjectsOf shapes extra) = if_needed (mention_of n shapes)

-- the shape of what a segment names in every tree of a shape
abbrev pub part_at : Segment → Shape → Option Shape
part_at (Name n) s = field_in n (objects_alone s)
part_at (Index i) s = place_in i (arrays_alone s)

-- a refusal behind a segment, counted with it
abbrev pub one_further : {A : Type 0} → Result A ℕ → Result A ℕ
one_further (Ok a) = Ok a
one_further (Err at) = Err (suc at)

-- goes on with the part, or refuses the segment at hand
abbrev pub through : (Shape → Result Shape ℕ) → Option Shape → Result Shape ℕ
through go_on None = Err 0
through go_on (Some part) = one_further (go_on part)

-- the shape of what a path names in every tree of a shape, or the number of the segment that may name nothing
abbrev pub look_at : List Segment → Shape → Result Shape ℕ
look_at [] s = Ok s
look_at (segment ∷ path) s = through (look_at path) (part_at segment s)

-- the same, Never where the shape has no tree
abbrev pub look : List Segment → Shape → Result Shape ℕ
look path s = if inhabited s then look_at path s else Ok Never

-- a path that may name nothing in trees of a shape, and the number of the first segment where that may be so
pub record DoubtfulPath : Type 0 where
  pub path : List Segment
  pub segment : ℕ
  pub shape : Shape

-- what stands at the path in the shape; a refused segment makes the path a doubtful one
abbrev pub or_doubtful : List Segment → Shape → Result Shape ℕ → Result Shape DoubtfulPath
or_doubtful path s (Ok part) = Ok part
or_doubtful path s (Err at) = Err (record { path = path; segment = at; shape = s })

-- the shape of what a path names in every tree of a shape, unless the path is doubtful
abbrev pub found : List Segment → Shape → Result Shape DoubtfulPath
found path s = or_doubtful path s (look path s)

-- Placing

-- the shape of an object with one field, or the refusal
abbrev pub around : FieldName → Result Shape ℕ → Result Shape ℕ
around n (Ok s) = Ok (ObjectShape (AndFieldShape n true s NoFieldShapes) false)
around n (Err at) = Err (suc at)

-- the shape of what is built for the segments that remain
abbrev pub built_shape : List Segment → Shape → Result Shape ℕ
built_shape [] w = Ok w
built_shape (Name n ∷ path) w = around n (built_shape path w)
built_shape (Index i ∷ path) w = Err 0

-- the join, or the first refusal
abbrev pub join_results : Result Shape ℕ → Result Shape ℕ → Result Shape ℕ
join_results (Ok s) (Ok t) = Ok (join s t)
join_results (Ok s) (Err at) = Err at
join_results (Err at) t = Err at

-- the shape with that one at a position
abbrev pub set_place : ℕ → Shape → Shapes → Shapes
set_place i w NoShapes = NoShapes
set_place zero w (AndShape s others) = AndShape w others
set_place (suc i) w (AndShape s others) = AndShape s (set_place i w others)

-- the array shape with that one in it, or the refusal
abbrev pub array_with : ℕ → Shapes → Shape → Result Shape ℕ → Result Shape ℕ
array_with i first rest (Ok w) = Ok (ArrayShape (set_place i w first) rest)
array_with i first rest (Err at) = Err (suc at)

-- the object shape with that field needed, or the refusal
abbrev pub object_with : FieldName → FieldShapes → Bool → Result Shape ℕ → Result Shape ℕ
object_with n shapes extra (Ok w) = Ok (ObjectShape (set_mention n true w shapes) extra)
object_with n shapes extra (Err at) = Err (suc at)

-- what is placed at a position of an array, by the shape that stands there
abbrev pub put_in_place : (Shape → Result Shape ℕ) → ℕ → Shapes → Shape → Option Shape → Result Shape ℕ
put_in_place go_on i first rest None = Err 0
put_in_place go_on i first rest (Some s) = array_with i first rest (go_on s)

-- What is placed in a field that has no mention: what is built, unless there are segments further and the object may
-- have that field.
abbrev pub put_unmentioned : Bool → List Segment → Shape → Result Shape ℕ
put_unmentioned extra [] w = Ok w
put_unmentioned true (segment ∷ path) w = Err 0
put_unmentioned false (segment ∷ path) w = built_shape (segment ∷ path) w

-- the put in a field if that is needed, and else its join with what is built
abbrev pub put_or_built : Bool → Result Shape ℕ → Result Shape ℕ → Result Shape ℕ
put_or_built true inner outer = inner
put_or_built false inner outer = join_results inner outer

-- what is placed in a field, by its mention
abbrev pub put_mentioned : (Shape → Result Shape ℕ) → Bool → List Segment → Shape → Option (Bool × Shape)
    → Result Shape ℕ
put_mentioned go_on extra path w None = put_unmentioned extra path w
put_mentioned go_on extra path w (Some mention) = put_or_built mention.0 (go_on mention.1) (built_shape path w)

-- what is placed in a field of these objects
abbrev pub put_in_objects : (Shape → Result Shape ℕ) → FieldName → List Segment → Shape → Objects → Result Shape ℕ
put_in_objects go_on n path w WithoutObjects = Err 0
put_in_objects go_on n path w (ObjectsOf shapes extra) =
    object_with n shapes extra (put_mentioned go_on extra path w (mention_of n shapes))

-- at a position of these arrays
abbrev pub put_in_arrays : (Shape → Result Shape ℕ) → ℕ → Arrays → Result Shape ℕ
put_in_arrays go_on i WithoutArrays = Err 0
put_in_arrays go_on i (ArraysOf first rest) = put_in_place go_on i first rest (place_at i first)

-- the shape of a tree with one placed under a segment, or the refusal; the function goes on behind the segment, with
-- the path
abbrev pub put_under : (Shape → Result Shape ℕ) → Segment → List Segment → Shape → Shape → Result Shape ℕ
put_under go_on (Name n) path w s = put_in_objects go_on n path w (objects_alone s)
put_under go_on (Index i) path w s = put_in_arrays go_on i (arrays_alone s)

-- The shape of every tree of the first shape with a tree of the second placed at the path, or the number of the
-- segment where it may not fit
abbrev pub put : List Segment → Shape → Shape → Result Shape ℕ
put [] w s = Ok (if inhabited s && inhabited w then w else Never)
put (segment ∷ path) w s = if inhabited s && inhabited w then put_under (put path w) segment path w s else Ok Never

-- Literals and payload templates

-- where a shape of the item is given, there is an item, and its value has that shape
abbrev pub ItemHas : Option Shape → Option Item → Type 0
ItemHas None item = Unit {0}
ItemHas (Some s) None = ⊥
ItemHas (Some s) (Some item) = Has s item.value

abbrev mutual
  -- the shape of a tree that stands for itself: each value's kind, arrays place by place, objects field by field
  pub literal : Tree → Shape
  literal Null = NullShape
  literal (Boolean b) = BooleanShape
  literal (Integer n) = IntegerShape
  literal (Text t) = StringShape
  literal (Array ts) = ArrayShape (literals ts) Never
  literal (Object fs) = ObjectShape (literal_fields fs) false

  -- the shapes of the elements, place by place
  pub literals : Trees → Shapes
  literals NoTrees = NoShapes
  literals (AndTree t ts) = AndShape (literal t) (literals ts)

  -- each field is needed, with its shape
  pub literal_fields : Fields → FieldShapes
  literal_fields NoFields = NoFieldShapes
  literal_fields (AndField n t fs) = set_mention n true (literal t) (literal_fields fs)

-- why a template may have no value: a path may name nothing, or a call may fail
pub data Doubt : Type 0 where
  MayBeMissing : DoubtfulPath → Doubt
  MayFail : Doubt

-- where a path is doubtful, there is that doubt
abbrev pub or_missing : Result Shape DoubtfulPath → Result Shape Doubt
or_missing (Ok s) = Ok s
or_missing (Err doubtful) = Err (MayBeMissing doubtful)

-- the shape of the item's part that a path names; without an item that may fail
abbrev pub item_part : List Segment → Option Shape → Result Shape Doubt
item_part path None = Err MayFail
item_part path (Some item) = or_missing (found path item)

-- the shape of the item's number
abbrev pub index_part : Option Shape → Result Shape Doubt
index_part None = Err MayFail
index_part (Some item) = Ok IntegerShape

-- the shape of what a reference names in the template's input and the item
abbrev pub reference_shape : Reference → Shape → Option Shape → Result Shape Doubt
reference_shape (InInput path) input item = or_missing (found path input)
reference_shape ItemIndex input item = index_part item
reference_shape (InItem path) input item = item_part path item

-- the shape, unless there is a doubt
abbrev pub unless_doubtful : Result Shape Doubt → Option Shape
unless_doubtful (Ok s) = Some s
unless_doubtful (Err doubt) = None

-- an argument of `States.Format` that can be put in a text, or that never comes: no array or object is one
abbrev pub is_formattable : Shape → Bool
is_formattable Any = false
is_formattable (OfKinds simple arrays objects) = not (some_array arrays) && not (some_object objects)

-- each of the arguments can be put in a text, or never comes
abbrev pub all_formattable : Shapes → Bool
all_formattable NoShapes = true
all_formattable (AndShape s others) = is_formattable s && all_formattable others

-- arrays alone have the shape
abbrev pub is_array_shape : Shape → Bool
is_array_shape s = has_arrays (arrays_alone s)

-- trees of these simple kinds alone have the shape
abbrev pub is_only : Simple → Shape → Bool
is_only kinds Any = false
is_only kinds (OfKinds simple arrays objects) =
    same_simple simple kinds && (not (some_array arrays) && not (some_object objects))

-- whole numbers alone have the shape
abbrev pub is_integer_shape : Shape → Bool
is_integer_shape s = is_only (record no_simple { integer = true }) s

-- texts alone have the shape
abbrev pub is_string_shape : Shape → Bool
is_string_shape s = is_only (record no_simple { text = true }) s

-- truth values alone have the shape
abbrev pub is_boolean_shape : Shape → Bool
is_boolean_shape s = is_only (record no_simple { boolean = true }) s

-- how many shapes there are
abbrev pub how_many_shapes : Shapes → ℕ
how_many_shapes NoShapes = 0
how_many_shapes (AndShape s others) = suc (how_many_shapes others)

-- an argument in front of the others, where none may fail
abbrev pub and_argument : Option Shape → Option Shapes → Option Shapes
and_argument None others = None
and_argument (Some s) None = None
and_argument (Some s) (Some others) = Some (AndShape s others)

-- `States.Array`: the array of its arguments
abbrev pub array_of : Option Shapes → Option Shape
array_of None = None
array_of (Some shapes) = Some (ArrayShape shapes Never)

-- `States.ArrayLength`: the length of one argument, which is an array or never comes
abbrev pub array_length_of : Option Shapes → Option Shape
array_length_of None = None
array_length_of (Some NoShapes) = None
array_length_of (Some (AndShape s NoShapes)) = if not (inhabited s) || is_array_shape s then Some IntegerShape else None
array_length_of (Some (AndShape s (AndShape other others))) = None

-- the first argument is a literal text with as many holes as there are further ones, or never comes
abbrev pub fits_holes : Option Pieces → Shape → Shapes → Bool
fits_holes None s others = not (inhabited s)
fits_holes (Some pieces) s others = length pieces.after_holes == how_many_shapes others

-- `States.Format`: a text and what fills its holes, for the pieces of the first argument where that is a literal text
abbrev pub format_of : Option Pieces → Option Shapes → Option Shape
format_of literal_text None = None
format_of literal_text (Some NoShapes) = None
format_of literal_text (Some (AndShape s others)) =
    if fits_holes literal_text s others && all_formattable others then Some StringShape else None

-- the shape of a function's value, where it has one for all values of its arguments
abbrev pub value_shape : Function → Option Pieces → Option Shapes → Option Shape
value_shape StatesArray literal_text shapes = array_of shapes
value_shape StatesArrayLength literal_text shapes = array_length_of shapes
value_shape StatesFormat literal_text shapes = format_of literal_text shapes

abbrev mutual
  -- the shape of a call's value; None: it may fail
  pub call_shape : Call → Shape → Option Shape → Option Shape
  call_shape (CallOf function arguments) input item =
      value_shape function (literal_pieces arguments) (argument_shapes arguments input item)

  -- the shape of an argument's value; None: it may fail
  pub argument_shape : Argument → Shape → Option Shape → Option Shape
  argument_shape NullArgument input item = Some NullShape
  argument_shape (BooleanArgument b) input item = Some BooleanShape
  argument_shape (IntegerArgument n) input item = Some IntegerShape
  argument_shape (TextArgument pieces) input item = Some StringShape
  argument_shape (PathArgument reference) input item = unless_doubtful (reference_shape reference input item)
  argument_shape (CallArgument call) input item = call_shape call input item

  -- the shapes of all arguments; None: one may fail
  pub argument_shapes : Arguments → Shape → Option Shape → Option Shapes
  argument_shapes NoArguments input item = Some NoShapes
  argument_shapes (AndArgument argument others) input item =
      and_argument (argument_shape argument input item) (argument_shapes others input item)

-- a doubt, with the name of the nearest object field
abbrev pub doubts_at : FieldName → Result Shape Doubt → List (FieldName × Doubt)
doubts_at field (Ok s) = []
doubts_at field (Err doubt) = (field, doubt) ∷ []

-- the shape, or the doubt that the call may fail
abbrev pub or_may_fail : Option Shape → Result Shape Doubt
or_may_fail None = Err MayFail
or_may_fail (Some s) = Ok s

-- the shape, or Never where there is a doubt
abbrev pub or_none : Result Shape Doubt → Shape
or_none (Ok s) = s
or_none (Err doubt) = Never

abbrev mutual
  -- every doubt of a template, in order, each with the name of the nearest object field
  pub doubts : Template → FieldName → Shape → Option Shape → List (FieldName × Doubt)
  doubts (Literal t) field input item = []
  doubts (FromPath reference) field input item = doubts_at field (reference_shape reference input item)
  doubts (FromCall call) field input item = doubts_at field (or_may_fail (call_shape call input item))
  doubts (ArrayTemplate elements) field input item = element_doubts elements field input item
  doubts (ObjectTemplate fields) field input item = field_doubts fields input item

  -- those of the elements, in order
  pub element_doubts : Templates → FieldName → Shape → Option Shape → List (FieldName × Doubt)
  element_doubts NoTemplates field input item = []
  element_doubts (AndTemplate template others) field input item =
      doubts template field input item ++ element_doubts others field input item

  -- those of the fields, each under its own name
  pub field_doubts : FieldTemplates → Shape → Option Shape → List (FieldName × Doubt)
  field_doubts NoFieldTemplates input item = []
  field_doubts (AndFieldTemplate n template others) input item =
      doubts template n input item ++ field_doubts others input item

abbrev mutual
  -- the shape of a template's value, where there is no doubt
  pub filled_shape : Template → Shape → Option Shape → Shape
  filled_shape (Literal t) input item = literal t
  filled_shape (FromPath reference) input item = or_none (reference_shape reference input item)
  filled_shape (FromCall call) input item = or_none (or_may_fail (call_shape call input item))
  filled_shape (ArrayTemplate elements) input item = ArrayShape (filled_elements elements input item) Never
  filled_shape (ObjectTemplate fields) input item = ObjectShape (filled_fields fields input item) false

  -- the shapes of the elements
  pub filled_elements : Templates → Shape → Option Shape → Shapes
  filled_elements NoTemplates input item = NoShapes
  filled_elements (AndTemplate template others) input item =
      AndShape (filled_shape template input item) (filled_elements others input item)

  -- each field is needed, with the shape of its value
  pub filled_fields : FieldTemplates → Shape → Option Shape → FieldShapes
  filled_fields NoFieldTemplates input item = NoFieldShapes
  filled_fields (AndFieldTemplate n template others) input item =
      set_mention n true (filled_shape template input item) (filled_fields others input item)

-- the shape, or the doubts where there are some
abbrev pub unless_doubts : List (FieldName × Doubt) → Shape → Result Shape (List (FieldName × Doubt))
unless_doubts [] s = Ok s
unless_doubts (doubt ∷ others) s = Err (doubt ∷ others)

-- the shape of the values that a template has for the trees of a shape and the items of another, or all its doubts
abbrev pub template_shape : Template → Shape → Option Shape → Result Shape (List (FieldName × Doubt))
template_shape template input item =
    if inhabited input then unless_doubts (doubts template [] input item) (filled_shape template input item)
    else Ok Never

-- Rules

-- the field's mention, needed and narrowed; one that isn't mentioned is needed where the object may have it
abbrev pub narrow_mention : (Shape → Shape) → FieldName → FieldShapes → Bool → Option (Bool × Shape) → Shape
narrow_mention go_on n shapes extra None = if extra then ObjectShape (set_mention n true Any shapes) true else Never
narrow_mention go_on n shapes extra (Some mention) = ObjectShape (set_mention n true (go_on mention.1) shapes) extra

-- the place narrowed, where it has a shape of its own
abbrev pub narrow_place : (Shape → Shape) → ℕ → Shapes → Shape → Option Shape → Shape
narrow_place go_on i first rest None = ArrayShape first rest
narrow_place go_on i first rest (Some s) = ArrayShape (set_place i (go_on s) first) rest

-- the objects in which the field is there, narrowed
abbrev pub narrow_objects : (Shape → Shape) → FieldName → Objects → Shape
narrow_objects go_on n WithoutObjects = Never
narrow_objects go_on n (ObjectsOf shapes extra) = narrow_mention go_on n shapes extra (mention_of n shapes)

-- the arrays in which the position is there, narrowed where it has a shape of its own
abbrev pub narrow_arrays : (Shape → Shape) → ℕ → Arrays → Shape
narrow_arrays go_on i WithoutArrays = Never
narrow_arrays go_on i (ArraysOf first rest) = narrow_place go_on i first rest (place_at i first)

-- the shape of the trees in which the segment names something; the function narrows what it names
abbrev pub narrow_under : (Shape → Shape) → Segment → Shape → Shape
narrow_under go_on segment Any = Any
narrow_under go_on (Name n) (OfKinds simple arrays objects) = narrow_objects go_on n objects
narrow_under go_on (Index i) (OfKinds simple arrays objects) = narrow_arrays go_on i arrays

-- the shape of the trees of a shape in which the path names something
abbrev pub where_present : List Segment → Shape → Shape
where_present [] s = s
where_present (segment ∷ path) s = narrow_under (where_present path) segment s

-- the simple kinds that a shape takes
abbrev pub simple_of : Shape → Simple
simple_of Any = all_simple
simple_of (OfKinds simple arrays objects) = simple

-- of these simple kinds that one alone
abbrev pub kept : ValueKind → Simple → Simple
kept NullKind simple = record no_simple { null = simple.null }
kept NumericKind simple = record no_simple { integer = simple.integer }
kept StringKind simple = record no_simple { text = simple.text }
kept BooleanKind simple = record no_simple { boolean = simple.boolean }

-- these simple kinds without that one
abbrev pub dropped : ValueKind → Simple → Simple
dropped NullKind simple = record simple { null = false }
dropped NumericKind simple = record simple { integer = false }
dropped StringKind simple = record simple { text = false }
dropped BooleanKind simple = record simple { boolean = false }

-- the shape of its trees that are of that kind
abbrev pub of_kind : ValueKind → Shape → Shape
of_kind kind s = OfKinds (kept kind (simple_of s)) WithoutArrays WithoutObjects

-- the shape of its trees that aren't; of Any nothing is taken
abbrev pub not_of_kind : ValueKind → Shape → Shape
not_of_kind kind Any = Any
not_of_kind kind (OfKinds simple arrays objects) = OfKinds (dropped kind simple) arrays objects

-- the shape of its trees that are of that kind, or with false of those that aren't
abbrev pub by_kind : ValueKind → Bool → Shape → Shape
by_kind kind expected s = if expected then of_kind kind s else not_of_kind kind s

-- the shape with what the path names in it narrowed: Never where no tree is left there
abbrev pub narrowed_at : List Segment → (Shape → Shape) → Shape → Result Shape DoubtfulPath → Result Shape DoubtfulPath
narrowed_at path narrow s (Ok part) = or_doubtful path s (put path (narrow part) s)
narrowed_at path narrow s (Err doubtful) = Err doubtful

-- the second answer, where a shape is found first; else the path that is doubtful there
abbrev pub where_found : Result Shape DoubtfulPath → Result Shape DoubtfulPath → Result Shape DoubtfulPath
where_found (Ok part) answer = answer
where_found (Err doubtful) answer = Err doubtful

-- the shape of what a comparison's second value is
abbrev pub operand_shape : Operand → Shape → Result Shape DoubtfulPath
operand_shape (Constant t) s = Ok (literal t)
operand_shape (AtPath path) s = found path s

-- goes on with a shape that has a tree, and with one that has none to Never
abbrev pub where_inhabited : (Shape → Result Shape DoubtfulPath) → Shape → Result Shape DoubtfulPath
where_inhabited go_on s = if inhabited s then go_on s else Ok Never

-- goes on with the shape, unless a path is doubtful
abbrev pub narrowed_by : (Shape → Result Shape DoubtfulPath) → Result Shape DoubtfulPath → Result Shape DoubtfulPath
narrowed_by go_on (Ok s) = go_on s
narrowed_by go_on (Err doubtful) = Err doubtful

abbrev mutual
  -- the shape of the trees of a shape for which a test is true, or the first of its paths that is doubtful
  pub true_of : Test → Shape → Result Shape DoubtfulPath
  true_of (And tests) s = each_true_of tests s
  true_of (Or tests) s = where_found (each_found tests s) (Ok s)
  true_of (Not test) s = where_found (true_of test s) (Ok s)
  true_of (Compare path comparison operand) s =
      where_found (found path s) (where_found (operand_shape operand s) (Ok s))
  true_of (StringMatches path pattern) s = where_found (found path s) (Ok s)
  true_of (IsOfKind path kind expected) s = narrowed_at path (by_kind kind expected) s (found path s)
  true_of (IsPresent path expected) s = Ok (if expected then where_present path s else s)

  -- the narrowed shape goes from each test to the next, where it has a tree; else the tests that follow give Never
  pub each_true_of : Tests → Shape → Result Shape DoubtfulPath
  each_true_of NoTests s = Ok s
  each_true_of (AndTest test others) s =
      narrowed_by (each_true_of others) (where_inhabited (true_of test) s)

  -- the shape as it is, where no path of any of the tests is doubtful
  pub each_found : Tests → Shape → Result Shape DoubtfulPath
  each_found NoTests s = Ok s
  each_found (AndTest test others) s = where_found (true_of test s) (each_found others s)

-- the shape of the trees of a shape for which a rule is true, or the first of its paths that is doubtful
abbrev pub rule_shape : Test → Shape → Result Shape DoubtfulPath
rule_shape test s = where_inhabited (true_of test) s

-- Rules that stand for a `Default`

-- what a test asks of the value at a path: whether it is there, whether it is of a kind, whether it is true
pub data Question : Type 0 where
  IsThere : List Segment → Question
  IsOf : ValueKind → List Segment → Question
  IsItTrue : List Segment → Question

-- the truth value that a comparison with a constant asks for, if it asks for one
abbrev pub truth_asked : Comparison → Operand → Option Bool
truth_asked (StringIs relation) operand = None
truth_asked (NumericIs relation) operand = None
truth_asked BooleanEquals (Constant t) = as_boolean t
truth_asked BooleanEquals (AtPath path) = None

-- truth values alone are found
abbrev pub finds_booleans : Result Shape ℕ → Bool
finds_booleans (Ok s) = is_boolean_shape s
finds_booleans (Err at) = false

-- The question of a test on trees of the shape, and the answer that makes the test true. Only where truth values alone
-- are found, one of them that isn't true is false.
abbrev pub asks : Shape → Test → Option (Question × Bool)
asks s (And tests) = None
asks s (Or tests) = None
asks s (Not test) = None
asks s (Compare path comparison operand) =
    if finds_booleans (look path s) then option_map (λ b. (IsItTrue path, b)) (truth_asked comparison operand) else None
asks s (StringMatches path pattern) = None
asks s (IsOfKind path kind expected) = Some (IsOf kind path, expected)
asks s (IsPresent path expected) = Some (IsThere path, expected)

-- the questions of these rules, in order, each with the answer that makes the rule true
abbrev pub asked : List Rule → Shape → List (Question × Bool)
asked rules s = filter_map (λ (rule : Rule). asks s rule.test) rules

-- the same segment
abbrev pub same_segment : Segment → Segment → Bool
same_segment (Name n) (Name m) = bytes_eq n m
same_segment (Name n) (Index j) = false
same_segment (Index i) (Name m) = false
same_segment (Index i) (Index j) = nat_eq i j

-- the same segments in the same order
abbrev pub same_path : List Segment → List Segment → Bool
same_path [] [] = true
same_path [] (segment ∷ path) = false
same_path (segment ∷ path) [] = false
same_path (segment ∷ path) (other ∷ further) = same_segment segment other && same_path path further

-- the same kind
abbrev pub same_kind : ValueKind → ValueKind → Bool
same_kind kind other = same_simple (kept kind all_simple) (kept other all_simple)

-- the same question, at the same path
abbrev pub same_question : Question → Question → Bool
same_question (IsThere path) (IsThere other) = same_path path other
same_question (IsThere path) (IsOf kind other) = false
same_question (IsThere path) (IsItTrue other) = false
same_question (IsOf kind path) (IsThere other) = false
same_question (IsOf kind path) (IsOf another other) = same_kind kind another && same_path path other
same_question (IsOf kind path) (IsItTrue other) = false
same_question (IsItTrue path) (IsThere other) = false
same_question (IsItTrue path) (IsOf kind other) = false
same_question (IsItTrue path) (IsItTrue other) = same_path path other

-- one of these asks the same question for the other answer
abbrev pub is_asked_otherwise : Question → Bool → List (Question × Bool) → Bool
is_asked_otherwise question answer [] = false
is_asked_otherwise question answer (other ∷ others) =
    (same_question question other.0 && same_truth answer (not other.1)) || is_asked_otherwise question answer others

-- two of these ask the same question, one for yes and one for no
abbrev pub some_asked_both_ways : List (Question × Bool) → Bool
some_asked_both_ways [] = false
some_asked_both_ways (one ∷ others) = is_asked_otherwise one.0 one.1 others || some_asked_both_ways others

-- Two of the rules ask the same question, one for yes and one for no: where both are decided one of them is true, so
-- no `Default` is needed.
abbrev pub is_settled : List Rule → Shape → Bool
is_settled rules s = some_asked_both_ways (asked rules s)

-- The output of a state

-- why a state's output may not come about, each with the field of the state
pub data FlowFault : Type 0 where
  MissingAt : FieldName → DoubtfulPath → FlowFault
  FailsAt : FieldName → FlowFault
  MisfitAt : FieldName → FlowFault

-- a shape on its way through a state, or the faults that may stop it
abbrev pub Flow : Type 0
Flow = Result Shape (List FlowFault)

-- goes on with the shape, unless there are faults
abbrev pub flow_then : (Shape → Flow) → Flow → Flow
flow_then go_on (Ok s) = go_on s
flow_then go_on (Err faults) = Err faults

-- a template's doubt as a fault at its field
abbrev pub doubt_fault : FieldName → Doubt → FlowFault
doubt_fault field (MayBeMissing doubtful) = MissingAt field doubtful
doubt_fault field MayFail = FailsAt field

-- all of a template's doubts as faults at its field
abbrev pub faults_of : FieldName → List (FieldName × Doubt) → List FlowFault
faults_of field found = map (λ d. doubt_fault field d.1) found

-- the template's shape, or its doubts as faults at that field
abbrev pub template_flow : FieldName → Result Shape (List (FieldName × Doubt)) → Flow
template_flow field (Ok s) = Ok s
template_flow field (Err found) = Err (faults_of field found)

-- a template that may not be given: without it the shape goes through
abbrev pub through_template : FieldName → Option Template → Shape → Flow
through_template field None s = Ok s
through_template field (Some template) s = template_flow field (template_shape template s None)

-- what the path names, or a fault at its field
abbrev pub path_flow : FieldName → Result Shape DoubtfulPath → Flow
path_flow field (Ok s) = Ok s
path_flow field (Err doubtful) = Err (MissingAt field doubtful ∷ [])

-- the empty object, which `InputPath: null` and `OutputPath: null` give
abbrev pub empty_object : Shape
empty_object = ObjectShape NoFieldShapes false

-- `InputPath` and `OutputPath`: what the path names, and for null the empty object
abbrev pub through_path : FieldName → Option (List Segment) → Shape → Flow
through_path field None s = Ok (if inhabited s then empty_object else Never)
through_path field (Some path) s = path_flow field (found path s)

-- what is placed, or a fault at its field
abbrev pub placing_flow : FieldName → Result Shape ℕ → Flow
placing_flow field (Ok s) = Ok s
placing_flow field (Err at) = Err (MisfitAt field ∷ [])

-- `ResultPath`: the result placed in the raw input, and for null the raw input
abbrev pub through_placing : FieldName → Option (List Segment) → Shape → Shape → Flow
through_placing field None raw result = Ok (if inhabited result then raw else Never)
through_placing field (Some path) raw result = placing_flow field (put path result raw)

-- `OutputPath`
abbrev pub output_flow : Settings → Shape → Flow
output_flow settings s = through_path (codes "OutputPath") settings.output_path s

-- `ResultSelector`, `ResultPath`, `OutputPath`
abbrev pub result_flow : Settings → Shape → Shape → Flow
result_flow settings raw result =
    flow_then (output_flow settings) (flow_then (through_placing (codes "ResultPath") settings.result_path raw)
    (through_template (codes "ResultSelector") settings.result_selector result))

-- the same, Never where the raw input or the result isn't inhabited
abbrev pub result_leaves : Settings → Shape → Shape → Flow
result_leaves settings raw result =
    if inhabited raw && inhabited result then result_flow settings raw result else Ok Never

-- what leaves a state: its result, its effective input, or nothing
pub data Leaving : Type 0 where
  WithResult : Leaving
  WithInput : Leaving
  Nothing : Leaving

-- what leaves a state, by its type
abbrev pub leaving : Kind → Leaving
leaving (Pass result) = WithResult
leaving (Task resource) = WithResult
leaving (Choice rules default) = WithInput
leaving (Wait delay) = WithInput
leaving Succeed = WithInput
leaving (Fail error cause) = Nothing
leaving (Parallel branches) = WithResult
leaving (Map items selector processor) = WithResult

-- the shape of the output, by what leaves
abbrev pub leave_by : Leaving → Settings → Shape → Shape → Flow
leave_by WithResult settings raw work = result_leaves settings raw work
leave_by WithInput settings raw work = if inhabited raw then output_flow settings work else Ok Never
leave_by Nothing settings raw work = Ok Never

-- The shape of a state's output, for the shapes of its raw input and of its work: the result, or for Choice, Wait and
-- Succeed the effective input, of which `OutputPath` alone makes the output. Nothing leaves a Fail.
abbrev pub leave : Settings → Kind → Shape → Shape → Flow
leave settings kind raw work = leave_by (leaving kind) settings raw work
