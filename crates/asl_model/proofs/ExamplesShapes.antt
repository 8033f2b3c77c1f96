-- Worked examples of shapes: joins, what paths find, what is placed, templates, rules, outputs, and the findings of
-- worked machines.
use Rattle.std.specs.Prelude.{◌≡◌, ℕ, pos, List, [], ◌∷◌, map, Bool, true, false, Option, Some, None, Ok, Err, codes, refl}
use Rattle.asl_model.specs.Tree.{Tree, Null, Boolean, Integer, Text, Array, Object, trees_of, fields_of}
use Rattle.asl_model.specs.Path.{Segment, Name, Index}
use Rattle.asl_model.specs.Intrinsic.{InInput, InItem, ItemIndex, CallOf, StatesArray, StatesFormat, StatesArrayLength, Pieces, Argument, IntegerArgument, TextArgument, PathArgument, NoArguments, AndArgument}
use Rattle.asl_model.specs.Template.{Template, Literal, FromPath, FromCall, ArrayTemplate, ObjectTemplate, NoTemplates, AndTemplate, NoFieldTemplates, AndFieldTemplate}
use Rattle.asl_model.specs.Test.{Test, And, Or, Not, Compare, StringIs, NumericIs, Equals, LessThan, Constant, AtPath, IsOfKind, NullKind, IsPresent, Tests, NoTests, AndTest}
use Rattle.asl_model.specs.Machine.{Kind, Settings, SecondsPath, Scope, ScopeOf, NoStates, AndState, StateOf, Pass, Task, Choice, Wait, Succeed, Parallel, Map, NoScopes, AndScope}
use Rattle.asl_model.specs.Shape.{Shape, Any, OfKinds, no_simple, WithoutArrays, ArraysOf, WithoutObjects, ObjectsOf, Never, NullShape, BooleanShape, IntegerShape, StringShape, ArrayShape, ObjectShape, NoShapes, AndShape, FieldShapes, NoFieldShapes, AndFieldShape, has}
use Rattle.asl_model.specs.ShapeOrder.{sub, join}
use Rattle.asl_model.specs.ShapeFlow.{DoubtfulPath, look, put, literal, template_shape, rule_shape, leave, MayBeMissing, MayFail, MissingAt}
use Rattle.asl_model.specs.Certificate.{TaskShapes, Declared, StateShapes, Certificate}
use Rattle.asl_model.specs.Finding.{Finding, FindingFault, NotCertified, NotAState, TaskUndeclared, TaskUnknown, StartInput, PathMayBeMissing, WrongKind, ResultMayNotFit, IntrinsicMayFail, NoDefault, PayloadNotTaken, OutputNotCertified, NextInput, ScopeOutput, BranchInput, CatchInput, map_result, findings}
use Rattle.asl_model.proofs.ExamplesSettings.{bare, bare_catcher}

-- Shapes and paths

abbrev pub closed : FieldShapes → Shape
closed shapes = ObjectShape shapes false

abbrev pub opened : FieldShapes → Shape
opened shapes = ObjectShape shapes true

abbrev pub needed : List ℕ → Shape → FieldShapes → FieldShapes
needed n s shapes = AndFieldShape n true s shapes

abbrev pub optional : List ℕ → Shape → FieldShapes → FieldShapes
optional n s shapes = AndFieldShape n false s shapes

join_of_objects : join (closed (needed (codes "a") IntegerShape NoFieldShapes)) (closed NoFieldShapes) ≡ closed (optional (codes "a") IntegerShape NoFieldShapes)
join_of_objects = refl

look_at_optional : look (Name (codes "a") ∷ []) (closed (optional (codes "a") IntegerShape NoFieldShapes)) ≡ Err 0
look_at_optional = refl

put_builds : put (Name (codes "a") ∷ Name (codes "b") ∷ []) IntegerShape (closed NoFieldShapes) ≡ Ok (closed (needed (codes "a") (closed (needed (codes "b") IntegerShape NoFieldShapes)) NoFieldShapes))
put_builds = refl

put_in_open : put (Name (codes "a") ∷ Name (codes "b") ∷ []) IntegerShape (opened NoFieldShapes) ≡ Err 1
put_in_open = refl

put_in_optional : put (Name (codes "a") ∷ Name (codes "b") ∷ []) IntegerShape (closed (optional (codes "a") (closed (needed (codes "c") StringShape NoFieldShapes)) NoFieldShapes)) ≡ Ok (closed (needed (codes "a") (closed (needed (codes "b") IntegerShape (optional (codes "c") StringShape NoFieldShapes))) NoFieldShapes))
put_in_optional = refl

-- a needed field `a` that no tree can have
abbrev pub impossible : Shape
impossible = closed (needed (codes "a") Never NoFieldShapes)

-- the arrays whose first elements have these two shapes, and the further ones that
abbrev pub pair : Shape → Shape → Shape → Shape
pair s t rest = ArrayShape (AndShape s (AndShape t NoShapes)) rest

abbrev pub one_then : Shape → Shape → Shape
one_then s rest = ArrayShape (AndShape s NoShapes) rest

abbrev pub each : Shape → Shape
each rest = ArrayShape NoShapes rest

-- what has no tree is inside everything
sub_of_impossible : sub impossible IntegerShape ≡ true
sub_of_impossible = refl

sub_of_any : sub Any (each Any) ≡ false
sub_of_any = refl

-- whole numbers and texts; null and whole numbers; whole numbers and arrays that there are none of; whatever a tree
-- may be, kind by kind
abbrev number_or_text : Shape
number_or_text = OfKinds (record no_simple { integer = true; text = true }) WithoutArrays WithoutObjects

abbrev null_or_number : Shape
null_or_number = OfKinds (record no_simple { null = true; integer = true }) WithoutArrays WithoutObjects

abbrev number_or_impossible_array : Shape
number_or_impossible_array = OfKinds (record no_simple { integer = true }) (ArraysOf (AndShape Never NoShapes) Any) WithoutObjects

abbrev pub all_kinds : Shape
all_kinds = OfKinds (record { null = true; boolean = true; integer = true; text = true }) (ArraysOf NoShapes Any) (ObjectsOf NoFieldShapes true)

-- kind by kind
sub_kinds : map (λ s. sub s number_or_text) (Never ∷ IntegerShape ∷ number_or_text ∷ NullShape ∷ all_kinds ∷ Any ∷ []) ≡ true ∷ true ∷ true ∷ false ∷ false ∷ false ∷ []
sub_kinds = refl

sub_any_kinds : sub Any all_kinds ≡ true
sub_any_kinds = refl

-- an optional field that only the second mentions: the first can't have it, or may have it with any shape
sub_closed_optional : sub (closed NoFieldShapes) (closed (optional (codes "a") IntegerShape NoFieldShapes)) ≡ true
sub_closed_optional = refl

sub_open_any : sub (opened NoFieldShapes) (opened (optional (codes "a") Any NoFieldShapes)) ≡ true
sub_open_any = refl

sub_open_optional : sub (opened NoFieldShapes) (opened (optional (codes "a") IntegerShape NoFieldShapes)) ≡ false
sub_open_optional = refl

-- a field that only the first mentions: the second may have others, or no tree has the field
sub_forgets : sub (closed (needed (codes "a") IntegerShape NoFieldShapes)) (opened NoFieldShapes) ≡ true
sub_forgets = refl

sub_forbidden : sub (closed (optional (codes "a") IntegerShape NoFieldShapes)) (closed NoFieldShapes) ≡ false
sub_forbidden = refl

sub_never_there : sub (closed (optional (codes "a") Never NoFieldShapes)) (closed NoFieldShapes) ≡ true
sub_never_there = refl

sub_needed : sub (closed (optional (codes "a") IntegerShape NoFieldShapes)) (closed (needed (codes "a") IntegerShape NoFieldShapes)) ≡ false
sub_needed = refl

-- arrays: further elements of the second stand for first ones of the first, and not the other way round
sub_pair_each : sub (pair IntegerShape IntegerShape Never) (each IntegerShape) ≡ true
sub_pair_each = refl

sub_each_one : sub (each IntegerShape) (one_then IntegerShape IntegerShape) ≡ false
sub_each_one = refl

sub_further : sub (one_then IntegerShape StringShape) (one_then IntegerShape IntegerShape) ≡ false
sub_further = refl

-- a join goes kind by kind: two kinds give the shape of both, and a kind of both sides stands once
join_of_kinds : join IntegerShape StringShape ≡ number_or_text
join_of_kinds = refl

join_of_optional : join null_or_number StringShape ≡ OfKinds (record no_simple { null = true; integer = true; text = true }) WithoutArrays WithoutObjects
join_of_optional = refl

join_of_array_and_object : join (OfKinds (record no_simple { null = true }) (ArraysOf NoShapes IntegerShape) WithoutObjects) (OfKinds no_simple (ArraysOf NoShapes StringShape) (ObjectsOf NoFieldShapes true)) ≡ OfKinds (record no_simple { null = true }) (ArraysOf NoShapes number_or_text) (ObjectsOf NoFieldShapes true)
join_of_array_and_object = refl

-- a part that no tree has is dropped, on either side; where one part is left, it is the shape of that kind
join_without_arrays : join number_or_impossible_array StringShape ≡ number_or_text
join_without_arrays = refl

join_without_objects : join StringShape (OfKinds (record no_simple { integer = true }) WithoutArrays (ObjectsOf (needed (codes "a") Never NoFieldShapes) false)) ≡ number_or_text
join_without_objects = refl

join_leaves_one_kind : join number_or_impossible_array IntegerShape ≡ IntegerShape
join_leaves_one_kind = refl

-- Any joined with a shape of several kinds
join_of_any : join Any number_or_text ≡ Any
join_of_any = refl

join_with_any : join number_or_text Any ≡ Any
join_with_any = refl

-- joins of arrays: place by place, and the further places with both shapes of further elements
join_of_arrays : join (pair IntegerShape StringShape Never) (one_then BooleanShape Never) ≡ one_then (OfKinds (record no_simple { boolean = true; integer = true }) WithoutArrays WithoutObjects) StringShape
join_of_arrays = refl

join_of_lists : join (each IntegerShape) (each StringShape) ≡ each number_or_text
join_of_lists = refl

join_with_impossible : join impossible IntegerShape ≡ IntegerShape
join_with_impossible = refl

join_of_impossible : join impossible Never ≡ Never
join_of_impossible = refl

-- shapes of the same kinds
join_with_itself : map (λ s. join s s) (NullShape ∷ BooleanShape ∷ IntegerShape ∷ StringShape ∷ number_or_text ∷ []) ≡ NullShape ∷ BooleanShape ∷ IntegerShape ∷ StringShape ∷ number_or_text ∷ []
join_with_itself = refl

-- a field of one object alone is optional where the other can't have it, and dropped where it may
join_needs_both : join (closed (needed (codes "a") IntegerShape (needed (codes "b") IntegerShape NoFieldShapes))) (closed (optional (codes "b") IntegerShape (needed (codes "c") StringShape NoFieldShapes))) ≡ closed (optional (codes "a") IntegerShape (optional (codes "b") IntegerShape (optional (codes "c") StringShape NoFieldShapes)))
join_needs_both = refl

join_drops : join (closed (needed (codes "a") IntegerShape NoFieldShapes)) (opened NoFieldShapes) ≡ opened NoFieldShapes
join_drops = refl

-- paths into arrays
look_at_place : look (Index 1 ∷ []) (pair IntegerShape StringShape Any) ≡ Ok StringShape
look_at_place = refl

look_past_places : look (Name (codes "a") ∷ Index 2 ∷ []) (closed (needed (codes "a") (pair IntegerShape StringShape Any) NoFieldShapes)) ≡ Err 1
look_past_places = refl

look_in_impossible : look (Name (codes "b") ∷ []) impossible ≡ Ok Never
look_in_impossible = refl

put_in_place_of : put (Index 0 ∷ []) StringShape (one_then IntegerShape Any) ≡ Ok (one_then StringShape Any)
put_in_place_of = refl

put_builds_no_array : put (Name (codes "a") ∷ Index 0 ∷ []) StringShape (closed NoFieldShapes) ≡ Err 1
put_builds_no_array = refl

put_in_number : put (Name (codes "a") ∷ []) StringShape IntegerShape ≡ Err 0
put_in_number = refl

put_impossible : put (Name (codes "a") ∷ []) impossible IntegerShape ≡ Ok Never
put_impossible = refl

-- an open object may be given any one field
put_one_in_open : put (Name (codes "a") ∷ []) StringShape (opened NoFieldShapes) ≡ Ok (opened (needed (codes "a") StringShape NoFieldShapes))
put_one_in_open = refl

-- Rules

abbrev k : List Segment
k = Name (codes "k") ∷ []

-- an optional field `k` that is a text, and others
abbrev with_k : Shape
with_k = opened (optional (codes "k") StringShape NoFieldShapes)

present_in_closed : rule_shape (IsPresent k true) (closed NoFieldShapes) ≡ Ok Never
present_in_closed = refl

present_in_open : rule_shape (IsPresent k true) (opened NoFieldShapes) ≡ Ok (opened (needed (codes "k") Any NoFieldShapes))
present_in_open = refl

or_keeps : rule_shape (Or (AndTest (IsPresent k true) (AndTest (IsPresent (Name (codes "j") ∷ []) true) NoTests))) with_k ≡ Ok with_k
or_keeps = refl

-- a place that has a shape is narrowed, one that only further elements have stays, and a text has none
present_at_place : rule_shape (IsPresent (Index 0 ∷ Name (codes "k") ∷ []) true) (one_then with_k Any) ≡ Ok (one_then (opened (needed (codes "k") StringShape NoFieldShapes)) Any)
present_at_place = refl

present_further : rule_shape (IsPresent (Index 1 ∷ []) true) (one_then IntegerShape Any) ≡ Ok (one_then IntegerShape Any)
present_further = refl

present_in_text : rule_shape (IsPresent k true) StringShape ≡ Ok Never
present_in_text = refl

absent_keeps : rule_shape (IsPresent k false) with_k ≡ Ok with_k
absent_keeps = refl

-- a field that can't have a value stays one, of a shape without a tree
present_impossible : rule_shape (IsPresent (Name (codes "k") ∷ Name (codes "j") ∷ []) true) (opened (optional (codes "k") StringShape NoFieldShapes)) ≡ Ok (opened (needed (codes "k") Never NoFieldShapes))
present_impossible = refl

abbrev k_is_x : Test
k_is_x = Compare k (StringIs Equals) (Constant (Text (codes "x")))

-- a path that may name nothing in trees of the shape, from that segment on
abbrev doubtful : List Segment → ℕ → Shape → DoubtfulPath
doubtful path segment s = record { path = path; segment = segment; shape = s }

and_narrows : rule_shape (And (AndTest (IsPresent k true) (AndTest k_is_x NoTests))) with_k ≡ Ok (opened (needed (codes "k") StringShape NoFieldShapes))
and_narrows = refl

and_in_order : rule_shape (And (AndTest k_is_x (AndTest (IsPresent k true) NoTests))) with_k ≡ Err (doubtful k 0 with_k)
and_in_order = refl

-- of the paths of a rule the first that is doubtful is told: that of the second value where the other is found
abbrev k_j : List Segment
k_j = Name (codes "k") ∷ Name (codes "j") ∷ []

second_value_doubtful : rule_shape (Compare k (StringIs Equals) (AtPath k_j)) (closed (needed (codes "k") StringShape NoFieldShapes)) ≡ Err (doubtful k_j 1 (closed (needed (codes "k") StringShape NoFieldShapes)))
second_value_doubtful = refl

first_doubtful : map (λ test. rule_shape test with_k) (Compare k (StringIs Equals) (AtPath k_j) ∷ Or (AndTest k_is_x (AndTest (IsOfKind k_j NullKind true) NoTests)) ∷ Not k_is_x ∷ []) ≡ Err (doubtful k 0 with_k) ∷ Err (doubtful k 0 with_k) ∷ Err (doubtful k 0 with_k) ∷ []
first_doubtful = refl

-- behind a test that narrows, a path is doubtful in the narrowed shape
doubtful_in_narrowed : rule_shape (And (AndTest (IsPresent k true) (AndTest (IsOfKind k_j NullKind true) NoTests))) with_k ≡ Err (doubtful k_j 1 (opened (needed (codes "k") StringShape NoFieldShapes)))
doubtful_in_narrowed = refl

-- in a closed object a field that can't have a value isn't there, so the tests behind that of its presence give Never
abbrev closed_without_k : Shape
closed_without_k = closed (optional (codes "k") Never NoFieldShapes)

abbrev k_is_null : Test
k_is_null = IsOfKind k NullKind true

and_ends_at_never : rule_shape (And (AndTest (IsPresent k true) (AndTest k_is_null NoTests))) closed_without_k ≡ Ok Never
and_ends_at_never = refl

-- so where a path of such a test would name nothing in the object
and_asks_no_further : rule_shape (And (AndTest (IsPresent k true) (AndTest (Not (And (AndTest (IsOfKind (Name (codes "j") ∷ []) NullKind true) NoTests))) NoTests))) closed_without_k ≡ Ok Never
and_asks_no_further = refl

-- an And inside another starts from what is narrowed, and one inside Not from the shape as it is
nested_and_ends_at_never : rule_shape (And (AndTest (And (AndTest (IsPresent k true) NoTests)) (AndTest k_is_null NoTests))) closed_without_k ≡ Ok Never
nested_and_ends_at_never = refl

never_true_under_not : rule_shape (Not (And (AndTest (IsPresent k true) (AndTest k_is_null NoTests)))) closed_without_k ≡ Ok closed_without_k
never_true_under_not = refl

-- the last test gives what it narrows to, as it does alone
and_gives_the_last : rule_shape (And (AndTest (IsPresent k true) NoTests)) closed_without_k ≡ Ok (closed (needed (codes "k") Never NoFieldShapes))
and_gives_the_last = refl

-- Templates

template_of_input : template_shape (ObjectTemplate (AndFieldTemplate (codes "p") (FromPath (InInput [])) NoFieldTemplates)) (closed NoFieldShapes) None ≡ Ok (closed (needed (codes "p") (closed NoFieldShapes) NoFieldShapes))
template_of_input = refl

-- a template with one field `x`, and the shape of an object with that field alone
abbrev x_from : Template → Template
x_from template = ObjectTemplate (AndFieldTemplate (codes "x") template NoFieldTemplates)

abbrev x_of : Shape → Shape
x_of s = closed (needed (codes "x") s NoFieldShapes)

-- `{}`, and a call of `States.Format` of that text and one argument
abbrev one_hole : Pieces
one_hole = record { first = []; after_holes = [] ∷ [] }

abbrev formatted : Pieces → Argument → Template
formatted pieces argument = x_from (FromCall (CallOf StatesFormat (AndArgument (TextArgument pieces) (AndArgument argument NoArguments))))

template_of_list : template_shape (formatted one_hole (PathArgument (InInput []))) (ArrayShape NoShapes Any) None ≡ Err ((codes "x", MayFail) ∷ [])
template_of_list = refl

-- null, a truth value, a number and a text can be put in a text, and so can what never comes
format_of_kinds : map (λ s. template_shape (formatted one_hole (PathArgument (InInput []))) s None) (NullShape ∷ BooleanShape ∷ IntegerShape ∷ StringShape ∷ []) ≡ Ok (x_of StringShape) ∷ Ok (x_of StringShape) ∷ Ok (x_of StringShape) ∷ Ok (x_of StringShape) ∷ []
format_of_kinds = refl

format_of_impossible : template_shape (formatted one_hole (PathArgument (InItem []))) Any (Some impossible) ≡ Ok (x_of StringShape)
format_of_impossible = refl

-- one argument for two holes
too_many_holes : template_shape (formatted (record { first = []; after_holes = [] ∷ [] ∷ [] }) (PathArgument (InInput []))) StringShape None ≡ Err ((codes "x", MayFail) ∷ [])
too_many_holes = refl

-- `States.Array` and an array in a template have as many elements as are written
array_of_two : template_shape (x_from (FromCall (CallOf StatesArray (AndArgument (IntegerArgument (pos 7)) (AndArgument (PathArgument (InInput [])) NoArguments))))) StringShape None ≡ Ok (x_of (pair IntegerShape StringShape Never))
array_of_two = refl

template_of_two : template_shape (x_from (ArrayTemplate (AndTemplate (Literal (Integer (pos 7))) (AndTemplate (Literal (Text (codes "a"))) NoTemplates)))) Any None ≡ Ok (x_of (pair IntegerShape StringShape Never))
template_of_two = refl

-- a literal: each field of an object is there and no other, and of one that stands twice the first counts
literal_of_all : literal (Object (fields_of ((codes "b", Array (trees_of (Null ∷ Boolean true ∷ []))) ∷ (codes "a", Integer (pos 7)) ∷ (codes "a", Text (codes "x")) ∷ []))) ≡ closed (needed (codes "a") IntegerShape (needed (codes "b") (pair NullShape BooleanShape Never) NoFieldShapes))
literal_of_all = refl

-- the length of an array, and of what may be none
abbrev length_of_input : Template
length_of_input = ObjectTemplate (AndFieldTemplate (codes "n") (FromCall (CallOf StatesArrayLength (AndArgument (PathArgument (InInput [])) NoArguments))) NoFieldTemplates)

length_of_list : template_shape length_of_input (each Any) None ≡ Ok (closed (needed (codes "n") IntegerShape NoFieldShapes))
length_of_list = refl

length_of_object : template_shape length_of_input (closed NoFieldShapes) None ≡ Err ((codes "n", MayFail) ∷ [])
length_of_object = refl

-- an item's number and value, with an item and without one
abbrev item_and_number : Template
item_and_number = ObjectTemplate (AndFieldTemplate (codes "i") (FromPath ItemIndex) (AndFieldTemplate (codes "v") (FromPath (InItem (Name (codes "a") ∷ []))) NoFieldTemplates))

template_with_item : template_shape item_and_number Any (Some (closed (needed (codes "a") StringShape NoFieldShapes))) ≡ Ok (closed (needed (codes "i") IntegerShape (needed (codes "v") StringShape NoFieldShapes)))
template_with_item = refl

template_missing_item : template_shape item_and_number Any (Some (closed NoFieldShapes)) ≡ Err ((codes "v", MayBeMissing (doubtful (Name (codes "a") ∷ []) 0 (closed NoFieldShapes))) ∷ [])
template_missing_item = refl

template_without_item : template_shape item_and_number Any None ≡ Err ((codes "i", MayFail) ∷ (codes "v", MayFail) ∷ [])
template_without_item = refl

-- Machines

-- a state of a type that has all fields, with none given; it ends its scope
abbrev ending : Settings
ending = bare None

-- the same, going on to that state
abbrev going_to : List ℕ → Settings
going_to n = bare (Some n)

-- a finding that no tree shows, and one that this tree shows
abbrev finding : List ℕ → List ℕ → FindingFault → Finding
finding state field fault = record { state = state; field = field; fault = fault; example = None }

abbrev shown : List ℕ → List ℕ → FindingFault → Tree → Finding
shown state field fault t = record { state = state; field = field; fault = fault; example = Some t }

-- the tree of whole numbers, of texts, of arrays and of objects that is told first
abbrev nought : Tree
nought = Integer (pos 0)

abbrev no_text : Tree
no_text = Text []

abbrev no_elements : Tree
no_elements = Array (trees_of [])

abbrev no_fields : Tree
no_fields = Object (fields_of [])

-- an entry of a state that has no children
abbrev entry : List ℕ → Shape → Shape → List ℕ × StateShapes
entry n input output = (n, record { input = input; output = output; branches = []; item = None })

abbrev certificate_of : Shape → List (List ℕ × StateShapes) → Certificate
certificate_of output entries = record { output = output; states = entries }

abbrev task : List ℕ → Shape → Shape → List ℕ × TaskShapes
task n takes gives = (n, record { takes = takes; gives = gives })

abbrev declared_of : Shape → List (List ℕ × TaskShapes) → Declared
declared_of input tasks = record { input = input; tasks = tasks }

-- a Pass that ends
abbrev one_pass : Scope
one_pass = ScopeOf (codes "A") (AndState (codes "A") (StateOf ending (Pass None)) NoStates)

abbrev of_integers : Declared
of_integers = declared_of IntegerShape []

leave_of_pass : leave ending (Pass None) IntegerShape IntegerShape ≡ Ok IntegerShape
leave_of_pass = refl

-- nothing comes of a raw input or a result without a tree, whatever the paths are
abbrev null_paths : Settings
null_paths = record (bare None) { input_path = None; result_path = None; output_path = None }

leave_of_nothing : leave null_paths (Pass None) IntegerShape impossible ≡ Ok Never
leave_of_nothing = refl

leave_to_nothing : leave null_paths (Task (codes "r")) impossible IntegerShape ≡ Ok Never
leave_to_nothing = refl

leave_nulls : leave null_paths (Pass None) IntegerShape StringShape ≡ Ok (closed NoFieldShapes)
leave_nulls = refl

-- `ResultSelector`, `ResultPath` and `OutputPath`, in this order
leave_in_order : leave (record (bare None) { result_selector = Some (x_from (FromPath (InInput []))); result_path = Some k; output_path = Some (Name (codes "k") ∷ Name (codes "x") ∷ []) }) (Task (codes "r")) (closed (needed (codes "k") Any NoFieldShapes)) StringShape ≡ Ok StringShape
leave_in_order = refl

-- a path that is doubtful stops the output: `OutputPath` in what `ResultPath` gives, and not in the input
leave_doubtful : leave (record (bare None) { result_path = Some k; output_path = Some k_j }) (Task (codes "r")) (closed NoFieldShapes) StringShape ≡ Err (MissingAt (codes "OutputPath") (doubtful k_j 1 (closed (needed (codes "k") StringShape NoFieldShapes))) ∷ [])
leave_doubtful = refl

pass_yes : findings one_pass of_integers (certificate_of IntegerShape (entry (codes "A") IntegerShape IntegerShape ∷ [])) ≡ []
pass_yes = refl

pass_start : findings one_pass of_integers (certificate_of IntegerShape (entry (codes "A") Never IntegerShape ∷ [])) ≡ shown (codes "A") (codes "StartAt") StartInput nought ∷ []
pass_start = refl

pass_no_entry : findings one_pass of_integers (certificate_of IntegerShape []) ≡ finding (codes "A") (codes "states") NotCertified ∷ []
pass_no_entry = refl

pass_unknown_task : findings one_pass (declared_of IntegerShape (task (codes "Z") Any Any ∷ [])) (certificate_of IntegerShape (entry (codes "A") IntegerShape IntegerShape ∷ [])) ≡ finding (codes "Z") (codes "tasks") TaskUnknown ∷ []
pass_unknown_task = refl

pass_output : findings one_pass of_integers (certificate_of IntegerShape (entry (codes "A") IntegerShape StringShape ∷ [])) ≡ shown (codes "A") (codes "OutputPath") OutputNotCertified nought ∷ []
pass_output = refl

pass_end : findings one_pass of_integers (certificate_of StringShape (entry (codes "A") IntegerShape IntegerShape ∷ [])) ≡ shown (codes "A") (codes "End") ScopeOutput nought ∷ []
pass_end = refl

pass_further_entry : findings one_pass of_integers (certificate_of IntegerShape (entry (codes "A") IntegerShape IntegerShape ∷ entry (codes "Z") IntegerShape IntegerShape ∷ [])) ≡ finding (codes "Z") (codes "states") NotAState ∷ []
pass_further_entry = refl

-- a Pass and a Succeed, whose certified input is Never
pass_next : findings (ScopeOf (codes "A") (AndState (codes "A") (StateOf (going_to (codes "B")) (Pass None)) (AndState (codes "B") (StateOf ending Succeed) NoStates))) of_integers (certificate_of IntegerShape (entry (codes "A") IntegerShape IntegerShape ∷ entry (codes "B") Never IntegerShape ∷ [])) ≡ shown (codes "A") (codes "Next") NextInput nought ∷ []
pass_next = refl

-- the length of the input
abbrev with_length : Settings
with_length = record (bare None) { parameters = Some (ObjectTemplate (AndFieldTemplate (codes "x") (FromCall (CallOf StatesArrayLength (AndArgument (PathArgument (InInput [])) NoArguments))) NoFieldTemplates)) }

-- a Pass whose template asks for the length of what is no array
pass_call : findings (ScopeOf (codes "A") (AndState (codes "A") (StateOf with_length (Pass None)) NoStates)) of_integers (certificate_of IntegerShape (entry (codes "A") IntegerShape IntegerShape ∷ [])) ≡ finding (codes "A") (codes "Parameters") IntrinsicMayFail ∷ []
pass_call = refl

-- a Pass that places 7 at `$.a.b`
abbrev placing_pass : Scope
placing_pass = ScopeOf (codes "A") (AndState (codes "A") (StateOf (record (bare None) { result_path = Some (Name (codes "a") ∷ Name (codes "b") ∷ []) }) (Pass (Some (Integer (pos 7))))) NoStates)

-- its findings for an input of that shape, with Any certified of its output
abbrev placing_findings : Shape → List Finding
placing_findings input = findings placing_pass (declared_of input []) (certificate_of Any (entry (codes "A") input Any ∷ []))

abbrev misplaced : List Finding
misplaced = finding (codes "A") (codes "ResultPath") ResultMayNotFit ∷ []

place_in_text : placing_findings (closed (needed (codes "a") StringShape NoFieldShapes)) ≡ misplaced
place_in_text = refl

place_in_open : placing_findings (opened NoFieldShapes) ≡ misplaced
place_in_open = refl

place_in_closed : placing_findings (closed NoFieldShapes) ≡ []
place_in_closed = refl

-- a Choice by the truth of both tests, whose rule and default go on to the same state
abbrev choosing : Tests → Scope
choosing tests = ScopeOf (codes "A") (AndState (codes "A") (StateOf ending (Choice (record { test = And tests; next = codes "B" } ∷ []) (Some (codes "B")))) (AndState (codes "B") (StateOf ending Succeed) NoStates))

abbrev choosing_findings : Tests → List Finding
choosing_findings tests = findings (choosing tests) (declared_of with_k []) (certificate_of with_k (entry (codes "A") with_k with_k ∷ entry (codes "B") with_k with_k ∷ []))

choice_yes : choosing_findings (AndTest (IsPresent k true) (AndTest k_is_x NoTests)) ≡ []
choice_yes = refl

choice_in_order : choosing_findings (AndTest k_is_x (AndTest (IsPresent k true) NoTests)) ≡ shown (codes "A") (codes "Choices") PathMayBeMissing no_fields ∷ []
choice_in_order = refl

-- a required integer `n`
abbrev with_n : Shape
with_n = opened (needed (codes "n") IntegerShape NoFieldShapes)

choice_no_default : findings (ScopeOf (codes "A") (AndState (codes "A") (StateOf ending (Choice (record { test = Compare (Name (codes "n") ∷ []) (NumericIs LessThan) (Constant (Integer (pos 0))); next = codes "B" } ∷ []) None)) (AndState (codes "B") (StateOf ending Succeed) NoStates))) (declared_of with_n []) (certificate_of with_n (entry (codes "A") with_n with_n ∷ entry (codes "B") with_n with_n ∷ [])) ≡ finding (codes "A") (codes "Default") NoDefault ∷ []
choice_no_default = refl

-- a Task that ends
abbrev one_task : List ℕ → Scope
one_task n = ScopeOf n (AndState n (StateOf ending (Task (codes "r"))) NoStates)

-- a Parallel of two Tasks, and a Pass that takes one of their answers
abbrev two_tasks : ℕ → Scope
two_tasks i = ScopeOf (codes "P") (AndState (codes "N") (StateOf (record (bare None) { input_path = Some (Index i ∷ []) }) (Pass None)) (AndState (codes "P") (StateOf (going_to (codes "N")) (Parallel (AndScope (one_task (codes "T0")) (AndScope (one_task (codes "T1")) NoScopes)))) NoStates))

-- the answers of both
abbrev both_answers : Shape
both_answers = ArrayShape (AndShape IntegerShape (AndShape StringShape NoShapes)) Never

-- the findings, by the position that the Pass takes, the certified input of the second Task, and what the machine gives
abbrev two_tasks_findings : ℕ → Shape → List Finding
two_tasks_findings i second = findings (two_tasks i) (declared_of IntegerShape (task (codes "T0") Any IntegerShape ∷ task (codes "T1") Any StringShape ∷ [])) (certificate_of StringShape (entry (codes "N") both_answers StringShape ∷ (codes "P", record { input = IntegerShape; output = both_answers; branches = IntegerShape ∷ StringShape ∷ []; item = None }) ∷ entry (codes "T0") IntegerShape IntegerShape ∷ entry (codes "T1") second StringShape ∷ []))

parallel_yes : two_tasks_findings 1 IntegerShape ≡ []
parallel_yes = refl

parallel_past_end : two_tasks_findings 2 IntegerShape ≡ shown (codes "N") (codes "InputPath") PathMayBeMissing (Array (trees_of (nought ∷ no_text ∷ []))) ∷ []
parallel_past_end = refl

parallel_branch : two_tasks_findings 1 Never ≡ shown (codes "P") (codes "Branches") BranchInput nought ∷ []
parallel_branch = refl

-- one Task, and one whose payload isn't what it takes
task_yes : findings (one_task (codes "A")) (declared_of Any (task (codes "A") Any Any ∷ [])) (certificate_of Any (entry (codes "A") Any Any ∷ [])) ≡ []
task_yes = refl

abbrev keeps_input : Settings
keeps_input = record (bare None) { result_path = None }

task_payload : findings (ScopeOf (codes "A") (AndState (codes "A") (StateOf keeps_input (Task (codes "r"))) NoStates)) (declared_of IntegerShape (task (codes "A") StringShape Any ∷ [])) (certificate_of IntegerShape (entry (codes "A") IntegerShape IntegerShape ∷ [])) ≡ shown (codes "A") (codes "Parameters") PayloadNotTaken nought ∷ []
task_payload = refl

-- A finding stands whatever other findings stand: what a Task gives, a literal and the list of a Parallel's answers are
-- compared also where `Parameters` or `InputPath` may name nothing.

-- a state of that type whose `Parameters` looks up a field, with the entry of a state that has no children
abbrev looking_up : Kind → Scope
looking_up kind = ScopeOf (codes "A") (AndState (codes "A") (StateOf (record (bare None) { parameters = Some (ObjectTemplate (AndFieldTemplate (codes "x") (FromPath (InInput k)) NoFieldTemplates)) }) kind) NoStates)

-- its findings where the input has no such field and the output is certified as a text
abbrev looking_up_findings : Kind → List (List ℕ × TaskShapes) → List Finding
looking_up_findings kind tasks = findings (looking_up kind) (declared_of (closed NoFieldShapes) tasks) (certificate_of StringShape (entry (codes "A") (closed NoFieldShapes) StringShape ∷ []))

-- what may be missing, and an output that isn't as certified, as the tree shows, at the end of the scope
abbrev missing_and_not_certified : Tree → List Finding
missing_and_not_certified t = shown (codes "A") (codes "Parameters") PathMayBeMissing no_fields ∷ shown (codes "A") (codes "OutputPath") OutputNotCertified t ∷ shown (codes "A") (codes "End") ScopeOutput t ∷ []

task_missing_and_not_certified : looking_up_findings (Task (codes "r")) (task (codes "A") Any IntegerShape ∷ []) ≡ missing_and_not_certified nought
task_missing_and_not_certified = refl

literal_missing_and_not_certified : looking_up_findings (Pass (Some (Integer (pos 7)))) [] ≡ missing_and_not_certified nought
literal_missing_and_not_certified = refl

parallel_missing_and_not_certified : looking_up_findings (Parallel NoScopes) [] ≡ missing_and_not_certified no_elements
parallel_missing_and_not_certified = refl

-- the output of a Pass without a literal is what may be missing
input_missing : looking_up_findings (Pass None) [] ≡ shown (codes "A") (codes "Parameters") PathMayBeMissing no_fields ∷ []
input_missing = refl

-- a Choice without rules and without `Default`, whose `InputPath` may name nothing: whether two rules stand for the
-- `Default` hangs on the effective input
no_default_missing : findings (ScopeOf (codes "A") (AndState (codes "A") (StateOf (record (bare None) { input_path = Some k }) (Choice [] None)) NoStates)) of_integers (certificate_of Any (entry (codes "A") IntegerShape Any ∷ [])) ≡ shown (codes "A") (codes "InputPath") PathMayBeMissing nought ∷ []
no_default_missing = refl

-- a Task that catches all errors for a Pass
abbrev catching : Scope
catching = ScopeOf (codes "T") (AndState (codes "E") (StateOf ending (Pass None)) (AndState (codes "T") (StateOf (record (bare None) { catchers = bare_catcher (codes "States.ALL" ∷ []) (Some []) (codes "E") ∷ [] }) (Task (codes "r"))) NoStates))

-- its findings, by what the Pass takes and by the declared tasks
abbrev catching_findings : Shape → List (List ℕ × TaskShapes) → List Finding
catching_findings caught tasks = findings catching (declared_of Any tasks) (certificate_of Any (entry (codes "E") caught Any ∷ entry (codes "T") Any Any ∷ []))

-- an error without a name and without a cause
abbrev no_error : Tree
no_error = Object (fields_of ((codes "Cause", no_text) ∷ (codes "Error", no_text) ∷ []))

catch_input : catching_findings IntegerShape (task (codes "T") Any Any ∷ []) ≡ shown (codes "T") (codes "Catch") CatchInput no_error ∷ []
catch_input = refl

catch_undeclared : catching_findings IntegerShape [] ≡ finding (codes "T") (codes "Resource") TaskUndeclared ∷ shown (codes "T") (codes "Catch") CatchInput no_error ∷ []
catch_undeclared = refl

-- the error's name and its cause are there, as texts, and nothing else
catch_yes : catching_findings (closed (needed (codes "Cause") StringShape (needed (codes "Error") StringShape NoFieldShapes))) (task (codes "T") Any Any ∷ []) ≡ []
catch_yes = refl

-- a Wait for as many seconds as its input says
abbrev waiting_findings : Shape → List Finding
waiting_findings input = findings (ScopeOf (codes "A") (AndState (codes "A") (StateOf ending (Wait (SecondsPath []))) NoStates)) (declared_of input []) (certificate_of input (entry (codes "A") input input ∷ []))

wait_text : waiting_findings StringShape ≡ finding (codes "A") (codes "SecondsPath") WrongKind ∷ []
wait_text = refl

wait_yes : waiting_findings IntegerShape ≡ []
wait_yes = refl

-- a Map that hands on each item with its number
abbrev mapping : Scope
mapping = ScopeOf (codes "M") (AndState (codes "M") (StateOf ending (Map [] (Some (ObjectTemplate (AndFieldTemplate (codes "i") (FromPath ItemIndex) (AndFieldTemplate (codes "v") (FromPath (InItem [])) NoFieldTemplates)))) (one_task (codes "Q")))) NoStates)

-- a list of integers, and an item with its number
abbrev integers : Shape
integers = ArrayShape NoShapes IntegerShape

abbrev numbered : Shape
numbered = closed (needed (codes "i") IntegerShape (needed (codes "v") IntegerShape NoFieldShapes))

abbrev mapping_findings : Option Shape → List Finding
mapping_findings item = findings mapping (declared_of integers (task (codes "Q") numbered StringShape ∷ [])) (certificate_of (ArrayShape NoShapes StringShape) ((codes "M", record { input = integers; output = ArrayShape NoShapes StringShape; branches = []; item = item }) ∷ entry (codes "Q") numbered StringShape ∷ []))

map_yes : mapping_findings (Some StringShape) ≡ []
map_yes = refl

map_no_item : mapping_findings None ≡ finding (codes "M") (codes "states") NotCertified ∷ []
map_no_item = refl

map_item : mapping_findings (Some Never) ≡ shown (codes "Q") (codes "End") ScopeOutput no_text ∷ []
map_item = refl

-- a child's output at the place of each first element, and for each further one if there can be one
map_results : (map_result StringShape (AndShape IntegerShape (AndShape Any NoShapes)) Never ≡ pair StringShape StringShape Never) × (map_result StringShape (AndShape IntegerShape NoShapes) Any ≡ one_then StringShape StringShape)
map_results = (refl, refl)

-- a Map whose `ItemSelector` may find nothing; the list of its children's answers isn't as certified either
selector_missing : findings (ScopeOf (codes "M") (AndState (codes "M") (StateOf ending (Map [] (Some (ObjectTemplate (AndFieldTemplate (codes "x") (FromPath (InInput k)) NoFieldTemplates))) (one_task (codes "Q")))) NoStates)) (declared_of integers (task (codes "Q") Any StringShape ∷ [])) (certificate_of Any ((codes "M", record { input = integers; output = StringShape; branches = []; item = Some StringShape }) ∷ entry (codes "Q") Any StringShape ∷ [])) ≡ shown (codes "M") (codes "ItemSelector") PathMayBeMissing no_elements ∷ shown (codes "M") (codes "OutputPath") OutputNotCertified no_elements ∷ []
selector_missing = refl

-- Membership

abbrev fields : List (List ℕ × Tree) → Tree
fields fs = Object (fields_of fs)

abbrev elements : List Tree → Tree
elements ts = Array (trees_of ts)

abbrev seven : Tree
seven = Integer (pos 7)

abbrev text : Tree
text = Text (codes "x")

-- there are as many elements as first shapes, or more, and each has its own shape
first_elements : map (has (pair IntegerShape StringShape Never)) (elements (seven ∷ text ∷ []) ∷ elements (seven ∷ []) ∷ elements [] ∷ elements (text ∷ seven ∷ []) ∷ elements (seven ∷ text ∷ text ∷ []) ∷ seven ∷ [])
    ≡ true ∷ false ∷ false ∷ false ∷ false ∷ false ∷ []
first_elements = refl

-- each further element has the shape of the rest
further_elements : map (has (one_then IntegerShape StringShape)) (elements (seven ∷ []) ∷ elements (seven ∷ text ∷ text ∷ []) ∷ elements (seven ∷ text ∷ seven ∷ []) ∷ elements (seven ∷ seven ∷ text ∷ []) ∷ [])
    ≡ true ∷ true ∷ false ∷ false ∷ []
further_elements = refl

-- a needed field is there, an optional one may be missing, and each that is there has its shape
abbrev a_and_maybe_b : Bool → Shape
a_and_maybe_b extra = ObjectShape (needed (codes "a") IntegerShape (optional (codes "b") StringShape NoFieldShapes)) extra

fields_in_closed : map (has (a_and_maybe_b false)) (fields ((codes "a", seven) ∷ (codes "b", text) ∷ []) ∷ fields ((codes "a", seven) ∷ []) ∷ fields ((codes "b", text) ∷ []) ∷ fields ((codes "a", text) ∷ []) ∷ fields ((codes "a", seven) ∷ (codes "b", seven) ∷ []) ∷ fields ((codes "a", seven) ∷ (codes "c", seven) ∷ []) ∷ elements [] ∷ [])
    ≡ true ∷ true ∷ false ∷ false ∷ false ∷ false ∷ false ∷ []
fields_in_closed = refl

-- an open shape allows further fields; those that it mentions keep their shapes
fields_in_open : map (has (a_and_maybe_b true)) (fields ((codes "a", seven) ∷ (codes "c", seven) ∷ []) ∷ fields ((codes "a", seven) ∷ (codes "b", seven) ∷ []) ∷ fields ((codes "c", seven) ∷ []) ∷ [])
    ≡ true ∷ false ∷ false ∷ []
fields_in_open = refl

-- of a field that is mentioned twice each mention counts
mentioned_twice : map (has (closed (optional (codes "a") IntegerShape (needed (codes "a") Any NoFieldShapes)))) (fields ((codes "a", seven) ∷ []) ∷ fields ((codes "a", text) ∷ []) ∷ fields [] ∷ [])
    ≡ true ∷ false ∷ false ∷ []
mentioned_twice = refl

-- the shapes of one kind, `Any` and `Never`
kinds_of_trees : (map (has BooleanShape) (Boolean false ∷ Null ∷ []) ≡ true ∷ false ∷ []) × (map (has NullShape) (Null ∷ Boolean false ∷ []) ≡ true ∷ false ∷ []) × (map (has IntegerShape) (seven ∷ text ∷ []) ≡ true ∷ false ∷ []) × (map (has StringShape) (text ∷ seven ∷ []) ≡ true ∷ false ∷ []) × (map (has Any) (Null ∷ elements [] ∷ fields [] ∷ []) ≡ true ∷ true ∷ true ∷ []) × (map (has Never) (Null ∷ elements [] ∷ fields [] ∷ []) ≡ false ∷ false ∷ false ∷ [])
kinds_of_trees = (refl, refl, refl, refl, refl, refl)
