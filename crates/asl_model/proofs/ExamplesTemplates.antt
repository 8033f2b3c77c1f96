-- Worked placings, calls, templates and patterns, computed.
use Rattle.std.proofs.Common.{◌≡◌, map, Bool, refl, ℕ, List, [], ◌∷◌, true, false, pos, negsuc, Option, Some, None, Ok, Err, codes}
use Rattle.asl_model.specs.Tree.{Tree, Null, Boolean, Integer, Text, Array, Object, NoTrees, NoFields, AndField, trees_of, fields_of}
use Rattle.asl_model.specs.Path.{Segment, Name, Index}
use Rattle.asl_model.specs.Placing.{placed}
use Rattle.asl_model.specs.Faults.{ParameterPathFailure}
use Rattle.asl_model.specs.Intrinsic.{InInput, ItemIndex, InItem, Call, CallOf, StatesArray, StatesArrayLength, StatesFormat, Argument, NullArgument, BooleanArgument, IntegerArgument, TextArgument, PathArgument, CallArgument, Arguments, NoArguments, AndArgument, format_text, call_value}
use Rattle.asl_model.specs.Template.{Literal, FromPath, FromCall, ArrayTemplate, ObjectTemplate, NoTemplates, AndTemplate, NoFieldTemplates, AndFieldTemplate, template_value}
use Rattle.asl_model.specs.Test.{Relation, Equals, LessThan, GreaterThan, LessThanEquals, GreaterThanEquals, StringIs, NumericIs, BooleanEquals, Constant, AtPath, NullKind, NumericKind, StringKind, BooleanKind, ByteOf, Star, PatternPart, is_cut_by, Test, And, Or, Not, Compare, StringMatches, IsOfKind, IsPresent, Tests, NoTests, AndTest, truth}

abbrev pub whole : ℕ → Tree
whole n = Integer (pos n)

abbrev pub one : List ℕ → Tree → Tree
one n t = Object (AndField n t NoFields)

-- placing 9 in `{"a":[1,2]}`
abbrev pub lists : Tree
lists = one (codes "a") (Array (trees_of (whole 1 ∷ whole 2 ∷ [])))

place_in_list : placed (Name (codes "a") ∷ Index 1 ∷ []) (whole 9) lists ≡ Some (one (codes "a") (Array (trees_of (whole 1 ∷ whole 9 ∷ []))))
place_in_list = refl

place_past_list : placed (Name (codes "a") ∷ Index 2 ∷ []) (whole 9) lists ≡ None
place_past_list = refl

place_in_new_list : placed (Name (codes "b") ∷ Index 0 ∷ []) (whole 9) lists ≡ None
place_in_new_list = refl

-- a field is created in the order of names
place_in_order : placed (Name (codes "b") ∷ []) (whole 9) (Object (fields_of ((codes "a", whole 1) ∷ (codes "c", whole 2) ∷ []))) ≡ Some (Object (fields_of ((codes "a", whole 1) ∷ (codes "b", whole 9) ∷ (codes "c", whole 2) ∷ [])))
place_in_order = refl

-- a field that is there is replaced, wherever it stands
place_out_of_order : placed (Name (codes "a") ∷ []) (whole 9) (Object (fields_of ((codes "c", whole 1) ∷ (codes "a", whole 2) ∷ []))) ≡ Some (Object (fields_of ((codes "a", whole 9) ∷ (codes "c", whole 1) ∷ [])))
place_out_of_order = refl

-- the arguments of a call, from a list
abbrev pub with_arguments : List Argument → Arguments
with_arguments [] = NoArguments
with_arguments (a ∷ as_) = AndArgument a (with_arguments as_)

-- a literal text without a hole
abbrev pub plain : List ℕ → Argument
plain t = TextArgument (record { first = t; after_holes = [] })

abbrev pub called : Call → Tree → Option Tree
called call input = call_value call input None

array_of_four : called (CallOf StatesArray (with_arguments (IntegerArgument (pos 1) ∷ NullArgument ∷ BooleanArgument true ∷ PathArgument (InInput (Name (codes "x") ∷ [])) ∷ []))) (one (codes "x") (one (codes "y") (whole 2))) ≡ Some (Array (trees_of (whole 1 ∷ Null ∷ Boolean true ∷ one (codes "y") (whole 2) ∷ [])))
array_of_four = refl

length_of_two : called (CallOf StatesArrayLength (with_arguments (CallArgument (CallOf StatesArray (with_arguments (IntegerArgument (pos 1) ∷ IntegerArgument (pos 2) ∷ []))) ∷ []))) Null ≡ Some (whole 2)
length_of_two = refl

length_of_text : called (CallOf StatesArrayLength (with_arguments (plain (codes "ab") ∷ []))) Null ≡ None
length_of_text = refl

lone_brace : called (CallOf StatesFormat (with_arguments (plain (codes "{") ∷ []))) Null ≡ Some (Text (codes "{"))
lone_brace = refl

brace_is_no_hole : called (CallOf StatesFormat (with_arguments (plain (codes "{") ∷ IntegerArgument (pos 1) ∷ []))) Null ≡ None
brace_is_no_hole = refl

-- in a text from a path no character is an escape
backslash_stays : called (CallOf StatesFormat (with_arguments (PathArgument (InInput (Name (codes "f") ∷ [])) ∷ IntegerArgument (pos 1) ∷ []))) (one (codes "f") (Text (codes "\\{}"))) ≡ Some (Text (codes "\\1"))
backslash_stays = refl

-- `States.Format('{} of \{}', $.n)`: one hole
abbrev pub of_braces : Argument
of_braces = TextArgument (record { first = []; after_holes = codes " of {}" ∷ [] })

abbrev pub least : Tree
least = one (codes "n") (Integer (negsuc 9223372036854775807))

least_number : called (CallOf StatesFormat (with_arguments (of_braces ∷ PathArgument (InInput (Name (codes "n") ∷ [])) ∷ []))) least ≡ Some (Text (codes "-9223372036854775808 of {}"))
least_number = refl

-- elsewhere than in front of `States.Format`'s values a hole is itself
hole_in_array : called (CallOf StatesArray (with_arguments (TextArgument (record { first = codes "a"; after_holes = codes "b" ∷ [] }) ∷ []))) Null ≡ Some (Array (trees_of (Text (codes "a{}b") ∷ [])))
hole_in_array = refl

-- what stands in place of a hole, by the kind of its value
words : map format_text (Null ∷ Boolean true ∷ Boolean false ∷ whole 70 ∷ Text (codes "a") ∷ Array NoTrees ∷ Object NoFields ∷ []) ≡ Some (codes "null") ∷ Some (codes "true") ∷ Some (codes "false") ∷ Some (codes "70") ∷ Some (codes "a") ∷ None ∷ None ∷ []
words = refl

too_many_arguments : called (CallOf StatesFormat (with_arguments (of_braces ∷ PathArgument (InInput (Name (codes "n") ∷ [])) ∷ PathArgument (InInput (Name (codes "n") ∷ [])) ∷ []))) least ≡ None
too_many_arguments = refl

-- the template `{"a":[{"b.$":"$.x"}],"c":"$.x"}`
filled_at_depth : template_value (ObjectTemplate (AndFieldTemplate (codes "a") (ArrayTemplate (AndTemplate (ObjectTemplate (AndFieldTemplate (codes "b") (FromPath (InInput (Name (codes "x") ∷ []))) NoFieldTemplates)) NoTemplates)) (AndFieldTemplate (codes "c") (Literal (Text (codes "$.x"))) NoFieldTemplates))) (one (codes "x") (whole 1)) None
    ≡ Ok (Object (fields_of ((codes "a", Array (trees_of (one (codes "b") (whole 1) ∷ []))) ∷ (codes "c", Text (codes "$.x")) ∷ [])))
filled_at_depth = refl

-- the template `{"p.$":"$.no","q.$":"States.ArrayLength(1)"}`: the failure of the lesser name counts
first_failure : template_value (ObjectTemplate (AndFieldTemplate (codes "p") (FromPath (InInput (Name (codes "no") ∷ []))) (AndFieldTemplate (codes "q") (FromCall (CallOf StatesArrayLength (with_arguments (IntegerArgument (pos 1) ∷ [])))) NoFieldTemplates))) (Object NoFields) None ≡ Err ParameterPathFailure
first_failure = refl

-- the pattern `a\*b*`
abbrev pub pattern_abc : List PatternPart
pattern_abc = ByteOf 97 ∷ ByteOf 42 ∷ ByteOf 98 ∷ Star ∷ []

pattern_itself : is_cut_by pattern_abc (codes "a*b") ≡ true
pattern_itself = refl

pattern_longer : is_cut_by pattern_abc (codes "a*bc") ≡ true
pattern_longer = refl

pattern_other : is_cut_by pattern_abc (codes "axb") ≡ false
pattern_other = refl

-- tests on an object whose fields are the number 3, the text `b` and true
abbrev pub tested : Tree
tested = Object (fields_of ((codes "flag", Boolean true) ∷ (codes "n", whole 3) ∷ (codes "t", Text (codes "b")) ∷ []))

abbrev pub field : List ℕ → List Segment
field n = Name n ∷ []

abbrev pub number_is : Relation → ℕ → Test
number_is relation n = Compare (field (codes "n")) (NumericIs relation) (Constant (whole n))

abbrev pub text_is : Relation → List ℕ → Test
text_is relation t = Compare (field (codes "t")) (StringIs relation) (Constant (Text t))

abbrev pub undecided : Test
undecided = Compare (field (codes "no")) BooleanEquals (Constant (Boolean true))

abbrev pub two : Test → Test → Tests
two first second = AndTest first (AndTest second NoTests)

-- the answers of a list of tests
abbrev pub answers : List Test → List (Option Bool)
answers tests = map (λ test. truth test tested) tests

numbers_compare : answers (number_is Equals 3 ∷ number_is LessThan 3 ∷ number_is LessThan 4 ∷ number_is GreaterThan 3 ∷ number_is GreaterThan 2 ∷ number_is LessThanEquals 3 ∷ number_is LessThanEquals 2 ∷ number_is GreaterThanEquals 3 ∷ number_is GreaterThanEquals 4 ∷ [])
    ≡ Some true ∷ Some false ∷ Some true ∷ Some false ∷ Some true ∷ Some true ∷ Some false ∷ Some true ∷ Some false ∷ []
numbers_compare = refl

-- texts by bytes: a front of a text comes before it
texts_compare : answers (text_is Equals (codes "b") ∷ text_is LessThan (codes "ba") ∷ text_is LessThan (codes "a") ∷ text_is GreaterThan (codes "B") ∷ text_is LessThanEquals (codes "b") ∷ [])
    ≡ Some true ∷ Some true ∷ Some false ∷ Some true ∷ Some true ∷ []
texts_compare = refl

-- values that are not both of the operator's type compare as false
other_types : answers (Compare (field (codes "n")) (StringIs Equals) (Constant (whole 3)) ∷ Compare (field (codes "t")) (NumericIs LessThanEquals) (Constant (whole 3)) ∷ Compare (field (codes "flag")) BooleanEquals (Constant (Boolean true)) ∷ Compare (field (codes "flag")) BooleanEquals (Constant (Boolean false)) ∷ Compare (field (codes "n")) BooleanEquals (Constant (Boolean true)) ∷ [])
    ≡ Some false ∷ Some false ∷ Some true ∷ Some false ∷ Some false ∷ []
other_types = refl

-- an operand that is looked up
operand_at_path : answers (Compare (field (codes "n")) (NumericIs Equals) (AtPath (field (codes "n"))) ∷ Compare (field (codes "n")) (NumericIs Equals) (AtPath (field (codes "t"))) ∷ Compare (field (codes "n")) (NumericIs Equals) (AtPath (field (codes "no"))) ∷ [])
    ≡ Some true ∷ Some false ∷ None ∷ []
operand_at_path = refl

kinds : answers (IsOfKind (field (codes "n")) NumericKind true ∷ IsOfKind (field (codes "n")) NumericKind false ∷ IsOfKind (field (codes "t")) StringKind true ∷ IsOfKind (field (codes "flag")) BooleanKind true ∷ IsOfKind (field (codes "t")) NullKind true ∷ IsOfKind (field (codes "t")) NullKind false ∷ IsOfKind (field (codes "no")) NullKind true ∷ [])
    ≡ Some true ∷ Some false ∷ Some true ∷ Some true ∷ Some false ∷ Some true ∷ None ∷ []
kinds = refl

-- `IsPresent` is always decided
presence : answers (IsPresent (field (codes "n")) true ∷ IsPresent (field (codes "n")) false ∷ IsPresent (field (codes "no")) true ∷ IsPresent (field (codes "no")) false ∷ [])
    ≡ Some true ∷ Some false ∷ Some false ∷ Some true ∷ []
presence = refl

-- a value that isn't a text doesn't match
patterns : answers (StringMatches (field (codes "t")) (Star ∷ []) ∷ StringMatches (field (codes "n")) (Star ∷ []) ∷ StringMatches (field (codes "no")) (Star ∷ []) ∷ [])
    ≡ Some true ∷ Some false ∷ None ∷ []
patterns = refl

-- `And` is decided by its first part that isn't true
conjunctions : answers (And (two (number_is Equals 3) (text_is Equals (codes "b"))) ∷ And (two (number_is Equals 3) undecided) ∷ And (two (number_is Equals 4) undecided) ∷ And (two undecided (number_is Equals 4)) ∷ And (two (IsPresent (field (codes "no")) true) undecided) ∷ [])
    ≡ Some true ∷ None ∷ Some false ∷ None ∷ Some false ∷ []
conjunctions = refl

-- `Or` by its first part that isn't false
disjunctions : answers (Or (two (number_is Equals 4) (text_is Equals (codes "b"))) ∷ Or (two (number_is Equals 3) undecided) ∷ Or (two (number_is Equals 4) undecided) ∷ Or (two undecided (number_is Equals 3)) ∷ Or (two (number_is Equals 4) (number_is Equals 5)) ∷ [])
    ≡ Some true ∷ Some true ∷ None ∷ None ∷ Some false ∷ []
disjunctions = refl

negations : answers (Not (number_is Equals 3) ∷ Not (number_is Equals 4) ∷ Not undecided ∷ [])
    ≡ Some false ∷ Some true ∷ None ∷ []
negations = refl

-- `States.ArrayLength` takes one argument
length_of_two_arguments : called (CallOf StatesArrayLength (with_arguments (PathArgument (InInput []) ∷ PathArgument (InInput []) ∷ []))) (Array NoTrees) ≡ None
length_of_two_arguments = refl

length_of_one_argument : called (CallOf StatesArrayLength (with_arguments (PathArgument (InInput []) ∷ []))) (Array NoTrees) ≡ Some (whole 0)
length_of_one_argument = refl

length_of_no_argument : called (CallOf StatesArrayLength NoArguments) (Array NoTrees) ≡ None
length_of_no_argument = refl

-- an item's number and value, with an item and without one
abbrev pub number_and_value : Call
number_and_value = CallOf StatesArray (with_arguments (PathArgument ItemIndex ∷ PathArgument (InItem []) ∷ []))

with_an_item : call_value number_and_value Null (Some (record { number = pos 3; value = whole 9 })) ≡ Some (Array (trees_of (whole 3 ∷ whole 9 ∷ [])))
with_an_item = refl

without_an_item : called (CallOf StatesArray (with_arguments (PathArgument ItemIndex ∷ []))) Null ≡ None
without_an_item = refl

-- a hole takes no array and no object; `{{}}` from a path is a hole between braces
hole_takes_no_array : called (CallOf StatesFormat (with_arguments (of_braces ∷ PathArgument (InInput []) ∷ []))) (Array NoTrees) ≡ None
hole_takes_no_array = refl

hole_takes_no_object : called (CallOf StatesFormat (with_arguments (of_braces ∷ PathArgument (InInput []) ∷ []))) (Object NoFields) ≡ None
hole_takes_no_object = refl

hole_between_braces : called (CallOf StatesFormat (with_arguments (PathArgument (InInput []) ∷ IntegerArgument (pos 1) ∷ []))) (Text (codes "{{}}")) ≡ Some (Text (codes "{1}"))
hole_between_braces = refl

-- texts compare by bytes: `é` comes behind `z`
bytes_compare : (truth (Compare [] (StringIs GreaterThan) (Constant (Text (codes "z")))) (Text (195 ∷ 169 ∷ [])) ≡ Some true) × (truth (Compare [] (StringIs LessThan) (Constant (Text (codes "z")))) (Text (195 ∷ 169 ∷ [])) ≡ Some false)
bytes_compare = (refl, refl)

-- `StringLessThanEquals` and `StringGreaterThanEquals` hold of equal texts; `StringLessThan` and `StringGreaterThan` don't
equal_texts_compare : answers (text_is LessThanEquals (codes "b") ∷ text_is GreaterThanEquals (codes "b") ∷ text_is LessThan (codes "b") ∷ text_is GreaterThan (codes "b") ∷ [])
    ≡ Some true ∷ Some true ∷ Some false ∷ Some false ∷ []
equal_texts_compare = refl
