-- Worked examples of the spelling of calls.
use Rattle.std.specs.Prelude.{◌≡◌, ℕ, pos, negsuc, List, [], ◌∷◌, ◌++◌, true, false, zero, suc, Ok, Err, codes, refl}
use Rattle.asl_model.specs.Path.{Name, Index}
use Rattle.asl_model.specs.Intrinsic.{InInput, ItemIndex, InItem, StatesArray, StatesArrayLength, StatesFormat, CallOf, NullArgument, BooleanArgument, IntegerArgument, TextArgument, PathArgument, CallArgument, NoArguments, AndArgument}
use Rattle.asl_model.specs.CallSpelling.{call_from, Malformed, UnknownFunction, BadPath}

no_arguments : call_from false (codes "States.Array()") ≡ Ok (CallOf StatesArray NoArguments)
no_arguments = refl

spaces_between_parentheses : call_from false (codes "States.Array(  )") ≡ Ok (CallOf StatesArray NoArguments)
spaces_between_parentheses = refl

spaces_round_arguments : call_from false (codes "States.Array( 1 , null,true,$.x)") ≡ Ok (CallOf StatesArray (AndArgument (IntegerArgument (pos 1)) (AndArgument NullArgument (AndArgument (BooleanArgument true) (AndArgument (PathArgument (InInput (Name (codes "x") ∷ []))) NoArguments)))))
spaces_round_arguments = refl

nested_call : call_from false (codes "States.ArrayLength(States.Array(1,-2))") ≡ Ok (CallOf StatesArrayLength (AndArgument (CallArgument (CallOf StatesArray (AndArgument (IntegerArgument (pos 1)) (AndArgument (IntegerArgument (negsuc 1)) NoArguments)))) NoArguments))
nested_call = refl

text_with_a_hole : call_from false (codes "States.Format('{} of \\{}', $.n)") ≡ Ok (CallOf StatesFormat (AndArgument (TextArgument (record { first = []; after_holes = codes " of {}" ∷ [] })) (AndArgument (PathArgument (InInput (Name (codes "n") ∷ []))) NoArguments)))
text_with_a_hole = refl

lone_braces : call_from false (codes "States.Format('{ } a{')") ≡ Ok (CallOf StatesFormat (AndArgument (TextArgument (record { first = codes "{ } a{"; after_holes = [] })) NoArguments))
lone_braces = refl

escapes : call_from false (codes "States.Array('\\'\\\\\\}')") ≡ Ok (CallOf StatesArray (AndArgument (TextArgument (record { first = codes "'\\}"; after_holes = [] })) NoArguments))
escapes = refl

comma_in_quotes : call_from false (codes "States.Array($['a,b'])") ≡ Ok (CallOf StatesArray (AndArgument (PathArgument (InInput (Name (codes "a,b") ∷ []))) NoArguments))
comma_in_quotes = refl

minus_zero : call_from false (codes "States.Array(-0)") ≡ Ok (CallOf StatesArray (AndArgument (IntegerArgument (pos 0)) NoArguments))
minus_zero = refl

least_number : call_from false (codes "States.Array(-9223372036854775808)") ≡ Ok (CallOf StatesArray (AndArgument (IntegerArgument (negsuc 9223372036854775807)) NoArguments))
least_number = refl

item_index : call_from true (codes "States.Array($$.Map.Item.Index)") ≡ Ok (CallOf StatesArray (AndArgument (PathArgument ItemIndex) NoArguments))
item_index = refl

item_value : call_from true (codes "States.Array($$.Map.Item.Value.a[1])") ≡ Ok (CallOf StatesArray (AndArgument (PathArgument (InItem (Name (codes "a") ∷ Index 1 ∷ []))) NoArguments))
item_value = refl

unknown_function : call_from false (codes "States.UUID()") ≡ Err UnknownFunction
unknown_function = refl

unclosed_call : call_from false (codes "States.Array(1") ≡ Err Malformed
unclosed_call = refl

bad_path : call_from false (codes "States.Array($.a..b)") ≡ Err BadPath
bad_path = refl

name_of_a_digit : call_from false (codes "States.Array(1(2))") ≡ Err UnknownFunction
name_of_a_digit = refl

no_name : call_from false (codes "(1)") ≡ Err Malformed
no_name = refl

unclosed_quote : call_from false (codes "States.Array($['a)") ≡ Err Malformed
unclosed_quote = refl

space_before : call_from false (codes " States.Array()") ≡ Err Malformed
space_before = refl

space_behind : call_from false (codes "States.Array() ") ≡ Err Malformed
space_behind = refl

space_before_parenthesis : call_from false (codes "States.Array ()") ≡ Err Malformed
space_before_parenthesis = refl

trailing_comma : call_from false (codes "States.Array(1,)") ≡ Err Malformed
trailing_comma = refl

number_too_large : call_from false (codes "States.Array(9223372036854775808)") ≡ Err Malformed
number_too_large = refl

leading_zero : call_from false (codes "States.Array(01)") ≡ Err Malformed
leading_zero = refl

other_escape : call_from false (codes "States.Array('\\n')") ≡ Err Malformed
other_escape = refl

unknown_before_bad_path : call_from false (codes "States.UUID($.a..b)") ≡ Err UnknownFunction
unknown_before_bad_path = refl

item_not_allowed : call_from false (codes "States.Array($$.Map.Item.Index)") ≡ Err BadPath
item_not_allowed = refl

into_the_index : call_from true (codes "States.Array($$.Map.Item.Index.x)") ≡ Err BadPath
into_the_index = refl

other_context : call_from true (codes "States.Array($$.Execution.Id)") ≡ Err BadPath
other_context = refl

-- calls nest at most 32 deep, the outer one counted
nested_arrays : ℕ → List ℕ
nested_arrays zero = []
nested_arrays (suc n) = codes "States.Array(" ++ (nested_arrays n ++ codes ")")

deepest : call_from false (nested_arrays 33) ≡ Err Malformed
unfolding nested_arrays
deepest = refl
