-- What a call as it is written means, or what is wrong with it.
use Rattle.std.specs.Prelude.{◌≡◌, ℕ, ℤ, List, Bool, Option, Some, None, option_map, Result, Ok, Err, Vec, if◌then◌else◌}
use Rattle.std.specs.declared.alloc.Global.{Global}
use Rattle.std.specs.Borrow.{Bor}
use Rattle.asl_model.specs.Intrinsic as model
use Rattle.asl_model.specs.CallSpelling.{Cut, CallFault, Malformed, BadPath, UnknownFunction, WrittenArgument, WrittenArguments, WrittenCall, WrittenInteger, argument_of, arguments_of, call_or_fault, function_named, know_functions, knows_functions_in}
use Rattle.asl_model.specs.CallGrammar.{IsRefusedCall}
use Rattle.asl_intrinsic.specs.View.{argument_view, arguments_view, view}
use Rattle.asl_intrinsic.specs.declared.CallRefusal.{CallRefusal}
use Rattle.asl_intrinsic.specs.declared.CallRefusal.TheVariants as refusals
use Rattle.asl_intrinsic.specs.declared.call.Arg.{Arg}
use Rattle.asl_intrinsic.specs.declared.call.Call.{Call}
use Rattle.asl_intrinsic.specs.declared.cutting.CutRefusal.{CutRefusal}
use Rattle.asl_intrinsic.specs.declared.cutting.CutRefusal.TheVariants as cuts
use Rattle.asl_intrinsic.specs.declared.cutting.Fault.{Fault}
use Rattle.asl_intrinsic.specs.declared.cutting.Fault.TheVariants as faults

-- the argument, or that a path in it is refused
abbrev pub or_bad_path : {A : Type 0} → Option A → Result A CallFault
or_bad_path None = Err BadPath
or_bad_path (Some a) = Ok a

-- what an argument means
abbrev pub argument_meaning : Bool → WrittenArgument → Result model.Argument CallFault
argument_meaning item a = if knows_functions_in a then or_bad_path (argument_of item a) else Err UnknownFunction

-- what arguments mean
abbrev pub arguments_meaning : Bool → WrittenArguments → Result model.Arguments CallFault
arguments_meaning item arguments = if know_functions arguments then or_bad_path (arguments_of item arguments) else Err UnknownFunction

-- what a call means
abbrev pub call_meaning : Bool → WrittenCall → Result model.Call CallFault
call_meaning item c = call_or_fault item (Some c)

-- a word that means the same with and without leave for paths to an item
abbrev pub IsPlainWord : Option WrittenArgument → Option Arg → Type 0
IsPlainWord word None = word ≡ None
IsPlainWord word (Some a) = (w : WrittenArgument) × (word ≡ Some w) × ((item : Bool) → argument_meaning item w ≡ Ok (argument_view a))

-- a number that was cut off
abbrev pub number_cut : Option (ℤ × Bor (List ℕ)) → Cut WrittenArgument
number_cut = option_map (λ c. (WrittenInteger c.0, c.1.now))

-- ---- what is seen of it

abbrev pub fault_view : Fault → CallFault
fault_view faults.UnknownFunction = UnknownFunction
fault_view faults.BadPath = BadPath

-- what is meant, or what is wrong with it
abbrev pub meant : {A B : Type 0} → (A → B) → Result A Fault → Result B CallFault
meant seen (Ok a) = Ok (seen a)
meant seen (Err fault) = Err (fault_view fault)

abbrev pub argument_seen : Result Arg Fault → Result model.Argument CallFault
argument_seen = meant argument_view

abbrev pub arguments_seen : Result (Vec Arg Global) Fault → Result model.Arguments CallFault
arguments_seen = meant (λ arguments. arguments_view arguments.items)

abbrev pub call_seen : Result Call Fault → Result model.Call CallFault
call_seen = meant view

-- ---- parts together

-- of two faults the one that counts
abbrev pub lesser_fault : CallFault → CallFault → CallFault
lesser_fault Malformed g = Malformed
lesser_fault UnknownFunction Malformed = Malformed
lesser_fault UnknownFunction UnknownFunction = UnknownFunction
lesser_fault UnknownFunction BadPath = UnknownFunction
lesser_fault BadPath g = g

-- the arguments with one more behind them
abbrev pub and_last : model.Arguments → model.Argument → model.Arguments
and_last model.NoArguments a = model.AndArgument a model.NoArguments
and_last (model.AndArgument b others) a = model.AndArgument b (and_last others a)

-- so what they mean
abbrev pub and_meaning : Result model.Arguments CallFault → Result model.Argument CallFault → Result model.Arguments CallFault
and_meaning (Ok front) (Ok a) = Ok (and_last front a)
and_meaning (Ok front) (Err fault) = Err fault
and_meaning (Err fault) (Ok a) = Err fault
and_meaning (Err fault) (Err other) = Err (lesser_fault fault other)

-- what the call of a function on arguments means
abbrev pub call_on : Option model.Function → Result model.Arguments CallFault → Result model.Call CallFault
call_on None arguments = Err UnknownFunction
call_on (Some function) (Ok arguments) = Ok (model.CallOf function arguments)
call_on (Some function) (Err fault) = Err fault

-- so for the function of that name
abbrev pub function_meaning : List ℕ → Result model.Arguments CallFault → Result model.Call CallFault
function_meaning name arguments = call_on (function_named name) arguments

-- what a call means as an argument
abbrev pub nested_meaning : Result model.Call CallFault → Result model.Argument CallFault
nested_meaning (Ok call) = Ok (model.CallArgument call)
nested_meaning (Err fault) = Err fault

-- ---- refusals

abbrev pub refusal_of_cut : CutRefusal → CallRefusal
refusal_of_cut cuts.Malformed = refusals.Malformed
refusal_of_cut cuts.OutOfMemory = refusals.OutOfMemory

abbrev pub refusal_of_fault : Fault → CallRefusal
refusal_of_fault faults.UnknownFunction = refusals.UnknownFunction
refusal_of_fault faults.BadPath = refusals.BadPath

-- the text is refused so; want of memory says nothing of it
abbrev pub IsRefused : Bool → List ℕ → CallRefusal → Type 0
IsRefused item text refusals.Malformed = IsRefusedCall item text Malformed
IsRefused item text refusals.UnknownFunction = IsRefusedCall item text UnknownFunction
IsRefused item text refusals.BadPath = IsRefusedCall item text BadPath
IsRefused item text refusals.OutOfMemory = Unit {0}
