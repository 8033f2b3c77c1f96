-- The calls and items of the definitions that those of the code stand for.
use Rattle.std.specs.Prelude.{List, [], ◌∷◌, map, Option, option_map, string_bytes}
use Rattle.asl_model.specs.Intrinsic as model
use Rattle.asl_tree.specs.View as trees
use Rattle.asl_intrinsic.specs.declared.call.Call.{Call, fold-Call}
use Rattle.asl_intrinsic.specs.declared.call.Arg.TheOpen.{Arg-F, Call-F}
use Rattle.asl_intrinsic.specs.declared.call.Arg.{Arg, fold-Arg}
use Rattle.asl_intrinsic.specs.declared.call.Pieces.{Pieces}
use Rattle.asl_intrinsic.specs.declared.Item.{Item}

-- the pieces of a text
abbrev pub pieces_view : Pieces → model.Pieces
pieces_view pieces = record { first = string_bytes pieces.first; after_holes = map string_bytes pieces.after_holes.items }

-- the arguments of a list, as those of a call
abbrev pub arguments_of : List model.Argument → model.Arguments
arguments_of [] = model.NoArguments
arguments_of (a ∷ as_) = model.AndArgument a (arguments_of as_)

-- one level of an argument, with a call inside already seen
abbrev pub argument_step : Arg-F model.Argument model.Call → model.Argument
argument_step Arg-F.Null = model.NullArgument
argument_step (Arg-F.Bool b) = model.BooleanArgument b
argument_step (Arg-F.Int n) = model.IntegerArgument n
argument_step (Arg-F.Text pieces) = model.TextArgument (pieces_view pieces)
argument_step (Arg-F.Path p) = model.PathArgument (model.InInput p)
argument_step Arg-F.ItemIndex = model.PathArgument model.ItemIndex
argument_step (Arg-F.ItemValue p) = model.PathArgument (model.InItem p)
argument_step (Arg-F.Call c) = model.CallArgument c

-- one level of a call, with each argument inside already seen
abbrev pub call_step : Call-F model.Argument model.Call → model.Call
call_step (Call-F.Array arguments) = model.CallOf model.StatesArray (arguments_of arguments.items)
call_step (Call-F.ArrayLength arguments) = model.CallOf model.StatesArrayLength (arguments_of arguments.items)
call_step (Call-F.Format arguments) = model.CallOf model.StatesFormat (arguments_of arguments.items)

-- the call
abbrev pub view : Call → model.Call
view = fold-Call model.Argument model.Call argument_step call_step

-- the argument
abbrev pub argument_view : Arg → model.Argument
argument_view = fold-Arg model.Argument model.Call argument_step call_step

-- the arguments of a call
abbrev pub arguments_view : List Arg → model.Arguments
arguments_view arguments = arguments_of (map argument_view arguments)

-- the item at hand
abbrev pub item_view : Item → model.Item
item_view item = record { number = item.index; value = trees.view item.value.now }

-- so, where there is one
abbrev pub at_hand : Option Item → Option model.Item
at_hand = option_map item_view
