-- What the rows of the code's table stand for in the definitions.
use Rattle.std.specs.Prelude.{ℕ, List, [], ◌∷◌, map, Option, Some, None, bytes_eq, if◌then◌else◌}
use Rattle.std.specs.Option.{option_or}
use Rattle.asl_model.specs.DefinitionTable as model
use Rattle.asl_fields.specs.declared.rows.Wanted.{Wanted}
use Rattle.asl_fields.specs.declared.rows.Wanted.TheVariants as wanted
use Rattle.asl_fields.specs.declared.rows.Row.{Row}
use Rattle.asl_fields.specs.declared.rows.StateType.{StateType}
use Rattle.asl_fields.specs.declared.rows.StateType.TheVariants as code

abbrev pub wanted_view : Wanted → model.Wanted
wanted_view wanted.Text = model.TextValue
wanted_view wanted.Positive = model.PositiveValue
wanted_view wanted.Count = model.CountValue
wanted_view wanted.Number = model.NumberValue
wanted_view wanted.Truth = model.TruthValue
wanted_view wanted.Language = model.LanguageValue
wanted_view wanted.Path = model.PathValue
wanted_view wanted.PathOrNull = model.PathOrNullValue
wanted_view wanted.Template = model.TemplateValue
wanted_view wanted.ItemTemplate = model.ItemTemplateValue
wanted_view wanted.Any = model.AnyValue
wanted_view wanted.Config = model.ConfigValue
wanted_view wanted.States = model.StatesValue
wanted_view wanted.Scope = model.ScopeValue
wanted_view wanted.Scopes = model.ScopesValue
wanted_view wanted.Rules = model.RulesValue
wanted_view wanted.Names = model.NamesValue
wanted_view wanted.Retriers = model.RetriersValue
wanted_view wanted.Catchers = model.CatchersValue

abbrev pub row_view : Row → model.Row
row_view row = record { field = row.name.now; wanted = wanted_view row.wanted; required = row.required }

abbrev pub rows_view : List Row → List model.Row
rows_view rows = map row_view rows

abbrev pub type_view : StateType → model.StateType
type_view code.Pass = model.PassState
type_view code.Task = model.TaskState
type_view code.Choice = model.ChoiceState
type_view code.Wait = model.WaitState
type_view code.Succeed = model.SucceedState
type_view code.Fail = model.FailState
type_view code.Parallel = model.ParallelState
type_view code.Map = model.MapState

-- ---- the value of a field, by its name alone

-- what it has to be by the first of the rows with that name
abbrev pub wanted_among : List ℕ → List model.Row → Option model.Wanted
wanted_among n [] = None
wanted_among n (row ∷ rows) = if bytes_eq row.field n then Some row.wanted else wanted_among n rows

-- by the first of the tables that has such a row
abbrev pub wanted_in : List ℕ → List (List model.Row) → Option model.Wanted
wanted_in n [] = None
wanted_in n (rows ∷ tables) = option_or (wanted_among n rows) (wanted_in n tables)

-- the tables of the fields of all objects of a definition
abbrev pub every_table : List (List model.Row)
every_table =
    model.machine_rows ∷ model.branch_rows ∷ model.processor_rows
    ∷ model.rows_of model.PassState ∷ model.rows_of model.TaskState ∷ model.rows_of model.ChoiceState
    ∷ model.rows_of model.WaitState ∷ model.rows_of model.SucceedState ∷ model.rows_of model.FailState
    ∷ model.rows_of model.ParallelState ∷ model.rows_of model.MapState
    ∷ model.retrier_rows ∷ model.catcher_rows ∷ []
