-- What is wrong with a state's entry, by the parts in which it is read.
use Rattle.std.proofs.Common.{◌≡◌, ℕ, List, [], ◌++◌, codes, Some, option_map, true, false, refl, ◌∙◌}
use Rattle.serde_json.specs.Data.{Data, Members}
use Rattle.serde_json.specs.Find.{as_object, get_member}
use Rattle.asl_model.specs.Records.{Reading, RecordComplaint, object_complaints, state_rows, shape_from, state_from}
use Rattle.asl_model.specs.Certificate.{StateShapes}
use Rattle.asl_records.specs.Parts.{TellsOneOf, field_complaints, foreign_complaints, shape_row, shape_there, shapes_row, shapes_there}
use Rattle.asl_records.specs.declared.refusals.ReadFault.{ReadFault}
use Rattle.asl_records.proofs.Objects.{names_of, rows_told_of, shown}
use Rattle.asl_records.proofs.Telling.{told_left, told_right}

-- where shapes are read so
module _ (reading : Reading) where
  -- about each of its fields
  abbrev pub of_input : List ℕ → Members → List RecordComplaint
  of_input name ms = field_complaints reading name (shape_row (codes "input") true) (get_member (codes "input") ms)

  abbrev pub of_output : List ℕ → Members → List RecordComplaint
  of_output name ms = field_complaints reading name (shape_row (codes "output") true) (get_member (codes "output") ms)

  abbrev pub of_branches : List ℕ → Members → List RecordComplaint
  of_branches name ms = field_complaints reading name (shapes_row (codes "branches")) (get_member (codes "branches") ms)

  abbrev pub of_item : List ℕ → Members → List RecordComplaint
  of_item name ms = field_complaints reading name (shape_row (codes "item") false) (get_member (codes "item") ms)

  -- what stands in them
  abbrev pub read_from : Members → StateShapes
  read_from ms = record {
    input = shape_there reading.listed (get_member (codes "input") ms);
    output = shape_there reading.listed (get_member (codes "output") ms);
    branches = shapes_there reading.listed (get_member (codes "branches") ms);
    item = option_map (shape_from reading.listed) (get_member (codes "item") ms);
  }

  pub stands_for : (v : Data) (ms : Members) → as_object v ≡ Some ms → read_from ms ≡ state_from reading.listed v
  stands_for v ms is = rw is refl

  -- where no part has a complaint, there is none
  pub none_wrong : (name : List ℕ) (v : Data) (ms : Members) → as_object v ≡ Some ms → foreign_complaints name (names_of state_rows) ms ≡ [] → of_input name ms ≡ [] → of_output name ms ≡ [] → of_branches name ms ≡ [] → of_item name ms ≡ [] → object_complaints reading name state_rows v ≡ []
  none_wrong name v ms is others input output branches item = shown reading name state_rows v ms is ∙ rw (input, output, branches, item, others) refl

  -- what is told of a part is told of the whole
  pub input_told : (name : List ℕ) (v : Data) (ms : Members) (f : ReadFault) → as_object v ≡ Some ms → TellsOneOf (of_input name ms) f → TellsOneOf (object_complaints reading name state_rows v) f
  input_told name v ms f is told =
      rows_told_of reading name state_rows v ms f is
      (told_left f (of_input name ms) (of_output name ms ++ (of_branches name ms ++ (of_item name ms ++ []))) told)

  pub output_told : (name : List ℕ) (v : Data) (ms : Members) (f : ReadFault) → as_object v ≡ Some ms → TellsOneOf (of_output name ms) f → TellsOneOf (object_complaints reading name state_rows v) f
  output_told name v ms f is told =
      rows_told_of reading name state_rows v ms f is
      (told_right f (of_input name ms) (of_output name ms ++ (of_branches name ms ++ (of_item name ms ++ [])))
      (told_left f (of_output name ms) (of_branches name ms ++ (of_item name ms ++ [])) told))

  pub branches_told : (name : List ℕ) (v : Data) (ms : Members) (f : ReadFault) → as_object v ≡ Some ms → TellsOneOf (of_branches name ms) f → TellsOneOf (object_complaints reading name state_rows v) f
  branches_told name v ms f is told =
      rows_told_of reading name state_rows v ms f is
      (told_right f (of_input name ms) (of_output name ms ++ (of_branches name ms ++ (of_item name ms ++ [])))
      (told_right f (of_output name ms) (of_branches name ms ++ (of_item name ms ++ []))
      (told_left f (of_branches name ms) (of_item name ms ++ []) told)))

  pub item_told : (name : List ℕ) (v : Data) (ms : Members) (f : ReadFault) → as_object v ≡ Some ms → TellsOneOf (of_item name ms) f → TellsOneOf (object_complaints reading name state_rows v) f
  item_told name v ms f is told =
      rows_told_of reading name state_rows v ms f is
      (told_right f (of_input name ms) (of_output name ms ++ (of_branches name ms ++ (of_item name ms ++ [])))
      (told_right f (of_output name ms) (of_branches name ms ++ (of_item name ms ++ []))
      (told_right f (of_branches name ms) (of_item name ms ++ [])
      (told_left f (of_item name ms) [] told))))
