use Rattle.std.proofs.Common.{◌≡◌, List, ◌++◌, length, take}
use Rattle.asl_model.specs.ShapeFlow.{element_doubts, field_doubts}
use Rattle.asl_numbered.specs.Expansion.{AreNumbersOf, AreFieldsOf, Keeps}
use Rattle.asl_template.specs.View.{elements_view, entries_view}
use Rattle.asl_flow.specs.Sources.{input_of, item_of, IsWithin}
use Rattle.asl_flow.specs.TemplateAnswer.{ArePutDown}
use Rattle.asl_flow.proofs.Composed.{shapes_by}
use Rattle.asl_flow.proofs.Filled.{Entry, of_value}
use Rattle.asl_flow.proofs.Needed.{needed_by}
use Rattle.asl_flow.proofs.templates.+template.Given as goal

abbrev pub invariant-element_shapes-loop-element : goal.invariant-element_shapes-loop-element
invariant-element_shapes-loop-element l =
    let input = input_of l.initial.shapes l.sources in
    let item = item_of l.initial.shapes l.sources in
    record {
      keeps : Keeps l.initial.shapes l.shapes;
      within : IsWithin (length l.shapes) l.sources;
      shown : AreNumbersOf l.shapes (shapes_by (of_value input item) (take l.element-index l.elements)) l.numbers.items;
      put : ArePutDown l.shapes l.place.field.now (element_doubts (elements_view (take l.element-index l.elements)) l.place.name.now input item) l.initial.doubts.items l.doubts.items;
    }

abbrev pub invariant-field_shapes-loop-name : goal.invariant-field_shapes-loop-name
invariant-field_shapes-loop-name l =
    let input = input_of l.initial.shapes l.sources in
    let item = item_of l.initial.shapes l.sources in
    record {
      done : List Entry;
      whole : l.fields.entries ≡ done ++ l.name-iterator;
      keeps : Keeps l.initial.shapes l.shapes;
      within : IsWithin (length l.shapes) l.sources;
      shown : AreFieldsOf l.shapes (needed_by (of_value input item) done) l.mentions.entries;
      put : ArePutDown l.shapes l.field (field_doubts (entries_view done) input item) l.initial.doubts.items l.doubts.items;
    }
