-- The steps of a Map, on shapes of a table.
use Rattle.std.specs.Prelude.{ℕ, List, codes, option_map}
use Rattle.asl_model.specs.Edges as model
use Rattle.asl_model.specs.Finding.{array_parts, element_shape, item_flow}
use Rattle.asl_model.specs.Machine.{Scope}
use Rattle.asl_model.specs.Path.{Segment}
use Rattle.asl_model.specs.Shape.{Shape, Shapes}
use Rattle.asl_model.specs.ShapeFlow.{found}
use Rattle.asl_numbered.specs.Expansion.{shape_at}
use Rattle.asl_states.specs.Machine.{started_at}
use Rattle.asl_template.specs.View as templates
use Rattle.asl_state_edges.specs.Entry.{entry_view}
use Rattle.asl_state_edges.specs.Steps.{settings_of, kind_of, input_of}
use Rattle.asl_state_edges.specs.declared.items.Children.{Children}
use Rattle.asl_state_edges.specs.declared.walking.Walk.{Walk}

-- the processor, without its states
abbrev pub processor_of : Children → Scope
processor_of children = started_at children.processor.now

-- a child's input for the elements
abbrev pub item_steps : List Shape → Children → Shapes × Shape → List model.Walked
item_steps table children elements =
    model.walk_then (model.to_child (codes "ItemProcessor") (processor_of children))
    (item_flow (option_map templates.view children.selector.now) (shape_at table children.effective)
    (element_shape elements.0 elements.1))

-- the list of what the children give
abbrev pub outputs_steps : List Shape → Walk → Shapes × Shape → List model.Walked
outputs_steps table walk elements =
    model.walk_items_result (settings_of walk) (kind_of walk) (input_of table walk)
    (option_map (shape_at table) walk.entry.item) elements

-- both
abbrev pub elements_steps : List Shape → Walk → Children → Shapes × Shape → List model.Walked
elements_steps table walk children =
    model.walk_elements (settings_of walk) (kind_of walk) (entry_view table walk.entry)
    (option_map templates.view children.selector.now) (processor_of children) (shape_at table children.effective)

-- for the items of that number
abbrev pub listed_steps : List Shape → Walk → Children → ℕ → List model.Walked
listed_steps table walk children items =
    model.with_elements_walked (elements_steps table walk children) (array_parts (shape_at table items))

-- for what the path names
abbrev pub items_steps : List Shape → Walk → List Segment → Children → List model.Walked
items_steps table walk path children =
    model.walk_items (elements_steps table walk children) (found path (shape_at table children.effective))
