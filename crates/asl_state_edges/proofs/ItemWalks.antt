-- The steps of a Map, on shapes of a table that has grown.
use Rattle.std.proofs.Common.{◌≡◌, ◌<◌, ℕ, List, [], length, codes, Option, Some, None, option_map, refl, sym, ap, ◌∙◌, subst, arith}
use Rattle.std.specs.Prelude.{IfSome}
use Rattle.asl_flow.specs.Elements.{elements_view, AreElementsBelow}
use Rattle.asl_flow.specs.declared.elements.Elements.{Elements}
use Rattle.asl_model.specs.Edges.{breaks, with_elements_walked, walk_elements, walk_items_result}
use Rattle.asl_model.specs.Finding.{WrongKind, array_parts, element_shape, item_flow, map_result}
use Rattle.asl_model.specs.Shape.{Shape, Shapes}
use Rattle.asl_model.specs.ShapeFlow.{Flow}
use Rattle.asl_numbered.specs.Expansion.{shape_at, shapes_at, IsNumberOf, Keeps}
use Rattle.asl_numbered.proofs.Expansions.{shapes_at_stay}
use Rattle.asl_numbered.specs.Laws.{below-wider, keeps_longer, kept_shape}
use Rattle.asl_template.specs.View as templates
use Rattle.asl_state_edges.specs.Entry.{entry_view, IsEntryBelow}
use Rattle.asl_state_edges.specs.Items.{elements_steps, listed_steps, outputs_steps, processor_of}
use Rattle.asl_state_edges.specs.Steps.{settings_of, kind_of, result_steps}
use Rattle.asl_state_edges.specs.declared.items.Children.{Children}
use Rattle.asl_state_edges.specs.declared.walking.Walk.{Walk}
use Rattle.asl_state_edges.proofs.Kept.{entry_shown}
use Rattle.asl_state_edges.proofs.KeptSteps.{made_kept}

-- ---- elements

pub elements_within : (a b : List Shape) (elements : Elements) → Keeps a b → AreElementsBelow (length a) elements → AreElementsBelow (length b) elements
elements_within a b elements keeps h = record {
  first = below-wider (length a) (length b) elements.first.items (keeps_longer a b keeps) h.first;
  rest = kept_below h.rest;
}
  where
    kept_below : elements.rest < length a → elements.rest < length b
    kept_below below = omega (arith, keeps_longer a b keeps, below)

pub elements_shown : (a b : List Shape) (elements : Elements) → Keeps a b → AreElementsBelow (length a) elements → elements_view b elements ≡ elements_view a elements
elements_shown a b elements keeps h =
    let first : shapes_at b elements.first.items ≡ shapes_at a elements.first.items = ap (λ t. shapes_at t elements.first.items) keeps.whole ∙ shapes_at_stay a keeps.added elements.first.items h.first in
    rw (first, kept_shape a b elements.rest keeps h.rest) refl

-- ---- their steps

pub elements_kept : (a b : List Shape) (walk : Walk) (children : Children) (elements : Shapes × Shape) → Keeps a b → IsEntryBelow (length a) walk.entry → children.effective < length a → elements_steps b walk children elements ≡ elements_steps a walk children elements
elements_kept a b walk children elements keeps entry effective =
    ap (λ e. walk_elements (settings_of walk) (kind_of walk) e (option_map templates.view children.selector.now) (processor_of children) (shape_at b children.effective) elements) (entry_shown a b walk.entry keeps entry)
    ∙ ap (λ s. walk_elements (settings_of walk) (kind_of walk) (entry_view a walk.entry) (option_map templates.view children.selector.now) (processor_of children) s elements) (kept_shape a b children.effective keeps effective)

pub outputs_kept : (a b : List Shape) (walk : Walk) (elements : Elements) → Keeps a b → IsEntryBelow (length a) walk.entry → AreElementsBelow (length a) elements
    → outputs_steps b walk (elements_view b elements) ≡ outputs_steps a walk (elements_view a elements)
outputs_kept a b walk elements keeps entry below =
    ap (outputs_steps b walk) (elements_shown a b elements keeps below)
    ∙ ap (λ e. walk_items_result (settings_of walk) (kind_of walk) e.input e.item (elements_view a elements)) (entry_shown a b walk.entry keeps entry)

-- ---- what the path names

pub listed_kept : (a b : List Shape) (walk : Walk) (children : Children) (items : ℕ) → Keeps a b → IsEntryBelow (length a) walk.entry → children.effective < length a
    → listed_steps b walk children items ≡ with_elements_walked (elements_steps a walk children) (array_parts (shape_at b items))
listed_kept a b walk children items keeps entry effective = by (array_parts (shape_at b items))
  where
    by : (parts : Option (Shapes × Shape)) → with_elements_walked (elements_steps b walk children) parts ≡ with_elements_walked (elements_steps a walk children) parts
    by None = refl
    by (Some elements) = elements_kept a b walk children elements keeps entry effective

module _ (table : List Shape) (walk : Walk) (children : Children) (items : ℕ) where
  -- it has elements alone
  pub listed_elements : (elements : Shapes × Shape) → Some elements ≡ array_parts (shape_at table items) → elements_steps table walk children elements ≡ listed_steps table walk children items
  listed_elements elements some = ap (with_elements_walked (elements_steps table walk children)) some

  -- it may have none
  pub listed_none : None ≡ array_parts (shape_at table items) → breaks (codes "ItemsPath") WrongKind ≡ listed_steps table walk children items
  listed_none none = ap (with_elements_walked (elements_steps table walk children)) none

-- ---- the list of what the children give

pub outputs_made : (a b : List Shape) (walk : Walk) (item : ℕ) (elements : Shapes × Shape) (n : ℕ) → walk.entry.item ≡ Some item → walk.entry.input < length a → Keeps a b → IsNumberOf b (map_result (shape_at a item) elements.0 elements.1) n → result_steps b walk n ≡ outputs_steps a walk elements
outputs_made a b walk item elements n is input keeps number = rw is (made_kept a b walk keeps (map_result (shape_at a item) elements.0 elements.1) n input number)

pub no_outputs : (table : List Shape) (walk : Walk) (elements : Shapes × Shape) → walk.entry.item ≡ None → outputs_steps table walk elements ≡ []
no_outputs table walk elements is = rw is refl

-- the number of the items' shape
pub item_within : (a : List Shape) (walk : Walk) (item : ℕ) → IsEntryBelow (length a) walk.entry → walk.entry.item ≡ Some item → item < length a
item_within a walk item entry is = subst (λ o. IfSome o (λ n. n < length a)) is entry.item

-- ---- a child's input

-- for the element of that number
pub item_made : (a b : List Shape) (children : Children) (elements : Shapes × Shape) (element : ℕ) (flow : Flow) → Keeps a b → children.effective < length a → IsNumberOf b (element_shape elements.0 elements.1) element
    → item_flow (option_map templates.view children.selector.now) (shape_at b children.effective) (shape_at b element) ≡ flow → item_flow (option_map templates.view children.selector.now) (shape_at a children.effective) (element_shape elements.0 elements.1) ≡ flow
item_made a b children elements element flow keeps effective number is =
    let made = item_flow (option_map templates.view children.selector.now) in
    ap (λ x. made x (element_shape elements.0 elements.1)) (sym (kept_shape a b children.effective keeps effective)) ∙ ap (made (shape_at b children.effective)) (sym number.same) ∙ is
