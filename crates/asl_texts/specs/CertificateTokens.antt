-- The tokens that are written for the parts of a certificate, and which parts read back. No public clause cites this module.
use Rattle.std.specs.Prelude.{◌≡◌, ℕ, List, [], ◌∷◌, Bool, true, false, Option, None, Some, String, codes, map, IfSome}
use Rattle.std.specs.declared.alloc.Global.{Global}
use Rattle.std.specs.List.{AllByRecursion}
use Rattle.json.specs.Token.{Token, key, begin_array}
use Rattle.json.specs.Tree.{items_tokens, members_tokens}
use Rattle.serde_json.specs.Written.{items_outline, members_outline}
use Rattle.asl_model.specs.Certificate.{Certificate}
use Rattle.asl_model.specs.Json.{items_of, members_for}
use Rattle.asl_model.specs.Shape.{Shape}
use Rattle.asl_model.specs.Tree.{Tree}
use Rattle.asl_model.specs.Written.{written_list, written_entries, written_state, certificate_written}
use Rattle.asl_model.specs.WrittenNumbered.{shapes_listed}
use Rattle.asl_numbered.specs.Expansion.{shape_at}
use Rattle.asl_records.specs.Numbered.{numbers_view, numbered_entries}
use Rattle.asl_records.specs.WritingNumbered.{table_of, listed_by, referred, spelled_over}
use Rattle.asl_records.specs.declared.records.StateNumbers.{StateNumbers}
use Rattle.asl_records.specs.declared.writing_numbered.ShapeWriter.{ShapeWriter}
use Rattle.asl_tree.specs.View.{view}
use Rattle.asl_tree.specs.Written.{tree_tokens, ReadsBack}
use Rattle.asl_texts.specs.declared.spellings.Spellings.{Spellings}

-- the shapes that a text lists, where a list is asked
abbrev pub listed_if : Bool → Certificate → List Shape
listed_if true certificate = shapes_listed certificate
listed_if false certificate = []

-- the numbers of the listed shapes
abbrev pub listed_numbers : ShapeWriter → List ℕ
listed_numbers shapes = shapes.listing.now.order.items

-- what stands for a shape, and for the one of that number
unfoldable pub stands_for : ShapeWriter → Shape → Tree
stands_for shapes = referred shapes

abbrev pub tree_at : ShapeWriter → ℕ → Tree
tree_at shapes n = stands_for shapes (shape_at (table_of shapes) n)

-- the tree that is kept is the one that stands for the shape of its number
pub record IsKept (spellings : Spellings) : Type 0 where
  pub kept : IfSome spellings.last (λ last. view last.tree ≡ tree_at spellings.shapes last.number)

-- so it is afterwards, and the shapes are the same
pub record StaysKept (before after : Spellings) : Type 0 where
  pub shapes : after.shapes ≡ before.shapes
  pub kept : IsKept after

-- the tree of a certificate
abbrev pub certificate_tree : ShapeWriter → Certificate → Tree
certificate_tree shapes = certificate_written (spelled_over shapes) (listed_by shapes) (stands_for shapes)

-- the one that is written for a state with those numbers
abbrev pub state_tree : ShapeWriter → StateNumbers → Tree
state_tree shapes state = written_state (stands_for shapes) (numbers_view (table_of shapes) state)

-- the tokens of what stands in a list of shapes, with the closing bracket
abbrev pub list_tokens : (Shape → Tree) → ShapeWriter → List ℕ → List Token
list_tokens written shapes ns = items_tokens (items_outline (items_of
    (written_list written (map (shape_at (table_of shapes)) ns))))

-- those of the field `shapes`, where there are any
abbrev pub listed_tokens : ShapeWriter → List ℕ → List Token
listed_tokens shapes [] = []
listed_tokens shapes (n ∷ ns) =
    key (codes "shapes") ∷ begin_array ∷ list_tokens (spelled_over shapes) shapes (n ∷ ns)

-- those of the field `branches`, where there are any
abbrev pub branches_tokens : ShapeWriter → List ℕ → List Token
branches_tokens shapes [] = []
branches_tokens shapes (n ∷ ns) =
    key (codes "branches") ∷ begin_array ∷ list_tokens (stands_for shapes) shapes (n ∷ ns)

-- those of the field `item`, where there is one
abbrev pub item_tokens : ShapeWriter → Option ℕ → List Token
item_tokens shapes None = []
item_tokens shapes (Some n) = key (codes "item") ∷ tree_tokens (tree_at shapes n)

-- those of the states under their names, with the closing bracket
abbrev pub states_tokens : ShapeWriter → List (String Global × StateNumbers) → List Token
states_tokens shapes states = members_tokens (members_outline (members_for
    (written_entries (written_state (stands_for shapes)) (numbered_entries (table_of shapes) states))))

-- what is written for the shape of each of the numbers reads back
pub record NumbersReadBack (written : Shape → Tree) (shapes : ShapeWriter) (ns : List ℕ) : Type 0 where
  pub each : AllByRecursion (λ n. ReadsBack (written (shape_at (table_of shapes) n))) ns

-- so for the one that may be there
pub record ItemReadsBack (shapes : ShapeWriter) (item : Option ℕ) : Type 0 where
  pub back : IfSome item (λ n. ReadsBack (tree_at shapes n))

-- so for each of the states
pub record StatesReadBack (shapes : ShapeWriter) (states : List (String Global × StateNumbers))
    : Type 0 where
  pub each : AllByRecursion
      (λ (state : String Global × StateNumbers). ReadsBack (state_tree shapes state.1)) states
