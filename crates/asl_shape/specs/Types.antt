-- The texts of a list of types, and the keywords that belong to types.
use Rattle.std.specs.Prelude.{◌≡◌, ℕ, List, [], ◌∷◌, ◌++◌, Bool, Option, Some, None, is_some, if◌then◌else◌, codes}
use Rattle.std.specs.Borrow.{Bor}
use Rattle.asl_model.specs.Tree.{Tree, Trees, AndTree}
use Rattle.asl_model.specs.ShapeSpelling.{ShapeFault, array_keywords, object_keywords, annotations, is_text_value, texts_among}

-- the keywords where arrays are among the types or aren't, and so for objects
abbrev pub keywords_for : Bool → Bool → List (List ℕ)
keywords_for array object =
    codes "type"
    ∷ ((if array then array_keywords else []) ++ ((if object then object_keywords else []) ++ annotations))

-- the faults where that type is among the types
abbrev pub faults_when : Bool → List ShapeFault → List ShapeFault
faults_when among faults = if among then faults else []

-- the texts with one more in front, where there is one
abbrev pub text_first : Option (Bor (List ℕ)) → List (List ℕ) → List (List ℕ)
text_first None texts = texts
text_first (Some text) texts = text.now ∷ texts

-- that is the text that the tree is, or it is none
pub record TextIn (t : Tree) (text : Option (Bor (List ℕ))) : Type 0 where
  pub is_text : is_text_value t ≡ is_some text
  pub first : (ts : Trees) → texts_among (AndTree t ts) ≡ text_first text (texts_among ts)
