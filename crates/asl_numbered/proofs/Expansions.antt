-- The shapes that nodes stand for: what a further node changes, and what stays.
use Rattle.std.proofs.Common.{◌≡◌, ◌<◌, ℕ, zero, suc, ◌+◌, List, [], ◌∷◌, ◌++◌, length, map, Bool, Global, Some, slice_get, Vec, refl, sym, ap, ◌∙◌, subst, arith}
use Rattle.std.proofs.lemmas.List.{get_or_append_left, get_or_push, length_push}
use Rattle.std.specs.BTreeMap.{BTreeMap}
use Rattle.asl_model.specs.Shape as model
use Rattle.asl_shape.specs.View.{merged}
use Rattle.asl_numbered.specs.declared.node.Node.{Node}
use Rattle.asl_numbered.specs.declared.node.Node.TheVariants.{Any, Never, Null, Bool as Truth, Int, Text, List as Elements, Object, Several}
use Rattle.asl_numbered.specs.declared.node.NodeField.{NodeField}
use Rattle.asl_numbered.specs.Laws.{keeps_same, keeps_trans, kept_shape}
use Rattle.asl_numbered.specs.Expansion.{shape_at, shapes_at, fields_at, shape_over, numbers_in, parts, AreBelow, RefersBelow, expansions_after, expansions, Keeps}
use Rattle.asl_numbered.specs.Names.{Name}

-- ---- what a node refers to

pub simple_refers : (bound : ℕ) (node : Node) → parts node ≡ [] → RefersBelow bound node
simple_refers bound node none = record { each = rw none tt }

pub list_refers : (bound : ℕ) (first : Vec ℕ Global) (rest : ℕ) → rest < bound → AreBelow bound first.items → RefersBelow bound (Elements first rest)
list_refers bound first rest h below = record { each = (h, below) }

pub object_refers : (bound : ℕ) (fields : BTreeMap Name NodeField) (extra : Bool) → AreBelow bound (numbers_in fields.entries) → RefersBelow bound (Object fields extra)
object_refers bound fields extra below = record { each = below }

pub several_refers : (bound : ℕ) (numbers : Vec ℕ Global) → AreBelow bound numbers.items → RefersBelow bound (Several numbers)
several_refers bound numbers below = record { each = below }

-- ---- shapes under numbers that stay

pub shape_at_stays : (table added : List model.Shape) (n : ℕ) → n < length table → shape_at (table ++ added) n ≡ shape_at table n
shape_at_stays table added n h = get_or_append_left table added model.Never n h

pub shapes_at_stay : (table added : List model.Shape) (ns : List ℕ) → AreBelow (length table) ns → shapes_at (table ++ added) ns ≡ shapes_at table ns
shapes_at_stay table added [] h = refl
shapes_at_stay table added (n ∷ ns) h = rw (shape_at_stays table added n h.0, shapes_at_stay table added ns h.1) refl

pub list_stays : (table added : List model.Shape) (ns : List ℕ) → AreBelow (length table) ns → map (shape_at (table ++ added)) ns ≡ map (shape_at table) ns
list_stays table added [] h = refl
list_stays table added (n ∷ ns) h = rw (shape_at_stays table added n h.0, list_stays table added ns h.1) refl

pub fields_at_stay : (table added : List model.Shape) (fs : List (Name × NodeField)) → AreBelow (length table) (numbers_in fs) → fields_at (table ++ added) fs ≡ fields_at table fs
fields_at_stay table added [] h = refl
fields_at_stay table added (f ∷ fs) h = rw (shape_at_stays table added f.1.shape h.0, fields_at_stay table added fs h.1) refl

pub shape_over_stays : (table added : List model.Shape) (node : Node) → AreBelow (length table) (parts node) → shape_over (table ++ added) node ≡ shape_over table node
shape_over_stays table added Any h = refl
shape_over_stays table added Never h = refl
shape_over_stays table added Null h = refl
shape_over_stays table added Truth h = refl
shape_over_stays table added Int h = refl
shape_over_stays table added Text h = refl
shape_over_stays table added (Elements first rest) h =
    rw (shapes_at_stay table added first.items h.1, shape_at_stays table added rest h.0) refl
shape_over_stays table added (Object fields extra) h = rw (fields_at_stay table added fields.entries h) refl
shape_over_stays table added (Several numbers) h = ap merged (list_stays table added numbers.items h)

-- ---- keeping

pub keeps_unchanged : (a b : List model.Shape) → b ≡ a → Keeps a b
keeps_unchanged a b e = rw e (keeps_same a)

-- ---- nodes behind others

pub after_keeps : (table : List model.Shape) (nodes : List Node) → Keeps table (expansions_after table nodes)
after_keeps table [] = keeps_same table
after_keeps table (node ∷ nodes) =
    let next : Keeps table (table ++ shape_over table node ∷ []) = record { added = shape_over table node ∷ []; whole = refl } in
    keeps_trans table (table ++ shape_over table node ∷ []) (expansions_after table (node ∷ nodes)) next (after_keeps (table ++ shape_over table node ∷ []) nodes)

after-pushed : (table : List model.Shape) (nodes : List Node) (node : Node) → expansions_after table (nodes ++ node ∷ []) ≡ expansions_after table nodes ++ shape_over (expansions_after table nodes) node ∷ []
after-pushed table [] node = refl
after-pushed table (other ∷ nodes) node = after-pushed (table ++ shape_over table other ∷ []) nodes node

pub pushed : (nodes : List Node) (node : Node) → expansions (nodes ++ node ∷ []) ≡ expansions nodes ++ shape_over (expansions nodes) node ∷ []
pushed nodes node = after-pushed [] nodes node

after-length : (table : List model.Shape) (nodes : List Node) → length (expansions_after table nodes) ≡ length table + length nodes
after-length table [] = omega arith
after-length table (node ∷ nodes) = after-length (table ++ shape_over table node ∷ []) nodes ∙ rw (length_push table (shape_over table node)) (omega arith)

pub as_many : (nodes : List Node) → length (expansions nodes) ≡ length nodes
as_many nodes =
    let none : length {A = model.Shape} [] + length nodes ≡ length nodes = omega arith in
    after-length [] nodes ∙ none

-- ---- a node's own shape

after-level : (table : List model.Shape) (nodes : List Node) (i : ℕ) (node : Node) → slice_get nodes i ≡ Some node → RefersBelow (length table + i) node → shape_at (expansions_after table nodes) (length table + i) ≡ shape_over (expansions_after table nodes) node
after-level table [] i node at below = absurd (cc)
after-level table (first ∷ nodes) zero node at below =
    let here : first ≡ node = cc in
    let own = shape_over table first in
    let whole = expansions_after table (first ∷ nodes) in
    let next : Keeps (table ++ own ∷ []) whole = after_keeps (table ++ own ∷ []) nodes in
    let all : Keeps table whole = after_keeps table (first ∷ nodes) in
    let stays : shape_at whole (length table) ≡ own = kept_shape (table ++ own ∷ []) whole (length table) next (rw (length_push table own) (omega arith)) ∙ get_or_push table own model.Never (length table) refl in
    let over : shape_over whole node ≡ own = rw (sym here, all.whole) (shape_over_stays table all.added first (subst (λ n. AreBelow n (parts first)) (omega arith) (subst (λ x. AreBelow (length table + 0) (parts x)) (sym here) below.each))) in
    subst (λ n. shape_at whole n ≡ shape_over whole node) (omega arith) (stays ∙ sym over)
after-level table (first ∷ nodes) (suc i) node at below =
    let longer = table ++ shape_over table first ∷ [] in
    let same : length longer + i ≡ length table + suc i = rw (length_push table (shape_over table first)) (omega arith) in
    subst (λ n. shape_at (expansions_after longer nodes) n ≡ shape_over (expansions_after longer nodes) node) same (after-level longer nodes i node at (subst (λ n. RefersBelow n node) (sym same) below))

pub level : (nodes : List Node) (i : ℕ) (node : Node) → slice_get nodes i ≡ Some node → RefersBelow i node → shape_at (expansions nodes) i ≡ shape_over (expansions nodes) node
level nodes i node at below =
    let same : length {A = model.Shape} [] + i ≡ i = omega arith in
    subst (λ n. shape_at (expansions nodes) n ≡ shape_over (expansions nodes) node) same (after-level [] nodes i node at (subst (λ n. RefersBelow n node) (sym same) below))
