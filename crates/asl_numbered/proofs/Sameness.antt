-- When two nodes are equal: where the shapes that they stand for are, over a table in which no shape stands twice.
use Rattle.std.proofs.Common.{◌≡◌, ℕ, List, [], ◌∷◌, length, map, nat_eq, ◌≤◌, Bool, true, false, if◌then◌else◌, ◌&&◌, Vec, Global, bytes_eq, refl, sym, ap, ◌∙◌, arith}
use Rattle.std.proofs.lemmas.Bool.{and_parts, and_from, eqb-true, eq-eqb}
use Rattle.std.proofs.lemmas.Bool.Decides.{nat_tests}
use Rattle.std.proofs.lemmas.Slice.Eq.{bytes_eq-Decides}
use Rattle.std.specs.Cmp.{booleans_Decides}
use Rattle.std.specs.Cmp.Lexicographic.{pointwise}
use Rattle.asl_model.specs.Shape as model
use Rattle.asl_shape.specs.View.{merged}
use Rattle.asl_numbered.specs.contracts.node.NodePartialEq.TheImpl as node_eq
use Rattle.asl_numbered.specs.contracts.node.NodeFieldPartialEq.TheImpl as field_eq
use Rattle.asl_numbered.specs.declared.node.Node.{Node}
use Rattle.asl_numbered.specs.declared.node.Node.TheVariants.{Any, Never, Null, Bool as Truth, Int, Text, List as Elements, Object, Several}
use Rattle.asl_numbered.specs.declared.node.NodeField.{NodeField}
use Rattle.asl_numbered.specs.Expansion.{shape_at, shapes_at, fields_at, shape_over, numbers_in, parts, AreBelow, AreDistinct}
use Rattle.asl_numbered.specs.Kinds.{HasProperParts}
use Rattle.asl_numbered.specs.TakenApart.{parts_of}
use Rattle.asl_numbered.proofs.Ascending.{parts_merged}
use Rattle.asl_numbered.specs.Names.{Name}
use Rattle.std.specs.Rc.{rc_str_bytes}

-- the test of two nodes
abbrev pub equal : Node → Node → Bool
equal = node_eq.ghosts.eq

-- the test of two maps' fields
abbrev equal_fields : List (Name × NodeField) → List (Name × NodeField) → Bool
equal_fields = pointwise (λ f g. bytes_eq (rc_str_bytes f.0) (rc_str_bytes g.0) && field_eq.ghosts.eq f.1 g.1)

-- ---- equal nodes stand for one shape

fields-same : (table : List model.Shape) (fs gs : List (Name × NodeField)) → equal_fields fs gs ≡ true → fields_at table fs ≡ fields_at table gs
fields-same table [] [] e = refl
fields-same table [] (g ∷ gs) e = absurd (cc)
fields-same table (f ∷ fs) [] e = absurd (cc)
fields-same table (f ∷ fs) (g ∷ gs) e =
    let both = and_parts _ _ e in
    let here = and_parts _ _ both.0 in
    let name : rc_str_bytes f.0 ≡ rc_str_bytes g.0 = (bytes_eq-Decides (rc_str_bytes f.0) (rc_str_bytes g.0)).0 here.0 in
    let field = and_parts _ _ here.1 in
    let needed : f.1.needed ≡ g.1.needed = (booleans_Decides f.1.needed g.1.needed).0 field.0 in
    let number : f.1.shape ≡ g.1.shape = eqb-true f.1.shape g.1.shape field.1 in
    rw (name, needed, number, fields-same table fs gs both.1) refl

pub same-shape : (table : List model.Shape) (x y : Node) → equal x y ≡ true → shape_over table x ≡ shape_over table y
same-shape table Any Any e = refl
same-shape table Any y e = absurd (cc)
same-shape table Never Never e = refl
same-shape table Never y e = absurd (cc)
same-shape table Null Null e = refl
same-shape table Null y e = absurd (cc)
same-shape table Truth Truth e = refl
same-shape table Truth y e = absurd (cc)
same-shape table Int Int e = refl
same-shape table Int y e = absurd (cc)
same-shape table Text Text e = refl
same-shape table Text y e = absurd (cc)
same-shape table (Elements first rest) (Elements others further) e =
    let both = and_parts _ _ e in
    let front : first.items ≡ others.items = (bytes_eq-Decides first.items others.items).0 both.0 in
    let behind : rest ≡ further = eqb-true rest further both.1 in
    rw (front, behind) refl
same-shape table (Elements first rest) y e = absurd (cc)
same-shape table (Object fields extra) (Object others more) e =
    let both = and_parts _ _ e in
    let same : extra ≡ more = (booleans_Decides extra more).0 both.1 in
    rw (fields-same table fields.entries others.entries both.0, same) refl
same-shape table (Object fields extra) y e = absurd (cc)
same-shape table (Several numbers) (Several others) e =
    ap (λ ns. merged (map (shape_at table) ns)) ((bytes_eq-Decides numbers.items others.items).0 e)
same-shape table (Several numbers) y e = absurd (cc)

-- ---- nodes of one shape are equal

other : (m n : ℕ) → nat_eq m n ≡ false → m ≡ n → ⊥
other m n apart e = grind (arith, nat_tests)

-- a number for each of the shapes that have no parts, and for those that have some
abbrev code : model.Shape → ℕ
code model.Any = 0
code (model.OfKinds simple arrays objects) =
    if simple.null then 1 else
    (if simple.boolean then 2 else
    (if simple.integer then 3 else
    (if simple.text then 4 else
    (if model.has_arrays arrays then 5 else
    (if model.has_objects objects then 6 else 7)))))

module _ (table : List model.Shape) (distinct : AreDistinct table) where
  numbers-alike : (ns ms : List ℕ) → AreBelow (length table) ns → AreBelow (length table) ms → shapes_at table ns ≡ shapes_at table ms → ns ≡ ms
  numbers-alike [] [] h i e = refl
  numbers-alike [] (m ∷ ms) h i e = absurd (cc)
  numbers-alike (n ∷ ns) [] h i e = absurd (cc)
  numbers-alike (n ∷ ns) (m ∷ ms) h i e =
      let shape : shape_at table n ≡ shape_at table m = cc in
      let shapes : shapes_at table ns ≡ shapes_at table ms = cc in
      let number = distinct.apart n m h.0 i.0 shape in
      rw (number, numbers-alike ns ms h.1 i.1 shapes) refl

  fields-alike : (fs gs : List (Name × NodeField)) → AreBelow (length table) (numbers_in fs) → AreBelow (length table) (numbers_in gs) → fields_at table fs ≡ fields_at table gs → equal_fields fs gs ≡ true
  fields-alike [] [] h i e = refl
  fields-alike [] (g ∷ gs) h i e = absurd (cc)
  fields-alike (f ∷ fs) [] h i e = absurd (cc)
  fields-alike (f ∷ fs) (g ∷ gs) h i e =
      let name : rc_str_bytes f.0 ≡ rc_str_bytes g.0 = cc in
      let needed : f.1.needed ≡ g.1.needed = cc in
      let shape : shape_at table f.1.shape ≡ shape_at table g.1.shape = cc in
      let behind : fields_at table fs ≡ fields_at table gs = cc in
      let field = and_from _ _ ((booleans_Decides f.1.needed g.1.needed).1 needed) (eq-eqb f.1.shape g.1.shape (distinct.apart f.1.shape g.1.shape h.0 i.0 shape)) in
      and_from _ _ (and_from _ _ ((bytes_eq-Decides (rc_str_bytes f.0) (rc_str_bytes g.0)).1 name) field) (fields-alike fs gs h.1 i.1 behind)

  list-alike : (ns ms : List ℕ) → AreBelow (length table) ns → AreBelow (length table) ms → map (shape_at table) ns ≡ map (shape_at table) ms → ns ≡ ms
  list-alike [] [] h i e = refl
  list-alike [] (m ∷ ms) h i e = absurd (cc)
  list-alike (n ∷ ns) [] h i e = absurd (cc)
  list-alike (n ∷ ns) (m ∷ ms) h i e =
      let shape : shape_at table n ≡ shape_at table m = cc in
      let shapes : map (shape_at table) ns ≡ map (shape_at table) ms = cc in
      let number = distinct.apart n m h.0 i.0 shape in
      rw (number, list-alike ns ms h.1 i.1 shapes) refl

  -- nodes of other codes stand for other shapes
  apart-codes : {A : Type 0} (x y : Node) → nat_eq (code (shape_over table x)) (code (shape_over table y)) ≡ false → shape_over table x ≡ shape_over table y → A
  apart-codes x y apart e = absurd (other _ _ apart (ap code e))

  -- several shapes are no shape of one kind, or of none
  apart-several : (numbers : Vec ℕ Global) (s : model.Shape) → HasProperParts table (Several numbers) → length (parts_of s) ≤ 1 → s ≡ shape_over table (Several numbers) → ⊥
  apart-several numbers s p few e =
      let counted = ap (λ x. length (parts_of x)) e ∙ ap length (parts_merged 0 (map (shape_at table) numbers.items) p.ascend) in
      omega (arith, counted, few, p.two)

  alike-several : (numbers others : Vec ℕ Global) → AreBelow (length table) numbers.items → AreBelow (length table) others.items → HasProperParts table (Several numbers) → HasProperParts table (Several others) → shape_over table (Several numbers) ≡ shape_over table (Several others) → equal (Several numbers) (Several others) ≡ true
  alike-several numbers others h i p q e =
      let same = sym (parts_merged 0 (map (shape_at table) numbers.items) p.ascend) ∙ ap parts_of e ∙ parts_merged 0 (map (shape_at table) others.items) q.ascend in
      (bytes_eq-Decides numbers.items others.items).1 (list-alike numbers.items others.items h i same)

  pub alike-equal : (x y : Node) → AreBelow (length table) (parts x) → AreBelow (length table) (parts y) → HasProperParts table x → HasProperParts table y → shape_over table x ≡ shape_over table y → equal x y ≡ true
  alike-equal Any Any h i p q e = refl
  alike-equal Any (Several others) h i p q e = absurd (apart-several others (shape_over table Any) q (omega arith) e)
  alike-equal Any y h i p q e = absurd (cc)
  alike-equal Never Never h i p q e = refl
  alike-equal Never (Several others) h i p q e = absurd (apart-several others (shape_over table Never) q (omega arith) e)
  alike-equal Never y h i p q e = apart-codes Never y refl e
  alike-equal Null Null h i p q e = refl
  alike-equal Null (Several others) h i p q e = absurd (apart-several others (shape_over table Null) q (omega arith) e)
  alike-equal Null y h i p q e = apart-codes Null y refl e
  alike-equal Truth Truth h i p q e = refl
  alike-equal Truth (Several others) h i p q e = absurd (apart-several others (shape_over table Truth) q (omega arith) e)
  alike-equal Truth y h i p q e = apart-codes Truth y refl e
  alike-equal Int Int h i p q e = refl
  alike-equal Int (Several others) h i p q e = absurd (apart-several others (shape_over table Int) q (omega arith) e)
  alike-equal Int y h i p q e = apart-codes Int y refl e
  alike-equal Text Text h i p q e = refl
  alike-equal Text (Several others) h i p q e = absurd (apart-several others (shape_over table Text) q (omega arith) e)
  alike-equal Text y h i p q e = apart-codes Text y refl e
  alike-equal (Elements first rest) (Elements others further) h i p q e =
      let front : shapes_at table first.items ≡ shapes_at table others.items = cc in
      let behind : shape_at table rest ≡ shape_at table further = cc in
      let numbers = numbers-alike first.items others.items h.1 i.1 front in
      and_from _ _ ((bytes_eq-Decides first.items others.items).1 numbers) (eq-eqb rest further (distinct.apart rest further h.0 i.0 behind))
  alike-equal (Elements first rest) (Several others) h i p q e = absurd (apart-several others (shape_over table (Elements first rest)) q (omega arith) e)
  alike-equal (Elements first rest) y h i p q e = absurd (cc)
  alike-equal (Object fields extra) (Object others more) h i p q e =
      let front : fields_at table fields.entries ≡ fields_at table others.entries = cc in
      let open_ended : extra ≡ more = cc in
      and_from _ _ (fields-alike fields.entries others.entries h i front) ((booleans_Decides extra more).1 open_ended)
  alike-equal (Object fields extra) (Several others) h i p q e = absurd (apart-several others (shape_over table (Object fields extra)) q (omega arith) e)
  alike-equal (Object fields extra) y h i p q e = absurd (cc)
  alike-equal (Several numbers) (Several others) h i p q e = alike-several numbers others h i p q e
  alike-equal (Several numbers) Any h i p q e = absurd (apart-several numbers (shape_over table Any) p (omega arith) (sym e))
  alike-equal (Several numbers) Never h i p q e = absurd (apart-several numbers (shape_over table Never) p (omega arith) (sym e))
  alike-equal (Several numbers) Null h i p q e = absurd (apart-several numbers (shape_over table Null) p (omega arith) (sym e))
  alike-equal (Several numbers) Truth h i p q e = absurd (apart-several numbers (shape_over table Truth) p (omega arith) (sym e))
  alike-equal (Several numbers) Int h i p q e = absurd (apart-several numbers (shape_over table Int) p (omega arith) (sym e))
  alike-equal (Several numbers) Text h i p q e = absurd (apart-several numbers (shape_over table Text) p (omega arith) (sym e))
  alike-equal (Several numbers) (Elements first rest) h i p q e = absurd (apart-several numbers (shape_over table (Elements first rest)) p (omega arith) (sym e))
  alike-equal (Several numbers) (Object fields extra) h i p q e = absurd (apart-several numbers (shape_over table (Object fields extra)) p (omega arith) (sym e))
