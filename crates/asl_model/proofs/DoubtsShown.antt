-- A comparison that fails has a tree outside, and a doubtful path a tree in which it names nothing: what `outside` and
-- `found` answer, and what templates tell, against the trees that FindingRules asks for. Each way holds.
use Rattle.std.proofs.Common.{◌≡◌, ℕ, List, Option, Some, None, Result, Ok, Err, IsTrue, is_ok, refl, sym, ap, subst, ◌∙◌}
use Rattle.std.proofs.lemmas.Bool.{false≢true}
use Rattle.asl_model.specs.Tree.{Tree}
use Rattle.asl_model.specs.Path.{Segment}
use Rattle.asl_model.specs.Intrinsic.{Reference, InInput, ItemIndex, InItem}
use Rattle.asl_model.specs.Template.{Template, FromPath, Templates, FieldTemplates}
use Rattle.asl_model.specs.Shape.{Shape, IsOrdered}
use Rattle.asl_model.specs.Examples.{outside, IsOutside}
use Rattle.asl_model.specs.ShapeFlow.{look, DoubtfulPath, or_doubtful, found, Doubt, MayBeMissing, MayFail, or_missing, reference_shape}
use Rattle.asl_model.specs.Missing.{missing, counterexample, IsMissing}
use Rattle.asl_model.specs.FindingRules.{IsPart, is_whole, is_in_array, is_in_object, IsAmongElements, is_in_element, is_in_later, IsAmongFields, is_in_field, is_in_later_field, GoesInto, goes_into_input, goes_into_item, IsUnsure, call_is_unsure, item_is_unsure, index_is_unsure}
use Rattle.asl_model.proofs.ShapeInside.{sub-inside}
use Rattle.asl_model.proofs.ShapeOutside.{outside-exactly}
use Rattle.asl_model.proofs.ShapeMissing.{missing-exactly, missed}
use Rattle.asl_model.proofs.ShapeTemplate.{found-gives}
use Rattle.asl_model.proofs.FindingShown.{HasDoubt, path_is_doubtful, call_is_doubtful, doubt_in_array, doubt_in_object, HaveDoubt, doubt_in_element, doubt_in_later, HasFieldDoubt, doubt_in_field, doubt_in_later_field}

-- Comparisons

-- where a tree is outside, one is told
pub outside-told : (a b : Shape) (t : Tree) → IsOutside a b t → (u : Tree) × (outside a b ≡ Some u)
outside-told a b t is = go (outside a b) refl
  where
    go : (answer : Option Tree) → outside a b ≡ answer → (u : Tree) × (outside a b ≡ Some u)
    go None e = absurd (is.lacks (sub-inside a b ((outside-exactly a b).0 e) t is.has))
    go (Some u) e = (u, e)

-- Paths

-- where a path names nothing in a tree, it is doubtful
pub missing-told : (path : List Segment) (s : Shape) (t : Tree) → IsMissing path s t → (doubtful : DoubtfulPath) × (found path s ≡ Err doubtful)
missing-told path s t is = go (found path s) refl
  where
    go : (answer : Result Shape DoubtfulPath) → found path s ≡ answer → (doubtful : DoubtfulPath) × (found path s ≡ Err doubtful)
    go (Ok part) e =
        let given = found-gives path s part t e is.has in
        let both : None ≡ Some given.0 = sym is.nothing ∙ given.1 in
        absurd (cc)
    go (Err doubtful) e = (doubtful, e)

-- where it is doubtful, a tree is told in which it names nothing
pub doubtful-shown : (path : List Segment) (s : Shape) (doubtful : DoubtfulPath) → IsOrdered s → found path s ≡ Err doubtful → (t : Tree) × (counterexample doubtful ≡ Some t) × IsMissing path s t
doubtful-shown path s doubtful ordered e = go (look path s) refl e
  where
    told : (at : ℕ) → look path s ≡ Err at → (answer : Option Tree) → missing path s ≡ answer → (t : Tree) × (missing path s ≡ Some t) × IsMissing path s t
    told at refused None none =
        let fine : IsTrue (is_ok (look path s)) = (missing-exactly path s).0 none in
        absurd (false≢true (rw refused at fine))
    told at refused (Some t) some = (t, some, missed path s t ordered some)

    go : (answer : Result Shape ℕ) → look path s ≡ answer → or_doubtful path s answer ≡ Err doubtful → (t : Tree) × (counterexample doubtful ≡ Some t) × IsMissing path s t
    go (Ok part) at e' = absurd (cc)
    go (Err n) at e' =
        let is : record { path = path; segment = n; shape = s } ≡ doubtful = cc in
        let one = told n at (missing path s) refl in
        (one.0, subst (λ (d : DoubtfulPath). counterexample d ≡ Some one.0) is (one.1), one.2)

-- Templates

-- a doubt that a reference or a call itself has
data HasOwnDoubt (input : Shape) (item : Option Shape) : Template → Doubt → Type 0 where
  own_path : {reference : Reference} {doubt : Doubt} → reference_shape reference input item ≡ Err doubt → HasOwnDoubt input item (FromPath reference) doubt
  own_call : {template : Template} {doubt : Doubt} → MayFail ≡ doubt → IsUnsure input item template → HasOwnDoubt input item template doubt

module _ {input : Shape} {item : Option Shape} where
  mutual
    -- a template's doubt is that of one of its parts
    part-of : {template : Template} {doubt : Doubt} → HasDoubt input item template doubt → (part : Template) × IsPart part template × HasOwnDoubt input item part doubt
    part-of (path_is_doubtful e) = (_, is_whole, own_path e)
    part-of (call_is_doubtful e) = (_, is_whole, own_call refl (call_is_unsure e))
    part-of (doubt_in_array have) =
        let one = element-of have in
        (one.0, is_in_array one.1, one.2)
    part-of (doubt_in_object have) =
        let one = field-of have in
        (one.0, is_in_object one.1, one.2)

    element-of : {elements : Templates} {doubt : Doubt} → HaveDoubt input item elements doubt → (part : Template) × IsAmongElements part elements × HasOwnDoubt input item part doubt
    element-of (doubt_in_element have) =
        let one = part-of have in
        (one.0, is_in_element one.1, one.2)
    element-of (doubt_in_later have) =
        let one = element-of have in
        (one.0, is_in_later one.1, one.2)

    field-of : {fields : FieldTemplates} {doubt : Doubt} → HasFieldDoubt input item fields doubt → (part : Template) × IsAmongFields part fields × HasOwnDoubt input item part doubt
    field-of (doubt_in_field have) =
        let one = part-of have in
        (one.0, is_in_field one.1, one.2)
    field-of (doubt_in_later_field have) =
        let one = field-of have in
        (one.0, is_in_later_field one.1, one.2)

  mutual
    -- and the doubt of a part is the template's
    of-part : {part template : Template} {doubt : Doubt} → IsPart part template → HasDoubt input item part doubt → HasDoubt input item template doubt
    of-part is_whole has = has
    of-part (is_in_array among) has = doubt_in_array (of-element among has)
    of-part (is_in_object among) has = doubt_in_object (of-field among has)

    of-element : {part : Template} {elements : Templates} {doubt : Doubt} → IsAmongElements part elements → HasDoubt input item part doubt → HaveDoubt input item elements doubt
    of-element (is_in_element is) has = doubt_in_element (of-part is has)
    of-element (is_in_later among) has = doubt_in_later (of-element among has)

    of-field : {part : Template} {fields : FieldTemplates} {doubt : Doubt} → IsAmongFields part fields → HasDoubt input item part doubt → HasFieldDoubt input item fields doubt
    of-field (is_in_field is) has = doubt_in_field (of-part is has)
    of-field (is_in_later_field among) has = doubt_in_later_field (of-field among has)

missing-doubtful : (r : Result Shape DoubtfulPath) (doubtful : DoubtfulPath) → or_missing r ≡ Err (MayBeMissing doubtful) → r ≡ Err doubtful
missing-doubtful (Ok s) doubtful e = absurd (cc)
missing-doubtful (Err d) doubtful e =
    let is : d ≡ doubtful = cc in
    ap Err is

missing-sure : (r : Result Shape DoubtfulPath) → or_missing r ≡ Err MayFail → ⊥
missing-sure (Ok s) e = absurd (cc)
missing-sure (Err d) e = absurd (cc)

-- a reference with a doubtful path
abbrev IsDoubtfulIn : Shape → Option Shape → Reference → DoubtfulPath → Type 0
IsDoubtfulIn input item reference doubtful = (path : List Segment) × (s : Shape) × GoesInto input item reference path s × (found path s ≡ Err doubtful)

reference-doubtful : (reference : Reference) (input : Shape) (item : Option Shape) (doubtful : DoubtfulPath) → reference_shape reference input item ≡ Err (MayBeMissing doubtful) → IsDoubtfulIn input item reference doubtful
reference-doubtful (InInput path) input item doubtful e = (path, input, goes_into_input, missing-doubtful (found path input) doubtful e)
reference-doubtful ItemIndex input None doubtful e = absurd (cc)
reference-doubtful ItemIndex input (Some s) doubtful e = absurd (cc)
reference-doubtful (InItem path) input None doubtful e = absurd (cc)
reference-doubtful (InItem path) input (Some s) doubtful e = (path, s, goes_into_item refl, missing-doubtful (found path s) doubtful e)

reference-unsure : (reference : Reference) (input : Shape) (item : Option Shape) → reference_shape reference input item ≡ Err MayFail → IsUnsure input item (FromPath reference)
reference-unsure (InInput path) input item e = absurd (missing-sure (found path input) e)
reference-unsure ItemIndex input None e = index_is_unsure refl
reference-unsure ItemIndex input (Some s) e = absurd (cc)
reference-unsure (InItem path) input None e = item_is_unsure refl
reference-unsure (InItem path) input (Some s) e = absurd (missing-sure (found path s) e)

-- the doubtful path of a template is that of one of its references
pub template-doubtful : {input : Shape} {item : Option Shape} {template : Template} {doubtful : DoubtfulPath} → HasDoubt input item template (MayBeMissing doubtful) → (reference : Reference) × IsPart (FromPath reference) template × IsDoubtfulIn input item reference doubtful
template-doubtful {input} {item} {template} {doubtful} has =
    let one = part-of has in
    go one.1 one.2 refl
  where
    go : {part : Template} {doubt : Doubt} → IsPart part template → HasOwnDoubt input item part doubt → doubt ≡ MayBeMissing doubtful → (reference : Reference) × IsPart (FromPath reference) template × IsDoubtfulIn input item reference doubtful
    go is (own_path {reference = reference} e) at = (reference, is, reference-doubtful reference input item doubtful (e ∙ ap Err at))
    go is (own_call fails unsure) at = absurd (cc)

-- what may fail in a template is one of its parts
pub template-unsure : {input : Shape} {item : Option Shape} {template : Template} → HasDoubt input item template MayFail → (part : Template) × IsPart part template × IsUnsure input item part
template-unsure {input} {item} {template} has =
    let one = part-of has in
    go one.1 one.2 refl
  where
    go : {part : Template} {doubt : Doubt} → IsPart part template → HasOwnDoubt input item part doubt → doubt ≡ MayFail → (part : Template) × IsPart part template × IsUnsure input item part
    go is (own_path {reference = reference} e) at = (FromPath reference, is, reference-unsure reference input item (e ∙ ap Err at))
    go is (own_call fails unsure) at = (_, is, unsure)

-- where a reference's path names nothing in a tree, the template has that doubt
pub template-missing : {input : Shape} {item : Option Shape} {template : Template} {reference : Reference} {path : List Segment} {s : Shape} {t : Tree} → IsPart (FromPath reference) template → GoesInto input item reference path s → IsMissing path s t → (doubtful : DoubtfulPath) × HasDoubt input item template (MayBeMissing doubtful)
template-missing {path = path} {s = s} {t = t} is goes none =
    let one = missing-told path s t none in
    (one.0, of-part is (path_is_doubtful (gone goes one.1)))
  where
    gone : {input : Shape} {item : Option Shape} {reference : Reference} {path : List Segment} {s : Shape} {doubtful : DoubtfulPath} → GoesInto input item reference path s → found path s ≡ Err doubtful → reference_shape reference input item ≡ Err (MayBeMissing doubtful)
    gone goes_into_input e = ap or_missing e
    gone (goes_into_item at) e = rw at (ap or_missing e)

-- where a part may fail, the template may
pub template-fails : {input : Shape} {item : Option Shape} {template part : Template} → IsPart part template → IsUnsure input item part → HasDoubt input item template MayFail
template-fails is unsure = of-part is (own unsure)
  where
    own : {input : Shape} {item : Option Shape} {part : Template} → IsUnsure input item part → HasDoubt input item part MayFail
    own (call_is_unsure e) = call_is_doubtful e
    own (item_is_unsure e) = path_is_doubtful (rw e refl)
    own (index_is_unsure e) = path_is_doubtful (rw e refl)
