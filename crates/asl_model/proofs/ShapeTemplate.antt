-- Where `template_shape` answers a shape, the template has a value of it for every tree of the input's shape and
-- every item of the item's.
use Rattle.std.proofs.Common.{◌≡◌, ℕ, suc, pos, List, [], ◌∷◌, ◌++◌, map, length, Bool, true, false, ◌&&◌, ◌||◌, not, eqb, Option, Some, None, Result, Ok, Err, refl, ap, subst, arith}
use Rattle.std.specs.Prelude.{IsTrue, unwrap_or, if◌then◌else◌}
use Rattle.std.specs.Option.{option_map}
use Rattle.std.proofs.lemmas.Bool.{and_parts, and_from, eqb-true, false≢true}
use Rattle.asl_model.specs.Tree.{Tree, Null, Boolean, Integer, Text, Array, Object, Trees, NoTrees, AndTree, Fields, NoFields, AndField, count}
use Rattle.asl_model.specs.Path.{Segment, Name, Index, named_by}
use Rattle.asl_model.specs.Intrinsic.{Reference, InInput, ItemIndex, InItem, Function, StatesArray, StatesArrayLength, StatesFormat, Call, CallOf, Argument, NullArgument, BooleanArgument, IntegerArgument, TextArgument, PathArgument, CallArgument, Arguments, NoArguments, AndArgument, Pieces, literal_pieces, Item, referred, call_value, argument_value, argument_values, applied, array_length, length_of, formatted, holes_filled, joined_by_holes, format_text}
use Rattle.asl_model.specs.Template.{Template, Literal, FromPath, FromCall, ArrayTemplate, ObjectTemplate, Templates, NoTemplates, AndTemplate, FieldTemplates, NoFieldTemplates, AndFieldTemplate, Failure, below, unless_value, failures, element_failures, field_failures, filled, elements_filled, fields_filled, template_value}
use Rattle.asl_model.specs.Faults.{DataFlowError, ParameterPathFailure, IntrinsicFailure}
use Rattle.asl_model.specs.Shape.{Shape, Any, OfKinds, Never, NullShape, BooleanShape, IntegerShape, StringShape, Arrays, WithoutArrays, ArraysOf, ArrayShape, Shapes, NoShapes, AndShape, Has, has, has_arrays, each_element, elements_have, fields_have, all_mentioned, inhabited}
use Rattle.asl_model.specs.ShapeFlow.{arrays_alone, ItemHas, look, DoubtfulPath, found, literal, literals, literal_fields, Doubt, or_missing, reference_shape, unless_doubtful, is_formattable, all_formattable, is_array_shape, how_many_shapes, and_argument, array_length_of, fits_holes, format_of, value_shape, call_shape, argument_shape, argument_shapes, doubts_at, or_may_fail, or_none, doubts, element_doubts, field_doubts, filled_shape, filled_elements, filled_fields, unless_doubts, template_shape}
use Rattle.asl_model.proofs.PlacingExactly.{found as names-found}
use Rattle.asl_model.proofs.FindingScopes.{append-none}
use Rattle.asl_model.proofs.ShapeInhabited.{has-inhabited, arrays_have-inhabited, objects_have-inhabited, no_tree}
use Rattle.asl_model.proofs.ShapeFields.{have-set_front, set_front-mentioned}
use Rattle.asl_model.proofs.ShapeLook.{look-names, found-looked, alone-array}
use Rattle.asl_model.proofs.ShapePut.{GivesOne}

-- a path that is found names a tree of its shape, as `look` answers it and as it isn't doubtful
pub look-gives : (path : List Segment) (s t : Shape) (v : Tree) → look path s ≡ Ok t → Has s v → GivesOne t (named_by path v)
look-gives path s t v e h =
    let names = look-names path s t e v h in
    (names.0, names-found names.1, names.2)

pub found-gives : (path : List Segment) (s t : Shape) (v : Tree) → found path s ≡ Ok t → Has s v → GivesOne t (named_by path v)
found-gives path s t v e h = look-gives path s t v (found-looked path s t e) h

-- References

missing-none : (r : Result Shape DoubtfulPath) (t : Shape) → or_missing r ≡ Ok t → r ≡ Ok t
missing-none (Ok s) t e =
    let is : s ≡ t = cc in
    ap Ok is
missing-none (Err doubtful) t e = absurd (cc)

reference-gives : (reference : Reference) (input : Shape) (item : Option Shape) (r : Shape) (v : Tree) (i : Option Item) → reference_shape reference input item ≡ Ok r → Has input v → ItemHas item i → GivesOne r (referred reference v i)
reference-gives (InInput path) input item r v i e h m = found-gives path input r v (missing-none (found path input) r e) h
reference-gives ItemIndex input None r v i e h m = absurd (cc)
reference-gives ItemIndex input (Some s) r v None e h m = absurd m
reference-gives ItemIndex input (Some s) r v (Some it) e h m =
    let is : IntegerShape ≡ r = cc in
    (Integer it.number, refl, subst (λ (z : Shape). Has z (Integer it.number)) is refl)
reference-gives (InItem path) input None r v i e h m = absurd (cc)
reference-gives (InItem path) input (Some s) r v None e h m = absurd m
reference-gives (InItem path) input (Some s) r v (Some it) e h m = found-gives path s r it.value (missing-none (found path s) r e) m

-- Calls

-- neither an array nor an object has a shape that can be put in a text
formattable-word : (s : Shape) (t : Tree) → IsTrue (is_formattable s) → Has s t → (word : List ℕ) × (format_text t ≡ Some word)
formattable-word s Null h m = (_, refl)
formattable-word s (Boolean b) h m = (_, refl)
formattable-word s (Integer n) h m = (_, refl)
formattable-word s (Text w) h m = (w, refl)
formattable-word Any t h m = absurd (false≢true h)
formattable-word (OfKinds simple arrays objects) (Array ts) h m = absurd (grind (arith, arrays_have-inhabited arrays ts m))
formattable-word (OfKinds simple arrays objects) (Object fs) h m = absurd (grind (arith, objects_have-inhabited objects fs m))

-- one tree more than there are shapes
none-further : (t : Tree) (ts : Trees) → IsTrue (elements_have NoShapes (has Never) (AndTree t ts)) → ⊥
none-further t ts h = no_tree Never refl t (and_parts (has Never t) (each_element (has Never) ts) h).0

holes-fill : (first : List ℕ) (pieces : List (List ℕ)) (shapes : Shapes) (ts : Trees) → length pieces ≡ how_many_shapes shapes → IsTrue (all_formattable shapes) → IsTrue (elements_have shapes (has Never) ts) → (text : List ℕ) × (holes_filled first pieces ts ≡ Some text)
holes-fill first [] NoShapes NoTrees e h m = (first, refl)
holes-fill first [] NoShapes (AndTree t ts) e h m = absurd (none-further t ts m)
holes-fill first [] (AndShape s others) ts e h m = absurd (omega arith)
holes-fill first (piece ∷ pieces) NoShapes ts e h m = absurd (omega arith)
holes-fill first (piece ∷ pieces) (AndShape s others) NoTrees e h m = absurd (false≢true m)
holes-fill first (piece ∷ pieces) (AndShape s others) (AndTree t ts) e h m =
    let tests = and_parts (is_formattable s) (all_formattable others) h in
    let both = and_parts (has s t) (elements_have others (has Never) ts) m in
    let word = formattable-word s t tests.0 both.0 in
    let further = holes-fill piece pieces others ts (omega arith) tests.1 both.1 in
    (first ++ (word.0 ++ further.0), rw (word.1, further.1) refl)

text-given : (r : Shape) (text : List ℕ) (value : Option (List ℕ)) → value ≡ Some text → StringShape ≡ r → GivesOne r (option_map Text value)
text-given r text value e is = (Text text, rw e refl, subst (λ (z : Shape). Has z (Text text)) is refl)

format-gives : (literal_text : Option Pieces) (shapes : Shapes) (values : Trees) (r : Shape) → format_of literal_text (Some shapes) ≡ Some r → IsTrue (elements_have shapes (has Never) values) → GivesOne r (formatted literal_text values)
format-gives literal_text NoShapes values r e m = absurd (cc)
format-gives literal_text (AndShape s others) NoTrees r e m = absurd (false≢true m)
format-gives literal_text (AndShape s others) (AndTree t ts) r e m = go literal_text (fits_holes literal_text s others && all_formattable others) refl e
  where
    both : IsTrue (has s t) × IsTrue (elements_have others (has Never) ts)
    both = and_parts (has s t) (elements_have others (has Never) ts) m

    fitting : (l : Option Pieces) → IsTrue (fits_holes l s others && all_formattable others) → StringShape ≡ r → GivesOne r (formatted l (AndTree t ts))
    fitting None h is =
        let live : IsTrue (not (inhabited s)) = (and_parts (not (inhabited s)) (all_formattable others) h).0 in
        absurd (false≢true (rw (has-inhabited s t both.0) at live))
    fitting (Some pieces) h is =
        let tests = and_parts (eqb (length pieces.after_holes) (how_many_shapes others)) (all_formattable others) h in
        let text = holes-fill pieces.first pieces.after_holes others ts (eqb-true (length pieces.after_holes) (how_many_shapes others) tests.0) tests.1 both.1 in
        text-given r text.0 (holes_filled pieces.first pieces.after_holes ts) text.1 is

    go : (l : Option Pieces) (fits : Bool) → (fits_holes l s others && all_formattable others) ≡ fits → (if fits then Some StringShape else None) ≡ Some r → GivesOne r (formatted l (AndTree t ts))
    go l true at e' =
        let is : StringShape ≡ r = cc in
        fitting l at is
    go l false at e' = absurd (cc)

array-number : (arrays : Arrays) (s : Shape) (t : Tree) → arrays_alone s ≡ arrays → IsTrue (has_arrays arrays) → Has s t → GivesOne IntegerShape (length_of t)
array-number WithoutArrays s t e h m = absurd (false≢true h)
array-number (ArraysOf first rest) s t e h m =
    let one = alone-array s first rest t e m in
    (Integer (pos (count one.0)), ap length_of (one.1), refl)

number-gives : (shapes : Shapes) (values : Trees) (r : Shape) → array_length_of (Some shapes) ≡ Some r → IsTrue (elements_have shapes (has Never) values) → GivesOne r (array_length values)
number-gives NoShapes values r e m = absurd (cc)
number-gives (AndShape s (AndShape other others)) values r e m = absurd (cc)
number-gives (AndShape s NoShapes) NoTrees r e m = absurd (false≢true m)
number-gives (AndShape s NoShapes) (AndTree t (AndTree u ts)) r e m = absurd (none-further u ts (and_parts (has s t) (elements_have NoShapes (has Never) (AndTree u ts)) m).1)
number-gives (AndShape s NoShapes) (AndTree t NoTrees) r e m = go (not (inhabited s) || is_array_shape s) refl e
  where
    member : Has s t
    member = (and_parts (has s t) true m).0

    go : (fits : Bool) → (not (inhabited s) || is_array_shape s) ≡ fits → (if fits then Some IntegerShape else None) ≡ Some r → GivesOne r (length_of t)
    go true at e' =
        let is : IntegerShape ≡ r = cc in
        subst (λ (z : Shape). GivesOne z (length_of t)) is (array-number (arrays_alone s) s t refl (rw (has-inhabited s t member) at at) member)
    go false at e' = absurd (cc)

value-gives : (function : Function) (literal_text : Option Pieces) (shapes : Shapes) (values : Trees) (r : Shape) → value_shape function literal_text (Some shapes) ≡ Some r → IsTrue (elements_have shapes (has Never) values) → GivesOne r (applied function literal_text values)
value-gives StatesArray literal_text shapes values r e m =
    let is : ArrayShape shapes Never ≡ r = cc in
    (Array values, refl, subst (λ (z : Shape). Has z (Array values)) is m)
value-gives StatesArrayLength literal_text shapes values r e m = number-gives shapes values r e m
value-gives StatesFormat literal_text shapes values r e m = format-gives literal_text shapes values r e m

doubtless : (r : Result Shape Doubt) (t : Shape) → unless_doubtful r ≡ Some t → r ≡ Ok t
doubtless (Ok s) t e =
    let is : s ≡ t = cc in
    ap Ok is
doubtless (Err d) t e = absurd (cc)

-- a function's arguments are there
arguments-there : (function : Function) (literal_text : Option Pieces) (shapes : Option Shapes) (r : Shape) → value_shape function literal_text shapes ≡ Some r → (given : Shapes) × (shapes ≡ Some given)
arguments-there function literal_text (Some shapes) r e = (shapes, refl)
arguments-there StatesArray literal_text None r e = absurd (cc)
arguments-there StatesArrayLength literal_text None r e = absurd (cc)
arguments-there StatesFormat literal_text None r e = absurd (cc)

both-arguments : (first : Option Shape) (others : Option Shapes) (all : Shapes) → and_argument first others ≡ Some all → (s : Shape) × (further : Shapes) × (first ≡ Some s) × (others ≡ Some further) × (AndShape s further ≡ all)
both-arguments None others all e = absurd (cc)
both-arguments (Some s) None all e = absurd (cc)
both-arguments (Some s) (Some further) all e =
    let is : AndShape s further ≡ all = cc in
    (s, further, refl, refl, is)

-- there are values, each with its shape
abbrev GivesAll : Shapes → Option Trees → Type 0
GivesAll shapes values = (ts : Trees) × (values ≡ Some ts) × IsTrue (elements_have shapes (has Never) ts)

mutual
  call-gives : (call : Call) (input : Shape) (item : Option Shape) (r : Shape) (v : Tree) (i : Option Item) → call_shape call input item ≡ Some r → Has input v → ItemHas item i → GivesOne r (call_value call v i)
  call-gives (CallOf function arguments) input item r v i e h m =
      let shapes = arguments-there function (literal_pieces arguments) (argument_shapes arguments input item) r e in
      let values = arguments-give arguments input item shapes.0 v i shapes.1 h m in
      let value = value-gives function (literal_pieces arguments) shapes.0 values.0 r (rw (shapes.1) at e) values.2 in
      (value.0, rw (values.1) (value.1), value.2)

  argument-gives : (argument : Argument) (input : Shape) (item : Option Shape) (r : Shape) (v : Tree) (i : Option Item) → argument_shape argument input item ≡ Some r → Has input v → ItemHas item i → GivesOne r (argument_value argument v i)
  argument-gives NullArgument input item r v i e h m =
      let is : NullShape ≡ r = cc in
      (_, refl, subst (λ (z : Shape). Has z Null) is refl)
  argument-gives (BooleanArgument b) input item r v i e h m =
      let is : BooleanShape ≡ r = cc in
      (_, refl, subst (λ (z : Shape). Has z (Boolean b)) is refl)
  argument-gives (IntegerArgument n) input item r v i e h m =
      let is : IntegerShape ≡ r = cc in
      (_, refl, subst (λ (z : Shape). Has z (Integer n)) is refl)
  argument-gives (TextArgument pieces) input item r v i e h m =
      let is : StringShape ≡ r = cc in
      (_, refl, subst (λ (z : Shape). Has z (Text (joined_by_holes pieces.first pieces.after_holes))) is refl)
  argument-gives (PathArgument reference) input item r v i e h m = reference-gives reference input item r v i (doubtless (reference_shape reference input item) r e) h m
  argument-gives (CallArgument call) input item r v i e h m = call-gives call input item r v i e h m

  arguments-give : (arguments : Arguments) (input : Shape) (item : Option Shape) (shapes : Shapes) (v : Tree) (i : Option Item) → argument_shapes arguments input item ≡ Some shapes → Has input v → ItemHas item i → GivesAll shapes (argument_values arguments v i)
  arguments-give NoArguments input item shapes v i e h m =
      let is : NoShapes ≡ shapes = cc in
      (NoTrees, refl, subst (λ (z : Shapes). IsTrue (elements_have z (has Never) NoTrees)) is refl)
  arguments-give (AndArgument argument others) input item shapes v i e h m =
      let parts = both-arguments (argument_shape argument input item) (argument_shapes others input item) shapes e in
      let first = argument-gives argument input item parts.0 v i parts.2 h m in
      let further = arguments-give others input item parts.1 v i parts.3 h m in
      (AndTree first.0 further.0, rw (first.1, further.1) refl, subst (λ (z : Shapes). IsTrue (elements_have z (has Never) (AndTree first.0 further.0))) parts.4 (and_from (has parts.0 first.0) (elements_have parts.1 (has Never) further.0) first.2 further.2))

-- Templates

doubt-none : (field : List ℕ) (r : Result Shape Doubt) → doubts_at field r ≡ [] → (t : Shape) × (r ≡ Ok t)
doubt-none field (Ok s) e = (s, refl)
doubt-none field (Err d) e = absurd (cc)

call-there : (value : Option Shape) (r : Shape) → or_may_fail value ≡ Ok r → value ≡ Some r
call-there None r e = absurd (cc)
call-there (Some s) r e =
    let is : s ≡ r = cc in
    ap Some is

-- a place that has a value doesn't fail, and has the shape
place-fits : (error : DataFlowError) (value : Option Tree) (shape : Result Shape Doubt) (r : Shape) → shape ≡ Ok r → GivesOne r value → (unless_value error value ≡ []) × Has (or_none shape) (unwrap_or value Null)
place-fits error value shape r e given = (rw (given.1) refl, rw (e, given.1) (given.2))

mutual
  literal-has : (t : Tree) → Has (literal t) t
  literal-has Null = refl
  literal-has (Boolean b) = refl
  literal-has (Integer n) = refl
  literal-has (Text s) = refl
  literal-has (Array ts) = literals-have ts
  literal-has (Object fs) = and_from (fields_have (literal_fields fs) fs) (all_mentioned (literal_fields fs) fs) (literal_fields-have fs).0 (literal_fields-have fs).1

  literals-have : (ts : Trees) → IsTrue (elements_have (literals ts) (has Never) ts)
  literals-have NoTrees = refl
  literals-have (AndTree t ts) = and_from (has (literal t) t) (elements_have (literals ts) (has Never) ts) (literal-has t) (literals-have ts)

  literal_fields-have : (fs : Fields) → IsTrue (fields_have (literal_fields fs) fs) × IsTrue (all_mentioned (literal_fields fs) fs)
  literal_fields-have NoFields = (refl, refl)
  literal_fields-have (AndField n t fs) =
      let below = literal_fields-have fs in
      (have-set_front n (literal t) t (literal_fields fs) fs below.0 (literal-has t), set_front-mentioned n (literal t) t (literal_fields fs) fs below.1)

pub literal-has_itself : (t : Tree) → Has (literal t) t
literal-has_itself t = literal-has t

none-of-both : (first second : List Failure) → first ≡ [] → second ≡ [] → first ++ second ≡ []
none-of-both first second e f = rw (e, f) refl

none-below : (segment : Segment) (found : List Failure) → found ≡ [] → map (below segment) found ≡ []
none-below segment found e = rw e refl

module _ (input : Shape) (item : Option Shape) (v : Tree) (i : Option Item) (h : Has input v) (m : ItemHas item i) where
  mutual
    template-fits : (template : Template) (field : List ℕ) → doubts template field input item ≡ [] → (failures template v i ≡ []) × Has (filled_shape template input item) (filled template v i)
    template-fits (Literal t) field e = (refl, literal-has t)
    template-fits (FromPath reference) field e =
        let given = doubt-none field (reference_shape reference input item) e in
        place-fits ParameterPathFailure (referred reference v i) (reference_shape reference input item) given.0 given.1 (reference-gives reference input item given.0 v i given.1 h m)
    template-fits (FromCall call) field e =
        let given = doubt-none field (or_may_fail (call_shape call input item)) e in
        place-fits IntrinsicFailure (call_value call v i) (or_may_fail (call_shape call input item)) given.0 given.1 (call-gives call input item given.0 v i (call-there (call_shape call input item) given.0 given.1) h m)
    template-fits (ArrayTemplate elements) field e = elements-fit elements field 0 e
    template-fits (ObjectTemplate fields) field e =
        let below = fields-fit fields e in
        (below.0, and_from (fields_have (filled_fields fields input item) (fields_filled fields v i)) (all_mentioned (filled_fields fields input item) (fields_filled fields v i)) below.1 below.2)

    elements-fit : (elements : Templates) (field : List ℕ) (k : ℕ) → element_doubts elements field input item ≡ [] → (element_failures k elements v i ≡ []) × IsTrue (elements_have (filled_elements elements input item) (has Never) (elements_filled elements v i))
    elements-fit NoTemplates field k e = (refl, refl)
    elements-fit (AndTemplate t others) field k e =
        let parts = append-none (doubts t field input item) (element_doubts others field input item) e in
        let first = template-fits t field parts.0 in
        let further = elements-fit others field (suc k) parts.1 in
        (none-of-both (map (below (Index k)) (failures t v i)) (element_failures (suc k) others v i) (none-below (Index k) (failures t v i) first.0) further.0, and_from (has (filled_shape t input item) (filled t v i)) (elements_have (filled_elements others input item) (has Never) (elements_filled others v i)) first.1 further.1)

    fields-fit : (fields : FieldTemplates) → field_doubts fields input item ≡ [] → (field_failures fields v i ≡ []) × IsTrue (fields_have (filled_fields fields input item) (fields_filled fields v i)) × IsTrue (all_mentioned (filled_fields fields input item) (fields_filled fields v i))
    fields-fit NoFieldTemplates e = (refl, refl, refl)
    fields-fit (AndFieldTemplate n t others) e =
        let parts = append-none (doubts t n input item) (field_doubts others input item) e in
        let first = template-fits t n parts.0 in
        let further = fields-fit others parts.1 in
        (none-of-both (map (below (Name n)) (failures t v i)) (field_failures others v i) (none-below (Name n) (failures t v i) first.0) further.0, have-set_front n (filled_shape t input item) (filled t v i) (filled_fields others input item) (fields_filled others v i) further.1 first.1, set_front-mentioned n (filled_shape t input item) (filled t v i) (filled_fields others input item) (fields_filled others v i) further.2)

doubtless-fits : (found : List (List ℕ × Doubt)) (s r : Shape) → unless_doubts found s ≡ Ok r → (found ≡ []) × (s ≡ r)
doubtless-fits [] s r e =
    let is : s ≡ r = cc in
    (refl, is)
doubtless-fits (d ∷ others) s r e = absurd (cc)

pub template-gives : (template : Template) (input : Shape) (item : Option Shape) (r : Shape) (v : Tree) (i : Option Item) → template_shape template input item ≡ Ok r → Has input v → ItemHas item i → (u : Tree) × (template_value template v i ≡ Ok u) × Has r u
template-gives template input item r v i e h m =
    let found = doubtless-fits (doubts template [] input item) (filled_shape template input item) r (rw (has-inhabited input v h) at e) in
    let fits = template-fits input item v i h m template [] found.0 in
    (filled template v i, rw (fits.0) refl, subst (λ (z : Shape). Has z (filled template v i)) found.1 fits.1)
