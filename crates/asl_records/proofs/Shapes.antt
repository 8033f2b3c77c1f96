-- What is read of a tree that spells a shape, and what is told of one that doesn't.
use Rattle.std.proofs.Common.{◌≡◌, ℕ, Bool, zero, suc, ◌<◌, List, [], ◌∷◌, map, length, slice_index_or, Option, Some, None, option_map, IfSome, Result, Err, true, Bor, ◌⊎◌, inl, inr, refl, sym, ap, subst, arith}
use Rattle.std.proofs.lemmas.List.Elements.{Contains-append_right}
use Rattle.std.specs.List.{Contains}
use Rattle.asl_model.specs.Tree.{Tree}
use Rattle.asl_model.specs.ShapeSpelling as model
use Rattle.asl_model.specs.Shape.{Shape}
use Rattle.asl_model.specs.ShapeSpelling.{HasShapeFault, shape_of, shape_faults}
use Rattle.asl_model.specs.Records.{Reading, RecordFault, RecordComplaint, BadShape, BadNumber, number_misfits, plain, tree_misfits}
use Rattle.asl_shape.specs.declared.shape.Shape.{Shape as CodeShape}
use Rattle.asl_shape.specs.declared.ShapeRefusal.{ShapeRefusal}
use Rattle.asl_shape.specs.declared.ShapeRefusal.TheVariants as shape
use Rattle.asl_shape.specs.Refusal.{Tells, fault_named}
use Rattle.asl_numbered.proofs.Plain.{spells_plain, tells_plain}
use Rattle.asl_numbered.proofs.SpelledOut.{AreSpelledIn, has_fault_out, spells_out, wrong_number_out}
use Rattle.asl_numbered.specs.Expansion.{shape_at, IsNumberOf}
use Rattle.asl_numbered.specs.References.{numbers_given, shapes_given, SpellsWith, TellsOf}
use Rattle.asl_numbered.specs.declared.NumberedRefusal.{NumberedRefusal}
use Rattle.asl_numbered.specs.declared.NumberedRefusal.TheVariants as numbered
use Rattle.asl_records.specs.Listed.{AreMeant, IsReading, Mean}
use Rattle.asl_records.specs.View.{record_fault_view}
use Rattle.asl_records.specs.Parts.{TellsOneOf, complaint_of, fault_told, reading_of, tree_complaints, tree_shape, unlisted}
use Rattle.asl_records.specs.declared.refusals.ReadFault.{ReadFault}
use Rattle.asl_records.specs.declared.refusals.RecordFault.TheVariants as kept
use Rattle.asl_records.proofs.Telling.{told_within}

-- the refusal is no want of memory
abbrev pub IsOfSpelling : ShapeRefusal → Type 0
IsOfSpelling refusal = (refusal ≡ shape.NotAShape) ⊎ ((refusal ≡ shape.Keyword) ⊎ ((refusal ≡ shape.BadType) ⊎ (refusal ≡ shape.MinItems)))

names_fault : (refusal : ShapeRefusal) → IsOfSpelling refusal → (f : model.ShapeFault) × (fault_named refusal ≡ Some f)
names_fault refusal (inl e) = (model.NotAShape, ap fault_named e)
names_fault refusal (inr (inl e)) = (model.Keyword, ap fault_named e)
names_fault refusal (inr (inr (inl e))) = (model.BadType, ap fault_named e)
names_fault refusal (inr (inr (inr e))) = (model.MinItems, ap fault_named e)

-- a fault that tells the refusal tells one of those complaints where that of the refusal is among them
pub shape_told : (refusal : ShapeRefusal) (name field : List ℕ) (wrong : List RecordComplaint) (fault : ReadFault) → IsOfSpelling refusal
    → ((f : RecordFault) → record_fault_view (kept.BadShape refusal) ≡ Some f → TellsOneOf (complaint_of name field f ∷ []) fault)
    → IfSome (fault_named refusal) (λ f. Contains wrong (complaint_of name field (BadShape f))) → TellsOneOf wrong fault
shape_told refusal name field wrong fault spelling told listed =
    let named = names_fault refusal spelling in
    told_within fault (complaint_of name field (BadShape named.0)) wrong (told (BadShape named.0) (ap (option_map BadShape) named.1)) (subst (λ o. IfSome o (λ f. Contains wrong (complaint_of name field (BadShape f)))) named.1 listed)

mapped_at : {A B : Type 0} (g : A → B) (xs : List A) (x : A) (k : ℕ) → k < length xs → slice_index_or xs k x ≡ x → Contains (map g xs) (g x)
mapped_at g [] x k h e = absurd (omega arith)
mapped_at g (y ∷ xs) x zero h e = (0, omega arith, ap g e)
mapped_at g (y ∷ xs) x (suc k) h e = let r = mapped_at g xs x k (omega arith) e in (suc r.0, omega arith, r.2)

-- what is told of each element of a list
pub mapped : {A B : Type 0} (g : A → B) (xs : List A) (x : A) → Contains xs x → Contains (map g xs) (g x)
mapped g xs x h = mapped_at g xs x h.0 h.1 h.2

misfit_listed : (reading : Reading) (name field : List ℕ) (t : Tree) (f : RecordFault) → Contains (tree_misfits reading t) f → Contains (tree_complaints reading name field t) (complaint_of name field f)
misfit_listed reading name field t f h = mapped (complaint_of name field) (tree_misfits reading t) f h

shape_listed : (reading : Reading) (name field : List ℕ) (t : Tree) (f : model.ShapeFault) → Contains (shape_faults reading.several (plain reading.listed t)) f → Contains (tree_complaints reading name field t) (complaint_of name field (BadShape f))
shape_listed reading name field t f h =
    let faults = shape_faults reading.several (plain reading.listed t) in
    misfit_listed reading name field t (BadShape f) (Contains-append_right (number_misfits reading.listed t) (map BadShape faults) (BadShape f) (mapped BadShape faults f h))

-- a refusal of the tree names a complaint about it
pub refusal_listed : (several : Bool) (refusal : ShapeRefusal) (name field : List ℕ) (t : Tree) → Tells refusal (shape_faults several t) → IfSome (fault_named refusal) (λ f. Contains (tree_complaints (unlisted several) name field t) (complaint_of name field (BadShape f)))
refusal_listed several refusal name field t h = by (fault_named refusal) h.listed
  where
    by : (o : Option model.ShapeFault) → IfSome o (Contains (shape_faults several t)) → IfSome o (λ f. Contains (tree_complaints (unlisted several) name field t) (complaint_of name field (BadShape f)))
    by None k = k
    by (Some f) k = shape_listed (unlisted several) name field t f k

-- a refusal tells the fault that it names
pub refusal_told : (t : Tree) (r : Result CodeShape ShapeRefusal) (e : ShapeRefusal) → r ≡ Err e → (r ≡ Err shape.NotAShape → HasShapeFault t model.NotAShape) → (r ≡ Err shape.Keyword → HasShapeFault t model.Keyword) → (r ≡ Err shape.BadType → HasShapeFault t model.BadType)
    → (r ≡ Err shape.MinItems → HasShapeFault t model.MinItems) → Tells e (shape_faults true t)
refusal_told t r shape.NotAShape is not_a_shape keyword bad_type min_items = record { listed = (not_a_shape is).listed }
refusal_told t r shape.Keyword is not_a_shape keyword bad_type min_items = record { listed = (keyword is).listed }
refusal_told t r shape.BadType is not_a_shape keyword bad_type min_items = record { listed = (bad_type is).listed }
refusal_told t r shape.MinItems is not_a_shape keyword bad_type min_items = record { listed = (min_items is).listed }
refusal_told t r shape.OutOfMemory is not_a_shape keyword bad_type min_items = record { listed = tt }

-- ---- where references mean listed trees

spelled_in : (several : Bool) (table : List Shape) (numbers : List ℕ) (trees : List Tree) → AreMeant several table numbers trees → AreSpelledIn several trees (map (shape_at table) numbers)
spelled_in several table numbers trees are = record { shapes = are.shapes; right = are.right }

-- what is read of a tree: nothing is wrong with it, and it spells the shape
pub record IsReadAs (reading : Reading) (t : Tree) (s : Shape) : Type 0 where
  pub none_wrong : tree_misfits reading t ≡ []
  pub same : shape_of (plain reading.listed t) ≡ s

read_so : (several : Bool) (table : List Shape) (numbers : Option (List ℕ)) (listed : Option (List Tree)) (t : Tree) (s : Shape) → Mean several table numbers listed → SpellsWith several (option_map (map (shape_at table)) numbers) t s → IsReadAs (reading_of several listed) t s
read_so several table None None t s meant h =
    let spells = spells_plain several h in
    record { none_wrong = rw spells.none_wrong refl; same = spells.same }
read_so several table None (Some trees) t s meant h = absurd meant
read_so several table (Some ns) None t s meant h = absurd meant
read_so several table (Some ns) (Some trees) t s meant h =
    let given = map (shape_at table) ns in
    let out = spells_out several trees given (spelled_in several table ns trees meant) h in
    record { none_wrong = rw (out.right, out.spells.none_wrong) refl; same = out.spells.same }

-- a way to read has its own trees, and lists of types as it says
as_said : (several : Bool) (table : List Shape) (numbers : Option (List ℕ)) (reading : Reading) → IsReading several table numbers reading → reading_of several reading.listed ≡ reading
as_said several table numbers reading is = ap (λ b. reading_of b reading.listed) (sym is.same)

pub read_as : (several : Bool) (table : List Shape) (numbers : Option (List ℕ)) (reading : Reading) (t : Tree) (s : Shape) → IsReading several table numbers reading → SpellsWith several (option_map (map (shape_at table)) numbers) t s → IsReadAs reading t s
read_as several table numbers reading t s is h =
    subst (λ r. IsReadAs r t s) (as_said several table numbers reading is) (read_so several table numbers reading.listed t s is.meant h)

pub none_wrong_in : (several : Bool) (table new : List Shape) (numbers : Option (Bor (List ℕ))) (reading : Reading) (name field : List ℕ) (t : Tree) (n : ℕ) → IsReading several table (numbers_given numbers) reading
    → SpellsWith several (shapes_given table numbers) t (shape_at new n) → tree_complaints reading name field t ≡ []
none_wrong_in several table new numbers reading name field t n means h =
    let read = read_as several table (numbers_given numbers) reading t (shape_at new n) means h in
    ap (map (complaint_of name field)) read.none_wrong

pub number_in : (several : Bool) (table new : List Shape) (numbers : Option (Bor (List ℕ))) (reading : Reading) (t : Tree) (n : ℕ) → IsReading several table (numbers_given numbers) reading
    → SpellsWith several (shapes_given table numbers) t (shape_at new n) → IsNumberOf new (shape_at new n) n → IsNumberOf new (tree_shape reading.listed t) n
number_in several table new numbers reading t n means h number =
    let read = read_as several table (numbers_given numbers) reading t (shape_at new n) means h in
    subst (λ s. IsNumberOf new s n) (sym read.same) number

tells : (several : Bool) (table : List Shape) (numbers : Option (Bor (List ℕ))) (listed : Option (List Tree)) (refusal : NumberedRefusal) (name field : List ℕ) (t : Tree) → Mean several table (numbers_given numbers) listed → TellsOf several (shapes_given table numbers) t refusal
    → IfSome (fault_told refusal) (λ f. Contains (tree_complaints (reading_of several listed) name field t) (complaint_of name field f))
tells several table None None (numbered.Shape refusal) name field t meant told =
    by (fault_named refusal) (refusal_listed several refusal name field t (tells_plain several t (numbered.Shape refusal) told))
  where
    by : (o : Option model.ShapeFault) → IfSome o (λ f. Contains (tree_complaints (unlisted several) name field t) (complaint_of name field (BadShape f))) → IfSome (option_map BadShape o) (λ f. Contains (tree_complaints (unlisted several) name field t) (complaint_of name field f))
    by None k = k
    by (Some f) k = k
tells several table None None numbered.BadNumber name field t meant told = absurd (tells_plain several t numbered.BadNumber told)
tells several table None None numbered.OutOfMemory name field t meant told = tt
tells several table None (Some trees) refusal name field t meant told = absurd meant
tells several table (Some ns) None refusal name field t meant told = absurd meant
tells several table (Some ns) (Some trees) (numbered.Shape refusal) name field t meant told =
    let said = told.said in
    let given = map (shape_at table) ns.now in
    let reading = reading_of several (Some trees) in
    let there = has_fault_out several trees given (spelled_in several table ns.now trees meant) t said.0 said.2 in
    subst (λ o. IfSome (option_map BadShape o) (λ f. Contains (tree_complaints reading name field t) (complaint_of name field f))) (sym said.1) (shape_listed reading name field t said.0 there)
tells several table (Some ns) (Some trees) numbered.BadNumber name field t meant told =
    let given = map (shape_at table) ns.now in
    let wrong = wrong_number_out several trees given (spelled_in several table ns.now trees meant) t told.said in
    misfit_listed (reading_of several (Some trees)) name field t BadNumber (rw wrong (0, omega arith, refl))
tells several table (Some ns) (Some trees) numbered.OutOfMemory name field t meant told = tt

-- a refusal of the tree for a table names a complaint about it
pub number_refusal_listed : (several : Bool) (table : List Shape) (numbers : Option (Bor (List ℕ))) (reading : Reading) (refusal : NumberedRefusal) (name field : List ℕ) (t : Tree) → IsReading several table (numbers_given numbers) reading
    → TellsOf several (shapes_given table numbers) t refusal → IfSome (fault_told refusal) (λ f. Contains (tree_complaints reading name field t) (complaint_of name field f))
number_refusal_listed several table numbers reading refusal name field t means told =
    subst (λ r. IfSome (fault_told refusal) (λ f. Contains (tree_complaints r name field t) (complaint_of name field f))) (as_said several table (numbers_given numbers) reading means)
    (tells several table numbers reading.listed refusal name field t means.meant told)

-- ---- what is told of a refusal

-- as a fault of a spelling
pub spelling_told : (refusal : ShapeRefusal) (name field : List ℕ) (wrong : List RecordComplaint) → IfSome (option_map BadShape (fault_named refusal)) (λ f. Contains wrong (complaint_of name field f)) → IfSome (fault_named refusal) (λ f. Contains wrong (complaint_of name field (BadShape f)))
spelling_told refusal name field wrong h = by (fault_named refusal) h
  where
    by : (o : Option model.ShapeFault) → IfSome (option_map BadShape o) (λ f. Contains wrong (complaint_of name field f)) → IfSome o (λ f. Contains wrong (complaint_of name field (BadShape f)))
    by None k = k
    by (Some f) k = k
