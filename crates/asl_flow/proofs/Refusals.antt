-- What a refusal tells of the first doubt: of a template, and of the way out of a state.
use Rattle.std.proofs.Common.{◌≡◌, ◌<◌, ℕ, List, [], ◌∷◌, length, get_or, map, Some, Result, Ok, Err, IfErr, String, Global, Vec, string_bytes, refl, sym, ap, subst, ◌∙◌, arith}
use Rattle.std.specs.List.{AllByRecursion}
use Rattle.std.specs.Prelude.{slice_get}
use Rattle.asl_model.specs.Shape.{Shape}
use Rattle.asl_model.specs.ShapeFlow as model
use Rattle.asl_tree.specs.declared.Tree.{Tree}
use Rattle.asl_tree.specs.View.{view}
use Rattle.asl_shape_paths.specs.Counterexamples.{IsShownBy}
use Rattle.asl_flow.specs.Doubts.{cause_at, fault_of, flow_view, AreDoubtsBelow, IsCauseBelow, IsCauseIn, IsFlowIn}
use Rattle.asl_shape_paths.specs.Doubts.{doubtful_view}
use Rattle.asl_flow.specs.Leaving.{first_fault}
use Rattle.asl_flow.specs.TemplateAnswer.{told_at, named_fault, first_doubt, IsDoubted, IsFilled}
use Rattle.asl_flow.specs.declared.doubts.Cause.{Cause}
use Rattle.asl_flow.specs.declared.doubts.Cause.TheVariants.{MayBeMissing, MayFail, MayNotFit}
use Rattle.asl_flow.specs.declared.doubts.Doubt.{Doubt}
use Rattle.asl_shape_paths.specs.declared.doubts.DoubtfulPath.{DoubtfulPath}
use Rattle.asl_flow.specs.declared.leaving.FlowFault.{FlowFault}
use Rattle.asl_flow.specs.declared.leaving.FlowFault.TheVariants as fault
use Rattle.asl_flow.specs.declared.templates.TemplateShapeRefusal.{TemplateShapeRefusal}
use Rattle.asl_flow.specs.declared.templates.TemplateShapeRefusal.TheVariants as refusal
use Rattle.asl_flow.proofs.PutDoubts.{Told}
use Rattle.asl_flow.proofs.DoubtfulTemplates.{AreOfRefused, IsOfRefused, fault_refused, IsFaultOfRefused, AreFaultsOfRefused}

-- what holds of each holds of the first
first-has : {A : Type 0} (P : A → Type 0) (xs : List A) (x : A) → AllByRecursion P xs → slice_get xs 0 ≡ Some x → P x
first-has P [] x each is = absurd (cc)
first-has P (first ∷ xs) x each is =
    let same : first ≡ x = cc in
    subst P same each.0

-- ---- the first of the doubts that were put down

module _ (table : List Shape) (d : Doubt) where
  -- it speaks of a shape of the table
  first-below : (v : Vec Doubt Global) → IsFlowIn (length table) (Err v) → d ≡ get_or v.items 0 d → IsCauseBelow (length table) d.cause
  first-below v within is = go v.items within.some is within.below
    where
      go : (ds : List Doubt) → 0 < length ds → d ≡ get_or ds 0 d → AreDoubtsBelow (length table) ds → IsCauseBelow (length table) d.cause
      go [] some at below = absurd (omega (arith, some))
      go (first ∷ ds) some at below = subst (λ (x : Doubt). IsCauseBelow (length table) x.cause) (sym at) below.0

  -- and its path, if it is of one that is refused, is doubtful there
  doubtful-there : (field : List ℕ) (cause : Cause) → IsCauseBelow (length table) cause → IsFaultOfRefused (cause_at table field cause) → IsCauseIn table cause
  doubtful-there field (MayBeMissing p) below refused = (below, refused)
  doubtful-there field MayFail below refused = tt
  doubtful-there field MayNotFit below refused = tt

-- ---- templates

-- a refusal tells the first doubt alone
same-doubted : (answer other : Result Shape Told) (told : TemplateShapeRefusal) → first_doubt answer ≡ first_doubt other → IsDoubted other told → IsDoubted answer told
same-doubted answer other (refusal.MayBeMissing name t) same h = (h.0, same ∙ h.1, h.2)
same-doubted answer other (refusal.MayFail name) same h = same ∙ h
same-doubted answer other refusal.OutOfMemory same h = tt

module _ (table : List Shape) (field : List ℕ) (answer : Result Shape Told) (v : Vec Doubt Global) (d : Doubt) (filled : IsFilled table field answer (Err v)) (within : IsFlowIn (length table) (Err v)) (is : d ≡ get_or v.items 0 d) where
  -- the first doubt of the definition is the first one that was put down
  first-one : (one : List ℕ × model.Doubt) × (first_doubt answer ≡ Some one) × (told_at field one ≡ named_fault table d)
  first-one = go answer filled
    where
      first : (told : Told) (ds : List Doubt) → map (told_at field) told ≡ map (named_fault table) ds → 0 < length ds → d ≡ get_or ds 0 d → (one : List ℕ × model.Doubt) × (slice_get told 0 ≡ Some one) × (told_at field one ≡ named_fault table d)
      first told [] same some at = absurd (omega (arith, some))
      first [] (x ∷ ds) same some at = absurd (cc)
      first (one ∷ told) (x ∷ ds) same some at =
          let own : told_at field one ≡ named_fault table x = cc in
          (one, refl, own ∙ ap (named_fault table) (sym at))

      go : (r : Result Shape Told) → IsFilled table field r (Err v) → (one : List ℕ × model.Doubt) × (first_doubt r ≡ Some one) × (told_at field one ≡ named_fault table d)
      go (Ok s) h = absurd h
      go (Err told) h = first told v.items h within.some is

  -- the path of which it is, if it is of one, is doubtful in the table
  pub template_cause : IfErr answer AreOfRefused → IsCauseIn table d.cause
  template_cause refused =
      let one = first-one in
      let own : IsOfRefused one.0.1 = go answer refused one.0 one.1 in
      let same : model.doubt_fault field one.0.1 ≡ fault_of table d = ap (λ (x : List ℕ × model.FlowFault). x.1) one.2 in
      doubtful-there table d d.field.now d.cause (first-below table d v within is) (subst IsFaultOfRefused same (fault_refused field one.0.1 own))
    where
      go : (r : Result Shape Told) → IfErr r AreOfRefused → (one : List ℕ × model.Doubt) → first_doubt r ≡ Some one → IsOfRefused one.1
      go (Ok s) each one at = absurd (cc)
      go (Err told) each one at = first-has (λ (x : List ℕ × model.Doubt). IsOfRefused x.1) told one each at

  -- and what is told of it is told of the template
  pub template_told : (told : TemplateShapeRefusal) → ((other : List ℕ) (one : List ℕ × model.Doubt) → told_at other one ≡ named_fault table d → IsDoubted (Err (one ∷ [])) told) → IsDoubted answer told
  template_told told tells =
      let one = first-one in
      same-doubted answer (Err (one.0 ∷ [])) told one.1 (tells field one.0 one.2)

-- ---- what is told of one doubt of a template

together : (one : List ℕ × model.Doubt) (name : List ℕ) (doubt : model.Doubt) → one.0 ≡ name → one.1 ≡ doubt → one ≡ (name, doubt)
together (n, own) name doubt named same = rw (named, same) refl

module _ (table : List Shape) (d : Doubt) (name : String Global) (named : string_bytes name ≡ d.name.now) (field : List ℕ) (one : List ℕ × model.Doubt) (is : told_at field one ≡ named_fault table d) where
  own-name : one.0 ≡ string_bytes name
  own-name = ap (λ (x : List ℕ × model.FlowFault). x.0) is ∙ sym named

  own-fault : model.doubt_fault field one.1 ≡ fault_of table d
  own-fault = ap (λ (x : List ℕ × model.FlowFault). x.1) is

  -- a path with its tree
  pub missing_told : (p : DoubtfulPath) (t : Tree) → d.cause ≡ MayBeMissing p → IsShownBy (doubtful_view table p) (view t) → IsDoubted (Err (one ∷ [])) (refusal.MayBeMissing name t)
  missing_told p t at shown = (doubtful_view table p, ap Some (together one (string_bytes name) (model.MayBeMissing (doubtful_view table p)) own-name (go one.1 (own-fault ∙ ap (cause_at table d.field.now) at))), shown)
    where
      go : (doubt : model.Doubt) → model.doubt_fault field doubt ≡ model.MissingAt d.field.now (doubtful_view table p) → doubt ≡ model.MayBeMissing (doubtful_view table p)
      go (model.MayBeMissing other) e =
          let same : other ≡ doubtful_view table p = cc in
          ap model.MayBeMissing same
      go model.MayFail e = absurd (cc)

  -- a template places nothing
  pub nothing_placed : d.cause ≡ MayNotFit → ⊥
  nothing_placed at = go one.1 (own-fault ∙ ap (cause_at table d.field.now) at)
    where
      go : (doubt : model.Doubt) → model.doubt_fault field doubt ≡ model.MisfitAt d.field.now → ⊥
      go (model.MayBeMissing other) e = absurd (cc)
      go model.MayFail e = absurd (cc)

-- ---- the way out of a state

module _ (table : List Shape) (flow : model.Flow) (v : Vec Doubt Global) (d : Doubt) (stopped : flow ≡ flow_view table (Err v)) (within : IsFlowIn (length table) (Err v)) (is : d ≡ get_or v.items 0 d) where
  first-stops : first_fault flow ≡ Some (fault_of table d)
  first-stops = ap first_fault stopped ∙ go v.items within.some is
    where
      go : (ds : List Doubt) → 0 < length ds → d ≡ get_or ds 0 d → slice_get (map (fault_of table) ds) 0 ≡ Some (fault_of table d)
      go [] some at = absurd (omega (arith, some))
      go (x ∷ ds) some at = ap (λ y. Some (fault_of table y)) (sym at)

  -- its path, if it is of one, is doubtful in the table
  pub way_cause : IfErr flow AreFaultsOfRefused → IsCauseIn table d.cause
  way_cause refused = doubtful-there table d d.field.now d.cause (first-below table d v within is) (go flow refused first-stops)
    where
      go : (f : model.Flow) → IfErr f AreFaultsOfRefused → first_fault f ≡ Some (fault_of table d) → IsFaultOfRefused (fault_of table d)
      go (Ok s) each at = absurd (cc)
      go (Err faults) each at = first-has IsFaultOfRefused faults (fault_of table d) each at
