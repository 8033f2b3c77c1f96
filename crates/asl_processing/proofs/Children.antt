-- Children that start, each at the state of its target's number.
use Rattle.std.proofs.Common.{◌≡◌, ◌<◌, ◌≤◌, refl, sym, ap, ◌∙◌, subst, arith, ℕ, zero, suc, ◌+◌, List, [], ◌∷◌, ◌++◌, map, take, length, get_or}
use Rattle.std.proofs.Math.Seq.{take-suc}
use Rattle.std.proofs.lemmas.List.{map-append, take_all}
use Rattle.std.proofs.lemmas.List.Elements.{All-append}
use Rattle.std.specs.List.{All}
use Rattle.std.specs.declared.alloc.Global.{Global}
use Rattle.std.specs.declared.rc.Rc.{Rc}
use Rattle.asl_states.specs.Machine.{branches_view, started_at, target_name}
use Rattle.asl_states.specs.declared.target.Target.{Target}
use Rattle.asl_model.specs.Flow.{branch_inputs}
use Rattle.asl_model.specs.Machine.{scope_at}
use Rattle.asl_model.specs.Run.{AndActivity, Ready, started}
use Rattle.asl_model.specs.Tree.{Tree, AndTree, trees_of}
use Rattle.asl_processing.specs.Activities.{Begins, StartIn, given, inputs_of, ready_view, ready_children}
use Rattle.asl_processing.specs.Data.{datum_view}
use Rattle.asl_processing.specs.Leading.{Leads}
use Rattle.asl_processing.specs.Names.{name_in}
use Rattle.asl_processing.specs.declared.activities.Visit.{Visit}
use Rattle.asl_tree.specs.declared.Tree as trees

-- an execution that begins at a target that leads is that of the target's name
ready_at : (names : List (List ℕ)) (start : Target) (visit : Visit) → Leads names start → Begins start.number visit → ready_view names visit ≡ Ready (target_name start) (given visit) []
ready_at names start visit leads begins =
    ap (λ i. Ready (name_in names i) (given visit) visit.counts.items) begins.state ∙ ap (λ n. Ready n (given visit) visit.counts.items) leads.named ∙ ap (Ready (target_name start) (given visit)) begins.uncounted

-- ---- a child for each branch

-- the number of an execution's state, its input and its counts
abbrev seen : Visit → ℕ × Tree × List ℕ
seen visit = (visit.state, given visit, visit.counts.items)

-- those of one that begins at a start with that input
abbrev begun : Tree → Target → ℕ × Tree × List ℕ
begun v start = (start.number, v, [])

-- the children begin at these starts, in order, with that input
pub record BeginAt (v : Tree) (starts : List Target) (visits : List Visit) : Type 0 where
  are : map seen visits ≡ map (begun v) starts

pub none_begun : (v : Tree) (branches : List Target) (visits : List Visit) → visits ≡ [] → BeginAt v (take 0 branches) visits
none_begun v branches visits none = record { are = ap (map seen) none }

-- one more begins
pub one_begun : (branches : List Target) (i : ℕ) (start : Target) (input own : Rc trees.Tree Global) (visit : Visit) (done longer : List Visit) → i < length branches → start ≡ get_or branches i start → longer ≡ done ++ visit ∷ [] → Begins start.number visit → visit.raw ≡ own → datum_view own ≡ datum_view input
    → BeginAt (datum_view input) (take i branches) done → BeginAt (datum_view input) (take (i + 1) branches) longer
one_begun branches i start input own visit done longer within is grown begins raw same before =
    let v = datum_view input in
    let next : suc i ≡ i + 1 = omega arith in
    let front : take (i + 1) branches ≡ take i branches ++ start ∷ [] = ap (λ k. take k branches) (sym next) ∙ take-suc branches i start within ∙ ap (λ b. take i branches ++ b ∷ []) (sym is) in
    let last : seen visit ≡ begun v start =
    ap (λ k. (k, given visit, visit.counts.items)) begins.state ∙ ap (λ (d : Rc trees.Tree Global). (start.number, datum_view d, visit.counts.items)) raw ∙ ap (λ t. (start.number, t, visit.counts.items)) same ∙ ap (λ cs. (start.number, v, cs)) begins.uncounted in
    record {
      are = ap (map seen) grown ∙ map-append seen done (visit ∷ []) ∙ ap (λ xs. xs ++ seen visit ∷ []) before.are ∙ ap (λ x. map (begun v) (take i branches) ++ x ∷ []) last
          ∙ sym (map-append (begun v) (take i branches) (start ∷ [])) ∙ ap (map (begun v)) (sym front);
    }

-- where all have begun
pub all_begun : (v : Tree) (branches : List Target) (i : ℕ) (visits : List Visit) → length branches ≤ i → BeginAt v (take i branches) visits → BeginAt v branches visits
all_begun v branches i visits end h = subst (λ bs. BeginAt v bs visits) (take_all i branches end) h

-- their inputs are those of the branches
inputs_seen : (v : Tree) (branches : List Target) (visits : List Visit) → map seen visits ≡ map (begun v) branches → inputs_of visits ≡ branch_inputs (branches_view branches) v
inputs_seen v [] [] e = refl
inputs_seen v (b ∷ bs) [] e = absurd (cc)
inputs_seen v [] (x ∷ xs) e = absurd (cc)
inputs_seen v (b ∷ bs) (x ∷ xs) e =
    let first : seen x ≡ begun v b = cc in
    let rest : map seen xs ≡ map (begun v) bs = cc in
    ap (λ t. AndTree t (trees_of (map given xs))) (ap (λ (p : ℕ × Tree × List ℕ). p.1) first) ∙ ap (AndTree v) (inputs_seen v bs xs rest)

pub inputs_begun : (v : Tree) (branches : List Target) (visits : List Visit) → BeginAt v branches visits → inputs_of visits ≡ branch_inputs (branches_view branches) v
inputs_begun v branches visits h = inputs_seen v branches visits h.are

-- and they start in the branches
start_seen : (names : List (List ℕ)) (v : Tree) (branches : List Target) (visits : List Visit) → All (Leads names) branches → map seen visits ≡ map (begun v) branches → ready_children names visits ≡ started (λ i. scope_at i (branches_view branches)) (inputs_of visits)
start_seen names v [] [] leads e = refl
start_seen names v (b ∷ bs) [] leads e = absurd (cc)
start_seen names v [] (x ∷ xs) leads e = absurd (cc)
start_seen names v (b ∷ bs) (x ∷ xs) leads e =
    let first : seen x ≡ begun v b = cc in
    let rest : map seen xs ≡ map (begun v) bs = cc in
    let begins : Begins b.number x = record { state = ap (λ (p : ℕ × Tree × List ℕ). p.0) first; uncounted = ap (λ (p : ℕ × Tree × List ℕ). p.2) first } in
    ap (λ a. AndActivity a (ready_children names xs)) (ready_at names b x (leads 0 b (omega arith)) begins)
    ∙ ap (AndActivity (Ready (target_name b) (given x) [])) (start_seen names v bs xs (λ k d less. leads (suc k) d (omega (arith, less))) rest)

pub start_begun : (names : List (List ℕ)) (v : Tree) (branches : List Target) (visits : List Visit) → BeginAt v branches visits → All (Leads names) branches → StartIn names (λ i. scope_at i (branches_view branches)) visits
start_begun names v branches visits h leads = record { started = start_seen names v branches visits leads h.are }

-- ---- children that all begin at one start

alone_begins : (number : ℕ) (visit : Visit) → Begins number visit → All (Begins number) (visit ∷ [])
alone_begins number visit begins zero d less = begins
alone_begins number visit begins (suc k) d less = absurd (omega (arith, less))

-- one more
pub one_begins : (number : ℕ) (visit : Visit) (done longer : List Visit) → longer ≡ done ++ visit ∷ [] → Begins number visit → All (Begins number) done → All (Begins number) longer
one_begins number visit done longer grown begins before = subst (All (Begins number)) (sym grown) (All-append (Begins number) done (visit ∷ []) before (alone_begins number visit begins))

all_start : (names : List (List ℕ)) (start : Target) → Leads names start → (visits : List Visit) → All (Begins start.number) visits → ready_children names visits ≡ started (λ i. started_at start) (inputs_of visits)
all_start names start leads [] begin = refl
all_start names start leads (x ∷ xs) begin =
    ap (λ a. AndActivity a (ready_children names xs)) (ready_at names start x leads (begin 0 x (omega arith)))
    ∙ ap (AndActivity (Ready (target_name start) (given x) [])) (all_start names start leads xs (λ k d less. begin (suc k) d (omega (arith, less))))

-- they start there
pub start_alike : (names : List (List ℕ)) (start : Target) (visits : List Visit) → All (Begins start.number) visits → Leads names start → StartIn names (λ i. started_at start) visits
start_alike names start visits begin leads = record { started = all_start names start leads visits begin }
