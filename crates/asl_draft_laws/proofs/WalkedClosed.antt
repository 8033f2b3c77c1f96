-- Where all that flows through a state is inside what is certified there, and nothing stops it, the certificate is closed
-- at the state, whatever its type.
use Rattle.std.proofs.Common.{◌≡◌, ℕ, suc, List, [], ◌∷◌, ◌++◌, Contains, length, ◌⊎◌, inl, inr, ◌∙◌, Bool, true, false, Option, Some, None, Result, Ok, Err, refl, sym, ap, subst, arith}
use Rattle.std.specs.Prelude.{IsTrue, is_some, codes, if◌then◌else◌}
use Rattle.std.proofs.lemmas.Bool.{false≢true}
use Rattle.asl_model.specs.Tree.{Tree, Array, Trees, count}
use Rattle.asl_model.specs.Path.{Segment}
use Rattle.asl_model.specs.Placing.{placed}
use Rattle.asl_model.specs.Test.{Rule, truth}
use Rattle.asl_model.specs.Machine.{Catcher, Settings, Delay, Seconds, SecondsPath, Timestamp, TimestampPath, StateOf, Kind, Pass, Task, Choice, Wait, Succeed, Fail, Parallel, Map, Scopes, NoScopes, AndScope, start_of, scope_at, how_many}
use Rattle.asl_model.specs.Flow.{effective_input, at_output_path, output_of, chosen, delay_in, branch_inputs, work_of, first_move}
use Rattle.asl_model.specs.Run.{error_output, error_placed}
use Rattle.asl_model.specs.Shape.{Shape, Never, ArrayShape, Shapes, Has, has, elements_have, inhabited}
use Rattle.asl_model.specs.ShapeFlow.{DoubtfulPath, found, put, literal, is_integer_shape, is_string_shape, rule_shape, is_settled, Flow, output_flow, result_leaves}
use Rattle.asl_model.specs.Certificate.{Declared, StateShapes, Certificate, certified, certified_input, input_among, branches_in, is_map, branch_end, item_end, or_never, gives_of, EachHas, OutputFits, WorkFits, CaughtFits, CatchersFit, HasEntry, IsClosedAt}
use Rattle.asl_model.specs.Finding.{FindingFault, NoDefault, as_first_elements, element_shape, item_flow, map_result, array_parts, error_output_shape, error_placed_shape, effective_flow}
use Rattle.asl_model.specs.Edges.{Walked, breaks_unless, walk_then, to_next, to_end, onward, walk_named, walk_delay, to_child, to_branches, walk_items_result, walk_elements, with_elements_walked, walk_items, walk_chosen, walk_rule, walk_rules, walk_default, walk_caught, walk_catchers, walk_result, walk_work, walk_settled, walk}
use Rattle.asl_draft_laws.specs.Fits.{AllFit}
use Rattle.asl_model.proofs.Listed.{none_in, first_or_later}
use Rattle.asl_model.proofs.SettledRules.{AllDecided, SomeTrue, settled-true}
use Rattle.asl_model.proofs.ShapeInhabited.{has-inhabited}
use Rattle.asl_model.proofs.FindingStates.{number-there, text-there, branches-have, map-has, items-there, items-have, item-told, inputs-give, each-fits, error-has}
use Rattle.asl_model.proofs.ShapeLook.{found-looked}
use Rattle.asl_model.proofs.ShapePut.{put-gives}
use Rattle.asl_model.proofs.ShapeTemplate.{found-gives, literal-has_itself}
use Rattle.asl_model.proofs.ShapeRule.{rule-decided}
use Rattle.asl_model.proofs.ShapeLeave.{IsTold, leaves-told, output-told, effective-told, leaves-gives, output-gives, effective-gives}

-- ---- steps that fit

module _ (declared : Declared) (certificate : Certificate) (end : Shape) (n : List ℕ) where
  -- all of the steps fit
  abbrev Fit : List Walked → Type 0
  Fit = AllFit declared certificate end n

  both-fit : (xs ys : List Walked) → Fit (xs ++ ys) → Fit xs × Fit ys
  both-fit [] ys f = (tt, f)
  both-fit (x ∷ xs) ys f =
      let parts = both-fit xs ys f.1 in
      ((f.0, parts.0), parts.1)

  then-fit : (go_on : Shape → List Walked) (flow : Flow) → IsTold flow → Fit (walk_then go_on flow) → (s : Shape) × (flow ≡ Ok s) × Fit (go_on s)
  then-fit go_on (Ok s) told f = (s, refl, f)
  then-fit go_on (Err []) told f = absurd told
  then-fit go_on (Err (fault ∷ further)) told f = absurd f.0

  unless-fit : (b : Bool) (field : List ℕ) (fault : FindingFault) → Fit (breaks_unless b field fault) → IsTrue b
  unless-fit true field fault f = refl
  unless-fit false field fault f = absurd f.0

  kind-fit : (field : List ℕ) (test : Shape → Bool) (result : Result Shape DoubtfulPath) → Fit (walk_named field test result) → (t : Shape) × (result ≡ Ok t) × IsTrue (test t)
  kind-fit field test (Ok t) f = (t, refl, unless-fit (test t) field Rattle.asl_model.specs.Finding.WrongKind f)
  kind-fit field test (Err doubtful) f = absurd f.0

  delay-fits : (delay : Delay) (s : Shape) (u : Tree) → Fit (walk_delay delay s) → Has s u → (t : Tree) × (delay_in delay u ≡ Ok t)
  delay-fits (Seconds k) s u f m = (u, refl)
  delay-fits (SecondsPath path) s u f m =
      let kind = kind-fit (codes "SecondsPath") is_integer_shape (found path s) f in
      let given = found-gives path s kind.0 u kind.1 m in
      let number = number-there (codes "SecondsPath") kind.0 given.0 kind.2 given.2 in
      (number.0, rw (given.1) (number.1))
  delay-fits (Timestamp t) s u f m = (u, refl)
  delay-fits (TimestampPath path) s u f m =
      let kind = kind-fit (codes "TimestampPath") is_string_shape (found path s) f in
      let given = found-gives path s kind.0 u kind.1 m in
      let text = text-there (codes "TimestampPath") kind.0 given.0 kind.2 given.2 in
      (text.0, rw (given.1) (text.1))

  parts-fit : (go_on : Shapes × Shape → List Walked) (o : Option (Shapes × Shape)) → Fit (with_elements_walked go_on o) → (parts : Shapes × Shape) × (o ≡ Some parts) × Fit (go_on parts)
  parts-fit go_on None f = absurd f.0
  parts-fit go_on (Some parts) f = (parts, refl, f)

  items-parts : (go_on : Shapes × Shape → List Walked) (result : Result Shape DoubtfulPath) → Fit (walk_items go_on result) → (first : Shapes) × (rest : Shape) × (named : Shape) × (result ≡ Ok named) × (array_parts named ≡ Some (first, rest)) × Fit (go_on (first, rest))
  items-parts go_on (Err doubtful) f = absurd f.0
  items-parts go_on (Ok named) f =
      let parts = parts-fit go_on (array_parts named) f in
      (parts.0.0, parts.0.1, named, refl, parts.1, parts.2)

  -- Catchers

  caught-fits : (path : Option (List Segment)) (next : List ℕ) (input : Shape) (v : Tree) (error cause : List ℕ) → Fit (walk_caught next (error_placed_shape path input)) → Has input v → CaughtFits certificate next (error_placed path v error cause)
  caught-fits None next input v error cause f h = f.0 v h
  caught-fits (Some path) next input v error cause f h = go (put path error_output_shape input) refl f
    where
      go : (result : Result Shape ℕ) → put path error_output_shape input ≡ result → Fit (walk_caught next result) → CaughtFits certificate next (placed path (error_output error cause) v)
      go (Err k) at f' = absurd f'.0
      go (Ok r) at f' =
          let given = put-gives path error_output_shape input r (error_output error cause) v at (error-has error cause) h in
          rw (given.1) (f'.0 given.0 given.2)

  catchers-fit : (catchers : List Catcher) (input : Shape) (v : Tree) → Fit (walk_catchers input catchers) → Has input v → CatchersFit certificate v catchers
  catchers-fit [] input v f h = tt
  catchers-fit (catcher ∷ others) input v f h =
      let parts = both-fit (walk_caught catcher.next (error_placed_shape catcher.result_path input)) (walk_catchers input others) f in
      (λ error cause. caught-fits catcher.result_path catcher.next input v error cause parts.0 h, catchers-fit others input v parts.1 h)

  -- a branch's inputs
  each-branch : (branches : Scopes) (s : Shape) (u : Tree) → Fit (to_branches branches s) → Has s u → EachHas (λ i. certified_input certificate (start_of (scope_at i branches))) (branch_inputs branches u)
  each-branch NoScopes s u f m = tt
  each-branch (AndScope scope others) s u f m = (f.0 u m, each-branch others s u f.1 m)

  -- Outputs

  next-fits : (field next : List ℕ) (output : Shape) (u : Tree) → Fit (to_next field next output) → Has output u → OutputFits certificate end n (Some next) (Ok u)
  next-fits field next output u f m = (f.0 u m, f.1.0 u m)

  end-fits : (field : List ℕ) (output : Shape) (u : Tree) → Fit (to_end field output) → Has output u → OutputFits certificate end n None (Ok u)
  end-fits field output u f m = (f.0 u m, f.1.0 u m)

  output-fits : (next : Option (List ℕ)) (output : Shape) (u : Tree) → Fit (onward next output) → Has output u → OutputFits certificate end n next (Ok u)
  output-fits None output u f m = end-fits (codes "End") output u f m
  output-fits (Some next) output u f m = next-fits (codes "Next") next output u f m

  module _ (entry : StateShapes) (at : certified certificate n ≡ Some entry) where
    -- an output by `ResultSelector`, `ResultPath` and `OutputPath`
    result-fits : (settings : Settings) (result : Shape) (v x : Tree) → Fit (walk_then (onward settings.next) (result_leaves settings entry.input result)) → Has entry.input v → Has result x → OutputFits certificate end n settings.next (output_of settings v x)
    result-fits settings result v x f h m =
        let parts = then-fit (onward settings.next) (result_leaves settings entry.input result) (leaves-told settings entry.input result) f in
        let given = leaves-gives settings entry.input result parts.0 v x parts.1 h m in
        rw (given.1) (output-fits settings.next parts.0 given.0 parts.2 given.2)

    -- an output by `OutputPath` alone
    passed-fits : (settings : Settings) (next : Option (List ℕ)) (onto : Shape → List Walked) (s : Shape) (v u : Tree) → ((output : Shape) (w : Tree) → Fit (onto output) → Has output w → OutputFits certificate end n next (Ok w)) → Fit (walk_then onto (if inhabited entry.input then output_flow settings s else Ok Never)) → Has entry.input v → Has s u → OutputFits certificate end n next (at_output_path settings u)
    passed-fits settings next onto s v u fits f h m =
        let live : Fit (walk_then onto (output_flow settings s)) = rw (has-inhabited entry.input v h) at f in
        let parts = then-fit onto (output_flow settings s) (output-told settings s) live in
        let given = output-gives settings s parts.0 u parts.1 m in
        rw (given.1) (fits parts.0 given.0 parts.2 given.2)

    -- the next state of a Choice
    module _ (settings : Settings) (all : List Rule) (fallback : Option (List ℕ)) where
      abbrev kind : Kind
      kind = Choice all fallback

      one-chosen : (field next : List ℕ) (s : Shape) (v u : Tree) → Fit (walk_chosen settings kind entry.input field next s) → Has entry.input v → Has s u → OutputFits certificate end n (Some next) (at_output_path settings u)
      one-chosen field next s v u f h m = passed-fits settings (Some next) (to_next field next) s v u (λ output w. next-fits field next output w) f h m

      -- the state that is chosen, and what flows there
      abbrev ChosenFits : List Rule → Option (List ℕ) → Tree → Type 0
      ChosenFits rules default u = (next : List ℕ) × (chosen rules default u ≡ Ok next) × OutputFits certificate end n (Some next) (at_output_path settings u)

      -- the rules that nothing stops are decided
      rules-decided : (rules : List Rule) (s : Shape) (u : Tree) → Fit (walk_rules settings kind entry.input rules s) → Has s u → AllDecided rules u
      rules-decided [] s u f m rule c = none_in rule c
      rules-decided (first ∷ rules) s u f m rule c = go (first_or_later first rule rules c) (rules-decided rules s u parts.1 m rule)
        where
          parts : Fit (walk_rule settings kind entry.input first.next (rule_shape first.test s)) × Fit (walk_rules settings kind entry.input rules s)
          parts = both-fit (walk_rule settings kind entry.input first.next (rule_shape first.test s)) (walk_rules settings kind entry.input rules s) f

          own : (narrowed : Result Shape DoubtfulPath) → rule_shape first.test s ≡ narrowed → Fit (walk_rule settings kind entry.input first.next narrowed) → (value : Bool) × (truth first.test u ≡ Some value)
          own (Err doubtful) is f' = absurd f'.0
          own (Ok r) is f' =
              let known = rule-decided first.test s r u is m in
              (known.0, known.1)

          go : (first ≡ rule) ⊎ Contains rules rule → (Contains rules rule → (value : Bool) × (truth rule.test u ≡ Some value)) → (value : Bool) × (truth rule.test u ≡ Some value)
          go (inl is) below = subst (λ (r : Rule). (value : Bool) × (truth r.test u ≡ Some value)) is (own (rule_shape first.test s) refl parts.0)
          go (inr d) below = below d

      by-rules : (rules : List Rule) (default : Option (List ℕ)) (s : Shape) (v u : Tree) → Fit (walk_rules settings kind entry.input rules s) → Fit (walk_default settings kind entry.input all default s) → IsTrue (is_some default) ⊎ SomeTrue rules u → Has entry.input v → Has s u → ChosenFits rules default u
      by-rules [] None s v u f g (inl there) h m = absurd (false≢true there)
      by-rules [] None s v u f g (inr (rule, among, is)) h m = none_in rule among
      by-rules [] (Some next) s v u f g some h m = (next, refl, one-chosen (codes "Default") next s v u g h m)
      by-rules (rule ∷ rules) default s v u f g some h m = go (rule_shape rule.test s) refl parts.0 (λ later. by-rules rules default s v u parts.1 g later h m)
        where
          parts : Fit (walk_rule settings kind entry.input rule.next (rule_shape rule.test s)) × Fit (walk_rules settings kind entry.input rules s)
          parts = both-fit (walk_rule settings kind entry.input rule.next (rule_shape rule.test s)) (walk_rules settings kind entry.input rules s) f

          -- where the first rule is false, a later one is true
          later-true : truth rule.test u ≡ Some false → IsTrue (is_some default) ⊎ SomeTrue (rule ∷ rules) u → IsTrue (is_some default) ⊎ SomeTrue rules u
          later-true is (inl there) = inl there
          later-true is (inr (other, among, true_of_it)) = which (first_or_later rule other rules among)
            where
              which : (rule ≡ other) ⊎ Contains rules other → IsTrue (is_some default) ⊎ SomeTrue rules u
              which (inl same) =
                  let both : Some false ≡ Some true = sym is ∙ (ap (λ (r : Rule). truth r.test u) same ∙ true_of_it) in
                  absurd (cc)
              which (inr c) = inr (other, c, true_of_it)

          by-truth : (r : Shape) (b : Bool) → truth rule.test u ≡ Some b → (IsTrue b → Has r u) → Fit (walk_rule settings kind entry.input rule.next (Ok r)) → (IsTrue (is_some default) ⊎ SomeTrue rules u → ChosenFits rules default u) → ChosenFits (rule ∷ rules) default u
          by-truth r true is holds f' below = (rule.next, rw is refl, one-chosen (codes "Choices") rule.next r v u f' h (holds refl))
          by-truth r false is holds f' below =
              let next = below (later-true is some) in
              (next.0, rw is (next.1), next.2)

          go : (narrowed : Result Shape DoubtfulPath) → rule_shape rule.test s ≡ narrowed → Fit (walk_rule settings kind entry.input rule.next narrowed) → (IsTrue (is_some default) ⊎ SomeTrue rules u → ChosenFits rules default u) → ChosenFits (rule ∷ rules) default u
          go (Err doubtful) is f' below = absurd f'.0
          go (Ok r) is f' below =
              let truth_known = rule-decided rule.test s r u is m in
              by-truth r truth_known.0 truth_known.1 truth_known.2 f' below

      -- there is a `Default`, or one of the rules is true
      some-true : (default : Option (List ℕ)) (s : Shape) (u : Tree) → Fit (walk_rules settings kind entry.input all s) → Fit (walk_default settings kind entry.input all default s) → Has s u → IsTrue (is_some default) ⊎ SomeTrue all u
      some-true None s u f g m = inr (settled-true all s u (unless-fit (is_settled all s) (codes "Default") NoDefault g) (rules-decided all s u f m) m)
      some-true (Some next) s u f g m = inl refl

    -- what the first move comes to, for an effective input
    work-fits : (kind : Kind) (settings : Settings) (s : Shape) (v u : Tree) → length entry.branches ≡ branches_in kind → is_some entry.item ≡ is_map kind → Fit (walk_work settings kind entry s) → Fit (walk_settled (gives_of declared n) settings kind entry) → effective_input settings v ≡ Ok u → Has s u → Has entry.input v → WorkFits declared certificate end n (StateOf settings kind) v (work_of kind settings v)
    work-fits (Pass None) settings s v u long item f g eff m h = rw eff (result-fits settings s v u f h m)
    work-fits (Pass (Some t)) settings s v u long item f g eff m h = rw eff (result-fits settings (literal t) v t g h (literal-has_itself t))
    work-fits (Task resource) settings s v u long item f g eff m h = rw eff (f.0 u m, λ answer given. result-fits settings (gives_of declared n) v answer g h given)
    work-fits (Choice rules default) settings s v u long item f g eff m h =
        let parts = both-fit (walk_rules settings (Choice rules default) entry.input rules s) (walk_default settings (Choice rules default) entry.input rules default s) f in
        let next = by-rules settings rules default rules default s v u parts.0 parts.1 (some-true settings rules default default s u parts.0 parts.1 m) h m in
        rw (eff, next.1) (next.2)
    work-fits (Wait delay) settings s v u long item f g eff m h =
        let parts = both-fit (walk_delay delay s) (walk_result settings (Wait delay) entry.input s) f in
        let waits = delay-fits delay s u parts.0 m in
        rw (eff, waits.1) (passed-fits settings settings.next (onward settings.next) s v u (λ output w. output-fits settings.next output w) parts.1 h m)
    work-fits Succeed settings s v u long item f g eff m h = rw eff (passed-fits settings None (to_end (codes "Type")) s v u (λ output w. end-fits (codes "Type") output w) f h m)
    work-fits (Fail error cause) settings s v u long item f g eff m h = tt
    work-fits (Parallel branches) settings s v u long item f g eff m h =
        rw eff (each-branch branches s u f m, λ outputs same each. result-fits settings (ArrayShape (as_first_elements entry.branches) Never) v (Array outputs) g h (branches-have entry.branches outputs (as_many outputs same) (subst (λ (o : Option StateShapes). EachHas (λ i. or_never (branch_end i o)) outputs) at each)))
      where
        inputs-count : (branches' : Scopes) (u' : Tree) → count (branch_inputs branches' u') ≡ how_many branches'
        inputs-count NoScopes u' = refl
        inputs-count (AndScope scope others) u' = ap suc (inputs-count others u')

        as_many : (outputs : Trees) → count outputs ≡ count (branch_inputs branches u) → count outputs ≡ length entry.branches
        as_many outputs same =
            let of_branches : count (branch_inputs branches u) ≡ how_many branches = inputs-count branches u in
            omega arith
    work-fits (Map items selector processor) settings s v u long item f g eff m h =
        let parts = items-parts (walk_elements settings (Map items selector processor) entry selector processor s) (found items s) f in
        let element = element_shape parts.0 parts.1 in
        let both = both-fit (walk_then (to_child (codes "ItemProcessor") processor) (item_flow selector s element)) (walk_items_result settings (Map items selector processor) entry.input entry.item (parts.0, parts.1)) parts.5 in
        let list = items-there items s parts.2 parts.0 parts.1 u (found-looked items s parts.2 parts.3) parts.4 m in
        let flow = then-fit (to_child (codes "ItemProcessor") processor) (item_flow selector s element) (item-told selector s element) both.0 in
        let given = inputs-give selector s element flow.0 u 0 list.0 flow.1 m (items-have parts.0 parts.1 list.0 list.2) in
        rw (eff, list.1, given.1) (each-fits flow.0 (certified_input certificate (start_of processor)) given.0 (λ w held. flow.2.0 w held) given.3, λ outputs same each. outputs-fit entry.item refl outputs parts.0 parts.1 list.0 given.0 list.2 given.2 same (subst (λ (o : Option StateShapes). EachHas (λ i. or_never (item_end o)) outputs) at each) both.1)
      where
        outputs-fit : (shape : Option Shape) → entry.item ≡ shape → (outputs : Trees) (first : Shapes) (rest : Shape) (ts us : Trees) → IsTrue (elements_have first (has rest) ts) → count us ≡ count ts → count outputs ≡ count us → EachHas (λ i. or_never shape) outputs → Fit (walk_items_result settings (Map items selector processor) entry.input shape (first, rest)) → OutputFits certificate end n settings.next (output_of settings v (Array outputs))
        outputs-fit None is outputs first rest ts us held many same each fits =
            let gone : is_some {T = Shape} None ≡ true = subst (λ (o : Option Shape). is_some o ≡ true) is item in
            absurd (false≢true gone)
        outputs-fit (Some one) is outputs first rest ts us held many same each fits =
            let alike : count outputs ≡ count ts = omega arith in
            result-fits settings (map_result one first rest) v (Array outputs) fits h (map-has one first rest ts outputs held alike each)

  -- the certificate is closed at the state
  pub walked-closed : (settings : Settings) (kind : Kind) (there : HasEntry certificate n kind) → Fit (walk (gives_of declared n) settings kind there.shapes) → IsClosedAt declared certificate end n (StateOf settings kind)
  walked-closed settings kind there f = record { entry = there; work = λ v h. works v (member v h); catchers = λ v h. catchers-fit settings.catchers there.shapes.input v (parts v (member v h)).2 (member v h) }
    where
      member : (v : Tree) → Has (certified_input certificate n) v → Has there.shapes.input v
      member v h = subst (λ (o : Option StateShapes). Has (input_among o) v) there.stands h

      -- what comes of the effective input, what needs none, and the catchers
      worked : List Walked
      worked = walk_then (walk_work settings kind there.shapes) (effective_flow settings there.shapes.input)

      settled : List Walked
      settled = walk_settled (gives_of declared n) settings kind there.shapes

      caught : List Walked
      caught = walk_catchers there.shapes.input settings.catchers

      parts : (v : Tree) → Has there.shapes.input v → Fit worked × Fit settled × Fit caught
      parts v h =
          let first = both-fit worked (settled ++ caught) (rw (has-inhabited there.shapes.input v h) at f) in
          let further = both-fit settled caught first.1 in
          (first.0, further.0, further.1)

      works : (v : Tree) → Has there.shapes.input v → WorkFits declared certificate end n (StateOf settings kind) v (first_move (StateOf settings kind) v)
      works v h =
          let all = parts v h in
          let effective = then-fit (walk_work settings kind there.shapes) (effective_flow settings there.shapes.input) (effective-told settings there.shapes.input) all.0 in
          let given = effective-gives settings there.shapes.input effective.0 v effective.1 h in
          work-fits there.shapes there.stands kind settings effective.0 v given.0 there.branches there.item effective.2 all.1 given.1 given.2 h
