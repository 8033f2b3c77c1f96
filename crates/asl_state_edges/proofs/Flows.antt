-- The walk over a shape on its way, and over what a path names.
use Rattle.std.proofs.Common.{◌≡◌, ◌<◌, ℕ, List, length, Result, Ok, Err, Vec, Global, sym, ap, ◌∙◌, subst}
use Rattle.std.specs.Prelude.{IfOk, IfErr}
use Rattle.asl_flow.specs.Doubts.{flow_view, AreDoubtsBelow, IsFlowIn}
use Rattle.asl_shape_paths.specs.Doubts.{doubtful_view, found_view, IsFoundIn}
use Rattle.asl_flow.specs.declared.doubts.Doubt.{Doubt}
use Rattle.asl_shape_paths.specs.declared.doubts.DoubtfulPath.{DoubtfulPath}
use Rattle.asl_model.specs.Edges.{Walked, breaks_missing, walk_then}
use Rattle.asl_model.specs.Names.{FieldName}
use Rattle.asl_model.specs.Shape.{Shape}
use Rattle.asl_model.specs.ShapeFlow as model
use Rattle.asl_numbered.specs.Expansion.{shape_at}
use Rattle.asl_state_edges.specs.Walks.{Adds, Pushes, TellsDoubts, TellsMissing}
use Rattle.asl_state_edges.specs.declared.found.Step.{Step}
use Rattle.asl_state_edges.proofs.Adding.{adds_anywhere, adds_same}

-- ---- a flow

module _ (b : List Shape) (flow : model.Flow) (answer : Result ℕ (Vec Doubt Global)) (is : flow ≡ flow_view b answer) (within : IsFlowIn (length b) answer) where
  -- a shape comes through
  pub flow_within : (n : ℕ) → answer ≡ Ok n → n < length b
  flow_within n through = subst (λ r. IfOk r (λ m. m < length b)) through within.within

  pub flow_walked : (c : List Shape) (e0 e1 : List Step) (go_on : Shape → List Walked) (n : ℕ) → answer ≡ Ok n → Adds c e0 e1 (go_on (shape_at b n)) → Adds c e0 e1 (walk_then go_on flow)
  flow_walked c e0 e1 go_on n through a = adds_same c e0 e1 (go_on (shape_at b n)) (walk_then go_on flow) (sym (ap (walk_then go_on) (is ∙ ap (flow_view b) through))) a

  -- it flows on
  pub flow_pushed : (e0 e1 : List Step) (go_on : Shape → List Walked) (n : ℕ) → answer ≡ Ok n → Pushes e0 e1 n go_on → Adds b e0 e1 (walk_then go_on flow)
  flow_pushed e0 e1 go_on n through p =
      flow_walked b e0 e1 go_on n through
      (adds_anywhere b (λ bound. n < bound) e0 e1 (λ table. go_on (shape_at table n)) (flow_within n through) p)

  -- there are doubts
  pub flow_doubted : (e0 e1 : List Step) (go_on : Shape → List Walked) (doubts : Vec Doubt Global) → answer ≡ Err doubts → TellsDoubts e0 e1 doubts.items → Adds b e0 e1 (walk_then go_on flow)
  flow_doubted e0 e1 go_on doubts stopped p =
      let here : AreDoubtsBelow (length b) doubts.items = subst (λ r. IfErr r (λ ds. AreDoubtsBelow (length b) ds.items)) stopped within.below in
      let below : AreDoubtsBelow (length b) doubts.items = here in
      let told = walk_then go_on (flow_view b (Err doubts)) in
      adds_same b e0 e1 told (walk_then go_on flow) (sym (ap (walk_then go_on) (is ∙ ap (flow_view b) stopped)))
      (adds_anywhere b (λ bound. AreDoubtsBelow bound doubts.items) e0 e1 (λ table. walk_then go_on (flow_view table (Err doubts))) below p)

-- ---- what a path names

module _ (b : List Shape) (found : Result Shape model.DoubtfulPath) (answer : Result ℕ DoubtfulPath) (is : found ≡ found_view b answer) (within : IsFoundIn (length b) answer) where
  pub found_walked : (c : List Shape) (e0 e1 : List Step) (go_on : Result Shape model.DoubtfulPath → List Walked) (n : ℕ) → answer ≡ Ok n → Adds c e0 e1 (go_on (Ok (shape_at b n))) → Adds c e0 e1 (go_on found)
  found_walked c e0 e1 go_on n there a = adds_same c e0 e1 (go_on (Ok (shape_at b n))) (go_on found) (sym (ap go_on (is ∙ ap (found_view b) there))) a

  -- nothing may be there
  pub found_missing : (e0 e1 : List Step) (field : FieldName) (go_on : Result Shape model.DoubtfulPath → List Walked) (path : DoubtfulPath) → ((d : model.DoubtfulPath) → breaks_missing field d ≡ go_on (Err d)) → answer ≡ Err path → TellsMissing e0 e1 field path → Adds b e0 e1 (go_on found)
  found_missing e0 e1 field go_on path told missing p =
      let here : path.shape < length b = subst (λ r. IfErr r (λ d. d.shape < length b)) missing within.below in
      adds_same b e0 e1 (breaks_missing field (doubtful_view b path)) (go_on found) (told (doubtful_view b path) ∙ sym (ap go_on (is ∙ ap (found_view b) missing)))
      (adds_anywhere b (λ bound. path.shape < bound) e0 e1 (λ table. breaks_missing field (doubtful_view table path)) here p)
