-- How far children are, which are gone through in order, and their outputs.
use Rattle.std.proofs.Common.{◌≡◌, refl, sym, ap, ◌∙◌, subst, ℕ, suc, ◌+◌, ◌<◌, ◌≤◌, List, [], ◌∷◌, ◌++◌, length, get_or, drop, append_assoc, append-nil, Bool, true, false, ◌&&◌, map, Option, Some, None, Result, IfOk, IsOkAnd, Vec, Global, arith, rules}
use Rattle.std.proofs.lemmas.List.{map-append}
use Rattle.std.specs.Option.{option_to_list}
use Rattle.asl_states.specs.Machine.{kind_view}
use Rattle.asl_model.specs.Run as model
use Rattle.asl_model.specs.Run.{Activity, Ready, Waiting, Split, Done, Failed, Joining, AllDone, OneFailed, StillRunning, done_before, running_before, child_before, joining}
use Rattle.asl_model.specs.Tree.{Tree, Trees, NoTrees, AndTree, Array, trees_of}
use Rattle.asl_model.proofs.RunOptions.{some_inj}
use Rattle.asl_tree.specs.View.{view}
use Rattle.asl_tree.specs.declared.Tree as trees
use Rattle.asl_tree.specs.declared.Tree.{the_lemmas}
use Rattle.asl_run.specs.Acting.{Plans, PlansAs, by_settings, by_state, told_at}
use Rattle.asl_run.specs.Enabling.{has_ended}
use Rattle.asl_run.specs.Entries.{entry_view}
use Rattle.asl_run.specs.Joining.{failure_in, output_in, outputs_among, without_outputs}
use Rattle.asl_run.specs.Nodes.{AreHeads, shown_over}
use Rattle.asl_run.specs.Standing.{children_of}
use Rattle.asl_run.specs.declared.entries.Entry.{Entry}
use Rattle.asl_run.specs.declared.nodes.Node.{Node}
use Rattle.asl_run.specs.declared.planning.Here.{Here}
use Rattle.asl_run.specs.declared.planning.Plan.{Plan}
use Rattle.asl_run.proofs.Acted.{none_as, planned_as}
use Rattle.asl_run.proofs.Heads.{next_head, no_more}
use Rattle.asl_run.proofs.Planned.{preceded_so}

-- ---- how far they are

-- how far children are, behind others of which none has failed, and which have all ended or not
abbrev pub far_behind : Bool → Joining → Joining
far_behind true others = without_outputs others
far_behind false others = running_before (without_outputs others)

-- the children from number i on say how far they are
pub record Say (children : List Node) (i : ℕ) (ended : Bool) : Type 0 where
  pub same : (names : List (List ℕ)) (below : List Activity) → AreHeads names children below → without_outputs (joining 0 (children_of below)) ≡ far_behind ended (joining i (children_of (drop i below)))

running_behind : (ended : Bool) (others : Joining) → far_behind ended (running_before others) ≡ far_behind (ended && false) others
running_behind true (AllDone outputs) = refl
running_behind true (OneFailed i error cause) = refl
running_behind true StillRunning = refl
running_behind false (AllDone outputs) = refl
running_behind false (OneFailed i error cause) = refl
running_behind false StillRunning = refl

done_behind : (ended : Bool) (output : Tree) (others : Joining) → far_behind ended (done_before output others) ≡ far_behind (ended && true) others
done_behind true output (AllDone outputs) = refl
done_behind true output (OneFailed i error cause) = refl
done_behind true output StillRunning = refl
done_behind false output (AllDone outputs) = refl
done_behind false output (OneFailed i error cause) = refl
done_behind false output StillRunning = refl

-- a child that hasn't failed
child_behind : (ended : Bool) (i : ℕ) (child : Activity) (others : Joining) → None ≡ failure_in child → far_behind ended (child_before i child others) ≡ far_behind (ended && has_ended child) others
child_behind ended i (Ready n raw counts) others h = running_behind ended others
child_behind ended i (Waiting n raw counts payload) others h = running_behind ended others
child_behind ended i (Split n raw counts children) others h = running_behind ended others
child_behind ended i (Done output) others h = done_behind ended output others
child_behind ended i (Failed error cause) others h = absurd (cc)

failed_behind : (ended : Bool) (i : ℕ) (error cause : List ℕ) → far_behind ended (OneFailed i error cause) ≡ OneFailed i error cause
failed_behind true i error cause = refl
failed_behind false i error cause = refl

-- a child that has
child_failed : (ended : Bool) (i : ℕ) (child : Activity) (others : Joining) (error cause : List ℕ) → Some (error, cause) ≡ failure_in child → far_behind ended (child_before i child others) ≡ OneFailed i error cause
child_failed ended i (Ready n raw counts) others error cause h = absurd (cc)
child_failed ended i (Waiting n raw counts payload) others error cause h = absurd (cc)
child_failed ended i (Split n raw counts children) others error cause h = absurd (cc)
child_failed ended i (Done output) others error cause h = absurd (cc)
child_failed ended i (Failed e c) others error cause h =
    let same : (e, c) ≡ (error, cause) = some_inj (sym h) in
    failed_behind ended i e c ∙ ap (λ (p : List ℕ × List ℕ). OneFailed i p.0 p.1) same

-- one that hasn't failed, and others say how far they are
pub one_further : (children : List Node) (i : ℕ) (child : Node) (ended was : Bool) → i < length children → child ≡ get_or children i child → ((names : List (List ℕ)) (under : model.Activities) → None ≡ failure_in (shown_over names under child))
    → ((names : List (List ℕ)) (under : model.Activities) → was ≡ has_ended (shown_over names under child)) → Say children i ended → Say children (i + 1) (ended && was)
one_further children i child ended was within is failed ends h = record {
  same = λ names below heads.
      let there = next_head names children below i child heads within is in
      let behind = joining (suc i) (children_of (drop (suc i) below)) in
      let next : suc i ≡ i + 1 = omega arith in
      h.same names below heads ∙ ap (λ all. far_behind ended (joining i (children_of all))) there.is
      ∙ child_behind ended i (shown_over names there.under child) behind (failed names there.under)
      ∙ ap (λ (b : Bool). far_behind (ended && b) behind) (sym (ends names there.under))
      ∙ ap (λ k. far_behind (ended && was) (joining k (children_of (drop k below)))) next;
}

-- one has failed
pub one_failed : (children : List Node) (i : ℕ) (child : Node) (ended : Bool) (error cause : List ℕ) → i < length children → child ≡ get_or children i child → ((names : List (List ℕ)) (under : model.Activities) → Some (error, cause) ≡ failure_in (shown_over names under child))
    → Say children i ended → (names : List (List ℕ)) (below : List Activity) → AreHeads names children below → OneFailed i error cause ≡ without_outputs (joining 0 (children_of below))
one_failed children i child ended error cause within is failed h names below heads =
    let there = next_head names children below i child heads within is in
    let behind = joining (suc i) (children_of (drop (suc i) below)) in
    sym (h.same names below heads ∙ ap (λ all. far_behind ended (joining i (children_of all))) there.is ∙ child_failed ended i (shown_over names there.under child) behind error cause (failed names there.under))

all_gone : (children : List Node) (i : ℕ) (ended : Bool) → length children ≤ i → Say children i ended → (names : List (List ℕ)) (below : List Activity) → AreHeads names children below → far_behind ended (AllDone NoTrees) ≡ without_outputs (joining 0 (children_of below))
all_gone children i ended end h names below heads = sym (h.same names below heads ∙ ap (λ all. far_behind ended (joining i (children_of all))) (no_more names children below i heads end))

-- all have been gone through, and have ended
pub all_ended : (children : List Node) (i : ℕ) (ended : Bool) → true ≡ ended → length children ≤ i → Say children i ended → (names : List (List ℕ)) (below : List Activity) → AreHeads names children below → AllDone NoTrees ≡ without_outputs (joining 0 (children_of below))
all_ended children i ended have end h names below heads = ap (λ (b : Bool). far_behind b (AllDone NoTrees)) have ∙ all_gone children i ended end h names below heads

-- so, and some haven't
pub some_running : (children : List Node) (i : ℕ) (ended : Bool) → false ≡ ended → length children ≤ i → Say children i ended → (names : List (List ℕ)) (below : List Activity) → AreHeads names children below → StillRunning ≡ without_outputs (joining 0 (children_of below))
some_running children i ended lack end h names below heads = ap (λ (b : Bool). far_behind b (AllDone NoTrees)) lack ∙ all_gone children i ended end h names below heads

-- ---- their outputs

-- these outputs are those of the children before number i
pub record AreOut (children : List Node) (i : ℕ) (outputs : List trees.Tree) : Type 0 where
  pub same : (names : List (List ℕ)) (below : List Activity) → AreHeads names children below → map view outputs ++ outputs_among (drop i below) ≡ outputs_among below

-- a child's is added
pub one_out : (children : List Node) (i : ℕ) (child : Node) (outputs longer : List trees.Tree) → i < length children → child ≡ get_or children i child
    → ((names : List (List ℕ)) (under : model.Activities) → map view longer ≡ map view outputs ++ option_to_list (output_in (shown_over names under child))) → AreOut children i outputs → AreOut children (i + 1) longer
one_out children i child outputs longer within is added h = record {
  same = λ names below heads.
      let there = next_head names children below i child heads within is in
      let done = option_to_list (output_in (shown_over names there.under child)) in
      let next : i + 1 ≡ suc i = omega arith in
      ap (λ k. map view longer ++ outputs_among (drop k below)) next ∙ ap (λ ts. ts ++ outputs_among (drop (suc i) below)) (added names there.under)
      ∙ append_assoc (map view outputs) done (outputs_among (drop (suc i) below)) ∙ ap (λ all. map view outputs ++ outputs_among all) (sym there.is) ∙ h.same names below heads;
}

-- all are
pub all_out : (children : List Node) (i : ℕ) (outputs : List trees.Tree) → length children ≤ i → AreOut children i outputs → (names : List (List ℕ)) (below : List Activity) → AreHeads names children below → map view outputs ≡ outputs_among below
all_out children i outputs end h names below heads = sym (append-nil (map view outputs)) ∙ ap (λ all. map view outputs ++ outputs_among all) (sym (no_more names children below i heads end)) ∙ h.same names below heads

-- a child that is done
pub one_added : (outputs longer : List trees.Tree) (output t : trees.Tree) (there : Option Tree) → Some (view output) ≡ there → view t ≡ view output → longer ≡ outputs ++ t ∷ [] → map view longer ≡ map view outputs ++ option_to_list there
one_added outputs longer output t there done same grown =
    ap (map view) grown ∙ map-append view outputs (t ∷ []) ∙ ap (λ u. map view outputs ++ u ∷ []) same ∙ ap (λ o. map view outputs ++ option_to_list o) done

-- one that isn't
pub none_added : (outputs : List trees.Tree) (there : Option Tree) → None ≡ there → map view outputs ≡ map view outputs ++ option_to_list there
none_added outputs there none = sym (append-nil (map view outputs)) ∙ ap (λ o. map view outputs ++ option_to_list o) none

not_running : {B : Type 0} (j : Joining) (outputs : Trees) → running_before j ≡ AllDone outputs → B
not_running (AllDone done) outputs e = absurd (cc)
not_running (OneFailed k error cause) outputs e = absurd (cc)
not_running StillRunning outputs e = absurd (cc)

done_first : (output : Tree) (others : Trees) (j : Joining) (outputs : Trees) → ((done : Trees) → j ≡ AllDone done → others ≡ done) → done_before output j ≡ AllDone outputs → AndTree output others ≡ outputs
done_first output others (AllDone done) outputs further e = let same : AndTree output done ≡ outputs = cc in ap (AndTree output) (further done refl) ∙ same
done_first output others (OneFailed k error cause) outputs further e = absurd (cc)
done_first output others StillRunning outputs further e = absurd (cc)

-- where all are done, their outputs are those among them
all_done : (children : List Activity) (i : ℕ) (outputs : Trees) → joining i (children_of children) ≡ AllDone outputs → trees_of (outputs_among children) ≡ outputs
all_done [] i outputs e = cc
all_done (Ready n raw counts ∷ others) i outputs e = not_running (joining (suc i) (children_of others)) outputs e
all_done (Waiting n raw counts payload ∷ others) i outputs e = not_running (joining (suc i) (children_of others)) outputs e
all_done (Split n raw counts inner ∷ others) i outputs e = not_running (joining (suc i) (children_of others)) outputs e
all_done (Done output ∷ others) i outputs e = done_first output (trees_of (outputs_among others)) (joining (suc i) (children_of others)) outputs (λ done is. all_done others (suc i) done is) e
all_done (Failed error cause ∷ others) i outputs e = absurd (cc)

-- ---- what they come to

far_done : (j : Joining) → AllDone NoTrees ≡ without_outputs j → (outputs : Trees) × (j ≡ AllDone outputs)
far_done (AllDone outputs) e = (outputs, refl)
far_done (OneFailed i error cause) e = absurd (cc)
far_done StillRunning e = absurd (cc)

far_failed : (j : Joining) (i : ℕ) (error cause : List ℕ) → OneFailed i error cause ≡ without_outputs j → j ≡ OneFailed i error cause
far_failed (AllDone outputs) i error cause e = absurd (cc)
far_failed (OneFailed k e c) i error cause same = sym same
far_failed StillRunning i error cause e = absurd (cc)

far_running : (j : Joining) → StillRunning ≡ without_outputs j → j ≡ StillRunning
far_running (AllDone outputs) e = absurd (cc)
far_running (OneFailed i error cause) e = absurd (cc)
far_running StillRunning e = refl

view_list : (v : Vec trees.Tree Global) → view (trees.List v) ≡ Array (trees_of (map view v.items))
view_list v = search (rules, the_lemmas)

-- all are done: the state finishes with their outputs
pub joined_all : (here : Here) (plan : Plan) (below : List Activity) (outputs : Vec trees.Tree Global) → AllDone NoTrees ≡ without_outputs (joining 0 (children_of below)) → map view outputs.items ≡ outputs_among below
    → Plans here plan (by_settings model.finishes here (view (trees.List outputs))) → PlansAs here (Some plan) (by_state model.joins here (joining 0 (children_of below)))
joined_all here plan below outputs far told plans =
    let found = far_done (joining 0 (children_of below)) far in
    let same : trees_of (map view outputs.items) ≡ found.0 = ap trees_of told ∙ all_done below 0 found.0 found.1 in
    subst (λ j. PlansAs here (Some plan) (by_state model.joins here j)) (sym found.1)
    (planned_as here plan (by_settings model.finishes here (Array found.0)) (subst (λ t. Plans here plan (by_settings model.finishes here t)) (view_list outputs ∙ ap Array same) plans))

-- one has failed
pub joined_failed : (here : Here) (plan : Plan) (below : List Activity) (i : ℕ) (error cause : List ℕ) → OneFailed i error cause ≡ without_outputs (joining 0 (children_of below))
    → Plans here plan (model.entry_then (model.BranchFailed here.name.now i error cause) (by_settings model.troubled here (model.join_error (kind_view here.state.now.kind) error) cause)) → PlansAs here (Some plan) (by_state model.joins here (joining 0 (children_of below)))
joined_failed here plan below i error cause far plans =
    subst (λ j. PlansAs here (Some plan) (by_state model.joins here j)) (sym (far_failed (joining 0 (children_of below)) i error cause far))
    (planned_as here plan (model.entry_then (model.BranchFailed here.name.now i error cause) (by_settings model.troubled here (model.join_error (kind_view here.state.now.kind) error) cause)) plans)

-- some are still running
pub not_joined : (here : Here) (below : List Activity) → StillRunning ≡ without_outputs (joining 0 (children_of below)) → PlansAs here None (by_state model.joins here (joining 0 (children_of below)))
not_joined here below far =
    subst (λ j. PlansAs here None (by_state model.joins here j)) (sym (far_running (joining 0 (children_of below)) far)) (none_as here None refl)

-- a child has failed: the state is in trouble
pub broken_off : {E F : Type 0} (here : Here) (r : Result Plan E) (before : Plan) (made : Result Entry F) (i : ℕ) (error cause joined : List ℕ) → joined ≡ model.join_error (kind_view here.state.now.kind) error → Plans here before (by_settings model.troubled here joined cause)
    → IfOk r (λ p. IsOkAnd made (λ m. p.entries.items ≡ m ∷ before.entries.items)) → IfOk r (λ p. p.change ≡ before.change) → IfOk made (λ m. entry_view m ≡ told_at here.at.now (model.BranchFailed here.name.now i error cause))
    → IfOk r (λ p. Plans here p (model.entry_then (model.BranchFailed here.name.now i error cause) (by_settings model.troubled here (model.join_error (kind_view here.state.now.kind) error) cause)))
broken_off here r before made i error cause joined is plans first same told =
    preceded_so here r before made (model.BranchFailed here.name.now i error cause) (by_settings model.troubled here (model.join_error (kind_view here.state.now.kind) error) cause) first same told
    (subst (λ e. Plans here before (by_settings model.troubled here e cause)) is plans)
