-- The enabled places are exactly those where a step is.
use Rattle.std.proofs.Common.{◌≡◌, ◌⊎◌, ◌↔◌, refl, sym, ap, ◌∙◌, subst, inl, inr, ⊎_elim, arith, ℕ, zero, suc, ◌+◌, List, [], ◌∷◌, ◌++◌, map, Option, Some, None, is_some, IsTrue, option_and_then}
use Rattle.asl_model.specs.Tree.{Tree}
use Rattle.asl_model.specs.Machine.{Scope, State, state_named}
use Rattle.asl_model.specs.Run.{Activity, Ready, Waiting, Split, Done, Failed, Activities, NoActivities, AndActivity, Action, Move, Gives, FailsTask, Joining, AllDone, OneFailed, StillRunning, joining, joins, moves_ready, moves_waiting, moves_split, scope_below, child_at, step_at, Want, WantsMove, WantsAnswer, want_of, wanted_here, join_wanted, down_from, enabled, enabled_below, Enables}
use Rattle.asl_model.proofs.RunOptions.{some_inj, none_some, some_there, there_some, false_true}
use Rattle.asl_model.proofs.RunApart.{step_below, step_above}

-- two places with the same kind of event
abbrev Same : List ℕ × Want → List ℕ × Want → Type 0
Same v w = v ≡ w

-- the kinds differ
move_answer : {B : Type 0} {p q : List ℕ} → Same (p, WantsMove) (q, WantsAnswer) → B
move_answer {p = p} {q = q} e = let f : WantsMove ≡ WantsAnswer = ap (λ (w : List ℕ × Want). w.1) e in absurd (cc)

answer_move : {B : Type 0} {p q : List ℕ} → Same (p, WantsAnswer) (q, WantsMove) → B
answer_move {p = p} {q = q} e = let f : WantsAnswer ≡ WantsMove = ap (λ (w : List ℕ × Want). w.1) e in absurd (cc)

-- so do the places
here_below : {B : Type 0} {i : ℕ} {p : List ℕ} {v w : Want} → Same ([], v) (i ∷ p, w) → B
here_below {i = i} {p = p} {v = v} {w = w} e = let f : [] ≡ i ∷ p = ap (λ (w : List ℕ × Want). w.0) e in absurd (cc)

below_here : {B : Type 0} {i : ℕ} {p : List ℕ} {v w : Want} → Same (i ∷ p, v) ([], w) → B
below_here {i = i} {p = p} {v = v} {w = w} e = let f : i ∷ p ≡ [] = ap (λ (w : List ℕ × Want). w.0) e in absurd (cc)

-- lists in a row
either_part : (front back : List (List ℕ × Want)) (p : List ℕ) (w : Want) → Enables (front ++ back) p w → Enables front p w ⊎ Enables back p w
either_part [] back p w h = inr h
either_part (first ∷ front) back p w (inl e) = inl (inl e)
either_part (first ∷ front) back p w (inr h) = go (either_part front back p w h)
  where
    go : Enables front p w ⊎ Enables back p w → Enables (first ∷ front) p w ⊎ Enables back p w
    go (inl h) = inl (inr h)
    go (inr h) = inr h

in_front : (front back : List (List ℕ × Want)) (p : List ℕ) (w : Want) → Enables front p w → Enables (front ++ back) p w
in_front [] back p w h = absurd h
in_front (first ∷ front) back p w (inl e) = inl e
in_front (first ∷ front) back p w (inr h) = inr (in_front front back p w h)

in_back : (front back : List (List ℕ × Want)) (p : List ℕ) (w : Want) → Enables back p w → Enables (front ++ back) p w
in_back [] back p w h = h
in_back (first ∷ front) back p w h = inr (in_back front back p w h)

-- the places of a child, seen from above
raised : (k : ℕ) (places : List (List ℕ × Want)) (p : List ℕ) (w : Want) → Enables places p w → Enables (map (down_from k) places) (k ∷ p) w
raised k [] p w h = absurd h
raised k (first ∷ places) p w (inl e) = inl (ap (down_from k) e)
raised k (first ∷ places) p w (inr h) = inr (raised k places p w h)

lowered : (k m : ℕ) (places : List (List ℕ × Want)) (p : List ℕ) (w : Want) → Enables (map (down_from k) places) (m ∷ p) w → (m ≡ k) × Enables places p w
lowered k m [] p w h = absurd h
lowered k m (first ∷ places) p w (inl e) =
    let number : k ∷ first.0 ≡ m ∷ p = ap (λ (v : List ℕ × Want). v.0) e in
    let want : first.1 ≡ w = ap (λ (v : List ℕ × Want). v.1) e in
    let place : first.0 ≡ p = cc in
    let same : m ≡ k = cc in
    (same, inl (pair place want))
  where
    pair : {v : List ℕ × Want} → v.0 ≡ p → v.1 ≡ w → Same v (p, w)
    pair {v = v} e f = ap (λ (q : List ℕ). (q, v.1)) e ∙ ap (λ (u : Want). (p, u)) f
lowered k m (first ∷ places) p w (inr h) = let further = lowered k m places p w h in (further.0, inr further.1)

never_here : (k : ℕ) (places : List (List ℕ × Want)) (w : Want) → Enables (map (down_from k) places) [] w → ⊥
never_here k [] w h = h
never_here k (first ∷ places) w (inl e) = below_here e
never_here k (first ∷ places) w (inr h) = never_here k places w h

none_below_here : (children : Activities) (scopes : ℕ → Scope) (k : ℕ) (w : Want) → Enables (enabled_below children scopes k) [] w → ⊥
none_below_here NoActivities scopes k w h = h
none_below_here (AndActivity child others) scopes k w h = go (either_part (map (down_from k) (enabled child (scopes k))) (enabled_below others scopes (suc k)) [] w h) (none_below_here others scopes (suc k) w)
  where
    go : Enables (map (down_from k) (enabled child (scopes k))) [] w ⊎ Enables (enabled_below others scopes (suc k)) [] w → (Enables (enabled_below others scopes (suc k)) [] w → ⊥) → ⊥
    go (inl h) further = never_here k (enabled child (scopes k)) w h
    go (inr h) further = further h

-- a place below a Split is one of a child
record IsChildPlace (children : Activities) (scopes : ℕ → Scope) (k m : ℕ) (p : List ℕ) (w : Want) : Type 0 where
  number : ℕ
  child : Activity
  counted : m ≡ k + number
  stands : child_at number children ≡ Some child
  listed : Enables (enabled child (scopes m)) p w

of_child : (children : Activities) (scopes : ℕ → Scope) (k m : ℕ) (p : List ℕ) (w : Want) → Enables (enabled_below children scopes k) (m ∷ p) w → IsChildPlace children scopes k m p w
of_child NoActivities scopes k m p w h = absurd h
of_child (AndActivity child others) scopes k m p w h = go (either_part (map (down_from k) (enabled child (scopes k))) (enabled_below others scopes (suc k)) (m ∷ p) w h) (of_child others scopes (suc k) m p w)
  where
    go : Enables (map (down_from k) (enabled child (scopes k))) (m ∷ p) w ⊎ Enables (enabled_below others scopes (suc k)) (m ∷ p) w → (Enables (enabled_below others scopes (suc k)) (m ∷ p) w → IsChildPlace others scopes (suc k) m p w) → IsChildPlace (AndActivity child others) scopes k m p w
    go (inl h) further =
        let found = lowered k m (enabled child (scopes k)) p w h in
        let same : m ≡ k = found.0 in
        record { number = 0; child = child; counted = omega arith; stands = refl; listed = subst (λ (n : ℕ). Enables (enabled child (scopes n)) p w) (sym same) found.1 }
    go (inr h) further =
        let found = further h in
        let counted : m ≡ suc k + found.number = found.counted in
        record { number = suc found.number; child = found.child; counted = omega arith; stands = found.stands; listed = found.listed }

to_child : (i : ℕ) (children : Activities) (scopes : ℕ → Scope) (k m : ℕ) (p : List ℕ) (w : Want) (child : Activity) → m ≡ k + i → child_at i children ≡ Some child → Enables (enabled child (scopes m)) p w → Enables (enabled_below children scopes k) (m ∷ p) w
to_child i NoActivities scopes k m p w child e stands h = none_some stands
to_child zero (AndActivity first others) scopes k m p w child e stands h =
    let same : m ≡ k = omega arith in
    let here : Enables (enabled first (scopes m)) p w = subst (λ (c : Activity). Enables (enabled c (scopes m)) p w) (sym (some_inj stands)) h in
    let put : Enables (map (down_from m) (enabled first (scopes m))) (m ∷ p) w = raised m (enabled first (scopes m)) p w here in
    in_front (map (down_from k) (enabled first (scopes k))) (enabled_below others scopes (suc k)) (m ∷ p) w (subst (λ (n : ℕ). Enables (map (down_from n) (enabled first (scopes n))) (m ∷ p) w) same put)
to_child (suc i) (AndActivity first others) scopes k m p w child e stands h =
    let counted : m ≡ suc k + i = omega arith in
    in_back (map (down_from k) (enabled first (scopes k))) (enabled_below others scopes (suc k)) (m ∷ p) w (to_child i others scopes (suc k) m p w child counted stands h)

-- at the activity itself
ready_here : (n : List ℕ) (raw : Tree) (counts : List ℕ) (action : Action) (found : Option State) → IsTrue (is_some (option_and_then (moves_ready n raw counts action) found)) ↔ Enables (wanted_here WantsMove found) [] (want_of action)
ready_here n raw counts action None = (λ h. false_true h, λ h. absurd h)
ready_here n raw counts Move (Some state) = (λ h. inl refl, λ h. refl)
ready_here n raw counts (Gives answer) (Some state) = (λ h. false_true h, λ h. ⊎_elim move_answer (λ e. absurd e) h)
ready_here n raw counts (FailsTask error cause) (Some state) = (λ h. false_true h, λ h. ⊎_elim move_answer (λ e. absurd e) h)

waiting_here : (n : List ℕ) (raw : Tree) (counts : List ℕ) (action : Action) (found : Option State) → IsTrue (is_some (option_and_then (moves_waiting n raw counts action) found)) ↔ Enables (wanted_here WantsAnswer found) [] (want_of action)
waiting_here n raw counts action None = (λ h. false_true h, λ h. absurd h)
waiting_here n raw counts Move (Some state) = (λ h. false_true h, λ h. ⊎_elim answer_move (λ e. absurd e) h)
waiting_here n raw counts (Gives answer) (Some state) = (λ h. inl refl, λ h. refl)
waiting_here n raw counts (FailsTask error cause) (Some state) = (λ h. inl refl, λ h. refl)

join_here : (n : List ℕ) (raw : Tree) (counts : List ℕ) (state : State) (joined : Joining) → IsTrue (is_some (joins n state raw counts joined)) ↔ Enables (join_wanted joined (Some state)) [] WantsMove
join_here n raw counts state (AllDone outputs) = (λ h. inl refl, λ h. refl)
join_here n raw counts state (OneFailed i error cause) = (λ h. inl refl, λ h. refl)
join_here n raw counts state StillRunning = (λ h. false_true h, λ h. absurd h)

no_answer_here : (state : State) (joined : Joining) → Enables (join_wanted joined (Some state)) [] WantsAnswer → ⊥
no_answer_here state (AllDone outputs) h = ⊎_elim move_answer (λ e. e) h
no_answer_here state (OneFailed i error cause) h = ⊎_elim move_answer (λ e. e) h
no_answer_here state StillRunning h = h

nothing_here : (joined : Joining) (p : List ℕ) (w : Want) → Enables (join_wanted joined None) p w → ⊥
nothing_here (AllDone outputs) p w h = h
nothing_here (OneFailed i error cause) p w h = h
nothing_here StillRunning p w h = h

split_here : (n : List ℕ) (raw : Tree) (counts : List ℕ) (children : Activities) (action : Action) (found : Option State) → IsTrue (is_some (option_and_then (moves_split n raw counts children action) found)) ↔ Enables (join_wanted (joining 0 children) found) [] (want_of action)
split_here n raw counts children action None = (λ h. false_true h, λ h. absurd (nothing_here (joining 0 children) [] (want_of action) h))
split_here n raw counts children Move (Some state) = join_here n raw counts state (joining 0 children)
split_here n raw counts children (Gives answer) (Some state) = (λ h. false_true h, λ h. absurd (no_answer_here state (joining 0 children) h))
split_here n raw counts children (FailsTask error cause) (Some state) = (λ h. false_true h, λ h. absurd (no_answer_here state (joining 0 children) h))

-- nothing below is listed there
not_below : (want : Want) (found : Option State) (i : ℕ) (p : List ℕ) (w : Want) → Enables (wanted_here want found) (i ∷ p) w → ⊥
not_below want None i p w h = h
not_below want (Some state) i p w h = ⊎_elim here_below (λ e. e) h

not_below_join : (joined : Joining) (found : Option State) (i : ℕ) (p : List ℕ) (w : Want) → Enables (join_wanted joined found) (i ∷ p) w → ⊥
not_below_join (AllDone outputs) found i p w h = not_below WantsMove found i p w h
not_below_join (OneFailed k error cause) found i p w h = not_below WantsMove found i p w h
not_below_join StillRunning found i p w h = h

-- a place is listed with a kind exactly where an action of that kind has a step
pub enabled_exactly : (p : List ℕ) (scope : Scope) (a : Activity) (action : Action) → IsTrue (is_some (step_at p scope a action)) ↔ Enables (enabled a scope) p (want_of action)
enabled_exactly [] scope (Ready n raw counts) action = ready_here n raw counts action (state_named n scope)
enabled_exactly [] scope (Waiting n raw counts payload) action = waiting_here n raw counts action (state_named n scope)
enabled_exactly [] scope (Split n raw counts children) action =
    let here = split_here n raw counts children action (state_named n scope) in (
      λ h. in_front (join_wanted (joining 0 children) (state_named n scope)) (enabled_below children (scope_below scope n) 0) [] (want_of action) (here.0 h),
      λ h. ⊎_elim (λ e. here.1 e) (λ e. absurd (none_below_here children (scope_below scope n) 0 (want_of action) e)) (either_part (join_wanted (joining 0 children) (state_named n scope)) (enabled_below children (scope_below scope n) 0) [] (want_of action) h),
    )
enabled_exactly [] scope (Done output) action = (λ h. false_true h, λ h. absurd h)
enabled_exactly [] scope (Failed error cause) action = (λ h. false_true h, λ h. absurd h)
enabled_exactly (i ∷ p) scope (Ready n raw counts) action = (λ h. false_true h, λ h. absurd (not_below WantsMove (state_named n scope) i p (want_of action) h))
enabled_exactly (i ∷ p) scope (Waiting n raw counts payload) action = (λ h. false_true h, λ h. absurd (not_below WantsAnswer (state_named n scope) i p (want_of action) h))
enabled_exactly (i ∷ p) scope (Split n raw counts children) action = (listed (λ child. (enabled_exactly p (scope_below scope n i) child action).0), stepped (λ child. (enabled_exactly p (scope_below scope n i) child action).1))
  where
    listed : ((child : Activity) → IsTrue (is_some (step_at p (scope_below scope n i) child action)) → Enables (enabled child (scope_below scope n i)) p (want_of action)) → IsTrue (is_some (step_at (i ∷ p) scope (Split n raw counts children) action)) → Enables (enabled (Split n raw counts children) scope) (i ∷ p) (want_of action)
    listed inner h =
        let there = some_there (step_at (i ∷ p) scope (Split n raw counts children) action) h in
        let b = step_below i p scope n raw counts children action there.0 there.1 in
        let counted : i ≡ 0 + i = omega arith in
        in_back (join_wanted (joining 0 children) (state_named n scope)) (enabled_below children (scope_below scope n) 0) (i ∷ p) (want_of action) (to_child i children (scope_below scope n) 0 i p (want_of action) b.child counted b.stands (inner b.child (there_some (step_at p (scope_below scope n i) b.child action) b.steps)))

    below : ((child : Activity) → Enables (enabled child (scope_below scope n i)) p (want_of action) → IsTrue (is_some (step_at p (scope_below scope n i) child action))) → Enables (enabled_below children (scope_below scope n) 0) (i ∷ p) (want_of action) → IsTrue (is_some (step_at (i ∷ p) scope (Split n raw counts children) action))
    below inner h =
        let found = of_child children (scope_below scope n) 0 i p (want_of action) h in
        let counted : i ≡ 0 + found.number = found.counted in
        let same : found.number ≡ i = omega arith in
        let stands : child_at i children ≡ Some found.child = subst (λ (k : ℕ). child_at k children ≡ Some found.child) same found.stands in
        let there = some_there (step_at p (scope_below scope n i) found.child action) (inner found.child found.listed) in
        there_some (step_at (i ∷ p) scope (Split n raw counts children) action) (step_above i p scope n raw counts children action found.child there.0 stands there.1)

    stepped : ((child : Activity) → Enables (enabled child (scope_below scope n i)) p (want_of action) → IsTrue (is_some (step_at p (scope_below scope n i) child action))) → Enables (enabled (Split n raw counts children) scope) (i ∷ p) (want_of action) → IsTrue (is_some (step_at (i ∷ p) scope (Split n raw counts children) action))
    stepped inner h = ⊎_elim (λ e. absurd (not_below_join (joining 0 children) (state_named n scope) i p (want_of action) e)) (below inner) (either_part (join_wanted (joining 0 children) (state_named n scope)) (enabled_below children (scope_below scope n) 0) (i ∷ p) (want_of action) h)
enabled_exactly (i ∷ p) scope (Done output) action = (λ h. false_true h, λ h. absurd h)
enabled_exactly (i ∷ p) scope (Failed error cause) action = (λ h. false_true h, λ h. absurd h)
