-- Events at places apart: one leaves the other's place as it was, and they commute.
use Rattle.std.proofs.Common.{◌≡◌, ◌≢◌, refl, sym, ap, ◌∙◌, subst, ℕ, zero, suc, List, [], ◌∷◌, ◌++◌, Option, Some, None, option_map, option_and_then}
use Rattle.asl_model.specs.Tree.{Tree}
use Rattle.asl_model.specs.Machine.{Scope}
use Rattle.asl_model.specs.Run.{Activity, Ready, Waiting, Split, Done, Failed, Activities, NoActivities, AndActivity, Action, Step, scope_below, child_at, set_child, within, step_at, activity_at, AreApart, apart_here, apart_below, HasChildReplaced, Commute}
use Rattle.asl_model.proofs.RunOptions.{some_inj, none_some}

-- a step at a place below a Split is one of the child there
pub record IsStepBelow (i : ℕ) (p : List ℕ) (scope : Scope) (n : List ℕ) (raw : Tree) (counts : List ℕ) (children : Activities) (action : Action) (s : Step) : Type 0 where
  pub child : Activity
  pub inner : Step
  pub stands : child_at i children ≡ Some child
  pub steps : step_at p (scope_below scope n i) child action ≡ Some inner
  pub whole : within n raw counts children i inner ≡ s

pub step_below : (i : ℕ) (p : List ℕ) (scope : Scope) (n : List ℕ) (raw : Tree) (counts : List ℕ) (children : Activities) (action : Action) (s : Step) → step_at (i ∷ p) scope (Split n raw counts children) action ≡ Some s → IsStepBelow i p scope n raw counts children action s
step_below i p scope n raw counts children action s h = go (child_at i children) refl h
  where
    there : (child : Activity) → child_at i children ≡ Some child → (stepped : Option Step) → step_at p (scope_below scope n i) child action ≡ stepped → option_map (within n raw counts children i) stepped ≡ Some s → IsStepBelow i p scope n raw counts children action s
    there child e None f g = none_some g
    there child e (Some t) f g = record { child = child; inner = t; stands = e; steps = f; whole = some_inj g }

    go : (found : Option Activity) → child_at i children ≡ found → option_map (within n raw counts children i) (option_and_then (λ child. step_at p (scope_below scope n i) child action) found) ≡ Some s → IsStepBelow i p scope n raw counts children action s
    go None e g = none_some g
    go (Some child) e g = there child e (step_at p (scope_below scope n i) child action) refl g

-- and so one of the whole
pub step_above : (i : ℕ) (p : List ℕ) (scope : Scope) (n : List ℕ) (raw : Tree) (counts : List ℕ) (children : Activities) (action : Action) (child : Activity) (inner : Step) → child_at i children ≡ Some child → step_at p (scope_below scope n i) child action ≡ Some inner → step_at (i ∷ p) scope (Split n raw counts children) action ≡ Some (within n raw counts children i inner)
step_above i p scope n raw counts children action child inner e f =
    ap (λ found. option_map (within n raw counts children i) (option_and_then (λ child. step_at p (scope_below scope n i) child action) found)) e ∙ ap (option_map (within n raw counts children i)) f

-- replacing a child leaves the others
other_child : (i j : ℕ) (a : Activity) (children : Activities) → i ≢ j → child_at j (set_child i a children) ≡ child_at j children
other_child i j a NoActivities apart = refl
other_child zero zero a (AndActivity first others) apart = absurd (apart refl)
other_child zero (suc j) a (AndActivity first others) apart = refl
other_child (suc i) zero a (AndActivity first others) apart = refl
other_child (suc i) (suc j) a (AndActivity first others) apart = other_child i j a others (λ e. apart (ap suc e))

same_child : (i : ℕ) (a child : Activity) (children : Activities) → child_at i children ≡ Some child → child_at i (set_child i a children) ≡ Some a
same_child i a child NoActivities e = none_some e
same_child zero a child (AndActivity first others) e = refl
same_child (suc i) a child (AndActivity first others) e = same_child i a child others e

replaced_twice : (i : ℕ) (a b : Activity) (children : Activities) → set_child i b (set_child i a children) ≡ set_child i b children
replaced_twice i a b NoActivities = refl
replaced_twice zero a b (AndActivity first others) = refl
replaced_twice (suc i) a b (AndActivity first others) = ap (AndActivity first) (replaced_twice i a b others)

replaced_both : (i j : ℕ) (a b : Activity) (children : Activities) → i ≢ j → set_child i a (set_child j b children) ≡ set_child j b (set_child i a children)
replaced_both i j a b NoActivities apart = refl
replaced_both zero zero a b (AndActivity first others) apart = absurd (apart refl)
replaced_both zero (suc j) a b (AndActivity first others) apart = refl
replaced_both (suc i) zero a b (AndActivity first others) apart = refl
replaced_both (suc i) (suc j) a b (AndActivity first others) apart = ap (AndActivity first) (replaced_both i j a b others (λ e. apart (ap suc e)))

-- what stands apart from a step's place stays as it was
pub unchanged_apart : (p q : List ℕ) → AreApart p q → (scope : Scope) (a : Activity) (action : Action) (s : Step) → step_at p scope a action ≡ Some s → activity_at q s.after ≡ activity_at q a
unchanged_apart p q (apart_here {i = i} {j = j} {p = p'} {q = q'} apart) scope (Ready n raw counts) action s h = none_some h
unchanged_apart p q (apart_here {i = i} {j = j} {p = p'} {q = q'} apart) scope (Waiting n raw counts payload) action s h = none_some h
unchanged_apart p q (apart_here {i = i} {j = j} {p = p'} {q = q'} apart) scope (Split n raw counts children) action s h =
    let b = step_below i p' scope n raw counts children action s h in
    ap (λ (t : Step). activity_at (j ∷ q') t.after) (sym b.whole) ∙ ap (option_and_then (activity_at q')) (other_child i j b.inner.after children apart)
unchanged_apart p q (apart_here {i = i} {j = j} {p = p'} {q = q'} apart) scope (Done output) action s h = none_some h
unchanged_apart p q (apart_here {i = i} {j = j} {p = p'} {q = q'} apart) scope (Failed error cause) action s h = none_some h
unchanged_apart p q (apart_below {i = i} {p = p'} {q = q'} apart) scope (Ready n raw counts) action s h = none_some h
unchanged_apart p q (apart_below {i = i} {p = p'} {q = q'} apart) scope (Waiting n raw counts payload) action s h = none_some h
unchanged_apart p q (apart_below {i = i} {p = p'} {q = q'} apart) scope (Split n raw counts children) action s h =
    let b = step_below i p' scope n raw counts children action s h in
    ap (λ (t : Step). activity_at (i ∷ q') t.after) (sym b.whole)
    ∙ ap (option_and_then (activity_at q')) (same_child i b.inner.after b.child children b.stands)
    ∙ unchanged_apart p' q' apart (scope_below scope n i) b.child action b.inner b.steps
    ∙ ap (option_and_then (activity_at q')) (sym b.stands)
unchanged_apart p q (apart_below {i = i} {p = p'} {q = q'} apart) scope (Done output) action s h = none_some h
unchanged_apart p q (apart_below {i = i} {p = p'} {q = q'} apart) scope (Failed error cause) action s h = none_some h

-- two steps of different children can be taken in the other order
others_commute : (i j : ℕ) → i ≢ j → (p q : List ℕ) (scope : Scope) (n : List ℕ) (raw : Tree) (counts : List ℕ) (children : Activities) (x y : Action) (s t : Step) (one : IsStepBelow i p scope n raw counts children x s) → IsStepBelow j q scope n raw counts (set_child i one.inner.after children) y t → Commute scope (Split n raw counts children) (i ∷ p) x (j ∷ q) y s t
others_commute i j apart p q scope n raw counts children x y s t one two = record {
  sooner = within n raw counts children j two.inner;
  later = within n raw counts (set_child j two.inner.after children) i one.inner;
  second_first = step_above j q scope n raw counts children y two.child two.inner (sym (other_child i j one.inner.after children apart) ∙ two.stands) two.steps;
  first_second = step_above i p scope n raw counts (set_child j two.inner.after children) x one.child one.inner (other_child j i two.inner.after children (λ e. apart (sym e)) ∙ one.stands) one.steps;
  same_second = ap (λ (u : Step). u.entries) two.whole;
  same_first = ap (λ (u : Step). u.entries) one.whole;
  same_after = ap (Split n raw counts) (replaced_both i j one.inner.after two.inner.after children apart) ∙ ap (λ (u : Step). u.after) two.whole;
}

-- two steps below one child can, where they can there
below_commute : (i : ℕ) (p q : List ℕ) (scope : Scope) (n : List ℕ) (raw : Tree) (counts : List ℕ) (children : Activities) (x y : Action) (s t : Step) (one : IsStepBelow i p scope n raw counts children x s) (two : IsStepBelow i q scope n raw counts (set_child i one.inner.after children) y t) → Commute (scope_below scope n i) one.child p x q y one.inner two.inner → Commute scope (Split n raw counts children) (i ∷ p) x (i ∷ q) y s t
below_commute i p q scope n raw counts children x y s t one two below = record {
  sooner = within n raw counts children i below.sooner;
  later = within n raw counts (set_child i below.sooner.after children) i below.later;
  second_first = step_above i q scope n raw counts children y one.child below.sooner one.stands below.second_first;
  first_second = step_above i p scope n raw counts (set_child i below.sooner.after children) x below.sooner.after below.later (same_child i below.sooner.after one.child children one.stands) below.first_second;
  same_second = below.same_second ∙ ap (λ (u : Step). u.entries) two.whole;
  same_first = below.same_first ∙ ap (λ (u : Step). u.entries) one.whole;
  same_after = ap (Split n raw counts) (replaced_twice i below.sooner.after below.later.after children ∙ ap (λ c. set_child i c children) below.same_after ∙ sym (replaced_twice i one.inner.after two.inner.after children)) ∙ ap (λ (u : Step). u.after) two.whole;
}

-- the second step, at a place below a Split that the first has left
second_below : (i j : ℕ) (q : List ℕ) (scope : Scope) (n : List ℕ) (raw : Tree) (counts : List ℕ) (children : Activities) (y : Action) (s t inner : Step) → within n raw counts children i inner ≡ s → step_at (j ∷ q) scope s.after y ≡ Some t → IsStepBelow j q scope n raw counts (set_child i inner.after children) y t
second_below i j q scope n raw counts children y s t inner whole k = step_below j q scope n raw counts (set_child i inner.after children) y t (subst (λ (u : Step). step_at (j ∷ q) scope u.after y ≡ Some t) (sym whole) k)

-- the second step below the same child follows the first there
follows_below : (i : ℕ) (q : List ℕ) (scope : Scope) (n : List ℕ) (raw : Tree) (counts : List ℕ) (children : Activities) (y : Action) (t first : Step) (child : Activity) → child_at i children ≡ Some child → (two : IsStepBelow i q scope n raw counts (set_child i first.after children) y t) → step_at q (scope_below scope n i) first.after y ≡ Some two.inner
follows_below i q scope n raw counts children y t first child e two = subst (λ (c : Activity). step_at q (scope_below scope n i) c y ≡ Some two.inner) (some_inj (sym two.stands ∙ same_child i first.after child children e)) two.steps

-- two steps at places apart can be taken in the other order
pub apart_commute : (p q : List ℕ) → AreApart p q → (scope : Scope) (a : Activity) (x y : Action) (s t : Step) → step_at p scope a x ≡ Some s → step_at q scope s.after y ≡ Some t → Commute scope a p x q y s t
apart_commute p q (apart_here {i = i} {j = j} {p = p'} {q = q'} apart) scope (Ready n raw counts) x y s t h k = none_some h
apart_commute p q (apart_here {i = i} {j = j} {p = p'} {q = q'} apart) scope (Waiting n raw counts payload) x y s t h k = none_some h
apart_commute p q (apart_here {i = i} {j = j} {p = p'} {q = q'} apart) scope (Split n raw counts children) x y s t h k = go (step_below i p' scope n raw counts children x s h)
  where
    go : IsStepBelow i p' scope n raw counts children x s → Commute scope (Split n raw counts children) (i ∷ p') x (j ∷ q') y s t
    go one = others_commute i j apart p' q' scope n raw counts children x y s t one (second_below i j q' scope n raw counts children y s t one.inner one.whole k)
apart_commute p q (apart_here {i = i} {j = j} {p = p'} {q = q'} apart) scope (Done output) x y s t h k = none_some h
apart_commute p q (apart_here {i = i} {j = j} {p = p'} {q = q'} apart) scope (Failed error cause) x y s t h k = none_some h
apart_commute p q (apart_below {i = i} {p = p'} {q = q'} apart) scope (Ready n raw counts) x y s t h k = none_some h
apart_commute p q (apart_below {i = i} {p = p'} {q = q'} apart) scope (Waiting n raw counts payload) x y s t h k = none_some h
apart_commute p q (apart_below {i = i} {p = p'} {q = q'} apart) scope (Split n raw counts children) x y s t h k = go (step_below i p' scope n raw counts children x s h) (λ child u v f g. apart_commute p' q' apart (scope_below scope n i) child x y u v f g)
  where
    with_two : (one : IsStepBelow i p' scope n raw counts children x s) → IsStepBelow i q' scope n raw counts (set_child i one.inner.after children) y t → ((child : Activity) (u v : Step) → step_at p' (scope_below scope n i) child x ≡ Some u → step_at q' (scope_below scope n i) u.after y ≡ Some v → Commute (scope_below scope n i) child p' x q' y u v) → Commute scope (Split n raw counts children) (i ∷ p') x (i ∷ q') y s t
    with_two one two inner = below_commute i p' q' scope n raw counts children x y s t one two (inner one.child one.inner two.inner one.steps (follows_below i q' scope n raw counts children y t one.inner one.child one.stands two))

    go : IsStepBelow i p' scope n raw counts children x s → ((child : Activity) (u v : Step) → step_at p' (scope_below scope n i) child x ≡ Some u → step_at q' (scope_below scope n i) u.after y ≡ Some v → Commute (scope_below scope n i) child p' x q' y u v) → Commute scope (Split n raw counts children) (i ∷ p') x (i ∷ q') y s t
    go one inner = with_two one (second_below i i q' scope n raw counts children y s t one.inner one.whole k) inner
apart_commute p q (apart_below {i = i} {p = p'} {q = q'} apart) scope (Done output) x y s t h k = none_some h
apart_commute p q (apart_below {i = i} {p = p'} {q = q'} apart) scope (Failed error cause) x y s t h k = none_some h

-- a Split above a step's place stays one, and the child on the way there alone is replaced
pub replaced_above : (q : List ℕ) (i : ℕ) (p : List ℕ) (scope : Scope) (a : Activity) (action : Action) (s : Step) → step_at (q ++ i ∷ p) scope a action ≡ Some s → HasChildReplaced i (activity_at q a) (activity_at q s.after)
replaced_above [] i p scope (Ready n raw counts) action s h = none_some h
replaced_above [] i p scope (Waiting n raw counts payload) action s h = none_some h
replaced_above [] i p scope (Split n raw counts children) action s h =
    let b = step_below i p scope n raw counts children action s h in
    record { name = n; raw = raw; counts = counts; children = children; child = b.inner.after; stood = refl; stands = ap (λ (t : Step). Some t.after) (sym b.whole) }
replaced_above [] i p scope (Done output) action s h = none_some h
replaced_above [] i p scope (Failed error cause) action s h = none_some h
replaced_above (j ∷ q) i p scope (Ready n raw counts) action s h = none_some h
replaced_above (j ∷ q) i p scope (Waiting n raw counts payload) action s h = none_some h
replaced_above (j ∷ q) i p scope (Split n raw counts children) action s h =
    let b = step_below j (q ++ i ∷ p) scope n raw counts children action s h in
    let below = replaced_above q i p (scope_below scope n j) b.child action b.inner b.steps in
    record {
      name = below.name;
      raw = below.raw;
      counts = below.counts;
      children = below.children;
      child = below.child;
      stood = ap (option_and_then (activity_at q)) b.stands ∙ below.stood;
      stands = ap (λ (t : Step). activity_at (j ∷ q) t.after) (sym b.whole) ∙ (ap (option_and_then (activity_at q)) (same_child j b.inner.after b.child children b.stands) ∙ below.stands);
    }
replaced_above (j ∷ q) i p scope (Done output) action s h = none_some h
replaced_above (j ∷ q) i p scope (Failed error cause) action s h = none_some h
