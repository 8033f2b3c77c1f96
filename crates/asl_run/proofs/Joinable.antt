-- Whether the children of a Parallel or a Map are far enough, which are gone through in order.
use Rattle.std.proofs.Common.{◌≡◌, ℕ, suc, ◌+◌, ◌<◌, ◌≤◌, List, length, get_or, drop, Bool, true, false, Some, None, ◌&&◌, refl, sym, ap, ◌∙◌, arith}
use Rattle.asl_model.specs.Run as model
use Rattle.asl_model.specs.Run.{Ready, Waiting, Split, Done, Failed, Joining, AllDone, OneFailed, StillRunning, WantsMove, joining, child_before, running_before, done_before}
use Rattle.asl_model.specs.Tree.{NoTrees}
use Rattle.asl_run.specs.Enabling.{is_joinable, wanted_by_join, wanted_by, has_failed, has_ended}
use Rattle.asl_run.specs.Nodes.{AreHeads, shown_over}
use Rattle.asl_run.specs.Standing.{children_of}
use Rattle.asl_run.specs.declared.nodes.Node.{Node}
use Rattle.asl_run.proofs.Heads.{next_head, no_more}

-- one of the children has failed
abbrev pub some_failed : Joining → Bool
some_failed (AllDone outputs) = false
some_failed (OneFailed i error cause) = true
some_failed StillRunning = false

-- the children behind those that were gone through decide; of those none has failed, and all have ended or not
abbrev pub decided : Bool → Joining → Bool
decided true others = is_joinable others
decided false others = some_failed others

-- those from number i on decide
pub record Decide (children : List Node) (i : ℕ) (ended : Bool) : Type 0 where
  pub same : (names : List (List ℕ)) (below : List model.Activity) → AreHeads names children below → is_joinable (joining 0 (children_of below)) ≡ decided ended (joining i (children_of (drop i below)))

running_decides : (ended : Bool) (others : Joining) → decided ended (running_before others) ≡ decided (ended && false) others
running_decides true (AllDone outputs) = refl
running_decides true (OneFailed i error cause) = refl
running_decides true StillRunning = refl
running_decides false (AllDone outputs) = refl
running_decides false (OneFailed i error cause) = refl
running_decides false StillRunning = refl

done_decides : (ended : Bool) (output : _) (others : Joining) → decided ended (done_before output others) ≡ decided (ended && true) others
done_decides true output (AllDone outputs) = refl
done_decides true output (OneFailed i error cause) = refl
done_decides true output StillRunning = refl
done_decides false output (AllDone outputs) = refl
done_decides false output (OneFailed i error cause) = refl
done_decides false output StillRunning = refl

-- a child that hasn't failed
child_decides : (ended : Bool) (i : ℕ) (child : model.Activity) (others : Joining) → false ≡ has_failed child → decided ended (child_before i child others) ≡ decided (ended && has_ended child) others
child_decides ended i (Ready n raw counts) others h = running_decides ended others
child_decides ended i (Waiting n raw counts payload) others h = running_decides ended others
child_decides ended i (Split n raw counts children) others h = running_decides ended others
child_decides ended i (Done output) others h = done_decides ended output others
child_decides ended i (Failed error cause) others h = absurd (cc)

-- a child that has
failed_decides : (ended : Bool) (i : ℕ) (child : model.Activity) (others : Joining) → true ≡ has_failed child → decided ended (child_before i child others) ≡ true
failed_decides ended i (Ready n raw counts) others h = absurd (cc)
failed_decides ended i (Waiting n raw counts payload) others h = absurd (cc)
failed_decides ended i (Split n raw counts children) others h = absurd (cc)
failed_decides ended i (Done output) others h = absurd (cc)
failed_decides true i (Failed error cause) others h = refl
failed_decides false i (Failed error cause) others h = refl

-- it hasn't failed, and others decide
pub one_further : (children : List Node) (i : ℕ) (child : Node) (ended was : Bool) → i < length children → child ≡ get_or children i child → ((names : List (List ℕ)) (under : model.Activities) → false ≡ has_failed (shown_over names under child)) → ((names : List (List ℕ)) (under : model.Activities) → was ≡ has_ended (shown_over names under child))
    → Decide children i ended → Decide children (i + 1) (ended && was)
one_further children i child ended was within is failed ends h = record {
  same = λ names below heads.
      let there = next_head names children below i child heads within is in
      let behind = joining (suc i) (children_of (drop (suc i) below)) in
      let next : suc i ≡ i + 1 = omega arith in
      h.same names below heads ∙ ap (λ all. decided ended (joining i (children_of all))) there.is
      ∙ child_decides ended i (shown_over names there.under child) behind (failed names there.under)
      ∙ ap (λ (b : Bool). decided (ended && b) behind) (sym (ends names there.under))
      ∙ ap (λ k. decided (ended && was) (joining k (children_of (drop k below)))) next;
}

-- it has failed
pub failed_joins : (children : List Node) (i : ℕ) (child : Node) (ended : Bool) → i < length children → child ≡ get_or children i child → ((names : List (List ℕ)) (under : model.Activities) → true ≡ has_failed (shown_over names under child))
    → Decide children i ended → (names : List (List ℕ)) (below : List model.Activity) → AreHeads names children below → true ≡ is_joinable (joining 0 (children_of below))
failed_joins children i child ended within is failed h names below heads =
    let there = next_head names children below i child heads within is in
    let behind = joining (suc i) (children_of (drop (suc i) below)) in
    sym (h.same names below heads ∙ ap (λ all. decided ended (joining i (children_of all))) there.is ∙ failed_decides ended i (shown_over names there.under child) behind (failed names there.under))

none_left : (ended : Bool) → ended ≡ decided ended (AllDone NoTrees)
none_left true = refl
none_left false = refl

-- all have been gone through
pub all_decided : (children : List Node) (i : ℕ) (ended : Bool) → length children ≤ i → Decide children i ended → (names : List (List ℕ)) (below : List model.Activity) → AreHeads names children below → ended ≡ is_joinable (joining 0 (children_of below))
all_decided children i ended end h names below heads = none_left ended ∙ sym (h.same names below heads ∙ ap (λ all. decided ended (joining i (children_of all))) (no_more names children below i heads end))

-- ---- what they want

by_joining : (j : Joining) → true ≡ is_joinable j → Some WantsMove ≡ wanted_by_join j
by_joining (AllDone outputs) h = refl
by_joining (OneFailed i error cause) h = refl
by_joining StillRunning h = absurd (cc)

-- a Split wants its move
pub joinable_wants : (a : model.Activity) (n : List ℕ) (raw : _) (counts : List ℕ) (children : _) → a ≡ Split n raw counts children → true ≡ is_joinable (joining 0 children) → Some WantsMove ≡ wanted_by a
joinable_wants a n raw counts children is h = by_joining (joining 0 children) h ∙ ap wanted_by (sym is)

not_joining : (j : Joining) → false ≡ is_joinable j → None ≡ wanted_by_join j
not_joining (AllDone outputs) h = absurd (cc)
not_joining (OneFailed i error cause) h = absurd (cc)
not_joining StillRunning h = refl

-- it doesn't
pub waiting_wants : (a : model.Activity) (n : List ℕ) (raw : _) (counts : List ℕ) (children : _) → a ≡ Split n raw counts children → false ≡ is_joinable (joining 0 children) → None ≡ wanted_by a
waiting_wants a n raw counts children is h = not_joining (joining 0 children) h ∙ ap wanted_by (sym is)
