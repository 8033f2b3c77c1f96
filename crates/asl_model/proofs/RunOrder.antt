-- The enabled places stand in lexicographic order.
use Rattle.std.proofs.Common.{arith, ◌<◌, ℕ, suc, List, [], ◌∷◌, ◌++◌, map, Option, Some, None}
use Rattle.asl_model.specs.Machine.{Scope, State, state_named}
use Rattle.asl_model.specs.Run.{Activity, Ready, Waiting, Split, Done, Failed, Activities, NoActivities, AndActivity, Joining, AllDone, OneFailed, StillRunning, joining, scope_below, Want, WantsMove, WantsAnswer, wanted_here, join_wanted, down_from, enabled, enabled_below, above, lesser_child, same_child, IsEarlierThanEach, AreInLexicographicOrder}

-- each of these places comes before each of those
abbrev EachEarlier : List (List ℕ × Want) → List (List ℕ × Want) → Type 0
EachEarlier [] back = Unit {0}
EachEarlier (wanted ∷ front) back = IsEarlierThanEach wanted.0 back × EachEarlier front back

earlier_than_both : (p : List ℕ) (front back : List (List ℕ × Want)) → IsEarlierThanEach p front → IsEarlierThanEach p back → IsEarlierThanEach p (front ++ back)
earlier_than_both p [] back g h = h
earlier_than_both p (wanted ∷ front) back g h = (g.0, earlier_than_both p front back g.1 h)

in_a_row : (front back : List (List ℕ × Want)) → AreInLexicographicOrder front → AreInLexicographicOrder back → EachEarlier front back → AreInLexicographicOrder (front ++ back)
in_a_row [] back g h each = h
in_a_row (wanted ∷ front) back g h each = (earlier_than_both wanted.0 front back g.0 each.0, in_a_row front back g.1 h each.1)

down_earlier : (i : ℕ) (p : List ℕ) (places : List (List ℕ × Want)) → IsEarlierThanEach p places → IsEarlierThanEach (i ∷ p) (map (down_from i) places)
down_earlier i p [] h = tt
down_earlier i p (wanted ∷ places) h = (same_child h.0, down_earlier i p places h.1)

down_in_order : (i : ℕ) (places : List (List ℕ × Want)) → AreInLexicographicOrder places → AreInLexicographicOrder (map (down_from i) places)
down_in_order i [] h = tt
down_in_order i (wanted ∷ places) h = (down_earlier i wanted.0 places h.0, down_in_order i places h.1)

-- a lesser child's places, and the whole's own
lesser_earlier : (i k : ℕ) (p : List ℕ) (places : List (List ℕ × Want)) → i < k → IsEarlierThanEach (i ∷ p) (map (down_from k) places)
lesser_earlier i k p [] less = tt
lesser_earlier i k p (wanted ∷ places) less = (lesser_child less, lesser_earlier i k p places less)

whole_earlier : (k : ℕ) (places : List (List ℕ × Want)) → IsEarlierThanEach [] (map (down_from k) places)
whole_earlier k [] = tt
whole_earlier k (wanted ∷ places) = (above, whole_earlier k places)

lesser_than_children : (i k : ℕ) (p : List ℕ) (children : Activities) (scopes : ℕ → Scope) → i < k → IsEarlierThanEach (i ∷ p) (enabled_below children scopes k)
lesser_than_children i k p NoActivities scopes less = tt
lesser_than_children i k p (AndActivity child others) scopes less =
    let further : i < suc k = omega arith in
    earlier_than_both (i ∷ p) (map (down_from k) (enabled child (scopes k))) (enabled_below others scopes (suc k)) (lesser_earlier i k p (enabled child (scopes k)) less) (lesser_than_children i (suc k) p others scopes further)

whole_before_children : (k : ℕ) (children : Activities) (scopes : ℕ → Scope) → IsEarlierThanEach [] (enabled_below children scopes k)
whole_before_children k NoActivities scopes = tt
whole_before_children k (AndActivity child others) scopes = earlier_than_both [] (map (down_from k) (enabled child (scopes k))) (enabled_below others scopes (suc k)) (whole_earlier k (enabled child (scopes k))) (whole_before_children (suc k) others scopes)

child_before_others : (k : ℕ) (places : List (List ℕ × Want)) (others : Activities) (scopes : ℕ → Scope) → EachEarlier (map (down_from k) places) (enabled_below others scopes (suc k))
child_before_others k [] others scopes = tt
child_before_others k (wanted ∷ places) others scopes = let less : k < suc k = omega arith in (lesser_than_children k (suc k) wanted.0 others scopes less, child_before_others k places others scopes)

here_in_order : (want : Want) (found : Option State) → AreInLexicographicOrder (wanted_here want found)
here_in_order want None = tt
here_in_order want (Some state) = (tt, tt)

join_in_order : (joined : Joining) (found : Option State) → AreInLexicographicOrder (join_wanted joined found)
join_in_order (AllDone outputs) found = here_in_order WantsMove found
join_in_order (OneFailed i error cause) found = here_in_order WantsMove found
join_in_order StillRunning found = tt

here_before : (want : Want) (found : Option State) (back : List (List ℕ × Want)) → IsEarlierThanEach [] back → EachEarlier (wanted_here want found) back
here_before want None back h = tt
here_before want (Some state) back h = (h, tt)

join_before : (joined : Joining) (found : Option State) (back : List (List ℕ × Want)) → IsEarlierThanEach [] back → EachEarlier (join_wanted joined found) back
join_before (AllDone outputs) found back h = here_before WantsMove found back h
join_before (OneFailed i error cause) found back h = here_before WantsMove found back h
join_before StillRunning found back h = tt

mutual
  pub enabled_in_order : (a : Activity) (scope : Scope) → AreInLexicographicOrder (enabled a scope)
  enabled_in_order (Ready n raw counts) scope = here_in_order WantsMove (state_named n scope)
  enabled_in_order (Waiting n raw counts payload) scope = here_in_order WantsAnswer (state_named n scope)
  enabled_in_order (Split n raw counts children) scope = in_a_row (join_wanted (joining 0 children) (state_named n scope)) (enabled_below children (scope_below scope n) 0) (join_in_order (joining 0 children) (state_named n scope)) (below_in_order children (scope_below scope n) 0) (join_before (joining 0 children) (state_named n scope) (enabled_below children (scope_below scope n) 0) (whole_before_children 0 children (scope_below scope n)))
  enabled_in_order (Done output) scope = tt
  enabled_in_order (Failed error cause) scope = tt

  below_in_order : (children : Activities) (scopes : ℕ → Scope) (k : ℕ) → AreInLexicographicOrder (enabled_below children scopes k)
  below_in_order NoActivities scopes k = tt
  below_in_order (AndActivity child others) scopes k = in_a_row (map (down_from k) (enabled child (scopes k))) (enabled_below others scopes (suc k)) (down_in_order k (enabled child (scopes k)) (enabled_in_order child (scopes k))) (below_in_order others scopes (suc k)) (child_before_others k (enabled child (scopes k)) others scopes)
