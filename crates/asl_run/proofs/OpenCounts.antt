-- How many places of an activity want an event, and how that number changes where a child is replaced.
use Rattle.std.proofs.Common.{◌≡◌, refl, sym, ap, ◌∙◌, arith, ℕ, zero, suc, ◌+◌, false, List, map, length, Some, length-append}
use Rattle.std.proofs.lemmas.List.{length-map}
use Rattle.asl_model.specs.Run.{Activity, Ready, Waiting, Split, Done, Failed, Activities, NoActivities, AndActivity, Joining, joining, child_before, running_before, child_at, set_child, down_from}
use Rattle.asl_model.specs.Tree.{Tree}
use Rattle.asl_model.proofs.RunOptions.{some_inj, none_some}
use Rattle.asl_run.specs.Counting.{open_among, open_count}
use Rattle.asl_run.specs.Enabling.{own_place, open_in, open_below, has_ended, wanted_by_join}

-- how many own places a Split has that want an event: one where its children are far enough, else none
abbrev pub own_count : Joining → ℕ
own_count far = length (own_place (wanted_by_join far))

pub below_counted : (children : Activities) (i : ℕ) → length (open_below children i) ≡ open_among children
below_counted NoActivities i = refl
below_counted (AndActivity child others) i =
    length-append (map (down_from i) (open_in child)) (open_below others (suc i))
    ∙ ap (λ n. n + length (open_below others (suc i))) (length-map (open_in child) (down_from i))
    ∙ ap (λ n. open_count child + n) (below_counted others (suc i))

pub split_counted : (n : List ℕ) (raw : Tree) (counts : List ℕ) (children : Activities) → open_count (Split n raw counts children) ≡ own_count (joining 0 children) + open_among children
split_counted n raw counts children =
    length-append (own_place (wanted_by_join (joining 0 children))) (open_below children 0) ∙ ap (λ m. own_count (joining 0 children) + m) (below_counted children 0)

-- ---- a child is replaced

pub set_among : (k : ℕ) (children : Activities) (child other : Activity) → child_at k children ≡ Some child → open_among (set_child k other children) + open_count child ≡ open_among children + open_count other
set_among k NoActivities child other e = none_some e
set_among zero (AndActivity c others) child other e = let same = ap open_count (some_inj e) in omega (arith, same)
set_among (suc k) (AndActivity c others) child other e = let rest = set_among k others child other e in omega (arith, rest)

going_before : (i : ℕ) (child : Activity) (others : Joining) → has_ended child ≡ false → child_before i child others ≡ running_before others
going_before i (Ready n raw counts) others e = refl
going_before i (Waiting n raw counts payload) others e = refl
going_before i (Split n raw counts children) others e = refl
going_before i (Done output) others e = absurd (cc)
going_before i (Failed error cause) others e = absurd (cc)

-- one that goes on by one that goes on: the children are as far as before
pub same_joining : (k i : ℕ) (children : Activities) (child other : Activity) → child_at k children ≡ Some child → has_ended child ≡ false → has_ended other ≡ false → joining i (set_child k other children) ≡ joining i children
same_joining k i NoActivities child other e goes on = none_some e
same_joining zero i (AndActivity c others) child other e goes on =
    going_before i other (joining (suc i) others) on ∙ sym (going_before i c (joining (suc i) others) (ap has_ended (some_inj e) ∙ goes))
same_joining (suc k) i (AndActivity c others) child other e goes on = ap (child_before i c) (same_joining k (suc i) others child other e goes on)

-- so the Split has as many more, or fewer, as the child
pub split_set : (n : List ℕ) (raw : Tree) (counts : List ℕ) (k : ℕ) (children : Activities) (child other : Activity) → child_at k children ≡ Some child → has_ended child ≡ false → has_ended other ≡ false
    → open_count (Split n raw counts (set_child k other children)) + open_count child ≡ open_count (Split n raw counts children) + open_count other
split_set n raw counts k children child other e goes on =
    let now = split_counted n raw counts (set_child k other children) in
    let was = split_counted n raw counts children in
    let own = ap own_count (same_joining k 0 children child other e goes on) in
    let among = set_among k children child other e in
    omega (arith, now, was, own, among)

-- whatever it is replaced by: its own place counts, as it wanted an event before or does then
pub split_changed : (n : List ℕ) (raw : Tree) (counts : List ℕ) (k : ℕ) (children : Activities) (child other : Activity) → child_at k children ≡ Some child
    → open_count (Split n raw counts (set_child k other children)) + open_count child + own_count (joining 0 children) ≡ open_count (Split n raw counts children) + open_count other + own_count (joining 0 (set_child k other children))
split_changed n raw counts k children child other e =
    let now = split_counted n raw counts (set_child k other children) in
    let was = split_counted n raw counts children in
    let among = set_among k children child other e in
    omega (arith, now, was, among)
