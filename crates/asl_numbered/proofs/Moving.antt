-- One task of a join is done: the numbers that are found, and what is left to do.
use Rattle.std.proofs.Common.{◌≡◌, ◌<◌, ◌-◌, ℕ, List, [], ◌∷◌, ◌++◌, length, take, drop, refl, sym, ap, ◌∙◌, subst, arith}
use Rattle.std.proofs.lemmas.List.{append-nil, drop-map, length-drop, map-append, take-map, take_all}
use Rattle.asl_model.specs.Shape as model
use Rattle.asl_model.specs.Shape.{Shape}
use Rattle.asl_numbered.specs.declared.pair.Pair.{Pair}
use Rattle.asl_numbered.specs.declared.joining.JoinTask.{JoinTask}
use Rattle.asl_numbered.specs.declared.joining.JoinTask.TheVariants.{Join, Nothing, With, Finish}
use Rattle.asl_numbered.specs.Comparison.{IsWithin}
use Rattle.asl_numbered.specs.Expansion.{shape_at, AreBelow, IsNumberOf, Keeps, Shows}
use Rattle.asl_numbered.specs.Joins.{joint, AreJoins, step_of, Step, steps_of, joined_last, done, IsFed, AreEachFed, cost_of, last_of, step_cost, work_left, found_in, IsTaskWithin, AreEachTasksWithin, AreLeft, Moves, AreMadeOf}
use Rattle.asl_numbered.proofs.Comparisons.{within_kept}
use Rattle.asl_numbered.proofs.Joins.{joint_kept, joins_kept, parts_cheaper, joined_behind, last_behind, moved, less_work}
use Rattle.asl_numbered.specs.Laws.{below-append, below-behind, below-drop, below-front, below-take, below-wider, keeps_longer, keeps_same, kept_shape}

-- the shapes of the numbers stay
found-kept : (old new : List Shape) (numbers : List ℕ) → Keeps old new → AreBelow (length old) numbers → found_in new numbers ≡ found_in old numbers
found-kept old new [] keeps h = refl
found-kept old new (n ∷ numbers) keeps h = rw (kept_shape old new n keeps h.0, found-kept old new numbers keeps h.1) refl

-- the last of some numbers
found-behind : (table : List Shape) (numbers : List ℕ) (n : ℕ) → found_in table (numbers ++ n ∷ []) ≡ found_in table numbers ++ shape_at table n ∷ []
found-behind table numbers n = map-append (shape_at table) numbers (n ∷ [])

-- a task is done by one number behind those that stay
number-put : (old new : List Shape) (task : JoinTask) (s : Shape) (tasks left : List JoinTask) (numbers front next : List ℕ) (n : ℕ) → Keeps old new → AreBelow (length old) front → Shows new s n → left ≡ tasks → next ≡ front ++ n ∷ [] → done (step_of old task) (found_in old numbers) ≡ found_in old front ++ s ∷ [] → 0 < step_cost (step_of old task) (found_in old numbers) → Moves old new task tasks left numbers next
number-put old new task s tasks left numbers front next n keeps below shows stays made is cost = record {
  added = [];
  whole = stays ∙ sym (append-nil tasks);
  within = tt;
  below = subst (AreBelow (length new)) (sym made) (below-append (length new) front (n ∷ []) (below-wider (length old) (length new) front (keeps_longer old new keeps) below) (shows.within, tt));
  fed = tt;
  same =
      ap (found_in new) made
      ∙ found-behind new front n
      ∙ ap (λ found. found ++ shape_at new n ∷ []) (found-kept old new front keeps below)
      ∙ ap (λ t. found_in old front ++ t ∷ []) shows.same
      ∙ sym is;
  less = cost;
}

-- ---- a pair

-- the number of its join is put behind the numbers
join-put : (old new : List Shape) (p : Pair) (tasks left : List JoinTask) (numbers next : List ℕ) (n : ℕ) → Keeps old new → AreBelow (length old) numbers → Shows new (joint old p) n → left ≡ tasks → next ≡ numbers ++ n ∷ [] → Moves old new (Join p) tasks left numbers next
join-put old new p tasks left numbers next n keeps below shows stays made =
    number-put old new (Join p) (joint old p) tasks left numbers numbers next n keeps below shows stays made refl (omega (arith, parts_cheaper (shape_at old p.first) (shape_at old p.second)))

-- it was there
pub known_put : (table : List Shape) (p : Pair) (tasks left : List JoinTask) (numbers next : List ℕ) (n : ℕ) → AreBelow (length table) numbers → Shows table (joint table p) n → left ≡ tasks → next ≡ numbers ++ n ∷ [] → Moves table table (Join p) tasks left numbers next
known_put table p tasks left numbers next n below shows stays made = join-put table table p tasks left numbers next n (keeps_same table) below shows stays made

-- ---- a pair that is finished

module _ (table : List Shape) (p : Pair) (start : ℕ) (numbers : List ℕ) (within : IsWithin table p) (below : AreBelow (length table) numbers) (fed : IsFed (step_of table (Finish p start)) (found_in table numbers)) where
  -- the numbers of its parts are the last ones
  pub made_of : (parts : List ℕ) → parts ≡ drop start numbers → AreMadeOf table p parts
  made_of parts is = rw is (record {
    within = within;
    below = below-drop (length table) start numbers below;
    all = sym (drop-map (shape_at table) start numbers) ∙ fed.1;
    inhabited = record { first = fed.2; second = fed.3 };
  })

  -- the number of its join is put in their place
  module _ (new : List Shape) (n : ℕ) (keeps : Keeps table new) (shows : Shows new (joint table p) n) where
    pub finish_put : (tasks left : List JoinTask) (front next : List ℕ) → left ≡ tasks → front ≡ take start numbers → next ≡ front ++ n ∷ [] → Moves table new (Finish p start) tasks left numbers next
    finish_put tasks left front next stays cut made =
        let step : done (step_of table (Finish p start)) (found_in table numbers) ≡ found_in table (take start numbers) ++ joint table p ∷ [] = ap (λ found. found ++ joint table p ∷ []) (take-map (shape_at table) start numbers) in
        number-put table new (Finish p start) (joint table p) tasks left numbers (take start numbers) next n keeps (below-take (length table) start numbers below) shows stays (made ∙ ap (λ found. found ++ n ∷ []) cut) step (omega arith)

    -- what is remembered of it is right
    finish_shows : Shows new (joint new p) n
    finish_shows = subst (λ s. Shows new s n) (sym (joint_kept table new p keeps within)) shows

    pub finish_right : (entries next : List (Pair × ℕ)) → AreJoins table entries → ((t : List Shape) → IsWithin t p → Shows t (joint t p) n → AreJoins t entries → AreJoins t next) → AreJoins new next
    finish_right entries next right remembered = remembered new (within_kept table new p keeps within) finish_shows (joins_kept table new entries keeps right)

-- the last numbers, as a slice of all
pub sliced : (now numbers : List ℕ) (start : ℕ) → now ≡ numbers → take (length now - start) (drop start now) ≡ drop start numbers
sliced now numbers start is = take_all (length now - start) (drop start now) (omega (arith, length-drop start now)) ∙ ap (drop start) is

-- ---- tasks without a pair

-- the number of Never is put behind the numbers
pub nothing_put : (old new : List Shape) (task : JoinTask) (tasks left : List JoinTask) (numbers next : List ℕ) (n : ℕ) → task ≡ Nothing → Keeps old new → AreBelow (length old) numbers → IsNumberOf new model.Never n → left ≡ tasks → next ≡ numbers ++ n ∷ [] → Moves old new task tasks left numbers next
nothing_put old new task tasks left numbers next n is keeps below never stays made =
    let shows : Shows new model.Never n = record { within = never.within; same = never.same } in
    subst (λ t. Moves old new t tasks left numbers next) (sym is) (number-put old new Nothing model.Never tasks left numbers numbers next n keeps below shows stays made refl (omega arith))

-- the last number's shape is to be joined with another
pub with_put : (table : List Shape) (task : JoinTask) (tasks left : List JoinTask) (numbers next : List ℕ) (n last : ℕ) → task ≡ With n → IsTaskWithin table task → AreBelow (length table) numbers → numbers ≡ next ++ last ∷ [] → left ≡ tasks ++ Join (record { first = last; second = n }) ∷ [] → Moves table table task tasks left numbers next
with_put table task tasks left numbers next n last is within below split made =
    let own : n < length table = subst (IsTaskWithin table) is within in
    let all : AreBelow (length table) (next ++ last ∷ []) = subst (AreBelow (length table)) split below in
    let other = below-behind (length table) next (last ∷ []) all in
    let s = shape_at table n in
    let t = shape_at table last in
    let found : found_in table numbers ≡ found_in table next ++ t ∷ [] = ap (found_in table) split ∙ found-behind table next last in
    let cost : cost_of (last_of (found_in table numbers)) s ≡ cost_of t s = ap (λ more. cost_of (last_of more) s) found ∙ ap (λ u. cost_of u s) (last_behind t (found_in table next)) in
    subst (λ task. Moves table table task tasks left numbers next) (sym is) (record {
      added = Join (record { first = last; second = n }) ∷ [];
      whole = made;
      within = (record { first = other.0; second = own }, tt);
      below = below-front (length table) next (last ∷ []) all;
      fed = (tt, tt);
      same = sym (ap (joined_last s) found ∙ joined_behind s t (found_in table next));
      less = omega (arith, cost);
    })

-- ---- the loop

within-last : (table : List Shape) (front : List JoinTask) (task : JoinTask) → AreEachTasksWithin table (front ++ task ∷ []) → IsTaskWithin table task
within-last table [] task h = h.0
within-last table (other ∷ front) task h = within-last table front task h.1

fed-last : (front : List Step) (step : Step) (found : List Shape) → AreEachFed (front ++ step ∷ []) found → IsFed step found
fed-last [] step found h = h.0
fed-last (other ∷ front) step found h = fed-last front step found h.1

module _ (table : List Shape) (shape : Shape) (tasks front : List JoinTask) (task : JoinTask) (numbers : List ℕ) (split : tasks ≡ front ++ task ∷ []) (left : AreLeft table shape tasks numbers) where
  now : AreLeft table shape (front ++ task ∷ []) numbers
  now = subst (λ all. AreLeft table shape all numbers) split left

  pub task_within : IsTaskWithin table task
  task_within = within-last table front task now.within

  pub task_fed : IsFed (step_of table task) (found_in table numbers)
  task_fed = fed-last (steps_of table front) (step_of table task) (found_in table numbers) (subst (λ steps. AreEachFed steps (found_in table numbers)) (map-append (step_of table) front (task ∷ [])) now.fed)

  module _ (new : List Shape) (more : List JoinTask) (next : List ℕ) (keeps : Keeps table new) (moves : Moves table new task front more numbers next) where
    pub left_moved : AreLeft new shape more next
    left_moved = moved table new task front more numbers next keeps moves shape now

    pub left_less : work_left (steps_of new more) (found_in new next) < work_left (steps_of table tasks) (found_in table numbers)
    left_less =
        subst (λ all. work_left (steps_of new more) (found_in new next) < work_left (steps_of table all) (found_in table numbers)) (sym split) (less_work table new task front more numbers next keeps moves shape now)
