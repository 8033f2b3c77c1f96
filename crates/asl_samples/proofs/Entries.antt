-- Entries of tasks that take and give any tree, put one after another into a map.
use Rattle.std.proofs.Common.{◌≡◌, ◌<◌, ◌+◌, ℕ, List, [], ◌∷◌, map, Bool, true, false, Option, Some, None, String, Global, string_bytes, string_cmp, refl, sym, ap, ◌∙◌, subst, arith, Ordering, Less, Equal, Greater, ◌⊎◌, inl, inr, eqb, ◌≢◌}
use Rattle.std.specs.BTreeMap.{insert_entry}
use Rattle.std.specs.Ordering.{match_ordering}
use Rattle.std.specs.Prelude.{IsTrue, is_some, bytes_eq, if◌then◌else◌}
use Rattle.std.proofs.lemmas.Bool.Decides.{eqb_tells}
use Rattle.std.proofs.lemmas.Slice.Eq.{bytes_eq-Decides}
use Rattle.asl_model.specs.Certificate.{TaskShapes, under}
use Rattle.asl_model.specs.Numbering.{Table}
use Rattle.asl_tree.proofs.Values.{same_name}
use Rattle.asl_samples.specs.Tasks.{task_at, any_task, AreTasksOf}

-- the entries of a map, as each value shows
abbrev shown : {X A : Type 0} → (X → A) → List (String Global × X) → List (List ℕ × A)
shown f es = map (λ e. (string_bytes e.0, f e.1)) es

-- what stands under a name, with one more value in the map
pub under_inserted : {X A : Type 0} (f : X → A) (n : List ℕ) (es : List (String Global × X)) (k : String Global) (v : X) → under n (shown f (insert_entry string_cmp es k v)) ≡ (if bytes_eq (string_bytes k) n then Some (f v) else under n (shown f es))
under_inserted f n [] k v = refl
under_inserted f n (e ∷ es) k v = go (string_cmp k e.0) refl (under_inserted f n es k v)
  where
    go : (o : Ordering) → string_cmp k e.0 ≡ o → under n (shown f (insert_entry string_cmp es k v)) ≡ (if bytes_eq (string_bytes k) n then Some (f v) else under n (shown f es)) → under n (shown f (match_ordering o ((k, v) ∷ e ∷ es) ((e.0, v) ∷ es) (e ∷ insert_entry string_cmp es k v))) ≡ (if bytes_eq (string_bytes k) n then Some (f v) else under n (shown f (e ∷ es)))
    go Less at below = refl
    go Equal at below =
        let same : string_bytes e.0 ≡ string_bytes k = (bytes_eq-Decides (string_bytes e.0) (string_bytes k)).0 (same_name (string_bytes k) (string_bytes e.0) ∙ rw at refl) in
        by (bytes_eq (string_bytes k) n) refl same
      where
        by : (b : Bool) → bytes_eq (string_bytes k) n ≡ b → string_bytes e.0 ≡ string_bytes k → (if bytes_eq (string_bytes e.0) n then Some (f v) else under n (shown f es)) ≡ (if b then Some (f v) else (if bytes_eq (string_bytes e.0) n then Some (f e.1) else under n (shown f es)))
        by true is same = rw (same, is) refl
        by false is same = rw (same, is) refl
    go Greater at below = by (bytes_eq (string_bytes k) n) refl below
      where
        apart : bytes_eq (string_bytes k) n ≡ true → bytes_eq (string_bytes e.0) n ≡ false
        apart is =
            let named : string_bytes k ≡ n = (bytes_eq-Decides (string_bytes k) n).0 is in
            subst (λ m. bytes_eq (string_bytes e.0) m ≡ false) named (same_name (string_bytes k) (string_bytes e.0) ∙ rw at refl)

        by : (b : Bool) → bytes_eq (string_bytes k) n ≡ b → under n (shown f (insert_entry string_cmp es k v)) ≡ (if b then Some (f v) else under n (shown f es)) → (if bytes_eq (string_bytes e.0) n then Some (f e.1) else under n (shown f (insert_entry string_cmp es k v))) ≡ (if b then Some (f v) else (if bytes_eq (string_bytes e.0) n then Some (f e.1) else under n (shown f es)))
        by true is below = rw (apart is) below
        by false is below = rw below refl

-- none of no states

-- one state more, which is no Task
pub tasks-passed : (table : Table) (many : ℕ) (tasks : List (List ℕ × TaskShapes)) → AreTasksOf table many tasks → task_at table many ≡ None → AreTasksOf table (many + 1) tasks
tasks-passed table many tasks are none = record { each = λ i n below at. by i n below at (eqb_tells i many); others = are.others }
  where
    by : (i : ℕ) (n : List ℕ) → i < many + 1 → task_at table i ≡ Some n → ((eqb i many ≡ true) × (i ≡ many)) ⊎ ((eqb i many ≡ false) × (i ≢ many)) → under n tasks ≡ Some any_task
    by i n below at (inl last) =
        let both : ◌≡◌ {A = Option (List ℕ)} None (Some n) = sym none ∙ sym (ap (task_at table) last.1) ∙ at in
        absurd (cc)
    by i n below at (inr earlier) = are.each i n (omega (arith, earlier.1)) at

-- one that is a Task, whose entry comes to those in the map
pub tasks-more : {X : Type 0} (f : X → TaskShapes) (table : Table) (many : ℕ) (es new : List (String Global × X)) (k : String Global) (v : X) → AreTasksOf table many (shown f es) → task_at table many ≡ Some (string_bytes k) → f v ≡ any_task → new ≡ insert_entry string_cmp es k v → AreTasksOf table (many + 1) (shown f new)
tasks-more f table many es new k v are task any more = record {
  each = λ i n below at. told n (each i n below at (eqb_tells i many));
  others = λ n there. others n (bytes_eq (string_bytes k) n) refl there;
}
  where
    stands : (n : List ℕ) → under n (shown f new) ≡ (if bytes_eq (string_bytes k) n then Some (f v) else under n (shown f es))
    stands n = ap (λ entries. under n (shown f entries)) more ∙ under_inserted f n es k v

    told : (n : List ℕ) → ((string_bytes k ≡ n) ⊎ (under n (shown f es) ≡ Some any_task)) → under n (shown f new) ≡ Some any_task
    told n (inl named) = stands n ∙ rw ((bytes_eq-Decides (string_bytes k) n).1 named) (ap Some any)
    told n (inr there) = stands n ∙ by (bytes_eq (string_bytes k) n)
      where
        by : (b : Bool) → (if b then Some (f v) else under n (shown f es)) ≡ Some any_task
        by true = ap Some any
        by false = there

    each : (i : ℕ) (n : List ℕ) → i < many + 1 → task_at table i ≡ Some n → ((eqb i many ≡ true) × (i ≡ many)) ⊎ ((eqb i many ≡ false) × (i ≢ many)) → (string_bytes k ≡ n) ⊎ (under n (shown f es) ≡ Some any_task)
    each i n below at (inl last) =
        let both : ◌≡◌ {A = Option (List ℕ)} (Some (string_bytes k)) (Some n) = sym task ∙ sym (ap (task_at table) last.1) ∙ at in
        inl (cc)
    each i n below at (inr earlier) = inr (are.each i n (omega (arith, earlier.1)) at)

    others : (n : List ℕ) (b : Bool) → bytes_eq (string_bytes k) n ≡ b → IsTrue (is_some (under n (shown f new))) → (i : ℕ) × (task_at table i ≡ Some n)
    others n true is there = (many, task ∙ ap Some ((bytes_eq-Decides (string_bytes k) n).0 is))
    others n false is there = are.others n (subst (λ o. IsTrue (is_some o)) (stands n ∙ rw is refl) there)
