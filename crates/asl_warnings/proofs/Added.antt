-- What is added to marks.
use Rattle.std.proofs.Common.{◌≡◌, ◌≢◌, ◌<◌, ◌≤◌, ◌+◌, ◌⊎◌, inl, inr, ℕ, zero, suc, List, [], ◌∷◌, ◌++◌, length, slice_get, slice_set, Bool, true, false, Some, refl, sym, ap, ◌∙◌, subst, arith, Contains, ◌||◌, nat_eq, map, take, get_or, replicate, add-one, length-append, Result, OnOk, is_some, eq-eqb}
use Rattle.std.proofs.lemmas.Bool.{false≢true, eqb-true}
use Rattle.std.proofs.lemmas.Result.{on_ok_weaker}
use Rattle.std.proofs.lemmas.List.Elements.{Contains-append_left, Contains-append_right, Contains-append_cases, Contains-push, Contains-push_cases}
use Rattle.asl_model.proofs.RunOptions.{some_inj}
use Rattle.asl_warnings.specs.Adding.{Adds, is_marked}
use Rattle.asl_warnings.specs.Marks.{AreListed, mark_at, marked_in, stands_in}
use Rattle.asl_warnings.specs.declared.marks.Marks.{Marks}

pub or-right : (a : Bool) {b : Bool} → b ≡ true → (a || b) ≡ true
or-right true e = refl
or-right false e = e

no-element : (n : ℕ) → Contains [] n → ⊥
no-element n has = let within = has.1 in omega (arith, within)

-- ---- marks, one by one

pub set-many : (ms : List Bool) (n : ℕ) (b : Bool) → length (slice_set ms n b) ≡ length ms
set-many [] n b = refl
set-many (m ∷ ms) zero b = refl
set-many (m ∷ ms) (suc n) b = ap suc (set-many ms n b)

pub set-here : (ms : List Bool) (n : ℕ) (b : Bool) → n < length ms → mark_at (slice_set ms n b) n ≡ b
set-here [] n b h = absurd (omega (arith, h))
set-here (m ∷ ms) zero b h = refl
set-here (m ∷ ms) (suc n) b h = set-here ms n b (omega (arith, h))

pub set-other : (ms : List Bool) (n k : ℕ) (b : Bool) → k ≢ n → mark_at (slice_set ms n b) k ≡ mark_at ms k
set-other [] n k b other = refl
set-other (m ∷ ms) zero zero b other = absurd (other refl)
set-other (m ∷ ms) zero (suc k) b other = refl
set-other (m ∷ ms) (suc n) zero b other = refl
set-other (m ∷ ms) (suc n) (suc k) b other = set-other ms n k b (λ same. other (ap suc same))

-- one mark more
pub set-counted : (ms : List Bool) (n : ℕ) → n < length ms → mark_at ms n ≡ false → marked_in (slice_set ms n true) ≡ suc (marked_in ms)
set-counted [] n h e = absurd (omega (arith, h))
set-counted (true ∷ ms) zero h e = absurd (false≢true (sym e))
set-counted (false ∷ ms) zero h e = refl
set-counted (true ∷ ms) (suc n) h e = ap suc (set-counted ms n (omega (arith, h)) e)
set-counted (false ∷ ms) (suc n) h e = set-counted ms n (omega (arith, h)) e

pub marked-within : (ms : List Bool) → marked_in ms ≤ length ms
marked-within [] = omega arith
marked-within (true ∷ ms) = let within = marked-within ms in omega (arith, within)
marked-within (false ∷ ms) = let within = marked-within ms in omega (arith, within)

-- ---- numbers in their order

same-number : (n : ℕ) → nat_eq n n ≡ true
same-number n = eq-eqb n n refl

is-number : (m n : ℕ) → nat_eq m n ≡ true → m ≡ n
is-number m n e = eqb-true m n e

stands-last : (n : ℕ) (ms : List ℕ) → stands_in n (ms ++ n ∷ []) ≡ true
stands-last n [] = ap (λ b. b || false) (same-number n)
stands-last n (m ∷ ms) = or-right (nat_eq m n) (stands-last n ms)

stands-before : (n k : ℕ) (ms : List ℕ) → stands_in n ms ≡ true → stands_in n (ms ++ k ∷ []) ≡ true
stands-before n k [] is = absurd (false≢true is)
stands-before n k (m ∷ ms) is = by (nat_eq m n) refl is (stands-before n k ms)
  where
    by : (b : Bool) → nat_eq m n ≡ b → (b || stands_in n ms) ≡ true → (stands_in n ms ≡ true → stands_in n (ms ++ k ∷ []) ≡ true) → (nat_eq m n || stands_in n (ms ++ k ∷ [])) ≡ true
    by true e is later = ap (λ b. b || stands_in n (ms ++ k ∷ [])) e
    by false e is later = or-right (nat_eq m n) (later is)

pub stands-place : (n : ℕ) (ms : List ℕ) → stands_in n ms ≡ true → (place : ℕ) × (slice_get ms place ≡ Some n)
stands-place n [] is = absurd (false≢true is)
stands-place n (m ∷ ms) is = by (nat_eq m n) refl is (stands-place n ms)
  where
    by : (b : Bool) → nat_eq m n ≡ b → (b || stands_in n ms) ≡ true → (stands_in n ms ≡ true → (place : ℕ) × (slice_get ms place ≡ Some n)) → (place : ℕ) × (slice_get (m ∷ ms) place ≡ Some n)
    by true e is later = (0, ap Some (is-number m n e))
    by false e is later = let place = later is in (suc place.0, place.1)

pub none-there : {X : Type 0} (place : ℕ) (n : X) → slice_get {X = X} [] place ≡ Some n → ⊥
none-there zero n is = false≢true (ap is_some is)
none-there (suc place) n is = false≢true (ap is_some is)

-- ---- numbers added to marks

pub adds-both : (a b c : Marks) (ms ns : List ℕ) → Adds a b ms → Adds b c ns → Adds a c (ms ++ ns)
adds-both a b c ms ns first second = record {
  many = second.many ∙ first.many;
  keeps = λ n is. second.keeps n (first.keeps n is);
  begins = λ place n is. second.begins place n (first.begins place n is);
  marks = λ n has within. marked n within (Contains-append_cases ms ns n has);
  only = λ n is. by n (second.only n is);
}
  where
    marked : (n : ℕ) → n < length a.marks.items → Contains ms n ⊎ Contains ns n → is_marked c n ≡ true
    marked n within (inl has) = second.keeps n (first.marks n has within)
    marked n within (inr has) = second.marks n has (subst (λ many. n < many) (sym first.many) within)

    sooner : (n : ℕ) → (is_marked a n ≡ true) ⊎ Contains ms n → (is_marked a n ≡ true) ⊎ Contains (ms ++ ns) n
    sooner n (inl is) = inl is
    sooner n (inr has) = inr (Contains-append_left ms ns n has)

    by : (n : ℕ) → (is_marked b n ≡ true) ⊎ Contains ns n → (is_marked a n ≡ true) ⊎ Contains (ms ++ ns) n
    by n (inl is) = sooner n (first.only n is)
    by n (inr has) = inr (Contains-append_right ms ns n has)

pub adds-then : {E : Type 0} (a b c : Marks) (ms ns : List ℕ) (r : Result (Unit {0}) E) → Adds a b ms → OnOk r (Adds b c ns) → OnOk r (Adds a c (ms ++ ns))
adds-then a b c ms ns r first second = on_ok_weaker r (adds-both a b c ms ns first) second

-- what a list of items names, one item after the other
pub taken : {X Y : Type 0} (f : X → Y) (xs : List X) (i : ℕ) (x : X) → i < length xs → x ≡ get_or xs i x → map f (take (suc i) xs) ≡ map f (take i xs) ++ f x ∷ []
taken f [] i x h e = absurd (omega (arith, h))
taken f (y ∷ ys) zero x h e = ap (λ z. f z ∷ []) (sym e)
taken f (y ∷ ys) (suc i) x h e = ap (λ ns. f y ∷ ns) (taken f ys i x (omega (arith, h)) e)

pub adds-item : {X : Type 0} (f : X → ℕ) (a b c : Marks) (xs : List X) (i : ℕ) (x : X) → i < length xs → x ≡ get_or xs i x → Adds a b (map f (take i xs)) → Adds b c (f x ∷ []) → Adds a c (map f (take (i + 1) xs))
adds-item f a b c xs i x h e first second =
    subst (λ n. Adds a c (map f (take n xs))) (sym (add-one i)) (subst (Adds a c) (sym (taken f xs i x h e)) (adds-both a b c (map f (take i xs)) (f x ∷ []) first second))

-- ---- a mark of its own

pub listed-none : (count : ℕ) → AreListed (replicate count false) []
listed-none count = record {
  each_stands = λ n is. absurd (false≢true (sym (none count n) ∙ is));
  each_marked = λ place n is. absurd (none-there place n is);
  many = none-set count;
}
  where
    none : (count n : ℕ) → mark_at (replicate count false) n ≡ false
    none zero n = refl
    none (suc count) zero = refl
    none (suc count) (suc n) = none count n

    none-set : (count : ℕ) → 0 ≡ marked_in (replicate count false)
    none-set zero = refl
    none-set (suc count) = none-set count

pub unmarked : (count n : ℕ) → mark_at (replicate count false) n ≡ false
unmarked zero n = refl
unmarked (suc count) zero = refl
unmarked (suc count) (suc n) = unmarked count n

-- two numbers are the same, or they aren't
pub data Same (m n : ℕ) : Type 0 where
  same : m ≡ n → Same m n
  other : m ≢ n → Same m n

pub compared : (m n : ℕ) → Same m n
compared m n = by (nat_eq m n) refl
  where
    by : (b : Bool) → nat_eq m n ≡ b → Same m n
    by true e = same (is-number m n e)
    by false e = other (λ is. false≢true (sym e ∙ subst (λ k. nat_eq m k ≡ true) is (same-number m)))

-- a number at a place of a list with one more at its end is that one, or it stands there before
pub data Where {X : Type 0} (ns : List X) (n : X) (place : ℕ) (number : X) : Type 0 where
  before : slice_get ns place ≡ Some number → Where ns n place number
  last : n ≡ number → Where ns n place number

pub whereabouts : {X : Type 0} (ns : List X) (n : X) (place : ℕ) (number : X) → slice_get (ns ++ n ∷ []) place ≡ Some number → Where ns n place number
whereabouts [] n zero number is = last (some_inj is)
whereabouts [] n (suc place) number is = absurd (none-there place number is)
whereabouts (m ∷ ms) n zero number is = before is
whereabouts (m ∷ ms) n (suc place) number is = later (whereabouts ms n place number is)
  where
    later : Where ms n place number → Where (m ∷ ms) n (suc place) number
    later (before is) = before is
    later (last is) = last is

still-there : (ns : List ℕ) (n place number : ℕ) → slice_get ns place ≡ Some number → slice_get (ns ++ n ∷ []) place ≡ Some number
still-there [] n place number is = absurd (none-there place number is)
still-there (m ∷ ms) n zero number is = is
still-there (m ∷ ms) n (suc place) number is = still-there ms n place number is

keeps-marked : (ms : List Bool) (n k : ℕ) → n < length ms → mark_at ms k ≡ true → mark_at (slice_set ms n true) k ≡ true
keeps-marked ms n k h is = by (compared k n)
  where
    by : Same k n → mark_at (slice_set ms n true) k ≡ true
    by (same e) = subst (λ j. mark_at (slice_set ms n true) j ≡ true) (sym e) (set-here ms n true h)
    by (other e) = set-other ms n k true e ∙ is

pub listed-more : (ms : List Bool) (ns ks : List ℕ) (n : ℕ) → AreListed ms ns → n < length ms → mark_at ms n ≡ false → ks ≡ ns ++ n ∷ [] → AreListed (slice_set ms n true) ks
listed-more ms ns ks n listed h e whole = subst (AreListed (slice_set ms n true)) (sym whole) (record {
  each_stands = λ k is. stands k (compared k n) is;
  each_marked = λ place k is. marked k (whereabouts ns n place k is);
  many = many;
})
  where
    stands : (k : ℕ) → Same k n → mark_at (slice_set ms n true) k ≡ true → stands_in k (ns ++ n ∷ []) ≡ true
    stands k (same e) is = subst (λ j. stands_in j (ns ++ n ∷ []) ≡ true) (sym e) (stands-last n ns)
    stands k (other e) is = stands-before k n ns (listed.each_stands k (sym (set-other ms n k true e) ∙ is))

    marked : (k : ℕ) {place : ℕ} → Where ns n place k → mark_at (slice_set ms n true) k ≡ true
    marked k {place} (before is) = keeps-marked ms n k h (listed.each_marked place k is)
    marked k {place} (last is) = subst (λ j. mark_at (slice_set ms n true) j ≡ true) is (set-here ms n true h)

    many : length (ns ++ n ∷ []) ≡ marked_in (slice_set ms n true)
    many = length-append ns (n ∷ []) ∙ (add-one (length ns) ∙ (ap suc listed.many ∙ sym (set-counted ms n h e)))

pub adds-one : (a b : Marks) (n : ℕ) → n < length a.marks.items → b.marks.items ≡ slice_set a.marks.items n true → b.order.items ≡ a.order.items ++ n ∷ [] → Adds a b (n ∷ [])
adds-one a b n h marks order = record {
  many = ap length marks ∙ set-many a.marks.items n true;
  keeps = λ k is. along k (keeps-marked a.marks.items n k h is);
  begins = λ place k is. subst (λ ns. slice_get ns place ≡ Some k) (sym order) (still-there a.order.items n place k is);
  marks = λ k has within. subst (λ j. is_marked b j ≡ true) (only-one k has) (along n (set-here a.marks.items n true h));
  only = λ k is. which k (compared k n) (subst (λ ms. mark_at ms k ≡ true) marks is);
}
  where
    along : (k : ℕ) → mark_at (slice_set a.marks.items n true) k ≡ true → is_marked b k ≡ true
    along k is = subst (λ ms. mark_at ms k ≡ true) (sym marks) is

    only-one : (k : ℕ) → Contains (n ∷ []) k → n ≡ k
    only-one k has = by (Contains-push_cases [] n k has)
      where
        by : Contains [] k ⊎ (n ≡ k) → n ≡ k
        by (inl none) = absurd (no-element k none)
        by (inr is) = is

    which : (k : ℕ) → Same k n → mark_at (slice_set a.marks.items n true) k ≡ true → (is_marked a k ≡ true) ⊎ Contains (n ∷ []) k
    which k (same e) is = inr (subst (Contains (n ∷ [])) (sym e) (Contains-push [] n))
    which k (other e) is = inl (sym (set-other a.marks.items n k true e) ∙ is)
