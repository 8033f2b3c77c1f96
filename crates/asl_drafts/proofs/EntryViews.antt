-- Entries of a draft in which one shape has changed.
use Rattle.std.proofs.Common.{◌≡◌, ◌<◌, ◌≤◌, ◌+◌, ℕ, zero, suc, List, [], ◌∷◌, ◌++◌, length, get_or, map, slice_get, slice_set, sum_by, take, Bool, Bor, Vec, Option, Some, option_map, true, false, Result, Ok, Err, IfOk, refl, sym, ap, ap₂, ◌∙◌, subst, arith}
use Rattle.std.specs.List.{All}
use Rattle.std.specs.declared.alloc.Global.{Global}
use Rattle.std.proofs.lemmas.List.Elements.{All-head, All-tail, All-weaker}
use Rattle.std.proofs.lemmas.List.Sums.{sum_by-cons}
use Rattle.std.proofs.lemmas.List.{map-append}
use Rattle.asl_model.specs.Machine.{State}
use Rattle.asl_model.specs.Shape.{Shape}
use Rattle.asl_model.proofs.RunOptions.{none_some, some_inj}
use Rattle.asl_states.specs.Machine.{state_view}
use Rattle.asl_states.specs.declared.states.State as states
use Rattle.asl_draft_laws.specs.Drafts.{DraftEntry, Growth, taken_in, with_element}
use Rattle.asl_numbered.specs.Expansion.{Keeps}
use Rattle.asl_numbered.specs.Laws.{kept_shape}
use Rattle.asl_drafts.specs.Entries.{Makes, ends_room, ends_view, entries_view, entry_room, entry_view, made_part}
use Rattle.asl_drafts.specs.Growing.{AreEndsGrown, AreGrown, IsEntryGrown, IsGrown, Takes, growth_view}
use Rattle.asl_drafts.specs.declared.entries.DraftEntry as code
use Rattle.asl_drafts.specs.declared.entries.Part.TheVariants as part
use Rattle.asl_drafts.specs.declared.growing.Growing.{Growing}

-- ---- one element of a list

module _ {A B : Type 0} (old new : A → B) (make : B → B) where
  -- each is seen as it was
  same-all : (xs : List A) → All (λ x. new x ≡ old x) xs → map new xs ≡ map old xs
  same-all [] same = refl
  same-all (x ∷ xs) same = ap₂ (λ y ys. y ∷ ys) (All-head (λ z. new z ≡ old z) x xs same) (same-all xs (All-tail (λ z. new z ≡ old z) x xs same))

  -- one is changed
  set-made : (xs : List A) (i : ℕ) (x y : A) → i < length xs → x ≡ get_or xs i x → All (λ z. new z ≡ old z) xs → new y ≡ make (old x) → map new (slice_set xs i y) ≡ with_element i make (map old xs)
  set-made [] i x y within is same made = absurd (omega (arith, within))
  set-made (z ∷ zs) zero x y within is same made = ap₂ (λ b bs. b ∷ bs) (made ∙ ap (λ w. make (old w)) is) (same-all zs (All-tail (λ w. new w ≡ old w) z zs same))
  set-made (z ∷ zs) (suc i) x y within is same made = ap₂ (λ b bs. b ∷ bs) (All-head (λ w. new w ≡ old w) z zs same) (set-made zs i x y (omega (arith, within)) is (All-tail (λ w. new w ≡ old w) z zs same) made)

  -- none is there
  with-past : (bs : List B) (i : ℕ) → length bs ≤ i → with_element i make bs ≡ bs
  with-past [] i past = refl
  with-past (b ∷ bs) zero past = absurd (omega (arith, past))
  with-past (b ∷ bs) (suc i) past = ap (λ cs. b ∷ cs) (with-past bs i (omega (arith, past)))

  module _ (room : B → ℕ) where
    -- it may change less often, and so may all of them
    sum-less : (xs : List A) (i : ℕ) (x : A) → i < length xs → x ≡ get_or xs i x → room (make (old x)) < room (old x) → sum_by room (with_element i make (map old xs)) < sum_by room (map old xs)
    sum-less [] i x within is less = absurd (omega (arith, within))
    sum-less (z ∷ zs) zero x within is less =
        let here : room (make (old z)) < room (old z) = subst (λ w. room (make (old w)) < room (old w)) is less in
        omega (arith, here, sum_by-cons room (make (old z)) (map old zs), sum_by-cons room (old z) (map old zs))
    sum-less (z ∷ zs) (suc i) x within is less =
        let further = sum-less zs i x (omega (arith, within)) is less in
        omega (arith, further, sum_by-cons room (old z) (with_element i make (map old zs)), sum_by-cons room (old z) (map old zs))

    -- it stays, and so do all of them
    with-stays : (xs : List A) (i : ℕ) (x : A) → i < length xs → x ≡ get_or xs i x → make (old x) ≡ old x → with_element i make (map old xs) ≡ map old xs
    with-stays [] i x within is stays = refl
    with-stays (z ∷ zs) zero x within is stays = ap (λ b. b ∷ map old zs) (subst (λ w. make (old w) ≡ old w) is stays)
    with-stays (z ∷ zs) (suc i) x within is stays = ap (λ bs. old z ∷ bs) (with-stays zs i x (omega (arith, within)) is stays)

    makes-set : (xs : List A) (i : ℕ) (x y : A) (changed : Bool) → i < length xs → x ≡ get_or xs i x → All (λ z. new z ≡ old z) xs → Makes room make (old x) changed (new y) → Makes (λ bs. sum_by room bs) (with_element i make) (map old xs) changed (map new (slice_set xs i y))
    makes-set xs i x y true within is same makes =
        let whole = set-made xs i x y within is same makes.made in
        let less : room (make (old x)) < room (old x) = subst (λ b. room b < room (old x)) makes.made makes.told in
        record { made = whole; told = subst (λ bs. sum_by room bs < sum_by room (map old xs)) (sym whole) (sum-less xs i x within is less) }
    makes-set xs i x y false within is same makes =
        let whole = set-made xs i x y within is same makes.made in
        record { made = whole; told = whole ∙ with-stays xs i x within is (sym makes.made ∙ makes.told) }

    -- so where the result is told
    pub makes-at : {E : Type 0} (xs : List A) (i : ℕ) (x y : A) (r : Result Bool E) → i < length xs → x ≡ get_or xs i x → All (λ z. new z ≡ old z) xs → IfOk r (λ changed. Makes room make (old x) changed (new y)) → IfOk r (λ changed. Makes (λ bs. sum_by room bs) (with_element i make) (map old xs) changed (map new (slice_set xs i y)))
    makes-at xs i x y (Ok changed) within is same makes = makes-set xs i x y changed within is same makes
    makes-at xs i x y (Err e) within is same makes = tt

    pub makes-past : (xs : List A) (i : ℕ) → length (map old xs) ≤ i → Makes (λ bs. sum_by room bs) (with_element i make) (map old xs) false (map old xs)
    makes-past xs i past = record { made = sym (with-past (map old xs) i past); told = refl }

-- ---- shapes

-- an entry of those shapes
abbrev pub parts : Growth → Growth → List Growth → DraftEntry
parts input output ends = record { input = input; output = output; ends = ends }

pub parts-same : {i i' o o' : Growth} {es es' : List Growth} → i ≡ i' → o ≡ o' → es ≡ es' → parts i o es ≡ parts i' o' es'
parts-same {i} {i'} {o} {o'} {es} {es'} input output ends = ap₂ (λ x y. parts x y es) input output ∙ ap (parts i' o') ends

-- what a growing shape takes in is made of it
takes-makes : (flowing : Shape) (before after : Growth) (changed : Bool) → Takes before flowing changed after → Makes (λ g. g.changes_left) (taken_in flowing) before changed after
takes-makes flowing before after true takes = record { made = takes.grown; told = takes.told }
takes-makes flowing before after false takes = record { made = takes.grown; told = takes.told }

pub takes-made : {E : Type 0} (flowing : Shape) (before after : Growth) (r : Result Bool E) → IfOk r (λ changed. Takes before flowing changed after) → IfOk r (λ changed. Makes (λ g. g.changes_left) (taken_in flowing) before changed after)
takes-made flowing before after (Ok changed) takes = takes-makes flowing before after changed takes
takes-made flowing before after (Err e) takes = tt

-- shapes are seen as they were in a table that has grown
pub growth-kept : (a b : List Shape) (g : Growing) → Keeps a b → IsGrown a g → growth_view b g ≡ growth_view a g
growth-kept a b g keeps is = ap (λ (s : Shape). let growth : Growth = record { shape = s; changes_left = g.changes_left } in growth) (kept_shape a b g.number keeps is.within)

pub growths-kept : (a b : List Shape) (gs : List Growing) → Keeps a b → All (IsGrown a) gs → All (λ g. growth_view b g ≡ growth_view a g) gs
growths-kept a b gs keeps are = All-weaker (IsGrown a) (λ g. growth_view b g ≡ growth_view a g) (λ g is. growth-kept a b g keeps is) gs are

pub ends-same : (a b : List Shape) (ends : Vec Growing Global) → Keeps a b → AreEndsGrown a ends → ends_view b ends ≡ ends_view a ends
ends-same a b ends keeps are = same-all (growth_view a) (growth_view b) (λ g. g) ends.items (growths-kept a b ends.items keeps are)

pub entry-same : (a b : List Shape) (entry : code.DraftEntry) → Keeps a b → IsEntryGrown a entry → entry_view b entry ≡ entry_view a entry
entry-same a b entry keeps are = parts-same (growth-kept a b entry.input keeps are.input) (growth-kept a b entry.output keeps are.output) (ends-same a b entry.ends keeps are.ends)

pub entries-same : (a b : List Shape) (entries : List code.DraftEntry) → Keeps a b → AreGrown a entries → All (λ entry. entry_view b entry ≡ entry_view a entry) entries
entries-same a b entries keeps are = All-weaker (IsEntryGrown a) (λ entry. entry_view b entry ≡ entry_view a entry) (λ entry is. entry-same a b entry keeps is) entries are.each

pub all-entries-same : (a b : List Shape) (entries : List code.DraftEntry) → Keeps a b → AreGrown a entries → entries_view b entries ≡ entries_view a entries
all-entries-same a b entries keeps are = same-all (entry_view a) (entry_view b) (λ e. e) entries (entries-same a b entries keeps are)

-- ---- one of the shapes of an entry has changed

module _ (make : Growth → Growth) (before after output other : Growth) (ends others : List Growth) where
  input-makes : (changed : Bool) → other ≡ output → others ≡ ends → Makes (λ g. g.changes_left) make before changed after → Makes entry_room (made_part part.Input make) (parts before output ends) changed (parts after other others)
  input-makes true same alike makes = record {
    made = parts-same makes.made same alike;
    told = (let less : after.changes_left < before.changes_left = makes.told in omega (arith, less, ap (λ (g : Growth). g.changes_left) same, ap ends_room alike));
  }
  input-makes false same alike makes = record { made = parts-same makes.made same alike; told = parts-same makes.told same alike }

  output-makes : (changed : Bool) → other ≡ output → others ≡ ends → Makes (λ g. g.changes_left) make before changed after → Makes entry_room (made_part part.Output make) (parts output before ends) changed (parts other after others)
  output-makes true same alike makes = record {
    made = parts-same same makes.made alike;
    told = (let less : after.changes_left < before.changes_left = makes.told in omega (arith, less, ap (λ (g : Growth). g.changes_left) same, ap ends_room alike));
  }
  output-makes false same alike makes = record { made = parts-same same makes.made alike; told = parts-same same makes.told alike }

end-makes : (make : Growth → Growth) (child : ℕ) (input input' output output' : Growth) (before after : List Growth) (changed : Bool) → input' ≡ input → output' ≡ output → Makes ends_room (with_element child make) before changed after → Makes entry_room (made_part (part.End child) make) (parts input output before) changed (parts input' output' after)
end-makes make child input input' output output' before after true same alike makes = record {
  made = parts-same same alike makes.made;
  told = (let less : ends_room after < ends_room before = makes.told in omega (arith, less, ap (λ (g : Growth). g.changes_left) same, ap (λ (g : Growth). g.changes_left) alike));
}
end-makes make child input input' output output' before after false same alike makes = record { made = parts-same same alike makes.made; told = parts-same same alike makes.told }

-- so where the result is told
module _ (s : Shape) (a b : List Shape) (entry : code.DraftEntry) (keeps : Keeps a b) (is : IsEntryGrown a entry) where
  input-kept : growth_view b entry.input ≡ growth_view a entry.input
  input-kept = growth-kept a b entry.input keeps is.input

  output-kept : growth_view b entry.output ≡ growth_view a entry.output
  output-kept = growth-kept a b entry.output keeps is.output

  ends-kept : ends_view b entry.ends ≡ ends_view a entry.ends
  ends-kept = ends-same a b entry.ends keeps is.ends

  pub input-made : {E : Type 0} (r : Result Bool E) (after : Growing) → IfOk r (λ changed. Takes (growth_view a entry.input) s changed (growth_view b after)) → IfOk r (λ changed. Makes entry_room (made_part part.Input (taken_in s)) (entry_view a entry) changed (entry_view b (record entry { input = after })))
  input-made (Ok changed) after takes = input-makes (taken_in s) _ _ _ _ _ _ changed output-kept ends-kept (takes-makes s _ _ changed takes)
  input-made (Err e) after takes = tt

  pub output-made : {E : Type 0} (r : Result Bool E) (after : Growing) → IfOk r (λ changed. Takes (growth_view a entry.output) s changed (growth_view b after)) → IfOk r (λ changed. Makes entry_room (made_part part.Output (taken_in s)) (entry_view a entry) changed (entry_view b (record entry { output = after })))
  output-made (Ok changed) after takes = output-makes (taken_in s) _ _ _ _ _ _ changed input-kept ends-kept (takes-makes s _ _ changed takes)
  output-made (Err e) after takes = tt

  pub end-made : {E : Type 0} (child : ℕ) (r : Result Bool E) (after : Vec Growing Global) → IfOk r (λ changed. Makes ends_room (with_element child (taken_in s)) (ends_view a entry.ends) changed (ends_view b after)) → IfOk r (λ changed. Makes entry_room (made_part (part.End child) (taken_in s)) (entry_view a entry) changed (entry_view b (record entry { ends = after })))
  end-made child (Ok changed) after makes = end-makes (taken_in s) child _ _ _ _ _ _ changed input-kept output-kept makes
  end-made child (Err e) after makes = tt

-- ---- new entries

take-next : {A : Type 0} (xs : List A) (i : ℕ) (x : A) → slice_get xs i ≡ Some x → take (i + 1) xs ≡ take i xs ++ x ∷ []
take-next [] i x h = none_some h
take-next (y ∷ ys) zero x h = ap (λ z. z ∷ []) (some_inj h)
take-next (y ∷ ys) (suc i) x h = let e : suc i + 1 ≡ suc (i + 1) = omega arith in rw e (ap (λ zs. y ∷ zs) (take-next ys i x h))

-- one more entry
pub entries-next : {E W : Type 0} (seen : E → W) (entry : State → W) (all : List State) (i : ℕ) (state : State) (es more : List E) (new : E) → map seen es ≡ map entry (take i all) → Some state ≡ slice_get all i → seen new ≡ entry state → more ≡ es ++ new ∷ [] → map seen more ≡ map entry (take (i + 1) all)
entries-next seen entry all i state es more new so_far at made pushed =
    ap (map seen) pushed
    ∙ (map-append seen es (new ∷ [])
    ∙ (ap₂ (λ xs y. xs ++ y ∷ []) so_far made
    ∙ (sym (map-append entry (take i all) (state ∷ [])) ∙ ap (map entry) (sym (take-next all i state (sym at))))))

-- the state that is found at a number
pub state_found : (o : Option (Bor states.State)) (state : Bor states.State) (all : List State) (i : ℕ) → o ≡ Some state → option_map (λ (s : Bor states.State). state_view s.now) o ≡ slice_get all i → Some (state_view state.now) ≡ slice_get all i
state_found o state all i is found = subst (λ (x : Option (Bor states.State)). option_map (λ (s : Bor states.State). state_view s.now) x ≡ slice_get all i) is found
