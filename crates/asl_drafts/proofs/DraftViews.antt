-- Drafts in which one shape has changed.
use Rattle.std.proofs.Common.{◌≡◌, ◌≢◌, ◌<◌, ℕ, zero, suc, List, [], ◌∷◌, length, map, replicate, Bool, true, false, Option, Some, None, option_map, Result, Ok, Err, IfOk, slice_get, refl, sym, ap, ap₂, ◌∙◌, subst, arith}
use Rattle.std.specs.List.{All}
use Rattle.std.specs.Option.{option_and_then}
use Rattle.std.proofs.lemmas.List.Elements.{All-cons, All-head, All-nil, All-replicate, All-tail}
use Rattle.std.specs.Option.{unwrap_or}
use Rattle.std.proofs.lemmas.Option.{slice_get-map}
use Rattle.asl_model.specs.Edges.{walk}
use Rattle.asl_model.specs.Machine.{Kind, Settings, State, kind_of}
use Rattle.asl_state_edges.specs.Entry.{entry_view as shapes_view}
use Rattle.asl_state_edges.specs.declared.found.Entry.{Entry}
use Rattle.asl_model.specs.Shape.{Shape, Never}
use Rattle.asl_model.proofs.ReadingSteps.{then_from}
use Rattle.asl_model.proofs.RunOptions.{none_some, some_inj}
use Rattle.asl_draft_laws.specs.Drafts as model
use Rattle.asl_draft_laws.specs.Drafts.{DraftEntry, Growth, children_in, first_entry, taken_at, taken_in, ungrown, with_element, with_entry}
use Rattle.asl_draft_laws.proofs.DraftShapes.{element-stays}
use Rattle.asl_numbered.specs.Expansion.{shape_at, AreBelow, Keeps, Shows as ShowsNumber}
use Rattle.asl_numbered.specs.Laws.{kept_shape}
use Rattle.asl_drafts.specs.Drafted.{draft_view, entry_at, growing_at, growing_of, numbers_at, numbers_or, part_of, room, shapes_of, target_view}
use Rattle.asl_drafts.specs.Entries.{AreAllBelow, AreNumbersIn, Makes, ends_view, entries_room, entries_view, entry_view, filled_with, growing_in, growths_in, made_part, numbers_in, numbers_seen}
use Rattle.asl_drafts.specs.Growing.{AreGrown, IsEntryGrown, IsGrown, Takes, growth_view}
use Rattle.asl_drafts.specs.declared.draft.Draft.{Draft}
use Rattle.asl_drafts.specs.declared.draft.Target.{Target}
use Rattle.asl_drafts.specs.declared.draft.Target.TheVariants as target
use Rattle.asl_drafts.specs.declared.entries.DraftEntry as code
use Rattle.asl_drafts.specs.declared.entries.EntryNumbers.{EntryNumbers}
use Rattle.asl_drafts.specs.declared.entries.Part.{Part}
use Rattle.asl_drafts.specs.declared.entries.Part.TheVariants as part
use Rattle.asl_drafts.specs.declared.growing.Growing.{Growing}
use Rattle.asl_drafts.proofs.EntryViews.{all-entries-same, growth-kept, parts, parts-same}

-- ---- what is made of a draft

-- a draft with that output and those entries
abbrev pub draft_of : Growth → List DraftEntry → model.Draft
draft_of output entries = record { output = output; entries = entries }

-- the draft with that made of one of its shapes
abbrev pub made_at : Option (ℕ × Part) → (Growth → Growth) → model.Draft → model.Draft
made_at None make draft = record draft { output = make draft.output }
made_at (Some place) make draft = with_entry place.0 (made_part place.1 make) draft

taken-by : (t : Target) (s : Shape) (draft : model.Draft) → taken_at (Some (target_view t)) s draft ≡ made_at (part_of t) (taken_in s) draft
taken-by target.MachineOutput s draft = refl
taken-by (target.Input state) s draft = refl
taken-by (target.Output state) s draft = refl
taken-by (target.End state child) s draft = refl

output-makes : (s : Shape) (before after : Growth) (entries others : List DraftEntry) (changed : Bool) → others ≡ entries → Takes before s changed after → Makes room (made_at None (taken_in s)) (draft_of before entries) changed (draft_of after others)
output-makes s before after entries others true same takes = record {
  made = ap₂ draft_of takes.grown same;
  told = (let less : after.changes_left < before.changes_left = takes.told in omega (arith, less, ap entries_room same));
}
output-makes s before after entries others false same takes = record { made = ap₂ draft_of takes.grown same; told = ap₂ draft_of takes.told same }

entry-makes : (make : Growth → Growth) (place : ℕ × Part) (output other : Growth) (before after : List DraftEntry) (changed : Bool) → other ≡ output → Makes entries_room (with_element place.0 (made_part place.1 make)) before changed after → Makes room (made_at (Some place) make) (draft_of output before) changed (draft_of other after)
entry-makes make place output other before after true same makes = record {
  made = ap₂ draft_of same makes.made;
  told = (let less : entries_room after < entries_room before = makes.told in omega (arith, less, ap (λ (g : Growth). g.changes_left) same));
}
entry-makes make place output other before after false same makes = record { made = ap₂ draft_of same makes.made; told = ap₂ draft_of same makes.told }

-- so where it is told of a target
module _ (t : Target) (s : Shape) (o : Option (ℕ × Part)) (is : o ≡ part_of t) where
  target-makes : (place : Option (ℕ × Part)) → o ≡ place → (before after : model.Draft) (changed : Bool) → Makes room (made_at place (taken_in s)) before changed after → Makes room (taken_at (Some (target_view t)) s) before changed after
  target-makes place at before after changed makes = record {
    made = makes.made ∙ (ap (λ p. made_at p (taken_in s) before) (sym at ∙ is) ∙ sym (taken-by t s before));
    told = makes.told;
  }

  pub output-told : {E : Type 0} (before after : Growth) (entries others : List DraftEntry) (r : Result Bool E) → o ≡ None → others ≡ entries → IfOk r (λ changed. Takes before s changed after) → IfOk r (λ changed. Makes room (taken_at (Some (target_view t)) s) (draft_of before entries) changed (draft_of after others))
  output-told before after entries others (Ok changed) at same takes = target-makes None at _ _ changed (output-makes s before after entries others changed same takes)
  output-told before after entries others (Err e) at same takes = tt

  pub entry-told : {E : Type 0} (place : ℕ × Part) (output other : Growth) (before after : List DraftEntry) (r : Result Bool E) → o ≡ Some place → other ≡ output → IfOk r (λ changed. Makes entries_room (with_element place.0 (made_part place.1 (taken_in s))) before changed after) → IfOk r (λ changed. Makes room (taken_at (Some (target_view t)) s) (draft_of output before) changed (draft_of other after))
  entry-told place output other before after (Ok changed) at same makes = target-makes (Some place) at _ _ changed (entry-makes (taken_in s) place output other before after changed same makes)
  entry-told place output other before after (Err e) at same makes = tt

-- ---- shapes that stay

stays-at : {A B : Type 0} (seen : A → B) (make : B → B) (xs : List A) (i : ℕ) → ((x : A) → slice_get xs i ≡ Some x → make (seen x) ≡ seen x) → with_element i make (map seen xs) ≡ map seen xs
stays-at seen make [] i stays = refl
stays-at seen make (x ∷ xs) zero stays = ap (λ y. y ∷ map seen xs) (stays x refl)
stays-at seen make (x ∷ xs) (suc i) stays = ap (λ ys. seen x ∷ ys) (stays-at seen make xs i stays)

-- a shape of an entry
part-stays : (table : List Shape) (make : Growth → Growth) (p : Part) (entry : code.DraftEntry) → ((g : Growing) → growing_in p entry ≡ Some g → make (growth_view table g) ≡ growth_view table g) → made_part p make (entry_view table entry) ≡ entry_view table entry
part-stays table make part.Input entry stays = ap (λ g. parts g (growth_view table entry.output) (ends_view table entry.ends)) (stays entry.input refl)
part-stays table make part.Output entry stays = ap (λ g. parts (growth_view table entry.input) g (ends_view table entry.ends)) (stays entry.output refl)
part-stays table make (part.End child) entry stays = ap (parts (growth_view table entry.input) (growth_view table entry.output)) (stays-at (growth_view table) make entry.ends.items child stays)

place-stays : (draft : Draft) (make : Growth → Growth) (o : Option (ℕ × Part)) → ((g : Growing) → growing_at draft o ≡ Some g → make (growth_view draft.store g) ≡ growth_view draft.store g) → made_at o make (draft_view draft) ≡ draft_view draft
place-stays draft make None stays = ap (λ g. draft_of g (entries_view draft.store draft.entries.items)) (stays draft.output refl)
place-stays draft make (Some place) stays =
    ap (draft_of (growth_view draft.store draft.output)) (stays-at (entry_view draft.store) (made_part place.1 make) draft.entries.items place.0 (λ entry at.
    part-stays draft.store make place.1 entry (λ g there. stays g (ap (option_and_then (growing_in place.1)) at ∙ there))))

-- the draft stays where what flows in leaves the shape as it is, if that is there
pub draft-stays : (draft : Draft) (t : Target) (s : Shape) → ((g : Growing) → growing_of draft t ≡ Some g → taken_in s (growth_view draft.store g) ≡ growth_view draft.store g) → taken_at (Some (target_view t)) s (draft_view draft) ≡ draft_view draft
draft-stays draft t s stays = taken-by t s (draft_view draft) ∙ place-stays draft (taken_in s) (part_of t) stays

-- and where the draft stays, so does the shape
part-unchanged : (table : List Shape) (make : Growth → Growth) (p : Part) (entry : code.DraftEntry) (g : Growing) → growing_in p entry ≡ Some g → made_part p make (entry_view table entry) ≡ entry_view table entry → make (growth_view table g) ≡ growth_view table g
part-unchanged table make part.Input entry g at stays = subst (λ x. make (growth_view table x) ≡ growth_view table x) (some_inj at) (ap (λ (e : DraftEntry). e.input) stays)
part-unchanged table make part.Output entry g at stays = subst (λ x. make (growth_view table x) ≡ growth_view table x) (some_inj at) (ap (λ (e : DraftEntry). e.output) stays)
part-unchanged table make (part.End child) entry g at stays = element-stays make child (ends_view table entry.ends) (growth_view table g) (ap (λ (e : DraftEntry). e.ends) stays) (slice_get-map (growth_view table) entry.ends.items child ∙ ap (option_map (growth_view table)) at)

place-unchanged : (draft : Draft) (make : Growth → Growth) (o : Option (ℕ × Part)) (g : Growing) → growing_at draft o ≡ Some g → made_at o make (draft_view draft) ≡ draft_view draft → make (growth_view draft.store g) ≡ growth_view draft.store g
place-unchanged draft make None g at stays = subst (λ x. make (growth_view draft.store x) ≡ growth_view draft.store x) (some_inj at) (ap (λ (d : model.Draft). d.output) stays)
place-unchanged draft make (Some place) g at stays =
    let table = draft.store in
    let entry = then_from (growing_in place.1) (slice_get draft.entries.items place.0) g at in
    part-unchanged table make place.1 entry.0 g entry.2
    (element-stays (made_part place.1 make) place.0 (entries_view table draft.entries.items) (entry_view table entry.0) (ap (λ (d : model.Draft). d.entries) stays) (slice_get-map (entry_view table) draft.entries.items place.0 ∙ ap (option_map (entry_view table)) entry.1))

-- where none is there
pub none-stays : (draft : Draft) (t : Target) (s : Shape) (o : Option Growing) → o ≡ growing_of draft t → o ≡ None → taken_at (Some (target_view t)) s (draft_view draft) ≡ draft_view draft
none-stays draft t s o is none = draft-stays draft t s (λ g there. none_some (sym none ∙ (is ∙ there)))

-- where it wouldn't change
pub unchanged-stays : {E : Type 0} (W : Type 0) (draft : Draft) (t : Target) (s : Shape) (g after : Growing) (new : List Shape) (o : Option Growing) (r : Result Bool E) → o ≡ growing_of draft t → o ≡ Some g → IfOk r (λ changed. Takes (growth_view draft.store g) s changed (growth_view new after)) → IfOk r (λ changed. changed ≡ false → W → taken_at (Some (target_view t)) s (draft_view draft) ≡ draft_view draft)
unchanged-stays W draft t s g after new o (Ok true) is there takes = λ e w. absurd (cc)
unchanged-stays W draft t s g after new o (Ok false) is there takes = λ e w. draft-stays draft t s (λ other at.
    let same : g ≡ other = some_inj (sym there ∙ (is ∙ at)) in
    subst (λ x. taken_in s (growth_view draft.store x) ≡ growth_view draft.store x) same (sym takes.grown ∙ takes.told))
unchanged-stays W draft t s g after new o (Err e) is there takes = tt

-- where it would
pub changed-changes : {E : Type 0} (W : Type 0) (draft : Draft) (t : Target) (s : Shape) (g after : Growing) (new : List Shape) (o : Option Growing) (r : Result Bool E) → W → o ≡ growing_of draft t → o ≡ Some g → IfOk r (λ changed. Takes (growth_view draft.store g) s changed (growth_view new after)) → IfOk r (λ changed. changed ≡ true → W × (taken_at (Some (target_view t)) s (draft_view draft) ≢ draft_view draft))
changed-changes W draft t s g after new o (Ok true) w is there takes = λ e. (w, other)
  where
    other : taken_at (Some (target_view t)) s (draft_view draft) ≢ draft_view draft
    other same =
        let stays = place-unchanged draft (taken_in s) (part_of t) g (sym is ∙ there) (sym (taken-by t s (draft_view draft)) ∙ same) in
        let fewer : (growth_view new after).changes_left ≡ g.changes_left = ap (λ (x : Growth). x.changes_left) (takes.grown ∙ stays) in
        omega (arith, takes.told, fewer)
changed-changes W draft t s g after new o (Ok false) w is there takes = λ e. absurd (cc)
changed-changes W draft t s g after new o (Err e) w is there takes = tt

-- a draft in a table that has grown
pub draft-same : (a b : List Shape) (output : Growing) (entries : List code.DraftEntry) → Keeps a b → IsGrown a output → AreGrown a entries → draft_of (growth_view b output) (entries_view b entries) ≡ draft_of (growth_view a output) (entries_view a entries)
draft-same a b output entries keeps is are = ap₂ draft_of (growth-kept a b output keeps is) (all-entries-same a b entries keeps are)

-- ---- a new draft

growths-new : (table : List Shape) (never : Growing) (n : ℕ) → growth_view table never ≡ ungrown → map (growth_view table) (replicate n never) ≡ replicate n ungrown
growths-new table never zero is = refl
growths-new table never (suc n) is = ap₂ (λ g gs. g ∷ gs) is (growths-new table never n is)

-- an entry with one shape throughout
abbrev IsFilled : Growing → State → code.DraftEntry → Type 0
IsFilled never state e = growths_in e ≡ filled_with never (children_in (kind_of state))

entry-new : (table : List Shape) (never : Growing) (state : State) (e : code.DraftEntry) → growth_view table never ≡ ungrown → IsFilled never state e → entry_view table e ≡ first_entry (children_in (kind_of state))
entry-new table never state e is same =
    parts-same (ap (λ p. growth_view table p.0) same ∙ is) (ap (λ p. growth_view table p.1) same ∙ is) (ap (λ p. map (growth_view table) p.2) same ∙ growths-new table never (children_in (kind_of state)) is)

pub entries-new : (table : List Shape) (never : Growing) (states : List State) (entries : List code.DraftEntry) → growth_view table never ≡ ungrown → map growths_in entries ≡ map (λ (state : State). filled_with never (children_in (kind_of state))) states → entries_view table entries ≡ map (λ (state : State). first_entry (children_in (kind_of state))) states
entries-new table never [] [] is same = refl
entries-new table never [] (e ∷ es) is same = absurd (cc)
entries-new table never (state ∷ states) [] is same = absurd (cc)
entries-new table never (state ∷ states) (e ∷ es) is same =
    let here : IsFilled never state e = cc in
    let behind : map growths_in es ≡ map (λ (st : State). filled_with never (children_in (kind_of st))) states = cc in
    ap₂ (λ g gs. g ∷ gs) (entry-new table never state e is here) (entries-new table never states es is behind)

-- each of them is grown
entry-grown : (table : List Shape) (never : Growing) (state : State) (e : code.DraftEntry) → IsGrown table never → IsFilled never state e → IsEntryGrown table e
entry-grown table never state e is same = record {
  input = subst (IsGrown table) (sym (ap (λ p. p.0) same)) is;
  output = subst (IsGrown table) (sym (ap (λ p. p.1) same)) is;
  ends = subst (All (IsGrown table)) (sym (ap (λ p. p.2) same)) (All-replicate (IsGrown table) (children_in (kind_of state)) never is);
}

pub are-new : (table : List Shape) (never : Growing) (states : List State) (entries : List code.DraftEntry) → IsGrown table never → map growths_in entries ≡ map (λ (state : State). filled_with never (children_in (kind_of state))) states → All (IsEntryGrown table) entries
are-new table never [] [] is same = All-nil (IsEntryGrown table)
are-new table never [] (e ∷ es) is same = absurd (cc)
are-new table never (state ∷ states) [] is same = absurd (cc)
are-new table never (state ∷ states) (e ∷ es) is same =
    let here : IsFilled never state e = cc in
    let behind : map growths_in es ≡ map (λ (st : State). filled_with never (children_in (kind_of st))) states = cc in
    All-cons (IsEntryGrown table) e es (entry-grown table never state e is here) (are-new table never states es is behind)

pub never-new : (table : List Shape) (g : Growing) (never : ℕ) → ShowsNumber table Never never → g ≡ record { number = never; changes_left = 33 } → growth_view table g ≡ ungrown
never-new table g never shows new = ap (growth_view table) new ∙ ap (λ (s : Shape). let growth : Growth = record { shape = s; changes_left = 33 } in growth) shows.same

-- ---- the numbers of a state's shapes

growths-below : (table : List Shape) (gs : List Growing) → All (IsGrown table) gs → AreBelow (length table) (map (λ (g : Growing). g.number) gs)
growths-below table [] h = tt
growths-below table (g ∷ gs) h = ((All-head (IsGrown table) g gs h).within, growths-below table gs (All-tail (IsGrown table) g gs h))

growths-shown : (table : List Shape) (gs : List Growing) → map (shape_at table) (map (λ (g : Growing). g.number) gs) ≡ map (λ (g : Growth). g.shape) (map (growth_view table) gs)
growths-shown table [] = refl
growths-shown table (g ∷ gs) = ap (λ ss. shape_at table g.number ∷ ss) (growths-shown table gs)

module _ (table : List Shape) (entry : code.DraftEntry) (numbers : EntryNumbers) (seen : numbers_seen numbers ≡ numbers_in entry) where
  numbers-shown : AreNumbersIn table (entry_view table entry) numbers
  numbers-shown = record {
    input = ap (λ p. shape_at table p.0) seen;
    output = ap (λ p. shape_at table p.1) seen;
    ends = ap (λ p. map (shape_at table) p.2) seen ∙ growths-shown table entry.ends.items;
  }

  numbers-within : IsEntryGrown table entry → AreAllBelow (length table) numbers
  numbers-within is = record {
    input = subst (λ p. p.0 < length table) (sym seen) is.input.within;
    output = subst (λ p. p.1 < length table) (sym seen) is.output.within;
    ends = subst (λ p. AreBelow (length table) p.2) (sym seen) (growths-below table entry.ends.items is.ends);
  }

-- of a state, whether it has an entry or not
module _ (draft : Draft) (never : ℕ) (shows : ShowsNumber draft.store Never never) (numbers : EntryNumbers) where
  shown-among : (entries : List code.DraftEntry) (n : ℕ) → numbers_seen numbers ≡ numbers_or never (slice_get entries n) → AreNumbersIn draft.store (unwrap_or (slice_get (entries_view draft.store entries) n) (first_entry 0)) numbers
  shown-among [] n seen = record {
    input = ap (λ p. shape_at draft.store p.0) seen ∙ shows.same;
    output = ap (λ p. shape_at draft.store p.1) seen ∙ shows.same;
    ends = ap (λ p. map (shape_at draft.store) p.2) seen;
  }
  shown-among (e ∷ es) zero seen = numbers-shown draft.store e numbers seen
  shown-among (e ∷ es) (suc n) seen = shown-among es n seen

  below-among : (entries : List code.DraftEntry) (n : ℕ) → All (IsEntryGrown draft.store) entries → numbers_seen numbers ≡ numbers_or never (slice_get entries n) → AreAllBelow (length draft.store) numbers
  below-among [] n are seen =
      let within = shows.within in
      record {
        input = subst (λ p. p.0 < length draft.store) (sym seen) within;
        output = subst (λ p. p.1 < length draft.store) (sym seen) within;
        ends = subst (λ p. AreBelow (length draft.store) p.2) (sym seen) tt;
      }
  below-among (e ∷ es) zero are seen = numbers-within draft.store e numbers seen (All-head (IsEntryGrown draft.store) e es are)
  below-among (e ∷ es) (suc n) are seen = below-among es n (All-tail (IsEntryGrown draft.store) e es are) seen

  pub state-shown : (n : ℕ) → numbers_seen numbers ≡ numbers_at draft n never → AreNumbersIn draft.store (entry_at (draft_view draft) n) numbers
  state-shown n seen = shown-among draft.entries.items n seen

  pub state-below : (n : ℕ) → numbers_seen numbers ≡ numbers_at draft n never → AreAllBelow (length draft.store) numbers
  state-below n seen = below-among draft.entries.items n draft.entries_grown.each seen

-- the walk over them is that over the draft
pub walk-same : (a b : List Shape) (before after : model.Draft) (n gives : ℕ) (settings : Settings) (kind : Kind) (entry : Entry) → Keeps a b → gives < length a → after ≡ before → shapes_view b entry ≡ shapes_of after n kind
    → walk (shape_at b gives) settings kind (shapes_view b entry) ≡ walk (shape_at a gives) settings kind (shapes_of before n kind)
walk-same a b before after n gives settings kind entry keeps within same is =
    ap₂ (λ s e. walk s settings kind e) (kept_shape a b gives keeps within) (is ∙ ap (λ d. shapes_of d n kind) same)
