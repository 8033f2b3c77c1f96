-- Shapes that grow, by number.
use Rattle.std.proofs.Common.{◌≡◌, ◌≢◌, ◌-◌, ℕ, suc, eqb, List, slice_set, Vec, true, false, if◌then◌else◌, refl, sym, ap, ◌∙◌, subst, ◌⊎◌, inl, inr, arith}
use Rattle.std.proofs.lemmas.List.Elements.{All-set, All-weaker}
use Rattle.std.proofs.lemmas.Bool.Decides.{eqb_tells}
use Rattle.std.specs.List.{All}
use Rattle.std.specs.declared.alloc.Global.{Global}
use Rattle.asl_model.specs.Shape as model
use Rattle.asl_model.specs.ShapeOrder.{join}
use Rattle.asl_numbered.specs.Expansion.{shape_at, AreDistinct, Keeps, Shows}
use Rattle.asl_numbered.specs.Laws.{kept_shape, kept_within}
use Rattle.asl_draft_laws.specs.Drafts.{Growth}
use Rattle.asl_draft_laws.proofs.TakenIn.{changed, joined, taken-none, taken-other, taken-same}
use Rattle.asl_drafts.specs.Cutting.{cut, IsShallow}
use Rattle.asl_drafts.specs.Growing.{Takes, growth_view, AreEndsGrown, AreGrown, IsEntryGrown, IsGrown}
use Rattle.asl_drafts.specs.declared.entries.DraftEntry.{DraftEntry}
use Rattle.asl_drafts.specs.declared.growing.Growing.{Growing}
use Rattle.asl_drafts.proofs.Levels.{cut_shallow, any_shallow}

-- ---- in a table that has grown

pub grown_kept : (a b : List model.Shape) (g : Growing) → Keeps a b → IsGrown a g → IsGrown b g
grown_kept a b g keeps is = record { within = kept_within a b g.number keeps is.within; shallow = subst IsShallow (sym (kept_shape a b g.number keeps is.within)) is.shallow }

-- ---- what flows in

-- the same shape with as many changes left
growth_same : (s t : model.Shape) (m n : ℕ) → s ≡ t → m ≡ n → (let one : Growth = record { shape = s; changes_left = m } in one) ≡ record { shape = t; changes_left = n }
growth_same s t m n e f = rw (e, f) refl

-- what it comes to after a change, and after the last one
changed_more : (s : model.Shape) (g : Growth) (left : ℕ) → g.changes_left ≡ suc (suc left) → changed s g ≡ record { shape = joined s g; changes_left = suc left }
changed_more s g left is = by (eqb_tells g.changes_left 1)
  where
    by : ((eqb g.changes_left 1 ≡ true) × (g.changes_left ≡ 1)) ⊎ ((eqb g.changes_left 1 ≡ false) × (g.changes_left ≢ 1)) → changed s g ≡ record { shape = joined s g; changes_left = suc left }
    by (inl one) = absurd (omega (arith, is, one.1))
    by (inr more) = growth_same (changed s g).shape (joined s g) (changed s g).changes_left (suc left) (ap (λ b. if b then model.Any else joined s g) more.0) (omega (arith, is))

changed_last : (s : model.Shape) (g : Growth) → g.changes_left ≡ 1 → changed s g ≡ record { shape = model.Any; changes_left = 0 }
changed_last s g is = ap (λ n. let one : Growth = record { shape = if eqb n 1 then model.Any else joined s g; changes_left = n - 1 } in one) is

-- no change is left
pub takes_none : (table : List model.Shape) (g : Growing) (flowing : model.Shape) → g.changes_left ≡ 0 → Takes (growth_view table g) flowing false (growth_view table g)
takes_none table g flowing none = record { grown = sym (taken-none flowing (growth_view table g) none); told = refl }

module _ (a b : List model.Shape) (g : Growing) (flowing met : ℕ) (keeps : Keeps a b) (is : IsGrown a g) (shows : Shows b (cut (join (shape_at a g.number) (shape_at a flowing))) met) where
  -- the shape so far, what flows in, and the joined one
  abbrev before : model.Shape
  before = shape_at a g.number

  abbrev inflow : model.Shape
  inflow = shape_at a flowing

  abbrev whole : model.Shape
  whole = cut (join (shape_at a g.number) (shape_at a flowing))

  here : shape_at b g.number ≡ before
  here = kept_shape a b g.number keeps is.within

  -- it adds nothing
  pub takes_nothing : met ≡ g.number → Takes (growth_view a g) (shape_at a flowing) false (growth_view b g)
  takes_nothing same =
      let stays : growth_view b g ≡ growth_view a g = growth_same (shape_at b g.number) before g.changes_left g.changes_left here refl in
      record { grown = stays ∙ sym (taken-same inflow (growth_view a g) (sym shows.same ∙ (ap (shape_at b) same ∙ here))); told = stays }

  -- the joined shape is another one
  others : AreDistinct b → (met ≡ g.number → ⊥) → whole ≡ before → ⊥
  others distinct other same = other (distinct.apart met g.number shows.within (kept_within a b g.number keeps is.within) (shows.same ∙ (same ∙ sym here)))

  -- it changes the shape
  pub takes_join : (h : Growing) (left : ℕ) → AreDistinct b → (met ≡ g.number → ⊥) → g.changes_left ≡ suc (suc left) → h.changes_left ≡ suc left → h.number ≡ met → Takes (growth_view a g) (shape_at a flowing) true (growth_view b h)
  takes_join h left distinct other was after is_joined = record {
    grown = growth_same (shape_at b h.number) whole h.changes_left (suc left) (ap (shape_at b) is_joined ∙ shows.same) after ∙ sym (taken-other inflow (growth_view a g) (others distinct other) (λ none. omega (arith, was, none)) ∙ changed_more inflow (growth_view a g) left was);
    told = omega (arith, was, after);
  }

  -- the last change makes it Any
  pub takes_any : (c : List model.Shape) (h : Growing) (any : ℕ) → AreDistinct b → (met ≡ g.number → ⊥) → Shows c model.Any any → g.changes_left ≡ 1 → h.changes_left ≡ 0 → h.number ≡ any → Takes (growth_view a g) (shape_at a flowing) true (growth_view c h)
  takes_any c h any distinct other there was after is_any = record {
    grown = growth_same (shape_at c h.number) model.Any h.changes_left 0 (ap (shape_at c) is_any ∙ there.same) after ∙ sym (taken-other inflow (growth_view a g) (others distinct other) (λ none. omega (arith, was, none)) ∙ changed_last inflow (growth_view a g) was);
    told = omega (arith, was, after);
  }

  pub join_grown : (h : Growing) → h.number ≡ met → IsGrown b h
  join_grown h is_joined = record { within = rw is_joined shows.within; shallow = subst IsShallow (sym (ap (shape_at b) is_joined ∙ shows.same)) (cut_shallow (join (shape_at a g.number) (shape_at a flowing))) }

pub any_grown : (b : List model.Shape) (h : Growing) (any : ℕ) → Shows b model.Any any → h.number ≡ any → IsGrown b h
any_grown b h any shows is = record { within = rw is shows.within; shallow = subst IsShallow (sym (ap (shape_at b) is ∙ shows.same)) any_shallow }

-- ---- the shapes of entries in a table that has grown

pub ends_kept : (a b : List model.Shape) (ends : Vec Growing Global) → Keeps a b → AreEndsGrown a ends → AreEndsGrown b ends
ends_kept a b ends keeps h = All-weaker (IsGrown a) (IsGrown b) (λ g is. grown_kept a b g keeps is) ends.items h

pub entry_kept : (a b : List model.Shape) (entry : DraftEntry) → Keeps a b → IsEntryGrown a entry → IsEntryGrown b entry
entry_kept a b entry keeps h = record { input = grown_kept a b entry.input keeps h.input; output = grown_kept a b entry.output keeps h.output; ends = ends_kept a b entry.ends keeps h.ends }

pub entries_kept : (a b : List model.Shape) (entries : List DraftEntry) → Keeps a b → AreGrown a entries → AreGrown b entries
entries_kept a b entries keeps h = record { each = All-weaker (IsEntryGrown a) (IsEntryGrown b) (λ entry is. entry_kept a b entry keeps is) entries h.each }

-- one of them has changed
pub ends_changed : (a b : List model.Shape) (gs : List Growing) (i : ℕ) (g : Growing) → Keeps a b → All (IsGrown a) gs → IsGrown b g → All (IsGrown b) (slice_set gs i g)
ends_changed a b gs i g keeps h is = All-set (IsGrown b) gs i g is (All-weaker (IsGrown a) (IsGrown b) (λ x k. grown_kept a b x keeps k) gs h)

pub entries_changed : (a b : List model.Shape) (entries : List DraftEntry) (i : ℕ) (entry : DraftEntry) → Keeps a b → AreGrown a entries → IsEntryGrown b entry → AreGrown b (slice_set entries i entry)
entries_changed a b entries i entry keeps h is = record { each = All-set (IsEntryGrown b) entries i entry is (entries_kept a b entries keeps h).each }

-- the first shape of all: no tree has it
pub never_grown : (table : List model.Shape) (g : Growing) (never : ℕ) → Shows table model.Never never → g ≡ record { number = never; changes_left = 33 } → IsGrown table g
never_grown table g never shows new =
    let is : g.number ≡ never = ap (λ (h : Growing). h.number) new in
    let few : IsShallow model.Never = omega arith in
    record { within = rw is shows.within; shallow = subst IsShallow (sym (ap (shape_at table) is ∙ shows.same)) few }
