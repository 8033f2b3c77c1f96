-- The steps of a state, and what its walk tells.
use Rattle.std.proofs.Common.{◌≡◌, ◌<◌, ◌≤◌, ℕ, List, [], ◌∷◌, length, slice_get, Bool, true, false, Option, Some, None, option_map, Err, refl, sym, ap, ap₂, ◌∙◌, subst}
use Rattle.asl_model.specs.Certificate as model
use Rattle.asl_model.specs.Certificate.{takes_of}
use Rattle.asl_model.specs.Edges.{Walked, walk}
use Rattle.asl_model.specs.Inference.{finding_of}
use Rattle.asl_model.specs.Shape.{Shape}
use Rattle.asl_draft_laws.specs.Drafts as drafts
use Rattle.asl_draft_laws.specs.Drafts.{Draft, own_breaches, steps_taken}
use Rattle.asl_numbered.specs.Expansion.{shape_at, Keeps}
use Rattle.asl_numbered.specs.Laws.{kept_shape}
use Rattle.asl_states.specs.Machine.{kind_view, settings_view}
use Rattle.asl_state_edges.specs.View.{AreStepsBelow, steps_of}
use Rattle.asl_state_edges.specs.declared.found.Step.{Step}
use Rattle.asl_drafts.specs.Calm.{IsCalm}
use Rattle.asl_drafts.specs.Drafted.{draft_view, room, shapes_of}
use Rattle.asl_drafts.specs.Entries.{Makes}
use Rattle.asl_drafts.specs.Underway.{IsCalmAfter}
use Rattle.asl_drafts.specs.declared.walker.Walker.{Walker}
use Rattle.asl_drafts.proofs.Leading.{step-kept, step-wider}
use Rattle.asl_check.specs.View.{finding_view}
use Rattle.asl_check.specs.declared.verdicts.Finding.{Finding}
use Rattle.asl_infer.specs.Rounds.{AreStepsOf, IsIn, IsRowOf, WalkTells, Walks, declared_in, row_view, table_in, walked_by}
use Rattle.asl_infer.specs.Tasks.{IsTaskOf}
use Rattle.asl_infer.specs.Telling.{IsFirstBroken, breach_view}
use Rattle.asl_infer.specs.declared.inferring.InferRefusal.TheVariants as refusal
use Rattle.asl_infer.specs.declared.rounds.Given.{Given}
use Rattle.asl_infer.specs.declared.rounds.Row.{Row}
use Rattle.asl_infer.specs.declared.rounds.Strictness.TheVariants.{Strict, Lenient}
use Rattle.asl_infer.specs.declared.telling.Breach.{Breach}
use Rattle.asl_infer.proofs.OwnRules.{whole-steps}
use Rattle.asl_infer.proofs.WalkedRows.{same-row, tells-row, walked-broken, walked-steps, walks-row}

-- ---- steps, in a table that has grown

pub steps-kept : (a b : List Shape) (steps : List Step) → Keeps a b → AreStepsBelow (length a) steps → steps_of b steps ≡ steps_of a steps
steps-kept a b [] keeps below = refl
steps-kept a b (s ∷ steps) keeps below = ap₂ (λ x xs. x ∷ xs) (step-kept a b s keeps below.0) (steps-kept a b steps keeps below.1)

pub steps-wider : (bound wider : ℕ) (steps : List Step) → bound ≤ wider → AreStepsBelow bound steps → AreStepsBelow wider steps
steps-wider bound wider [] more below = tt
steps-wider bound wider (s ∷ steps) more below = (step-wider bound wider s more below.0, steps-wider bound wider steps more below.1)

-- ---- the steps of a state

module _ (given : Given) (number : ℕ) (row : Row) (before : Draft) (old new : List Shape) (steps : List Step) (task : IsTaskOf (declared_in given) row.name.now old row.task) (keeps : Keeps old new) (walked : steps_of new steps ≡ walk (shape_at old row.task.gives) (settings_view row.state.now.settings) (kind_view row.state.now.kind) (shapes_of before number (kind_view row.state.now.kind))) (breach : Option Breach) (first : IsFirstBroken new (shape_at new row.task.takes) steps breach) where
  abbrev declared : model.Declared
  declared = declared_in given

  abbrev shown : drafts.Row
  shown = row_view number row

  seen : drafts.steps_of declared before shown ≡ steps_of new steps
  seen = sym (walked ∙ ap (λ s. walk s (settings_view row.state.now.settings) (kind_view row.state.now.kind) (shapes_of before number (kind_view row.state.now.kind))) task.gives.same)

  takes : shape_at new row.task.takes ≡ takes_of declared row.name.now
  takes = kept_shape old new row.task.takes keeps task.takes.within ∙ task.takes.same

  own : IsFirstBroken new (takes_of declared row.name.now) steps breach
  own = subst (λ s. IsFirstBroken new s steps breach) takes first

  -- no rule is broken
  pub whole-row : breach ≡ None → AreStepsOf given.strictness declared shown before new steps true
  whole-row is = record {
    seen = seen;
    whole = λ true. whole-steps new (takes_of declared row.name.now) steps (subst (IsFirstBroken new (takes_of declared row.name.now) steps) is own);
    lenient = λ other. absurd (cc);
  }

  -- one is, and passed over
  pub broken-row : (later : List Shape) → steps_of later steps ≡ steps_of new steps → given.strictness ≡ Lenient → AreStepsOf given.strictness declared shown before later steps false
  broken-row later same lenient = record {
    seen = seen ∙ sym same;
    whole = λ other. absurd (cc);
    lenient = λ false. lenient;
  }

  -- or told
  pub row-tells : (one : Breach) (found : Finding) → breach ≡ Some one → given.strictness ≡ Strict → finding_view found ≡ finding_of row.name.now (breach_view one) → IsIn (table_in given) shown → WalkTells given.strictness (table_in given) declared number before (refusal.Finding found)
  row-tells one found is strict told among =
      let at : slice_get (own_breaches (takes_of declared row.name.now) (drafts.steps_of declared before shown)) 0 ≡ Some (breach_view one) = ap (λ steps. slice_get (own_breaches (takes_of declared row.name.now) steps) 0) seen ∙ (own.first ∙ ap (option_map breach_view) is) in
      let walk : walked_by Strict (table_in given) declared shown before ≡ Err (finding_view found) = walked-broken (table_in given) declared shown before (breach_view one) at ∙ ap Err (sym told) in
      tells-row given.strictness (table_in given) declared number shown before (refusal.Finding found) among refl (subst (λ how. walked_by how (table_in given) declared shown before ≡ Err (finding_view found)) (sym strict) walk)

-- ---- the state has been walked

module _ (given : Given) (number : ℕ) (row : Row) (one made two : Walker) (steps : List Step) (are_whole : Bool) (of : IsRowOf given number row) (are : AreStepsOf given.strictness (declared_in given) (row_view number row) (draft_view one.draft) made.draft.store steps are_whole) (same : draft_view made.draft ≡ draft_view one.draft) where
  abbrev all : List Walked
  all = steps_of made.draft.store steps

  pub state-walks : (changed : Bool) → Makes room (steps_taken (table_in given) number all) (draft_view made.draft) changed (draft_view two.draft) → Walks given.strictness (table_in given) (declared_in given) number (draft_view one.draft) (draft_view two.draft)
  state-walks changed makes =
      let after : draft_view two.draft ≡ steps_taken (table_in given) number all (draft_view one.draft) = makes.made ∙ ap (steps_taken (table_in given) number all) same in
      walks-row given.strictness (table_in given) (declared_in given) number (row_view number row) (draft_view one.draft) (draft_view two.draft) of.among refl
      (walked-steps (table_in given) (declared_in given) given.strictness (row_view number row) all (draft_view one.draft) (draft_view two.draft) are_whole are.seen are.whole are.lenient after)

  pub state-calm : are_whole ≡ true → IsCalmAfter (table_in given) number all made two → (r : drafts.Row) → IsIn (table_in given) r → r.number ≡ number → r.number < length two.waiting.waits.items → IsCalm (table_in given) (declared_in given) r two
  state-calm whole after r is here within =
      let shown : row_view number row ≡ r = same-row (table_in given) (row_view number row) r of.among is (sym here) in
      let seen : drafts.steps_of (declared_in given) (draft_view one.draft) r ≡ all = subst (λ (x : drafts.Row). drafts.steps_of (declared_in given) (draft_view one.draft) x ≡ all) shown are.seen in
      after.calm (declared_in given) r here within (ap (λ d. drafts.steps_of (declared_in given) d r) same ∙ seen) (subst (λ (x : drafts.Row). own_breaches (takes_of (declared_in given) x.name) all ≡ []) shown (are.whole whole))
