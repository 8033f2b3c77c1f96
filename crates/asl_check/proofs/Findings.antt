-- Findings that tell broken rules, one after another.
use Rattle.std.proofs.Common.{◌≡◌, ◌+◌, ◌<◌, ◌≤◌, ℕ, List, [], ◌∷◌, ◌++◌, length, get_or, drop, option_map, refl, sym, ap, ◌∙◌, append_assoc, drop-cons, add-one}
use Rattle.std.proofs.lemmas.List.{append-nil, drop_all, map-append}
use Rattle.asl_model.specs.Finding as model
use Rattle.asl_model.specs.Shape.{Shape}
use Rattle.asl_tree.specs.View.{view as tree_view}
use Rattle.asl_state_edges.specs.View.{finding_fault_view}
use Rattle.asl_check.specs.Listing.{listed_view, rules_view}
use Rattle.asl_check.specs.Noting.{noted_breach}
use Rattle.asl_check.specs.View.{finding_view, findings_of}
use Rattle.asl_check.specs.declared.listed.Listed.{Listed}
use Rattle.asl_check.specs.declared.noting.Noted.{Noted}
use Rattle.asl_check.specs.declared.verdicts.Located.{Located}

-- ---- one

-- a finding of that state and field, with what is told of the rule
abbrev told_at : List ℕ → List ℕ → Noted → model.Finding
told_at n field noted = record { state = n; field = field; fault = finding_fault_view noted.fault; example = option_map tree_view noted.example }

-- the broken rule of that name
abbrev finding_at : List ℕ → model.Breach → model.Finding
finding_at n b = record { state = n; field = b.field; fault = b.fault; example = b.example }

pub told_seen : (state field n : List ℕ) (noted : Noted) (breach : model.Breach) → state ≡ n → field ≡ noted.field.now → noted_breach noted ≡ breach → told_at state field noted ≡ finding_at n breach
told_seen state field n noted breach named at seen = ap (λ m. told_at m field noted) named ∙ (ap (λ m. told_at n m noted) at ∙ ap (finding_at n) seen)

-- ---- one after another

module _ (table : List Shape) (rules : List Listed) where
  -- the findings so far, and the rules that are left
  abbrev pub with_left : List Located → ℕ → List model.Finding
  with_left findings i = findings_of findings ++ rules_view table (drop i rules)

  -- one more is told
  pub one_told : (findings next : List Located) (f : Located) (i : ℕ) (rule : Listed) → next ≡ findings ++ f ∷ [] → finding_view f.finding ≡ listed_view table rule → i < length rules → rule ≡ get_or rules i rule → with_left next (i + 1) ≡ with_left findings i
  one_told findings next f i rule pushed seen within is =
      ap (λ fs. with_left fs (i + 1)) pushed
      ∙ (ap (λ fs. fs ++ left) (map-append (λ (g : Located). finding_view g.finding) findings (f ∷ []))
      ∙ (ap (λ g. (findings_of findings ++ g ∷ []) ++ left) seen
      ∙ (append_assoc (findings_of findings) (listed_view table rule ∷ []) left
      ∙ ap (λ rest. findings_of findings ++ rules_view table rest) (sym split))))
    where
      left : List model.Finding
      left = rules_view table (drop (i + 1) rules)

      split : drop i rules ≡ rule ∷ drop (i + 1) rules
      split = drop-cons rules i rule within ∙ rw (← is, add-one) refl

  -- all are told
  pub all_told : (findings : List Located) (i : ℕ) → length rules ≤ i → with_left findings i ≡ rules_view table rules → findings_of findings ≡ rules_view table rules
  all_told findings i end told = sym (append-nil (findings_of findings)) ∙ (ap (λ rest. findings_of findings ++ rules_view table rest) (sym (drop_all i rules end)) ∙ told)
