-- Broken rules that are added behind others.
use Rattle.std.proofs.Common.{◌≡◌, ◌≢◌, ◌==◌, true, false, ◌<◌, ◌≤◌, ℕ, zero, suc, List, [], ◌∷◌, ◌++◌, length, get_or, refl, sym, ap, ◌∙◌, subst, append_assoc, arith}
use Rattle.std.proofs.lemmas.Bool.{eqb-false, eqb-true}
use Rattle.std.proofs.lemmas.List.{append-nil, map-append}
use Rattle.asl_model.specs.Examples.{outside}
use Rattle.asl_model.specs.Finding as finding
use Rattle.asl_model.specs.Missing.{counterexample}
use Rattle.asl_model.specs.Shape.{Shape}
use Rattle.asl_numbered.specs.Expansion.{shape_at, Keeps}
use Rattle.asl_numbered.specs.Laws.{keeps_longer, kept_shape}
use Rattle.asl_state_edges.specs.View.{finding_fault_view}
use Rattle.asl_check.specs.Faults.{shown_view, IsShownBelow, IsFaultBelow}
use Rattle.asl_check.specs.Listing.{listed_view, rules_view, Adds, AreRulesBelow}
use Rattle.asl_check.specs.declared.faults.Fault.{Fault}
use Rattle.asl_check.specs.declared.faults.Shown.{Shown}
use Rattle.asl_check.specs.declared.faults.Shown.TheVariants.{Nothing, Missing, Outside}
use Rattle.asl_check.specs.declared.listed.Listed.{Listed}

-- ---- rules that are seen in a table that has grown

shown_kept : (old new : List Shape) (shown : Shown) → Keeps old new → IsShownBelow (length old) shown → shown_view new shown ≡ shown_view old shown
shown_kept old new Nothing keeps h = refl
shown_kept old new (Missing path name) keeps h = ap (λ s. counterexample (record { path = path.path.now; segment = path.segment; shape = s })) (kept_shape old new path.shape keeps h)
shown_kept old new (Outside inner outer) keeps h = ap (λ s. outside s (shape_at new outer)) (kept_shape old new inner keeps h.0) ∙ ap (outside (shape_at old inner)) (kept_shape old new outer keeps h.1)

rule_kept : (old new : List Shape) (rule : Listed) → Keeps old new → IsFaultBelow (length old) rule.fault → listed_view new rule ≡ listed_view old rule
rule_kept old new rule keeps h = ap (λ example. record { state = rule.name.now; field = rule.fault.field.now; fault = finding_fault_view rule.fault.fault; example = example }) (shown_kept old new rule.fault.shown keeps h.below)

rules_kept : (old new : List Shape) (rules : List Listed) → Keeps old new → AreRulesBelow (length old) rules → rules_view new rules ≡ rules_view old rules
rules_kept old new [] keeps h = refl
rules_kept old new (rule ∷ rules) keeps h = rw (rule_kept old new rule keeps h.0, rules_kept old new rules keeps h.1) refl

-- ---- numbers below a wider bound

shown_wider : (bound wider : ℕ) (shown : Shown) → bound ≤ wider → IsShownBelow bound shown → IsShownBelow wider shown
shown_wider bound wider Nothing more h = tt
shown_wider bound wider (Missing path name) more h = omega (arith, more, h)
shown_wider bound wider (Outside inner outer) more h = (omega (arith, more, h.0), omega (arith, more, h.1))

fault_wider : (bound wider : ℕ) (f : Fault) → bound ≤ wider → IsFaultBelow bound f → IsFaultBelow wider f
fault_wider bound wider f more h = record { below = shown_wider bound wider f.shown more h.below; apart = h.apart }

rules_wider : (bound wider : ℕ) (rules : List Listed) → bound ≤ wider → AreRulesBelow bound rules → AreRulesBelow wider rules
rules_wider bound wider [] more h = tt
rules_wider bound wider (rule ∷ rules) more h = (fault_wider bound wider rule.fault more h.0, rules_wider bound wider rules more h.1)

both_below : (bound : ℕ) (xs ys : List Listed) → AreRulesBelow bound xs → AreRulesBelow bound ys → AreRulesBelow bound (xs ++ ys)
both_below bound [] ys here behind = behind
both_below bound (x ∷ xs) ys here behind = (here.0, both_below bound xs ys here.1 behind)

-- ---- the rule at an index, in a table that has grown

rule_below : (bound : ℕ) (rules : List Listed) (i : ℕ) (d : Listed) → i < length rules → AreRulesBelow bound rules → IsFaultBelow bound (get_or rules i d).fault
rule_below bound [] i d within below = absurd (omega (arith, within))
rule_below bound (rule ∷ rules) zero d within below = below.0
rule_below bound (rule ∷ rules) (suc i) d within below = rule_below bound rules i d (omega (arith, within)) below.1

module _ (a b : List Shape) (rules : List Listed) (i : ℕ) (rule : Listed) (is : rule ≡ get_or rules i rule) (keeps : Keeps a b) (within : i < length rules) (below : AreRulesBelow (length a) rules) where
  here : IsFaultBelow (length a) rule.fault
  here = subst (λ (r : Listed). IsFaultBelow (length a) r.fault) (sym is) (rule_below (length a) rules i rule within below)

  -- its numbers are in the table
  pub rule_within : IsFaultBelow (length b) rule.fault
  rule_within =
      let longer : length a ≤ length b = omega (arith, keeps_longer a b keeps) in
      fault_wider (length a) (length b) rule.fault longer here

  -- it is seen as it was
  pub rule_shown : listed_view b rule ≡ listed_view a rule
  rule_shown = rule_kept a b rule keeps (here)

-- ---- whether there are any

pub no_rules : (rules : List Listed) (many : ℕ) → many ≡ length rules → (many == 0) ≡ true → rules ≡ []
no_rules [] many is none = refl
no_rules (rule ∷ rules) many is none = absurd (omega (arith, is, eqb-true many 0 none))

pub some_rules : (table : List Shape) (rules : List Listed) (many : ℕ) → many ≡ length rules → (many == 0) ≡ false → rules_view table rules ≢ []
some_rules table [] many is some e = eqb-false many 0 some is
some_rules table (rule ∷ rules) many is some e = absurd (cc)

-- ---- rules that are added

-- none
pub adds_none : (table : List Shape) (rules : List Listed) → Adds table rules rules []
adds_none table rules = record { added = []; whole = sym (append-nil rules); below = tt; seen = refl }

-- one
pub adds_one : (table : List Shape) (before after : List Listed) (rule : Listed) → after ≡ before ++ rule ∷ [] → IsFaultBelow (length table) rule.fault → Adds table before after (listed_view table rule ∷ [])
adds_one table before after rule whole below = record { added = rule ∷ []; whole = whole; below = (below, tt); seen = refl }

-- some, and others behind them, in a table that has grown
pub adds_then : (old new : List Shape) (before middle after : List Listed) (xs ys : List finding.Finding) → Keeps old new → Adds old before middle xs → Adds new middle after ys → Adds new before after (xs ++ ys)
adds_then old new before middle after xs ys keeps a b = record {
  added = a.added ++ b.added;
  whole = b.whole ∙ ap (λ rules. rules ++ b.added) a.whole ∙ append_assoc before a.added b.added;
  below = both_below (length new) a.added b.added (rules_wider (length old) (length new) a.added (keeps_longer old new keeps) a.below) b.below;
  seen = map-append (listed_view new) a.added b.added ∙ ap (λ zs. zs ++ rules_view new b.added) (rules_kept old new a.added keeps a.below ∙ a.seen) ∙ ap (λ zs. xs ++ zs) b.seen;
}

-- the same rules, told otherwise
pub adds_same : (table : List Shape) (before after : List Listed) (xs ys : List finding.Finding) → xs ≡ ys → Adds table before after xs → Adds table before after ys
adds_same table before after xs ys is a = subst (Adds table before after) is a

-- ---- rules that are added to none

module _ (table : List Shape) (before after : List Listed) (all : List finding.Finding) (none : before ≡ []) (a : Adds table before after all) where
  whole : after ≡ a.added
  whole = a.whole ∙ ap (λ rules. rules ++ a.added) none

  -- they are those
  pub added_seen : rules_view table after ≡ all
  added_seen = ap (rules_view table) whole ∙ a.seen

  -- below the table's length
  pub added_below : AreRulesBelow (length table) after
  added_below = subst (AreRulesBelow (length table)) (sym whole) (a.below)
