-- Arrivals that are added.
use Rattle.std.proofs.Common.{◌≡◌, ◌<◌, List, [], ◌∷◌, ◌++◌, length, map, Option, Some, None, option_map, option_to_list, refl, sym, ap, ◌∙◌, subst, append_assoc, arith}
use Rattle.std.specs.Prelude.{IfSome}
use Rattle.std.proofs.lemmas.List.{append-nil, map-append}
use Rattle.std.proofs.lemmas.List.Elements.{All-append, All-cons, All-nil, All-tail, All-head, All-weaker}
use Rattle.asl_model.specs.Shape.{Shape}
use Rattle.asl_numbered.specs.Expansion.{Keeps}
use Rattle.asl_numbered.specs.Laws.{keeps_longer, kept_shape}
use Rattle.asl_ways.specs.Adding.{Adds, AreBelow}
use Rattle.asl_ways.specs.Coming.{Coming, coming}
use Rattle.asl_ways.specs.declared.arriving.Arrival.{Arrival}

-- none
pub adds_none : (table : List Shape) (arrivals : List Arrival) → Adds table arrivals arrivals []
adds_none table arrivals = record { added = []; whole = sym (append-nil arrivals); below = All-nil (λ a. a.shape < length table); seen = refl }

-- told otherwise
pub adds_same : (table : List Shape) (before after : List Arrival) (xs ys : List Coming) → xs ≡ ys → Adds table before after xs → Adds table before after ys
adds_same table before after xs ys is adds = subst (Adds table before after) is adds

-- ---- in a table that has grown

coming_kept : (a b : List Shape) (arrivals : List Arrival) → Keeps a b → AreBelow (length a) arrivals → map (coming b) arrivals ≡ map (coming a) arrivals
coming_kept a b [] keeps below = refl
coming_kept a b (x ∷ xs) keeps below =
    rw (kept_shape a b x.shape keeps (All-head (λ y. y.shape < length a) x xs below), coming_kept a b xs keeps (All-tail (λ y. y.shape < length a) x xs below)) refl

below_kept : (a b : List Shape) (arrivals : List Arrival) → Keeps a b → AreBelow (length a) arrivals → AreBelow (length b) arrivals
below_kept a b arrivals keeps below =
    All-weaker (λ x. x.shape < length a) (λ x. x.shape < length b) (λ x h. let longer = keeps_longer a b keeps in omega (arith, h, longer)) arrivals below

-- some, and others behind them
pub adds_then : (a b : List Shape) (before middle after : List Arrival) (xs ys : List Coming) → Keeps a b → Adds a before middle xs → Adds b middle after ys → Adds b before after (xs ++ ys)
adds_then a b before middle after xs ys keeps first second = record {
  added = first.added ++ second.added;
  whole = second.whole ∙ ap (λ now. now ++ second.added) first.whole ∙ append_assoc before first.added second.added;
  below = All-append (λ x. x.shape < length b) first.added second.added (below_kept a b first.added keeps first.below) second.below;
  seen = ap (λ zs. zs ++ ys) (first.seen ∙ sym (coming_kept a b first.added keeps first.below)) ∙ ap (λ zs. map (coming b) first.added ++ zs) second.seen ∙ sym (map-append (coming b) first.added second.added);
}

-- one, if there is one
pub adds_any : (table : List Shape) (before after : List Arrival) (arrival : Option Arrival) → after ≡ before ++ option_to_list arrival → IfSome arrival (λ a. a.shape < length table) → Adds table before after (option_to_list (option_map (coming table) arrival))
adds_any table before after None whole below = record { added = []; whole = whole; below = All-nil (λ a. a.shape < length table); seen = refl }
adds_any table before after (Some a) whole below = record { added = a ∷ []; whole = whole; below = All-cons (λ x. x.shape < length table) a [] below (All-nil (λ x. x.shape < length table)); seen = refl }

-- ---- to none

module _ (table : List Shape) (before after : List Arrival) (all : List Coming) (none : before ≡ []) (adds : Adds table before after all) where
  whole : after ≡ adds.added
  whole = adds.whole ∙ ap (λ now. now ++ adds.added) none

  pub added_seen : map (coming table) after ≡ all
  added_seen = ap (map (coming table)) whole ∙ sym adds.seen

  pub added_below : AreBelow (length table) after
  added_below = subst (AreBelow (length table)) (sym whole) adds.below
