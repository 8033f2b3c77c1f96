-- Cutting a text at its holes gives exactly its pieces.
use Rattle.std.proofs.Common.{◌≡◌, ◌↔◌, refl, sym, ap, ◌∙◌, subst, append-nil, ℕ, List, [], ◌∷◌, ◌++◌, drop, Bool, true, false, ◌&&◌, ◌||◌, nat_eq, eqb-true, IsFalse, IsTrue, if◌then◌else◌, codes}
use Rattle.asl_model.specs.Intrinsic.{Pieces, joined_by_holes, begins_with, byte_before, cut_at_holes, has_hole, NoneHasHole, ArePiecesOf}
use Rattle.asl_model.proofs.RunOptions.{false_true}

-- pieces of these
abbrev pieces_with : List ℕ → List (List ℕ) → Pieces
pieces_with first after_holes = record { first = first; after_holes = after_holes }

-- the byte in front, for a test that is known
abbrev byte_by : Bool → ℕ → Pieces → Pieces
byte_by hole b pieces = if hole
    then record { first = []; after_holes = drop 1 pieces.first ∷ pieces.after_holes }
    else record { first = b ∷ pieces.first; after_holes = pieces.after_holes }

neither : (a b : Bool) → IsFalse (a || b) → IsFalse a × IsFalse b
neither true b h = absurd (cc)
neither false b h = (refl, h)

-- what stands in front of a cut text that begins with a hole, or is empty
in_front : (first text : List ℕ) (after : List (List ℕ)) → IsFalse (has_hole first) → cut_at_holes text ≡ pieces_with [] after → cut_at_holes (first ++ text) ≡ pieces_with first after
in_front [] text after whole e = e
in_front (b ∷ bs) text after whole e =
    let two = neither (nat_eq b 123 && begins_with 125 bs) (has_hole bs) whole in
    ap (byte_before b) (in_front bs text after two.1 e) ∙ ap (λ (hole : Bool). byte_by hole b (pieces_with bs after)) two.0

-- the pieces of a text are what its cutting gives
pieces_cut : (first : List ℕ) (after : List (List ℕ)) → IsFalse (has_hole first) → NoneHasHole after → cut_at_holes (joined_by_holes first after) ≡ pieces_with first after
pieces_cut first [] whole others = ap cut_at_holes (sym (append-nil first)) ∙ in_front first [] [] whole refl
pieces_cut first (piece ∷ pieces) whole others = in_front first (codes "{}" ++ joined_by_holes piece pieces) (piece ∷ pieces) whole (ap (λ inner. byte_before 123 (byte_before 125 inner)) (pieces_cut piece pieces others.0 others.1))

byte_joined : (b : ℕ) (first : List ℕ) (after : List (List ℕ)) → joined_by_holes (b ∷ first) after ≡ b ∷ joined_by_holes first after
byte_joined b first [] = refl
byte_joined b first (piece ∷ pieces) = refl

both_true : (a b : Bool) → IsTrue (a && b) → IsTrue a × IsTrue b
both_true true b h = (refl, h)
both_true false b h = false_true h

no_or : (a b : Bool) → IsFalse a → IsFalse b → IsFalse (a || b)
no_or true b g h = absurd (cc)
no_or false b g h = h

-- a byte in front of pieces of a text, where it makes no hole
byte_stays : (b : ℕ) (text first : List ℕ) (after : List (List ℕ)) → ArePiecesOf text (pieces_with first after) → IsFalse (nat_eq b 123 && begins_with 125 first) → ArePiecesOf (b ∷ text) (pieces_with (b ∷ first) after)
byte_stays b text first after of h = record {
  whole = byte_joined b first after ∙ ap (λ cs. b ∷ cs) of.whole;
  first_is_whole = no_or (nat_eq b 123 && begins_with 125 first) (has_hole first) h of.first_is_whole;
  others_are_whole = of.others_are_whole;
}

-- `{` in front of a first piece that begins with `}`
closes : (b : ℕ) (text first : List ℕ) (after : List (List ℕ)) → ArePiecesOf text (pieces_with first after) → IsTrue (nat_eq b 123 && begins_with 125 first) → ArePiecesOf (b ∷ text) (pieces_with [] (drop 1 first ∷ after))
closes b text [] after of e = false_true (both_true (nat_eq b 123) false e).1
closes b text (c ∷ cs) after of e =
    let two = both_true (nat_eq b 123) (nat_eq 125 c) e in
    let opening : b ≡ 123 = eqb-true b 123 two.0 in
    let closing : 125 ≡ c = eqb-true 125 c two.1 in
    let further : c ∷ joined_by_holes cs after ≡ text = sym (byte_joined c cs after) ∙ of.whole in
    record {
      whole = ap (λ (d : ℕ). d ∷ (125 ∷ joined_by_holes cs after)) (sym opening) ∙ ap (λ (d : ℕ). b ∷ (d ∷ joined_by_holes cs after)) closing ∙ ap (λ (t : List ℕ). b ∷ t) further;
      first_is_whole = refl;
      others_are_whole = ((neither (nat_eq c 123 && begins_with 125 cs) (has_hole cs) of.first_is_whole).1, of.others_are_whole);
    }

-- a byte in front of pieces of a text
byte_pieces : (b : ℕ) (text first : List ℕ) (after : List (List ℕ)) → ArePiecesOf text (pieces_with first after) → ArePiecesOf (b ∷ text) (byte_before b (pieces_with first after))
byte_pieces b text first after of = go (nat_eq b 123 && begins_with 125 first) refl
  where
    go : (hole : Bool) → (nat_eq b 123 && begins_with 125 first) ≡ hole → ArePiecesOf (b ∷ text) (byte_by hole b (pieces_with first after))
    go true e = closes b text first after of e
    go false e = byte_stays b text first after of e

pub cut_pieces : (text : List ℕ) → ArePiecesOf text (cut_at_holes text)
cut_pieces [] = record { whole = refl; first_is_whole = refl; others_are_whole = tt }
cut_pieces (b ∷ bs) = let inner = cut_pieces bs in byte_pieces b bs (cut_at_holes bs).first (cut_at_holes bs).after_holes inner

pub pieces_exactly : (text : List ℕ) (pieces : Pieces) → ArePiecesOf text pieces ↔ cut_at_holes text ≡ pieces
pieces_exactly text pieces = (λ of. ap cut_at_holes (sym of.whole) ∙ pieces_cut pieces.first pieces.after_holes of.first_is_whole of.others_are_whole, λ e. subst (ArePiecesOf text) e (cut_pieces text))
