-- What was cut off a call's text.
use Rattle.std.specs.Prelude.{◌≡◌, ◌∷◌, ◌++◌, ℕ, List, [], Option, Some, None, option_map, Result, Err, IfOk, IsUtf8, String, string_bytes}
use Rattle.std.specs.declared.alloc.Global.{Global}
use Rattle.std.specs.Borrow.{Bor}
use Rattle.asl_model.specs.CallSpelling.{Cut, cut_pieces, end_of_text, hole_in_front}
use Rattle.asl_model.specs.Intrinsic.{Pieces}
use Rattle.asl_intrinsic.specs.declared.cutting.CutRefusal.{CutRefusal}
use Rattle.asl_intrinsic.specs.declared.cutting.CutRefusal.TheVariants.{Malformed}
use Rattle.asl_intrinsic.specs.declared.literal.Next.{Next}
use Rattle.asl_intrinsic.specs.declared.literal.Next.TheVariants.{Shown, Hole, Apostrophe, Nothing}
use Rattle.asl_intrinsic.specs.declared.literal.PieceEnd.{PieceEnd}
use Rattle.asl_intrinsic.specs.declared.literal.PieceEnd.TheVariants as ends

-- what was cut off means what is seen, and the same is left; there is nothing to cut off where the answer says so
pub record Cuts {A W M : Type 0} (meaning : W → M) (seen : A → M) (cut : Option (W × List ℕ)) (r : Result (A × Bor (List ℕ)) CutRefusal) : Type 0 where
  pub gives : IfOk r (λ c. (w : W) × (cut ≡ Some (w, c.1.now)) × (meaning w ≡ seen c.0))
  pub fails : r ≡ Err Malformed → cut ≡ None
  pub utf8 : IfOk r (λ c. IsUtf8 c.1.now)

-- ---- literal texts

-- the bytes in front of what was cut
abbrev pub bytes_in_front : List ℕ → Pieces × List ℕ → Pieces × List ℕ
bytes_in_front bytes c = (record { first = bytes ++ c.0.first; after_holes = c.0.after_holes }, c.1)

-- a literal text, by what comes next in it
abbrev pub cut_by : Next → Cut Pieces
cut_by (Shown shown rest) = option_map (bytes_in_front shown.now) (cut_pieces rest.now)
cut_by (Hole rest) = option_map hole_in_front (cut_pieces rest.now)
cut_by (Apostrophe rest) = Some (end_of_text rest.now)
cut_by Nothing = None

-- what is behind it
abbrev pub rest_of : Next → Option (List ℕ)
rest_of (Shown shown rest) = Some rest.now
rest_of (Hole rest) = Some rest.now
rest_of (Apostrophe rest) = Some rest.now
rest_of Nothing = None

-- the bytes that are shown
abbrev pub shown_of : Next → Option (List ℕ)
shown_of (Shown shown rest) = Some shown.now
shown_of (Hole rest) = None
shown_of (Apostrophe rest) = None
shown_of Nothing = None

-- a literal text, by its first piece and what ends that
abbrev pub cut_behind : List ℕ → PieceEnd → List ℕ → Cut Pieces
cut_behind piece ends.Hole rest = option_map (λ c. (record { first = piece; after_holes = c.0.first ∷ c.0.after_holes }, c.1)) (cut_pieces rest)
cut_behind piece ends.Apostrophe rest = Some (record { first = piece; after_holes = [] }, rest)

-- its first piece was cut off; there is no text where the answer says so
pub record CutsPiece (text : List ℕ) (r : Result (String Global × PieceEnd × Bor (List ℕ)) CutRefusal) : Type 0 where
  pub gives : IfOk r (λ c. cut_pieces text ≡ cut_behind (string_bytes c.0) c.1 c.2.now)
  pub fails : r ≡ Err Malformed → cut_pieces text ≡ None
