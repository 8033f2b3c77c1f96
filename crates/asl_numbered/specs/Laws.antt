-- Laws of tables of shapes: numbers below a bound, what stays as a table grows, and what the number of a shape is.
use Rattle.std.specs.Prelude.{◌≡◌, ◌<◌, ◌≤◌, ℕ, List, [], ◌∷◌, ◌++◌, length, map, take, drop, Option, Some, None, IfSome, option_map}
use Rattle.std.proofs.Common.{refl, sym, ap, ◌∙◌, subst, append_assoc, arith}
use Rattle.std.proofs.lemmas.List.{append-nil, length-append, get_or_append_left, take-append-drop}
use Rattle.asl_model.specs.Shape as model
use Rattle.asl_numbered.specs.declared.node.NodeField.{NodeField}
use Rattle.asl_numbered.specs.Expansion.{shape_at, numbers_in, AreBelow, AreDistinct, IsNumberOf, Keeps, Shows}
use Rattle.asl_numbered.specs.Names.{Name}

-- ---- numbers below a bound

-- where the numbers of two lists are below a bound, those of the first are
pub below-front : (bound : ℕ) (ns ms : List ℕ) → AreBelow bound (ns ++ ms) → AreBelow bound ns
below-front bound [] ms h = tt
below-front bound (n ∷ ns) ms h = (h.0, below-front bound ns ms h.1)

-- and those of the second are
pub below-behind : (bound : ℕ) (ns ms : List ℕ) → AreBelow bound (ns ++ ms) → AreBelow bound ms
below-behind bound [] ms h = h
below-behind bound (n ∷ ns) ms h = below-behind bound ns ms h.1

-- those of both are where those of each are
pub below-append : (bound : ℕ) (ns ms : List ℕ) → AreBelow bound ns → AreBelow bound ms → AreBelow bound (ns ++ ms)
below-append bound [] ms h further = further
below-append bound (n ∷ ns) ms h further = (h.0, below-append bound ns ms h.1 further)

-- the first so many of such numbers are
pub below-take : (bound k : ℕ) (ns : List ℕ) → AreBelow bound ns → AreBelow bound (take k ns)
below-take bound k ns h = below-front bound (take k ns) (drop k ns) (subst (AreBelow bound) (sym (take-append-drop k ns)) h)

-- and so are the others
pub below-drop : (bound k : ℕ) (ns : List ℕ) → AreBelow bound ns → AreBelow bound (drop k ns)
below-drop bound k ns h = below-behind bound (take k ns) (drop k ns) (subst (AreBelow bound) (sym (take-append-drop k ns)) h)

-- numbers below a bound are below a wider one
pub below-wider : (bound wider : ℕ) (ns : List ℕ) → bound ≤ wider → AreBelow bound ns → AreBelow wider ns
below-wider bound wider [] h below = tt
below-wider bound wider (n ∷ ns) h below = (omega (arith, below.0), below-wider bound wider ns h below.1)

-- the first of such numbers is, and those behind it are
pub below_next : (bound : ℕ) (now left : List ℕ) (n : ℕ) → now ≡ n ∷ left → AreBelow bound now → (n < bound) × AreBelow bound left
below_next bound now left n split h = subst (AreBelow bound) split h

-- so it is with the numbers of fields
pub below_next_field : (bound : ℕ) (now left : List (Name × NodeField)) (m : Name × NodeField) → now ≡ m ∷ left → AreBelow bound (numbers_in now) → (m.1.shape < bound) × AreBelow bound (numbers_in left)
below_next_field bound now left m split h = subst (λ fs. AreBelow bound (numbers_in fs)) split h

-- ---- a table that has grown

-- a table keeps what it has
pub keeps_same : (table : List model.Shape) → Keeps table table
keeps_same table = record { added = []; whole = sym (append-nil table) }

-- and what a table keeps that keeps what it has
pub keeps_trans : (a b c : List model.Shape) → Keeps a b → Keeps b c → Keeps a c
keeps_trans a b c h k = record { added = h.added ++ k.added; whole = k.whole ∙ ap (λ t. t ++ k.added) h.whole ∙ append_assoc a h.added k.added }

-- a table that has grown is as long at least
pub keeps_longer : (a b : List model.Shape) → Keeps a b → length a ≤ length b
keeps_longer a b h = rw (h.whole, length-append a h.added) (omega arith)

-- a number of it is one of the new table
pub kept_within : (a b : List model.Shape) (n : ℕ) → Keeps a b → n < length a → n < length b
kept_within a b n keeps within = omega (arith, keeps_longer a b keeps, within)

-- it has the same shape there
pub kept_shape : (a b : List model.Shape) (n : ℕ) → Keeps a b → n < length a → shape_at b n ≡ shape_at a n
kept_shape a b n h within = rw h.whole (get_or_append_left a h.added model.Never n within)

-- several of its numbers are numbers of the new table, with the same shapes
pub kept_numbers : (a b : List model.Shape) (ns : List ℕ) → Keeps a b → AreBelow (length a) ns → AreBelow (length b) ns
kept_numbers a b ns keeps below = below-wider (length a) (length b) ns (keeps_longer a b keeps) below

pub kept_shapes : (a b : List model.Shape) (ns : List ℕ) → Keeps a b → AreBelow (length a) ns → map (shape_at b) ns ≡ map (shape_at a) ns
kept_shapes a b [] keeps below = refl
kept_shapes a b (n ∷ ns) keeps below = rw (kept_shape a b n keeps below.0, kept_shapes a b ns keeps below.1) refl

-- and so is one that may be there
pub kept_item_within : (a b : List model.Shape) (item : Option ℕ) → Keeps a b → IfSome item (λ n. n < length a) → IfSome item (λ n. n < length b)
kept_item_within a b None keeps within = tt
kept_item_within a b (Some n) keeps within = kept_within a b n keeps within

pub kept_item : (a b : List model.Shape) (item : Option ℕ) → Keeps a b → IfSome item (λ n. n < length a) → option_map (shape_at b) item ≡ option_map (shape_at a) item
kept_item a b None keeps within = refl
kept_item a b (Some n) keeps within = ap Some (kept_shape a b n keeps within)

-- ---- the number of a shape

-- the number of a shape shows it
pub number_shows : (table : List model.Shape) (s : model.Shape) (n : ℕ) → IsNumberOf table s n → Shows table s n
number_shows table s n is = record { within = is.within; same = is.same }

-- so does what was told as its number
pub told_shows : (table : List model.Shape) (s : model.Shape) (told : Option ℕ) (n : ℕ) → IfSome told (IsNumberOf table s) → told ≡ Some n → Shows table s n
told_shows table s told n is there = number_shows table s n (rw there at is)

-- a number that shows a shape is its number, where no shape stands under two
pub its_number : (table : List model.Shape) (s : model.Shape) (n : ℕ) → AreDistinct table → n < length table → shape_at table n ≡ s → IsNumberOf table s n
its_number table s n distinct within same = record { within = within; same = same; alone = λ m below shows. distinct.apart m n below within (shows ∙ sym same) }

-- every number of the table is that of its shape
pub own_number : (table : List model.Shape) (n : ℕ) → AreDistinct table → n < length table → IsNumberOf table (shape_at table n) n
own_number table n distinct within = its_number table (shape_at table n) n distinct within refl
