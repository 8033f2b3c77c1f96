-- Looking fields up in a value.
use Rattle.std.proofs.Common.{◌≡◌, ℕ, codes, option_map, unwrap_or, suc, ◌+◌, ◌/◌, ◌==◌, List, [], ◌∷◌, Option, Some, is_some, Bool, true, false, not, cond, if◌then◌else◌, ◌||◌, bytes_eq, refl, sym, ap, ◌∙◌, zero-add, add-zero, arith, is_eq, Ordering, Less, Equal, Greater}
use Rattle.std.specs.List.{count_by, fold}
use Rattle.std.proofs.lemmas.Slice.Eq.{bytes_eq-Decides}
use Rattle.std.specs.Ordering.{nat_cmp, match_ordering}
use Rattle.std.specs.Cmp.Lexicographic.{slice_cmp}
use Rattle.std.proofs.lemmas.Map.Text.{is_eq-slice_cmp}
use Rattle.serde_json.specs.Data as json
use Rattle.serde_json.specs.Data.{Data, Members}
use Rattle.serde_json.specs.Find.{get, get_member}
use Rattle.asl_model.specs.ShapeSpelling.{is_among}
use Rattle.asl_model.specs.StandsFor.{members_in, names_of, state_names, characters}
use Rattle.asl_fields.proofs.Objects.{got_among}

-- ---- names

pub bytes_eq-swap : (m n : List ℕ) → bytes_eq m n ≡ bytes_eq n m
bytes_eq-swap m n = go (bytes_eq m n) (bytes_eq n m) refl refl
  where
    go : (a b : Bool) → bytes_eq m n ≡ a → bytes_eq n m ≡ b → bytes_eq m n ≡ bytes_eq n m
    go true true e f = e ∙ sym f
    go false false e f = e ∙ sym f
    go true false e f =
        let same : m ≡ n = (bytes_eq-Decides m n).0 e in
        let again : bytes_eq n m ≡ true = (bytes_eq-Decides n m).1 (sym same) in
        absurd (cc)
    go false true e f =
        let same : n ≡ m = (bytes_eq-Decides n m).0 f in
        let again : bytes_eq m n ≡ true = (bytes_eq-Decides m n).1 (sym same) in
        absurd (cc)

some_first : (o : Ordering) (v : Data) (rest : Option Data) → is_some (match_ordering o rest (Some v) rest) ≡ (is_eq o || is_some rest)
some_first Less v rest = refl
some_first Equal v rest = refl
some_first Greater v rest = refl

pub some_member : (n : List ℕ) (ms : Members) → is_some (get_member n ms) ≡ is_among n (names_of ms)
some_member n json.no_members = refl
some_member n (json.member m v ms) =
    some_first (slice_cmp nat_cmp n m) v (get_member n ms) ∙ ap (λ b. b || is_some (get_member n ms)) (is_eq-slice_cmp n m ∙ bytes_eq-swap n m) ∙ ap (λ b. bytes_eq m n || b) (some_member n ms)

-- a field is there where its name is among those of the members
pub is_there : (n : List ℕ) (v : Data) → is_some (get n v) ≡ is_among n (names_of (members_in v))
is_there n v = ap is_some (got_among n v) ∙ some_member n (members_in v)

-- ---- characters

counted : (t : Bool) (a m : ℕ) → a + (if t then m else suc m) ≡ (a + cond (not t) 1 0) + m
counted true a m = ap (λ k. k + m) (sym (add-zero a))
counted false a m = omega arith

counted_on : (bs : List ℕ) (a : ℕ) → a + characters bs ≡ fold (λ k b. k + cond (not (b / 64 == 2)) 1 0) a bs
counted_on [] a = add-zero a
counted_on (b ∷ bs) a = counted (b / 64 == 2) a (characters bs) ∙ counted_on bs (a + cond (not (b / 64 == 2)) 1 0)

pub characters_counted : (bs : List ℕ) → characters bs ≡ count_by (λ b. not (b / 64 == 2)) bs
characters_counted bs = sym (zero-add (characters bs)) ∙ counted_on bs 0

-- the names of the states of a scope are those of what stands in `States`
pub state_names_at : (v states : Data) → get (codes "States") v ≡ Some states → state_names (members_in v) ≡ names_of (members_in states)
state_names_at v states e = ap (λ o. names_of (unwrap_or (option_map members_in o) json.no_members)) (sym (got_among (codes "States") v) ∙ e)
