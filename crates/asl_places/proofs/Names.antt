-- Maps of members by name.
use Rattle.std.proofs.Common.{le_refl, ◌≡◌, ℕ, List, Bool, true, false, cond, Ordering, Some, None, refl, sym, ap, ◌∙◌, subst}
use Rattle.std.specs.Borrow.{Bor}
use Rattle.std.specs.Ordering.{nat_cmp}
use Rattle.std.specs.Cmp.Lexicographic.{slice_cmp}
use Rattle.std.specs.Str.{bytes_eq}
use Rattle.std.specs.BTreeMap.{BTreeMap, Updates, IsEmpty, is_at}
use Rattle.std.specs.Map.{lookup}
use Rattle.std.proofs.lemmas.Map.Text.{btree_map_updates_str}
use Rattle.std.proofs.lemmas.Slice.Eq.{bytes_eq-Decides}
use Rattle.json.specs.Token.{Token}
use Rattle.asl_places.specs.declared.outline.Member.{Member}
use Rattle.asl_places.specs.declared.outline.Spot.{Spot}
use Rattle.asl_places.specs.Named.{first_of, named_in}
use Rattle.asl_places.proofs.Walks.{GoesOn, IsLater, IsLater-here, Stands, Stands-here, Stands-on, Walked}

abbrev pub ByName : Type 0
ByName = BTreeMap (Bor (List ℕ)) Member

abbrev by_bytes : Bor (List ℕ) → Bor (List ℕ) → Ordering
by_bytes a b = slice_cmp nat_cmp a.now b.now

-- the new map is the old with one more member, of that name
abbrev pub Inserts : ByName → ByName → Bor (List ℕ) → Member → Type 0
Inserts old new name m = Updates by_bytes old new name (Some m)

pub named_in-added : (old new : ByName) (name : Bor (List ℕ)) (m : Member) → Inserts old new name m → (asked : List ℕ) → named_in new asked ≡ cond (bytes_eq name.now asked) (Some m) (named_in old asked)
named_in-added old new name m adds asked = btree_map_updates_str name.now old new (Some m) adds asked

pub named_in-empty : (names : ByName) (name : List ℕ) → IsEmpty names → named_in names name ≡ None
named_in-empty names name empty = ap (lookup (is_at (λ k. slice_cmp nat_cmp name k.now))) empty

-- ---- the members of an object, one after the other

-- each name leads to its last member so far
pub Stands-added : (tokens : List Token) (object : Spot) (cursor : ℕ) (old new : ByName) (name : Bor (List ℕ)) (m : Member) (next : ℕ) → Inserts old new name m → Walked tokens object cursor → GoesOn tokens cursor name.now m next → ((asked : List ℕ) → Stands tokens object cursor asked (named_in old asked)) → (asked : List ℕ) → Stands tokens object next asked (named_in new asked)
Stands-added tokens object cursor old new name m next adds w g stands asked = subst (Stands tokens object next asked) (sym (named_in-added old new name m adds asked)) (either (bytes_eq name.now asked) refl)
  where
    either : (same : Bool) → bytes_eq name.now asked ≡ same → Stands tokens object next asked (cond same (Some m) (named_in old asked))
    either true e = subst (λ n. Stands tokens object next n (Some m)) ((bytes_eq-Decides name.now asked).0 e) (Stands-here tokens object cursor name.now m next w g)
    either false e = Stands-on tokens object cursor name.now m next asked (named_in old asked) g (stands asked)

-- and it stays behind those before it
pub IsLater-added : (tokens : List Token) (object : Spot) (cursor : ℕ) (old new : ByName) (name : Bor (List ℕ)) (m : Member) (next : ℕ) → Inserts old new name m → GoesOn tokens cursor name.now m next → ((asked : List ℕ) → Stands tokens object cursor asked (named_in old asked)) → (asked : List ℕ) (other : Member) → IsLater (named_in old asked) other → IsLater (named_in new asked) other
IsLater-added tokens object cursor old new name m next adds g stands asked other later = subst (λ o. IsLater o other) (sym (named_in-added old new name m adds asked)) (either (bytes_eq name.now asked))
  where
    either : (same : Bool) → IsLater (cond same (Some m) (named_in old asked)) other
    either true = IsLater-here tokens object cursor asked name.now m next (named_in old asked) other g (stands asked) later
    either false = later

-- the member that is added is the last of its name
pub named_in-here : (old new : ByName) (name : Bor (List ℕ)) (m : Member) → Inserts old new name m → IsLater (named_in new name.now) m
named_in-here old new name m adds =
    let is = named_in-added old new name m adds name.now ∙ ap (λ same. cond same (Some m) (named_in old name.now)) ((bytes_eq-Decides name.now name.now).1 refl) in
    subst (λ o. IsLater o m) (sym is) (le_refl m.name.token)

-- ---- states

pub first_of-added : (old new : ByName) (name : Bor (List ℕ)) (m first : Member) → Inserts old new name first → first ≡ first_of (named_in old name.now) m → (asked : List ℕ) → named_in new asked ≡ cond (bytes_eq name.now asked) (Some (first_of (named_in old asked) m)) (named_in old asked)
first_of-added old new name m first adds is asked = named_in-added old new name first adds asked ∙ either (bytes_eq name.now asked) refl
  where
    either : (same : Bool) → bytes_eq name.now asked ≡ same → cond same (Some first) (named_in old asked) ≡ cond same (Some (first_of (named_in old asked) m)) (named_in old asked)
    either true e = ap Some (is ∙ ap (λ n. first_of (named_in old n) m) ((bytes_eq-Decides name.now asked).0 e))
    either false e = refl
