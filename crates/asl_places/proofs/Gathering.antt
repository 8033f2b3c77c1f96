-- What is put behind the machines that are still to come.
use Rattle.std.proofs.Common.{◌≡◌, ◌⊎◌, inl, inr, ⊎_elim, ◌<◌, ℕ, ◌+◌, List, [], ◌∷◌, ◌++◌, length, drop, Some, Contains, codes, slice_get, refl, sym, ap, ◌∙◌, subst, le_antisymm}
use Rattle.std.proofs.lemmas.List.Elements.{All-push, Contains-append_left, Contains-push, Contains-push_cases}
use Rattle.json.specs.Token.{Token, begin_array}
use Rattle.json.specs.Find.{HasValue}
use Rattle.json.specs.Tape.{Passes}
use Rattle.asl_places.specs.declared.outline.Spot.{Spot}
use Rattle.asl_places.specs.declared.outline.Member.{Member}
use Rattle.asl_places.specs.Standing.{Leads, here, IsElement, IsMemberOf, FindsMember, StepsOverElement}
use Rattle.asl_places.specs.Definition.{HasMachine, processor, iterator, branch, IsProcessor, IsBranch}
use Rattle.asl_places.specs.Gathering.{AreBehind, Puts}
use Rattle.asl_places.proofs.Walks.{leads_cases, leads_none, leads_on, passed_once, passes-HasValue, same_member}

pub Puts-none : (spots : List Spot) (are : Spot → Type 0) → ((s : Spot) → are s → ⊥) → Puts spots spots are
Puts-none spots are never s = (inl, ⊎_elim (λ h. h) (λ p. absurd (never s p)))

pub Puts-one : (spots : List Spot) (x : Spot) (are : Spot → Type 0) → are x → ((s : Spot) → are s → x ≡ s) → Puts spots (spots ++ x ∷ []) are
Puts-one spots x are is one s = (
  λ h. ⊎_elim inl (λ e. inr (subst are e is)) (Contains-push_cases spots x s h),
  ⊎_elim (Contains-append_left spots (x ∷ []) s) (λ p. subst (Contains (spots ++ x ∷ [])) (one s p) (Contains-push spots x)),
)

pub Puts-as : (old new : List Spot) (are other : Spot → Type 0) → ((s : Spot) → are s → other s) → ((s : Spot) → other s → are s) → Puts old new are → Puts old new other
Puts-as old new are other to from puts s =
    (λ h. ⊎_elim inl (λ p. inr (to s p)) ((puts s).0 h), λ h. (puts s).1 (⊎_elim inl (λ q. inr (from s q)) h))

pub Puts-then : (old mid new : List Spot) (first second : Spot → Type 0) → Puts old mid first → Puts mid new second → Puts old new (λ s. first s ⊎ second s)
Puts-then old mid new first second puts more s = (
  λ h. ⊎_elim (λ m. ⊎_elim inl (λ p. inr (inl p)) ((puts s).0 m)) (λ q. inr (inr q)) ((more s).0 h),
  ⊎_elim (λ h. (more s).1 (inl ((puts s).1 (inl h)))) (⊎_elim (λ p. (more s).1 (inl ((puts s).1 (inr p)))) (λ q. (more s).1 (inr q))),
)

pub AreBehind-push : (tokens : List Token) (before : ℕ) (spots : List Spot) (x : Spot) → before < x.token → x.token < length tokens → AreBehind tokens before spots → AreBehind tokens before (spots ++ x ∷ [])
AreBehind-push tokens before spots x behind inside are = All-push (λ s. (before < s.token) × (s.token < length tokens)) spots x are (behind, inside)

-- ---- the machines of a state

-- an object has one member of a name
pub one_member : (tokens : List Token) (object : Spot) (name : List ℕ) (a b : Member) → IsMemberOf tokens object name a → IsMemberOf tokens object name b → a ≡ b
one_member tokens object name a b x y =
    (same_member tokens a b name name (le_antisymm (y.last a x.stands) (x.last b y.stands)) x.stands.named y.stands.named).1

pub Puts-member : (tokens : List Token) (state : Spot) (field : List ℕ) (spots : List Spot) (m : Member) → FindsMember tokens state field (Some m) → Puts spots (spots ++ m.value ∷ []) (IsProcessor tokens state field)
Puts-member tokens state field spots m is =
    Puts-one spots m.value (IsProcessor tokens state field) (m, is, refl) (λ s p. ap (λ x. x.value) (one_member tokens state field m p.0 is p.1) ∙ p.2)

pub Puts-branches : (tokens : List Token) (state : Spot) (name : List ℕ) (old new : List Spot) (m : Member) → FindsMember tokens state name (Some m) → Puts old new (IsElement tokens m.value) → Puts old new (λ s. (branches : Member) × IsMemberOf tokens state name branches × IsElement tokens branches.value s)
Puts-branches tokens state name old new m is =
    Puts-as old new _ _ (λ s e. (m, is, e)) (λ s p. subst (λ (x : Member). IsElement tokens x.value s) (sym (one_member tokens state name m p.0 is p.1)) p.2)

pub Puts-machines : (tokens : List Token) (state : Spot) (a b c d : List Spot) → Puts a b (IsProcessor tokens state (codes "ItemProcessor")) → Puts b c (IsProcessor tokens state (codes "Iterator")) → Puts c d (IsBranch tokens state) → Puts a d (HasMachine tokens state)
Puts-machines tokens state a b c d x y z =
    Puts-as a d _ (HasMachine tokens state) (λ s. ⊎_elim (⊎_elim processor iterator) branch) apart (Puts-then a c d _ _ (Puts-then a b c _ _ x y) z)
  where
    apart : (s : Spot) → HasMachine tokens state s → (IsProcessor tokens state (codes "ItemProcessor") s ⊎ IsProcessor tokens state (codes "Iterator") s) ⊎ IsBranch tokens state s
    apart s (processor p) = inl (inl p)
    apart s (iterator p) = inl (inr p)
    apart s (branch p) = inr p

-- ---- elements

-- the walk over a list has come to the number, and has put what it passed
pub record Elements (tokens : List Token) (list : Spot) (cursor : ℕ) (old new : List Spot) : Type 0 where
  pub opens : slice_get tokens list.token ≡ Some begin_array
  pub leads : Leads (Passes tokens) (list.token + 1) cursor
  pub only : (s : Spot) → Contains new s → Contains old s ⊎ IsElement tokens list s
  pub kept : (s : Spot) → Contains old s → Contains new s
  pub covers : (s : Spot) → IsElement tokens list s → Contains new s ⊎ Leads (Passes tokens) cursor s.token

pub Elements-start : (tokens : List Token) (list : Spot) (cursor : ℕ) (spots : List Spot) → cursor ≡ list.token + 1 → slice_get tokens list.token ≡ Some begin_array → Elements tokens list cursor spots spots
Elements-start tokens list cursor spots at opens = record {
  opens = opens;
  leads = subst (Leads (Passes tokens) (list.token + 1)) (sym at) (here (list.token + 1));
  only = λ s. inl;
  kept = λ s h. h;
  covers = λ s e. inr (subst (λ n. Leads (Passes tokens) n s.token) (sym at) e.leads);
}

pub Elements-on : (tokens : List Token) (list : Spot) (cursor : ℕ) (old new : List Spot) (x : Spot) (next : ℕ) → HasValue (drop x.token tokens) → StepsOverElement tokens cursor (Some x) next → Elements tokens list cursor old new → Elements tokens list next old (new ++ x ∷ [])
Elements-on tokens list cursor old new x next has steps e = record {
  opens = e.opens;
  leads = leads_on (Passes tokens) (list.token + 1) cursor next e.leads passes;
  only = λ s h. ⊎_elim (e.only s) (λ same. inr (subst (IsElement tokens list) same is)) (Contains-push_cases new x s h);
  kept = λ s h. Contains-append_left new (x ∷ []) s (e.kept s h);
  covers = λ s h. ⊎_elim (λ there. inl (Contains-append_left new (x ∷ []) s there)) (λ leads. behind s (leads_cases (Passes tokens) cursor next s.token (λ n p. passed_once tokens cursor n next p passes) leads)) (e.covers s h);
}
  where
    here_value : HasValue (drop cursor tokens)
    here_value = subst (λ n. HasValue (drop n tokens)) steps.0 has

    passes : Passes tokens cursor next
    passes = steps.1 here_value

    is : IsElement tokens list x
    is = record { opens = e.opens; leads = subst (Leads (Passes tokens) (list.token + 1)) (sym steps.0) e.leads; begins = has }

    behind : (s : Spot) → (s.token ≡ cursor) ⊎ Leads (Passes tokens) next s.token → Contains (new ++ x ∷ []) s ⊎ Leads (Passes tokens) next s.token
    behind s (inl at) = inl (subst (Contains (new ++ x ∷ [])) (ap (λ n. record { token = n }) (steps.0 ∙ sym at)) (Contains-push new x))
    behind s (inr leads) = inr leads

pub Elements-end : (tokens : List Token) (list : Spot) (cursor : ℕ) (old new : List Spot) → (HasValue (drop cursor tokens) → ⊥) → Elements tokens list cursor old new → Puts old new (IsElement tokens list)
Elements-end tokens list cursor old new none e s = (e.only s, ⊎_elim (e.kept s) (λ is. either is (e.covers s is)))
  where
    either : IsElement tokens list s → Contains new s ⊎ Leads (Passes tokens) cursor s.token → Contains new s
    either is (inl there) = there
    either is (inr leads) =
        let at = leads_none (Passes tokens) cursor s.token (λ n p. none (passes-HasValue tokens cursor n p)) leads in
        absurd (none (subst (λ n. HasValue (drop n tokens)) at is.begins))
