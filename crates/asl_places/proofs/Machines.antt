-- The states that a reading adds: those of one machine, and then those of the machines in it.
use Rattle.std.proofs.Common.{◌≡◌, ◌⊎◌, inl, inr, ⊎_elim, ◌≤◌, ℕ, ◌+◌, List, [], ◌∷◌, ◌++◌, drop, Bool, true, false, cond, nat_lt, Option, Some, None, IfSome, MatchOption, Contains, bytes_eq, codes, slice_get, refl, sym, ap, ◌∙◌, subst, arith, le_refl, le_trans, le_of_lt, ltb-true, ltb-false}
use Rattle.std.proofs.lemmas.List.Elements.{Contains-append_left, Contains-push, Contains-push_cases}
use Rattle.std.proofs.lemmas.Slice.Eq.{bytes_eq-Decides}
use Rattle.json.specs.Token.{Token, begin_object}
use Rattle.json.specs.Find.{HasValue}
use Rattle.json.proofs.Found.{not_found}
use Rattle.asl_places.specs.declared.outline.Spot.{Spot}
use Rattle.asl_places.specs.declared.outline.Member.{Member}
use Rattle.asl_places.specs.Standing.{FindsMember, IsMemberOf, NoMemberAt}
use Rattle.asl_places.specs.Definition.{FindsStates, HasMachine, processor, iterator, branch, HasNestedMachine, HasState, HasStateInside, own, nested}
use Rattle.asl_places.specs.Named.{first_of}
use Rattle.asl_places.specs.Gathering.{Adds, FindsFirst, HasMachineUnder, Lists, Puts}
use Rattle.asl_places.proofs.Gathering.{one_member}
use Rattle.asl_places.proofs.Walks.{Covers, Covers-end, Covers-on, Covers-start, GoesOn, Walked, Walked-on, Walked-start}

abbrev pub Found : Type 0
Found = List ℕ → Option Member

-- ---- a state is put

-- the state is put under its name; the first in the text stays
abbrev pub PutsState : Found → Found → List ℕ → Member → Type 0
PutsState old new name m = (asked : List ℕ) → new asked ≡ cond (bytes_eq name asked) (Some (first_of (old asked) m)) (old asked)

first_of-new : (o : Option Member) (m : Member) → (first_of o m).name.token ≤ m.name.token
first_of-new None m = le_refl m.name.token
first_of-new (Some other) m = either (nat_lt other.name.token m.name.token) refl
  where
    either : (b : Bool) → nat_lt other.name.token m.name.token ≡ b → (cond b other m).name.token ≤ m.name.token
    either true e = le_of_lt (ltb-true other.name.token m.name.token e)
    either false e = le_refl m.name.token

first_of-old : (other m : Member) → (first_of (Some other) m).name.token ≤ other.name.token
first_of-old other m = either (nat_lt other.name.token m.name.token) refl
  where
    either : (b : Bool) → nat_lt other.name.token m.name.token ≡ b → (cond b other m).name.token ≤ other.name.token
    either true e = le_refl other.name.token
    either false e = ltb-false other.name.token m.name.token e

first_of-one : (o : Option Member) (m : Member) → (o ≡ Some (first_of o m)) ⊎ (m ≡ first_of o m)
first_of-one None m = inr refl
first_of-one (Some other) m = either (nat_lt other.name.token m.name.token)
  where
    either : (b : Bool) → (Some other ≡ Some (cond b other m)) ⊎ (m ≡ cond b other m)
    either true = inl refl
    either false = inr refl

put_found : (old new : Found) (name : List ℕ) (m : Member) → PutsState old new name m → FindsFirst new name m
put_found old new name m puts =
    let is = puts name ∙ ap (λ same. cond same (Some (first_of (old name) m)) (old name)) ((bytes_eq-Decides name name).1 refl) in
    subst (λ o. MatchOption o ⊥ (λ f. f.name.token ≤ m.name.token)) (sym is) (first_of-new (old name) m)

put_kept : (old new : Found) (name : List ℕ) (m : Member) → PutsState old new name m → (asked : List ℕ) (k : Member) → FindsFirst old asked k → FindsFirst new asked k
put_kept old new name m puts asked k there = subst (λ o. MatchOption o ⊥ (λ f. f.name.token ≤ k.name.token)) (sym (puts asked)) (either (bytes_eq name asked) (old asked) there)
  where
    either : (same : Bool) (o : Option Member) → MatchOption o ⊥ (λ f. f.name.token ≤ k.name.token) → MatchOption (cond same (Some (first_of o m)) o) ⊥ (λ f. f.name.token ≤ k.name.token)
    either true None h = absurd h
    either true (Some f) h = le_trans (first_of-old f m) h
    either false o h = h

itself : (o : Option Member) (Q : Member → Type 0) → IfSome o (λ m. (o ≡ Some m) ⊎ Q m)
itself None Q = tt
itself (Some m) Q = inl refl

put_only : (old new : Found) (name : List ℕ) (m : Member) → PutsState old new name m → (asked : List ℕ) → IfSome (new asked) (λ k. (old asked ≡ Some k) ⊎ ((name ≡ asked) × (m ≡ k)))
put_only old new name m puts asked = subst (λ o. IfSome o (λ k. (old asked ≡ Some k) ⊎ ((name ≡ asked) × (m ≡ k)))) (sym (puts asked)) (either (bytes_eq name asked) refl)
  where
    either : (same : Bool) → bytes_eq name asked ≡ same → IfSome (cond same (Some (first_of (old asked) m)) (old asked)) (λ k. (old asked ≡ Some k) ⊎ ((name ≡ asked) × (m ≡ k)))
    either true e = ⊎_elim inl (λ new_one. inr ((bytes_eq-Decides name asked).0 e, new_one)) (first_of-one (old asked) m)
    either false e = itself (old asked) (λ k. (name ≡ asked) × (m ≡ k))

-- ---- what is added

stays : (o : Option Member) → IfSome o (λ m. MatchOption o ⊥ (λ f. f.name.token ≤ m.name.token))
stays None = tt
stays (Some m) = le_refl m.name.token

IfSome-more : (o : Option Member) (P Q : Member → Type 0) → ((m : Member) → o ≡ Some m → P m → Q m) → IfSome o P → IfSome o Q
IfSome-more None P Q f h = tt
IfSome-more (Some m) P Q f h = f m refl h

if_found : (o : Option Member) (P : Member → Type 0) (m : Member) → IfSome o P → o ≡ Some m → P m
if_found o P m h e = subst (λ x. IfSome x P) e h

-- what is found in one is found in the other, there or further in front
goes_over : (old new : Found) → ((name : List ℕ) → IfSome (old name) (λ m. FindsFirst new name m)) → (name : List ℕ) (m : Member) → FindsFirst old name m → FindsFirst new name m
goes_over old new kept name m there = either (old name) (kept name) there
  where
    front : (o : Option Member) (f : Member) → MatchOption o ⊥ (λ g. g.name.token ≤ f.name.token) → f.name.token ≤ m.name.token → MatchOption o ⊥ (λ g. g.name.token ≤ m.name.token)
    front None f h low = absurd h
    front (Some g) f h low = le_trans h low

    either : (o : Option Member) → IfSome o (λ f. FindsFirst new name f) → MatchOption o ⊥ (λ f. f.name.token ≤ m.name.token) → FindsFirst new name m
    either None h low = absurd low
    either (Some f) h low = front (new name) f h low

pub Adds-none : (found : Found) (are : List ℕ → Member → Type 0) → ((name : List ℕ) (m : Member) → are name m → ⊥) → Adds found found are
Adds-none found are never = record {
  only = λ name. itself (found name) (are name);
  kept = λ name. stays (found name);
  added = λ name m is. absurd (never name m is);
}

pub Adds-as : (old new : Found) (are other : List ℕ → Member → Type 0) → ((name : List ℕ) (m : Member) → are name m → other name m) → ((name : List ℕ) (m : Member) → other name m → are name m) → Adds old new are → Adds old new other
Adds-as old new are other to from a = record {
  only = λ name. IfSome-more (new name) _ _ (λ m e. ⊎_elim inl (λ is. inr (to name m is))) (a.only name);
  kept = a.kept;
  added = λ name m is. a.added name m (from name m is);
}

pub Adds-then : (old mid new : Found) (first second : List ℕ → Member → Type 0) → Adds old mid first → Adds mid new second → Adds old new (λ name m. first name m ⊎ second name m)
Adds-then old mid new first second a b = record {
  only = λ name. IfSome-more (new name) _ _ (λ m e. ⊎_elim (λ before. ⊎_elim inl (λ is. inr (inl is)) (if_found (mid name) _ m (a.only name) before)) (λ is. inr (inr is))) (b.only name);
  kept = λ name. IfSome-more (old name) _ _ (λ m e there. goes_over mid new b.kept name m there) (a.kept name);
  added = λ name m. ⊎_elim (λ is. goes_over mid new b.kept name m (a.added name m is)) (b.added name m);
}

-- ---- the states of one machine

-- of the state the first of its name is found, and its machines are listed
abbrev Done : List Token → Spot → Found → List Spot → List ℕ → Member → Type 0
Done tokens object new inner name m = IsMemberOf tokens object name m → FindsFirst new name m × ((s : Spot) → HasMachine tokens m.value s → Contains inner s)

-- the walk over the states of one object has come to the number, and has added what it passed
pub record Scope (tokens : List Token) (object : Spot) (cursor : ℕ) (old new : Found) (inner : List Spot) : Type 0 where
  pub walked : Walked tokens object cursor
  pub covers : Covers tokens object cursor (Done tokens object new inner)
  pub only : (name : List ℕ) → IfSome (new name) (λ m. (old name ≡ Some m) ⊎ IsMemberOf tokens object name m)
  pub kept : (name : List ℕ) → IfSome (old name) (λ m. FindsFirst new name m)
  pub listed : (s : Spot) → Contains inner s → HasMachineUnder tokens object s

pub Scope-start : (tokens : List Token) (object : Spot) (cursor : ℕ) (found : Found) → cursor ≡ object.token + 1 → slice_get tokens object.token ≡ Some begin_object → Scope tokens object cursor found found []
Scope-start tokens object cursor found at opens = record {
  walked = Walked-start tokens object cursor at opens;
  covers = Covers-start tokens object cursor _ at;
  only = λ name. itself (found name) _;
  kept = λ name. stays (found name);
  listed = λ s h. let none = h.1 in absurd (omega arith);
}

-- a member that isn't the last of its name is passed
pub Scope-skip : (tokens : List Token) (object : Spot) (cursor : ℕ) (old new : Found) (inner : List Spot) (name : List ℕ) (m : Member) (next : ℕ) (last : Option Member) → GoesOn tokens cursor name m next → FindsMember tokens object name last → (last ≡ Some m → ⊥) → Scope tokens object cursor old new inner → Scope tokens object next old new inner
Scope-skip tokens object cursor old new inner name m next last g finds other s = record {
  walked = Walked-on tokens object cursor name m next s.walked g;
  covers = Covers-on tokens object cursor name m next _ _ g (λ n k p. p) (λ is. absurd (never last finds other is)) s.covers;
  only = s.only;
  kept = s.kept;
  listed = s.listed;
}
  where
    never : (found : Option Member) → FindsMember tokens object name found → (found ≡ Some m → ⊥) → IsMemberOf tokens object name m → ⊥
    never None none differs is = none m is
    never (Some f) f_is differs is = differs (ap Some (one_member tokens object name f m f_is is))

-- a member that is the last of its name is a state
pub Scope-on : (tokens : List Token) (object : Spot) (cursor : ℕ) (old new newer : Found) (inner more : List Spot) (name : List ℕ) (m : Member) (next : ℕ) → GoesOn tokens cursor name m next → IsMemberOf tokens object name m → PutsState new newer name m → Puts inner more (HasMachine tokens m.value) → Scope tokens object cursor old new inner → Scope tokens object next old newer more
Scope-on tokens object cursor old new newer inner more name m next g is puts lists s = record {
  walked = Walked-on tokens object cursor name m next s.walked g;
  covers = Covers-on tokens object cursor name m next _ _ g
      (λ n k done k_is. let d = done k_is in (put_kept new newer name m puts n k d.0, λ x has. (lists x).1 (inl (d.1 x has))))
      (λ _. (put_found new newer name m puts, λ x has. (lists x).1 (inr has))) s.covers;
  only = λ n. IfSome-more (newer n) _ _ (λ k e. ⊎_elim (λ before. if_found (new n) _ k (s.only n) before) (λ same. inr (subst (IsMemberOf tokens object n) same.1 (subst (λ x. IsMemberOf tokens object x m) same.0 is)))) (put_only new newer name m puts n);
  kept = λ n. IfSome-more (old n) _ _ (λ k e there. put_kept new newer name m puts n k there) (s.kept n);
  listed = λ x h. ⊎_elim (s.listed x) (λ has. (name, m, is, has)) ((lists x).0 h);
}

pub Scope-adds : (tokens : List Token) (object : Spot) (cursor : ℕ) (old new : Found) (inner : List Spot) → NoMemberAt tokens cursor → Scope tokens object cursor old new inner → Adds old new (IsMemberOf tokens object)
Scope-adds tokens object cursor old new inner none s = record {
  only = s.only;
  kept = s.kept;
  added = λ name m is. (Covers-end tokens object cursor _ none s.covers name m is.stands is).0;
}

pub Scope-lists : (tokens : List Token) (object : Spot) (cursor : ℕ) (old new : Found) (inner : List Spot) → NoMemberAt tokens cursor → Scope tokens object cursor old new inner → Lists inner (HasMachineUnder tokens object)
Scope-lists tokens object cursor old new inner none s x = (s.listed x, λ h. (Covers-end tokens object cursor _ none s.covers h.0 h.1 h.2.stands h.2).1 x h.3)

pub Lists-none : (are : Spot → Type 0) → ((s : Spot) → are s → ⊥) → Lists [] are
Lists-none are never s = (λ h. let none = h.1 in absurd (omega arith), λ h. absurd (never s h))

-- a machine without `States` has none
pub no_states : (tokens : List Token) (machine : Spot) → FindsMember tokens machine (codes "States") None → (name : List ℕ) (m : Member) → HasState tokens machine name m → ⊥
no_states tokens machine none name m has = none has.0 has.1

-- the states of a machine are the members of its `States`
pub states_added : (tokens : List Token) (machine : Spot) (old new : Found) (states : Member) → FindsMember tokens machine (codes "States") (Some states) → Adds old new (IsMemberOf tokens states.value) → Adds old new (HasState tokens machine)
states_added tokens machine old new states is =
    Adds-as old new _ (HasState tokens machine) (λ name m m_is. (states, is, m_is)) (λ name m has. subst (λ (x : Member). IsMemberOf tokens x.value name m) (one_member tokens machine (codes "States") has.0 states has.1 is) has.2)

pub machines_listed : (tokens : List Token) (machine : Spot) (spots : List Spot) (states : Member) → FindsMember tokens machine (codes "States") (Some states) → Lists spots (HasMachineUnder tokens states.value) → Lists spots (HasNestedMachine tokens machine)
machines_listed tokens machine spots states is lists s = (
  λ h. let under = (lists s).0 h in (under.0, under.1, (states, is, under.2), under.3),
  λ has. (lists s).1 (has.0, has.1, subst (λ (x : Member). IsMemberOf tokens x.value has.0 has.1) (one_member tokens machine (codes "States") has.2.0 states has.2.1 is) has.2.2, has.3),
)

-- ---- the states of the machines in a machine

-- the state is one of the machine, or of one of these
abbrev pub IsAmong : List Token → Spot → List Spot → List ℕ → Member → Type 0
IsAmong tokens machine spots name m = HasState tokens machine name m ⊎ ((s : Spot) × Contains spots s × HasStateInside tokens s name m)

pub among_none : (tokens : List Token) (machine : Spot) (old new : Found) → Adds old new (HasState tokens machine) → Adds old new (IsAmong tokens machine [])
among_none tokens machine old new = Adds-as old new _ _ (λ name m is. inl is) (λ name m. ⊎_elim (λ is. is) (λ h. let none = h.1.1 in absurd (omega arith)))

pub among_more : (tokens : List Token) (machine : Spot) (old mid new : Found) (spots : List Spot) (x : Spot) → Adds old mid (IsAmong tokens machine spots) → Adds mid new (HasStateInside tokens x) → Adds old new (IsAmong tokens machine (spots ++ x ∷ []))
among_more tokens machine old mid new spots x a b =
    Adds-as old new _ (IsAmong tokens machine (spots ++ x ∷ []))
    (λ name m. ⊎_elim (⊎_elim inl (λ h. inr (h.0, Contains-append_left spots (x ∷ []) h.0 h.1, h.2))) (λ is. inr (x, Contains-push spots x, is)))
    (λ name m. ⊎_elim (λ is. inl (inl is)) (λ h. ⊎_elim (λ before. inl (inr (h.0, before, h.2))) (λ same. inr (subst (λ s. HasStateInside tokens s name m) (sym same) h.2)) (Contains-push_cases spots x h.0 h.1)))
    (Adds-then old mid new _ _ a b)

inside_cases : (tokens : List Token) (machine : Spot) (spots : List Spot) → Lists spots (HasNestedMachine tokens machine) → (name : List ℕ) (m : Member) → HasStateInside tokens machine name m → IsAmong tokens machine spots name m
inside_cases tokens machine spots lists name m (own x n k is) = inl is
inside_cases tokens machine spots lists name m (nested x s n k has is) = inr (s, (lists s).1 has, is)

pub among_all : (tokens : List Token) (machine : Spot) (old new : Found) (spots : List Spot) → Lists spots (HasNestedMachine tokens machine) → Adds old new (IsAmong tokens machine spots) → Adds old new (HasStateInside tokens machine)
among_all tokens machine old new spots lists =
    Adds-as old new _ (HasStateInside tokens machine)
    (λ name m. ⊎_elim (own machine name m) (λ h. nested machine h.0 name m ((lists h.0).0 h.1) h.2))
    (inside_cases tokens machine spots lists)

machine_begins : (tokens : List Token) (state machine : Spot) → HasMachine tokens state machine → HasValue (drop machine.token tokens)
machine_begins tokens state machine (processor p) = subst (λ (s : Spot). HasValue (drop s.token tokens)) p.2 p.1.stands.begins
machine_begins tokens state machine (iterator p) = subst (λ (s : Spot). HasValue (drop s.token tokens)) p.2 p.1.stands.begins
machine_begins tokens state machine (branch p) = p.2.begins

pub nested_begins : (tokens : List Token) (machine inner : Spot) → HasNestedMachine tokens machine inner → HasValue (drop inner.token tokens)
nested_begins tokens machine inner h = machine_begins tokens h.1.value inner h.3

-- ---- the whole

pub finds_states : (tokens : List Token) (machine : Spot) (old new : Found) → ((name : List ℕ) → old name ≡ None) → Adds old new (HasStateInside tokens machine) → FindsStates tokens machine new
finds_states tokens machine old new empty a name = either (new name) (a.only name) (a.added name)
  where
    either : (o : Option Member) → IfSome o (λ m. (old name ≡ Some m) ⊎ HasStateInside tokens machine name m) → ((m : Member) → HasStateInside tokens machine name m → MatchOption o ⊥ (λ f. f.name.token ≤ m.name.token))
        → MatchOption o ((m : Member) → HasStateInside tokens machine name m → ⊥) (λ f. HasStateInside tokens machine name f × ((m : Member) → HasStateInside tokens machine name m → f.name.token ≤ m.name.token))
    either None only added = added
    either (Some f) only added = (⊎_elim (λ before. not_found f (sym (empty name) ∙ before)) (λ is. is) only, added)
