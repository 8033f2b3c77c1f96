-- Going over the members of an object, one after the other.
use Rattle.std.proofs.Common.{◌≡◌, ◌⊎◌, inl, inr, ◌<◌, ◌≤◌, ℕ, ◌+◌, List, length, drop, Option, Some, None, IfSome, MatchOption, slice_get, refl, sym, ap, ap₂, ◌∙◌, subst, arith}
use Rattle.std.proofs.lemmas.List.{length-drop}
use Rattle.json.specs.Token.{Token, begin_object}
use Rattle.json.specs.Json.{value}
use Rattle.json.specs.Find.{HasValue}
use Rattle.json.specs.Tape.{Passes}
use Rattle.json.proofs.Grammar.{left_some}
use Rattle.json.proofs.Found.{one_reading, Some_inj}
use Rattle.asl_places.specs.declared.outline.Spot.{Spot}
use Rattle.asl_places.specs.declared.outline.Member.{Member}
use Rattle.asl_places.specs.Found.{IsNamed}
use Rattle.asl_places.specs.Standing.{Leads, here, on, PassesMember, IsMember, FindsMember, NoMemberAt, StepsOverMember}

-- ---- steps

pub leads_on : (step : ℕ → ℕ → Type 0) (a b c : ℕ) → Leads step a b → step b c → Leads step a c
leads_on step a b c (here x) s = on x c c s (here c)
leads_on step a b c (on from next to first rest) s = on from next c first (leads_on step next to c rest s)

-- where each step from the first leads to one number, what is behind it is the first or behind that number
pub leads_cases : (step : ℕ → ℕ → Type 0) (at next to : ℕ) → ((n : ℕ) → step at n → n ≡ next) → Leads step at to → (to ≡ at) ⊎ Leads step next to
leads_cases step at next to one (here x) = inl refl
leads_cases step at next to one (on from mid last first rest) = inr (subst (λ n. Leads step n last) (one mid first) rest)

-- where no step leads on, only the first is there
pub leads_none : (step : ℕ → ℕ → Type 0) (at to : ℕ) → ((n : ℕ) → step at n → ⊥) → Leads step at to → to ≡ at
leads_none step at to none (here x) = refl
leads_none step at to none (on from mid last first rest) = absurd (none mid first)

-- a value ends at one number
pub passed_once : (tokens : List Token) (at a b : ℕ) → Passes tokens at a → Passes tokens at b → a ≡ b
passed_once tokens at a b p q =
    let x = left_some (value p.0 (drop at tokens)) (drop a tokens) p.1 in
    let y = left_some (value q.0 (drop at tokens)) (drop b tokens) q.1 in
    let same = ap (λ z. length z.1) (Some_inj _ _ (one_reading p.0 q.0 (drop at tokens) _ _ x.1 y.1)) in
    let long_a = length-drop a tokens in
    let long_b = length-drop b tokens in
    let end_a = p.3 in
    let end_b = q.3 in
    omega arith

pub passes-HasValue : (tokens : List Token) (at after : ℕ) → Passes tokens at after → HasValue (drop at tokens)
passes-HasValue tokens at after p = let x = left_some (value p.0 (drop at tokens)) (drop after tokens) p.1 in (x.0, (p.0, drop after tokens, x.1))

-- ---- members

abbrev name_in : Token → List ℕ → List ℕ
name_in Token.begin_object other = other
name_in Token.end_object other = other
name_in Token.begin_array other = other
name_in Token.end_array other = other
name_in (Token.key name) other = name
name_in (Token.string s) other = other
name_in (Token.number s) other = other
name_in (Token.boolean b) other = other
name_in Token.null other = other
name_in Token.bad other = other

-- members that begin with one token are one
pub same_member : (tokens : List Token) (a b : Member) (name other : List ℕ) → a.name.token ≡ b.name.token → IsNamed tokens a name → IsNamed tokens b other → (name ≡ other) × (a ≡ b)
same_member tokens a b name other at x y =
    let keys = Some_inj _ _ (sym x.name_is ∙ ap (slice_get tokens) at ∙ y.name_is) in
    let values = x.before_value ∙ ap (λ n. n + 1) at ∙ sym y.before_value in
    (ap (λ t. name_in t name) keys, ap₂ (λ n v. record { name = record { token = n }; value = record { token = v } }) at values)

-- the walk has come to that number
pub record Walked (tokens : List Token) (object : Spot) (cursor : ℕ) : Type 0 where
  pub opens : slice_get tokens object.token ≡ Some begin_object
  pub leads : Leads (PassesMember tokens) (object.token + 1) cursor

pub Walked-start : (tokens : List Token) (object : Spot) (cursor : ℕ) → cursor ≡ object.token + 1 → slice_get tokens object.token ≡ Some begin_object → Walked tokens object cursor
Walked-start tokens object cursor at opens = record { opens = opens; leads = subst (Leads (PassesMember tokens) (object.token + 1)) (sym at) (here (object.token + 1)) }

-- it goes on over a member of that name
pub record GoesOn (tokens : List Token) (cursor : ℕ) (name : List ℕ) (m : Member) (next : ℕ) : Type 0 where
  pub at : m.name.token ≡ cursor
  pub named : IsNamed tokens m name
  pub begins : HasValue (drop m.value.token tokens)
  pub passes : Passes tokens m.value.token next

pub goes_on : (tokens : List Token) (cursor : ℕ) (name : List ℕ) (m : Member) (next : ℕ) → IsNamed tokens m name → HasValue (drop m.value.token tokens) → StepsOverMember tokens cursor (Some m) next → GoesOn tokens cursor name m next
goes_on tokens cursor name m next named begins steps = record { at = steps.0; named = named; begins = begins; passes = steps.1 begins }

passes_member : (tokens : List Token) (cursor : ℕ) (name : List ℕ) (m : Member) (next : ℕ) → GoesOn tokens cursor name m next → PassesMember tokens cursor next
passes_member tokens cursor name m next g =
    (name, ap (slice_get tokens) (sym g.at) ∙ g.named.name_is, subst (λ n. Passes tokens n next) (g.named.before_value ∙ ap (λ n. n + 1) g.at) g.passes)

pub Walked-on : (tokens : List Token) (object : Spot) (cursor : ℕ) (name : List ℕ) (m : Member) (next : ℕ) → Walked tokens object cursor → GoesOn tokens cursor name m next → Walked tokens object next
Walked-on tokens object cursor name m next w g = record { opens = w.opens; leads = leads_on (PassesMember tokens) (object.token + 1) cursor next w.leads (passes_member tokens cursor name m next g) }

pub is_member : (tokens : List Token) (object : Spot) (cursor : ℕ) (name : List ℕ) (m : Member) (next : ℕ) → Walked tokens object cursor → GoesOn tokens cursor name m next → IsMember tokens object name m
is_member tokens object cursor name m next w g = record { opens = w.opens; leads = subst (Leads (PassesMember tokens) (object.token + 1)) (sym g.at) w.leads; named = g.named; begins = g.begins }

-- of each member that is passed the fact holds, and the others come later
abbrev pub Covers : List Token → Spot → ℕ → (List ℕ → Member → Type 0) → Type 0
Covers tokens object cursor P = (name : List ℕ) (m : Member) → IsMember tokens object name m → P name m ⊎ Leads (PassesMember tokens) cursor m.name.token

pub Covers-start : (tokens : List Token) (object : Spot) (cursor : ℕ) (P : List ℕ → Member → Type 0) → cursor ≡ object.token + 1 → Covers tokens object cursor P
Covers-start tokens object cursor P at name m is = inr (subst (λ n. Leads (PassesMember tokens) n m.name.token) (sym at) is.leads)

pub Covers-on : (tokens : List Token) (object : Spot) (cursor : ℕ) (here_name : List ℕ) (here_m : Member) (next : ℕ) (P Q : List ℕ → Member → Type 0) → GoesOn tokens cursor here_name here_m next → ((name : List ℕ) (m : Member) → P name m → Q name m) → Q here_name here_m → Covers tokens object cursor P → Covers tokens object next Q
Covers-on tokens object cursor here_name here_m next P Q g more this covers name m is = either (covers name m is)
  where
    now : PassesMember tokens cursor next
    now = passes_member tokens cursor here_name here_m next g

    behind : (m.name.token ≡ cursor) ⊎ Leads (PassesMember tokens) next m.name.token → Q name m ⊎ Leads (PassesMember tokens) next m.name.token
    behind (inl at) = let same = same_member tokens here_m m here_name name (g.at ∙ sym at) g.named is.named in inl (subst (λ n. Q n m) same.0 (subst (Q here_name) same.1 this))
    behind (inr leads) = inr leads

    either : P name m ⊎ Leads (PassesMember tokens) cursor m.name.token → Q name m ⊎ Leads (PassesMember tokens) next m.name.token
    either (inl p) = inl (more name m p)
    either (inr leads) = behind (leads_cases (PassesMember tokens) cursor next m.name.token (λ n s. passed_once tokens (cursor + 1) n next s.2 now.2) leads)

pub Covers-end : (tokens : List Token) (object : Spot) (cursor : ℕ) (P : List ℕ → Member → Type 0) → NoMemberAt tokens cursor → Covers tokens object cursor P → (name : List ℕ) (m : Member) → IsMember tokens object name m → P name m
Covers-end tokens object cursor P none covers name m is = either (covers name m is)
  where
    either : P name m ⊎ Leads (PassesMember tokens) cursor m.name.token → P name m
    either (inl p) = p
    either (inr leads) =
        let at = leads_none (PassesMember tokens) cursor m.name.token (λ n s. none s.0 s.1 (passes-HasValue tokens (cursor + 1) n s.2)) leads in
        let value_at = is.named.before_value ∙ ap (λ n. n + 1) at in
        absurd (none name (ap (slice_get tokens) (sym at) ∙ is.named.name_is) (subst (λ n. HasValue (drop n tokens)) value_at is.begins))

-- ---- the last member of a name

-- one of that name is found, and it stands no further in front
abbrev pub IsLater : Option Member → Member → Type 0
IsLater found m = MatchOption found ⊥ (λ f. m.name.token ≤ f.name.token)

-- what is found is a member that is passed
abbrev pub Stands : List Token → Spot → ℕ → List ℕ → Option Member → Type 0
Stands tokens object cursor name found = IfSome found (λ f. IsMember tokens object name f × (f.name.token < cursor))

pub Stands-here : (tokens : List Token) (object : Spot) (cursor : ℕ) (name : List ℕ) (m : Member) (next : ℕ) → Walked tokens object cursor → GoesOn tokens cursor name m next → Stands tokens object next name (Some m)
Stands-here tokens object cursor name m next w g =
    let at = g.at in
    let behind = g.named.before_value in
    let after = g.passes.2 in
    (is_member tokens object cursor name m next w g, omega arith)

pub Stands-on : (tokens : List Token) (object : Spot) (cursor : ℕ) (other : List ℕ) (m : Member) (next : ℕ) (name : List ℕ) (found : Option Member) → GoesOn tokens cursor other m next → Stands tokens object cursor name found → Stands tokens object next name found
Stands-on tokens object cursor other m next name None g s = tt
Stands-on tokens object cursor other m next name (Some f) g s =
    let at = g.at in
    let behind = g.named.before_value in
    let after = g.passes.2 in
    let before = s.1 in
    (s.0, omega arith)

-- a member at the number is later than those that were found before it
pub IsLater-here : (tokens : List Token) (object : Spot) (cursor : ℕ) (name other : List ℕ) (here_m : Member) (next : ℕ) (found : Option Member) (m : Member) → GoesOn tokens cursor other here_m next → Stands tokens object cursor name found → IsLater found m → m.name.token ≤ here_m.name.token
IsLater-here tokens object cursor name other here_m next None m g s later = absurd later
IsLater-here tokens object cursor name other here_m next (Some f) m g s later =
    let at = g.at in
    let before = s.1 in
    omega (arith, later)

pub finds_member : (tokens : List Token) (object : Spot) (cursor : ℕ) (name : List ℕ) (found : Option Member) → Stands tokens object cursor name found → ((m : Member) → IsMember tokens object name m → IsLater found m) → FindsMember tokens object name found
finds_member tokens object cursor name None stands later = λ m is. later m is.stands
finds_member tokens object cursor name (Some f) stands later = record { stands = stands.0; last = later }

-- an object that doesn't open has none
pub finds_none : (tokens : List Token) (object : Spot) (name : List ℕ) → (slice_get tokens object.token ≡ Some begin_object → ⊥) → FindsMember tokens object name None
finds_none tokens object name closed = λ m is. closed is.stands.opens
