-- What the first token of a value tells of the value, and of what follows it.
use Rattle.std.proofs.Common.{◌≡◌, ℕ, ◌+◌, ◌<◌, List, ◌∷◌, map, length, drop, get_or, Option, Some, None, refl, sym, ap, ◌∙◌, subst, arith}
use Rattle.std.proofs.lemmas.List.{drop_more, get_or-map, length-map}
use Rattle.json.specs.Token.{Token}
use Rattle.json.specs.Json.{Json, null, boolean, number, string, array, object, Items, Members, parse_map, value}
use Rattle.json.specs.Tape.{node_token, Passes}
use Rattle.json.specs.Find.{BeginsWith, InItems, InMembers, as_array, as_object, at, get}
use Rattle.json.specs.declared.tape.Node.{Node}
use Rattle.json.specs.declared.tape.Node.TheVariants.{Object, EndObject, Array, EndArray, Key, String, Number, Bool, Null}
use Rattle.json.proofs.Grammar.{value_is, left_some}
use Rattle.json.proofs.Found.{one_reading, not_found, opened, Some_inj}

-- the tokens from the i-th on: first that of its node
pub drop-node_token : (nodes : List Node) (i : ℕ) (d : Node) → i < length nodes → drop i (map node_token nodes) ≡ node_token (get_or nodes i d) ∷ drop (i + 1) (map node_token nodes)
drop-node_token nodes i d h =
    drop_more (map node_token nodes) i (node_token d) (omega (arith, length-map nodes node_token)) ∙ ap (λ t. t ∷ drop (i + 1) (map node_token nodes)) (get_or-map node_token nodes i d (node_token d) h)

first_of : {A : Type 0} (f : A → Json) (o : Option (A × List Token)) (j : Json) (rest : List Token) → parse_map f o ≡ Some (j, rest) → (a : A) × (j ≡ f a)
first_of f None j rest e = not_found (j, rest) e
first_of f (Some x) j rest e = (x.0, sym (ap (λ z. z.0) (Some_inj _ _ e)))

-- a value of one token, and what follows it
abbrev IsAlone : Json → Json → List Token → List Token → Type 0
IsAlone j leaf rest after = (j ≡ leaf) × (rest ≡ after)

alone : (leaf j : Json) (after rest : List Token) → ◌≡◌ {A = Option (Json × List Token)} (Some (leaf, after)) (Some (j, rest)) → IsAlone j leaf rest after
alone leaf j after rest e = let both = Some_inj _ _ e in (sym (ap (λ z. z.0) both), sym (ap (λ z. z.1) both))

-- what stands where a token begins a value
abbrev Told : Token → Json → List Token → List Token → Type 0
Told Token.begin_object j rest after = (ms : Members) × (j ≡ object ms)
Told Token.end_object j rest after = ⊥
Told Token.begin_array j rest after = (js : Items) × (j ≡ array js)
Told Token.end_array j rest after = ⊥
Told (Token.key s) j rest after = ⊥
Told (Token.string s) j rest after = IsAlone j (string s) rest after
Told (Token.number s) j rest after = IsAlone j (number s) rest after
Told (Token.boolean b) j rest after = IsAlone j (boolean b) rest after
Told Token.null j rest after = IsAlone j null rest after
Told Token.bad j rest after = ⊥

told : (t : Token) (after : List Token) (depth : ℕ) (j : Json) (rest : List Token) → value depth (t ∷ after) ≡ Some (j, rest) → Told t j rest after
told Token.begin_object after depth j rest e = first_of object _ j rest (sym (value_is depth _) ∙ e)
told Token.end_object after depth j rest e = not_found (j, rest) (sym (value_is depth _) ∙ e)
told Token.begin_array after depth j rest e = first_of array _ j rest (sym (value_is depth _) ∙ e)
told Token.end_array after depth j rest e = not_found (j, rest) (sym (value_is depth _) ∙ e)
told (Token.key s) after depth j rest e = not_found (j, rest) (sym (value_is depth _) ∙ e)
told (Token.string s) after depth j rest e = alone (string s) j after rest (sym (value_is depth _) ∙ e)
told (Token.number s) after depth j rest e = alone (number s) j after rest (sym (value_is depth _) ∙ e)
told (Token.boolean b) after depth j rest e = alone (boolean b) j after rest (sym (value_is depth _) ∙ e)
told Token.null after depth j rest e = alone null j after rest (sym (value_is depth _) ∙ e)
told Token.bad after depth j rest e = not_found (j, rest) (sym (value_is depth _) ∙ e)

-- no value begins with the bracket that closes a list
pub no_value_closes : (after : List Token) (j : Json) → BeginsWith (Token.end_array ∷ after) j → ⊥
no_value_closes after j h = told Token.end_array after h.0 j h.1 h.2

-- behind a value that opens no bracket its token is passed
pub leaf_passed : (t : Token) (after : List Token) (depth : ℕ) (j : Json) (rest : List Token) → (t ≡ Token.begin_object → ⊥) → (t ≡ Token.begin_array → ⊥) → value depth (t ∷ after) ≡ Some (j, rest) → rest ≡ after
leaf_passed Token.begin_object after depth j rest p q e = absurd (p refl)
leaf_passed Token.end_object after depth j rest p q e = absurd (told Token.end_object after depth j rest e)
leaf_passed Token.begin_array after depth j rest p q e = absurd (q refl)
leaf_passed Token.end_array after depth j rest p q e = absurd (told Token.end_array after depth j rest e)
leaf_passed (Token.key s) after depth j rest p q e = absurd (told (Token.key s) after depth j rest e)
leaf_passed (Token.string s) after depth j rest p q e = (told (Token.string s) after depth j rest e).1
leaf_passed (Token.number s) after depth j rest p q e = (told (Token.number s) after depth j rest e).1
leaf_passed (Token.boolean b) after depth j rest p q e = (told (Token.boolean b) after depth j rest e).1
leaf_passed Token.null after depth j rest p q e = (told Token.null after depth j rest e).1
leaf_passed Token.bad after depth j rest p q e = absurd (told Token.bad after depth j rest e)

-- a link leads behind the value
pub link_passed : (tokens : List Token) (at end depth : ℕ) (j : Json) (rest : List Token) → Passes tokens at end → value depth (drop at tokens) ≡ Some (j, rest) → rest ≡ drop end tokens
link_passed tokens at end depth j rest link e =
    let other = left_some (value link.0 (drop at tokens)) (drop end tokens) link.1 in
    ap (λ z. z.1) (Some_inj _ _ (one_reading depth link.0 (drop at tokens) _ _ e other.1))

-- a brace begins an object, whose members stand behind it, and only a brace does
pub brace_told : (after : List Token) (j : Json) → BeginsWith (Token.begin_object ∷ after) j → (ms : Members) × (j ≡ object ms) × InMembers after ms
brace_told after j h =
    let shape = told Token.begin_object after h.0 j h.1 h.2 in
    (shape.0, shape.1, opened (Token.begin_object ∷ after) (object shape.0) (subst (BeginsWith (Token.begin_object ∷ after)) shape.1 h))

pub no_brace_told : (t : Token) (after : List Token) (j : Json) → (t ≡ Token.begin_object → ⊥) → BeginsWith (t ∷ after) j → as_object j ≡ None
no_brace_told Token.begin_object after j p h = absurd (p refl)
no_brace_told Token.end_object after j p h = absurd (told Token.end_object after h.0 j h.1 h.2)
no_brace_told Token.begin_array after j p h = ap as_object (told Token.begin_array after h.0 j h.1 h.2).1
no_brace_told Token.end_array after j p h = absurd (told Token.end_array after h.0 j h.1 h.2)
no_brace_told (Token.key s) after j p h = absurd (told (Token.key s) after h.0 j h.1 h.2)
no_brace_told (Token.string s) after j p h = ap as_object (told (Token.string s) after h.0 j h.1 h.2).0
no_brace_told (Token.number s) after j p h = ap as_object (told (Token.number s) after h.0 j h.1 h.2).0
no_brace_told (Token.boolean b) after j p h = ap as_object (told (Token.boolean b) after h.0 j h.1 h.2).0
no_brace_told Token.null after j p h = ap as_object (told Token.null after h.0 j h.1 h.2).0
no_brace_told Token.bad after j p h = absurd (told Token.bad after h.0 j h.1 h.2)

-- so a bracket, a list and its elements
pub bracket_told : (after : List Token) (j : Json) → BeginsWith (Token.begin_array ∷ after) j → (js : Items) × (j ≡ array js) × InItems after js
bracket_told after j h =
    let shape = told Token.begin_array after h.0 j h.1 h.2 in
    (shape.0, shape.1, opened (Token.begin_array ∷ after) (array shape.0) (subst (BeginsWith (Token.begin_array ∷ after)) shape.1 h))

pub no_bracket_told : (t : Token) (after : List Token) (j : Json) → (t ≡ Token.begin_array → ⊥) → BeginsWith (t ∷ after) j → as_array j ≡ None
no_bracket_told Token.begin_object after j p h = ap as_array (told Token.begin_object after h.0 j h.1 h.2).1
no_bracket_told Token.end_object after j p h = absurd (told Token.end_object after h.0 j h.1 h.2)
no_bracket_told Token.begin_array after j p h = absurd (p refl)
no_bracket_told Token.end_array after j p h = absurd (told Token.end_array after h.0 j h.1 h.2)
no_bracket_told (Token.key s) after j p h = absurd (told (Token.key s) after h.0 j h.1 h.2)
no_bracket_told (Token.string s) after j p h = ap as_array (told (Token.string s) after h.0 j h.1 h.2).0
no_bracket_told (Token.number s) after j p h = ap as_array (told (Token.number s) after h.0 j h.1 h.2).0
no_bracket_told (Token.boolean b) after j p h = ap as_array (told (Token.boolean b) after h.0 j h.1 h.2).0
no_bracket_told Token.null after j p h = ap as_array (told Token.null after h.0 j h.1 h.2).0
no_bracket_told Token.bad after j p h = absurd (told Token.bad after h.0 j h.1 h.2)

-- only an object has members by name, only a list elements by index
pub get-no_object : (name : List ℕ) (j : Json) → as_object j ≡ None → get name j ≡ None
get-no_object name null e = refl
get-no_object name (boolean b) e = refl
get-no_object name (number s) e = refl
get-no_object name (string s) e = refl
get-no_object name (array js) e = refl
get-no_object name (object ms) e = not_found ms (sym e)

pub at-no_list : (n : ℕ) (j : Json) → as_array j ≡ None → at n j ≡ None
at-no_list n null e = refl
at-no_list n (boolean b) e = refl
at-no_list n (number s) e = refl
at-no_list n (string s) e = refl
at-no_list n (array js) e = not_found js (sym e)
at-no_list n (object ms) e = refl

-- ---- which node has a token
-- a brace is an object's node
pub no_brace : (n : Node) → ((a : ℕ) → n ≡ Object a → ⊥) → node_token n ≡ Token.begin_object → ⊥
no_brace (Object a) never e = never a refl
no_brace EndObject never e = cc
no_brace (Array a) never e = cc
no_brace EndArray never e = cc
no_brace (Key s) never e = cc
no_brace (String s) never e = cc
no_brace (Number s) never e = cc
no_brace (Bool b) never e = cc
no_brace Null never e = cc

-- a bracket is a list's
pub no_bracket : (n : Node) → ((a : ℕ) → n ≡ Array a → ⊥) → node_token n ≡ Token.begin_array → ⊥
no_bracket (Object a) never e = cc
no_bracket EndObject never e = cc
no_bracket (Array a) never e = never a refl
no_bracket EndArray never e = cc
no_bracket (Key s) never e = cc
no_bracket (String s) never e = cc
no_bracket (Number s) never e = cc
no_bracket (Bool b) never e = cc
no_bracket Null never e = cc
