-- The steps of the cursors, over nodes and numbers.
use Rattle.std.proofs.Common.{◌≡◌, ℕ, ◌+◌, ◌-◌, ◌<◌, ◌≤◌, List, [], ◌∷◌, ◌++◌, take, position, nat_lt, not, cond, ap₂, map, length, drop, get_or, slice_get, Some, None, option_map, refl, sym, ap, ◌∙◌, subst, arith}
use Rattle.std.proofs.Common as common
use Rattle.std.specs.Borrow.{Bor}
use Rattle.std.specs.List.{prefix_len}
use Rattle.std.proofs.lemmas.List.{append_cancel_right, drop_all, drop-drop, drop-map, length-drop, length-map, take-append-drop, take-map}
use Rattle.std.proofs.lemmas.Option.{slice_get-get_or, slice_get-map}
use Rattle.json.specs.Token.{Token}
use Rattle.json.specs.Json.{Json, array, object, Items, Members, after_end_array, value}
use Rattle.json.specs.Tape.{node_token}
use Rattle.json.specs.Find.{BeginsWith, InItems, InMembers, NextItem, NextMember, as_array, as_object}
use Rattle.json.specs.declared.tape.Node.{Node}
use Rattle.json.specs.declared.tape.Node.TheVariants.{Object, EndObject, Array, EndArray, Key, String, Number, Bool, Null}
use Rattle.json.proofs.Found.{IsKey, Some_inj, items_close, items_go_on, items_need_tokens, members_close, members_go_on, members_short, not_empty}
use Rattle.asl_places.specs.Standing.{NoMemberAt}
use Rattle.asl_places.proofs.Reading.{drop-node_token, no_value_closes, brace_told, no_brace_told, bracket_told, no_bracket_told, no_brace, no_bracket}

-- the node found there, whatever stands for none
abbrev pub at_node : List Node → ℕ → Node
at_node nodes at = get_or nodes at (Object 0)

-- the tokens from there on
abbrev pub tokens_from : List Node → ℕ → List Token
tokens_from nodes at = drop at (map node_token nodes)

-- behind a value that begins at one number stand the tokens from the other on
abbrev pub LeadsBehind : List Node → ℕ → ℕ → Type 0
LeadsBehind nodes at behind = (depth : ℕ) (j : Json) (rest : List Token) → value depth (tokens_from nodes at) ≡ Some (j, rest) → rest ≡ tokens_from nodes behind

pub first_token : (nodes : List Node) (at : ℕ) (n : Node) → at < length nodes → at_node nodes at ≡ n → tokens_from nodes at ≡ node_token n ∷ tokens_from nodes (at + 1)
first_token nodes at n h is = drop-node_token nodes at (Object 0) h ∙ ap (λ m. node_token m ∷ tokens_from nodes (at + 1)) is

pub slice_get-node_token : (nodes : List Node) (at : ℕ) (n : Node) → at < length nodes → at_node nodes at ≡ n → slice_get (map node_token nodes) at ≡ Some (node_token n)
slice_get-node_token nodes at n h is = slice_get-map node_token nodes at ∙ ap (option_map node_token) (slice_get-get_or nodes at (Object 0) h ∙ ap Some is)

pub no_value_past : (nodes : List Node) (at : ℕ) (j : Json) → length nodes ≤ at → BeginsWith (tokens_from nodes at) j → ⊥
no_value_past nodes at j h begins = not_empty j (subst (λ ts. BeginsWith ts j) (drop_all at (map node_token nodes) (omega (arith, length-map nodes node_token))) begins)

-- the token there is that of the node there
token_at : (nodes : List Node) (at : ℕ) (t : Token) → at < length nodes → slice_get (map node_token nodes) at ≡ Some t → node_token (at_node nodes at) ≡ t
token_at nodes at t h is = Some_inj _ _ (sym (slice_get-node_token nodes at (at_node nodes at) h refl) ∙ is)

pub no_brace_at : (nodes : List Node) (at : ℕ) → at < length nodes → ((a : ℕ) → at_node nodes at ≡ Object a → ⊥) → slice_get (map node_token nodes) at ≡ Some Token.begin_object → ⊥
no_brace_at nodes at h never is = no_brace (at_node nodes at) never (token_at nodes at Token.begin_object h is)

pub no_bracket_at : (nodes : List Node) (at : ℕ) → at < length nodes → ((a : ℕ) → at_node nodes at ≡ Array a → ⊥) → slice_get (map node_token nodes) at ≡ Some Token.begin_array → ⊥
no_bracket_at nodes at h never is = no_bracket (at_node nodes at) never (token_at nodes at Token.begin_array h is)

pub no_value_closed : (nodes : List Node) (at : ℕ) (j : Json) → at < length nodes → at_node nodes at ≡ EndArray → BeginsWith (tokens_from nodes at) j → ⊥
no_value_closed nodes at j h is begins = no_value_closes (tokens_from nodes (at + 1)) j (subst (λ ts. BeginsWith ts j) (first_token nodes at EndArray h is) begins)

-- ---- where a cursor begins

pub object_opens : (nodes : List Node) (at end : ℕ) (j : Json) → at < length nodes → at_node nodes at ≡ Object end → BeginsWith (tokens_from nodes at) j → (ms : Members) × (j ≡ object ms) × InMembers (tokens_from nodes (at + 1)) ms
object_opens nodes at end j h is begins = brace_told (tokens_from nodes (at + 1)) j (subst (λ ts. BeginsWith ts j) (first_token nodes at (Object end) h is) begins)

pub no_object_opens : (nodes : List Node) (at : ℕ) (j : Json) → at < length nodes → ((a : ℕ) → at_node nodes at ≡ Object a → ⊥) → BeginsWith (tokens_from nodes at) j → as_object j ≡ None
no_object_opens nodes at j h never begins =
    no_brace_told (node_token (at_node nodes at)) (tokens_from nodes (at + 1)) j (no_brace (at_node nodes at) never) (subst (λ ts. BeginsWith ts j) (drop-node_token nodes at (Object 0) h) begins)

pub list_opens : (nodes : List Node) (at end : ℕ) (j : Json) → at < length nodes → at_node nodes at ≡ Array end → BeginsWith (tokens_from nodes at) j → (js : Items) × (j ≡ array js) × InItems (tokens_from nodes (at + 1)) js
list_opens nodes at end j h is begins = bracket_told (tokens_from nodes (at + 1)) j (subst (λ ts. BeginsWith ts j) (first_token nodes at (Array end) h is) begins)

pub no_list_opens : (nodes : List Node) (at : ℕ) (j : Json) → at < length nodes → ((a : ℕ) → at_node nodes at ≡ Array a → ⊥) → BeginsWith (tokens_from nodes at) j → as_array j ≡ None
no_list_opens nodes at j h never begins =
    no_bracket_told (node_token (at_node nodes at)) (tokens_from nodes (at + 1)) j (no_bracket (at_node nodes at) never) (subst (λ ts. BeginsWith ts j) (drop-node_token nodes at (Object 0) h) begins)

-- ---- elements

no_close : (n : Node) (ts : List Token) → (n ≡ EndArray → ⊥) → after_end_array (node_token n ∷ ts) ≡ None
no_close (Object a) ts never = refl
no_close EndObject ts never = refl
no_close (Array a) ts never = refl
no_close EndArray ts never = absurd (never refl)
no_close (Key s) ts never = refl
no_close (String s) ts never = refl
no_close (Number s) ts never = refl
no_close (Bool b) ts never = refl
no_close Null ts never = refl

pub item_next : (nodes : List Node) (at behind : ℕ) → at < length nodes → (at_node nodes at ≡ EndArray → ⊥) → LeadsBehind nodes at behind → NextItem (tokens_from nodes at) (Some (tokens_from nodes at)) (tokens_from nodes behind)
item_next nodes at behind h other leads js given =
    let going = ap after_end_array (drop-node_token nodes at (Object 0) h) ∙ no_close (at_node nodes at) _ other in
    let f = items_go_on (tokens_from nodes at) js going given in
    (f.1, f.3, f.5, (f.0, f.2, f.4), subst (λ ts. InItems ts f.3) (leads f.0 f.1 f.2 f.4) f.6)

pub items_past : (nodes : List Node) (at : ℕ) → length nodes ≤ at → NextItem (tokens_from nodes at) None (tokens_from nodes at)
items_past nodes at h js given = absurd (items_need_tokens js (subst (λ ts. InItems ts js) (drop_all at (map node_token nodes) (omega (arith, length-map nodes node_token))) given))

pub items_closed : (nodes : List Node) (at : ℕ) → at < length nodes → at_node nodes at ≡ EndArray → NextItem (tokens_from nodes at) None (tokens_from nodes at)
items_closed nodes at h is js given = items_close (tokens_from nodes (at + 1)) js (subst (λ ts. InItems ts js) (first_token nodes at EndArray h is) given)

-- ---- members

no_name : (n : Node) → ((s : Bor (List ℕ)) → n ≡ Key s → ⊥) → IsKey (node_token n) → ⊥
no_name (Object a) never h = h
no_name EndObject never h = h
no_name (Array a) never h = h
no_name EndArray never h = h
no_name (Key s) never h = never s refl
no_name (String s) never h = h
no_name (Number s) never h = h
no_name (Bool b) never h = h
no_name Null never h = h

pub no_member_at : (nodes : List Node) (at : ℕ) → at < length nodes → ((s : Bor (List ℕ)) → at_node nodes at ≡ Key s → ⊥) → NoMemberAt (map node_token nodes) at
no_member_at nodes at h never name is has = no_name (at_node nodes at) never (subst IsKey (sym (token_at nodes at (Token.key name) h is)) tt)

pub member_next : (nodes : List Node) (at behind : ℕ) (name : Bor (List ℕ)) → at < length nodes → at_node nodes at ≡ Key name → LeadsBehind nodes (at + 1) behind → NextMember (tokens_from nodes at) (Some (name.now, tokens_from nodes (at + 1))) (tokens_from nodes behind)
member_next nodes at behind name h is leads ms given =
    let f = members_go_on name.now (tokens_from nodes (at + 1)) ms (subst (λ ts. InMembers ts ms) (first_token nodes at (Key name) h is) given) in
    (f.1, f.3, f.5, (f.0, f.2, f.4), subst (λ ts. InMembers ts f.3) (leads f.0 f.1 f.2 f.4) f.6)

pub members_past : (nodes : List Node) (at : ℕ) → length nodes ≤ at + 1 → NextMember (tokens_from nodes at) None (tokens_from nodes at)
members_past nodes at h ms given = members_short (tokens_from nodes at) ms (omega (arith, length-drop at (map node_token nodes), length-map nodes node_token)) given

pub members_closed : (nodes : List Node) (at : ℕ) → at < length nodes → ((s : Bor (List ℕ)) → at_node nodes at ≡ Key s → ⊥) → NextMember (tokens_from nodes at) None (tokens_from nodes at)
members_closed nodes at h never ms given =
    members_close (node_token (at_node nodes at)) (tokens_from nodes (at + 1)) ms (no_name (at_node nodes at) never) (subst (λ ts. InMembers ts ms) (drop-node_token nodes at (Object 0) h) given)

-- ---- strings

prefix_len-map : (p : Token → common.Bool) (nodes : List Node) → prefix_len p (map node_token nodes) ≡ prefix_len (λ n. p (node_token n)) nodes
prefix_len-map p [] = refl
prefix_len-map p (n ∷ nodes) = ap (λ k. cond (p (node_token n)) (1 + k) 0) (prefix_len-map p nodes)

position-map : (p : Token → common.Bool) (nodes : List Node) → position p (map node_token nodes) ≡ position (λ n. p (node_token n)) nodes
position-map p nodes = ap₂ (λ k len. cond (nat_lt k len) (Some k) None) (prefix_len-map (λ t. not (p t)) nodes) (length-map nodes node_token)

-- a value takes up the tokens of the nodes from the one number to the other
taken_up : (nodes : List Node) (start behind : ℕ) (taken rest : List Token) → start ≤ behind → rest ≡ tokens_from nodes behind → tokens_from nodes start ≡ taken ++ rest → taken ≡ map node_token (take (behind - start) (drop start nodes))
taken_up nodes start behind taken rest h is whole =
    let tokens = map node_token nodes in
    let count = behind - start in
    let there : start + count ≡ behind = omega arith in
    let last = drop-drop count start tokens ∙ ap (λ k. drop k tokens) there ∙ sym is in
    let both = sym whole ∙ sym (take-append-drop count (drop start tokens)) ∙ ap (λ ts. take count (drop start tokens) ++ ts) last in
    append_cancel_right taken (take count (drop start tokens)) rest both ∙ ap (take count) (drop-map node_token start nodes) ∙ take-map node_token count (drop start nodes)

-- so a string is found among them where it is among the value's tokens
pub position_taken : (p : Token → common.Bool) (nodes : List Node) (start behind : ℕ) (taken rest : List Token) → start ≤ behind → rest ≡ tokens_from nodes behind → tokens_from nodes start ≡ taken ++ rest
    → position (λ n. p (node_token n)) (take (behind - start) (drop start nodes)) ≡ position p taken
position_taken p nodes start behind taken rest h is whole = sym (position-map p (take (behind - start) (drop start nodes))) ∙ ap (position p) (sym (taken_up nodes start behind taken rest h is whole))
