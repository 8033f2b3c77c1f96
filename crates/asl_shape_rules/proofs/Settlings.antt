-- What rules ask, one after another, and the answers that are kept of it.
use Rattle.std.proofs.Common.{◌≡◌, ◌≤◌, ℕ, List, [], ◌∷◌, ◌++◌, length, map, take, Contains, Bool, true, false, ◌&&◌, Option, Some, None, IsTrue, ◌⊎◌, inl, inr, string_bytes, bytes_eq, refl, sym, ap, ◌∙◌, subst}
use Rattle.std.proofs.lemmas.Bool.{and_parts, and_from}
use Rattle.std.proofs.lemmas.List.{append-nil, map-append, take_all}
use Rattle.std.proofs.lemmas.List.Elements.{Contains-append_left, Contains-append_right, Contains-append_cases}
use Rattle.std.proofs.lemmas.Option.{same_Some}
use Rattle.std.proofs.lemmas.Slice.Eq.{bytes_eq-Decides}
use Rattle.std.specs.List.{AllByRecursion, cons_option}
use Rattle.std.specs.Map.{lookup}
use Rattle.asl_model.proofs.Listed.{none_in, first_in, first_or_later}
use Rattle.asl_model.proofs.SettledRules.{both_ways-asked, one_answer-unsettled, asked-append}
use Rattle.asl_model.specs.Path.{Segment}
use Rattle.asl_model.specs.PathSpelling.{path_of, printed_path}
use Rattle.asl_model.specs.Shape.{Shape}
use Rattle.asl_model.specs.ShapeFlow as model
use Rattle.asl_model.specs.ShapeFlow.{asks, asked, some_asked_both_ways, is_settled}
use Rattle.asl_model.specs.Test.{NullKind, NumericKind, StringKind, BooleanKind}
use Rattle.asl_choice.specs.View.{view as test_view}
use Rattle.asl_states.specs.Machine.{choice_rule_view}
use Rattle.asl_states.specs.declared.states.ChoiceRule.{ChoiceRule}
use Rattle.asl_shape_rules.specs.Settling.{question_at, IsQuestion, IsAsked}
use Rattle.asl_shape_rules.specs.contracts.settling.AsksPartialEq.TheImpl as asks_eq
use Rattle.asl_shape_rules.specs.contracts.settling.QuestionPartialEq.TheImpl as question_eq
use Rattle.asl_shape_rules.specs.declared.settling.Asks.{Asks}
use Rattle.asl_shape_rules.specs.declared.settling.Asks.TheVariants.{Presence, Null, Numeric, Text, Boolean, Truth}
use Rattle.asl_shape_rules.specs.declared.settling.Question.{Question}

-- ---- questions

-- the test of two questions, and of what they ask
abbrev pub same : Question → Question → Bool
same = question_eq.ghosts.eq

abbrev same_asks : Asks → Asks → Bool
same_asks = asks_eq.ghosts.eq

asks-itself : (a : Asks) → same_asks a a ≡ true
asks-itself Presence = refl
asks-itself Null = refl
asks-itself Numeric = refl
asks-itself Text = refl
asks-itself Boolean = refl
asks-itself Truth = refl

asks-same : (a b : Asks) → same_asks a b ≡ true → a ≡ b
asks-same Presence Presence e = refl
asks-same Null Null e = refl
asks-same Numeric Numeric e = refl
asks-same Text Text e = refl
asks-same Boolean Boolean e = refl
asks-same Truth Truth e = refl
asks-same a b e = absurd (cc)

-- what a question asks, and of which path
abbrev asks_of : model.Question → Asks
asks_of (model.IsThere path) = Presence
asks_of (model.IsOf NullKind path) = Null
asks_of (model.IsOf NumericKind path) = Numeric
asks_of (model.IsOf StringKind path) = Text
asks_of (model.IsOf BooleanKind path) = Boolean
asks_of (model.IsItTrue path) = Truth

abbrev path_in : model.Question → List Segment
path_in (model.IsThere path) = path
path_in (model.IsOf kind path) = path
path_in (model.IsItTrue path) = path

asks-again : (a : Asks) (path : List Segment) → asks_of (question_at a path) ≡ a
asks-again Presence path = refl
asks-again Null path = refl
asks-again Numeric path = refl
asks-again Text path = refl
asks-again Boolean path = refl
asks-again Truth path = refl

path-again : (a : Asks) (path : List Segment) → path_in (question_at a path) ≡ path
path-again Presence path = refl
path-again Null path = refl
path-again Numeric path = refl
path-again Text path = refl
path-again Boolean path = refl
path-again Truth path = refl

-- ---- answers that are kept

-- whether a kept question asks that of the path with that text
abbrev is_kept : Asks → List ℕ → Question → Bool
is_kept asks text kept = same_asks asks kept.asks && bytes_eq text (string_bytes kept.path)

-- the answer that is kept of a question
abbrev known : List (Question × Bool) → model.Question → Option Bool
known entries one = lookup (is_kept (asks_of one) (printed_path (path_in one))) entries

module _ (one : model.Question) (question : Question) (is : IsQuestion one question) where
  its-asks : question.asks ≡ asks_of one
  its-asks = sym (ap asks_of is.same ∙ asks-again question.asks is.path)

  its-text : string_bytes question.path ≡ printed_path (path_in one)
  its-text = is.printed ∙ sym (ap (λ o. printed_path (path_in o)) is.same ∙ ap printed_path (path-again question.asks is.path))

  known-of : (entries : List (Question × Bool)) → lookup (same question) entries ≡ known entries one
  known-of entries = ap (λ asks. lookup (is_kept asks (string_bytes question.path)) entries) its-asks ∙ ap (λ text. lookup (is_kept (asks_of one) text) entries) its-text

  kept-itself : is_kept (asks_of one) (printed_path (path_in one)) question ≡ true
  kept-itself = and_from _ _ (subst (λ asks. same_asks asks question.asks ≡ true) its-asks (asks-itself question.asks)) ((bytes_eq-Decides (printed_path (path_in one)) (string_bytes question.path)).1 (sym its-text))

-- equal questions are of one path and ask the same
same-one : (one other : model.Question) (question kept : Question) → IsQuestion one question → IsQuestion other kept → same question kept ≡ true → other ≡ one
same-one one other question kept is are e =
    let both = and_parts _ _ e in
    let asks : question.asks ≡ kept.asks = asks-same question.asks kept.asks both.0 in
    let text : string_bytes question.path ≡ string_bytes kept.path = (bytes_eq-Decides (string_bytes question.path) (string_bytes kept.path)).0 both.1 in
    let path : are.path ≡ is.path = same_Some are.path is.path (sym are.read_back ∙ ap path_of (sym text) ∙ is.read_back) in
    are.same ∙ ap (λ a. question_at a are.path) (sym asks) ∙ ap (question_at question.asks) path ∙ sym is.same

-- the answer of a kept question is one that it is asked for
abbrev IsAskedFor : List (model.Question × Bool) → Question × Bool → Type 0
IsAskedFor questions entry = (one : model.Question) × IsQuestion one entry.0 × Contains questions (one, entry.1)

-- each question that is asked has one answer, which is kept, and each that is kept is asked
pub record AreKept (questions : List (model.Question × Bool)) (entries : List (Question × Bool)) : Type 0 where
  pub known : (one : model.Question × Bool) → Contains questions one → known entries one.0 ≡ Some one.1
  pub each : AllByRecursion (IsAskedFor questions) entries

-- none so far
pub none_kept : AreKept [] []
none_kept = record { known = λ one c. none_in one c; each = tt }

each-wider : (questions more : List (model.Question × Bool)) (entries : List (Question × Bool)) → AllByRecursion (IsAskedFor questions) entries → AllByRecursion (IsAskedFor (questions ++ more)) entries
each-wider questions more [] h = tt
each-wider questions more (e ∷ entries) h = ((h.0.0, h.0.1, Contains-append_left questions more (h.0.0, e.1) h.0.2), each-wider questions more entries h.1)

each-last : (P : Question × Bool → Type 0) (entries : List (Question × Bool)) (e : Question × Bool) → AllByRecursion P entries → P e → AllByRecursion P (entries ++ e ∷ [])
each-last P [] e h last = (last, tt)
each-last P (first ∷ entries) e h last = (h.0, each-last P entries e h.1 last)

lookup-front : (test : Question → Bool) (entries more : List (Question × Bool)) (answer : Bool) → lookup test entries ≡ Some answer → lookup test (entries ++ more) ≡ Some answer
lookup-front test [] more answer found = absurd (cc)
lookup-front test (e ∷ entries) more answer found = go (test e.0) refl (lookup-front test entries more answer)
  where
    go : (here : Bool) → test e.0 ≡ here → (lookup test entries ≡ Some answer → lookup test (entries ++ more) ≡ Some answer) → lookup test ((e ∷ entries) ++ more) ≡ Some answer
    go true is below = rw is (rw is at found)
    go false is below = rw is (below (rw is at found))

lookup-last : (test : Question → Bool) (entries : List (Question × Bool)) (question : Question) (answer : Bool) → lookup test entries ≡ None → test question ≡ true → lookup test (entries ++ (question, answer) ∷ []) ≡ Some answer
lookup-last test [] question answer none here = rw here refl
lookup-last test (e ∷ entries) question answer none here = go (test e.0) refl (lookup-last test entries question answer)
  where
    go : (first : Bool) → test e.0 ≡ first → (lookup test entries ≡ None → test question ≡ true → lookup test (entries ++ (question, answer) ∷ []) ≡ Some answer) → lookup test ((e ∷ entries) ++ (question, answer) ∷ []) ≡ Some answer
    go true is below = absurd (cc (rw is at none))
    go false is below = rw is (below (rw is at none) here)

each-found : (P : Question × Bool → Type 0) (test : Question → Bool) (entries : List (Question × Bool)) (answer : Bool) → AllByRecursion P entries → lookup test entries ≡ Some answer → (kept : Question) × (test kept ≡ true) × P (kept, answer)
each-found P test [] answer h found = absurd (cc)
each-found P test (e ∷ entries) answer h found = go (test e.0) refl (each-found P test entries answer h.1)
  where
    go : (here : Bool) → test e.0 ≡ here → (lookup test entries ≡ Some answer → (kept : Question) × (test kept ≡ true) × P (kept, answer)) → (kept : Question) × (test kept ≡ true) × P (kept, answer)
    go true is below =
        let own : e.1 ≡ answer = same_Some e.1 answer (rw is at found) in
        (e.0, is, subst (λ b. P (e.0, b)) own h.0)
    go false is below = below (rw is at found)

module _ (questions : List (model.Question × Bool)) (entries : List (Question × Bool)) (so_far : AreKept questions entries) (one : model.Question) (wanted : Bool) (question : Question) (is : IsQuestion one question) where
  known-more : (now : List (Question × Bool)) → ((other : model.Question) (answer : Bool) → known entries other ≡ Some answer → known now other ≡ Some answer) → known now one ≡ Some wanted
      → (other : model.Question × Bool) → Contains (questions ++ (one, wanted) ∷ []) other → known now other.0 ≡ Some other.1
  known-more now stays own other c = go (Contains-append_cases questions ((one, wanted) ∷ []) other c)
    where
      last : ((one, wanted) ≡ other) ⊎ Contains [] other → known now other.0 ≡ Some other.1
      last (inl e) = subst (λ (q : model.Question × Bool). known now q.0 ≡ Some q.1) e own
      last (inr d) = none_in other d

      go : Contains questions other ⊎ Contains ((one, wanted) ∷ []) other → known now other.0 ≡ Some other.1
      go (inl d) = stays other.0 other.1 (so_far.known other d)
      go (inr d) = last (first_or_later (one, wanted) other [] d)

  -- one that is asked again for the answer that is kept
  kept-again : lookup (same question) entries ≡ Some wanted → AreKept (questions ++ (one, wanted) ∷ []) entries
  kept-again found = record {
    known = known-more entries (λ other answer e. e) (sym (known-of one question is entries) ∙ found);
    each = each-wider questions ((one, wanted) ∷ []) entries so_far.each;
  }

  -- one that is asked for the first time
  kept-first : lookup (same question) entries ≡ None → AreKept (questions ++ (one, wanted) ∷ []) (entries ++ (question, wanted) ∷ [])
  kept-first none = record {
    known = known-more (entries ++ (question, wanted) ∷ []) (λ other answer e. lookup-front (is_kept (asks_of other) (printed_path (path_in other))) entries ((question, wanted) ∷ []) answer e) (lookup-last (is_kept (asks_of one) (printed_path (path_in one))) entries question wanted (sym (known-of one question is entries) ∙ none) (kept-itself one question is));
    each = each-last (IsAskedFor (questions ++ (one, wanted) ∷ [])) entries (question, wanted) (each-wider questions ((one, wanted) ∷ []) entries so_far.each) (one, is, Contains-append_right questions ((one, wanted) ∷ []) (one, wanted) (first_in (one, wanted) []));
  }

  -- one whose other answer is kept is asked for that, too
  asked-before : (answer : Bool) → lookup (same question) entries ≡ Some answer → Contains questions (one, answer)
  asked-before answer found =
      let kept = each-found (IsAskedFor questions) (same question) entries answer so_far.each found in
      let other = kept.2 in
      subst (λ q. Contains questions (q, answer)) (same-one one other.0 question kept.0 is other.1 kept.1) other.2

-- ---- a rule behind others

-- two answers that are apart are both
asked-apart : (whole : List (model.Question × Bool)) (one : model.Question) (answer wanted : Bool) → (answer ≡ wanted → ⊥) → Contains whole (one, answer) → Contains whole (one, wanted) → IsTrue (some_asked_both_ways whole)
asked-apart whole one true true apart c d = absurd (apart refl)
asked-apart whole one true false apart c d = both_ways-asked one whole c d
asked-apart whole one false true apart c d = both_ways-asked one whole d c
asked-apart whole one false false apart c d = absurd (apart refl)

-- what rules ask, in order
abbrev pub asked_by : List ChoiceRule → Shape → List (model.Question × Bool)
asked_by choices s = asked (map choice_rule_view choices) s

module _ (s : Shape) (before after : List ChoiceRule) (choice : ChoiceRule) (entries : List (Question × Bool)) (more : after ≡ before ++ choice ∷ []) (so_far : AreKept (asked_by before s) entries) where
  asked-more : asked_by after s ≡ asked_by before s ++ cons_option (asks s (test_view choice.test)) []
  asked-more = ap (λ cs. asked_by cs s) more ∙ ap (λ rules. asked rules s) (map-append choice_rule_view before (choice ∷ [])) ∙ asked-append (map choice_rule_view before) (choice_rule_view choice ∷ []) s

  -- one that asks nothing
  pub nothing_more : (told : Option (Question × Bool)) → IsAsked (asks s (test_view choice.test)) told → told ≡ None → AreKept (asked_by after s) entries
  nothing_more told is none = go (asks s (test_view choice.test)) refl (rw none at is)
    where
      go : (own : Option (model.Question × Bool)) → asks s (test_view choice.test) ≡ own → IsAsked own None → AreKept (asked_by after s) entries
      go None at h = rw (asked-more, at, append-nil (asked_by before s)) so_far
      go (Some one) at h = absurd h

  -- what is shown of one that asks something
  asked-one : (P : List (model.Question × Bool) → Type 0) (told : Option (Question × Bool)) (question : Question) (wanted : Bool) → IsAsked (asks s (test_view choice.test)) told → told ≡ Some (question, wanted)
      → ((one : model.Question) → IsQuestion one question → P (asked_by before s ++ (one, wanted) ∷ [])) → P (asked_by after s)
  asked-one P told question wanted is there shows = go (asks s (test_view choice.test)) refl (rw there at is)
    where
      go : (own : Option (model.Question × Bool)) → asks s (test_view choice.test) ≡ own → IsAsked own (Some (question, wanted)) → P (asked_by after s)
      go None at h = absurd h
      go (Some one) at h =
          let whole : asked_by after s ≡ asked_by before s ++ (one.0, wanted) ∷ [] = asked-more ∙ rw (at, ← h.1) refl in
          subst P (sym whole) (shows one.0 h.0)

  module _ (told : Option (Question × Bool)) (question : Question) (wanted : Bool) (is : IsAsked (asks s (test_view choice.test)) told) (there : told ≡ Some (question, wanted)) where
    pub again_kept : lookup (same question) entries ≡ Some wanted → AreKept (asked_by after s) entries
    again_kept found = asked-one (λ all. AreKept all entries) told question wanted is there (λ one h. kept-again (asked_by before s) entries so_far one wanted question h found)

    pub first_kept : (now : List (Question × Bool)) → lookup (same question) entries ≡ None → now ≡ entries ++ (question, wanted) ∷ [] → AreKept (asked_by after s) now
    first_kept now none inserted = asked-one (λ all. AreKept all now) told question wanted is there (λ one h. rw inserted (kept-first (asked_by before s) entries so_far one wanted question h none))

    -- one whose other answer is kept settles the rules
    pub otherwise_settled : (choices further : List ChoiceRule) (answer : Bool) → choices ≡ after ++ further → lookup (same question) entries ≡ Some answer → (answer ≡ wanted → ⊥) → true ≡ is_settled (map choice_rule_view choices) s
    otherwise_settled choices further answer whole found apart =
        let here : IsTrue (some_asked_both_ways (asked_by after s ++ asked_by further s)) =
        asked-one (λ all. IsTrue (some_asked_both_ways (all ++ asked_by further s))) told question wanted is there (λ one h.
        asked-apart _ one answer wanted apart
        (Contains-append_left (asked_by before s ++ (one, wanted) ∷ []) (asked_by further s) (one, answer) (Contains-append_left (asked_by before s) ((one, wanted) ∷ []) (one, answer) (asked-before (asked_by before s) entries so_far one wanted question h answer found)))
        (Contains-append_left (asked_by before s ++ (one, wanted) ∷ []) (asked_by further s) (one, wanted) (Contains-append_right (asked_by before s) ((one, wanted) ∷ []) (one, wanted) (first_in (one, wanted) [])))) in
        let split : asked_by choices s ≡ asked_by after s ++ asked_by further s =
        ap (λ cs. asked_by cs s) whole ∙ ap (λ rules. asked rules s) (map-append choice_rule_view after further) ∙ asked-append (map choice_rule_view after) (map choice_rule_view further) s in
        sym (subst (λ all. IsTrue (some_asked_both_ways all)) (sym split) here)

-- where no question has two answers, nothing is settled
pub unsettled : (s : Shape) (choices : List ChoiceRule) (i : ℕ) (entries : List (Question × Bool)) → length choices ≤ i → AreKept (asked_by (take i choices) s) entries → false ≡ is_settled (map choice_rule_view choices) s
unsettled s choices i entries end kept =
    let all : AreKept (asked_by choices s) entries = subst (λ cs. AreKept (asked_by cs s) entries) (take_all i choices end) kept in
    sym (one_answer-unsettled (asked_by choices s) (known entries) (λ one answer c. all.known (one, answer) c))
