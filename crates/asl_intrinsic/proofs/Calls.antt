-- Calls that are cut off a text.
use Rattle.std.proofs.Common.{◌≡◌, ◌==◌, ◌&&◌, not, ℕ, zero, suc, List, [], ◌∷◌, ◌++◌, length, take, drop, Bool, true, false, cond, is_some, Option, Some, None, option_map, option_and_then, Result, Ok, Err, Bor, IsUtf8, codes, refl, sym, ap, subst, ◌∙◌, arith}
use Rattle.std.proofs.lemmas.Bool.{true≢false}
use Rattle.std.proofs.lemmas.Bool.Decides.{nat_tests}
use Rattle.std.specs.List.{slice_index}
use Rattle.std.specs.Str.Pattern.{FindsTextPrefix, LacksTextAt, StripsPrefix}
use Rattle.asl_model.specs.Intrinsic as model
use Rattle.asl_model.specs.CallSpelling.{Cut, CallFault, Malformed, UnknownFunction, BadPath, WrittenArgument, WrittenArguments, WrittenCall, WrittenAs, WrittenNested, WrittenPath, NoneWritten, AndWritten, after_argument, argument_of, arguments_of, call_from, call_or_bad_path, call_or_fault, cut_argument, cut_arguments, cut_call, cut_negative, cut_parentheses, cut_word, followed_by, function_named, in_function_name, know_functions, knows_functions_in, path_length, whole_call, without_spaces, literal_argument}
use Rattle.asl_model.specs.PathSpelling.{front_length}
use Rattle.asl_model.proofs.CallMeaning.{refusal_exactly}
use Rattle.asl_intrinsic.specs.Cutting.{Cuts}
use Rattle.asl_intrinsic.specs.declared.cutting.CutRefusal.{CutRefusal}
use Rattle.asl_intrinsic.specs.declared.cutting.CutRefusal.TheVariants as refused
use Rattle.asl_intrinsic.specs.declared.cutting.Fault.{Fault}
use Rattle.asl_intrinsic.specs.declared.cutting.Fault.TheVariants as faults
use Rattle.asl_intrinsic.specs.Meaning.{IsRefused, fault_view, refusal_of_cut, refusal_of_fault, and_last, and_meaning, argument_meaning, arguments_meaning, call_meaning, call_on, function_meaning, lesser_fault, or_bad_path}
use Rattle.asl_intrinsic.specs.View.{argument_view, arguments_view}
use Rattle.asl_intrinsic.specs.declared.call.Arg.{Arg}

-- ---- what was cut off

-- a part was cut off
pub cut_off : {A W M : Type 0} (meaning : W → M) (seen : A → M) (cut : Option (W × List ℕ)) (a : A) (rest : Bor (List ℕ)) (w : W) → cut ≡ Some (w, rest.now) → meaning w ≡ seen a → IsUtf8 rest.now → Cuts meaning seen cut (Ok (a, rest))
cut_off meaning seen cut a rest w is means utf8 = record { gives = (w, is, means); fails = λ e. absurd (cc); utf8 = utf8 }

-- there is none
pub not_cut : {A W M : Type 0} (meaning : W → M) (seen : A → M) (cut : Option (W × List ℕ)) → cut ≡ None → Cuts meaning seen cut (Err refused.Malformed)
not_cut meaning seen cut none = record { gives = tt; fails = λ e. none; utf8 = tt }

-- it is refused as a part of it is
pub refused_as : {A W M : Type 0} (meaning : W → M) (seen : A → M) (cut : Option (W × List ℕ)) (r : Result (A × Bor (List ℕ)) CutRefusal) (refusal : CutRefusal) → r ≡ Err refusal → (refusal ≡ refused.Malformed → cut ≡ None) → Cuts meaning seen cut r
refused_as meaning seen cut r refusal is none = subst (λ x. Cuts meaning seen cut x) (sym is) (record { gives = tt; fails = λ e. none (cc); utf8 = tt })

-- a byte in front of the rest
pub behind_byte : (b : ℕ) (s rest : List ℕ) → StripsPrefix (FindsTextPrefix (b ∷ [])) s rest → s ≡ b ∷ rest
behind_byte b s rest cut = cut.1.1 ∙ ap (λ r. b ∷ r) (sym cut.2)

-- ---- arguments together

-- an argument that is pushed stands behind the others
pub pushed : (given new : List Arg) (a : Arg) → new ≡ given ++ a ∷ [] → arguments_view new ≡ and_last (arguments_view given) (argument_view a)
pushed [] new a is = ap arguments_view is
pushed (b ∷ given) new a is = ap arguments_view is ∙ ap (model.AndArgument (argument_view b)) (pushed given (given ++ a ∷ []) a refl)

-- what arguments mean with one more in front
abbrev first_meaning : Result model.Argument CallFault → Result model.Arguments CallFault → Result model.Arguments CallFault
first_meaning (Ok a) (Ok others) = Ok (model.AndArgument a others)
first_meaning (Ok a) (Err fault) = Err fault
first_meaning (Err fault) (Ok others) = Err fault
first_meaning (Err fault) (Err other) = Err (lesser_fault fault other)

-- what arguments mean, by the first and the others
first_means : (item : Bool) (a : WrittenArgument) (others : WrittenArguments) → arguments_meaning item (AndWritten a others) ≡ first_meaning (argument_meaning item a) (arguments_meaning item others)
first_means item a others = go (knows_functions_in a) (know_functions others) (argument_of item a) (arguments_of item others)
  where
    go : (p q : Bool) (x : Option model.Argument) (y : Option model.Arguments) → cond (p && q) (or_bad_path (option_and_then (λ v. option_map (model.AndArgument v) y) x)) (Err UnknownFunction) ≡ first_meaning (cond p (or_bad_path x) (Err UnknownFunction)) (cond q (or_bad_path y) (Err UnknownFunction))
    go true true (Some x) (Some y) = refl
    go true true (Some x) None = refl
    go true true None (Some y) = refl
    go true true None None = refl
    go true false (Some x) y = refl
    go true false None y = refl
    go false true x (Some y) = refl
    go false true x None = refl
    go false false x y = refl

-- of three faults the same counts, however they are grouped
lesser-lesser : (f g h : CallFault) → lesser_fault f (lesser_fault g h) ≡ lesser_fault (lesser_fault f g) h
lesser-lesser Malformed g h = refl
lesser-lesser UnknownFunction Malformed h = refl
lesser-lesser UnknownFunction UnknownFunction Malformed = refl
lesser-lesser UnknownFunction UnknownFunction UnknownFunction = refl
lesser-lesser UnknownFunction UnknownFunction BadPath = refl
lesser-lesser UnknownFunction BadPath h = refl
lesser-lesser BadPath g h = refl

-- it is the same whether the first argument is put to the others before the last one or after it
first_and_last : (x : Result model.Argument CallFault) (others : Result model.Arguments CallFault) (y : Result model.Argument CallFault) → first_meaning x (and_meaning others y) ≡ and_meaning (first_meaning x others) y
first_and_last (Ok x) (Ok others) (Ok y) = refl
first_and_last (Ok x) (Ok others) (Err h) = refl
first_and_last (Ok x) (Err g) (Ok y) = refl
first_and_last (Ok x) (Err g) (Err h) = refl
first_and_last (Err f) (Ok others) (Ok y) = refl
first_and_last (Err f) (Ok others) (Err h) = refl
first_and_last (Err f) (Err g) (Ok y) = refl
first_and_last (Err f) (Err g) (Err h) = ap Err (lesser-lesser f g h)

-- a single argument is the first and the last
alone : (x : Result model.Argument CallFault) → first_meaning x (Ok model.NoArguments) ≡ and_meaning (Ok model.NoArguments) x
alone (Ok x) = refl
alone (Err f) = refl

-- the written arguments in front of further ones
abbrev pub in_front : List WrittenArgument → WrittenArguments → WrittenArguments
in_front [] further = further
in_front (a ∷ front) further = AndWritten a (in_front front further)

-- what arguments mean, by those in front and the last
last_means : (item : Bool) (front : List WrittenArgument) (a : WrittenArgument) → arguments_meaning item (in_front front (AndWritten a NoneWritten)) ≡ and_meaning (arguments_meaning item (in_front front NoneWritten)) (argument_meaning item a)
last_means item [] a = first_means item a NoneWritten ∙ alone (argument_meaning item a)
last_means item (b ∷ front) a =
    first_means item b (in_front front (AndWritten a NoneWritten)) ∙ ap (first_meaning (argument_meaning item b)) (last_means item front a)
    ∙ first_and_last (argument_meaning item b) (arguments_meaning item (in_front front NoneWritten)) (argument_meaning item a)
    ∙ ap (λ m. and_meaning m (argument_meaning item a)) (sym (first_means item b (in_front front NoneWritten)))

-- an argument behind the front may be counted to the front
in_front-last : (front : List WrittenArgument) (a : WrittenArgument) (further : WrittenArguments) → in_front front (AndWritten a further) ≡ in_front (front ++ a ∷ []) further
in_front-last [] a further = refl
in_front-last (b ∷ front) a further = ap (AndWritten b) (in_front-last front a further)

-- ---- calls

-- what a call means, by its name and what its arguments mean
pub call_means : (item : Bool) (name : List ℕ) (arguments : WrittenArguments) → call_meaning item (WrittenAs name arguments) ≡ function_meaning name (arguments_meaning item arguments)
call_means item name arguments = go (function_named name) (know_functions arguments) (arguments_of item arguments)
  where
    go : (f : Option model.Function) (q : Bool) (y : Option model.Arguments) → cond (is_some f && q) (call_or_bad_path (option_and_then (λ g. option_map (model.CallOf g) y) f)) (Err UnknownFunction) ≡ call_on f (cond q (or_bad_path y) (Err UnknownFunction))
    go None q y = refl
    go (Some f) true (Some y) = refl
    go (Some f) true None = refl
    go (Some f) false y = refl

-- ---- arguments, one after the other

-- the same in front of what was cut off
abbrev pub behind_front : List WrittenArgument → WrittenArguments × List ℕ → WrittenArguments × List ℕ
behind_front front c = (in_front front c.0, c.1)

-- the arguments that were cut off so far, those that may follow, and what the former mean
pub record SoFar (item : Bool) (whole left : Cut WrittenArguments) (meaning : Result model.Arguments CallFault) : Type 0 where
  pub front : List WrittenArgument
  pub cut : whole ≡ option_map (behind_front front) left
  pub means : arguments_meaning item (in_front front NoneWritten) ≡ meaning

-- with nothing in front a cut is as it was
unchanged : (c : Cut WrittenArguments) → c ≡ option_map (behind_front []) c
unchanged None = refl
unchanged (Some c) = refl

module _ (nested : List ℕ → Cut WrittenCall) where
  -- what the arguments are, by the first of them and what follows it
  behind_argument : (m : ℕ) (left behind : List ℕ) (w : WrittenArgument) → cut_argument nested (without_spaces left) ≡ Some (w, behind) → cut_arguments nested (suc m) left ≡ after_argument (λ rest. cut_arguments nested m rest) w (without_spaces behind)
  behind_argument m left behind w e = rw e refl

  -- one argument in front of a cut, and the front in front of it, are the front with that argument
  regrouped : (front : List WrittenArgument) (w : WrittenArgument) (c : Cut WrittenArguments) → option_map (behind_front front) (option_map (behind_front (w ∷ [])) c) ≡ option_map (behind_front (front ++ w ∷ [])) c
  regrouped front w None = refl
  regrouped front w (Some c) = ap (λ arguments. Some (arguments, c.1)) (in_front-last front w c.0)

  -- a comma follows the argument
  pub one_more : (item : Bool) (whole : Cut WrittenArguments) (meaning together : Result model.Arguments CallFault) (a : Result model.Argument CallFault) (fuel m : ℕ) (left behind further : List ℕ) (w : WrittenArgument)
      → SoFar item whole (cut_arguments nested fuel left) meaning → fuel ≡ suc m → cut_argument nested (without_spaces left) ≡ Some (w, behind) → without_spaces behind ≡ 44 ∷ further → argument_meaning item w ≡ a → together ≡ and_meaning meaning a
      → SoFar item whole (cut_arguments nested m further) together
  one_more item whole meaning together a fuel m left behind further w so_far is found comma means all = record {
    front = so_far.front ++ w ∷ [];
    cut = so_far.cut ∙ ap (option_map (behind_front so_far.front)) (ap (λ n. cut_arguments nested n left) is ∙ behind_argument m left behind w found ∙ ap (after_argument (λ rest. cut_arguments nested m rest) w) comma)
        ∙ regrouped so_far.front w (cut_arguments nested m further);
    means = ap (arguments_meaning item) (sym (in_front-last so_far.front w NoneWritten)) ∙ last_means item so_far.front w ∙ rw (so_far.means, means) (sym all);
  }

  -- a parenthesis follows it
  pub last_one : (item : Bool) (whole : Cut WrittenArguments) (meaning together : Result model.Arguments CallFault) (a : Result model.Argument CallFault) (fuel m : ℕ) (left behind rest : List ℕ) (w : WrittenArgument)
      → SoFar item whole (cut_arguments nested fuel left) meaning → fuel ≡ suc m → cut_argument nested (without_spaces left) ≡ Some (w, behind) → without_spaces behind ≡ 41 ∷ rest → argument_meaning item w ≡ a → together ≡ and_meaning meaning a
      → (arguments : WrittenArguments) × (whole ≡ Some (arguments, rest)) × (arguments_meaning item arguments ≡ together)
  last_one item whole meaning together a fuel m left behind rest w so_far is found parenthesis means all = (
    in_front so_far.front (AndWritten w NoneWritten),
    so_far.cut ∙ ap (option_map (behind_front so_far.front)) (ap (λ n. cut_arguments nested n left) is ∙ behind_argument m left behind w found ∙ ap (after_argument (λ rest. cut_arguments nested m rest) w) parenthesis),
    last_means item so_far.front w ∙ rw (so_far.means, means) (sym all),
  )

  -- nothing is cut off where neither a parenthesis nor a comma follows the argument
  neither : (further : List ℕ → Cut WrittenArguments) (w : WrittenArgument) (s : List ℕ) → ((rest : List ℕ) → s ≡ 41 ∷ rest → ⊥) → ((rest : List ℕ) → s ≡ 44 ∷ rest → ⊥) → after_argument further w s ≡ None
  neither further w [] no_parenthesis no_comma = refl
  neither further w (x ∷ s) no_parenthesis no_comma = go (x == 41) refl (x == 44) refl
    where
      by_tests : Bool → Bool → Cut WrittenArguments
      by_tests closes goes_on = elim closes [ true ↦ Some (AndWritten w NoneWritten, s) | false ↦ elim goes_on [ true ↦ option_map (behind_front (w ∷ [])) (further s) | false ↦ None ] ]

      go : (p : Bool) → (x == 41) ≡ p → (q : Bool) → (x == 44) ≡ q → after_argument further w (x ∷ s) ≡ None
      go true e q f = let is : x ≡ 41 = grind (arith, nat_tests) in absurd (no_parenthesis s (ap (λ y. y ∷ s) is))
      go false e true f = let is : x ≡ 44 = grind (arith, nat_tests) in absurd (no_comma s (ap (λ y. y ∷ s) is))
      go false e false f = ap (λ b. by_tests b (x == 44)) e ∙ ap (λ b. by_tests false b) f

  -- neither follows it
  pub nothing_follows : (item : Bool) (whole : Cut WrittenArguments) (meaning : Result model.Arguments CallFault) (fuel m : ℕ) (left behind : List ℕ) (w : WrittenArgument)
      → SoFar item whole (cut_arguments nested fuel left) meaning → fuel ≡ suc m → cut_argument nested (without_spaces left) ≡ Some (w, behind) → ((rest : List ℕ) → without_spaces behind ≡ 41 ∷ rest → ⊥) → ((rest : List ℕ) → without_spaces behind ≡ 44 ∷ rest → ⊥) → whole ≡ None
  nothing_follows item whole meaning fuel m left behind w so_far is found no_parenthesis no_comma =
      so_far.cut ∙ ap (option_map (behind_front so_far.front)) (ap (λ n. cut_arguments nested n left) is ∙ behind_argument m left behind w found ∙ neither (λ rest. cut_arguments nested m rest) w (without_spaces behind) no_parenthesis no_comma)

  -- no arguments are cut off where there is no first one
  without_argument : (fuel : ℕ) (left : List ℕ) → cut_argument nested (without_spaces left) ≡ None → cut_arguments nested fuel left ≡ None
  without_argument zero left none = refl
  without_argument (suc m) left none = rw none refl

  -- there is no argument
  pub no_argument : (item : Bool) (whole : Cut WrittenArguments) (meaning : Result model.Arguments CallFault) (fuel : ℕ) (left : List ℕ) → SoFar item whole (cut_arguments nested fuel left) meaning → cut_argument nested (without_spaces left) ≡ None → whole ≡ None
  no_argument item whole meaning fuel left so_far none = so_far.cut ∙ ap (option_map (behind_front so_far.front)) (without_argument fuel left none)

-- ---- one argument

-- a path
pub path_cut : (nested : List ℕ → Cut WrittenCall) (s tail path rest : List ℕ) → s ≡ 36 ∷ tail → path ≡ take (path_length 0 s) s → rest ≡ drop (path_length 0 s) s → cut_argument nested s ≡ Some (WrittenPath path, rest)
path_cut nested s tail path rest is at_path at_rest = rw (at_path, at_rest, is) refl

-- a number behind a minus sign
pub negative_cut : (nested : List ℕ → Cut WrittenCall) (s rest : List ℕ) → s ≡ 45 ∷ rest → cut_argument nested s ≡ cut_negative rest
negative_cut nested s rest is = rw is refl

-- a word that `(` doesn't follow
pub word_cut : (nested : List ℕ → Cut WrittenCall) (s word rest : List ℕ) → word ≡ take (front_length in_function_name s) s → rest ≡ drop (front_length in_function_name s) s → LacksTextAt (codes "(") rest 0 → cut_word nested s ≡ option_map (followed_by rest) (literal_argument word)
word_cut nested s word rest at_word at_rest lacks =
    rw (at_word, at_rest) (go (drop (front_length in_function_name s) s) (rw (sym at_rest) lacks))
  where
    by_test : Bool → Cut WrittenArgument
    by_test opens = elim opens [
      | true ↦ option_map (λ c. followed_by c.1 (WrittenNested c.0)) (nested s)
      | false ↦ option_map (followed_by (drop (front_length in_function_name s) s)) (literal_argument (take (front_length in_function_name s) s))
    ]

    go : (behind : List ℕ) → LacksTextAt (codes "(") behind 0 → by_test (slice_index behind 0 == 40) ≡ by_test false
    go [] lacks = refl
    go (x ∷ behind) lacks = byte (x == 40) refl
      where
        byte : (b : Bool) → (x == 40) ≡ b → by_test (x == 40) ≡ by_test false
        byte true e = let is : x ≡ 40 = grind (arith, nat_tests) in absurd (lacks behind (ap (λ y. y ∷ behind) is))
        byte false e = ap by_test e

-- ---- one call

-- what stands behind the first byte of a rest
drop_next : (k b : ℕ) (s rest : List ℕ) → drop k s ≡ b ∷ rest → drop (suc k) s ≡ rest
drop_next zero b [] rest is = absurd (cc)
drop_next zero b (x ∷ s) rest is = ap (drop 1) is
drop_next (suc k) b [] rest is = absurd (cc)
drop_next (suc k) b (x ∷ s) rest is = drop_next k b s rest is

-- the call of that name
abbrev pub call_written : List ℕ → WrittenArguments × List ℕ → WrittenCall × List ℕ
call_written name c = (WrittenAs name c.0, c.1)

-- a name that `(` follows
pub call_cut : (depth deeper : ℕ) (s name behind inside spaced : List ℕ) → depth ≡ suc deeper → name ≡ take (front_length in_function_name s) s → behind ≡ drop (front_length in_function_name s) s → (length name == 0) ≡ false → behind ≡ 40 ∷ inside → spaced ≡ without_spaces inside
    → cut_call depth s ≡ option_map (call_written name) (cut_parentheses (λ rest. cut_call deeper rest) spaced)
call_cut depth deeper s name behind inside spaced one_more at_name at_behind named opens at_spaced =
    ap (λ d. cut_call d s) one_more ∙ go (front_length in_function_name s) at_name (sym at_behind ∙ opens)
    ∙ ap (λ text. option_map (call_written name) (cut_parentheses (λ rest. cut_call deeper rest) text)) (sym at_spaced)
  where
    by_test : Bool → List ℕ → List ℕ → Cut WrittenCall
    by_test opens n rest = elim opens [
      | true ↦ option_map (λ c. (WrittenAs n c.0, c.1)) (cut_parentheses (λ r. cut_call deeper r) (without_spaces rest))
      | false ↦ None
    ]

    go : (k : ℕ) → name ≡ take k s → drop k s ≡ 40 ∷ inside → by_test (not (k == 0) && slice_index (drop k s) 0 == 40) (take k s) (drop (suc k) s) ≡ by_test true name inside
    go zero is at_rest = absurd (true≢false (ap (λ n. length n == 0) (sym is) ∙ named))
    go (suc k) is at_rest =
        let some : (suc k == 0) ≡ false = grind (arith, nat_tests) in
        ap (λ b. by_test (not b && slice_index (drop (suc k) s) 0 == 40) (take (suc k) s) (drop (suc (suc k)) s)) some ∙ ap (λ r. by_test (slice_index r 0 == 40) (take (suc k) s) (drop (suc (suc k)) s)) at_rest
        ∙ ap (λ n. by_test true n (drop (suc (suc k)) s)) (sym is) ∙ ap (by_test true name) (drop_next (suc k) 40 s inside at_rest)

-- ---- the whole text

-- a call that nothing follows
pub whole_text : (item : Bool) (text rest : List ℕ) (w : WrittenCall) → cut_call 32 text ≡ Some (w, rest) → (length rest == 0) ≡ true → call_from item text ≡ call_meaning item w
whole_text item text rest w is none = ap (λ c. call_or_fault item (option_and_then whole_call c)) is ∙ ap (λ (b : Bool). call_or_fault item (cond b (Some w) None)) none

-- one that something follows
pub more_text : (item : Bool) (text rest : List ℕ) (w : WrittenCall) → cut_call 32 text ≡ Some (w, rest) → (length rest == 0) ≡ false → call_from item text ≡ Err Malformed
more_text item text rest w is some = ap (λ c. call_or_fault item (option_and_then whole_call c)) is ∙ ap (λ (b : Bool). call_or_fault item (cond b (Some w) None)) some

-- the refusal of a text that is cut as none
pub cut_refused : (item : Bool) (text : List ℕ) (refusal : CutRefusal) → (refusal ≡ refused.Malformed → cut_call 32 text ≡ None) → IsRefused item text (refusal_of_cut refusal)
cut_refused item text refused.Malformed none = (refusal_exactly item text Malformed).0 (ap (λ c. call_or_fault item (option_and_then whole_call c)) (none refl))
cut_refused item text refused.OutOfMemory none = tt

-- that of a text in which something is wrong
pub fault_refused : (item : Bool) (text : List ℕ) (fault : Fault) → call_from item text ≡ Err (fault_view fault) → IsRefused item text (refusal_of_fault fault)
fault_refused item text faults.UnknownFunction is = (refusal_exactly item text UnknownFunction).0 is
fault_refused item text faults.BadPath is = (refusal_exactly item text BadPath).0 is
