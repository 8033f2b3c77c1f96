-- What a written call means, and how a text is refused arguments a call, are exactly what is read.
use Rattle.std.proofs.Common.{◌≡◌, ◌↔◌, ◌⊎◌, inl, inr, ℕ, List, [], ◌∷◌, ◌++◌, length, Bool, true, false, is_some, IsTrue, if◌then◌else◌, Option, Some, None, option_map, option_and_then, Ok, Err, bytes_eq, codes, refl, sym, ap, subst, ◌∙◌, eq-eqb, arith}
use Rattle.std.proofs.lemmas.Bool.{and_parts, and_from, and_cases, and_left, and_right, false≢true, true≢false}
use Rattle.std.proofs.lemmas.Option.{none-some, same_Some}
use Rattle.std.proofs.lemmas.Slice.Eq.{bytes_eq-Decides}
use Rattle.asl_model.specs.Path.{Segment}
use Rattle.asl_model.specs.Intrinsic.{Reference, InInput, ItemIndex, InItem, Function, StatesArray, StatesArrayLength, StatesFormat, Call, CallOf, Argument, NullArgument, BooleanArgument, IntegerArgument, TextArgument, PathArgument, CallArgument, Arguments, NoArguments, AndArgument}
use Rattle.asl_model.specs.PathSpelling.{after, Begins, Spells, segments_of, path_of}
use Rattle.asl_model.specs.CallSpelling.{behind, context_of, is_context, reference_of, WrittenCall, WrittenAs, WrittenArgument, WrittenNull, WrittenBoolean, WrittenInteger, WrittenText, WrittenPath, WrittenNested, WrittenArguments, NoneWritten, AndWritten, written_call, function_named, knows_functions, knows_functions_in, know_functions, call_of, argument_of, arguments_of, CallFault, Malformed, UnknownFunction, BadPath, call_or_bad_path, call_or_fault, call_from}
use Rattle.asl_model.specs.CallGrammar.{WritesCall, NamesFunction, names_array, names_array_length, names_format, SpellsReference, spells_in_input, spells_item_index, spells_in_item, MeansCall, means_call, MeansArgument, means_null, means_boolean, means_integer, means_text, means_path, means_nested, MeansArguments, means_none, means_further, SpellsCall, HasUnknownFunction, own_is_unknown, one_inside_is_unknown, HaveUnknownFunction, unknown_in_this, unknown_in_later, HasBadPath, one_inside_is_bad, HaveBadPath, this_is_bad, bad_in_this, bad_in_later, IsRefusedCall, is_malformed, has_unknown_function, has_bad_path}
use Rattle.asl_model.proofs.RunOptions.{same_ok, same_err, ok_or_err}
use Rattle.asl_model.proofs.ReadingSteps.{then_from, map_from}
use Rattle.asl_model.proofs.PathReading.{after_is, segments_begin, begun_read, path_of-Spells, Spells-path_of}
use Rattle.asl_model.proofs.CallReading.{written_exactly}

-- ---- paths in templates

-- what stands behind a front
pub behind_is : (front text rest : List ℕ) → behind front text ≡ Some rest → text ≡ front ++ rest
behind_is [] text rest h = same_Some text rest h
behind_is (b ∷ front) text rest h =
    let o = then_from (behind front) (after b text) rest h in
    after_is b text o.0 o.1 ∙ ap (λ t. b ∷ t) (behind_is front o.0 rest o.2)

pub behind_found : (front rest : List ℕ) → behind front (front ++ rest) ≡ Some rest
behind_found [] rest = refl
behind_found (b ∷ front) rest = ap (λ t. option_and_then (behind front) (if t then Some (front ++ rest) else None)) (eq-eqb b b refl) ∙ behind_found front rest

pub behind_none : (front text : List ℕ) → ((rest : List ℕ) → text ≡ front ++ rest → ⊥) → behind front text ≡ None
behind_none front text none = go (behind front text) refl
  where
    go : (o : Option (List ℕ)) → behind front text ≡ o → o ≡ None
    go None e = refl
    go (Some rest) e = absurd (none rest (behind_is front text rest e))

-- a path into the input doesn't begin arguments a context path does
not_context : (text : List ℕ) (p : List Segment) → Spells text p → is_context text ≡ false
not_context text p s = go (behind (codes "$$") text) refl
  where
    none : (q : List Segment) (rest : List ℕ) → Begins q (36 ∷ rest) [] → ⊥
    none [] rest b = absurd (cc)
    none (x ∷ q) rest b = none-some (x, b.0) b.1

    tail : {a b : ℕ} {s t : List ℕ} → a ∷ s ≡ b ∷ t → s ≡ t
    tail e = cc

    go : (o : Option (List ℕ)) → behind (codes "$$") text ≡ o → is_some o ≡ false
    go None e = refl
    go (Some rest) e = absurd (none p rest (subst (λ t. Begins p t []) (tail (sym s.dollar ∙ behind_is (codes "$$") text rest e)) s.all))

-- a path that is spelled is read
reference_spelled : {item : Bool} {text : List ℕ} {r : Reference} → SpellsReference item text r → reference_of item text ≡ Some r
reference_spelled {item} (spells_in_input {text = text} {p = p} s) =
    ap (λ t. if t then (if item then context_of text else None) else option_map InInput (path_of text)) (not_context text p s)
    ∙ ap (option_map InInput) (Spells-path_of text p s)
reference_spelled (spells_item_index h) = ap (λ t. if t then context_of (codes "$$.Map.Item.Index") else None) h
reference_spelled (spells_in_item {segments = segments} {p = p} h b) =
    ap (λ t. if t then context_of (codes "$$.Map.Item.Value" ++ segments) else None) h
    ∙ ap (option_map InItem) (begun_read (length segments) p segments b (omega arith))

-- a context path that is read is spelled
context_spelled : (text : List ℕ) (r : Reference) → context_of text ≡ Some r → SpellsReference true text r
context_spelled text r h = go (bytes_eq text (codes "$$.Map.Item.Index")) refl h
  where
    go : (t : Bool) → bytes_eq text (codes "$$.Map.Item.Index") ≡ t → (if t then Some ItemIndex else option_map InItem (option_and_then (λ rest. segments_of (length rest) rest) (behind (codes "$$.Map.Item.Value") text))) ≡ Some r → SpellsReference true text r
    go true e k = subst (SpellsReference true text) (same_Some ItemIndex r k) (subst (λ t. SpellsReference true t ItemIndex) (sym ((bytes_eq-Decides text (codes "$$.Map.Item.Index")).0 e)) (spells_item_index refl))
    go false e k =
        let o = map_from InItem (option_and_then (λ rest. segments_of (length rest) rest) (behind (codes "$$.Map.Item.Value") text)) r k in
        let s = then_from (λ rest. segments_of (length rest) rest) (behind (codes "$$.Map.Item.Value") text) o.0 o.1 in
        subst (SpellsReference true text) o.2 (subst (λ t. SpellsReference true t (InItem o.0)) (sym (behind_is (codes "$$.Map.Item.Value") text s.0 s.1)) (spells_in_item refl (segments_begin (length s.0) s.0 o.0 s.2)))

-- a path that is read is spelled
spelled_reference : (item : Bool) (text : List ℕ) (r : Reference) → reference_of item text ≡ Some r → SpellsReference item text r
spelled_reference item text r h = go (is_context text) h
  where
    within : (t : Bool) → (if t then context_of text else None) ≡ Some r → SpellsReference t text r
    within true k = context_spelled text r k
    within false k = absurd (none-some r k)

    go : (t : Bool) → (if t then (if item then context_of text else None) else option_map InInput (path_of text)) ≡ Some r → SpellsReference item text r
    go true k = within item k
    go false k = let o = map_from InInput (path_of text) r k in subst (SpellsReference item text) o.2 (spells_in_input (path_of-Spells text o.0 o.1))

-- both ways
pub reference_exactly : (item : Bool) (text : List ℕ) (r : Reference) → (reference_of item text ≡ Some r) ↔ SpellsReference item text r
reference_exactly item text r = (spelled_reference item text r, reference_spelled)

-- a path that is refused is none
no_reference : (item : Bool) (text : List ℕ) → reference_of item text ≡ None → (r : Reference) → SpellsReference item text r → ⊥
no_reference item text h r s = none-some r (sym h ∙ reference_spelled s)

-- and a text that spells none is refused
refused_reference : (item : Bool) (text : List ℕ) → ((r : Reference) → SpellsReference item text r → ⊥) → reference_of item text ≡ None
refused_reference item text n = go (reference_of item text) refl
  where
    go : (o : Option Reference) → reference_of item text ≡ o → reference_of item text ≡ None
    go None e = e
    go (Some r) e = absurd (n r (spelled_reference item text r e))

-- ---- functions

-- a function's name is known
function_found : {n : List ℕ} {f : Function} → NamesFunction n f → function_named n ≡ Some f
function_found names_array = refl
function_found names_array_length = refl
function_found names_format = refl

-- a name that is known is a function's
found_function : (n : List ℕ) (f : Function) → function_named n ≡ Some f → NamesFunction n f
found_function n f h = array (bytes_eq n (codes "States.Array")) refl h
  where
    format : (t : Bool) → bytes_eq n (codes "States.Format") ≡ t → (if t then Some StatesFormat else None) ≡ Some f → NamesFunction n f
    format true e k = subst (NamesFunction n) (same_Some StatesFormat f k) (subst (λ m. NamesFunction m StatesFormat) (sym ((bytes_eq-Decides n (codes "States.Format")).0 e)) names_format)
    format false e k = absurd (none-some f k)

    long : (t : Bool) → bytes_eq n (codes "States.ArrayLength") ≡ t → (if t then Some StatesArrayLength else (if bytes_eq n (codes "States.Format") then Some StatesFormat else None)) ≡ Some f → NamesFunction n f
    long true e k = subst (NamesFunction n) (same_Some StatesArrayLength f k) (subst (λ m. NamesFunction m StatesArrayLength) (sym ((bytes_eq-Decides n (codes "States.ArrayLength")).0 e)) names_array_length)
    long false e k = format (bytes_eq n (codes "States.Format")) refl k

    array : (t : Bool) → bytes_eq n (codes "States.Array") ≡ t → (if t then Some StatesArray else (if bytes_eq n (codes "States.ArrayLength") then Some StatesArrayLength else (if bytes_eq n (codes "States.Format") then Some StatesFormat else None))) ≡ Some f → NamesFunction n f
    array true e k = subst (NamesFunction n) (same_Some StatesArray f k) (subst (λ m. NamesFunction m StatesArray) (sym ((bytes_eq-Decides n (codes "States.Array")).0 e)) names_array)
    array false e k = long (bytes_eq n (codes "States.ArrayLength")) refl k

-- ---- meanings

mutual
  -- what a call means is read
  call_meant : {item : Bool} {w : WrittenCall} {c : Call} → MeansCall item w c → call_of item w ≡ Some c
  call_meant {item} (means_call {function = function} {written = written} names means) =
      ap (option_and_then (λ f. option_map (CallOf f) (arguments_of item written))) (function_found names)
      ∙ ap (option_map (CallOf function)) (arguments_meant means)

  -- so is what an argument means
  argument_meant : {item : Bool} {w : WrittenArgument} {a : Argument} → MeansArgument item w a → argument_of item w ≡ Some a
  argument_meant means_null = refl
  argument_meant means_boolean = refl
  argument_meant means_integer = refl
  argument_meant means_text = refl
  argument_meant (means_path spells) = ap (option_map PathArgument) (reference_spelled spells)
  argument_meant (means_nested means) = ap (option_map CallArgument) (call_meant means)

  -- so for the arguments
  arguments_meant : {item : Bool} {w : WrittenArguments} {arguments : Arguments} → MeansArguments item w arguments → arguments_of item w ≡ Some arguments
  arguments_meant means_none = refl
  arguments_meant {item} (means_further {argument = argument} {others = others} means further) =
      ap (option_and_then (λ a. option_map (AndArgument a) (arguments_of item others))) (argument_meant means)
      ∙ ap (option_map (AndArgument argument)) (arguments_meant further)

mutual
  -- what is read is what a call means
  meant_call : (item : Bool) (w : WrittenCall) (c : Call) → call_of item w ≡ Some c → MeansCall item w c
  meant_call item (WrittenAs n written) c h =
      let f = then_from (λ f. option_map (CallOf f) (arguments_of item written)) (function_named n) c h in
      let o = map_from (CallOf f.0) (arguments_of item written) c f.2 in
      subst (MeansCall item (WrittenAs n written)) o.2 (means_call (found_function n f.0 f.1) (meant_arguments item written o.0 o.1))

  -- so for an argument
  meant_argument : (item : Bool) (w : WrittenArgument) (a : Argument) → argument_of item w ≡ Some a → MeansArgument item w a
  meant_argument item WrittenNull a h = subst (MeansArgument item WrittenNull) (same_Some NullArgument a h) means_null
  meant_argument item (WrittenBoolean b) a h = subst (MeansArgument item (WrittenBoolean b)) (same_Some (BooleanArgument b) a h) means_boolean
  meant_argument item (WrittenInteger z) a h = subst (MeansArgument item (WrittenInteger z)) (same_Some (IntegerArgument z) a h) means_integer
  meant_argument item (WrittenText pieces) a h = subst (MeansArgument item (WrittenText pieces)) (same_Some (TextArgument pieces) a h) means_text
  meant_argument item (WrittenPath text) a h = let o = map_from PathArgument (reference_of item text) a h in subst (MeansArgument item (WrittenPath text)) o.2 (means_path (spelled_reference item text o.0 o.1))
  meant_argument item (WrittenNested w) a h = let o = map_from CallArgument (call_of item w) a h in subst (MeansArgument item (WrittenNested w)) o.2 (means_nested (meant_call item w o.0 o.1))

  -- so for the arguments
  meant_arguments : (item : Bool) (w : WrittenArguments) (arguments : Arguments) → arguments_of item w ≡ Some arguments → MeansArguments item w arguments
  meant_arguments item NoneWritten arguments h = subst (MeansArguments item NoneWritten) (same_Some NoArguments arguments h) means_none
  meant_arguments item (AndWritten w others) arguments h =
      let f = then_from (λ a. option_map (AndArgument a) (arguments_of item others)) (argument_of item w) arguments h in
      let o = map_from (AndArgument f.0) (arguments_of item others) arguments f.2 in
      subst (MeansArguments item (AndWritten w others)) o.2 (means_further (meant_argument item w f.0 f.1) (meant_arguments item others o.0 o.1))

-- ---- refusals

-- no function has the name
no_function : (n : List ℕ) → is_some (function_named n) ≡ false → (f : Function) → NamesFunction n f → ⊥
no_function n h f names = true≢false (sym (ap is_some (function_found names)) ∙ h)

-- a name that is no function's isn't known
unnamed : (n : List ℕ) → ((f : Function) → NamesFunction n f → ⊥) → is_some (function_named n) ≡ false
unnamed n none = go (function_named n) refl
  where
    go : (o : Option Function) → function_named n ≡ o → is_some o ≡ false
    go None e = refl
    go (Some f) e = absurd (none f (found_function n f e))

mutual
  -- an unknown function is noticed
  unknown_found : {w : WrittenCall} → HasUnknownFunction w → knows_functions w ≡ false
  unknown_found (own_is_unknown {n = n} {arguments = arguments} none) = and_left (is_some (function_named n)) (know_functions arguments) (unnamed n none)
  unknown_found (one_inside_is_unknown {n = n} {arguments = arguments} h) = and_right (is_some (function_named n)) (know_functions arguments) (unknowns_found h)

  -- so among the arguments
  unknowns_found : {w : WrittenArguments} → HaveUnknownFunction w → know_functions w ≡ false
  unknowns_found (unknown_in_this {c = c} {others = others} h) = and_left (knows_functions c) (know_functions others) (unknown_found h)
  unknowns_found (unknown_in_later {argument = argument} {others = others} h) = and_right (knows_functions_in argument) (know_functions others) (unknowns_found h)

mutual
  -- where one is noticed there is one
  found_unknown : (w : WrittenCall) → knows_functions w ≡ false → HasUnknownFunction w
  found_unknown (WrittenAs n arguments) h = go (and_cases (is_some (function_named n)) (know_functions arguments) h) (found_unknowns arguments)
    where
      go : (is_some (function_named n) ≡ false) ⊎ (know_functions arguments ≡ false) → (know_functions arguments ≡ false → HaveUnknownFunction arguments) → HasUnknownFunction (WrittenAs n arguments)
      go (inl own) inside = own_is_unknown (no_function n own)
      go (inr later) inside = one_inside_is_unknown (inside later)

  -- so among the arguments
  found_unknowns : (w : WrittenArguments) → know_functions w ≡ false → HaveUnknownFunction w
  found_unknowns NoneWritten h = absurd (true≢false h)
  found_unknowns (AndWritten argument others) h = go (and_cases (knows_functions_in argument) (know_functions others) h) (found_unknown_in argument others) (found_unknowns others)
    where
      go : (knows_functions_in argument ≡ false) ⊎ (know_functions others ≡ false) → (knows_functions_in argument ≡ false → HaveUnknownFunction (AndWritten argument others)) → (know_functions others ≡ false → HaveUnknownFunction others) → HaveUnknownFunction (AndWritten argument others)
      go (inl here) this later = this here
      go (inr there) this later = unknown_in_later (later there)

  -- so in the first of them
  found_unknown_in : (w : WrittenArgument) (others : WrittenArguments) → knows_functions_in w ≡ false → HaveUnknownFunction (AndWritten w others)
  found_unknown_in WrittenNull others h = absurd (true≢false h)
  found_unknown_in (WrittenBoolean b) others h = absurd (true≢false h)
  found_unknown_in (WrittenInteger z) others h = absurd (true≢false h)
  found_unknown_in (WrittenText pieces) others h = absurd (true≢false h)
  found_unknown_in (WrittenPath text) others h = absurd (true≢false h)
  found_unknown_in (WrittenNested c) others h = unknown_in_this (found_unknown c h)

-- what comes of an option that holds nothing
map_none : {A B : Type 0} (f : A → B) (o : Option A) → option_map f o ≡ None → o ≡ None
map_none f None h = refl
map_none f (Some a) h = absurd (none-some (f a) (sym h))

-- what goes on from an option to nothing
then_none : {A B : Type 0} (f : A → Option B) (o : Option A) → option_and_then f o ≡ None → (o ≡ None) ⊎ ((a : A) × (o ≡ Some a) × (f a ≡ None))
then_none f None h = inl refl
then_none f (Some a) h = inr (a, refl, h)

-- nothing, whatever stands in front
nothing_then : {A B C : Type 0} (f : A → B → C) (o : Option A) (further : Option B) → further ≡ None → option_and_then (λ a. option_map (f a) further) o ≡ None
nothing_then f None further h = refl
nothing_then f (Some a) further h = ap (option_map (f a)) h

mutual
  -- a path that is refused leaves no call
  bad_found : {item : Bool} {w : WrittenCall} → HasBadPath item w → call_of item w ≡ None
  bad_found {item} (one_inside_is_bad {n = n} {arguments = arguments} h) = nothing_then CallOf (function_named n) (arguments_of item arguments) (bads_found h)

  -- so among the arguments
  bads_found : {item : Bool} {w : WrittenArguments} → HaveBadPath item w → arguments_of item w ≡ None
  bads_found {item} (this_is_bad {text = text} {others = others} none) = ap (λ o. option_and_then (λ a. option_map (AndArgument a) (arguments_of item others)) (option_map PathArgument o)) (refused_reference item text none)
  bads_found {item} (bad_in_this {c = c} {others = others} h) = ap (λ o. option_and_then (λ a. option_map (AndArgument a) (arguments_of item others)) (option_map CallArgument o)) (bad_found h)
  bads_found {item} (bad_in_later {argument = argument} {others = others} h) = nothing_then AndArgument (argument_of item argument) (arguments_of item others) (bads_found h)

mutual
  -- where there is no call a path is refused
  found_bad : (item : Bool) (w : WrittenCall) → knows_functions w ≡ true → call_of item w ≡ None → HasBadPath item w
  found_bad item (WrittenAs n arguments) known h = go (then_none (λ f. option_map (CallOf f) (arguments_of item arguments)) (function_named n) h) (found_bads item arguments (and_parts (is_some (function_named n)) (know_functions arguments) known).1)
    where
      go : (function_named n ≡ None) ⊎ ((f : Function) × (function_named n ≡ Some f) × (option_map (CallOf f) (arguments_of item arguments) ≡ None)) → (arguments_of item arguments ≡ None → HaveBadPath item arguments) → HasBadPath item (WrittenAs n arguments)
      go (inl none) inside = absurd (false≢true (sym (ap is_some none) ∙ (and_parts (is_some (function_named n)) (know_functions arguments) known).0))
      go (inr some) inside = one_inside_is_bad (inside (map_none (CallOf some.0) (arguments_of item arguments) some.2))

  -- so among the arguments
  found_bads : (item : Bool) (w : WrittenArguments) → know_functions w ≡ true → arguments_of item w ≡ None → HaveBadPath item w
  found_bads item NoneWritten known h = absurd (none-some NoArguments (sym h))
  found_bads item (AndWritten argument others) known h = go (then_none (λ a. option_map (AndArgument a) (arguments_of item others)) (argument_of item argument) h) (found_bad_in item argument others both.0) (found_bads item others both.1)
    where
      both : IsTrue (knows_functions_in argument) × IsTrue (know_functions others)
      both = and_parts (knows_functions_in argument) (know_functions others) known

      go : (argument_of item argument ≡ None) ⊎ ((a : Argument) × (argument_of item argument ≡ Some a) × (option_map (AndArgument a) (arguments_of item others) ≡ None)) → (argument_of item argument ≡ None → HaveBadPath item (AndWritten argument others)) → (arguments_of item others ≡ None → HaveBadPath item others) → HaveBadPath item (AndWritten argument others)
      go (inl here) this later = this here
      go (inr there) this later = bad_in_later (later (map_none (AndArgument there.0) (arguments_of item others) there.2))

  -- so in the first of them
  found_bad_in : (item : Bool) (w : WrittenArgument) (others : WrittenArguments) → knows_functions_in w ≡ true → argument_of item w ≡ None → HaveBadPath item (AndWritten w others)
  found_bad_in item WrittenNull others known h = absurd (none-some NullArgument (sym h))
  found_bad_in item (WrittenBoolean b) others known h = absurd (none-some (BooleanArgument b) (sym h))
  found_bad_in item (WrittenInteger z) others known h = absurd (none-some (IntegerArgument z) (sym h))
  found_bad_in item (WrittenText pieces) others known h = absurd (none-some (TextArgument pieces) (sym h))
  found_bad_in item (WrittenPath text) others known h = this_is_bad (no_reference item text (map_none PathArgument (reference_of item text) h))
  found_bad_in item (WrittenNested c) others known h = bad_in_this (found_bad item c known (map_none CallArgument (call_of item c) h))

-- ---- whole texts

-- a call that means something has known functions
mutual
  meant_known : {item : Bool} {w : WrittenCall} {c : Call} → MeansCall item w c → knows_functions w ≡ true
  meant_known (means_call {n = n} {written = written} names means) = and_from (is_some (function_named n)) (know_functions written) (ap is_some (function_found names)) (meants_known means)

  -- so for the arguments
  meants_known : {item : Bool} {w : WrittenArguments} {arguments : Arguments} → MeansArguments item w arguments → know_functions w ≡ true
  meants_known means_none = refl
  meants_known (means_further {written = written} {others = others} means further) = and_from (knows_functions_in written) (know_functions others) (meant_known_in means) (meants_known further)

  -- so for an argument
  meant_known_in : {item : Bool} {w : WrittenArgument} {a : Argument} → MeansArgument item w a → knows_functions_in w ≡ true
  meant_known_in means_null = refl
  meant_known_in means_boolean = refl
  meant_known_in means_integer = refl
  meant_known_in means_text = refl
  meant_known_in (means_path spells) = refl
  meant_known_in (means_nested means) = meant_known means

-- a call that is spelled is read
spelled_read : (item : Bool) (text : List ℕ) (c : Call) → SpellsCall item text c → call_from item text ≡ Ok c
spelled_read item text c s =
    ap (call_or_fault item) ((written_exactly text s.written).1 s.as_written)
    ∙ (ap (λ t. if t then call_or_bad_path (call_of item s.written) else Err UnknownFunction) (meant_known s.meaning)
    ∙ ap call_or_bad_path (call_meant s.meaning))

-- a refusal that stands is told
refused_read : (item : Bool) (text : List ℕ) (f : CallFault) → IsRefusedCall item text f → call_from item text ≡ Err f
refused_read item text f (is_malformed none) = go (written_call text) refl
  where
    go : (o : Option WrittenCall) → written_call text ≡ o → call_or_fault item o ≡ Err Malformed
    go None e = refl
    go (Some w) e = absurd (none w ((written_exactly text w).0 e))
refused_read item text f (has_unknown_function {written = written} writes unknown) =
    ap (call_or_fault item) ((written_exactly text written).1 writes)
    ∙ ap (λ t. if t then call_or_bad_path (call_of item written) else Err UnknownFunction) (unknown_found unknown)
refused_read item text f (has_bad_path {written = written} writes known bad) =
    ap (call_or_fault item) ((written_exactly text written).1 writes)
    ∙ (ap (λ t. if t then call_or_bad_path (call_of item written) else Err UnknownFunction) (all_known (knows_functions written) refl)
    ∙ ap call_or_bad_path (bad_found bad))
  where
    all_known : (t : Bool) → knows_functions written ≡ t → knows_functions written ≡ true
    all_known true e = e
    all_known false e = absurd (known (found_unknown written e))

-- each text spells a call or is refused
pub spelled_or_refused : (item : Bool) (text : List ℕ) → ((c : Call) × SpellsCall item text c) ⊎ ((f : CallFault) × IsRefusedCall item text f)
spelled_or_refused item text = go (written_call text) refl
  where
    meaning : (w : WrittenCall) → WritesCall 32 text w → knows_functions w ≡ true → (o : Option Call) → call_of item w ≡ o → ((c : Call) × SpellsCall item text c) ⊎ ((f : CallFault) × IsRefusedCall item text f)
    meaning w writes known None e = inr (BadPath, has_bad_path writes (λ unknown. true≢false (sym known ∙ unknown_found unknown)) (found_bad item w known e))
    meaning w writes known (Some c) e = inl (c, record { written = w; as_written = writes; meaning = meant_call item w c e })

    known : (w : WrittenCall) → WritesCall 32 text w → (t : Bool) → knows_functions w ≡ t → ((c : Call) × SpellsCall item text c) ⊎ ((f : CallFault) × IsRefusedCall item text f)
    known w writes true e = meaning w writes e (call_of item w) refl
    known w writes false e = inr (UnknownFunction, has_unknown_function writes (found_unknown w e))

    go : (o : Option WrittenCall) → written_call text ≡ o → ((c : Call) × SpellsCall item text c) ⊎ ((f : CallFault) × IsRefusedCall item text f)
    go None e = inr (Malformed, is_malformed (λ w writes. none-some w (sym e ∙ (written_exactly text w).1 writes)))
    go (Some w) e = known w ((written_exactly text w).0 e) (knows_functions w) refl

-- a call that is read is spelled
read_spelled : (item : Bool) (text : List ℕ) (c : Call) → call_from item text ≡ Ok c → SpellsCall item text c
read_spelled item text c h = go (spelled_or_refused item text)
  where
    go : ((d : Call) × SpellsCall item text d) ⊎ ((f : CallFault) × IsRefusedCall item text f) → SpellsCall item text c
    go (inl s) = subst (SpellsCall item text) (same_ok (sym (spelled_read item text s.0 s.1) ∙ h)) s.1
    go (inr r) = absurd (ok_or_err (sym h ∙ refused_read item text r.0 r.1))

-- a refusal that is told stands
read_refused : (item : Bool) (text : List ℕ) (f : CallFault) → call_from item text ≡ Err f → IsRefusedCall item text f
read_refused item text f h = go (spelled_or_refused item text)
  where
    go : ((c : Call) × SpellsCall item text c) ⊎ ((g : CallFault) × IsRefusedCall item text g) → IsRefusedCall item text f
    go (inl s) = absurd (ok_or_err (sym (spelled_read item text s.0 s.1) ∙ h))
    go (inr r) = subst (IsRefusedCall item text) (same_err (sym (refused_read item text r.0 r.1) ∙ h)) r.1

-- both ways
pub call_exactly : (item : Bool) (text : List ℕ) (c : Call) → (call_from item text ≡ Ok c) ↔ SpellsCall item text c
call_exactly item text c = (read_spelled item text c, spelled_read item text c)

-- both ways
pub refusal_exactly : (item : Bool) (text : List ℕ) (f : CallFault) → (call_from item text ≡ Err f) ↔ IsRefusedCall item text f
refusal_exactly item text f = (read_refused item text f, refused_read item text f)

-- a text spells one call
pub one_call : (item : Bool) (text : List ℕ) (c d : Call) → SpellsCall item text c → SpellsCall item text d → c ≡ d
one_call item text c d s t = same_ok (sym (spelled_read item text c s) ∙ spelled_read item text d t)

-- a text that spells a call isn't refused
pub spelled_not_refused : (item : Bool) (text : List ℕ) (c : Call) (f : CallFault) → SpellsCall item text c → IsRefusedCall item text f → ⊥
spelled_not_refused item text c f s r = ok_or_err (sym (spelled_read item text c s) ∙ refused_read item text f r)

-- a text is refused in one way
pub one_refusal : (item : Bool) (text : List ℕ) (f g : CallFault) → IsRefusedCall item text f → IsRefusedCall item text g → f ≡ g
one_refusal item text f g r s = same_err (sym (refused_read item text f r) ∙ refused_read item text g s)
