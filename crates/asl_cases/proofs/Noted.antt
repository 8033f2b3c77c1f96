-- What is noted of a state, with what an entry takes.
use Rattle.std.proofs.Common.{◌≡◌, ℕ, Bool, true, false, ◌||◌, List, set, refl, sym, ap, ◌∙◌, Option, Some, None}
use Rattle.std.specs.Prelude.{nat_eq}
use Rattle.std.proofs.lemmas.Bool.{or_right}
use Rattle.std.proofs.lemmas.Option.{none-some}
use Rattle.asl_model.specs.Machine.{State, StateOf, Settings, Kind}
use Rattle.asl_model.specs.Names.{StateName}
use Rattle.asl_model.specs.Run.{Entry, Entered, Asked, Left, Raised, TaskFailed, BranchFailed, Retried, Caught, Ended}
use Rattle.asl_model.specs.Tree.{Tree}
use Rattle.asl_cases.specs.Coverage.{Flags, Part, Itself, RuleAt, ByDefault, RetrierAt, CatcherAt, by_number, flags_of, rules_of, taker, takes}
use Rattle.asl_cases.specs.Taking.{is_default, is_rule, left_by}
use Rattle.asl_cases.specs.declared.covered.Taken.{Taken}
use Rattle.asl_cases.specs.declared.covered.Taken.TheVariants as ways
use Rattle.asl_cases.proofs.Numbered.{marked, or_none, same_by_number}

-- ---- the same flags

abbrev flags : Bool → List Bool → Bool → List Bool → List Bool → Flags
flags entered rules default retriers catchers = record {
  entered = entered;
  rules = rules;
  default = default;
  retriers = retriers;
  catchers = catchers;
}

pub same_flags : (f g : Flags) → f.entered ≡ g.entered → f.rules ≡ g.rules → f.default ≡ g.default → f.retriers ≡ g.retriers → f.catchers ≡ g.catchers → f ≡ g
same_flags f g e r d t c =
    ap (λ x. flags x f.rules f.default f.retriers f.catchers) e
    ∙ (ap (λ x. flags g.entered x f.default f.retriers f.catchers) r
    ∙ (ap (λ x. flags g.entered g.rules x f.retriers f.catchers) d
    ∙ (ap (λ x. flags g.entered g.rules g.default x f.catchers) t
    ∙ ap (λ x. flags g.entered g.rules g.default g.retriers x) c)))

pub same_flags_of : (t u : Part → Bool) → ((part : Part) → t part ≡ u part) → (state : State) → flags_of t state ≡ flags_of u state
same_flags_of t u h (StateOf settings kind) =
    same_flags (flags_of t (StateOf settings kind)) (flags_of u (StateOf settings kind))
    (h Itself)
    (same_by_number (λ i. t (RuleAt i)) (λ i. u (RuleAt i)) (λ i. h (RuleAt i)) (rules_of kind))
    (h ByDefault)
    (same_by_number (λ i. t (RetrierAt i)) (λ i. u (RetrierAt i)) (λ i. h (RetrierAt i)) settings.retriers)
    (same_by_number (λ i. t (CatcherAt i)) (λ i. u (CatcherAt i)) (λ i. h (CatcherAt i)) settings.catchers)

-- nothing is taken
pub none_noted : (f : Flags) (settings : Settings) (kind : Kind) → f.entered ≡ false → f.rules ≡ by_number (λ i. false) (rules_of kind) → f.default ≡ false → f.retriers ≡ by_number (λ i. false) settings.retriers → f.catchers ≡ by_number (λ i. false) settings.catchers → f ≡ flags_of (λ part. false) (StateOf settings kind)
none_noted f settings kind e r d t c = same_flags f (flags_of (λ part. false) (StateOf settings kind)) e r d t c

-- ---- with what an entry takes

-- nothing more is taken
pub nothing_more : (taken more : Part → Bool) → ((part : Part) → more part ≡ false) → (state : State) → flags_of taken state ≡ flags_of (λ part. taken part || more part) state
nothing_more taken more h state =
    same_flags_of taken (λ part. taken part || more part) (λ part. or_none (taken part) (more part) (h part)) state

pub takes_nothing : (state : State) (entry : Entry) → taker entry ≡ None → (part : Part) → takes state entry part ≡ false
takes_nothing (StateOf settings kind) (Entered n raw) h part = absurd (none-some n (sym h))
takes_nothing (StateOf settings kind) (Asked n payload) h part = refl
takes_nothing (StateOf settings kind) (Left n output) h part = refl
takes_nothing (StateOf settings kind) (Raised n fault) h part = refl
takes_nothing (StateOf settings kind) (TaskFailed n error cause) h part = refl
takes_nothing (StateOf settings kind) (BranchFailed n child error cause) h part = refl
takes_nothing (StateOf settings kind) (Retried n i) h part = absurd (none-some n (sym h))
takes_nothing (StateOf settings kind) (Caught n i next) h part = absurd (none-some n (sym h))
takes_nothing (StateOf settings kind) (Ended outcome) h part = refl

pub retried_more : (taken : Part → Bool) (settings : Settings) (kind : Kind) (n : StateName) (i : ℕ) (before : Flags) → before ≡ flags_of taken (StateOf settings kind) → record before { retriers = set before.retriers i true } ≡ flags_of (λ part. taken part || takes (StateOf settings kind) (Retried n i) part) (StateOf settings kind)
retried_more taken settings kind n i before is =
    let more = λ (part : Part). taken part || takes (StateOf settings kind) (Retried n i) part in
    ap (λ (f : Flags). flags f.entered f.rules f.default (set f.retriers i true) f.catchers) is
    ∙ same_flags (flags (taken Itself) (by_number (λ j. taken (RuleAt j)) (rules_of kind)) (taken ByDefault) (set (by_number (λ j. taken (RetrierAt j)) settings.retriers) i true) (by_number (λ j. taken (CatcherAt j)) settings.catchers))
    (flags_of more (StateOf settings kind))
    (or_none (taken Itself) false refl)
    (same_by_number (λ j. taken (RuleAt j)) (λ j. more (RuleAt j)) (λ j. or_none (taken (RuleAt j)) false refl) (rules_of kind))
    (or_none (taken ByDefault) false refl)
    (marked (λ j. taken (RetrierAt j)) i settings.retriers)
    (same_by_number (λ j. taken (CatcherAt j)) (λ j. more (CatcherAt j)) (λ j. or_none (taken (CatcherAt j)) false refl) settings.catchers)

pub caught_more : (taken : Part → Bool) (settings : Settings) (kind : Kind) (n : StateName) (i : ℕ) (next : StateName) (before : Flags) → before ≡ flags_of taken (StateOf settings kind) → record before { catchers = set before.catchers i true } ≡ flags_of (λ part. taken part || takes (StateOf settings kind) (Caught n i next) part) (StateOf settings kind)
caught_more taken settings kind n i next before is =
    let more = λ (part : Part). taken part || takes (StateOf settings kind) (Caught n i next) part in
    ap (λ (f : Flags). flags f.entered f.rules f.default f.retriers (set f.catchers i true)) is
    ∙ same_flags (flags (taken Itself) (by_number (λ j. taken (RuleAt j)) (rules_of kind)) (taken ByDefault) (by_number (λ j. taken (RetrierAt j)) settings.retriers) (set (by_number (λ j. taken (CatcherAt j)) settings.catchers) i true))
    (flags_of more (StateOf settings kind))
    (or_none (taken Itself) false refl)
    (same_by_number (λ j. taken (RuleAt j)) (λ j. more (RuleAt j)) (λ j. or_none (taken (RuleAt j)) false refl) (rules_of kind))
    (or_none (taken ByDefault) false refl)
    (same_by_number (λ j. taken (RetrierAt j)) (λ j. more (RetrierAt j)) (λ j. or_none (taken (RetrierAt j)) false refl) settings.retriers)
    (marked (λ j. taken (CatcherAt j)) i settings.catchers)

-- ---- a state that is entered

-- the flags of its rules
rules_left : {A : Type 0} (t : ℕ → Bool) (more : ℕ → Bool) (way : Option Taken) (xs : List A) (rest : Flags) → rest.rules ≡ by_number t xs → ((i : ℕ) → more i ≡ is_rule i way) → (left_by way rest).rules ≡ by_number (λ i. t i || more i) xs
rules_left t more None xs rest is h =
    is ∙ same_by_number t (λ i. t i || more i) (λ i. or_none (t i) (more i) (h i)) xs
rules_left t more (Some (ways.Rule number)) xs rest is h =
    ap (λ f. set f number true) is
    ∙ (marked t number xs
    ∙ same_by_number (λ i. t i || nat_eq number i) (λ i. t i || more i) (λ i. ap (λ b. t i || b) (sym (h i))) xs)
rules_left t more (Some ways.Default) xs rest is h =
    is ∙ same_by_number t (λ i. t i || more i) (λ i. or_none (t i) (more i) (h i)) xs

-- that of its `Default`
default_left : (b more : Bool) (way : Option Taken) (rest : Flags) → rest.default ≡ b → more ≡ is_default way → (left_by way rest).default ≡ (b || more)
default_left b more None rest is h = is ∙ or_none b more h
default_left b more (Some (ways.Rule number)) rest is h = is ∙ or_none b more h
default_left b more (Some ways.Default) rest is h = sym (or_right b more h)

entered_left : (way : Option Taken) (rest : Flags) → (left_by way rest).entered ≡ true
entered_left None rest = refl
entered_left (Some (ways.Rule number)) rest = refl
entered_left (Some ways.Default) rest = refl

retriers_left : (way : Option Taken) (rest : Flags) → (left_by way rest).retriers ≡ rest.retriers
retriers_left None rest = refl
retriers_left (Some (ways.Rule number)) rest = refl
retriers_left (Some ways.Default) rest = refl

catchers_left : (way : Option Taken) (rest : Flags) → (left_by way rest).catchers ≡ rest.catchers
catchers_left None rest = refl
catchers_left (Some (ways.Rule number)) rest = refl
catchers_left (Some ways.Default) rest = refl

pub entered_more : (taken : Part → Bool) (settings : Settings) (kind : Kind) (n : StateName) (raw : Tree) (way : Option Taken) (before : Flags) → before ≡ flags_of taken (StateOf settings kind) → ((i : ℕ) → takes (StateOf settings kind) (Entered n raw) (RuleAt i) ≡ is_rule i way) → takes (StateOf settings kind) (Entered n raw) ByDefault ≡ is_default way → left_by way before ≡ flags_of (λ part. taken part || takes (StateOf settings kind) (Entered n raw) part) (StateOf settings kind)
entered_more taken settings kind n raw way before is rule default =
    let more = λ (part : Part). taken part || takes (StateOf settings kind) (Entered n raw) part in
    same_flags (left_by way before) (flags_of more (StateOf settings kind))
    (entered_left way before ∙ sym (or_right (taken Itself) true refl))
    (rules_left (λ i. taken (RuleAt i)) (λ i. takes (StateOf settings kind) (Entered n raw) (RuleAt i)) way (rules_of kind) before (ap (λ (f : Flags). f.rules) is) rule)
    (default_left (taken ByDefault) (takes (StateOf settings kind) (Entered n raw) ByDefault) way before (ap (λ (f : Flags). f.default) is) default)
    (retriers_left way before ∙ (ap (λ (f : Flags). f.retriers) is
    ∙ same_by_number (λ i. taken (RetrierAt i)) (λ i. more (RetrierAt i)) (λ i. or_none (taken (RetrierAt i)) false refl) settings.retriers))
    (catchers_left way before ∙ (ap (λ (f : Flags). f.catchers) is
    ∙ same_by_number (λ i. taken (CatcherAt i)) (λ i. more (CatcherAt i)) (λ i. or_none (taken (CatcherAt i)) false refl) settings.catchers))
