use Rattle.std.proofs.Common.{◌≡◌, ◌<◌, length, List, Bool, true, false, true≢false, le_refl, cond, Option, option_map, Some, None, drop, refl, sym, ap, ◌∙◌, subst, arith}
use Rattle.std.specs.Str.{bytes_eq}
use Rattle.std.proofs.lemmas.Slice.Eq.{bytes_eq-Decides}
use Rattle.json.specs.Json.{Json, no_members}
use Rattle.json.specs.Token.{Token}
use Rattle.json.specs.Find.{BeginsWith, later_or, get_member, get}
use Rattle.asl_places.specs.declared.outline.Member.{Member}
use Rattle.asl_places.specs.Found.{FindsAt, IsNamed}
use Rattle.asl_places.specs.Standing.{FindsMember, NoMemberAt}
use Rattle.asl_places.proofs.Reading.{get-no_object}
use Rattle.asl_places.proofs.Walks.{Covers-end, Covers-on, Covers-start, GoesOn, IsLater-here, Stands, Stands-here, Stands-on, Walked-on, Walked-start, finds_member, finds_none, goes_on}
use Rattle.asl_places.proofs.outline.Outline.member.Goals as goal

later_or-None : (o : Option Json) → o ≡ later_or o None
later_or-None None = refl
later_or-None (Some j) = refl

-- the later member counts, whatever was found before
later_or-twice : (o : Option Json) (j : Json) (before : Option Json) → later_or (later_or o (Some j)) before ≡ later_or o (Some j)
later_or-twice None j before = refl
later_or-twice (Some k) j before = refl

abbrev value_found : List Token → Option Member → Option Json → Type 0
value_found tokens member value = FindsAt tokens (option_map (λ m. m.value) member) value

pub returns-in_err-members-clause-value : goal.returns-in_err-members-clause-value
returns-in_err-members-clause-value c j begins =
    let gone : c.from_residual.result ≡ None = grind arith in
    subst (λ r. value_found c.args.self.now.0 r (get c.args.name.now j)) (sym gone) (get-no_object c.args.name.now j (c.in_err-members.ensures.members j begins))

pub returns-in_err-members-clause-stands : goal.returns-in_err-members-clause-stands
returns-in_err-members-clause-stands c j begins =
    let gone : c.from_residual.result ≡ None = grind arith in
    subst (FindsMember c.args.self.now.0 c.args.object c.args.name.now) (sym gone) (finds_none c.args.self.now.0 c.args.object c.args.name.now c.in_err-members.ensures.opens)

pub loop-other-init : goal.loop-other-init
loop-other-init c = record {
  tokens = c.in_ok-members.ensures.tokens;
  search = λ j begins.
      let inside = c.in_ok-members.ensures.members j begins in
      (inside.0, None, inside.2, refl, ap (get c.args.name.now) inside.1 ∙ later_or-None _);
  walk = λ j begins.
      let opens = c.in_ok-members.ensures.opens in
      (Walked-start c.args.self.now.0 c.args.object c.in_ok-members.members.1 opens.0 opens.1, tt, Covers-start c.args.self.now.0 c.args.object c.in_ok-members.members.1 _ opens.0);
  inside = let opens = c.in_ok-members.ensures.opens in omega (arith, opens.0);
  later = tt;
  named = tt;
}

pub loop-other-preserved-then-eq : goal.loop-other-preserved-then-eq
loop-other-preserved-then-eq c =
    let name = c.args.name.now in
    let same : bytes_eq c.in-Some.other.now name ≡ true = grind arith in
    record {
      tokens = c.in-Some.ensures.tokens ∙ c.loop-other.invariant.tokens;
      search = λ j begins.
          let now = c.loop-other.invariant.search j begins in
          let f = c.in-Some.ensures.value now.0 now.2 in
          let turn = now.4 ∙ ap (λ ms. later_or (get_member name ms) now.1) f.2 in
          let pick = λ (b : Bool). later_or (later_or (get_member name f.1) (cond b (Some f.0) None)) now.1 in
          let begins_here = subst (λ ts. BeginsWith (drop c.in-Some.member.value.token ts) f.0) c.loop-other.invariant.tokens f.3 in
          (f.1, Some f.0, f.4, (f.0, refl, begins_here), turn ∙ ap pick same ∙ later_or-twice (get_member name f.1) f.0 now.1);
      walk = λ j begins.
          let tokens = c.args.self.now.0 in
          let object = c.args.object in
          let cursor = c.loop-other.members.1 in
          let next = c.next.new.self.1 in
          let w = c.loop-other.invariant.walk j begins in
          let now = c.loop-other.invariant.search j begins in
          let f = c.in-Some.ensures.value now.0 now.2 in
          let is_name = (bytes_eq-Decides c.in-Some.other.now name).0 same in
          let goes = subst (λ ts. GoesOn ts cursor c.in-Some.other.now c.in-Some.member next) c.loop-other.invariant.tokens (goes_on c.loop-other.members.0 cursor c.in-Some.other.now c.in-Some.member next c.in-Some.ensures.named (f.0, f.3) c.in-Some.ensures.steps) in (
            Walked-on tokens object cursor c.in-Some.other.now c.in-Some.member next w.0 goes,
            subst (λ n. Stands tokens object next n (Some c.in-Some.member)) is_name (Stands-here tokens object cursor c.in-Some.other.now c.in-Some.member next w.0 goes),
            Covers-on tokens object cursor c.in-Some.other.now c.in-Some.member next _ _ goes (λ n m p e. IsLater-here tokens object cursor name c.in-Some.other.now c.in-Some.member next c.loop-other.found m goes w.1 (p e)) (λ e. le_refl c.in-Some.member.name.token) w.2,
          );
      inside = let later = c.in-Some.ensures.later in let before = c.loop-other.invariant.inside in omega (arith, later.0, later.1, before);
      later = let later = c.in-Some.ensures.later in let before = c.loop-other.invariant.inside in (omega (arith, later.0, before), subst (λ ts. c.in-Some.member.value.token < length ts) c.loop-other.invariant.tokens (omega (arith, later.1, later.2)));
      named = subst (IsNamed c.args.self.now.0 c.in-Some.member) ((bytes_eq-Decides c.in-Some.other.now name).0 same) (subst (λ ts. IsNamed ts c.in-Some.member c.in-Some.other.now) c.loop-other.invariant.tokens c.in-Some.ensures.named);
    }

pub loop-other-preserved : goal.loop-other-preserved
loop-other-preserved c =
    let name = c.args.name.now in
    let other : bytes_eq c.in-Some.other.now name ≡ false = grind arith in
    record {
      tokens = c.in-Some.ensures.tokens ∙ c.loop-other.invariant.tokens;
      search = λ j begins.
          let now = c.loop-other.invariant.search j begins in
          let f = c.in-Some.ensures.value now.0 now.2 in
          let turn = now.4 ∙ ap (λ ms. later_or (get_member name ms) now.1) f.2 in
          let pick = λ (b : Bool). later_or (later_or (get_member name f.1) (cond b (Some f.0) None)) now.1 in
          (f.1, now.1, f.4, now.3, turn ∙ ap pick other ∙ ap (λ o. later_or o now.1) (sym (later_or-None _)));
      walk = λ j begins.
          let tokens = c.args.self.now.0 in
          let object = c.args.object in
          let cursor = c.loop-other.members.1 in
          let next = c.next.new.self.1 in
          let w = c.loop-other.invariant.walk j begins in
          let now = c.loop-other.invariant.search j begins in
          let f = c.in-Some.ensures.value now.0 now.2 in
          let goes = subst (λ ts. GoesOn ts cursor c.in-Some.other.now c.in-Some.member next) c.loop-other.invariant.tokens (goes_on c.loop-other.members.0 cursor c.in-Some.other.now c.in-Some.member next c.in-Some.ensures.named (f.0, f.3) c.in-Some.ensures.steps) in (
            Walked-on tokens object cursor c.in-Some.other.now c.in-Some.member next w.0 goes,
            Stands-on tokens object cursor c.in-Some.other.now c.in-Some.member next name c.loop-other.found goes w.1,
            Covers-on tokens object cursor c.in-Some.other.now c.in-Some.member next _ _ goes (λ n m p. p) (λ e. absurd (true≢false (sym ((bytes_eq-Decides c.in-Some.other.now name).1 e) ∙ other))) w.2,
          );
      inside = let later = c.in-Some.ensures.later in let before = c.loop-other.invariant.inside in omega (arith, later.0, later.1, before);
      later = c.loop-other.invariant.later;
      named = c.loop-other.invariant.named;
    }

pub returns-clause-value : goal.returns-clause-value
returns-clause-value c j begins =
    let now = c.loop-other.invariant.search j begins in
    let done : now.0 ≡ no_members = c.in_default.ensures.value now.0 now.2 in
    subst (value_found c.args.self.now.0 c.loop-other.found) (sym (now.4 ∙ ap (λ ms. later_or (get_member c.args.name.now ms) now.1) done)) now.3

pub returns-clause-stands : goal.returns-clause-stands
returns-clause-stands c j begins =
    let w = c.loop-other.invariant.walk j begins in
    let none = subst (λ ts. NoMemberAt ts c.loop-other.members.1) c.loop-other.invariant.tokens c.in_default.ensures.steps in
    finds_member c.args.self.now.0 c.args.object c.loop-other.members.1 c.args.name.now c.loop-other.found w.1 (λ m is. Covers-end c.args.self.now.0 c.args.object c.loop-other.members.1 _ none w.2 c.args.name.now m is refl)
