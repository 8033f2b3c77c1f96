-- What is told one after another.
use Rattle.std.proofs.Common.{◌≡◌, List, [], ◌++◌, map, Option, Some, Result, Ok, Err, OnOk, refl, sym, ap, ◌∙◌, subst, append-nil, append_assoc}
use Rattle.std.proofs.lemmas.List.{map-append}
use Rattle.asl_complaints.specs.Told.{Tells}

-- nothing is told
pub tells_none : {A : Type 0} (told : List (Option A)) → Tells told told []
tells_none told = record { holds = sym (append-nil told) }

-- some, and then others
pub tells_then : {A : Type 0} {a b c : List (Option A)} {xs ys : List A} → Tells a b xs → Tells b c ys → Tells a c (xs ++ ys)
tells_then {A} {a} {b} {c} {xs} {ys} first second =
    record { holds = second.holds ∙ ap (λ told. told ++ map Some ys) first.holds ∙ append_assoc a (map Some xs) (map Some ys) ∙ ap (λ more. a ++ more) (sym (map-append Some xs ys)) }

-- the same under another name
pub tells_as : {A : Type 0} {a b : List (Option A)} {xs ys : List A} → xs ≡ ys → Tells a b xs → Tells a b ys
tells_as {A} {a} {b} e h = subst (Tells a b) e h

-- what was told and what is left are all
pub record TellsOf {A : Type 0} (before after : List (Option A)) (all left : List A) : Type 0 where
  pub holds : after ++ map Some left ≡ before ++ map Some all

pub all_left : {A : Type 0} (told : List (Option A)) (all : List A) → TellsOf told told all all
all_left told all = record { holds = refl }

pub less_left : {A : Type 0} {a b c : List (Option A)} {all left xs more : List A} → TellsOf a b all left → left ≡ xs ++ more → Tells b c xs → TellsOf a c all more
less_left {A} {a} {b} {c} {all} {left} {xs} {more} so_far parted next =
    record { holds = ap (λ told. told ++ map Some more) next.holds ∙ append_assoc b (map Some xs) (map Some more) ∙ ap (λ rest. b ++ rest) (sym (map-append Some xs more)) ∙ ap (λ rest. b ++ map Some rest) (sym parted) ∙ so_far.holds }

pub none_left : {A : Type 0} {a b : List (Option A)} {all left : List A} → TellsOf a b all left → left ≡ [] → Tells a b all
none_left {A} {a} {b} {all} {left} so_far done =
    record { holds = sym (append-nil b) ∙ ap (λ rest. b ++ map Some rest) (sym done) ∙ so_far.holds }

-- on, behind what was told
pub tells_behind : {A E : Type 0} (result : Result (Unit {0}) E) (a b c : List (Option A)) (xs ys : List A) → Tells a b xs → OnOk result (Tells b c ys) → OnOk result (Tells a c (xs ++ ys))
tells_behind (Ok nothing) a b c xs ys first second = tells_then first second
tells_behind (Err e) a b c xs ys first second = tt

pub tells_on : {A E : Type 0} (result : Result (Unit {0}) E) (a b : List (Option A)) (xs ys : List A) → xs ≡ ys → OnOk result (Tells a b xs) → OnOk result (Tells a b ys)
tells_on result a b xs ys e h = subst (λ zs. OnOk result (Tells a b zs)) e h
