-- What a walk tells, one complaint after another.
use Rattle.std.proofs.Common.{◌≡◌, ℕ, List, [], ◌∷◌, ◌++◌, map, Option, Some, Result, Ok, Err, OnOk, sym, ap, ◌∙◌, subst, append-nil, append_assoc}
use Rattle.std.specs.Borrow.{Bor}
use Rattle.std.proofs.lemmas.List.{map-append}
use Rattle.asl_model.specs.StandsFor.{Complaint}
use Rattle.asl_fields.specs.declared.places.Complaint.{Complaint as Objection}
use Rattle.asl_machine.specs.declared.scope_telling.Telling.{Telling}
use Rattle.asl_fields.specs.Verdicts.{complaint_view}
use Rattle.asl_fields.specs.Telling.{IsTold, Tells, Told}
use Rattle.asl_machine.specs.Telling.{Walks, texts}
pub use Rattle.asl_fields.proofs.Told.{TellsOf, tells_none, tells_then, tells_as, all_left, less_left, none_left}

-- ---- walks

pub walks_none : (telling : Telling) → Walks telling telling [] []
walks_none telling = record { told = tells_none (map complaint_view telling.told.items); named = sym (append-nil (texts telling.names.items)) }

pub walks_then : {a b c : Telling} {xs ys : List Complaint} {ms ns : List (List ℕ)} → Walks a b xs ms → Walks b c ys ns → Walks a c (xs ++ ys) (ms ++ ns)
walks_then {a} {b} {c} {xs} {ys} {ms} {ns} first second = record {
  told = tells_then first.told second.told;
  named = second.named ∙ ap (λ names. names ++ ns) first.named ∙ append_assoc (texts a.names.items) ms ns;
}

pub walks_behind : {E : Type 0} (a b c : Telling) (xs ys : List Complaint) (ms ns : List (List ℕ)) (result : Result (Unit {0}) E) → Walks a b xs ms → OnOk result (Walks b c ys ns) → OnOk result (Walks a c (xs ++ ys) (ms ++ ns))
walks_behind a b c xs ys ms ns (Ok nothing) first second = walks_then first second
walks_behind a b c xs ys ms ns (Err e) first second = tt

-- the same lists under other names
pub walks_as : {E : Type 0} (a b : Telling) (xs ys : List Complaint) (ms ns : List (List ℕ)) (result : Result (Unit {0}) E) → xs ≡ ys → ms ≡ ns → OnOk result (Walks a b xs ms) → OnOk result (Walks a b ys ns)
walks_as a b xs ys ms ns result e f h = subst (λ zs. OnOk result (Walks a b zs ns)) e (subst (λ ks. OnOk result (Walks a b xs ks)) f h)

-- what was walked and what is left are all
pub record WalksOf (before after : Telling) (all left : List Complaint) (names rest : List (List ℕ)) : Type 0 where
  pub told : TellsOf (map complaint_view before.told.items) (map complaint_view after.told.items) all left
  pub named : texts after.names.items ++ rest ≡ texts before.names.items ++ names

pub all_ahead : (telling : Telling) (all left : List Complaint) (names rest : List (List ℕ)) → left ≡ all → rest ≡ names → WalksOf telling telling all left names rest
all_ahead telling all left names rest e f = record {
  told = subst (λ cs. TellsOf (map complaint_view telling.told.items) (map complaint_view telling.told.items) all cs) (sym e) (all_left (map complaint_view telling.told.items) all);
  named = ap (λ ns. texts telling.names.items ++ ns) f;
}

pub less_ahead : {a b c : Telling} {all left xs more : List Complaint} {names rest ms further : List (List ℕ)} → WalksOf a b all left names rest → left ≡ xs ++ more → rest ≡ ms ++ further → Walks b c xs ms → WalksOf a c all more names further
less_ahead {b = b} {ms = ms} {further = further} so_far parted split next = record {
  told = less_left so_far.told parted next.told;
  named = ap (λ ns. ns ++ further) next.named ∙ append_assoc (texts b.names.items) ms further ∙ ap (λ ns. texts b.names.items ++ ns) (sym split) ∙ so_far.named;
}

pub none_ahead : {a b : Telling} {all left : List Complaint} {names rest : List (List ℕ)} → WalksOf a b all left names rest → left ≡ [] → rest ≡ [] → Walks a b all names
none_ahead {b = b} so_far done ended = record {
  told = none_left so_far.told done;
  named = sym (append-nil (texts b.names.items)) ∙ ap (λ ns. texts b.names.items ++ ns) (sym ended) ∙ so_far.named;
}

-- ---- what a call tells

pub tells_on : {E : Type 0} (a b : List (Option Complaint)) (xs ys : List Complaint) (result : Result (Unit {0}) E) → xs ≡ ys → OnOk result (Tells a b xs) → OnOk result (Tells a b ys)
tells_on a b xs ys result e h = subst (λ zs. OnOk result (Tells a b zs)) e h

-- a complaint that is told is all that is wrong
pub told_all : {E : Type 0} (result : Result (Unit {0}) E) (before after : List Objection) (told : Option Complaint) (c : Complaint) (wrong : List Complaint) → OnOk result (IsTold before after told) → told ≡ Some c → c ∷ [] ≡ wrong → OnOk result (Told before after wrong)
told_all (Ok nothing) before after told c wrong h is all = subst (λ xs. Told before after xs) all (subst (λ o. IsTold before after o) is h)
told_all (Err e) before after told c wrong h is all = tt

-- what is told at the end of what is left
pub walks_told : {a b : Telling} {xs : List Complaint} → Told a.told.items b.told.items xs → b.names.items ≡ a.names.items → Walks a b xs []
walks_told {a} {b} told same = record { told = told; named = ap texts same ∙ sym (append-nil (texts a.names.items)) }

pub walks_told_on : {E : Type 0} (a b : Telling) (xs : List Complaint) (result : Result (Unit {0}) E) → OnOk result (Told a.told.items b.told.items xs) → b.names.items ≡ a.names.items → OnOk result (Walks a b xs [])
walks_told_on a b xs (Ok nothing) told same = walks_told told same
walks_told_on a b xs (Err e) told same = tt

-- a name is gathered
pub walks_named : {a b : Telling} (n : Bor (List ℕ)) → b.told.items ≡ a.told.items → b.names.items ≡ a.names.items ++ n ∷ [] → Walks a b [] (n.now ∷ [])
walks_named {a} {b} n same pushed = record {
  told = subst (λ told. Tells (map complaint_view a.told.items) (map complaint_view told) []) (sym same) (tells_none (map complaint_view a.told.items));
  named = ap texts pushed ∙ map-append (λ m. m.now) a.names.items (n ∷ []);
}

pub walks_is : {a b : Telling} {xs ys : List Complaint} {ms ns : List (List ℕ)} → xs ≡ ys → ms ≡ ns → Walks a b xs ms → Walks a b ys ns
walks_is {a = a} {b = b} {xs = xs} {ns = ns} e f h = subst (λ zs. Walks a b zs ns) e (subst (λ ks. Walks a b xs ks) f h)
