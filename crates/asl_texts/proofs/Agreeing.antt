-- Two right verdicts on the same texts agree; where both tell the first of each name, they are the same.
use Rattle.std.proofs.Common.{◌≡◌, ℕ, List, [], ◌∷◌, true, false, bytes_eq, Some, refl, sym, ap, ◌∙◌, subst, ◌⊎◌, inl, inr}
use Rattle.std.specs.List.{Contains}
use Rattle.std.specs.Prelude.{IsTrue}
use Rattle.asl_model.specs.Certificate.{Certificate, Declared}
use Rattle.asl_model.specs.Finding.{Finding, findings}
use Rattle.asl_model.specs.Headline.{IsVerdictOn, ReadAs}
use Rattle.asl_model.specs.Machine.{Scope}
use Rattle.asl_model.specs.Numbering.{table_of}
use Rattle.asl_model.specs.Texts.{ReadsAsCertificate, ReadsAsDeclared, ReadsAsMachine}
use Rattle.asl_model.specs.Tree.{comes_before}
use Rattle.asl_model.specs.Verdict.{Accepted, AreInNameOrder, IsRight, IsTelling, Rejected, TellsOf, Verdict, before_next}
use Rattle.asl_model.proofs.NamesInOrder.{comes_before-other, comes_before-trans}
use Rattle.asl_model.proofs.ReadingLaws.{none_listed}
use Rattle.asl_check.specs.Told.{listed, first_of, AreFirst, TellsFirst}
use Rattle.asl_check.proofs.FirstOf.{before_each, itself}
use Rattle.asl_check.proofs.Members.{first, first_or_later, later, no_member}
use Rattle.asl_texts.specs.FirstTold.{TellsFirstOn}
use Rattle.asl_texts.specs.Agreement.{Agree}

module _ (machine : Scope) (declared : Declared) (certificate : Certificate) where
  -- where findings are told, a rule is broken
  some_broken : (told : List Finding) → IsTelling machine declared certificate told → findings machine declared certificate ≡ [] → ⊥
  some_broken [] telling none = telling.some refl
  some_broken (f ∷ told) telling none = none_listed (findings machine declared certificate) f none (telling.standing f (first f told))

  -- the names of the ones are among those of the others
  names_told : (told others : List Finding) → IsTelling machine declared certificate told → IsTelling machine declared certificate others → (n : List ℕ) → TellsOf told n → TellsOf others n
  names_told told others here there n (f, among, named) = subst (TellsOf others) named (there.complete f (here.standing f among))

  right_agree : (one other : Verdict) → IsRight machine declared certificate one → IsRight machine declared certificate other → Agree one other
  right_agree Accepted Accepted h k = tt
  right_agree Accepted (Rejected told) h k = some_broken told k h
  right_agree (Rejected told) Accepted h k = some_broken told h k
  right_agree (Rejected told) (Rejected others) h k = λ n. (names_told told others h k n, names_told others told k h n)

-- ---- the same findings

-- a name doesn't come before itself
not_itself : (n : List ℕ) → IsTrue (comes_before n n) → ⊥
not_itself n before =
    let other : bytes_eq n n ≡ false = comes_before-other n n before in
    let same : bytes_eq n n ≡ true = itself n in
    absurd (cc)

-- two lists in the order of their names with the same members are one list
same_listed : (told others : List Finding) → AreInNameOrder told → AreInNameOrder others → ((f : Finding) → Contains told f → Contains others f) → ((f : Finding) → Contains others f → Contains told f) → told ≡ others
same_listed [] [] ordered sorted there back = refl
same_listed [] (g ∷ others) ordered sorted there back = absurd (no_member g (back g (first g others)))
same_listed (f ∷ told) [] ordered sorted there back = absurd (no_member f (there f (first f told)))
same_listed (f ∷ told) (g ∷ others) ordered sorted there back = ap (λ h. h ∷ told) same ∙ ap (λ rest. g ∷ rest) (same_listed told others ordered.1 sorted.1 behind before)
  where
    by : (g ≡ f) ⊎ Contains others f → (f ≡ g) ⊎ Contains told g → f ≡ g
    by (inl is) either = sym is
    by (inr here) (inl is) = is
    by (inr here) (inr also) =
        absurd (not_itself f.state (comes_before-trans f.state g.state f.state (before_each f.state told ordered.0 ordered.1 g also) (before_each g.state others sorted.0 sorted.1 f here)))

    same : f ≡ g
    same = by (first_or_later g others f (there f (first f told))) (first_or_later f told g (back g (first g others)))

    -- one behind the first in one list stands behind it in the other
    later_on : (x y : Finding) (xs ys : List Finding) → x ≡ y → IsTrue (before_next x.state xs) → AreInNameOrder xs → (h : Finding) → Contains xs h → (y ≡ h) ⊎ Contains ys h → Contains ys h
    later_on x y xs ys is next order h among (inl here) =
        absurd (not_itself x.state (subst (λ (z : Finding). IsTrue (comes_before x.state z.state)) (sym (is ∙ here)) (before_each x.state xs next order h among)))
    later_on x y xs ys is next order h among (inr further) = further

    behind : (h : Finding) → Contains told h → Contains others h
    behind h among = later_on f g told others same ordered.0 ordered.1 h among (first_or_later g others h (there h (later f told h among)))

    before : (h : Finding) → Contains others h → Contains told h
    before h among = later_on g f others told (sym same) sorted.0 sorted.1 h among (first_or_later f told h (back h (later g others h among)))

module _ (machine : Scope) (declared : Declared) (certificate : Certificate) (all : List Finding) where
  -- the first of a name in the one is told in the other
  also_told : (told others : List Finding) → IsTelling machine declared certificate told → IsTelling machine declared certificate others → AreFirst all told → AreFirst all others → (f : Finding) → Contains told f → Contains others f
  also_told told others here there p q f among =
      let t = there.complete f (here.standing f among) in
      let one : Some f ≡ Some t.0 = sym (p f among) ∙ (ap (λ n. first_of n all) (sym t.2) ∙ q t.0 t.1) in
      let same : t.0 ≡ f = cc in
      subst (Contains others) same t.1

  right_same : (one other : Verdict) → IsRight machine declared certificate one → IsRight machine declared certificate other → TellsFirst all one → TellsFirst all other → one ≡ other
  right_same Accepted Accepted h k p q = refl
  right_same Accepted (Rejected told) h k p q = absurd (some_broken machine declared certificate told k h)
  right_same (Rejected told) Accepted h k p q = absurd (some_broken machine declared certificate told h k)
  right_same (Rejected told) (Rejected others) h k p q = ap Rejected (same_listed told others h.in_order k.in_order (also_told told others h k p q) (also_told others told k h q p))

-- ---- of texts

-- a text reads as one machine, as one declared record, as one certificate
abbrev OneMachine : Type 0
OneMachine = (text : List ℕ) (m n : Scope) → ReadsAsMachine text m → ReadsAsMachine text n → m ≡ n

abbrev OneDeclared : Type 0
OneDeclared = (text : List ℕ) (d e : Declared) → ReadsAsDeclared text d → ReadsAsDeclared text e → d ≡ e

abbrev OneCertificate : Type 0
OneCertificate = (text : List ℕ) (c d : Certificate) → ReadsAsCertificate text c → ReadsAsCertificate text d → c ≡ d

pub verdicts_agree : OneMachine → OneDeclared → OneCertificate → (definition declared certificate : List ℕ) (one other : Verdict)
    → IsVerdictOn definition declared certificate one → IsVerdictOn definition declared certificate other → Agree one other
verdicts_agree one_machine one_declared one_certificate definition declared certificate one other h k =
    let m : h.machine ≡ k.machine = one_machine definition h.machine k.machine h.read.as_machine k.read.as_machine in
    let d : h.shapes ≡ k.shapes = one_declared declared h.shapes k.shapes h.read.as_declared k.read.as_declared in
    let c : h.certified ≡ k.certified = one_certificate certificate h.certified k.certified h.read.as_certificate k.read.as_certificate in
    let right : IsRight k.machine k.shapes k.certified one = subst (λ x. IsRight k.machine k.shapes x one) c (subst (λ s. IsRight k.machine s h.certified one) d (subst (λ x. IsRight x h.shapes h.certified one) m h.right)) in
    right_agree k.machine k.shapes k.certified one other right k.right

-- where also the first of each name is told, they are one verdict
pub verdicts_same : OneMachine → OneDeclared → OneCertificate → (definition declared certificate : List ℕ) (one other : Verdict)
    → IsVerdictOn definition declared certificate one → IsVerdictOn definition declared certificate other
    → TellsFirstOn definition declared certificate one → TellsFirstOn definition declared certificate other → one ≡ other
verdicts_same one_machine one_declared one_certificate definition declared certificate one other h k p q =
    right_same k.machine k.shapes k.certified (listed (table_of k.machine) k.shapes k.certified) one other
    (moved (λ x s c. IsRight x s c one) h.machine h.shapes h.certified h.read h.right) k.right
    (moved (λ x s c. TellsFirst (listed (table_of x) s c) one) p.machine p.shapes p.certified p.read p.first)
    (moved (λ x s c. TellsFirst (listed (table_of x) s c) other) q.machine q.shapes q.certified q.read q.first)
  where
    -- what holds of what the texts read as
    moved : (P : Scope → Declared → Certificate → Type 0) (x : Scope) (s : Declared) (c : Certificate) → ReadAs definition declared certificate x s c → P x s c → P k.machine k.shapes k.certified
    moved P x s c read holds =
        subst (P k.machine k.shapes) (one_certificate certificate c k.certified read.as_certificate k.read.as_certificate)
        (subst (λ d. P k.machine d c) (one_declared declared s k.shapes read.as_declared k.read.as_declared)
        (subst (λ m. P m s c) (one_machine definition x k.machine read.as_machine k.read.as_machine) holds))
