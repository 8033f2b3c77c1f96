-- What the rounds of an inference come to is one thing: a certificate, a finding, or no end.
use Rattle.std.proofs.Common.{◌≡◌, ◌+◌, ◌-◌, ℕ, zero, suc, Ok, Err, sym, ap, ◌∙◌, subst, arith}
use Rattle.asl_model.specs.Certificate.{Certificate, Declared}
use Rattle.asl_model.specs.Finding.{Finding}
use Rattle.asl_model.specs.Numbering.{Table}
use Rattle.asl_draft_laws.specs.Drafts.{Draft, IsInferred, IsTold, NeverSettles, after_rounds, certificate_of, round, unless_told}

module _ (table : Table) (declared : Declared) where
  -- further rounds leave a draft as it is that one round does
  further : (draft : Draft) (n : ℕ) → after_rounds table declared n ≡ Ok draft → round table declared draft ≡ Ok draft → (k m : ℕ) → m ≡ k + n → after_rounds table declared m ≡ Ok draft
  further draft n comes stays zero m e =
      let same : m ≡ n = omega (arith, e) in
      subst (λ r. after_rounds table declared r ≡ Ok draft) (sym same) comes
  further draft n comes stays (suc k) zero e = absurd (omega (arith, e))
  further draft n comes stays (suc k) (suc m) e =
      let one_less : m ≡ k + n = omega (arith, e) in
      ap (unless_told (round table declared)) (further draft n comes stays k m one_less) ∙ stays

  -- so many rounds come to the draft on which they settle
  settled : (rounds : ℕ) (c : Certificate) (i : IsInferred table declared rounds c) → after_rounds table declared rounds ≡ Ok i.draft
  settled rounds c i =
      let n = i.settles.before in
      let within = i.settles.within in
      let whole : rounds ≡ (rounds - n) + n = omega (arith, within) in
      further i.draft n i.settles.comes i.settles.stays (rounds - n) rounds whole

  -- one certificate is inferred
  pub inferred_once : (rounds : ℕ) (c d : Certificate) → IsInferred table declared rounds c → IsInferred table declared rounds d → c ≡ d
  inferred_once rounds c d a b =
      let both : Ok a.draft ≡ Ok b.draft = sym (settled rounds c a) ∙ settled rounds d b in
      let one : a.draft ≡ b.draft = cc in
      a.same ∙ ap (certificate_of table) one ∙ sym b.same

  -- where one is, no finding is told
  pub nothing_told : (rounds : ℕ) (c : Certificate) (f : Finding) → IsInferred table declared rounds c → IsTold table declared rounds f → ⊥
  nothing_told rounds c f i told =
      let both : Ok i.draft ≡ Err f = sym (settled rounds c i) ∙ told in
      absurd (cc)

  -- and the rounds settle
  pub settles : (rounds : ℕ) (c : Certificate) → IsInferred table declared rounds c → NeverSettles table declared rounds → ⊥
  settles rounds c i never =
      let n = i.settles.before in
      let h = never.changes n i.settles.within in
      let comes : Ok h.0 ≡ Ok i.draft = sym h.2 ∙ i.settles.comes in
      let same : h.0 ≡ i.draft = cc in
      let goes : Ok h.1 ≡ Ok i.draft = sym h.3 ∙ ap (round table declared) same ∙ i.settles.stays in
      let still : h.1 ≡ i.draft = cc in
      h.4 (still ∙ sym same)
