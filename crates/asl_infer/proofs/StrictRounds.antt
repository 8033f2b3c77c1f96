-- Strict rounds are those of an inference, and lenient ones come to the same draft where no rule is broken.
use Rattle.std.proofs.Common.{◌≡◌, ◌≢◌, ◌+◌, ℕ, zero, suc, List, [], ◌∷◌, slice_get, Option, Some, None, Result, Ok, Err, refl, sym, ap, ◌∙◌, arith}
use mathlib.Core.Path.{fun_ext}
use Rattle.std.specs.List.{fold}
use Rattle.asl_model.specs.Certificate.{Certificate, Declared, takes_of}
use Rattle.asl_model.specs.Finding.{Finding, found_at}
use Rattle.asl_model.specs.Numbering.{Table}
use Rattle.asl_model.proofs.RunOptions.{none_some, some_inj}
use Rattle.asl_draft_laws.specs.Drafts.{Draft, IsInferred, NeverSettles, Row, Settles, after_rounds, all_walked, certificate_of, first_draft, input_taken, misnamed, own_breaches, round, rows_of, steps_of, unless_found, unless_told, walked}
use Rattle.asl_check.specs.View.{finding_view}
use Rattle.asl_infer.specs.Lenient.{NeverSettlesLeniently, SettlesLeniently, after_lenient_rounds, lenient_round, lenient_walk}
use Rattle.asl_infer.specs.Rounds.{IsEndBy, IsEndOf, IsLenientAnswer, NeverSettlesBy, SettlesBy, after_rounds_by, all_walked_by, round_by}
use Rattle.asl_infer.specs.declared.inferring.InferRefusal.{InferRefusal}
use Rattle.asl_infer.specs.declared.inferring.InferRefusal.TheVariants as refusal
use Rattle.asl_infer.specs.declared.rounds.Strictness.TheVariants.{Strict, Lenient}

module _ (table : Table) (declared : Declared) where
  -- ---- strict rounds

  strict-walks : (rows : List Row) (draft : Draft) → all_walked_by Strict table declared rows draft ≡ all_walked table declared rows draft
  strict-walks [] draft = refl
  strict-walks (row ∷ rows) draft = ap (λ go_on. unless_told go_on (walked table declared row draft)) (fun_ext (strict-walks rows))

  strict-round : (draft : Draft) → round_by Strict table declared draft ≡ round table declared draft
  strict-round draft = strict-walks (rows_of table) (input_taken table declared draft)

  strict-rounds : misnamed table declared ≡ [] → (n : ℕ) → after_rounds_by Strict table declared n ≡ after_rounds table declared n
  strict-rounds named zero = sym (ap (λ findings. unless_found findings (first_draft table)) named)
  strict-rounds named (suc n) =
      ap (unless_told (round_by Strict table declared)) (strict-rounds named n)
      ∙ ap (λ go_on. unless_told go_on (after_rounds table declared n)) (fun_ext strict-round)

  pub strict-settles : misnamed table declared ≡ [] → (rounds : ℕ) (draft : Draft) → SettlesBy Strict table declared rounds draft → Settles table declared rounds draft
  strict-settles named rounds draft is = record {
    before = is.before;
    within = is.within;
    comes = sym (strict-rounds named is.before) ∙ is.comes;
    stays = sym (strict-round draft) ∙ is.stays;
  }

  strict-never : misnamed table declared ≡ [] → (rounds : ℕ) → NeverSettlesBy Strict table declared rounds → NeverSettles table declared rounds
  strict-never named rounds never = record {
    changes = λ n less.
        let change = never.changes n less in
        (change.0, change.1, sym (strict-rounds named n) ∙ change.2, sym (strict-round change.0) ∙ change.3, change.4);
  }

  pub strict-ends : misnamed table declared ≡ [] → (rounds : ℕ) (why : InferRefusal) → IsEndBy Strict table declared rounds why → IsEndOf table declared rounds why
  strict-ends named rounds (refusal.Finding found) h = sym (strict-rounds named rounds) ∙ h
  strict-ends named rounds refusal.NotSettled h = (strict-never named rounds h.0, h.1)
  strict-ends named rounds refusal.OutOfMemory h = tt

  -- what is told of the names of tasks stays so
  pub told-first : (rounds : ℕ) (found : Finding) → slice_get (misnamed table declared) 0 ≡ Some found → after_rounds table declared rounds ≡ Err found
  told-first zero found h = by (misnamed table declared) h
    where
      by : (findings : List Finding) → slice_get findings 0 ≡ Some found → unless_found findings (first_draft table) ≡ Err found
      by [] e = none_some e
      by (first ∷ further) e = ap Err (some_inj e)
  told-first (suc rounds) found h = ap (unless_told (round table declared)) (told-first rounds found h)

  -- ---- lenient rounds

  lenient-walks : (rows : List Row) (draft : Draft) → all_walked_by Lenient table declared rows draft ≡ Ok (fold (lenient_walk table declared) draft rows)
  lenient-walks [] draft = refl
  lenient-walks (row ∷ rows) draft = lenient-walks rows (lenient_walk table declared draft row)

  lenient-round : (draft : Draft) → round_by Lenient table declared draft ≡ Ok (lenient_round table declared draft)
  lenient-round draft = lenient-walks (rows_of table) (input_taken table declared draft)

  lenient-rounds : (n : ℕ) → after_rounds_by Lenient table declared n ≡ Ok (after_lenient_rounds table declared n)
  lenient-rounds zero = refl
  lenient-rounds (suc n) =
      ap (unless_told (round_by Lenient table declared)) (lenient-rounds n)
      ∙ lenient-round (after_lenient_rounds table declared n)

  lenient-settles : (rounds : ℕ) (draft : Draft) → SettlesBy Lenient table declared rounds draft → SettlesLeniently table declared rounds draft
  lenient-settles rounds draft is = record {
    before = is.before;
    within = is.within;
    comes = let same : Ok (after_lenient_rounds table declared is.before) ≡ Ok draft = sym (lenient-rounds is.before) ∙ is.comes in cc;
    stays = let same : Ok (lenient_round table declared draft) ≡ Ok draft = sym (lenient-round draft) ∙ is.stays in cc;
  }

  pub lenient-answers : (rounds : ℕ) (draft : Draft) (certificate : Certificate) → SettlesBy Lenient table declared rounds draft → certificate ≡ certificate_of table draft → IsLenientAnswer table declared rounds (Some certificate)
  lenient-answers rounds draft certificate is same = record { draft = draft; settles = lenient-settles rounds draft is; same = same }

  lenient-never : (rounds : ℕ) → NeverSettlesBy Lenient table declared rounds → NeverSettlesLeniently table declared rounds
  lenient-never rounds never = record { changes = λ n less. other n (never.changes n less) }
    where
      other : (n : ℕ) → (before after : Draft) × (after_rounds_by Lenient table declared n ≡ Ok before) × (round_by Lenient table declared before ≡ Ok after) × (after ≢ before) → after_lenient_rounds table declared (suc n) ≢ after_lenient_rounds table declared n
      other n change same =
          let came : Ok (after_lenient_rounds table declared n) ≡ Ok change.0 = sym (lenient-rounds n) ∙ change.2 in
          let was : after_lenient_rounds table declared n ≡ change.0 = cc in
          let went : Ok (lenient_round table declared change.0) ≡ Ok change.1 = sym (lenient-round change.0) ∙ change.3 in
          let is : lenient_round table declared change.0 ≡ change.1 = cc in
          change.4 (sym is ∙ (ap (lenient_round table declared) (sym was) ∙ (same ∙ was)))

  -- no rule is told, so where they end they never settle
  pub lenient-ends : (rounds : ℕ) (why : InferRefusal) → why ≢ refusal.OutOfMemory → IsEndBy Lenient table declared rounds why → IsLenientAnswer table declared rounds None
  lenient-ends rounds (refusal.Finding found) other h =
      absurd (let never : Ok (after_lenient_rounds table declared rounds) ≡ Err (finding_view found) = sym (lenient-rounds rounds) ∙ h in cc)
  lenient-ends rounds refusal.NotSettled other h = (lenient-never rounds h.0, h.1)
  lenient-ends rounds refusal.OutOfMemory other h = absurd (other refl)

  -- ---- where no rule is broken

  pub walked-leniently : (row : Row) (draft next : Draft) → walked table declared row draft ≡ Ok next → lenient_walk table declared draft row ≡ next
  walked-leniently row draft next h = by (found_at row.name (own_breaches (takes_of declared row.name) (steps_of declared draft row))) h
    where
      by : (findings : List Finding) → unless_found findings (lenient_walk table declared draft row) ≡ Ok next → lenient_walk table declared draft row ≡ next
      by [] e = cc
      by (found ∷ further) e = absurd (cc)

  all-leniently : (rows : List Row) (draft next : Draft) → all_walked table declared rows draft ≡ Ok next → fold (lenient_walk table declared) draft rows ≡ next
  all-leniently [] draft next h = cc
  all-leniently (row ∷ rows) draft next h = by (walked table declared row draft) refl h (λ between. all-leniently rows between next)
    where
      by : (r : Result Draft Finding) → walked table declared row draft ≡ r → unless_told (all_walked table declared rows) r ≡ Ok next → ((between : Draft) → all_walked table declared rows between ≡ Ok next → fold (lenient_walk table declared) between rows ≡ next) → fold (lenient_walk table declared) (lenient_walk table declared draft row) rows ≡ next
      by (Ok between) is e further = ap (λ d. fold (lenient_walk table declared) d rows) (walked-leniently row draft between is) ∙ further between e
      by (Err found) is e further = absurd (cc)

  round-leniently : (draft next : Draft) → round table declared draft ≡ Ok next → lenient_round table declared draft ≡ next
  round-leniently draft next h = all-leniently (rows_of table) (input_taken table declared draft) next h

  rounds-leniently : (n : ℕ) (draft : Draft) → after_rounds table declared n ≡ Ok draft → after_lenient_rounds table declared n ≡ draft
  rounds-leniently zero draft h = by (misnamed table declared) h
    where
      by : (findings : List Finding) → unless_found findings (first_draft table) ≡ Ok draft → first_draft table ≡ draft
      by [] e = cc
      by (found ∷ further) e = absurd (cc)
  rounds-leniently (suc n) draft h = by (after_rounds table declared n) refl h (rounds-leniently n)
    where
      by : (r : Result Draft Finding) → after_rounds table declared n ≡ r → unless_told (round table declared) r ≡ Ok draft → ((before : Draft) → after_rounds table declared n ≡ Ok before → after_lenient_rounds table declared n ≡ before) → lenient_round table declared (after_lenient_rounds table declared n) ≡ draft
      by (Ok before) is e earlier = ap (lenient_round table declared) (earlier before is) ∙ round-leniently before draft e
      by (Err found) is e earlier = absurd (cc)

  -- a draft that a round leaves as it is stays so in further ones
  stays-so : (n more : ℕ) (draft : Draft) → after_lenient_rounds table declared n ≡ draft → lenient_round table declared draft ≡ draft → after_lenient_rounds table declared (more + n) ≡ draft
  stays-so n zero draft comes stays =
      let same : 0 + n ≡ n = omega arith in
      ap (after_lenient_rounds table declared) same ∙ comes
  stays-so n (suc more) draft comes stays =
      let same : suc more + n ≡ suc (more + n) = omega arith in
      ap (after_lenient_rounds table declared) same ∙ (ap (lenient_round table declared) (stays-so n more draft comes stays) ∙ stays)

  -- so there is one draft on which they settle
  settle-alike : (rounds others : ℕ) (one two : Draft) → SettlesLeniently table declared rounds one → Settles table declared others two → one ≡ two
  settle-alike rounds others one two is also =
      let first = stays-so is.before also.before one is.comes is.stays in
      let second = stays-so also.before is.before two (rounds-leniently also.before two also.comes) (round-leniently two two also.stays) in
      let many : also.before + is.before ≡ is.before + also.before = omega arith in
      sym first ∙ (ap (after_lenient_rounds table declared) many ∙ second)

  pub answers-alike : (rounds : ℕ) (found : Option Certificate) (other : Certificate) → IsLenientAnswer table declared rounds found → IsInferred table declared rounds other → found ≡ Some other
  answers-alike rounds (Some certificate) other is also =
      let draft = settle-alike rounds rounds is.draft also.draft is.settles also.settles in
      ap Some (is.same ∙ (ap (certificate_of table) draft ∙ sym also.same))
  answers-alike rounds None other is also =
      let settles = also.settles in
      let comes = rounds-leniently settles.before also.draft settles.comes in
      let stays = round-leniently also.draft also.draft settles.stays in
      absurd (is.0.changes settles.before settles.within (ap (lenient_round table declared) comes ∙ (stays ∙ sym comes)))
