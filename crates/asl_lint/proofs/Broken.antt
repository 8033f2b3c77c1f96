-- What the rules come to that the certificate of lenient rounds breaks.
use Rattle.std.proofs.Common.{◌≡◌, ◌≢◌, ℕ, List, [], ◌∷◌, map, refl, sym, ap, ◌∙◌, subst}
use Rattle.asl_model.specs.Certificate.{Certificate, Declared}
use Rattle.asl_model.specs.Finding.{Finding}
use Rattle.asl_model.specs.Machine.{Scope}
use Rattle.asl_model.specs.Numbering.{Table, table_of}
use Rattle.asl_check.specs.Told.{listed}
use Rattle.asl_infer.specs.Lenient.{IsInferredLeniently, NeverSettlesLeniently}
use Rattle.asl_lint.specs.Tells.{TellsInstead, leniently, unbroken, unsettled_leniently}
use Rattle.asl_problems.specs.Told.{Told, of_finding, told_by}
use Rattle.asl_problems.specs.declared.problems.Problem.{Problem}

-- what is listed by the table of the machine that is shown
module _ (table : Table) (machine : Scope) (shapes : Declared) (certified : Certificate) (is : table ≡ table_of machine) where
  pub leniently_by : (rounds : ℕ) (found : Finding) (problems : List Problem) → IsInferredLeniently (table_of machine) shapes rounds certified → map told_by problems ≡ map of_finding (listed table shapes certified) → problems ≢ [] → TellsInstead rounds machine shapes found (map told_by problems)
  leniently_by rounds found problems inferred each some =
      let whole : map told_by problems ≡ map of_finding (listed (table_of machine) shapes certified) = each ∙ ap (λ t. map of_finding (listed t shapes certified)) is in
      leniently inferred (record {
        some = λ none. some (map_none problems (whole ∙ ap (map of_finding) none));
        each = whole;
      })
    where
      map_none : (ps : List Problem) → map told_by ps ≡ [] → ps ≡ []
      map_none [] e = refl
      map_none (p ∷ ps) e = absurd (cc)

  -- that finding, where no rule is broken
  pub unbroken_by : (rounds : ℕ) (found : Finding) (told : List Told) → IsInferredLeniently (table_of machine) shapes rounds certified → [] ≡ map of_finding (listed table shapes certified) → told ≡ of_finding found ∷ [] → TellsInstead rounds machine shapes found told
  unbroken_by rounds found told inferred none only =
      subst (TellsInstead rounds machine shapes found) (sym only)
      (unbroken inferred (none_mapped (listed (table_of machine) shapes certified) (none ∙ ap (λ t. map of_finding (listed t shapes certified)) is)))
    where
      none_mapped : (fs : List Finding) → [] ≡ map of_finding fs → fs ≡ []
      none_mapped [] e = refl
      none_mapped (f ∷ fs) e = absurd (cc)

-- that finding, where the lenient rounds don't settle
pub unsettled_by : (rounds : ℕ) (machine : Scope) (shapes : Declared) (found : Finding) (told : List Told) → NeverSettlesLeniently (table_of machine) shapes rounds → told ≡ of_finding found ∷ [] → TellsInstead rounds machine shapes found told
unsettled_by rounds machine shapes found told never only = subst (TellsInstead rounds machine shapes found) (sym only) (unsettled_leniently never)
