-- What is inferred of a machine.
use Rattle.std.proofs.Common.{◌≡◌, ℕ, List, [], IfOk, Result, Ok, Err, true, None, sym, ap, ◌∙◌, subst}
use Rattle.asl_model.specs.Certificate as model
use Rattle.asl_model.specs.Certificate.{IsClosed}
use Rattle.asl_model.specs.Finding.{Finding, findings}
use Rattle.asl_model.specs.Machine.{Scope}
use Rattle.asl_model.specs.Numbering.{IsWellNamed, Table, standing, table_of}
use Rattle.asl_model.specs.ShapeSpelling.{are_distinct}
use Rattle.asl_model.proofs.Numbering.{names_of_standing, outlined_names}
use Rattle.asl_draft_laws.specs.Drafts.{Draft, IsInferred, IsTold, Settles, certificate_of, misnamed}
use Rattle.asl_draft_laws.proofs.CertifiedRows.{Among}
use Rattle.asl_model.specs.RecordShapes.{HoldsForCertificate, HoldsForDeclared}
use Rattle.asl_model.specs.Shape.{IsOrdered, IsProperShape, Shape}
use Rattle.asl_model.proofs.RecordsBack.{both_certificate}
use Rattle.asl_model.proofs.ShapeExample.{proper-ordered}
use Rattle.asl_numbered.specs.Expansion.{shape_at}
use Rattle.asl_records.proofs.References.{certificate_proper}
use Rattle.asl_records.specs.Numbered.{numbered_view}
use Rattle.asl_records.specs.declared.records.NumberedCertificate.{NumberedCertificate}
use Rattle.asl_records.specs.View.{declared_view}
use Rattle.asl_records.specs.declared.records.Declared as code
use Rattle.asl_machine_table.specs.Table.{Shows, table_view}
use Rattle.asl_machine_table.specs.declared.machine.Machine.{Machine}
use Rattle.asl_check.specs.View.{finding_view}
use Rattle.asl_check.proofs.TableEnds.{distinct}
use Rattle.asl_check.proofs.TableNames.{task-named}
use Rattle.asl_infer.specs.Declarations.{AreNamed, NamesTell}
use Rattle.asl_infer.specs.Inferring.{IsInferRefusal, IsOfMachine, IsReasonOf}
use Rattle.asl_infer.specs.Rounds.{EndsWhereDistinct, Infers, IsEndOf, IsGivenOf, Refuses, SettlesWhereDistinct, declared_in, table_in}
use Rattle.asl_infer.specs.declared.rounds.Given.{Given}
use Rattle.asl_infer.specs.declared.rounds.Strictness.{Strictness}
use Rattle.asl_infer.specs.declared.rounds.Strictness.TheVariants.{Strict}
use Rattle.asl_infer.specs.declared.inferring.InferRefusal.{InferRefusal}
use Rattle.asl_infer.specs.declared.inferring.InferRefusal.TheVariants as refusal
use Rattle.asl_infer.proofs.FirstNames.{have-named}
use Rattle.asl_infer.proofs.MisnamedFindings.{BrokenStands, ExamplesStand, misnamed-stands}
use Rattle.asl_infer.proofs.StrictRounds.{strict-ends, strict-settles, told-first}
use Rattle.asl_infer.proofs.ToldFindings.{StandsInTable, in-rounds}

-- ---- by a table

module _ (table : Table) (declared : model.Declared) (rounds : ℕ) where
  -- the certificate of the draft on which the rounds settle
  pub infers : (draft : Draft) (certificate : model.Certificate) → AreNamed table declared → SettlesWhereDistinct Strict table declared rounds draft → (are_distinct table.names ≡ true → certificate ≡ certificate_of table draft) → Infers table declared rounds certificate
  infers draft certificate named settles same = record {
    inferred = λ d. record { draft = draft; settles = strict-settles table declared (named.named d) rounds draft (settles.settles d); same = same d };
  }

  -- a refusal by the names of tasks
  pub names-refuse : (why : InferRefusal) → NamesTell table declared why → Refuses table declared rounds why
  names-refuse why tells = record { refuses = λ d. by why d tells }
    where
      by : (r : InferRefusal) → are_distinct table.names ≡ true → NamesTell table declared r → IsEndOf table declared rounds r
      by (refusal.Finding found) d h = told-first table declared rounds (finding_view found) (h.tells d)
      by refusal.NotSettled d h = absurd (h.tells d)
      by refusal.OutOfMemory d h = tt

  -- and one by the rounds
  pub rounds-refuse : (why : InferRefusal) → AreNamed table declared → EndsWhereDistinct Strict table declared rounds why → Refuses table declared rounds why
  rounds-refuse why named ends = record { refuses = λ d. strict-ends table declared (named.named d) rounds why (ends.ends d) }

-- ---- by a machine

-- no name stands twice
pub well-distinct : (machine : Scope) → IsWellNamed machine → are_distinct (table_of machine).names ≡ true
well-distinct machine well = ap are_distinct (outlined_names (standing machine) ∙ names_of_standing None machine) ∙ well.distinct

module _ (shown : Machine) (declared : model.Declared) (rounds : ℕ) where
  pub inferred-of : (certificate : model.Certificate) → Infers (table_view shown) declared rounds certificate → (machine : Scope) → Shows shown machine → IsInferred (table_of machine) declared rounds certificate
  inferred-of certificate infers machine shows =
      let there : Infers (table_of machine) declared rounds certificate = subst (λ t. Infers t declared rounds certificate) shows.table infers in
      there.inferred (well-distinct machine shows.well_named)

  -- it is closed
  pub closed-of : ((machine : Scope) (declared : model.Declared) (rounds : ℕ) (draft : Draft) → IsWellNamed machine → Settles (table_of machine) declared rounds draft → IsClosed declared (certificate_of (table_of machine) draft) machine) → (certificate : model.Certificate) → Infers (table_view shown) declared rounds certificate → (machine : Scope) → Shows shown machine → IsClosed declared certificate machine
  closed-of law certificate infers machine shows =
      let is = inferred-of certificate infers machine shows in
      subst (λ c. IsClosed declared c machine) (sym is.same) (law machine declared rounds is.draft shows.well_named is.settles)

  -- it breaks no rule, where names stand in order
  pub rules-of : ((machine : Scope) (declared : model.Declared) (rounds : ℕ) (draft : Draft) → IsWellNamed machine → Settles (table_of machine) declared rounds draft → HoldsForDeclared IsOrdered declared → HoldsForCertificate IsOrdered (certificate_of (table_of machine) draft) → findings machine declared (certificate_of (table_of machine) draft) ≡ []) → HoldsForDeclared IsOrdered declared → (certificate : model.Certificate) → Infers (table_view shown) declared rounds certificate → HoldsForCertificate IsOrdered certificate → (machine : Scope) → Shows shown machine → findings machine declared certificate ≡ []
  rules-of law known certificate infers sure machine shows =
      let is = inferred-of certificate infers machine shows in
      subst (λ c. findings machine declared c ≡ []) (sym is.same) (law machine declared rounds is.draft shows.well_named is.settles known (subst (HoldsForCertificate IsOrdered) is.same sure))

  end-of : (why : InferRefusal) → Refuses (table_view shown) declared rounds why → (machine : Scope) → Shows shown machine → IsEndOf (table_of machine) declared rounds why
  end-of why refuses machine shows =
      let there : Refuses (table_of machine) declared rounds why = subst (λ t. Refuses t declared rounds why) shows.table refuses in
      there.refuses (well-distinct machine shows.well_named)

  pub reason-of : (why : InferRefusal) → Refuses (table_view shown) declared rounds why → (machine : Scope) → Shows shown machine → IsReasonOf (table_of machine) declared rounds why
  reason-of why refuses machine shows = by why (end-of why refuses machine shows)
    where
      by : (r : InferRefusal) → IsEndOf (table_of machine) declared rounds r → IsReasonOf (table_of machine) declared rounds r
      by (refusal.Finding found) h = h
      by refusal.NotSettled h = h.0
      by refusal.OutOfMemory h = tt

  pub refusal-of : ((machine : Scope) (declared : model.Declared) (rounds : ℕ) (found : Finding) → IsWellNamed machine → IsTold (table_of machine) declared rounds found → IsOfMachine machine declared found) → (why : InferRefusal) → Refuses (table_view shown) declared rounds why → (machine : Scope) → Shows shown machine → IsInferRefusal machine declared rounds why
  refusal-of law why refuses machine shows = by why (end-of why refuses machine shows)
    where
      by : (r : InferRefusal) → IsEndOf (table_of machine) declared rounds r → IsInferRefusal machine declared rounds r
      by (refusal.Finding found) h = law machine declared rounds (finding_view found) shows.well_named h
      by refusal.NotSettled h = h.1
      by refusal.OutOfMemory h = tt

-- two facts of one answer
pub both : {T E : Type 0} (P Q : T → Type 0) (r : Result T E) → IfOk r P → IfOk r Q → IfOk r (λ x. P x × Q x)
both P Q (Ok x) p q = (p, q)
both P Q (Err e) p q = tt

-- names stand in order in the shapes of a table
pub certificate-ordered : (certificate : NumberedCertificate) → ((n : ℕ) → IsProperShape (shape_at certificate.shapes n)) → HoldsForCertificate IsOrdered (numbered_view certificate)
certificate-ordered certificate proper =
    let all = certificate_proper certificate proper in
    both_certificate IsProperShape IsProperShape IsOrdered (λ s h p. proper-ordered s h) (numbered_view certificate) all all

-- ---- what is told stands for some certificate

pub told-stands : StandsInTable → BrokenStands → ExamplesStand → (machine : Scope) (declared : model.Declared) (rounds : ℕ) (found : Finding) → IsWellNamed machine → IsTold (table_of machine) declared rounds found → IsOfMachine machine declared found
told-stands law broken shown machine declared rounds found well h = in-rounds law machine declared names rounds found h
  where
    names : (other : Finding) → Among (misnamed (table_of machine) declared) other → IsOfMachine machine declared other
    names other among = misnamed-stands broken shown machine declared other (λ n. have-named (table_of machine) n (well-distinct machine well) ∙ task-named machine n (distinct machine well)) among

-- ---- by what is given

module _ (shown : Machine) (declared : code.Declared) (strictness : Strictness) (table : List Shape) (given : Given) (of : IsGivenOf shown declared strictness table given) where
  -- it is of the same table and the same shapes, and the rounds are as strict
  pub moved : (P : Strictness → Table → model.Declared → Type 0) → P given.strictness (table_in given) (declared_in given) → P strictness (table_view shown) (declared_view declared)
  moved P h = subst (λ s. P s (table_view shown) (declared_view declared)) of.strict (subst (λ d. P given.strictness (table_view shown) (declared_view d)) of.declares (subst (λ m. P given.strictness (table_view m) (declared_in given)) of.machine h))

module _ (shown : Machine) (declared : code.Declared) (table : List Shape) (given : Given) (of : IsGivenOf shown declared Strict table given) (rounds : ℕ) where
  pub given-refuses : (why : InferRefusal) → AreNamed (table_view shown) (declared_view declared) → EndsWhereDistinct given.strictness (table_in given) (declared_in given) rounds why → Refuses (table_view shown) (declared_view declared) rounds why
  given-refuses why named ends = rounds-refuse (table_view shown) (declared_view declared) rounds why named (moved shown declared Strict table given of (λ s t d. EndsWhereDistinct s t d rounds why) ends)

  pub given-infers : (draft : Draft) (certificate : model.Certificate) → AreNamed (table_view shown) (declared_view declared) → SettlesWhereDistinct given.strictness (table_in given) (declared_in given) rounds draft → (are_distinct (table_view shown).names ≡ true → certificate ≡ certificate_of (table_view shown) draft) → Infers (table_view shown) (declared_view declared) rounds certificate
  given-infers draft certificate named settles same = infers (table_view shown) (declared_view declared) rounds draft certificate named (moved shown declared Strict table given of (λ s t d. SettlesWhereDistinct s t d rounds draft) settles) same
