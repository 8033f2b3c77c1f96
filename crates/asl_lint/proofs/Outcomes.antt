-- What the errors of two texts say of verifying them.
use Rattle.std.proofs.Common.{◌≡◌, ◌≢◌, ◌↔◌, ℕ, List, [], ◌∷◌, ◌++◌, map, refl, sym, ◌∙◌, subst, arith}
use Rattle.std.specs.List.{Contains}
use Rattle.serde_json.specs.Data.{Data}
use Rattle.asl_model.specs.Certificate.{Certificate, Declared}
use Rattle.asl_model.specs.Finding.{Finding}
use Rattle.asl_model.specs.Json.{ReadsAsValue}
use Rattle.asl_model.specs.Machine.{Scope}
use Rattle.asl_model.specs.Names.{Bytes}
use Rattle.asl_model.specs.Numbering.{table_of}
use Rattle.asl_model.specs.Records.{RecordComplaint, declared_complaints}
use Rattle.asl_model.specs.StandsFor.{Complaint, complaints}
use Rattle.asl_model.specs.Texts.{TextFault, NotJson, NotWhole, BadDefinition, BadRecord, IsDeclaredFault, IsDefinitionFault, ReadsAsDeclared, ReadsAsMachine, definition_no_json, definition_complaint, declared_no_json, declared_not_whole, declared_complaint}
use Rattle.asl_model.proofs.ReadingLaws.{declared_text_has_no_fault, definition_has_no_fault, text_has_one_declared, text_has_one_machine}
use Rattle.asl_draft_laws.specs.Drafts.{IsInferred}
use Rattle.asl_tool.specs.VerifiedInference.{IsAcceptedAsInferred}
use Rattle.asl_texts.specs.Verifying.{MachineReads}
use Rattle.asl_lint.specs.Linted as faulty
use Rattle.asl_lint.specs.Linted.{IsFaulty}
use Rattle.asl_lint.specs.Tells as tells
use Rattle.asl_lint.specs.Tells.{AreBroken, TellsOfBoth, TellsOfDeclared, TellsOfDefinition, TellsOfMachine, TellsOfOne, TellsInstead, leniently, unsettled_leniently, unbroken, inferred, stopped, unsettled, both_read, definition_reads, declared_reads, neither_reads, alone_reads, alone_refused}
use Rattle.asl_problems.specs.Told.{Told, of_complaint, of_finding, of_record}
use Rattle.asl_draft_laws.proofs.OneAnswer.{nothing_told, settles}

-- the first one is contained
first : {A : Type 0} (x : A) (xs : List A) → Contains (x ∷ xs) x
first x xs = (0, omega arith, refl)

-- what is mapped is empty only where nothing is
map_none : {A B : Type 0} (f : A → B) (xs : List A) → map f xs ≡ [] → xs ≡ []
map_none f [] e = refl
map_none f (x ∷ xs) e = absurd (cc)

-- nor are the first of two lists that are empty together
first_none : {A : Type 0} (xs ys : List A) → xs ++ ys ≡ [] → xs ≡ []
first_none [] ys e = refl
first_none (x ∷ xs) ys e = absurd (cc)

-- ---- refused texts

-- a complaint stands where some do
complaint_fault : (text : Bytes) (v : Data) (cs : List Complaint) → ReadsAsValue text v → complaints v ≡ cs → complaints v ≢ [] → (f : TextFault) × IsDefinitionFault text f
complaint_fault text v [] r same some = absurd (some same)
complaint_fault text v (c ∷ cs) r same some = (BadDefinition c, definition_complaint r (record { listed = subst (λ all. Contains all c) (sym same) (first c cs) }))

-- a fault stands where something is told of a text
definition_fault : (text : Bytes) (told : List Told) → TellsOfDefinition text told → (f : TextFault) × IsDefinitionFault text f
definition_fault text told (tells.definition_no_json h) = (NotJson, definition_no_json h)
definition_fault text told (tells.definition_refused {v = v} r some) = complaint_fault text v (complaints v) r refl some

record_fault : (text : Bytes) (v : Data) (cs : List RecordComplaint) → ReadsAsValue text v → declared_complaints v ≡ cs → declared_complaints v ≢ [] → (f : TextFault) × IsDeclaredFault text f
record_fault text v [] r same some = absurd (some same)
record_fault text v (c ∷ cs) r same some = (BadRecord c, declared_complaint r (record { listed = subst (λ all. Contains all c) (sym same) (first c cs) }))

declared_fault : (text : Bytes) (told : List Told) → TellsOfDeclared text told → (f : TextFault) × IsDeclaredFault text f
declared_fault text told (tells.declared_no_json h) = (NotJson, declared_no_json h)
declared_fault text told (tells.declared_not_whole r h) = (NotWhole, declared_not_whole r h)
declared_fault text told (tells.declared_refused {v = v} r some) = record_fault text v (declared_complaints v) r refl some

-- so it doesn't read
definition_unread : (text : Bytes) (told : List Told) (machine : Scope) → TellsOfDefinition text told → ReadsAsMachine text machine → ⊥
definition_unread text told machine t as_machine =
    let f = definition_fault text told t in
    definition_has_no_fault text machine f.0 as_machine f.1

declared_unread : (text : Bytes) (told : List Told) (shapes : Declared) → TellsOfDeclared text told → ReadsAsDeclared text shapes → ⊥
declared_unread text told shapes t as_declared =
    let f = declared_fault text told t in
    declared_text_has_no_fault text shapes f.0 as_declared f.1

-- something is told
definition_told : (text : Bytes) (told : List Told) → TellsOfDefinition text told → told ≡ [] → ⊥
definition_told text told (tells.definition_no_json h) e = absurd (cc)
definition_told text told (tells.definition_refused {v = v} r some) e = some (map_none of_complaint (complaints v) e)

declared_told : (text : Bytes) (told : List Told) → TellsOfDeclared text told → told ≡ [] → ⊥
declared_told text told (tells.declared_no_json h) e = absurd (cc)
declared_told text told (tells.declared_not_whole r h) e = absurd (cc)
declared_told text told (tells.declared_refused {v = v} r some) e = some (map_none of_record (declared_complaints v) e)

-- ---- a definition alone

pub one_text : (definition : Bytes) (told : List Told) → TellsOfOne definition told → (told ≡ []) ↔ MachineReads definition
one_text definition told (alone_reads m) = (λ _. record { machine = _; as_machine = m }, λ _. refl)
one_text definition told (alone_refused t) =
    (λ e. absurd (definition_told definition told t e), λ r. absurd (definition_unread definition told r.machine t r.as_machine))

-- ---- a machine and declared shapes

-- broken rules are told
some_told : (machine : Scope) (shapes : Declared) (certified : Certificate) (told : List Told) → AreBroken machine shapes certified told → told ≡ [] → ⊥
some_told machine shapes certified told b e = b.some (map_none of_finding _ (sym b.each ∙ e))

module _ (rounds : ℕ) (definition declared : Bytes) (machine : Scope) (shapes : Declared) (as_machine : ReadsAsMachine definition machine) (as_declared : ReadsAsDeclared declared shapes) where
  some_instead : (found : Finding) (told : List Told) → TellsInstead rounds machine shapes found told → told ≡ [] → ⊥
  some_instead found told (leniently {certified = certified} i b) e = some_told machine shapes certified told b e
  some_instead found told (unsettled_leniently never) e = absurd (cc)
  some_instead found told (unbroken i none) e = absurd (cc)

  -- where nothing is told, verifying says yes
  yes : (told : List Told) → TellsOfMachine rounds machine shapes told → told ≡ [] → IsAcceptedAsInferred rounds definition declared
  yes told (inferred i right) e = record { machine = machine; shapes = shapes; certified = _; as_machine = as_machine; as_declared = as_declared; inferred = i; right = right }
  yes told (stopped {found = found} h o t) e = absurd (some_instead found told t e)
  yes told (unsettled never few) e = absurd (cc)

  -- where something is told, it says another thing
  other : (told : List Told) → TellsOfMachine rounds machine shapes told → told ≢ [] → IsFaulty rounds definition declared
  other told (inferred i right) some = absurd (some refl)
  other told (stopped h o t) some = faulty.finding (record { machine = machine; shapes = shapes; as_machine = as_machine; as_declared = as_declared; told = h; finding = o })
  other told (unsettled never few) some = faulty.unsettled (record { machine = machine; shapes = shapes; as_machine = as_machine; as_declared = as_declared; changes = never; few = few })

-- where a certificate is inferred, nothing is told
none_told : (rounds : ℕ) (machine : Scope) (shapes : Declared) (certified : Certificate) (told : List Told) → IsInferred (table_of machine) shapes rounds certified → TellsOfMachine rounds machine shapes told → told ≡ []
none_told rounds machine shapes certified told i (inferred j right) = refl
none_told rounds machine shapes certified told i (stopped {found = found} h o t) = absurd (nothing_told (table_of machine) shapes rounds certified found i h)
none_told rounds machine shapes certified told i (unsettled never few) = absurd (settles (table_of machine) shapes rounds certified i never)

-- ---- both texts

pub yes_where_none : (rounds : ℕ) (definition declared : Bytes) (told : List Told) → TellsOfBoth rounds definition declared told → told ≡ [] → IsAcceptedAsInferred rounds definition declared
yes_where_none rounds definition declared told (both_read m d t) e = yes rounds definition declared _ _ m d told t e
yes_where_none rounds definition declared told (definition_reads m t) e = absurd (declared_told declared told t e)
yes_where_none rounds definition declared told (declared_reads t d) e = absurd (definition_told definition told t e)
yes_where_none rounds definition declared told (neither_reads {told = front} {others = others} t u) e = absurd (definition_told definition front t (first_none front others e))

pub other_where_some : (rounds : ℕ) (definition declared : Bytes) (told : List Told) → TellsOfBoth rounds definition declared told → told ≢ [] → IsFaulty rounds definition declared
other_where_some rounds definition declared told (both_read m d t) some = other rounds definition declared _ _ m d told t some
other_where_some rounds definition declared told (definition_reads m t) some = faulty.bad_declared (declared_fault declared _ t).1
other_where_some rounds definition declared told (declared_reads t d) some = faulty.bad_definition (definition_fault definition told t).1
other_where_some rounds definition declared told (neither_reads t u) some = faulty.bad_definition (definition_fault definition _ t).1

pub none_where_yes : (rounds : ℕ) (definition declared : Bytes) (told : List Told) → TellsOfBoth rounds definition declared told → IsAcceptedAsInferred rounds definition declared → told ≡ []
none_where_yes rounds definition declared told (both_read m d t) v =
    let one : v.machine ≡ _ = text_has_one_machine definition v.machine _ v.as_machine m in
    let same : v.shapes ≡ _ = text_has_one_declared declared v.shapes _ v.as_declared d in
    let inferred = subst (λ s. IsInferred (table_of _) s rounds v.certified) same (subst (λ x. IsInferred (table_of x) v.shapes rounds v.certified) one v.inferred) in
    none_told rounds _ _ v.certified told inferred t
none_where_yes rounds definition declared told (definition_reads m t) v = absurd (declared_unread declared _ v.shapes t v.as_declared)
none_where_yes rounds definition declared told (declared_reads t d) v = absurd (definition_unread definition told v.machine t v.as_machine)
none_where_yes rounds definition declared told (neither_reads t u) v = absurd (definition_unread definition _ v.machine t v.as_machine)
