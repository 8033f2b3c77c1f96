-- What is told of texts is errors alone.
use Rattle.std.proofs.Common.{◌≡◌, ℕ, List, [], ◌∷◌, ◌++◌, map, Option, Some, None, refl, sym, ap, ◌∙◌}
use Rattle.std.proofs.lemmas.List.Elements.{filter-append}
use Rattle.asl_model.specs.Certificate.{Certificate, Declared}
use Rattle.asl_model.specs.Finding.{Finding}
use Rattle.asl_model.specs.Machine.{Scope}
use Rattle.asl_model.specs.Names.{Bytes}
use Rattle.asl_model.specs.Records.{RecordComplaint, declared_complaints}
use Rattle.asl_model.specs.StandsFor.{Complaint, complaints}
use Rattle.asl_lint.specs.Tells as tells
use Rattle.asl_lint.specs.Tells.{AreBroken, TellsInstead, TellsOfBoth, TellsOfDeclared, TellsOfDefinition, TellsOfMachine, TellsOfOne, TellsOfTexts, leniently, unsettled_leniently, unbroken, inferred, stopped, unsettled, both_read, definition_reads, declared_reads, neither_reads, alone_reads, alone_refused}
use Rattle.asl_problems.specs.Told.{Told, errors_in, is_error, of_complaint, of_finding, of_record}

findings_kept : (fs : List Finding) → errors_in (map of_finding fs) ≡ map of_finding fs
findings_kept [] = refl
findings_kept (f ∷ fs) = ap (λ ts. of_finding f ∷ ts) (findings_kept fs)

complaints_kept : (cs : List Complaint) → errors_in (map of_complaint cs) ≡ map of_complaint cs
complaints_kept [] = refl
complaints_kept (c ∷ cs) = ap (λ ts. of_complaint c ∷ ts) (complaints_kept cs)

records_kept : (cs : List RecordComplaint) → errors_in (map of_record cs) ≡ map of_record cs
records_kept [] = refl
records_kept (c ∷ cs) = ap (λ ts. of_record c ∷ ts) (records_kept cs)

of_definition : (text : Bytes) (told : List Told) → TellsOfDefinition text told → errors_in told ≡ told
of_definition text told (tells.definition_no_json h) = refl
of_definition text told (tells.definition_refused {v = v} r some) = complaints_kept (complaints v)

of_declared : (text : Bytes) (told : List Told) → TellsOfDeclared text told → errors_in told ≡ told
of_declared text told (tells.declared_no_json h) = refl
of_declared text told (tells.declared_not_whole r h) = refl
of_declared text told (tells.declared_refused {v = v} r some) = records_kept (declared_complaints v)

of_broken : (machine : Scope) (shapes : Declared) (certified : Certificate) (told : List Told) → AreBroken machine shapes certified told → errors_in told ≡ told
of_broken machine shapes certified told b = ap errors_in b.each ∙ findings_kept _ ∙ sym b.each

of_instead : (rounds : ℕ) (machine : Scope) (shapes : Declared) (found : Finding) (told : List Told) → TellsInstead rounds machine shapes found told → errors_in told ≡ told
of_instead rounds machine shapes found told (leniently {certified = certified} i b) = of_broken machine shapes certified told b
of_instead rounds machine shapes found told (unsettled_leniently never) = refl
of_instead rounds machine shapes found told (unbroken i none) = refl

of_machine : (rounds : ℕ) (machine : Scope) (shapes : Declared) (told : List Told) → TellsOfMachine rounds machine shapes told → errors_in told ≡ told
of_machine rounds machine shapes told (inferred i right) = refl
of_machine rounds machine shapes told (stopped {found = found} h o t) = of_instead rounds machine shapes found told t
of_machine rounds machine shapes told (unsettled never few) = refl

of_one : (definition : Bytes) (told : List Told) → TellsOfOne definition told → errors_in told ≡ told
of_one definition told (alone_reads m) = refl
of_one definition told (alone_refused t) = of_definition definition told t

of_both : (rounds : ℕ) (definition declared : Bytes) (told : List Told) → TellsOfBoth rounds definition declared told → errors_in told ≡ told
of_both rounds definition declared told (both_read m d t) = of_machine rounds _ _ told t
of_both rounds definition declared told (definition_reads m t) = of_declared declared _ t
of_both rounds definition declared told (declared_reads t d) = of_definition definition told t
of_both rounds definition declared told (neither_reads {told = front} {others = others} t u) =
    filter-append (λ (x : Told). is_error x.severity) front others
    ∙ ap (λ ts. ts ++ errors_in others) (of_definition definition front t)
    ∙ ap (λ ts. front ++ ts) (of_declared declared others u)

pub all_errors : (rounds : ℕ) (definition : Bytes) (declared : Option Bytes) (told : List Told) → TellsOfTexts rounds definition declared told → errors_in told ≡ told
all_errors rounds definition None told t = of_one definition told t
all_errors rounds definition (Some declared) told t = of_both rounds definition declared told t
