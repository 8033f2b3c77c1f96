-- What the diagnostics of texts promise, by the errors among what they tell.
use Rattle.std.proofs.Common.{◌≡◌, ◌≢◌, ◌↔◌, ℕ, List, [], Option, Some, None, true, false, sym, ◌∙◌}
use Rattle.std.specs.List.{list_any}
use Rattle.asl_model.specs.Names.{Bytes}
use Rattle.asl_texts.specs.Laws.{Certified, Quiet, Unbroken}
use Rattle.asl_tool.specs.VerifiedInference.{IsAcceptedAsInferred, NeverFaultsAsInferred}
use Rattle.asl_texts.specs.Verifying.{MachineReads}
use Rattle.asl_diagnostics.specs.declared.Diagnostic.{Diagnostic}
use Rattle.asl_lint.specs.Linted.{IsFaulty, Tells, WhereDeclared, WhereUndeclared, text_of}
use Rattle.asl_problems.specs.Told.{Told, errors_in, has_error, is_error, told_of}
use Rattle.asl_problems.specs.declared.files.File.{File}
use Rattle.asl_lint.proofs.Errors.{any_in_order, none_kept, none_met, some_kept}
use Rattle.asl_lint.proofs.Outcomes.{none_where_yes, one_text, other_where_some, yes_where_none}

-- a yes promises that no run faults
never_faults : Unbroken → Quiet → Certified → (rounds : ℕ) (definition declared : Bytes) → IsAcceptedAsInferred rounds definition declared → NeverFaultsAsInferred rounds definition declared
never_faults unbroken quiet certified rounds definition declared v =
    let closed = unbroken v.machine v.shapes v.certified v.right in
    record {
      machine = v.machine;
      shapes = v.shapes;
      certified = v.certified;
      as_machine = v.as_machine;
      as_declared = v.as_declared;
      inferred = v.inferred;
      closed = closed;
      tells_no_fault = quiet v.shapes v.certified v.machine closed;
      as_certified = certified v.shapes v.certified v.machine closed;
    }

-- the diagnostics have an error where one is told
same_errors : (all : List Told) (ds : List Diagnostic) (rounds : ℕ) (definition : Bytes) (declared : Option Bytes) (t : Tells rounds definition declared ds) → list_any (λ (x : Told). is_error x.severity) t.all ≡ has_error ds
same_errors all ds rounds definition declared t = any_in_order (λ (x : Told). is_error x.severity) told_of t.all ds t.each

-- no error is among what is told where no diagnostic is one, and the other way round
no_errors : (rounds : ℕ) (definition : Bytes) (declared : Option Bytes) (ds : List Diagnostic) (t : Tells rounds definition declared ds) → has_error ds ≡ false → errors_in t.all ≡ []
no_errors rounds definition declared ds t none = none_kept (λ (x : Told). is_error x.severity) t.all (same_errors t.all ds rounds definition declared t ∙ none)

some_errors : (rounds : ℕ) (definition : Bytes) (declared : Option Bytes) (ds : List Diagnostic) (t : Tells rounds definition declared ds) → has_error ds ≡ true → errors_in t.all ≢ []
some_errors rounds definition declared ds t some = some_kept (λ (x : Told). is_error x.severity) t.all (same_errors t.all ds rounds definition declared t ∙ some)

none_of_these : (rounds : ℕ) (definition : Bytes) (declared : Option Bytes) (ds : List Diagnostic) (t : Tells rounds definition declared ds) → errors_in t.all ≡ [] → has_error ds ≡ false
none_of_these rounds definition declared ds t none = sym (same_errors t.all ds rounds definition declared t) ∙ none_met (λ (x : Told). is_error x.severity) t.all none

-- ---- the clauses

pub exactly : (rounds : ℕ) (definition : Bytes) (declared : Option File) (ds : List Diagnostic) → Tells rounds definition (text_of declared) ds → WhereDeclared (λ text. (has_error ds ≡ false) ↔ IsAcceptedAsInferred rounds definition text) declared
exactly rounds definition None ds t = tt
exactly rounds definition (Some file) ds t =
    let text = file.text.now in (
      λ none. yes_where_none rounds definition text (errors_in t.all) t.errors (no_errors rounds definition (Some text) ds t none),
      λ yes. none_of_these rounds definition (Some text) ds t (none_where_yes rounds definition text (errors_in t.all) t.errors yes),
    )

pub headline : Unbroken → Quiet → Certified → (rounds : ℕ) (definition : Bytes) (declared : Option File) (ds : List Diagnostic) → Tells rounds definition (text_of declared) ds → has_error ds ≡ false → WhereDeclared (NeverFaultsAsInferred rounds definition) declared
headline unbroken quiet certified rounds definition None ds t none = tt
headline unbroken quiet certified rounds definition (Some file) ds t none =
    never_faults unbroken quiet certified rounds definition file.text.now ((exactly rounds definition (Some file) ds t).0 none)

pub otherwise : (rounds : ℕ) (definition : Bytes) (declared : Option File) (ds : List Diagnostic) → Tells rounds definition (text_of declared) ds → has_error ds ≡ true → WhereDeclared (IsFaulty rounds definition) declared
otherwise rounds definition None ds t some = tt
otherwise rounds definition (Some file) ds t some =
    other_where_some rounds definition file.text.now (errors_in t.all) t.errors (some_errors rounds definition (Some file.text.now) ds t some)

pub alone : (rounds : ℕ) (definition : Bytes) (declared : Option File) (ds : List Diagnostic) → Tells rounds definition (text_of declared) ds → WhereUndeclared ((has_error ds ≡ false) ↔ MachineReads definition) declared
alone rounds definition None ds t =
    let one = one_text definition (errors_in t.all) t.errors in
    (λ none. one.0 (no_errors rounds definition None ds t none), λ reads. none_of_these rounds definition None ds t (one.1 reads))
alone rounds definition (Some file) ds t = tt
