-- What an answer to three texts promises: a definition, declared shapes and a certificate (the profile's own). The
-- headline stands here as `NeverFaults`.
use Rattle.std.specs.Prelude.{List}
use Rattle.asl_model.specs.Names.{Bytes}
use Rattle.asl_model.specs.Tree.{Tree}
use Rattle.asl_model.specs.Machine.{Scope}
use Rattle.asl_model.specs.Run.{Event, run_of, trace}
use Rattle.asl_model.specs.Certificate.{Declared, Certificate, IsClosed, Obeys, TellsNoFault, RunIsAsCertified}
use Rattle.asl_model.specs.Finding.{Finding}
use Rattle.asl_model.specs.Verdict.{Verdict, Accepted, Rejected, IsTelling, IsRight}
use Rattle.asl_model.specs.Texts.{ReadsAsMachine, ReadsAsDeclared, ReadsAsCertificate}

-- the three texts read as that machine, those declared shapes and that certificate
pub record ReadAs (definition declared certificate : Bytes) (machine : Scope) (shapes : Declared)
    (certified : Certificate) : Type 0 where
  pub as_machine : ReadsAsMachine definition machine
  pub as_declared : ReadsAsDeclared declared shapes
  pub as_certificate : ReadsAsCertificate certificate certified

-- the three texts read, and the verdict is right for what they read as
pub record IsVerdictOn (definition declared certificate : Bytes) (verdict : Verdict) : Type 0 where
  pub machine : Scope
  pub shapes : Declared
  pub certified : Certificate
  pub read : ReadAs definition declared certificate machine shapes certified
  pub right : IsRight machine shapes certified verdict

-- the three texts read, and the certificate is closed for the machine and the declared shapes
pub record AreClosed (definition declared certificate : Bytes) : Type 0 where
  pub machine : Scope
  pub shapes : Declared
  pub certified : Certificate
  pub read : ReadAs definition declared certificate machine shapes certified
  pub closed : IsClosed shapes certified machine

-- The three texts read, and for every input of the declared shape and every list of moves and task answers, branches
-- and iterations interleaved in any way, each answer a failure or of its declared shape, the run raises none of the six
-- data-flow faults, and every state's input, every task's payload and every output has its certified shape.
pub record NeverFaults (definition declared certificate : Bytes) : Type 0 where
  pub machine : Scope
  pub shapes : Declared
  pub certified : Certificate
  pub read : ReadAs definition declared certificate machine shapes certified
  pub tells_no_fault : (input : Tree) (events : List Event) → Obeys shapes machine input events
      → TellsNoFault (trace (run_of machine input events))
  pub as_certified : (input : Tree) (events : List Event) → Obeys shapes machine input events
      → RunIsAsCertified shapes certified machine input events

-- the three texts read, and these findings are the right ones to tell
pub record AreRejected (definition declared certificate : Bytes) (told : List Finding) : Type 0 where
  pub machine : Scope
  pub shapes : Declared
  pub certified : Certificate
  pub read : ReadAs definition declared certificate machine shapes certified
  pub telling : IsTelling machine shapes certified told

-- what holds where the verdict is yes
abbrev pub WhereAccepted : Type 0 → Verdict → Type 0
WhereAccepted promise Accepted = promise
WhereAccepted promise (Rejected told) = Unit {0}

-- what holds of the findings where the verdict is no
abbrev pub WhereRejected : (List Finding → Type 0) → Verdict → Type 0
WhereRejected promise Accepted = Unit {0}
WhereRejected promise (Rejected told) = promise told
