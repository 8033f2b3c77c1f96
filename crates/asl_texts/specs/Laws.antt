-- The laws by which a right verdict promises what it does.
use Rattle.std.specs.Prelude.{◌≡◌, List, []}
use Rattle.asl_model.specs.Tree.{Tree}
use Rattle.asl_model.specs.Machine.{Scope}
use Rattle.asl_model.specs.Run.{Event, run_of, trace}
use Rattle.asl_model.specs.Certificate.{Declared, Certificate, IsClosed, Obeys, TellsNoFault, RunIsAsCertified}
use Rattle.asl_model.specs.Finding.{findings}

-- where no rule is broken, the certificate is closed
abbrev pub Unbroken : Type 0
Unbroken = (machine : Scope) (declared : Declared) (certificate : Certificate) → findings machine declared certificate ≡ [] → IsClosed declared certificate machine

-- a run of a closed certificate tells no fault, and is as certified
abbrev pub Quiet : Type 0
Quiet = (declared : Declared) (certificate : Certificate) (machine : Scope) → IsClosed declared certificate machine → (input : Tree) (events : List Event) → Obeys declared machine input events → TellsNoFault (trace (run_of machine input events))

abbrev pub Certified : Type 0
Certified = (declared : Declared) (certificate : Certificate) (machine : Scope) → IsClosed declared certificate machine → (input : Tree) (events : List Event) → Obeys declared machine input events → RunIsAsCertified declared certificate machine input events
