-- Where a yes was given, no run with the same declared shapes tells a fault.
use Rattle.std.proofs.Common.{◌≡◌, ℕ, List, [], Option, Some, None, refl, sym, subst}
use Rattle.asl_model.specs.Certificate.{Declared, Obeys, TellsNoFault}
use Rattle.asl_model.specs.Headline.{NeverFaults}
use Rattle.asl_model.specs.Machine.{Scope}
use Rattle.asl_model.specs.Printed.{RunEnd}
use Rattle.asl_model.specs.Run.{Entry, Event, run_of, trace}
use Rattle.asl_model.specs.Texts.{ReadsAsMachine, ReadsAsDeclared}
use Rattle.asl_model.specs.TracePrinted.{HasNoRaiseLine, trace_text}
use Rattle.asl_model.specs.Tree.{Tree}
use Rattle.asl_texts.specs.Runs.{ObeysShapes, ReadsAsShapes, RunsTo, RunsTexts, input_misfits, is_run, request_of, texts_of, turns_of}
use Rattle.asl_texts.specs.declared.runs.Pick.{Pick}

-- the laws that a text reads as one machine, and as one record of declared shapes, and that of the lines of a history
abbrev OneMachine : Type 0
OneMachine = (text : List ℕ) (m n : Scope) → ReadsAsMachine text m → ReadsAsMachine text n → m ≡ n

abbrev OneDeclared : Type 0
OneDeclared = (text : List ℕ) (d e : Declared) → ReadsAsDeclared text d → ReadsAsDeclared text e → d ≡ e

abbrev Unraised : Type 0
Unraised = (told : List (List ℕ × Entry)) → TellsNoFault told → HasNoRaiseLine (trace_text told)

-- what is told of a machine and declared shapes
abbrev IsQuiet : Tree → List Event → Scope → Declared → Type 0
IsQuiet input events machine shapes = Obeys shapes machine input events → TellsNoFault (trace (run_of machine input events))

pub no_raise : OneMachine → OneDeclared → Unraised → (definition declared certificate : List ℕ) → NeverFaults definition declared certificate
    → (input : List ℕ) (known : Option (List ℕ)) (order : Pick) (most : ℕ) (end : RunEnd) (text : List ℕ)
    → RunsTexts (request_of (texts_of definition (Some declared) input known) order most) end text → HasNoRaiseLine text
no_raise one_machine one_declared unraised definition declared certificate safe input known order most end text r = by r.given.shapes end text refl r.read.as_shapes r.runs
  where
    same_machine : safe.machine ≡ r.given.machine
    same_machine = one_machine definition safe.machine r.given.machine safe.read.as_machine r.read.as_machine

    by : (shapes : Option Declared) (e : RunEnd) (written : List ℕ) → r.given.shapes ≡ shapes → ReadsAsShapes (Some declared) shapes → RunsTo r.given order most e written → HasNoRaiseLine written
    by None e written is reads runs = absurd reads
    by (Some d) e written is reads (input_misfits misfit) = unraised [] tt
    by (Some d) e written is reads (is_run run) =
        let same : safe.shapes ≡ d = one_declared declared safe.shapes d safe.read.as_declared reads in
        let quiet : IsQuiet r.given.input run.events r.given.machine d = subst (λ m. IsQuiet r.given.input run.events m d) same_machine (subst (IsQuiet r.given.input run.events safe.machine) same (safe.tells_no_fault r.given.input run.events)) in
        let obeys : ObeysShapes (Some d) r.given.machine r.given.input run.events = subst (λ s. ObeysShapes s r.given.machine r.given.input run.events) is run.obeys in
        subst HasNoRaiseLine (sym run.told) (unraised (trace (turns_of r.given run.events)) (quiet obeys))
