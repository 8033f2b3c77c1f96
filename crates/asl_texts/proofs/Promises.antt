-- What a right verdict promises, by the laws that a certificate without a broken rule is closed, and that closed runs
-- never fault.
use Rattle.std.proofs.Common.{ℕ, List}
use Rattle.asl_model.specs.Verdict.{Verdict, Accepted, Rejected}
use Rattle.asl_texts.specs.Laws.{Certified, Quiet, Unbroken}
use Rattle.asl_model.specs.Headline.{IsVerdictOn, AreClosed, NeverFaults, AreRejected, WhereAccepted, WhereRejected}

pub closed : (definition declared certificate : List ℕ) (verdict : Verdict) → Unbroken → IsVerdictOn definition declared certificate verdict → WhereAccepted (AreClosed definition declared certificate) verdict
closed definition declared certificate Accepted unbroken v = record { machine = v.machine; shapes = v.shapes; certified = v.certified; read = v.read; closed = unbroken v.machine v.shapes v.certified v.right }
closed definition declared certificate (Rejected told) unbroken v = tt

pub headline : (definition declared certificate : List ℕ) (verdict : Verdict) → Quiet → Certified → WhereAccepted (AreClosed definition declared certificate) verdict → WhereAccepted (NeverFaults definition declared certificate) verdict
headline definition declared certificate Accepted quiet certified c = record {
  machine = c.machine;
  shapes = c.shapes;
  certified = c.certified;
  read = c.read;
  tells_no_fault = quiet c.shapes c.certified c.machine c.closed;
  as_certified = certified c.shapes c.certified c.machine c.closed;
}
headline definition declared certificate (Rejected told) quiet certified c = tt

pub rejected : (definition declared certificate : List ℕ) (verdict : Verdict) → IsVerdictOn definition declared certificate verdict → WhereRejected (AreRejected definition declared certificate) verdict
rejected definition declared certificate Accepted v = tt
rejected definition declared certificate (Rejected told) v = record { machine = v.machine; shapes = v.shapes; certified = v.certified; read = v.read; telling = v.right }
