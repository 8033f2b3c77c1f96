use Rattle.std.proofs.Common.{refl}
use Rattle.asl_model.specs.TracePrinted.{trace_text}
use Rattle.asl_model.proofs.TraceLines.{no_raise_line}
use Rattle.asl_model.proofs.run_laws.faultless_traces_have_no_raise_line.Goals as goal

pub returns : goal.returns
returns c = λ told quiet. record { none = λ line within raise. no_raise_line told line (trace_text told) quiet refl within raise }
