use Rattle.std.proofs.Common.{refl}
use Rattle.asl_texts.specs.Verifying.{declared_no_memory}
use Rattle.asl_texts.proofs.RefusedTexts.{read_streamed_declared}
use Rattle.asl_texts.proofs.reading.streamed_declared.Goals as goal

pub returns-in-Ok-read_streamed_declared-clause-declared : goal.returns-in-Ok-read_streamed_declared-clause-declared
returns-in-Ok-read_streamed_declared-clause-declared c =
    let text = c.in-Ok.ensures.cases in
    rw (← text.0) (read_streamed_declared c.in-Ok.text.now c.in-Ok-read_streamed_declared.found (rw text.0 text.1) c.in-Ok-read_streamed_declared.ensures.declared)

pub returns-in-Err-clause-refused : goal.returns-in-Err-clause-refused
returns-in-Err-clause-refused c = (refl, declared_no_memory)
