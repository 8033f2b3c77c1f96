use Rattle.std.proofs.Common.{refl}
use Rattle.asl_texts.specs.Verifying.{certificate_no_memory}
use Rattle.asl_texts.proofs.RefusedTexts.{read_streamed}
use Rattle.asl_texts.proofs.reading.streamed_certificate.Goals as goal

pub returns-in-Ok-read_streamed-clause-certificate : goal.returns-in-Ok-read_streamed-clause-certificate
returns-in-Ok-read_streamed-clause-certificate c =
    let text = c.in-Ok.ensures.cases in
    rw (← text.0) (read_streamed c.in-Ok.text.now c.in-Ok-read_streamed.found (rw text.0 text.1) c.in-Ok-read_streamed.ensures.certificate)

pub returns-in-Err-clause-refused : goal.returns-in-Err-clause-refused
returns-in-Err-clause-refused c = (refl, certificate_no_memory)
