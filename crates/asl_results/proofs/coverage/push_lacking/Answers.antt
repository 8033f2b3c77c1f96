use Rattle.asl_results.proofs.coverage.push_lacking.Goals as goal

pub returns : goal.returns
returns c = simp (c.in_ok-write.ensures.bytes, c.deref.ensures)
