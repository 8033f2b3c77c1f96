use Rattle.asl_texts.proofs.RaiseLines.{no_raise}
use Rattle.asl_texts.proofs.laws.verified_runs_write_no_raise_line.Goals as goal

pub returns : goal.returns
returns c = no_raise c.texts_have_one_meaning.ensures.machine c.texts_have_one_meaning.ensures.declared c.faultless_traces_have_no_raise_line.ensures
