use Rattle.asl_suites.proofs.Named.{put_over}
use Rattle.asl_suites.proofs.answers.CaseAnswers.or_mocked.Goals as goal

pub returns : goal.returns
returns c =
    put_over c.args.self.states c.args.mocked.states c.append.new.self c.append.ensures.other_was_ordered c.in_ok-append.ensures.inserts_all
