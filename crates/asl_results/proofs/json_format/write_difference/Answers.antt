use Rattle.asl_results.proofs.json_format.write_difference.Goals as goal

pub returns-in_ok-write_text-clause-tokens : goal.returns-in_ok-write_text-clause-tokens
returns-in_ok-write_text-clause-tokens c =
    simp (c.in_ok-write_text.ensures.tokens, c.deref.ensures, c.in-Some.is)
