use Rattle.std.proofs.Common.{◌++◌, ap, sym, ◌∙◌}
use Rattle.asl_diagnostics.specs.Sarif.{index_tokens}
use Rattle.asl_diagnostics.proofs.sarif_results.write_index.Goals as goal

pub returns-in_ok-write_number-clause-tokens : goal.returns-in_ok-write_number-clause-tokens
returns-in_ok-write_number-clause-tokens c =
    c.in_ok-write_number.ensures.tokens ∙ ap (λ index. c.args.writer.now.tokens ++ index_tokens index) (sym c.in-Some.is)
