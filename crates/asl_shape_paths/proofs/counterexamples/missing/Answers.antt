use Rattle.asl_shape_paths.proofs.counterexamples.missing.Goals as goal

pub missing_at-requires : goal.missing_at-requires
missing_at-requires c = record {
  number = c.in_ok-number.ensures.number.within;
}
