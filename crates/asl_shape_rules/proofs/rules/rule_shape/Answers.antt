use Rattle.asl_shape_rules.proofs.rules.rule_shape.Goals as goal

pub rule_shape_at-requires : goal.rule_shape_at-requires
rule_shape_at-requires c = record {
  number = c.in_ok-number.ensures.number.within;
}

pub expand-requires : goal.expand-requires
expand-requires c = record {
  number = c.in_ok-narrowed.ensures.number.within;
}
