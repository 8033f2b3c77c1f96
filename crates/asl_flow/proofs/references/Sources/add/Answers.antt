use Rattle.std.proofs.Common.{◌∙◌}
use Rattle.asl_numbered.specs.Laws.{kept_item, kept_item_within}
use Rattle.asl_flow.proofs.references.Sources.add.Goals as goal

pub returns-clause-within : goal.returns-clause-within
returns-clause-within c = record {
  input = c.in_ok-input.ensures.number.within;
  item = kept_item_within c.add_item.new.shapes c.add.new.self c.in_ok-item.item c.in_ok-input.ensures.keeps c.in_ok-item.ensures.within;
}

pub returns-clause-item : goal.returns-clause-item
returns-clause-item c =
    kept_item c.add_item.new.shapes c.add.new.self c.in_ok-item.item c.in_ok-input.ensures.keeps c.in_ok-item.ensures.within ∙ c.in_ok-item.ensures.shape
