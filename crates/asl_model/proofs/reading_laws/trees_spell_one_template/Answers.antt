use Rattle.asl_model.proofs.ReadingRules.{template_is_one, template_has_no_fault, template_or_fault, template_of-SpellsTemplate}
use Rattle.asl_model.proofs.reading_laws.trees_spell_one_template.Goals as goal

pub returns : goal.returns
returns c = record { template = template_is_one; no_fault = template_has_no_fault; either = template_or_fault; read = template_of-SpellsTemplate }
