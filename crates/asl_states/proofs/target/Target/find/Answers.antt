use Rattle.asl_states.proofs.Found.{is_found, is_none}
use Rattle.asl_states.proofs.target.Target.find.Goals as goal

pub returns-in-Some-clause-number : goal.returns-in-Some-clause-number
returns-in-Some-clause-number c = is_found c.args.names.now.keys c.as_str.result.now _ c.get_index_of.result c.as_str.ensures.value c.get_index_of.ensures.index c.in-Some.is

pub returns-in_default-clause-number : goal.returns-in_default-clause-number
returns-in_default-clause-number c = is_none c.args.names.now.keys c.as_str.result.now _ c.get_index_of.result c.as_str.ensures.value c.get_index_of.ensures.index c.in_default.is
