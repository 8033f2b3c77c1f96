use Rattle.asl_fields.proofs.Told.{told_where_found}
use Rattle.asl_fields.proofs.telling.tell_found.Goals as goal

pub returns-in-Err : goal.returns-in-Err
returns-in-Err c = told_where_found c.tell.result c.args.told.now.items c.tell.new.told.items c.args.found c.in-Err.complaint c.in-Err.is c.tell.ensures
