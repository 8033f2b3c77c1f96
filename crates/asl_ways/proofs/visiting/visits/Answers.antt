use Rattle.std.proofs.Common.{refl}
use Rattle.asl_records.specs.Laws.{certificate_shown, certificate_within}
use Rattle.asl_ways.proofs.visiting.visits.Goals as goal

pub visits-requires : goal.visits-requires
visits-requires c = record { states = c.requires.within.states }

pub returns-clause-same : goal.returns-clause-same
returns-clause-same c = certificate_shown c.args.certificate.now (record { shapes = c.visits.new.shapes; output = c.args.certificate.now.output; states = c.args.certificate.now.states }) c.visits.ensures.keeps refl refl c.requires.within

pub returns-clause-within : goal.returns-clause-within
returns-clause-within c = certificate_within c.args.certificate.now (record { shapes = c.visits.new.shapes; output = c.args.certificate.now.output; states = c.args.certificate.now.states }) c.visits.ensures.keeps refl refl c.requires.within
