use Rattle.std.proofs.Common.{refl}
use Rattle.asl_records.specs.Laws.{certificate_shown, certificate_within}
use Rattle.asl_ways.proofs.arriving.arrivals.Goals as goal

pub arrivals-requires : goal.arrivals-requires
arrivals-requires c = record { states = c.requires.within.states }

pub returns-clause-same : goal.returns-clause-same
returns-clause-same c = certificate_shown c.args.certificate.now (record { shapes = c.arrivals.new.shapes; output = c.args.certificate.now.output; states = c.args.certificate.now.states }) c.arrivals.ensures.keeps refl refl c.requires.within

pub returns-clause-within : goal.returns-clause-within
returns-clause-within c = certificate_within c.args.certificate.now (record { shapes = c.arrivals.new.shapes; output = c.args.certificate.now.output; states = c.args.certificate.now.states }) c.arrivals.ensures.keeps refl refl c.requires.within
