use Rattle.std.specs.Prelude.{[]}
use Rattle.asl_model.specs.PathSpelling.{printed_path}
use Rattle.asl_model.proofs.PathPrinting.{printed_again, printed_spells, begun_have_spellings}
use Rattle.asl_model.proofs.PathReading.{path_of-is-Spells}
use Rattle.asl_model.proofs.reading_laws.printed_paths_are_spelled.Goals as goal

pub returns : goal.returns
returns c = record {
  again = printed_again;
  spelled = printed_spells;
  have_spellings = λ text p s. begun_have_spellings p s.segments [] s.all;
  read_back = λ p spelled. (path_of-is-Spells (printed_path p) p).1 (printed_spells p spelled);
}
