-- Names of states by their numbers, and the scopes in which activities stand.
pub use Rattle.asl_model.specs.Run.{StandsIn, EachStandsIn}
pub use Rattle.asl_processing.specs.Activities.{children_of}
pub use Rattle.asl_processing.specs.Names.{no_name, name_in}
