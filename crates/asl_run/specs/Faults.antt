-- The faults of the definitions that those in a run's entries stand for.
pub use Rattle.asl_processing.specs.Faults.{error_view, fault_view}
