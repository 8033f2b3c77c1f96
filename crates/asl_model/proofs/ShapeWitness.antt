-- The order of names, under the name by which proofs above know it.
pub use Rattle.asl_model.proofs.NamesInOrder.{comes_before-trans, comes_before-other, bytes_eq-comm}
