pub mod InferredOnce
