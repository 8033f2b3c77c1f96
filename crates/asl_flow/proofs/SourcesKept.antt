-- What paths go into, in a table that has grown.
use Rattle.std.proofs.Common.{List, length, Option, subst}
use Rattle.asl_model.specs.Shape.{Shape}
use Rattle.asl_numbered.specs.Expansion.{Keeps}
use Rattle.asl_numbered.specs.Laws.{kept_item, kept_item_within, kept_shape, kept_within}
use Rattle.asl_flow.specs.Sources.{input_of, item_of, IsWithin}
use Rattle.asl_flow.specs.declared.references.Sources.{Sources}

module _ (old now : List Shape) (keeps : Keeps old now) where
  -- the numbers are in the new table
  pub sources_kept : (sources : Sources) → IsWithin (length old) sources → IsWithin (length now) sources
  sources_kept sources h = record { input = kept_within old now sources.input keeps h.input; item = kept_item_within old now sources.item keeps h.item }

  -- what is said of their shapes there was so before
  pub as_before : (sources : Sources) → IsWithin (length old) sources → (P : Shape → Option Shape → Type 0) → P (input_of now sources) (item_of now sources) → P (input_of old sources) (item_of old sources)
  as_before sources h P said = subst (λ i. P i (item_of old sources)) (kept_shape old now sources.input keeps h.input) (subst (λ i. P (input_of now sources) i) (kept_item old now sources.item keeps h.item) said)
