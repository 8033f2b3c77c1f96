-- What is checked stays the same in a table that has grown.
use Rattle.std.proofs.Common.{◌≡◌, List, Bool, refl, sym, ap, ◌∙◌}
use Rattle.asl_model.specs.Shape as model
use Rattle.asl_numbered.specs.Expansion.{IsNumberOf, Keeps}
use Rattle.asl_numbered.specs.Laws.{kept_shape, kept_within}
use Rattle.asl_shape.specs.View.{view, shape_step, field_step}
use Rattle.asl_shape.specs.declared.shape.Shape as shape
use Rattle.asl_shape.specs.declared.shape.Shape.TheFolds.{fold-roll-Shape}
use Rattle.asl_shape.specs.declared.shape.Shape.TheOpen
use Rattle.asl_shape.specs.declared.shape.Shape.TheVariants
use Rattle.asl_records.specs.Laws.{entries_shown, entries_within}
use Rattle.asl_records.specs.Numbered.{AreWithin}
use Rattle.asl_records.specs.declared.records.NumberedCertificate.{NumberedCertificate}
use Rattle.asl_check.specs.Numbers.{IsWithin, certificate_of}
use Rattle.asl_check.specs.declared.checker.Checker.{Checker}

-- the shape of no tree
view_never : view shape.Never ≡ model.Never
view_never =
    ap view (sym TheVariants.rolls-Never) ∙ fold-roll-Shape model.Shape (Bool × model.Shape) shape_step field_step TheOpen.Never

module _ (a b : List model.Shape) (keeps : Keeps a b) (c : Checker) where
  pub certificate_kept : IsWithin a c → certificate_of b c ≡ certificate_of a c
  certificate_kept h = rw (kept_shape a b c.output keeps h.output, entries_shown a b keeps c.states.now.entries h.states) refl

  pub checker_within : IsWithin a c → IsWithin b c
  checker_within h = record {
    output = kept_within a b c.output keeps h.output;
    states = entries_within a b keeps c.states.now.entries h.states;
    never = kept_within a b c.never keeps h.never;
    no_tree = kept_shape a b c.never keeps h.never ∙ h.no_tree;
  }

-- the certificate with another table
abbrev pub in_table : NumberedCertificate → List model.Shape → NumberedCertificate
in_table certificate table = record { shapes = table; output = certificate.output; states = certificate.states }

-- the numbers of a certificate are checked, with that of no tree, which its table has now
pub checked_within : (certificate : NumberedCertificate) (b : List model.Shape) (c : Checker) → Keeps certificate.shapes b → c.output ≡ certificate.output → c.states.now ≡ certificate.states → AreWithin certificate
    → IsNumberOf b (view shape.Never) c.never → IsWithin b c
checked_within certificate b c keeps own those h never = record {
  output = rw own (kept_within certificate.shapes b certificate.output keeps h.output);
  states = rw those (entries_within certificate.shapes b keeps certificate.states.entries h.states);
  never = never.within;
  no_tree = never.same ∙ view_never;
}
