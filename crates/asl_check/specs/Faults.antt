-- What the checker finds broken in what flows, and what shows it, by the numbers of a table.
use Rattle.std.specs.Prelude.{◌≡◌, ◌≢◌, ◌<◌, ℕ, List, Option, None, IfSome, IsSome, string_bytes, ⊤}
use Rattle.asl_model.specs.Examples.{outside}
use Rattle.asl_model.specs.Finding as finding
use Rattle.asl_model.specs.Missing.{counterexample}
use Rattle.asl_model.specs.Path.{Segment, named_by}
use Rattle.asl_model.specs.PathSpelling.{Spells, printed_path}
use Rattle.asl_model.specs.Shape.{Shape}
use Rattle.asl_model.specs.Tree.{Tree}
use Rattle.asl_numbered.specs.Expansion.{shape_at}
use Rattle.asl_shape_paths.specs.Doubts.{doubtful_view}
use Rattle.asl_state_edges.specs.View.{finding_fault_view}
use Rattle.asl_check.specs.declared.faults.Fault.{Fault}
use Rattle.asl_check.specs.declared.faults.Shown.{Shown}
use Rattle.asl_check.specs.declared.faults.Shown.TheVariants.{Nothing, Missing, Outside}
use Rattle.asl_check.specs.declared.verdicts.MissingPath.{MissingPath}

-- the tree that shows a rule to be broken, if one does
abbrev pub shown_view : List Shape → Shown → Option Tree
shown_view table Nothing = None
shown_view table (Missing path name) = counterexample (doubtful_view table path)
shown_view table (Outside inner outer) = outside (shape_at table inner) (shape_at table outer)

-- a broken rule, with the shapes of a table
abbrev pub fault_view : List Shape → Fault → finding.Breach
fault_view table f =
    record { field = f.field.now; fault = finding_fault_view f.fault; example = shown_view table f.shown }

-- the numbers of what shows a rule to be broken are below that bound
abbrev pub IsShownBelow : ℕ → Shown → Type 0
IsShownBelow bound Nothing = ⊤
IsShownBelow bound (Missing path name) = path.shape < bound
IsShownBelow bound (Outside inner outer) = (inner < bound) × (outer < bound)

-- where a comparison shows it, the fault isn't that a path may name nothing
abbrev pub IsShownApart : finding.FindingFault → Shown → Type 0
IsShownApart fault Nothing = ⊤
IsShownApart fault (Missing path name) = ⊤
IsShownApart fault (Outside inner outer) = fault ≢ finding.PathMayBeMissing

-- so of a broken rule, and the numbers of what shows it are below that bound
pub record IsFaultBelow (bound : ℕ) (f : Fault) : Type 0 where
  pub below : IsShownBelow bound f.shown
  pub apart : IsShownApart (finding_fault_view f.fault) f.shown

-- what shows a rule to be broken is that path
abbrev pub IsShownBy : Shown → List Segment → Type 0
IsShownBy Nothing p = ⊥
IsShownBy (Missing path name) p = path.path.now ≡ p
IsShownBy (Outside inner outer) p = ⊥

-- where a path shows it, that path names nothing in the tree, if there is one
abbrev pub NamesNothing : Shown → Option Tree → Type 0
NamesNothing shown tree = (p : List Segment) → IsShownBy shown p → IfSome tree (λ t. named_by p t ≡ None)

-- the text is the printed form of a path that shows it
pub record IsTextOf (shown : Shown) (text : List ℕ) : Type 0 where
  pub path : List Segment
  pub shown_by : IsShownBy shown path
  pub printed : text ≡ printed_path path
  pub spells : Spells text path

-- A path is told of a broken rule: where it says that one may name nothing and a path shows it, and nowhere else, and it is
-- that path.
pub record IsPathOf (f : Fault) (path : Option MissingPath) : Type 0 where
  pub only : IfSome path (λ p. finding_fault_view f.fault ≡ finding.PathMayBeMissing)
  pub text : IfSome path (λ p. IsTextOf f.shown (string_bytes p.text))
  pub there : (p : List Segment) → IsShownBy f.shown p → finding_fault_view f.fault ≡ finding.PathMayBeMissing
      → IsSome path
