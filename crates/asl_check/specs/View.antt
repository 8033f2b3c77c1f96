-- What findings and verdicts stand for in the definitions.
use Rattle.std.specs.Prelude.{◌≡◌, ℕ, List, map, Option, None, IfSome, IsSome, option_map, string_bytes}
use Rattle.asl_model.specs.Finding as finding
use Rattle.asl_model.specs.Path.{Segment, named_by}
use Rattle.asl_model.specs.PathSpelling.{Spells, printed_path}
use Rattle.asl_model.specs.Tree.{Tree}
use Rattle.asl_model.specs.Verdict as verdicts
use Rattle.asl_tree.specs.View.{view as tree_view}
pub use Rattle.asl_state_edges.specs.View.{finding_fault_view}
use Rattle.asl_check.specs.declared.verdicts.Finding.{Finding}
use Rattle.asl_check.specs.declared.verdicts.Located.{Located}
use Rattle.asl_check.specs.declared.verdicts.Verdict.{Verdict}
use Rattle.asl_check.specs.declared.verdicts.Verdict.TheVariants as verdict

-- a finding, and the findings of a list
abbrev pub finding_view : Finding → finding.Finding
finding_view f = record {
  state = string_bytes f.state;
  field = string_bytes f.field;
  fault = finding_fault_view f.fault;
  example = option_map tree_view f.example;
}

abbrev pub findings_view : List Finding → List finding.Finding
findings_view fs = map finding_view fs

-- the findings alone of those that are told with their paths
abbrev pub findings_of : List Located → List finding.Finding
findings_of fs = map (λ (f : Located). finding_view f.finding) fs

-- the finding says that a path may name nothing
abbrev pub TellsMissing : Finding → Type 0
TellsMissing f = finding_fault_view f.fault ≡ finding.PathMayBeMissing

-- the text is the printed form of a path, which it spells, and which names nothing in the tree, if there is one
pub record SpellsMissing (text : List ℕ) (tree : Option Tree) : Type 0 where
  pub path : List Segment
  pub printed : text ≡ printed_path path
  pub spells : Spells text path
  pub nothing : IfSome tree (λ t. named_by path t ≡ None)

-- Where a finding has a path, it says that one may name nothing, and that path names nothing in its example. Where it
-- says so and has an example, it has a path.
pub record IsLocated (f : Located) : Type 0 where
  pub only : IfSome f.path (λ p. TellsMissing f.finding)
  pub missing : IfSome f.path (λ p. SpellsMissing (string_bytes p.text) (option_map tree_view f.finding.example))
  pub there : TellsMissing f.finding → IsSome f.finding.example → IsSome f.path

-- a verdict
abbrev pub verdict_view : Verdict → verdicts.Verdict
verdict_view verdict.Yes = verdicts.Accepted
verdict_view (verdict.No fs) = verdicts.Rejected (findings_view fs.items)
