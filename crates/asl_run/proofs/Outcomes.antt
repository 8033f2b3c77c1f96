-- How a run has ended, by the node at the machine's own place.
use Rattle.std.proofs.Common.{◌≡◌, refl, sym, ap, ◌∙◌, ℕ, Global, List, slice_get, Some, None}
use Rattle.std.specs.declared.rc.Rc.{Rc}
use Rattle.asl_model.specs.Run as model
use Rattle.asl_model.specs.Run.{outcome_of}
use Rattle.asl_run.specs.Entries.{outcome_view}
use Rattle.asl_run.specs.Nodes.{IsTable, in_table, range_of, shown_at, shown_from, shown_over}
use Rattle.asl_run.specs.Standing.{children_of}
use Rattle.asl_processing.specs.declared.activities.Visit.{Visit}
use Rattle.asl_run.specs.declared.entries.Outcome.{Outcome}
use Rattle.asl_run.specs.declared.entries.Outcome.TheVariants as outcomes
use Rattle.asl_run.specs.declared.nodes.Children.{Children}
use Rattle.asl_run.specs.declared.nodes.Node.{Node}
use Rattle.asl_run.specs.declared.nodes.Node.TheVariants.{Ready, Waiting, Split, Ended}
use Rattle.asl_tree.specs.declared.Tree.{Tree}
use Rattle.asl_run.proofs.Tables.{shown_here}

shown_so : (names : List (List ℕ)) (nodes : List Node) → IsTable nodes → (i : ℕ) (node is : Node) → slice_get nodes i ≡ Some node → node ≡ is → outcome_of (shown_over names (children_of (in_table (range_of is) (shown_from names 0 nodes))) is) ≡ outcome_of (shown_at names nodes i)
shown_so names nodes table i node is there e = ap outcome_of (sym (shown_here names nodes table i is (there ∙ ap Some e)))

ended_shown : (names : List (List ℕ)) (below : model.Activities) (outcome : Outcome) → Some (outcome_view outcome) ≡ outcome_of (shown_over names below (Ended outcome))
ended_shown names below (outcomes.Output t) = refl
ended_shown names below (outcomes.Failed error cause) = refl

-- it has ended
pub has_ended_so : (names : List (List ℕ)) (nodes : List Node) → IsTable nodes → (i : ℕ) (node : Node) (outcome : Outcome) → slice_get nodes i ≡ Some node → node ≡ Ended outcome → Some (outcome_view outcome) ≡ outcome_of (shown_at names nodes i)
has_ended_so names nodes table i node outcome there e = ended_shown names (children_of (in_table (range_of (Ended outcome)) (shown_from names 0 nodes))) outcome ∙ shown_so names nodes table i node (Ended outcome) there e

-- it goes on
pub goes_on_ready : (names : List (List ℕ)) (nodes : List Node) → IsTable nodes → (i : ℕ) (node : Node) (visit : Visit) → slice_get nodes i ≡ Some node → node ≡ Ready visit → None ≡ outcome_of (shown_at names nodes i)
goes_on_ready names nodes table i node visit there e = shown_so names nodes table i node (Ready visit) there e

pub goes_on_waiting : (names : List (List ℕ)) (nodes : List Node) → IsTable nodes → (i : ℕ) (node : Node) (visit : Visit) (payload : Rc Tree Global) → slice_get nodes i ≡ Some node → node ≡ Waiting visit payload → None ≡ outcome_of (shown_at names nodes i)
goes_on_waiting names nodes table i node visit payload there e = shown_so names nodes table i node (Waiting visit payload) there e

pub goes_on_split : (names : List (List ℕ)) (nodes : List Node) → IsTable nodes → (i : ℕ) (node : Node) (visit : Visit) (children : Children) → slice_get nodes i ≡ Some node → node ≡ Split visit children → None ≡ outcome_of (shown_at names nodes i)
goes_on_split names nodes table i node visit children there e = shown_so names nodes table i node (Split visit children) there e
