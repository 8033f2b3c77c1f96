-- What the fields of a failure say.
use Rattle.std.proofs.Common.{◌≡◌, ℕ, List, [], ◌∷◌, true, false, cond, Option, Some, None, option_map, option_and_then, codes, bytes_eq, nat_cmp, string_bytes, string_cmp, String, Global, BTreeMap, refl, sym, ap, ◌∙◌, rules}
use Rattle.std.proofs.lemmas.Map.Text.{btree_map_updates_text}
use Rattle.std.specs.BTreeMap.{UpdatesBy, get_by_text}
use Rattle.std.specs.Cmp.Lexicographic.{slice_cmp}
use Rattle.asl_model.specs.AnswersSpelling.{failing, only_fields, optional_text}
use Rattle.asl_model.specs.Run.{Action, FailsTask}
use Rattle.asl_model.specs.Test.{as_text}
use Rattle.asl_model.specs.Tree as model
use Rattle.asl_model.specs.Tree.{field_named}
use Rattle.asl_path.proofs.Nodes.{view-lookup}
use Rattle.asl_tree.specs.View.{view, entries_view}
use Rattle.asl_tree.specs.declared.Tree.{Tree, Object as object_tree, the_lemmas}

abbrev Map : Type 0
Map = BTreeMap (String Global) Tree

-- the failure with that error and that cause, if both are there
abbrev pub failure_of : Option model.Tree → Option model.Tree → Option Action
failure_of error cause = option_and_then (λ e. option_map (FailsTask e) (optional_text cause)) (option_and_then as_text error)

-- a change at one field leaves what is found at another
found_after : (field : List ℕ) (m after : Map) (w : Option Tree) (n : List ℕ) → UpdatesBy string_cmp (λ k. slice_cmp nat_cmp field (string_bytes k)) m after w → bytes_eq field n ≡ false → get_by_text after n ≡ get_by_text m n
found_after field m after w n updates other = btree_map_updates_text field m after w updates n ∙ ap (λ b. cond b w (get_by_text m n)) other

-- the failure by what is found as its error
pub failing_found : (tree : Tree) (m : Map) (error : Option Tree) → tree ≡ object_tree m → true ≡ only_fields (codes "Error" ∷ codes "Cause" ∷ []) (entries_view m.entries) → error ≡ get_by_text m (codes "Error")
    → failing (view tree) ≡ failure_of (option_map view error) (field_named (codes "Cause") (entries_view m.entries))
failing_found tree m error is known at =
    let fs = entries_view m.entries in
    let shown : view tree ≡ model.Object fs = rw is (search (rules, the_lemmas)) in
    let there : field_named (codes "Error") fs ≡ option_map view error = sym (ap (option_map view) at ∙ view-lookup (codes "Error") m.entries) in
    rw (shown, ← known, there) refl

-- its cause, when the error is taken out
pub cause_found : (m after : Map) (cause : Option Tree) → UpdatesBy string_cmp (λ k. slice_cmp nat_cmp (codes "Error") (string_bytes k)) m after None → cause ≡ get_by_text after (codes "Cause")
    → field_named (codes "Cause") (entries_view m.entries) ≡ option_map view cause
cause_found m after cause updates at =
    sym (ap (option_map view) (at ∙ found_after (codes "Error") m after None (codes "Cause") updates refl) ∙ view-lookup (codes "Cause") m.entries)

-- the error is no text
pub no_text : (t : Tree) (there : Option model.Tree) → None ≡ as_text (view t) → failure_of (Some (view t)) there ≡ None
no_text t there none = rw (← none) refl

-- the cause is no text
pub no_cause : (t : Tree) (error : List ℕ) (there : Option Tree) → Some error ≡ as_text (view t) → None ≡ optional_text (option_map view there) → failure_of (Some (view t)) (option_map view there) ≡ None
no_cause t error there e none = rw (← e, ← none) refl

-- both are texts, or there is no cause
pub told : (t : Tree) (error cause : List ℕ) (there : Option Tree) → Some error ≡ as_text (view t) → Some cause ≡ optional_text (option_map view there) → failure_of (Some (view t)) (option_map view there) ≡ Some (FailsTask error cause)
told t error cause there e c = rw (← e, ← c) refl
