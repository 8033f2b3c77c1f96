-- The path that a finding tells, by what shows its rule to be broken.
use Rattle.std.proofs.Common.{◌≡◌, ◌↔◌, ℕ, List, [], ◌∷◌, true, Option, Some, None, option_map, is_some, string_bytes, refl, sym, ap, ◌∙◌}
use Rattle.std.specs.Prelude.{IfSome, IsSome}
use Rattle.std.specs.List.{All, AllByRecursion, Contains}
use Rattle.std.proofs.lemmas.List.Elements.{All-from_recursion, recursion_from_All}
use Rattle.std.proofs.lemmas.Option.{IfSome_then}
use Rattle.asl_model.specs.Finding as model
use Rattle.asl_model.specs.Finding.{FindingFault, PathMayBeMissing, has_example}
use Rattle.asl_model.specs.Path.{Segment}
use Rattle.asl_model.specs.Shape.{Shape}
use Rattle.asl_model.specs.Tree.{Tree}
use Rattle.asl_tree.specs.View.{view as tree_view}
use Rattle.asl_state_edges.specs.View.{finding_fault_view}
use Rattle.asl_check.specs.Faults.{shown_view, IsFaultBelow, IsPathOf, IsShownApart, IsShownBy, IsTextOf, NamesNothing}
use Rattle.asl_check.specs.View.{finding_view, findings_of, IsLocated, TellsMissing}
use Rattle.asl_check.specs.declared.faults.Fault.{Fault}
use Rattle.asl_check.specs.declared.faults.Shown.{Shown}
use Rattle.asl_check.specs.declared.faults.Shown.TheVariants.{Nothing, Missing, Outside}
use Rattle.asl_check.specs.declared.verdicts.Located.{Located}
use Rattle.asl_check.specs.declared.verdicts.MissingPath.{MissingPath}
use Rattle.asl_check.proofs.Members.{first, later}

-- ---- one finding

-- what stands for nothing is nothing
no_value : {A B : Type 0} (f : A → B) (o : Option A) → option_map f o ≡ None → IsSome o → ⊥
no_value f None none some = absurd (cc)
no_value f (Some x) none some = absurd (cc)

-- a path that shows the rule is there; nothing and a comparison don't show a rule of that fault with an example
path_there : (table : List Shape) (fault : FindingFault) (shown : Shown) (example : Option Tree) (path : Option MissingPath) → IsShownApart fault shown → example ≡ shown_view table shown → (example ≡ None → ⊥) → fault ≡ PathMayBeMissing
    → ((p : List Segment) → IsShownBy shown p → fault ≡ PathMayBeMissing → IsSome path) → IsSome path
path_there table fault Nothing example path apart seen some is told = absurd (some seen)
path_there table fault (Missing doubtful name) example path apart seen some is told = told doubtful.path.now refl is
path_there table fault (Outside inner outer) example path apart seen some is told = absurd (apart is)

-- the finding of a broken rule, with the path that shows it
pub located : (table : List Shape) (bound : ℕ) (fault : Fault) (f : Located) → finding_fault_view f.finding.fault ≡ finding_fault_view fault.fault → option_map tree_view f.finding.example ≡ shown_view table fault.shown → IsFaultBelow bound fault → NamesNothing fault.shown (option_map tree_view f.finding.example) → IsPathOf fault f.path → IsLocated f
located table bound fault f same seen below nothing told = record {
  only = IfSome_then f.path told.only (λ p is. same ∙ is);
  missing = IfSome_then f.path told.text (λ p (t : IsTextOf fault.shown (string_bytes p.text)). record { path = t.path; printed = t.printed; spells = t.spells; nothing = nothing t.path t.shown_by });
  there = λ tells some. path_there table (finding_fault_view fault.fault) fault.shown (option_map tree_view f.finding.example) f.path below.apart seen (λ none. no_value tree_view f.finding.example none some) (sym same ∙ tells) told.there;
}

-- ---- all findings

value_of : {A B : Type 0} (f : A → B) (o : Option A) → is_some (option_map f o) ≡ true → IsSome o
value_of f None some = absurd (cc)
value_of f (Some x) some = refl

holds : {A P : Type 0} (o : Option A) → IfSome o (λ x. P) → IsSome o → P
holds None h some = absurd (cc)
holds (Some x) h some = h

-- of findings that have an example exactly where their fault has one
pub exactly : (all : List Located) → ((f : model.Finding) → Contains (findings_of all) f → is_some f.example ≡ has_example f.fault) → All IsLocated all → All (λ f. IsSome f.path ↔ TellsMissing f.finding) all
exactly all shown h = All-from_recursion (λ f. IsSome f.path ↔ TellsMissing f.finding) all (by all shown (recursion_from_All IsLocated all h))
  where
    by : (all : List Located) → ((f : model.Finding) → Contains (findings_of all) f → is_some f.example ≡ has_example f.fault) → AllByRecursion IsLocated all → AllByRecursion (λ (f : Located). IsSome f.path ↔ TellsMissing f.finding) all
    by [] shown h = tt
    by (f ∷ fs) shown h =
        let has = shown (finding_view f.finding) (first (finding_view f.finding) (findings_of fs)) in
        let here : IsSome f.path ↔ TellsMissing f.finding =
        (λ some. holds f.path h.0.only some, λ tells. h.0.there tells (value_of tree_view f.finding.example (has ∙ ap has_example tells))) in
        (here, by fs (λ g among. shown g (later (finding_view f.finding) (findings_of fs) g among)) h.1)
