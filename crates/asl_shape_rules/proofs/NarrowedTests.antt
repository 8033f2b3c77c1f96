-- The tests of an Or, one after another.
use Rattle.std.proofs.Common.{◌≡◌, ◌<◌, ◌+◌, ℕ, List, length, get_or, drop, Ok, refl, ap, ◌∙◌, drop-cons, add-one}
use Rattle.asl_choice.specs.View as choice
use Rattle.asl_choice.specs.View.{tests_view}
use Rattle.asl_choice.specs.declared.rule.Test.{Test}
use Rattle.asl_model.specs.Shape.{Shape}
use Rattle.asl_model.specs.ShapeFlow.{where_found, true_of, each_found}
use Rattle.asl_shape_paths.proofs.FoundPaths.{Answer}
use Rattle.asl_shape_rules.proofs.StillFound.{then_on}

module _ (whole : Answer) (tests : List Test) (i : ℕ) (test : Test) (s t : Shape) (within : i < length tests) (is : test ≡ get_or tests i test) (so_far : whole ≡ where_found (each_found (tests_view (drop i tests)) s) (Ok s)) (same : t ≡ s) where
  -- the next of them
  next-test : whole ≡ where_found (where_found (true_of (choice.view test) t) (each_found (tests_view (drop (i + 1) tests)) s)) (Ok s)
  next-test = so_far ∙ ap (λ ts. where_found (each_found (tests_view ts) s) (Ok s)) (drop-cons tests i test within) ∙ rw (← is, add-one, same) refl

  -- one that is true or false of each tree
  pub found_next : (u : Shape) → where_found (true_of (choice.view test) t) (Ok t) ≡ Ok u → whole ≡ where_found (each_found (tests_view (drop (i + 1) tests)) s) (Ok s)
  found_next u found = next-test ∙ ap (λ a. where_found a (Ok s)) (then_on (true_of (choice.view test) t) t u (each_found (tests_view (drop (i + 1) tests)) s) found)
