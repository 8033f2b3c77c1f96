-- Looking a declared task up by its name.
use Rattle.std.proofs.Common.{◌≡◌, ℕ, List, [], ◌∷◌, Option, Some, None, option_map, String, Global, Bor, string_bytes, nat_cmp, refl}
use Rattle.std.specs.BTreeMap.{is_at}
use Rattle.std.specs.Cmp.Lexicographic.{slice_cmp}
use Rattle.std.specs.Map.{lookup}
use Rattle.std.specs.Option.{option_copied}
use Rattle.asl_model.specs.Certificate.{under}
use Rattle.asl_shape.proofs.Lookups.{picked, same_name}
use Rattle.asl_records.specs.View.{task_view, tasks_view}
use Rattle.asl_records.specs.declared.records.TaskShapes.{TaskShapes}

-- what is found among the entries is what stands under the name
pub task_looked_up : (n : List ℕ) (es : List (String Global × TaskShapes)) → under n (tasks_view es) ≡ option_map task_view (lookup (is_at (λ k. slice_cmp nat_cmp n (string_bytes k))) es)
task_looked_up n [] = refl
task_looked_up n (e ∷ es) = rw (same_name n (string_bytes e.0), task_looked_up n es) (picked task_view e.1 _ _)

-- a task that is lent is seen as it is
pub task_seen : (task : Option (Bor TaskShapes)) → option_map (λ t. task_view t.now) task ≡ option_map task_view (option_copied task)
task_seen None = refl
task_seen (Some t) = refl
