-- The numbers of what is declared of tasks.
use Rattle.std.proofs.Common.{◌≡◌, ℕ, List, [], ◌∷◌, ◌++◌, length, slice_get, Bor, Option, Some, None, is_some, option_map, false, refl, sym, ap, ◌∙◌, subst, ◌⊎◌, inl, inr}
use Rattle.std.specs.Option.{unwrap_or}
use Rattle.asl_model.specs.Certificate as model
use Rattle.asl_model.specs.Certificate.{gives_among, gives_of, takes_among, takes_of, under}
use Rattle.asl_model.specs.Shape.{Shape, Any}
use Rattle.asl_numbered.specs.Expansion.{Keeps, Shows}
use Rattle.asl_records.specs.View.{task_view}
use Rattle.asl_records.specs.declared.records.Declared as code
use Rattle.asl_records.specs.declared.records.TaskShapes.{TaskShapes}
use Rattle.asl_machine_table.specs.declared.machine.Machine.{Machine}
use Rattle.asl_shape.specs.View.{view}
use Rattle.asl_infer.specs.Rounds.{IsGiven, IsGivenOf, IsRowOf, declared_in, table_in}
use Rattle.asl_infer.specs.Tasks.{IsTaskOf, AreTasks}
use Rattle.asl_infer.specs.declared.rounds.Given.{Given}
use Rattle.asl_infer.specs.declared.rounds.Row.{Row}
use Rattle.asl_infer.specs.declared.rounds.Strictness.{Strictness}
use Rattle.asl_infer.specs.declared.tasks.TaskNumbers.{TaskNumbers}
use Rattle.asl_drafts.proofs.Known.{shows_kept}
use Rattle.asl_drafts.proofs.Measured.{pushed}

-- ---- one task

-- it is declared
pub task_known : (declared : model.Declared) (n : List ℕ) (o : Option (Bor TaskShapes)) (task : Bor TaskShapes) (middle table : List Shape) (takes gives : ℕ) → option_map (λ (t : Bor TaskShapes). task_view t.now) o ≡ under n declared.tasks → o ≡ Some task → Shows middle (view task.now.takes) takes → Keeps middle table → Shows table (view task.now.gives) gives → IsTaskOf declared n table (record { takes = takes; gives = gives })
task_known declared n o task middle table takes gives looked there taken keeps given =
    let found : under n declared.tasks ≡ Some (task_view task.now) = sym looked ∙ ap (option_map (λ (t : Bor TaskShapes). task_view t.now)) there in
    record {
      takes = subst (λ s. Shows table s takes) (sym (ap takes_among found)) (shows_kept middle table (view task.now.takes) takes keeps taken);
      gives = subst (λ s. Shows table s gives) (sym (ap gives_among found)) given;
    }

-- it isn't
pub missing : {A : Type 0} (o : Option A) → is_some o ≡ false → o ≡ None
missing None h = refl
missing (Some a) h = absurd (cc)

pub none_under : (declared : model.Declared) (n : List ℕ) (o : Option (Bor TaskShapes)) → option_map (λ (t : Bor TaskShapes). task_view t.now) o ≡ under n declared.tasks → o ≡ None → under n declared.tasks ≡ None
none_under declared n o looked missing = sym looked ∙ ap (option_map (λ (t : Bor TaskShapes). task_view t.now)) missing

pub task_unknown : (declared : model.Declared) (n : List ℕ) (table : List Shape) (any : ℕ) → under n declared.tasks ≡ None → Shows table Any any → IsTaskOf declared n table (record { takes = any; gives = any })
task_unknown declared n table any none shows = record {
  takes = subst (λ s. Shows table s any) (sym (ap takes_among none)) shows;
  gives = subst (λ s. Shows table s any) (sym (ap gives_among none)) shows;
}

-- ---- the tasks of all states

pub task_kept : (declared : model.Declared) (n : List ℕ) (a b : List Shape) (task : TaskNumbers) → Keeps a b → IsTaskOf declared n a task → IsTaskOf declared n b task
task_kept declared n a b task keeps is = record { takes = shows_kept a b (takes_of declared n) task.takes keeps is.takes; gives = shows_kept a b (gives_of declared n) task.gives keeps is.gives }

pub tasks_kept : (declared : model.Declared) (names : List (List ℕ)) (a b : List Shape) (tasks : List TaskNumbers) → Keeps a b → AreTasks declared names a tasks → AreTasks declared names b tasks
tasks_kept declared names a b tasks keeps are = record { each = λ i n task named at. task_kept declared n a b task keeps (are.each i n task named at) }

-- the name of a state that has one
name_of : (o : Option (Bor (List ℕ))) (else : Bor (List ℕ)) (names : List (List ℕ)) (i : ℕ) (n : List ℕ) → option_map (λ (b : Bor (List ℕ)). b.now) o ≡ slice_get names i → slice_get names i ≡ Some n → (unwrap_or o else).now ≡ n
name_of (Some b) else names i n e named = let same : Some b.now ≡ Some n = e ∙ named in cc
name_of None else names i n e named = absurd (let none : None ≡ Some n = e ∙ named in cc)

-- one more
pub one_more_task : (declared : model.Declared) (names : List (List ℕ)) (a b : List Shape) (tasks new : List TaskNumbers) (task : TaskNumbers) (number : ℕ) (o : Option (Bor (List ℕ))) (else name : Bor (List ℕ)) → number ≡ length tasks → AreTasks declared names a tasks → Keeps a b → option_map (λ (n : Bor (List ℕ)). n.now) o ≡ slice_get names number → name ≡ unwrap_or o else → IsTaskOf declared name.now b task → new ≡ tasks ++ task ∷ [] → AreTasks declared names b new
one_more_task declared names a b tasks new task number o else name here are keeps found is own more = subst (AreTasks declared names b) (sym more) (record { each = λ i n t named at. by i n t named (pushed tasks task t i at) })
  where
    by : (i : ℕ) (n : List ℕ) (t : TaskNumbers) → slice_get names i ≡ Some n → (slice_get tasks i ≡ Some t) ⊎ ((i ≡ length tasks) × (task ≡ t)) → IsTaskOf declared n b t
    by i n t named (inl there) = task_kept declared n a b t keeps (are.each i n t named there)
    by i n t named (inr last) =
        let at_number : slice_get names number ≡ Some n = ap (slice_get names) (here ∙ sym last.0) ∙ named in
        let same : name.now ≡ n = ap (λ (x : Bor (List ℕ)). x.now) is ∙ name_of o else names number n found at_number in
        subst (λ m. IsTaskOf declared m b t) same (subst (IsTaskOf declared name.now b) last.1 own)

-- ---- what is given

pub given_kept : (a b : List Shape) (given : Given) → Keeps a b → IsGiven a given → IsGiven b given
given_kept a b given keeps is = record {
  tasks = tasks_kept (declared_in given) (table_in given).names a b given.tasks.items keeps is.tasks;
  many = is.many;
  input = shows_kept a b (declared_in given).input given.input keeps is.input;
}

-- the task of a row
pub task_of_row : (table : List Shape) (given : Given) (number : ℕ) (row : Row) → IsGiven table given → IsRowOf given number row → IsTaskOf (declared_in given) row.name.now table row.task
task_of_row table given number row is of = is.tasks.each number row.name.now row.task of.among.named of.task

-- what is given, in a table that has grown
pub given_of_kept : (shown : Machine) (declared : code.Declared) (strictness : Strictness) (a b : List Shape) (given : Given) → Keeps a b → IsGivenOf shown declared strictness a given → IsGivenOf shown declared strictness b given
given_of_kept shown declared strictness a b given keeps is = record { machine = is.machine; declares = is.declares; strict = is.strict; numbers = given_kept a b given keeps is.numbers }
