-- The first name for which a rule about what is declared is broken, as it is looked for.
use Rattle.std.proofs.Common.{◌≡◌, ◌<◌, ◌+◌, ℕ, List, [], ◌∷◌, ◌++◌, codes, length, drop, get_or, Bool, true, false, not, ◌||◌, Option, Some, None, is_some, option_map, slice_get, String, Global, string_bytes, refl, sym, ap, ◌∙◌, subst}
use Rattle.std.proofs.lemmas.List.{append-nil}
use Rattle.std.proofs.lemmas.Option.{slice_get-get_or}
use Rattle.asl_model.specs.Certificate.{Declared, TaskShapes, under}
use Rattle.asl_model.specs.Finding.{Finding, TaskUndeclared, TaskUnknown, breach_unless, found_at}
use Rattle.asl_model.specs.Machine.{kind_of, is_task}
use Rattle.asl_model.specs.Numbering.{Table}
use Rattle.asl_model.specs.ShapeSpelling.{are_distinct}
use Rattle.asl_draft_laws.specs.Drafts.{Row, misnamed, rows_of, undeclared, unknown}
use Rattle.asl_records.specs.View.{task_view}
use Rattle.asl_records.specs.declared.records.TaskShapes as code
use Rattle.asl_check.specs.Rules.{names_task_in}
use Rattle.asl_check.specs.View.{finding_view}
use Rattle.asl_drafts.specs.Order.{AreOrdered}
use Rattle.asl_infer.specs.Declarations.{AreNamed, IsFirst, IsFirstAt, IsFirstOf, NamesTell, first_by_name, first_of, misnamed_view}
use Rattle.asl_infer.specs.Rounds.{IsIn, IsNoRow}
use Rattle.asl_infer.specs.declared.declarations.Misnamed.{Misnamed}
use Rattle.asl_infer.specs.declared.inferring.InferRefusal.TheVariants as refusal
use Rattle.asl_check.specs.declared.verdicts.Finding as told
use Rattle.asl_draft_laws.proofs.SettledClosed.{have_task}
use Rattle.asl_infer.proofs.FirstNames.{earlier-first, first-append, first-ordered, have-named}
use Rattle.asl_infer.proofs.OwnRules.{first-none}
use Rattle.asl_infer.proofs.TakenRounds.{next-row}

-- ---- one after another

of-three : (a b c : Option Finding) → first_of (first_of a b) c ≡ first_of a (first_of b c)
of-three None b c = refl
of-three (Some x) b c = sym (earlier-first x b c)

-- those of one more, and of those that are left
first-next : (so_far this more : Option Finding) (own left : List Finding) (whole : Option Finding) → more ≡ first_of so_far this → this ≡ first_by_name (own ++ []) → first_of so_far (first_by_name (own ++ left)) ≡ whole → first_of more (first_by_name left) ≡ whole
first-next so_far this more own left whole taken is all =
    let here : this ≡ first_by_name own = is ∙ ap first_by_name (append-nil own) in
    ap (λ o. first_of o (first_by_name left)) taken
    ∙ (of-three so_far this (first_by_name left)
    ∙ (ap (first_of so_far) (ap (λ o. first_of o (first_by_name left)) here ∙ sym (first-append own left)) ∙ all))

-- ---- Tasks that aren't declared

module _ (table : Table) (declared : Declared) where
  pub record UndeclaredLeft (place : ℕ) (first : Option Misnamed) : Type 0 where
    pub left : are_distinct table.names ≡ true → first_of (option_map misnamed_view first) (first_by_name (undeclared declared (drop place (rows_of table)))) ≡ first_by_name (undeclared declared (rows_of table))

  pub one-less : (numbers : List ℕ) (place number : ℕ) (first this more : Option Misnamed) → AreOrdered table numbers → place < length numbers → number ≡ get_or numbers place number → option_map misnamed_view more ≡ first_of (option_map misnamed_view first) (option_map misnamed_view this) → IsFirstAt table declared number this → UndeclaredLeft place first → UndeclaredLeft (place + 1) more
  one-less numbers place number first this more are within is taken own so_far = record {
    left = λ distinct.
        let at = next-row table numbers are distinct place number (slice_get-get_or numbers place number within ∙ ap Some (sym is)) in
        first-next (option_map misnamed_view first) (option_map misnamed_view this) (option_map misnamed_view more) (found_at at.row.name (breach_unless (not (is_task (kind_of at.row.state)) || is_some (under at.row.name declared.tasks)) (codes "Resource") TaskUndeclared)) (undeclared declared (drop (place + 1) (rows_of table))) (first_by_name (undeclared declared (rows_of table))) taken (own.first at.row at.among at.number)
        (sym (ap (λ rows. first_of (option_map misnamed_view first) (first_by_name (undeclared declared rows))) at.left) ∙ so_far.left distinct);
  }

  -- of one state
  pub none-at : (number : ℕ) → IsNoRow table number → IsFirstAt table declared number None
  none-at number none = record { first = λ row is same. absurd (none.none row is same) }

  -- it is a Task, and it isn't declared
  at-row : (row : Row) (first : Option Misnamed) (holds : Bool) → not (is_task (kind_of row.state)) || is_some (under row.name declared.tasks) ≡ holds → option_map misnamed_view first ≡ first_by_name (found_at row.name (breach_unless holds (codes "Resource") TaskUndeclared)) → option_map misnamed_view first ≡ first_by_name (undeclared declared (row ∷ []))
  at-row row first holds is h = h ∙ (ap (λ b. first_by_name (found_at row.name (breach_unless b (codes "Resource") TaskUndeclared))) (sym is) ∙ sym (ap first_by_name (append-nil (found_at row.name (breach_unless (not (is_task (kind_of row.state)) || is_some (under row.name declared.tasks)) (codes "Resource") TaskUndeclared)))))

  pub told-at : (number : ℕ) (row : Row) (misnamed : Misnamed) → IsIn table row → row.number ≡ number → is_task (kind_of row.state) ≡ true → is_some (under row.name declared.tasks) ≡ false → misnamed_view misnamed ≡ record { state = row.name; field = codes "Resource"; fault = TaskUndeclared; example = None } → IsFirstAt table declared number (Some misnamed)
  told-at number row misnamed is same task missing told = record {
    first = λ r also here. subst (λ (x : Row). option_map misnamed_view (Some misnamed) ≡ first_by_name (undeclared declared (x ∷ []))) (Rattle.asl_infer.proofs.WalkedRows.same-row table row r is also (same ∙ sym here))
        (at-row row (Some misnamed) false (ap (λ b. not b || is_some (under row.name declared.tasks)) task ∙ missing) (ap Some told));
  }

-- ---- declared tasks that are none

-- a declared task, with its name
abbrev pub task_seen : String Global × code.TaskShapes → List ℕ × TaskShapes
task_seen entry = (string_bytes entry.0, task_view entry.1)

module _ (table : Table) where
  pub record UnknownLeft (tasks further : List (List ℕ × TaskShapes)) (first : Option Misnamed) : Type 0 where
    pub left : are_distinct table.names ≡ true → first_of (option_map misnamed_view first) (first_by_name (unknown (rows_of table) further)) ≡ first_by_name (unknown (rows_of table) tasks)

  pub one-unknown : (tasks left : List (List ℕ × TaskShapes)) (task : List ℕ × TaskShapes) (name : List ℕ) (first this more : Option Misnamed) → task.0 ≡ name → option_map misnamed_view more ≡ first_of (option_map misnamed_view first) (option_map misnamed_view this) → IsFirstOf table name this → UnknownLeft tasks (task ∷ left) first → UnknownLeft tasks left more
  one-unknown tasks left task name first this more named taken own so_far = record {
    left = λ distinct.
        first-next (option_map misnamed_view first) (option_map misnamed_view this) (option_map misnamed_view more) (found_at task.0 (breach_unless (have_task task.0 (rows_of table)) (codes "tasks") TaskUnknown)) (unknown (rows_of table) left) (first_by_name (unknown (rows_of table) tasks)) taken (own.first distinct task named) (so_far.left distinct);
  }

  -- of one task
  at-task : (task : List ℕ × TaskShapes) (first : Option Misnamed) (holds : Bool) → have_task task.0 (rows_of table) ≡ holds → option_map misnamed_view first ≡ first_by_name (found_at task.0 (breach_unless holds (codes "tasks") TaskUnknown)) → option_map misnamed_view first ≡ first_by_name (unknown (rows_of table) (task ∷ []))
  at-task task first holds is h = h ∙ (ap (λ b. first_by_name (found_at task.0 (breach_unless b (codes "tasks") TaskUnknown))) (sym is) ∙ sym (ap first_by_name (append-nil (found_at task.0 (breach_unless (have_task task.0 (rows_of table)) (codes "tasks") TaskUnknown)))))

  pub known-of : (name : List ℕ) → names_task_in table name ≡ true → IsFirstOf table name None
  known-of name is = record {
    first = λ distinct task same. at-task task None true (have-named table task.0 distinct ∙ (ap (names_task_in table) same ∙ is)) refl;
  }

  pub unknown-of : (name : List ℕ) (misnamed : Misnamed) → names_task_in table name ≡ false → misnamed_view misnamed ≡ record { state = name; field = codes "tasks"; fault = TaskUnknown; example = None } → IsFirstOf table name (Some misnamed)
  unknown-of name misnamed is told = record {
    first = λ distinct task same. at-task task (Some misnamed) false (have-named table task.0 distinct ∙ (ap (names_task_in table) same ∙ is)) (ap Some told ∙ ap (λ n. let found : Finding = record { state = n; field = codes "tasks"; fault = TaskUnknown; example = None } in Some found) (sym same));
  }

-- ---- both

module _ (table : Table) (declared : Declared) (undeclared_one unknown_one one : Option Misnamed) (first : IsFirst table (undeclared declared (rows_of table)) undeclared_one) (second : IsFirst table (unknown (rows_of table) declared.tasks) unknown_one) (taken : option_map misnamed_view one ≡ first_of (option_map misnamed_view undeclared_one) (option_map misnamed_view unknown_one)) where
  both : are_distinct table.names ≡ true → option_map misnamed_view one ≡ slice_get (misnamed table declared) 0
  both distinct =
      taken
      ∙ (ap (λ o. first_of o (option_map misnamed_view unknown_one)) (first.first distinct)
      ∙ (ap (first_of (first_by_name (undeclared declared (rows_of table)))) (second.first distinct)
      ∙ (sym (first-append (undeclared declared (rows_of table)) (unknown (rows_of table) declared.tasks))
      ∙ sym (first-ordered (undeclared declared (rows_of table) ++ unknown (rows_of table) declared.tasks)))))

  pub are-named : one ≡ None → AreNamed table declared
  are-named none = record { named = λ distinct. first-none (misnamed table declared) (sym (both distinct) ∙ ap (option_map misnamed_view) none) }

  pub names-tell : (misnamed : Misnamed) (found : told.Finding) → one ≡ Some misnamed → finding_view found ≡ misnamed_view misnamed → NamesTell table declared (refusal.Finding found)
  names-tell misnamed found is told = record { tells = λ distinct. sym (both distinct) ∙ (ap (option_map misnamed_view) is ∙ ap Some (sym told)) }
