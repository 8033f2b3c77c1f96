-- What is told of the edges of a state is told of what flows through it.
use Rattle.std.proofs.Common.{◌≡◌, ◌<◌, ℕ, List, length, map, Option, None, option_map, option_to_list, Result, IfOk, OnOk, IfSome, Bor, refl, ap, ◌∙◌, subst}
use Rattle.asl_model.specs.Certificate.{Declared, StateShapes, gives_of}
use Rattle.asl_model.specs.Edges as edges
use Rattle.asl_model.specs.Edges.{breaches_along, destination_shapes, walk}
use Rattle.asl_model.specs.Finding.{Breach, Surroundings, found_at, surrounded_by, flow_breaches}
use Rattle.asl_model.specs.Machine.{Kind, Settings}
use Rattle.asl_model.specs.Numbering.{Placement}
use Rattle.asl_model.specs.Shape.{Shape}
use Rattle.asl_numbered.specs.Expansion.{shape_at, Keeps}
use Rattle.asl_numbered.specs.Laws.{keeps_trans, kept_shape, kept_within}
use Rattle.asl_machine_table.specs.Table.{table_view}
use Rattle.asl_tree.specs.declared.OutOfMemory.{OutOfMemory}
use Rattle.asl_records.specs.Numbered.{AreNumbersBelow, numbers_view}
use Rattle.asl_records.specs.declared.records.StateNumbers.{StateNumbers}
use Rattle.asl_records.specs.Laws.{numbers_within}
use Rattle.asl_state_edges.specs.Entry.{IsEntryBelow, entry_view}
use Rattle.asl_state_edges.specs.declared.found.Entry.{Entry}
use Rattle.asl_check.specs.Faults.{fault_view}
use Rattle.asl_check.specs.declared.faults.Fault.{Fault}
use Rattle.asl_check.specs.Listing.{Adds}
use Rattle.asl_check.specs.Numbers.{IsWithin, certificate_of}
use Rattle.asl_check.specs.Rules.{end_in, inputs_in}
use Rattle.asl_check.specs.Standing.{AreStanding, standing_view}
use Rattle.asl_check.specs.Tasks.{AreOfTask}
use Rattle.asl_check.specs.declared.listed.Listed.{Listed}
use Rattle.asl_check.specs.declared.standing.Standing.{Standing}
use Rattle.asl_check.specs.declared.tasks.TaskNumbers.{TaskNumbers}
use Rattle.asl_check.proofs.Grown.{certificate_kept, checker_within}

-- ---- one list for another

-- what is told is the list, of a table that has stayed the same
pub same_listed : (old new : List Shape) (answer : Result (Option Fault) OutOfMemory) (xs ys : List Breach) → new ≡ old → xs ≡ ys → IfOk answer (λ told. option_to_list (option_map (fault_view old) told) ≡ xs)
    → IfOk answer (λ told. option_to_list (option_map (fault_view new) told) ≡ ys)
same_listed old new answer xs ys unchanged e t = rw unchanged (subst (λ bs. IfOk answer (λ told. option_to_list (option_map (fault_view old) told) ≡ bs)) e t)

-- what is listed along the walk with what stands there, in a table that has stayed the same
pub listed_along : (around : Surroundings) (settings : Settings) (kind : Kind) (s : edges.DestinationShapes) (given : Shape) (entry : StateShapes) (steps : List edges.Walked) (old new : List Shape) (before after : List Listed) (answer : Result Unit OutOfMemory) → new ≡ old → s ≡ destination_shapes around → given ≡ gives_of around.declared around.name → entry ≡ around.entry
    → steps ≡ walk given settings kind entry
    → OnOk answer (Adds old before after (found_at around.name (breaches_along s steps))) → OnOk answer (Adds new before after (found_at around.name (flow_breaches around settings kind)))
listed_along around settings kind s given entry steps old new before after answer unchanged standing gives same is added =
    let walked : breaches_along s steps ≡ flow_breaches around settings kind = rw (is, standing, gives, same) refl in
    rw unchanged (subst (λ bs. OnOk answer (Adds old before after (found_at around.name bs))) walked added)

-- ---- an entry that is lent to the walk

module _ (entry : StateNumbers) (branches : Bor (List ℕ)) (are : branches.now ≡ entry.branches.items) where
  abbrev lent : Entry
  lent = record { input = entry.input; output = entry.output; branches = branches; item = entry.item }

  pub entered : (table : List Shape) → entry_view table lent ≡ numbers_view table entry
  entered table = ap (λ ns. record { input = shape_at table entry.input; output = shape_at table entry.output; branches = map (shape_at table) ns; item = option_map (shape_at table) entry.item }) are

  -- its numbers are those of a table that has grown
  pub entered_below : (a b : List Shape) → Keeps a b → AreNumbersBelow (length a) entry → IsEntryBelow (length b) lent
  entered_below a b keeps h =
      let now = numbers_within a b keeps entry h in
      record { input = now.input; output = now.output; branches = rw are now.branches; item = now.item }

-- ---- what stands at the destinations

module _ (a b d : List Shape) (task_kept : Keeps a b) (kept : Keeps b d) (s : Standing) (all_within : IsWithin a s.checker.now) (entry : StateNumbers) (below : AreNumbersBelow (length a) entry) where
  all_kept : Keeps a d
  all_kept = keeps_trans a b d task_kept kept

  -- the numbers are in the table
  pub standing_within : (declared : Declared) (n : List ℕ) (task : TaskNumbers) → AreOfTask b declared n task → s.output ≡ entry.output → s.takes ≡ task.takes → ((table : List Shape) → IsWithin table s.checker.now → IfSome s.end (λ m. m < length table)) → AreStanding d s
  standing_within declared n task are output takes end =
      let now = numbers_within a d all_kept entry below in
      let checker = checker_within a d all_kept s.checker.now all_within in
      record {
        checker = checker;
        output = rw output now.output;
        end = end d checker;
        takes = rw takes (kept_within b d task.takes kept are.takes_within);
      }

  -- they stand for what stands there
  pub standing_seen : (placement : Placement) (declared : Declared) (n : List ℕ) (task : TaskNumbers) → AreOfTask b declared n task → s.output ≡ entry.output → s.takes ≡ task.takes
      → option_map (shape_at d) s.end ≡ end_in (table_view s.checker.now.machine.now) (certificate_of d s.checker.now) placement
      → standing_view d s ≡ destination_shapes (surrounded_by declared (inputs_in (table_view s.checker.now.machine.now) (certificate_of a s.checker.now)) (end_in (table_view s.checker.now.machine.now) (certificate_of a s.checker.now) placement) n (numbers_view a entry))
  standing_seen placement declared n task are output takes end =
      let rows = table_view s.checker.now.machine.now in
      let same = certificate_kept a d all_kept s.checker.now all_within in
      let own : shape_at d s.output ≡ shape_at a entry.output = ap (shape_at d) output ∙ kept_shape a d entry.output all_kept below.output in
      let taken : shape_at d s.takes ≡ edges.DestinationShapes.takes (destination_shapes (surrounded_by declared (inputs_in rows (certificate_of a s.checker.now)) None n (numbers_view a entry))) = ap (shape_at d) takes ∙ kept_shape b d task.takes kept are.takes_within ∙ are.takes in
      rw (own, taken, end, same) refl
