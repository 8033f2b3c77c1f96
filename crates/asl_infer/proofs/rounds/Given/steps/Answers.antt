use Rattle.std.proofs.Common.{length, subst}
use Rattle.asl_numbered.specs.Expansion.{shape_at}
use Rattle.asl_numbered.specs.Laws.{keeps_longer, kept_within}
use Rattle.asl_drafts.specs.Drafted.{draft_view}
use Rattle.asl_infer.specs.Telling.{IsFirstBroken}
use Rattle.asl_infer.proofs.Declared.{task_of_row}
use Rattle.asl_infer.proofs.StateSteps.{broken-row, row-tells, steps-kept, steps-wider, whole-row}
use Rattle.asl_infer.proofs.rounds.Given.steps.Goals as goal

pub edges-requires : goal.edges-requires
edges-requires c =
    let task = task_of_row c.args.draft.now.store c.args.self.now c.args.number c.args.row.now c.requires.given c.requires.row in
    task.gives.within

pub first_broken-requires-clause-takes : goal.first_broken-requires-clause-takes
first_broken-requires-clause-takes c =
    let task = task_of_row c.args.draft.now.store c.args.self.now c.args.number c.args.row.now c.requires.given c.requires.row in
    kept_within c.args.draft.now.store c.edges.new.self.store c.args.row.now.task.takes c.in_ok-steps.ensures.keeps task.takes.within

pub returns-in_default-clause-steps : goal.returns-in_default-clause-steps
returns-in_default-clause-steps c =
    let old = c.args.draft.now.store in
    let new = c.edges.new.self.store in
    let row = c.args.row.now in
    let task = task_of_row old c.args.self.now c.args.number row c.requires.given c.requires.row in
    let first = subst (λ steps. IsFirstBroken new (shape_at new row.task.takes) steps c.in_ok-breach.field-0) c.deref.ensures.value c.in_ok-breach.ensures.first in
    rw (c.in_ok-breach.ensures.kept c.in_default.is) (whole-row c.args.self.now c.args.number row (draft_view c.args.draft.now) old new c.in_ok-steps.steps.items task c.in_ok-steps.ensures.keeps c.in_ok-steps.ensures.walked _ first c.in_default.is)

pub returns-in-Strict-clause-told : goal.returns-in-Strict-clause-told
returns-in-Strict-clause-told c =
    let old = c.args.draft.now.store in
    let new = c.edges.new.self.store in
    let row = c.args.row.now in
    let task = task_of_row old c.args.self.now c.args.number row c.requires.given c.requires.row in
    let first = subst (λ steps. IsFirstBroken new (shape_at new row.task.takes) steps c.in_ok-breach.field-0) c.deref.ensures.value c.in_ok-breach.ensures.first in
    row-tells c.args.self.now c.args.number row (draft_view c.args.draft.now) old new c.in_ok-steps.steps.items task c.in_ok-steps.ensures.keeps c.in_ok-steps.ensures.walked _ first c.in-Some.breach c.in_ok-finding-in-Strict.field-0 c.in-Some.is c.in-Strict.is c.in_ok-finding-in-Strict.ensures c.requires.row.among

pub returns-clause-steps : goal.returns-clause-steps
returns-clause-steps c =
    let old = c.args.draft.now.store in
    let middle = c.edges.new.self.store in
    let final = c.first_broken.new.draft.store in
    let row = c.args.row.now in
    let steps = c.in_ok-steps.steps.items in
    let task = task_of_row old c.args.self.now c.args.number row c.requires.given c.requires.row in
    let first = subst (λ steps. IsFirstBroken middle (shape_at middle row.task.takes) steps c.in_ok-breach.field-0) c.deref.ensures.value c.in_ok-breach.ensures.first in
    broken-row c.args.self.now c.args.number row (draft_view c.args.draft.now) old middle steps task c.in_ok-steps.ensures.keeps c.in_ok-steps.ensures.walked _ first final (steps-kept middle final steps c.in_ok-breach.ensures.keeps c.in_ok-steps.ensures.below) c.in-Lenient.is

pub returns-clause-below : goal.returns-clause-below
returns-clause-below c = steps-wider (length c.edges.new.self.store) (length c.first_broken.new.draft.store) c.in_ok-steps.steps.items (keeps_longer c.edges.new.self.store c.first_broken.new.draft.store c.in_ok-breach.ensures.keeps) c.in_ok-steps.ensures.below
