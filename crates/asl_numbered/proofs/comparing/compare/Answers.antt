use Rattle.std.proofs.Common.{◌≡◌, ◌∷◌, [], ◌++◌, length, arith, sym, ap, ◌∙◌, subst}
use Rattle.std.proofs.lemmas.List.{nil_from_length}
use Rattle.asl_numbered.specs.Comparison.{width, AreOutside, RestsOn}
use Rattle.asl_numbered.proofs.Comparisons.{begun, go_on, less_left, next_within, fails, concluded, one_less, all_done}
use Rattle.asl_numbered.proofs.comparing.compare.Goals as goal

pub loop-task-init : goal.loop-task-init
loop-task-init c = (begun c.args.table.now c.args.pair c.new-tasks.result.items c.push.new.self.items c.new-tasks.ensures.items c.in_ok-push.ensures.items c.requires.within, c.requires.right)

-- a pair that is looked at

pub look-requires-clause-right : goal.look-requires-clause-right
look-requires-clause-right c = c.loop-task.invariant.1

pub look-requires-clause-within : goal.look-requires-clause-within
look-requires-clause-within c =
    next_within c.args.table.now c.args.pair c.in-Compare.next c.loop-task.tasks.items c.pop.new.self.items (c.in-Some.ensures.items ∙ ap (λ t. c.pop.new.self.items ++ t ∷ []) c.in-Compare.is) c.loop-task.invariant.0

pub loop-task-preserved-else-not-branch : goal.loop-task-preserved-else-not-branch
loop-task-preserved-else-not-branch c =
    let split = c.in-Some.ensures.items ∙ ap (λ t. c.pop.new.self.items ++ t ∷ []) c.in-Compare.is in
    let rests = subst (λ b. RestsOn c.args.table.now c.in-Compare.next b c.pop.new.self.items c.look.new.tasks.items) c.if-not-branch.false c.in_ok-look-in-Compare.ensures.rests in
    (go_on c.args.table.now c.args.pair c.in-Compare.next c.loop-task.tasks.items c.pop.new.self.items c.look.new.tasks.items split c.loop-task.invariant.0 rests, c.loop-task.invariant.1)

pub loop-task-smaller-else-not-branch : goal.loop-task-smaller-else-not-branch
loop-task-smaller-else-not-branch c =
    let split = c.in-Some.ensures.items ∙ ap (λ t. c.pop.new.self.items ++ t ∷ []) c.in-Compare.is in
    less_left c.args.table.now c.in-Compare.next c.in_ok-look-in-Compare.field-0 c.loop-task.tasks.items c.pop.new.self.items c.look.new.tasks.items split c.in_ok-look-in-Compare.ensures.rests

pub returns-in_err-look-in-Compare-clause-right : goal.returns-in_err-look-in-Compare-clause-right
returns-in_err-look-in-Compare-clause-right c = c.loop-task.invariant.1

-- a pair that isn't inside

pub returns-in_err-refuse-in-Compare-clause-right : goal.returns-in_err-refuse-in-Compare-clause-right
returns-in_err-refuse-in-Compare-clause-right c =
    let split = c.in-Some.ensures.items ∙ ap (λ t. c.pop.new.self.items ++ t ∷ []) c.in-Compare.is in
    let rests = subst (λ b. RestsOn c.args.table.now c.in-Compare.next b c.pop.new.self.items c.look.new.tasks.items) c.if-not-branch.true c.in_ok-look-in-Compare.ensures.rests in
    let outside = (fails c.args.table.now c.args.pair c.in-Compare.next c.loop-task.tasks.items c.pop.new.self.items c.look.new.tasks.items split c.loop-task.invariant.0 rests).0 in
    c.in_err-refuse-in-Compare.ensures.right c.args.table.now (subst (AreOutside c.args.table.now) (sym c.deref.ensures.value) outside) c.loop-task.invariant.1

pub returns-then-not-branch-clause-as_defined : goal.returns-then-not-branch-clause-as_defined
returns-then-not-branch-clause-as_defined c =
    let split = c.in-Some.ensures.items ∙ ap (λ t. c.pop.new.self.items ++ t ∷ []) c.in-Compare.is in
    let rests = subst (λ b. RestsOn c.args.table.now c.in-Compare.next b c.pop.new.self.items c.look.new.tasks.items) c.if-not-branch.true c.in_ok-look-in-Compare.ensures.rests in
    (fails c.args.table.now c.args.pair c.in-Compare.next c.loop-task.tasks.items c.pop.new.self.items c.look.new.tasks.items split c.loop-task.invariant.0 rests).1

pub returns-then-not-branch-clause-right : goal.returns-then-not-branch-clause-right
returns-then-not-branch-clause-right c =
    let split = c.in-Some.ensures.items ∙ ap (λ t. c.pop.new.self.items ++ t ∷ []) c.in-Compare.is in
    let rests = subst (λ b. RestsOn c.args.table.now c.in-Compare.next b c.pop.new.self.items c.look.new.tasks.items) c.if-not-branch.true c.in_ok-look-in-Compare.ensures.rests in
    let outside = (fails c.args.table.now c.args.pair c.in-Compare.next c.loop-task.tasks.items c.pop.new.self.items c.look.new.tasks.items split c.loop-task.invariant.0 rests).0 in
    c.in_ok-refuse-in-Compare.ensures.right c.args.table.now (subst (AreOutside c.args.table.now) (sym c.deref.ensures.value) outside) c.loop-task.invariant.1

-- a pair that is concluded

pub loop-task-preserved : goal.loop-task-preserved
loop-task-preserved c =
    let split = c.in-Some.ensures.items ∙ ap (λ t. c.pop.new.self.items ++ t ∷ []) c.in-Conclude.is in
    let now = concluded c.args.table.now c.args.pair c.in-Conclude.next c.loop-task.tasks.items c.pop.new.self.items split c.loop-task.invariant.0 in
    (now.2, c.in_ok-remember-in-Conclude.ensures.right c.args.table.now now.0 now.1 c.loop-task.invariant.1)

pub loop-task-smaller : goal.loop-task-smaller
loop-task-smaller c =
    one_less (width c.args.table.now) c.in-Conclude.next c.loop-task.tasks.items c.pop.new.self.items (c.in-Some.ensures.items ∙ ap (λ t. c.pop.new.self.items ++ t ∷ []) c.in-Conclude.is)

pub returns-in_err-remember-in-Conclude-clause-right : goal.returns-in_err-remember-in-Conclude-clause-right
returns-in_err-remember-in-Conclude-clause-right c =
    let split = c.in-Some.ensures.items ∙ ap (λ t. c.pop.new.self.items ++ t ∷ []) c.in-Conclude.is in
    let now = concluded c.args.table.now c.args.pair c.in-Conclude.next c.loop-task.tasks.items c.pop.new.self.items split c.loop-task.invariant.0 in
    c.in_err-remember-in-Conclude.ensures.right c.args.table.now now.0 now.1 c.loop-task.invariant.1

-- the end

pub returns-clause-as_defined : goal.returns-clause-as_defined
returns-clause-as_defined c =
    let none : length c.loop-task.tasks.items ≡ 0 = omega (arith, c.in_default.ensures.cases.0, c.loop-task.tasks.ok) in
    all_done c.args.table.now c.args.pair c.loop-task.tasks.items (nil_from_length c.loop-task.tasks.items none) c.loop-task.invariant.0

pub returns-clause-right : goal.returns-clause-right
returns-clause-right c = c.loop-task.invariant.1
