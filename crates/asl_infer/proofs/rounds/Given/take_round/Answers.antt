use Rattle.std.proofs.Common.{◌<◌, ◌≤◌, ◌+◌, ℕ, Global, Vec, length, sym, subst, arith}
use Rattle.std.proofs.lemmas.Option.{slice_get_within}
use Rattle.std.proofs.lemmas.Result.{err_from_is_err_and}
use Rattle.asl_numbered.specs.Laws.{keeps_trans}
use Rattle.asl_drafts.specs.Drafted.{draft_view}
use Rattle.asl_infer.specs.Rounds.{IsChanged, declared_in, table_in}
use Rattle.asl_infer.proofs.Declared.{given_kept}
use Rattle.asl_infer.proofs.TakenRounds.{IsInRound, end-round, pass-round, walk-changed, walk-told, walk-unchanged}
use Rattle.asl_infer.proofs.rounds.Given.take_round.Goals as goal
use Rattle.asl_infer.proofs.rounds.Given.take_round.Goals.{then-branch, else-branch}

pub take_turn-requires-clause-given : goal.take_turn-requires-clause-given
take_turn-requires-clause-given c = given_kept c.args.walker.now.draft.store c.loop-turn.walker.draft.store c.args.self.now c.loop-turn.invariant.keeps c.requires.given

pub returns-in_err-take_turn-clause-told : goal.returns-in_err-take_turn-clause-told
returns-in_err-take_turn-clause-told c =
    let how = c.args.self.now.strictness in
    let table = table_in c.args.self.now in
    let declared = declared_in c.args.self.now in
    let before = draft_view c.args.walker.now.draft in
    let l = c.loop-turn in
    let turn = c.in-Some.turn in
    let numbers = l.walker.waiting.order.items in
    let next = c.in-Some.ensures.first in
    let below = slice_get_within numbers turn.place turn.number next.stands in
    let here = pass-round how table declared l.walker before l.from turn.place l.changed l.invariant.calm next.after (omega (arith, below)) next.passed l.invariant.round in
    let p = err_from_is_err_and c.from_residual-in_err-take_turn.result c.from_residual-in_err-take_turn.ensures.1 in
    rw (p.1, p.2) (walk-told how table declared numbers before turn.place turn.number l.changed (draft_view l.walker.draft) c.in_err-take_turn.field-0.0 l.invariant.calm.ordered next.stands here c.in_err-take_turn.ensures.told)

pub loop-turn-preserved : goal.loop-turn-preserved
loop-turn-preserved c =
    let how = c.args.self.now.strictness in
    let table = table_in c.args.self.now in
    let declared = declared_in c.args.self.now in
    let before = draft_view c.args.walker.now.draft in
    let l = c.loop-turn in
    let now = draft_view l.walker.draft in
    let after = draft_view c.take_turn.new.walker.draft in
    let turn = c.in-Some.turn in
    let numbers = l.walker.waiting.order.items in
    let next = c.in-Some.ensures.first in
    let below : turn.place < length numbers = slice_get_within numbers turn.place turn.number next.stands in
    let here = pass-round how table declared l.walker before l.from turn.place l.changed l.invariant.calm next.after (omega (arith, below)) next.passed l.invariant.round in
    let told = c.in_ok-take_turn.ensures in
    let inside : turn.place + 1 ≤ length c.take_turn.new.walker.waiting.order.items = subst (λ (order : Vec ℕ Global). turn.place + 1 ≤ length order.items) (sym told.order) (omega (arith, below)) in
    elim c.if-branch.branch [
      | then-branch w ↦ record {
        keeps = keeps_trans _ _ _ l.invariant.keeps told.keeps;
        calm = told.calm;
        within = inside;
        round = subst (λ b. IsInRound how table declared before (turn.place + 1) b after) (sym w.changed-is) (walk-changed how table declared numbers before turn.place turn.number l.changed now after l.invariant.calm.ordered next.stands here told.walks (subst (λ b. IsChanged now b after) w.if-branch.true told.changed));
      }
      | else-branch w ↦ record {
        keeps = keeps_trans _ _ _ l.invariant.keeps told.keeps;
        calm = told.calm;
        within = inside;
        round = subst (λ b. IsInRound how table declared before (turn.place + 1) b after) (sym w.changed-is) (walk-unchanged how table declared numbers before turn.place turn.number l.changed now after l.invariant.calm.ordered next.stands here told.walks (subst (λ b. IsChanged now b after) w.if-branch.false told.changed));
      }
    ]

pub returns-clause-round : goal.returns-clause-round
returns-clause-round c =
    let how = c.args.self.now.strictness in
    let table = table_in c.args.self.now in
    let declared = declared_in c.args.self.now in
    let before = draft_view c.args.walker.now.draft in
    let l = c.loop-turn in
    let numbers = l.walker.waiting.order.items in
    let here = pass-round how table declared l.walker before l.from (length numbers) l.changed l.invariant.calm l.invariant.within (omega arith) c.in_default.ensures.none l.invariant.round in
    end-round how table declared numbers before (length numbers) l.changed (draft_view l.walker.draft) l.invariant.calm.ordered (omega arith) here
