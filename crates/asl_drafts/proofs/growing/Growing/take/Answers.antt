use Rattle.std.proofs.Common.{◌-◌, true, sym, subst, arith}
use Rattle.asl_numbered.specs.Expansion.{shape_at, Keeps}
use Rattle.asl_numbered.specs.Laws.{keeps_trans}
use Rattle.asl_drafts.specs.Growing.{IsGrown, Takes, growth_view}
use Rattle.asl_drafts.specs.declared.growing.Growing.{Growing}
use Rattle.asl_drafts.proofs.Grown.{any_grown, grown_kept, join_grown, takes_any, takes_join, takes_none, takes_nothing}
use Rattle.asl_drafts.proofs.growing.Growing.take.Goals as goal
use Rattle.asl_drafts.proofs.growing.Growing.take.Goals.{then-self-eq1+in_ok-grown, else-self-eq1}

pub returns-in_err-joined-clause-grown : goal.returns-in_err-joined-clause-grown
returns-in_err-joined-clause-grown c = grown_kept c.args.store.now c.join_cut.new.store c.args.self.now c.in_err-joined.ensures.keeps c.requires.grown

pub returns-then-self-eq0-clause-takes : goal.returns-then-self-eq0-clause-takes
returns-then-self-eq0-clause-takes c = takes_none c.args.store.now c.args.self.now (shape_at c.args.store.now c.args.flowing) c.if-self-eq0.true

pub returns-then-joined-self-clause-takes : goal.returns-then-joined-self-clause-takes
returns-then-joined-self-clause-takes c = takes_nothing c.args.store.now c.join_cut.new.store c.args.self.now c.args.flowing c.in_ok-joined.joined c.in_ok-joined.ensures.keeps c.requires.grown c.in_ok-joined.ensures.join c.if-joined-self.true

pub returns-then-joined-self-clause-grown : goal.returns-then-joined-self-clause-grown
returns-then-joined-self-clause-grown c = grown_kept c.args.store.now c.join_cut.new.store c.args.self.now c.in_ok-joined.ensures.keeps c.requires.grown

pub returns-in_err-grown-clause-grown : goal.returns-in_err-grown-clause-grown
returns-in_err-grown-clause-grown c = grown_kept c.args.store.now c.put.new.self c.args.self.now (keeps_trans _ _ _ c.in_ok-joined.ensures.keeps c.in_err-grown.ensures.keeps) c.requires.grown

pub returns-clause-grown : goal.returns-clause-grown
returns-clause-grown c =
    let h : Growing = record { number = c.if-self-eq1.grown; changes_left = c.args.self.now.changes_left - 1 } in
    elim c.if-self-eq1.branch [
      | then-self-eq1+in_ok-grown w ↦ subst (λ table. IsGrown table h) (sym w.store-is) (any_grown w.put.new.self h w.in_ok-grown.grown w.in_ok-grown.ensures.number w.grown-is)
      | else-self-eq1 w ↦ subst (λ table. IsGrown table h) (sym w.store-is) (join_grown c.args.store.now c.join_cut.new.store c.args.self.now c.args.flowing c.in_ok-joined.joined c.in_ok-joined.ensures.keeps c.requires.grown c.in_ok-joined.ensures.join h w.grown-is)
    ]

pub returns-clause-takes : goal.returns-clause-takes
returns-clause-takes c =
    let g = c.args.self.now in
    let h : Growing = record { number = c.if-self-eq1.grown; changes_left = c.args.self.now.changes_left - 1 } in
    let s = shape_at c.args.store.now c.args.flowing in
    elim c.if-self-eq1.branch [
      | then-self-eq1+in_ok-grown w ↦ subst (λ table. Takes (growth_view c.args.store.now g) s true (growth_view table h)) (sym w.store-is)
          (takes_any c.args.store.now c.join_cut.new.store g c.args.flowing c.in_ok-joined.joined c.in_ok-joined.ensures.keeps c.requires.grown c.in_ok-joined.ensures.join w.put.new.self h w.in_ok-grown.grown c.are_distinct.ensures.distinct c.if-joined-self.false w.in_ok-grown.ensures.number w.if-self-eq1.true (omega (arith, w.if-self-eq1.true)) w.grown-is)
      | else-self-eq1 w ↦ subst (λ table. Takes (growth_view c.args.store.now g) s true (growth_view table h)) (sym w.store-is)
          (takes_join c.args.store.now c.join_cut.new.store g c.args.flowing c.in_ok-joined.joined c.in_ok-joined.ensures.keeps c.requires.grown c.in_ok-joined.ensures.join h (g.changes_left - 2) c.are_distinct.ensures.distinct c.if-joined-self.false (omega (arith, c.if-self-eq0.false, w.if-self-eq1.false)) (omega (arith, c.if-self-eq0.false, w.if-self-eq1.false)) w.grown-is)
    ]

pub returns-clause-keeps : goal.returns-clause-keeps
returns-clause-keeps c = elim c.if-self-eq1.branch [
  | then-self-eq1+in_ok-grown w ↦ subst (λ table. Keeps c.args.store.now table) (sym w.store-is) (keeps_trans _ _ _ c.in_ok-joined.ensures.keeps w.in_ok-grown.ensures.keeps)
  | else-self-eq1 w ↦ subst (λ table. Keeps c.args.store.now table) (sym w.store-is) c.in_ok-joined.ensures.keeps
]
