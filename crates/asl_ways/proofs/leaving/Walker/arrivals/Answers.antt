use Rattle.std.proofs.Common.{◌≡◌, ◌++◌, [], length, refl, sym, ap, subst, arith}
use Rattle.std.proofs.lemmas.List.{append-nil}
use Rattle.asl_numbered.specs.Laws.{keeps_trans}
use Rattle.asl_records.specs.Laws.{entries_within}
use Rattle.asl_ways.specs.Adding.{Adds}
use Rattle.asl_ways.specs.Coming.{leaves_certified, leaves_first, starts}
use Rattle.asl_ways.specs.Given.{given_in}
use Rattle.asl_ways.proofs.Added.{added_below, added_seen, adds_same, adds_then}
use Rattle.asl_ways.proofs.Certified.{given_kept, leaves_more}
use Rattle.asl_ways.proofs.leaving.Walker.arrivals.Goals as goal

pub loop-number-init : goal.loop-number-init
loop-number-init c =
    let given = given_in c.args.shapes.now c.args.self.now in
    let table = c.push_start.new.shapes in
    let now = c.push_start.new.arrivals.items in
    record {
      count = c.states-count.ensures.number;
      keeps = c.push_start.ensures.keeps;
      adds = adds_same table [] now (starts given) (starts given ++ leaves_first given 0) (sym (append-nil (starts given))) (subst (λ xs. Adds table xs now (starts given)) c.new-arrivals.ensures.items c.in_ok-push_start.ensures.adds);
    }

pub push_certified-requires : goal.push_certified-requires
push_certified-requires c = record { states = entries_within c.args.shapes.now c.loop-number.shapes c.loop-number.invariant.keeps _ c.requires.states }

pub loop-number-preserved : goal.loop-number-preserved
loop-number-preserved c =
    let l = c.loop-number in
    let self = c.args.self.now in
    let given = given_in c.args.shapes.now self in
    let a = l.shapes in
    let b = c.push_certified.new.shapes in
    let now = c.push_certified.new.arrivals.items in
    let same = given_kept c.args.shapes.now l.shapes self l.invariant.keeps c.requires.states in
    let more = adds_same b l.arrivals.items now _ (leaves_certified given l.number) (ap (λ g. leaves_certified g l.number) same) c.in_ok-push_certified.ensures.adds in
    record {
      count = l.invariant.count;
      keeps = keeps_trans _ _ _ l.invariant.keeps c.push_certified.ensures.keeps;
      adds = adds_same b [] now _ _ (leaves_more given (starts given) l.number) (adds_then a b [] l.arrivals.items now _ _ c.push_certified.ensures.keeps l.invariant.adds more);
    }

pub returns-clause-all : goal.returns-clause-all
returns-clause-all c =
    let l = c.loop-number in
    let given = given_in c.args.shapes.now c.args.self.now in
    let end = c.loop-number-test.false in
    let most = l.auto.number-end in
    let count = l.invariant.count in
    let is : l.number ≡ length given.machine.states = omega (arith, end, most, count) in
    added_seen l.shapes [] l.arrivals.items _ refl (adds_same l.shapes [] l.arrivals.items _ _ (ap (λ n. starts given ++ leaves_first given n) is) l.invariant.adds)

pub returns-clause-below : goal.returns-clause-below
returns-clause-below c =
    let l = c.loop-number in
    (added_below l.shapes [] l.arrivals.items _ refl l.invariant.adds)
