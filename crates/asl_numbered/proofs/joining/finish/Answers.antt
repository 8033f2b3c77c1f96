use Rattle.std.proofs.Common.{refl}
use Rattle.asl_numbered.proofs.Joins.{joins_kept}
use Rattle.asl_numbered.proofs.Moving.{made_of, sliced, finish_put, finish_right}
use Rattle.asl_numbered.proofs.joining.finish.Goals as goal

pub assemble-requires : goal.assemble-requires
assemble-requires c = record {
  parts = made_of c.args.table.now c.args.pair c.args.start c.args.work.now.numbers.items c.requires.within c.requires.below c.requires.fed _ (sliced _ c.args.work.now.numbers.items c.args.start c.deref.ensures.value);
}

pub returns-in_err-number-clause-right : goal.returns-in_err-number-clause-right
returns-in_err-number-clause-right c = joins_kept _ _ c.args.joined.now.entries c.in_err-number.ensures.keeps c.requires.right

pub returns-in_err-remember-clause-right : goal.returns-in_err-remember-clause-right
returns-in_err-remember-clause-right c =
    finish_right c.args.table.now c.args.pair c.args.start c.args.work.now.numbers.items c.requires.within c.requires.below c.requires.fed _ c.in_ok-number.number c.in_ok-number.ensures.keeps c.in_ok-number.ensures.number c.args.joined.now.entries _ c.requires.right c.in_err-remember.ensures.right

pub returns-in_err-push-clause-right : goal.returns-in_err-push-clause-right
returns-in_err-push-clause-right c =
    finish_right c.args.table.now c.args.pair c.args.start c.args.work.now.numbers.items c.requires.within c.requires.below c.requires.fed _ c.in_ok-number.number c.in_ok-number.ensures.keeps c.in_ok-number.ensures.number c.args.joined.now.entries _ c.requires.right c.in_ok-remember.ensures.right

pub returns-clause-moves : goal.returns-clause-moves
returns-clause-moves c =
    finish_put c.args.table.now c.args.pair c.args.start c.args.work.now.numbers.items c.requires.within c.requires.below c.requires.fed _ c.in_ok-number.number c.in_ok-number.ensures.keeps c.in_ok-number.ensures.number _ _ c.truncate.new.self.items _ refl c.truncate.ensures.items c.in_ok-push.ensures.items

pub returns-clause-right : goal.returns-clause-right
returns-clause-right c =
    finish_right c.args.table.now c.args.pair c.args.start c.args.work.now.numbers.items c.requires.within c.requires.below c.requires.fed _ c.in_ok-number.number c.in_ok-number.ensures.keeps c.in_ok-number.ensures.number c.args.joined.now.entries _ c.requires.right c.in_ok-remember.ensures.right
