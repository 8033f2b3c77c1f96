use Rattle.std.proofs.Common.{refl}
use Rattle.asl_numbered.proofs.Joins.{joins_kept}
use Rattle.asl_numbered.proofs.Moving.{nothing_put, with_put}
use Rattle.asl_numbered.proofs.joining.perform.Goals as goal

-- what is remembered stays right

pub returns-in_err-never-in-Nothing-clause-right :
    goal.returns-in_err-never-in-Nothing-clause-right
returns-in_err-never-in-Nothing-clause-right c = joins_kept _ _ c.args.joined.now.entries c.in_err-never-in-Nothing.ensures.keeps c.requires.right

pub returns-in_err-push-in-Nothing-clause-right : goal.returns-in_err-push-in-Nothing-clause-right
returns-in_err-push-in-Nothing-clause-right c = joins_kept _ _ c.args.joined.now.entries c.in_ok-never-in-Nothing.ensures.keeps c.requires.right

pub returns-in_ok-push-in-Nothing-clause-right : goal.returns-in_ok-push-in-Nothing-clause-right
returns-in_ok-push-in-Nothing-clause-right c = joins_kept _ _ c.args.joined.now.entries c.in_ok-never-in-Nothing.ensures.keeps c.requires.right

-- a number is put down, or another task

pub returns-in_ok-push-in-Nothing-clause-moves : goal.returns-in_ok-push-in-Nothing-clause-moves
returns-in_ok-push-in-Nothing-clause-moves c =
    nothing_put _ _ c.args.task _ _ _ _ c.in_ok-never-in-Nothing.never c.in-Nothing.is c.in_ok-never-in-Nothing.ensures.keeps c.requires.below c.in_ok-never-in-Nothing.ensures.number refl c.in_ok-push-in-Nothing.ensures.items

pub returns-in_ok-push-in-With-clause-moves : goal.returns-in_ok-push-in-With-clause-moves
returns-in_ok-push-in-With-clause-moves c =
    with_put _ c.args.task _ _ _ _ c.in-With.number c.in-Some.last c.in-With.is c.requires.within c.requires.below c.in-Some.ensures.items c.in_ok-push-in-With.ensures.items
