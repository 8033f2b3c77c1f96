use Rattle.std.proofs.Common.{refl}
use Rattle.asl_numbered.proofs.Moving.{known_put}
use Rattle.asl_numbered.proofs.joining.look.Goals as goal

pub returns-in_ok-push-in-Some : goal.returns-in_ok-push-in-Some
returns-in_ok-push-in-Some c = record {
  moves = known_put c.args.table.now c.args.pair _ _ _ _ c.in-Some.number c.requires.below c.in-Some.ensures.number refl c.in_ok-push-in-Some.ensures.items;
}
