use Rattle.std.proofs.Common.{◌≡◌, ◌∷◌, [], ◌++◌, length, ap, ◌∙◌, arith}
use Rattle.asl_numbered.specs.declared.joining.JoinTask.TheVariants.{Finish}
use Rattle.asl_numbered.proofs.Looking.{any_leads, kinds_lead}
use Rattle.asl_numbered.proofs.joining.look_inside.Goals as goal

pub returns-in-None : goal.returns-in-None
returns-in-None c =
    let counted : c.len-start.result ≡ length c.args.work.now.numbers.items = omega (arith, c.len-start.ensures, c.args.work.now.numbers.ok) in
    record {
      moves = any_leads c.args.table.now c.args.pair c.requires.within c.requires.inhabited c.args.work.now.numbers.items c.requires.below c.args.work.now.tasks.items c.push.new.self.items c.in-None.ensures.both (c.in_ok-push.ensures.items ∙ ap (λ n. c.args.work.now.tasks.items ++ Finish c.args.pair n ∷ []) counted);
    }

pub returns-in_ok-put_arrays-in-Some : goal.returns-in_ok-put_arrays-in-Some
returns-in_ok-put_arrays-in-Some c =
    let counted : c.len-start.result ≡ length c.args.work.now.numbers.items = omega (arith, c.len-start.ensures, c.args.work.now.numbers.ok) in
    record {
      moves = kinds_lead c.args.table.now c.args.pair c.requires.within c.requires.inhabited c.args.work.now.numbers.items c.requires.below c.args.work.now.tasks.items _ c.in-Some.first c.in-Some.second _ _ c.in-Some.ensures.both (c.in_ok-push.ensures.items ∙ ap (λ n. c.args.work.now.tasks.items ++ Finish c.args.pair n ∷ []) counted) c.in_ok-put_objects-in-Some.ensures.put c.in_ok-put_arrays-in-Some.ensures.put;
    }
