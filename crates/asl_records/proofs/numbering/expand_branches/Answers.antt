use Rattle.std.proofs.Common.{◌≡◌, ◌+◌, ◌∷◌, [], ◌++◌, length, take, drop, get_or, arith}
use Rattle.std.proofs.lemmas.Grind.{common_steps}
use Rattle.std.proofs.lemmas.List.Elements.{All-push}
use Rattle.asl_numbered.specs.Laws.{below_next}
use Rattle.asl_records.specs.Proper.{IsProper}
use Rattle.asl_records.proofs.Numberings.{made_more}
use Rattle.asl_records.proofs.numbering.expand_branches.Goals as goal

pub expand-requires : goal.expand-requires
expand-requires c =
    let i = c.loop-number.number-index in
    let branches = c.args.branches.now in
    let n = get_or branches i 0 in
    let split : drop i branches ≡ n ∷ drop (i + 1) branches = grind (arith, common_steps) in
    record { below = (below_next (length c.args.shapes.now) (drop i branches) (drop (i + 1) branches) n split c.loop-number.invariant.below).0 }

pub loop-number-preserved : goal.loop-number-preserved
loop-number-preserved c =
    let l = c.loop-number in
    let i = l.number-index in
    let branches = c.args.branches.now in
    let n = get_or branches i 0 in
    let split : drop i branches ≡ n ∷ drop (i + 1) branches = grind (arith, common_steps) in
    let more : take (i + 1) branches ≡ take i branches ++ n ∷ [] = grind (arith, common_steps) in
    record {
      same = made_more c.args.shapes.now (take i branches) (take (i + 1) branches) n l.expanded.items c.push.new.self.items c.in_ok-expand.field-0 l.invariant.same c.in_ok-expand.ensures.same more c.in_ok-push.ensures.items;
      below = (below_next (length c.args.shapes.now) (drop i branches) (drop (i + 1) branches) n split l.invariant.below).1;
      proper = rw c.in_ok-push.ensures.items (All-push IsProper l.expanded.items c.in_ok-expand.field-0 l.invariant.proper c.in_ok-expand.ensures.proper);
    }
