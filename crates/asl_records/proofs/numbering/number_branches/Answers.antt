use Rattle.std.proofs.Common.{◌≡◌, ◌+◌, ◌∷◌, [], ◌++◌, take, arith}
use Rattle.std.proofs.lemmas.Grind.{common_steps}
use Rattle.asl_numbered.specs.Laws.{keeps_trans}
use Rattle.asl_records.proofs.Numberings.{listed_more}
use Rattle.asl_records.proofs.numbering.number_branches.Goals as goal

pub loop-branch-preserved : goal.loop-branch-preserved
loop-branch-preserved c =
    let l = c.loop-branch in
    let i = l.branch-index in
    let branches = c.args.branches.now in
    let s = c.branch-item.result in
    let more : take (i + 1) branches ≡ take i branches ++ s ∷ [] = grind (arith, common_steps) in
    record {
      keeps = keeps_trans _ _ _ l.invariant.keeps c.in_ok-add.ensures.keeps;
      numbered = listed_more _ _ (take i branches) (take (i + 1) branches) s l.numbers.items c.push.new.self.items c.in_ok-add.field-0 c.in_ok-add.ensures.keeps l.invariant.numbered c.in_ok-add.ensures.number more c.in_ok-push.ensures.items;
    }
