use Rattle.std.proofs.Common.{◌<◌, length, sym, subst}
use Rattle.asl_numbered.specs.Expansion.{Shows}
use Rattle.asl_drafts.specs.Cuts.{cut_of}
use Rattle.asl_drafts.proofs.Known.{cut_put}
use Rattle.asl_drafts.proofs.store.Store.remember.Goals as goal

pub invariant_of-self-2 : goal.invariant_of-self-2
invariant_of-self-2 c =
    let table = c.self.inside.shapes in
    let within : c.args.cut.number < length table = rw c.self.view_is c.requires.within in
    let shown = subst (λ ns. Shows ns (cut_of ns c.args.cut) c.args.number) (sym c.self.view_is) c.requires.shown in (
      c.self.invariant.0,
      cut_put table c.self.inside.cuts.entries c.insert.new.self.entries c.args.cut c.args.number within shown c.self.invariant.1 c.in_ok-insert.ensures.entries,
    )
