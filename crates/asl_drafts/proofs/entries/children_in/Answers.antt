use Rattle.std.proofs.Common.{◌≡◌, sym, ◌∙◌, subst, arith}
use Rattle.asl_draft_laws.specs.Drafts.{children_in}
use Rattle.asl_states.specs.Machine.{kind_view}
use Rattle.asl_states.proofs.Branches.{one_each}
use Rattle.asl_drafts.proofs.entries.children_in.Goals as goal

pub returns-in-Parallel : goal.returns-in-Parallel
returns-in-Parallel c =
    let many = c.len.ensures ∙ c.in-Parallel.branches.ok.0 ∙ sym (one_each c.in-Parallel.branches.items) in
    subst (λ kind. c.len.result ≡ children_in (kind_view kind)) (sym c.in-Parallel.is) (omega (arith, many))
