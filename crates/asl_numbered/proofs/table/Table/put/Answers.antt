use Rattle.std.proofs.Common.{sym, subst, length}
use Rattle.asl_numbered.specs.Expansion.{shape_over, RefersBelow, IsNumberOf}
use Rattle.asl_numbered.specs.Kinds.{IsProperNode}
use Rattle.asl_numbered.specs.Table.{AreFactsOf, shapes_in}
use Rattle.asl_numbered.proofs.Tables.{found, added_number, added_keeps, added_table}
use Rattle.asl_numbered.proofs.table.Table.put.Goals as goal
use Rattle.asl_numbered.specs.Laws.{keeps_same}

pub returns-in-Some : goal.returns-in-Some
returns-in-Some c =
    rw (← c.self.view_is) (record { number = found c.self.inside.nodes.entries c.args.node c.in-Some.number c.self.invariant (sym c.in-Some.ensures.index); keeps = keeps_same _ })

pub invariant_of-self-2 : goal.invariant_of-self-2
invariant_of-self-2 c =
    let es = c.self.inside.nodes.entries in
    let node = c.args.node in
    let facts = c.node_facts-facts.result in
    let refers = subst (λ shapes. RefersBelow (length shapes) node) (sym c.self.view_is) c.requires.refers in
    let kinds = subst (λ shapes. IsProperNode shapes node) (sym c.self.view_is) c.requires.proper in
    let right = subst (λ shapes. AreFactsOf (shape_over shapes node) facts) (sym c.self.view_is) c.node_facts-facts.ensures.facts in
    added_table es c.insert.new.self.entries node facts c.self.invariant c.in_default.ensures.found refers kinds c.in_ok-insert.ensures.entries right c.node_facts-facts.ensures.ordered

pub returns : goal.returns
returns c =
    let es = c.self.inside.nodes.entries in
    let new = c.insert.new.self.entries in
    let node = c.args.node in
    let facts = c.node_facts-facts.result in
    let refers = subst (λ shapes. RefersBelow (length shapes) node) (sym c.self.view_is) c.requires.refers in
    let kinds = subst (λ shapes. IsProperNode shapes node) (sym c.self.view_is) c.requires.proper in
    rw (← c.self.view_is) (record {
      number = subst (λ n. IsNumberOf (shapes_in new) (shape_over (shapes_in es) node) n) (sym c.len-number.ensures.len) (added_number es new node facts c.self.invariant c.in_default.ensures.found refers kinds c.in_ok-insert.ensures.entries);
      keeps = added_keeps es new node facts c.self.invariant c.in_default.ensures.found refers kinds c.in_ok-insert.ensures.entries;
    })
