use Rattle.std.proofs.Common.{◌∙◌, subst}
use Rattle.std.specs.Prelude.{◌≡◌, IfOk}
use Rattle.asl_numbered.specs.Laws.{kept_within}
use Rattle.asl_state_edges.specs.View.{steps_of}
use Rattle.asl_states.specs.Machine.{kind_view, settings_view}
use Rattle.asl_drafts.specs.Drafted.{draft_view, entry_at}
use Rattle.asl_drafts.proofs.DraftViews.{draft-same, state-below, state-shown, walk-same}
use Rattle.asl_drafts.proofs.Grown.{entries_kept, grown_kept}
use Rattle.asl_drafts.proofs.draft.Draft.edges.Goals as goal

pub edges-requires-clause-entry : goal.edges-requires-clause-entry
edges-requires-clause-entry c = c.entry_in-entry.ensures.below _ (state-below c.never.new.self c.in_ok-never.never c.in_ok-never.ensures.number c.in_ok-numbers.numbers c.args.number c.in_ok-numbers.ensures)

pub edges-requires-clause-gives : goal.edges-requires-clause-gives
edges-requires-clause-gives c = kept_within c.args.self.now.store c.never.new.self.store c.args.gives c.in_ok-never.ensures.keeps c.requires

pub invariant_of-self : goal.invariant_of-self
invariant_of-self c =
    let before = c.never.new.self in
    record {
      output_grown = grown_kept before.store c.edges.new.self before.output c.edges.ensures.keeps before.output_grown;
      entries_grown = entries_kept before.store c.edges.new.self before.entries.items c.edges.ensures.keeps before.entries_grown;
    }

pub returns-clause-walked : goal.returns-clause-walked
returns-clause-walked c =
    let first = c.args.self.now in
    let before = c.never.new.self in
    let kind = kind_view c.args.state.now.kind in
    let shown = c.entry_in-entry.ensures.shown before.store (entry_at (draft_view before) c.args.number) (state-shown before c.in_ok-never.never c.in_ok-never.ensures.number c.in_ok-numbers.numbers c.args.number c.in_ok-numbers.ensures) in
    subst (λ walked. IfOk c.edges.result (λ steps. steps_of c.edges.new.self steps.items ≡ walked)) (walk-same first.store before.store (draft_view first) (draft_view before) c.args.number c.args.gives (settings_view c.args.state.now.settings) kind c.entry_in-entry.result c.in_ok-never.ensures.keeps c.requires c.in_ok-never.ensures.same shown) c.edges.ensures.walked

pub returns-clause-same : goal.returns-clause-same
returns-clause-same c =
    let before = c.never.new.self in
    draft-same before.store c.edges.new.self before.output before.entries.items c.edges.ensures.keeps before.output_grown before.entries_grown ∙ c.in_ok-never.ensures.same
