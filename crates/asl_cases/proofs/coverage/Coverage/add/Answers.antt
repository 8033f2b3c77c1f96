use Rattle.std.proofs.Common.{◌++◌, ◌∷◌, [], map, take, sym, ap, ◌∙◌, subst, append_assoc}
use Rattle.std.proofs.lemmas.List.{map_more, take_all}
use Rattle.asl_machine_table.specs.Table.{table_view}
use Rattle.asl_run.specs.Entries.{entry_view}
use Rattle.asl_cases.specs.Coverage.{AreFlagsOf, IsCoverageOf}
use Rattle.asl_cases.proofs.coverage.Coverage.add.Goals as goal

pub loop-entry-preserved : goal.loop-entry-preserved
loop-entry-preserved c = λ told is.
    let table = table_view c.args.machine.now in
    let trace = c.args.trace.now in
    let i = c.loop-entry.entry-index in
    let entry = c.entry-item.result in
    let done = map entry_view (take i trace) in
    let before = c.loop-entry.invariant told is in
    let more = c.add_entry.ensures (told ++ done) before.empty before.noted in
    let longer = append_assoc told done (entry_view entry ∷ [])
    ∙ ap (λ told'. told ++ told') (sym (map_more entry_view trace i entry c.loop-entry-test.true ∙ ap (λ e. done ++ entry_view e ∷ []) (sym c.entry-item.is))) in
    record {
      empty = before.empty;
      noted = subst (λ all. AreFlagsOf table all c.add_entry.new.states.items) longer more;
    }

pub returns : goal.returns
returns c = λ told is.
    let trace = c.args.trace.now in
    let all = take_all c.loop-entry.entry-index trace c.loop-entry-test.false in
    subst (λ entries. IsCoverageOf (table_view c.args.machine.now) (told ++ map entry_view entries) c.loop-entry.self) all (c.loop-entry.invariant told is)
