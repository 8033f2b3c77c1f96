use Rattle.std.proofs.Common.{Bor, List, ℕ, option_map}
use Rattle.std.proofs.lemmas.Result.{err_from_is_err_and}
use Rattle.asl_machine_table.specs.Table.{scope_in}
use Rattle.asl_records.specs.View.{declared_view}
use Rattle.asl_tree.specs.View.{view}
use Rattle.asl_texts.specs.Runs.{texts_of}
use Rattle.asl_texts.proofs.RunFaults.{answers_unread}
use Rattle.asl_texts.proofs.given.read_given.Goals as goal

pub returns-in_err-answers-clause-fault : goal.returns-in_err-answers-clause-fault
returns-in_err-answers-clause-fault g c =
    let machine = c.in_ok-machine.ensures.machine in
    let texts = texts_of c.args.definition.now (option_map (λ (text : Bor (List ℕ)). text.now) c.args.declared) c.args.input.now (g.S.Source.remaining c.args.answers.now) in
    let p = err_from_is_err_and c.from_residual-in_err-answers.result c.from_residual-in_err-answers.ensures.1 in
    rw (p.1, p.2) (answers_unread texts (g.S.Source.failed c.answers_in_source.new.source) c.in_err-answers.field-0.0
    (record {
      before = record { before = record { machine = scope_in c.in_ok-machine.machine; as_machine = machine }; shapes = option_map declared_view c.in_ok-declared.declared; as_shapes = c.in_ok-declared.ensures.declared };
      given = view c.in_ok-input.input;
      as_input = c.in_ok-input.ensures.tree;
    })
    c.in_err-answers.ensures.fault)
