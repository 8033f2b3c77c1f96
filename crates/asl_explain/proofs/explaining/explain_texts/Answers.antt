use Rattle.asl_explain.proofs.explaining.explain_texts.Goals as goal

pub returns-clause-exactly : goal.returns-clause-exactly
returns-clause-exactly c = λ none. c.in_ok-explain_all-in-None.ensures.exactly c.args.definition.now c.args.declared.now c.in_ok-subject.ensures.read
