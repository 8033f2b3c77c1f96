use Rattle.std.proofs.Common.{◌≡◌, [], ◌∷◌, codes}
use Rattle.asl_model.specs.AnswersSpelling.{only_fields}
use Rattle.asl_tree.specs.View.{entries_view}
use Rattle.asl_texts.proofs.answering.are_of_failure.Given as goal

-- the fields so far may be there
abbrev pub invariant-loop-name : goal.invariant-loop-name
invariant-loop-name l =
    only_fields (codes "Error" ∷ codes "Cause" ∷ []) (entries_view l.fields.entries) ≡ only_fields (codes "Error" ∷ codes "Cause" ∷ []) (entries_view l.name-iterator)
