use Rattle.asl_drafts.proofs.cutting.join_cut.Goals as goal

pub cut_to-requires-clause-within : goal.cut_to-requires-clause-within
cut_to-requires-clause-within c = c.in_ok-joined.ensures.join.within
