-- The line of each entry, put together of its parts.
use Rattle.std.proofs.Common.{◌≡◌, ℕ, pos, List, [], ◌∷◌, ◌++◌, refl, sym, ap, ◌∙◌, append_assoc, codes}
use Rattle.json.specs.Print.{escape_byte}
use Rattle.asl_model.specs.Faults.{Fault, error_name}
use Rattle.asl_model.specs.Json.{compact_text}
use Rattle.asl_model.specs.Printed.{line_break}
use Rattle.asl_model.specs.Run as model
use Rattle.asl_model.specs.Tree.{Tree, Integer, Text}
use Rattle.asl_model.specs.TracePrinted.{entry_line}
use Rattle.asl_trace.specs.Shown.{place_tree}

-- texts, each behind one that stands in front of it, up to an end
abbrev joined : List (List ℕ × List ℕ) → List ℕ → List ℕ
joined [] end = end
joined (part ∷ parts) end = part.0 ++ (part.1 ++ joined parts end)

end_behind : (parts : List (List ℕ × List ℕ)) (end last : List ℕ) → joined parts end ++ last ≡ joined parts (end ++ last)
end_behind [] end last = refl
end_behind (part ∷ parts) end last =
    append_assoc part.0 (part.1 ++ joined parts end) last
    ∙ ap (λ s. part.0 ++ s) (append_assoc part.1 (joined parts end) last ∙ ap (λ s. part.1 ++ s) (end_behind parts end last))

pub entered_line : (at state : List ℕ) (datum : Tree) → joined ((codes "{\"at\":", compact_text (place_tree at)) ∷ (codes ",\"entry\":\"Enter\",\"input\":", compact_text datum) ∷ (codes ",\"state\":", compact_text (Text state)) ∷ []) (codes "}\n") ≡ entry_line (at, model.Entered state datum)
unfolding escape_byte
entered_line at state datum =
    sym (end_behind ((codes "{\"at\":", compact_text (place_tree at)) ∷ (codes ",\"entry\":\"Enter\",\"input\":", compact_text datum) ∷ (codes ",\"state\":", compact_text (Text state)) ∷ []) (125 ∷ []) line_break)

pub asked_line : (at state : List ℕ) (datum : Tree) → joined ((codes "{\"at\":", compact_text (place_tree at)) ∷ (codes ",\"entry\":\"Task\",\"payload\":", compact_text datum) ∷ (codes ",\"state\":", compact_text (Text state)) ∷ []) (codes "}\n") ≡ entry_line (at, model.Asked state datum)
unfolding escape_byte
asked_line at state datum =
    sym (end_behind ((codes "{\"at\":", compact_text (place_tree at)) ∷ (codes ",\"entry\":\"Task\",\"payload\":", compact_text datum) ∷ (codes ",\"state\":", compact_text (Text state)) ∷ []) (125 ∷ []) line_break)

pub left_line : (at state : List ℕ) (datum : Tree) → joined ((codes "{\"at\":", compact_text (place_tree at)) ∷ (codes ",\"entry\":\"Leave\",\"output\":", compact_text datum) ∷ (codes ",\"state\":", compact_text (Text state)) ∷ []) (codes "}\n") ≡ entry_line (at, model.Left state datum)
unfolding escape_byte
left_line at state datum =
    sym (end_behind ((codes "{\"at\":", compact_text (place_tree at)) ∷ (codes ",\"entry\":\"Leave\",\"output\":", compact_text datum) ∷ (codes ",\"state\":", compact_text (Text state)) ∷ []) (125 ∷ []) line_break)

pub raise_line : (at state : List ℕ) (fault : Fault) (error : List ℕ) → error ≡ error_name fault.error → joined ((codes "{\"at\":", compact_text (place_tree at)) ∷ (codes ",\"entry\":\"Raise\",\"error\":", compact_text (Text error)) ∷ (codes ",\"field\":", compact_text (Text fault.field)) ∷ (codes ",\"state\":", compact_text (Text state)) ∷ []) (codes "}\n") ≡ entry_line (at, model.Raised state fault)
unfolding escape_byte
raise_line at state fault error named =
    rw named (sym (end_behind ((codes "{\"at\":", compact_text (place_tree at)) ∷ (codes ",\"entry\":\"Raise\",\"error\":", compact_text (Text (error_name fault.error))) ∷ (codes ",\"field\":", compact_text (Text fault.field)) ∷ (codes ",\"state\":", compact_text (Text state)) ∷ []) (125 ∷ []) line_break))

pub failure_line : (at cause error state : List ℕ) → joined ((codes "{\"at\":", compact_text (place_tree at)) ∷ (codes ",\"cause\":", compact_text (Text cause)) ∷ (codes ",\"entry\":\"TaskFailed\",\"error\":", compact_text (Text error)) ∷ (codes ",\"state\":", compact_text (Text state)) ∷ []) (codes "}\n") ≡ entry_line (at, model.TaskFailed state error cause)
unfolding escape_byte
failure_line at cause error state =
    sym (end_behind ((codes "{\"at\":", compact_text (place_tree at)) ∷ (codes ",\"cause\":", compact_text (Text cause)) ∷ (codes ",\"entry\":\"TaskFailed\",\"error\":", compact_text (Text error)) ∷ (codes ",\"state\":", compact_text (Text state)) ∷ []) (125 ∷ []) line_break)

pub child_line : (at cause : List ℕ) (child : ℕ) (error state : List ℕ) → joined ((codes "{\"at\":", compact_text (place_tree at)) ∷ (codes ",\"cause\":", compact_text (Text cause)) ∷ (codes ",\"child\":", compact_text (Integer (pos child))) ∷ (codes ",\"entry\":\"BranchFailed\",\"error\":", compact_text (Text error)) ∷ (codes ",\"state\":", compact_text (Text state)) ∷ []) (codes "}\n") ≡ entry_line (at, model.BranchFailed state child error cause)
unfolding escape_byte
child_line at cause child error state =
    sym (end_behind ((codes "{\"at\":", compact_text (place_tree at)) ∷ (codes ",\"cause\":", compact_text (Text cause)) ∷ (codes ",\"child\":", compact_text (Integer (pos child))) ∷ (codes ",\"entry\":\"BranchFailed\",\"error\":", compact_text (Text error)) ∷ (codes ",\"state\":", compact_text (Text state)) ∷ []) (125 ∷ []) line_break)

pub retry_line : (at : List ℕ) (retrier : ℕ) (state : List ℕ) → joined ((codes "{\"at\":", compact_text (place_tree at)) ∷ (codes ",\"entry\":\"Retried\",\"retrier\":", compact_text (Integer (pos retrier))) ∷ (codes ",\"state\":", compact_text (Text state)) ∷ []) (codes "}\n") ≡ entry_line (at, model.Retried state retrier)
unfolding escape_byte
retry_line at retrier state =
    sym (end_behind ((codes "{\"at\":", compact_text (place_tree at)) ∷ (codes ",\"entry\":\"Retried\",\"retrier\":", compact_text (Integer (pos retrier))) ∷ (codes ",\"state\":", compact_text (Text state)) ∷ []) (125 ∷ []) line_break)

pub catch_line : (at : List ℕ) (catcher : ℕ) (next state : List ℕ) → joined ((codes "{\"at\":", compact_text (place_tree at)) ∷ (codes ",\"catcher\":", compact_text (Integer (pos catcher))) ∷ (codes ",\"entry\":\"Caught\",\"next\":", compact_text (Text next)) ∷ (codes ",\"state\":", compact_text (Text state)) ∷ []) (codes "}\n") ≡ entry_line (at, model.Caught state catcher next)
unfolding escape_byte
catch_line at catcher next state =
    sym (end_behind ((codes "{\"at\":", compact_text (place_tree at)) ∷ (codes ",\"catcher\":", compact_text (Integer (pos catcher))) ∷ (codes ",\"entry\":\"Caught\",\"next\":", compact_text (Text next)) ∷ (codes ",\"state\":", compact_text (Text state)) ∷ []) (125 ∷ []) line_break)

pub output_line : (at : List ℕ) (output : Tree) → joined ((codes "{\"at\":", compact_text (place_tree at)) ∷ (codes ",\"entry\":\"Ended\",\"output\":", compact_text output) ∷ []) (codes "}\n") ≡ entry_line (at, model.Ended (model.Output output))
unfolding escape_byte
output_line at output =
    sym (end_behind ((codes "{\"at\":", compact_text (place_tree at)) ∷ (codes ",\"entry\":\"Ended\",\"output\":", compact_text output) ∷ []) (125 ∷ []) line_break)

pub failed_line : (at cause error : List ℕ) → joined ((codes "{\"at\":", compact_text (place_tree at)) ∷ (codes ",\"cause\":", compact_text (Text cause)) ∷ (codes ",\"entry\":\"Ended\",\"error\":", compact_text (Text error)) ∷ []) (codes "}\n") ≡ entry_line (at, model.Ended (model.FailedWith error cause))
unfolding escape_byte
failed_line at cause error =
    sym (end_behind ((codes "{\"at\":", compact_text (place_tree at)) ∷ (codes ",\"cause\":", compact_text (Text cause)) ∷ (codes ",\"entry\":\"Ended\",\"error\":", compact_text (Text error)) ∷ []) (125 ∷ []) line_break)
