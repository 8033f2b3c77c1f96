-- A warning changes no error.
use Rattle.std.proofs.Common.{◌≡◌, List, [], ◌∷◌, ◌++◌, map, cond, ap, ◌∙◌}
use Rattle.std.proofs.lemmas.List.{append-nil, map-append}
use Rattle.std.proofs.lemmas.List.Elements.{filter-append}
use Rattle.asl_diagnostics.specs.declared.Severity.{Severity}
use Rattle.asl_diagnostics.specs.declared.Severity.TheVariants as severity
use Rattle.asl_problems.specs.Told.{Told, errors_in, errors_of, is_error, told_by}
use Rattle.asl_problems.specs.declared.problems.Problem.{Problem}

pub warning_added : (before after : List Problem) (p : Problem) → after ≡ before ++ p ∷ [] → p.severity ≡ severity.Warning → errors_of after ≡ errors_of before
warning_added before after p pushed warns =
    let none : errors_in (told_by p ∷ []) ≡ [] = ap (λ (s : Severity). cond (is_error s) (told_by p ∷ []) []) warns in
    ap errors_of pushed
    ∙ ap errors_in (map-append told_by before (p ∷ []))
    ∙ filter-append (λ (t : Told). is_error t.severity) (map told_by before) (told_by p ∷ [])
    ∙ ap (λ ts. errors_of before ++ ts) none
    ∙ append-nil (errors_of before)
