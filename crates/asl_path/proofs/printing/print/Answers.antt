use Rattle.std.proofs.Common.{◌≡◌, ◌∙◌, ◌++◌, Some, string_bytes, ap, subst, append-nil, arith}
use Rattle.std.proofs.lemmas.List.{drop_all}
use Rattle.asl_model.specs.PathSpelling.{Spells, path_of, printed_path, printed_segments}
use Rattle.asl_model.proofs.PathPrinting.{printed_spells}
use Rattle.asl_model.proofs.PathReading.{path_of-is-Spells}
use Rattle.asl_path.specs.View.{segments_view}
use Rattle.asl_path.proofs.printing.print.Goals as goal

pub returns-clause-spells : goal.returns-clause-spells
returns-clause-spells c =
    let l = c.loop-segment in
    let whole : printed_path c.args.path.now ≡ string_bytes l.text = l.invariant ∙ ap (λ ss. string_bytes l.text ++ printed_segments (segments_view ss)) (drop_all l.segment-index c.segments-segment-items.result.now (omega arith)) ∙ append-nil (string_bytes l.text) in
    subst (λ t. Spells t c.args.path.now) whole (printed_spells c.args.path.now c.segments-segment-items.ensures.spelled)

pub returns-clause-read_back : goal.returns-clause-read_back
returns-clause-read_back c =
    let l = c.loop-segment in
    let path = c.args.path.now in
    let whole : printed_path path ≡ string_bytes l.text = l.invariant ∙ ap (λ ss. string_bytes l.text ++ printed_segments (segments_view ss)) (drop_all l.segment-index c.segments-segment-items.result.now (omega arith)) ∙ append-nil (string_bytes l.text) in
    let back : path_of (printed_path path) ≡ Some path = (path_of-is-Spells (printed_path path) path).1 (printed_spells path c.segments-segment-items.ensures.spelled) in
    subst (λ t. path_of t ≡ Some path) whole back
