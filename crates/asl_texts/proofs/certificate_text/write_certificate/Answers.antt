use Rattle.std.proofs.Common.{◌≡◌, ◌∷◌, ◌++◌, pos, sym, ap, subst, ◌∙◌}
use Rattle.json.specs.Token.{begin_object}
use Rattle.asl_model.specs.Certificate.{Certificate}
use Rattle.asl_model.specs.Tree.{Integer}
use Rattle.asl_model.specs.Written.{version_of}
use Rattle.asl_numbered.specs.Expansion.{shape_at}
use Rattle.asl_records.specs.Numbered.{numbered_entries}
use Rattle.asl_records.specs.WritingNumbered.{table_of}
use Rattle.asl_tree.specs.Written.{tree_tokens, ReadsBack}
use Rattle.asl_texts.specs.CertificateTokens.{certificate_tree, states_tokens, tree_at, StatesReadBack}
use Rattle.asl_texts.proofs.CertificateTokens.{certificate_appended, certificate_back, certificate_tokens}
use Rattle.asl_texts.proofs.certificate_text.write_certificate.Goals as goal

pub returns-clause-reads_back : goal.returns-clause-reads_back
returns-clause-reads_back c =
    let certificate = c.args.certificate.now in
    let shapes = c.args.shapes in
    let entries = certificate.states.entries in
    let states = c.in_ok-write_states.ensures in
    let one = c.new-spellings.ensures.shapes in
    let two = c.in_ok-write.ensures.kept.shapes ∙ one in
    let output = subst (λ s. ReadsBack (tree_at s certificate.output)) one c.in_ok-write.ensures.reads_back in
    let read_back = subst (λ s. StatesReadBack s entries) two states.read_back in
    let whole = certificate_back shapes certificate.output entries output c.in_ok-write_shapes.ensures.read_back states.in_order read_back in
    subst (λ table. ReadsBack (certificate_tree shapes (record { output = shape_at table certificate.output; states = numbered_entries table entries }))) c.requires.table whole

pub returns-clause-tokens : goal.returns-clause-tokens
returns-clause-tokens c =
    let certificate = c.args.certificate.now in
    let shapes = c.args.shapes in
    let entries = certificate.states.entries in
    let same = c.requires.table in
    let view : Certificate = record { output = shape_at (table_of shapes) certificate.output; states = numbered_entries (table_of shapes) entries } in
    let one = c.new-spellings.ensures.shapes in
    let two = c.in_ok-write.ensures.kept.shapes ∙ one in
    let output = c.in_ok-write.ensures.tokens ∙ ap (λ s. c.key.new.self.tokens ++ tree_tokens (tree_at s certificate.output)) one in
    let states = c.in_ok-write_states.ensures.tokens ∙ ap (λ s. c.key-2.new.self.tokens ++ begin_object ∷ states_tokens s entries) two in
    let several = ap (λ table. pos (version_of (record { output = shape_at table certificate.output; states = numbered_entries table entries }))) (sym same) in
    let version = c.in_ok-write_version.ensures.tokens ∙ ap (λ n. c.key-3.new.self.tokens ++ tree_tokens (Integer n)) several in
    let all = certificate_appended _ _ _ _ _ _ _ _ _ _ c.in_ok-begin_object.ensures.ok c.in_ok-key.ensures.ok output c.in_ok-write_shapes.ensures.tokens c.in_ok-key-2.ensures.ok states c.in_ok-key-3.ensures.ok version c.in_ok-end_object.ensures.ok in
    subst (λ table. c.end_object.new.self.tokens ≡ c.args.writer.now.tokens ++ tree_tokens (certificate_tree shapes (record { output = shape_at table certificate.output; states = numbered_entries table entries }))) same (all ∙ ap (λ ts. c.args.writer.now.tokens ++ ts) (sym (certificate_tokens shapes view)))
