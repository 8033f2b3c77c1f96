use Rattle.std.proofs.Common.{◌≡◌, [], ◌++◌, sym, ap, ap₂, subst, ◌∙◌}
use Rattle.std.proofs.lemmas.Str.{IsUtf8-string_bytes}
use Rattle.json.specs.Lex.{tokens}
use Rattle.json.specs.Print.{print}
use Rattle.asl_records.specs.Listing.{listed_shapes}
use Rattle.asl_records.specs.Numbered.{numbered_view}
use Rattle.asl_records.proofs.References.{certificate_proper}
use Rattle.asl_tree.specs.Written.{tree_tokens, ReadsBack}
use Rattle.asl_tree.proofs.Tokens.{print_tree_tokens, reads_as_tree}
use Rattle.asl_texts.specs.CertificateText.{written_as}
use Rattle.asl_texts.specs.CertificateTokens.{certificate_tree}
use Rattle.asl_texts.proofs.CertificateTokens.{as_asked, asked_is_shallow, reads_as_certificate}
use Rattle.asl_texts.proofs.certificate_text.text_of_certificate.Goals as goal

pub write_certificate-requires-clause-ready : goal.write_certificate-requires-clause-ready
write_certificate-requires-clause-ready c =
    record { placed = rw (c.new-shapes.ensures.shapes, c.new-shapes.ensures.listing) c.in_ok-listing.ensures.listing.placed }

pub returns-clause-text : goal.returns-clause-text
returns-clause-text c =
    let view = numbered_view c.args.certificate.now in
    let shapes = c.new-shapes.result in
    let listed = ap₂ listed_shapes c.new-shapes.ensures.shapes c.new-shapes.ensures.listing ∙ c.in_ok-listing.ensures.listed in
    let same : certificate_tree shapes view ≡ written_as c.args.numbered view = as_asked shapes c.args.numbered view listed in
    let t = written_as c.args.numbered view in
    let empty : c.write_certificate.new.writer.before ≡ [] = c.write_certificate.ensures.before ∙ c.new-writer.ensures.before ∙ c.new.ensures.items in
    let all : c.write_certificate.new.writer.tokens ≡ tree_tokens t = c.in_ok-write_certificate.ensures.tokens ∙ ap₂ (λ ts u. ts ++ tree_tokens u) c.new-writer.ensures.tokens same in
    ap (λ v. v.items) c.in-Ok.ensures.ok ∙ c.into_inner.ensures.items ∙ ap₂ (λ b ts. b ++ print ts) empty all ∙ print_tree_tokens t

pub returns-clause-reads_back : goal.returns-clause-reads_back
returns-clause-reads_back c = λ shallow.
    let certificate = c.args.certificate.now in
    let view = numbered_view certificate in
    let shapes = c.new-shapes.result in
    let proper = certificate_proper certificate c.are_proper.ensures.proper in
    let listed = ap₂ listed_shapes c.new-shapes.ensures.shapes c.new-shapes.ensures.listing ∙ c.in_ok-listing.ensures.listed in
    let same : certificate_tree shapes view ≡ written_as c.args.numbered view = as_asked shapes c.args.numbered view listed in
    let t = written_as c.args.numbered view in
    let all : c.write_certificate.new.writer.tokens ≡ tree_tokens t = c.in_ok-write_certificate.ensures.tokens ∙ ap₂ (λ ts u. ts ++ tree_tokens u) c.new-writer.ensures.tokens same in
    let back = subst ReadsBack same c.in_ok-write_certificate.ensures.reads_back in
    let text = returns-clause-text c ∙ sym (print_tree_tokens t) ∙ ap print (sym all) in
    let read = reads_as_tree _ t (IsUtf8-string_bytes c.in-Ok.text) (ap tokens text ∙ c.into_inner.ensures.reads_back ∙ all) back (asked_is_shallow c.args.numbered view proper shallow) in
    reads_as_certificate c.args.numbered view _ (λ v is. c.written_records_are_read_back.ensures.certificate v view proper is) (λ v is. c.written_records_are_read_back.ensures.numbered v view proper is) read
