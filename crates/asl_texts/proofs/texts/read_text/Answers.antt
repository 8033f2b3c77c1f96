use Rattle.std.proofs.Common.{◌≡◌, ◌++◌, take, arith, sym, subst}
use Rattle.std.proofs.KnownBytes.{Consumes-trans}
use Rattle.std.proofs.lemmas.List.{length-take-le}
use Rattle.std.specs.Io.KnownBytes.{Consumes}
use Rattle.asl_texts.specs.Fronts.{HasFront}
use Rattle.asl_texts.proofs.Fronts.{text_read_on}
use Rattle.asl_texts.proofs.texts.read_text.Goals as goal

pub pieces-preserved : goal.pieces-preserved
pieces-preserved g c =
    let old = g.S.Source.remaining c.args.source.now in
    let now = g.S.Source.remaining c.pieces.source in
    let new = g.S.Source.remaining c.read.new.self in
    let before = g.S.Source.begins c.pieces.source in
    let after = g.S.Source.begins c.read.new.self in
    let text = c.pieces.text.items in
    let piece = take c.in-Ok.count c.read.new.buffer in
    let grown : c.extend_from_slice.new.self.items ≡ text ++ piece = c.in_ok-extend_from_slice.ensures.items in
    let read = Consumes-trans old now new text piece c.pieces.invariant.read c.in-Ok.ensures.bytes.0 in
    record {
      within = omega (arith, c.in_ok-extend_from_slice.ensures.len, length-take-le c.in-Ok.count c.read.new.buffer c.in-Ok.ensures.within.0);
      read = subst (λ v. Consumes old new v) (sym grown) read;
      fronts = λ front begun. subst (λ v. HasFront after v front) (sym grown)
          (text_read_on before after text piece front (c.pieces.invariant.fronts front begun) (λ more there. (c.in-Ok.ensures.fronts more there).0));
      lasting = λ h. c.read.ensures.lasting (c.pieces.invariant.lasting h);
    }
