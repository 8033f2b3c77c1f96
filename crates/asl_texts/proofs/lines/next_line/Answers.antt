use Rattle.std.proofs.Common.{◌≡◌, ◌+◌, ◌++◌, ◌≤◌, ◌<◌, List, ℕ, [], length, take, drop, arith, sym, ap, ◌∙◌, subst}
use Rattle.std.proofs.lemmas.Bool.{eqb-true}
use Rattle.std.proofs.lemmas.List.{length-append, length-take-le, nil_from_length}
use Rattle.std.specs.Io.KnownBytes.{prepend_known}
use Rattle.asl_texts.specs.Chunk.{pending}
use Rattle.asl_model.specs.Printed.{first_line, further_lines}
use Rattle.asl_texts.specs.Lines.{TakesLine}
use Rattle.asl_texts.specs.Fronts.{HasFront, FillsFronts}
use Rattle.asl_texts.proofs.Fronts.{IsUnbroken, read_on, line_broken, line_ended, piece_taken, piece_unbroken}
use Rattle.asl_texts.proofs.LineSteps.{LeavesLine, left_by_fill, left_by_piece, taken_by_piece, longer_by_piece}
use Rattle.asl_texts.proofs.lines.next_line.Goals as goal

pub returns-then-is_empty-clause-fronts : goal.returns-then-is_empty-clause-fronts
returns-then-is_empty-clause-fronts g c = λ front before.
    let begins = g.S.Source.begins c.fill.new.source in
    let none : pending c.fill.new.self ≡ [] = sym c.rest-rest.ensures ∙ nil_from_length c.rest-rest.result.now (eqb-true (length c.rest-rest.result.now) 0 (sym c.if-is_empty.ensures)) in
    let within : length c.pieces.line.items ≤ 16777216 = omega arith in
    let P : List ℕ → Type 0 = λ v. HasFront begins v (further_lines front) in
    let F : List ℕ → Type 0 = λ v. FillsFronts (g.S.Source.begins c.pieces.source) begins (pending c.pieces.chunk) v in
    let ended = line_ended (g.S.Source.begins c.pieces.source) begins c.pieces.line.items (pending c.pieces.chunk) front c.pieces.invariant.unbroken within
    (subst F none c.in-Ok.ensures.fronts) (c.pieces.invariant.fronts front before) in
    (ended.0, subst P (sym none) ended.1)

pub returns-then-front-len-clause-fault : goal.returns-then-front-len-clause-fault
returns-then-front-len-clause-fault g c =
    let p = pending c.fill.new.self in
    let old = prepend_known (pending c.args.chunk.now) (g.S.Source.remaining c.args.source.now) in
    let mid = prepend_known (pending c.pieces.chunk) (g.S.Source.remaining c.pieces.source) in
    let rest = g.S.Source.remaining c.fill.new.source in
    let line = c.pieces.line.items in
    let left = left_by_fill old mid (prepend_known p rest) line c.pieces.invariant.taken c.fill.ensures.same in
    let count : c.front_of_line-front.result ≡ length (first_line p) = c.front_of_line-front.ensures.count ∙ ap (λ (v : List ℕ). length (first_line v)) c.rest-rest.ensures in
    let over : 16777216 < c.front_of_line-front.result + length line = omega arith in
    longer_by_piece old rest line p c.front_of_line-front.result count over left

pub slice_bounds-extend_from_slice-end : goal.slice_bounds-extend_from_slice-end
slice_bounds-extend_from_slice-end g c =
    sym (length-take-le c.front_of_line-front.result c.rest-rest.result.now c.front_of_line-front.ensures.within)

pub take-requires : goal.take-requires
take-requires g c =
    let P : List ℕ → Type 0 = λ v. c.front_of_line-front.result ≤ length v in
    subst P c.rest-rest.ensures c.front_of_line-front.ensures.within

pub returns-then-ends-clause-line : goal.returns-then-ends-clause-line
returns-then-ends-clause-line g c =
    let p = pending c.fill.new.self in
    let n = c.front_of_line-front.result in
    let old = prepend_known (pending c.args.chunk.now) (g.S.Source.remaining c.args.source.now) in
    let mid = prepend_known (pending c.pieces.chunk) (g.S.Source.remaining c.pieces.source) in
    let rest = g.S.Source.remaining c.fill.new.source in
    let line = c.pieces.line.items in
    let left = left_by_fill old mid (prepend_known p rest) line c.pieces.invariant.taken c.fill.ensures.same in
    let count : n ≡ length (first_line p) = c.front_of_line-front.ensures.count ∙ ap (λ (v : List ℕ). length (first_line v)) c.rest-rest.ensures in
    let inside : n < length p = let P : List ℕ → Type 0 = λ v. n < length v in subst P c.rest-rest.ensures c.if-ends.true in
    let extended : c.extend_from_slice.new.self.items ≡ line ++ take n p = c.in_ok-extend_from_slice.ensures.items ∙ ap (λ (v : List ℕ). line ++ take n v) c.rest-rest.ensures in
    let passed : pending c.take-then-ends.new.self ≡ drop 1 (drop n p) = c.take-then-ends.ensures ∙ ap (λ (v : List ℕ). drop 1 v) c.take.ensures in
    let P : List ℕ → Type 0 = λ v. TakesLine old (prepend_known (pending c.take-then-ends.new.self) rest) v in
    let Q : List ℕ → Type 0 = λ v. TakesLine old (prepend_known v rest) (line ++ take n p) in
    subst P (sym extended) (subst Q (sym passed) (taken_by_piece old rest line p n count inside left))

pub returns-then-ends-clause-fronts : goal.returns-then-ends-clause-fronts
returns-then-ends-clause-fronts g c = λ front before.
    let p = pending c.fill.new.self in
    let n = c.front_of_line-front.result in
    let begins = g.S.Source.begins c.fill.new.source in
    let line = c.pieces.line.items in
    let count : n ≡ length (first_line p) = c.front_of_line-front.ensures.count ∙ ap (λ (v : List ℕ). length (first_line v)) c.rest-rest.ensures in
    let inside : n < length p = let P : List ℕ → Type 0 = λ v. n < length v in subst P c.rest-rest.ensures c.if-ends.true in
    let passed : pending c.take-then-ends.new.self ≡ drop 1 (drop n p) = c.take-then-ends.ensures ∙ ap (λ (v : List ℕ). drop 1 v) c.take.ensures in
    let whole : length (line ++ take n p) ≡ length line + n = length-append line (take n p) ∙ ap (λ k. length line + k) (length-take-le n p (omega arith)) in
    let held = read_on (g.S.Source.begins c.pieces.source) begins line (pending c.pieces.chunk) p front (c.pieces.invariant.fronts front before) (λ more there. (c.in-Ok.ensures.fronts more there).0) in
    let ended = line_broken begins line p front n count inside c.pieces.invariant.unbroken (omega arith) held in
    let P : List ℕ → Type 0 = λ v. HasFront begins v (further_lines front) in
    (ended.0, subst P (sym passed) ended.1)

pub pieces-preserved : goal.pieces-preserved
pieces-preserved g c =
    let begins = g.S.Source.begins c.fill.new.source in
    let p = pending c.fill.new.self in
    let n = c.front_of_line-front.result in
    let old = prepend_known (pending c.args.chunk.now) (g.S.Source.remaining c.args.source.now) in
    let mid = prepend_known (pending c.pieces.chunk) (g.S.Source.remaining c.pieces.source) in
    let rest = g.S.Source.remaining c.fill.new.source in
    let line = c.pieces.line.items in
    let left = left_by_fill old mid (prepend_known p rest) line c.pieces.invariant.taken c.fill.ensures.same in
    let count : n ≡ length (first_line p) = c.front_of_line-front.ensures.count ∙ ap (λ (v : List ℕ). length (first_line v)) c.rest-rest.ensures in
    let whole : length p ≤ n = let P : List ℕ → Type 0 = λ v. length v ≤ n in subst P c.rest-rest.ensures c.if-ends.false in
    let extended : c.extend_from_slice.new.self.items ≡ line ++ take n p = c.in_ok-extend_from_slice.ensures.items ∙ ap (λ (v : List ℕ). line ++ take n v) c.rest-rest.ensures in
    let P : List ℕ → Type 0 = λ v. LeavesLine old (prepend_known (pending c.take.new.self) rest) v in
    let Q : List ℕ → Type 0 = λ v. LeavesLine old (prepend_known v rest) (line ++ take n p) in
    let taken = subst P (sym extended) (subst Q (sym c.take.ensures) (left_by_piece old rest line p n count whole left)) in
    record {
      within = omega (arith, c.in_ok-extend_from_slice.ensures.len, length-take-le n c.rest-rest.result.now c.front_of_line-front.ensures.within);
      taken = taken;
      unbroken = subst IsUnbroken (sym extended) (piece_unbroken line p n count whole c.pieces.invariant.unbroken);
      fronts = λ front before.
          let held = read_on (g.S.Source.begins c.pieces.source) begins line (pending c.pieces.chunk) p front (c.pieces.invariant.fronts front before) (λ more there. (c.in-Ok.ensures.fronts more there).0) in
          let F : List ℕ → Type 0 = λ v. HasFront begins (v ++ pending c.take.new.self) front in
          let G : List ℕ → Type 0 = λ v. HasFront begins ((line ++ take n p) ++ v) front in
          subst F (sym extended) (subst G (sym c.take.ensures) (piece_taken begins line p front n held));
      lasting = λ h. c.fill.ensures.lasting (c.pieces.invariant.lasting h);
    }
