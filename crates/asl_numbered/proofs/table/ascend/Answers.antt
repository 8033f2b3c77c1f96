use Rattle.std.proofs.Common.{◌+◌, ap, arith, map}
use Rattle.std.proofs.lemmas.List.{drop_all}
use Rattle.asl_numbered.specs.Expansion.{shape_at}
use Rattle.asl_numbered.proofs.Ascending.{ascend_next, ascend_none, ascend_before, ascend_end, next_shape}
use Rattle.asl_numbered.proofs.table.ascend.Goals as goal

pub loop-part-preserved : goal.loop-part-preserved
loop-part-preserved c =
    let l = c.loop-part in
    let table = c.args.table.now in
    let more = ascend_next l.place c.in-Some.kind (c.in-Some.kind + 1) _ _ _ (next_shape table c.args.parts.now l.part-index c.loop-part-test.true) (omega arith) (omega (arith, c.if-kind-place.true)) c.in-Some.ensures.one in
    (λ h. more.0 (l.invariant.0 h), λ h. l.invariant.1 (more.1 h))

pub returns-in_default : goal.returns-in_default
returns-in_default c =
    let l = c.loop-part in
    let table = c.args.table.now in
    let none = ascend_before l.place c.in-Some.kind _ _ _ (next_shape table c.args.parts.now l.part-index c.loop-part-test.true) (omega (arith, c.if-kind-place.false)) c.in-Some.ensures.one in
    (λ h. absurd (cc), λ h. absurd (none (l.invariant.0 h)))

pub returns-in_default-2 : goal.returns-in_default-2
returns-in_default-2 c =
    let l = c.loop-part in
    let table = c.args.table.now in
    let none = ascend_none l.place _ _ _ (next_shape table c.args.parts.now l.part-index c.loop-part-test.true) (c.kind_at.ensures.none c.in_default.is) in
    (λ h. absurd (cc), λ h. absurd (none (l.invariant.0 h)))

pub returns : goal.returns
returns c =
    let l = c.loop-part in
    let table = c.args.table.now in
    let last = ascend_end l.place _ (ap (map (shape_at table)) (drop_all l.part-index c.args.parts.now c.loop-part-test.false)) in
    (λ h. l.invariant.1 last, λ h. cc)
