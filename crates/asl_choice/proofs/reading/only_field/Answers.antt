use Rattle.std.proofs.Common.{◌≡◌, ◌++◌, ap, ◌∙◌, String, Option, Some, None, false, is_some, Bor, List, ℕ}
use Rattle.std.specs.declared.alloc.Global.{Global}
use Rattle.asl_model.specs.Tree as model
use Rattle.serde_json.specs.declared.value.Value.{Value}
use Rattle.asl_choice.proofs.Fields.{one_seen, one_beside, one_main}
use Rattle.asl_choice.proofs.reading.only_field.Invariants.{found}
use Rattle.asl_choice.proofs.reading.only_field.Goals as goal

none_found : (only : Option (Bor (String Global) × Bor Value)) (all further : List (List ℕ × model.Tree)) → false ≡ is_some only → all ≡ found only ++ further → all ≡ further
none_found None all further none is = is
none_found (Some f) all further none is = absurd (cc)

pub loop-name-preserved-then-not-is_beside : goal.loop-name-preserved-then-not-is_beside
loop-name-preserved-then-not-is_beside c =
    let l = c.loop-name in
    let e : String Global × Value = (c.in-Some.name.now, c.in-Some.value.now) in
    let left = c.next.new.self in
    let seen = one_seen c.args.members.now.entries l.invariant.2.0 l.name-iterator left e l.invariant.2.1 c.in-Some.ensures.steps in
    (none_found l.only _ _ c.if-is_some.ensures l.invariant.0 ∙ one_main e l.name-iterator left c.deref.result.now c.in-Some.ensures.steps c.deref.ensures c.if-not-is_beside.ensures, seen.0, seen.1)

pub loop-name-preserved : goal.loop-name-preserved
loop-name-preserved c =
    let l = c.loop-name in
    let e : String Global × Value = (c.in-Some.name.now, c.in-Some.value.now) in
    let left = c.next.new.self in
    let seen = one_seen c.args.members.now.entries l.invariant.2.0 l.name-iterator left e l.invariant.2.1 c.in-Some.ensures.steps in
    (l.invariant.0 ∙ ap (λ m. found l.only ++ m) (one_beside e l.name-iterator left c.deref.result.now c.in-Some.ensures.steps c.deref.ensures c.if-not-is_beside.ensures), l.invariant.1, seen.1)
