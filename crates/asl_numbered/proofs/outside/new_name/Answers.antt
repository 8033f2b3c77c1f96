use Rattle.std.proofs.Common.{◌≡◌, ◌∙◌, ◌+◌, ◌++◌, true, is_some, string_bytes, refl, sym, ap, arith}
use Rattle.std.specs.BTreeMap.{is_at}
use Rattle.std.specs.Map.{lookup}
use Rattle.asl_model.specs.Examples.{fresh_name}
use Rattle.asl_numbered.specs.Expansion.{fields_at}
use Rattle.asl_numbered.specs.Names.{text_cmp}
use Rattle.asl_numbered.proofs.Stepping.{name_begun, name_free, name_longer, name_taken, is_taken, taken_first, taken_second}
use Rattle.asl_numbered.proofs.outside.new_name.Goals as goal
use Rattle.asl_numbered.proofs.outside.new_name.Goals.{else-not-contains_key-via-then-not-contains_key+else-not-contains_key-2, else-not-contains_key-via-else-not-contains_key}

pub loop-init : goal.loop-init
loop-init c = (
  λ table. name_begun table c.args.fields.now.entries c.args.others.now.entries c.in_ok-name.name (c.len.result + c.len-2.result) (rw (c.len.ensures.len, c.len-2.ensures.len) refl) c.in_ok-name.ensures.ok,
  c.in_ok-name.ensures.ok,
)

pub returns-then-not-contains_key-2 : goal.returns-then-not-contains_key-2
returns-then-not-contains_key-2 c =
    let fields = c.args.fields.now.entries in
    let others = c.args.others.now.entries in
    let same = sym c.as_str-text.ensures.value in
    let first = ap (λ n. is_some (lookup (is_at (text_cmp n)) fields)) same ∙ (sym c.contains_key.ensures ∙ c.if-not-contains_key.true) in
    let second = ap (λ n. is_some (lookup (is_at (text_cmp n)) others)) same ∙ (sym c.contains_key-then-not-contains_key.ensures ∙ c.if-not-contains_key-2.true) in
    λ table. sym (name_free table fields others c.loop.name (fresh_name (fields_at table fields) (fields_at table others)) c.loop.counter (c.len.result + c.len-2.result) c.loop-test.true (c.loop.invariant.0 table) first second)

pub loop-preserved : goal.loop-preserved
loop-preserved c =
    let fields = c.args.fields.now.entries in
    let others = c.args.others.now.entries in
    let made = c.in_ok-push.ensures.bytes ∙ ap (λ cs. string_bytes c.loop.name ++ cs) (c.in_ok-push.ensures.ascii (omega arith)) in
    let longer = name_longer c.loop.name c.push.new.self c.loop.counter c.loop.invariant.1 made in
    let taken : is_taken c.as_str-text.result.now fields others ≡ true = elim c.else-not-contains_key.branch [
      | else-not-contains_key-via-then-not-contains_key+else-not-contains_key-2 w ↦ taken_second _ _ w.contains_key-then-not-contains_key.result w.contains_key-then-not-contains_key.ensures w.if-not-contains_key-2.false
      | else-not-contains_key-via-else-not-contains_key w ↦ taken_first _ _ c.contains_key.result c.contains_key.ensures w.if-not-contains_key.false
    ] in (
      λ table. name_taken table fields others c.loop.name c.push.new.self (fresh_name (fields_at table fields) (fields_at table others)) c.loop.counter (c.len.result + c.len-2.result) c.loop-test.true (c.loop.invariant.0 table) (ap (λ n. is_taken n fields others) (sym c.as_str-text.ensures.value) ∙ taken) longer.0,
      longer.1,
    )
