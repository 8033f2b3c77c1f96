use Rattle.std.proofs.Common.{[], ◌∷◌, ◌++◌, map, sym, ap, ◌∙◌, arith, string_bytes}
use Rattle.std.proofs.lemmas.List.{map-append}
use Rattle.serde_json.specs.Find.{as_str}
use Rattle.asl_fields.proofs.Elements.{filtered_all, filtered_more, filtered_past}
use Rattle.asl_machine.proofs.trouble_reading.build_texts.Goals as goal
use Rattle.asl_machine.proofs.trouble_reading.build_texts.Goals.{in-Some+in_ok-from_str+in_ok-push, in_default}

pub loop-element-preserved : goal.loop-element-preserved
loop-element-preserved c =
    let l = c.loop-element in
    let done = map string_bytes l.texts.items in
    elim c.match-as_str.branch [
      | in-Some+in_ok-from_str+in_ok-push w ↦
          ap (λ t. map string_bytes t.items) w.texts-is ∙ ap (map string_bytes) w.in_ok-push.ensures.items ∙ map-append string_bytes l.texts.items (w.in_ok-from_str.field-0 ∷ [])
          ∙ ap (λ text. done ++ text ∷ []) w.in_ok-from_str.ensures.ok
          ∙ filtered_more as_str done c.args.elements.now l.element-index c.element-item.result w.in-Some.text.now (omega arith) c.element-item.is (sym w.in-Some.ensures) l.invariant
      | in_default w ↦
          ap (λ t. map string_bytes t.items) w.texts-is ∙ filtered_past as_str done c.args.elements.now l.element-index c.element-item.result (omega arith) c.element-item.is (sym w.in_default.ensures) l.invariant
    ]

pub returns : goal.returns
returns c =
    let l = c.loop-element in
    filtered_all as_str (map string_bytes l.texts.items) c.args.elements.now l.element-index (omega arith) l.invariant
