use Rattle.std.proofs.Common.{◌≡◌, [], ◌∷◌, ◌++◌, Err, refl, sym, ap, ◌∙◌, append_assoc, arith}
use Rattle.std.proofs.lemmas.Result.{err_from_is_err_and}
use Rattle.asl_tree.proofs.Texts.{elements_none, members_none}
use Rattle.asl_template.proofs.Members.{Member, field_read, twice_told, field_told, field_passed}
use Rattle.asl_template.proofs.Parts.{parts_read, element_told}
use Rattle.asl_template.proofs.reading.+read.Goals as goal

pub read_elements-returns-in_err-read_part-clause-refused : goal.read_elements-returns-in_err-read_part-clause-refused
read_elements-returns-in_err-read_part-clause-refused t c =
    let l = c.loop-element in
    let p = err_from_is_err_and c.from_residual-in_err-read_part.result c.from_residual-in_err-read_part.ensures.1 in
    rw (p.1, p.2) (element_told c.args.item c.in_err-read_part.field-0.0 c.args.elements.now l.element-index c.element-item.result (omega arith) c.element-item.is l.invariant.faults c.in_err-read_part.ensures.refused)

pub read_elements-returns-in_err-read_part-clause-not_whole : goal.read_elements-returns-in_err-read_part-clause-not_whole
read_elements-returns-in_err-read_part-clause-not_whole t c = λ h.
    let given = rw h at c.from_residual-in_err-read_part.ensures.1 in
    let none = c.in_err-read_part.ensures.not_whole (ap Err (sym given)) in
    elements_none c.args.elements.now c.args.elements.now c.loop-element.element-index c.element-item.result refl (omega arith) c.element-item.is none

pub read_elements-returns-clause-templates : goal.read_elements-returns-clause-templates
read_elements-returns-clause-templates t c =
    let l = c.loop-element in
    parts_read c.args.item l.templates.items c.args.elements.now l.element-index (omega arith) l.invariant.templates

pub read_fields-returns-in_err-name-clause-refused : goal.read_fields-returns-in_err-name-clause-refused
read_fields-returns-in_err-name-clause-refused t c =
    let l = c.loop-name in
    let m : Member = (c.in-Some.name.now, c.in-Some.value.now) in
    let p = err_from_is_err_and c.from_residual.result c.from_residual.ensures.1 in
    rw (p.1, p.2) (field_told c.args.item c.in_err-name.field-0.0 c.args.members.now.entries l.name-iterator c.next.new.self m c.deref.result.now l.invariant.faults c.in-Some.ensures.steps c.deref.ensures c.in_err-name.ensures.refused)

pub read_fields-returns-in_err-name-clause-not_whole : goal.read_fields-returns-in_err-name-clause-not_whole
read_fields-returns-in_err-name-clause-not_whole t c = λ h.
    let l = c.loop-name in
    let m : Member = (c.in-Some.name.now, c.in-Some.value.now) in
    let given = rw h at c.from_residual.ensures.1 in
    let none = c.in_err-name.ensures.not_whole (ap Err (sym given)) in
    let all : c.args.members.now.entries ≡ l.invariant.done ++ m ∷ c.next.new.self = l.invariant.whole ∙ ap (λ es. l.invariant.done ++ es) c.in-Some.ensures.steps in
    rw all (members_none l.invariant.done m c.next.new.self none)

pub read_fields-returns-then-is_some-clause-refused : goal.read_fields-returns-then-is_some-clause-refused
read_fields-returns-then-is_some-clause-refused t c =
    let l = c.loop-name in
    let done = l.invariant.done in
    let m : Member = (c.in-Some.name.now, c.in-Some.value.now) in
    let left = c.next.new.self in
    let all : c.args.members.now.entries ≡ done ++ m ∷ left = l.invariant.whole ∙ ap (λ es. done ++ es) c.in-Some.ensures.steps in
    twice_told c.args.item done m left c.args.members.now.entries c.in_ok-name.name l.templates.entries c.in_ok-insert.field-0 c.deref.result.now all c.deref.ensures c.in_ok-name.ensures.name c.in_ok-insert.ensures.old c.if-is_some.ensures l.invariant.templates

pub read_fields-loop-name-preserved : goal.read_fields-loop-name-preserved
read_fields-loop-name-preserved t c =
    let l = c.loop-name in
    let done = l.invariant.done in
    let m : Member = (c.in-Some.name.now, c.in-Some.value.now) in
    let left = c.next.new.self in
    let all : c.args.members.now.entries ≡ done ++ m ∷ left = l.invariant.whole ∙ ap (λ es. done ++ es) c.in-Some.ensures.steps in
    let read = field_read c.args.item done m c.in_ok-name.name c.in_ok-name.template l.templates.entries c.insert.new.self.entries c.in_ok-insert.field-0 c.deref.result.now c.deref.ensures c.in_ok-name.ensures.name c.in_ok-name.ensures.template c.in_ok-insert.ensures.old c.if-is_some.ensures c.in_ok-insert.ensures.entries l.invariant.templates l.invariant.distinct in
    record {
      done = done ++ m ∷ [];
      whole = all ∙ sym (append_assoc done (m ∷ []) left);
      templates = read.0;
      distinct = read.1;
      faults = field_passed c.args.item c.args.members.now.entries l.name-iterator left m c.deref.result.now l.invariant.faults c.in-Some.ensures.steps c.deref.ensures c.in_ok-name.ensures.right;
    }
