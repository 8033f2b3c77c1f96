use Rattle.std.proofs.Common.{◌≡◌, ◌++◌, ℕ, List, Option, ◌∷◌, ◌+◌, true, false, is_some, Some, None, OnOk, Ok, Err, codes, map, drop, arith, subst, refl, sym, ap, ◌∙◌, append_assoc, rules}
use Rattle.std.proofs.lemmas.Grind.{common_steps}
use Rattle.serde_json.proofs.Views.{view-Array, view-Object}
use Rattle.serde_json.specs.Find.{as_object}
use Rattle.serde_json.specs.View.{view, items_view, members_view}
use Rattle.asl_model.specs.Numbering.{standing_among, standing_in}
use Rattle.asl_model.specs.StandsFor.{members_in, state_names, states_under, processor_under, place_of_state, fields_complaints, foreign_complaints, type_complaints, nested_complaints, states_complaints, branches_complaints, each_branch_complaints, branches_complaints_under, processor_complaints_under}
use Rattle.asl_model.specs.DefinitionTable.{rows_of}
use Rattle.asl_machine.specs.Built.{built_view, owner_view, standing_with, Adds}
use Rattle.asl_fields.specs.Rows.{rows_view, type_view}
use Rattle.asl_fields.specs.Verdicts.{IsVerdict, place_view}
use Rattle.asl_machine.proofs.Added.{adds_none, added_behind}
use Rattle.asl_machine.proofs.Checks.{handed_on, told_first, told_next, told_of_left, left_after}
use Rattle.asl_machine.proofs.Nested.{Member, standing_of, standing_of_none, standing_found, standing_each_found, standing_processor, each_more, members_more}
use Rattle.asl_machine.proofs.Nested as nested
use Rattle.asl_machine.proofs.Nesting.{scope_none, scope_object, state_object, states_found, branches_found, processor_found, processor_left, states_parts, branches_parts}
use Rattle.asl_machine.proofs.Outlines.{state_with_type}
use Rattle.asl_machine.proofs.scope_reading.+read.Goals as goal

pub read_scope-returns-then-not-is_object-clause-added : goal.read_scope-returns-then-not-is_object-clause-added
read_scope-returns-then-not-is_object-clause-added t c =
    let v = view c.args.scope.now in
    let none : is_some (as_object v) ≡ false = search rules in
    subst (λ ss. Adds (map built_view c.args.built.now.items) (map built_view c.args.built.now.items) ss) (sym (standing_of_none (owner_view c.args.owner) v none)) (adds_none (map built_view c.args.built.now.items))

pub read_scope-returns-then-not-is_object-clause-rules : goal.read_scope-returns-then-not-is_object-clause-rules
read_scope-returns-then-not-is_object-clause-rules t c checked =
    let v = view c.args.scope.now in
    let none : is_some (as_object v) ≡ false = search rules in
    record { holds = scope_none (place_view c.args.place.now) (rows_view c.args.rows.now) v none }

pub read_scope-returns-in_err-check_fields-clause-rules : goal.read_scope-returns-in_err-check_fields-clause-rules
read_scope-returns-in_err-check_fields-clause-rules t c checked =
    let v = view c.args.scope.now in
    let place = place_view c.args.place.now in
    let rows = rows_view c.args.rows.now in
    let there : is_some (as_object v) ≡ true = search rules in
    let told = c.in_err-check_fields.field-0.0 in
    let fields = subst (λ xs. IsVerdict {A = Unit {0}} (xs ++ foreign_complaints place rows (members_in v)) (Err told)) (checked.same place (members_in v)) c.in_err-check_fields.ensures in
    handed_on _ c.from_residual.result c.in_err-check_fields.field-0.0 c.from_residual.ensures.1 (subst (λ xs. IsVerdict {A = Unit {0}} xs (Err told)) (scope_object place rows v there) (told_first _ _ told fields))

pub read_scope-returns-clause-rules : goal.read_scope-returns-clause-rules
read_scope-returns-clause-rules t c checked =
    let v = view c.args.scope.now in
    let place = place_view c.args.place.now in
    let rows = rows_view c.args.rows.now in
    let there : is_some (as_object v) ≡ true = search rules in
    let last = c.read_states_in.result in
    let fields = subst (λ xs. IsVerdict (xs ++ foreign_complaints place rows (members_in v)) (Ok c.in_ok-check_fields.field-0)) (checked.same place (members_in v)) c.in_ok-check_fields.ensures in
    subst (λ xs. IsVerdict xs last) (scope_object place rows v there) (told_next _ _ last fields (told_next _ _ last c.in_ok-check_target.ensures c.read_states_in.ensures.rules))

pub read_scope-returns-in_err-check_target-clause-rules : goal.read_scope-returns-in_err-check_target-clause-rules
read_scope-returns-in_err-check_target-clause-rules t c checked =
    let v = view c.args.scope.now in
    let place = place_view c.args.place.now in
    let rows = rows_view c.args.rows.now in
    let there : is_some (as_object v) ≡ true = search rules in
    let complaint = c.in_err-check_target.field-0.0 in
    let fields = subst (λ xs. IsVerdict (xs ++ foreign_complaints place rows (members_in v)) (Ok c.in_ok-check_fields.field-0)) (checked.same place (members_in v)) c.in_ok-check_fields.ensures in
    handed_on _ c.from_residual-in_err-check_target.result c.in_err-check_target.field-0.0 c.from_residual-in_err-check_target.ensures.1 (subst (λ xs. IsVerdict {A = Unit {0}} xs (Err complaint)) (scope_object place rows v there) (told_next _ _ _ fields (told_first _ _ complaint c.in_err-check_target.ensures)))

pub read_scope-returns-clause-added : goal.read_scope-returns-clause-added
read_scope-returns-clause-added t c =
    let v = view c.args.scope.now in
    let owner = owner_view c.args.owner in
    let same = ap (λ start. standing_among start owner (states_under (codes "States") (members_in v))) c.text_or_empty.ensures ∙ sym (standing_of owner v) in
    subst (λ ss. OnOk c.read_states_in.result (Adds (map built_view c.args.built.now.items) (map built_view c.read_states_in.new.built.items) ss)) same c.read_states_in.ensures.added

pub read_states_in-returns-in-Some-clause-rules : goal.read_states_in-returns-in-Some-clause-rules
read_states_in-returns-in-Some-clause-rules t c =
    let names = state_names (members_in (view c.args.scope.now)) in
    subst (λ xs. IsVerdict xs c.read_object_of_states.result) (states_found names c.args.scope.now c.in-Object.members (Some c.in-Some.states.now) c.in-Object.is c.in-Some.ensures.value) c.read_object_of_states.ensures.rules

pub read_states_in-returns-in-Some-clause-added : goal.read_states_in-returns-in-Some-clause-added
read_states_in-returns-in-Some-clause-added t c =
    let result = c.read_object_of_states.result in
    subst (λ ss. OnOk result (Adds (map built_view c.args.built.now.items) (map built_view c.read_object_of_states.new.built.items) ss)) (standing_found c.args.home c.args.scope.now c.in-Object.members (Some c.in-Some.states.now) c.in-Object.is c.in-Some.ensures.value) c.read_object_of_states.ensures.added

pub read_states_in-returns-in-None-clause-rules : goal.read_states_in-returns-in-None-clause-rules
read_states_in-returns-in-None-clause-rules t c =
    let names = state_names (members_in (view c.args.scope.now)) in
    subst (λ xs. IsVerdict {A = Unit {0}} xs (Ok tt)) (states_found names c.args.scope.now c.in-Object.members None c.in-Object.is c.in-None.ensures.value) (record { holds = refl })

pub read_states_in-returns-in-None-clause-added : goal.read_states_in-returns-in-None-clause-added
read_states_in-returns-in-None-clause-added t c =
    let before = map built_view c.args.built.now.items in
    subst (λ ss. Adds before before ss) (standing_found c.args.home c.args.scope.now c.in-Object.members None c.in-Object.is c.in-None.ensures.value) (adds_none before)

pub read_branches_in-returns-in-Some-clause-rules : goal.read_branches_in-returns-in-Some-clause-rules
read_branches_in-returns-in-Some-clause-rules t c =
    subst (λ xs. IsVerdict xs c.read_branches.result) (branches_found c.args.name.now c.args.state.now c.in-Object.members (Some c.in-Some.branches.now) c.in-Object.is c.in-Some.ensures.value) c.read_branches.ensures.rules

pub read_branches_in-returns-in-Some-clause-added : goal.read_branches_in-returns-in-Some-clause-added
read_branches_in-returns-in-Some-clause-added t c =
    let result = c.read_branches.result in
    subst (λ ss. OnOk result (Adds (map built_view c.args.built.now.items) (map built_view c.read_branches.new.built.items) ss)) (standing_each_found c.args.name.now c.args.state.now c.in-Object.members (Some c.in-Some.branches.now) c.in-Object.is c.in-Some.ensures.value) c.read_branches.ensures.added

pub read_branches_in-returns-in-None-clause-rules : goal.read_branches_in-returns-in-None-clause-rules
read_branches_in-returns-in-None-clause-rules t c =
    subst (λ xs. IsVerdict {A = Unit {0}} xs (Ok tt)) (branches_found c.args.name.now c.args.state.now c.in-Object.members None c.in-Object.is c.in-None.ensures.value) (record { holds = refl })

pub read_branches_in-returns-in-None-clause-added : goal.read_branches_in-returns-in-None-clause-added
read_branches_in-returns-in-None-clause-added t c =
    let before = map built_view c.args.built.now.items in
    subst (λ ss. Adds before before ss) (standing_each_found c.args.name.now c.args.state.now c.in-Object.members None c.in-Object.is c.in-None.ensures.value) (adds_none before)

pub read_each_state-returns-in_err-read_named_state-clause-rules : goal.read_each_state-returns-in_err-read_named_state-clause-rules
read_each_state-returns-in_err-read_named_state-clause-rules t c =
    let e : Member = (c.in-Some.name.now, c.in-Some.state.now) in
    let names = state_names (members_in (view c.args.scope.now)) in
    let parts = states_parts names c.deref.result.now _ e _ c.next.new.self c.loop-name.invariant.rules c.in-Some.ensures.steps (search rules) in
    handed_on _ c.from_residual.result c.in_err-read_named_state.field-0.0 c.from_residual.ensures.1 (told_of_left _ _ _ c.in_err-read_named_state.field-0.0 parts c.in_err-read_named_state.ensures.rules)

pub read_each_state-loop-name-preserved : goal.read_each_state-loop-name-preserved
read_each_state-loop-name-preserved t c =
    let l = c.loop-name in
    let e : Member = (c.in-Some.name.now, c.in-Some.state.now) in
    let names = state_names (members_in (view c.args.scope.now)) in
    let left = c.next.new.self in
    let parts = states_parts names c.deref.result.now _ e _ left l.invariant.rules c.in-Some.ensures.steps (search rules) in
    record {
      rules = left_after _ _ _ parts c.in_ok-read_named_state.ensures.rules;
      added = members_more c.args.home e l.name-iterator left c.deref.result.now _ _ _ _ c.in-Some.ensures.steps (search rules) l.invariant.added c.in_ok-read_named_state.ensures.added;
    }

pub read_state-returns-in-Some-clause-added : goal.read_state-returns-in-Some-clause-added
read_state-returns-in-Some-clause-added t c =
    let result = c.read_typed.result in
    subst (λ s. OnOk result (Adds (map built_view c.args.built.now.items) (map built_view c.read_typed.new.built.items) (standing_with c.args.home c.args.name.now s))) (state_with_type (view c.args.state.now) (type_view c.in-Some.state_type) c.in-Some.ensures) c.read_typed.ensures.added

pub read_state-returns-in-None-clause-rules : goal.read_state-returns-in-None-clause-rules
read_state-returns-in-None-clause-rules t c =
    let v = view c.args.state.now in
    let there : is_some (as_object v) ≡ true = search rules in
    subst (λ xs. IsVerdict {A = Unit {0}} xs (Err c.told_without_type.result)) (state_object (state_names (members_in (view c.args.scope.now))) c.args.name.now v None there c.in-None.ensures) c.told_without_type.ensures

pub read_each_branch-returns-in_err-read_branch-clause-rules : goal.read_each_branch-returns-in_err-read_branch-clause-rules
read_each_branch-returns-in_err-read_branch-clause-rules t c =
    let item = c.index-elements-number in
    let parts = branches_parts c.args.name.now _ c.args.elements.now c.loop-number.number item.result c.loop-number-test.true item.is c.loop-number.invariant.rules in
    handed_on _ c.from_residual.result c.in_err-read_branch.field-0.0 c.from_residual.ensures.1 (told_of_left _ _ _ c.in_err-read_branch.field-0.0 parts c.in_err-read_branch.ensures.rules)

pub read_each_branch-loop-number-preserved : goal.read_each_branch-loop-number-preserved
read_each_branch-loop-number-preserved t c =
    let l = c.loop-number in
    let item = c.index-elements-number in
    let elements = c.args.elements.now in
    let parts = branches_parts c.args.name.now _ elements l.number item.result c.loop-number-test.true item.is l.invariant.rules in
    let split : drop l.number elements ≡ item.result ∷ drop (l.number + 1) elements = grind (arith, common_steps) in
    record {
      rules = left_after _ _ _ parts c.in_ok-read_branch.ensures.rules;
      added = each_more c.args.name.now l.number (drop l.number elements) (drop (l.number + 1) elements) item.result _ _ _ _ split l.invariant.added c.in_ok-read_branch.ensures.added;
    }

pub read_branch-returns-clause-rules : goal.read_branch-returns-clause-rules
read_branch-returns-clause-rules t c =
    let v = view c.args.branch.now in
    let there : is_some (as_object v) ≡ true = search rules in
    told_next {A = Unit {0}} _ _ c.read_scope.result {read = tt} (record { holds = rw there refl }) (c.read_scope.ensures.rules (record { same = λ place ms. refl }))

pub read_first_processor-returns-then-is_processor-clause-rules : goal.read_first_processor-returns-then-is_processor-clause-rules
read_first_processor-returns-then-is_processor-clause-rules t c =
    let e : Member = (c.in-Some.field.now, c.in-Some.value.now) in
    let wrong = processor_complaints_under c.args.name.now (members_view c.args.members.now.entries) in
    subst (λ xs. IsVerdict xs c.read_scope.result) (processor_found c.args.name.now c.deref-then-is_processor.result.now wrong e _ c.next.new.self c.loop-field.invariant.rules c.in-Some.ensures.steps (search rules) (search rules)) (c.read_scope.ensures.rules (record { same = λ place ms. refl }))

pub read_first_processor-loop-field-preserved : goal.read_first_processor-loop-field-preserved
read_first_processor-loop-field-preserved t c =
    let e : Member = (c.in-Some.field.now, c.in-Some.value.now) in
    let wrong = processor_complaints_under c.args.name.now (members_view c.args.members.now.entries) in
    record {
      rules = processor_left c.args.name.now c.deref.result.now wrong e _ c.next.new.self c.loop-field.invariant.rules c.in-Some.ensures.steps (search rules) (search rules);
      scope = nested.processor_left c.deref.result.now e c.args.members.now.entries _ c.next.new.self c.loop-field.invariant.scope c.in-Some.ensures.steps (search rules) (search rules);
      same = c.loop-field.invariant.same;
    }

pub read_typed-returns-clause-rules : goal.read_typed-returns-clause-rules
read_typed-returns-clause-rules t c =
    let ms = members_in (view c.args.state.now) in
    let type = type_view c.args.state_type in
    let nested = nested_complaints type (branches_complaints_under c.args.name.now ms) (processor_complaints_under c.args.name.now ms) in
    let fields = fields_complaints (place_of_state c.args.name.now) (rows_of type) ms in
    let several = type_complaints type c.args.name.now (state_names (members_in (view c.args.scope.now))) ms in
    subst (λ xs. IsVerdict xs c.read_nested.result) (append_assoc fields several nested) (told_next _ _ c.read_nested.result c.in_ok-read_own.ensures.rules c.read_nested.ensures.rules)

pub read_typed-returns-clause-added : goal.read_typed-returns-clause-added
read_typed-returns-clause-added t c = added_behind _ _ _ _ _ c.read_nested.result c.in_ok-read_own.ensures.added c.read_nested.ensures.added

pub read_typed-returns-in_err-read_own-clause-rules : goal.read_typed-returns-in_err-read_own-clause-rules
read_typed-returns-in_err-read_own-clause-rules t c =
    let ms = members_in (view c.args.state.now) in
    let type = type_view c.args.state_type in
    let nested = nested_complaints type (branches_complaints_under c.args.name.now ms) (processor_complaints_under c.args.name.now ms) in
    let fields = fields_complaints (place_of_state c.args.name.now) (rows_of type) ms in
    let several = type_complaints type c.args.name.now (state_names (members_in (view c.args.scope.now))) ms in
    handed_on _ c.from_residual.result c.in_err-read_own.field-0.0 c.from_residual.ensures.1 (subst (λ xs. IsVerdict {A = Unit {0}} xs (Err c.in_err-read_own.field-0.0)) (append_assoc fields several nested) (told_first _ _ c.in_err-read_own.field-0.0 c.in_err-read_own.ensures.rules))

pub read_named_state-returns-clause-rules : goal.read_named_state-returns-clause-rules
read_named_state-returns-clause-rules t c = told_next _ _ c.read_state.result c.in_ok-check_name.ensures c.read_state.ensures.rules

pub read_object_of_states-returns-clause-rules : goal.read_object_of_states-returns-clause-rules
read_object_of_states-returns-clause-rules t c =
    let names = state_names (members_in (view c.args.scope.now)) in
    subst (λ v. IsVerdict (states_complaints names v) c.read_each_state.result) (sym (ap view c.in-Object.is ∙ view-Object c.in-Object.members)) c.read_each_state.ensures.rules

pub read_branches-returns-clause-rules : goal.read_branches-returns-clause-rules
read_branches-returns-clause-rules t c =
    let name = c.args.name.now in
    let result = c.read_each_branch.result in
    let same : c.deref.result.now ≡ c.in-Array.elements.items = search rules in
    subst (λ v. IsVerdict (branches_complaints name v) result) (sym (ap view c.in-Array.is ∙ view-Array c.in-Array.elements)) (subst (λ vs. IsVerdict (each_branch_complaints name (items_view vs)) result) same c.read_each_branch.ensures.rules)

pub read_state-returns-in-Some-clause-rules : goal.read_state-returns-in-Some-clause-rules
read_state-returns-in-Some-clause-rules t c =
    let v = view c.args.state.now in
    let there : is_some (as_object v) ≡ true = search rules in
    subst (λ xs. IsVerdict xs c.read_typed.result) (state_object (state_names (members_in (view c.args.scope.now))) c.args.name.now v (Some (type_view c.in-Some.state_type)) there c.in-Some.ensures) c.read_typed.ensures.rules

pub read_first_processor-returns-then-is_processor-clause-added : goal.read_first_processor-returns-then-is_processor-clause-added
read_first_processor-returns-then-is_processor-clause-added t c =
    let e : Member = (c.in-Some.field.now, c.in-Some.value.now) in
    let l = c.loop-field in
    let owner : Option (List ℕ × ℕ) = Some (c.args.name.now, 0) in
    let result = c.read_scope.result in
    let after = map built_view c.read_scope.new.built.items in
    let scope = standing_processor owner c.deref-then-is_processor.result.now e c.args.members.now.entries _ c.next.new.self l.invariant.scope c.in-Some.ensures.steps (search rules) (search rules) in
    subst (λ before. OnOk result (Adds before after (standing_in owner (processor_under (members_view c.args.members.now.entries))))) l.invariant.same (subst (λ ss. OnOk result (Adds (map built_view l.built.items) after ss)) scope c.read_scope.ensures.added)

pub read_first_processor-returns-clause-added : goal.read_first_processor-returns-clause-added
read_first_processor-returns-clause-added t c =
    let l = c.loop-field in
    let owner = Some (c.args.name.now, 0) in
    let after = map built_view l.built.items in
    let none = l.invariant.scope ∙ ap (λ es. processor_under (members_view es)) c.in-None.ensures.steps.0 in
    subst (λ before. Adds before after (standing_in owner (processor_under (members_view c.args.members.now.entries)))) l.invariant.same (subst (λ scope. Adds after after (standing_in owner scope)) (sym none) (adds_none after))
