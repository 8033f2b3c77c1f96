use Rattle.std.proofs.Common.{◌≡◌, [], true, false, is_some, Some, None, OnOk, codes, refl, sym, ap, ◌∙◌, subst, append_assoc, rules}
use Rattle.serde_json.proofs.Views.{view-Array, view-Object}
use Rattle.serde_json.specs.Find.{as_object}
use Rattle.serde_json.specs.View.{view, items_view, members_view}
use Rattle.asl_model.specs.DefinitionTable.{rows_of}
use Rattle.asl_model.specs.StandsFor.{all_names, branches_complaints, branches_complaints_under, each_branch_complaints, each_scope, each_state, each_state_complaints, fields_complaints, members_in, names_among, names_of_scopes, names_within, nested_complaints, place_of_state, processor_complaints_under, processor_under, scopes_in, state_names, states_complaints, states_in, text_at, type_complaints}
use Rattle.asl_machine.specs.declared.scope_telling.Telling.{Telling}
use Rattle.asl_fields.specs.Verdicts.{place_view}
use Rattle.asl_fields.specs.Rows.{rows_view, type_view}
use Rattle.asl_machine.specs.Telling.{Walks}
use Rattle.asl_machine.proofs.Naming.{names_found, names_left, names_of_branches_found, names_of_no_state, names_of_none, names_of_processor, names_of_scope, names_of_untyped, names_parts, no_state_told}
use Rattle.asl_machine.proofs.Nested.{Member}
use Rattle.asl_machine.proofs.Nesting.{branches_found, branches_parts, processor_found, processor_left, scope_none, scope_object, state_object, states_found, states_parts}
use Rattle.asl_machine.proofs.Outlines.{state_with_type}
use Rattle.asl_machine.proofs.Single.{single_if, single_target}
use Rattle.asl_machine.proofs.Told.{all_ahead, less_ahead, none_ahead, walks_as, walks_behind, walks_is, walks_named, walks_none, walks_told, walks_told_on}
use Rattle.asl_machine.proofs.Values.{items_parts}
use Rattle.asl_machine.proofs.scope_telling.+tell.Goals as goal

pub tell_scope-returns-then-not-is_object : goal.tell_scope-returns-then-not-is_object
tell_scope-returns-then-not-is_object t c =
    let v = view c.args.scope.now in
    let none : is_some (as_object v) ≡ false = search rules in
    walks_is (sym (scope_none (place_view c.args.place.now) (rows_view c.args.rows.now) v none)) (sym (names_of_none v none)) (walks_none c.args.telling.now)

pub tell_scope-returns : goal.tell_scope-returns
tell_scope-returns t c =
    let v = view c.args.scope.now in
    let place = place_view c.args.place.now in
    let rows = rows_view c.args.rows.now in
    let there : is_some (as_object v) ≡ true = search rules in
    let first : Telling = record { told = c.tell_fields.new.told; names = c.args.telling.now.names } in
    let second : Telling = record { told = c.tell_found.new.told; names = c.args.telling.now.names } in
    let fields = walks_told {a = c.args.telling.now} {b = first} c.in_ok-tell_fields.ensures refl in
    let start = walks_told {a = first} {b = second} (c.in_ok-tell_found.ensures _ c.check_target.ensures (single_target place (state_names (members_in v)) (codes "StartAt") (text_at (codes "StartAt") (members_in v)))) refl in
    walks_as _ _ _ _ _ _ c.tell_states_in.result (scope_object place rows v there) (names_of_scope v) (walks_behind _ _ _ _ _ _ _ c.tell_states_in.result fields (walks_behind _ _ _ _ _ _ _ c.tell_states_in.result start c.tell_states_in.ensures))

pub tell_states_in-returns-in-Some : goal.tell_states_in-returns-in-Some
tell_states_in-returns-in-Some t c =
    let names = state_names (members_in (view c.args.scope.now)) in
    walks_as _ _ _ _ _ _ c.tell_object_of_states.result (states_found names c.args.scope.now c.in-Object.members (Some c.in-Some.states.now) c.in-Object.is c.in-Some.ensures.value) (names_found c.args.scope.now c.in-Object.members (Some c.in-Some.states.now) c.in-Object.is c.in-Some.ensures.value) c.tell_object_of_states.ensures

pub tell_states_in-returns-in-None : goal.tell_states_in-returns-in-None
tell_states_in-returns-in-None t c =
    let names = state_names (members_in (view c.args.scope.now)) in
    walks_is (states_found names c.args.scope.now c.in-Object.members None c.in-Object.is c.in-None.ensures.value) (names_found c.args.scope.now c.in-Object.members None c.in-Object.is c.in-None.ensures.value) (walks_none c.args.telling.now)

pub tell_object_of_states-returns : goal.tell_object_of_states-returns
tell_object_of_states-returns t c =
    let names = state_names (members_in (view c.args.scope.now)) in
    let same = sym (ap view c.in-Object.is ∙ view-Object c.in-Object.members) in
    walks_as _ _ _ _ _ _ c.tell_each_state.result (ap (states_complaints names) same) (ap (λ v. names_among (states_in v)) same) c.tell_each_state.ensures

pub tell_each_state-loop-name-init : goal.tell_each_state-loop-name-init
tell_each_state-loop-name-init t c =
    let names = state_names (members_in (view c.args.scope.now)) in
    let same : c.into_iter-name-iterator.result ≡ c.args.members.now.entries = search rules in
    all_ahead c.args.telling.now _ _ _ _ (ap (λ es. each_state_complaints names (members_view es)) same) (ap (λ es. names_among (each_state (members_view es))) same)

pub tell_each_state-loop-name-preserved : goal.tell_each_state-loop-name-preserved
tell_each_state-loop-name-preserved t c =
    let l = c.loop-name in
    let e : Member = (c.in-Some.name.now, c.in-Some.state.now) in
    let names = state_names (members_in (view c.args.scope.now)) in
    let left = c.next.new.self in
    less_ahead l.invariant (states_parts names c.deref.result.now _ e l.name-iterator left refl c.in-Some.ensures.steps (search rules)) (names_parts c.deref.result.now _ e l.name-iterator left refl c.in-Some.ensures.steps (search rules)) c.in_ok-tell_named_state.ensures

pub tell_each_state-returns : goal.tell_each_state-returns
tell_each_state-returns t c =
    let names = state_names (members_in (view c.args.scope.now)) in
    none_ahead c.loop-name.invariant (ap (λ es. each_state_complaints names (members_view es)) c.in-None.ensures.steps.0) (ap (λ es. names_among (each_state (members_view es))) c.in-None.ensures.steps.0)

pub tell_named_state-returns : goal.tell_named_state-returns
tell_named_state-returns t c =
    let first : Telling = record { told = c.args.telling.now.told; names = c.push.new.self } in
    let second : Telling = record { told = c.tell_found.new.told; names = c.push.new.self } in
    let named = walks_named {a = c.args.telling.now} {b = first} c.args.name refl c.in_ok-push.ensures.items in
    let checked = walks_told {a = first} {b = second} (c.in_ok-tell_found.ensures _ c.check_name.ensures (single_if _ _)) refl in
    walks_behind _ _ _ _ _ _ _ c.tell_state.result named (walks_behind _ _ _ _ _ _ _ c.tell_state.result checked c.tell_state.ensures)

pub tell_state-returns-then-not-is_object : goal.tell_state-returns-then-not-is_object
tell_state-returns-then-not-is_object t c =
    let v = view c.args.state.now in
    let none : is_some (as_object v) ≡ false = search rules in
    let after : Telling = record { told = c.tell_no_object.new.told; names = c.args.telling.now.names } in
    walks_as _ _ _ _ _ _ c.tell_no_object.result (no_state_told (state_names (members_in (view c.args.scope.now))) c.args.name.now v none) (names_of_no_state v none) (walks_told_on c.args.telling.now after _ c.tell_no_object.result c.tell_no_object.ensures refl)

pub tell_state-returns-in-Some : goal.tell_state-returns-in-Some
tell_state-returns-in-Some t c =
    let v = view c.args.state.now in
    let there : is_some (as_object v) ≡ true = search rules in
    let type = type_view c.in-Some.state_type in
    walks_as _ _ _ _ _ _ c.tell_typed.result (state_object (state_names (members_in (view c.args.scope.now))) c.args.name.now v (Some type) there c.in-Some.ensures) (ap names_within (state_with_type v type c.in-Some.ensures)) c.tell_typed.ensures

pub tell_state-returns-in-None : goal.tell_state-returns-in-None
tell_state-returns-in-None t c =
    let v = view c.args.state.now in
    let there : is_some (as_object v) ≡ true = search rules in
    let after : Telling = record { told = c.tell_untyped.new.told; names = c.args.telling.now.names } in
    walks_as _ _ _ _ _ _ c.tell_untyped.result (state_object (state_names (members_in (view c.args.scope.now))) c.args.name.now v None there c.in-None.ensures) (names_of_untyped v (sym c.in-None.ensures)) (walks_told_on c.args.telling.now after _ c.tell_untyped.result c.tell_untyped.ensures refl)

pub tell_typed-returns : goal.tell_typed-returns
tell_typed-returns t c =
    let ms = members_in (view c.args.state.now) in
    let type = type_view c.args.state_type in
    let nested = nested_complaints type (branches_complaints_under c.args.name.now ms) (processor_complaints_under c.args.name.now ms) in
    let fields = fields_complaints (place_of_state c.args.name.now) (rows_of type) ms in
    let several = type_complaints type c.args.name.now (state_names (members_in (view c.args.scope.now))) ms in
    let own : Telling = record { told = c.tell_own.new.told; names = c.args.telling.now.names } in
    walks_as _ _ _ _ _ _ c.tell_nested.result (append_assoc fields several nested) refl (walks_behind _ _ _ _ _ _ _ c.tell_nested.result (walks_told {a = c.args.telling.now} {b = own} c.in_ok-tell_own.ensures refl) c.tell_nested.ensures)

pub tell_branches_in-returns-in-Some : goal.tell_branches_in-returns-in-Some
tell_branches_in-returns-in-Some t c =
    walks_as _ _ _ _ _ _ c.tell_branches.result (branches_found c.args.name.now c.args.state.now c.in-Object.members (Some c.in-Some.branches.now) c.in-Object.is c.in-Some.ensures.value) (names_of_branches_found c.args.state.now c.in-Object.members (Some c.in-Some.branches.now) c.in-Object.is c.in-Some.ensures.value) c.tell_branches.ensures

pub tell_branches_in-returns-in-None : goal.tell_branches_in-returns-in-None
tell_branches_in-returns-in-None t c =
    walks_is (branches_found c.args.name.now c.args.state.now c.in-Object.members None c.in-Object.is c.in-None.ensures.value) (names_of_branches_found c.args.state.now c.in-Object.members None c.in-Object.is c.in-None.ensures.value) (walks_none c.args.telling.now)

pub tell_branches-returns : goal.tell_branches-returns
tell_branches-returns t c =
    let name = c.args.name.now in
    let result = c.tell_each_branch.result in
    let slice : c.deref.result.now ≡ c.in-Array.elements.items = search rules in
    let same = sym (ap view c.in-Array.is ∙ view-Array c.in-Array.elements) in
    walks_as _ _ _ _ _ _ result (ap (λ vs. each_branch_complaints name (items_view vs)) slice ∙ ap (branches_complaints name) same) (ap (λ vs. names_of_scopes (each_scope (items_view vs))) slice ∙ ap (λ v. names_of_scopes (scopes_in v)) same) c.tell_each_branch.ensures

pub tell_each_branch-loop-element-init : goal.tell_each_branch-loop-element-init
tell_each_branch-loop-element-init t c = all_ahead c.args.telling.now _ _ _ _ refl refl

pub tell_each_branch-loop-element-preserved : goal.tell_each_branch-loop-element-preserved
tell_each_branch-loop-element-preserved t c =
    let l = c.loop-element in
    let item = c.element-item in
    let elements = c.args.elements.now in
    less_ahead l.invariant (branches_parts c.args.name.now _ elements l.element-index item.result c.loop-element-test.true item.is refl) (items_parts (λ vs. names_of_scopes (each_scope vs)) _ elements l.element-index item.result c.loop-element-test.true item.is refl) c.in_ok-tell_branch.ensures

pub tell_branch-returns : goal.tell_branch-returns
tell_branch-returns t c =
    let checked : Telling = record { told = c.tell_found.new.told; names = c.args.telling.now.names } in
    walks_behind _ _ _ _ _ _ _ c.tell_scope.result (walks_told {a = c.args.telling.now} {b = checked} (c.in_ok-tell_found.ensures _ c.check_branch-found.ensures (single_if _ _)) refl) c.tell_scope.ensures

pub tell_processor_in-returns : goal.tell_processor_in-returns
tell_processor_in-returns t c =
    let same = sym (ap view c.in-Object.is ∙ view-Object c.in-Object.members) in
    walks_as _ _ _ _ _ _ c.tell_first_processor.result (ap (λ v. processor_complaints_under c.args.name.now (members_in v)) same) (ap (λ v. all_names (processor_under (members_in v))) same) c.tell_first_processor.ensures

pub tell_first_processor-returns-then-is_processor : goal.tell_first_processor-returns-then-is_processor
tell_first_processor-returns-then-is_processor t c =
    let l = c.loop-field in
    let e : Member = (c.in-Some.field.now, c.in-Some.value.now) in
    let ms = members_view c.args.members.now.entries in
    let result = c.tell_scope.result in
    let n = c.deref-then-is_processor.result.now in
    let told = processor_found c.args.name.now n (processor_complaints_under c.args.name.now ms) e l.field-iterator c.next.new.self l.invariant.rules c.in-Some.ensures.steps (search rules) (search rules) in
    let names = names_of_processor n (all_names (processor_under ms)) e l.field-iterator c.next.new.self l.invariant.scope c.in-Some.ensures.steps (search rules) (search rules) in
    subst (λ before. OnOk result (Walks before c.tell_scope.new.telling (processor_complaints_under c.args.name.now ms) (all_names (processor_under ms)))) l.invariant.same (walks_as _ _ _ _ _ _ result told names c.tell_scope.ensures)

pub tell_first_processor-loop-field-preserved : goal.tell_first_processor-loop-field-preserved
tell_first_processor-loop-field-preserved t c =
    let l = c.loop-field in
    let e : Member = (c.in-Some.field.now, c.in-Some.value.now) in
    let ms = members_view c.args.members.now.entries in
    let n = c.deref.result.now in
    record {
      rules = processor_left c.args.name.now n (processor_complaints_under c.args.name.now ms) e l.field-iterator c.next.new.self l.invariant.rules c.in-Some.ensures.steps (search rules) (search rules);
      scope = names_left n (all_names (processor_under ms)) e l.field-iterator c.next.new.self l.invariant.scope c.in-Some.ensures.steps (search rules) (search rules);
      same = l.invariant.same;
    }

pub tell_first_processor-returns : goal.tell_first_processor-returns
tell_first_processor-returns t c =
    let l = c.loop-field in
    let ms = members_view c.args.members.now.entries in
    let told = l.invariant.rules ∙ ap (λ es. processor_complaints_under c.args.name.now (members_view es)) c.in-None.ensures.steps.0 in
    let names = l.invariant.scope ∙ ap (λ es. all_names (processor_under (members_view es))) c.in-None.ensures.steps.0 in
    walks_is (sym told) (sym names) (subst (λ before. Walks before l.telling [] []) l.invariant.same (walks_none l.telling))
