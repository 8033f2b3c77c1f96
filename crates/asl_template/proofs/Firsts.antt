-- What an answer tells of the first failure: of a path or call, and of elements and fields that are gone through.
use Rattle.std.proofs.Common.{◌≡◌, ℕ, suc, ◌+◌, List, [], ◌∷◌, ◌++◌, map, Option, Some, None, Result, Ok, Err, IsTrue, refl, sym, ap, ◌∙◌, add-one}
use Rattle.std.specs.Prelude.{IfOk}
use Rattle.asl_model.specs.Faults as faults
use Rattle.asl_model.specs.Faults.{DataFlowError}
use Rattle.asl_model.specs.Intrinsic.{Reference, Call, Item, referred, call_value}
use Rattle.asl_model.specs.Path.{Segment, Name, Index}
use Rattle.asl_model.specs.Template.{Template, FromPath, FromCall, ArrayTemplate, ObjectTemplate, Templates, NoTemplates, AndTemplate, FieldTemplates, AndFieldTemplate, Failure, below, unless_value, failures, element_failures, field_failures, before_each}
use Rattle.asl_model.specs.Tree.{Tree}
use Rattle.asl_model.proofs.RunOptions.{none_some}
use Rattle.asl_model.proofs.RunTemplates.{ToldFrom, path_told, call_told, element_told, array_told, field_told}
use Rattle.asl_tree.specs.View as trees
use Rattle.asl_tree.specs.declared.Tree as code
use Rattle.asl_template.specs.Failing.{first_error, HasLeastFirst, TellsFirst}
use Rattle.asl_template.specs.declared.refusal.TemplateRefusal.{TemplateRefusal}
use Rattle.asl_template.specs.declared.refusal.TemplateRefusal.TheVariants.{ParameterPathFailure, IntrinsicFailure, OutOfMemory}

-- without a first failure there is none
none_first : (failing : List Failure) → first_error failing ≡ None → failing ≡ []
none_first [] h = refl
none_first (x ∷ failing) h = absurd (cc)

-- and there is one where it has an error
some_first : (error : DataFlowError) (failing : List Failure) → first_error failing ≡ Some error → ¬ (failing ≡ [])
some_first error failing is none = none_some (sym (ap first_error none) ∙ is)

-- the first failure of two lists is that of the second where the first is empty
behind_none : (s : Segment) (own further : List Failure) → own ≡ [] → first_error (map (below s) own ++ further) ≡ first_error further
behind_none s own further none = rw none refl

-- and otherwise that of the first
first_of_first : (s : Segment) (own further : List Failure) (error : DataFlowError) → first_error own ≡ Some error → first_error (map (below s) own ++ further) ≡ Some error
first_of_first s [] further error is = absurd (cc)
first_of_first s (x ∷ own) further error is = is

module _ (input : Tree) (item : Option Item) where
  -- ---- paths and calls

  -- a path that names nothing
  pub path_fails : {A : Type 0} (t : Template) (reference : Reference) → t ≡ FromPath reference → referred reference input item ≡ None → TellsFirst {A = A} (Err ParameterPathFailure) t input item
  path_fails t reference is none = rw is (record { first = ap (λ o. first_error (unless_value faults.ParameterPathFailure o)) none; least = path_told input item reference (referred reference input item) refl })

  -- a path that names something
  path_passes : {A : Type 0} (a : A) (reference : Reference) (v : Tree) → referred reference input item ≡ Some v → TellsFirst {A = A} (Ok a) (FromPath reference) input item
  path_passes a reference v is = record { first = ap (λ o. first_error (unless_value faults.ParameterPathFailure o)) is; least = path_told input item reference (referred reference input item) refl }

  -- a path, by what looking it up answers
  pub path_answers : (r : Result code.Tree TemplateRefusal) (t : Template) (reference : Reference) → t ≡ FromPath reference → IfOk r (λ v. referred reference input item ≡ Some (trees.view v)) → (r ≡ Err ParameterPathFailure → referred reference input item ≡ None) → ¬ (r ≡ Err IntrinsicFailure) → TellsFirst r t input item
  path_answers (Ok v) t reference is given none not = rw is (path_passes v reference (trees.view v) given)
  path_answers (Err ParameterPathFailure) t reference is given none not = path_fails t reference is (none refl)
  path_answers (Err IntrinsicFailure) t reference is given none not = absurd (not refl)
  path_answers (Err OutOfMemory) t reference is given none not = record { first = tt; least = tt }

  -- a call without a value
  pub call_fails : {A : Type 0} (t : Template) (call : Call) → t ≡ FromCall call → call_value call input item ≡ None → TellsFirst {A = A} (Err IntrinsicFailure) t input item
  call_fails t call is none = rw is (record { first = ap (λ o. first_error (unless_value faults.IntrinsicFailure o)) none; least = call_told input item call (call_value call input item) refl })

  -- ---- a part that fails

  -- a refusal that tells of a template's failures tells of another's, where their first is the same
  told_again : {A B : Type 0} (e : TemplateRefusal) (t u : Template) → ((error : DataFlowError) → first_error (failures t input item) ≡ Some error → first_error (failures u input item) ≡ Some error)
      → (¬ (failures t input item ≡ []) → HasLeastFirst input item t (failures t input item) → HasLeastFirst input item u (failures u input item)) → TellsFirst {A = A} (Err e) t input item → TellsFirst {A = B} (Err e) u input item
  told_again ParameterPathFailure t u first least told = record { first = first faults.ParameterPathFailure told.first; least = least (some_first faults.ParameterPathFailure (failures t input item) told.first) told.least }
  told_again IntrinsicFailure t u first least told = record { first = first faults.IntrinsicFailure told.first; least = least (some_first faults.IntrinsicFailure (failures t input item) told.first) told.least }
  told_again OutOfMemory t u first least told = record { first = tt; least = tt }

  -- ---- elements

  -- nothing fails in front of the elements that are left, which are numbered from i on
  pub record ElementsPassed (whole : Templates) (i : ℕ) (left : Templates) : Type 0 where
    pub first : first_error (element_failures 0 whole input item) ≡ first_error (element_failures i left input item)
    pub least : ToldFrom input item i left (element_failures i left input item) → ToldFrom input item 0 whole (element_failures 0 whole input item)

  -- one more element that doesn't fail
  pub element_passed : {A : Type 0} (a : A) (whole : Templates) (i : ℕ) (t : Template) (others : Templates) → ElementsPassed whole i (AndTemplate t others) → TellsFirst (Ok a) t input item → ElementsPassed whole (i + 1) others
  element_passed a whole i t others passed told =
      let none = none_first (failures t input item) told.first in
      rw add-one (record {
        first = passed.first ∙ behind_none (Index i) (failures t input item) (element_failures (suc i) others input item) none;
        least = λ h. passed.least (element_told input item i t others (failures t input item) (element_failures (suc i) others input item) told.least (λ e. h));
      })

  -- the first that fails is the first of all
  pub element_fails : {A B : Type 0} (e : TemplateRefusal) (whole : Templates) (i : ℕ) (t : Template) (others : Templates) → ElementsPassed whole i (AndTemplate t others) → TellsFirst {A = A} (Err e) t input item → TellsFirst {A = B} (Err e) (ArrayTemplate whole) input item
  element_fails e whole i t others passed told =
      let own = failures t input item in
      let further = element_failures (suc i) others input item in
      told_again e t (ArrayTemplate whole) (λ error is. passed.first ∙ first_of_first (Index i) own further error is)
      (λ some h. array_told input item whole (element_failures 0 whole input item) (passed.least (element_told input item i t others own further h (λ none. absurd (some none))))) told

  -- none fails at the end
  pub elements_pass : {A : Type 0} (a : A) (whole : Templates) (i : ℕ) → ElementsPassed whole i NoTemplates → TellsFirst (Ok a) (ArrayTemplate whole) input item
  elements_pass a whole i passed = record {
    first = passed.first;
    least = array_told input item whole (element_failures 0 whole input item) (passed.least (λ p error h. none_some h.stands));
  }

  -- ---- fields

  -- nothing fails in front of the fields that are left
  pub record FieldsPassed (whole left : FieldTemplates) : Type 0 where
    pub first : first_error (field_failures whole input item) ≡ first_error (field_failures left input item)
    pub least : HasLeastFirst input item (ObjectTemplate left) (field_failures left input item) → HasLeastFirst input item (ObjectTemplate whole) (field_failures whole input item)

  -- one more field that doesn't fail
  pub field_passed : {A : Type 0} (a : A) (whole : FieldTemplates) (n : List ℕ) (t : Template) (others : FieldTemplates) → FieldsPassed whole (AndFieldTemplate n t others) → IsTrue (before_each n others) → TellsFirst (Ok a) t input item → FieldsPassed whole others
  field_passed a whole n t others passed before told =
      let none = none_first (failures t input item) told.first in
      record {
        first = passed.first ∙ behind_none (Name n) (failures t input item) (field_failures others input item) none;
        least = λ h. passed.least (field_told input item n t others (failures t input item) (field_failures others input item) before told.least (λ e. h));
      }

  -- the first that fails is the first of all
  pub field_fails : {A B : Type 0} (e : TemplateRefusal) (whole : FieldTemplates) (n : List ℕ) (t : Template) (others : FieldTemplates) → FieldsPassed whole (AndFieldTemplate n t others) → IsTrue (before_each n others) → TellsFirst {A = A} (Err e) t input item → TellsFirst {A = B} (Err e) (ObjectTemplate whole) input item
  field_fails e whole n t others passed before told =
      let own = failures t input item in
      let further = field_failures others input item in
      told_again e t (ObjectTemplate whole) (λ error is. passed.first ∙ first_of_first (Name n) own further error is)
      (λ some h. passed.least (field_told input item n t others own further before h (λ none. absurd (some none)))) told
