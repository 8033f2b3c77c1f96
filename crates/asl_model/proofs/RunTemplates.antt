-- The first failure of a template is its least failing place, where its names stand in byte order.
use Rattle.std.proofs.Common.{◌≡◌, ◌⊎◌, refl, sym, ap, ◌∙◌, subst, inl, inr, ⊎_elim, arith, ◌+◌, ◌<◌, ℕ, zero, suc, List, [], ◌∷◌, ◌++◌, map, Bool, true, false, ◌&&◌, IsTrue, bytes_eq, if◌then◌else◌, Option, Some, None}
use Rattle.std.proofs.lemmas.Slice.Eq.{bytes_eq-Decides}
use Rattle.asl_model.specs.Tree.{Tree, comes_before}
use Rattle.asl_model.specs.Path.{Segment, Name, Index}
use Rattle.asl_model.specs.Faults.{DataFlowError, ParameterPathFailure, IntrinsicFailure}
use Rattle.asl_model.specs.Intrinsic.{Reference, Call, Item, referred, call_value}
use Rattle.asl_model.specs.Template.{Template, Literal, FromPath, FromCall, ArrayTemplate, ObjectTemplate, Templates, NoTemplates, AndTemplate, FieldTemplates, NoFieldTemplates, AndFieldTemplate, Failure, below, unless_value, failures, element_failures, field_failures, filled, unless_failing, template_value, template_element, template_named, FailsAt, path_fails, call_fails, fails_in_element, fails_in_field, IsBefore, lesser_number, lesser_name, lesser_below, IsLeastFailure, before_each, IsInOrder, AreInOrder, HasFieldsInOrder, TellsLeastFailure}
use Rattle.asl_model.proofs.RunOptions.{some_inj, none_some, false_true}
use Rattle.asl_model.proofs.NamesInOrder.{comes_before-other}

both : (a b : Bool) → IsTrue (a && b) → IsTrue a × IsTrue b
both true b h = (refl, h)
both false b h = false_true h

module _ (input : Tree) (item : Option Item) where
  -- what a list of failures is to tell: nothing fails, or its first is the least
  abbrev pub Told : Template → List Failure → Type 0
  Told t [] = (p : List Segment) (error : DataFlowError) → FailsAt input item t p error → ⊥
  Told t (failure ∷ further) = IsLeastFailure input item t failure

  -- a place without parts
  pub no_literal : (u : Tree) (p : List Segment) (error : DataFlowError) → FailsAt input item (Literal u) p error → ⊥
  no_literal u p error h = elim h [ ]

  pub path_told : (reference : Reference) (there : Option Tree) → referred reference input item ≡ there → Told (FromPath reference) (unless_value ParameterPathFailure there)
  path_told reference None e = record { fails = path_fails e; least = λ p error h. here p error h }
    where
      here : (p : List Segment) (error : DataFlowError) → FailsAt input item (FromPath reference) p error → ([] ≡ p) ⊎ IsBefore [] p
      here p error (path_fails f) = inl refl
  path_told reference (Some t) e = λ p error h. nowhere p error h
    where
      nowhere : (p : List Segment) (error : DataFlowError) → FailsAt input item (FromPath reference) p error → ⊥
      nowhere p error (path_fails f) = none_some (sym f ∙ e)

  pub call_told : (call : Call) (there : Option Tree) → call_value call input item ≡ there → Told (FromCall call) (unless_value IntrinsicFailure there)
  call_told call None e = record { fails = call_fails e; least = λ p error h. here p error h }
    where
      here : (p : List Segment) (error : DataFlowError) → FailsAt input item (FromCall call) p error → ([] ≡ p) ⊎ IsBefore [] p
      here p error (call_fails f) = inl refl
  call_told call (Some t) e = λ p error h. nowhere p error h
    where
      nowhere : (p : List Segment) (error : DataFlowError) → FailsAt input item (FromCall call) p error → ⊥
      nowhere p error (call_fails f) = none_some (sym f ∙ e)

  -- a failing place of an object is one of its first field, or of a later one
  record InFirstField (n : List ℕ) (t : Template) (p : List Segment) (error : DataFlowError) : Type 0 where
    further : List Segment
    place : p ≡ Name n ∷ further
    inside : FailsAt input item t further error

  record InLaterField (n : List ℕ) (others : FieldTemplates) (p : List Segment) (error : DataFlowError) : Type 0 where
    m : List ℕ
    further : List Segment
    place : p ≡ Name m ∷ further
    later : IsTrue (comes_before n m)
    inside : FailsAt input item (ObjectTemplate others) p error

  later_name : (n m : List ℕ) (t : Template) (fields : FieldTemplates) → IsTrue (before_each n fields) → template_named m fields ≡ Some t → IsTrue (comes_before n m)
  later_name n m t NoFieldTemplates h e = none_some e
  later_name n m t (AndFieldTemplate k u others) h e = go (bytes_eq k m) refl e (later_name n m t others (both (comes_before n k) (before_each n others) h).1)
    where
      go : (same : Bool) → bytes_eq k m ≡ same → (if same then Some u else template_named m others) ≡ Some t → (template_named m others ≡ Some t → IsTrue (comes_before n m)) → IsTrue (comes_before n m)
      go true f g further = subst (λ (x : List ℕ). IsTrue (comes_before n x)) ((bytes_eq-Decides k m).0 f) (both (comes_before n k) (before_each n others) h).0
      go false f g further = further g

  which_field : (n : List ℕ) (t : Template) (others : FieldTemplates) → IsTrue (before_each n others) → (p : List Segment) (error : DataFlowError) → FailsAt input item (ObjectTemplate (AndFieldTemplate n t others)) p error → InFirstField n t p error ⊎ InLaterField n others p error
  which_field n t others before p error (fails_in_field {n = m} {t = u} {p = q} e h) = go (bytes_eq n m) refl e
    where
      go : (same : Bool) → bytes_eq n m ≡ same → (if same then Some t else template_named m others) ≡ Some u → InFirstField n t (Name m ∷ q) error ⊎ InLaterField n others (Name m ∷ q) error
      go true f g = inl (record { further = q; place = ap (λ (k : List ℕ). Name k ∷ q) (sym ((bytes_eq-Decides n m).0 f)); inside = subst (λ (v : Template). FailsAt input item v q error) (sym (some_inj g)) h })
      go false f g = inr (record { m = m; further = q; place = refl; later = later_name n m u others before g; inside = fails_in_field g h })

  in_later : (n : List ℕ) (t : Template) (others : FieldTemplates) → IsTrue (before_each n others) → (p : List Segment) (error : DataFlowError) → FailsAt input item (ObjectTemplate others) p error → FailsAt input item (ObjectTemplate (AndFieldTemplate n t others)) p error
  in_later n t others before p error (fails_in_field {n = m} {t = u} {p = q} e h) =
      let other : bytes_eq n m ≡ false = comes_before-other n m (later_name n m u others before e) in
      fails_in_field (ap (λ (same : Bool). if same then Some t else template_named m others) other ∙ e) h

  in_first : (n : List ℕ) (t : Template) (others : FieldTemplates) (p : List Segment) (error : DataFlowError) → FailsAt input item t p error → FailsAt input item (ObjectTemplate (AndFieldTemplate n t others)) (Name n ∷ p) error
  in_first n t others p error h = fails_in_field (ap (λ (same : Bool). if same then Some t else template_named n others) ((bytes_eq-Decides n n).1 refl)) h

  -- one more field in front; where it fails, the later ones don't count
  pub field_told : (n : List ℕ) (t : Template) (others : FieldTemplates) (own further : List Failure) → IsTrue (before_each n others) → Told t own → (own ≡ [] → Told (ObjectTemplate others) further) → Told (ObjectTemplate (AndFieldTemplate n t others)) (map (below (Name n)) own ++ further)
  field_told n t others (x ∷ own) further before first later = record { fails = in_first n t others x.place x.error first.fails; least = λ p error h. ⊎_elim (λ a. ahead p error a) (λ b. behind p error b) (which_field n t others before p error h) }
    where
      ahead : (p : List Segment) (error : DataFlowError) → InFirstField n t p error → (Name n ∷ x.place ≡ p) ⊎ IsBefore (Name n ∷ x.place) p
      ahead p error a = ⊎_elim (λ e. inl (ap (λ q. Name n ∷ q) e ∙ sym a.place)) (λ b. inr (subst (IsBefore (Name n ∷ x.place)) (sym a.place) (lesser_below b))) (first.least a.further error a.inside)

      behind : (p : List Segment) (error : DataFlowError) → InLaterField n others p error → (Name n ∷ x.place ≡ p) ⊎ IsBefore (Name n ∷ x.place) p
      behind p error b = inr (subst (IsBefore (Name n ∷ x.place)) (sym b.place) (lesser_name b.later))
  field_told n t others [] [] before first later = λ p error h. ⊎_elim (λ a. first a.further error a.inside) (λ b. later refl p error b.inside) (which_field n t others before p error h)
  field_told n t others [] (y ∷ further) before first later =
      let rest = later refl in
      record { fails = in_later n t others before y.place y.error rest.fails; least = λ p error h. ⊎_elim (λ a. absurd (first a.further error a.inside)) (λ b. rest.least p error b.inside) (which_field n t others before p error h) }

  -- a failing place among elements that are numbered from i on
  pub record FailsFrom (i : ℕ) (elements : Templates) (p : List Segment) (error : DataFlowError) : Type 0 where
    pub k : ℕ
    pub t : Template
    pub further : List Segment
    pub stands : template_element k elements ≡ Some t
    pub place : p ≡ Index (i + k) ∷ further
    pub inside : FailsAt input item t further error

  pub record LeastFrom (i : ℕ) (elements : Templates) (failure : Failure) : Type 0 where
    pub fails : FailsFrom i elements failure.place failure.error
    pub least : (p : List Segment) (error : DataFlowError) → FailsFrom i elements p error → (failure.place ≡ p) ⊎ IsBefore failure.place p

  -- the same for the elements from that position on
  abbrev pub ToldFrom : ℕ → Templates → List Failure → Type 0
  ToldFrom i elements [] = (p : List Segment) (error : DataFlowError) → FailsFrom i elements p error → ⊥
  ToldFrom i elements (failure ∷ further) = LeastFrom i elements failure

  record InFirstElement (i : ℕ) (t : Template) (p : List Segment) (error : DataFlowError) : Type 0 where
    further : List Segment
    place : p ≡ Index i ∷ further
    inside : FailsAt input item t further error

  which_element : (i : ℕ) (t : Template) (others : Templates) (p : List Segment) (error : DataFlowError) → FailsFrom i (AndTemplate t others) p error → InFirstElement i t p error ⊎ FailsFrom (suc i) others p error
  which_element i t others p error h = go h.k h.stands h.place
    where
      go : (k : ℕ) → template_element k (AndTemplate t others) ≡ Some h.t → p ≡ Index (i + k) ∷ h.further → InFirstElement i t p error ⊎ FailsFrom (suc i) others p error
      go zero e f = let same : i + 0 ≡ i = omega arith in inl (record { further = h.further; place = f ∙ ap (λ (n : ℕ). Index n ∷ h.further) same; inside = subst (λ (v : Template). FailsAt input item v h.further error) (sym (some_inj e)) h.inside })
      go (suc k) e f = let same : i + suc k ≡ suc i + k = omega arith in inr (record { k = k; t = h.t; further = h.further; stands = e; place = f ∙ ap (λ (n : ℕ). Index n ∷ h.further) same; inside = h.inside })

  from_later : (i : ℕ) (t : Template) (others : Templates) (p : List Segment) (error : DataFlowError) → FailsFrom (suc i) others p error → FailsFrom i (AndTemplate t others) p error
  from_later i t others p error h = let same : suc i + h.k ≡ i + suc h.k = omega arith in record { k = suc h.k; t = h.t; further = h.further; stands = h.stands; place = h.place ∙ ap (λ (n : ℕ). Index n ∷ h.further) same; inside = h.inside }

  -- one more element in front; where it fails, the later ones don't count
  pub element_told : (i : ℕ) (t : Template) (others : Templates) (own further : List Failure) → Told t own → (own ≡ [] → ToldFrom (suc i) others further) → ToldFrom i (AndTemplate t others) (map (below (Index i)) own ++ further)
  element_told i t others (x ∷ own) further first later =
      let same : i ≡ i + 0 = omega arith in
      record {
        fails = record { k = 0; t = t; further = x.place; stands = refl; place = ap (λ (n : ℕ). Index n ∷ x.place) same; inside = first.fails };
        least = λ p error h. ⊎_elim (λ a. ahead p error a) (λ b. behind p error b) (which_element i t others p error h);
      }
    where
      ahead : (p : List Segment) (error : DataFlowError) → InFirstElement i t p error → (Index i ∷ x.place ≡ p) ⊎ IsBefore (Index i ∷ x.place) p
      ahead p error a = ⊎_elim (λ e. inl (ap (λ q. Index i ∷ q) e ∙ sym a.place)) (λ b. inr (subst (IsBefore (Index i ∷ x.place)) (sym a.place) (lesser_below b))) (first.least a.further error a.inside)

      behind : (p : List Segment) (error : DataFlowError) → FailsFrom (suc i) others p error → (Index i ∷ x.place ≡ p) ⊎ IsBefore (Index i ∷ x.place) p
      behind p error b = let later : i < suc i + b.k = omega arith in inr (subst (IsBefore (Index i ∷ x.place)) (sym b.place) (lesser_number later))
  element_told i t others [] [] first later = λ p error h. ⊎_elim (λ a. first a.further error a.inside) (λ b. later refl p error b) (which_element i t others p error h)
  element_told i t others [] (y ∷ further) first later =
      let rest = later refl in
      record {
        fails = from_later i t others y.place y.error rest.fails;
        least = λ p error h. ⊎_elim (λ a. absurd (first a.further error a.inside)) (λ b. rest.least p error b) (which_element i t others p error h);
      }

  -- numbered from 0, the elements are those of the array
  in_array : (elements : Templates) (p : List Segment) (error : DataFlowError) → FailsFrom 0 elements p error → FailsAt input item (ArrayTemplate elements) p error
  in_array elements p error h = let same : 0 + h.k ≡ h.k = omega arith in subst (λ (q : List Segment). FailsAt input item (ArrayTemplate elements) q error) (sym (h.place ∙ ap (λ (n : ℕ). Index n ∷ h.further) same)) (fails_in_element h.stands h.inside)

  from_array : (elements : Templates) (p : List Segment) (error : DataFlowError) → FailsAt input item (ArrayTemplate elements) p error → FailsFrom 0 elements p error
  from_array elements p error (fails_in_element {i = i} {t = t} {p = q} e h) = let same : i ≡ 0 + i = omega arith in record { k = i; t = t; further = q; stands = e; place = ap (λ (n : ℕ). Index n ∷ q) same; inside = h }

  pub array_told : (elements : Templates) (all : List Failure) → ToldFrom 0 elements all → Told (ArrayTemplate elements) all
  array_told elements [] told = λ p error h. told p error (from_array elements p error h)
  array_told elements (x ∷ further) told = record { fails = in_array elements x.place x.error told.fails; least = λ p error h. told.least p error (from_array elements p error h) }

  pub no_field : (p : List Segment) (error : DataFlowError) → FailsAt input item (ObjectTemplate NoFieldTemplates) p error → ⊥
  no_field p error (fails_in_field e h) = none_some e

  mutual
    told_by : (t : Template) → IsInOrder t → Told t (failures t input item)
    told_by (Literal u) order = λ p error h. no_literal u p error h
    told_by (FromPath reference) order = path_told reference (referred reference input item) refl
    told_by (FromCall call) order = call_told call (call_value call input item) refl
    told_by (ArrayTemplate elements) order = array_told elements (element_failures 0 elements input item) (elements_told elements 0 order)
    told_by (ObjectTemplate fields) order = fields_told fields order

    elements_told : (elements : Templates) (i : ℕ) → AreInOrder elements → ToldFrom i elements (element_failures i elements input item)
    elements_told NoTemplates i order = λ p error h. none_some h.stands
    elements_told (AndTemplate t others) i order = element_told i t others (failures t input item) (element_failures (suc i) others input item) (told_by t order.0) (λ none. elements_told others (suc i) order.1)

    fields_told : (fields : FieldTemplates) → HasFieldsInOrder fields → Told (ObjectTemplate fields) (field_failures fields input item)
    fields_told NoFieldTemplates order = λ p error h. no_field p error h
    fields_told (AndFieldTemplate n t others) order = field_told n t others (failures t input item) (field_failures others input item) order.0 (told_by t order.1) (λ none. fields_told others order.2)

  -- the value of a template tells the least failing place
  pub value_tells : (t : Template) → IsInOrder t → TellsLeastFailure input item t (template_value t input item)
  value_tells t order = go (failures t input item) (told_by t order)
    where
      go : (all : List Failure) → Told t all → TellsLeastFailure input item t (unless_failing all (filled t input item))
      go [] told = (refl, told)
      go (x ∷ further) told = (x.place, told)
