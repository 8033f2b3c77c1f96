-- The values of the arguments of a call, in order.
use Rattle.std.proofs.Common.{◌≡◌, ◌<◌, ◌≤◌, ℕ, zero, suc, List, [], ◌∷◌, ◌++◌, length, get_or, take, map, Option, Some, None, option_map, option_and_then, Result, Err, refl, sym, ap, ◌∙◌, arith}
use Rattle.std.proofs.Math.Seq.{take-suc}
use Rattle.std.proofs.lemmas.List.{map-append, take_all}
use Rattle.asl_model.specs.Intrinsic as model
use Rattle.asl_model.specs.Tree as trees
use Rattle.asl_intrinsic.specs.Answer.{Answers, literal_in, literal_of, value_view, values_view}
use Rattle.asl_intrinsic.specs.View.{argument_view, arguments_view}
use Rattle.asl_intrinsic.specs.declared.EvalRefusal.{EvalRefusal}
use Rattle.asl_intrinsic.specs.declared.EvalRefusal.TheVariants.{IntrinsicFailure}
use Rattle.asl_intrinsic.specs.declared.call.Arg.{Arg}
use Rattle.asl_intrinsic.specs.declared.value.Value.{Value}

module _ (input : trees.Tree) (item : Option model.Item) where
  -- where each argument has its value, the arguments have these values
  values_given : (arguments : List Arg) (values : List Value) → map (λ a. model.argument_value (argument_view a) input item) arguments ≡ map (λ v. Some (value_view v)) values → model.argument_values (arguments_view arguments) input item ≡ Some (values_view values)
  values_given [] [] e = refl
  values_given [] (v ∷ values) e = absurd (cc)
  values_given (a ∷ arguments) [] e = absurd (cc)
  values_given (a ∷ arguments) (v ∷ values) e =
      let first : model.argument_value (argument_view a) input item ≡ Some (value_view v) = cc in
      rw (first, values_given arguments values (cc)) refl

  -- the arguments gone through, to the end
  pub values_gone_through : (arguments : List Arg) (i : ℕ) (values : List Value) → length arguments ≤ i → map (λ a. model.argument_value (argument_view a) input item) (take i arguments) ≡ map (λ v. Some (value_view v)) values → model.argument_values (arguments_view arguments) input item ≡ Some (values_view values)
  values_gone_through arguments i values end e = values_given arguments values (ap (map (λ a. model.argument_value (argument_view a) input item)) (sym (take_all i arguments end)) ∙ e)

  -- where the later arguments have no values, neither do all of them
  no_rest : (t : Option trees.Tree) (rest : Option trees.Trees) → rest ≡ None → option_and_then (λ u. option_map (trees.AndTree u) rest) t ≡ None
  no_rest None rest e = refl
  no_rest (Some u) rest e = rw e refl

  -- where the argument at a position has no value, the arguments have none
  none_at : (arguments : List Arg) (i : ℕ) (d : Arg) → i < length arguments → model.argument_value (argument_view (get_or arguments i d)) input item ≡ None → model.argument_values (arguments_view arguments) input item ≡ None
  none_at [] i d h e = absurd (omega arith)
  none_at (a ∷ arguments) zero d h e = rw e refl
  none_at (a ∷ arguments) (suc i) d h e = no_rest _ _ (none_at arguments i d (omega arith) e)

  -- where one argument has no value, the arguments have none
  pub values_refused : {A : Type 0} (seen : A → trees.Trees) (given : Result A EvalRefusal) (refusal : EvalRefusal) (one : Result Value EvalRefusal) (arguments : List Arg) (i : ℕ) (a : Arg) → given ≡ Err refusal → one ≡ Err refusal → i < length arguments → a ≡ get_or arguments i a
      → Answers value_view one (model.argument_value (argument_view a) input item) → Answers seen given (model.argument_values (arguments_view arguments) input item)
  values_refused seen given refusal one arguments i a is was within at h = rw is (record {
    gives = tt;
    fails = λ e. let same : refusal ≡ IntrinsicFailure = cc in none_at arguments i a within (ap (λ x. model.argument_value (argument_view x) input item) (sym at) ∙ h.fails (was ∙ ap Err same));
  })

-- ---- the literal text that the first argument may be

-- what follows the first argument doesn't change the literal that it is
same_literal : (a : model.Argument) (others further : model.Arguments) → model.literal_pieces (model.AndArgument a others) ≡ model.literal_pieces (model.AndArgument a further)
same_literal model.NullArgument others further = refl
same_literal (model.BooleanArgument b) others further = refl
same_literal (model.IntegerArgument n) others further = refl
same_literal (model.TextArgument pieces) others further = refl
same_literal (model.PathArgument r) others further = refl
same_literal (model.CallArgument c) others further = refl

-- the next argument doesn't change the literal that stands first
literal_kept : {A : Type 0} (f : Arg → A) (g : Value → A) (arguments : List Arg) (values : List Value) (a : Arg) (v : Value) → map f arguments ≡ map g values → literal_in values ≡ model.literal_pieces (arguments_view arguments) → ((others : model.Arguments) → literal_of v ≡ model.literal_pieces (model.AndArgument (argument_view a) others))
    → literal_in (values ++ v ∷ []) ≡ model.literal_pieces (arguments_view (arguments ++ a ∷ []))
literal_kept f g [] [] a v e so_far here = here model.NoArguments
literal_kept f g [] (u ∷ values) a v e so_far here = absurd (cc)
literal_kept f g (b ∷ arguments) [] a v e so_far here = absurd (cc)
literal_kept f g (b ∷ arguments) (u ∷ values) a v e so_far here = so_far ∙ same_literal (argument_view b) _ _

-- one more argument has its value
pub argument_taken : (input : trees.Tree) (item : Option model.Item) (arguments : List Arg) (i next : ℕ) (values new : List Value) (a : Arg) (v : Value) → i < length arguments → next ≡ suc i → a ≡ get_or arguments i a
    → (map (λ x. model.argument_value (argument_view x) input item) (take i arguments) ≡ map (λ u. Some (value_view u)) values) × (literal_in values ≡ model.literal_pieces (arguments_view (take i arguments)))
    → model.argument_value (argument_view a) input item ≡ Some (value_view v) → ((others : model.Arguments) → literal_of v ≡ model.literal_pieces (model.AndArgument (argument_view a) others)) → new ≡ values ++ v ∷ []
    → (map (λ x. model.argument_value (argument_view x) input item) (take next arguments) ≡ map (λ u. Some (value_view u)) new) × (literal_in new ≡ model.literal_pieces (arguments_view (take next arguments)))
argument_taken input item arguments i next values new a v within after at so_far value literal is =
    let taken : take next arguments ≡ take i arguments ++ a ∷ [] = ap (λ n. take n arguments) after ∙ take-suc arguments i a within ∙ ap (λ x. take i arguments ++ x ∷ []) (sym at) in
    let f : Arg → Option trees.Tree = λ x. model.argument_value (argument_view x) input item in
    let g : Value → Option trees.Tree = λ u. Some (value_view u) in (
      ap (map f) taken ∙ map-append f (take i arguments) (a ∷ []) ∙ rw (so_far.0, value) (sym (map-append g values (v ∷ []))) ∙ sym (ap (map g) is),
      ap literal_in is ∙ literal_kept f g (take i arguments) values a v so_far.0 so_far.1 literal ∙ sym (ap (λ xs. model.literal_pieces (arguments_view xs)) taken),
    )
