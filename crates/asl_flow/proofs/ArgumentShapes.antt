-- The numbers of the shapes of a call's arguments, in order.
use Rattle.std.proofs.Common.{◌≡◌, ◌<◌, ◌≤◌, ℕ, zero, suc, List, [], ◌∷◌, ◌++◌, length, get_or, take, map, Option, Some, None, Vec, Global, refl, sym, ap, ◌∙◌, rules, arith}
use Rattle.std.proofs.lemmas.List.{map-append, take_all}
use Rattle.asl_intrinsic.specs.View.{argument_view, arguments_view}
use Rattle.asl_intrinsic.specs.declared.call.Arg.{Arg, the_lemmas}
use Rattle.asl_intrinsic.specs.declared.call.Arg as code
use Rattle.asl_model.specs.Intrinsic.{InInput, ItemIndex, InItem}
use Rattle.asl_model.specs.Shape as model
use Rattle.asl_model.specs.ShapeFlow.{argument_shape, argument_shapes, and_argument, reference_shape, unless_doubtful}
use Rattle.asl_numbered.specs.Expansion.{shape_at, shapes_at, AreBelow, Keeps}
use Rattle.asl_numbered.specs.Laws.{below-append, below-wider, keeps_longer, kept_shape}
use Rattle.asl_path.specs.declared.RefPath.{RefPath}
use Rattle.asl_flow.specs.CallAnswer.{AnswersAll}

-- the shapes of numbers, each of which there is
abbrev pub each_shown : List model.Shape → List ℕ → List (Option model.Shape)
each_shown table ns = map (λ n. Some (shape_at table n)) ns

each-kept : (old new : List model.Shape) (ns : List ℕ) → Keeps old new → AreBelow (length old) ns → each_shown new ns ≡ each_shown old ns
each-kept old new [] keeps below = refl
each-kept old new (n ∷ ns) keeps below = rw (kept_shape old new n keeps below.0, each-kept old new ns keeps below.1) refl

module _ (input : model.Shape) (item : Option model.Shape) where
  -- the shapes of arguments, as far as there are some
  abbrev pub each_shape : List Arg → List (Option model.Shape)
  each_shape arguments = map (λ a. argument_shape (argument_view a) input item) arguments

  -- the numbers are in the table, and their shapes are those of the arguments
  pub record AreShapesOf (table : List model.Shape) (arguments : List Arg) (ns : List ℕ) : Type 0 where
    pub within : AreBelow (length table) ns
    pub same : each_shape arguments ≡ each_shown table ns

  -- none so far
  pub no_arguments : (table : List model.Shape) → AreShapesOf table [] []
  no_arguments table = record { within = tt; same = refl }

  -- one more, in a table that has grown
  pub argument_more : (old new : List model.Shape) (before after : List Arg) (a : Arg) (ns ms : List ℕ) (n : ℕ) → Keeps old new → AreShapesOf old before ns → argument_shape (argument_view a) input item ≡ Some (shape_at new n) → n < length new → after ≡ before ++ a ∷ [] → ms ≡ ns ++ n ∷ [] → AreShapesOf new after ms
  argument_more old new before after a ns ms n keeps are own is more also =
      let longer : length old ≤ length new = omega (arith, keeps_longer old new keeps) in
      let within : AreBelow (length new) ns = below-wider (length old) (length new) ns longer are.within in
      let now : each_shape before ≡ each_shown new ns = are.same ∙ sym (each-kept old new ns keeps are.within) in
      rw (more, also) (record {
        within = below-append (length new) ns (n ∷ []) within (is, tt);
        same = map-append (λ x. argument_shape (argument_view x) input item) before (a ∷ []) ∙ rw (now, own) (sym (map-append (λ m. Some (shape_at new m)) ns (n ∷ [])));
      })

  shapes-given : (table : List model.Shape) (arguments : List Arg) (ns : List ℕ) → each_shape arguments ≡ each_shown table ns → argument_shapes (arguments_view arguments) input item ≡ Some (shapes_at table ns)
  shapes-given table [] [] e = refl
  shapes-given table [] (n ∷ ns) e = absurd (cc)
  shapes-given table (a ∷ arguments) [] e = absurd (cc)
  shapes-given table (a ∷ arguments) (n ∷ ns) e =
      let first : argument_shape (argument_view a) input item ≡ Some (shape_at table n) = cc in
      rw (first, shapes-given table arguments ns (cc)) refl

  -- the arguments gone through, to the end
  pub arguments_end : (table : List model.Shape) (arguments : List Arg) (i : ℕ) (v : Vec ℕ Global) → length arguments ≤ i → AreShapesOf table (take i arguments) v.items → AnswersAll table (argument_shapes (arguments_view arguments) input item) (Some v)
  arguments_end table arguments i v end are = record {
    same = shapes-given table arguments v.items (ap each_shape (sym (take_all i arguments end)) ∙ are.same);
    within = are.within;
  }

  no-rest : (s : Option model.Shape) (others : Option model.Shapes) → others ≡ None → and_argument s others ≡ None
  no-rest None others e = refl
  no-rest (Some s) others e = rw e refl

  none-at : (arguments : List Arg) (i : ℕ) (d : Arg) → i < length arguments → argument_shape (argument_view (get_or arguments i d)) input item ≡ None → argument_shapes (arguments_view arguments) input item ≡ None
  none-at [] i d h e = absurd (omega arith)
  none-at (a ∷ arguments) zero d h e = rw e refl
  none-at (a ∷ arguments) (suc i) d h e = no-rest _ _ (none-at arguments i d (omega arith) e)

  -- where one argument may fail, the arguments have no shapes
  pub arguments_fail : (table : List model.Shape) (arguments : List Arg) (i : ℕ) (a : Arg) → i < length arguments → a ≡ get_or arguments i a → argument_shape (argument_view a) input item ≡ None → AnswersAll table (argument_shapes (arguments_view arguments) input item) None
  arguments_fail table arguments i a within at none = record {
    same = none-at arguments i a within (ap (λ x. argument_shape (argument_view x) input item) (sym at) ∙ none);
    within = tt;
  }

  -- ---- arguments that are paths

  pub path_argument : (a : Arg) (path : RefPath) → a ≡ code.Path path → argument_shape (argument_view a) input item ≡ unless_doubtful (reference_shape (InInput path) input item)
  path_argument a path is = ap (λ x. argument_shape (argument_view x) input item) is ∙ search (rules, the_lemmas)

  pub index_argument : (a : Arg) → a ≡ code.ItemIndex → argument_shape (argument_view a) input item ≡ unless_doubtful (reference_shape ItemIndex input item)
  index_argument a is = ap (λ x. argument_shape (argument_view x) input item) is ∙ search (rules, the_lemmas)

  pub item_argument : (a : Arg) (path : RefPath) → a ≡ code.ItemValue path → argument_shape (argument_view a) input item ≡ unless_doubtful (reference_shape (InItem path) input item)
  item_argument a path is = ap (λ x. argument_shape (argument_view x) input item) is ∙ search (rules, the_lemmas)
