-- Mentions that are all needed, one for each entry of a map in the order of its names.
use Rattle.std.proofs.Common.{◌≡◌, List, [], ◌∷◌, true, false, String, Global, Less, string_bytes, string_cmp, bytes_eq, refl, sym, ap, ◌∙◌}
use Rattle.std.proofs.lemmas.Cmp.{nat_list_eq_equiv}
use Rattle.std.proofs.lemmas.Map.Text.{is_eq-slice_cmp}
use Rattle.std.specs.List.{AllByRecursion}
use Rattle.std.specs.Map.{keys_of}
use Rattle.std.specs.Ordering.{is_eq}
use Rattle.asl_model.specs.Shape as model
use Rattle.asl_model.specs.ShapeOrder.{set_mention, without_mention}
use Rattle.asl_model.specs.Shape.{insert_mention}

-- each entry's mention, by the shape of its value
abbrev pub needed_by : {V : Type 0} → (V → model.Shape) → List (String Global × V) → model.FieldShapes
needed_by shape [] = model.NoFieldShapes
needed_by shape (e ∷ es) = model.AndFieldShape (string_bytes e.0) true (shape e.1) (needed_by shape es)

module _ {V : Type 0} (shape : V → model.Shape) where
  -- a name that is less than the others has no mention among them
  none_of_less : (n : String Global) (es : List (String Global × V)) → AllByRecursion (λ y. string_cmp n y ≡ Less) (keys_of es) → without_mention (string_bytes n) (needed_by shape es) ≡ needed_by shape es
  none_of_less n [] h = refl
  none_of_less n (e ∷ es) h =
      let apart : bytes_eq (string_bytes e.0) (string_bytes n) ≡ false = nat_list_eq_equiv.symm (string_bytes e.0) (string_bytes n) ∙ sym (is_eq-slice_cmp (string_bytes n) (string_bytes e.0)) ∙ ap is_eq h.0 in
      rw (apart, none_of_less n es h.1) refl

  -- and goes in front of them
  before_others : (n : String Global) (s : model.Shape) (es : List (String Global × V)) → AllByRecursion (λ y. string_cmp n y ≡ Less) (keys_of es) → insert_mention (string_bytes n) true s (needed_by shape es) ≡ model.AndFieldShape (string_bytes n) true s (needed_by shape es)
  before_others n s [] h = refl
  before_others n s (e ∷ es) h = rw h.0 refl

  -- so a mention that is set in the order of the names stands in front
  pub set_in_order : (n : String Global) (s : model.Shape) (es : List (String Global × V)) → AllByRecursion (λ y. string_cmp n y ≡ Less) (keys_of es) → set_mention (string_bytes n) true s (needed_by shape es) ≡ model.AndFieldShape (string_bytes n) true s (needed_by shape es)
  set_in_order n s es h = ap (insert_mention (string_bytes n) true s) (none_of_less n es h) ∙ before_others n s es h
