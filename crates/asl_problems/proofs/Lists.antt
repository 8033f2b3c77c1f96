-- Lists that are gone through: what is made of the elements so far, and the elements that are left.
use Rattle.std.proofs.Common.{◌≡◌, List, [], ◌∷◌, ◌++◌, length, map, refl, sym, ap, ◌∙◌, append_assoc, arith}
use Rattle.std.proofs.lemmas.List.{append-nil, map-append}

-- what is mapped twice
pub map_twice : {A B C : Type 0} (f : A → B) (g : B → C) (xs : List A) → map g (map f xs) ≡ map (λ x. g (f x)) xs
map_twice f g [] = refl
map_twice f g (x ∷ xs) = ap (λ ys. g (f x) ∷ ys) (map_twice f g xs)

module _ {X Y T : Type 0} (f : X → T) (g : Y → T) where
  -- one more is made of the next element
  pub one_more : (all : List T) (ys zs : List Y) (xs left : List X) (x : X) (y : Y) → all ≡ map g ys ++ map f xs → xs ≡ x ∷ left → zs ≡ ys ++ y ∷ [] → g y ≡ f x → all ≡ map g zs ++ map f left
  one_more all ys zs xs left x y whole next pushed same =
      whole ∙ ap (λ us. map g ys ++ map f us) next
      ∙ ap (λ t. map g ys ++ (t ∷ map f left)) (sym same)
      ∙ sym (append_assoc (map g ys) (g y ∷ []) (map f left))
      ∙ ap (λ us. us ++ map f left) (sym (map-append g ys (y ∷ [])))
      ∙ ap (λ us. map g us ++ map f left) (sym pushed)

  -- none is left
  pub none_left : (all : List T) (ys : List Y) (xs : List X) → all ≡ map g ys ++ map f xs → length xs ≡ 0 → map g ys ≡ all
  none_left all ys [] whole none = sym (whole ∙ append-nil (map g ys))
  none_left all ys (x ∷ xs) whole none = absurd (omega (arith, none))
