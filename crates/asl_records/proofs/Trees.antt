-- Reading the shapes that a certificate lists, one after another.
use Rattle.std.proofs.Common.{◌≡◌, ◌<◌, ℕ, zero, suc, List, [], ◌∷◌, ◌++◌, length, map, slice_get, Bool, Some, Bor, refl, sym, ap, ap₂, subst, ◌∙◌}
use Rattle.std.proofs.lemmas.List.{map-append}
use Rattle.asl_model.specs.References.{spelled_out}
use Rattle.asl_model.specs.ShapeSpelling.{shape_of, shape_faults}
use Rattle.asl_model.specs.Tree.{Tree}
use Rattle.asl_model.specs.Records.{BadShape, listed_after, listed_misfits, number_misfits, plain_tree, tree_misfits}
use Rattle.asl_tree.specs.View.{view}
use Rattle.asl_tree.specs.declared.Tree.{Tree as CodeTree}
use Rattle.asl_numbered.specs.Expansion.{shape_at, AreBelow, IsNumberOf, Keeps}
use Rattle.asl_numbered.specs.Laws.{below-append, kept_numbers, kept_shapes}
use Rattle.asl_model.specs.Shape.{Shape}
use Rattle.asl_records.specs.Listed.{AreInTable, AreMeant, ForReading, IsReading}
use Rattle.asl_records.specs.Parts.{TellsOneOf, complaint_of, listing_complaints, reading_of, tree_complaints, tree_shape}
use Rattle.asl_records.specs.Values.{as_value}
use Rattle.asl_records.specs.declared.refusals.ReadFault.{ReadFault}
use Rattle.asl_records.proofs.Lists.{items, none_mapped}
use Rattle.asl_records.proofs.Signed.{tree_of-value}
use Rattle.asl_records.proofs.Telling.{told_left, told_same}

-- so far those numbers were read, which mean those trees, nothing was wrong, and the elements that are left make up the rest
pub record ReadsListed (several : Bool) (now : List Shape) (all left : List CodeTree) (ns : List ℕ) : Type 0 where
  pub trees : List Tree
  pub meant : AreMeant several now ns trees
  pub below : AreBelow (length now) ns
  pub wrong : listed_misfits several [] (items all) ≡ listed_misfits several trees (items left)
  pub listed : listed_after [] (items all) ≡ listed_after trees (items left)

abbrev no_trees : List Tree
no_trees = []

none_there : (several : Bool) (i : ℕ) (t : Tree) → slice_get no_trees i ≡ Some t → shape_faults several t ≡ []
none_there several i t e = absurd (cc)

pub begun : (several : Bool) (table : List Shape) (all left : List CodeTree) (ns : List ℕ) → left ≡ all → ns ≡ [] → ReadsListed several table all left ns
begun several table all left ns same none =
    rw (same, none) (record { trees = []; meant = record { shapes = refl; right = none_there several }; below = tt; wrong = refl; listed = refl })

-- references in the next element mean the shapes that were read
pub next_listed : (several : Bool) (now : List Shape) (all left : List CodeTree) (ns : List ℕ) (lent : Bor (List ℕ)) → lent.now ≡ ns → ReadsListed several now all left ns → AreInTable now (Some lent)
next_listed several now all left ns lent same h = record { below = subst (AreBelow (length now)) (sym same) h.below }

next_meant : (several : Bool) (now : List Shape) (all left : List CodeTree) (ns : List ℕ) (lent : Bor (List ℕ)) → lent.now ≡ ns → (h : ReadsListed several now all left ns) → IsReading several now (Some lent.now) (reading_of several (Some h.trees))
next_meant several now all left ns lent same h = record { same = refl; meant = subst (λ ms. AreMeant several now ms h.trees) (sym same) h.meant }

-- ---- one more

behind : {A : Type 0} (xs ys : List A) → xs ++ ys ≡ [] → ys ≡ []
behind [] ys e = e
behind (x ∷ xs) ys e = absurd (cc)

-- nothing is wrong with the tree without references that an element is
pub right_tree : (several : Bool) (trees : List Tree) (t : Tree) → tree_misfits (reading_of several (Some trees)) t ≡ [] → shape_faults several (spelled_out trees t) ≡ []
right_tree several trees t none =
    none_mapped BadShape (shape_faults several (spelled_out trees t)) (behind (number_misfits (Some trees) t) (map BadShape (shape_faults several (spelled_out trees t))) none)

pub pushed_right : (several : Bool) (trees : List Tree) (t : Tree) → ((i : ℕ) (u : Tree) → slice_get trees i ≡ Some u → shape_faults several u ≡ []) → shape_faults several t ≡ [] → (i : ℕ) (u : Tree) → slice_get (trees ++ t ∷ []) i ≡ Some u → shape_faults several u ≡ []
pushed_right several [] t right last zero u e = let same : t ≡ u = cc in ap (shape_faults several) (sym same) ∙ last
pushed_right several [] t right last (suc i) u e = none_there several i u e
pushed_right several (x ∷ trees) t right last zero u e = right zero u e
pushed_right several (x ∷ trees) t right last (suc i) u e = pushed_right several trees t (λ j w at. right (suc j) w at) last i u e

-- what is wrong with the next element, and with those behind it, and what is listed with it
next_wrong : (several : Bool) (trees : List Tree) (t : CodeTree) (rest : List CodeTree) → listed_misfits several trees (items (t ∷ rest)) ≡ tree_misfits (reading_of several (Some trees)) (view t) ++ listed_misfits several (trees ++ spelled_out trees (view t) ∷ []) (items rest)
next_wrong several trees t rest = rw (tree_of-value (view t)) refl

next_after : (trees : List Tree) (t : CodeTree) (rest : List CodeTree) → listed_after trees (items (t ∷ rest)) ≡ listed_after (trees ++ spelled_out trees (view t) ∷ []) (items rest)
next_after trees t rest =
    let plain : plain_tree trees (as_value (view t)) ≡ spelled_out trees (view t) = rw (tree_of-value (view t)) refl in
    ap (λ u. listed_after (trees ++ u ∷ []) (items rest)) plain

pub gone_on : (several : Bool) (name field : List ℕ) (now new : List Shape) (all left rest : List CodeTree) (ns more : List ℕ) (lent : Bor (List ℕ)) (t : CodeTree) (n : ℕ) → lent.now ≡ ns → ReadsListed several now all left ns → left ≡ t ∷ rest → Keeps now new
    → ForReading several now (Some lent) (λ reading. tree_complaints reading name field (view t) ≡ []) → ForReading several now (Some lent) (λ reading. IsNumberOf new (tree_shape reading.listed (view t)) n) → more ≡ ns ++ n ∷ [] → ReadsListed several new all rest more
gone_on several name field now new all left rest ns more lent t n same h split keeps right is made =
    let reading = reading_of several (Some h.trees) in
    let means = next_meant several now all left ns lent same h in
    let number = is.each reading means in
    let none = none_mapped (complaint_of name field) (tree_misfits reading (view t)) (right.each reading means) in
    let u = spelled_out h.trees (view t) in
    let within : n < length new = number.within in
    let before : map shape_of h.trees ≡ map (shape_at new) ns = h.meant.shapes ∙ sym (kept_shapes now new ns keeps h.below) in
    record {
      trees = h.trees ++ u ∷ [];
      meant = subst (λ ms. AreMeant several new ms (h.trees ++ u ∷ [])) (sym made) (record {
        shapes = map-append shape_of h.trees (u ∷ []) ∙ (ap₂ (λ xs x. xs ++ x ∷ []) before (sym number.same) ∙ sym (map-append (shape_at new) ns (n ∷ [])));
        right = pushed_right several h.trees u h.meant.right (right_tree several h.trees (view t) none);
      });
      below = subst (AreBelow (length new)) (sym made) (below-append (length new) ns (n ∷ []) (kept_numbers now new ns keeps h.below) (within, tt));
      wrong = h.wrong ∙ ap (λ ts. listed_misfits several h.trees (items ts)) split ∙ next_wrong several h.trees t rest ∙ ap (λ fs. fs ++ listed_misfits several (h.trees ++ u ∷ []) (items rest)) none;
      listed = h.listed ∙ ap (λ ts. listed_after h.trees (items ts)) split ∙ next_after h.trees t rest;
    }

-- what is told of the next element is told of all
pub next_told : (several : Bool) (field : List ℕ) (now : List Shape) (all left rest : List CodeTree) (ns : List ℕ) (lent : Bor (List ℕ)) (t : CodeTree) (fault : ReadFault) → lent.now ≡ ns → ReadsListed several now all left ns → left ≡ t ∷ rest
    → ForReading several now (Some lent) (λ reading. TellsOneOf (tree_complaints reading [] field (view t)) fault) → TellsOneOf (map (complaint_of [] field) (listed_misfits several [] (items all))) fault
next_told several field now all left rest ns lent t fault same h split told =
    let tell = complaint_of [] field in
    let reading = reading_of several (Some h.trees) in
    let later = listed_misfits several (h.trees ++ spelled_out h.trees (view t) ∷ []) (items rest) in
    let wrong = ap (map tell) (h.wrong ∙ ap (λ ts. listed_misfits several h.trees (items ts)) split ∙ next_wrong several h.trees t rest) ∙ map-append tell (tree_misfits reading (view t)) later in
    told_same fault _ _ (told_left fault (tree_complaints reading [] field (view t)) (map tell later) (told.each reading (next_meant several now all left ns lent same h))) (sym wrong)

-- at the end
pub none_wrong : (several : Bool) (now : List Shape) (all left : List CodeTree) (ns : List ℕ) → ReadsListed several now all left ns → left ≡ [] → listing_complaints several [] (items all) ≡ []
none_wrong several now all left ns h end = ap (map (complaint_of [] _)) (h.wrong ∙ ap (λ ts. listed_misfits several h.trees (items ts)) end)

pub all_meant : (several : Bool) (now : List Shape) (all left : List CodeTree) (ns : List ℕ) → ReadsListed several now all left ns → left ≡ [] → AreMeant several now ns (listed_after [] (items all))
all_meant several now all left ns h end = subst (AreMeant several now ns) (sym (h.listed ∙ ap (λ ts. listed_after h.trees (items ts)) end)) h.meant
