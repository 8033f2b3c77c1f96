-- Reading the elements of a list one after another as shapes of a table.
use Rattle.std.proofs.Common.{◌≡◌, ℕ, Bool, List, [], ◌∷◌, ◌++◌, map, Bor, Option, refl, sym, ap, subst, ◌∙◌, append-nil, append_assoc}
use Rattle.std.proofs.lemmas.List.{map-append}
use Rattle.serde_json.specs.Data.{Items}
use Rattle.asl_model.specs.Shape.{Shape}
use Rattle.asl_model.specs.Records.{Reading, shapes_misfits, shapes_from, tree_misfits}
use Rattle.asl_tree.specs.View.{view, elements_view}
use Rattle.asl_tree.specs.declared.Tree.{Tree}
use Rattle.asl_numbered.specs.Expansion.{IsNumberOf, Keeps}
use Rattle.asl_numbered.specs.Laws.{keeps_same, keeps_trans}
use Rattle.asl_records.specs.Listed.{AreInTable, ForReading}
use Rattle.asl_records.specs.Numbering.{AreListOf}
use Rattle.asl_records.specs.Parts.{TellsOneOf, complaint_of, shapes_complaints, tree_complaints, tree_shape}
use Rattle.asl_records.specs.Values.{as_items}
use Rattle.asl_records.specs.declared.refusals.ReadFault.{ReadFault}
use Rattle.asl_records.proofs.Meant.{still_meant}
use Rattle.asl_records.proofs.Numberings.{none_listed, listed_push}
use Rattle.asl_records.proofs.Telling.{told_left, told_same}
use Rattle.asl_records.proofs.Signed.{tree_of-value}

-- nothing is wrong where there is no complaint about it
pub none_mapped : {A B : Type 0} (f : A → B) (xs : List A) → map f xs ≡ [] → xs ≡ []
none_mapped f [] e = refl
none_mapped f (x ∷ xs) e = absurd (cc)

-- elements as items
abbrev pub items : List Tree → Items
items ts = as_items (elements_view ts)

-- ---- one element after another

-- where shapes are read so
module _ (reading : Reading) where
  -- so far numbers were read, which stand for those shapes, nothing was wrong, and the elements that are left make up the rest
  pub record ReadsNumbers (now : List Shape) (all left : List Tree) (ns : List ℕ) : Type 0 where
    pub done : List Shape
    pub numbered : AreListOf now done ns
    pub wrong : shapes_misfits reading (items all) ≡ shapes_misfits reading (items left)
    pub shapes : shapes_from reading.listed (items all) ≡ done ++ shapes_from reading.listed (items left)

  numbers_begun : (table : List Shape) (all left : List Tree) (ns : List ℕ) → left ≡ all → ns ≡ [] → ReadsNumbers table all left ns
  numbers_begun table all left ns same none = rw (same, none) (record { done = []; numbered = none_listed table; wrong = refl; shapes = refl })

  -- what is wrong with the next element, and the others
  next_wrong : (t : Tree) (rest : List Tree) → shapes_misfits reading (items (t ∷ rest)) ≡ tree_misfits reading (view t) ++ shapes_misfits reading (items rest)
  next_wrong t rest = rw (tree_of-value (view t)) refl

  next_shapes : (t : Tree) (rest : List Tree) → shapes_from reading.listed (items (t ∷ rest)) ≡ tree_shape reading.listed (view t) ∷ shapes_from reading.listed (items rest)
  next_shapes t rest = rw (tree_of-value (view t)) refl

  numbers_gone_on : (name field : List ℕ) (now new : List Shape) (all left rest : List Tree) (ns more : List ℕ) (t : Tree) (n : ℕ) → ReadsNumbers now all left ns → left ≡ t ∷ rest → Keeps now new
      → tree_complaints reading name field (view t) ≡ [] → IsNumberOf new (tree_shape reading.listed (view t)) n → more ≡ ns ++ n ∷ [] → ReadsNumbers new all rest more
  numbers_gone_on name field now new all left rest ns more t n h split keeps right is made =
      let s = tree_shape reading.listed (view t) in
      let none = none_mapped (complaint_of name field) (tree_misfits reading (view t)) right in
      record {
        done = h.done ++ s ∷ [];
        numbered = subst (AreListOf new (h.done ++ s ∷ [])) (sym made) (listed_push now new h.done s ns n keeps h.numbered is);
        wrong = h.wrong ∙ ap (λ ts. shapes_misfits reading (items ts)) split ∙ next_wrong t rest ∙ ap (λ fs. fs ++ shapes_misfits reading (items rest)) none;
        shapes = h.shapes ∙ ap (λ ts. h.done ++ shapes_from reading.listed (items ts)) split ∙ ap (λ all. h.done ++ all) (next_shapes t rest) ∙ sym (append_assoc h.done (s ∷ []) (shapes_from reading.listed (items rest)));
      }

  numbers_told : (name field : List ℕ) (now : List Shape) (all left rest : List Tree) (ns : List ℕ) (t : Tree) (fault : ReadFault) → ReadsNumbers now all left ns → left ≡ t ∷ rest
      → TellsOneOf (tree_complaints reading name field (view t)) fault → TellsOneOf (shapes_complaints reading name field (items all)) fault
  numbers_told name field now all left rest ns t fault h split told =
      let tell = complaint_of name field in
      let wrong = ap (map tell) (h.wrong ∙ ap (λ ts. shapes_misfits reading (items ts)) split ∙ next_wrong t rest) ∙ map-append tell (tree_misfits reading (view t)) (shapes_misfits reading (items rest)) in
      told_same fault _ _ (told_left fault (tree_complaints reading name field (view t)) (shapes_complaints reading name field (items rest)) told) (sym wrong)

  -- at the end
  numbers_right : (name field : List ℕ) (now : List Shape) (all left : List Tree) (ns : List ℕ) → ReadsNumbers now all left ns → left ≡ [] → shapes_complaints reading name field (items all) ≡ []
  numbers_right name field now all left ns h end = ap (map (complaint_of name field)) (h.wrong ∙ ap (λ ts. shapes_misfits reading (items ts)) end)

  numbers_read : (now : List Shape) (all left : List Tree) (ns : List ℕ) → ReadsNumbers now all left ns → left ≡ [] → AreListOf now (shapes_from reading.listed (items all)) ns
  numbers_read now all left ns h end = subst (λ shapes. AreListOf now shapes ns) (sym (h.shapes ∙ ap (λ ts. h.done ++ shapes_from reading.listed (items ts)) end ∙ append-nil h.done)) h.numbered

-- ---- however shapes are read, and whatever trees the given numbers mean

module _ (several : Bool) (given : Option (Bor (List ℕ))) (start : List Shape) where
  pub record ReadsFor (now : List Shape) (all left : List Tree) (ns : List ℕ) : Type 0 where
    pub keeps : Keeps start now
    pub reads : ForReading several start given (λ reading. ReadsNumbers reading now all left ns)

  pub begun : (all left : List Tree) (ns : List ℕ) → left ≡ all → ns ≡ [] → ReadsFor start all left ns
  begun all left ns same none = record {
    keeps = keeps_same start;
    reads = record { each = λ reading means. numbers_begun reading start all left ns same none };
  }

  -- one more element was read
  pub gone_on : (name field : List ℕ) (now new : List Shape) (all left rest : List Tree) (ns more : List ℕ) (t : Tree) (n : ℕ) → AreInTable start given → ReadsFor now all left ns → left ≡ t ∷ rest → Keeps now new
      → ForReading several now given (λ reading. tree_complaints reading name field (view t) ≡ []) → ForReading several now given (λ reading. IsNumberOf new (tree_shape reading.listed (view t)) n) → more ≡ ns ++ n ∷ [] → ReadsFor new all rest more
  gone_on name field now new all left rest ns more t n there h split keeps right is made = record {
    keeps = keeps_trans start now new h.keeps keeps;
    reads = record {
      each = λ reading means.
          let still = still_meant start now h.keeps given reading there means in
          numbers_gone_on reading name field now new all left rest ns more t n (h.reads.each reading means) split keeps (right.each reading still) (is.each reading still) made;
    };
  }

  -- what is told of the next element is told of all
  pub next_told : (name field : List ℕ) (now : List Shape) (all left rest : List Tree) (ns : List ℕ) (t : Tree) (fault : ReadFault) → AreInTable start given → ReadsFor now all left ns → left ≡ t ∷ rest
      → ForReading several now given (λ reading. TellsOneOf (tree_complaints reading name field (view t)) fault) → ForReading several start given (λ reading. TellsOneOf (shapes_complaints reading name field (items all)) fault)
  next_told name field now all left rest ns t fault there h split told = record {
    each = λ reading means. numbers_told reading name field now all left rest ns t fault (h.reads.each reading means) split (told.each reading (still_meant start now h.keeps given reading there means));
  }

  -- at the end
  pub none_wrong : (name field : List ℕ) (now : List Shape) (all left : List Tree) (ns : List ℕ) → ReadsFor now all left ns → left ≡ [] → ForReading several start given (λ reading. shapes_complaints reading name field (items all) ≡ [])
  none_wrong name field now all left ns h end = record { each = λ reading means. numbers_right reading name field now all left ns (h.reads.each reading means) end }

  pub all_read : (now : List Shape) (all left : List Tree) (ns : List ℕ) → ReadsFor now all left ns → left ≡ [] → ForReading several start given (λ reading. AreListOf now (shapes_from reading.listed (items all)) ns)
  all_read now all left ns h end = record { each = λ reading means. numbers_read reading now all left ns (h.reads.each reading means) end }
