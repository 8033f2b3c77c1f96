-- What is known of a shape, by its first level and what is known of its parts.
use Rattle.std.proofs.Common.{◌≡◌, ◌≤◌, ℕ, zero, suc, List, [], ◌∷◌, length, map, Bool, true, false, ◌&&◌, eqb, Some, None, slice_get, Vec, Global, refl, sym, ap, ◌∙◌, subst, arith}
use Rattle.std.proofs.lemmas.List.{length-map}
use Rattle.std.specs.List.{list_any, list_all}
use Rattle.asl_model.specs.Shape as model
use Rattle.asl_model.specs.ShapeOrder.{takes_all}
use Rattle.asl_numbered.specs.declared.node.Node.{Node}
use Rattle.asl_numbered.specs.declared.node.Node.TheVariants as nodes
use Rattle.asl_numbered.specs.declared.table.Facts.{Facts}
use Rattle.asl_numbered.specs.Expansion.{shape_at, shapes_at, shape_over}
use Rattle.asl_numbered.specs.Kinds.{IsProperNode, AreSeveral, full, tidy, of_every_kind}
use Rattle.asl_numbered.specs.Table.{IsTable, shapes_in}
use Rattle.asl_numbered.proofs.Ascending.{inhabited_merged, full_merged, tidy_merged, several_merged, all_merged}
use Rattle.asl_numbered.proofs.Tables.{entry_level, shapes_length, shape_past}

several : (table : List model.Shape) (node : Node) (numbers : Vec ℕ Global) → node ≡ nodes.Several numbers → IsProperNode table node → AreSeveral (map (shape_at table) numbers.items)
several table node numbers e is = let own = subst (IsProperNode table) e is in own.proper

pub some_inhabited : (table : List model.Shape) (node : Node) (numbers : Vec ℕ Global) (ns : List ℕ) → node ≡ nodes.Several numbers → ns ≡ numbers.items → IsProperNode table node → list_any model.inhabited (map (shape_at table) ns) ≡ model.inhabited (shape_over table node)
some_inhabited table node numbers ns e same is =
    rw (same, e) (sym (inhabited_merged 0 _ (several table node numbers e is).ascend))

pub some_full : (table : List model.Shape) (node : Node) (numbers : Vec ℕ Global) (ns : List ℕ) → node ≡ nodes.Several numbers → ns ≡ numbers.items → IsProperNode table node → list_all full (map (shape_at table) ns) ≡ full (shape_over table node)
some_full table node numbers ns e same is = rw (same, e) (sym (full_merged 0 _ (several table node numbers e is).ascend))

pub some_tidy : (table : List model.Shape) (node : Node) (numbers : Vec ℕ Global) (ns : List ℕ) → node ≡ nodes.Several numbers → ns ≡ numbers.items → IsProperNode table node → list_all tidy (map (shape_at table) ns) ≡ tidy (shape_over table node)
some_tidy table node numbers ns e same is = rw (same, e) (sym (tidy_merged 0 _ (several table node numbers e is).ascend))

pub has_several : (table : List model.Shape) (node : Node) (numbers : Vec ℕ Global) → node ≡ nodes.Several numbers → IsProperNode table node → true ≡ model.has_several (shape_over table node)
has_several table node numbers e is = rw e (sym (several_merged _ (several table node numbers e is)))

and_false : (a : Bool) → false ≡ (a && false)
and_false true = refl
and_false false = refl

-- every tree has the shape where all kinds are there, and of each all trees
pub takes_all_over : (table : List model.Shape) (node : Node) → IsProperNode table node → takes_all (shape_over table node) ≡ (full (shape_over table node) && of_every_kind node)
takes_all_over table nodes.Any is = refl
takes_all_over table nodes.Never is = refl
takes_all_over table nodes.Null is = refl
takes_all_over table nodes.Bool is = refl
takes_all_over table nodes.Int is = refl
takes_all_over table nodes.Text is = refl
takes_all_over table (nodes.List first rest) is = and_false (full (shape_over table (nodes.List first rest)))
takes_all_over table (nodes.Object fields extra) is = and_false (full (shape_over table (nodes.Object fields extra)))
takes_all_over table (nodes.Several numbers) is =
    all_merged (map (shape_at table) numbers.items) is.proper.ascend ∙ ap (λ n. full (shape_over table (nodes.Several numbers)) && eqb n 6) (length-map numbers.items (shape_at table))

pub takes_all_at : (es : List (Node × Facts)) (n : ℕ) (e : Node × Facts) → IsTable es → slice_get es n ≡ Some e → takes_all (shape_at (shapes_in es) n) ≡ (e.1.full && of_every_kind e.0)
takes_all_at es n e table at =
    let own = entry_level es n e table at in
    ap takes_all own ∙ takes_all_over (shapes_in es) e.0 (table.proper n e at)
    ∙ ap (λ b. b && of_every_kind e.0) (sym (ap full own) ∙ sym (table.facts n e at).full)

past : {A : Type 0} (xs : List A) (n : ℕ) → None ≡ slice_get xs n → length xs ≤ n
past [] n e = omega arith
past (x ∷ xs) zero e = absurd (cc)
past (x ∷ xs) (suc n) e = omega (arith, past xs n e)

-- past the end there is Never
pub entry_past : (es : List (Node × Facts)) (n : ℕ) → None ≡ slice_get es n → shape_at (shapes_in es) n ≡ model.Never
entry_past es n e = shape_past (shapes_in es) n (omega (arith, past es n e, shapes_length es))

-- with a first place there are arrays that are not among these
pub not_empty : (table : List model.Shape) (node : Node) (first : Vec ℕ Global) (rest : ℕ) (empty : Bool) → node ≡ nodes.List first rest → empty ≡ false → empty ≡ eqb first.len 0 → empty ≡ full (shape_over table node)
not_empty table node first rest empty e none is =
    rw e (none ∙ some first.items (ap (λ n. eqb n 0) (sym first.ok.0) ∙ sym is ∙ none))
  where
    some : (ns : List ℕ) → eqb (length ns) 0 ≡ false → false ≡ full (model.ArrayShape (shapes_at table ns) (shape_at table rest))
    some [] h = absurd (cc)
    some (n ∷ ns) h = refl
