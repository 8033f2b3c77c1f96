-- Reading the shapes that a certificate lists from tokens, one after another.
use Rattle.std.proofs.Common.{◌≡◌, ◌-◌, ◌<◌, ◌≤◌, ℕ, Bool, List, [], ◌∷◌, ◌++◌, length, map, slice_get, option_map, Option, Some, None, Bor, refl, sym, ap, ap₂, ◌∙◌, subst, arith}
use Rattle.std.proofs.lemmas.List.{map-append}
use Rattle.json.specs.Json as json
use Rattle.json.specs.Json.{after_end_array, items, value, parse_map}
use Rattle.json.specs.Token.{Token}
use Rattle.json.proofs.Grammar.{after_end_array-shorter, items_end, items_more}
use Rattle.serde_json.specs.Data as values
use Rattle.serde_json.specs.Data.{Data, Items}
use Rattle.serde_json.specs.Read.{of_json, of_items, converted}
use Rattle.asl_model.specs.Records.{listed_after, listed_misfits, tree_misfits}
use Rattle.asl_model.specs.References.{spelled_out}
use Rattle.asl_model.specs.Shape.{Shape}
use Rattle.asl_model.specs.ShapeSpelling.{shape_of, shape_faults}
use Rattle.asl_model.specs.Tree.{Tree, Trees, NoTrees, AndTree}
use Rattle.asl_numbered.specs.Expansion.{shape_at, AreBelow, Keeps}
use Rattle.asl_numbered.specs.References.{shapes_given}
use Rattle.asl_numbered.specs.Laws.{below-append, keeps_same, keeps_trans, kept_numbers, kept_shapes}
use Rattle.asl_records.specs.Listed.{AreInTable, AreMeant, IsReading}
use Rattle.asl_records.specs.Parts.{reading_of}
use Rattle.asl_records.specs.Values.{AreItems}
use Rattle.asl_records.proofs.Shapes.{read_as}
use Rattle.asl_records.proofs.Trees.{pushed_right, right_tree}
use Rattle.asl_streams.specs.Shaped.{ReadsShape, in_front}
use Rattle.asl_streams.specs.Streamed.{ReadsList, SpellItems}
use Rattle.asl_streams.proofs.Values.{same_misfits, same_plain, value_spelled}
use Rattle.asl_tree.proofs.Parsed.{converted_there}

pub front_push : (ds : List Data) (d : Data) (rest : Items) → in_front (ds ++ d ∷ []) rest ≡ in_front ds (values.item d rest)
front_push [] d rest = refl
front_push (e ∷ ds) d rest = ap (values.item e) (front_push ds d rest)

-- ---- elements, one after another

mapped_twice : (d : Data) (r : List Token) (o : Option Items) → option_map (λ b. (b, r)) (option_map (values.item d) o) ≡ parse_map (values.item d) (option_map (λ a. (a, r)) o)
mapped_twice d r None = refl
mapped_twice d r (Some ds) = refl

with_item : (j : json.Json) (d : Data) (o : Option (json.Items × List Token)) → of_json j ≡ Some d → converted of_items (parse_map (json.item j) o) ≡ parse_map (values.item d) (converted of_items o)
with_item j d None e = refl
with_item j d (Some p) e = rw e (mapped_twice d p.1 (of_items p.0))

pushed : (ds : List Data) (d : Data) (o : Option (Items × List Token)) → parse_map (in_front ds) (parse_map (values.item d) o) ≡ parse_map (in_front (ds ++ d ∷ [])) o
pushed ds d None = refl
pushed ds d (Some p) = ap (λ es. Some (es, p.1)) (sym (front_push ds d p.0))

pub nothing : (o : Option (Items × List Token)) → o ≡ parse_map (in_front []) o
nothing None = refl
nothing (Some p) = refl

-- elements that were found, and what the tokens that are left add to them
pub record GoesOn (levels : ℕ) (before left : List Token) (found : List Data) : Type 0 where
  pub turns : ℕ
  pub enough : length left ≤ turns
  pub less : length left ≤ length before
  pub same : converted of_items (items (value levels) (length before) before) ≡ parse_map (in_front found) (converted of_items (items (value levels) turns left))

pub one_more : (levels : ℕ) (d : Data) (before left r : List Token) (found : List Data) → after_end_array left ≡ None → converted of_json (value levels left) ≡ Some (d, r) → length r < length left → GoesOn levels before left found → GoesOn levels before r (found ++ d ∷ [])
one_more levels d before left r found going e shorter h =
    let j = converted_there of_json (value levels left) d r e in
    record {
      turns = h.turns - 1;
      enough = omega (arith, h.enough);
      less = omega (arith, h.less, shorter);
      same = h.same ∙ ap (parse_map (in_front found)) (ap (converted of_items) (items_more (value levels) h.turns left r j.0 (omega (arith, h.enough)) going j.1) ∙ with_item j.0 d _ j.2) ∙ pushed found d _;
    }

pub all_over : (levels : ℕ) (before left r : List Token) (found : List Data) → after_end_array left ≡ Some r → GoesOn levels before left found → SpellItems levels before r (in_front found values.no_items)
all_over levels before left r found end h = h.same ∙ ap (λ o. parse_map (in_front found) (converted of_items o)) (items_end (value levels) h.turns left r h.enough end)

-- ---- listed shapes

module _ (several : Bool) (start : List Shape) (levels : ℕ) (before : List Token) where
  -- so far these shapes were read
  pub record Lists (now : List Shape) (left : List Token) (ns : List ℕ) : Type 0 where
    found : List Data
    goes_on : GoesOn levels before left found
    trees : List Tree
    pub keeps : Keeps start now
    meant : AreMeant several now ns trees
    below : AreBelow (length now) ns
    whole : (rest : Items) (ts : Trees) → AreItems ts rest → (all : Trees) × AreItems all (in_front found rest)
    wrong : (rest : Items) → listed_misfits several [] (in_front found rest) ≡ listed_misfits several trees rest
    listed : (rest : Items) → listed_after [] (in_front found rest) ≡ listed_after trees rest

  abbrev no_trees : List Tree
  no_trees = []

  none_there : (i : ℕ) (t : Tree) → slice_get no_trees i ≡ Some t → shape_faults several t ≡ []
  none_there i t e = absurd (cc)

  pub begun : (ns : List ℕ) → ns ≡ [] → Lists start before ns
  begun ns none = rw none (record {
    found = [];
    goes_on = record { turns = length before; enough = omega arith; less = omega arith; same = nothing _ };
    trees = [];
    keeps = keeps_same start;
    meant = record { shapes = refl; right = none_there };
    below = tt;
    whole = λ rest ts are. (ts, are);
    wrong = λ rest. refl;
    listed = λ rest. refl;
  })

  -- references in the next one mean those that were read
  pub in_table : (now : List Shape) (left : List Token) (ns : List ℕ) (lent : Bor (List ℕ)) → lent.now ≡ ns → Lists now left ns → AreInTable now (Some lent)
  in_table now left ns lent same h = record { below = subst (AreBelow (length now)) (sym same) h.below }

  means_these : (now : List Shape) (left : List Token) (ns : List ℕ) (lent : Bor (List ℕ)) → lent.now ≡ ns → (h : Lists now left ns) → IsReading several now (Some lent.now) (reading_of several (Some h.trees))
  means_these now left ns lent same h = record { same = refl; meant = subst (λ ms. AreMeant several now ms h.trees) (sym same) h.meant }

  pub gone_on : (now new : List Shape) (left r : List Token) (ns more : List ℕ) (lent : Bor (List ℕ)) (n : ℕ) → lent.now ≡ ns → Lists now left ns → after_end_array left ≡ None → ReadsShape several (shapes_given now (Some lent)) levels left r new n → length r < length left → Keeps now new → more ≡ ns ++ n ∷ [] → Lists new r more
  gone_on now new left r ns more lent n same h going shown shorter keeps made =
      let t = shown.tree in
      let read = value_spelled (value levels left) t r shown.spelled in
      let d = read.value in
      let reading = reading_of several (Some h.trees) in
      let plainly = read_as several now (Some lent.now) reading t (shape_at new n) (means_these now left ns lent same h) shown.read.spelled in
      let plain = spelled_out h.trees t in
      let within : n < length new = shown.read.within in
      let one : shape_of plain ≡ shape_at new n = plainly.same in
      let earlier : map shape_of h.trees ≡ map (shape_at new) ns = h.meant.shapes ∙ sym (kept_shapes now new ns keeps h.below) in
      let none : tree_misfits reading t ≡ [] = plainly.none_wrong in
      record {
        found = h.found ++ d ∷ [];
        goes_on = one_more levels d before left r h.found going read.read shorter h.goes_on;
        trees = h.trees ++ plain ∷ [];
        keeps = keeps_trans start now new h.keeps keeps;
        meant = subst (λ ms. AreMeant several new ms (h.trees ++ plain ∷ [])) (sym made) (record {
          shapes = map-append shape_of h.trees (plain ∷ []) ∙ (ap₂ (λ xs x. xs ++ x ∷ []) earlier one ∙ sym (map-append (shape_at new) ns (n ∷ [])));
          right = pushed_right several h.trees plain h.meant.right (right_tree several h.trees t none);
        });
        below = subst (AreBelow (length new)) (sym made) (below-append (length new) ns (n ∷ []) (kept_numbers now new ns keeps h.below) (within, tt));
        whole = λ rest ts are.
            let all = h.whole (values.item d rest) (AndTree t ts) (rw (read.is, are) refl) in
            (all.0, subst (AreItems all.0) (sym (front_push h.found d rest)) all.1);
        wrong = λ rest.
            ap (listed_misfits several []) (front_push h.found d rest) ∙ h.wrong (values.item d rest)
            ∙ ap₂ (λ fs u. fs ++ listed_misfits several (h.trees ++ u ∷ []) rest) (same_misfits reading d t read.is ∙ none) (same_plain h.trees d t read.is);
        listed = λ rest. ap (listed_after []) (front_push h.found d rest) ∙ h.listed (values.item d rest) ∙ ap (λ u. listed_after (h.trees ++ u ∷ []) rest) (same_plain h.trees d t read.is);
      }

  pub lists_shorter : (now : List Shape) (left r : List Token) (ns : List ℕ) → Lists now left ns → after_end_array left ≡ Some r → length r < length before
  lists_shorter now left r ns h end = let less = after_end_array-shorter left r end in omega (arith, h.goes_on.less, less)

  pub over : (now : List Shape) (left r : List Token) (ns : List ℕ) → Lists now left ns → after_end_array left ≡ Some r → ReadsList several now levels before r ns
  over now left r ns h end = record {
    found = in_front h.found values.no_items;
    spelled = all_over levels before left r h.found end h.goes_on;
    elements = (h.whole values.no_items NoTrees refl).0;
    whole = (h.whole values.no_items NoTrees refl).1;
    right = h.wrong values.no_items;
    meant = subst (AreMeant several now ns) (sym (h.listed values.no_items)) h.meant;
    below = h.below;
  }
