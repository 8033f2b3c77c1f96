-- The entry of a state, read field by field: what is kept of it as the table grows, and the state's shapes at its end.
use Rattle.std.proofs.Common.{◌≡◌, ◌<◌, ℕ, Bool, true, false, List, [], ◌∷◌, ◌++◌, length, map, Option, Some, None, Bor, Vec, Global, codes, option_map, unwrap_or, refl, sym, ap, ap₂, ◌∙◌, subst, arith}
use Rattle.std.specs.Prelude.{IfSome}
use Rattle.json.specs.Json.{read_key}
use Rattle.json.specs.Token.{Token}
use Rattle.serde_json.specs.Data as values
use Rattle.serde_json.specs.Data.{Data, Items, Members}
use Rattle.serde_json.specs.Find.{get_member}
use Rattle.asl_model.specs.Records.{Reading, object_complaints, shape_from, shape_misfits, shapes_from, shapes_misfits, state_from, state_rows}
use Rattle.asl_model.specs.Shape.{Shape}
use Rattle.asl_model.specs.Tree as model
use Rattle.asl_numbered.specs.Expansion.{shape_at, AreBelow, Keeps}
use Rattle.asl_numbered.specs.Laws.{keeps_same, keeps_trans}
use Rattle.asl_numbered.specs.References.{shapes_given}
use Rattle.asl_records.specs.Listed.{AreInTable, IsReading}
use Rattle.asl_records.specs.Numbering.{AreStateOf}
use Rattle.asl_records.specs.Parts.{complaint_of, field_complaints, shape_row, shape_there, shapes_row, shapes_there}
use Rattle.asl_records.specs.Values.{IsValue}
use Rattle.asl_records.specs.declared.records.StateNumbers.{StateNumbers}
use Rattle.asl_records.proofs.Shapes.{read_as}
use Rattle.asl_records.proofs.Stated.{none_wrong, stands_for}
use Rattle.asl_streams.specs.Entered.{AreParts, AreTheirs, ReadsPart, ReadsParts, known_parts}
use Rattle.asl_streams.specs.Shaped.{AreSpelled, IsSpelled, SpellEach, SpellsNumber, SpellsNumbers, in_front}
use Rattle.asl_streams.specs.declared.states.Entry.{Entry}
use Rattle.asl_streams.proofs.Found.{found_before, found_there, known_put}
use Rattle.asl_streams.proofs.SpelledShapes.{each_grown, spelled_grown, still_given}
use Rattle.asl_streams.proofs.Members.{GoesOn, all_over, begun, one_more}
use Rattle.asl_streams.proofs.Values.{same_misfits, same_shape}
use Rattle.asl_tree.proofs.Parsed.{put_among}
use Rattle.asl_tree.proofs.Views.{put}
use Rattle.json.proofs.Grammar.{read_key-shorter}

-- ---- in a table that has grown

all_grown : (several : Bool) (given : Option (List Shape)) (old new : List Shape) → Keeps old new → (o : Option Data) (ns : Option (List ℕ)) → AreSpelled several given old o ns → AreSpelled several given new o ns
all_grown several given old new keeps None None h = tt
all_grown several given old new keeps None (Some ns) h = absurd h
all_grown several given old new keeps (Some d) None h = absurd h
all_grown several given old new keeps (Some d) (Some ns) h =
    record { found = h.found; is = h.is; elements = h.elements; whole = h.whole; each = each_grown several given old new keeps h.found ns h.each }

-- ---- one more field

module _ (several : Bool) (given : Option (List Shape)) (start now : List Shape) (keeps : Keeps start now) (found : Members) (old : Entry) (h : AreParts several given start found old) where
  abbrev kept : (o : Option Data) (n : Option ℕ) → IsSpelled several given start o n → IsSpelled several given now o n
  kept = spelled_grown several given start now keeps

  abbrev all_kept : (o : Option Data) (ns : Option (List ℕ)) → AreSpelled several given start o ns → AreSpelled several given now o ns
  all_kept = all_grown several given start now keeps

  pub input_put : (d : Data) (n : ℕ) → SpellsNumber several given now d n → AreParts several given now (values.put (codes "input") d found) (record { input = Some n; output = old.output; branches = old.branches; item = old.item })
  input_put d n read =
      let k = codes "input" in
      record {
        input = rw (found_there k d found) read;
        output = rw (found_before (codes "output") k d found refl) (kept _ _ h.output);
        branches = rw (found_before (codes "branches") k d found refl) (all_kept _ _ h.branches);
        item = rw (found_before (codes "item") k d found refl) (kept _ _ h.item);
        trees = put k read.tree h.trees;
        whole = put_among k d read.tree found h.trees read.is h.whole;
        foreign = λ name. known_put name known_parts k d found refl (h.foreign name);
      }

  pub output_put : (d : Data) (n : ℕ) → SpellsNumber several given now d n → AreParts several given now (values.put (codes "output") d found) (record { input = old.input; output = Some n; branches = old.branches; item = old.item })
  output_put d n read =
      let k = codes "output" in
      record {
        input = rw (found_before (codes "input") k d found refl) (kept _ _ h.input);
        output = rw (found_there k d found) read;
        branches = rw (found_before (codes "branches") k d found refl) (all_kept _ _ h.branches);
        item = rw (found_before (codes "item") k d found refl) (kept _ _ h.item);
        trees = put k read.tree h.trees;
        whole = put_among k d read.tree found h.trees read.is h.whole;
        foreign = λ name. known_put name known_parts k d found refl (h.foreign name);
      }

  pub item_put : (d : Data) (n : ℕ) → SpellsNumber several given now d n → AreParts several given now (values.put (codes "item") d found) (record { input = old.input; output = old.output; branches = old.branches; item = Some n })
  item_put d n read =
      let k = codes "item" in
      record {
        input = rw (found_before (codes "input") k d found refl) (kept _ _ h.input);
        output = rw (found_before (codes "output") k d found refl) (kept _ _ h.output);
        branches = rw (found_before (codes "branches") k d found refl) (all_kept _ _ h.branches);
        item = rw (found_there k d found) read;
        trees = put k read.tree h.trees;
        whole = put_among k d read.tree found h.trees read.is h.whole;
        foreign = λ name. known_put name known_parts k d found refl (h.foreign name);
      }

  pub branches_put : (d : Data) (ns : Vec ℕ Global) → SpellsNumbers several given now d ns.items → AreParts several given now (values.put (codes "branches") d found) (record { input = old.input; output = old.output; branches = Some ns; item = old.item })
  branches_put d ns read =
      let k = codes "branches" in
      let is : IsValue (model.Array read.elements) d = rw read.is (ap (option_map model.Array) read.whole) in
      record {
        input = rw (found_before (codes "input") k d found refl) (kept _ _ h.input);
        output = rw (found_before (codes "output") k d found refl) (kept _ _ h.output);
        branches = rw (found_there k d found) read;
        item = rw (found_before (codes "item") k d found refl) (kept _ _ h.item);
        trees = put k (model.Array read.elements) h.trees;
        whole = put_among k d (model.Array read.elements) found h.trees is h.whole;
        foreign = λ name. known_put name known_parts k d found refl (h.foreign name);
      }

-- ---- a field after another

module _ (several : Bool) (listed : Option (Bor (List ℕ))) (levels : ℕ) (before : List Token) (start : List Shape) where
  abbrev before_parts : Option (List Shape)
  before_parts = shapes_given start listed

  -- so far these fields were read
  pub record Parts (now : List Shape) (left : List Token) (entry : Entry) : Type 0 where
    pub found : Members
    pub goes_on : GoesOn levels before left found
    pub keeps : Keeps start now
    pub are : AreParts several before_parts now found entry

  pub parts_begun : Parts start before (record { input = None; output = None; branches = None; item = None })
  parts_begun = record {
    found = values.no_members;
    goes_on = begun levels before;
    keeps = keeps_same start;
    are = record { input = tt; output = tt; branches = tt; item = tt; trees = model.NoFields; whole = refl; foreign = λ name. refl };
  }

  pub parts_gone_on : (now new : List Shape) (left s r : List Token) (k : List ℕ) (old entry : Entry) → AreInTable start listed → read_key left ≡ Some (Some k, s) → ReadsPart several (shapes_given now listed) levels k now new s r old entry → length r < length s → Keeps now new → Parts now left old → Parts new r entry
  parts_gone_on now new left s r k old entry there key read shorter keeps h =
      let same = still_given start now listed h.keeps there in
      record {
        found = values.put k read.value h.found;
        goes_on = one_more levels k read.value before left s r h.found key read.spelled shorter h.goes_on;
        keeps = keeps_trans start now new h.keeps keeps;
        are = subst (λ g. AreParts several g new (values.put k read.value h.found) entry) same (read.are h.found (subst (λ g. AreParts several g now h.found old) (sym same) h.are));
      }

  pub parts_over : (now : List Shape) (left r : List Token) (entry : Entry) (state : StateNumbers) → read_key left ≡ Some (None, r) → AreTheirs entry state → Parts now left entry → ReadsParts several before_parts levels now before r state
  parts_over now left r entry state end theirs h = record { found = h.found; spelled = all_over levels before left r h.found end h.goes_on; entry = entry; are = h.are; theirs = theirs }

  pub parts_shorter : (now : List Shape) (left r : List Token) (entry : Entry) → read_key left ≡ Some (None, r) → Parts now left entry → length r < length before
  parts_shorter now left r entry end h = let less = read_key-shorter left None r end in omega (arith, h.goes_on.less, less)

-- ---- the state

module _ (several : Bool) (start now : List Shape) (numbers : Option (List ℕ)) (reading : Reading) (means : IsReading several start numbers reading) where
  abbrev listed_so : Option (List Shape)
  listed_so = option_map (map (shape_at start)) numbers

  pub number_right : (d : Data) (n : ℕ) → SpellsNumber several listed_so now d n → shape_misfits reading d ≡ []
  number_right d n h = same_misfits reading d h.tree h.is ∙ (read_as several start numbers reading h.tree (shape_at now n) means h.read.spelled).none_wrong

  pub number_shape : (d : Data) (n : ℕ) → SpellsNumber several listed_so now d n → shape_at now n ≡ shape_from reading.listed d
  number_shape d n h = sym (same_shape reading.listed d h.tree h.is ∙ (read_as several start numbers reading h.tree (shape_at now n) means h.read.spelled).same)

  -- a field that has to be there
  required_right : (name field : List ℕ) (o : Option Data) (n : ℕ) → IsSpelled several listed_so now o (Some n) → field_complaints reading name (shape_row field true) o ≡ []
  required_right name field None n h = absurd h
  required_right name field (Some d) n h = ap (map (complaint_of name field)) (number_right d n h)

  required_shape : (o : Option Data) (n : ℕ) → IsSpelled several listed_so now o (Some n) → shape_at now n ≡ shape_there reading.listed o
  required_shape None n h = absurd h
  required_shape (Some d) n h = number_shape d n h

  required_within : (o : Option Data) (n : ℕ) → IsSpelled several listed_so now o (Some n) → n < length now
  required_within None n h = absurd h
  required_within (Some d) n h = h.read.within

  -- one that may be there
  optional_right : (name field : List ℕ) (o : Option Data) (n : Option ℕ) → IsSpelled several listed_so now o n → field_complaints reading name (shape_row field false) o ≡ []
  optional_right name field None None h = refl
  optional_right name field None (Some n) h = absurd h
  optional_right name field (Some d) None h = absurd h
  optional_right name field (Some d) (Some n) h = ap (map (complaint_of name field)) (number_right d n h)

  optional_shape : (o : Option Data) (n : Option ℕ) → IsSpelled several listed_so now o n → option_map (shape_at now) n ≡ option_map (shape_from reading.listed) o
  optional_shape None None h = refl
  optional_shape None (Some n) h = absurd h
  optional_shape (Some d) None h = absurd h
  optional_shape (Some d) (Some n) h = ap Some (number_shape d n h)

  optional_within : (o : Option Data) (n : Option ℕ) → IsSpelled several listed_so now o n → IfSome n (λ m. m < length now)
  optional_within None None h = tt
  optional_within None (Some n) h = absurd h
  optional_within (Some d) None h = absurd h
  optional_within (Some d) (Some n) h = h.read.within

  -- a list
  each_right : (vs : List Data) (ns : List ℕ) → SpellEach several listed_so now vs ns → shapes_misfits reading (in_front vs values.no_items) ≡ []
  each_right [] ns h = refl
  each_right (v ∷ vs) [] h = absurd h
  each_right (v ∷ vs) (n ∷ ns) h = ap₂ (λ xs ys. xs ++ ys) (number_right v n h.0) (each_right vs ns h.1)

  each_shape : (vs : List Data) (ns : List ℕ) → SpellEach several listed_so now vs ns → map (shape_at now) ns ≡ shapes_from reading.listed (in_front vs values.no_items)
  each_shape [] [] h = refl
  each_shape [] (n ∷ ns) h = absurd h
  each_shape (v ∷ vs) [] h = absurd h
  each_shape (v ∷ vs) (n ∷ ns) h = ap₂ (λ s ss. s ∷ ss) (number_shape v n h.0) (each_shape vs ns h.1)

  each_below : (vs : List Data) (ns : List ℕ) → SpellEach several listed_so now vs ns → AreBelow (length now) ns
  each_below [] [] h = tt
  each_below [] (n ∷ ns) h = absurd h
  each_below (v ∷ vs) [] h = absurd h
  each_below (v ∷ vs) (n ∷ ns) h = (h.0.read.within, each_below vs ns h.1)

  abbrev of_branches : Option (List ℕ) → List ℕ
  of_branches ns = unwrap_or ns []

  list_right : (name field : List ℕ) (o : Option Data) (ns : Option (List ℕ)) → AreSpelled several listed_so now o ns → field_complaints reading name (shapes_row field) o ≡ []
  list_right name field None None h = refl
  list_right name field None (Some ns) h = absurd h
  list_right name field (Some d) None h = absurd h
  list_right name field (Some d) (Some ns) h = rw h.is (ap (map (complaint_of name field)) (each_right h.found ns h.each))

  list_shape : (o : Option Data) (ns : Option (List ℕ)) → AreSpelled several listed_so now o ns → map (shape_at now) (of_branches ns) ≡ shapes_there reading.listed o
  list_shape None None h = refl
  list_shape None (Some ns) h = absurd h
  list_shape (Some d) None h = absurd h
  list_shape (Some d) (Some ns) h = rw h.is (each_shape h.found ns h.each)

  list_below : (o : Option Data) (ns : Option (List ℕ)) → AreSpelled several listed_so now o ns → AreBelow (length now) (of_branches ns)
  list_below None None h = tt
  list_below None (Some ns) h = absurd h
  list_below (Some d) None h = absurd h
  list_below (Some d) (Some ns) h = each_below h.found ns h.each

  module _ (found : Members) (entry : Entry) (state : StateNumbers) (are : AreParts several listed_so now found entry) (theirs : AreTheirs entry state) where
    input_there : IsSpelled several listed_so now (get_member (codes "input") found) (Some state.input)
    input_there = subst (IsSpelled several listed_so now (get_member (codes "input") found)) theirs.input are.input

    output_there : IsSpelled several listed_so now (get_member (codes "output") found) (Some state.output)
    output_there = subst (IsSpelled several listed_so now (get_member (codes "output") found)) theirs.output are.output

    item_there : IsSpelled several listed_so now (get_member (codes "item") found) state.item
    item_there = subst (IsSpelled several listed_so now (get_member (codes "item") found)) (sym theirs.item) are.item

    -- nothing is wrong with it
    pub state_right : (name : List ℕ) → object_complaints reading name state_rows (values.object found) ≡ []
    state_right name =
        none_wrong reading name (values.object found) found refl (are.foreign name)
        (required_right name (codes "input") (get_member (codes "input") found) state.input input_there)
        (required_right name (codes "output") (get_member (codes "output") found) state.output output_there)
        (list_right name (codes "branches") (get_member (codes "branches") found) _ are.branches)
        (optional_right name (codes "item") (get_member (codes "item") found) state.item item_there)

    -- its shapes are those of the numbers
    pub state_shapes : AreStateOf now (state_from reading.listed (values.object found)) state
    state_shapes = record {
      below = record {
        input = required_within (get_member (codes "input") found) state.input input_there;
        output = required_within (get_member (codes "output") found) state.output output_there;
        branches = rw theirs.branches (list_below (get_member (codes "branches") found) _ are.branches);
        item = optional_within (get_member (codes "item") found) state.item item_there;
      };
      same =
          rw (theirs.branches, required_shape (get_member (codes "input") found) state.input input_there, required_shape (get_member (codes "output") found) state.output output_there, list_shape (get_member (codes "branches") found) _ are.branches, optional_shape (get_member (codes "item") found) state.item item_there)
          (stands_for reading (values.object found) found refl);
    }
