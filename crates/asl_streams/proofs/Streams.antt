-- Reading a certificate's states from tokens, one after another.
use Rattle.std.proofs.Common.{◌≡◌, ◌<◌, ℕ, Bool, List, [], length, String, Global, string_bytes, string_cmp, Option, Some, None, Bor, option_map, refl, sym, ap, subst, arith}
use Rattle.std.specs.BTreeMap.{insert_entry}
use Rattle.json.specs.Json.{read_key}
use Rattle.json.specs.Token.{Token}
use Rattle.json.proofs.Grammar.{read_key-shorter}
use Rattle.serde_json.specs.Data as values
use Rattle.serde_json.specs.Data.{Members}
use Rattle.asl_model.specs.Records.{entries_complaints, entries_from, state_from, state_rows}
use Rattle.asl_model.specs.Shape.{Shape}
use Rattle.asl_model.specs.Tree as model
use Rattle.asl_numbered.specs.Expansion.{Keeps}
use Rattle.asl_numbered.specs.References.{numbers_given, shapes_given}
use Rattle.asl_numbered.specs.Laws.{keeps_same, keeps_trans}
use Rattle.asl_records.specs.Listed.{AreInTable, ForReading}
use Rattle.asl_records.specs.Numbering.{AreStatesOf}
use Rattle.asl_records.specs.Values.{AreMembers, IsValue}
use Rattle.asl_records.specs.declared.records.StateNumbers.{StateNumbers}
use Rattle.asl_records.specs.Laws.{states_kept}
use Rattle.asl_records.proofs.Meant.{still_meant}
use Rattle.asl_streams.specs.Streamed.{ReadsStates}
use Rattle.asl_streams.specs.Entered.{ReadsState}
use Rattle.asl_streams.proofs.Members.{GoesOn, all_over, begun, one_more}
use Rattle.asl_streams.proofs.Put.{right_put, states_put}
use Rattle.asl_streams.proofs.StateParts.{state_right, state_shapes}
use Rattle.asl_tree.proofs.Parsed.{put_among}
use Rattle.asl_tree.proofs.Views.{put}

-- ---- states

abbrev Entry : Type 0
Entry = String Global × StateNumbers

module _ (several : Bool) (given : Option (Bor (List ℕ))) (start : List Shape) (levels : ℕ) (before : List Token) where
  -- so far these states were read
  pub record States (now : List Shape) (left : List Token) (es : List Entry) : Type 0 where
    pub found : Members
    pub goes_on : GoesOn levels before left found
    pub fields : model.Fields
    pub whole : AreMembers fields found
    pub keeps : Keeps start now
    pub right : ForReading several start given (λ reading. entries_complaints reading state_rows found ≡ [])
    pub same : ForReading several start given (λ reading. AreStatesOf now (entries_from (state_from reading.listed) found) es)

  pub states_begun : (es : List Entry) → es ≡ [] → States start before es
  states_begun es none = record {
    found = values.no_members;
    goes_on = begun levels before;
    fields = model.NoFields;
    whole = refl;
    keeps = keeps_same start;
    right = record { each = λ reading means. refl };
    same = record { each = λ reading means. rw none (record { below = record { each = tt }; same = refl }) };
  }

  pub states_gone_on : (now new : List Shape) (left s r : List Token) (k : List ℕ) (es more : List Entry) (name : String Global) (numbers : StateNumbers) → AreInTable start given → States now left es
      → read_key left ≡ Some (Some k, s) → ReadsState several (shapes_given now given) levels new s r numbers → length r < length s → Keeps now new → string_bytes name ≡ k → more ≡ insert_entry string_cmp es name numbers → States new r more
  states_gone_on now new left s r k es more name numbers there h key read shorter keeps named made =
      let d = values.object read.found in
      let t = model.Object read.are.trees in
      let is : IsValue t d = ap (option_map model.Object) read.are.whole in
      record {
        found = values.put k d h.found;
        goes_on = one_more levels k d before left s r h.found key read.spelled shorter h.goes_on;
        fields = put k t h.fields;
        whole = put_among k d t h.found h.fields is h.whole;
        keeps = keeps_trans start now new h.keeps keeps;
        right = record {
          each = λ reading means.
              right_put reading state_rows k d h.found (state_right several now new (numbers_given given) reading (still_meant start now h.keeps given reading there means) read.found read.entry numbers read.are read.theirs k) (h.right.each reading means);
        };
        same = record {
          each = λ reading means.
              let shapes = state_shapes several now new (numbers_given given) reading (still_meant start now h.keeps given reading there means) read.found read.entry numbers read.are read.theirs in
              subst (AreStatesOf new (entries_from (state_from reading.listed) (values.put k d h.found))) (sym made)
              (states_put new (state_from reading.listed) k d h.found name numbers es named shapes (states_kept now new keeps _ es (h.same.each reading means)));
        };
      }

  pub states_shorter : (now : List Shape) (left r : List Token) (es : List Entry) → States now left es → read_key left ≡ Some (None, r) → length r < length before
  states_shorter now left r es h end = let less = read_key-shorter left None r end in omega (arith, h.goes_on.less, less)

  pub states_over : (now : List Shape) (left r : List Token) (es : List Entry) → States now left es → read_key left ≡ Some (None, r) → ReadsStates several given start now levels before r es
  states_over now left r es h end = record { found = h.found; spelled = all_over levels before left r h.found end h.goes_on; fields = h.fields; whole = h.whole; right = h.right; same = h.same }
