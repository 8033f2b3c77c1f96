-- Reading a certificate's fields from tokens up to the end, and the certificate that they make.
use mathlib.Core.Bool.{beq}
use Rattle.std.proofs.Common.{◌≡◌, ◌<◌, ℕ, Bool, true, false, List, [], ◌∷◌, ◌++◌, length, map, Option, Some, None, option_map, option_and_then, codes, pos, BTreeMap, Bor, Vec, Global, String, refl, sym, ap, ap₂, ◌∙◌, subst, arith}
use Rattle.std.specs.Prelude.{IfSome}
use Rattle.json.specs.Json.{if_last, read_key, value}
use Rattle.json.specs.Lex.{tokens}
use Rattle.json.specs.Token.{Token}
use Rattle.serde_json.specs.Data as values
use Rattle.serde_json.specs.Data.{Data, Members}
use Rattle.serde_json.specs.Find.{get_member}
use Rattle.serde_json.specs.Read.{of_json, read}
use Rattle.asl_model.specs.Records.{Reading, certificate_reading, entries_from, listed_complaints, listed_in, state_from, StandsForCertificate}
use Rattle.asl_model.specs.Shape.{Shape}
use Rattle.asl_model.specs.Tree as model
use Rattle.asl_numbered.specs.Expansion.{shape_at, AreBelow, Keeps}
use Rattle.asl_numbered.specs.Reading.{IsRead}
use Rattle.asl_numbered.specs.References.{numbers_given, shapes_given}
use Rattle.asl_records.specs.Listed.{AreInTable, IsReading}
use Rattle.asl_records.specs.Numbered.{AreWithin, numbered_view}
use Rattle.asl_records.specs.Parts.{complaint_of, field_complaints, is_number, listed_row, reading_of, shape_row, shape_there, trees_there, version_row}
use Rattle.asl_records.specs.declared.records.NumberedCertificate.{NumberedCertificate}
use Rattle.asl_records.proofs.Certified.{is_its_reading, none_wrong}
use Rattle.asl_records.specs.Laws.{states_kept}
use Rattle.asl_records.specs.Numbering.{AreStatesOf}
use Rattle.asl_records.proofs.Meant.{IsLent, kept_items}
use Rattle.asl_records.specs.declared.records.StateNumbers.{StateNumbers}
use Rattle.asl_streams.specs.Fielded.{AreFields, AreStates, AreStatesRead, IsList, ReadsField, ReadsFields, shapes_listed}
use Rattle.asl_streams.specs.Shaped.{IsOutput, IsOutputOf}
use Rattle.asl_streams.specs.declared.outputs.Output.{Output}
use Rattle.asl_streams.proofs.OutputShapes.{lent_numbers, listed_shapes, number_stands, stated_output}
use Rattle.asl_streams.specs.Streamed.{SpellMembers}
use Rattle.asl_streams.specs.declared.fields.Fields.{Fields}
use Rattle.asl_streams.proofs.Opened.{object_opened}
use Rattle.asl_tree.proofs.Parsed.{converted_there}
use Rattle.asl_streams.proofs.Members.{GoesOn, all_over, begun as members_begun, one_more}

-- ---- one after another

pub record Begun (several : Bool) (before : List Token) (now : List Shape) (left : List Token) (fields : Fields) : Type 0 where
  pub found : Members
  pub goes_on : GoesOn 126 before left found
  pub are : AreFields several now found fields

pub begun : (several : Bool) (before : List Token) (now : List Shape) → Begun several before now before (record { version = None; listed = None; output = None; states = None })
begun several before now = record {
  found = values.no_members;
  goes_on = members_begun 126 before;
  are = record { version = refl; output = tt; listed = tt; states = tt; trees = model.NoFields; whole = refl; foreign = refl };
}

pub gone_on : (several : Bool) (before : List Token) (start now : List Shape) (left s r : List Token) (name : List ℕ) (old new : Fields) → read_key left ≡ Some (Some name, s) → length r < length s → Begun several before start left old → ReadsField several name start now s r old new → Begun several before now r new
gone_on several before start now left s r name old new key shorter h more = record {
  found = values.put name more.value h.found;
  goes_on = one_more 126 name more.value before left s r h.found key more.spelled shorter h.goes_on;
  are = more.are h.found h.are;
}

pub over : (several : Bool) (before : List Token) (now : List Shape) (left r : List Token) (fields : Fields) → read_key left ≡ Some (None, r) → Begun several before now left fields → ReadsFields several now before r fields
over several before now left r fields end h = record { found = h.found; spelled = all_over 126 before left r h.found end h.goes_on; are = h.are }

-- references mean what is listed
kept_meant : (several : Bool) (now : List Shape) (o : Option Data) (kept : Option (Vec ℕ Global)) → IsList several now o (option_map (λ ns. ns.items) kept) → IsReading several now (kept_items kept) (reading_of several (trees_there o))
kept_meant several now None None h = record { same = refl; meant = tt }
kept_meant several now None (Some ns) h = absurd h
kept_meant several now (Some d) None h = absurd h
kept_meant several now (Some d) (Some ns) h = rw h.is (record { same = refl; meant = h.meant })

pub given_there : (now : List Shape) (fields : Fields) (lent : Option (Bor (List ℕ))) → numbers_given lent ≡ kept_items fields.listed → IfSome fields.listed (λ ns. AreBelow (length now) ns.items) → AreInTable now lent
given_there now fields None is below = record { below = tt }
given_there now fields (Some ns) is below = record { below = by fields.listed is below }
  where
    by : (kept : Option (Vec ℕ Global)) → Some ns.now ≡ kept_items kept → IfSome kept (λ ms. AreBelow (length now) ms.items) → AreBelow (length now) ns.now
    by None same h = absurd (cc)
    by (Some ms) same h = let equal_lists : ns.now ≡ ms.items = cc in subst (AreBelow (length now)) (sym equal_lists) h

pub given_means : (several : Bool) (now : List Shape) (found : Members) (fields : Fields) (lent : Option (Bor (List ℕ))) → numbers_given lent ≡ kept_items fields.listed → AreFields several now found fields → IsReading several now (numbers_given lent) (reading_of several (trees_there (get_member (codes "shapes") found)))
given_means several now found fields lent is h = subst (λ ns. IsReading several now ns (reading_of several (trees_there (get_member (codes "shapes") found)))) (sym is) (kept_meant several now _ fields.listed h.listed)

-- ---- the certificate

list_right : (several : Bool) (now : List Shape) (listed : Option (List model.Tree)) (o : Option Data) (ns : Option (List ℕ)) → IsList several now o ns → field_complaints (reading_of several listed) [] listed_row o ≡ []
list_right several now listed None None h = refl
list_right several now listed None (Some ns) h = absurd h
list_right several now listed (Some d) None h = absurd h
list_right several now listed (Some d) (Some ns) h = rw h.is (ap (map (complaint_of [] (codes "shapes"))) h.right)

-- the version read is the one expected
pub equal : (read several : Bool) → beq read several ≡ true → several ≡ read
equal true true e = refl
equal true false e = absurd (cc)
equal false true e = absurd (cc)
equal false false e = refl

-- what was read of the states
stated_there : (several : Bool) (now : List Shape) (trees : Option (List model.Tree)) (o : Option Data) (es : List (String Global × StateNumbers)) → AreStates several now trees o (Some es) → (d : Data) × (o ≡ Some d) × AreStatesRead several now trees d es
stated_there several now trees None es h = absurd h
stated_there several now trees (Some d) es h = (d, refl, h)

-- what the output's number shows where the numbers of the listed shapes are lent
pub output_shown : (several : Bool) (start now : List Shape) (fields : Fields) (output : Output) (n : ℕ) (lent : Option (Bor (List ℕ))) → IsLent fields.listed lent → ((t : model.Tree) → IsOutputOf several (shapes_given start lent) start t output → IsRead several (shapes_given start lent) t now n)
    → (t : model.Tree) → IsOutputOf several (shapes_listed start fields) start t output → IsRead several (shapes_listed start fields) t now n
output_shown several start now fields output n lent is read t shows =
    let same = listed_shapes start fields (numbers_given lent) (lent_numbers fields.listed lent is) in
    subst (λ g. IsRead several g t now n) same (read t (subst (λ g. IsOutputOf several g start t output) (sym same) shows))

module _ (several : Bool) (start now : List Shape) (found : Members) (fields : Fields) (output : Output) (n : ℕ) (states : BTreeMap (String Global) StateNumbers) (there : fields.output ≡ Some output) (stated : fields.states ≡ Some states) (h : AreFields several start found fields) (keeps : Keeps start now)
    (read : (t : model.Tree) → IsOutputOf several (shapes_listed start fields) start t output → IsRead several (shapes_listed start fields) t now n) where
  abbrev trees : Option (List model.Tree)
  trees = trees_there (get_member (codes "shapes") found)

  abbrev made : NumberedCertificate
  made = record { shapes = now; output = n; states = states }

  read_states : (d : Data) × (get_member (codes "states") found ≡ Some d) × AreStatesRead several start trees d states.entries
  read_states = stated_there several start trees (get_member (codes "states") found) states.entries (rw stated at h.states)

  read_output : (n < length now) × (field_complaints (reading_of several trees) [] (shape_row (codes "output") true) (get_member (codes "output") found) ≡ []) × (shape_at now n ≡ shape_there trees (get_member (codes "output") found))
  read_output =
      let kept = kept_items fields.listed in
      let o = stated_output several (shapes_listed start fields) start (get_member (codes "output") found) output (subst (IsOutput several (shapes_listed start fields) start (get_member (codes "output") found)) there h.output) in
      let shown = read o.2.tree o.2.is in
      number_stands several start now kept (reading_of several trees) (get_member (codes "output") found) o.0 o.2.tree n (kept_meant several start (get_member (codes "shapes") found) fields.listed h.listed) o.1 o.2.value
      (subst (λ g. IsRead several g o.2.tree now n) (sym (listed_shapes start fields kept refl)) shown)

  kept_states : AreStatesOf now (entries_from (state_from trees) read_states.2.found) states.entries
  kept_states = states_kept start now keeps (entries_from (state_from trees) read_states.2.found) states.entries read_states.2.same

  pub stands : several ≡ is_number (pos 2) (get_member (codes "version") found) → ((reading : Reading) → field_complaints reading [] version_row (get_member (codes "version") found) ≡ []) → StandsForCertificate (values.object found) (numbered_view made)
  stands version right =
      let v = values.object found in
      let reading = reading_of several (listed_in found) in
      let its : reading ≡ certificate_reading found = is_its_reading several v found refl version in
      let s = read_states in
      let o = read_output in
      let states_there : get_member (codes "states") found ≡ Some (values.object s.2.found) = s.1 ∙ ap Some s.2.is in
      record {
        whole = rw h.whole refl;
        none_wrong = subst (λ r. listed_complaints r v ≡ []) its (none_wrong reading v found refl h.foreign
            (right reading)
            (list_right several start (listed_in found) (get_member (codes "shapes") found) _ h.listed)
            (ap₂ (λ xs ys. xs ++ ys) o.1 (rw states_there s.2.right)));
        same = rw (states_there, o.2, kept_states.same) refl;
      }

  pub within : AreWithin made
  within = record { output = read_output.0; states = kept_states.below }

-- ---- the whole text

pub whole_read : (text : List ℕ) (s : List Token) (found : Members) → tokens text ≡ Token.begin_object ∷ s → SpellMembers 126 s [] found → read text ≡ Some (values.object found)
whole_read text s found first spelled =
    let all = object_opened 127 (tokens text) s [] found (omega arith) first spelled in
    let j = converted_there of_json (value 127 (tokens text)) (values.object found) [] all in
    ap (λ q. option_and_then of_json (option_and_then (λ p. if_last p.0 p.1) q)) j.1 ∙ j.2
