-- What is read of the output's shape, as the table grows and shapes are listed, and its number at the end.
use Rattle.std.proofs.Common.{◌≡◌, ◌<◌, ℕ, Bool, true, List, [], length, map, Option, Some, None, Bor, Vec, Global, option_map, codes, refl, sym, ap, ◌∙◌, subst}
use Rattle.std.specs.Prelude.{IfSome}
use Rattle.serde_json.specs.Data.{Data}
use Rattle.asl_model.specs.Records.{Reading}
use Rattle.asl_model.specs.Shape.{Shape}
use Rattle.asl_model.specs.Tree.{Tree}
use Rattle.asl_numbered.specs.Expansion.{shape_at, AreBelow, Keeps}
use Rattle.asl_numbered.specs.Laws.{kept_shapes}
use Rattle.asl_numbered.specs.Reading.{IsRead}
use Rattle.asl_numbered.specs.References.{numbers_given}
use Rattle.asl_records.specs.Listed.{IsReading}
use Rattle.asl_records.specs.Parts.{complaint_of, field_complaints, shape_row, shape_there}
use Rattle.asl_records.specs.Values.{IsValue}
use Rattle.asl_records.proofs.Meant.{IsLent, kept_items}
use Rattle.asl_streams.specs.Fielded.{shapes_listed}
use Rattle.asl_streams.specs.Shaped.{IsOutput, IsOutputAt, IsOutputOf, SpellsNumber}
use Rattle.asl_streams.specs.declared.fields.Fields.{Fields}
use Rattle.asl_streams.specs.declared.outputs.Output.{Output}
use Rattle.asl_streams.specs.declared.outputs.Output.TheVariants.{Number, Spelled}
use Rattle.asl_streams.proofs.SpelledShapes.{shape_grown}
use Rattle.asl_streams.proofs.StateParts.{number_right, number_shape}
use Rattle.asl_streams.proofs.Unlisted.{spells_listed}

-- ---- numbers that are lent

pub lent_numbers : (kept : Option (Vec ℕ Global)) (lent : Option (Bor (List ℕ))) → IsLent kept lent → numbers_given lent ≡ kept_items kept
lent_numbers None None h = refl
lent_numbers None (Some ns) h = absurd (cc)
lent_numbers (Some v) None h = absurd h
lent_numbers (Some v) (Some ns) h = ap Some h.0

-- the shapes that are listed are those of the numbers
pub listed_shapes : (now : List Shape) (fields : Fields) (numbers : Option (List ℕ)) → numbers ≡ option_map (λ ns. ns.items) fields.listed → option_map (map (shape_at now)) numbers ≡ shapes_listed now fields
listed_shapes now fields numbers is = ap (option_map (map (shape_at now))) is ∙ by fields.listed
  where
    by : (listed : Option (Vec ℕ Global)) → option_map (map (shape_at now)) (option_map (λ ns. ns.items) listed) ≡ option_map (λ ns. map (shape_at now) ns.items) listed
    by None = refl
    by (Some ns) = refl

-- in a table that has grown they are the same
pub shapes_still : (old new : List Shape) → Keeps old new → (fields : Fields) → IfSome (option_map (λ ns. ns.items) fields.listed) (AreBelow (length old)) → shapes_listed old fields ≡ shapes_listed new fields
shapes_still old new keeps fields below = by fields.listed below
  where
    by : (listed : Option (Vec ℕ Global)) → IfSome (option_map (λ ns. ns.items) listed) (AreBelow (length old)) → option_map (λ ns. map (shape_at old) ns.items) listed ≡ option_map (λ ns. map (shape_at new) ns.items) listed
    by None below = refl
    by (Some ns) below = ap Some (sym (kept_shapes old new ns.items keeps below))

-- ---- the output

of_grown : (several : Bool) (given : Option (List Shape)) (old new : List Shape) → Keeps old new → (t : Tree) (output : Output) → IsOutputOf several given old t output → IsOutputOf several given new t output
of_grown several given old new keeps t (Number n) h = shape_grown several given t old new n keeps h
of_grown several given old new keeps t (Spelled kept) h = h

of_unlisted : (several : Bool) (given : Option (List Shape)) (now : List Shape) (t : Tree) (output : Output) → IsOutputOf several None now t output → IsOutputOf several given now t output
of_unlisted several given now t (Number n) h = record { within = h.within; spelled = spells_listed several given h.spelled }
of_unlisted several given now t (Spelled kept) h = h

-- in a table that has grown
pub output_kept : (several : Bool) (old new : List Shape) → Keeps old new → (fields : Fields) (o : Option Data) → IfSome (option_map (λ ns. ns.items) fields.listed) (AreBelow (length old)) → IsOutput several (shapes_listed old fields) old o fields.output → IsOutput several (shapes_listed new fields) new o fields.output
output_kept several old new keeps fields o below h = subst (λ g. IsOutput several g new o fields.output) (shapes_still old new keeps fields below) (by o fields.output h)
  where
    by : (stated : Option Data) (output : Option Output) → IsOutput several (shapes_listed old fields) old stated output → IsOutput several (shapes_listed old fields) new stated output
    by None None is = tt
    by None (Some output) is = absurd is
    by (Some d) None is = absurd is
    by (Some d) (Some output) is = record { tree = is.tree; value = is.value; is = of_grown several (shapes_listed old fields) old new keeps is.tree output is.is }

-- where shapes come to be listed
pub output_listed : (several : Bool) (given : Option (List Shape)) (old new : List Shape) → Keeps old new → (o : Option Data) (output : Option Output) → IsOutput several None old o output → IsOutput several given new o output
output_listed several given old new keeps None None h = tt
output_listed several given old new keeps None (Some output) h = absurd h
output_listed several given old new keeps (Some d) None h = absurd h
output_listed several given old new keeps (Some d) (Some output) h = record { tree = h.tree; value = h.value; is = of_grown several given old new keeps h.tree output (of_unlisted several given old h.tree output h.is) }

-- ---- its number

-- the value that stands there, and what it is read as
pub stated_output : (several : Bool) (given : Option (List Shape)) (now : List Shape) (o : Option Data) (output : Output) → IsOutput several given now o (Some output) → (d : Data) × (o ≡ Some d) × IsOutputAt several given now d output
stated_output several given now None output h = absurd h
stated_output several given now (Some d) output h = (d, refl, h)

pub number_stands : (several : Bool) (start now : List Shape) (numbers : Option (List ℕ)) (reading : Reading) (o : Option Data) (d : Data) (t : Tree) (n : ℕ) → IsReading several start numbers reading → o ≡ Some d → IsValue t d → IsRead several (option_map (map (shape_at start)) numbers) t now n
    → (n < length now) × (field_complaints reading [] (shape_row (codes "output") true) o ≡ []) × (shape_at now n ≡ shape_there reading.listed o)
number_stands several start now numbers reading o d t n means there is read =
    let spelled : SpellsNumber several (option_map (map (shape_at start)) numbers) now d n = record { tree = t; is = is; read = read } in
    rw there (read.within, ap (map (complaint_of [] (codes "output"))) (number_right several start now numbers reading means d n spelled), number_shape several start now numbers reading means d n spelled)
