-- Reading a certificate's fields from tokens, one after another.
use Rattle.std.proofs.Common.{◌≡◌, ℕ, Bool, false, List, [], length, map, Option, Some, None, codes, is_some, option_map, BTreeMap, Vec, Global, String, refl, sym, ap, ◌∙◌, subst}
use Rattle.std.specs.Prelude.{IfSome}
use Rattle.serde_json.specs.Data as values
use Rattle.serde_json.specs.Data.{Data, Members}
use Rattle.serde_json.specs.Find.{get_member}
use Rattle.asl_model.specs.Json.{tree_of}
use Rattle.asl_model.specs.Shape.{Shape}
use Rattle.asl_model.specs.Tree as model
use Rattle.asl_numbered.specs.Expansion.{shape_at, AreBelow, Keeps}
use Rattle.asl_numbered.specs.Laws.{kept_numbers, kept_shapes}
use Rattle.asl_records.specs.Parts.{trees_there}
use Rattle.asl_records.specs.Values.{IsValue}
use Rattle.asl_records.specs.declared.records.StateNumbers.{StateNumbers}
use Rattle.asl_streams.specs.Fielded.{AreFields, AreStates, AreStatesRead, IsList, IsListRead, known, shapes_listed}
use Rattle.asl_streams.specs.Shaped.{IsOutput, IsOutputAt}
use Rattle.asl_streams.specs.declared.outputs.Output.{Output}
use Rattle.asl_streams.proofs.Found.{found_before, found_there, known_put}
use Rattle.asl_streams.proofs.OutputShapes.{output_kept, output_listed, shapes_still}
use Rattle.asl_records.specs.Laws.{states_kept}
use Rattle.asl_streams.specs.declared.fields.Fields.{Fields}
use Rattle.asl_tree.specs.View.{view}
use Rattle.asl_tree.specs.declared.Tree.{Tree}
use Rattle.asl_tree.proofs.Parsed.{put_among}
use Rattle.asl_tree.proofs.Views.{put}

-- ---- what was read, in a table that has grown

list_kept : (several : Bool) (old new : List Shape) → Keeps old new → (o : Option Data) (ns : Option (List ℕ)) → IsList several old o ns → IsList several new o ns
list_kept several old new keeps None None h = tt
list_kept several old new keeps None (Some ns) h = absurd h
list_kept several old new keeps (Some d) None h = absurd h
list_kept several old new keeps (Some d) (Some ns) h = record {
  found = h.found;
  is = h.is;
  right = h.right;
  meant = record { shapes = h.meant.shapes ∙ sym (kept_shapes old new ns keeps h.below); right = h.meant.right };
  below = kept_numbers old new ns keeps h.below;
}

pub none_read : {A : Type 0} (o : Option A) → is_some o ≡ false → o ≡ None
none_read None h = refl
none_read (Some a) h = absurd (cc)

none_stated : (several : Bool) (now : List Shape) (trees : Option (List model.Tree)) (o : Option Data) → AreStates several now trees o None → o ≡ None
none_stated several now trees None h = refl
none_stated several now trees (Some d) h = absurd h

none_listed : (several : Bool) (now : List Shape) (o : Option Data) → IsList several now o None → o ≡ None
none_listed several now None h = refl
none_listed several now (Some d) h = absurd h

pub list_below : (several : Bool) (now : List Shape) (o : Option Data) (ns : Option (List ℕ)) → IsList several now o ns → IfSome ns (AreBelow (length now))
list_below several now None None h = tt
list_below several now None (Some ns) h = absurd h
list_below several now (Some d) None h = absurd h
list_below several now (Some d) (Some ns) h = h.below

states_grown : (several : Bool) (old new : List Shape) → Keeps old new → (trees : Option (List model.Tree)) (o : Option Data) (es : Option (List (String Global × StateNumbers))) → AreStates several old trees o es → AreStates several new trees o es
states_grown several old new keeps trees None None h = tt
states_grown several old new keeps trees None (Some es) h = absurd h
states_grown several old new keeps trees (Some d) None h = absurd h
states_grown several old new keeps trees (Some d) (Some es) h = record { found = h.found; is = h.is; right = h.right; same = states_kept old new keeps _ es h.same }

-- ---- one more field

module _ (several : Bool) (found : Members) (old : Fields) where
  pub version_put : (table : List Shape) (version : Tree) (d : Data) → IsValue (view version) d → AreFields several table found old
      → AreFields several table (values.put (codes "version") d found) (record { version = Some version; listed = old.listed; output = old.output; states = old.states })
  version_put table version d is h =
      let k = codes "version" in
      record {
        version = ap (option_map tree_of) (found_there k d found) ∙ ap Some is;
        output = rw (found_before (codes "output") k d found refl) h.output;
        listed = rw (found_before (codes "shapes") k d found refl) h.listed;
        states = rw (found_before (codes "shapes") k d found refl, found_before (codes "states") k d found refl) h.states;
        trees = put k (view version) h.trees;
        whole = put_among k d (view version) found h.trees is h.whole;
        foreign = known_put [] known k d found refl h.foreign;
      }

  pub output_put : (start now : List Shape) (output : Output) (d : Data) → Keeps start now → IsOutputAt several (shapes_listed start old) now d output → AreFields several start found old
      → AreFields several now (values.put (codes "output") d found) (record { version = old.version; listed = old.listed; output = Some output; states = old.states })
  output_put start now output d keeps read h =
      let k = codes "output" in
      let own = subst (λ g. IsOutputAt several g now d output) (shapes_still start now keeps old (list_below several start _ _ h.listed)) read in
      record {
        version = ap (option_map tree_of) (found_before (codes "version") k d found refl) ∙ h.version;
        output = rw (found_there k d found) own;
        listed = rw (found_before (codes "shapes") k d found refl) (list_kept several start now keeps _ _ h.listed);
        states = rw (found_before (codes "shapes") k d found refl, found_before (codes "states") k d found refl) (states_grown several start now keeps _ _ _ h.states);
        trees = put k read.tree h.trees;
        whole = put_among k d read.tree found h.trees read.value h.whole;
        foreign = known_put [] known k d found refl h.foreign;
      }

  -- ---- the shapes that are listed

  pub shapes_put : (start now : List Shape) (stated : Data) (t : model.Tree) (numbers : Vec ℕ Global) → Keeps start now → old.states ≡ None → old.listed ≡ None → IsValue t stated → IsListRead several now stated numbers.items → AreFields several start found old
      → AreFields several now (values.put (codes "shapes") stated found) (record { version = old.version; listed = Some numbers; output = old.output; states = old.states })
  shapes_put start now stated t numbers keeps unstated unlisted made is h =
      let k = codes "shapes" in
      let none : get_member (codes "states") found ≡ None = none_stated several start _ _ (rw unstated at h.states) in
      let before : IsOutput several None start (get_member (codes "output") found) old.output = rw unlisted at h.output in
      record {
        version = ap (option_map tree_of) (found_before (codes "version") k stated found refl) ∙ h.version;
        output = rw (found_before (codes "output") k stated found refl) (output_listed several (Some (map (shape_at now) numbers.items)) start now keeps (get_member (codes "output") found) old.output before);
        listed = rw (found_there k stated found) is;
        states = rw (unstated, found_before (codes "states") k stated found refl, none) tt;
        trees = put k t h.trees;
        whole = put_among k stated t found h.trees made h.whole;
        foreign = known_put [] known k stated found refl h.foreign;
      }

  -- ---- the states

  pub states_put : (start now : List Shape) (stated : Data) (t : model.Tree) (states : BTreeMap (String Global) StateNumbers) → Keeps start now → IsValue t stated → AreStatesRead several now (trees_there (get_member (codes "shapes") found)) stated states.entries → AreFields several start found old
      → AreFields several now (values.put (codes "states") stated found) (record { version = old.version; listed = old.listed; output = old.output; states = Some states })
  states_put start now stated t states keeps made are h =
      let k = codes "states" in
      record {
        version = ap (option_map tree_of) (found_before (codes "version") k stated found refl) ∙ h.version;
        output = rw (found_before (codes "output") k stated found refl) (output_kept several start now keeps old (get_member (codes "output") found) (list_below several start _ _ h.listed) h.output);
        listed = rw (found_before (codes "shapes") k stated found refl) (list_kept several start now keeps _ _ h.listed);
        states = rw (found_before (codes "shapes") k stated found refl, found_there k stated found) are;
        trees = put k t h.trees;
        whole = put_among k stated t found h.trees made h.whole;
        foreign = known_put [] known k stated found refl h.foreign;
      }
