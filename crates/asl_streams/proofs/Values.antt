-- What tokens spell as a tree they spell as a JSON value that is it, and what is said of such a value.
use Rattle.std.proofs.Common.{◌≡◌, List, Option, Some, None, Bor, option_map, refl, sym, ap, ◌∙◌, subst}
use Rattle.std.proofs.lemmas.Option.{option_and_then_some}
use Rattle.std.specs.Option.{option_copied}
use Rattle.json.specs.Json as json
use Rattle.json.specs.Token.{Token}
use Rattle.serde_json.specs.Data.{Data}
use Rattle.serde_json.specs.Read.{converted, of_json}
use Rattle.asl_model.specs.Json.{tree_of}
use Rattle.asl_model.specs.Records.{Reading, plain_tree, shape_from, shape_misfits, tree_misfits}
use Rattle.asl_model.specs.References.{spelled_out}
use Rattle.asl_model.specs.Tree.{Tree}
use Rattle.asl_records.specs.Parts.{tree_shape}
use Rattle.asl_records.specs.Values.{Gives, IsValue}
use Rattle.asl_shape.specs.Spelled.{tree_there}
use Rattle.asl_tree.specs.Parsed.{spelled}
use Rattle.asl_tree.specs.View.{view}
use Rattle.asl_tree.specs.declared.Tree as code
use Rattle.asl_tree.proofs.Parsed.{converted_there}

-- the tokens spell this value, which is the tree
pub record SpellsValue (o : Option (json.Json × List Token)) (t : Tree) (r : List Token) : Type 0 where
  pub value : Data
  pub read : converted of_json o ≡ Some (value, r)
  pub is : IsValue t value

pub value_spelled : (o : Option (json.Json × List Token)) (t : Tree) (r : List Token) → converted spelled o ≡ Some (t, r) → SpellsValue o t r
value_spelled o t r e =
    let j = converted_there spelled o t r e in
    option_and_then_some tree_of (of_json j.0) t j.2 (λ d found is. record { value = d; read = ap (converted of_json) j.1 ∙ ap (option_map (λ b. (b, r))) found; is = is })

-- a tree that is lent is the one that is kept
pub lent_tree : (kept : Option code.Tree) (lent : Option (Bor code.Tree)) → option_copied lent ≡ kept → tree_there lent ≡ option_map view kept
lent_tree None None e = refl
lent_tree None (Some x) e = absurd (cc)
lent_tree (Some t) None e = absurd (cc)
lent_tree (Some t) (Some x) e = let same : x.now ≡ t = cc in ap (λ u. Some (view u)) same

-- what holds of the one that each of them gives
pub given_by : {X A : Type 0} (Is : X → Type 0) (f : X → A) (P : A → Type 0) (x : X) → Gives Is f P → Is x → P (f x)
given_by Is f P x h is = subst P (sym (h.same x is)) h.holds

-- ---- as a shape

pub same_shape : (listed : Option (List Tree)) (d : Data) (t : Tree) → IsValue t d → shape_from listed d ≡ tree_shape listed t
same_shape listed d t is = rw is refl

pub same_misfits : (reading : Reading) (d : Data) (t : Tree) → IsValue t d → shape_misfits reading d ≡ tree_misfits reading t
same_misfits reading d t is = rw is refl

pub same_plain : (listed : List Tree) (d : Data) (t : Tree) → IsValue t d → plain_tree listed d ≡ spelled_out listed t
same_plain listed d t is = rw is refl
