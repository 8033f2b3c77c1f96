-- An array and an object are what stands behind their bracket.
use Rattle.std.proofs.Common.{◌≡◌, ◌-◌, ◌<◌, ℕ, List, ◌∷◌, length, Option, Some, None, option_map, refl, ap, ◌∙◌}
use Rattle.json.specs.Json as json
use Rattle.json.specs.Json.{items, members, value, parse_map}
use Rattle.json.specs.Token.{Token}
use Rattle.json.proofs.Grammar.{value-begin_array, value-begin_object}
use Rattle.serde_json.specs.Data as values
use Rattle.serde_json.specs.Data.{Data, Items, Members}
use Rattle.serde_json.specs.Read.{converted, of_items, of_json, of_members}
use Rattle.asl_model.specs.Tree as model
use Rattle.asl_records.specs.Values.{AreItems, AreMembers, IsValue}
use Rattle.asl_streams.specs.Streamed.{SpellItems, SpellMembers}

turned : {A B : Type 0} (g : A → B) (r : List Token) (o : Option A) → option_map (λ b. (b, r)) (option_map g o) ≡ parse_map g (option_map (λ a. (a, r)) o)
turned g r None = refl
turned g r (Some a) = refl

array_of : (o : Option (json.Items × List Token)) → converted of_json (parse_map json.array o) ≡ parse_map values.array (converted of_items o)
array_of None = refl
array_of (Some p) = turned values.array p.1 (of_items p.0)

object_of : (o : Option (json.Members × List Token)) → converted of_json (parse_map json.object o) ≡ parse_map values.object (converted (λ ms. of_members ms values.no_members) o)
object_of None = refl
object_of (Some p) = turned values.object p.1 (of_members p.0 values.no_members)

pub array_opened : (levels : ℕ) (before ts r : List Token) (found : Items) → 0 < levels → before ≡ Token.begin_array ∷ ts → SpellItems (levels - 1) ts r found → converted of_json (value levels before) ≡ Some (values.array found, r)
array_opened levels before ts r found some first e =
    ap (λ all. converted of_json (value levels all)) first ∙ ap (converted of_json) (value-begin_array levels ts some) ∙ array_of (items (value (levels - 1)) (length ts) ts) ∙ ap (parse_map values.array) e

pub object_opened : (levels : ℕ) (before ts r : List Token) (found : Members) → 0 < levels → before ≡ Token.begin_object ∷ ts → SpellMembers (levels - 1) ts r found → converted of_json (value levels before) ≡ Some (values.object found, r)
object_opened levels before ts r found some first e =
    ap (λ all. converted of_json (value levels all)) first ∙ ap (converted of_json) (value-begin_object levels ts some) ∙ object_of (members (value (levels - 1)) (length ts) ts) ∙ ap (parse_map values.object) e

-- ---- they are the trees that what is in them makes

pub array_tree : (found : Items) (ts : model.Trees) → AreItems ts found → IsValue (model.Array ts) (values.array found)
array_tree found ts are = ap (option_map model.Array) are

pub object_tree : (found : Members) (fs : model.Fields) → AreMembers fs found → IsValue (model.Object fs) (values.object found)
object_tree found fs are = ap (option_map model.Object) are
