-- Values with which one thing is wrong at most.
use Rattle.std.proofs.Common.{◌≡◌, ◌≢◌, ℕ, List, [], ◌∷◌, Bool, true, false, is_some, Option, Some, None, refl, arith, if◌then◌else◌}
use Rattle.serde_json.specs.Data.{Data, Items}
use Rattle.serde_json.specs.Data as json
use Rattle.serde_json.specs.Find.{as_str, as_null}
use Rattle.asl_model.specs.DefinitionTable as model
use Rattle.asl_model.specs.Json.{tree_of}
use Rattle.asl_model.specs.Tree.{Tree}
use Rattle.asl_fields.specs.declared.field_telling.Element.{Element}
use Rattle.asl_fields.specs.declared.field_telling.Element.TheVariants as element
use Rattle.asl_fields.specs.declared.rows.Wanted.{Wanted}
use Rattle.asl_fields.specs.declared.rows.Wanted.TheVariants as wanted
use Rattle.asl_fields.specs.Reading.{misfits_unread}
use Rattle.asl_fields.specs.Rows.{wanted_view}
use Rattle.asl_fields.specs.Telling.{IsSingle, element_misfits}

pub none : {A : Type 0} → IsSingle {A = A} []
none = record { holds = omega arith }

pub one : {A : Type 0} (x : A) → IsSingle (x ∷ [])
one x = record { holds = omega arith }

-- ---- values

fault_unless : (right : Bool) (fault : model.DefFault) → IsSingle (model.unless right fault)
fault_unless true fault = none
fault_unless false fault = one fault

of_language : (v : Data) (o : Option (List ℕ)) → IsSingle (model.language_misfits v o)
of_language v None = one (model.wrong_kind v)
of_language v (Some s) = fault_unless _ model.LeftOut

of_path : (v : Data) (o : Option (List ℕ)) → IsSingle (model.path_misfits v o)
of_path v None = one (model.wrong_kind v)
of_path v (Some s) = fault_unless _ model.BadPath

by_null : (b : Bool) (v : Data) → IsSingle (if b then [] else model.path_misfits v (as_str v))
by_null true v = none
by_null false v = of_path v (as_str v)

of_template : (item : Bool) (o : Option Tree) → IsSingle (model.template_misfits item o)
of_template item None = one model.NotWhole
of_template item (Some t) = fault_unless _ model.BadTemplate

of_rule : (o : Option Tree) → IsSingle (model.rule_misfits o)
of_rule None = one model.NotWhole
of_rule (Some t) = fault_unless _ model.BadRule

by_tree : (b : Bool) (v : Data) → IsSingle (if b then model.object_misfits v else model.NotWhole ∷ [])
by_tree true v = fault_unless _ (model.wrong_kind v)
by_tree false v = one model.NotWhole

pub single_some : (vs : Items) → IsSingle (model.some_elements vs)
single_some json.no_items = one model.EmptyList
single_some (json.item v vs) = none

list_of : (f : Items → List model.DefFault) → ((vs : Items) → IsSingle (f vs)) → (v : Data) → IsSingle (model.list_misfits f v)
list_of f each json.null = one _
list_of f each (json.boolean b) = one _
list_of f each (json.number n) = one _
list_of f each (json.string s) = one _
list_of f each (json.array vs) = each vs
list_of f each (json.object ms) = one _

-- of a value there is one thing to tell at most, but for those of the elements of a list
pub single_misfit : (w : Wanted) (v : Data) → w ≢ wanted.Names → w ≢ wanted.Rules → IsSingle (model.misfits (wanted_view w) v)
single_misfit wanted.Text v names rules = fault_unless _ _
single_misfit wanted.Positive v names rules = fault_unless _ _
single_misfit wanted.Count v names rules = fault_unless _ _
single_misfit wanted.Number v names rules = fault_unless _ _
single_misfit wanted.Truth v names rules = fault_unless _ _
single_misfit wanted.Language v names rules = of_language v (as_str v)
single_misfit wanted.Path v names rules = of_path v (as_str v)
single_misfit wanted.PathOrNull v names rules = by_null (is_some (as_null v)) v
single_misfit wanted.Template v names rules = of_template false (tree_of v)
single_misfit wanted.ItemTemplate v names rules = of_template true (tree_of v)
single_misfit wanted.Any v names rules = fault_unless _ _
single_misfit wanted.Config v names rules = by_tree (is_some (tree_of v)) v
single_misfit wanted.States v names rules = fault_unless _ _
single_misfit wanted.Scope v names rules = fault_unless _ _
single_misfit wanted.Scopes v names rules = list_of model.some_elements single_some v
single_misfit wanted.Rules v names rules = absurd (rules refl)
single_misfit wanted.Names v names rules = absurd (names refl)
single_misfit wanted.Retriers v names rules = list_of model.any_elements (λ vs. none) v
single_misfit wanted.Catchers v names rules = list_of model.any_elements (λ vs. none) v

pub single_element : (e : Element) (v : Data) → IsSingle (element_misfits e v)
single_element element.Text v = fault_unless _ _
single_element element.Rule v = of_rule (tree_of v)

-- a value that isn't read where it is wanted is checked
pub unread : (w : Wanted) (v : Data) → w ≢ wanted.Path → w ≢ wanted.PathOrNull → w ≢ wanted.Template → w ≢ wanted.ItemTemplate → w ≢ wanted.Rules → misfits_unread (wanted_view w) v ≡ model.misfits (wanted_view w) v
unread wanted.Text v p n t i r = refl
unread wanted.Positive v p n t i r = refl
unread wanted.Count v p n t i r = refl
unread wanted.Number v p n t i r = refl
unread wanted.Truth v p n t i r = refl
unread wanted.Language v p n t i r = refl
unread wanted.Path v p n t i r = absurd (p refl)
unread wanted.PathOrNull v p n t i r = absurd (n refl)
unread wanted.Template v p n t i r = absurd (t refl)
unread wanted.ItemTemplate v p n t i r = absurd (i refl)
unread wanted.Any v p n t i r = refl
unread wanted.Config v p n t i r = refl
unread wanted.States v p n t i r = refl
unread wanted.Scope v p n t i r = refl
unread wanted.Scopes v p n t i r = refl
unread wanted.Rules v p n t i r = absurd (r refl)
unread wanted.Names v p n t i r = refl
unread wanted.Retriers v p n t i r = refl
unread wanted.Catchers v p n t i r = refl
