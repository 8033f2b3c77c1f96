-- What holds of the one value of a tree holds of each value that is the tree, and what stands in its fields.
use Rattle.std.proofs.Common.{◌≡◌, ℕ, List, if◌then◌else◌, Option, Some, None, option_map, String, Global, Bor, bytes_eq, Ordering, Less, Equal, Greater, nat_cmp, refl, sym, ap, ◌∙◌, subst}
use Rattle.std.specs.Cmp.Lexicographic.{slice_cmp}
use Rattle.std.specs.Ordering.{is_eq, match_ordering}
use Rattle.serde_json.specs.Data.{Data}
use Rattle.serde_json.specs.Find.{get_member}
use Rattle.asl_model.specs.Tree.{Tree, Fields, NoFields, AndField, field_named}
use Rattle.asl_tree.specs.View.{entries_view}
use Rattle.asl_tree.specs.declared.Tree.{Tree as CodeTree}
use Rattle.asl_shape.specs.Spelled.{member_named, tree_there}
use Rattle.asl_shape.proofs.Lookups.{same_name}
use Rattle.asl_records.specs.Values.{For, Gives, IsPart, IsValue, as_members, as_value, value_in, value_there}
use Rattle.asl_records.proofs.Signed.{signed, signed_value, tree_of-value}

-- ---- each value that is the tree

-- of one that is a property hangs on the tree where it doesn't tell a value from its signed one
pub for_value : (P : Data → Type 0) (same : (v : Data) → P (signed v) → P v) (t : Tree) → P (as_value t) → For (IsValue t) P
for_value P same t h = record { each = λ v is. same v (subst P (sym (signed_value v t is)) h) }

pub gives_value : {A : Type 0} (f : Data → A) (same : (v : Data) → f (signed v) ≡ f v) (P : A → Type 0) (t : Tree) → P (f (as_value t)) → Gives (IsValue t) f P
gives_value f same P t h = record { one = f (as_value t); same = λ v is. sym (same v) ∙ ap f (signed_value v t is); holds = h }

-- a part that is there, and one that isn't
pub some_part : (t : Tree) (part : Option Data) → IsPart (Some t) part → (v : Data) × (part ≡ Some v) × IsValue t v
some_part t None e = absurd (cc)
some_part t (Some v) e = let is : IsValue t v = cc in (v, refl, is)

no_part : (part : Option Data) → IsPart None part → part ≡ None
no_part None e = refl
no_part (Some v) e = absurd (cc)

pub for_part : (P : Option Data → Type 0) (same : (v : Data) → P (Some (signed v)) → P (Some v)) (t : Tree) (o : Option Tree) → Some t ≡ o → P (Some (as_value t)) → For (IsPart o) P
for_part P same t o stands h =
    subst (λ o. For (IsPart o) P) stands
    (record { each = λ part is. let some = some_part t part is in subst P (sym some.1) ((for_value (λ v. P (Some v)) same t h).each some.0 some.2) })

pub for_none : (P : Option Data → Type 0) (o : Option Tree) → None ≡ o → P None → For (IsPart o) P
for_none P o stands h = subst (λ o. For (IsPart o) P) stands (record { each = λ part is. subst P (sym (no_part part is)) h })

-- ---- fields

-- the value of what stands there is one
pub is_part : (o : Option (Bor CodeTree)) → IsPart (tree_there o) (value_there o)
is_part None = refl
is_part (Some t) = ap Some (tree_of-value _)

field_value : (n : List ℕ) (fs : Fields) → get_member n (as_members fs) ≡ option_map as_value (field_named n fs)
field_value n NoFields = refl
field_value n (AndField m t fs) = rw (field_value n fs) (by (slice_cmp nat_cmp n m) (same_name n m))
  where
    by : (o : Ordering) → bytes_eq m n ≡ is_eq o → match_ordering o (option_map as_value (field_named n fs)) (Some (as_value t)) (option_map as_value (field_named n fs)) ≡ option_map as_value (if bytes_eq m n then Some t else field_named n fs)
    by Less same = rw same refl
    by Equal same = rw same refl
    by Greater same = rw same refl

there : (o : Option (Bor CodeTree)) → value_there o ≡ option_map as_value (tree_there o)
there None = refl
there (Some t) = refl

-- what a look-up finds
pub value_found : (n : List ℕ) (es : List (String Global × CodeTree)) (o : Option (Bor CodeTree)) → tree_there o ≡ member_named n es → value_there o ≡ value_in n es
value_found n es o found = there o ∙ ap (option_map as_value) found ∙ sym (field_value n (entries_view es))
