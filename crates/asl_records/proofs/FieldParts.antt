-- The fields of a record and of its entries, by the trees that stand in them.
use Rattle.std.proofs.Common.{◌≡◌, ℕ, ℤ, List, [], ◌∷◌, ◌++◌, Bool, true, false, map, Option, Some, None, option_map, String, Vec, BTreeMap, Global, string_bytes, ◌⊎◌, inl, inr, refl, sym, ap, ◌∙◌, subst, rules}
use Rattle.serde_json.specs.Data.{Data}
use Rattle.serde_json.specs.Find.{as_array, as_number, as_object}
use Rattle.asl_model.specs.Records.{Reading, RecordComplaint, RecordRow, EntriesValue, UnknownField, declared_reading, entries_complaints, misfits, shape_from}
use Rattle.asl_model.specs.ShapeSpelling.{is_among}
use Rattle.asl_model.specs.Tree as model
use Rattle.asl_tree.specs.View.{view}
use Rattle.asl_tree.specs.declared.Tree.{Tree, the_lemmas}
use Rattle.asl_tree.specs.declared.Tree as tree
use Rattle.asl_records.specs.Parts.{TellsOneOf, complaint_of, entries_row, field_complaints, foreign_complaints, members_there, shape_row, shape_there, tree_complaints, tree_shape}
use Rattle.asl_records.specs.Values.{as_members, as_value}
use Rattle.asl_records.specs.declared.refusals.ReadFault.{ReadFault}
use Rattle.asl_records.proofs.Entries.{Stated, members}
use Rattle.asl_records.proofs.Signed.{tree_of-value}
use Rattle.asl_records.proofs.Telling.{told_left, told_same}

-- ---- kinds

-- the tree is of a kind other than objects
abbrev pub IsNoObject : Tree → Type 0
IsNoObject t = (t ≡ tree.Null) ⊎ (((b : Bool) × (t ≡ tree.Bool b)) ⊎ (((n : ℤ) × (t ≡ tree.Int n)) ⊎ (((s : String Global) × (t ≡ tree.Text s)) ⊎ ((ts : Vec Tree Global) × (t ≡ tree.List ts)))))

-- and then its value is no object
pub no_object : (t : Tree) → IsNoObject t → as_object (as_value (view t)) ≡ None
no_object t (inl e) = rw e (search (rules, the_lemmas))
no_object t (inr (inl (b, e))) = rw e (search (rules, the_lemmas))
no_object t (inr (inr (inl (n, e)))) = rw e (search (rules, the_lemmas))
no_object t (inr (inr (inr (inl (s, e))))) = rw e (search (rules, the_lemmas))
no_object t (inr (inr (inr (inr (ts, e))))) = rw e (search (rules, the_lemmas))

-- the tree is of a kind other than lists
abbrev pub IsNoList : Tree → Type 0
IsNoList t = (t ≡ tree.Null) ⊎ (((b : Bool) × (t ≡ tree.Bool b)) ⊎ (((n : ℤ) × (t ≡ tree.Int n)) ⊎ (((s : String Global) × (t ≡ tree.Text s)) ⊎ ((es : BTreeMap (String Global) Tree) × (t ≡ tree.Object es)))))

-- and then its value is no array
pub no_array : (t : Tree) → IsNoList t → as_array (as_value (view t)) ≡ None
no_array t (inl e) = rw e (search (rules, the_lemmas))
no_array t (inr (inl (b, e))) = rw e (search (rules, the_lemmas))
no_array t (inr (inr (inl (n, e)))) = rw e (search (rules, the_lemmas))
no_array t (inr (inr (inr (inl (s, e))))) = rw e (search (rules, the_lemmas))
no_array t (inr (inr (inr (inr (es, e))))) = rw e (search (rules, the_lemmas))

-- the tree is of a kind other than integers
abbrev pub IsNoInteger : Tree → Type 0
IsNoInteger t = (t ≡ tree.Null) ⊎ (((b : Bool) × (t ≡ tree.Bool b)) ⊎ (((s : String Global) × (t ≡ tree.Text s)) ⊎ (((ts : Vec Tree Global) × (t ≡ tree.List ts)) ⊎ ((es : BTreeMap (String Global) Tree) × (t ≡ tree.Object es)))))

-- and then its value is no number
pub no_number : (t : Tree) → IsNoInteger t → as_number (as_value (view t)) ≡ None
no_number t (inl e) = rw e (search (rules, the_lemmas))
no_number t (inr (inl (b, e))) = rw e (search (rules, the_lemmas))
no_number t (inr (inr (inl (s, e)))) = rw e (search (rules, the_lemmas))
no_number t (inr (inr (inr (inl (ts, e))))) = rw e (search (rules, the_lemmas))
no_number t (inr (inr (inr (inr (es, e))))) = rw e (search (rules, the_lemmas))

-- ---- fields that aren't known

-- one that is known is passed over
pub known_on : (name : List ℕ) (known : List (List ℕ)) (all left rest : List Stated) (e : Stated) → foreign_complaints name known (members all) ≡ foreign_complaints name known (members left) → left ≡ e ∷ rest → is_among (string_bytes e.0) known ≡ true → foreign_complaints name known (members all) ≡ foreign_complaints name known (members rest)
known_on name known all left rest e same split among = same ∙ ap (λ ms. foreign_complaints name known (members ms)) split ∙ (rw among refl)

-- one that isn't is told as the first of those left
pub foreign_told : (name : List ℕ) (known : List (List ℕ)) (all left rest : List Stated) (e : Stated) (m : List ℕ) (f : ReadFault) → foreign_complaints name known (members all) ≡ foreign_complaints name known (members left) → left ≡ e ∷ rest → is_among (string_bytes e.0) known ≡ false → m ≡ string_bytes e.0
    → TellsOneOf (complaint_of name m UnknownField ∷ []) f → TellsOneOf (foreign_complaints name known (members all)) f
foreign_told name known all left rest e m f same split none at told =
    let first : foreign_complaints name known (members all) ≡ complaint_of name (string_bytes e.0) UnknownField ∷ foreign_complaints name known (members rest) = same ∙ ap (λ ms. foreign_complaints name known (members ms)) split ∙ (rw none refl) in
    told_same f _ _ (told_left f (complaint_of name (string_bytes e.0) UnknownField ∷ []) (foreign_complaints name known (members rest)) (subst (λ n. TellsOneOf (complaint_of name n UnknownField ∷ []) f) at told)) (sym first)

-- ---- a shape in a field

pub complaints_there : (reading : Reading) (name field : List ℕ) (required : Bool) (t : model.Tree) (part : Option Data) → Some (as_value t) ≡ part → field_complaints reading name (shape_row field required) part ≡ tree_complaints reading name field t
complaints_there reading name field required t part stands = rw (sym stands, tree_of-value t) refl

pub shape_is : (listed : Option (List model.Tree)) (t : model.Tree) (part : Option Data) → Some (as_value t) ≡ part → shape_there listed part ≡ tree_shape listed t
shape_is listed t part stands = rw (sym stands, tree_of-value t) refl

pub item_is : (listed : Option (List model.Tree)) (t : model.Tree) (part : Option Data) → Some (as_value t) ≡ part → option_map (shape_from listed) part ≡ Some (tree_shape listed t)
item_is listed t part stands = rw (sym stands, tree_of-value t) refl

-- ---- entries in a field

module _ (reading : Reading) (field : List ℕ) (required : Bool) (rows : List RecordRow) where
  -- with the field, and with each entry
  abbrev of_entries : Option Data → List RecordComplaint
  of_entries part = field_complaints reading [] (entries_row field required) part ++ entries_complaints reading rows (members_there part)

  pub entries_there : (t : model.Tree) (fs : model.Fields) (part : Option Data) → Some (as_value t) ≡ part → t ≡ model.Object fs → of_entries part ≡ entries_complaints reading rows (as_members fs)
  entries_there t fs part stands shown = rw (sym stands, shown) refl

  -- where it is no object
  pub kind_told : (v : Data) (part : Option Data) (fault : ReadFault) → Some v ≡ part → TellsOneOf (map (complaint_of [] field) (misfits declared_reading EntriesValue v)) fault → TellsOneOf (of_entries part) fault
  kind_told v part fault stands told = subst (λ p. TellsOneOf (of_entries p) fault) stands (told_left fault (map (complaint_of [] field) (misfits declared_reading EntriesValue v)) (entries_complaints reading rows (members_there (Some v))) told)

-- what stands there
pub members_are : (t : model.Tree) (fs : model.Fields) (part : Option Data) → Some (as_value t) ≡ part → t ≡ model.Object fs → members_there part ≡ as_members fs
members_are t fs part stands shown = rw (sym stands, shown) refl
