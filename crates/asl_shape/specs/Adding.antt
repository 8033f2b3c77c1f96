-- Adding a field to an object that is written.
use Rattle.std.specs.Prelude.{ℕ, List, [], ◌∷◌, Bool, true, false, if◌then◌else◌}
use Rattle.std.specs.Cmp.Lexicographic.{slice_cmp}
use Rattle.std.specs.Ordering.{nat_cmp, match_ordering}
use Rattle.asl_model.specs.Tree.{Tree, Fields, NoFields, AndField}

-- the fields in byte order with that one, in place of one of that name
abbrev pub with_field : List ℕ → Tree → Fields → Fields
with_field n t NoFields = AndField n t NoFields
with_field n t (AndField m u fs) = match_ordering (slice_cmp nat_cmp n m) (AndField n t (AndField m u fs)) (AndField m t fs) (AndField m u (with_field n t fs))

-- with that one, where the test holds
abbrev pub with_field_if : Bool → List ℕ → Tree → Fields → Fields
with_field_if wanted n t fs = if wanted then with_field n t fs else fs

-- there is an element
abbrev pub some_listed : {A : Type 0} → List A → Bool
some_listed [] = false
some_listed (x ∷ xs) = true
