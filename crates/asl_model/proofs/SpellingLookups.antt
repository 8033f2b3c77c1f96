-- What stands under a name in the spelling of a shape is what the look-up of that name gives.
use Rattle.std.proofs.Common.{◌≡◌, ℕ, List, [], Bool, true, false, Option, Some, if◌then◌else◌, option_map, unwrap_or, bytes_eq, refl}
use Rattle.asl_model.specs.Tree.{Tree, Fields, NoFields, AndField, field_named}
use Rattle.asl_model.specs.Shape.{Any, NoShapes, NoFieldShapes}
use Rattle.asl_model.specs.ShapeSpelling.{shape_of, shape_under, shapes_of, shapes_under, properties_of, properties_under, shape_faults, shape_faults_under, shapes_faults, shapes_faults_under, properties_faults, properties_faults_under}

-- the step of each: the first field of that name, or what stands under the name in the others
step : {A : Type 0} (f : Tree → A) (d : A) (t : Tree) (further : Option Tree) (rest : A) (here : Bool) → rest ≡ unwrap_or (option_map f further) d → (elim here [ true ↦ f t | false ↦ rest ]) ≡ unwrap_or (option_map f (if here then Some t else further)) d
step f d t further rest true e = refl
step f d t further rest false e = e

pub shape_under-field_named : (n : List ℕ) (fs : Fields) → shape_under n fs ≡ unwrap_or (option_map shape_of (field_named n fs)) Any
shape_under-field_named n NoFields = refl
shape_under-field_named n (AndField m t fs) = step shape_of Any t (field_named n fs) (shape_under n fs) (bytes_eq m n) (shape_under-field_named n fs)

pub shapes_under-field_named : (n : List ℕ) (fs : Fields) → shapes_under n fs ≡ unwrap_or (option_map shapes_of (field_named n fs)) NoShapes
shapes_under-field_named n NoFields = refl
shapes_under-field_named n (AndField m t fs) = step shapes_of NoShapes t (field_named n fs) (shapes_under n fs) (bytes_eq m n) (shapes_under-field_named n fs)

pub properties_under-field_named : (n : List ℕ) (fs : Fields) → properties_under n fs ≡ unwrap_or (option_map properties_of (field_named n fs)) NoFieldShapes
properties_under-field_named n NoFields = refl
properties_under-field_named n (AndField m t fs) = step properties_of NoFieldShapes t (field_named n fs) (properties_under n fs) (bytes_eq m n) (properties_under-field_named n fs)

pub shape_faults_under-field_named : (several : Bool) (n : List ℕ) (fs : Fields) → shape_faults_under several n fs ≡ unwrap_or (option_map (shape_faults several) (field_named n fs)) []
shape_faults_under-field_named several n NoFields = refl
shape_faults_under-field_named several n (AndField m t fs) = step (shape_faults several) [] t (field_named n fs) (shape_faults_under several n fs) (bytes_eq m n) (shape_faults_under-field_named several n fs)

pub shapes_faults_under-field_named : (several : Bool) (n : List ℕ) (fs : Fields) → shapes_faults_under several n fs ≡ unwrap_or (option_map (shapes_faults several) (field_named n fs)) []
shapes_faults_under-field_named several n NoFields = refl
shapes_faults_under-field_named several n (AndField m t fs) = step (shapes_faults several) [] t (field_named n fs) (shapes_faults_under several n fs) (bytes_eq m n) (shapes_faults_under-field_named several n fs)

pub properties_faults_under-field_named : (several : Bool) (n : List ℕ) (fs : Fields) → properties_faults_under several n fs ≡ unwrap_or (option_map (properties_faults several) (field_named n fs)) []
properties_faults_under-field_named several n NoFields = refl
properties_faults_under-field_named several n (AndField m t fs) = step (properties_faults several) [] t (field_named n fs) (properties_faults_under several n fs) (bytes_eq m n) (properties_faults_under-field_named several n fs)
