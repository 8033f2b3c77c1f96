-- What comes to retriers and catchers, one after the other. No public clause cites this module.
use Rattle.std.specs.Prelude.{◌≡◌, ◌⊎◌, ◌||◌, ◌∷◌, [], List, Bool, true}
use Rattle.asl_model.specs.Names.{ErrorName}
use Rattle.asl_model.specs.Run.{takes_error}
use Rattle.asl_warnings.specs.Taken.{has_name, may_raise}
use Rattle.asl_warnings.specs.declared.errors.Coming.{Coming}

-- an element in front takes the error
abbrev pub is_taken : Coming → ErrorName → Bool
is_taken coming error = coming.all || has_name coming.named.keys error

-- none of the errors of these names comes: each that may be raised is taken
pub record NoneComes (coming : Coming) (names : List ErrorName) : Type 0 where
  pub none : (error : ErrorName) → takes_error error names ≡ true → may_raise coming.raised.now error ≡ true
      → is_taken coming error ≡ true

-- so for one name
pub record DoesNotCome (coming : Coming) (name : ErrorName) : Type 0 where
  pub none : (error : ErrorName) → takes_error error (name ∷ []) ≡ true → may_raise coming.raised.now error ≡ true
      → is_taken coming error ≡ true

-- no more errors are taken than those of these names, and as many may be raised
pub record TakesUp (before after : Coming) (names : List ErrorName) : Type 0 where
  pub raised : after.raised ≡ before.raised
  pub only : (error : ErrorName) → is_taken after error ≡ true
      → (is_taken before error ≡ true) ⊎ (takes_error error names ≡ true)
