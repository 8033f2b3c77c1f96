-- The rate of a retrier that gives none.
use Rattle.std.proofs.Common.{◌≡◌, Some, refl}
use Rattle.std.specs.Float.{binary64, float_is_finite}
use lib.Ieee.{of_bits, of_fields}
use Rattle.serde_json.specs.Find.{of_float}
use Rattle.asl_model.specs.StandsFor.{default_rate}

-- the float that the bits of 2.0 are is that number
pub two_is_the_rate : of_float (of_bits binary64 0x4000000000000000) ≡ Some default_rate
unfolding of_bits of_fields float_is_finite
two_is_the_rate = refl
