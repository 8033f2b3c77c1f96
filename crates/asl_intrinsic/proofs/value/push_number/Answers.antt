use Rattle.std.proofs.Common.{Fits, w64, nat_abs, arith, to_z-of_z}
use Rattle.std.proofs.Math.Facts.{Fits-nat_abs}
use Rattle.asl_model.proofs.RunDecimals.{decimal_is_written}
use Rattle.asl_intrinsic.proofs.value.push_number.Goals as goal

pub returns : goal.returns
returns c =
    let small : Fits w64 (nat_abs c.args.number) = Fits-nat_abs tt c.ranges.number in
    let written = decimal_is_written c.args.number (omega (arith, small.fits)) in
    grind (arith, to_z-of_z, written, c.push_str.ensures.bytes, c.format.ensures.text)
