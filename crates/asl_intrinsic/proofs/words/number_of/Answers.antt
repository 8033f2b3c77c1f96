use Rattle.std.proofs.Common.{◌≡◌, true, rules}
use Rattle.asl_model.specs.CallSpelling.{is_whole}
use Rattle.asl_intrinsic.proofs.Numbers.{number_parsed}
use Rattle.asl_intrinsic.proofs.words.number_of.Goals as goal

pub returns : goal.returns
returns c =
    let whole : is_whole c.args.digits.now ≡ true = search rules in
    number_parsed c.args.digits.now c.parse.result c.ok.result whole c.parse.ensures.value.0 c.ok.ensures.value
