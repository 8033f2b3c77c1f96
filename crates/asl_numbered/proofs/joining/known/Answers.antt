use Rattle.std.proofs.Common.{sym}
use Rattle.asl_numbered.proofs.Joins.{first_shown, second_shown, joins_found}
use Rattle.asl_numbered.proofs.Tidy.{itself_shown}
use Rattle.asl_numbered.proofs.joining.known.Goals as goal

pub returns-then-not-is_inhabited-clause-number : goal.returns-then-not-is_inhabited-clause-number
returns-then-not-is_inhabited-clause-number c =
    second_shown c.args.table.now c.args.pair c.is_inhabited.result c.requires.within c.is_inhabited.ensures c.if-not-is_inhabited.true

pub returns-then-not-is_inhabited-2-clause-number : goal.returns-then-not-is_inhabited-2-clause-number
returns-then-not-is_inhabited-2-clause-number c =
    first_shown c.args.table.now c.args.pair c.is_inhabited.result c.is_inhabited-2.result c.requires.within c.is_inhabited.ensures c.if-not-is_inhabited.false c.is_inhabited-2.ensures c.if-not-is_inhabited-2.true

pub returns-then-is_tidy-clause-number : goal.returns-then-is_tidy-clause-number
returns-then-is_tidy-clause-number c =
    itself_shown c.args.table.now c.args.pair c.is_tidy.result c.requires.within c.if-pair.true (c.are_proper.ensures.proper c.args.pair.second) c.is_tidy.ensures c.if-is_tidy.true

pub returns-in-Some-clause-number : goal.returns-in-Some-clause-number
returns-in-Some-clause-number c =
    joins_found c.args.table.now c.args.joined.now.entries c.args.pair c.in-Some.number.now c.requires.right (sym c.in-Some.ensures.value)
