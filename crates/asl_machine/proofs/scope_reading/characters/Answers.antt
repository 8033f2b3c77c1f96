use Rattle.std.proofs.Common.{◌≡◌, ◌/◌, ◌==◌, not, sym, ◌∙◌, rules}
use Rattle.std.specs.List.{count_by}
use Rattle.asl_machine.proofs.Lookups.{characters_counted}
use Rattle.asl_machine.proofs.scope_reading.characters.Goals as goal

pub returns : goal.returns
returns c =
    let counts : c.count.result ≡ count_by (λ b. not (b / 64 == 2)) c.args.text.now = search rules in
    counts ∙ sym (characters_counted c.args.text.now)
