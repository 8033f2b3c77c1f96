use Rattle.std.proofs.Common.{ap, ◌∙◌}
use Rattle.asl_places.specs.Named.{first_of}
use Rattle.asl_places.proofs.Names.{first_of-added}
use Rattle.asl_places.proofs.states.States.add.Goals as goal

pub returns : goal.returns
returns c =
    let is = c.first_of-first.ensures ∙ ap (λ o. first_of o c.args.state) c.state.ensures in
    first_of-added c.args.self.now.names c.insert.new.self c.args.name c.args.state c.first_of-first.result c.in_ok-insert.ensures.updates is
