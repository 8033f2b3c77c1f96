use Rattle.std.proofs.Common.{ap, sym, subst}
use Rattle.asl_places.specs.declared.outline.Spot.{Spot}
use Rattle.asl_places.specs.Found.{BeginsAt}
use Rattle.asl_places.specs.Named.{state_named}
use Rattle.asl_places.specs.Definition.{HasStateInside, text_value}
use Rattle.asl_places.specs.Gathering.{Adds}
use Rattle.asl_places.specs.declared.states.States.{States}
use Rattle.asl_places.proofs.Names.{named_in-empty}
use Rattle.asl_places.proofs.Machines.{finds_states}
use Rattle.asl_places.proofs.states.States.read.Goals as goal

pub returns : goal.returns
returns c j begins =
    let tokens = c.args.outline.now.0 in
    let empty : States = record { names = c.new.result } in
    let whole = ap (λ n. record { token = n }) c.root.ensures in
    let added = c.in_ok-add_machine.ensures j (subst (λ (s : Spot). BeginsAt tokens s j) (sym whole) begins) in
    finds_states tokens text_value (state_named empty) (state_named c.add_machine.new.self) (λ name. named_in-empty c.new.result name c.new.ensures.empty)
    (subst (λ (s : Spot). Adds (state_named empty) (state_named c.add_machine.new.self) (HasStateInside tokens s)) whole added)
