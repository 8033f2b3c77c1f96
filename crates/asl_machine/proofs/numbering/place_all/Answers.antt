use Rattle.std.proofs.Common.{[], ◌∷◌, map, take, get_or, string_bytes, sym, ap, ◌∙◌, None, add-one}
use Rattle.std.proofs.Math.Seq.{take-suc}
use Rattle.std.proofs.lemmas.List.{map-append}
use Rattle.asl_states.specs.Machine.{scope_view}
use Rattle.asl_machine.specs.Numbered.{home_view, placed_in}
use Rattle.asl_machine.specs.declared.building.Home.{Home}
use Rattle.asl_machine.proofs.Numbers.{one_more}
use Rattle.asl_machine.proofs.numbering.place_all.Goals as goal

pub loop-home-preserved : goal.loop-home-preserved
loop-home-preserved c =
    let l = c.loop-home in
    let homes = c.args.homes.now in
    let none : Home = record { start = record { ref_ptr = (0, 0); now = [] }; owner = None } in
    let placed = map (λ h. placed_in (map string_bytes c.args.names.now.keys) (home_view h)) in
    one_more scope_view l.scopes.items c.push.new.self.items c.place.result (placed (take l.home-index homes)) (placed_in (map string_bytes c.args.names.now.keys) (home_view (get_or homes l.home-index none))) c.in_ok-push.ensures.items l.invariant c.place.ensures
    ∙ sym (ap (λ n. placed (take n homes)) (add-one l.home-index) ∙ (ap placed (take-suc homes l.home-index none c.loop-home-test.true) ∙ map-append (λ h. placed_in (map string_bytes c.args.names.now.keys) (home_view h)) (take l.home-index homes) (get_or homes l.home-index none ∷ [])))
