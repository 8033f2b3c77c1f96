use Rattle.std.proofs.Common.{◌≡◌, ◌<◌, ℕ, List, length, Bool, false, Option, Some, sym, ◌∙◌, subst, arith}
use Rattle.std.proofs.lemmas.Grind.{common_steps}
use Rattle.std.specs.Prelude.{IfSome}
use Rattle.asl_model.specs.Shape.{Shape, inhabited}
use Rattle.asl_model.specs.ShapeOrder as order
use Rattle.asl_model.proofs.JoinFuel.{join-first_uninhabited}
use Rattle.asl_numbered.specs.Expansion.{shape_at, Shows}
use Rattle.asl_drafts.proofs.Known.{cuts_kept}
use Rattle.asl_drafts.proofs.Measured.{depths_kept}
use Rattle.asl_drafts.proofs.store.Store.join.Goals as goal

-- where no tree has the first shape, the second is their join
second-shown : (table : List Shape) (first second : ℕ) (told : Option Bool) (lives : Bool) → told ≡ Some lives → lives ≡ false → IfSome told (λ b. b ≡ inhabited (shape_at table first)) → second < length table → Shows table (order.join (shape_at table first) (shape_at table second)) second
second-shown table first second told lives is none defined there =
    let empty = sym (subst (λ o. IfSome o (λ b. b ≡ inhabited (shape_at table first))) is defined) ∙ none in
    record { within = there; same = sym (join-first_uninhabited (shape_at table first) (shape_at table second) empty) }

pub returns-then-not-unwrap-clause-join : goal.returns-then-not-unwrap-clause-join
returns-then-not-unwrap-clause-join c =
    rw (← c.self.view_is) (second-shown c.self.inside.shapes c.args.first c.args.second c.inhabited.result c.unwrap.result c.unwrap.ensures (grind (arith, common_steps)) c.inhabited.ensures.as_defined (rw (← c.self.view_is) at c.requires.second))

pub invariant_of-self : goal.invariant_of-self
invariant_of-self c = (depths_kept _ _ c.self.inside.depths.items c.in_err-number.ensures.keeps c.self.invariant.0, cuts_kept _ _ c.self.inside.cuts.entries c.in_err-number.ensures.keeps c.self.invariant.1)

pub invariant_of-self-2 : goal.invariant_of-self-2
invariant_of-self-2 c = (depths_kept _ _ c.self.inside.depths.items c.in_ok-number.ensures.keeps c.self.invariant.0, cuts_kept _ _ c.self.inside.cuts.entries c.in_ok-number.ensures.keeps c.self.invariant.1)
