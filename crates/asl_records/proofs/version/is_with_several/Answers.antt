use Rattle.std.proofs.Common.{◌≡◌, ◌<◌, ◌≤◌, ◌↔◌, ◌⊎◌, inl, inr, ℕ, List, length, Bool, true, false, Option, Some, None, IfSome, sym, ap, ◌∙◌}
use Rattle.std.proofs.lemmas.Bool.{cases_lt}
use Rattle.std.proofs.lemmas.List.{get_or_past}
use Rattle.std.specs.Option.{unwrap_or}
use Rattle.std.specs.Prelude.{IsSome}
use Rattle.asl_model.specs.Shape.{Shape, Never, has_several}
use Rattle.asl_numbered.specs.Expansion.{shape_at}
use Rattle.asl_records.proofs.version.is_with_several.Goals as goal

-- what is told of a number that isn't there is true of Never
told : (table : List Shape) (n : ℕ) (answer : Option Bool) → (IsSome answer ↔ n < length table) → IfSome answer (λ b. b ≡ has_several (shape_at table n)) → unwrap_or answer false ≡ has_several (shape_at table n)
told table n (Some b) there is = is
told table n None there is = go (cases_lt n (length table))
  where
    go : (n < length table) ⊎ (length table ≤ n) → false ≡ has_several (shape_at table n)
    go (inl within) = absurd (let some : false ≡ true = there.1 within in cc)
    go (inr past) = sym (ap has_several (get_or_past table n Never past))

pub returns : goal.returns
returns c = c.unwrap_or.ensures ∙ told c.args.shapes.now c.args.number c.has_several.result c.has_several.ensures.there c.has_several.ensures.as_defined
