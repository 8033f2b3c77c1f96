use Rattle.std.proofs.Common.{◌≡◌, ◌-◌, ◌+◌, List, replicate, string_bytes}
use Rattle.asl_model.specs.Examples.{fresh_name, unmentioned_name}
use Rattle.asl_model.specs.Shape.{Shape}
use Rattle.asl_numbered.specs.Expansion.{fields_at}
use Rattle.asl_numbered.proofs.outside.new_name.Given as goal

abbrev pub invariant-loop : goal.invariant-loop
invariant-loop l =
    ((table : List Shape) → fresh_name (fields_at table l.fields.entries) (fields_at table l.others.entries)
    ≡ unmentioned_name (l.end - l.counter) (string_bytes l.name) (fields_at table l.fields.entries) (fields_at table l.others.entries))
    × (string_bytes l.name ≡ replicate (l.counter + 1) 97)
