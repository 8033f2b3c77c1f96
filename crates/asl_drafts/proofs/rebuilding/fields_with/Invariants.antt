use Rattle.std.proofs.Common.{◌≡◌, List, ◌++◌, length, take, String, Global}
use Rattle.asl_numbered.specs.declared.node.NodeField.{NodeField}
use Rattle.asl_drafts.specs.Parts.{AreFieldsWith}
use Rattle.asl_drafts.proofs.rebuilding.fields_with.Given as goal
use Rattle.asl_numbered.specs.Names.{Name}

abbrev pub invariant-loop-name : goal.invariant-loop-name
invariant-loop-name l =
    (done : List (Name × NodeField)) × (l.fields.entries ≡ done ++ l.name-iterator) × (l.place ≡ length done) × AreFieldsWith done (take l.place l.numbers) l.new.entries
