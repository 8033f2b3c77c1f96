-- What each refusal of a text says of it.
use Rattle.std.specs.Prelude.{List, ℕ}
use Rattle.asl_model.specs.PathSpelling as model
use Rattle.asl_path.specs.declared.PathRefusal.{PathRefusal}
use Rattle.asl_path.specs.declared.PathRefusal.TheVariants.{NoDollar, BadSegment, LeftOut, OutOfMemory}

-- the text is refused so; want of memory says nothing of it
abbrev pub IsRefused : List ℕ → PathRefusal → Type 0
IsRefused text NoDollar = model.IsRefusedPath text model.NoDollar
IsRefused text (BadSegment b) = model.IsRefusedPath text (model.BadSegment b)
IsRefused text (LeftOut b) = model.IsRefusedPath text (model.LeftOut b)
IsRefused text OutOfMemory = Unit {0}
