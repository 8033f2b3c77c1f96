-- The names of fields, which the nodes that have them share.
use Rattle.std.specs.Prelude.{ℕ, List}
use Rattle.std.specs.Ordering.{nat_cmp}
use Rattle.std.specs.declared.cmp.Ordering.{Ordering}
use Rattle.std.specs.Cmp.Lexicographic.{slice_cmp}
use Rattle.std.specs.Rc.{rc_str_bytes}
use Rattle.std.specs.declared.alloc.Global.{Global}
use Rattle.std.specs.declared.rc.RcStr.{RcStr}

-- a name
abbrev pub Name : Type 0
Name = RcStr Global

-- how a text stands to a name, byte by byte
abbrev pub text_cmp : List ℕ → Name → Ordering
text_cmp text name = slice_cmp nat_cmp text (rc_str_bytes name)

-- how two names stand to each other
abbrev pub name_cmp : Name → Name → Ordering
name_cmp first second = text_cmp (rc_str_bytes first) second
