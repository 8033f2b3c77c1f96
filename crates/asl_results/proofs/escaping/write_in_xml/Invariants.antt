use Rattle.std.specs.Fmt.{HasWritten, IsPlainFormatter}
use Rattle.std.specs.List.{flat_map}
use Rattle.asl_results.specs.Junit.{xml_char}
use Rattle.asl_results.proofs.escaping.write_in_xml.Given as goal

-- what is written is that of the characters so far
abbrev pub invariant-loop-c : goal.invariant-loop-c
invariant-loop-c g l =
    IsPlainFormatter l.initial.f → HasWritten g.W.Write.write_str_gives l.initial.f (flat_map (xml_char l.part) l.yielded) l.f
