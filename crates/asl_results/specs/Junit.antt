-- The XML document as JUnit has them, with the escapes of XML 1.0.
use Rattle.std.specs.Prelude.{ℕ, List, [], ◌++◌, length, ◌==◌, ◌&&◌, ◌||◌, Bool, not, Option, Some, None, String, Vec, codes, decimal, encode_utf8, if◌then◌else◌, nat_lt, string_bytes}
use Rattle.std.specs.List.{flat_map}
use Rattle.std.specs.Option.{unwrap_or}
use Rattle.std.specs.Str.{chars}
use Rattle.std.specs.declared.alloc.Global.{Global}
use Rattle.asl_model.specs.Names.{Bytes}
use Rattle.asl_results.specs.Counted.{all_cases, failed_in}
use Rattle.asl_results.specs.Line.{coverage_text}
use Rattle.asl_results.specs.declared.CaseResult.{CaseResult}
use Rattle.asl_results.specs.declared.SuiteResult.{SuiteResult}
use Rattle.asl_results.specs.declared.escaping.Part.{Part}
use Rattle.asl_results.specs.declared.escaping.Part.TheVariants as part

-- ---- texts

-- the escape of a character anywhere: `&`, `<`, `>`, carriage return
abbrev pub content_escape : ℕ → Option Bytes
content_escape c =
    if c == 38 then Some (codes "&amp;") else
    (if c == 60 then Some (codes "&lt;") else
    (if c == 62 then Some (codes "&gt;") else
    (if c == 13 then Some (codes "&#13;") else None)))

-- in an attribute also of a quotation mark, a tab and a line feed
abbrev pub escape_of : Part → ℕ → Option Bytes
escape_of part.Content c = content_escape c
escape_of part.Attribute c =
    if c == 34 then Some (codes "&quot;") else
    (if c == 9 then Some (codes "&#9;") else
    (if c == 10 then Some (codes "&#10;") else content_escape c))

-- XML 1.0 has no such character (2.2): a control character but tab, line feed and carriage return, U+FFFE, U+FFFF
abbrev pub is_forbidden : ℕ → Bool
is_forbidden c =
    (nat_lt c 32 && not ((c == 9) || ((c == 10) || (c == 13)))) || ((c == 65534) || (c == 65535))

-- then U+FFFD stands for it
abbrev pub allowed : ℕ → ℕ
allowed c = if is_forbidden c then 65533 else c

-- a character, or its escape
abbrev pub xml_char : Part → ℕ → Bytes
xml_char part c = unwrap_or (escape_of part c) (encode_utf8 (allowed c))

-- a text with each character so
abbrev pub in_xml : Part → Bytes → Bytes
in_xml part text = flat_map (xml_char part) (chars text)

-- as the value of an attribute
abbrev pub attribute_text : Bytes → Bytes
attribute_text = in_xml part.Attribute

-- as what stands in an element
abbrev pub content_text : Bytes → Bytes
content_text = in_xml part.Content

-- ---- elements

-- the attributes with the counts of cases, and the end of the tag
abbrev pub counts_text : List CaseResult → Bytes
counts_text cases =
    codes " tests=\"" ++ (decimal (length cases)
    ++ (codes "\" failures=\"" ++ (decimal (failed_in cases) ++ codes "\">\n")))

-- what closes the tag of a case that failed, with that difference: its failure, and its end
abbrev pub failure_element : Bytes → Bytes
failure_element difference =
    codes ">\n      <failure message=\"" ++ (attribute_text difference
    ++ (codes "\">" ++ (content_text difference ++ codes "</failure>\n    </testcase>\n")))

-- what closes the tag of a case
abbrev pub end_of_case : Option (String Global) → Bytes
end_of_case None = codes "/>\n"
end_of_case (Some difference) = failure_element (string_bytes difference)

-- a case of the suite of that name
unfoldable pub case_element : Bytes → CaseResult → Bytes
case_element suite c =
    codes "    <testcase classname=\"" ++ (attribute_text suite
    ++ (codes "\" name=\"" ++ (attribute_text (string_bytes c.name)
    ++ (codes "\"" ++ end_of_case c.difference))))

-- the lines on coverage, where it was asked for
abbrev pub output_element : Option (Vec (String Global) Global) → Bytes
output_element None = []
output_element (Some lacking) =
    codes "    <system-out>" ++ (content_text (coverage_text lacking.items) ++ codes "</system-out>\n")

-- a suite
unfoldable pub suite_element : SuiteResult → Bytes
suite_element s =
    codes "  <testsuite name=\"" ++ (attribute_text (string_bytes s.name)
    ++ (codes "\"" ++ (counts_text s.cases.items
    ++ (flat_map (case_element (string_bytes s.name)) s.cases.items
    ++ (output_element s.lacking ++ codes "  </testsuite>\n")))))

-- the document
abbrev pub junit_report : List SuiteResult → Bytes
junit_report suites =
    codes "<?xml version=\"1.0\" encoding=\"UTF-8\"?>\n<testsuites" ++ (counts_text (all_cases suites)
    ++ (flat_map suite_element suites ++ codes "</testsuites>\n"))
