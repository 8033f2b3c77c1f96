-- Worked examples of reference paths.
use Rattle.std.specs.Prelude.{◌≡◌, List, [], ◌∷◌, ◌+◌, ◌==◌, ℕ, false, None, drop, length, Some, codes, refl}
use Rattle.std.specs.Fmt.{digits}
use Rattle.asl_model.specs.Path.{Segment, Name, Index}
use Rattle.asl_model.specs.PathSpelling.{cut_segment, path_of, printed_path, StopsAt, IsRefusedPath, NoDollar, BadSegment, LeftOut}

-- names with a space in them, dot names and indexes
read_all_kinds : path_of (codes "$['a b'].c[0]") ≡ Some (Name (codes "a b") ∷ Name (codes "c") ∷ Index 0 ∷ [])
read_all_kinds = refl

print_all_kinds : printed_path (Name (codes "a b") ∷ Name (codes "c") ∷ Index 0 ∷ []) ≡ codes "$['a b'].c[0]"
unfolding digits
print_all_kinds = refl

-- a dot name in apostrophes is printed behind a dot
read_in_apostrophes : path_of (codes "$['x']") ≡ Some (Name (codes "x") ∷ [])
read_in_apostrophes = refl

print_behind_dot : printed_path (Name (codes "x") ∷ []) ≡ codes "$.x"
print_behind_dot = refl

-- a name with an apostrophe stands in quotes
read_in_quotes : path_of (codes "$[\"it's\"]") ≡ Some (Name (codes "it's") ∷ [])
read_in_quotes = refl

print_in_quotes : printed_path (Name (codes "it's") ∷ []) ≡ codes "$[\"it's\"]"
print_in_quotes = refl

-- the empty name
print_empty_name : printed_path (Name [] ∷ []) ≡ codes "$['']"
print_empty_name = refl

-- é is the bytes 195 169; it stands behind a dot
read_beyond_ascii : path_of (36 ∷ 46 ∷ 195 ∷ 169 ∷ []) ≡ Some (Name (195 ∷ 169 ∷ []) ∷ [])
read_beyond_ascii = refl

print_beyond_ascii : printed_path (Name (195 ∷ 169 ∷ []) ∷ []) ≡ 36 ∷ 46 ∷ 195 ∷ 169 ∷ []
print_beyond_ascii = refl

-- the largest index
read_largest_index : path_of (codes "$[4294967295]") ≡ Some (Index 4294967295 ∷ [])
read_largest_index = refl

-- ---- refusals: the byte is that of the first rest with which no segment begins

stops_at_once : (text : List ℕ) → text ≡ 36 ∷ drop 1 text → (length (drop 1 text) == 0) ≡ false → cut_segment (drop 1 text) ≡ None → 1 + length (drop 1 text) ≡ length text → StopsAt text 1 (drop 1 text)
stops_at_once text dollar some none place = record { segments = drop 1 text; before = []; dollar = dollar; front = refl; some = some; none = none; place = place }

stops_after_one : (text : List ℕ) (b : ℕ) (s : Segment) (rest : List ℕ) → text ≡ 36 ∷ drop 1 text → cut_segment (drop 1 text) ≡ Some (s, rest) → (length rest == 0) ≡ false → cut_segment rest ≡ None → b + length rest ≡ length text → StopsAt text b rest
stops_after_one text b s rest dollar cut some none place = record { segments = drop 1 text; before = s ∷ []; dollar = dollar; front = (rest, cut, refl); some = some; none = none; place = place }

-- the empty text doesn't begin with `$`
refused_empty : IsRefusedPath [] NoDollar
refused_empty = refl

refused_lone_dot : IsRefusedPath (codes "$.") (BadSegment 1)
refused_lone_dot = (codes ".", stops_at_once (codes "$.") refl refl refl refl, refl)

refused_two_dots : IsRefusedPath (codes "$..b") (LeftOut 1)
refused_two_dots = (codes "..b", stops_at_once (codes "$..b") refl refl refl refl, refl)

refused_index_too_large : IsRefusedPath (codes "$[4294967296]") (BadSegment 1)
refused_index_too_large = (codes "[4294967296]", stops_at_once (codes "$[4294967296]") refl refl refl refl, refl)

refused_unclosed_bracket : IsRefusedPath (codes "$['a'") (BadSegment 1)
refused_unclosed_bracket = (codes "['a'", stops_at_once (codes "$['a'") refl refl refl refl, refl)

refused_no_index : IsRefusedPath (codes "$[") (BadSegment 1)
refused_no_index = (codes "[", stops_at_once (codes "$[") refl refl refl refl, refl)

refused_no_segment : IsRefusedPath (codes "$x") (BadSegment 1)
refused_no_segment = (codes "x", stops_at_once (codes "$x") refl refl refl refl, refl)

refused_two_dollars : IsRefusedPath (codes "$$.x") (BadSegment 1)
refused_two_dollars = (codes "$.x", stops_at_once (codes "$$.x") refl refl refl refl, refl)

refused_quote_inside : IsRefusedPath (codes "$['it's']") (BadSegment 1)
refused_quote_inside = (codes "['it's']", stops_at_once (codes "$['it's']") refl refl refl refl, refl)

refused_backslash_inside : IsRefusedPath (codes "$['a\\b']") (BadSegment 1)
refused_backslash_inside = (codes "['a\\b']", stops_at_once (codes "$['a\\b']") refl refl refl refl, refl)

refused_zeros : IsRefusedPath (codes "$[00]") (BadSegment 1)
refused_zeros = (codes "[00]", stops_at_once (codes "$[00]") refl refl refl refl, refl)

refused_comma_in_open_name : IsRefusedPath (codes "$['a,b'") (LeftOut 1)
refused_comma_in_open_name = (codes "['a,b'", stops_at_once (codes "$['a,b'") refl refl refl refl, refl)

refused_two_indexes : IsRefusedPath (codes "$[1,2]") (LeftOut 1)
refused_two_indexes = (codes "[1,2]", stops_at_once (codes "$[1,2]") refl refl refl refl, refl)

refused_leading_zero : IsRefusedPath (codes "$.a[01]") (BadSegment 3)
refused_leading_zero = (codes "[01]", stops_after_one (codes "$.a[01]") 3 (Name (codes "a")) (codes "[01]") refl refl refl refl refl, refl)

refused_space : IsRefusedPath (codes "$.a b") (BadSegment 3)
refused_space = (codes " b", stops_after_one (codes "$.a b") 3 (Name (codes "a")) (codes " b") refl refl refl refl refl, refl)

refused_wildcard : IsRefusedPath (codes "$.a[*]") (LeftOut 3)
refused_wildcard = (codes "[*]", stops_after_one (codes "$.a[*]") 3 (Name (codes "a")) (codes "[*]") refl refl refl refl refl, refl)

refused_dot_at_end : IsRefusedPath (codes "$.a.") (BadSegment 3)
refused_dot_at_end = (codes ".", stops_after_one (codes "$.a.") 3 (Name (codes "a")) (codes ".") refl refl refl refl refl, refl)

refused_unclosed_index : IsRefusedPath (codes "$.a[1") (BadSegment 3)
refused_unclosed_index = (codes "[1", stops_after_one (codes "$.a[1") 3 (Name (codes "a")) (codes "[1") refl refl refl refl refl, refl)

refused_dollar_inside : IsRefusedPath (codes "$.a$b") (BadSegment 3)
refused_dollar_inside = (codes "$b", stops_after_one (codes "$.a$b") 3 (Name (codes "a")) (codes "$b") refl refl refl refl refl, refl)

refused_whole_rest : IsRefusedPath (codes "$.a b:c") (LeftOut 3)
refused_whole_rest = (codes " b:c", stops_after_one (codes "$.a b:c") 3 (Name (codes "a")) (codes " b:c") refl refl refl refl refl, refl)

-- é is two bytes
refused_beyond_ascii : IsRefusedPath (36 ∷ 46 ∷ 195 ∷ 169 ∷ 46 ∷ []) (BadSegment 4)
refused_beyond_ascii = (codes ".", stops_after_one (36 ∷ 46 ∷ 195 ∷ 169 ∷ 46 ∷ []) 4 (Name (195 ∷ 169 ∷ [])) (codes ".") refl refl refl refl refl, refl)
