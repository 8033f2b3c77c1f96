-- The JSON value that a whole text is.
use Rattle.std.specs.Prelude.{ℕ, List, Option, option_and_then}
use Rattle.json.specs.Lex.{tokens}
use Rattle.json.specs.Json.{Json, if_last, value}
use Rattle.serde_json.specs.Read.{max_depth}

-- the value that the text is, where it nests no deeper than what a reader takes (127); `read` is `of_json` of it
abbrev pub json_of : List ℕ → Option Json
json_of text = option_and_then (λ p. if_last p.0 p.1) (value max_depth (tokens text))
