-- Words for texts and lists of numbers, by what they stand for. All are lists of numbers, so the checker takes one
-- where another is wanted; they are for readers.
use Rattle.std.specs.Prelude.{List, ℕ}

-- a text, by its bytes of UTF-8
abbrev pub Bytes : Type 0
Bytes = List ℕ

-- the name of a state, a text
abbrev pub StateName : Type 0
StateName = List ℕ

-- the name of a field, of an object or of a state, a text
abbrev pub FieldName : Type 0
FieldName = List ℕ

-- the name of an error, a text
abbrev pub ErrorName : Type 0
ErrorName = List ℕ

-- a place in a run: the numbers of the children on the way down from the machine's own activity
abbrev pub PlaceInRun : Type 0
PlaceInRun = List ℕ

-- how often each retrier of a state has retried within one execution of it, by the retriers' order; one that isn't
-- written has not
abbrev pub RetryCounts : Type 0
RetryCounts = List ℕ
