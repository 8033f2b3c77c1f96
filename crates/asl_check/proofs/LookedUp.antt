-- What is looked up in a machine's table and a certificate is what the rules look up.
use Rattle.std.proofs.Common.{◌≡◌, ℕ, zero, suc, List, [], ◌∷◌, map, length, get_or, slice_get, Bool, Option, Some, None, is_some, option_map, Bor, refl, sym, ap, ◌∙◌}
use Rattle.std.proofs.lemmas.Option.{slice_get-map, slice_get-get_or, slice_get_past}
use borrow.Author.Tests.{ltb-true, ltb-false}
use lib.Dec.{ltb}
use Rattle.std.specs.Option.{option_copied}
use Rattle.std.specs.Prelude.{IfSome}
use Rattle.asl_model.specs.Machine.{Kind, Pass, Task, Choice, Wait, Succeed, Fail, Parallel, Map, Scope, Scopes}
use Rattle.asl_model.specs.Numbering.{Table}
use Rattle.asl_model.specs.Path.{Segment}
use Rattle.asl_model.specs.Shape as model
use Rattle.asl_model.specs.Template.{Template}
use Rattle.asl_model.specs.Certificate.{certified, branch_shape, branch_end, item_end, child_end}
use Rattle.asl_model.specs.Finding.{input_of_entry}
use Rattle.asl_numbered.specs.Expansion.{shape_at}
use Rattle.asl_records.specs.Numbered.{numbers_view}
use Rattle.asl_records.specs.declared.records.StateNumbers.{StateNumbers}
use Rattle.asl_check.specs.Numbers.{certificate_of}
use Rattle.asl_check.specs.Rules.{names_state_in, inputs_in}
use Rattle.asl_check.specs.declared.checker.Checker.{Checker}
use Rattle.asl_check.proofs.Named.{value_of, entry_looked_up}

-- what stands in the checker under a name
abbrev pub entry_of : Checker → List ℕ → Option StateNumbers
entry_of c n = value_of n c.states.now.entries

-- the entry that is found under a name
pub certified_there : (table : List model.Shape) (c : Checker) (n : List ℕ) (entry : Option StateNumbers) → entry ≡ entry_of c n → certified (certificate_of table c) n ≡ option_map (numbers_view table) entry
certified_there table c n entry e = entry_looked_up table n c.states.now.entries ∙ ap (option_map (numbers_view table)) (sym e)

-- an entry that is lent is seen as it is
pub entry_seen : (table : List model.Shape) (entry : Option (Bor StateNumbers)) → option_map (λ e. numbers_view table e.now) entry ≡ option_map (numbers_view table) (option_copied entry)
entry_seen table None = refl
entry_seen table (Some e) = refl

-- the entry that is lent under a name
pub certified_lent : (table : List model.Shape) (c : Checker) (n : List ℕ) (entry : Option (Bor StateNumbers)) → option_copied entry ≡ entry_of c n → option_map (λ e. numbers_view table e.now) entry ≡ certified (certificate_of table c) n
certified_lent table c n entry e = entry_seen table entry ∙ sym (certified_there table c n (option_copied entry) e)

-- the input to compare
pub input_looked_up : (table : List model.Shape) (rows : Table) (c : Checker) (n : List ℕ) (is_state : Bool) (entry : Option StateNumbers) → is_state ≡ names_state_in rows n → entry ≡ entry_of c n
    → input_of_entry is_state (option_map (numbers_view table) entry) ≡ inputs_in rows (certificate_of table c) n
input_looked_up table rows c n is_state entry s e =
    ap (λ b. input_of_entry b (option_map (numbers_view table) entry)) s ∙ ap (input_of_entry (names_state_in rows n)) (sym (certified_there table c n entry e))

-- ---- ends

-- without an entry there is none
none_ends : (kind : Kind) (i : ℕ) → child_end kind None i ≡ None
none_ends (Pass result) i = refl
none_ends (Task resource) i = refl
none_ends (Choice rules default) i = refl
none_ends (Wait delay) i = refl
none_ends Succeed i = refl
none_ends (Fail error cause) i = refl
none_ends (Parallel branches) i = refl
none_ends (Map items selector processor) i = refl

pub no_end : (table : List model.Shape) (c : Checker) (n : List ℕ) (kind : Kind) (i : ℕ) → None ≡ entry_of c n → None ≡ child_end kind (certified (certificate_of table c) n) i
no_end table c n kind i e = sym (ap (λ entry. child_end kind entry i) (certified_there table c n None e) ∙ none_ends kind i)

-- the shape of a branch stands at its position
branch_at : (i : ℕ) (shapes : List model.Shape) → branch_shape i shapes ≡ slice_get shapes i
branch_at i [] = refl
branch_at zero (s ∷ shapes) = refl
branch_at (suc i) (s ∷ shapes) = branch_at i shapes

-- that of a branch
pub end_of_branch : (table : List model.Shape) (c : Checker) (n : List ℕ) (kind : Kind) (branches : Scopes) (i : ℕ) (entry : StateNumbers) → Some entry ≡ entry_of c n → kind ≡ Parallel branches → option_map (shape_at table) (slice_get entry.branches.items i) ≡ child_end kind (certified (certificate_of table c) n) i
end_of_branch table c n kind branches i entry e is = rw is
    (sym (ap (branch_end i) (certified_there table c n (Some entry) e) ∙ (branch_at i (map (shape_at table) entry.branches.items) ∙ slice_get-map (shape_at table) entry.branches.items i)))

-- that of a processor
pub end_of_item : (table : List model.Shape) (c : Checker) (n : List ℕ) (kind : Kind) (items : List Segment) (selector : Option Template) (processor : Scope) (i : ℕ) (entry : StateNumbers) → Some entry ≡ entry_of c n → kind ≡ Map items selector processor → option_map (shape_at table) entry.item ≡ child_end kind (certified (certificate_of table c) n) i
end_of_item table c n kind items selector processor i entry e is = rw is (sym (ap item_end (certified_there table c n (Some entry) e)))

-- what is got from a slice
pub got_at : (ns : List ℕ) (i : ℕ) (got : Option (Bor ℕ)) → is_some got ≡ ltb i (length ns) → IfSome got (λ n. n.now ≡ get_or ns i n.now) → option_copied got ≡ slice_get ns i
got_at ns i None e h = sym (slice_get_past ns i (ltb-false i (length ns) (sym e)))
got_at ns i (Some n) e h = ap Some h ∙ sym (slice_get-get_or ns i n.now (ltb-true i (length ns) (sym e)))
