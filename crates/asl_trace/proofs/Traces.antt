-- The lines of entries, one after another.
use Rattle.std.proofs.Common.{◌≡◌, ◌<◌, ◌≤◌, ◌+◌, ℕ, zero, suc, List, [], ◌∷◌, ◌++◌, map, length, take, get_or, sym, ap, ◌∙◌, append_assoc, append-nil, arith}
use Rattle.std.proofs.lemmas.List.{take_all}
use Rattle.asl_model.specs.TracePrinted.{entry_line, trace_text}
use Rattle.asl_run.specs.Entries.{entry_view}
use Rattle.asl_run.specs.declared.entries.Entry.{Entry}

-- the lines of the first so many of them
abbrev pub lines_of : ℕ → List Entry → List ℕ
lines_of i entries = trace_text (map entry_view (take i entries))

next_line : (entries : List Entry) (i : ℕ) (e : Entry) → i < length entries → e ≡ get_or entries i e → lines_of (i + 1) entries ≡ lines_of i entries ++ entry_line (entry_view e)
next_line [] i e within is = absurd (omega arith)
next_line (x ∷ xs) zero e within is = append-nil (entry_line (entry_view x)) ∙ ap (λ y. entry_line (entry_view y)) (sym is)
next_line (x ∷ xs) (suc i) e within is =
    let one : suc i + 1 ≡ suc (i + 1) = omega arith in
    ap (λ k. lines_of k (x ∷ xs)) one ∙ ap (λ s. entry_line (entry_view x) ++ s) (next_line xs i e (omega arith) is) ∙ sym (append_assoc (entry_line (entry_view x)) (lines_of i xs) (entry_line (entry_view e)))

-- one line more
pub goes_on : (entries : List Entry) (i : ℕ) (e : Entry) (before text longer : List ℕ) → i < length entries → e ≡ get_or entries i e → text ≡ before ++ lines_of i entries → longer ≡ text ++ entry_line (entry_view e) → longer ≡ before ++ lines_of (i + 1) entries
goes_on entries i e before text longer within is so_far added =
    added ∙ ap (λ s. s ++ entry_line (entry_view e)) so_far ∙ append_assoc before (lines_of i entries) (entry_line (entry_view e)) ∙ ap (λ s. before ++ s) (sym (next_line entries i e within is))

-- no entry is left
pub all_added : (entries : List Entry) (i : ℕ) (before text : List ℕ) → length entries ≤ i → text ≡ before ++ lines_of i entries → text ≡ before ++ trace_text (map entry_view entries)
all_added entries i before text end so_far = so_far ∙ ap (λ es. before ++ trace_text (map entry_view es)) (take_all i entries end)
