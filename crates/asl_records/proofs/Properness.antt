-- What is proper of the entries of a map, one after another.
use Rattle.std.proofs.Common.{◌≡◌, List, [], All, String, Global, string_cmp, sym, subst, arith}
use Rattle.std.proofs.lemmas.Map.Views.{All-values-insert_entry}
use Rattle.std.specs.BTreeMap.{insert_entry}
use Rattle.std.specs.Map.{values_of}

pub none_proper : {T : Type 0} (P : T → Type 0) (es : List (String Global × T)) → es ≡ [] → All P (values_of es)
none_proper P es none = rw none (λ k d h. absurd (omega (arith, h)))

pub one_more_proper : {T : Type 0} (P : T → Type 0) (es more : List (String Global × T)) (k : String Global) (x : T) → All P (values_of es) → P x → more ≡ insert_entry string_cmp es k x → All P (values_of more)
one_more_proper P es more k x h own made = subst (λ entries. All P (values_of entries)) (sym made) (All-values-insert_entry string_cmp k x P es h own)
