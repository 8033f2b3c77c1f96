-- States that are added one after another.
use Rattle.std.proofs.Common.{◌≡◌, List, [], ◌∷◌, ◌++◌, map, sym, ap, ◌∙◌, append-nil, append_assoc, Result, Ok, Err, OnOk}
use Rattle.std.proofs.lemmas.List.{map-append}
use Rattle.asl_model.specs.Numbering.{Standing, outlined}
use Rattle.asl_machine.specs.Built.{built_view, Adds}
use Rattle.asl_machine.specs.declared.building.BuiltState.{BuiltState}

-- some states and then others
pub adds_then : (a b c xs ys : List Standing) → Adds a b xs → Adds b c ys → Adds a c (xs ++ ys)
adds_then a b c xs ys first second =
    record { holds = second.holds ∙ ap (λ rows. rows ++ map outlined ys) first.holds ∙ append_assoc a (map outlined xs) (map outlined ys) ∙ ap (λ rows. a ++ rows) (sym (map-append outlined xs ys)) }

-- one state
pub adds_one : (rows more : List BuiltState) (row : BuiltState) (s : Standing) → more ≡ rows ++ row ∷ [] → built_view row ≡ outlined s → Adds (map built_view rows) (map built_view more) (s ∷ [])
adds_one rows more row s pushed is = record { holds = ap (map built_view) pushed ∙ map-append built_view rows (row ∷ []) ∙ ap (λ r. map built_view rows ++ r ∷ []) is }

-- of all states those before the ones left were added
pub record AddsBefore (before after all left : List Standing) : Type 0 where
  pub done : List Standing
  pub added : Adds before after done
  pub rest : all ≡ done ++ left

pub some_more : (a b c all left xs more : List Standing) → AddsBefore a b all left → left ≡ xs ++ more → Adds b c xs → AddsBefore a c all more
some_more a b c all left xs more so_far parted next = record {
  done = so_far.done ++ xs;
  added = adds_then a b c so_far.done xs so_far.added next;
  rest = so_far.rest ∙ ap (λ ss. so_far.done ++ ss) parted ∙ sym (append_assoc so_far.done xs more);
}

pub adds_none : (rows : List Standing) → Adds rows rows []
adds_none rows = record { holds = sym (append-nil rows) }

-- some states, and others behind them where a reading finds nothing wrong
pub added_behind : {E : Type 0} (a b c xs ys : List Standing) (result : Result (Unit {0}) E) → Adds a b xs → OnOk result (Adds b c ys) → OnOk result (Adds a c (xs ++ ys))
added_behind a b c xs ys (Ok nothing) first second = adds_then a b c xs ys first second
added_behind a b c xs ys (Err e) first second = tt
