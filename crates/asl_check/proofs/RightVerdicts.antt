-- A verdict that tells of each name the first of all rules is right.
use Rattle.std.proofs.Common.{◌≡◌, ◌≢◌, List, [], ◌∷◌, Some, refl, sym, ◌∙◌, subst}
use Rattle.std.specs.List.{Contains}
use Rattle.asl_model.specs.Machine.{Scope}
use Rattle.asl_model.specs.Certificate.{Declared, Certificate}
use Rattle.asl_model.specs.Finding.{Finding, findings, Stands}
use Rattle.asl_model.specs.FindingRules.{IsBroken}
use Rattle.asl_model.specs.Numbering.{Table}
use Rattle.asl_model.specs.Verdict.{Accepted, Rejected, AreInNameOrder, IsRight, TellsOf}
use Rattle.asl_machine_table.specs.Table.{Shows, table_view}
use Rattle.asl_machine_table.specs.declared.machine.Machine.{Machine}
use Rattle.asl_check.specs.Noting.{AreNoted}
use Rattle.asl_check.specs.Told.{listed, first_of, AreFirst}
use Rattle.asl_check.proofs.FirstOf.{first_in_order, first_there, some_first}
use Rattle.asl_check.proofs.Members.{first, no_member}
use Rattle.asl_check.proofs.TableListed.{AreSame, listed_found}

-- where the first of each name are told, in the order of the names, each is the first of its name
pub first_told : (all notes told : List Finding) → AreNoted all notes → told ≡ notes → AreInNameOrder told → AreFirst all told
first_told all notes told p same in_order f h = sym (p.first f.state) ∙ subst (λ ns. first_of f.state ns ≡ Some f) same (first_in_order told in_order f h)

-- a name that has a rule has one that is told
pub each_told : (all notes told : List Finding) → AreNoted all notes → told ≡ notes → (f : Finding) → Contains all f → TellsOf told f.state
each_told all notes told p same f h =
    let g = some_first all f h in
    let there = first_there f.state notes g.0 (p.first f.state ∙ g.1) in
    (g.0, subst (λ ns. Contains ns g.0) (sym same) there.among, there.named)

-- the rules that are gone over in the table of a machine are all of them
module _ (m : Machine) (machine : Scope) (shows : Shows m machine) (declared : Declared) (certificate : Certificate) where
  abbrev all : List Finding
  all = listed (table_view m) declared certificate

  same_rules : AreSame all (findings machine declared certificate)
  same_rules = subst (λ (table : Table). AreSame (listed table declared certificate) (findings machine declared certificate)) (sym shows.table) (listed_found machine shows.well_named declared certificate)

  -- each of them stands
  pub each_stands : (f : Finding) → Contains all f → Stands machine declared certificate f
  each_stands f h = same_rules.there f h

  -- where there is none, yes is right
  pub accepted : [] ≡ all → IsRight machine declared certificate Accepted
  accepted none = by (findings machine declared certificate) (λ f h. subst (λ rules. Contains rules f) (sym none) (same_rules.back f h))
    where
      by : (rules : List Finding) → ((f : Finding) → Contains rules f → Contains [] f) → rules ≡ []
      by [] empty = refl
      by (f ∷ rules) empty = absurd (no_member f (empty f (first f rules)))

  -- else no, with the first of each name, where each rule that stands is broken
  pub rejected : (notes told : List Finding) → ((f : Finding) → Stands machine declared certificate f → IsBroken machine declared certificate f)
      → all ≢ [] → AreNoted all notes → told ≡ notes → AreInNameOrder told → IsRight machine declared certificate (Rejected told)
  rejected notes told broken some p same in_order = record {
    some = λ none. empty all refl none;
    in_order = in_order;
    standing = stands;
    broken = λ f h. broken f (stands f h);
    complete = λ f h. each_told all notes told p same f (same_rules.back f h);
  }
    where
      stands : (f : Finding) → Contains told f → Stands machine declared certificate f
      stands f h = same_rules.there f (first_there f.state all f (first_told all notes told p same in_order f h)).among

      empty : (rules : List Finding) → all ≡ rules → told ≡ [] → ⊥
      empty [] is none = some is
      empty (f ∷ rules) is none =
          let t = each_told all notes told p same f (subst (λ fs. Contains fs f) (sym is) (first f rules)) in
          no_member t.0 (subst (λ fs. Contains fs t.0) none t.1)
