-- The rules taken row by row over a machine's table are together all of the machine's.
use Rattle.std.proofs.Common.{◌≡◌, refl, sym, ap, ◌∙◌, ℕ, List, [], ◌∷◌, ◌++◌, map, codes, Some, None, ◌⊎◌, inl, inr}
use Rattle.std.specs.List.{Contains}
use Rattle.std.proofs.lemmas.List.{map-append}
use Rattle.std.proofs.lemmas.List.Elements.{Contains-append_left, Contains-append_right, Contains-append_cases}
use mathlib.Core.Path.{fun_ext}
use Rattle.asl_model.specs.Machine.{Scope, settings_of, kind_of, start_of}
use Rattle.asl_model.specs.Certificate.{Declared, Certificate, certified, under}
use Rattle.asl_model.specs.Finding.{Breach, Finding, StartInput, found_at, breach_unless_sub, input_of_entry, input_to_compare, entry_breaches, flow_breaches, surrounded_by, where_certified, scope_findings, start_findings}
use Rattle.asl_model.specs.Numbering.{Standing, standing, outlined, table_of, IsWellNamed}
use Rattle.asl_check.specs.Rules.{Row, inputs_in, found_in, found_in_all, found_of_start, found_at_start, entry_rules, flow_rules}
use Rattle.asl_check.proofs.TableRows.{found_of_each, row_among, found-in-table}
use Rattle.asl_check.proofs.TableScopes.{found_of_state, of-scope}
use Rattle.asl_check.proofs.TableNames.{state-named}
use Rattle.asl_check.proofs.TableEnds.{distinct, ends_in, ends-are, start-is}
use Rattle.asl_model.proofs.OutlinedRules.{entry-outlined, flow-outlined_where}

-- ---- two lists that make up a third

-- its members are those of the two
pub record MakeUp (xs ys zs : List Finding) : Type 0 where
  pub first : (f : Finding) → Contains xs f → Contains zs f
  pub second : (f : Finding) → Contains ys f → Contains zs f
  pub either : (f : Finding) → Contains zs f → Contains xs f ⊎ Contains ys f

-- two empty lists
made_up_of_none : MakeUp [] [] []
made_up_of_none = record { first = λ f h. h; second = λ f h. h; either = λ f h. inl h }

-- more in front of each
pub made_up_behind : (x y xs ys zs : List Finding) → MakeUp xs ys zs → MakeUp (x ++ xs) (y ++ ys) ((x ++ y) ++ zs)
made_up_behind x y xs ys zs m = record { first = λ f h. of_first f (Contains-append_cases x xs f h); second = λ f h. of_second f (Contains-append_cases y ys f h); either = λ f h. of_all f (Contains-append_cases (x ++ y) zs f h) }
  where
    of_first : (f : Finding) → Contains x f ⊎ Contains xs f → Contains ((x ++ y) ++ zs) f
    of_first f (inl h) = Contains-append_left (x ++ y) zs f (Contains-append_left x y f h)
    of_first f (inr h) = Contains-append_right (x ++ y) zs f (m.first f h)

    of_second : (f : Finding) → Contains y f ⊎ Contains ys f → Contains ((x ++ y) ++ zs) f
    of_second f (inl h) = Contains-append_left (x ++ y) zs f (Contains-append_right x y f h)
    of_second f (inr h) = Contains-append_right (x ++ y) zs f (m.second f h)

    of_front : (f : Finding) → Contains x f ⊎ Contains y f → Contains (x ++ xs) f ⊎ Contains (y ++ ys) f
    of_front f (inl h) = inl (Contains-append_left x xs f h)
    of_front f (inr h) = inr (Contains-append_left y ys f h)

    of_rest : (f : Finding) → Contains xs f ⊎ Contains ys f → Contains (x ++ xs) f ⊎ Contains (y ++ ys) f
    of_rest f (inl h) = inl (Contains-append_right x xs f h)
    of_rest f (inr h) = inr (Contains-append_right y ys f h)

    of_all : (f : Finding) → Contains (x ++ y) f ⊎ Contains zs f → Contains (x ++ xs) f ⊎ Contains (y ++ ys) f
    of_all f (inl h) = of_front f (Contains-append_cases x y f h)
    of_all f (inr h) = of_rest f (m.either f h)

-- so state by state
each-made-up : (first second both : Standing → List Finding) → ((s : Standing) → both s ≡ first s ++ second s) → (states : List Standing) → MakeUp (found_of_each first states) (found_of_each second states) (found_of_each both states)
each-made-up first second both same [] = made_up_of_none
each-made-up first second both same (s ∷ states) =
    rw (same s) (made_up_behind (first s) (second s) (found_of_each first states) (found_of_each second states) (found_of_each both states) (each-made-up first second both same states))

-- ---- the states

-- states without those of their scopes
of-outlined : (found : Standing → List Finding) (states : List Standing) → found_of_each found (map outlined states) ≡ found_of_each (λ s. found (outlined s)) states
of-outlined found [] = refl
of-outlined found (s ∷ states) = ap (λ rest. found (outlined s) ++ rest) (of-outlined found states)

-- what is compared with an input is the same in the table
pub input-same : (machine : Scope) (certificate : Certificate) (n : List ℕ) → inputs_in (table_of machine) certificate n ≡ input_to_compare machine certificate n
input-same machine certificate n = ap (λ b. input_of_entry b (certified certificate n)) (state-named machine n)

module _ (machine : Scope) (declared : Declared) (certificate : Certificate) where
  abbrev row_of_state : Standing → Row
  row_of_state s = row_among (map outlined (standing machine)) (outlined s)

  -- what is found of a state's entry, and of what flows through it, by its row
  abbrev by_entry : Standing → List Finding
  by_entry s = found_in (entry_rules declared certificate) (Some (row_of_state s))

  abbrev by_flow : Standing → List Finding
  by_flow s = found_in (flow_rules (table_of machine) declared certificate) (Some (row_of_state s))

  -- what flows through a state breaks the same rules
  flow-same : (s : Standing) → flow_rules (table_of machine) declared certificate (row_of_state s) ≡ where_certified (λ own. flow_breaches (surrounded_by declared (input_to_compare machine certificate) (ends_in machine certificate s.owner) s.name own) (settings_of s.state) (kind_of s.state)) (certified certificate s.name)
  flow-same s =
      flow-outlined_where declared (inputs_in (table_of machine) certificate) (ends_in machine certificate s.owner) s.name s.state (certified certificate s.name)
      ∙ ap (λ inputs. where_certified (λ own. flow_breaches (surrounded_by declared inputs (ends_in machine certificate s.owner) s.name own) (settings_of s.state) (kind_of s.state)) (certified certificate s.name)) (fun_ext (input-same machine certificate))

  -- both together are what is found of the state
  both-found : (s : Standing) → found_of_state machine declared certificate (ends_in machine certificate) s ≡ by_entry s ++ by_flow s
  both-found s =
      let entry = entry_breaches (kind_of s.state) (certified certificate s.name) (under s.name declared.tasks) in
      let flow = where_certified (λ own. flow_breaches (surrounded_by declared (input_to_compare machine certificate) (ends_in machine certificate s.owner) s.name own) (settings_of s.state) (kind_of s.state)) (certified certificate s.name) in
      map-append (λ (b : Breach). record { state = s.name; field = b.field; fault = b.fault; example = b.example }) entry flow
      ∙ (ap (λ here. found_at s.name here ++ found_at s.name flow) (sym (entry-outlined s.state (certified certificate s.name) (under s.name declared.tasks)))
      ∙ ap (λ rest. by_entry s ++ found_at s.name rest) (sym (flow-same s)))

  -- what is found of all states, by the table's rows
  pub rows-made-up : IsWellNamed machine → MakeUp (found_in_all (entry_rules declared certificate) (table_of machine)) (found_in_all (flow_rules (table_of machine) declared certificate) (table_of machine)) (scope_findings machine machine declared certificate (Some certificate.output))
  rows-made-up w =
      rw (
        found-in-table (entry_rules declared certificate) (map outlined (standing machine)),
        found-in-table (flow_rules (table_of machine) declared certificate) (map outlined (standing machine)),
        of-outlined (λ s. found_in (entry_rules declared certificate) (Some (row_among (map outlined (standing machine)) s))) (standing machine),
        of-outlined (λ s. found_in (flow_rules (table_of machine) declared certificate) (Some (row_among (map outlined (standing machine)) s))) (standing machine),
        of-scope machine declared certificate (ends_in machine certificate) None machine (ends-are machine certificate (distinct machine w)),
      )
      (each-made-up by_entry by_flow (found_of_state machine declared certificate (ends_in machine certificate)) both-found (standing machine))

  -- what is found of the start state
  pub start-found : IsWellNamed machine → found_at_start (table_of machine) declared certificate ≡ start_findings machine declared certificate
  start-found w =
      ap (found_of_start (table_of machine) declared certificate) (start-is machine w)
      ∙ ap (λ expected. found_at (start_of machine) (breach_unless_sub (codes "StartAt") StartInput declared.input expected)) (input-same machine certificate (start_of machine))
