-- What is told of refusals, and the names of the rules of texts.
use Rattle.std.proofs.Common.{◌≡◌, List, [], ◌∷◌, ◌++◌, map, Option, Some, None, IfSome, option_map, codes, refl, sym, ap, ◌∙◌}
use Rattle.std.specs.Borrow.{Bor}
use Rattle.std.proofs.lemmas.List.{append_cancel_left, append_cancel_right}
use Rattle.asl_model.specs.Names.{Bytes}
use Rattle.asl_model.specs.Printed.{line_break, refusal_text, which_name}
use Rattle.asl_model.specs.Texts.{DefinitionText}
use Rattle.asl_diagnostics.specs.declared.rules.Rule.{Rule}
use Rattle.asl_problems.specs.Told.{Told, told_by}
use Rattle.asl_problems.specs.declared.problems.Problem.{Problem}
use Rattle.asl_problems.proofs.Lists.{map_twice}

-- lines of refused texts are the same only of one name
same_name : (a b : Bytes) → refusal_text DefinitionText a [] ≡ refusal_text DefinitionText b [] → a ≡ b
same_name a b same =
    append_cancel_right a b line_break
    (append_cancel_left (codes " ") (a ++ line_break) (b ++ line_break)
    (append_cancel_left (which_name DefinitionText) (codes " " ++ (a ++ line_break)) (codes " " ++ (b ++ line_break))
    (append_cancel_left (codes "refused ") (which_name DefinitionText ++ (codes " " ++ (a ++ line_break))) (which_name DefinitionText ++ (codes " " ++ (b ++ line_break))) same)))

-- the name of the rule that is found by the line of a refused text
named : (found : Option (Bor Rule)) (rule : Bor Rule) (name : Bytes) → found ≡ Some rule → option_map (λ r. refusal_text DefinitionText r.now.id.now []) found ≡ Some (refusal_text DefinitionText name []) → rule.now.id.now ≡ name
named found rule name is line =
    let both : Some (refusal_text DefinitionText rule.now.id.now []) ≡ Some (refusal_text DefinitionText name []) = ap (option_map (λ (r : Bor Rule). refusal_text DefinitionText r.now.id.now [])) (sym is) ∙ line in
    let same : refusal_text DefinitionText rule.now.id.now [] ≡ refusal_text DefinitionText name [] = cc in
    same_name rule.now.id.now name same

-- what is some of each element is one list
same_some : {A : Type 0} (xs ys : List A) → map Some xs ≡ map Some ys → xs ≡ ys
same_some [] [] e = refl
same_some [] (y ∷ ys) e = absurd (cc)
same_some (x ∷ xs) [] e = absurd (cc)
same_some (x ∷ xs) (y ∷ ys) e =
    let one : x ≡ y = cc in
    let rest : map Some xs ≡ map Some ys = cc in
    ap (λ z. z ∷ xs) one ∙ ap (λ zs. y ∷ zs) (same_some xs ys rest)

-- each complaint is told, which the refusals are
pub complaints_told : {R C : Type 0} (see : R → Option C) (tell : C → Told) (refusals : List R) (complaints : List C) (problems : List Problem) → map see refusals ≡ map Some complaints → map (λ p. Some (told_by p)) problems ≡ map (λ r. option_map tell (see r)) refusals → map told_by problems ≡ map tell complaints
complaints_told see tell refusals complaints problems seen told =
    same_some (map told_by problems) (map tell complaints)
    (map_twice told_by Some problems ∙ told
    ∙ sym (map_twice see (option_map tell) refusals)
    ∙ ap (map (option_map tell)) seen
    ∙ map_twice Some (option_map tell) complaints
    ∙ sym (map_twice tell Some complaints))

-- so where one is found
pub if_named : (found : Option (Bor Rule)) (name : Bytes) → option_map (λ r. refusal_text DefinitionText r.now.id.now []) found ≡ Some (refusal_text DefinitionText name []) → IfSome found (λ rule. rule.now.id.now ≡ name)
if_named None name line = tt
if_named (Some rule) name line = named (Some rule) rule name refl line
