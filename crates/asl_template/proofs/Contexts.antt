-- Reading the paths in templates, and the suffix of a name.
use Rattle.std.proofs.Common.{◌≡◌, ℕ, ◌+◌, ◌-◌, Bor, List, [], ◌++◌, length, take, Bool, true, false, is_some, Option, Some, None, option_map, codes, refl, sym, ap, ◌∙◌, rules}
use Rattle.std.specs.Prelude.{MatchOption}
use Rattle.std.specs.Str.{IsCharBoundary}
use Rattle.asl_intrinsic.specs.View.{argument_view}
use Rattle.asl_intrinsic.specs.declared.call.Arg.{Arg}
use Rattle.asl_model.specs.CallSpelling.{behind, is_context, reference_of}
use Rattle.asl_model.specs.Intrinsic.{Reference, PathArgument}
use Rattle.asl_model.specs.TemplateSpelling as model
use Rattle.asl_model.proofs.CallMeaning.{behind_found, behind_none}
use Rattle.asl_model.proofs.TemplateGrammar.{marked_name, unmarked}
use Rattle.asl_template.specs.Field.{path_faults}
use Rattle.asl_template.specs.Refusal.{Tells}
use Rattle.asl_template.specs.declared.refusal.SpellingRefusal.TheVariants.{BadPath, LeftOutContext}

-- ---- paths

-- the path that a text spells
pub path_found : (given : Option Arg) (spelled : Option Reference) (path : Arg) → option_map argument_view given ≡ option_map PathArgument spelled → given ≡ Some path → (r : Reference) × (spelled ≡ Some r) × (argument_view path ≡ PathArgument r)
path_found given None path same is = let e : Some (argument_view path) ≡ None = sym (ap (option_map argument_view) is) ∙ same in absurd (cc)
path_found given (Some r) path same is = let e : Some (argument_view path) ≡ Some (PathArgument r) = sym (ap (option_map argument_view) is) ∙ same in (r, refl, cc)

-- a text that spells none
none_found : (given : Option Arg) (spelled : Option Reference) → option_map argument_view given ≡ option_map PathArgument spelled → given ≡ None → spelled ≡ None
none_found given None same is = refl
none_found given (Some r) same is = let e : None ≡ Some (PathArgument r) = sym (ap (option_map argument_view) is) ∙ same in absurd (cc)

-- nothing is wrong with a path
pub path_right : (item : Bool) (text : List ℕ) (r : Reference) → reference_of item text ≡ Some r → path_faults item text ≡ []
path_right item text r is = rw is refl

-- a text that begins with `$$`, and is no context path that is allowed
pub context_told : (item : Bool) (text rest : List ℕ) (given : Option Arg) → text ≡ codes "$$" ++ rest → option_map argument_view given ≡ option_map PathArgument (reference_of item text) → given ≡ None → Tells LeftOutContext (path_faults item text)
context_told item text rest given begins same is =
    let context : is_context text ≡ true = ap (λ t. is_some (behind (codes "$$") t)) begins ∙ ap is_some (behind_found (codes "$$") rest) in
    rw (none_found given (reference_of item text) same is, context) (record { listed = search rules })

-- any other text that is no path
pub path_told : (item : Bool) (text : List ℕ) (given : Option Arg) → ((rest : List ℕ) → text ≡ codes "$$" ++ rest → ⊥) → option_map argument_view given ≡ option_map PathArgument (reference_of item text) → given ≡ None → Tells BadPath (path_faults item text)
path_told item text given other same is =
    let context : is_context text ≡ false = ap is_some (behind_none (codes "$$") text other) in
    rw (none_found given (reference_of item text) same is, context) (record { listed = search rules })

-- ---- the suffix of a name

pub mark_found : (n : List ℕ) (r : Option (Bor (List ℕ))) → MatchOption r ((front : List ℕ) → n ≡ front ++ codes ".$" → ⊥) (λ x. (k : ℕ) × ((k ≡ 2) × (n ≡ take (length n - k) n ++ codes ".$") × IsCharBoundary n (length n - 2)) × (x.now ≡ take (length n - k) n) × (length x.now + k ≡ length n))
    → MatchOption r (model.is_marked n ≡ false) (λ x. (model.is_marked n ≡ true) × (x.now ≡ take (length n - 2) n))
mark_found n None h = unmarked n h
mark_found n (Some x) h = (ap model.is_marked h.1.1 ∙ marked_name (take (length n - h.0) n), h.2 ∙ ap (λ k. take (length n - k) n) h.1.0)
