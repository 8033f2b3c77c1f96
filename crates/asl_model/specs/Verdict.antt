-- Which verdict is right for a machine, declared shapes and a certificate (the profile's own): yes exactly where no
-- rule is broken, and else one finding for each name that has one.
use Rattle.std.specs.Prelude.{◌≡◌, ◌≢◌, List, [], ◌∷◌, Bool, true, IsTrue, ⊤, Contains}
use Rattle.asl_model.specs.Names.{StateName}
use Rattle.asl_model.specs.Tree.{comes_before}
use Rattle.asl_model.specs.Machine.{Scope}
use Rattle.asl_model.specs.Certificate.{Declared, Certificate}
use Rattle.asl_model.specs.Finding.{Finding, findings, Stands}
use Rattle.asl_model.specs.FindingRules.{IsBroken}

-- yes, or the findings
pub data Verdict : Type 0 where
  Accepted : Verdict
  Rejected : List Finding → Verdict

-- the name comes before that of the next finding
abbrev pub before_next : StateName → List Finding → Bool
before_next n [] = true
before_next n (f ∷ fs) = comes_before n f.state

-- the findings' names are strictly increasing, by UTF-8 bytes
abbrev pub AreInNameOrder : List Finding → Type 0
AreInNameOrder [] = ⊤
AreInNameOrder (f ∷ fs) = IsTrue (before_next f.state fs) × AreInNameOrder fs

-- one of the findings has that name
abbrev pub TellsOf : List Finding → StateName → Type 0
TellsOf told n = (f : Finding) × Contains told f × (f.state ≡ n)

-- the findings that are told: at least one, in the order of their names; each stands, and its rule is broken, which its
-- example shows where it has one; each name with a broken rule has one
pub record IsTelling (machine : Scope) (declared : Declared) (certificate : Certificate) (told : List Finding) : Type 0
  where
    pub some : told ≢ []
    pub in_order : AreInNameOrder told
    pub standing : (f : Finding) → Contains told f → Stands machine declared certificate f
    pub broken : (f : Finding) → Contains told f → IsBroken machine declared certificate f
    pub complete : (f : Finding) → Stands machine declared certificate f → TellsOf told f.state

-- the verdict is right: yes where no rule is broken, no with such findings
abbrev pub IsRight : Scope → Declared → Certificate → Verdict → Type 0
IsRight machine declared certificate Accepted = findings machine declared certificate ≡ []
IsRight machine declared certificate (Rejected told) = IsTelling machine declared certificate told
