-- The members of an object, read from tokens one after another.
use Rattle.std.proofs.Common.{◌≡◌, ◌-◌, ◌<◌, ◌≤◌, ℕ, List, length, Option, Some, None, refl, ap, ◌∙◌, arith}
use Rattle.json.specs.Json as json
use Rattle.json.specs.Json.{read_key, members, value, parse_map}
use Rattle.json.specs.Token.{Token}
use Rattle.json.proofs.Grammar.{members_end, members_more, read_key-shorter}
use Rattle.serde_json.specs.Data as values
use Rattle.serde_json.specs.Data.{Data, Members}
use Rattle.serde_json.specs.Read.{of_json, of_members, converted}
use Rattle.asl_streams.specs.Streamed.{SpellMembers}
use Rattle.asl_tree.proofs.Parsed.{converted_there}

-- members that were found, and what the tokens that are left add to them
pub record GoesOn (levels : ℕ) (before left : List Token) (found : Members) : Type 0 where
  pub turns : ℕ
  pub enough : length left ≤ turns
  pub less : length left ≤ length before
  pub same : converted (λ ms. of_members ms values.no_members) (members (value levels) (length before) before) ≡ converted (λ ms. of_members ms found) (members (value levels) turns left)

pub begun : (levels : ℕ) (before : List Token) → GoesOn levels before before values.no_members
begun levels before = record { turns = length before; enough = omega arith; less = omega arith; same = refl }

with_member : (k : List ℕ) (j : json.Json) (d : Data) (found : Members) (o : Option (json.Members × List Token)) → of_json j ≡ Some d
    → converted (λ ms. of_members ms found) (parse_map (json.member k j) o) ≡ converted (λ ms. of_members ms (values.put k d found)) o
with_member k j d found None e = refl
with_member k j d found (Some p) e = rw e

pub one_more : (levels : ℕ) (k : List ℕ) (d : Data) (before left s r : List Token) (found : Members) → read_key left ≡ Some (Some k, s) → converted of_json (value levels s) ≡ Some (d, r) → length r < length s → GoesOn levels before left found → GoesOn levels before r (values.put k d found)
one_more levels k d before left s r found key e shorter h =
    let j = converted_there of_json (value levels s) d r e in
    let less = read_key-shorter left (Some k) s key in
    record {
      turns = h.turns - 1;
      enough = omega (arith, h.enough);
      less = omega (arith, h.less, less, shorter);
      same = h.same ∙ ap (converted (λ ms. of_members ms found)) (members_more (value levels) h.turns k left s r j.0 (omega (arith, h.enough)) key j.1) ∙ with_member k j.0 d found _ j.2;
    }

pub all_over : (levels : ℕ) (before left r : List Token) (found : Members) → read_key left ≡ Some (None, r) → GoesOn levels before left found → SpellMembers levels before r found
all_over levels before left r found end h = h.same ∙ ap (converted (λ ms. of_members ms found)) (members_end (value levels) h.turns left r h.enough end)
