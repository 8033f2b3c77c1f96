-- Members that are found under their names where one more is put among them, and those that aren't known.
use Rattle.std.proofs.Common.{◌≡◌, ℕ, Bool, true, false, List, [], ◌∷◌, Some, None, if◌then◌else◌, Ordering, Less, Equal, Greater, nat_cmp, refl, sym, ap, ◌∙◌, subst}
use Rattle.std.specs.Cmp.Lexicographic.{slice_cmp}
use Rattle.std.specs.Ordering.{is_eq, match_ordering}
use Rattle.std.proofs.lemmas.Cmp.{nat_list_cmp_total, tied_itself}
use Rattle.serde_json.specs.Data as values
use Rattle.serde_json.specs.Data.{Data, Members}
use Rattle.serde_json.specs.Find.{get_member}
use Rattle.asl_model.specs.Records.{UnknownField}
use Rattle.asl_model.specs.ShapeSpelling.{is_among}
use Rattle.asl_records.specs.Parts.{complaint_of, foreign_complaints}
use Rattle.asl_shape.proofs.Mentions.{equal_names}

cmp_itself : (k : List ℕ) → slice_cmp nat_cmp k k ≡ Equal
cmp_itself k = tied_itself nat_list_cmp_total k

passed_over : {A : Type 0} (o : Ordering) (a b : A) → is_eq o ≡ false → match_ordering o a b a ≡ a
passed_over Less a b h = refl
passed_over Equal a b h = absurd (cc)
passed_over Greater a b h = refl

pub found_there : (k : List ℕ) (d : Data) (ms : Members) → get_member k (values.put k d ms) ≡ Some d
found_there k d values.no_members = rw (cmp_itself k) refl
found_there k d (values.member l e ms) = go (slice_cmp nat_cmp k l) refl (found_there k d ms)
  where
    go : (o : Ordering) → slice_cmp nat_cmp k l ≡ o → get_member k (values.put k d ms) ≡ Some d
        → get_member k (match_ordering o (values.member k d (values.member l e ms)) (values.member l d ms) (values.member l e (values.put k d ms))) ≡ Some d
    go Less is further = rw (cmp_itself k) refl
    go Equal is further = rw is refl
    go Greater is further = rw is further

pub found_before : (n k : List ℕ) (d : Data) (ms : Members) → is_eq (slice_cmp nat_cmp n k) ≡ false → get_member n (values.put k d ms) ≡ get_member n ms
found_before n k d values.no_members other = passed_over (slice_cmp nat_cmp n k) None (Some d) other
found_before n k d (values.member l e ms) other = go (slice_cmp nat_cmp k l) refl (found_before n k d ms other)
  where
    go : (o : Ordering) → slice_cmp nat_cmp k l ≡ o → get_member n (values.put k d ms) ≡ get_member n ms
        → get_member n (match_ordering o (values.member k d (values.member l e ms)) (values.member l d ms) (values.member l e (values.put k d ms))) ≡ get_member n (values.member l e ms)
    go Less is further = passed_over (slice_cmp nat_cmp n k) (get_member n (values.member l e ms)) (Some d) other
    go Equal is further =
        let apart : is_eq (slice_cmp nat_cmp n l) ≡ false = subst (λ m. is_eq (slice_cmp nat_cmp n m) ≡ false) (equal_names k l is) other in
        passed_over (slice_cmp nat_cmp n l) (get_member n ms) (Some d) apart ∙ sym (passed_over (slice_cmp nat_cmp n l) (get_member n ms) (Some e) apart)
    go Greater is further = ap (λ x. match_ordering (slice_cmp nat_cmp n l) x (Some e) x) further

-- ---- fields that aren't known

pub known_put : (name : List ℕ) (known : List (List ℕ)) (k : List ℕ) (d : Data) (ms : Members) → is_among k known ≡ true → foreign_complaints name known ms ≡ [] → foreign_complaints name known (values.put k d ms) ≡ []
known_put name known k d values.no_members here all = rw here refl
known_put name known k d (values.member l e ms) here all = by (is_among l known) refl all (known_put name known k d ms here) (slice_cmp nat_cmp k l)
  where
    by : (b : Bool) → is_among l known ≡ b → (if b then foreign_complaints name known ms else (complaint_of name l UnknownField ∷ foreign_complaints name known ms)) ≡ [] → (foreign_complaints name known ms ≡ [] → foreign_complaints name known (values.put k d ms) ≡ []) → (o : Ordering) → foreign_complaints name known (match_ordering o (values.member k d (values.member l e ms)) (values.member l d ms) (values.member l e (values.put k d ms))) ≡ []
    by true is rest further Less = rw (here, is) rest
    by true is rest further Equal = rw is rest
    by true is rest further Greater = rw is (further rest)
    by false is rest further o = absurd (cc)
