-- A text spells at most one path, and is not refused beside it; the printed form of a path spells it.
use Rattle.std.proofs.Common.{◌≡◌, ◌↔◌, ◌-◌, ◌<◌, ◌≤◌, List, [], ◌∷◌, ℕ, zero, suc, length, take, drop, Bool, true, false, ◌==◌, Option, Some, None, if◌then◌else◌, option_map, option_and_then, IsFalse, refl, ap, ap₂, sym, subst, ◌∙◌, arith, length-drop, ◌⊎◌, inl, inr}
use Rattle.std.specs.Char.{is_ascii_digit}
use Rattle.std.proofs.lemmas.Bool.{eqb-true, ne_eqb, true≢false, false≢true}
use Rattle.std.proofs.lemmas.Option.{none-some, same_Some}
use Rattle.asl_model.specs.Path.{Segment, Name}
use Rattle.asl_model.specs.PathSpelling.{after, front_length, in_dot_name, in_quoted_name, is_index, cut_dot_name, cut_quoted_name, cut_index, cut_bracket, cut_segment, Begins, Spells, segments_of, path_of, StopsAt, has_left_out, IsRefusedPath, PathFault, NoDollar, BadSegment, LeftOut}
use Rattle.asl_model.proofs.ReadingSteps.{taken_if, taken_unless, then_from, map_from, one_value}

pub after_is : (b : ℕ) (text rest : List ℕ) → after b text ≡ Some rest → text ≡ b ∷ rest
after_is b [] rest h = absurd (none-some rest h)
after_is b (x ∷ t) rest h = let p = taken_if (x == b) (Some t) rest h in ap₂ ◌∷◌ (eqb-true x b p.0) (same_Some t rest p.1)

after_shorter : (b : ℕ) (text rest : List ℕ) → after b text ≡ Some rest → length rest < length text
after_shorter b text rest h = subst (λ t. length rest < length t) (sym (after_is b text rest h)) (omega arith)

drop_shorter : (n : ℕ) (text : List ℕ) → length (drop n text) ≤ length text
drop_shorter n text = omega (arith, length-drop n text)

dot_name_rest : (text : List ℕ) (c : Segment × List ℕ) → cut_dot_name text ≡ Some c → length c.1 ≤ length text
dot_name_rest text c h =
    let n = front_length in_dot_name text in
    let p = taken_unless (n == 0) (Some (Name (take n text), drop n text)) c h in
    subst (λ d. length d.1 ≤ length text) (same_Some (Name (take n text), drop n text) c p.1) (drop_shorter n text)

quoted_name_rest : (quote : ℕ) (text : List ℕ) (c : Segment × List ℕ) → cut_quoted_name quote text ≡ Some c → length c.1 ≤ length text
quoted_name_rest quote text c h =
    let n = front_length (in_quoted_name quote) text in
    let p = map_from (λ rest. (Name (take n text), rest)) (option_and_then (after 93) (after quote (drop n text))) c h in
    let q = then_from (after 93) (after quote (drop n text)) p.0 p.1 in
    subst (λ d. length d.1 ≤ length text) p.2 (omega (arith, after_shorter 93 q.0 p.0 q.2, after_shorter quote (drop n text) q.0 q.1, drop_shorter n text))

index_rest : (text : List ℕ) (c : Segment × List ℕ) → cut_index text ≡ Some c → length c.1 ≤ length text
index_rest text c h =
    let n = front_length is_ascii_digit text in
    let t = taken_if (is_index (take n text)) _ c h in
    let p = map_from _ (after 93 (drop n text)) c t.1 in
    subst (λ d. length d.1 ≤ length text) p.2 (omega (arith, after_shorter 93 (drop n text) p.0 p.1, drop_shorter n text))

bracket_rest : (text : List ℕ) (c : Segment × List ℕ) → cut_bracket text ≡ Some c → length c.1 ≤ length text
bracket_rest [] c h = absurd (none-some c h)
bracket_rest (x ∷ rest) c h = first (x == 39) h
  where
    second : (q : Bool) → (if q then cut_quoted_name 34 rest else cut_index (x ∷ rest)) ≡ Some c → length c.1 ≤ length (x ∷ rest)
    second true k = omega (arith, quoted_name_rest 34 rest c k)
    second false k = index_rest (x ∷ rest) c k

    first : (q : Bool) → (if q then cut_quoted_name 39 rest else (if x == 34 then cut_quoted_name 34 rest else cut_index (x ∷ rest))) ≡ Some c → length c.1 ≤ length (x ∷ rest)
    first true k = omega (arith, quoted_name_rest 39 rest c k)
    first false k = second (x == 34) k

-- a segment takes at least one byte
pub segment_rest : (text : List ℕ) (c : Segment × List ℕ) → cut_segment text ≡ Some c → length c.1 < length text
segment_rest [] c h = absurd (none-some c h)
segment_rest (x ∷ rest) c h = first (x == 46) h
  where
    second : (q : Bool) → (if q then cut_bracket rest else None) ≡ Some c → length c.1 < length (x ∷ rest)
    second true k = omega (arith, bracket_rest rest c k)
    second false k = absurd (none-some c k)

    first : (q : Bool) → (if q then cut_dot_name rest else (if x == 91 then cut_bracket rest else None)) ≡ Some c → length c.1 < length (x ∷ rest)
    first true k = omega (arith, dot_name_rest rest c k)
    first false k = second (x == 91) k

-- ---- the path that is read is the one that is spelled

pub segments_begin : (n : ℕ) (text : List ℕ) (p : List Segment) → segments_of n text ≡ Some p → Begins p text []
segments_begin n [] p h = subst (λ q. Begins q [] []) (same_Some [] p h) refl
segments_begin zero (x ∷ t) p h = absurd (none-some p h)
segments_begin (suc n) (x ∷ t) p h =
    let c = then_from (λ c. option_map (λ q. c.0 ∷ q) (segments_of n c.1)) (cut_segment (x ∷ t)) p h in
    let q = map_from (λ q. c.0.0 ∷ q) (segments_of n c.0.1) p c.2 in
    subst (λ r. Begins r (x ∷ t) []) q.2 (c.0.1, c.1, segments_begin n c.0.1 q.0 q.1)

pub begun_read : (n : ℕ) (p : List Segment) (text : List ℕ) → Begins p text [] → length text ≤ n → segments_of n text ≡ Some p
begun_read n [] text b l = subst (λ t. segments_of n t ≡ Some []) (sym b) refl
begun_read n (s ∷ p) [] b l = absurd (none-some (s, b.0) b.1)
begun_read zero (s ∷ p) (x ∷ t) b l = absurd (omega arith)
begun_read (suc n) (s ∷ p) (x ∷ t) b l =
    ap (option_and_then (λ c. option_map (λ q. c.0 ∷ q) (segments_of n c.1))) b.1
    ∙ ap (option_map (λ q. s ∷ q)) (begun_read n p b.0 b.2 (omega (arith, segment_rest (x ∷ t) (s, b.0) b.1)))

pub path_of-Spells : (text : List ℕ) (p : List Segment) → path_of text ≡ Some p → Spells text p
path_of-Spells text p h =
    let r = then_from (λ rest. segments_of (length rest) rest) (after 36 text) p h in
    record { segments = r.0; dollar = after_is 36 text r.0 r.1; all = segments_begin (length r.0) r.0 p r.2 }

pub Spells-path_of : (text : List ℕ) (p : List Segment) → Spells text p → path_of text ≡ Some p
Spells-path_of text p s = subst (λ t. path_of t ≡ Some p) (sym s.dollar) (begun_read (length s.segments) p s.segments s.all (omega arith))

pub path_of-is-Spells : (text : List ℕ) (p : List Segment) → (path_of text ≡ Some p) ↔ Spells text p
path_of-is-Spells text p = (path_of-Spells text p, Spells-path_of text p)

-- a text that spells no path is read as none
pub path_of-none : (text : List ℕ) → ((p : List Segment) → Spells text p → ⊥) → path_of text ≡ None
path_of-none text none = go (path_of text) refl
  where
    go : (o : Option (List Segment)) → path_of text ≡ o → o ≡ None
    go None e = refl
    go (Some p) e = absurd (none p (path_of-Spells text p e))

pub one_path : (text : List ℕ) (p q : List Segment) → Spells text p → Spells text q → p ≡ q
one_path text p q s t = one_value p q (Spells-path_of text p s) (Spells-path_of text q t)

-- ---- a text that spells a path isn't refused

tails : (xs ys : List ℕ) → ◌≡◌ {A = List ℕ} (36 ∷ xs) (36 ∷ ys) → xs ≡ ys
tails xs ys h = ap (drop 1) h

stops_unread : (before p : List Segment) (text rest : List ℕ) → Begins before text rest → IsFalse (length rest == 0) → cut_segment rest ≡ None → Begins p text [] → ⊥
stops_unread [] [] text rest b some none r = true≢false (subst (λ t. (length t == 0) ≡ false) (sym b ∙ r) some)
stops_unread [] (s ∷ p) text rest b some none r = none-some (s, r.0) (sym none ∙ ap cut_segment (sym b) ∙ r.1)
stops_unread (s ∷ before) [] text rest b some none r = none-some (s, b.0) (ap cut_segment (sym r) ∙ b.1)
stops_unread (s ∷ before) (q ∷ p) text rest b some none r =
    let same = same_Some (s, b.0) (q, r.0) (sym b.1 ∙ r.1) in
    stops_unread before p b.0 rest b.2 some none (subst (λ t. Begins p t []) (sym (ap (λ c. c.1) same)) r.2)

spelled_never_stops : (text : List ℕ) (p : List Segment) (b : ℕ) (rest : List ℕ) → Spells text p → StopsAt text b rest → ⊥
spelled_never_stops text p b rest s t =
    stops_unread t.before p t.segments rest t.front t.some t.none (subst (λ u. Begins p u []) (tails s.segments t.segments (sym s.dollar ∙ t.dollar)) s.all)

pub spelled_not_refused : (text : List ℕ) (p : List Segment) (f : PathFault) → Spells text p → IsRefusedPath text f → ⊥
spelled_not_refused text p NoDollar s r = none-some s.segments (sym r ∙ ap (after 36) s.dollar)
spelled_not_refused text p (BadSegment b) s r = spelled_never_stops text p b r.0 s r.1
spelled_not_refused text p (LeftOut b) s r = spelled_never_stops text p b r.0 s r.1

-- ---- a text that spells no path has exactly one refusal

stops_once : (before front : List Segment) (text rest other : List ℕ) → Begins before text rest → cut_segment rest ≡ None → Begins front text other → cut_segment other ≡ None → rest ≡ other
stops_once [] [] text rest other b m f n = sym b ∙ f
stops_once [] (s ∷ front) text rest other b m f n = absurd (none-some (s, f.0) (sym m ∙ ap cut_segment (sym b) ∙ f.1))
stops_once (s ∷ before) [] text rest other b m f n = absurd (none-some (s, b.0) (sym n ∙ ap cut_segment (sym f) ∙ b.1))
stops_once (s ∷ before) (q ∷ front) text rest other b m f n =
    let same = same_Some (s, b.0) (q, f.0) (sym b.1 ∙ f.1) in
    stops_once before front b.0 rest other b.2 m (subst (λ t. Begins front t other) (sym (ap (λ c. c.1) same)) f.2) n

same_rest : (text : List ℕ) (b c : ℕ) (rest other : List ℕ) → StopsAt text b rest → StopsAt text c other → rest ≡ other
same_rest text b c rest other s t =
    stops_once s.before t.before s.segments rest other s.front s.none (subst (λ u. Begins t.before u other) (tails t.segments s.segments (sym t.dollar ∙ s.dollar)) t.front) t.none

same_byte : (text : List ℕ) (b c : ℕ) (rest other : List ℕ) → StopsAt text b rest → StopsAt text c other → b ≡ c
same_byte text b c rest other s t = omega (arith, s.place, t.place, ap length (same_rest text b c rest other s t))

pub one_refusal : (text : List ℕ) (f g : PathFault) → IsRefusedPath text f → IsRefusedPath text g → f ≡ g
one_refusal text NoDollar NoDollar r s = refl
one_refusal text NoDollar (BadSegment c) r s = absurd (none-some s.1.segments (sym r ∙ ap (after 36) s.1.dollar))
one_refusal text NoDollar (LeftOut c) r s = absurd (none-some s.1.segments (sym r ∙ ap (after 36) s.1.dollar))
one_refusal text (BadSegment b) NoDollar r s = absurd (none-some r.1.segments (sym s ∙ ap (after 36) r.1.dollar))
one_refusal text (BadSegment b) (BadSegment c) r s = ap BadSegment (same_byte text b c r.0 s.0 r.1 s.1)
one_refusal text (BadSegment b) (LeftOut c) r s = absurd (false≢true (sym r.2 ∙ ap has_left_out (same_rest text b c r.0 s.0 r.1 s.1) ∙ s.2))
one_refusal text (LeftOut b) NoDollar r s = absurd (none-some r.1.segments (sym s ∙ ap (after 36) r.1.dollar))
one_refusal text (LeftOut b) (BadSegment c) r s = absurd (false≢true (sym s.2 ∙ ap has_left_out (same_rest text c b s.0 r.0 s.1 r.1) ∙ r.2))
one_refusal text (LeftOut b) (LeftOut c) r s = ap LeftOut (same_byte text b c r.0 s.0 r.1 s.1)

-- the segments go to the end of a text, or stop before it
record Stop (text : List ℕ) : Type 0 where
  rest : List ℕ
  before : List Segment
  front : Begins before text rest
  some : IsFalse (length rest == 0)
  none : cut_segment rest ≡ None
  short : length rest ≤ length text

abbrev Goes : List ℕ → Type 0
Goes text = ((p : List Segment) × Begins p text []) ⊎ Stop text

goes_on : (text : List ℕ) (c : Segment × List ℕ) → cut_segment text ≡ Some c → Goes c.1 → Goes text
goes_on text c h (inl g) = inl (c.0 ∷ g.0, (c.1, h, g.1))
goes_on text c h (inr s) = inr (record { rest = s.rest; before = c.0 ∷ s.before; front = (c.1, h, s.front); some = s.some; none = s.none; short = omega (arith, s.short, segment_rest text c h) })

goes : (n : ℕ) (text : List ℕ) → length text ≤ n → Goes text
goes n [] l = inl ([], refl)
goes zero (x ∷ t) l = absurd (omega arith)
goes (suc n) (x ∷ t) l = by (cut_segment (x ∷ t)) refl (λ c h. goes n c.1 (omega (arith, l, segment_rest (x ∷ t) c h)))
  where
    by : (o : Option (Segment × List ℕ)) → cut_segment (x ∷ t) ≡ o → ((c : Segment × List ℕ) → cut_segment (x ∷ t) ≡ Some c → Goes c.1) → Goes (x ∷ t)
    by None e k = inr (record { rest = x ∷ t; before = []; front = refl; some = ne_eqb (suc (length t)) 0 (λ e. absurd (omega (arith, e))); none = e; short = omega arith })
    by (Some c) e k = goes_on (x ∷ t) c e (k c e)

refused_at : (text segments : List ℕ) → text ≡ 36 ∷ segments → Stop segments → (f : PathFault) × IsRefusedPath text f
refused_at text segments dollar s = by (has_left_out s.rest) refl
  where
    stops : StopsAt text (length text - length s.rest) s.rest
    stops = record { segments = segments; before = s.before; dollar = dollar; front = s.front; some = s.some; none = s.none; place = omega (arith, s.short, ap length dollar) }

    by : (left_out : Bool) → has_left_out s.rest ≡ left_out → (f : PathFault) × IsRefusedPath text f
    by true e = (LeftOut (length text - length s.rest), (s.rest, stops, e))
    by false e = (BadSegment (length text - length s.rest), (s.rest, stops, e))

pub spelled_or_refused : (text : List ℕ) → ((p : List Segment) × Spells text p) ⊎ ((f : PathFault) × IsRefusedPath text f)
spelled_or_refused text = by (after 36 text) refl
  where
    by : (o : Option (List ℕ)) → after 36 text ≡ o → ((p : List Segment) × Spells text p) ⊎ ((f : PathFault) × IsRefusedPath text f)
    by None e = inr (NoDollar, e)
    by (Some segments) e = end (goes (length segments) segments (omega arith))
      where
        end : Goes segments → ((p : List Segment) × Spells text p) ⊎ ((f : PathFault) × IsRefusedPath text f)
        end (inl g) = inl (g.0, record { segments = segments; dollar = after_is 36 text segments e; all = g.1 })
        end (inr s) = inr (refused_at text segments (after_is 36 text segments e) s)
