-- A text has at most one meaning, and nothing is wrong with one that has a meaning.
use Rattle.std.proofs.Common.{◌≡◌, Bool, true, false, Option, Some, ◌⊎◌, inl, inr, ℕ, List, [], ◌∷◌, None, Contains, is_some, IsTrue, refl, ap, sym, subst, ◌∙◌, arith}
use Rattle.std.proofs.lemmas.Option.{none-some}
use Rattle.std.specs.Str.{is_utf8}
use Rattle.std.proofs.lemmas.Bool.{false≢true}
use Rattle.std.proofs.lemmas.Str.{IsUtf8-from_is_utf8, is_utf8-from_IsUtf8}
use Rattle.serde_json.specs.Data.{Data}
use Rattle.serde_json.specs.Read.{read}
use Rattle.asl_model.specs.Tree.{Tree}
use Rattle.asl_model.specs.Shape.{Shape}
use Rattle.asl_model.specs.Machine.{Scope}
use Rattle.asl_model.specs.Certificate.{Declared, Certificate}
use Rattle.asl_model.specs.Json.{ReadsAsValue, ReadsAsTree, tree_of}
use Rattle.asl_model.specs.ShapeSpelling.{SpellsShape, HasShapeFault, SpellsShapeV1, HasShapeFaultV1, ShapeFault, shape_of, shape_faults}
use Rattle.asl_model.specs.Records.{StandsForDeclared, StandsForCertificate, HasDeclaredFault, HasCertificateFault, RecordComplaint, declared_from, declared_complaints, certificate_from, certificate_complaints}
use Rattle.asl_model.specs.StandsFor.{StandsFor, HasComplaint, Complaint, complaints, scope_of}
use Rattle.asl_model.specs.Texts.{ReadsAsMachine, ReadsAsDeclared, ReadsAsCertificate, TextFault, NotJson, NotWhole, BadDefinition, BadRecord, IsNoJson, IsDefinitionFault, definition_no_json, definition_complaint, IsDeclaredFault, declared_no_json, declared_not_whole, declared_complaint, IsCertificateFault, certificate_no_json, certificate_not_whole, certificate_complaint}
use Rattle.asl_model.proofs.ReadingSteps.{one_value}

pub none_listed : {A : Type 0} (xs : List A) (x : A) → xs ≡ [] → Contains xs x → ⊥
none_listed xs x e c = absurd (omega (arith, (subst (λ ys. Contains ys x) e c).1))

pub value_is_one : (text : List ℕ) (v w : Data) → ReadsAsValue text v → ReadsAsValue text w → v ≡ w
value_is_one text v w r s = one_value v w r.1 s.1

pub tree_is_one : (text : List ℕ) (t u : Tree) → ReadsAsTree text t → ReadsAsTree text u → t ≡ u
tree_is_one text t u r s = one_value t u (ap tree_of (value_is_one text s.0 r.0 s.1 r.1) ∙ r.2) s.2

-- ---- shapes

pub shape_is_one : (t : Tree) (s u : Shape) → SpellsShape t s → SpellsShape t u → s ≡ u
shape_is_one t s u p q = sym p.same ∙ q.same

pub shape_has_no_fault : (t : Tree) (s : Shape) (f : ShapeFault) → SpellsShape t s → HasShapeFault t f → ⊥
shape_has_no_fault t s f p q = none_listed (shape_faults true t) f p.none_wrong q.listed

pub shape_is_one_v1 : (t : Tree) (s u : Shape) → SpellsShapeV1 t s → SpellsShapeV1 t u → s ≡ u
shape_is_one_v1 t s u p q = sym p.same ∙ q.same

pub shape_has_no_fault_v1 : (t : Tree) (s : Shape) (f : ShapeFault) → SpellsShapeV1 t s → HasShapeFaultV1 t f → ⊥
shape_has_no_fault_v1 t s f p q = none_listed (shape_faults false t) f p.none_wrong q.listed

-- ---- values

pub machine_is_one : (v : Data) (m n : Scope) → StandsFor v m → StandsFor v n → m ≡ n
machine_is_one v m n p q = sym p.same ∙ q.same

pub machine_has_no_fault : (v : Data) (m : Scope) (c : Complaint) → StandsFor v m → HasComplaint v c → ⊥
machine_has_no_fault v m c p q = none_listed _ c p.none_wrong q.listed

pub declared_is_one : (v : Data) (d e : Declared) → StandsForDeclared v d → StandsForDeclared v e → d ≡ e
declared_is_one v d e p q = sym p.same ∙ q.same

pub declared_has_no_fault : (v : Data) (d : Declared) (c : RecordComplaint) → StandsForDeclared v d → HasDeclaredFault v c → ⊥
declared_has_no_fault v d c p q = none_listed _ c p.none_wrong q.listed

pub certificate_is_one : (v : Data) (d e : Certificate) → StandsForCertificate v d → StandsForCertificate v e → d ≡ e
certificate_is_one v d e p q = sym p.same ∙ q.same

pub certificate_has_no_fault : (v : Data) (d : Certificate) (c : RecordComplaint) → StandsForCertificate v d → HasCertificateFault v c → ⊥
certificate_has_no_fault v d c p q = none_listed _ c p.none_wrong q.listed

-- ---- texts

pub text_has_one_machine : (text : List ℕ) (m n : Scope) → ReadsAsMachine text m → ReadsAsMachine text n → m ≡ n
text_has_one_machine text m n r s = sym r.stands.same ∙ ap scope_of (value_is_one text r.value s.value r.reads s.reads) ∙ s.stands.same

pub text_has_one_declared : (text : List ℕ) (d e : Declared) → ReadsAsDeclared text d → ReadsAsDeclared text e → d ≡ e
text_has_one_declared text d e r s = sym r.stands.same ∙ ap declared_from (value_is_one text r.value s.value r.reads s.reads) ∙ s.stands.same

pub text_has_one_certificate : (text : List ℕ) (d e : Certificate) → ReadsAsCertificate text d → ReadsAsCertificate text e → d ≡ e
text_has_one_certificate text d e r s = sym r.stands.same ∙ ap certificate_from (value_is_one text r.value s.value r.reads s.reads) ∙ s.stands.same

never_whole : (v w : Data) → v ≡ w → tree_of v ≡ None → IsTrue (is_some (tree_of w)) → ⊥
never_whole v w e n t = false≢true (ap is_some (sym n ∙ ap tree_of e) ∙ t)

pub definition_has_no_fault : (text : List ℕ) (m : Scope) (f : TextFault) → ReadsAsMachine text m → IsDefinitionFault text f → ⊥
definition_has_no_fault text m f r (definition_no_json none) = none r.value r.reads
definition_has_no_fault text m f r (definition_complaint {v = v} {c = c} s h) = machine_has_no_fault v m c (subst (λ w. StandsFor w m) (value_is_one text r.value v r.reads s) r.stands) h

pub declared_text_has_no_fault : (text : List ℕ) (d : Declared) (f : TextFault) → ReadsAsDeclared text d → IsDeclaredFault text f → ⊥
declared_text_has_no_fault text d f r (declared_no_json none) = none r.value r.reads
declared_text_has_no_fault text d f r (declared_not_whole {v = v} s n) = never_whole v r.value (value_is_one text v r.value s r.reads) n r.stands.whole
declared_text_has_no_fault text d f r (declared_complaint {v = v} {c = c} s h) = declared_has_no_fault v d c (subst (λ w. StandsForDeclared w d) (value_is_one text r.value v r.reads s) r.stands) h

pub certificate_text_has_no_fault : (text : List ℕ) (d : Certificate) (f : TextFault) → ReadsAsCertificate text d → IsCertificateFault text f → ⊥
certificate_text_has_no_fault text d f r (certificate_no_json none) = none r.value r.reads
certificate_text_has_no_fault text d f r (certificate_not_whole {v = v} s n) = never_whole v r.value (value_is_one text v r.value s r.reads) n r.stands.whole
certificate_text_has_no_fault text d f r (certificate_complaint {v = v} {c = c} s h) = certificate_has_no_fault v d c (subst (λ w. StandsForCertificate w d) (value_is_one text r.value v r.reads s) r.stands) h

-- ---- every value and every text has a meaning or a fault

pub first_listed : {A : Type 0} (xs : List A) → (xs ≡ []) ⊎ ((x : A) × Contains xs x)
first_listed [] = inl refl
first_listed (x ∷ xs) = inr (x, (0, omega arith, refl))

pub stands_or_complains : (v : Data) → ((m : Scope) × StandsFor v m) ⊎ ((c : Complaint) × HasComplaint v c)
stands_or_complains v = by (first_listed (complaints v))
  where
    by : (complaints v ≡ []) ⊎ ((c : Complaint) × Contains (complaints v) c) → ((m : Scope) × StandsFor v m) ⊎ ((c : Complaint) × HasComplaint v c)
    by (inl e) = inl (scope_of v, record { none_wrong = e; same = refl })
    by (inr c) = inr (c.0, record { listed = c.1 })

pub spells_or_has_fault : (t : Tree) → ((s : Shape) × SpellsShape t s) ⊎ ((f : ShapeFault) × HasShapeFault t f)
spells_or_has_fault t = by (first_listed (shape_faults true t))
  where
    by : (shape_faults true t ≡ []) ⊎ ((f : ShapeFault) × Contains (shape_faults true t) f) → ((s : Shape) × SpellsShape t s) ⊎ ((f : ShapeFault) × HasShapeFault t f)
    by (inl e) = inl (shape_of t, record { none_wrong = e; same = refl })
    by (inr c) = inr (c.0, record { listed = c.1 })

pub spells_or_has_fault_v1 : (t : Tree) → ((s : Shape) × SpellsShapeV1 t s) ⊎ ((f : ShapeFault) × HasShapeFaultV1 t f)
spells_or_has_fault_v1 t = by (first_listed (shape_faults false t))
  where
    by : (shape_faults false t ≡ []) ⊎ ((f : ShapeFault) × Contains (shape_faults false t) f) → ((s : Shape) × SpellsShapeV1 t s) ⊎ ((f : ShapeFault) × HasShapeFaultV1 t f)
    by (inl e) = inl (shape_of t, record { none_wrong = e; same = refl })
    by (inr c) = inr (c.0, record { listed = c.1 })

-- the text reads as a value, or is no JSON
pub value_or_none : (text : List ℕ) → ((v : Data) × ReadsAsValue text v) ⊎ IsNoJson text
value_or_none text = by (is_utf8 text) (read text) refl refl
  where
    by : (u : Bool) (o : Option Data) → is_utf8 text ≡ u → read text ≡ o → ((v : Data) × ReadsAsValue text v) ⊎ IsNoJson text
    by false o e f = inr (λ v r. false≢true (sym e ∙ is_utf8-from_IsUtf8 text r.0))
    by true None e f = inr (λ v r. none-some v (sym f ∙ r.1))
    by true (Some v) e f = inl (v, (IsUtf8-from_is_utf8 text e, f))

pub definition_or_fault : (text : List ℕ) → ((m : Scope) × ReadsAsMachine text m) ⊎ ((f : TextFault) × IsDefinitionFault text f)
definition_or_fault text = by (value_or_none text)
  where
    stands : (v : Data) → ReadsAsValue text v → ((m : Scope) × StandsFor v m) ⊎ ((c : Complaint) × HasComplaint v c) → ((m : Scope) × ReadsAsMachine text m) ⊎ ((f : TextFault) × IsDefinitionFault text f)
    stands v r (inl m) = inl (m.0, record { value = v; reads = r; stands = m.1 })
    stands v r (inr c) = inr (BadDefinition c.0, definition_complaint r c.1)

    by : ((v : Data) × ReadsAsValue text v) ⊎ IsNoJson text → ((m : Scope) × ReadsAsMachine text m) ⊎ ((f : TextFault) × IsDefinitionFault text f)
    by (inl v) = stands v.0 v.1 (stands_or_complains v.0)
    by (inr none) = inr (NotJson, definition_no_json none)

pub declared_or_fault : (text : List ℕ) → ((d : Declared) × ReadsAsDeclared text d) ⊎ ((f : TextFault) × IsDeclaredFault text f)
declared_or_fault text = by (value_or_none text)
  where
    whole : (v : Data) → ReadsAsValue text v → (o : Option Tree) → tree_of v ≡ o → (declared_complaints v ≡ []) ⊎ ((c : RecordComplaint) × Contains (declared_complaints v) c) → ((d : Declared) × ReadsAsDeclared text d) ⊎ ((f : TextFault) × IsDeclaredFault text f)
    whole v r None e f = inr (NotWhole, declared_not_whole r e)
    whole v r (Some t) e (inl f) = inl (declared_from v, record { value = v; reads = r; stands = record { whole = ap is_some e; none_wrong = f; same = refl } })
    whole v r (Some t) e (inr c) = inr (BadRecord c.0, declared_complaint r (record { listed = c.1 }))

    by : ((v : Data) × ReadsAsValue text v) ⊎ IsNoJson text → ((d : Declared) × ReadsAsDeclared text d) ⊎ ((f : TextFault) × IsDeclaredFault text f)
    by (inl v) = whole v.0 v.1 (tree_of v.0) refl (first_listed (declared_complaints v.0))
    by (inr none) = inr (NotJson, declared_no_json none)

pub certificate_or_fault : (text : List ℕ) → ((d : Certificate) × ReadsAsCertificate text d) ⊎ ((f : TextFault) × IsCertificateFault text f)
certificate_or_fault text = by (value_or_none text)
  where
    whole : (v : Data) → ReadsAsValue text v → (o : Option Tree) → tree_of v ≡ o → (certificate_complaints v ≡ []) ⊎ ((c : RecordComplaint) × Contains (certificate_complaints v) c) → ((d : Certificate) × ReadsAsCertificate text d) ⊎ ((f : TextFault) × IsCertificateFault text f)
    whole v r None e f = inr (NotWhole, certificate_not_whole r e)
    whole v r (Some t) e (inl f) = inl (certificate_from v, record { value = v; reads = r; stands = record { whole = ap is_some e; none_wrong = f; same = refl } })
    whole v r (Some t) e (inr c) = inr (BadRecord c.0, certificate_complaint r (record { listed = c.1 }))

    by : ((v : Data) × ReadsAsValue text v) ⊎ IsNoJson text → ((d : Certificate) × ReadsAsCertificate text d) ⊎ ((f : TextFault) × IsCertificateFault text f)
    by (inl v) = whole v.0 v.1 (tree_of v.0) refl (first_listed (certificate_complaints v.0))
    by (inr none) = inr (NotJson, certificate_no_json none)
