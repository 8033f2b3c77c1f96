-- What a refusal of one text comes to, and of which of the three.
use Rattle.std.proofs.Common.{◌≡◌, ℕ, List, Option, Some, None, option_map, IfSome, IsUtf8, refl, sym, subst}
use Rattle.std.specs.Option.{unwrap_or}
use Rattle.serde_json.specs.Data.{Data}
use Rattle.serde_json.specs.Read.{read}
use Rattle.asl_model.specs.Machine.{Scope}
use Rattle.asl_model.specs.Certificate.{Declared}
use Rattle.asl_model.specs.Records.{StandsForCertificate, StandsForDeclared}
use Rattle.asl_model.specs.StandsFor.{Complaint}
use Rattle.asl_model.specs.Json.{ReadsAsValue}
use Rattle.asl_model.specs.Texts.{Which, DefinitionText, DeclaredText, CertificateText, TextFault, NotJson, NotWhole, BadDefinition, BadRecord, BadAnswer, NoMemory, definition_no_json, definition_complaint, declared_no_json, declared_not_whole, declared_complaint, certificate_no_json, certificate_not_whole, certificate_complaint, definition_refused, declared_refused, certificate_refused, IsNoJson, ReadsAsMachine, ReadsAsDeclared, ReadsAsCertificate}
use Rattle.asl_machine.specs.Refusal.{IsRefused as IsRefusedValue, without_memory, for_broken_rule}
use Rattle.asl_records.specs.Numbered.{numbered_view}
use Rattle.asl_records.specs.Refusal.{IsDeclaredRefusal, IsCertificateRefusal}
use Rattle.asl_records.specs.View.{declared_view}
use Rattle.asl_records.specs.declared.records.Declared.{Declared as CodeDeclared}
use Rattle.asl_records.specs.declared.records.NumberedCertificate.{NumberedCertificate}
use Rattle.asl_records.specs.declared.refusals.ReadFault.{ReadFault}
use Rattle.asl_records.specs.declared.refusals.ReadFault.TheVariants as kept
use Rattle.asl_tree.specs.declared.TreeRefusal.{TreeRefusal}
use Rattle.asl_tree.specs.declared.TreeRefusal.TheVariants as tree
use Rattle.asl_texts.specs.Runs.{RefusesTree, tree_no_json, tree_not_whole, tree_no_memory}
use Rattle.asl_texts.specs.View.{which_view, text_fault_view, tree_refusal_view}
use Rattle.asl_texts.specs.declared.refusals.TextRefusal.{TextRefusal}
use Rattle.asl_texts.specs.Verifying.{IsRefusedAs, UnreadableStands, no_json, unread, record_fault_of, RefusesDefinition, definition_fault, definition_no_memory, RefusesDeclared, declared_fault, declared_no_memory, RefusesCertificate, certificate_fault, certificate_no_memory, IsRefused, fault_stands, definition_unread, declared_unread, certificate_unread}

-- ---- a refusal of one text

-- what holds of a text that is refused so holds of the refusal
pub as_told : (P : Which → TextFault → Type 0) (which : Which) (Stands : TextFault → Type 0) (refusal : TextRefusal) → ((f : TextFault) → Stands f → P which f) → IsRefusedAs which Stands refusal → P (which_view refusal.which) (text_fault_view refusal.fault)
as_told P which Stands refusal turn h = subst (λ w. P w (text_fault_view refusal.fault)) (sym h.0) (turn (text_fault_view refusal.fault) h.1)

-- ---- a text that gives no JSON value

pub unreadable : (text : List ℕ) (refusal : TreeRefusal) → (refusal ≡ tree.NotJson → IsNoJson text) → (refusal ≡ tree.NotWhole → ⊥) → UnreadableStands text (tree_refusal_view refusal)
unreadable text tree.NotJson none never = no_json (none refl)
unreadable text tree.NotWhole none never = absurd (never refl)
unreadable text tree.OutOfMemory none never = unread

pub unread-definition : (text : List ℕ) (f : TextFault) → UnreadableStands text f → RefusesDefinition text f
unread-definition text NotJson (no_json h) = definition_fault (definition_no_json h)
unread-definition text NotWhole x = elim x [ ]
unread-definition text (BadDefinition c) x = elim x [ ]
unread-definition text (BadRecord c) x = elim x [ ]
unread-definition text (BadAnswer n) x = elim x [ ]
unread-definition text NoMemory unread = definition_no_memory

-- ---- a text that gives no tree

pub no_tree-declared : (text : List ℕ) (f : TextFault) → RefusesTree text f → RefusesDeclared text f
no_tree-declared text NotJson (tree_no_json h) = declared_fault (declared_no_json h)
no_tree-declared text NotWhole (tree_not_whole reads none) = declared_fault (declared_not_whole reads none)
no_tree-declared text (BadDefinition c) x = elim x [ ]
no_tree-declared text (BadRecord c) x = elim x [ ]
no_tree-declared text (BadAnswer n) x = elim x [ ]
no_tree-declared text NoMemory tree_no_memory = declared_no_memory

pub no_tree-certificate : (text : List ℕ) (f : TextFault) → RefusesTree text f → RefusesCertificate text f
no_tree-certificate text NotJson (tree_no_json h) = certificate_fault (certificate_no_json h)
no_tree-certificate text NotWhole (tree_not_whole reads none) = certificate_fault (certificate_not_whole reads none)
no_tree-certificate text (BadDefinition c) x = elim x [ ]
no_tree-certificate text (BadRecord c) x = elim x [ ]
no_tree-certificate text (BadAnswer n) x = elim x [ ]
no_tree-certificate text NoMemory tree_no_memory = certificate_no_memory

-- ---- a value that is refused

pub refused-definition : (text : List ℕ) (v : Data) (told : Option Complaint) → ReadsAsValue text v → IsRefusedValue v told → RefusesDefinition text (unwrap_or (option_map BadDefinition told) NoMemory)
refused-definition text v None reads without_memory = definition_no_memory
refused-definition text v (Some c) reads (for_broken_rule h) = definition_fault (definition_complaint reads h)

pub refused-declared : (text : List ℕ) (v : Data) (fault : ReadFault) → ReadsAsValue text v → IsDeclaredRefusal v fault → RefusesDeclared text (record_fault_of fault)
refused-declared text v (kept.Record refusal) reads h = rw h.1 (declared_fault (declared_complaint reads h.2))
refused-declared text v kept.OutOfMemory reads h = declared_no_memory

pub refused-certificate : (text : List ℕ) (v : Data) (fault : ReadFault) → ReadsAsValue text v → IsCertificateRefusal v fault → RefusesCertificate text (record_fault_of fault)
refused-certificate text v (kept.Record refusal) reads h = rw h.1 (certificate_fault (certificate_complaint reads h.2))
refused-certificate text v kept.OutOfMemory reads h = certificate_no_memory

-- ---- a certificate that is read shape by shape

pub read_streamed : (text : List ℕ) (found : Option NumberedCertificate) → IsUtf8 text → IfSome found (λ certificate. (v : Data) × (read text ≡ Some v) × StandsForCertificate v (numbered_view certificate))
    → IfSome found (λ certificate. ReadsAsCertificate text (numbered_view certificate))
read_streamed text None utf8 h = tt
read_streamed text (Some certificate) utf8 h = record { value = h.0; reads = (utf8, h.1); stands = h.2 }

-- so declared shapes
pub read_streamed_declared : (text : List ℕ) (found : Option CodeDeclared) → IsUtf8 text → IfSome found (λ declared. (v : Data) × (read text ≡ Some v) × StandsForDeclared v (declared_view declared))
    → IfSome found (λ declared. ReadsAsDeclared text (declared_view declared))
read_streamed_declared text None utf8 h = tt
read_streamed_declared text (Some declared) utf8 h = record { value = h.0; reads = (utf8, h.1); stands = h.2 }

-- ---- which of the three texts

pub definition-first : (definition declared certificate : List ℕ) (f : TextFault) → RefusesDefinition definition f → IsRefused definition declared certificate DefinitionText f
definition-first definition declared certificate f (definition_fault h) = fault_stands (definition_refused h)
definition-first definition declared certificate NoMemory definition_no_memory = definition_unread

pub declared-first : (definition declared certificate : List ℕ) (machine : Scope) (f : TextFault) → ReadsAsMachine definition machine → RefusesDeclared declared f → IsRefused definition declared certificate DeclaredText f
declared-first definition declared certificate machine f m (declared_fault h) = fault_stands (declared_refused m h)
declared-first definition declared certificate machine NoMemory m declared_no_memory = declared_unread (record { machine = machine; as_machine = m })

-- there was no memory for the certificate, or to check it
pub no_memory_to_check : (definition declared certificate : List ℕ) (machine : Scope) (shapes : Declared) → ReadsAsMachine definition machine → ReadsAsDeclared declared shapes → IsRefused definition declared certificate CertificateText NoMemory
no_memory_to_check definition declared certificate machine shapes m d = certificate_unread (record { machine = machine; as_machine = m }) (record { shapes = shapes; as_declared = d })

pub certificate-first : (definition declared certificate : List ℕ) (machine : Scope) (shapes : Declared) (f : TextFault) → ReadsAsMachine definition machine → ReadsAsDeclared declared shapes → RefusesCertificate certificate f → IsRefused definition declared certificate CertificateText f
certificate-first definition declared certificate machine shapes f m d (certificate_fault h) = fault_stands (certificate_refused m d h)
certificate-first definition declared certificate machine shapes NoMemory m d certificate_no_memory = no_memory_to_check definition declared certificate machine shapes m d
