use Rattle.std.proofs.Common.{◌≡◌, true, Bool, refl, sym, ap, ◌∙◌, None, string_bytes}
use Rattle.std.specs.Map.{lookup}
use Rattle.std.specs.BTreeMap.{is_at, insert_entry}
use Rattle.std.specs.String.{string_cmp}
use Rattle.asl_model.specs.Shape as model
use Rattle.asl_model.specs.ShapeSpelling.{with_needed}
use Rattle.asl_shape.specs.View.{view, fields_view}
use Rattle.asl_shape.specs.declared.shape.Field.{Field}
use Rattle.asl_shape.specs.declared.shape.Shape.TheViews.{roll-Field}
use Rattle.asl_shape.proofs.Sights.{inserted_proper, set_proper}
use Rattle.asl_shape.proofs.Requiring.{needed_found, needed_new, same_key}
use Rattle.asl_shape.proofs.reading.require.Goals as goal

abbrev show : Field → Bool × model.Shape
show f = (f.needed, view f.shape)

pub returns-in-Some-clause-needed : goal.returns-in-Some-clause-needed
returns-in-Some-clause-needed c =
    let w = roll-Field (record { needed = true; shape = c.in-Some.field.now.shape }) in
    ap fields_view (c.get_mut.follows.holds w).0 ∙ needed_found show c.args.extra c.args.name.now c.in-Some.field.now w c.args.fields.now.entries refl refl (sym c.in-Some.ensures.value)

pub returns-clause-needed : goal.returns-clause-needed
returns-clause-needed c =
    let es = c.args.fields.now.entries in
    let key = c.in_ok-key.key in
    let named : string_bytes key ≡ string_bytes c.args.name.now = c.in_ok-key.ensures.cases in
    let field = roll-Field (record { needed = true; shape = c.unmentioned.result }) in
    let none : lookup (is_at (string_cmp key)) es ≡ None = same_key show key c.args.name.now es named (sym c.in_default.ensures.value) in
    let inserted : c.insert.new.self.entries ≡ insert_entry string_cmp es key field = c.in_ok-insert.ensures.entries ∙ ap (λ m. insert_entry string_cmp m.entries key field) c.get_mut.follows.holds-at-none in
    ap fields_view inserted ∙ needed_new show c.args.extra key field es refl c.unmentioned.ensures.shape none ∙ ap (λ n. with_needed c.args.extra n (fields_view es)) named

pub returns-in-Some-clause-proper : goal.returns-in-Some-clause-proper
returns-in-Some-clause-proper c proper =
    let w = roll-Field (record { needed = true; shape = c.in-Some.field.now.shape }) in
    set_proper (is_at (string_cmp c.args.name.now)) c.args.fields.now.entries c.in-Some.field.now w _ refl (sym c.in-Some.ensures.value) proper (c.get_mut.follows.holds w).0

pub returns-clause-proper : goal.returns-clause-proper
returns-clause-proper c proper =
    let es = c.args.fields.now.entries in
    let key = c.in_ok-key.key in
    let field = roll-Field (record { needed = true; shape = c.unmentioned.result }) in
    let inserted : c.insert.new.self.entries ≡ insert_entry string_cmp es key field = c.in_ok-insert.ensures.entries ∙ ap (λ m. insert_entry string_cmp m.entries key field) c.get_mut.follows.holds-at-none in
    inserted_proper es _ key field proper c.unmentioned.ensures.proper inserted
