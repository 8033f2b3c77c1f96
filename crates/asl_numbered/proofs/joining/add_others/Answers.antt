use Rattle.std.proofs.Common.{◌≡◌, ◌||◌, true, false, sym, refl, is_some}
use Rattle.std.specs.BTreeMap.{is_at}
use Rattle.std.specs.Iterator.Adapters.{rev_source}
use Rattle.std.specs.Map.{lookup}
use Rattle.asl_numbered.proofs.Parts.{Entry, other_added, other_dropped, all_added}
use Rattle.asl_numbered.proofs.joining.add_others.Goals as goal
use Rattle.asl_numbered.proofs.joining.add_others.Goals.{else-not-extra-via-then-not-extra+else-not-contains_key, else-not-extra-via-else-not-extra}
use Rattle.asl_numbered.specs.Names.{name_cmp}

pub loop-name-preserved-then-not-contains_key : goal.loop-name-preserved-then-not-contains_key
loop-name-preserved-then-not-contains_key c =
    let l = c.loop-name in
    let e : Entry = (c.in-Some.name.now, c.in-Some.other.now) in
    let fields = c.args.fields.now.entries in
    let absent : is_some (lookup (is_at (name_cmp e.0)) fields) ≡ false = sym c.if-not-contains_key.ensures in
    other_added fields c.args.extra c.args.others.now.entries (rev_source l.name-iterator) (rev_source c.next.new.self) e c.args.joined.now.entries l.joined.entries c.in-Some.ensures.steps l.invariant c.in_ok-key.key c.optional.result c.insert.new.self.entries c.if-not-extra.true absent c.in_ok-key.ensures.cases c.optional.ensures.needed c.optional.ensures.same c.insert.ensures.was_ordered c.in_ok-insert.ensures.entries

pub loop-name-preserved : goal.loop-name-preserved
loop-name-preserved c =
    let l = c.loop-name in
    let e : Entry = (c.in-Some.name.now, c.in-Some.other.now) in
    let fields = c.args.fields.now.entries in
    let there : (c.args.extra || is_some (lookup (is_at (name_cmp e.0)) fields)) ≡ true = elim c.else-not-extra.branch [ else-not-extra-via-then-not-extra+else-not-contains_key w ↦ rw w.if-not-extra.true (sym w.if-not-contains_key.ensures) | else-not-extra-via-else-not-extra w ↦ rw w.if-not-extra.false refl ] in
    other_dropped fields c.args.extra c.args.others.now.entries (rev_source l.name-iterator) (rev_source c.next.new.self) e c.args.joined.now.entries l.joined.entries c.in-Some.ensures.steps l.invariant there

pub returns : goal.returns
returns c = record {
  added = all_added c.args.fields.now.entries c.args.extra c.args.others.now.entries (rev_source c.loop-name.name-iterator) c.args.joined.now.entries c.loop-name.joined.entries c.in-None.ensures.steps.0 c.loop-name.invariant;
}
