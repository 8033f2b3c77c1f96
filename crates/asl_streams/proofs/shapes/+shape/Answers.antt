use Rattle.std.proofs.Common.{◌≡◌, ◌-◌, ◌∷◌, Some, None, false, bytes_eq, length, codes, refl, sym, ap, ◌∙◌, subst, arith, rules}
use Rattle.std.proofs.lemmas.Slice.Eq.{bytes_eq-Decides}
use Rattle.std.proofs.lemmas.Result.{IfOk-weaker}
use Rattle.json.specs.Json.{read_key, value}
use Rattle.json.specs.Token.{Token}
use Rattle.json.proofs.Grammar.{value_is}
use Rattle.serde_json.specs.Read.{converted}
use Rattle.asl_model.specs.Tree as model
use Rattle.asl_tree.specs.Parsed.{spelled}
use Rattle.asl_tree.specs.View.{view}
use Rattle.asl_tree.specs.declared.Tree.{Bool as Truth, the_lemmas}
use Rattle.asl_tree.proofs.Parsed.{object_opened}
use Rattle.asl_numbered.specs.References.{shapes_given}
use Rattle.asl_numbered.specs.Reading.{IsRead}
use Rattle.asl_records.proofs.Meant.{still_there}
use Rattle.asl_streams.proofs.SpelledShapes.{keyword_gone_on, keywords_begun, keywords_over, mentions_begun, mentions_gone_on, mentions_over, mentions_shorter, properties_gone_on, spelling_are, spelling_read}
use Rattle.asl_streams.specs.Shaped.{others_view}
use Rattle.asl_tree.proofs.Views.{put}
use Rattle.asl_streams.proofs.shapes.+shape.Goals as goal

-- ---- a shape

pub next_shape-returns-in-Some-Bool-clause-number : goal.next_shape-returns-in-Some-Bool-clause-number
next_shape-returns-in-Some-Bool-clause-number t c =
    let b = c.in-Some-Bool.all in
    let is : c.args.tokens.now ≡ Token.boolean b ∷ c.next.new.self = grind arith in
    let seen : view (Truth b) ≡ model.Boolean b = search (rules, the_lemmas) in
    let spelled_so = ap (converted spelled) (ap (value c.args.levels) is ∙ value_is c.args.levels _) in
    IfOk-weaker c.read_tree.result _ _ (λ n read. record { tree = model.Boolean b; spelled = spelled_so; read = subst (λ u. IsRead c.args.reader.several (shapes_given c.args.shapes.now c.args.reader.listed) u c.read_tree.new.shapes n) seen read }) c.read_tree.ensures.number

pub next_shape-read-requires-clause-listed : goal.next_shape-read-requires-clause-listed
next_shape-read-requires-clause-listed t c = still_there c.args.shapes.now c.next_spelling.new.shapes c.in_ok-spelling-in-Some-BeginObject.ensures.keeps c.args.reader.listed c.requires.listed

pub next_shape-returns-in_ok-spelling-in-Some-BeginObject-clause-number : goal.next_shape-returns-in_ok-spelling-in-Some-BeginObject-clause-number
next_shape-returns-in_ok-spelling-in-Some-BeginObject-clause-number t c =
    let is : c.args.tokens.now ≡ Token.begin_object ∷ c.next.new.self = grind arith in
    let spelling = c.in_ok-spelling-in-Some-BeginObject in
    let several = c.args.reader.several in
    let listed = c.args.reader.listed in
    let start = c.args.shapes.now in
    let now = c.next_spelling.new.shapes in
    let read_so = spelling.ensures.spelling in
    let are = spelling_are several listed (c.args.levels - 1) c.next.new.self c.next_spelling.new.tokens start now spelling.spelling c.requires.listed spelling.ensures.keeps read_so in
    IfOk-weaker c.read.result _ _ (λ n read. spelling_read several listed c.args.levels c.args.tokens.now c.next.new.self c.next_spelling.new.tokens start now c.read.new.shapes spelling.spelling n c.requires.listed spelling.ensures.keeps (omega arith) is read_so read) (c.read.ensures.number read_so.fields are)

-- ---- properties

pub next_properties-returns-clause-properties : goal.next_properties-returns-clause-properties
next_properties-returns-clause-properties t c =
    let is : c.args.tokens.now ≡ Token.begin_object ∷ c.next.new.self = grind arith in
    IfOk-weaker c.next_mentions.result _ _ (λ m read. record {
      fields = read.fields;
      spelled = ap (λ ts. converted spelled (value c.args.levels ts)) is ∙ object_opened c.args.levels c.next.new.self c.next_mentions.new.tokens read.fields (omega arith) read.spelled;
      read = read.read;
    }) c.next_mentions.ensures.mentions

pub next_properties-returns-clause-shorter : goal.next_properties-returns-clause-shorter
next_properties-returns-clause-shorter t c =
    let is : c.args.tokens.now ≡ Token.begin_object ∷ c.next.new.self = grind arith in
    IfOk-weaker c.next_mentions.result _ _ (λ m less. omega (arith, ap length is, less)) c.next_mentions.ensures.shorter

-- ---- keywords

pub next_spelling-keywords-init : goal.next_spelling-keywords-init
next_spelling-keywords-init t c =
    keywords_begun c.args.reader.several c.args.reader.listed c.args.levels c.args.tokens.now c.args.shapes.now c.new-spelling.result c.new-spelling.ensures.others c.new-spelling.ensures.properties

pub next_spelling-next_properties-requires : goal.next_spelling-next_properties-requires
next_spelling-next_properties-requires t c = (omega arith, still_there c.args.shapes.now c.keywords.shapes c.keywords.invariant.keeps c.args.reader.listed c.requires.listed)

pub next_spelling-keywords-preserved-in-Continue-branch-2 : goal.next_spelling-keywords-preserved-in-Continue-branch-2
next_spelling-keywords-preserved-in-Continue-branch-2 t c =
    let l = c.keywords in
    let k = c.in-Ok-Some.name.now in
    let s = c.next_key.new.self in
    let theirs : k ≡ codes "properties" = (bytes_eq-Decides k (codes "properties")).0 (sym c.eq.ensures ∙ c.if-eq.true) in
    let named : read_key l.tokens ≡ Some (Some k, s) = grind arith in
    let key : read_key l.tokens ≡ Some (Some (codes "properties"), s) = subst (λ n. read_key l.tokens ≡ Some (Some n, s)) theirs named in
    let read = c.in_ok-properties-in-Ok-Some.ensures in
    let made = c.in_ok-put_properties-in-Ok-Some.ensures in
    properties_gone_on c.args.reader.several c.args.reader.listed c.args.levels c.args.tokens.now c.args.shapes.now l.shapes c.next_properties.new.shapes l.tokens s c.next_properties.new.tokens l.spelling c.put_properties.new.self c.in_ok-properties-in-Ok-Some.properties.entries
    c.requires.listed key read.properties read.shorter read.keeps made.others made.properties l.invariant

pub next_spelling-keywords-preserved : goal.next_spelling-keywords-preserved
next_spelling-keywords-preserved t c =
    let l = c.keywords in
    let k = c.in-Ok-Some.name.now in
    let s = c.next_key.new.self in
    let other : bytes_eq k (codes "properties") ≡ false = sym c.eq.ensures ∙ c.if-eq.false in
    let named : read_key l.tokens ≡ Some (Some k, s) = grind arith in
    let tree = c.in-Ok.ensures in
    let t = view c.in-Ok.tree in
    let others = c.in_ok-put-in-Ok.ensures.others ∙ ap (λ n. put n t (others_view l.spelling)) c.in_ok-name-in-Ok-Some.ensures.ok in
    keyword_gone_on c.args.reader.several c.args.reader.listed c.args.levels c.args.tokens.now c.args.shapes.now l.shapes l.tokens s c.next_tree.new.reader k t l.spelling c.put.new.self other named tree.tree tree.shorter others c.put.ensures.properties l.invariant

pub next_spelling-returns-in-Ok-None-clause-spelling : goal.next_spelling-returns-in-Ok-None-clause-spelling
next_spelling-returns-in-Ok-None-clause-spelling t c =
    let l = c.keywords in
    let s = c.next_key.new.self in
    let ended : read_key l.tokens ≡ Some (None, s) = grind arith in
    keywords_over c.args.reader.several c.args.reader.listed c.args.levels c.args.tokens.now c.args.shapes.now l.shapes l.tokens s l.spelling ended l.invariant

-- ---- mentions

pub next_mentions-next_shape-requires : goal.next_mentions-next_shape-requires
next_mentions-next_shape-requires t c = (omega arith, still_there c.args.shapes.now c.mentions.shapes c.mentions.invariant.keeps c.args.reader.listed c.requires.listed)

pub next_mentions-mentions-init : goal.next_mentions-mentions-init
next_mentions-mentions-init t c =
    mentions_begun c.args.reader.several c.args.reader.listed c.args.levels c.args.tokens.now c.args.shapes.now c.new-mentions.result.entries c.new-mentions.ensures.empty

pub next_mentions-mentions-preserved : goal.next_mentions-mentions-preserved
next_mentions-mentions-preserved t c =
    let l = c.mentions in
    let k = c.in-Ok-Some.name.now in
    let s = c.next_key.new.self in
    let named : read_key l.tokens ≡ Some (Some k, s) = grind arith in
    let read = c.in_ok-next_shape-in-Ok-Some.ensures in
    mentions_gone_on c.args.reader.several c.args.reader.listed c.args.levels c.args.tokens.now c.args.shapes.now l.shapes c.next_shape.new.shapes l.tokens s c.next_shape.new.tokens k c.in_ok-name-in-Ok-Some.name _ l.mentions.entries c.insert.new.self.entries
    c.requires.listed named c.in_ok-name-in-Ok-Some.ensures.ok refl read.number read.shorter read.keeps c.in_ok-insert-in-Ok-Some.ensures.entries l.invariant

pub next_mentions-returns-in-Ok-None-clause-mentions : goal.next_mentions-returns-in-Ok-None-clause-mentions
next_mentions-returns-in-Ok-None-clause-mentions t c =
    let l = c.mentions in
    let s = c.next_key.new.self in
    let ended : read_key l.tokens ≡ Some (None, s) = grind arith in
    mentions_over c.args.reader.several c.args.reader.listed c.args.levels c.args.tokens.now c.args.shapes.now l.shapes l.tokens s l.mentions.entries ended l.invariant

pub next_mentions-returns-in-Ok-None-clause-shorter : goal.next_mentions-returns-in-Ok-None-clause-shorter
next_mentions-returns-in-Ok-None-clause-shorter t c =
    let l = c.mentions in
    let s = c.next_key.new.self in
    let ended : read_key l.tokens ≡ Some (None, s) = grind arith in
    mentions_shorter c.args.reader.several c.args.reader.listed c.args.levels c.args.tokens.now c.args.shapes.now l.shapes l.tokens s l.mentions.entries ended l.invariant
