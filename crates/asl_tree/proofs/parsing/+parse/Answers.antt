use Rattle.std.proofs.Common.{◌≡◌, ◌-◌, ◌<◌, [], ◌∷◌, length, Some, None, string_bytes, sym, ap, ◌∙◌, arith, rules}
use Rattle.std.proofs.lemmas.Result.{IfOk-weaker}
use Rattle.json.specs.Token.{Token}
use Rattle.json.specs.Json.{after_end_array, read_key, items, value, parse_map}
use Rattle.json.specs.Reads.{token_of}
use Rattle.json.proofs.Grammar.{value_is, read_key-shorter}
use Rattle.serde_json.specs.Read.{converted}
use Rattle.asl_model.specs.Tree as model
use Rattle.asl_tree.specs.Parsed.{spelled, spelled_elements}
use Rattle.asl_tree.specs.View.{view, entries_view}
use Rattle.asl_tree.specs.declared.Tree.{Text, Bool, Null, the_lemmas}
use Rattle.asl_tree.proofs.Parsed.{array_opened, element_spelled, elements_over, field_found, fields_over, none_found, nothing_before, number_spelled, object_opened, tree_pushed, trees_before, trees_before_none}
use Rattle.asl_tree.proofs.Views.{entries_view-insert_entry, put}
use Rattle.asl_tree.proofs.Wholes.{view_list, view_object}
use Rattle.asl_tree.proofs.parsing.+parse.Goals as goal

pub next_tree-returns-in-Null-clause-tree : goal.next_tree-returns-in-Null-clause-tree
next_tree-returns-in-Null-clause-tree t c =
    let is : c.args.reader.now ≡ Token.null ∷ c.next.new.self = c.in-Some.ensures.value ∙ ap (λ k. token_of k ∷ c.next.new.self) c.in-Null.is in
    let seen : view Null ≡ model.Null = search (rules, the_lemmas) in
    ap (converted spelled) (ap (value c.args.levels) is ∙ value_is c.args.levels _) ∙ ap (λ u. Some (u, c.next.new.self)) (sym seen)

pub next_tree-returns-in-Bool-clause-tree : goal.next_tree-returns-in-Bool-clause-tree
next_tree-returns-in-Bool-clause-tree t c =
    let is : c.args.reader.now ≡ Token.boolean c.in-Bool.b ∷ c.next.new.self = c.in-Some.ensures.value ∙ ap (λ k. token_of k ∷ c.next.new.self) c.in-Bool.is in
    let seen : view (Bool c.in-Bool.b) ≡ model.Boolean c.in-Bool.b = search (rules, the_lemmas) in
    ap (converted spelled) (ap (value c.args.levels) is ∙ value_is c.args.levels _) ∙ ap (λ u. Some (u, c.next.new.self)) (sym seen)

pub next_tree-returns-in-Number-clause-tree : goal.next_tree-returns-in-Number-clause-tree
next_tree-returns-in-Number-clause-tree t c =
    let s = c.in-Number.text.now in
    let is : c.args.reader.now ≡ Token.number s ∷ c.next.new.self = c.in-Some.ensures.value ∙ ap (λ k. token_of k ∷ c.next.new.self) c.in-Number.is in
    IfOk-weaker c.integer_in.result _ _ (λ u e. ap (λ ts. converted spelled (value c.args.levels ts)) is ∙ number_spelled c.args.levels s c.next.new.self (view u) e) c.integer_in.ensures

pub next_tree-returns-in_ok-from_str-in-String-clause-tree :
    goal.next_tree-returns-in_ok-from_str-in-String-clause-tree
next_tree-returns-in_ok-from_str-in-String-clause-tree t c =
    let is : c.args.reader.now ≡ Token.string c.in-String.text.now ∷ c.next.new.self = c.in-Some.ensures.value ∙ ap (λ k. token_of k ∷ c.next.new.self) c.in-String.is in
    let seen : view (Text c.in_ok-from_str-in-String.field-0) ≡ model.Text c.in-String.text.now = search (rules, the_lemmas) in
    ap (converted spelled) (ap (value c.args.levels) is ∙ value_is c.args.levels _) ∙ ap (λ u. Some (u, c.next.new.self)) (sym seen)

pub next_tree-returns-in_ok-elements-in-BeginArray-clause-tree :
    goal.next_tree-returns-in_ok-elements-in-BeginArray-clause-tree
next_tree-returns-in_ok-elements-in-BeginArray-clause-tree t c =
    let is : c.args.reader.now ≡ Token.begin_array ∷ c.next.new.self = c.in-Some.ensures.value ∙ ap (λ k. token_of k ∷ c.next.new.self) c.in-BeginArray.is in
    let found = c.in_ok-elements-in-BeginArray in
    ap (λ ts. converted spelled (value c.args.levels ts)) is
    ∙ array_opened c.args.levels c.next.new.self c.elements.new.reader _ (omega arith) found.ensures.elements
    ∙ ap (λ u. Some (u, c.elements.new.reader)) (sym (view_list found.field-0))

pub next_tree-returns-in_ok-fields-in-BeginObject-clause-tree :
    goal.next_tree-returns-in_ok-fields-in-BeginObject-clause-tree
next_tree-returns-in_ok-fields-in-BeginObject-clause-tree t c =
    let is : c.args.reader.now ≡ Token.begin_object ∷ c.next.new.self = c.in-Some.ensures.value ∙ ap (λ k. token_of k ∷ c.next.new.self) c.in-BeginObject.is in
    let found = c.in_ok-fields-in-BeginObject in
    ap (λ ts. converted spelled (value c.args.levels ts)) is
    ∙ object_opened c.args.levels c.next.new.self c.fields.new.reader _ (omega arith) found.ensures.fields
    ∙ ap (λ u. Some (u, c.fields.new.reader)) (sym (view_object found.field-0))

pub elements-elements-init : goal.elements-elements-init
elements-elements-init t c =
    let all = converted spelled_elements (items (value c.args.levels) (length c.args.reader.now) c.args.reader.now) in
    (length c.args.reader.now, omega arith, nothing_before all ∙ ap (λ ts. parse_map (trees_before ts) all) (sym c.new-elements.ensures.items), omega arith)

pub elements-elements-preserved : goal.elements-elements-preserved
elements-elements-preserved t c =
    let p = value c.args.levels in
    let l = c.elements in
    let n = l.invariant.0 in
    let going : (after_end_array l.reader ≡ None) × (c.take_end_array.new.self ≡ l.reader) = c.elements-test.ensures in
    let tree = c.in_ok-element.element in
    let r = c.next_tree.new.reader in
    let less : length r < length l.reader = rw (← going.1) c.in_ok-element.ensures.shorter in
    let turn = element_spelled p n l.reader r (view tree) (omega (arith, l.invariant.1)) going.0 (rw (← going.1) c.in_ok-element.ensures.tree) in (
      n - 1,
      omega (arith, l.invariant.1),
      l.invariant.2 ∙ ap (parse_map (trees_before l.elements.items)) turn ∙ tree_pushed l.elements.items tree _
          ∙ ap (λ ts. parse_map (trees_before ts) (converted spelled_elements (items p (n - 1) r))) (sym c.in_ok-push.ensures.items),
      omega (arith, l.invariant.3),
    )

pub elements-returns-clause-elements : goal.elements-returns-clause-elements
elements-returns-clause-elements t c =
    let l = c.elements in
    let r = c.take_end_array.new.self in
    l.invariant.2 ∙ ap (parse_map (trees_before l.elements.items)) (elements_over (value c.args.levels) l.invariant.0 l.reader r l.invariant.1 c.elements-test.ensures)
    ∙ ap (λ ts. Some (ts, r)) (trees_before_none l.elements.items)

pub fields-fields-init : goal.fields-fields-init
fields-fields-init t c =
    let n = length c.args.reader.now in
    (n, omega arith, rw c.new-fields.ensures.empty (none_found (value c.args.levels) n c.args.reader.now), omega arith)

pub fields-fields-preserved : goal.fields-fields-preserved
fields-fields-preserved t c =
    let p = value c.args.levels in
    let l = c.fields in
    let n = l.invariant.0 in
    let k = c.in-Ok-Some.name.now in
    let s = c.next_key.new.self in
    let named : read_key l.reader ≡ Some (Some k, s) = grind arith in
    let tree = c.in_ok-tree-in-Ok-Some.tree in
    let r = c.next_tree.new.reader in
    let less = read_key-shorter l.reader (Some k) s named in
    let lesser = c.in_ok-tree-in-Ok-Some.ensures.shorter in
    let copied : string_bytes c.in_ok-name-in-Ok-Some.name ≡ k = search rules in
    let inserted : entries_view c.insert.new.self.entries ≡ put k (view tree) (entries_view l.fields.entries) =
    ap entries_view c.in_ok-insert-in-Ok-Some.ensures.entries ∙ entries_view-insert_entry l.fields.entries c.in_ok-name-in-Ok-Some.name tree ∙ ap (λ name. put name (view tree) (entries_view l.fields.entries)) copied in (
      n - 1,
      omega (arith, l.invariant.1),
      rw inserted (field_found p n k l.reader s r (view tree) _ _ (omega (arith, l.invariant.1)) named c.in_ok-tree-in-Ok-Some.ensures.tree l.invariant.2),
      omega (arith, l.invariant.3),
    )

pub fields-returns-in-Ok-None-clause-fields : goal.fields-returns-in-Ok-None-clause-fields
fields-returns-in-Ok-None-clause-fields t c =
    let l = c.fields in
    let r = c.next_key.new.self in
    let ended : read_key l.reader ≡ Some (None, r) = grind arith in
    fields_over (value c.args.levels) l.invariant.0 l.reader r (entries_view l.fields.entries) _ l.invariant.1 ended l.invariant.2
