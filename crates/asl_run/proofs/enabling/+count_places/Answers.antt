use Rattle.std.proofs.Common.{◌≡◌, ◌+◌, ◌<◌, ℕ, List, [], ap, arith, is_some, rules}
use mir.Val.{bool_byte}
use Rattle.asl_run.specs.Counting.{open_below_count, open_count}
use Rattle.asl_run.specs.Nodes.{range_of, shown_at}
use Rattle.asl_run.proofs.Counted.{alone_counted, child_few, one_counted, split_node_counted}
use Rattle.asl_run.proofs.enabling.+count_places.Goals as goal

pub count_places-count_places_below-requires : goal.count_places-count_places_below-requires
count_places-count_places_below-requires t c =
    let node = c.node-node.result.now in
    let range = c.node-node.ensures.table.ranges c.args.number.0 node c.in-Split.children c.node-node.ensures.node (ap range_of c.in-Split.is) in
    let behind = range.behind in
    let inside = c.requires.within in
    let own : c.from-own.result ≡ bool_byte (is_some c.wanted_by.result) = search rules in
    let whole = split_node_counted c.args.nodes.now c.node-node.ensures.table c.args.number.0 node c.in-Split.visit c.in-Split.children c.children.result.now c.wanted_by.result c.from-own.result c.node-node.ensures.node c.in-Split.is c.children.ensures (record { is = c.wanted_by.ensures }) own in
    let few : (names : List (List ℕ)) → open_below_count names c.args.nodes.now c.in-Split.children < 18446744073709551616 = λ names. omega (arith, whole names, c.requires.few names) in
    (omega arith, (record { table = c.node-node.ensures.table; few = c.node-node.ensures.few; within = range.within }, few))

pub count_places-overflow_add-result : goal.count_places-overflow_add-result
count_places-overflow_add-result t c =
    let own : c.from-own.result ≡ bool_byte (is_some c.wanted_by.result) = search rules in
    let whole = split_node_counted c.args.nodes.now c.node-node.ensures.table c.args.number.0 c.node-node.result.now c.in-Split.visit c.in-Split.children c.children.result.now c.wanted_by.result c.from-own.result c.node-node.ensures.node c.in-Split.is c.children.ensures (record { is = c.wanted_by.ensures }) own in
    omega (arith, whole [], c.count_places_below.ensures [], c.requires.few [])

pub count_places-returns-in-Split : goal.count_places-returns-in-Split
count_places-returns-in-Split t c =
    let own : c.from-own.result ≡ bool_byte (is_some c.wanted_by.result) = search rules in
    λ names.
    let whole = split_node_counted c.args.nodes.now c.node-node.ensures.table c.args.number.0 c.node-node.result.now c.in-Split.visit c.in-Split.children c.children.result.now c.wanted_by.result c.from-own.result c.node-node.ensures.node c.in-Split.is c.children.ensures (record { is = c.wanted_by.ensures }) own names in
    omega (arith, whole, c.count_places_below.ensures names)

pub count_places-returns-in-Ready : goal.count_places-returns-in-Ready
count_places-returns-in-Ready t c =
    alone_counted c.args.nodes.now c.node-node.ensures.table c.args.number.0 c.node-node.result.now c.children.result.now c.wanted_by.result c.from-own.result c.node-node.ensures.node (search rules) c.children.ensures (record { is = c.wanted_by.ensures }) (search rules)

pub count_places-returns-in-Ready-2 : goal.count_places-returns-in-Ready-2
count_places-returns-in-Ready-2 t c =
    alone_counted c.args.nodes.now c.node-node.ensures.table c.args.number.0 c.node-node.result.now c.children.result.now c.wanted_by.result c.from-own.result c.node-node.ensures.node (search rules) c.children.ensures (record { is = c.wanted_by.ensures }) (search rules)

pub count_places-returns-in-Ready-3 : goal.count_places-returns-in-Ready-3
count_places-returns-in-Ready-3 t c =
    alone_counted c.args.nodes.now c.node-node.ensures.table c.args.number.0 c.node-node.result.now c.children.result.now c.wanted_by.result c.from-own.result c.node-node.ensures.node (search rules) c.children.ensures (record { is = c.wanted_by.ensures }) (search rules)

pub count_places_below-count_places-counted-requires : goal.count_places_below-count_places-counted-requires
count_places_below-count_places-counted-requires t c =
    let l = c.loop-number in
    let range = c.requires.range in
    let within = range.within in
    let less = c.loop-number-test.true in
    let few : (names : List (List ℕ)) → open_count (shown_at names c.args.nodes.now (c.args.children.first.0 + l.number)) < 18446744073709551616 = λ names.
    let all = child_few c.args.nodes.now range.table c.args.children l.number l.counted _ within less l.invariant c.requires.few names in
    omega (arith, all) in
    (omega arith, (omega arith, few))

pub count_places_below-overflow_add-counted : goal.count_places_below-overflow_add-counted
count_places_below-overflow_add-counted t c =
    let l = c.loop-number in
    let range = c.requires.range in
    let few = child_few c.args.nodes.now range.table c.args.children l.number l.counted _ range.within c.loop-number-test.true l.invariant c.requires.few [] in
    omega (arith, few, c.count_places-counted.ensures [])

pub count_places_below-loop-number-preserved : goal.count_places_below-loop-number-preserved
count_places_below-loop-number-preserved t c =
    let l = c.loop-number in
    let range = c.requires.range in
    one_counted c.args.nodes.now range.table c.args.children l.number l.counted c.count_places-counted.result range.within c.loop-number-test.true l.invariant c.count_places-counted.ensures
