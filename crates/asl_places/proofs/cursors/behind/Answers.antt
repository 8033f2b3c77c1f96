use Rattle.std.proofs.Common.{◌+◌, map, drop, get_or, Some, option_map, sym, ap, ◌∙◌, subst, arith}
use Rattle.std.proofs.lemmas.List.{get_or_default, length-map}
use Rattle.json.specs.Json.{value}
use Rattle.json.specs.Tape.{node_token, LinkAt}
use Rattle.json.specs.declared.tape.Node.TheVariants.{Object, Null}
use Rattle.asl_places.proofs.Reading.{drop-node_token, leaf_passed, link_passed, no_brace, no_bracket}
use Rattle.asl_places.proofs.Steps.{LeadsBehind}
use Rattle.asl_places.proofs.cursors.behind.Goals as goal

-- The node's link leads behind the value.
pub returns-in-Object : goal.returns-in-Object
returns-in-Object c =
    let nodes = c.args.nodes.now in
    let tokens = map node_token nodes in
    let link = subst (LinkAt tokens c.args.at) (get_or_default nodes c.args.at Null (Object 0) c.requires.inside ∙ c.in-Object.is) (c.requires.links c.args.at (omega arith) c.requires.inside) in
    record {
      value = λ depth j rest e. link_passed tokens c.args.at c.in-Object.end depth j rest link e;
      passes = λ has. link;
      later = link.2;
      inside = omega (arith, link.3, length-map nodes node_token);
    }

pub returns-in-Array : goal.returns-in-Array
returns-in-Array c =
    let nodes = c.args.nodes.now in
    let tokens = map node_token nodes in
    let link = subst (LinkAt tokens c.args.at) (get_or_default nodes c.args.at Null (Object 0) c.requires.inside ∙ c.in-Array.is) (c.requires.links c.args.at (omega arith) c.requires.inside) in
    record {
      value = λ depth j rest e. link_passed tokens c.args.at c.in-Array.end depth j rest link e;
      passes = λ has. link;
      later = link.2;
      inside = omega (arith, link.3, length-map nodes node_token);
    }

-- Any other value has one token.
pub returns-in_default : goal.returns-in_default
returns-in_default c =
    let nodes = c.args.nodes.now in
    let tokens = map node_token nodes in
    let node = get_or nodes c.args.at (Object 0) in
    let after = drop (c.args.at + 1) tokens in
    let first = drop-node_token nodes c.args.at (Object 0) c.requires.inside in
    let leads : LeadsBehind nodes c.args.at (c.args.at + 1) = λ depth j rest e. leaf_passed (node_token node) after depth j rest (no_brace node c.in_default.not-Object) (no_bracket node c.in_default.not-Array) (ap (value depth) (sym first) ∙ e) in
    record {
      value = leads;
      passes = λ has. (has.1.0, ap (option_map (λ p. p.1)) has.1.2 ∙ ap Some (leads has.1.0 has.0 has.1.1 has.1.2), omega arith, omega (arith, length-map nodes node_token));
      later = omega arith;
      inside = omega arith;
    }
