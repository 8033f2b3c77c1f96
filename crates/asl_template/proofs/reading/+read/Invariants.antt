use Rattle.std.proofs.Common.{◌≡◌, true, List, ◌++◌, map, take, drop}
use Rattle.asl_model.specs.ShapeSpelling.{are_distinct}
use Rattle.asl_model.specs.TemplateSpelling.{part_of, parts_faults, field_templates_of, fields_faults, renamed_names}
use Rattle.asl_tree.specs.Values.{tree_in, elements_in, fields_in}
use Rattle.asl_template.proofs.Members.{Member}
use Rattle.asl_template.specs.View.{view, entries_view}
use Rattle.asl_template.proofs.reading.+read.Given as goal

abbrev pub invariant-read_elements-loop-element : goal.invariant-read_elements-loop-element
invariant-read_elements-loop-element l = record {
  templates : map view l.templates.items ≡ map (λ t. part_of l.item (tree_in t)) (take l.element-index l.elements);
  faults : parts_faults l.item (elements_in l.elements) ≡ parts_faults l.item (elements_in (drop l.element-index l.elements));
}

abbrev pub invariant-read_fields-loop-name : goal.invariant-read_fields-loop-name
invariant-read_fields-loop-name l = record {
  done : List Member;
  whole : l.members.entries ≡ done ++ l.name-iterator;
  templates : entries_view l.templates.entries ≡ field_templates_of l.item (fields_in done);
  distinct : are_distinct (renamed_names (fields_in done)) ≡ true;
  faults : fields_faults l.item (fields_in l.members.entries) ≡ fields_faults l.item (fields_in l.name-iterator);
}
