-- The templates of the definitions that those of the code stand for.
use Rattle.std.specs.Prelude.{List, [], ◌∷◌, map, String, string_bytes}
use Rattle.std.specs.declared.alloc.Global.{Global}
use Rattle.asl_model.specs.Intrinsic.{InInput, ItemIndex, InItem}
use Rattle.asl_model.specs.Template as model
use Rattle.asl_intrinsic.specs.View as calls
use Rattle.asl_tree.specs.View as trees
use Rattle.asl_template.specs.declared.template.Template.{Template, fold-Template}
use Rattle.asl_template.specs.declared.template.Template.TheOpen.{Template-F}

-- the templates of a list, as elements of an array
abbrev pub templates_of : List model.Template → model.Templates
templates_of [] = model.NoTemplates
templates_of (t ∷ ts) = model.AndTemplate t (templates_of ts)

-- a map's entries, in the order of their names, as fields
abbrev pub fields_from : List (String Global × model.Template) → model.FieldTemplates
fields_from [] = model.NoFieldTemplates
fields_from (e ∷ es) = model.AndFieldTemplate (string_bytes e.0) e.1 (fields_from es)

-- one level, with each template inside already seen
abbrev pub view_step : Template-F model.Template → model.Template
view_step (Template-F.Literal t) = model.Literal (trees.view t)
view_step (Template-F.Path p) = model.FromPath (InInput p)
view_step Template-F.ItemIndex = model.FromPath ItemIndex
view_step (Template-F.ItemValue p) = model.FromPath (InItem p)
view_step (Template-F.Call c) = model.FromCall (calls.view c)
view_step (Template-F.List v) = model.ArrayTemplate (templates_of v.items)
view_step (Template-F.Object m) = model.ObjectTemplate (fields_from m.entries)

-- the template
abbrev pub view : Template → model.Template
view = fold-Template model.Template view_step

-- the templates of a list, as elements
abbrev pub elements_view : List Template → model.Templates
elements_view ts = templates_of (map view ts)

-- the entries of a map, as fields
abbrev pub entries_view : List (String Global × Template) → model.FieldTemplates
entries_view es = fields_from (map (λ e. (e.0, view e.1)) es)
