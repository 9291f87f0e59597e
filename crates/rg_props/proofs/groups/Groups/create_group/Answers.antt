use Rattle.std.proofs.Common.{◌≡◌, ◌∙◌, ◌++◌, ◌∷◌, [], ℕ, List, None, Some, ap, subst, sym}
use Rattle.std.specs.Map.{lookup}
use Rattle.std.specs.Str.{bytes_eq}
use Rattle.indexmap.proofs.CallerLemmas.{insert_entry-new}
use Rattle.indexmap.specs.IndexMap.{get}
use Rattle.cl_base.specs.contracts.name.NamePartialEq.TheImpl.{eq-value}
use Rattle.cl_base.proofs.NameLemmas.{name_found, found_at}
use Rattle.rg_props.specs.Table.{GroupTable}
use Rattle.rg_props.specs.declared.group.Group.{Group}
use Rattle.rg_props.proofs.groups.Groups.create_group.Goals as goal

pub returns-in-Ok-insert-clause-ok : goal.returns-in-Ok-insert-clause-ok
returns-in-Ok-insert-clause-ok c =
    let free : get eq-value.it c.self.inside.groups c.args.g ≡ None = name_found c.args.g c.self.inside.groups.entries ∙ subst (λ (t : GroupTable). lookup (bytes_eq c.args.g) t.groups ≡ None) (sym c.self.view_is) c.requires in
    let last = insert_entry-new eq-value.it c.self.inside.groups c.args.g c.in-Ok.group free in
    rw (← c.self.view_is)
    (ap (λ (es : List (List ℕ × Group)). let t : GroupTable = record { version = c.self.inside.version; groups = es; resources = c.self.inside.resources.entries } in t)
    (c.in-Ok-insert.ensures.entries ∙ last ∙ ap (λ (g : Group). c.self.inside.groups.entries ++ (c.args.g, g) ∷ []) c.in-Ok.ensures))

pub returns-in-Ok-insert-clause-found : goal.returns-in-Ok-insert-clause-found
returns-in-Ok-insert-clause-found c = rw (← c.self.view_is, ← c.in-Ok.ensures)
    (λ other. found_at c.args.g other c.self.inside.groups.entries c.insert.new.self.entries (Some c.in-Ok.group) (c.in-Ok-insert.ensures.updates.0 other))
