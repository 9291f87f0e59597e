use Rattle.std.proofs.Common.{◌≡◌, ◌∙◌, ◌++◌, ◌∷◌, [], ℕ, List, None, Some, ap, subst, sym}
use Rattle.std.specs.Map.{lookup}
use Rattle.std.specs.Str.{bytes_eq}
use Rattle.indexmap.proofs.CallerLemmas.{insert_entry-new}
use Rattle.indexmap.specs.IndexMap.{get}
use Rattle.cl_base.specs.contracts.name.NamePartialEq.TheImpl.{eq-value}
use Rattle.cl_base.proofs.NameLemmas.{name_found, found_at}
use Rattle.rg_props.specs.Table.{GroupTable}
use Rattle.rg_props.specs.declared.group.Resource.{Resource}
use Rattle.rg_props.proofs.groups.Groups.create_resource.Goals as goal

pub returns-in-Ok-clause-ok : goal.returns-in-Ok-clause-ok
returns-in-Ok-clause-ok c =
    let free : get eq-value.it c.self.inside.resources c.args.r ≡ None = name_found c.args.r c.self.inside.resources.entries ∙ subst (λ (t : GroupTable). lookup (bytes_eq c.args.r) t.resources ≡ None) (sym c.self.view_is) c.requires in
    let last = insert_entry-new eq-value.it c.self.inside.resources c.args.r c.new-resource.result free in
    rw (← c.self.view_is)
    (ap (λ (es : List (List ℕ × Resource)). let t : GroupTable = record { version = c.self.inside.version; groups = c.self.inside.groups.entries; resources = es } in t)
    (c.in-Ok.ensures.entries ∙ last ∙ ap (λ (x : Resource). c.self.inside.resources.entries ++ (c.args.r, x) ∷ []) c.new-resource.ensures))

pub returns-in-Ok-clause-found : goal.returns-in-Ok-clause-found
returns-in-Ok-clause-found c = rw (← c.self.view_is, ← c.new-resource.ensures)
    (λ other. found_at c.args.r other c.self.inside.resources.entries c.insert.new.self.entries (Some c.new-resource.result) (c.in-Ok.ensures.updates.0 other))
