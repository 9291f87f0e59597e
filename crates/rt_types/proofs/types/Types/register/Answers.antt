use Rattle.std.proofs.Common.{◌≡◌, ◌∙◌, None, Some}
use Rattle.indexmap.proofs.CallerLemmas.{insert_entry-new}
use Rattle.indexmap.specs.IndexMap.{get}
use Rattle.cl_base.specs.contracts.name.NamePartialEq.TheImpl.{eq-value}
use Rattle.cl_base.proofs.NameLemmas.{name_found, found_at}
use Rattle.rt_types.proofs.types.Types.register.Goals as goal
use Rattle.rt_types.proofs.types.Types.register.Goals.{in-Ok, in-Err}

pub returns-clause-ok : goal.returns-clause-ok
returns-clause-ok c =
    let free : get eq-value.it c.self.inside.types c.args.name ≡ None = name_found c.args.name c.self.inside.types.entries ∙ rw c.self.view_is c.requires in
    let last = insert_entry-new eq-value.it c.self.inside.types c.args.name c.args.t free in
    elim c.match-insert.branch [
      | in-Ok w ↦ let h = rw w.in-Ok.is at c.insert.ensures.entries in rw (w.result-is, ← c.self.view_is) (h ∙ last)
      | in-Err w ↦ rw w.result-is tt
    ]

pub returns-clause-found : goal.returns-clause-found
returns-clause-found c =
    elim c.match-insert.branch [
      | in-Ok w ↦ let h = rw w.in-Ok.is at c.insert.ensures.updates in rw (w.result-is, ← c.self.view_is)
          (λ other. found_at c.args.name other c.self.inside.types.entries c.insert.new.self.entries (Some c.args.t) (h.0 other))
      | in-Err w ↦ rw w.result-is tt
    ]
