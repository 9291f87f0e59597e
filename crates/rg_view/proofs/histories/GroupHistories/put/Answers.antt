use Rattle.std.proofs.Common.{◌≡◌, ◌∙◌, subst, sym}
use Rattle.std.specs.Map.{values_of}
use Rattle.rg_view.specs.Histories.{place_of_history}
use Rattle.rg_view.specs.Tables.{IsKeyed}
use Rattle.rg_view.proofs.Tables as tables
use Rattle.rg_view.proofs.histories.GroupHistories.put.Goals as goal

pub invariant_of-self : goal.invariant_of-self
invariant_of-self c =
    let h = rw c.in-Ok.is at c.insert.ensures.entries in
    record {
      keyed = subst (IsKeyed place_of_history) (sym h) (tables.put_keyed place_of_history c.args.h c.self.inside.histories.entries c.self.invariant.keyed);
      apart = c.insert.ensures.unique;
    }

pub returns-in-Ok-clause-ok : goal.returns-in-Ok-clause-ok
returns-in-Ok-clause-ok c =
    let h = rw c.in-Ok.is at c.insert.ensures.entries in
    rw (← c.self.view_is, h) (tables.put place_of_history c.args.h c.self.inside.histories.entries c.self.invariant.keyed)

pub returns-in-Ok-clause-found : goal.returns-in-Ok-clause-found
returns-in-Ok-clause-found c =
    let h = rw c.in-Ok.is at c.insert.ensures.entries in
    rw (← c.self.view_is, h, tables.put place_of_history c.args.h c.self.inside.histories.entries c.self.invariant.keyed)
    (tables.put_finds place_of_history c.args.h (values_of c.self.inside.histories.entries))
