use Rattle.std.proofs.Common.{◌≡◌, ◌∙◌, subst, sym}
use Rattle.std.specs.Map.{values_of}
use Rattle.rg_view.specs.States.{place_of_state}
use Rattle.rg_view.specs.Tables.{IsKeyed}
use Rattle.rg_view.proofs.Tables as tables
use Rattle.rg_view.proofs.states.ResourceStates.put.Goals as goal
use Rattle.rg_view.proofs.states.ResourceStates.put.Goals.{in-Ok, in-Err}

pub invariant_of-self : goal.invariant_of-self
invariant_of-self c = record {
  keyed = elim c.match-insert.branch [
    | in-Ok w ↦ let h = rw w.in-Ok.is at c.insert.ensures.entries in
        subst (IsKeyed place_of_state) (sym h) (tables.put_keyed place_of_state c.args.s c.self.inside.states.entries c.self.invariant.keyed)
    | in-Err w ↦ let h = rw w.in-Err.is at c.insert.ensures.err in subst (IsKeyed place_of_state) (sym h) c.self.invariant.keyed
  ];
  apart = c.insert.ensures.unique;
}

pub returns-clause-ok : goal.returns-clause-ok
returns-clause-ok c = elim c.match-insert.branch [
  | in-Ok w ↦ let h = rw w.in-Ok.is at c.insert.ensures.entries in rw (w.result-is, ← c.self.view_is, h)
      (tables.put place_of_state c.args.s c.self.inside.states.entries c.self.invariant.keyed)
  | in-Err w ↦ rw w.result-is tt
]

pub returns-clause-found : goal.returns-clause-found
returns-clause-found c = elim c.match-insert.branch [
  | in-Ok w ↦ let h = rw w.in-Ok.is at c.insert.ensures.entries in
      rw (w.result-is, ← c.self.view_is, h, tables.put place_of_state c.args.s c.self.inside.states.entries c.self.invariant.keyed)
      (tables.put_finds place_of_state c.args.s (values_of c.self.inside.states.entries))
  | in-Err w ↦ rw w.result-is tt
]
