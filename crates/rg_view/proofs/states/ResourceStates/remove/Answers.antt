use Rattle.std.proofs.Common.{◌≡◌, ◌∙◌, ap, subst, sym}
use Rattle.std.specs.Map.{values_of}
use Rattle.rg_view.specs.Places.{place}
use Rattle.rg_view.specs.States.{place_of_state}
use Rattle.rg_view.specs.Tables.{IsKeyed}
use Rattle.rg_view.proofs.Tables as tables
use Rattle.rg_view.proofs.states.ResourceStates.remove.Goals as goal

pub invariant_of-self : goal.invariant_of-self
invariant_of-self c = record {
  keyed = subst (IsKeyed place_of_state) (sym c.shift_remove.ensures.entries)
      (tables.taken_keyed place_of_state (place c.args.r.now c.args.n) c.self.inside.states.entries c.self.invariant.apart c.self.invariant.keyed);
  apart = c.shift_remove.ensures.unique;
}

pub returns-clause-value : goal.returns-clause-value
returns-clause-value c = rw (← c.self.view_is)
    (ap values_of c.shift_remove.ensures.entries
    ∙ tables.taken place_of_state (place c.args.r.now c.args.n) c.self.inside.states.entries c.self.invariant.apart c.self.invariant.keyed)

pub returns-clause-found : goal.returns-clause-found
returns-clause-found c =
    let left = ap values_of c.shift_remove.ensures.entries
    ∙ tables.taken place_of_state (place c.args.r.now c.args.n) c.self.inside.states.entries c.self.invariant.apart c.self.invariant.keyed in
    rw (← c.self.view_is, left) (tables.taken_finds place_of_state c.args.r.now c.args.n (values_of c.self.inside.states.entries))
