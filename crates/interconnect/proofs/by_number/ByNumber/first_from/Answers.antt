use Rattle.std.proofs.Common.{◌∙◌, sym, ap}
use Rattle.interconnect.specs.Places.{Numbered, first_held_from}
use Rattle.interconnect.proofs.Places.{ascending_front, ascending_back}
use Rattle.interconnect.proofs.FirstFrom.{first_in_front, first_behind}
use Rattle.interconnect.proofs.by_number.ByNumber.first_from.Goals as goal

pub first_in-requires : goal.first_in-requires
first_in-requires c = record {
  next = c.self.inside.next;
  rises = ascending_front 1 c.self.inside.next c.self.inside.swept.items c.self.inside.unswept.items c.self.invariant.ascending;
}

pub first_in-requires-2 : goal.first_in-requires-2
first_in-requires-2 c = record {
  next = c.self.inside.next;
  rises = ascending_back 1 c.self.inside.next c.self.inside.swept.items c.self.inside.unswept.items c.self.invariant.ascending;
}

pub returns-in-Some : goal.returns-in-Some
returns-in-Some c =
    sym (first_in_front c.self.inside.swept.items c.self.inside.unswept.items c.args.number c.in-Some.first (sym c.in-Some.ensures))
    ∙ ap (λ (v : Numbered). first_held_from v.held c.args.number) c.self.view_is

pub returns : goal.returns
returns c =
    c.first_in-2.ensures
    ∙ sym (first_behind c.self.inside.swept.items c.self.inside.unswept.items c.args.number (sym c.in_default.ensures))
    ∙ ap (λ (v : Numbered). first_held_from v.held c.args.number) c.self.view_is
