use Rattle.std.proofs.Common.{◌∙◌, Option, sym, ap}
use Rattle.interconnect.specs.Places.{Keyed, Numbered}
use Rattle.interconnect.proofs.Places.{named, key_of, ascending_pairs, ascending_front, ascending_back, found_front, found_behind, found_none}
use Rattle.interconnect.proofs.by_number.ByNumber.find.Goals as goal

pub place_of-requires : goal.place_of-requires
place_of-requires c =
    let s = c.self.inside.swept.items in let u = c.self.inside.unswept.items in
    λ i k. ascending_pairs 1 c.self.inside.next s i k (ascending_front 1 c.self.inside.next s u c.self.invariant.ascending)

pub place_of-requires-2 : goal.place_of-requires-2
place_of-requires-2 c =
    let s = c.self.inside.swept.items in let u = c.self.inside.unswept.items in
    λ i k. ascending_pairs 1 c.self.inside.next u i k (ascending_back 1 c.self.inside.next s u c.self.invariant.ascending)

pub returns-in-Some : goal.returns-in-Some
returns-in-Some c =
    sym (found_front c.self.inside.next c.self.inside.swept.items c.self.inside.unswept.items c.in-Some.place c.args.number c.index.result.now c.self.invariant.ascending c.in-Some.ensures.found c.index.ensures)
    ∙ ap (λ (v : Numbered). key_of (named c.args.number v.held)) c.self.view_is

pub returns-in_err-place : goal.returns-in_err-place
returns-in_err-place c =
    rw c.from_residual.ensures
    (sym (ap (λ (o : Option Keyed). key_of o) (found_none c.self.inside.next c.self.inside.swept.items c.self.inside.unswept.items c.args.number c.self.invariant.ascending c.in_default.ensures.none c.in_err-place.ensures.none))
    ∙ ap (λ (v : Numbered). key_of (named c.args.number v.held)) c.self.view_is)

pub returns : goal.returns
returns c =
    sym (found_behind c.self.inside.next c.self.inside.swept.items c.self.inside.unswept.items c.in_ok-place.place c.args.number c.index-2.result.now c.self.invariant.ascending c.in_ok-place.ensures.found c.index-2.ensures)
    ∙ ap (λ (v : Numbered). key_of (named c.args.number v.held)) c.self.view_is
