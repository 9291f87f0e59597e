use Rattle.std.proofs.Common.{◌++◌, ◌∙◌, Option, sym, ap, refl, set, deque_capacity}
use Rattle.interconnect.specs.declared.by_number.Place.{Place}
use Rattle.interconnect.specs.Places.{Keyed, Numbered, live}
use Rattle.interconnect.proofs.Places.{named, key_of, ascending_pairs, ascending_front, ascending_back, found_front, found_behind, found_none, kept_front, kept_behind, taken_front, taken_behind, kept_none, removed_view}
use Rattle.interconnect.proofs.by_number.ByNumber.remove.Goals as goal

pub place_of-requires : goal.place_of-requires
place_of-requires c =
    let s = c.self.inside.swept.items in let u = c.self.inside.unswept.items in
    λ i k. ascending_pairs 1 c.self.inside.next s i k (ascending_front 1 c.self.inside.next s u c.self.invariant.ascending)

pub place_of-requires-2 : goal.place_of-requires-2
place_of-requires-2 c =
    let s = c.self.inside.swept.items in let u = c.self.inside.unswept.items in
    λ i k. ascending_pairs 1 c.self.inside.next u i k (ascending_back 1 c.self.inside.next s u c.self.invariant.ascending)

pub invariant_of-self : goal.invariant_of-self
invariant_of-self c =
    let q : Place = record { number = c.index_mut.result.now.number; key = c.take.new.self } in
    kept_front c.self.inside.swept.items c.self.inside.unswept.items c.in-Some.place c.index_mut.result.now q (deque_capacity c.self.inside.swept) (deque_capacity c.self.inside.unswept)
    c.self.inside.most c.self.inside.next c.self.invariant c.in-Some.ensures.found.0 c.index_mut.ensures.value refl c.take.ensures.after

pub returns-in-Some-clause-found : goal.returns-in-Some-clause-found
returns-in-Some-clause-found c =
    c.take.ensures.value
    ∙ sym (found_front c.self.inside.next c.self.inside.swept.items c.self.inside.unswept.items c.in-Some.place c.args.number c.index_mut.result.now c.self.invariant.ascending c.in-Some.ensures.found c.index_mut.ensures.value)
    ∙ ap (λ (v : Numbered). key_of (named c.args.number v.held)) c.self.view_is

pub returns-in-Some-clause-after : goal.returns-in-Some-clause-after
returns-in-Some-clause-after c =
    let q : Place = record { number = c.index_mut.result.now.number; key = c.take.new.self } in
    removed_view c.args.self.now (live (c.self.inside.swept.items ++ c.self.inside.unswept.items)) (live (set c.self.inside.swept.items c.in-Some.place q ++ c.self.inside.unswept.items))
    c.self.inside.next c.self.inside.most c.args.number c.self.view_is
    (taken_front c.self.inside.next c.self.inside.swept.items c.self.inside.unswept.items c.in-Some.place c.args.number c.index_mut.result.now q c.self.invariant.ascending c.in-Some.ensures.found c.index_mut.ensures.value c.take.ensures.after)

pub returns-in_err-place-clause-found : goal.returns-in_err-place-clause-found
returns-in_err-place-clause-found c =
    c.from_residual.ensures
    ∙ sym (ap (λ (o : Option Keyed). key_of o) (found_none c.self.inside.next c.self.inside.swept.items c.self.inside.unswept.items c.args.number c.self.invariant.ascending c.in_default.ensures.none c.in_err-place.ensures.none))
    ∙ ap (λ (v : Numbered). key_of (named c.args.number v.held)) c.self.view_is

pub returns-in_err-place-clause-after : goal.returns-in_err-place-clause-after
returns-in_err-place-clause-after c =
    sym c.self.view_is
    ∙ removed_view c.args.self.now (live (c.self.inside.swept.items ++ c.self.inside.unswept.items)) (live (c.self.inside.swept.items ++ c.self.inside.unswept.items))
    c.self.inside.next c.self.inside.most c.args.number c.self.view_is
    (sym (kept_none c.self.inside.next c.self.inside.swept.items c.self.inside.unswept.items c.args.number c.self.invariant.ascending c.in_default.ensures.none c.in_err-place.ensures.none))

pub invariant_of-self-2 : goal.invariant_of-self-2
invariant_of-self-2 c =
    let q : Place = record { number = c.index_mut-2.result.now.number; key = c.take-2.new.self } in
    kept_behind c.self.inside.swept.items c.self.inside.unswept.items c.in_ok-place.place c.index_mut-2.result.now q (deque_capacity c.self.inside.swept) (deque_capacity c.self.inside.unswept)
    c.self.inside.most c.self.inside.next c.self.invariant c.in_ok-place.ensures.found.0 c.index_mut-2.ensures.value refl c.take-2.ensures.after

pub returns-clause-found : goal.returns-clause-found
returns-clause-found c =
    c.take-2.ensures.value
    ∙ sym (found_behind c.self.inside.next c.self.inside.swept.items c.self.inside.unswept.items c.in_ok-place.place c.args.number c.index_mut-2.result.now c.self.invariant.ascending c.in_ok-place.ensures.found c.index_mut-2.ensures.value)
    ∙ ap (λ (v : Numbered). key_of (named c.args.number v.held)) c.self.view_is

pub returns-clause-after : goal.returns-clause-after
returns-clause-after c =
    let q : Place = record { number = c.index_mut-2.result.now.number; key = c.take-2.new.self } in
    removed_view c.args.self.now (live (c.self.inside.swept.items ++ c.self.inside.unswept.items)) (live (c.self.inside.swept.items ++ set c.self.inside.unswept.items c.in_ok-place.place q))
    c.self.inside.next c.self.inside.most c.args.number c.self.view_is
    (taken_behind c.self.inside.next c.self.inside.swept.items c.self.inside.unswept.items c.in_ok-place.place c.args.number c.index_mut-2.result.now q c.self.invariant.ascending c.in_ok-place.ensures.found c.index_mut-2.ensures.value c.take-2.ensures.after)
