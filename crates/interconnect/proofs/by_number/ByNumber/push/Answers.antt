use Rattle.std.proofs.Common.{◌+◌, ◌++◌, ◌<◌, Some, refl, sym, subst, arith, length, deque_capacity, deque_len}
use Rattle.interconnect.specs.declared.by_number.Place.{Place}
use Rattle.interconnect.specs.Places.{Numbered, live}
use Rattle.interconnect.proofs.Places.{pushed, swept_once, kept_after, room_for, pushed_view}
use Rattle.interconnect.proofs.by_number.ByNumber.push.Goals as goal

pub sweep-requires-2 : goal.sweep-requires-2
sweep-requires-2 c =
    let p : Place = record { number = c.self.inside.next; key = Some c.args.key } in
    let few : length (live (c.self.inside.swept.items ++ c.self.inside.unswept.items)) < c.self.inside.most =
    subst (λ (v : Numbered). length v.held < v.most) (sym c.self.view_is) c.requires.room in
    let s0 = pushed c.self.inside.swept.items c.self.inside.unswept.items c.push_back_reserved.new.self.items (deque_capacity c.self.inside.swept) (deque_capacity c.self.inside.unswept)
    (deque_capacity c.push_back_reserved.new.self) c.self.inside.most c.self.inside.next p c.args.key c.self.invariant c.push_back_reserved.ensures.items refl refl few
    c.push_back_reserved.ensures.capacity in
    let s1 = swept_once c.self.inside.swept.items c.push_back_reserved.new.self.items c.sweep.new.swept.items c.sweep.new.unswept.items (deque_capacity c.self.inside.swept) (deque_capacity c.push_back_reserved.new.self) (deque_capacity c.sweep.new.swept)
    (deque_capacity c.sweep.new.unswept) c.self.inside.most (c.self.inside.next + 1) 3 2 _ s0 (omega arith) (omega arith) c.sweep.ensures.swept c.sweep.ensures.unswept
    c.sweep.ensures.room c.sweep.ensures.room_behind in
    room_for c.sweep.new.swept.items c.sweep.new.unswept.items (deque_len c.sweep.new.swept) (deque_capacity c.sweep.new.swept) (deque_capacity c.sweep.new.unswept)
    c.self.inside.most (c.self.inside.next + 1) 3 1 _ s1 (omega arith) c.sweep.new.swept.ok.0

pub sweep-requires-3 : goal.sweep-requires-3
sweep-requires-3 c =
    let p : Place = record { number = c.self.inside.next; key = Some c.args.key } in
    let few : length (live (c.self.inside.swept.items ++ c.self.inside.unswept.items)) < c.self.inside.most =
    subst (λ (v : Numbered). length v.held < v.most) (sym c.self.view_is) c.requires.room in
    let s0 = pushed c.self.inside.swept.items c.self.inside.unswept.items c.push_back_reserved.new.self.items (deque_capacity c.self.inside.swept) (deque_capacity c.self.inside.unswept)
    (deque_capacity c.push_back_reserved.new.self) c.self.inside.most c.self.inside.next p c.args.key c.self.invariant c.push_back_reserved.ensures.items refl refl few
    c.push_back_reserved.ensures.capacity in
    let s1 = swept_once c.self.inside.swept.items c.push_back_reserved.new.self.items c.sweep.new.swept.items c.sweep.new.unswept.items (deque_capacity c.self.inside.swept) (deque_capacity c.push_back_reserved.new.self) (deque_capacity c.sweep.new.swept)
    (deque_capacity c.sweep.new.unswept) c.self.inside.most (c.self.inside.next + 1) 3 2 _ s0 (omega arith) (omega arith) c.sweep.ensures.swept c.sweep.ensures.unswept
    c.sweep.ensures.room c.sweep.ensures.room_behind in
    let s2 = swept_once c.sweep.new.swept.items c.sweep.new.unswept.items c.sweep-2.new.swept.items c.sweep-2.new.unswept.items (deque_capacity c.sweep.new.swept) (deque_capacity c.sweep.new.unswept) (deque_capacity c.sweep-2.new.swept)
    (deque_capacity c.sweep-2.new.unswept) c.self.inside.most (c.self.inside.next + 1) 2 1 _ s1 (omega arith) (omega arith) c.sweep-2.ensures.swept c.sweep-2.ensures.unswept
    c.sweep-2.ensures.room c.sweep-2.ensures.room_behind in
    room_for c.sweep-2.new.swept.items c.sweep-2.new.unswept.items (deque_len c.sweep-2.new.swept) (deque_capacity c.sweep-2.new.swept) (deque_capacity c.sweep-2.new.unswept)
    c.self.inside.most (c.self.inside.next + 1) 2 1 _ s2 (omega arith) c.sweep-2.new.swept.ok.0

pub sweep-requires-4 : goal.sweep-requires-4
sweep-requires-4 c =
    let p : Place = record { number = c.self.inside.next; key = Some c.args.key } in
    let few : length (live (c.self.inside.swept.items ++ c.self.inside.unswept.items)) < c.self.inside.most =
    subst (λ (v : Numbered). length v.held < v.most) (sym c.self.view_is) c.requires.room in
    let s0 = pushed c.self.inside.swept.items c.self.inside.unswept.items c.push_back_reserved.new.self.items (deque_capacity c.self.inside.swept) (deque_capacity c.self.inside.unswept)
    (deque_capacity c.push_back_reserved.new.self) c.self.inside.most c.self.inside.next p c.args.key c.self.invariant c.push_back_reserved.ensures.items refl refl few
    c.push_back_reserved.ensures.capacity in
    let s1 = swept_once c.self.inside.swept.items c.push_back_reserved.new.self.items c.sweep.new.swept.items c.sweep.new.unswept.items (deque_capacity c.self.inside.swept) (deque_capacity c.push_back_reserved.new.self) (deque_capacity c.sweep.new.swept)
    (deque_capacity c.sweep.new.unswept) c.self.inside.most (c.self.inside.next + 1) 3 2 _ s0 (omega arith) (omega arith) c.sweep.ensures.swept c.sweep.ensures.unswept
    c.sweep.ensures.room c.sweep.ensures.room_behind in
    let s2 = swept_once c.sweep.new.swept.items c.sweep.new.unswept.items c.sweep-2.new.swept.items c.sweep-2.new.unswept.items (deque_capacity c.sweep.new.swept) (deque_capacity c.sweep.new.unswept) (deque_capacity c.sweep-2.new.swept)
    (deque_capacity c.sweep-2.new.unswept) c.self.inside.most (c.self.inside.next + 1) 2 1 _ s1 (omega arith) (omega arith) c.sweep-2.ensures.swept c.sweep-2.ensures.unswept
    c.sweep-2.ensures.room c.sweep-2.ensures.room_behind in
    let s3 = swept_once c.sweep-2.new.swept.items c.sweep-2.new.unswept.items c.sweep-3.new.swept.items c.sweep-3.new.unswept.items (deque_capacity c.sweep-2.new.swept) (deque_capacity c.sweep-2.new.unswept) (deque_capacity c.sweep-3.new.swept)
    (deque_capacity c.sweep-3.new.unswept) c.self.inside.most (c.self.inside.next + 1) 1 1 _ s2 (omega arith) (omega arith) c.sweep-3.ensures.swept c.sweep-3.ensures.unswept
    c.sweep-3.ensures.room c.sweep-3.ensures.room_behind in
    room_for c.sweep-3.new.swept.items c.sweep-3.new.unswept.items (deque_len c.sweep-3.new.swept) (deque_capacity c.sweep-3.new.swept) (deque_capacity c.sweep-3.new.unswept)
    c.self.inside.most (c.self.inside.next + 1) 1 1 _ s3 (omega arith) c.sweep-3.new.swept.ok.0

pub invariant_of-self : goal.invariant_of-self
invariant_of-self c =
    let p : Place = record { number = c.self.inside.next; key = Some c.args.key } in
    let few : length (live (c.self.inside.swept.items ++ c.self.inside.unswept.items)) < c.self.inside.most =
    subst (λ (v : Numbered). length v.held < v.most) (sym c.self.view_is) c.requires.room in
    let s0 = pushed c.self.inside.swept.items c.self.inside.unswept.items c.push_back_reserved.new.self.items (deque_capacity c.self.inside.swept) (deque_capacity c.self.inside.unswept)
    (deque_capacity c.push_back_reserved.new.self) c.self.inside.most c.self.inside.next p c.args.key c.self.invariant c.push_back_reserved.ensures.items refl refl few
    c.push_back_reserved.ensures.capacity in
    let s1 = swept_once c.self.inside.swept.items c.push_back_reserved.new.self.items c.sweep.new.swept.items c.sweep.new.unswept.items (deque_capacity c.self.inside.swept) (deque_capacity c.push_back_reserved.new.self) (deque_capacity c.sweep.new.swept)
    (deque_capacity c.sweep.new.unswept) c.self.inside.most (c.self.inside.next + 1) 3 2 _ s0 (omega arith) (omega arith) c.sweep.ensures.swept c.sweep.ensures.unswept
    c.sweep.ensures.room c.sweep.ensures.room_behind in
    let s2 = swept_once c.sweep.new.swept.items c.sweep.new.unswept.items c.sweep-2.new.swept.items c.sweep-2.new.unswept.items (deque_capacity c.sweep.new.swept) (deque_capacity c.sweep.new.unswept) (deque_capacity c.sweep-2.new.swept)
    (deque_capacity c.sweep-2.new.unswept) c.self.inside.most (c.self.inside.next + 1) 2 1 _ s1 (omega arith) (omega arith) c.sweep-2.ensures.swept c.sweep-2.ensures.unswept
    c.sweep-2.ensures.room c.sweep-2.ensures.room_behind in
    let s3 = swept_once c.sweep-2.new.swept.items c.sweep-2.new.unswept.items c.sweep-3.new.swept.items c.sweep-3.new.unswept.items (deque_capacity c.sweep-2.new.swept) (deque_capacity c.sweep-2.new.unswept) (deque_capacity c.sweep-3.new.swept)
    (deque_capacity c.sweep-3.new.unswept) c.self.inside.most (c.self.inside.next + 1) 1 1 _ s2 (omega arith) (omega arith) c.sweep-3.ensures.swept c.sweep-3.ensures.unswept
    c.sweep-3.ensures.room c.sweep-3.ensures.room_behind in
    let s4 = swept_once c.sweep-3.new.swept.items c.sweep-3.new.unswept.items c.sweep-4.new.swept.items c.sweep-4.new.unswept.items (deque_capacity c.sweep-3.new.swept) (deque_capacity c.sweep-3.new.unswept) (deque_capacity c.sweep-4.new.swept)
    (deque_capacity c.sweep-4.new.unswept) c.self.inside.most (c.self.inside.next + 1) 0 1 _ s3 (omega arith) (omega arith) c.sweep-4.ensures.swept c.sweep-4.ensures.unswept
    c.sweep-4.ensures.room c.sweep-4.ensures.room_behind in
    kept_after c.sweep-4.new.swept.items c.sweep-4.new.unswept.items (deque_capacity c.sweep-4.new.swept) (deque_capacity c.sweep-4.new.unswept) c.self.inside.most
    (c.self.inside.next + 1) _ s4

pub returns : goal.returns
returns c =
    let p : Place = record { number = c.self.inside.next; key = Some c.args.key } in
    let few : length (live (c.self.inside.swept.items ++ c.self.inside.unswept.items)) < c.self.inside.most =
    subst (λ (v : Numbered). length v.held < v.most) (sym c.self.view_is) c.requires.room in
    let s0 = pushed c.self.inside.swept.items c.self.inside.unswept.items c.push_back_reserved.new.self.items (deque_capacity c.self.inside.swept) (deque_capacity c.self.inside.unswept)
    (deque_capacity c.push_back_reserved.new.self) c.self.inside.most c.self.inside.next p c.args.key c.self.invariant c.push_back_reserved.ensures.items refl refl few
    c.push_back_reserved.ensures.capacity in
    let s1 = swept_once c.self.inside.swept.items c.push_back_reserved.new.self.items c.sweep.new.swept.items c.sweep.new.unswept.items (deque_capacity c.self.inside.swept) (deque_capacity c.push_back_reserved.new.self) (deque_capacity c.sweep.new.swept)
    (deque_capacity c.sweep.new.unswept) c.self.inside.most (c.self.inside.next + 1) 3 2 _ s0 (omega arith) (omega arith) c.sweep.ensures.swept c.sweep.ensures.unswept
    c.sweep.ensures.room c.sweep.ensures.room_behind in
    let s2 = swept_once c.sweep.new.swept.items c.sweep.new.unswept.items c.sweep-2.new.swept.items c.sweep-2.new.unswept.items (deque_capacity c.sweep.new.swept) (deque_capacity c.sweep.new.unswept) (deque_capacity c.sweep-2.new.swept)
    (deque_capacity c.sweep-2.new.unswept) c.self.inside.most (c.self.inside.next + 1) 2 1 _ s1 (omega arith) (omega arith) c.sweep-2.ensures.swept c.sweep-2.ensures.unswept
    c.sweep-2.ensures.room c.sweep-2.ensures.room_behind in
    let s3 = swept_once c.sweep-2.new.swept.items c.sweep-2.new.unswept.items c.sweep-3.new.swept.items c.sweep-3.new.unswept.items (deque_capacity c.sweep-2.new.swept) (deque_capacity c.sweep-2.new.unswept) (deque_capacity c.sweep-3.new.swept)
    (deque_capacity c.sweep-3.new.unswept) c.self.inside.most (c.self.inside.next + 1) 1 1 _ s2 (omega arith) (omega arith) c.sweep-3.ensures.swept c.sweep-3.ensures.unswept
    c.sweep-3.ensures.room c.sweep-3.ensures.room_behind in
    let s4 = swept_once c.sweep-3.new.swept.items c.sweep-3.new.unswept.items c.sweep-4.new.swept.items c.sweep-4.new.unswept.items (deque_capacity c.sweep-3.new.swept) (deque_capacity c.sweep-3.new.unswept) (deque_capacity c.sweep-4.new.swept)
    (deque_capacity c.sweep-4.new.unswept) c.self.inside.most (c.self.inside.next + 1) 0 1 _ s3 (omega arith) (omega arith) c.sweep-4.ensures.swept c.sweep-4.ensures.unswept
    c.sweep-4.ensures.room c.sweep-4.ensures.room_behind in
    pushed_view c.args.self.now (live (c.self.inside.swept.items ++ c.self.inside.unswept.items)) (live (c.sweep-4.new.swept.items ++ c.sweep-4.new.unswept.items)) c.self.inside.next
    c.self.inside.most c.args.key c.self.view_is s4.shows
