use Rattle.std.proofs.Common.{◌≡◌, ◌+◌, ◌∙◌, ℕ, List, ap, arith, length, take}
use Rattle.interconnect.specs.Links.{Links, packet_of}
use Rattle.interconnect.proofs.Sends.{sending_next, copied_found, repeat_answer_at, repeat_after_at, written}
use Rattle.interconnect.proofs.Crowds.{sending_uncrowded}
use Rattle.interconnect.proofs.net.Net.repeat.Goals as goal

pub returns-clause-answer : goal.returns-clause-answer
returns-clause-answer c =
    let was : length c.deref_mut.result.now ≡ length c.self.inside.buffer.items = ap (λ (l : List ℕ). length l) c.deref_mut.ensures.value in
    let size : length c.copy.new.out ≡ length c.self.inside.buffer.items = omega (arith, c.copy.auto.out) in
    let seen : c.deref.result.now ≡ c.copy.new.out =
    c.deref.ensures.value ∙ written c.self.inside.buffer.len c.self.inside.buffer.items c.copy.new.out c.self.inside.buffer.ok.0 size in
    let k = copied_found (packet_of c.self.inside.flight.packets c.args.number) c.in_ok-found.found (take c.in_ok-found.found.length c.deref.result.now)
    c.deref_mut.result.now c.copy.new.out c.in_ok-found.ensures.answer c.copy.ensures.bytes (ap (λ (l : List ℕ). take c.in_ok-found.found.length l) seen) in
    repeat_answer_at c.self.inside.flight c.args.self.now c.args.number c.in_ok-found.found (take c.in_ok-found.found.length c.deref.result.now) c.send.result
    c.self.view_is k c.send.ensures.sent

pub returns-clause-after : goal.returns-clause-after
returns-clause-after c =
    let was : length c.deref_mut.result.now ≡ length c.self.inside.buffer.items = ap (λ (l : List ℕ). length l) c.deref_mut.ensures.value in
    let size : length c.copy.new.out ≡ length c.self.inside.buffer.items = omega (arith, c.copy.auto.out) in
    let seen : c.deref.result.now ≡ c.copy.new.out =
    c.deref.ensures.value ∙ written c.self.inside.buffer.len c.self.inside.buffer.items c.copy.new.out c.self.inside.buffer.ok.0 size in
    let k = copied_found (packet_of c.self.inside.flight.packets c.args.number) c.in_ok-found.found (take c.in_ok-found.found.length c.deref.result.now)
    c.deref_mut.result.now c.copy.new.out c.in_ok-found.ensures.answer c.copy.ensures.bytes (ap (λ (l : List ℕ). take c.in_ok-found.found.length l) seen) in
    repeat_after_at c.self.inside.flight c.args.self.now c.send.new.self c.args.number c.in_ok-found.found (take c.in_ok-found.found.length c.deref.result.now)
    c.self.view_is k c.send.ensures.after

pub returns-clause-next : goal.returns-clause-next
returns-clause-next c =
    let e : c.send.new.self.next ≡ c.args.self.now.next + 1 =
    ap (λ (l : Links). l.next) c.send.ensures.after
    ∙ sending_next c.self.inside.flight c.in_ok-found.found.from c.in_ok-found.found.to (take c.in_ok-found.found.length c.deref.result.now)
    ∙ ap (λ (l : Links). l.next + 1) c.self.view_is in
    omega arith

pub invariant_of-self-2 : goal.invariant_of-self-2
invariant_of-self-2 c =
    let k = c.self.invariant in
    let was : length c.deref_mut.result.now ≡ length c.self.inside.buffer.items = ap (λ (l : List ℕ). length l) c.deref_mut.ensures.value in
    let size : length c.copy.new.out ≡ length c.self.inside.buffer.items = omega (arith, c.copy.auto.out) in (
      ap (λ (l : List ℕ). length l) (written c.self.inside.buffer.len c.self.inside.buffer.items c.copy.new.out c.self.inside.buffer.ok.0 size) ∙ size ∙ k.0,
      rw c.send.ensures.after
          (sending_uncrowded c.self.inside.flight c.in_ok-found.found.from c.in_ok-found.found.to (take c.in_ok-found.found.length c.deref.result.now) k.1),
    )
