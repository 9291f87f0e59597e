use Rattle.std.proofs.Common.{◌≡◌}
use Rattle.std.specs.String.{string_bytes}
use Rattle.schedule_gen.specs.Draws.{draw}
use Rattle.schedule_gen.specs.Lines.{event_line}
use Rattle.schedule_gen.proofs.ProgressLemmas.{generator-more, next_event}
use Rattle.schedule_gen.proofs.generator.Gen.next_line.Goals as goal

pub invariant_of-self-2 : goal.invariant_of-self-2
invariant_of-self-2 c =
    rw c.draw-state.ensures.value (generator-more _ _ _ _ _ c.self.invariant c.if-self-lt-OPENING.false c.if-self.false)

pub returns-clause-line : goal.returns-clause-line
returns-clause-line c =
    let printed : string_bytes c.in_ok-text-2.text ≡ event_line (draw c.self.inside.state) c.self.inside.drawn =
    rw (← c.draw-state.ensures.value) c.in_ok-text-2.ensures.value in
    rw (← c.self.view_is)
    (next_event _ _ _ _ _ _ c.self.invariant c.if-self-lt-OPENING.false c.if-self.false
    (rw c.into_bytes-2.ensures.value printed))
