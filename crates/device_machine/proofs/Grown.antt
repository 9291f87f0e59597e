-- Growth goes on over a run.
use Rattle.std.proofs.Common.{sym, subst, ◌∙◌, List, [], ◌∷◌, arith}
use Rattle.device_machine.specs.Initiator.{Initiator}
use Rattle.device_machine.specs.Attempt.{Attempt}
use Rattle.device_machine.specs.Sharing.{Sharing, Event, after, Run}
use Rattle.device_machine.specs.Growth.{AttemptGrows, NodeGrows, Grows}
use Rattle.device_machine.proofs.Invariant.{Inv}
use Rattle.device_machine.proofs.Growth.{attempt_same, node_same}
use Rattle.device_machine.proofs.Kept.{kept, step_grows}

pub grows_same : (s : Sharing) → Grows s s
grows_same s = record { node = λ n. node_same (s.node n); attempt = λ q. attempt_same (s.attempt q) }

pub node_over : (u v w : Initiator) → NodeGrows u v → NodeGrows v w → NodeGrows u w
node_over u v w a b = record {
  promised = omega (arith, a.promised, b.promised);
  seized = λ q h. b.seized q (a.seized q h);
  unregistered = λ q h. b.unregistered q (a.unregistered q h);
  ended = λ q h. b.ended q (a.ended q h);
  wrote = λ q h. b.wrote q (a.wrote q h);
  seized_settled = λ q h. b.seized_settled q (a.ended q h) ∙ a.seized_settled q h;
  unregistered_settled = λ q h. b.unregistered_settled q (a.ended q h) ∙ a.unregistered_settled q h;
}

pub attempt_over : (d e f : Attempt) → AttemptGrows d e → AttemptGrows e f → AttemptGrows d f
attempt_over d e f a b = record {
  collected = λ h. b.collected (a.collected h);
  members = λ m h. b.members m (a.collected h) ∙ a.members m h;
  asked = λ m h. b.asked m (a.asked m h);
  quorum = λ m h. b.quorum m (a.asked m h) ∙ a.quorum m h;
  held = λ h. b.held (a.held h);
  counted = λ h. b.counted (a.counted h);
  holds = λ h. b.holds (a.counted h) ∙ a.holds h;
  seizer = λ h. b.seizer (a.counted h) ∙ a.seizer h;
}

pub grows_over : (s t u : Sharing) → Grows s t → Grows t u → Grows s u
grows_over s t u a b = record {
  node = λ n. node_over (s.node n) (t.node n) (u.node n) (a.node n) (b.node n);
  attempt = λ q. attempt_over (s.attempt q) (t.attempt q) (u.attempt q) (a.attempt q) (b.attempt q);
}

pub run_grows : (s t : Sharing) (events : List Event) → Inv s → Run s events t → Grows s t
run_grows s t [] i r = subst (λ x. Grows s x) (sym r) (grows_same s)
run_grows s t (e ∷ es) i r = grows_over s (after s e) t (step_grows s e i r.0) (run_grows (after s e) t es (kept s e i r.0) r.1)
