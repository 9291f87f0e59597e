-- What was so of all moments was so of those before: each acknowledgement is of what is in hand.
use Rattle.std.specs.Prelude.{ℕ, ◌++◌, Bool, true, false, if◌then◌else◌, List, [], ◌∷◌, Option, None, Some}
use Rattle.std.proofs.Common.{subst}
use Rattle.cl_base.specs.declared.packet.DropCause.{DropCause}
use Rattle.interconnect.specs.Links as links
use Rattle.interconnect.specs.Links.{sending}
use Rattle.wire.specs.Spelling.{spelling}
use Rattle.wire.specs.declared.message.Message.{Message}
use Rattle.node_model.specs.declared.output.Output.{Output}
use Rattle.node_model.specs.declared.output.Output.TheVariants.{Sends, Tells}
use Rattle.world_model.specs.Sends.{is_sent}
use Rattle.run_history.specs.Scenes.{Scene, dropped_so, passing, posting, sent_as, telling}
use Rattle.run_history.proofs.Idle.{passing_append}
use Rattle.run_commands.proofs.acknowledged.Settled.{AcksArePending}

pub dropped_acks : (o : Option (ℕ × DropCause)) (s : Scene) → AcksArePending (dropped_so o s).moments → AcksArePending s.moments
dropped_acks None s h = h
dropped_acks (Some drop) s h = h.1

posting_acks : (n to : ℕ) (m : Message) (s : Scene) → AcksArePending (posting n to m s).moments → AcksArePending s.moments
posting_acks n to m s h = by (is_sent s.links m) h
  where
    o : links.Outcome
    o = sending s.links n to (spelling m)

    by : (b : Bool) → AcksArePending (let z : Scene = if b then sent_as n to m o s else s in z.moments) → AcksArePending s.moments
    by true k = (dropped_acks o.sent.dropped _ k).1
    by false k = k

pub passing_acks : (n : ℕ) (os : List Output) (s : Scene) → AcksArePending (passing n os s).moments → AcksArePending s.moments
passing_acks n [] s h = h
passing_acks n (Tells e ∷ os) s h = (passing_acks n os (telling e s) h).1
passing_acks n (Sends to b ∷ os) s h = posting_acks n to (record { sender = n; body = b }) s (passing_acks n os (posting n to (record { sender = n; body = b }) s) h)

-- of what a node gives first, and of the rest
pub then_acks : (n : ℕ) (os more : List Output) (s : Scene) → AcksArePending (passing n (os ++ more) s).moments → AcksArePending (passing n more (passing n os s)).moments
then_acks n os more s h = subst (λ (z : Scene). AcksArePending z.moments) (passing_append n os more s) h

pub first_acks : (n : ℕ) (os more : List Output) (s : Scene) → AcksArePending (passing n (os ++ more) s).moments → AcksArePending (passing n os s).moments
first_acks n os more s h = passing_acks n more (passing n os s) (then_acks n os more s h)
