-- Each Install that a node sends tells each seizing that the lines show by then.
use Rattle.std.specs.Prelude.{ℕ, ◌≡◌, ◌≤◌, nat_le, true, List, [], ◌∷◌, Option, None, Some, length}
use Rattle.std.specs.Option.{option_map}
use Rattle.std.proofs.Common.{refl, sym, subst, ◌∙◌, arith}
use Rattle.attempt_laws.proofs.Walk.{if_with}
use Rattle.cl_base.specs.declared.header.Header.{Header}
use Rattle.cl_base.specs.declared.packet.DropCause.{DropCause}
use Rattle.cmm_attempt.proofs.Basics.{and_cases}
use Rattle.history.specs.Moment.{Moment, Told}
use Rattle.history.specs.Order.{Always}
use Rattle.interconnect.specs.Links.{sending}
use Rattle.membership_machine.specs.State.{Memberships}
use Rattle.node_model.specs.declared.output.Output.{Output}
use Rattle.node_model.specs.declared.output.Output.TheVariants.{Sends, Tells}
use Rattle.refinement.specs.Worlds.{AllFit, SpelledIfShort}
use Rattle.run_history.specs.CommandLines.{AllQuiet, IsQuiet}
use Rattle.run_history.specs.Scenes.{Scene, dropped_so, passing, posting, sent_as, telling}
use Rattle.status_report.specs.declared.entry.Entry.{Entry}
use Rattle.status_report.specs.declared.entry.Entry.TheVariants as entry
use Rattle.wire.proofs.Messages.{whole_again}
use Rattle.wire.specs.Spelling.{Fits, spelling}
use Rattle.wire.specs.declared.message.Body.{Body}
use Rattle.wire.specs.declared.message.Body.TheVariants as body
use Rattle.wire.specs.declared.message.Message.{Message}
use Rattle.world_model.specs.Sends.{is_sent}
use Rattle.run_devices.specs.installs.Shown.{BodyShown, Brings, BroughtIn, Shown}
use Rattle.run_devices.proofs.installs.Calls.{ShownNow}
use Rattle.run_devices.proofs.installs.Doings.{quiet_keys}
use Rattle.run_devices.proofs.installs.Links.{Gives}

body_brings : (h : Header) (K : Shown) (M : Memberships) (end ms : List Moment) (n : ℕ) (b : Body) → ShownNow h K ms → BodyShown K M end n b → BroughtIn h ms (Some b)
body_brings h K M end ms n (body.Install i) now all = λ k d keys seized. all.0 k d keys (now k i.epoch d ∙ seized)
body_brings h K M end ms n _ now all = tt

quiet_brings : (h : Header) (ms : List Moment) (e : Entry) → IsQuiet e → Brings h ms (Told e)
quiet_brings h ms (entry.Packet e) q = absurd q
quiet_brings h ms _ q = tt

dropped_brings : (h : Header) (o : Option (ℕ × DropCause)) (s : Scene) → Always (Brings h) s.moments → Always (Brings h) (dropped_so o s).moments
dropped_brings h None s k = k
dropped_brings h (Some drop) s k = (tt, k)

size : (k : ℕ) → nat_le k 131072 ≡ true → k ≤ 131072
size k e = grind arith

posting_brings : (h : Header) (K : Shown) (M : Memberships) (end : List Moment) (n to : ℕ) (b : Body) (s : Scene) → SpelledIfShort (record { sender = n; body = b }) → ShownNow h K s.moments
    → BodyShown K M end n b → Always (Brings h) s.moments → Always (Brings h) (posting n to (record { sender = n; body = b }) s).moments
posting_brings h K M end n to b s fits now shown k =
    if_with (λ (t : Scene). Always (Brings h) t.moments) (is_sent s.links m) (is_sent s.links m) (sent_as n to m (sending s.links n to (spelling m)) s) s refl
    (λ e. sent (fits (size (length (spelling m)) (and_cases _ _ e).0))) (λ e. k)
  where
    m : Message
    m = record { sender = n; body = b }

    sent : Fits m → Always (Brings h) (sent_as n to m (sending s.links n to (spelling m)) s).moments
    sent spelled = dropped_brings h (sending s.links n to (spelling m)).sent.dropped _ (
      subst (λ o. BroughtIn h s.moments (option_map (λ (z : Message). z.body) o)) (sym (whole_again m spelled)) (body_brings h K M end s.moments n b now shown),
      k,
    )

pub passing_brings : (h : Header) (K : Shown) (M : Memberships) (end : List Moment) (n : ℕ) (os : List Output) (s : Scene) → AllQuiet os → AllFit n os → Gives (BodyShown K M end) n os
    → ShownNow h K s.moments → Always (Brings h) s.moments → Always (Brings h) (passing n os s).moments
passing_brings h K M end n [] s quiet fits gives now k = k
passing_brings h K M end n (Tells e ∷ os) s quiet fits gives now k =
    passing_brings h K M end n os (telling e s) quiet.1 fits gives
    (λ j f d. now j f d ∙ sym (quiet_keys h n (Tells e ∷ []) s (quiet.0, tt) j f d)) (quiet_brings h s.moments e quiet.0, k)
passing_brings h K M end n (Sends to b ∷ os) s quiet fits gives now k =
    passing_brings h K M end n os (posting n to (record { sender = n; body = b }) s) quiet.1 fits.2 gives.1
    (λ j f d. now j f d ∙ sym (quiet_keys h n (Sends to b ∷ []) s (tt, tt) j f d)) (posting_brings h K M end n to b s fits.1 now gives.0 k)
