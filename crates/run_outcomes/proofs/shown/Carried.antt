-- The packets of a scene, as they are sent and taken.
use Rattle.std.specs.Prelude.{List, None, Option, Some, [], length, nat_le, nat_lt, not, true, ℕ, ◌==◌, ◌≡◌, ◌≤◌, ◌∷◌}
use Rattle.std.specs.List.{AllByRecursion}
use Rattle.std.proofs.Common.{arith, refl, subst, sym, ◌∙◌}
use Rattle.attempt_laws.proofs.Walk.{if_with}
use Rattle.cl_base.specs.declared.packet.DropCause.{DropCause}
use Rattle.cmm_attempt.proofs.Basics.{and_cases, if_either, same_some}
use Rattle.interconnect.specs.Links as links
use Rattle.interconnect.specs.Links.{Links, Packet, appending, count_on, crowding, dropping, free_cells_of, oldest_on, packet_of, refusing, removing, sending}
use Rattle.node_model.specs.declared.output.Output.{Output}
use Rattle.node_model.specs.declared.output.Output.TheVariants.{Sends, Tells}
use Rattle.refinement.proofs.Worlds.{all_append, all_filter}
use Rattle.refinement.specs.Runs.{Letter}
use Rattle.refinement.specs.Worlds.{AllFit, SpelledIfShort}
use Rattle.run_history.specs.Scenes.{Scene, dropped_so, passing, posting, sent_as, telling}
use Rattle.wire.proofs.Messages.{whole_again}
use Rattle.wire.specs.Reads.{whole_of}
use Rattle.wire.specs.Spelling.{Fits, spelling}
use Rattle.wire.specs.declared.message.Body.{Body}
use Rattle.wire.specs.declared.message.Message.{Message}
use Rattle.world_model.specs.Sends.{is_sent}
use Rattle.run_outcomes.specs.tasks.Shown.{AskSo, PacketSo}
use Rattle.run_outcomes.proofs.shown.Now.{OutsSo}

-- ---- packets

abbrev Carried : List Letter → Links → Type 0
Carried L l = AllByRecursion (PacketSo L) l.packets

pub removing_so : (L : List Letter) (l : Links) (number : ℕ) → Carried L l → Carried L (removing l number)
removing_so L l number k = all_filter (PacketSo L) (λ (p : Packet). not (p.number == number)) l.packets k

dropping_so : (L : List Letter) (l : Links) (number : ℕ) (o : Option ℕ) → Carried L l → Carried L (dropping l number o).after
dropping_so L l number None k = k
dropping_so L l number (Some oldest) k = removing_so L l oldest k

crowding_so : (L : List Letter) (l : Links) (number from to : ℕ) → Carried L l → Carried L (crowding l number from to).after
crowding_so L l number from to k =
    if_either (λ (o : links.Outcome). Carried L o.after) (nat_lt _ (count_on l.packets from to)) (dropping l number (oldest_on l.packets from to)) _
    (dropping_so L l number (oldest_on l.packets from to) k) k

pub sending_so : (L : List Letter) (l : Links) (from to : ℕ) (bytes : List ℕ) → Carried L l → ((m : Message) → whole_of bytes ≡ Some m → AskSo L to m.body) → Carried L (sending l from to bytes).after
sending_so L l from to bytes k new =
    if_either (λ (o : links.Outcome). Carried L o.after) (nat_lt (free_cells_of l) _) (refusing l) (crowding (appending l from to bytes) l.next from to) k
    (crowding_so L (appending l from to bytes) l.next from to
    (all_append (PacketSo L) l.packets (record { number = l.next; from = from; to = to; bytes = bytes }) k new))

dropped_so_far : (L : List Letter) (o : Option (ℕ × DropCause)) (s : Scene) → Carried L s.links → Carried L (dropped_so o s).links
dropped_so_far L None s k = k
dropped_so_far L (Some d) s k = k

pub size : (k : ℕ) → nat_le k 131072 ≡ true → k ≤ 131072
size k e = grind arith

posting_so : (L : List Letter) (n to : ℕ) (b : Body) (s : Scene) → SpelledIfShort (record { sender = n; body = b }) → AskSo L to b → Carried L s.links
    → Carried L (posting n to (record { sender = n; body = b }) s).links
posting_so L n to b s fits asks k =
    if_with (λ (t : Scene). Carried L t.links) (is_sent s.links m) (is_sent s.links m) (sent_as n to m o s) s refl
    (λ e. dropped_so_far L o.sent.dropped _ (sent (fits (size (length (spelling m)) (and_cases _ _ e).0)))) (λ e. k)
  where
    m : Message
    m = record { sender = n; body = b }

    o : links.Outcome
    o = sending s.links n to (spelling m)

    sent : Fits m → Carried L o.after
    sent spelled = sending_so L s.links n to (spelling m) k
        (λ other is. subst (λ (z : Message). AskSo L to z.body) (same_some m other (sym (whole_again m spelled) ∙ is)) asks)

pub passing_so : (L : List Letter) (n : ℕ) (os : List Output) (s : Scene) → AllFit n os → OutsSo L os → Carried L s.links → Carried L (passing n os s).links
passing_so L n [] s fits asks k = k
passing_so L n (Tells e ∷ os) s fits asks k = passing_so L n os (telling e s) fits asks.1 k
passing_so L n (Sends to b ∷ os) s fits asks k =
    passing_so L n os (posting n to (record { sender = n; body = b }) s) fits.2 asks.1 (posting_so L n to b s fits.1 asks.0 k)
