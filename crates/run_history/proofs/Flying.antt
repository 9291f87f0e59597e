-- What a node gives is told and sent: what is in flight tells of devices what is so, and nothing else of the scene is changed.
use Rattle.std.specs.Prelude.{ℕ, ◌≡◌, ◌≤◌, ◌==◌, nat_le, nat_lt, not, true, List, [], ◌∷◌, Option, None, Some, length}
use Rattle.std.proofs.Common.{refl, sym, subst, ◌∙◌, arith}
use Rattle.std.specs.List.{AllByRecursion}
use Rattle.attempt_laws.proofs.Walk.{if_with}
use Rattle.cl_base.specs.declared.packet.DropCause.{DropCause}
use Rattle.cluster_machine.specs.Cluster.{Cluster as Whole}
use Rattle.cluster_ties.proofs.Told.{told_of_stays}
use Rattle.cluster_ties.specs.Moves.{IsReached, Moves}
use Rattle.cluster_ties.specs.Told.{ToldOf}
use Rattle.cmm_attempt.proofs.Basics.{and_cases, if_either, same_some}
use Rattle.interconnect.specs.Links as links
use Rattle.interconnect.specs.Links.{Links, Packet, appending, count_on, crowding, dropping, free_cells_of, oldest_on, refusing, removing, sending}
use Rattle.membership_machine.specs.Votes.{Setting}
use Rattle.node_model.specs.declared.output.Output.{Output}
use Rattle.node_model.specs.declared.output.Output.TheVariants.{Sends, Tells}
use Rattle.refinement.proofs.Worlds.{all_append, all_filter, all_found}
use Rattle.refinement.specs.Worlds.{AllFit, SpelledIfShort}
use Rattle.wire.proofs.Messages.{whole_again}
use Rattle.wire.specs.Reads.{whole_of}
use Rattle.wire.specs.Spelling.{Fits, spelling}
use Rattle.wire.specs.declared.message.Body.{Body}
use Rattle.wire.specs.declared.message.Message.{Message}
use Rattle.world_model.specs.Sends.{is_sent}
use Rattle.run_history.specs.Scenes.{Scene, dropped_so, passing, passing_one, posting, sent_as, telling}
use Rattle.run_history.specs.Wholes.{PacketTold}
use Rattle.run_history.specs.Sites.{AllToldOf}

abbrev pub Flying : Whole → Links → Type 0
Flying W l = AllByRecursion (PacketTold W) l.packets

-- Links: sending, and taking a packet out.

pub removing_told : (W : Whole) (l : Links) (number : ℕ) → Flying W l → Flying W (removing l number)
removing_told W l number h = all_filter (PacketTold W) (λ (p : Packet). not (p.number == number)) l.packets h

dropping_told : (W : Whole) (l : Links) (number : ℕ) (o : Option ℕ) → Flying W l → Flying W (dropping l number o).after
dropping_told W l number None h = h
dropping_told W l number (Some oldest) h = removing_told W l oldest h

abbrev AfterTold : Whole → links.Outcome → Type 0
AfterTold W o = Flying W o.after

crowding_told : (W : Whole) (l : Links) (number from to : ℕ) → Flying W l → AfterTold W (crowding l number from to)
crowding_told W l number from to h =
    if_either (AfterTold W) (nat_lt _ (count_on l.packets from to)) (dropping l number (oldest_on l.packets from to)) _ (dropping_told W l number (oldest_on l.packets from to) h) h

pub sending_told : (W : Whole) (l : Links) (from to : ℕ) (bytes : List ℕ) → Flying W l → ((m : Message) → whole_of bytes ≡ Some m → ToldOf W from to m.body) → AfterTold W (sending l from to bytes)
sending_told W l from to bytes h new =
    if_either (AfterTold W) (nat_lt (free_cells_of l) _) (refusing l) (crowding (appending l from to bytes) l.next from to) h
    (crowding_told W (appending l from to bytes) l.next from to
    (all_append (PacketTold W) l.packets (record { number = l.next; from = from; to = to; bytes = bytes }) h new))

-- it stays so
packets_stay : (S : Setting) (W V : Whole) (n : ℕ) (xs : List Packet) → IsReached S W → Moves S W n V → AllByRecursion (PacketTold W) xs → AllByRecursion (PacketTold V) xs
packets_stay S W V n [] reached m h = tt
packets_stay S W V n (x ∷ xs) reached m h = (λ message is. told_of_stays S W V n x.from x.to message.body reached m (h.0 message is), packets_stay S W V n xs reached m h.1)

pub flying_stays : (S : Setting) (W V : Whole) (n : ℕ) (l : Links) → IsReached S W → Moves S W n V → Flying W l → Flying V l
flying_stays S W V n l reached m h = packets_stay S W V n l.packets reached m h

-- What is seen of a scene but for its links and moments.

pub record SameBut (s t : Scene) : Type 0 where
  pub nodes : t.nodes ≡ s.nodes
  pub devices : t.devices ≡ s.devices
  pub faults : t.faults ≡ s.faults

same_self : (s : Scene) → SameBut s s
same_self s = record { nodes = refl; devices = refl; faults = refl }

same_then : (s t u : Scene) → SameBut s t → SameBut t u → SameBut s u
same_then s t u h k = record { nodes = k.nodes ∙ h.nodes; devices = k.devices ∙ h.devices; faults = k.faults ∙ h.faults }

pub dropped_same : (d : Option (ℕ × DropCause)) (s : Scene) → SameBut s (dropped_so d s)
dropped_same None s = same_self s
dropped_same (Some drop) s = record { nodes = refl; devices = refl; faults = refl }

pub dropped_links : (d : Option (ℕ × DropCause)) (s : Scene) → (dropped_so d s).links ≡ s.links
dropped_links None s = refl
dropped_links (Some drop) s = refl

sent_same : (from to : ℕ) (m : Message) (o : links.Outcome) (s : Scene) → SameBut s (sent_as from to m o s)
sent_same from to m o s =
    let k : SameBut _ (sent_as from to m o s) = dropped_same o.sent.dropped _ in
    record { nodes = k.nodes; devices = k.devices; faults = k.faults }

posting_same : (from to : ℕ) (m : Message) (s : Scene) → SameBut s (posting from to m s)
posting_same from to m s = if_either (SameBut s) (is_sent s.links m) (sent_as from to m (sending s.links from to (spelling m)) s) s (sent_same from to m (sending s.links from to (spelling m)) s) (same_self s)

one_same : (n : ℕ) (o : Output) (s : Scene) → SameBut s (passing_one n o s)
one_same n (Tells e) s = record { nodes = refl; devices = refl; faults = refl }
one_same n (Sends to b) s = posting_same n to (record { sender = n; body = b }) s

pub passing_same : (n : ℕ) (os : List Output) (s : Scene) → SameBut s (passing n os s)
passing_same n [] s = same_self s
passing_same n (o ∷ os) s = same_then s (passing_one n o s) (passing n os (passing_one n o s)) (one_same n o s) (passing_same n os (passing_one n o s))

-- What is in flight.

posting_told : (W : Whole) (n to : ℕ) (b : Body) (s : Scene) → Flying W s.links → SpelledIfShort (record { sender = n; body = b }) → ToldOf W n to b
    → Flying W (posting n to (record { sender = n; body = b }) s).links
posting_told W n to b s h fits told =
    if_with (λ (t : Scene). Flying W t.links) (is_sent s.links m) (is_sent s.links m) (sent_as n to m o s) s refl
    (λ e. subst (Flying W) (sym (dropped_links o.sent.dropped _)) (sent (fits (size (length (spelling m)) (and_cases _ _ e).0))))
    (λ e. h)
  where
    m : Message
    m = record { sender = n; body = b }

    o : links.Outcome
    o = sending s.links n to (spelling m)

    read : Fits m → (other : Message) → whole_of (spelling m) ≡ Some other → ToldOf W n to other.body
    read spelled other e = subst (λ (z : Message). ToldOf W n to z.body) (same_some m other (sym (whole_again m spelled) ∙ e)) told

    sent : Fits m → Flying W o.after
    sent spelled = sending_told W s.links n to (spelling m) h (read spelled)

    size : (k : ℕ) → nat_le k 131072 ≡ true → k ≤ 131072
    size k e = grind arith

pub passing_told : (W : Whole) (n : ℕ) (os : List Output) (s : Scene) → Flying W s.links → AllFit n os → AllToldOf W n os → Flying W (passing n os s).links
passing_told W n [] s h fits told = h
passing_told W n (Tells e ∷ os) s h fits told = passing_told W n os (telling e s) h fits told
passing_told W n (Sends to b ∷ os) s h fits told =
    passing_told W n os (posting n to (record { sender = n; body = b }) s) (posting_told W n to b s h fits.1 told.0) fits.2 told.1

-- the packet of a number tells so
pub packet_told : (W : Whole) (l : Links) (number : ℕ) (x : Packet) → Flying W l → links.packet_of l.packets number ≡ Some x → PacketTold W x
packet_told W l number x h is = all_found (PacketTold W) (λ (p : Packet). p.number == number) l.packets x h is
