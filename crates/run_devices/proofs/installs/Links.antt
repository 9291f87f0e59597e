-- What each packet in flight says is so, as messages are sent.
use Rattle.std.specs.Prelude.{ℕ, ◌≡◌, ◌≤◌, ◌==◌, ◌++◌, nat_le, nat_lt, not, true, List, [], ◌∷◌, Option, None, Some, length}
use Rattle.std.proofs.Common.{sym, subst, ◌∙◌, arith, refl}
use Rattle.std.specs.List.{AllByRecursion}
use Rattle.attempt_laws.proofs.Walk.{if_with}
use Rattle.cl_base.specs.declared.packet.DropCause.{DropCause}
use Rattle.cmm_attempt.proofs.Basics.{and_cases, if_either, same_some}
use Rattle.history.specs.Moment.{Moment, Told}
use Rattle.interconnect.specs.Links as links
use Rattle.interconnect.specs.Links.{Links, Packet, appending, count_on, crowding, dropping, free_cells_of, oldest_on, refusing, removing, sending}
use Rattle.node_model.specs.declared.output.Output.{Output}
use Rattle.node_model.specs.declared.output.Output.TheVariants.{Sends, Tells}
use Rattle.refinement.proofs.Worlds.{all_append, all_filter, all_found}
use Rattle.refinement.specs.Worlds.{AllFit, SpelledIfShort}
use Rattle.run_history.proofs.Flying.{dropped_links}
use Rattle.run_history.specs.Scenes.{Scene, dropped_so, passing, posting, sent_as, telling}
use Rattle.status_report.specs.declared.entry.Entry.TheVariants as entry
use Rattle.status_report.specs.declared.packet_entry.PacketEntry.TheVariants as packet
use Rattle.wire.proofs.Messages.{whole_again}
use Rattle.wire.specs.Reads.{whole_of}
use Rattle.wire.specs.Spelling.{Fits, spelling}
use Rattle.wire.specs.declared.message.Body.{Body}
use Rattle.wire.specs.declared.message.Message.{Message}
use Rattle.world_model.specs.Sends.{is_sent, name_of}

-- of a sender and what it says
abbrev pub Says : Type 1
Says = ℕ → Body → Type 0

abbrev pub SaysSo : Says → Packet → Type 0
SaysSo P x = (m : Message) → whole_of x.bytes ≡ Some m → P x.from m.body

abbrev pub AllSay : Says → Links → Type 0
AllSay P l = AllByRecursion (SaysSo P) l.packets

pub removing_says : (P : Says) (l : Links) (number : ℕ) → AllSay P l → AllSay P (removing l number)
removing_says P l number h = all_filter (SaysSo P) (λ (p : Packet). not (p.number == number)) l.packets h

dropping_says : (P : Says) (l : Links) (number : ℕ) (o : Option ℕ) → AllSay P l → AllSay P (dropping l number o).after
dropping_says P l number None h = h
dropping_says P l number (Some oldest) h = removing_says P l oldest h

abbrev AfterSays : Says → links.Outcome → Type 0
AfterSays P o = AllSay P o.after

crowding_says : (P : Says) (l : Links) (number from to : ℕ) → AllSay P l → AfterSays P (crowding l number from to)
crowding_says P l number from to h =
    if_either (AfterSays P) (nat_lt _ (count_on l.packets from to)) (dropping l number (oldest_on l.packets from to)) _ (dropping_says P l number (oldest_on l.packets from to) h) h

pub sending_says : (P : Says) (l : Links) (from to : ℕ) (bytes : List ℕ) → AllSay P l → ((m : Message) → whole_of bytes ≡ Some m → P from m.body) → AfterSays P (sending l from to bytes)
sending_says P l from to bytes h new =
    if_either (AfterSays P) (nat_lt (free_cells_of l) _) (refusing l) (crowding (appending l from to bytes) l.next from to) h
    (crowding_says P (appending l from to bytes) l.next from to
    (all_append (SaysSo P) l.packets (record { number = l.next; from = from; to = to; bytes = bytes }) h new))

packets_say : (P Q : Says) (xs : List Packet) → ((from : ℕ) (b : Body) → P from b → Q from b) → AllByRecursion (SaysSo P) xs → AllByRecursion (SaysSo Q) xs
packets_say P Q [] f h = tt
packets_say P Q (x ∷ xs) f h = ((λ m is. f x.from m.body (h.0 m is)), packets_say P Q xs f h.1)

pub say_later : (P Q : Says) (l : Links) → ((from : ℕ) (b : Body) → P from b → Q from b) → AllSay P l → AllSay Q l
say_later P Q l f h = packets_say P Q l.packets f h

pub packet_says : (P : Says) (l : Links) (number : ℕ) (x : Packet) → AllSay P l → links.packet_of l.packets number ≡ Some x → SaysSo P x
packet_says P l number x h is = all_found (SaysSo P) (λ (p : Packet). p.number == number) l.packets x h is

-- ---- what a node gives

abbrev pub Gives : Says → ℕ → List Output → Type 0
Gives P n [] = Unit {0}
Gives P n (Tells e ∷ os) = Gives P n os
Gives P n (Sends to b ∷ os) = P n b × Gives P n os

pub gives_append : (P : Says) (n : ℕ) (os more : List Output) → Gives P n os → Gives P n more → Gives P n (os ++ more)
gives_append P n [] more h k = k
gives_append P n (Tells e ∷ os) more h k = gives_append P n os more h k
gives_append P n (Sends to b ∷ os) more h k = (h.0, gives_append P n os more h.1 k)

pub gives_later : (P Q : Says) (n : ℕ) (os : List Output) → ((from : ℕ) (b : Body) → P from b → Q from b) → Gives P n os → Gives Q n os
gives_later P Q n [] f h = tt
gives_later P Q n (Tells e ∷ os) f h = gives_later P Q n os f h
gives_later P Q n (Sends to b ∷ os) f h = (f n b h.0, gives_later P Q n os f h.1)

size : (k : ℕ) → nat_le k 131072 ≡ true → k ≤ 131072
size k e = grind arith

posting_says : (P : Says) (n to : ℕ) (b : Body) (s : Scene) → AllSay P s.links → SpelledIfShort (record { sender = n; body = b }) → P n b
    → AllSay P (posting n to (record { sender = n; body = b }) s).links
posting_says P n to b s h fits told =
    if_with (λ (t : Scene). AllSay P t.links) (is_sent s.links m) (is_sent s.links m) (sent_as n to m o s) s refl
    (λ e. subst (AllSay P) (sym (dropped_links o.sent.dropped _)) (sent (fits (size (length (spelling m)) (and_cases _ _ e).0))))
    (λ e. h)
  where
    m : Message
    m = record { sender = n; body = b }

    o : links.Outcome
    o = sending s.links n to (spelling m)

    read : Fits m → (other : Message) → whole_of (spelling m) ≡ Some other → P n other.body
    read spelled other e = subst (λ (z : Message). P n z.body) (same_some m other (sym (whole_again m spelled) ∙ e)) told

    sent : Fits m → AllSay P o.after
    sent spelled = sending_says P s.links n to (spelling m) h (read spelled)

pub passing_says : (P : Says) (n : ℕ) (os : List Output) (s : Scene) → AllSay P s.links → AllFit n os → Gives P n os → AllSay P (passing n os s).links
passing_says P n [] s h fits told = h
passing_says P n (Tells e ∷ os) s h fits told = passing_says P n os (telling e s) h fits told
passing_says P n (Sends to b ∷ os) s h fits told =
    passing_says P n os (posting n to (record { sender = n; body = b }) s) (posting_says P n to b s h fits.1 told.0) fits.2 told.1

-- ---- what stays as moments come

abbrev pub Stays : (List Moment → Type 0) → Type 0
Stays P = (x : Moment) (ms : List Moment) → P ms → P (x ∷ ms)

pub dropped_stays : (P : List Moment → Type 0) → Stays P → (o : Option (ℕ × DropCause)) (s : Scene) → P s.moments → P (dropped_so o s).moments
dropped_stays P stays None s k = k
dropped_stays P stays (Some drop) s k = stays (Told (entry.Packet (packet.Dropped drop.0 drop.1))) s.moments k

posting_stays : (P : List Moment → Type 0) → Stays P → (n to : ℕ) (b : Body) (s : Scene) → P s.moments → P (posting n to (record { sender = n; body = b }) s).moments
posting_stays P stays n to b s k =
    let m : Message = record { sender = n; body = b } in
    if_either (λ (t : Scene). P t.moments) (is_sent s.links m) (sent_as n to m (sending s.links n to (spelling m)) s) s
    (dropped_stays P stays (sending s.links n to (spelling m)).sent.dropped _
    (stays (Told (entry.Packet (packet.Sent s.links.next n to (name_of b) (spelling m)))) s.moments k)) k

pub passing_stays : (P : List Moment → Type 0) → Stays P → (n : ℕ) (os : List Output) (s : Scene) → P s.moments → P (passing n os s).moments
passing_stays P stays n [] s k = k
passing_stays P stays n (Tells e ∷ os) s k = passing_stays P stays n os (telling e s) (stays (Told e) s.moments k)
passing_stays P stays n (Sends to b ∷ os) s k =
    passing_stays P stays n os (posting n to (record { sender = n; body = b }) s) (posting_stays P stays n to b s k)
