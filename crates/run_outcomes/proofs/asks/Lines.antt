-- The lines tell of the members that were asked what a node gives.
use Rattle.std.specs.Prelude.{ℕ, ◌+◌, ◌==◌, ◌&&◌, ◌||◌, ◌≡◌, ◌≤◌, ◌^◌, nat_le, nat_lt, Bool, true, false, List, [], ◌∷◌, length, Option, None, Some, if◌then◌else◌}
use Rattle.std.specs.List.{AllByRecursion, list_any}
use Rattle.std.proofs.Common.{arith, refl, sym, ap, ◌∙◌}
use Rattle.attempt_laws.proofs.Walk.{if_with}
use Rattle.cl_base.specs.Limits.{most_packets}
use Rattle.cl_base.specs.declared.packet.DropCause.{DropCause}
use Rattle.cmm_attempt.proofs.Basics.{false_true, if_either}
use Rattle.history.specs.Letters.{sends}
use Rattle.history.specs.Moment.{Moment, Told}
use Rattle.history.specs.Names as name
use Rattle.history.specs.Names.{Name, named, same_name}
use Rattle.history.specs.Order.{since}
use Rattle.history.specs.Queue as told
use Rattle.history.specs.Seizing.{is_attempt}
use Rattle.history.specs.Setting.{coordinator}
use Rattle.history.specs.Trace.{attempt, sent}
use Rattle.interconnect.specs.Links as net
use Rattle.interconnect.specs.Links.{Links, appending, count_on, crowding, dropping, oldest_on, refusing, sending}
use Rattle.node_model.specs.declared.output.Output.{Output}
use Rattle.node_model.specs.declared.output.Output.TheVariants.{Sends, Tells}
use Rattle.run_downs.proofs.Packets.{IsNoPacket}
use Rattle.run_history.proofs.Links.{NotPacket}
use Rattle.run_history.specs.Scenes.{Scene, dropped_so, passing, posting, sent_as, telling, with_links}
use Rattle.status_report.specs.declared.attempt_entry.AttemptEntry.TheVariants as attempt_entry
use Rattle.status_report.specs.declared.entry.Entry.{Entry}
use Rattle.status_report.specs.declared.entry.Entry.TheVariants as entry
use Rattle.status_report.specs.declared.packet_entry.PacketEntry.TheVariants as packet
use Rattle.wire.proofs.Lengths.{spellings}
use Rattle.wire.specs.Spelling.{spelling}
use Rattle.wire.specs.declared.message.Body.{Body}
use Rattle.wire.specs.declared.message.Body.TheVariants as body
use Rattle.wire.specs.declared.message.Message.{Message}
use Rattle.world_model.specs.Sends.{is_sent, name_of}
use Rattle.run_outcomes.specs.tasks.Asks.{asked_by_body, first_in}
use Rattle.run_outcomes.specs.tasks.AsksGiven.{IsLeft, BeginsOwn, asked_by_output, asked_by_outputs, asked_in}

-- ---- packet numbers only rise

same : (a : ℕ) → a ≤ a
same a = omega arith

one_above : (a : ℕ) → a ≤ a + 1
one_above a = omega arith

le_is : (a b k : ℕ) → k ≡ b → a ≤ b → a ≤ k
le_is a b k e h = omega (arith, e, h)

up : (a b c : ℕ) → a ≤ b → b ≤ c → a ≤ c
up a b c h k = omega (arith, h, k)

-- where a number is left in the end, one was left before
pub left_before : (a b : ℕ) → a ≤ b → IsLeft b → IsLeft a
left_before a b h k = lower a b (2 ^ 63) h k
  where
    lower : (a b most : ℕ) → a ≤ b → nat_lt b most ≡ true → nat_lt a most ≡ true
    lower a b most h k = grind arith

dropping_next : (l : Links) (number : ℕ) (o : Option ℕ) → (dropping l number o).after.next ≡ l.next
dropping_next l number None = refl
dropping_next l number (Some oldest) = refl

pub crowding_next : (l : Links) (number from to : ℕ) → (crowding l number from to).after.next ≡ l.next
crowding_next l number from to =
    if_either (λ (o : net.Outcome). o.after.next ≡ l.next) (nat_lt most_packets (count_on l.packets from to)) (dropping l number (oldest_on l.packets from to)) _
    (dropping_next l number (oldest_on l.packets from to)) refl

pub sending_next : (l : Links) (from to : ℕ) (bytes : List ℕ) → l.next ≤ (sending l from to bytes).after.next
sending_next l from to bytes =
    if_either (λ (o : net.Outcome). l.next ≤ o.after.next) _ (refusing l) (crowding (appending l from to bytes) l.next from to) (one_above l.next)
    (le_is l.next (l.next + 1) _ (crowding_next (appending l from to bytes) l.next from to) (one_above l.next))

pub dropped_next : (l : ℕ) (o : Option (ℕ × DropCause)) (s : Scene) → l ≤ s.links.next → l ≤ (dropped_so o s).links.next
dropped_next l None s h = h
dropped_next l (Some x) s h = h

posting_next : (n to : ℕ) (m : Message) (s : Scene) → s.links.next ≤ (posting n to m s).links.next
posting_next n to m s =
    let o : net.Outcome = sending s.links n to (spelling m) in
    if_either (λ (z : Scene). s.links.next ≤ z.links.next) (is_sent s.links m) (sent_as n to m o s) s
    (dropped_next s.links.next o.sent.dropped (telling (entry.Packet (packet.Sent s.links.next n to (name_of m.body) (spelling m))) (with_links s o.after)) (sending_next s.links n to (spelling m))) (same s.links.next)

pub passing_next : (n : ℕ) (os : List Output) (s : Scene) → s.links.next ≤ (passing n os s).links.next
passing_next n [] s = same s.links.next
passing_next n (Tells e ∷ os) s = passing_next n os (telling e s)
passing_next n (Sends to b ∷ os) s =
    let m : Message = record { sender = n; body = b } in
    up s.links.next (posting n to m s).links.next (passing n os (posting n to m s)).links.next (posting_next n to m s) (passing_next n os (posting n to m s))

-- ---- what a node sends

pub dropped_asked : (e d : ℕ) (o : Option (ℕ × DropCause)) (s : Scene) → asked_in e d (dropped_so o s).moments ≡ asked_in e d s.moments
dropped_asked e d None s = refl
dropped_asked e d (Some x) s = refl

no_one : (b : Bool) (m : ℕ) (before : List ℕ) → (if b && false then m ∷ before else before) ≡ before
no_one true m before = refl
no_one false m before = refl

-- its line, where it is sent
sent_asked : (e d p n to : ℕ) (b : Body) (bytes : List ℕ) (ms : List Moment) → (n == coordinator e) ≡ true → asked_in e d (sent p n to (name_of b) bytes ∷ ms) ≡ asked_by_body d to b (asked_in e d ms)
sent_asked e d p n to (body.SeizeQuorum f members x) bytes ms own = ap (λ t. if t && (x == d) then to ∷ asked_in e d ms else asked_in e d ms) own
sent_asked e d p n to _ bytes ms own = no_one (n == coordinator e) to (asked_in e d ms)

short_two : (size : ℕ) → size ≡ 2 + 13 → nat_le size 131072 ≡ true
short_two size is = small size is
  where
    small : (k : ℕ) → k ≡ 15 → nat_le k 131072 ≡ true
    small k h = grind arith

both_true : (a b : Bool) → a ≡ true → b ≡ true → (a && b) ≡ true
both_true true b h k = k
both_true false b h k = absurd (false_true h)

-- it is sent, where a number is left; what is no request matters not
unsent_asked : (d n to : ℕ) (b : Body) (s : Scene) (before : List ℕ) → IsLeft s.links.next → is_sent s.links (record { sender = n; body = b }) ≡ false → before ≡ asked_by_body d to b before
unsent_asked d n to (body.SeizeQuorum f members x) s before left stays =
    let m : Message = record { sender = n; body = body.SeizeQuorum f members x } in
    absurd (false_true (sym stays ∙ both_true (nat_le (length (spelling m)) 131072) (nat_lt s.links.next (2 ^ 63)) (short_two (length (spelling m)) (spellings m)) left))
unsent_asked d n to _ s before left stays = refl

posted_asked : (e d n to : ℕ) (b : Body) (s : Scene) → (n == coordinator e) ≡ true → IsLeft s.links.next → asked_in e d (posting n to (record { sender = n; body = b }) s).moments ≡ asked_by_body d to b (asked_in e d s.moments)
posted_asked e d n to b s own left =
    let m : Message = record { sender = n; body = b } in
    let o : net.Outcome = sending s.links n to (spelling m) in
    if_with (λ (z : Scene). asked_in e d z.moments ≡ asked_by_body d to b (asked_in e d s.moments)) (is_sent s.links m) (is_sent s.links m) (sent_as n to m o s) s refl
    (λ _. dropped_asked e d o.sent.dropped (telling (entry.Packet (packet.Sent s.links.next n to (name_of b) (spelling m))) (with_links s o.after)) ∙ sent_asked e d s.links.next n to b (spelling m) s.moments own)
    (λ stays. unsent_asked d n to b s (asked_in e d s.moments) left stays)

told_asked : (e d : ℕ) (x : Entry) (ms : List Moment) → NotPacket x → asked_in e d (Told x ∷ ms) ≡ asked_by_output e d (Tells x) (asked_in e d ms)
told_asked e d (entry.Packet x) ms h = absurd h
told_asked e d (entry.Attempt (attempt_entry.Begun f members)) ms h = refl
told_asked e d _ ms h = refl

-- what the coordinator gives
pub passing_asked : (e d n : ℕ) (os : List Output) (s : Scene) → (n == coordinator e) ≡ true → AllByRecursion IsNoPacket os → IsLeft (passing n os s).links.next → asked_in e d (passing n os s).moments ≡ asked_by_outputs e d os (asked_in e d s.moments)
passing_asked e d n [] s own plain left = refl
passing_asked e d n (Tells x ∷ os) s own plain left = passing_asked e d n os (telling x s) own plain.1 left ∙ ap (asked_by_outputs e d os) (told_asked e d x s.moments plain.0)
passing_asked e d n (Sends to b ∷ os) s own plain left =
    let m : Message = record { sender = n; body = b } in
    passing_asked e d n os (posting n to m s) own plain.1 left
    ∙ ap (asked_by_outputs e d os) (posted_asked e d n to b s own (left_before s.links.next (passing n (Sends to b ∷ os) s).links.next (passing_next n (Sends to b ∷ os) s) left))

-- ---- what another node gives

others_sent : (e d p n to : ℕ) (b : Body) (bytes : List ℕ) (ms : List Moment) → (n == coordinator e) ≡ false → asked_in e d (sent p n to (name_of b) bytes ∷ ms) ≡ asked_in e d ms
others_sent e d p n to b bytes ms other = ap (λ t. if t && told.is_ask d (named (name_of b)) then to ∷ asked_in e d ms else asked_in e d ms) other

others_posted : (e d n to : ℕ) (b : Body) (s : Scene) → (n == coordinator e) ≡ false → asked_in e d (posting n to (record { sender = n; body = b }) s).moments ≡ asked_in e d s.moments
others_posted e d n to b s other =
    let m : Message = record { sender = n; body = b } in
    let o : net.Outcome = sending s.links n to (spelling m) in
    if_either (λ (z : Scene). asked_in e d z.moments ≡ asked_in e d s.moments) (is_sent s.links m) (sent_as n to m o s) s
    (dropped_asked e d o.sent.dropped (telling (entry.Packet (packet.Sent s.links.next n to (name_of b) (spelling m))) (with_links s o.after)) ∙ others_sent e d s.links.next n to b (spelling m) s.moments other) refl

differ : (f e n : ℕ) → coordinator f ≡ n → (n == coordinator e) ≡ false → (f == e) ≡ false
differ f e n own other = by_test (f == e) refl
  where
    itself : (k : ℕ) → (k == k) ≡ true
    itself k = grind arith

    equal : (a b : ℕ) → (a == b) ≡ true → a ≡ b
    equal a b h = grind arith

    by_test : (b : Bool) → (f == e) ≡ b → b ≡ false
    by_test true is = absurd (false_true (sym other ∙ (ap (λ k. k == coordinator e) (sym own ∙ ap coordinator (equal f e is)) ∙ itself (coordinator e))))
    by_test false is = refl

others_told : (e d n : ℕ) (x : Entry) (ms : List Moment) → (n == coordinator e) ≡ false → BeginsOwn n (Tells x) → NotPacket x → asked_in e d (Told x ∷ ms) ≡ asked_in e d ms
others_told e d n (entry.Packet x) ms other own h = absurd h
others_told e d n (entry.Attempt (attempt_entry.Begun f members)) ms other own h = ap (λ t. if t then [] else asked_in e d ms) (differ f e n own other)
others_told e d n _ ms other own h = refl

pub others_asked : (e d n : ℕ) (os : List Output) (s : Scene) → (n == coordinator e) ≡ false → AllByRecursion (BeginsOwn n) os → AllByRecursion IsNoPacket os → asked_in e d (passing n os s).moments ≡ asked_in e d s.moments
others_asked e d n [] s other own plain = refl
others_asked e d n (Tells x ∷ os) s other own plain = others_asked e d n os (telling x s) other own.1 plain.1 ∙ others_told e d n x s.moments other own.0 plain.0
others_asked e d n (Sends to b ∷ os) s other own plain = others_asked e d n os (posting n to (record { sender = n; body = b }) s) other own.1 plain.1 ∙ others_posted e d n to b s other

-- ---- as history has them

pub last_asked : (e d : ℕ) (ms : List Moment) → told.asked_last e d ms ≡ first_in (asked_in e d ms)
last_asked e d [] = refl
last_asked e d (attempt f members ∷ ms) = by_test (f == e) (last_asked e d ms)
  where
    by_test : (b : Bool) → told.asked_last e d ms ≡ first_in (asked_in e d ms) → (if b then None else told.asked_last e d ms) ≡ first_in (if b then [] else asked_in e d ms)
    by_test true rest = refl
    by_test false rest = rest
last_asked e d (sent p c m called bytes ∷ ms) = by_test ((c == coordinator e) && told.is_ask d (named called)) (last_asked e d ms)
  where
    by_test : (b : Bool) → told.asked_last e d ms ≡ first_in (asked_in e d ms) → (if b then Some m else told.asked_last e d ms) ≡ first_in (if b then m ∷ asked_in e d ms else asked_in e d ms)
    by_test true rest = refl
    by_test false rest = rest
last_asked e d (_ ∷ ms) = last_asked e d ms

same_ask : (d : ℕ) (n : Name) → same_name n (name.SeizeQuorum d) ≡ told.is_ask d n
same_ask d (name.SeizeQuorum k) = refl
same_ask d _ = refl

pub any_asked : (e d m : ℕ) (ms : List Moment) → list_any (sends (coordinator e) m (name.SeizeQuorum d)) (since (is_attempt e) ms) ≡ list_any (λ k. k == m) (asked_in e d ms)
any_asked e d m [] = refl
any_asked e d m (attempt f members ∷ ms) = by_test (f == e) (any_asked e d m ms)
  where
    by_test : (b : Bool) → list_any (sends (coordinator e) m (name.SeizeQuorum d)) (since (is_attempt e) ms) ≡ list_any (λ k. k == m) (asked_in e d ms)
        → list_any (sends (coordinator e) m (name.SeizeQuorum d)) (if b then [] else attempt f members ∷ since (is_attempt e) ms) ≡ list_any (λ k. k == m) (if b then [] else asked_in e d ms)
    by_test true rest = refl
    by_test false rest = rest
any_asked e d m (sent p c t called bytes ∷ ms) =
    ap (λ b. ((c == coordinator e) && (t == m) && b) || list_any (sends (coordinator e) m (name.SeizeQuorum d)) (since (is_attempt e) ms)) (same_ask d (named called))
    ∙ by_tests (c == coordinator e) (told.is_ask d (named called)) (any_asked e d m ms)
  where
    by_tests : (a b : Bool) → list_any (sends (coordinator e) m (name.SeizeQuorum d)) (since (is_attempt e) ms) ≡ list_any (λ k. k == m) (asked_in e d ms)
        → ((a && (t == m) && b) || list_any (sends (coordinator e) m (name.SeizeQuorum d)) (since (is_attempt e) ms)) ≡ list_any (λ k. k == m) (if a && b then t ∷ asked_in e d ms else asked_in e d ms)
    by_tests true true rest = both_so (t == m) _ _ rest
      where
        both_so : (x y z : Bool) → y ≡ z → ((x && true) || y) ≡ (x || z)
        both_so true y z h = refl
        both_so false y z h = h
    by_tests true false rest = none_so (t == m) _ _ rest
      where
        none_so : (x y z : Bool) → y ≡ z → ((x && false) || y) ≡ z
        none_so true y z h = h
        none_so false y z h = h
    by_tests false b rest = rest
any_asked e d m (_ ∷ ms) = any_asked e d m ms
