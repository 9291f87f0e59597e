-- The lines tell what a node has sent.
use Rattle.std.specs.Prelude.{ℕ, ◌+◌, ◌==◌, ◌&&◌, ◌||◌, ◌≡◌, ◌^◌, nat_le, nat_lt, Bool, true, false, List, [], ◌∷◌, length, Option, None, Some, is_some, not, if◌then◌else◌}
use Rattle.std.specs.List.{AllByRecursion, list_any}
use Rattle.std.proofs.Common.{arith, refl, sym, ap, ◌∙◌}
use Rattle.attempt_laws.proofs.Walk.{if_with}
use Rattle.cl_base.specs.Seizings.{SeizeResult}
use Rattle.cl_base.specs.declared.packet.DropCause.{DropCause}
use Rattle.cmm_attempt.proofs.Basics.{false_true, if_either}
use Rattle.history.specs.Letters.{sends}
use Rattle.history.specs.Moment.{Moment, Told}
use Rattle.history.specs.Names as name
use Rattle.history.specs.Names.{Name, named, same_name}
use Rattle.history.specs.Order.{since}
use Rattle.history.specs.Letters as told
use Rattle.history.specs.Seizing.{is_attempt}
use Rattle.history.specs.Seizing.{or_else}
use Rattle.history.specs.Setting.{coordinator}
use Rattle.history.specs.Queue as tasks
use Rattle.history.specs.Trace.{attempt, delivered, sent}
use Rattle.interconnect.specs.Links as net
use Rattle.interconnect.specs.Links.{Links, appending, count_on, crowding, dropping, oldest_on, refusing, sending}
use Rattle.node_model.specs.declared.output.Output.{Output}
use Rattle.node_model.specs.declared.output.Output.TheVariants.{Sends, Tells}
use Rattle.run_downs.proofs.Packets.{IsNoPacket}
use Rattle.run_history.proofs.Links.{NotPacket}
use Rattle.run_history.specs.Scenes.{Scene, dropped_so, passing, posting, sent_as, telling, with_links}
use Rattle.status_report.specs.declared.attempt_entry.AttemptEntry.TheVariants as attempt_entry
use Rattle.status_report.specs.declared.entry.Entry.{Entry}
use Rattle.status_report.specs.declared.entry.Entry.TheVariants as entry
use Rattle.status_report.specs.declared.packet_entry.PacketEntry.TheVariants as packet
use Rattle.wire.proofs.Lengths.{spellings}
use Rattle.wire.specs.Spelling.{spelling}
use Rattle.wire.specs.declared.message.Body.{Body}
use Rattle.wire.specs.declared.message.Body.TheVariants as body
use Rattle.wire.specs.declared.message.Message.{Message}
use Rattle.world_model.specs.Sends.{is_sent as is_posted, name_of}
use Rattle.run_outcomes.specs.silence.Asked.{Alike, Query, asked_by_body, asked_by_output, asked_by_outputs, answers, asked_in, asks, comes, is_sent}
use Rattle.run_outcomes.specs.tasks.AsksGiven.{BeginsOwn, IsLeft}
use Rattle.run_outcomes.proofs.asks.Lines.{left_before, passing_next}

-- ---- what a node sends

pub dropped_asked : (e : ℕ) (q : Query) (o : Option (ℕ × DropCause)) (s : Scene) → asked_in e q (dropped_so o s).moments ≡ asked_in e q s.moments
dropped_asked e q None s = refl
dropped_asked e q (Some x) s = refl

no_one : (a b : Bool) → ((a && false) || b) ≡ b
no_one true b = refl
no_one false b = refl

-- the world calls it as `history` does
called_so : (b : Body) → named (name_of b) ≡ told.name_of b
called_so (body.Heartbeat promised session one) = refl
called_so (body.Collect p members) = refl
called_so (body.Promise p newest members valid flagged committed pending) = refl
called_so (body.Nack p promised) = refl
called_so (body.SeizeQuorum p members d) = refl
called_so (body.SeizeData p members d) = refl
called_so (body.Seized p d ended) = refl
called_so (body.Install i) = refl
called_so (body.Ready p joined report) = refl
called_so (body.Start p) = refl
called_so (body.Prepare p place text) = refl
called_so (body.Prepared p place) = refl
called_so (body.Commit p place) = refl
called_so (body.Order o) = refl
called_so (body.Done p number ended) = refl
called_so (body.Request p number text) = refl
called_so (body.Answer p number text) = refl
called_so (body.Excluded p newest) = refl

-- its line, where it is sent
sent_asked : (e : ℕ) (q : Query) (p n to : ℕ) (b : Body) (bytes : List ℕ) (ms : List Moment) → (n == coordinator e) ≡ true → asked_in e q (sent p n to (name_of b) bytes ∷ ms) ≡ asked_by_body q to b (asked_in e q ms)
sent_asked e q p n to b bytes ms own = ap (λ t. (t && asks q to (named (name_of b))) || asked_in e q ms) own ∙ ap (λ called. asks q to called || asked_in e q ms) (called_so b)

short_data : (size : ℕ) → size ≡ 2 + 13 → nat_le size 131072 ≡ true
short_data size is = small size is
  where
    small : (k : ℕ) → k ≡ 15 → nat_le k 131072 ≡ true
    small k h = grind arith

short_collect : (size : ℕ) → size ≡ 2 + 12 → nat_le size 131072 ≡ true
short_collect size is = small size is
  where
    small : (k : ℕ) → k ≡ 14 → nat_le k 131072 ≡ true
    small k h = grind arith

both_true : (a b : Bool) → a ≡ true → b ≡ true → (a && b) ≡ true
both_true true b h k = k
both_true false b h k = absurd (false_true h)

-- a message of these names is short, or counts as it comes
abbrev pub IsShortName : Name → Type 0
IsShortName name.Collect = Unit {0}
IsShortName (name.SeizeData d) = Unit {0}
IsShortName (name.Seized d) = Unit {0}
IsShortName name.Ready = Unit {0}
IsShortName _ = ⊥

-- it is sent, where a number is left; what has another name matters not
unsent_by : (t : Bool) (called : Name) (n : ℕ) (b : Body) (s : Scene) (before : Bool) → IsShortName called → IsLeft s.links.next → is_posted s.links (record { sender = n; body = b }) ≡ false
    → before ≡ ((is_sent called && t && same_name (told.name_of b) called) || before)
unsent_by t name.Collect n (body.Collect p members) s before of left stays =
    let m : Message = record { sender = n; body = body.Collect p members } in
    absurd (false_true (sym stays ∙ both_true (nat_le (length (spelling m)) 131072) (nat_lt s.links.next (2 ^ 63)) (short_collect (length (spelling m)) (spellings m)) left))
unsent_by t name.Collect n _ s before of left stays = sym (no_one t before)
unsent_by t (name.SeizeData d) n (body.SeizeData p members x) s before of left stays =
    let m : Message = record { sender = n; body = body.SeizeData p members x } in
    absurd (false_true (sym stays ∙ both_true (nat_le (length (spelling m)) 131072) (nat_lt s.links.next (2 ^ 63)) (short_data (length (spelling m)) (spellings m)) left))
unsent_by t (name.SeizeData d) n _ s before of left stays = sym (no_one t before)
unsent_by t (name.Seized d) n b s before of left stays = refl
unsent_by t name.Ready n b s before of left stays = refl
unsent_by t _ n b s before of left stays = absurd of

posted_asked : (e : ℕ) (q : Query) (n to : ℕ) (b : Body) (s : Scene) → IsShortName q.called → (n == coordinator e) ≡ true → IsLeft s.links.next → asked_in e q (posting n to (record { sender = n; body = b }) s).moments ≡ asked_by_body q to b (asked_in e q s.moments)
posted_asked e q n to b s of own left =
    let m : Message = record { sender = n; body = b } in
    let o : net.Outcome = sending s.links n to (spelling m) in
    if_with (λ (z : Scene). asked_in e q z.moments ≡ asked_by_body q to b (asked_in e q s.moments)) (is_posted s.links m) (is_posted s.links m) (sent_as n to m o s) s refl
    (λ _. dropped_asked e q o.sent.dropped (telling (entry.Packet (packet.Sent s.links.next n to (name_of b) (spelling m))) (with_links s o.after)) ∙ sent_asked e q s.links.next n to b (spelling m) s.moments own)
    (λ stays. unsent_by (to == q.to) q.called n b s (asked_in e q s.moments) of left stays)

told_asked : (e : ℕ) (q : Query) (x : Entry) (ms : List Moment) → NotPacket x → asked_in e q (Told x ∷ ms) ≡ asked_by_output e q (Tells x) (asked_in e q ms)
told_asked e q (entry.Packet x) ms h = absurd h
told_asked e q (entry.Attempt (attempt_entry.Begun f members)) ms h = refl
told_asked e q _ ms h = refl

-- what the coordinator gives
pub passing_asked : (e : ℕ) (q : Query) (n : ℕ) (os : List Output) (s : Scene) → IsShortName q.called → (n == coordinator e) ≡ true → AllByRecursion IsNoPacket os → IsLeft (passing n os s).links.next → asked_in e q (passing n os s).moments ≡ asked_by_outputs e q os (asked_in e q s.moments)
passing_asked e q n [] s of own plain left = refl
passing_asked e q n (Tells x ∷ os) s of own plain left = passing_asked e q n os (telling x s) of own plain.1 left ∙ ap (asked_by_outputs e q os) (told_asked e q x s.moments plain.0)
passing_asked e q n (Sends to b ∷ os) s of own plain left =
    let m : Message = record { sender = n; body = b } in
    passing_asked e q n os (posting n to m s) of own plain.1 left
    ∙ ap (asked_by_outputs e q os) (posted_asked e q n to b s of own (left_before s.links.next (passing n (Sends to b ∷ os) s).links.next (passing_next n (Sends to b ∷ os) s) left))

-- .. of whatever name: what the lines tell was given
less : (e : ℕ) (q : Query) (o : Output) (a b : Bool) → (a ≡ true → b ≡ true) → asked_by_output e q o a ≡ true → asked_by_output e q o b ≡ true
less e q (Sends to x) a b f is = by_test (asks q to (told.name_of x)) is
  where
    by_test : (t : Bool) → (t || a) ≡ true → (t || b) ≡ true
    by_test true k = refl
    by_test false k = f k
less e q (Tells (entry.Attempt (attempt_entry.Begun f1 members))) a b f is = by_test (f1 == e) is
  where
    by_test : (t : Bool) → (if t then false else a) ≡ true → (if t then false else b) ≡ true
    by_test true k = absurd (false_true k)
    by_test false k = f k
less e q (Tells x) a b f is = f is

all_less : (e : ℕ) (q : Query) (os : List Output) (a b : Bool) → (a ≡ true → b ≡ true) → asked_by_outputs e q os a ≡ true → asked_by_outputs e q os b ≡ true
all_less e q [] a b f is = f is
all_less e q (o ∷ os) a b f is = all_less e q os (asked_by_output e q o a) (asked_by_output e q o b) (less e q o a b f) is

posted_less : (e : ℕ) (q : Query) (n to : ℕ) (b : Body) (s : Scene) → (n == coordinator e) ≡ true → asked_in e q (posting n to (record { sender = n; body = b }) s).moments ≡ true → asked_by_body q to b (asked_in e q s.moments) ≡ true
posted_less e q n to b s own =
    let m : Message = record { sender = n; body = b } in
    let o : net.Outcome = sending s.links n to (spelling m) in
    if_either (λ (z : Scene). asked_in e q z.moments ≡ true → asked_by_body q to b (asked_in e q s.moments) ≡ true) (is_posted s.links m) (sent_as n to m o s) s
    (λ is. sym (dropped_asked e q o.sent.dropped (telling (entry.Packet (packet.Sent s.links.next n to (name_of b) (spelling m))) (with_links s o.after)) ∙ sent_asked e q s.links.next n to b (spelling m) s.moments own) ∙ is)
    (λ is. or_later (asks q to (told.name_of b)) (asked_in e q s.moments) is)
  where
    or_later : (a t : Bool) → t ≡ true → (a || t) ≡ true
    or_later true t k = refl
    or_later false t k = k

pub passing_less : (e : ℕ) (q : Query) (n : ℕ) (os : List Output) (s : Scene) → (n == coordinator e) ≡ true → AllByRecursion IsNoPacket os → asked_in e q (passing n os s).moments ≡ true → asked_by_outputs e q os (asked_in e q s.moments) ≡ true
passing_less e q n [] s own plain is = is
passing_less e q n (Tells x ∷ os) s own plain is = sym (ap (asked_by_outputs e q os) (told_asked e q x s.moments plain.0)) ∙ passing_less e q n os (telling x s) own plain.1 is
passing_less e q n (Sends to b ∷ os) s own plain is =
    let t : Scene = posting n to (record { sender = n; body = b }) s in
    all_less e q os (asked_in e q t.moments) (asked_by_body q to b (asked_in e q s.moments)) (posted_less e q n to b s own) (passing_less e q n os t own plain.1 is)

-- ---- what another node gives

others_sent : (e : ℕ) (q : Query) (p n to : ℕ) (b : Body) (bytes : List ℕ) (ms : List Moment) → (n == coordinator e) ≡ false → asked_in e q (sent p n to (name_of b) bytes ∷ ms) ≡ asked_in e q ms
others_sent e q p n to b bytes ms other = ap (λ t. (t && asks q to (named (name_of b))) || asked_in e q ms) other

others_posted : (e : ℕ) (q : Query) (n to : ℕ) (b : Body) (s : Scene) → (n == coordinator e) ≡ false → asked_in e q (posting n to (record { sender = n; body = b }) s).moments ≡ asked_in e q s.moments
others_posted e q n to b s other =
    let m : Message = record { sender = n; body = b } in
    let o : net.Outcome = sending s.links n to (spelling m) in
    if_either (λ (z : Scene). asked_in e q z.moments ≡ asked_in e q s.moments) (is_posted s.links m) (sent_as n to m o s) s
    (dropped_asked e q o.sent.dropped (telling (entry.Packet (packet.Sent s.links.next n to (name_of b) (spelling m))) (with_links s o.after)) ∙ others_sent e q s.links.next n to b (spelling m) s.moments other) refl

differ : (f e n : ℕ) → coordinator f ≡ n → (n == coordinator e) ≡ false → (f == e) ≡ false
differ f e n own other = by_test (f == e) refl
  where
    itself : (k : ℕ) → (k == k) ≡ true
    itself k = grind arith

    equal : (a b : ℕ) → (a == b) ≡ true → a ≡ b
    equal a b h = grind arith

    by_test : (b : Bool) → (f == e) ≡ b → b ≡ false
    by_test true is = absurd (false_true (sym other ∙ (ap (λ k. k == coordinator e) (sym own ∙ ap coordinator (equal f e is)) ∙ itself (coordinator e))))
    by_test false is = refl

others_told : (e : ℕ) (q : Query) (n : ℕ) (x : Entry) (ms : List Moment) → (n == coordinator e) ≡ false → BeginsOwn n (Tells x) → NotPacket x → asked_in e q (Told x ∷ ms) ≡ asked_in e q ms
others_told e q n (entry.Packet x) ms other own h = absurd h
others_told e q n (entry.Attempt (attempt_entry.Begun f members)) ms other own h = ap (λ t. if t then false else asked_in e q ms) (differ f e n own other)
others_told e q n _ ms other own h = refl

pub others_asked : (e : ℕ) (q : Query) (n : ℕ) (os : List Output) (s : Scene) → (n == coordinator e) ≡ false → AllByRecursion (BeginsOwn n) os → AllByRecursion IsNoPacket os → asked_in e q (passing n os s).moments ≡ asked_in e q s.moments
others_asked e q n [] s other own plain = refl
others_asked e q n (Tells x ∷ os) s other own plain = others_asked e q n os (telling x s) other own.1 plain.1 ∙ others_told e q n x s.moments other own.0 plain.0
others_asked e q n (Sends to b ∷ os) s other own plain = others_asked e q n os (posting n to (record { sender = n; body = b }) s) other own.1 plain.1 ∙ others_posted e q n to b s other

-- ---- what the coordinator gives, of each name

asked_alike : (called : Name) (a b : Bool) → (IsShortName called → b ≡ a) → Alike called a b
asked_alike name.Collect a b f = λ h. f tt ∙ h
asked_alike (name.SeizeData d) a b f = f tt
asked_alike (name.Seized d) a b f = λ h. f tt ∙ h
asked_alike name.Ready a b f = λ h. f tt ∙ h
asked_alike _ a b f = tt

pub passing_alike : (e : ℕ) (q : Query) (n : ℕ) (os : List Output) (s : Scene) → (n == coordinator e) ≡ true → AllByRecursion IsNoPacket os → IsLeft (passing n os s).links.next
    → Alike q.called (asked_by_outputs e q os (asked_in e q s.moments)) (asked_in e q (passing n os s).moments)
passing_alike e q n os s own plain left = asked_alike q.called (asked_by_outputs e q os (asked_in e q s.moments)) (asked_in e q (passing n os s).moments) (λ of. passing_asked e q n os s of own plain left)

-- ---- as history has them

counted : (c sent same : Bool) (t : Bool) → sent ≡ true → (c && t && same) ≡ (c && (sent && t && same))
counted true true same t h = refl
counted false true same t h = refl
counted c false same t h = absurd (false_true h)

pub none_comes : (e : ℕ) (q : Query) (o : Option told.Letter) → is_sent q.called ≡ true → comes e q o ≡ false
none_comes e q None h = refl
none_comes e q (Some l) h = ap (λ b. not b && told.is_letter q.called q.to (coordinator e) l && answers q.called e (told.says l.bytes)) h

pub any_asked : (e : ℕ) (q : Query) (ms : List Moment) → is_sent q.called ≡ true → list_any (sends (coordinator e) q.to q.called) (since (is_attempt e) ms) ≡ asked_in e q ms
any_asked e q [] sent_so = refl
any_asked e q (attempt f members ∷ ms) sent_so = by_test (f == e) (any_asked e q ms sent_so)
  where
    by_test : (b : Bool) → list_any (sends (coordinator e) q.to q.called) (since (is_attempt e) ms) ≡ asked_in e q ms
        → list_any (sends (coordinator e) q.to q.called) (if b then [] else attempt f members ∷ since (is_attempt e) ms) ≡ (if b then false else asked_in e q ms)
    by_test true rest = refl
    by_test false rest = rest
any_asked e q (sent p c t called bytes ∷ ms) sent_so =
    ap (λ b. b || list_any (sends (coordinator e) q.to q.called) (since (is_attempt e) ms)) (counted (c == coordinator e) (is_sent q.called) (same_name (named called) q.called) (t == q.to) sent_so)
    ∙ ap (λ b. ((c == coordinator e) && asks q t (named called)) || b) (any_asked e q ms sent_so)
any_asked e q (delivered p a b ∷ ms) sent_so = any_asked e q ms sent_so ∙ ap (λ t. t || asked_in e q ms) (sym (none_comes e q (told.letter_of p ms) sent_so))
any_asked e q (_ ∷ ms) sent_so = any_asked e q ms sent_so

-- ---- what comes

or_second : (a b : Bool) → b ≡ true → (a || b) ≡ true
or_second true b h = refl
or_second false b h = h

delivered_by : (called : Name) (e m : ℕ) (o : Option told.Letter) (before : Bool) → Alike called before (comes e (record { to = m; called = called }) o || before)
delivered_by name.Collect e m o before = λ h. or_second (comes e (record { to = m; called = name.Collect }) o) before h
delivered_by (name.SeizeData d) e m None before = refl
delivered_by (name.SeizeData d) e m (Some l) before = refl
delivered_by (name.Seized d) e m o before = λ h. or_second (comes e (record { to = m; called = name.Seized d }) o) before h
delivered_by name.Ready e m o before = λ h. or_second (comes e (record { to = m; called = name.Ready }) o) before h
delivered_by _ e m o before = tt

pub delivered_alike : (e : ℕ) (q : Query) (p a b : ℕ) (ms : List Moment) → Alike q.called (asked_in e q ms) (asked_in e q (delivered p a b ∷ ms))
delivered_alike e q p a b ms = delivered_by q.called e q.to (told.letter_of p ms) (asked_in e q ms)

-- ---- as `history` has Seizeds

some_or : (a b : Option SeizeResult) → is_some (or_else a b) ≡ (is_some a || is_some b)
some_or None b = refl
some_or (Some r) b = refl

tells : (e d : ℕ) (b : Option Body) → is_some (tasks.seized_in e b) ≡ answers (name.Seized d) e b
tells e d None = refl
tells e d (Some (body.Seized p k r)) = by_test (p == e)
  where
    by_test : (t : Bool) → is_some (if t then Some r else None) ≡ t
    by_test true = refl
    by_test false = refl
tells e d (Some _) = refl

letter_come : (e d m : ℕ) (o : Option told.Letter) (earlier : Option SeizeResult) → is_some (tasks.told_by e d m o earlier) ≡ (comes e (record { to = m; called = name.Seized d }) o || is_some earlier)
letter_come e d m None earlier = refl
letter_come e d m (Some l) earlier = by_test (told.is_letter (name.Seized d) m (coordinator e) l)
  where
    by_test : (t : Bool) → is_some (if t then or_else (tasks.seized_in e (told.says l.bytes)) earlier else earlier) ≡ ((true && t && answers (name.Seized d) e (told.says l.bytes)) || is_some earlier)
    by_test true = some_or (tasks.seized_in e (told.says l.bytes)) earlier ∙ ap (λ b. b || is_some earlier) (tells e d (told.says l.bytes))
    by_test false = refl

pub seized_come : (e d m : ℕ) (ms : List Moment) → is_some (tasks.seized_by e d m ms) ≡ asked_in e (record { to = m; called = name.Seized d }) ms
seized_come e d m [] = refl
seized_come e d m (attempt f members ∷ ms) = by_test (f == e) (seized_come e d m ms)
  where
    by_test : (t : Bool) → is_some (tasks.seized_by e d m ms) ≡ asked_in e (record { to = m; called = name.Seized d }) ms
        → is_some (if t then None else tasks.seized_by e d m ms) ≡ (if t then false else asked_in e (record { to = m; called = name.Seized d }) ms)
    by_test true rest = refl
    by_test false rest = rest
seized_come e d m (delivered p a b ∷ ms) =
    letter_come e d m (told.letter_of p ms) (tasks.seized_by e d m ms) ∙ ap (λ t. comes e (record { to = m; called = name.Seized d }) (told.letter_of p ms) || t) (seized_come e d m ms)
seized_come e d m (sent p c t called bytes ∷ ms) = seized_come e d m ms ∙ sym (no_one (c == coordinator e) (asked_in e (record { to = m; called = name.Seized d }) ms))
seized_come e d m (_ ∷ ms) = seized_come e d m ms
