-- What each thing that happens keeps.
use Rattle.std.specs.Prelude.{ℕ, ◌≡◌, ◌≢◌, ◌≤◌, ◌==◌, ◌&&◌, ◌||◌, ◌⊎◌, nat_le, not, Bool, true, false, List, ◌∷◌, length, Option, None, Some, option_map}
use Rattle.std.proofs.Common.{refl, sym, ap, subst, ◌∙◌, arith, inl, inr}
use Rattle.cl_base.proofs.FirstNumbers.{has_first}
use Rattle.cl_base.specs.Limits.{most_devices}
use Rattle.cl_base.specs.Sets.{has}
use Rattle.cl_base.specs.declared.header.Header.{Header}
use Rattle.cl_base.specs.declared.packet.DropCause.{DropCause}
use Rattle.cmm_attempt.proofs.Basics.{and_cases}
use Rattle.interconnect.specs.Links as links
use Rattle.interconnect.specs.Links.{Links, Packet, packet_of, removing, sending}
use Rattle.machine_base.proofs.Puts.{same_or_not}
use Rattle.schedule_text.specs.declared.event.Event.{Event}
use Rattle.schedule_text.specs.declared.event.Event.TheVariants as event
use Rattle.schedule_text.specs.declared.line.Line.TheVariants as line
use Rattle.seize.specs.declared.kind.SeizeKind.{SeizeKind}
use Rattle.seize.specs.declared.kind.SeizeKind.TheVariants.{Plain, Vote}
use Rattle.status_report.specs.declared.entry.Entry.{Entry}
use Rattle.status_report.specs.declared.entry.Entry.TheVariants as entry
use Rattle.status_report.specs.declared.packet_entry.PacketEntry.TheVariants as packet
use Rattle.wire.specs.Reads.{whole_of}
use Rattle.wire.specs.declared.message.Body.{Body}
use Rattle.wire.specs.declared.message.Body.TheVariants as body
use Rattle.wire.specs.declared.message.Message.{Message}
use Rattle.history.specs.Letters.{Letter, arrived, letter_of, passes, says}
use Rattle.history.specs.Member.{in_collect, members_of, number_of}
use Rattle.history.specs.Moment.{Moment, Part, Said, Told}
use Rattle.history.specs.Names as name
use Rattle.history.specs.Names.{Name, named, same_name}
use Rattle.history.specs.Queue as told
use Rattle.run_devices.specs.queues.Views.{View}
use Rattle.history.specs.Trace.{delivered}
use Rattle.history.specs.Validated.{Validity, Valid, Lapsed, Open, is_valid, validity}
use Rattle.node_model.specs.Members.{is_foreign_seizing, is_strange}
use Rattle.node_model.specs.Seats.{installed_of, record_of, session_of}
use Rattle.node_model.specs.declared.cluster.Cluster.{Cluster}
use Rattle.node_model.specs.declared.input.Input.{Input}
use Rattle.node_model.specs.declared.input.Input.TheVariants as input
use Rattle.node_model.specs.declared.node.Node.{Node}
use Rattle.node_model.specs.declared.node.Node.TheVariants.{Down, Up}
use Rattle.refinement.proofs.Handlers.{delivered_by}
use Rattle.world_model.specs.First.{first_cluster}
use Rattle.world_model.specs.Sends.{name_of}
use Rattle.run_history.proofs.ContactFlying.{number_found}
use Rattle.run_history.specs.Guards.{request_as}
use Rattle.run_history.specs.Happenings.{IsPlain, armed_by, copying, removed}
use Rattle.run_history.specs.Scenes.{Scene, adding, dropped_so, telling, with_links}
use Rattle.run_history.specs.WorldLines.{IsDevice}
use Rattle.run_seizings.proofs.Changes.{NotCollect}
use Rattle.run_seizings.proofs.Letters.{found_carried}
use Rattle.run_seizings.proofs.Progress.{if_so, no_truth, same_is}
use Rattle.run_seizings.proofs.Promising.{and_both, same_so}
use Rattle.run_seizings.specs.Sites.{Brought, IsSeizing, Posted, UpIn}
use Rattle.run_seizings.specs.Seized.{StandsSo}
use Rattle.run_devices.proofs.validity.Goes.{HandSo, IsCollect}
use Rattle.run_devices.specs.validity.Laws.{Agrees, InMemory}
use Rattle.run_devices.specs.queues.Kept.{NodeSo, Pending}
use Rattle.run_devices.specs.queues.Told.{is_plain, is_spelled, is_trusted}
use Rattle.run_devices.specs.queues.Views.{brought, sought, told_tasks, trusts}
use Rattle.run_devices.proofs.queues.Acts.{AsksBody, AsksIn}
use Rattle.run_devices.proofs.queues.Options.{passed}
use Rattle.run_devices.proofs.queues.Requests.{Comes, asked_up, name_for, pending_of}
use Rattle.run_devices.proofs.queues.Steps.{Around, Strict}
use Rattle.run_devices.proofs.queues.Stills.{Still, node_stays, still}

-- ---- what is said and told

moment_strict : (S : View) (s : Scene) (l : Links) (x : Moment) → ((n : ℕ) → Still S s.moments n x) → Strict S s → Strict S (adding x (with_links s l))
moment_strict S s l x same k n = node_stays S s.moments x n None (s.nodes.node n) (same n) (k n)

pub said_strict : (S : View) (s : Scene) (e : Event) → Strict S s → Strict S (adding (Said (line.Event e)) s)
said_strict S s e k = moment_strict S s s.links (Said (line.Event e)) (λ n. record { told = λ ts is. is; installs = λ q. refl; session = λ z. z }) k

pub part_strict : (S : View) (s : Scene) (e : Event) → Strict S s → Strict S (adding (Part e) s)
part_strict S s e k = moment_strict S s s.links (Part e) (λ n. record { told = λ ts is. is; installs = λ q. refl; session = λ z. z }) k

-- a line that is told of no node's step
pub told_strict : (S : View) (s : Scene) (l : Links) (e : Entry) → ((n : ℕ) → Still S s.moments n (Told e)) → Strict S s → Strict S (telling e (with_links s l))
told_strict S s l e same k = moment_strict S s l (Told e) same k

dropped_strict : (S : View) (s : Scene) (o : Option (ℕ × DropCause)) → Strict S s → Strict S (dropped_so o s)
dropped_strict S s None k = k
dropped_strict S s (Some drop) k =
    let e : Entry = entry.Packet (packet.Dropped drop.0 drop.1) in
    moment_strict S s s.links (Told e) (λ n. still S s.moments n e tt) k

pub repeated_strict : (S : View) (s : Scene) (number : ℕ) (x : Packet) → Strict S s → Strict S (copying number (sending s.links x.from x.to x.bytes) s)
repeated_strict S s number x k =
    let o : links.Outcome = sending s.links x.from x.to x.bytes in
    let e : Entry = entry.Packet (packet.Repeated number s.links.next) in
    dropped_strict S (telling e (with_links s o.after)) o.sent.dropped (moment_strict S s o.after (Told e) (λ n. still S s.moments n e tt) k)

pub armed_strict : (S : View) (c : Cluster) (e : Event) (s : Scene) → Strict S s → Strict S (armed_by c e s)
armed_strict S c (event.CrashAt n calls choice) s k = k
armed_strict S c (event.Fault n d done) s k = k
armed_strict S c _ s k = k

-- ---- what is in hand

pub nobody : (ms : List Moment) (n : ℕ) → arrived ms ≡ None → HandSo ms n None
nobody ms n none = record { collects = λ is. absurd is; calm = λ is. ap (λ o. passes (λ l. same_name l.name name.Collect && (l.to == n)) o) none }

pub plain_hand : (ms : List Moment) (n : ℕ) (i : Input) → IsPlain i → arrived ms ≡ None → HandSo ms n (delivered_by i)
plain_hand ms n (input.Packet from m) k none = absurd k
plain_hand ms n input.Boot k none = nobody ms n none
plain_hand ms n input.Crash k none = nobody ms n none
plain_hand ms n input.Tick k none = nobody ms n none
plain_hand ms n input.CommandDue k none = nobody ms n none
plain_hand ms n (input.Answered a) k none = nobody ms n none
plain_hand ms n (input.Wrote d value a) k none = nobody ms n none
plain_hand ms n (input.Commanded words) k none = nobody ms n none
plain_hand ms n (input.Reported r good) k none = nobody ms n none
plain_hand ms n (input.Client address client port) k none = nobody ms n none

pub plain_calm : (i : Input) → IsPlain i → AsksIn (delivered_by i) → ⊥
plain_calm (input.Packet from m) k asks = k
plain_calm input.Boot k asks = asks
plain_calm input.Crash k asks = asks
plain_calm input.Tick k asks = asks
plain_calm input.CommandDue k asks = asks
plain_calm (input.Answered a) k asks = asks
plain_calm (input.Wrote d value a) k asks = asks
plain_calm (input.Commanded words) k asks = asks
plain_calm (input.Reported r good) k asks = asks
plain_calm (input.Client address client port) k asks = asks

collect_not : (b : Body) → NotCollect b → same_name (named (name_of b)) name.Collect ≡ false
collect_not (body.Collect p members) is = absurd is
collect_not _ is = refl

collect_so : (b : Body) → IsCollect b → same_name (named (name_of b)) name.Collect ≡ true
collect_so (body.Collect p members) is = refl
collect_so _ is = absurd is

pub brought_hand : (h : Header) (ms : List Moment) (n from : ℕ) (m : Message) → Brought h ms n from m.body → HandSo ms n (Some (from, m))
brought_hand h ms n from m b =
    let here : in_collect n ms ≡ (same_name b.letter.name name.Collect && (b.letter.to == n)) =
    ap (λ o. passes (λ l. same_name l.name name.Collect && (l.to == n)) o) b.here in
    record {
      collects = λ is.
          here ∙ and_both (same_name b.letter.name name.Collect) (b.letter.to == n) (ap (λ z. same_name z name.Collect) b.called ∙ collect_so m.body is)
          (same_so b.letter.to n b.receiver);
      calm = λ is. here ∙ ap (λ t. t && (b.letter.to == n)) (ap (λ z. same_name z name.Collect) b.called ∙ collect_not m.body is);
    }

-- ---- a packet comes to n

others_still : (S : View) (s : Scene) (number from n k : ℕ) → n ≢ k → Still S s.moments k (delivered number from n)
others_still S s number from n k ne = still S s.moments k (entry.Packet (packet.Delivered number from n)) ne

-- what asks for no seizing brings no task
called_still : (S : View) (n : ℕ) (l : Letter) (ms : List Moment) (b : Body) (o : Option (List told.Task)) → (AsksBody b → ⊥) → l.name ≡ named (name_of b)
    → sought S n l ms l.name o ≡ o
called_still S n l ms b o ban called = ap (λ z. sought S n l ms z o) called ∙ by_body b ban
  where
    by_body : (b : Body) → (AsksBody b → ⊥) → sought S n l ms (named (name_of b)) o ≡ o
    by_body (body.SeizeQuorum e members d) f = absurd (f tt)
    by_body (body.SeizeData e members d) f = absurd (f tt)
    by_body _ f = refl

not_plain : (b c : Bool) → b ≡ false → (b && c) ≡ false
not_plain true c off = absurd (no_truth (sym off))
not_plain false c off = refl

-- what holds no message is open, or brings none
stray_still : (S : View) (n : ℕ) (l : Letter) (ms : List Moment) (o : Option (List told.Task)) (us : List told.Task) → says l.bytes ≡ None → sought S n l ms l.name o ≡ Some us → o ≡ Some us
stray_still S n l ms o us none is = by_name l.name is
  where
    off : is_plain S.setting n l ms ≡ false
    off = ap (is_spelled S.setting n (number_of l)) none

    by_name : (z : Name) → sought S n l ms z o ≡ Some us → o ≡ Some us
    by_name (name.SeizeQuorum d) found = absurd (no_truth (sym (not_plain (is_plain S.setting n l ms) _ off) ∙ (passed _ _ us found).so))
    by_name (name.SeizeData d) found = absurd (no_truth (sym off ∙ (passed _ _ us found).so))
    by_name name.Heartbeat found = found
    by_name name.Collect found = found
    by_name name.Promise found = found
    by_name name.Nack found = found
    by_name (name.Seized d) found = found
    by_name name.Install found = found
    by_name name.Ready found = found
    by_name name.Start found = found
    by_name (name.Prepare d) found = found
    by_name (name.Prepared d) found = found
    by_name (name.Commit d) found = found
    by_name (name.Order d) found = found
    by_name (name.Done d) found = found
    by_name (name.Request d) found = found
    by_name (name.Answer d) found = found
    by_name name.Excluded found = found

abbrev brings_none : View → ℕ → List Moment → Letter → Type 0
brings_none S n ms l = (o : Option (List told.Task)) (us : List told.Task) → sought S n l ms l.name o ≡ Some us → o ≡ Some us

here_still : (S : View) (ms : List Moment) (n number from : ℕ) (l : Letter) → letter_of number ms ≡ Some l → brings_none S n ms l → Still S ms n (delivered number from n)
here_still S ms n number from l at none = record {
  told = λ us is.
      none (told_tasks S n ms) us
      (sym (ap (λ o. brought S n o ms (told_tasks S n ms)) at)
      ∙ (sym (if_so (n == n) (brought S n (letter_of number ms) ms (told_tasks S n ms)) (told_tasks S n ms) (same_is n)) ∙ is));
  installs = λ e. refl;
  session = λ k. k;
}

-- the letter of a packet that is in flight
pub posted_at : (h : Header) (s : Scene) (number : ℕ) (x : Packet) → packet_of s.links.packets number ≡ Some x → IsSeizing h s → Posted h s.moments s.links.next x
posted_at h s number x is k = found_carried h s.moments s.links number x k.carried is

pub letter_here : (h : Header) (s : Scene) (number : ℕ) (x : Packet) → (is : packet_of s.links.packets number ≡ Some x) → (k : Posted h s.moments s.links.next x)
    → letter_of number s.moments ≡ Some k.letter
letter_here h s number x is k = ap (λ i. letter_of i s.moments) (sym (number_found s.links number x is)) ∙ k.sent_so

quiet_delivery : (S : View) (s : Scene) (number : ℕ) (x : Packet) (l : Letter) → letter_of number s.moments ≡ Some l → brings_none S x.to s.moments l → Strict S s
    → Strict S (telling (entry.Packet (packet.Delivered number x.from x.to)) (removed s number))
quiet_delivery S s number x l at none k =
    moment_strict S s (removing s.links number) (delivered number x.from x.to) (λ n. by_node n (same_or_not x.to n)) k
  where
    by_node : (n : ℕ) → (x.to ≡ n) ⊎ (x.to ≢ n) → Still S s.moments n (delivered number x.from x.to)
    by_node n (inl is) = subst (λ j. Still S s.moments j (delivered number x.from x.to)) is (here_still S s.moments x.to number x.from l at none)
    by_node n (inr ne) = others_still S s number x.from x.to n ne

-- a packet that holds no message
pub strays_strict : (S : View) (s : Scene) (number : ℕ) (x : Packet) → packet_of s.links.packets number ≡ Some x → whole_of x.bytes ≡ None → IsSeizing S.setting.header s → Strict S s
    → Strict S (telling (entry.Packet (packet.Delivered number x.from x.to)) (removed s number))
strays_strict S s number x is whole seizing k =
    let p : Posted S.setting.header s.moments s.links.next x = posted_at S.setting.header s number x is seizing in
    quiet_delivery S s number x p.letter (letter_here S.setting.header s number x is p)
    (λ o us found. stray_still S x.to p.letter s.moments o us (ap says p.bytes ∙ ap (λ o. option_map (λ (z : Message). z.body) o) whole) found) k

-- one that asks for no seizing
pub calm_strict : (S : View) (s : Scene) (number : ℕ) (x : Packet) (m : Message) → packet_of s.links.packets number ≡ Some x → whole_of x.bytes ≡ Some m → (AsksBody m.body → ⊥)
    → IsSeizing S.setting.header s → Strict S s → Strict S (telling (entry.Packet (packet.Delivered number x.from x.to)) (removed s number))
calm_strict S s number x m is whole ban seizing k =
    let p : Posted S.setting.header s.moments s.links.next x = posted_at S.setting.header s number x is seizing in
    quiet_delivery S s number x p.letter (letter_here S.setting.header s number x is p)
    (λ o us found. sym (called_still S x.to p.letter s.moments m.body o ban (p.says m whole).0) ∙ found) k

-- ---- a request to seize comes

-- the message is one
pub record IsRequest (b : Body) : Type 0 where
  pub kind : SeizeKind
  pub epoch : ℕ
  pub members : ℕ
  pub device : ℕ
  pub is : b ≡ request_as kind epoch members device

pub asking_or : (b : Body) → (AsksBody b → ⊥) ⊎ IsRequest b
asking_or (body.SeizeQuorum e members d) = inr (record { kind = Vote; epoch = e; members = members; device = d; is = refl })
asking_or (body.SeizeData e members d) = inr (record { kind = Plain; epoch = e; members = members; device = d; is = refl })
asking_or _ = inl (λ z. z)

abbrev pub pending_in : Cluster → ℕ → Node → SeizeKind → ℕ → ℕ → ℕ → Pending
pending_in c n Down kind e members d = None
pending_in c n (Up x) kind e members d = pending_of c n x kind e members d

called_for : (kind : SeizeKind) (e members d : ℕ) → named (name_of (request_as kind e members d)) ≡ name_for kind d
called_for Vote e members d = refl
called_for Plain e members d = refl

stands_of : (h : Header) (ms : List Moment) (from e members d : ℕ) (kind : SeizeKind) → StandsSo h ms from (request_as kind e members d) → members_of e ms ≡ members
stands_of h ms from e members d Vote k = k.1
stands_of h ms from e members d Plain k = k.1

comes_of : (S : View) (s : Scene) (number : ℕ) (x : Packet) (m : Message) (r : IsRequest m.body) → packet_of s.links.packets number ≡ Some x → whole_of x.bytes ≡ Some m
    → IsSeizing S.setting.header s → Comes S s.moments x.to number r.kind r.epoch r.members r.device
comes_of S s number x m r is whole seizing =
    let p : Posted S.setting.header s.moments s.links.next x = posted_at S.setting.header s number x is seizing in
    record {
      letter = p.letter;
      here = letter_here S.setting.header s number x is p;
      called = (p.says m whole).0 ∙ (ap (λ b. named (name_of b)) r.is ∙ called_for r.kind r.epoch r.members r.device);
      reads = ap says p.bytes ∙ (ap (λ o. option_map (λ (z : Message). z.body) o) whole ∙ ap Some r.is);
      of = stands_of S.setting.header s.moments x.from r.epoch r.members r.device r.kind (subst (λ b. StandsSo S.setting.header s.moments x.from b) r.is (p.says m whole).2);
    }

trusted_valid : (v : Validity) (held : Bool) → is_valid v ≡ true → Agrees v held → held ≡ true
trusted_valid Valid held is k = k
trusted_valid Lapsed held is k = absurd (no_truth is)
trusted_valid Open held is k = absurd (no_truth is)

native_device : (h : Header) (n members d : ℕ) → length h.devices ≤ most_devices → is_foreign_seizing (first_cluster h) n members d ≡ false → IsDevice h d
native_device h n members d many native =
    let has_it : has (first_cluster h).devices d ≡ true = last_of (not (has members n) || is_strange (first_cluster h) members) (has (first_cluster h).devices d) native in
    let two : (nat_le 1 d ≡ true) × (nat_le d (length h.devices) ≡ true) =
    and_cases (nat_le 1 d) (nat_le d (length h.devices)) (sym (has_first (length h.devices) d (few (length h.devices) many)) ∙ has_it) in
    (low d two.0, high d (length h.devices) two.1)
  where
    last_of : (a b : Bool) → (a || not b) ≡ false → b ≡ true
    last_of true b off = absurd (no_truth (sym off))
    last_of false true off = refl
    last_of false false off = absurd (no_truth (sym off))

    few : (k : ℕ) → k ≤ most_devices → k ≤ 32
    few k l = omega (arith, l)

    low : (k : ℕ) → nat_le 1 k ≡ true → 1 ≤ k
    low k is = grind arith

    high : (k j : ℕ) → nat_le k j ≡ true → k ≤ j
    high k j is = grind arith

-- what is asked for the node's session, which it has not installed, it holds valid, where that is trusted
abbrev pub TrustedAt : View → List Moment → ℕ → Body → Node → Type 0
TrustedAt S ms n b Down = Unit {0}
TrustedAt S ms n b (Up y) =
    (e members d : ℕ) → b ≡ body.SeizeQuorum e members d → is_foreign_seizing (first_cluster S.setting.header) n members d ≡ false → trusts S n d ms ≡ true → session_of y ≡ e
    → installed_of y ≢ session_of y → has (record_of y).valid d ≡ true

trusted_in : (S : View) (n d : ℕ) (ms : List Moment) → S.alone ≡ true → trusts S n d ms ≡ true → is_trusted S.setting n d ms ≡ true
trusted_in S n d ms lines is = sym (ap (λ b. not b || is_trusted S.setting n d ms) lines) ∙ is

-- by the lines alone
pub trusted_at : (S : View) (ms : List Moment) (n : ℕ) (b : Body) (node : Node) → length S.setting.header.devices ≤ most_devices → S.alone ≡ true
    → ((d : ℕ) → IsDevice S.setting.header d → InMemory (validity S.setting.header n d ms) d node) → TrustedAt S ms n b node
trusted_at S ms n b Down many lines valid = tt
trusted_at S ms n b (Up y) many lines valid = λ e members d is native trusted at other.
    trusted_valid (validity S.setting.header n d ms) (has (record_of y).valid d) (trusted_in S n d ms lines trusted)
    (valid d (native_device S.setting.header n members d many native))

asked_node : (S : View) (s : Scene) (number : ℕ) (x : Packet) (m : Message) (r : IsRequest m.body) (node : Node) → length S.setting.header.devices ≤ most_devices
    → Comes S s.moments x.to number r.kind r.epoch r.members r.device → TrustedAt S s.moments x.to m.body node
    → UpIn S.setting.header s.moments x.to node → NodeSo S s.moments x.to None node
    → NodeSo S (delivered number x.from x.to ∷ s.moments) x.to (pending_in (first_cluster S.setting.header) x.to node r.kind r.epoch r.members r.device) node
asked_node S s number x m r Down many comes valid beside k = tt
asked_node S s number x m r (Up y) many comes valid beside k =
    asked_up S (first_cluster S.setting.header) s.moments x.to number x.from r.epoch r.members r.device r.kind y refl comes
    (λ vote. valid r.epoch r.members r.device (r.is ∙ ap (λ z. request_as z r.epoch r.members r.device) vote)) beside k

pub asked_around : (S : View) (s : Scene) (number : ℕ) (x : Packet) (m : Message) (r : IsRequest m.body) → length S.setting.header.devices ≤ most_devices
    → packet_of s.links.packets number ≡ Some x → whole_of x.bytes ≡ Some m → TrustedAt S s.moments x.to m.body (s.nodes.node x.to)
    → IsSeizing S.setting.header s → Strict S s
    → Around S (telling (entry.Packet (packet.Delivered number x.from x.to)) (removed s number)) x.to
    (pending_in (first_cluster S.setting.header) x.to (s.nodes.node x.to) r.kind r.epoch r.members r.device)
asked_around S s number x m r many is whole valid seizing k = record {
  here = asked_node S s number x m r (s.nodes.node x.to) many (comes_of S s number x m r is whole seizing) valid (seizing.sites x.to).up (k x.to);
  there = λ j ne. node_stays S s.moments (delivered number x.from x.to) j None (s.nodes.node j) (others_still S s number x.from x.to j (λ z. ne (sym z))) (k j);
}
