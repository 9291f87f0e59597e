-- A node promises a number: another node's, or that of an attempt of its own, which begins.
use Rattle.std.specs.Prelude.{Bool, List, None, Option, Some, [], false, if◌then◌else◌, nat_le, true, ℕ, ◌&&◌, ◌++◌, ◌<◌, ◌==◌, ◌∷◌, ◌≡◌, ◌≤◌}
use Rattle.std.specs.List.{list_any}
use Rattle.std.specs.Option.{option_and_then}
use Rattle.std.proofs.Common.{ap, arith, refl, subst, sym, ◌∙◌}
use Rattle.attempt_laws.proofs.Stays.{plan_begins}
use Rattle.attempt_laws.specs.Asking.{numbers_of}
use Rattle.cl_base.specs.declared.header.Header.{Header}
use Rattle.cmm_attempt.specs.Attempts.{AttemptState, beginning}
use Rattle.cmm_member.specs.Records.{NodeRecord}
use Rattle.history.specs.Letters.{passes}
use Rattle.history.specs.Member.{in_collect, promised_to}
use Rattle.history.specs.Member as member
use Rattle.history.specs.Moment.{Moment}
use Rattle.history.specs.Names.{same_name}
use Rattle.history.specs.Names as name
use Rattle.history.specs.Seizing.{Begun, Progress, is_attempt, left_from, progress_of}
use Rattle.history.specs.Setting.{coordinator}
use Rattle.history.specs.Trace.{attempt, saved}
use Rattle.membership_machine.specs.State.{Memberships}
use Rattle.node_model.specs.Attempts.{own_promise}
use Rattle.node_model.specs.Entries.{unknown_lines}
use Rattle.node_model.specs.Members.{rested_by}
use Rattle.node_model.specs.Seats.{promised_of, promising, record_of, state_of}
use Rattle.node_model.specs.declared.cluster.Cluster.{Cluster}
use Rattle.node_model.specs.declared.node.Node.TheVariants.{Up}
use Rattle.node_model.specs.declared.node.UpNode.{UpNode}
use Rattle.refinement.proofs.Changes.{Sees, sees}
use Rattle.refinement.specs.Doings.{Change, Site, changed, last_lines, site, superseded_lines}
use Rattle.refinement.specs.Doings.Change.{Leads, Promises}
use Rattle.refinement.specs.Guards.{Asks, MayChange, Says}
use Rattle.refinement.specs.Runs.{Nodes}
use Rattle.refinement.specs.Ties.{Delivered}
use Rattle.refinement.specs.Worlds.{AllFit}
use Rattle.run_history.proofs.Changes.{At}
use Rattle.run_history.proofs.Walk.{passing_append}
use Rattle.run_history.specs.Guards.{Hand}
use Rattle.run_history.specs.Scenes.{Scene, passing, telling}
use Rattle.status_report.specs.declared.attempt_entry.AttemptEntry.TheVariants as attempt_entry
use Rattle.status_report.specs.declared.entry.Entry.TheVariants as entry
use Rattle.status_report.specs.declared.node_entry.NodeEntry.TheVariants as note
use Rattle.wire.specs.declared.message.Body.{Body}
use Rattle.wire.specs.declared.message.Body.TheVariants as body
use Rattle.run_seizings.proofs.Changes.{NoCollect, mid}
use Rattle.run_seizings.proofs.Progress.{if_so, no_truth, or_left, same_is}
use Rattle.run_seizings.proofs.Stays.{is_installed_stays}
use Rattle.run_seizings.proofs.Turns.{First, first_so}
use Rattle.run_seizings.specs.Seized.{has_installed}
use Rattle.run_devices.proofs.readings.Calls.{Was}
use Rattle.run_devices.proofs.readings.Changes.{mid_goes, superseded_can, unknown_can}
use Rattle.run_devices.proofs.readings.Goes.{Goes, can_append, line_goes, outputs_go}
use Rattle.run_devices.proofs.readings.Results.{Fact, Rests, first_reads}
use Rattle.run_devices.specs.readings.Readings.{AreInOrder, AttemptSo, TasksRead}
use Rattle.run_devices.specs.readings.Sites.{Brought, InHand, UpSo}
use Rattle.run_devices.proofs.readings.Order.{apart_of}

-- in a step of node n
pub record Step (h : Header) (c : Cluster) (M : Memberships) (n : ℕ) (told : Delivered) (disk : NodeRecord) (x : UpNode) : Type 0 where
  pub id : c.id ≡ h.cluster
  pub low : nat_le n 32 ≡ true
  pub apart : AreInOrder (numbers_of c.attached)
  pub at : At c M n told disk x

-- the node with its disk, once it is saved
abbrev pub After : Cluster → ℕ → UpNode → Change → Site
After c n x ch = site (Up (changed c n x ch)) (record_of (changed c n x ch))

abbrev pub Rises : Cluster → ℕ → NodeRecord → UpNode → Change → Type 0
Rises c n disk x ch = disk.promised ≤ (record_of (changed c n x ch)).promised

-- ---- a promise

pub and_both : (a b : Bool) → a ≡ true → b ≡ true → (a && b) ≡ true
and_both true b k l = l
and_both false b k l = absurd (no_truth k)

pub same_so : (a b : ℕ) → a ≡ b → (a == b) ≡ true
same_so a b k = grind arith

same_collect : same_name name.Collect name.Collect ≡ true
same_collect = refl

collect_in : (h : Header) (ms : List Moment) (n from p : ℕ) (b : Body) → Asks p b → Brought h ms n from b → (in_collect n ms ≡ true) × (promised_to ms ≡ Some p)
collect_in h ms n from p (body.Collect e members) asks k = (
  ap (λ o. passes (λ l. same_name l.name name.Collect && (l.to == n)) o) k.here
      ∙ and_both (same_name k.letter.name name.Collect) (k.letter.to == n) (ap (λ z. same_name z name.Collect) k.called ∙ same_collect)
      (same_so k.letter.to n k.receiver),
  ap (λ o. option_and_then member.number_of o) k.here ∙ (ap (λ z. member.attempt_of z k.letter.before) k.sender ∙ (k.sent_so ∙ ap Some asks)),
)
collect_in h ms n from p (body.Heartbeat promised session is_one) asks k = absurd asks
collect_in h ms n from p (body.Promise e newest members valid flagged committed pending) asks k = absurd asks
collect_in h ms n from p (body.Nack e promised) asks k = absurd asks
collect_in h ms n from p (body.SeizeQuorum e members d) asks k = absurd asks
collect_in h ms n from p (body.SeizeData e members d) asks k = absurd asks
collect_in h ms n from p (body.Seized e d r) asks k = absurd asks
collect_in h ms n from p (body.Install i) asks k = absurd asks
collect_in h ms n from p (body.Ready e joined report) asks k = absurd asks
collect_in h ms n from p (body.Start e) asks k = absurd asks
collect_in h ms n from p (body.Prepare e place text) asks k = absurd asks
collect_in h ms n from p (body.Prepared e place) asks k = absurd asks
collect_in h ms n from p (body.Commit e place) asks k = absurd asks
collect_in h ms n from p (body.Order o) asks k = absurd asks
collect_in h ms n from p (body.Done e number outcome) asks k = absurd asks
collect_in h ms n from p (body.Request e number text) asks k = absurd asks
collect_in h ms n from p (body.Answer e number text) asks k = absurd asks
collect_in h ms n from p (body.Excluded e newest) asks k = absurd asks

promised_session : (h : Header) (ms : List Moment) (n p : ℕ) (told : Delivered) → Says (Asks p) told → InHand h ms n told → member.session_of n (saved n ∷ ms) ≡ Some p
promised_session h ms n p None says hand = absurd says
promised_session h ms n p (Some d) says hand =
    let two : (in_collect n ms ≡ true) × (promised_to ms ≡ Some p) = collect_in h ms n d.0 p d.1.body says hand in
    if_so ((n == n) && in_collect n ms) (promised_to ms) (member.session_of n ms) (and_both (n == n) (in_collect n ms) (same_is n) two.0) ∙ two.1

-- of a session that begins nothing was shown
rested_read : (h : Header) (ms : List Moment) (n p : ℕ) → ((d : ℕ) → progress_of h n p d ms ≡ Begun) → TasksRead h ms n p []
rested_read h ms n p begun = (tt, begun)

none_zero : (p q : ℕ) → q < p → p ≡ 0 → ⊥
none_zero p q low is = omega (arith, low, is)

rested_up : (h : Header) (ms : List Moment) (n p : ℕ) (x : UpNode) (o : Option AttemptState) → promised_of x < p → ((d : ℕ) → progress_of h n p d ms ≡ Begun)
    → member.session_of n ms ≡ Some p → UpSo h ms n (rested_by (promising x p) o)
rested_up h ms n p x None above begun is = record {
  session = λ some. is;
  outside = λ zero_so. absurd (none_zero p (promised_of x) above zero_so);
  tasks = λ none. tt;
  read = λ some none. rested_read h ms n p begun;
  attempt = tt;
}
rested_up h ms n p x (Some a) above begun is = record {
  session = λ some. is;
  outside = λ zero_so. absurd (none_zero p (promised_of x) above zero_so);
  tasks = λ none. tt;
  read = λ some none. rested_read h ms n p begun;
  attempt = tt;
}

-- what had begun nothing has begun nothing when it is left
pub left_begun : (b : Bool) (p : Progress) → p ≡ Begun → (if b then left_from p else p) ≡ Begun
left_begun true p is = ap left_from is
left_begun false p is = is

pub below : (a b e : ℕ) → a ≤ b → b < e → a < e
below a b e l m = omega (arith, l, m)

at_most : (a b d : ℕ) → a ≤ b → b ≤ d → a ≤ d
at_most a b d l m = omega (arith, l, m)

pub promises_go : (h : Header) (c : Cluster) (M : Memberships) (n : ℕ) (told : Delivered) (v w : Nodes) (disk : NodeRecord) (x : UpNode) (p : ℕ) (g : Hand) (s : Scene)
    → Step h c M n told disk x → MayChange c n told x (Promises p) → Rises c n disk x (Promises p)
    → AllFit n (last_lines c n x (Promises p)) → Goes h n told v w (site (Up x) disk) g s
    → Goes h n told v w (After c n x (Promises p)) g (passing n (mid true n ++ last_lines c n x (Promises p)) s)
promises_go h c M n told v w disk x p g s step may rises fit k =
    let t : Scene = telling (entry.Node n note.Saved) s in
    let sight : Sees M n disk (state_of x.seat) = sees c M n disk x.attempt x.seat step.at.tied.0 in
    outputs_go h n told v w (After c n x (Promises p)) g (last_lines c n x (Promises p)) t fit
    (can_append h t.moments n (superseded_lines p x.attempt) (unknown_lines n x.requests.waiting) (superseded_can h t.moments n p x.attempt)
    (unknown_can h t.moments n x.requests.waiting))
    (line_goes h n told v w (site (Up x) disk) (After c n x (Promises p)) g s (entry.Node n note.Saved) tt (λ j ne same. ne (sym same)) tt (record {
      low = λ e is. at_most e disk.promised (record_of (changed c n x (Promises p))).promised (k.here.low e is) rises;
      first = λ e is. is_installed_stays s.moments (saved n) e (k.here.first e is);
      unseen = λ e d above. left_begun ((n == n) && in_collect n s.moments) (progress_of h n e d s.moments)
          (k.here.unseen e d (below disk.promised (record_of (changed c n x (Promises p))).promised e rises above));
      up = rested_up h t.moments n p x x.attempt may.1
          (λ d. left_begun ((n == n) && in_collect n s.moments) (progress_of h n p d s.moments)
          (k.here.unseen p d (subst (λ z. z < p) (sym (ap (λ (r : NodeRecord). r.promised) sight.disk_so)) may.1)))
          (promised_session h s.moments n p told may.0 k.hand);
    }) k)

-- ---- an attempt begins

begun_so : (h : Header) (ms : List Moment) (n p members : ℕ) (a : AttemptState) → coordinator p ≡ n → 0 < p → a.plan.epoch ≡ p → a.plan.members ≡ members
    → has_installed n p ms ≡ false
    → ((P : ℕ → Type 0) → First P a) → ((P : Fact) → Rests P a) → AreInOrder (numbers_of a.plan.attached) → AttemptSo h (attempt p members ∷ ms) n p a
begun_so h ms n p members a own some epoch of none first rests attached =
    let same : (p == a.plan.epoch) ≡ true = same_so p a.plan.epoch (sym epoch) in
    record {
      of = (
        or_left (p == a.plan.epoch) (list_any (is_attempt a.plan.epoch) ms) same,
        if_so (p == a.plan.epoch) members (member.members_of a.plan.epoch ms) same
            ∙ sym of,
      );
      some = subst (λ e. 0 < e) (sym epoch) some;
      last = if_so (coordinator p == n) (Some p) (member.attempt_of n ms) (same_so (coordinator p) n own) ∙ ap Some (sym epoch);
      own = ap coordinator epoch ∙ own;
      epoch = epoch;
      before = λ is. subst (λ e. has_installed n e ms ≡ false) (sym epoch) none;
      installs = λ is. absurd ((first (λ d. Unit {0})).phase is);
      read = (rests (Was h (attempt p members ∷ ms) a.plan.epoch)).0;
      apart = (rests (Was h (attempt p members ∷ ms) a.plan.epoch)).1;
      attached = attached;
    }

not_true : (b : Bool) → (b ≡ true → ⊥) → b ≡ false
not_true true k = absurd (k refl)
not_true false k = refl

pub leads_go : (h : Header) (c : Cluster) (M : Memberships) (n : ℕ) (told : Delivered) (v w : Nodes) (disk : NodeRecord) (x : UpNode) (p members : ℕ) (g : Hand)
    (b : Bool) (s : Scene) → Step h c M n told disk x
    → MayChange c n told x (Leads p members) → Rises c n disk x (Leads p members) → (b ≡ true → NoCollect told) → AllFit n (last_lines c n x (Leads p members))
    → list_any (is_attempt p) (passing n (mid b n) s).moments ≡ false → Goes h n told v w (site (Up x) disk) g s
    → Goes h n told v w (After c n x (Leads p members)) g (passing n (mid b n ++ last_lines c n x (Leads p members)) s)
leads_go h c M n told v w disk x p members g b s step may rises calm fit new k =
    let t : Scene = passing n (mid b n) s in
    let l : Goes h n told v w (site (Up x) disk) g t = mid_goes h n told v w (site (Up x) disk) g s b calm k in
    let z : UpNode = record (promising x p) { greatest = p } in
    let a : AttemptState = (beginning p members (own_promise n z p) c.attached c.id).after in
    let own : coordinator p ≡ n = may.1 in
    let u : Scene = telling (entry.Attempt (attempt_entry.Begun p members)) t in
    let sight : Sees M n disk (state_of x.seat) = sees c M n disk x.attempt x.seat step.at.tied.0 in
    subst (λ r. Goes h n told v w (After c n x (Leads p members)) g r) (sym (passing_append n (mid b n) (last_lines c n x (Leads p members)) s))
    (outputs_go h n told v w (After c n x (Leads p members)) g (unknown_lines n x.requests.waiting) u fit (unknown_can h u.moments n x.requests.waiting)
    (line_goes h n told v w (site (Up x) disk) (After c n x (Leads p members)) g t (entry.Attempt (attempt_entry.Begun p members)) tt
    (λ j ne same. ne (sym same ∙ own)) new (record {
      low = λ e is. at_most e disk.promised (record_of (changed c n x (Leads p members))).promised (l.here.low e is) rises;
      first = λ e is. is_installed_stays t.moments (attempt p members) e (l.here.first e is);
      unseen = λ e d above. left_begun (coordinator p == n) (progress_of h n e d t.moments)
          (l.here.unseen e d (below disk.promised (record_of (changed c n x (Leads p members))).promised e rises above));
      up = record {
        session = λ some. if_so (coordinator p == n) (Some p) (member.session_of n t.moments) (same_so (coordinator p) n own);
        outside = λ zero_so. absurd (none_zero p (promised_of x) may.0 zero_so);
        tasks = λ none. tt;
        read = λ some none. rested_read h u.moments n p
            (λ d. left_begun (coordinator p == n) (progress_of h n p d t.moments)
            (l.here.unseen p d (subst (λ z. z < p) (sym (ap (λ (r : NodeRecord). r.promised) sight.disk_so)) may.0)));
        attempt =
            begun_so h t.moments n p members a own (above p (promised_of x) may.0) (plan_begins p members (own_promise n z p) c.attached c.id).of_epoch
            (plan_begins p members (own_promise n z p) c.attached c.id).of_members
            (not_true (has_installed n p t.moments)
            (λ is. too_low p disk.promised (promised_of x) (l.here.low p is) (ap (λ (r : NodeRecord). r.promised) sight.disk_so) may.0))
            (λ P. first_so P p members (own_promise n z p) c.attached c.id)
            (λ P. first_reads P p members (own_promise n z p) c.attached c.id (apart_of (numbers_of c.attached) step.apart))
            (subst (λ xs. AreInOrder (numbers_of xs)) (sym (plan_begins p members (own_promise n z p) c.attached c.id).of_attached) step.apart);
      };
    }) l))
  where
    above : (a b : ℕ) → b < a → 0 < a
    above a b lt = omega (arith, lt)

    too_low : (a b d : ℕ) → a ≤ b → b ≡ d → d < a → ⊥
    too_low a b d le same lt = grind arith
