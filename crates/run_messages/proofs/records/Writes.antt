-- A Collect, a Promise and an Install tell what is so, and show the record.
use Rattle.std.specs.Prelude.{ℕ, ◌≡◌, ◌<◌, ◌≤◌, ◌==◌, ◌⊎◌, nat_lt, Bool, true, false, List, ◌∷◌, Option, None, Some, IfSome, is_some, length, option_map, take}
use Rattle.std.specs.Option.{option_and_then}
use Rattle.std.proofs.Math.Seq.{take-length}
use Rattle.std.proofs.Common.{refl, sym, ap, subst, ◌∙◌, arith, inl, inr}
use Rattle.attempt_laws.proofs.Told.{member_of_plan}
use Rattle.cmm_attempt.specs.Attempts.{AttemptState, install_in}
use Rattle.cmm_attempt.specs.declared.phase.Phase.TheVariants.{Installing}
use Rattle.cmm_member.specs.Machine.{saved_of}
use Rattle.cmm_member.specs.Records.{NodeRecord}
use Rattle.history.specs.Contents.{ShowsRecord}
use Rattle.history.specs.Letters.{says}
use Rattle.history.specs.Member.{installed_of, number_of, promised_to}
use Rattle.history.specs.Moment.{Moment}
use Rattle.history.specs.Names.{named}
use Rattle.history.specs.Records.{NodeRecord as Shown, record_in, record_of}
use Rattle.history.specs.Seizing.{or_else}
use Rattle.history.specs.Trace.{sent}
use Rattle.membership_machine.specs.Invariant.{Holds}
use Rattle.membership_machine.specs.Records.{Saved}
use Rattle.membership_machine.specs.State.{Memberships}
use Rattle.node_model.specs.Attempts.{promise_of}
use Rattle.node_model.specs.Seats.{record_of as kept_record, session_of, state_of}
use Rattle.node_model.specs.declared.cluster.Cluster.{Cluster}
use Rattle.node_model.specs.declared.node.Node.TheVariants.{Up}
use Rattle.node_model.specs.declared.node.UpNode.{UpNode}
use Rattle.node_model.specs.declared.seat.Seat.{Seat}
use Rattle.node_model.specs.declared.seat.Seat.TheVariants.{Forming, Member}
use Rattle.refinement.specs.Doings.{site}
use Rattle.refinement.specs.Guards.{Asks, MayWrite, OfAttempt, Says}
use Rattle.refinement.specs.Ties.{Delivered, SeatTied, setting_of}
use Rattle.refinement.proofs.Changes.{Sees, sees}
use Rattle.wire.specs.declared.message.Body.{Body}
use Rattle.wire.specs.declared.message.Body.TheVariants as body
use Rattle.wire.specs.declared.message.Install.{Install}
use Rattle.world_model.specs.Sends.{name_of}
use Rattle.run_history.specs.Noted.{UpNoted}
use Rattle.run_history.proofs.Changes.{At, at_attempt, noted_of}
use Rattle.run_messages.specs.records.Answers.{BodyTold, IsAmong}
use Rattle.run_messages.specs.records.Kept.{AttemptKept, Came, HandKept, SiteKept, brought_by}
use Rattle.run_messages.specs.records.Shown.{shown}
use Rattle.run_messages.specs.records.Sound.{AllSound, CollectSound, ShowsSo}
use Rattle.run_messages.proofs.records.Changes.{disk_is}
use Rattle.run_messages.proofs.records.Counts.{kept_of}
use Rattle.run_messages.proofs.records.Grow.{seat_stays, site_stays}
use Rattle.run_messages.proofs.records.Letters.{arrived_sound, read_letter}
use Rattle.run_messages.proofs.records.Own.{Same, in_over}
use Rattle.run_messages.proofs.records.Sends.{CanSend, if_so, is_same, ordinary_send, sent_keeps}

of_attempt : (o : Option AttemptState) (P : AttemptState → Type 0) (Q : Type 0) → OfAttempt P o → ((a : AttemptState) → o ≡ Some a → P a → Q) → Q
of_attempt None P Q h f = absurd h
of_attempt (Some a) P Q h f = f a refl h

-- ---- a Collect

collect_send : (c : Cluster) (M : Memberships) (n : ℕ) (told : Delivered) (disk : NodeRecord) (x : UpNode) (ms : List Moment) (to p members : ℕ) → At c M n told disk x → UpNoted ms n x → SiteKept M ms n (site (Up x) disk)
    → MayWrite x (body.Collect p members) → OfAttempt (IsAmong to) x.attempt → CanSend M ms n to (site (Up x) disk) (body.Collect p members)
collect_send c M n told disk x ms to p members at noted kept may goes = record {
  sound = of_attempt x.attempt (λ a. (p ≡ a.plan.epoch) × (members ≡ a.plan.members)) (CollectSound M ms n to p) may (λ a is so.
      at_attempt c M n told disk x a (CollectSound M ms n to p) at is (λ q shows co. record {
        last = (noted_of ms n x.attempt a is noted.attempt).last ∙ ap Some (sym so.0);
        tried = subst (λ e. (M.epoch e).tried ≡ true) (sym so.0) co.has.tried;
        member = subst (λ e. (M.epoch e).members to ≡ true) (sym so.0) (co.has.members to ∙ (sym (member_of_plan M a to co.has) ∙ subst (λ o. OfAttempt (IsAmong to) o) is goes));
      }));
  shows = λ bytes read. tt;
  after = λ i bytes read. site_stays M ms n (sent i n to (name_of (body.Collect p members)) bytes) (site (Up x) disk) (sent_keeps ms i n to bytes (body.Collect p members) tt) kept;
}

-- ---- a Promise

asked_so : (M : Memberships) (n p : ℕ) (ms : List Moment) (from : ℕ) (b : Body) → AllSound M ms → Came ms n from b → Asks p b → (promised_to ms ≡ Some p) × ((M.epoch p).tried ≡ true) × ((M.epoch p).members n ≡ true)
asked_so M n p ms from (body.Collect e members) sound h asks =
    let so : CollectSound M h.letter.before h.letter.from h.letter.to e = (read_letter M h.letter (body.Collect e members) (arrived_sound M ms h.letter sound h.here) h.read).1 in (
      ap (λ o. option_and_then number_of o) h.here ∙ (so.last ∙ ap Some asks),
      subst (λ z. (M.epoch z).tried ≡ true) asks so.tried,
      subst (λ z. (M.epoch z).members n ≡ true) asks (subst (λ k. (M.epoch e).members k ≡ true) h.receiver so.member),
    )
asked_so M n p ms from (body.Heartbeat promised session is_one) sound h asks = absurd asks
asked_so M n p ms from (body.Promise e newest members valid flagged committed pending) sound h asks = absurd asks
asked_so M n p ms from (body.Nack e promised) sound h asks = absurd asks
asked_so M n p ms from (body.SeizeQuorum e members d) sound h asks = absurd asks
asked_so M n p ms from (body.SeizeData e members d) sound h asks = absurd asks
asked_so M n p ms from (body.Seized e d outcome) sound h asks = absurd asks
asked_so M n p ms from (body.Install i) sound h asks = absurd asks
asked_so M n p ms from (body.Ready e joined report) sound h asks = absurd asks
asked_so M n p ms from (body.Start e) sound h asks = absurd asks
asked_so M n p ms from (body.Prepare e place text) sound h asks = absurd asks
asked_so M n p ms from (body.Prepared e place) sound h asks = absurd asks
asked_so M n p ms from (body.Commit e place) sound h asks = absurd asks
asked_so M n p ms from (body.Order o) sound h asks = absurd asks
asked_so M n p ms from (body.Done e number outcome) sound h asks = absurd asks
asked_so M n p ms from (body.Request e number text) sound h asks = absurd asks
asked_so M n p ms from (body.Answer e number text) sound h asks = absurd asks
asked_so M n p ms from (body.Excluded e newest) sound h asks = absurd asks

asked_told : (M : Memberships) (n p : ℕ) (ms : List Moment) (told : Delivered) → AllSound M ms → HandKept ms n told → Says (Asks p) told → (promised_to ms ≡ Some p) × ((M.epoch p).tried ≡ true) × ((M.epoch p).members n ≡ true)
asked_told M n p ms None sound hand says = absurd says
asked_told M n p ms (Some d) sound hand says = asked_so M n p ms d.0 d.1.body sound hand says

less_or : (a b : ℕ) → a ≤ b → (a < b) ⊎ (a ≡ b)
less_or a b l = by_test (nat_lt a b) refl
  where
    less : nat_lt a b ≡ true → a < b
    less e = grind arith

    same : nat_lt a b ≡ false → a ≡ b
    same e = grind arith

    by_test : (t : Bool) → nat_lt a b ≡ t → (a < b) ⊎ (a ≡ b)
    by_test true e = inl (less e)
    by_test false e = inr (same e)

true_false : true ≡ false → ⊥
true_false h = cc

whole_base : (k : ℕ) (log base : List (List ℕ)) → log ≡ base → k ≡ length base → take k log ≡ base
whole_base k log base is at = ap (λ z. take k z) is ∙ (ap (λ z. take z base) at ∙ take-length base)

unstarted_base : (c : Cluster) (M : Memberships) (n : ℕ) (disk : NodeRecord) (o : Option AttemptState) (seat : Seat) → Holds (setting_of c) M → SeatTied c M n disk o seat → 0 < (M.node n).session → (M.node n).session ≡ (M.node n).saved.installed
    → (M.epoch (M.node n).saved.installed).started ≡ false → (M.node n).saved.entries ≡ (M.epoch (M.node n).saved.installed).base
unstarted_base c M n disk o (Forming q) i tied some same unstarted =
    (i.node n).fits.entries
    ∙ whole_base (length (M.node n).saved.entries) (M.epoch (M.node n).saved.installed).log (M.epoch (M.node n).saved.installed).base ((i.epoch (M.node n).saved.installed).unstarted_log unstarted)
    ((i.node n).installed_alone some same tied.0.member)
unstarted_base c M n disk o (Member q) i tied some same unstarted =
    absurd (true_false (sym (subst (λ e. (M.epoch e).started ≡ true) same ((i.node n).member_started tied.0.member)) ∙ unstarted))

-- what it shows is what it showed, or the base
shows_so : (c : Cluster) (M : Memberships) (n : ℕ) (told : Delivered) (disk : NodeRecord) (x : UpNode) (p : ℕ) → At c M n told disk x → 0 < p → p ≡ session_of x → ((M.node n).answered p ≡ true) × ShowsSo M p n (saved_of (kept_record x))
shows_so c M n told disk x p at low is =
    let e : Sees M n disk (state_of x.seat) = sees c M n disk x.attempt x.seat at.tied.0 in
    let session : (M.node n).session ≡ p = e.session ∙ sym is in
    let some : 0 < (M.node n).session = subst (λ z. 0 < z) (sym session) low in
    let under : (M.node n).saved.installed ≤ (M.node n).session = subst (λ z. (M.node n).saved.installed ≤ z) (sym ((at.holds.node n).session some)) (at.holds.node n).installed in (
      subst (λ z. (M.node n).answered z ≡ true) session ((at.holds.node n).answered_session some),
      by_cases e session some (less_or (M.node n).saved.installed (M.node n).session under),
    )
  where
    by_cases : Sees M n disk (state_of x.seat) → (M.node n).session ≡ p → 0 < (M.node n).session → ((M.node n).saved.installed < (M.node n).session) ⊎ ((M.node n).saved.installed ≡ (M.node n).session) → ShowsSo M p n (saved_of (kept_record x))
    by_cases e session some (inl less) = inl (ap (λ z. (M.node n).showed z) (sym session) ∙ ((at.holds.node n).showed_again some less ∙ e.saved))
    by_cases e session some (inr same) =
        let here : (M.node n).saved.installed ≡ p = same ∙ session in
        inr (
          ap (λ (r : Saved). r.installed) (sym e.saved) ∙ here,
          subst (λ z. (M.epoch z).counted ≡ true) here ((at.holds.node n).ready_counted (M.node n).saved.installed ((at.holds.node n).ready_last (subst (λ z. 0 < z) (sym same) some))),
          λ unstarted.
              ap (λ (r : Saved). r.entries) (sym e.saved)
              ∙ (unstarted_base c M n disk x.attempt x.seat at.holds at.tied.0 some (sym same) (subst (λ z. (M.epoch z).started ≡ false) (sym here) unstarted) ∙ ap (λ z. (M.epoch z).base) here),
        )

-- what it shows is its record
shows_it : (ms : List Moment) (n : ℕ) (x : UpNode) (disk : NodeRecord) (p : ℕ) (M : Memberships) (bytes : List ℕ) → kept_record x ≡ disk → SiteKept M ms n (site (Up x) disk) → says bytes ≡ Some (promise_of x p)
    → ShowsRecord ms n bytes (named (name_of (promise_of x p)))
shows_it ms n x disk p M bytes is h read = (
  inst (installed_of n ms) h.installed,
  rec (record_of n ms) h.record_so,
)
  where
    at : record_in (says bytes) ≡ Some (shown disk)
    at = ap record_in read ∙ ap (λ r. Some (shown r)) is

    inst : (o : Option ℕ) → IfSome o (λ f. f ≡ disk.installed) → IfSome o (λ f. option_map (λ (r : Shown). r.installed) (record_in (says bytes)) ≡ Some f)
    inst None k = tt
    inst (Some f) k = ap (λ o. option_map (λ (r : Shown). r.installed) o) at ∙ ap Some (sym k)

    rec : (o : Option Shown) → IfSome o (λ r. r ≡ shown disk) → IfSome o (λ r. record_in (says bytes) ≡ Some r)
    rec None k = tt
    rec (Some r) k = at ∙ ap Some (sym k)

promise_send : (c : Cluster) (M : Memberships) (n : ℕ) (told : Delivered) (disk : NodeRecord) (x : UpNode) (ms : List Moment) (to p : ℕ) → At c M n told disk x → AllSound M ms → HandKept ms n told → SiteKept M ms n (site (Up x) disk)
    → 0 < p → p ≡ session_of x → Says (Asks p) told → CanSend M ms n to (site (Up x) disk) (promise_of x p)
promise_send c M n told disk x ms to p at sound hand kept low is says =
    let asked : (promised_to ms ≡ Some p) × ((M.epoch p).tried ≡ true) × ((M.epoch p).members n ≡ true) = asked_told M n p ms told sound hand says in
    let so : ((M.node n).answered p ≡ true) × ShowsSo M p n (saved_of (kept_record x)) = shows_so c M n told disk x p at low is in
    record {
      sound = record { asked = asked.0; tried = asked.1; member = asked.2; answered = so.0; shows = so.1 };
      shows = λ bytes read. shows_it ms n x disk p M bytes (disk_is c M n told disk x at) kept read;
      after = λ i bytes read. site_stays M ms n (sent i n to (name_of (promise_of x p)) bytes) (site (Up x) disk) (sent_keeps ms i n to bytes (promise_of x p) tt) kept;
    }

-- ---- an Install

else_so : (o told : Option Shown) (b : Shown) → IfSome o (λ r. r ≡ b) → told ≡ Some b → IfSome (or_else o told) (λ r. r ≡ b)
else_so None told b h is = subst (λ z. IfSome z (λ r. r ≡ b)) (sym is) refl
else_so (Some r) told b h is = h

else_some : (o told : Option Shown) → is_some o ≡ true → is_some (or_else o told) ≡ true
else_some None told h = absurd (false_true h)
  where
    false_true : false ≡ true → ⊥
    false_true e = cc
else_some (Some r) told h = refl

install_after : (M : Memberships) (ms : List Moment) (n to p : ℕ) (x : UpNode) (disk : NodeRecord) (i : Install) (bytes : List ℕ) → says bytes ≡ Some (body.Install i) → brought_by i ≡ shown disk → SiteKept M ms n (site (Up x) disk)
    → SiteKept M (sent p n to (name_of (body.Install i)) bytes ∷ ms) n (site (Up x) disk)
install_after M ms n to p x disk i bytes read is h =
    let after : List Moment = sent p n to (name_of (body.Install i)) bytes ∷ ms in
    let so : record_of n after ≡ or_else (record_of n ms) (record_in (says bytes)) = if_so (n == n) (or_else (record_of n ms) (record_in (says bytes))) (record_of n ms) (is_same n) in
    let same : Same ms after = record { told = λ e k t. t; promises_so = λ e. refl; first_so = λ e. refl } in
    record {
      record_so = subst (λ o. IfSome o (λ r. r ≡ shown disk)) (sym so) (else_so (record_of n ms) (record_in (says bytes)) (shown disk) h.record_so (ap record_in read ∙ ap Some is));
      installed = h.installed;
      up = record {
        attempt = in_over M ms after n (kept_record x) (kept_record x) x.attempt same refl refl h.up.attempt;
        seat = seat_stays ms after n x.seat (λ some. ap is_some so ∙ else_some (record_of n ms) (record_in (says bytes)) some) h.up.seat;
      };
    }

install_send : (c : Cluster) (M : Memberships) (n : ℕ) (told : Delivered) (disk : NodeRecord) (x : UpNode) (ms : List Moment) (to : ℕ) (i : Install) → At c M n told disk x → UpNoted ms n x → SiteKept M ms n (site (Up x) disk)
    → MayWrite x (body.Install i) → CanSend M ms n to (site (Up x) disk) (body.Install i)
install_send c M n told disk x ms to i at noted kept may =
    of_attempt x.attempt (λ a. (a.phase ≡ Installing) × (i ≡ install_in a)) (CanSend M ms n to (site (Up x) disk) (body.Install i)) may (λ a is so.
    let k : AttemptKept M ms n (kept_record x) a = kept_of M ms n (kept_record x) x.attempt a is kept.up.attempt in
    let brings : brought_by i ≡ shown disk = ap brought_by so.1 ∙ (sym (k.installs so.0) ∙ ap shown (disk_is c M n told disk x at)) in
    record {
      sound = tt;
      shows = λ bytes read. (k.epoch so.0 ∙ sym (noted_of ms n x.attempt a is noted.attempt).last, rec bytes read brings (record_of n ms) kept.record_so);
      after = λ p bytes read. install_after M ms n to p x disk i bytes read brings kept;
    })
  where
    rec : (bytes : List ℕ) → says bytes ≡ Some (body.Install i) → brought_by i ≡ shown disk → (o : Option Shown) → IfSome o (λ r. r ≡ shown disk) → IfSome o (λ r. record_in (says bytes) ≡ Some r)
    rec bytes read is None h = tt
    rec bytes read is (Some r) h = ap record_in read ∙ ap Some (is ∙ sym h)

-- ---- each message

pub write_send : (c : Cluster) (M : Memberships) (n : ℕ) (told : Delivered) (disk : NodeRecord) (x : UpNode) (ms : List Moment) (to : ℕ) (b : Body) → At c M n told disk x → UpNoted ms n x → AllSound M ms → HandKept ms n told
    → SiteKept M ms n (site (Up x) disk) → MayWrite x b → BodyTold told x to b → CanSend M ms n to (site (Up x) disk) b
write_send c M n told disk x ms to (body.Collect p members) at noted sound hand kept may so = collect_send c M n told disk x ms to p members at noted kept may so
write_send c M n told disk x ms to (body.Promise p newest members valid flagged committed pending) at noted sound hand kept may so =
    subst (λ b. CanSend M ms n to (site (Up x) disk) b) (sym may.2) (promise_send c M n told disk x ms to p at sound hand kept may.0 may.1 so)
write_send c M n told disk x ms to (body.Install i) at noted sound hand kept may so = install_send c M n told disk x ms to i at noted kept may
write_send c M n told disk x ms to (body.Heartbeat promised session is_one) at noted sound hand kept may so = ordinary_send M ms n to (site (Up x) disk) (body.Heartbeat promised session is_one) tt kept
write_send c M n told disk x ms to (body.Nack e promised) at noted sound hand kept may so = ordinary_send M ms n to (site (Up x) disk) (body.Nack e promised) tt kept
write_send c M n told disk x ms to (body.SeizeQuorum e members d) at noted sound hand kept may so = ordinary_send M ms n to (site (Up x) disk) (body.SeizeQuorum e members d) tt kept
write_send c M n told disk x ms to (body.SeizeData e members d) at noted sound hand kept may so = ordinary_send M ms n to (site (Up x) disk) (body.SeizeData e members d) tt kept
write_send c M n told disk x ms to (body.Seized e d outcome) at noted sound hand kept may so = ordinary_send M ms n to (site (Up x) disk) (body.Seized e d outcome) tt kept
write_send c M n told disk x ms to (body.Ready e joined report) at noted sound hand kept may so = ordinary_send M ms n to (site (Up x) disk) (body.Ready e joined report) tt kept
write_send c M n told disk x ms to (body.Start e) at noted sound hand kept may so = ordinary_send M ms n to (site (Up x) disk) (body.Start e) tt kept
write_send c M n told disk x ms to (body.Prepare e place text) at noted sound hand kept may so = ordinary_send M ms n to (site (Up x) disk) (body.Prepare e place text) tt kept
write_send c M n told disk x ms to (body.Prepared e place) at noted sound hand kept may so = ordinary_send M ms n to (site (Up x) disk) (body.Prepared e place) tt kept
write_send c M n told disk x ms to (body.Commit e place) at noted sound hand kept may so = ordinary_send M ms n to (site (Up x) disk) (body.Commit e place) tt kept
write_send c M n told disk x ms to (body.Order o) at noted sound hand kept may so = ordinary_send M ms n to (site (Up x) disk) (body.Order o) tt kept
write_send c M n told disk x ms to (body.Done e number outcome) at noted sound hand kept may so = ordinary_send M ms n to (site (Up x) disk) (body.Done e number outcome) tt kept
write_send c M n told disk x ms to (body.Request e number text) at noted sound hand kept may so = ordinary_send M ms n to (site (Up x) disk) (body.Request e number text) tt kept
write_send c M n told disk x ms to (body.Answer e number text) at noted sound hand kept may so = ordinary_send M ms n to (site (Up x) disk) (body.Answer e number text) tt kept
write_send c M n told disk x ms to (body.Excluded e newest) at noted sound hand kept may so = ordinary_send M ms n to (site (Up x) disk) (body.Excluded e newest) tt kept
