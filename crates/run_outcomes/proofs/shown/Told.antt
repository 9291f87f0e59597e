-- Of the Promises of another member that came since an attempt began, one shows a device as valid exactly where the Promise that the attempt took does, until it installs.
use Rattle.std.specs.Prelude.{ℕ, ◌≡◌, ◌≢◌, ◌⊎◌, ◌==◌, ◌&&◌, ◌||◌, not, Bool, true, false, List, [], ◌∷◌, None, Option, Some, filter, option_map, if◌then◌else◌}
use Rattle.std.specs.List.{AllByRecursion, list_any}
use Rattle.std.proofs.Common.{refl, sym, ap, subst, ◌∙◌, inl, inr, arith}
use Rattle.attempt_laws.specs.Staying.{IsBefore}
use Rattle.cl_base.specs.Sets.{has}
use Rattle.cl_base.proofs.SetLemmas.{none_of_zero}
use Rattle.cmm_attempt.proofs.Basics.{and_cases, false_true, or_cases, same_number}
use Rattle.cmm_attempt.specs.Attempts.{AttemptState, is_over}
use Rattle.cmm_attempt.specs.Promises.{has_promised, holds_valid}
use Rattle.cmm_attempt.specs.declared.phase.Phase.{Phase}
use Rattle.cmm_attempt.specs.declared.phase.Phase.TheVariants.{Choosing, Collecting, Installing, Over, SeizingOthers, SeizingVotes}
use Rattle.cmm_attempt.specs.declared.promised.Promised.{Promised}
use Rattle.history.specs.Letters.{Letter, says}
use Rattle.history.specs.Member.{members_of, promised_to}
use Rattle.history.specs.Moment.{Moment}
use Rattle.history.specs.Names as name
use Rattle.history.specs.Names.{named, same_name}
use Rattle.history.specs.Queue.{valid_in}
use Rattle.history.specs.Records.{is_promise_of, promises}
use Rattle.history.specs.Seizing.{is_number}
use Rattle.history.specs.Setting.{coordinator, nodes_of}
use Rattle.membership_machine.specs.State.{Memberships}
use Rattle.node_model.specs.Seats.{session_of}
use Rattle.refinement.specs.Runs.{IsAmong, Letter as Sent}
use Rattle.run_history.specs.Happenings.{all_happened}
use Rattle.run_history.specs.Scenes.{Scene, first_scene}
use Rattle.run_messages.proofs.Reaching.{IsSmall}
use Rattle.run_messages.proofs.records.Letters.{Had, promises_had}
use Rattle.run_messages.specs.records.Kept.{KnownScene}
use Rattle.run_messages.specs.records.Sound.{BodySound}
use Rattle.run_outcomes.specs.saves.Kept.{IsAt}
use Rattle.run_outcomes.specs.phases.Kept.{In}
use Rattle.run_outcomes.specs.phases.Laws.{PromisesTold}
use Rattle.run_outcomes.proofs.phases.Leading.{Has}
use Rattle.run_outcomes.proofs.phases.Promised.{HasIt, has_it, live_are_told}
use Rattle.run_outcomes.proofs.phases.Runs.{knows_at}
use Rattle.wire.specs.Reads.{whole_of}
use Rattle.wire.specs.declared.message.Body.{Body}
use Rattle.wire.specs.declared.message.Body.TheVariants as body
use Rattle.wire.specs.declared.message.Message.{Message}
use Rattle.world_model.specs.First.{first_cluster}
use Rattle.world_model.specs.Sends.{name_of}
use Rattle.run_outcomes.specs.tasks.Laws.{ShowsAreTold, shows_valid}
use Rattle.run_outcomes.specs.tasks.Shown.{AttemptIn, AttemptSo, HasShown, InRange, Installs, SceneSo, TakenSo, UpIn}
use Rattle.run_outcomes.proofs.shown.Heard.{Heard, HeardSo, shows_so}
use Rattle.run_outcomes.proofs.shown.HeardRuns.{run_heard}
use Rattle.run_outcomes.proofs.shown.Lines.{GotSo, promises_got}
use Rattle.run_outcomes.proofs.shown.Steps.{run_so}

-- ---- a letter in hand was given as a Promise of this number

name_so : (e : ℕ) (l : Letter) → is_promise_of e l ≡ true → same_name l.name name.Promise ≡ true
name_so e l is = (and_cases _ _ (and_cases _ _ (and_cases _ _ is).0).0).0

number_so : (e f : ℕ) (l : Letter) → promised_to l.before ≡ Some f → is_promise_of e l ≡ true → f ≡ e
number_so e f l asked is = same_number f e (subst (λ z. is_number e z ≡ true) asked (and_cases _ _ is).1)

body_shown : (M : Memberships) (L : List Sent) (e : ℕ) (l : Letter) (b : Body) → is_promise_of e l ≡ true → l.name ≡ named (name_of b) → BodySound M l.before l.from l.to b → IsAmong l.from b L → HasShown L l.from e (valid_in (Some b))
body_shown M L e l (body.Promise q newest members valid flagged committed pending) is called sound among =
    record {
      newest = newest;
      members = members;
      flagged = flagged;
      committed = committed;
      pending = pending;
      among = subst (λ z. IsAmong l.from (body.Promise z newest members valid flagged committed pending) L) (number_so e q l sound.asked is) among;
    }
body_shown M L e l _ is called sound among = absurd (false_true (ap (λ z. same_name z name.Promise) (sym called) ∙ name_so e l is))

-- what can be read of it shows no device, or it was given
letter_shown : (M : Memberships) (L : List Sent) (e : ℕ) (l : Letter) → Had M e l → GotSo L l → (valid_in (says l.bytes) ≡ 0) ⊎ HasShown L l.from e (valid_in (says l.bytes))
letter_shown M L e l had got = by_whole (whole_of l.bytes) refl
  where
    by_whole : (o : Option Message) → whole_of l.bytes ≡ o → (valid_in (option_map (λ (m : Message). m.body) o) ≡ 0) ⊎ HasShown L l.from e (valid_in (option_map (λ (m : Message). m.body) o))
    by_whole None is = inl refl
    by_whole (Some m) is = inr (body_shown M L e l m.body had.promise (had.sound m is).0 (had.sound m is).1 (got m is))

-- ---- both ways

same_truth : (a b : Bool) → (a ≡ true → b ≡ true) → (b ≡ true → a ≡ true) → a ≡ b
same_truth true b f g = sym (f refl)
same_truth false true f g = g refl
same_truth false false f g = refl

or_first : (a b : Bool) → a ≡ true → (a || b) ≡ true
or_first true b h = refl
or_first false b h = absurd (false_true h)

or_second : (a b : Bool) → b ≡ true → (a || b) ≡ true
or_second true b h = refl
or_second false b h = h

both_true : (a b : Bool) → a ≡ true → b ≡ true → (a && b) ≡ true
both_true true b h k = k
both_true false b h k = absurd (false_true h)

same_so : (a b : ℕ) → a ≡ b → (a == b) ≡ true
same_so a b h = grind arith

-- some Promise of m shows this device
record Shows (L : List Sent) (m e d : ℕ) : Type 0 where
  valid : ℕ
  shown : HasShown L m e valid
  has_it : has valid d ≡ true

shows_of : (M : Memberships) (L : List Sent) (e d m : ℕ) (ls : List Letter) → AllByRecursion (Had M e) ls → AllByRecursion (GotSo L) ls → list_any (λ (l : Letter). (l.from == m) && has (valid_in (says l.bytes)) d) ls ≡ true → Shows L m e d
shows_of M L e d m [] had got is = absurd (false_true is)
shows_of M L e d m (l ∷ ls) had got is =
    by_cases (or_cases ((l.from == m) && has (valid_in (says l.bytes)) d) (list_any (λ (z : Letter). (z.from == m) && has (valid_in (says z.bytes)) d) ls) is) (λ rest. shows_of M L e d m ls had.1 got.1 rest)
  where
    here : l.from ≡ m → has (valid_in (says l.bytes)) d ≡ true → (valid_in (says l.bytes) ≡ 0) ⊎ HasShown L l.from e (valid_in (says l.bytes)) → Shows L m e d
    here sender valid (inl none) = absurd (false_true (sym (none_of_zero d) ∙ subst (λ s. has s d ≡ true) none valid))
    here sender valid (inr shown) = record { valid = valid_in (says l.bytes); shown = subst (λ z. HasShown L z e (valid_in (says l.bytes))) sender shown; has_it = valid }

    by_cases : (((l.from == m) && has (valid_in (says l.bytes)) d) ≡ true) ⊎ (list_any (λ (z : Letter). (z.from == m) && has (valid_in (says z.bytes)) d) ls ≡ true)
        → (list_any (λ (z : Letter). (z.from == m) && has (valid_in (says z.bytes)) d) ls ≡ true → Shows L m e d) → Shows L m e d
    by_cases (inl first) rest =
        let two : ((l.from == m) ≡ true) × (has (valid_in (says l.bytes)) d ≡ true) = and_cases (l.from == m) (has (valid_in (says l.bytes)) d) first in
        here (same_number l.from m two.0) two.1 (letter_shown M L e l had.0 got.0)
    by_cases (inr later) rest = rest later

-- the Promise that was taken of m shows the device where another does
taken_holds : (L : List Sent) (n e d m : ℕ) (ps : List Promised) → m ≢ n → InRange d → (Installs L e → ⊥) → Shows L m e d → AllByRecursion (TakenSo L n e) ps → has_promised ps m ≡ true → holds_valid ps d m ≡ true
taken_holds L n e d m [] other range fresh shows k is = absurd (false_true is)
taken_holds L n e d m (p ∷ ps) other range fresh shows k is = by_cases (or_cases (p.shown.summary.node == m) (has_promised ps m) is) (λ rest. taken_holds L n e d m ps other range fresh shows k.1 rest)
  where
    by_install : (has p.shown.valid d ≡ true) ⊎ Installs L e → has p.shown.valid d ≡ true
    by_install (inl z) = z
    by_install (inr z) = absurd (fresh z)

    here : p.shown.summary.node ≡ m → TakenSo L n e p → has p.shown.valid d ≡ true
    here node (inl own) = absurd (other (sym node ∙ own))
    here node (inr so) = by_install (so.1 shows.valid d range (subst (λ z. HasShown L z e shows.valid) (sym node) shows.shown) shows.has_it)

    by_cases : ((p.shown.summary.node == m) ≡ true) ⊎ (has_promised ps m ≡ true) → (has_promised ps m ≡ true → holds_valid ps d m ≡ true) → (((p.shown.summary.node == m) && has p.shown.valid d) || holds_valid ps d m) ≡ true
    by_cases (inl first) rest =
        or_first ((p.shown.summary.node == m) && has p.shown.valid d) (holds_valid ps d m) (both_true (p.shown.summary.node == m) (has p.shown.valid d) first (here (same_number p.shown.summary.node m first) k.0))
    by_cases (inr later) rest = or_second ((p.shown.summary.node == m) && has p.shown.valid d) (holds_valid ps d m) (rest later)

-- .. and it has come
letter_holds : (d m k v : ℕ) (ls : List Letter) → k ≡ m → has v d ≡ true → list_any (shows_so k v) ls ≡ true → list_any (λ (l : Letter). (l.from == m) && has (valid_in (says l.bytes)) d) ls ≡ true
letter_holds d m k v [] node valid is = absurd (false_true is)
letter_holds d m k v (l ∷ ls) node valid is = by_cases (or_cases (shows_so k v l) (list_any (shows_so k v) ls) is) (λ rest. letter_holds d m k v ls node valid rest)
  where
    by_cases : (shows_so k v l ≡ true) ⊎ (list_any (shows_so k v) ls ≡ true) → (list_any (shows_so k v) ls ≡ true → list_any (λ (z : Letter). (z.from == m) && has (valid_in (says z.bytes)) d) ls ≡ true)
        → (((l.from == m) && has (valid_in (says l.bytes)) d) || list_any (λ (z : Letter). (z.from == m) && has (valid_in (says z.bytes)) d) ls) ≡ true
    by_cases (inl first) rest =
        let two : ((l.from == k) ≡ true) × ((valid_in (says l.bytes) == v) ≡ true) = and_cases (l.from == k) (valid_in (says l.bytes) == v) first in
        or_first ((l.from == m) && has (valid_in (says l.bytes)) d) _
        (both_true (l.from == m) (has (valid_in (says l.bytes)) d) (same_so l.from m (same_number l.from k two.0 ∙ node)) (subst (λ s. has s d ≡ true) (sym (same_number (valid_in (says l.bytes)) v two.1)) valid))
    by_cases (inr later) rest = or_second ((l.from == m) && has (valid_in (says l.bytes)) d) _ (rest later)

heard_holds : (ms : List Moment) (n e d m : ℕ) (ps : List Promised) → m ≢ n → AllByRecursion (HeardSo ms n e) ps → holds_valid ps d m ≡ true → shows_valid e ms d m ≡ true
heard_holds ms n e d m [] other k is = absurd (false_true is)
heard_holds ms n e d m (p ∷ ps) other k is = by_cases (or_cases ((p.shown.summary.node == m) && has p.shown.valid d) (holds_valid ps d m) is) (λ rest. heard_holds ms n e d m ps other k.1 rest)
  where
    here : p.shown.summary.node ≡ m → has p.shown.valid d ≡ true → HeardSo ms n e p → shows_valid e ms d m ≡ true
    here node valid (inl own) = absurd (other (sym node ∙ own))
    here node valid (inr heard) = letter_holds d m p.shown.summary.node p.shown.valid (promises e ms) node valid heard

    by_cases : (((p.shown.summary.node == m) && has p.shown.valid d) ≡ true) ⊎ (holds_valid ps d m ≡ true) → (holds_valid ps d m ≡ true → shows_valid e ms d m ≡ true) → shows_valid e ms d m ≡ true
    by_cases (inl first) rest =
        let two : ((p.shown.summary.node == m) ≡ true) × (has p.shown.valid d ≡ true) = and_cases (p.shown.summary.node == m) (has p.shown.valid d) first in
        here (same_number p.shown.summary.node m two.0) two.1 k.0
    by_cases (inr later) rest = rest later

-- ---- who has shown it is among those whose Promises came

any_from : (d m : ℕ) (ls : List Letter) → list_any (λ (l : Letter). (l.from == m) && has (valid_in (says l.bytes)) d) ls ≡ true → list_any (λ (l : Letter). l.from == m) ls ≡ true
any_from d m [] is = absurd (false_true is)
any_from d m (l ∷ ls) is = by_cases (or_cases ((l.from == m) && has (valid_in (says l.bytes)) d) _ is) (λ rest. any_from d m ls rest)
  where
    by_cases : (((l.from == m) && has (valid_in (says l.bytes)) d) ≡ true) ⊎ (list_any (λ (z : Letter). (z.from == m) && has (valid_in (says z.bytes)) d) ls ≡ true)
        → (list_any (λ (z : Letter). (z.from == m) && has (valid_in (says z.bytes)) d) ls ≡ true → list_any (λ (z : Letter). z.from == m) ls ≡ true) → ((l.from == m) || list_any (λ (z : Letter). z.from == m) ls) ≡ true
    by_cases (inl first) rest = or_first (l.from == m) _ (and_cases (l.from == m) (has (valid_in (says l.bytes)) d) first).0
    by_cases (inr later) rest = or_second (l.from == m) _ (rest later)

is_not : (a b : ℕ) → not (a == b) ≡ true → a ≢ b
is_not a b h e = grind arith

other_so : (c m : ℕ) (ns : List ℕ) → list_any (λ k. k == m) (filter (λ j. not (j == c)) ns) ≡ true → m ≢ c
other_so c m [] is = absurd (false_true is)
other_so c m (n ∷ ns) is = by_test (not (n == c)) refl (λ rest. other_so c m ns rest) is
  where
    by_first : not (n == c) ≡ true → ((n == m) ≡ true) ⊎ (list_any (λ k. k == m) (filter (λ j. not (j == c)) ns) ≡ true) → (list_any (λ k. k == m) (filter (λ j. not (j == c)) ns) ≡ true → m ≢ c) → m ≢ c
    by_first apart (inl here) rest = subst (λ k. k ≢ c) (same_number n m here) (is_not n c apart)
    by_first apart (inr later) rest = rest later

    by_test : (b : Bool) → not (n == c) ≡ b → (list_any (λ k. k == m) (filter (λ j. not (j == c)) ns) ≡ true → m ≢ c)
        → list_any (λ k. k == m) (if b then n ∷ filter (λ j. not (j == c)) ns else filter (λ j. not (j == c)) ns) ≡ true → m ≢ c
    by_test true apart rest here = by_first apart (or_cases (n == m) _ here) rest
    by_test false apart rest here = rest here

live_of : (p : Phase) → IsBefore p → is_over p ≡ false
live_of Collecting k = refl
live_of Choosing k = refl
live_of SeizingVotes k = refl
live_of SeizingOthers k = refl
live_of Installing k = absurd k
live_of Over k = absurd k

so_of : (L : List Sent) (n q : ℕ) (o : Option AttemptState) (a : AttemptState) → o ≡ Some a → AttemptIn L n q o → AttemptSo L n q a
so_of L n q o a is k = subst (AttemptIn L n q) is k

pub shows_are_told : ShowsAreTold
shows_are_told h cells hs last few small disks may shaped native n a at before d m low high other =
    same_truth (shows_valid a.plan.epoch s.moments d m) (holds_valid a.promises d m)
    (λ is. taken_holds L n a.plan.epoch d m a.promises away (low, high) (λ z. so.before z before)
    (shows_of M L a.plan.epoch d m (promises a.plan.epoch s.moments) (promises_had M a.plan.epoch s.moments known.sound) (promises_got L a.plan.epoch s.moments k.lines) is) so.promises
    (sym (told_so.taken m other) ∙ any_from d m (promises a.plan.epoch s.moments) is))
    (λ is. heard_holds s.moments n a.plan.epoch d m a.promises away heard.all is)
  where
    size : IsSmall h
    size = record { few = few; small = small }

    s : Scene
    s = all_happened (first_cluster h) (first_scene h cells) hs

    L : List Sent
    L = s.nodes.sent

    k : SceneSo s
    k = run_so h cells hs size may

    it : HasIt (s.nodes.node n) a
    it = has_it (s.nodes.node n) a at

    heard : Heard s.moments n a
    heard = subst (In (Heard s.moments n)) it.has (subst (IsAt (Has (Heard s.moments n))) it.up (run_heard h cells hs size may n))

    so : AttemptSo L n (session_of it.x) a
    so = so_of L n (session_of it.x) it.x.attempt a it.has (subst (UpIn L n (s.nodes.disk n).kept) it.up (k.sites n).up).1.attempt

    away : m ≢ n
    away is = other_so (coordinator a.plan.epoch) m (nodes_of (members_of a.plan.epoch s.moments)) other (is ∙ sym heard.own)

    known : KnownScene (first_cluster h) s
    known = (knows_at h cells s size (record { happenings = hs; may = may; is = refl })).known

    M : Memberships
    M = known.stage.machine

    told_so : PromisesTold a s.moments
    told_so = live_are_told h cells hs few small may native n a at (live_of a.phase before)
