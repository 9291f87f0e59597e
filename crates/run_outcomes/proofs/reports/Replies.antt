-- Each run: a request to seize and an Install are answered in the event in which they come, or are work then.
use Rattle.std.specs.Prelude.{ℕ, zero, suc, ◌+◌, ◌*◌, ◌<◌, ◌≡◌, ◌≢◌, ◌≤◌, ◌⊎◌, ◌==◌, ◌&&◌, nat_le, Bool, true, false, List, None, Some, filter, length}
use Rattle.std.proofs.Common.{refl, ap, sym, subst, ◌∙◌, inl, inr, arith}
use Rattle.std.proofs.lemmas.Bool.Decides.{nat_tests}
use Rattle.cl_base.specs.Seizings.{SeizeResult}
use Rattle.cl_base.specs.declared.header.Header.{Header}
use Rattle.cl_base.specs.declared.seizing.SeizeEnd.TheVariants as seized
use Rattle.cmm_attempt.proofs.Basics.{false_true, none_some, same_some}
use Rattle.cmm_member.specs.Nodes.{NodeState}
use Rattle.history.specs.Letters.{Letter}
use Rattle.history.specs.Member.{attempt_of, member_of}
use Rattle.history.specs.Member as member
use Rattle.history.specs.Messages.{sends_or_falls}
use Rattle.history.specs.Moment.{Moment}
use Rattle.history.specs.Names as name
use Rattle.history.specs.Names.{Name, named}
use Rattle.history.specs.Queue as told
use Rattle.history.specs.Setting.{coordinator}
use Rattle.history_setting.specs.Settings.{setting_of}
use Rattle.node_model.specs.Seats.{is_in, session_of}
use Rattle.node_model.specs.declared.cluster.Cluster.{Cluster}
use Rattle.node_model.specs.declared.node.Node.{Node}
use Rattle.node_model.specs.declared.node.Node.TheVariants.{Down, Up}
use Rattle.node_model.specs.declared.node.UpNode.{UpNode}
use Rattle.node_model.specs.declared.output.Output.{Output}
use Rattle.node_model.specs.declared.seat.Seat.{Seat}
use Rattle.node_model.specs.declared.seat.Seat.TheVariants.{Forming, Member}
use Rattle.run_devices.specs.readings.Sites.{UpIn, UpSo}
use Rattle.run_history.specs.Scenes.{Scene}
use Rattle.run_messages.specs.Laws.{IsSeated, membership_in}
use Rattle.run_outcomes.specs.tasks.Laws.{NodeQueue}
use Rattle.run_packets.specs.prepares.Proposals.{IsBehind, IsShort}
use Rattle.run_packets.specs.admitted.Known.{ResultFew}
use Rattle.refinement.specs.Guards.{OfUp}
use Rattle.run_history.specs.Guards.{request_as}
use Rattle.run_devices.specs.queues.Laws.{Same}
use Rattle.device_queue.specs.Tasks.{is_queued}
use Rattle.run_packets.specs.prepares.Events.{IsLeft}
use Rattle.seize.specs.declared.kind.SeizeKind.{SeizeKind}
use Rattle.seize.specs.declared.kind.SeizeKind.TheVariants.{Plain, Vote}
use Rattle.wire.specs.declared.message.Install.{Install}
use Rattle.wire.proofs.Lengths.{spellings}
use Rattle.run_outcomes.proofs.reports.Ending.{End}
use Rattle.wire.specs.declared.message.Body.{Body}
use Rattle.wire.specs.declared.message.Body.TheVariants as body
use Rattle.world_model.specs.Sends.{name_of}
use Rattle.run_outcomes.specs.reports.Facts.{Facts}
use Rattle.run_outcomes.proofs.reports.Own.{InSession, attempt_own, shut}

-- ---- lengths

short_by : (k : ℕ) → k ≤ 131072 → nat_le k 131072 ≡ true
short_by k h = grind (arith, nat_tests)

few_size : (k : ℕ) → k ≤ 32 → 2 + (9 + (9 + (2 + 8 * k))) ≤ 131072
few_size k h = omega (arith, h)

pub seized_short : (n e d : ℕ) (r : SeizeResult) → ResultFew r → IsShort n (body.Seized e d r)
seized_short n e d (seized.Held keys) few = subst (λ size. nat_le size 131072 ≡ true) (sym (spellings (record { sender = n; body = body.Seized e d (seized.Held keys) }))) (short_by _ (few_size (length keys) few))
seized_short n e d (seized.NotRegistered keys) few =
    subst (λ size. nat_le size 131072 ≡ true) (sym (spellings (record { sender = n; body = body.Seized e d (seized.NotRegistered keys) }))) (short_by _ (few_size (length keys) few))
seized_short n e d (seized.Greater w) few = subst (λ size. nat_le size 131072 ≡ true) (sym (spellings (record { sender = n; body = body.Seized e d (seized.Greater w) }))) refl
seized_short n e d seized.Expelled few = subst (λ size. nat_le size 131072 ≡ true) (sym (spellings (record { sender = n; body = body.Seized e d seized.Expelled }))) refl
seized_short n e d (seized.Contended key) few = subst (λ size. nat_le size 131072 ≡ true) (sym (spellings (record { sender = n; body = body.Seized e d (seized.Contended key) }))) refl
seized_short n e d seized.Fault few = subst (λ size. nat_le size 131072 ≡ true) (sym (spellings (record { sender = n; body = body.Seized e d seized.Fault }))) refl

-- ---- the letter, and the session of the node

-- a letter of the session is of another's attempt, and the node is in it
pub record OfSession (h : Header) (s : Scene) (n : ℕ) (x : UpNode) (from e : ℕ) : Type 0 where
  pub here : is_in x e ≡ true
  pub in_e : session_of x ≡ e
  pub other : (coordinator e == n) ≡ false
  pub session : member.session_of n s.moments ≡ Some e
  pub seat : NodeState
  pub sits : x.seat ≡ Forming seat

forming : (seat : Seat) → membership_in seat ≡ None → (P : Type 0) → ((z : NodeState) → seat ≡ Forming z → P) → P
forming (Forming z) none P f = f z refl
forming (Member z) none P f = absurd (none_some z.session (sym none))

is_there : (a e : ℕ) → 0 < a → a ≡ e → (nat_le 1 e && (a == e)) ≡ true
is_there a e some same = grind (arith, nat_tests)

pub apart : (k n : ℕ) (a : ℕ) → (k == a) ≡ true → n ≢ a → (k == n) ≡ false
apart k n a is ne = by_test (k == n) refl
  where
    equal : (a b : ℕ) → (a == b) ≡ true → a ≡ b
    equal a b h = grind arith

    by_test : (b : Bool) → (k == n) ≡ b → b ≡ false
    by_test true same = absurd (ne (sym (equal k n same) ∙ equal k a is))
    by_test false same = refl

zero_or : (k : ℕ) → (0 < k) ⊎ (k ≡ 0)
zero_or zero = inr refl
zero_or (suc k) = inl (omega arith)

pub session_is : (h : Header) (s : Scene) (n e : ℕ) (x : UpNode) → UpSo h s.moments n x → member.session_of n s.moments ≡ Some e → (0 < session_of x) × (session_of x ≡ e)
session_is h s n e x up is = by_zero (zero_or (session_of x))
  where
    by_zero : (0 < session_of x) ⊎ (session_of x ≡ 0) → (0 < session_of x) × (session_of x ≡ e)
    by_zero (inl some) = (some, same_some (session_of x) e (sym (up.session some) ∙ is))
    by_zero (inr none) = absurd (none_some e (sym (up.outside none) ∙ is))

pub of_session : (h : Header) (s : Scene) (n from e : ℕ) (x : UpNode) (l : Letter) → UpIn h s.moments n (s.nodes.node n) → IsSeated s.moments n (s.nodes.node n) → s.nodes.node n ≡ Up x → l.from ≡ from → attempt_of l.from l.before ≡ Some e → n ≢ from
    → InSession n l s.moments → OfSession h s n x from e
of_session h s n from e x l up seated at sender last ne k =
    let same : k.epoch ≡ e = same_some k.epoch e (sym k.number ∙ last) in
    let session : member.session_of n s.moments ≡ Some e = k.session ∙ ap Some same in
    let is : (0 < session_of x) × (session_of x ≡ e) = session_is h s n e x (subst (UpIn h s.moments n) at up) session in
    let none : membership_in x.seat ≡ None = sym (subst (IsSeated s.moments n) at seated) ∙ k.none in
    forming x.seat none (OfSession h s n x from e)
    (λ z sits. record {
      here = is_there (session_of x) e is.0 is.1;
      in_e = is.1;
      other = apart (coordinator e) n from (subst (λ a. (coordinator e == a) ≡ true) sender (attempt_own l.from e l.before last)) ne;
      session = session;
      seat = z;
      sits = sits;
    })

-- ---- it is sent, or so at the end

module _ (c : Cluster) (n to : ℕ) (f : UpNode → Body) (Q : UpNode → Type 0) (called : Name) where
  pub ended_sent : (os : List Output) (rest : List Moment) (node : Node) → ((b : Body) → IsBehind n to b os → IsShort n b → named (name_of b) ≡ called → sends_or_falls n to called rest ≡ true)
      → (some : Body) → IsShort n some → named (name_of some) ≡ called → ((x : UpNode) → node ≡ Up x → IsShort n (f x)) → ((x : UpNode) → named (name_of (f x)) ≡ called) → End c n to f Q os node
      → (sends_or_falls n to called rest ≡ true) ⊎ OfUp Q node
  ended_sent os rest Down goes some short names shorts all h = inl (goes some (h some) short names)
  ended_sent os rest (Up x) goes some short names shorts all (inl so) = inr so
  ended_sent os rest (Up x) goes some short names shorts all (inr behind) = inl (goes (f x) behind (shorts x refl) (all x))

-- the queue is told then
pub queue_then : (h : Header) (cells : ℕ) (t : Scene) (n e : ℕ) (z : UpNode) → Facts h cells t → IsLeft t.links.next → t.nodes.node n ≡ Up z → 0 < e → session_of z ≡ e → (coordinator e == n) ≡ false
    → Same (filter is_queued z.tasks) (told.queued_of (setting_of h) n t.moments)
queue_then h cells t n e z g left at some in_e other =
    let up : UpSo h t.moments n z = subst (UpIn h t.moments n) at (g.at.reading.sites n).up in
    let session : member.session_of n t.moments ≡ Some e = up.session (subst (λ k. 0 < k) (sym in_e) some) ∙ ap Some in_e in
    subst (λ (y : Node). NodeQueue y (told.queued_of (setting_of h) n t.moments)) at (g.at.queues left n (shut (setting_of h) n e t.moments session other))

-- ---- what the letter says

pub record IsSeize (b : Body) (kind : SeizeKind) (d : ℕ) : Type 0 where
  pub epoch : ℕ
  pub members : ℕ
  pub is : b ≡ request_as kind epoch members d

abbrev pub name_for : SeizeKind → ℕ → Name
name_for Vote d = name.SeizeQuorum d
name_for Plain d = name.SeizeData d

names_quorum : Name → Bool
names_quorum (name.SeizeQuorum d) = true
names_quorum _ = false

names_data : Name → Bool
names_data (name.SeizeData d) = true
names_data _ = false

names_install : Name → Bool
names_install name.Install = true
names_install _ = false

device_in : Name → ℕ
device_in (name.SeizeQuorum d) = d
device_in (name.SeizeData d) = d
device_in _ = 0

quorum_named : (b : Body) (d : ℕ) → named (name_of b) ≡ name.SeizeQuorum d → IsSeize b Vote d
unfolding names_quorum device_in
quorum_named (body.SeizeQuorum e members k) d is = record { epoch = e; members = members; is = ap (λ j. body.SeizeQuorum e members j) (ap device_in is) }
quorum_named _ d is = absurd (false_true (ap names_quorum is))

data_named : (b : Body) (d : ℕ) → named (name_of b) ≡ name.SeizeData d → IsSeize b Plain d
unfolding names_data device_in
data_named (body.SeizeData e members k) d is = record { epoch = e; members = members; is = ap (λ j. body.SeizeData e members j) (ap device_in is) }
data_named _ d is = absurd (false_true (ap names_data is))

pub record IsInstall (b : Body) : Type 0 where
  pub install : Install
  pub is : b ≡ body.Install install

pub install_named : (b : Body) → named (name_of b) ≡ name.Install → IsInstall b
unfolding names_install
install_named (body.Install i) is = record { install = i; is = refl }
install_named _ is = absurd (false_true (ap names_install is))

pub seize_named : (kind : SeizeKind) (b : Body) (d : ℕ) → named (name_of b) ≡ name_for kind d → IsSeize b kind d
seize_named Vote b d is = quorum_named b d is
seize_named Plain b d is = data_named b d is
