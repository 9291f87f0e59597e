-- A step of a node, and each thing that happens: what was sent of updates is so.
use Rattle.std.specs.Prelude.{ℕ, suc, ◌+◌, ◌-◌, ◌==◌, ◌&&◌, ◌||◌, not, ◌≡◌, ◌≢◌, ◌⊎◌, ◌≤◌, ◌++◌, All, Bool, true, false, List, [], ◌∷◌, length, take, slice_get, Some, is_some}
use Rattle.std.specs.List.{AllByRecursion}
use Rattle.std.proofs.Common.{refl, sym, ap, subst, ◌∙◌, inl, inr, arith}
use Rattle.ccr_commit.specs.Entries.{texts_of}
use Rattle.cl_base.specs.declared.method.Outcome as method
use Rattle.cmm_attempt.proofs.Basics.{and_cases, false_true, same_number}
use Rattle.cmm_attempt.specs.Calls.{IsDevice}
use Rattle.cmm_member.specs.Nodes.{NodeState}
use Rattle.cmm_member.specs.Records.{NodeRecord}
use Rattle.local_disk.specs.declared.memory.Choice.{Choice}
use Rattle.machine_base.proofs.Puts.{put_here, put_there, same_or_not}
use Rattle.machine_base.specs.Put.{put}
use Rattle.membership_machine.specs.Growth.{Grows}
use Rattle.membership_machine.specs.Invariant.{Holds}
use Rattle.membership_machine.specs.State.{Memberships}
use Rattle.node_model.specs.Members.{is_bad_update, is_next_of}
use Rattle.node_model.specs.Seats.{is_in, is_member, record_of, session_of, state_of, version_of}
use Rattle.node_model.specs.Steps.{Outcome, stepped}
use Rattle.node_model.specs.declared.cluster.Cluster.{Cluster}
use Rattle.node_model.specs.declared.input.Input.{Input}
use Rattle.node_model.specs.declared.node.Node.TheVariants.{Up}
use Rattle.node_model.specs.declared.node.UpNode.{UpNode}
use Rattle.node_model.specs.declared.output.Output.{Output}
use Rattle.node_model.specs.declared.output.Output.TheVariants.{Sends, Tells}
use Rattle.node_model.specs.declared.seat.Seat.{Seat}
use Rattle.node_model.specs.declared.seat.Seat.TheVariants.{Forming, Member}
use Rattle.record_disk.specs.Disks.{DiskState, armed}
use Rattle.refinement.proofs.Disks.{disks_keep_rules}
use Rattle.refinement.proofs.EveryRun.{is_true}
use Rattle.refinement.proofs.Facts.{known_by, step_may}
use Rattle.refinement.proofs.Handlers.{delivered_by}
use Rattle.refinement.proofs.Presidents.{MemberTied, member_tied}
use Rattle.refinement.proofs.Replies.{steps_are_cut}
use Rattle.refinement.proofs.Ties.{message_stays, node_stays}
use Rattle.refinement.specs.Cuts.{doings}
use Rattle.refinement.specs.Doings.{Doing, Site, after_all, given_all, site}
use Rattle.refinement.specs.Facts.{JoinsIn}
use Rattle.refinement.specs.Guards.{MayAll}
use Rattle.refinement.specs.Runs.{IsAmong, Letter, Nodes, WasSent, letters_of, moved}
use Rattle.refinement.specs.Runs.Move.{Arms, Takes as Takes_in}
use Rattle.refinement.specs.Steps.{IsCut, disk_rules}
use Rattle.refinement.specs.Ties.{AllTold, MessageTold, NodeTied, SiteTied, setting_of}
use Rattle.run_history.proofs.Steps.{put_all}
use Rattle.run_history.specs.Stages.{site_of}
use Rattle.update_log.specs.Logs.{config_after, is_update}
use Rattle.wire.specs.Spelling.{IsNode}
use Rattle.wire.specs.declared.message.Body.{Body}
use Rattle.wire.specs.declared.message.Body.TheVariants as body
use Rattle.run_packets.specs.admitted.Logged.{AllLogged, BodyLogged, LetterLogged, PlaceLogged, RunLogged}
use Rattle.run_packets.proofs.admitted.Logged.{HasPart, Went, all_went, body_stays, part_of, take_next}
use Rattle.run_packets.proofs.admitted.Versions.{comes_as_update}

-- ---- letters

abbrev AreLogged : Cluster → Memberships → List Letter → Type 0
AreLogged c M letters = AllByRecursion (LetterLogged c M) letters

letters_stay : (c : Cluster) (M N : Memberships) (letters : List Letter) → Holds (setting_of c) M → Grows M N → AreLogged c M letters → AreLogged c N letters
letters_stay c M N [] i g h = tt
letters_stay c M N (l ∷ letters) i g h = ((message_stays c M N l.from l.body i g h.0.0, body_stays c M N l.body g h.0.1), letters_stay c M N letters i g h.1)

more_letters : (c : Cluster) (M : Memberships) (n : ℕ) (os : List Output) (old : List Letter) → AllTold M n os → AllLogged c M os → AreLogged c M old → AreLogged c M (letters_of n os ++ old)
more_letters c M n [] old told logged h = h
more_letters c M n (Tells e ∷ os) old told logged h = more_letters c M n os old told.1 logged.1 h
more_letters c M n (Sends to b ∷ os) old told logged h = ((told.0, logged.0), more_letters c M n os old told.1 logged.1 h)

told_all : (c : Cluster) (M : Memberships) (letters : List Letter) → AreLogged c M letters → AllByRecursion (λ (l : Letter). MessageTold M l.from l.body) letters
told_all c M [] h = tt
told_all c M (l ∷ letters) h = (h.0.0, told_all c M letters h.1)

among_logged : (c : Cluster) (M : Memberships) (from : ℕ) (b : Body) (letters : List Letter) → IsAmong from b letters → AreLogged c M letters → MessageTold M from b × BodyLogged c M b
among_logged c M from b [] among h = absurd among
among_logged c M from b (l ∷ letters) (inl here) h =
    (subst (λ z. MessageTold M z b) here.0 (subst (λ z. MessageTold M l.from z) here.1 h.0.0), subst (BodyLogged c M) here.1 h.0.1)
among_logged c M from b (l ∷ letters) (inr there) h = among_logged c M from b letters there h.1

-- ---- a step

pub step_logged : (c : Cluster) (v : Nodes) (n now : ℕ) (ends : method.Outcome) (i : Input) → All IsDevice c.attached → IsNode n → WasSent v i → JoinsIn (v.node n) → RunLogged c v
    → RunLogged c (moved c v (Takes_in n now ends i))
step_logged c v n now ends i fits is was joins k =
    let M : Memberships = k.machine in
    let o : Outcome DiskState = stepped disk_rules c n now ends (v.node n) (v.disk n) i in
    let cut : IsCut disk_rules c n now ends (v.node n) (v.disk n) i [] o = steps_are_cut disk_rules disks_keep_rules c n now ends (v.node n) (v.disk n) i in
    let x : Site = site_of v n in
    let ds : List Doing = doings c n now ends cut.replies i (v.node n) in
    let may : MayAll c n (delivered_by i) x ds = step_may c M n now ends (v.node n) (v.disk n).kept i cut.replies is.1 fits k.holds (k.tied n) joins in
    let went : Went c M n (after_all c n x ds) (given_all c n x ds) =
    all_went c M n (delivered_by i) x ds fits k.holds (known_by M i (is_true M v i was (told_all c M v.sent k.sent))) (k.tied n) may in
    record {
      machine = went.machine;
      holds = went.holds;
      tied =
          put_all (λ j node disk. SiteTied c went.machine j (site node disk)) v n o.after o.disk (subst (SiteTied c went.machine n) cut.comes.left went.tied)
          (λ j ne. node_stays c M went.machine j (v.disk j).kept (v.node j) k.holds went.grows (went.others j ne) (k.tied j));
      sent =
          subst (λ os. AreLogged c went.machine (letters_of n os ++ v.sent)) cut.comes.given
          (more_letters c went.machine n (given_all c n x ds) v.sent went.said went.logged (letters_stay c M went.machine v.sent k.holds went.grows k.sent));
    }

-- ---- a stop is armed

pub arms_logged : (c : Cluster) (v : Nodes) (n calls : ℕ) (choice : Choice) → RunLogged c v → RunLogged c (moved c v (Arms n calls choice))
arms_logged c v n calls choice k = record { machine = k.machine; holds = k.holds; tied = λ j. go j (same_or_not j n); sent = k.sent }
  where
    disk : ℕ → DiskState
    disk = put v.disk n (armed (v.disk n) calls choice)

    go : (j : ℕ) → (j ≡ n) ⊎ (j ≢ n) → SiteTied c k.machine j (site (v.node j) (disk j).kept)
    go j (inl e) =
        subst (λ m. SiteTied c k.machine m (site (v.node m) (disk m).kept)) (sym e)
        (subst (λ (d : DiskState). SiteTied c k.machine n (site (v.node n) d.kept)) (sym (put_here v.disk n (armed (v.disk n) calls choice))) (k.tied n))
    go j (inr ne) = subst (λ (d : DiskState). SiteTied c k.machine j (site (v.node j) d.kept)) (sym (put_there v.disk n (armed (v.disk n) calls choice) j ne)) (k.tied j)

-- ---- an update that comes

bad_none : (a b d : Bool) → a ≡ true → (b ≡ true → d ≡ true) → (not a || (b && not d)) ≡ false
bad_none true true d h k = by_test d (k refl)
  where
    by_test : (z : Bool) → z ≡ true → not z ≡ false
    by_test true e = refl
    by_test false e = absurd (false_true e)
bad_none true false d h k = refl
bad_none false b d h k = absurd (false_true h)

from_one : (k : ℕ) → 1 ≤ k → k ≡ suc (k - 1)
from_one k h = omega (arith, h)

less_one : (k m : ℕ) → k ≡ m + 1 → k - 1 ≡ m
less_one k m is = omega (arith, is)

-- the member at this place
pub record Next (x : UpNode) (e place : ℕ) : Type 0 where
  pub state : NodeState
  pub at : x.seat ≡ Member state
  pub session : session_of x ≡ e
  pub place_so : place ≡ length (texts_of (record_of x).entries) + 1

next_at : (x : UpNode) (e place : ℕ) → is_next_of x e place ≡ true → Next x e place
next_at x e place is = by_seat x.seat refl
  where
    two : ((is_member x.seat && is_in x e) ≡ true) × ((place == length (texts_of (record_of x).entries) + 1) ≡ true)
    two = and_cases (is_member x.seat && is_in x e) (place == length (texts_of (record_of x).entries) + 1) is

    by_seat : (seat : Seat) → x.seat ≡ seat → Next x e place
    by_seat (Forming s) at = absurd (false_true (sym (ap is_member at) ∙ (and_cases (is_member x.seat) (is_in x e) two.0).0))
    by_seat (Member s) at = record {
      state = s;
      at = at;
      session = same_number (session_of x) e (and_cases _ (session_of x == e) (and_cases (is_member x.seat) (is_in x e) two.0).1).1;
      place_so = same_number place (length (texts_of (record_of x).entries) + 1) two.1;
    }

pub update_good : (c : Cluster) (M : Memberships) (n : ℕ) (x : UpNode) (disk : NodeRecord) (e place : ℕ) (text : List ℕ) → Holds (setting_of c) M → NodeTied c M n disk (Up x)
    → slice_get (M.epoch e).log (place - 1) ≡ Some text → PlaceLogged c M e place → is_bad_update c x e place text ≡ false
update_good c M n x disk e place text i tied told logged =
    bad_none (is_update (version_of c) text) (is_next_of x e place) (is_some (config_after c.header (texts_of (record_of x).entries ++ text ∷ []))) (comes_as_update c (take (place - 1) (M.epoch e).log) text good)
    (λ is. next_good (next_at x e place is))
  where
    same : take place (M.epoch e).log ≡ take (place - 1) (M.epoch e).log ++ text ∷ []
    same = ap (λ k. take k (M.epoch e).log) (from_one place logged.0) ∙ take_next (place - 1) (M.epoch e).log text told

    good : is_some (config_after c.header (take (place - 1) (M.epoch e).log ++ text ∷ [])) ≡ true
    good = subst (λ z. is_some (config_after c.header z) ≡ true) same logged.2

    next_good : Next x e place → is_some (config_after c.header (texts_of (record_of x).entries ++ text ∷ [])) ≡ true
    next_good next =
        let t : MemberTied c M n x next.state = member_tied c M n x disk next.state tied next.at in
        let part : HasPart c M next.state = part_of c M n next.state i t.shows in
        let own : texts_of (record_of x).entries ≡ texts_of next.state.saved.entries = ap (λ z. texts_of (state_of z).saved.entries) next.at in
        let here : next.state.session ≡ e = sym (ap (λ z. (state_of z).session) next.at) ∙ next.session in
        let before : texts_of next.state.saved.entries ≡ take (place - 1) (M.epoch e).log =
        subst (λ q. texts_of next.state.saved.entries ≡ take (place - 1) (M.epoch q).log) here
        (subst (λ k. texts_of next.state.saved.entries ≡ take k (M.epoch next.state.session).log) (sym (less_one place (length (texts_of next.state.saved.entries)) (next.place_so ∙ ap (λ z. length z + 1) own))) part.entries) in
        subst (λ z. is_some (config_after c.header (z ++ text ∷ [])) ≡ true) (sym (own ∙ before)) good

pub prepare_good : (c : Cluster) (v : Nodes) (n from : ℕ) (x : UpNode) (e place : ℕ) (text : List ℕ) → v.node n ≡ Up x → IsAmong from (body.Prepare e place text) v.sent → RunLogged c v
    → is_bad_update c x e place text ≡ false
prepare_good c v n from x e place text up among k =
    let two : MessageTold k.machine from (body.Prepare e place text) × BodyLogged c k.machine (body.Prepare e place text) = among_logged c k.machine from (body.Prepare e place text) v.sent among k.sent in
    update_good c k.machine n x (v.disk n).kept e place text k.holds (subst (λ z. NodeTied c k.machine n (v.disk n).kept z) up (k.tied n)) two.0 two.1
