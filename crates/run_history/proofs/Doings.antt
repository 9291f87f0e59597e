-- Each small step of a node keeps what it has of messages, and what it gives is behind what it needs.
use Rattle.std.specs.Prelude.{ℕ, ◌≡◌, ◌≢◌, ◌<◌, ◌++◌, ◌&&◌, ◌%◌, ◌⊎◌, Bool, true, false, IsSome, List, [], ◌∷◌, Option, None, Some, length}
use Rattle.std.proofs.Common.{refl, sym, ap, subst, ◌∙◌, arith, inl, inr}
use Rattle.attempt_laws.specs.Machine.{is_member}
use Rattle.ccr_commit.specs.Entries.{texts_of}
use Rattle.cmm_attempt.proofs.Basics.{false_true, none_some, same_some}
use Rattle.history.specs.Contact.{has_answered, is_message_of, is_proposal}
use Rattle.history.specs.Letters.{is_letter}
use Rattle.history.specs.Member.{number_of}
use Rattle.history.specs.Seizing.{is_number}
use Rattle.history.specs.Starts.{is_started}
use Rattle.machine_base.proofs.Puts.{same_or_not}
use Rattle.node_model.specs.Clusters.{first_valid_of}
use Rattle.node_model.specs.Seats as seats
use Rattle.node_model.specs.Seats.{session_of, up_with}
use Rattle.node_model.specs.declared.presidency.Presidency.{Presidency}
use Rattle.node_model.specs.declared.seat.Seat.{Seat}
use Rattle.node_model.specs.declared.seat.Seat.TheVariants.{Forming, Member}
use Rattle.proposals.specs.Proposing.{less}
use Rattle.proposals.specs.declared.arrived.Proposed.{Proposed}
use Rattle.refinement.proofs.Presidents.{comes_known}
use Rattle.refinement.proofs.Texts.{has_some, member_has, member_low}
use Rattle.refinement.specs.Guards.{Comes, Says}
use Rattle.refinement.specs.Ties.{PresidentTied, ProposedTied, SeatTied}
use Rattle.run_history.specs.Led.{ActLed, BodyLed, DoingLed, IsPrepareOf, led_act, led_doing}
use Rattle.run_history.specs.Noted.{ProposedNoted, PresidentNoted, UpNoted}
use Rattle.run_history.proofs.Changes.{change_led, own_session}
use Rattle.run_history.proofs.Heard.{and_both, is_same, letter_so, own_number, same_prepare, same_prepared}
use Rattle.run_history.proofs.Ups.{Alike, alike_later, alike_same, alike_self, less_noted, less_own, up_forming, up_same}
use Rattle.std.specs.List.{list_any}
use Rattle.cl_base.specs.Sets.{has}
use Rattle.cmm_attempt.specs.Attempts.{AttemptState, install_in}
use Rattle.cmm_attempt.specs.declared.phase.Phase.TheVariants.{Installing}
use Rattle.cmm_attempt.proofs.Basics.{if_either}
use Rattle.cmm_member.specs.Nodes.{NodeState}
use Rattle.cmm_member.specs.Records.{NodeRecord}
use Rattle.membership_machine.specs.Events.{Run}
use Rattle.membership_machine.specs.Growth.{Grows}
use Rattle.membership_machine.specs.Invariant.{Holds}
use Rattle.membership_machine.specs.State.{Memberships}
use Rattle.seize.specs.declared.kind.SeizeKind.{SeizeKind}
use Rattle.status_report.specs.declared.node_entry.NodeEntry.TheVariants as note
use Rattle.wire.specs.declared.message.Body.{Body}
use Rattle.wire.specs.declared.message.Body.TheVariants as body
use Rattle.history.specs.Contact.{came}
use Rattle.history.specs.Member.{attempt_of}
use Rattle.history.specs.Moment.{Moment}
use Rattle.history.specs.Names as name
use Rattle.history.specs.Setting.{coordinator}
use Rattle.node_model.specs.Attempts.{seizing_here}
use Rattle.node_model.specs.Seats.{record_of, state_of}
use Rattle.node_model.specs.declared.cluster.Cluster.{Cluster}
use Rattle.node_model.specs.declared.node.Node.{Node}
use Rattle.node_model.specs.declared.node.Node.TheVariants.{Down, Up}
use Rattle.node_model.specs.declared.node.UpNode.{UpNode}
use Rattle.node_model.specs.declared.output.Output.{Output}
use Rattle.node_model.specs.declared.output.Output.TheVariants.{Sends, Tells}
use Rattle.refinement.specs.Doings.{Act, Doing, Site, acted, changed, effect, first_lines, gives, gone_line, last_lines, of_node, said, site, write_lines}
use Rattle.refinement.specs.Doings.Act.{Accepts, Dates, Ends, Gives, Goes_on, Hears, Makes, Minds, Notes as Hears_prepared, Queues, Spreads, Stores, Takes, Ticks, Waits, Works, Writes}
use Rattle.refinement.specs.Doings.Doing.{Comes_up, Does, Forgets, Goes_down, Loses, Saves}
use Rattle.refinement.specs.Events.{of_act, of_doing}
use Rattle.refinement.specs.Guards.{May, MayAct, MayWrite, OfAttempt}
use Rattle.refinement.specs.Runs.{Nodes}
use Rattle.refinement.specs.Ties.{Delivered, Known, NodeTied, SiteTied, setting_of}
use Rattle.refinement.specs.Worlds.{AllFit}
use Rattle.refinement.proofs.Attempts.{install_epoch}
use Rattle.refinement.proofs.Changes.{sees}
use Rattle.run_history.specs.Marks.{ActSo, DoingSo}
use Rattle.run_history.specs.Scenes.{Scene, passing}
use Rattle.run_history.specs.Causes.{Brought, Caused, Hand}
use Rattle.run_history.specs.Noted.{AttemptIn, InstallNoted, Notes}
use Rattle.run_history.proofs.ChangeLines.{change_walks, first_calm}
use Rattle.run_history.proofs.Changes.{At, at_attempt, install_after, noted_of, turned_in}
use Rattle.run_history.proofs.Heard.{own_of}
use Rattle.run_history.proofs.ContactLines.{AllCalm, calm_can, ended_calm, minor_sendable, spread_sendable, tick_sendable, write_calm}
use Rattle.run_history.proofs.Walk.{Sendable, Walks, can_pass, outputs_walk, walks_at, walks_grow}

no_truth : false ≡ true → ⊥
no_truth e = cc

-- ---- what is sent has its cause

of_attempt : (o : Option AttemptState) (P : AttemptState → Type 0) (Q : Type 0) → OfAttempt P o → ((a : AttemptState) → o ≡ Some a → P a → Q) → Q
of_attempt None P Q h f = absurd h
of_attempt (Some a) P Q h f = f a refl h

-- the Prepare in hand has come to it
prepare_brought : (ms : List Moment) (n from p v : ℕ) (b : Body) → IsPrepareOf p v b → Brought ms n from b → came p (name.Prepare v) n ms ≡ true
prepare_brought ms n from p v (body.Prepare e place text) is h =
    subst (λ q. came q (name.Prepare v) n ms ≡ true) is.0 (subst (λ k. came e (name.Prepare k) n ms ≡ true) is.1
    (h.reached_so (is_message_of e (name.Prepare place) n)
    (and_both (is_letter (name.Prepare place) (coordinator e) n h.letter) (is_number e (number_of h.letter))
    (letter_so (name.Prepare place) (coordinator e) n h.letter (same_prepare place) h.called (h.sender ∙ sym h.caused.0) h.receiver)
    (ap (λ (o : Option ℕ). is_number e o) (ap (λ k. attempt_of k h.letter.before) h.sender ∙ h.caused.1) ∙ is_same e))))
prepare_brought ms n from p v (body.Heartbeat promised session is_one) is h = absurd is
prepare_brought ms n from p v (body.Collect e members) is h = absurd is
prepare_brought ms n from p v (body.Promise e newest members valid flagged committed pending) is h = absurd is
prepare_brought ms n from p v (body.Nack e promised) is h = absurd is
prepare_brought ms n from p v (body.SeizeQuorum e members d) is h = absurd is
prepare_brought ms n from p v (body.SeizeData e members d) is h = absurd is
prepare_brought ms n from p v (body.Seized e d outcome) is h = absurd is
prepare_brought ms n from p v (body.Install i) is h = absurd is
prepare_brought ms n from p v (body.Ready e joined report) is h = absurd is
prepare_brought ms n from p v (body.Start e) is h = absurd is
prepare_brought ms n from p v (body.Prepared e place) is h = absurd is
prepare_brought ms n from p v (body.Commit e place) is h = absurd is
prepare_brought ms n from p v (body.Order o) is h = absurd is
prepare_brought ms n from p v (body.Done e number outcome) is h = absurd is
prepare_brought ms n from p v (body.Request e number text) is h = absurd is
prepare_brought ms n from p v (body.Answer e number text) is h = absurd is
prepare_brought ms n from p v (body.Excluded e newest) is h = absurd is

prepare_came : (ms : List Moment) (n p v : ℕ) (told : Delivered) → Says (IsPrepareOf p v) told → Hand ms n told → came p (name.Prepare v) n ms ≡ true
prepare_came ms n p v None says hand = absurd says
prepare_came ms n p v (Some d) says hand = prepare_brought ms n d.0 p v d.1.body says hand

-- a member has a session
sits_some : (c : Cluster) (M : Memberships) (n : ℕ) (disk : NodeRecord) (o : Option AttemptState) (seat : Seat) → Holds (setting_of c) M → SeatTied c M n disk o seat → seats.is_member seat ≡ true → 0 < (state_of seat).session
sits_some c M n disk o (Forming s) i tied is = absurd (no_truth is)
sits_some c M n disk o (Member s) i tied is = subst (λ q. 0 < q) tied.0.session ((i.node n).member_sits tied.0.member)

-- what a president is
president_facts : (c : Cluster) (M : Memberships) (n : ℕ) (told : Delivered) (disk : NodeRecord) (x : UpNode) (Q : Type 0) → At c M n told disk x → IsSome x.presidency
    → ((p : Presidency) → x.presidency ≡ Some p → seats.is_member x.seat ≡ true → coordinator (session_of x) ≡ n → ProposedTied M n (state_of x.seat) p.proposals.proposed → Q) → Q
president_facts c M n told disk x Q at some f = by_seat x.presidency x.seat refl refl at.tied.1
  where
    by_seat : (o : Option Presidency) (seat : Seat) → x.presidency ≡ o → x.seat ≡ seat → PresidentTied M n o seat → Q
    by_seat None seat is on h = absurd (false_true (subst (λ z. IsSome z) is some))
    by_seat (Some p) (Forming s) is on h = absurd h
    by_seat (Some p) (Member s) is on h =
        f p is (ap seats.is_member on) (ap coordinator (ap (λ z. (state_of z).session) on) ∙ own_number s.session n h.own) (subst (λ z. ProposedTied M n (state_of z) p.proposals.proposed) (sym on) h.proposed)

-- what is pending at a president is proposed, and has its line
pending_noted : (M : Memberships) (ms : List Moment) (n q members place : ℕ) (s : NodeState) (o : Option Proposed) (text : List ℕ) → s.saved.entries.pending ≡ Some text → place ≡ length (texts_of s.saved.entries) → ProposedTied M n s o
    → ProposedNoted ms n q members o → list_any (is_proposal q place) ms ≡ true
pending_noted M ms n q members place s None text pending at tied h = absurd (none_some text (sym tied ∙ pending))
pending_noted M ms n q members place s (Some r) text pending at tied h = subst (λ v. list_any (is_proposal q v) ms ≡ true) (tied.0 ∙ sym at) h.0

write_caused : (c : Cluster) (M : Memberships) (n : ℕ) (told : Delivered) (disk : NodeRecord) (x : UpNode) (ms : List Moment) (led : Bool) (b : Body) → At c M n told disk x → Notes ms n (site (Up x) disk) → Hand ms n told
    → MayWrite x b → BodyLed n told led b → (led ≡ true → coordinator (session_of x) ≡ n) → Caused ms n b
write_caused c M n told disk x ms led (body.Install i) at notes hand may so own =
    of_attempt x.attempt (λ a. (a.phase ≡ Installing) × (i ≡ install_in a)) (Caused ms n (body.Install i)) may
    (λ a is so.
    let epoch : i.epoch ≡ a.plan.epoch = ap (λ j. j.epoch) so.1 ∙ install_epoch a in (
      ap coordinator epoch ∙ at_attempt c M n told disk x a (coordinator a.plan.epoch ≡ n) at is (λ s shows co. own_of c M n s a co),
      (noted_of ms n x.attempt a is notes.up.attempt).last ∙ ap Some (sym epoch),
    ))
write_caused c M n told disk x ms led (body.Ready p joined report) at notes hand may so own =
    let same : disk.installed ≡ p = ap (λ (r : NodeRecord). r.installed) (sees c M n disk x.attempt x.seat at.tied.0).disk_so ∙ sym may.2 in
    λ other. subst (λ q. came q name.Install n ms ≡ true) same (notes.installed (subst (λ q. 0 < q) (sym same) may.0) (λ at_own. other (at_own ∙ ap coordinator same)))
write_caused c M n told disk x ms led (body.Start p) at notes hand may so own =
    let leads : coordinator p ≡ n = by_led so in (
      leads,
      subst (λ q. attempt_of n ms ≡ Some q) (sym may.1)
          (notes.up.session (sits_some c M n disk x.attempt x.seat at.holds at.tied.0 may.0) (ap coordinator (sym may.1) ∙ leads)),
      subst (λ q. is_started q ms ≡ true) (sym may.1) (notes.up.member may.0),
    )
  where
    by_led : (led ≡ true) ⊎ (p % 64 ≡ n) → coordinator p ≡ n
    by_led (inl is) = ap coordinator may.1 ∙ own is
    by_led (inr is) = is
write_caused c M n told disk x ms led (body.Prepare p place text) at notes hand may so own =
    president_facts c M n told disk x (Caused ms n (body.Prepare p place text)) at may.0
    (λ r is sits leads tied. (
      ap coordinator may.1 ∙ leads,
      subst (λ q. attempt_of n ms ≡ Some q) (sym may.1) (notes.up.session (sits_some c M n disk x.attempt x.seat at.holds at.tied.0 sits) leads),
      subst (λ q. list_any (is_proposal q place) ms ≡ true) (sym may.1)
          (pending_noted M ms n (session_of x) (record_of x).members place (state_of x.seat) r.proposals.proposed text may.3 may.2 tied (notes.up.president r is sits).proposed),
    ))
write_caused c M n told disk x ms led (body.Prepared p v) at notes hand may so own = λ other. by_led other so
  where
    by_led : n ≢ coordinator p → (led ≡ true) ⊎ Says (IsPrepareOf p v) told → came p (name.Prepare v) n ms ≡ true
    by_led other (inl is) = absurd (other (sym (ap coordinator may.1 ∙ own is)))
    by_led other (inr says) = prepare_came ms n p v told says hand
write_caused c M n told disk x ms led (body.Heartbeat promised session is_one) at notes hand may so own = tt
write_caused c M n told disk x ms led (body.Collect p members) at notes hand may so own = tt
write_caused c M n told disk x ms led (body.Promise p newest members valid flagged committed pending) at notes hand may so own = tt
write_caused c M n told disk x ms led (body.Nack p promised) at notes hand may so own = tt
write_caused c M n told disk x ms led (body.SeizeQuorum p members d) at notes hand may so own = tt
write_caused c M n told disk x ms led (body.SeizeData p members d) at notes hand may so own = tt
write_caused c M n told disk x ms led (body.Seized p d outcome) at notes hand may so own = tt
write_caused c M n told disk x ms led (body.Commit p place) at notes hand may so own = tt
write_caused c M n told disk x ms led (body.Order o) at notes hand may so own = tt
write_caused c M n told disk x ms led (body.Done p number outcome) at notes hand may so own = tt
write_caused c M n told disk x ms led (body.Request p number text) at notes hand may so own = tt
write_caused c M n told disk x ms led (body.Answer p number text) at notes hand may so own = tt
write_caused c M n told disk x ms led (body.Excluded p newest) at notes hand may so own = tt

-- ---- acts

-- the node as it is then, with what it gave
abbrev Acted : Cluster → ℕ → Delivered → Nodes → Nodes → Memberships → NodeRecord → UpNode → Act → Scene → Type 0
Acted c n told v w N disk x a s = Walks n told v w N (site (Up (acted c n x a)) disk) (passing n (said c n x a) s)

given_walks : (c : Cluster) (n : ℕ) (told : Delivered) (v w : Nodes) (M : Memberships) (disk : NodeRecord) (x y : UpNode) (os : List Output) (s : Scene) → AllFit n os → Sendable s.moments n os
    → ((ms : List Moment) → Hand ms n told → UpNoted ms n x → UpNoted ms n y) → Walks n told v w M (site (Up x) disk) s → Walks n told v w M (site (Up y) disk) (passing n os s)
given_walks c n told v w M disk x y os s fits can next h =
    let k : Walks n told v w M (site (Up x) disk) (passing n os s) = outputs_walk n told v w M (site (Up x) disk) os s (can_pass s.moments n os fits can) h in
    walks_at n told v w M (site (Up x) disk) (site (Up y) disk) (passing n os s) (record { installed = k.here.installed; up = next (passing n os s).moments k.hand k.here.up }) k

calm_sends : (ms : List Moment) (n : ℕ) (os : List Output) → AllCalm os → Sendable ms n os
calm_sends ms n [] h = tt
calm_sends ms n (Tells e ∷ os) h = (h.0, calm_sends ms n os h.1)
calm_sends ms n (Sends to b ∷ os) h = absurd h

queued_up : (c : Cluster) (n : ℕ) (x : UpNode) (d : ℕ) (kind : SeizeKind) (a : AttemptState) (ms : List Moment) → UpNoted ms n x → UpNoted ms n (seizing_here c n x d kind (Some a))
queued_up c n x d kind a ms h =
    if_either (λ (y : UpNode). UpNoted ms n y) (has a.plan.members n) _ x (up_same ms n x (record x { tasks = _ }) h.attempt refl refl refl (alike_self x.presidency) h) h

-- the Prepared in hand answers its Prepare
prepared_brought : (ms : List Moment) (n from q v : ℕ) (told : Delivered) → Comes from (body.Prepared q v) told → Hand ms n told → coordinator q ≡ n → from ≢ n
    → has_answered q (name.Prepare v) (name.Prepared v) from ms ≡ true
prepared_brought ms n from q v None comes hand own other = absurd comes
prepared_brought ms n from q v (Some d) comes hand own other =
    let h : Brought ms n from (body.Prepared q v) = subst (λ k. Brought ms n k (body.Prepared q v)) comes.0 (subst (λ b. Brought ms n d.0 b) comes.1 hand) in
    h.reached_so (λ l. is_letter (name.Prepared v) from (coordinator q) l && came q (name.Prepare v) from l.before)
    (and_both (is_letter (name.Prepared v) from (coordinator q) h.letter) (came q (name.Prepare v) from h.letter.before)
    (letter_so (name.Prepared v) from (coordinator q) h.letter (same_prepared v) h.called h.sender (h.receiver ∙ sym own))
    (h.caused (λ at_own. other (at_own ∙ own))))

-- the president has heard that a member prepared
heard_up : (c : Cluster) (M : Memberships) (n : ℕ) (told : Delivered) (disk : NodeRecord) (x : UpNode) (from place : ℕ) (p : Presidency) (ms : List Moment) → At c M n told disk x → x.presidency ≡ Some p
    → Comes from (body.Prepared (session_of x) place) told → Hand ms n told → UpNoted ms n x → UpNoted ms n (acted c n x (Hears_prepared from place p))
heard_up c M n told disk x from place p ms at is comes hand h = record {
  attempt = h.attempt;
  session = h.session;
  member = h.member;
  president = λ r has sits.
      let so : PresidentNoted ms n (session_of x) (record_of x).members p.proposals.proposed = h.president p is sits in
      subst (λ (z : Presidency). PresidentNoted ms n (session_of x) (record_of x).members z.proposals.proposed) (same_some _ r has)
      (record { start = so.start; proposed = by_node (same_or_not from n) sits so.proposed });
}
  where
    ready : seats.is_member x.seat ≡ true → is_member (record_of x).members from ≡ true
    ready sits =
        president_facts c M n told disk x (is_member (record_of x).members from ≡ true) at (subst (λ o. IsSome o) (sym is) refl)
        (λ r has seat leads tied. sym (member_so r has seat) ∙ (at.holds.node from).ready_member (session_of x) (comes_known M told from (session_of x) place comes at.known).0)
      where
        member_so : (r : Presidency) → x.presidency ≡ Some r → seats.is_member x.seat ≡ true → (M.epoch (session_of x)).members from ≡ is_member (record_of x).members from
        member_so r has seat = by_seat x.seat seat (subst (λ o. PresidentTied M n o x.seat) has at.tied.1)
          where
            by_seat : (z : Seat) → seats.is_member z ≡ true → PresidentTied M n (Some r) z → (M.epoch (state_of z).session).members from ≡ is_member (state_of z).saved.members from
            by_seat (Forming s) one tied = absurd tied
            by_seat (Member s) one tied = tied.members from

    leads : coordinator (session_of x) ≡ n
    leads = president_facts c M n told disk x (coordinator (session_of x) ≡ n) at (subst (λ o. IsSome o) (sym is) refl) (λ r has seat own tied. own)

    by_node : (from ≡ n) ⊎ (from ≢ n) → seats.is_member x.seat ≡ true → ProposedNoted ms n (session_of x) (record_of x).members p.proposals.proposed
        → ProposedNoted ms n (session_of x) (record_of x).members (less p.proposals.proposed from place)
    by_node (inr other) sits so =
        let member : is_member (record_of x).members from ≡ true = ready sits in
        less_noted ms n (session_of x) (record_of x).members from place p.proposals.proposed (has_some (record_of x).members from (member_has (record_of x).members from member)) (member_low (record_of x).members from member)
        (prepared_brought ms n from (session_of x) place told comes hand leads other) so
    by_node (inl own) sits so =
        let member : is_member (record_of x).members from ≡ true = ready sits in
        less_own ms n (session_of x) (record_of x).members from place p.proposals.proposed (has_some (record_of x).members from (member_has (record_of x).members from member)) (member_low (record_of x).members from member) own so

act_walks : (c : Cluster) (M : Memberships) (n : ℕ) (told : Delivered) (v w : Nodes) (N : Memberships) (disk : NodeRecord) (x : UpNode) (led : Bool) (a : Act) (s : Scene) → At c M n told disk x → MayAct c n told x a → ActSo a
    → ActLed n told led a → (led ≡ true → coordinator (session_of x) ≡ n) → AllFit n (said c n x a) → Grows M N → Run (setting_of c) M (of_act n a) N → Walks n told v w M (site (Up x) disk) s → Acted c n told v w N disk x a s
act_walks c M n told v w N disk x led a s at may so is own fits g run h = by_act a may so is fits run
  where
    now : Walks n told v w N (site (Up x) disk) s
    now = walks_grow n told v w M N (site (Up x) disk) s g h

    -- it is as it was, but for requests, beats and the like
    given : (y : UpNode) (os : List Output) → y.attempt ≡ x.attempt → y.seat ≡ x.seat → Alike x.presidency y.presidency → AllFit n os → Sendable s.moments n os → Walks n told v w N (site (Up y) disk) (passing n os s)
    given y os tries seat alike f can =
        given_walks c n told v w N disk x y os s f can
        (λ ms hand k. up_same ms n x y (subst (λ o. AttemptIn ms n o) (sym tries) k.attempt) (ap (λ z. (state_of z).session) seat) (ap (λ z. (state_of z).saved.members) seat) (ap seats.is_member seat) alike k) now

    same : Alike x.presidency x.presidency
    same = alike_self x.presidency

    caused : (b : Body) → MayWrite x b → BodyLed n told led b → Caused s.moments n b
    caused b k l = write_caused c M n told disk x s.moments led b at h.here h.hand k l own

    by_act : (b : Act) → MayAct c n told x b → ActSo b → ActLed n told led b → AllFit n (said c n x b) → Run (setting_of c) M (of_act n b) N → Acted c n told v w N disk x b s
    by_act (Hears from b) m o l f r = given (acted c n x (Hears from b)) [] refl refl same f tt
    by_act Ticks m o l f r = given (acted c n x Ticks) (said c n x Ticks) refl refl (alike_later x.presidency) f (tt, tick_sendable c s.moments n x)
    by_act Waits m o l f r = given (acted c n x Waits) [] refl refl same f tt
    by_act (Goes_on b k) m o l f r =
        given_walks c n told v w N disk x (acted c n x (Goes_on b k)) [] s f tt
        (λ ms hand q. up_same ms n x (acted c n x (Goes_on b k)) (turned_in c M n told disk x b k ms at m.0 m.1 hand q.attempt) refl refl refl same q) now
    by_act (Ends b e) m o l f r =
        given_walks c n told v w N disk x (acted c n x (Ends b e)) (said c n x (Ends b e)) s f (ended_calm b.plan.epoch e, tt) (λ ms hand q. up_same ms n x (acted c n x (Ends b e)) tt refl refl refl same q) now
    by_act (Queues b d kind) m o l f r = given_walks c n told v w N disk x (acted c n x (Queues b d kind)) [] s f tt (λ ms hand q. queued_up c n x d kind b ms q) now
    by_act (Accepts kind e members d) m o l f r = given (acted c n x (Accepts kind e members d)) [] refl refl same f tt
    by_act (Takes on command b) m o l f r = given (acted c n x (Takes on command b)) (said c n x (Takes on command b)) refl refl same f (tt, tt)
    by_act (Stores d value b) m o l f r = given x (said c n x (Stores d value b)) refl refl same f (tt, calm_sends s.moments n (write_lines n x d value b) (write_calm n x d value b))
    by_act (Writes to b) m o l f r = given x (said c n x (Writes to b)) refl refl same f (caused b m l, tt)
    by_act (Gives os) m o l f r = given x os refl refl same f (minor_sendable s.moments n os o m)
    by_act (Spreads receivers b) m o l f r = given x (said c n x (Spreads receivers b)) refl refl same f (spread_sendable s.moments n receivers b (caused b m l))
    by_act (Minds q p) m o l f r = given (acted c n x (Minds q p)) [] refl refl (alike_same x.presidency p m) f tt
    by_act (Hears_prepared from place p) m o l f r =
        given_walks c n told v w N disk x (acted c n x (Hears_prepared from place p)) [] s f tt (λ ms hand q. heard_up c M n told disk x from place p ms at m.0 m.1 hand q) now
    by_act (Dates second) m o l f r = given (acted c n x (Dates second)) [] refl refl same f tt
    by_act (Works worker) m o l f r = given (acted c n x (Works worker)) [] refl refl same f tt
    by_act (Makes ch) m o l f r =
        subst (λ r. Walks n told v w N (site (Up (changed c n x ch)) r) (passing n (first_lines n ch ++ last_lines c n x ch) s))
        (m.1 ∙ sym (sees c M n disk x.attempt x.seat at.tied.0).disk_so) (change_walks c M n told v w N disk x ch s [] at m.0 g r tt h)

-- ---- small steps

-- once it is down
down_walks : (n : ℕ) (told : Delivered) (v w : Nodes) (N : Memberships) (disk kept : NodeRecord) (x : UpNode) (os : List Output) (s : Scene) → AllCalm os
    → ((ms : List Moment) → Hand ms n told → InstallNoted ms n disk.installed → InstallNoted ms n kept.installed) → Walks n told v w N (site (Up x) disk) s
    → Walks n told v w N (site Down kept) (passing n os s)
down_walks n told v w N disk kept x os s calm next h =
    let k : Walks n told v w N (site (Up x) disk) (passing n os s) = outputs_walk n told v w N (site (Up x) disk) os s (calm_can s.moments n os calm) h in
    walks_at n told v w N (site (Up x) disk) (site Down kept) (passing n os s) (record { installed = next (passing n os s).moments k.hand k.here.installed; up = tt }) k

abbrev Done : Cluster → ℕ → Delivered → Nodes → Nodes → Memberships → Site → Doing → Scene → Type 0
Done c n told v w N x d s = Walks n told v w N (effect c n x d) (passing n (gives c n x d) s)

up_walks : (c : Cluster) (M : Memberships) (n : ℕ) (told : Delivered) (v w : Nodes) (N : Memberships) (disk : NodeRecord) (x : UpNode) (led : Bool) (d : Doing) (s : Scene) → At c M n told disk x
    → May c n told (site (Up x) disk) d → DoingSo d → DoingLed n told led d → (led ≡ true → coordinator (session_of x) ≡ n) → AllFit n (gives c n (site (Up x) disk) d) → Grows M N → Run (setting_of c) M (of_doing n d) N → Walks n told v w M (site (Up x) disk) s
    → Done c n told v w N (site (Up x) disk) d s
up_walks c M n told v w N disk x led Comes_up s at may so is own fits g run h = absurd may
up_walks c M n told v w N disk x led (Goes_down why) s at may so is own fits g run h =
    down_walks n told v w N disk disk x (gone_line n why) s (tt, tt) (λ ms hand k. k) (walks_grow n told v w M N (site (Up x) disk) s g h)
up_walks c M n told v w N disk x led (Does a) s at may so is own fits g run h = act_walks c M n told v w N disk x led a s at may so is own fits g run h
up_walks c M n told v w N disk x led (Saves ch) s at may so is own fits g run h = change_walks c M n told v w N disk x ch s (of_node n note.Saved ∷ []) at may g run (tt, tt) h
up_walks c M n told v w N disk x led (Loses ch why) s at may so is own fits g run h =
    down_walks n told v w N disk (record_of (changed c n x ch)) x (first_lines n ch ++ gone_line n why) s (first_calm n ch (gone_line n why) (tt, tt))
    (λ ms hand k. install_after c M n told disk x ch ms at may hand k) (walks_grow n told v w M N (site (Up x) disk) s g h)
up_walks c M n told v w N disk x led (Forgets ch why) s at may so is own fits g run h =
    down_walks n told v w N disk disk x (first_lines n ch ++ gone_line n why) s (first_calm n ch (gone_line n why) (tt, tt)) (λ ms hand k. k) (walks_grow n told v w M N (site (Up x) disk) s g h)

comes_up : (c : Cluster) (n : ℕ) (told : Delivered) (v w : Nodes) (N : Memberships) (disk : NodeRecord) (s : Scene) → Walks n told v w N (site Down disk) s → Done c n told v w N (site Down disk) Comes_up s
comes_up c n told v w N disk s h =
    let t : Scene = passing n (of_node n note.Up ∷ []) s in
    let k : Walks n told v w N (site Down disk) t = outputs_walk n told v w N (site Down disk) (of_node n note.Up ∷ []) s (tt, tt) h in
    walks_at n told v w N (site Down disk) (effect c n (site Down disk) Comes_up) t (record { installed = k.here.installed; up = up_forming t.moments n (up_with n (first_valid_of c n) disk) tt (λ some own. absurd (none_below some)) refl }) k
  where
    none_below : 0 < 0 → ⊥
    none_below e = omega (arith, e)

down_does : (c : Cluster) (M : Memberships) (n : ℕ) (told : Delivered) (v w : Nodes) (N : Memberships) (disk : NodeRecord) (d : Doing) (s : Scene) → May c n told (site Down disk) d → Grows M N
    → Walks n told v w M (site Down disk) s → Done c n told v w N (site Down disk) d s
down_does c M n told v w N disk Comes_up s may g h = comes_up c n told v w N disk s (walks_grow n told v w M N (site Down disk) s g h)
down_does c M n told v w N disk (Goes_down why) s may g h = absurd may
down_does c M n told v w N disk (Does a) s may g h = absurd may
down_does c M n told v w N disk (Saves ch) s may g h = absurd may
down_does c M n told v w N disk (Loses ch why) s may g h = absurd may
down_does c M n told v w N disk (Forgets ch why) s may g h = absurd may

-- the node leads its session
abbrev pub IsLed : ℕ → Node → Type 0
IsLed n Down = Unit {0}
IsLed n (Up x) = coordinator (session_of x) ≡ n

pub doing_walks : (c : Cluster) (M : Memberships) (n : ℕ) (told : Delivered) (v w : Nodes) (N : Memberships) (x : Site) (led : Bool) (d : Doing) (s : Scene) → Holds (setting_of c) M → Known M told → SiteTied c M n x
    → May c n told x d → DoingSo d → DoingLed n told led d → (led ≡ true → IsLed n x.node) → AllFit n (gives c n x d) → Grows M N → Run (setting_of c) M (of_doing n d) N → Walks n told v w M x s
    → Done c n told v w N x d s
doing_walks c M n told v w N x led d s i known tied may so is own fits g run h = by_node x.node tied may own fits h
  where
    by_node : (node : Node) → NodeTied c M n x.disk node → May c n told (site node x.disk) d → (led ≡ true → IsLed n node) → AllFit n (gives c n (site node x.disk) d) → Walks n told v w M (site node x.disk) s
        → Done c n told v w N (site node x.disk) d s
    by_node Down t m l f k = down_does c M n told v w N x.disk d s m g k
    by_node (Up y) t m l f k = up_walks c M n told v w N x.disk y led d s (record { holds = i; known = known; tied = t }) m so is l f g run k

-- ---- it leads on

act_led : (c : Cluster) (M : Memberships) (n : ℕ) (told : Delivered) (disk : NodeRecord) (x : UpNode) (led : Bool) (a : Act) → At c M n told disk x → MayAct c n told x a → ActLed n told led a → (led ≡ true → coordinator (session_of x) ≡ n)
    → led_act led a ≡ true → coordinator (session_of (acted c n x a)) ≡ n
act_led c M n told disk x led (Hears from b) at may so h is = h is
act_led c M n told disk x led Ticks at may so h is = h is
act_led c M n told disk x led Waits at may so h is = h is
act_led c M n told disk x led (Goes_on a k) at may so h is = own_session c M n told disk x a at may.0
act_led c M n told disk x led (Ends a e) at may so h is = h is
act_led c M n told disk x led (Queues a d kind) at may so h is = if_either (λ (y : UpNode). coordinator (session_of y) ≡ n) (has a.plan.members n) _ x (h is) (h is)
act_led c M n told disk x led (Accepts kind e members d) at may so h is = h is
act_led c M n told disk x led (Takes on command a) at may so h is = h is
act_led c M n told disk x led (Stores d value a) at may so h is = h is
act_led c M n told disk x led (Writes to b) at may so h is = h is
act_led c M n told disk x led (Makes ch) at may so h is = change_led c M n told disk x ch led at may.0 so h is
act_led c M n told disk x led (Gives os) at may so h is = h is
act_led c M n told disk x led (Spreads receivers b) at may so h is = h is
act_led c M n told disk x led (Minds q p) at may so h is = h is
act_led c M n told disk x led (Hears_prepared from place p) at may so h is = h is
act_led c M n told disk x led (Dates now) at may so h is = h is
act_led c M n told disk x led (Works worker) at may so h is = h is

pub doing_led : (c : Cluster) (M : Memberships) (n : ℕ) (told : Delivered) (x : Site) (led : Bool) (d : Doing) → Holds (setting_of c) M → Known M told → SiteTied c M n x → May c n told x d → DoingLed n told led d
    → (led ≡ true → IsLed n x.node) → led_doing led d ≡ true → IsLed n (effect c n x d).node
doing_led c M n told x led d i known tied may so h is = by_node x.node d tied may so h is
  where
    by_node : (node : Node) (e : Doing) → NodeTied c M n x.disk node → May c n told (site node x.disk) e → DoingLed n told led e → (led ≡ true → IsLed n node) → led_doing led e ≡ true
        → IsLed n (effect c n (site node x.disk) e).node
    by_node Down Comes_up t m o k l = absurd (no_truth l)
    by_node Down (Goes_down why) t m o k l = tt
    by_node Down (Does a) t m o k l = tt
    by_node Down (Saves ch) t m o k l = tt
    by_node Down (Loses ch why) t m o k l = tt
    by_node Down (Forgets ch why) t m o k l = tt
    by_node (Up y) Comes_up t m o k l = absurd m
    by_node (Up y) (Goes_down why) t m o k l = tt
    by_node (Up y) (Does a) t m o k l = act_led c M n told x.disk y led a (record { holds = i; known = known; tied = t }) m o k l
    by_node (Up y) (Saves ch) t m o k l = change_led c M n told x.disk y ch led (record { holds = i; known = known; tied = t }) m o k l
    by_node (Up y) (Loses ch why) t m o k l = tt
    by_node (Up y) (Forgets ch why) t m o k l = tt
