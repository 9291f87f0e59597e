-- Each small step of a node keeps what is known of records.
use Rattle.std.specs.Prelude.{ℕ, ◌≡◌, ◌<◌, ◌++◌, ◌⊎◌, IsSome, true, false, List, [], ◌∷◌, None, Some, IfSome, length}
use Rattle.std.proofs.Common.{refl, sym, ap, subst, ◌∙◌, arith, inl, inr}
use Rattle.attempt_laws.proofs.MachineLemmas.{installs_come_first}
use Rattle.attempt_laws.proofs.Stays.{granted_stays, plan_stays}
use Rattle.ccr_commit.specs.Entries as entries
use Rattle.ccr_commit.specs.Entries.{texts_of}
use Rattle.cl_base.specs.Sets.{has}
use Rattle.cmm_attempt.proofs.Basics.{false_true, if_either}
use Rattle.cmm_attempt.specs.Attempts.{AttemptState}
use Rattle.cmm_attempt.specs.Calls.{Call, IsReached, May as May_call, installs_in, turn}
use Rattle.cmm_attempt.specs.Seizings.{held_set}
use Rattle.cmm_attempt.specs.declared.phase.Phase.TheVariants.{Installing}
use Rattle.cmm_member.specs.Nodes.{with_joined, with_valid}
use Rattle.cmm_member.specs.Records.{NodeRecord}
use Rattle.cl_base.specs.Sets.{set_without}
use Rattle.history.specs.Moment.{Moment, Told}
use Rattle.history.specs.Setting.{coordinator}
use Rattle.membership_machine.specs.Growth.{Grows}
use Rattle.membership_machine.specs.State.{Memberships}
use Rattle.node_model.specs.Attempts.{base_lines, seizing_here, starting_as}
use Rattle.node_model.specs.Entries.{unknown_lines}
use Rattle.node_model.specs.Seats.{record_of as kept_record, state_of}
use Rattle.node_model.specs.declared.cluster.Cluster.{Cluster}
use Rattle.node_model.specs.declared.node.Node.{Node}
use Rattle.node_model.specs.declared.node.Node.TheVariants.{Down, Up}
use Rattle.node_model.specs.declared.node.UpNode.{UpNode}
use Rattle.node_model.specs.declared.output.Output.{Output}
use Rattle.node_model.specs.declared.output.Output.TheVariants.{Sends, Tells}
use Rattle.cl_base.specs.declared.panic.Panic.TheVariants as panic
use Rattle.refinement.specs.Doings.{Act, Change, Doing, Site, acted, adopted_by, changed, effect, first_lines, gives, gone_line, last_lines, of_node, said, saved_lines, site, superseded_lines, write_lines}
use Rattle.refinement.specs.Doings.Act.{Accepts, Dates, Ends, Gives, Goes_on, Hears, Makes, Minds, Notes as Hears_prepared, Queues, Spreads, Stores, Takes, Ticks, Waits, Works, Writes}
use Rattle.refinement.specs.Doings.Change.{Acks, Admits, Commits, Counts, Distrusts, Installs, Leads, Prepares, Promises, Proposes, Sits, Starts}
use Rattle.refinement.specs.Doings.Doing.{Comes_up, Does, Forgets, Goes_down, Loses, Saves}
use Rattle.refinement.specs.Guards.{May, MayAct, MayChange}
use Rattle.refinement.specs.Runs.{Nodes}
use Rattle.refinement.specs.Ties.{Delivered, Known, NodeTied, SiteTied, setting_of}
use Rattle.refinement.specs.Worlds.{AllFit}
use Rattle.refinement.proofs.Attempts.{may_be_called}
use Rattle.status_report.specs.declared.attempt_entry.AttemptEntry.TheVariants as attempt_entry
use Rattle.status_report.specs.declared.entry.Entry.TheVariants as entry
use Rattle.status_report.specs.declared.node_entry.DownCause.{DownCause}
use Rattle.status_report.specs.declared.node_entry.DownCause.TheVariants as cause
use Rattle.status_report.specs.declared.node_entry.NodeEntry.TheVariants as note
use Rattle.status_report.specs.declared.start_entry.StartEntry.TheVariants as start_entry
use Rattle.seize.specs.declared.kind.SeizeKind.{SeizeKind}
use Rattle.run_history.specs.Marks.{ActSo, DoingSo}
use Rattle.run_history.specs.Noted.{Notes}
use Rattle.run_history.specs.Scenes.{Scene, passing, telling}
use Rattle.run_history.proofs.Changes.{At, at_attempt}
use Rattle.run_history.proofs.Walk.{passing_append}
use Rattle.run_messages.specs.records.Answers.{ActTold, DoingTold}
use Rattle.run_messages.specs.records.Kept.{AttemptKept, Goes, HandKept, SiteKept, UpKept, brought_by}
use Rattle.run_messages.specs.records.Losses.{ActApart, ChangeApart, DoingApart, IsLoss}
use Rattle.history.specs.Records.{own_record}
use Rattle.membership_machine.specs.Invariant.{Holds}
use Rattle.run_history.specs.Guards.{MadeAt}
use Rattle.run_messages.specs.records.Shown.{IsOf, shown}
use Rattle.run_messages.proofs.records.Begins.{leads_goes}
use Rattle.run_messages.proofs.records.Changes.{Tied, commits_goes, disk_is, prepares_goes, presides_own, promises_goes, saving, state_goes}
use Rattle.run_messages.proofs.records.Counts.{counts_goes, kept_of}
use Rattle.run_messages.proofs.records.Grow.{judged_more}
use Rattle.run_messages.proofs.records.Heard.{turn_heard}
use Rattle.run_messages.proofs.records.Joins.{installs_goes, sits_goes}
use Rattle.run_messages.proofs.records.Outputs.{AreStillLines, Ordinary, adopted_still, ended_still, lines_ordinary, minor_ordinary, ordinary_still, spread_ordinary, still_append, still_lines, superseded_still, tick_ordinary, unknown_still, write_still}
use Rattle.run_messages.proofs.records.Own.{Own, Rest, lost_record, own_lost, own_rest, rest_of, with_here}
use Rattle.run_messages.proofs.records.Presides.{acks_goes, proposed_rest, proposes_goes}
use Rattle.run_messages.proofs.records.Sends.{outputs_go, posting_goes}
use Rattle.run_messages.proofs.records.Starts.{started_scene, starts_goes}
use Rattle.run_messages.proofs.records.Still.{down_still, goes_at, goes_grow, still_goes}
use Rattle.run_messages.proofs.records.Writes.{write_send}

-- ---- the lines of a change that is saved

abbrev Done : Cluster → ℕ → Delivered → Nodes → Memberships → UpNode → Change → List Output → Scene → Type 0
Done c n told v N x ch os s = Goes n told v N (site (Up (changed c n x ch)) (kept_record (changed c n x ch))) (passing n os s)

lines_go : (n : ℕ) (told : Delivered) (v : Nodes) (N : Memberships) (y : Site) (os : List Output) (s : Scene) → AreStillLines os → Goes n told v N y s → Goes n told v N y (passing n os s)
lines_go n told v N y os s still h = outputs_go n told v N y os s (still_lines n os still) h

-- the lines of a start, one after another
start_passing : (n e members held : ℕ) (all : List (List ℕ)) (adopted : List Output) (s : Scene)
    → passing n ((Tells (entry.Start (start_entry.Started e members held (length all))) ∷ base_lines e 0 all) ++ (adopted ++ of_node n (note.Member e) ∷ [])) s ≡ started_scene n e members held all adopted s
start_passing n e members held all adopted s =
    let t : Scene = telling (entry.Start (start_entry.Started e members held (length all))) s in
    passing_append n (base_lines e 0 all) (adopted ++ of_node n (note.Member e) ∷ []) t ∙ passing_append n adopted (of_node n (note.Member e) ∷ []) (passing n (base_lines e 0 all) t)

change_goes : (c : Cluster) (M : Memberships) (n : ℕ) (told : Delivered) (v : Nodes) (N : Memberships) (disk : NodeRecord) (x : UpNode) (ch : Change) (s : Scene) → At c M n told disk x → MayChange c n told x ch → ChangeApart told ch → Grows M N
    → Tied c N n (changed c n x ch) → Goes n told v M (site (Up x) disk) s → Done c n told v N x ch (first_lines n ch ++ saved_lines c n x ch) s
change_goes c M n told v N disk x (Promises p) s at may apart g t h =
    lines_go n told v N _ (superseded_lines p x.attempt ++ unknown_lines n x.requests.waiting) (saving n s)
    (still_append (superseded_lines p x.attempt) (unknown_lines n x.requests.waiting) (superseded_still p x.attempt) (unknown_still n x.requests.waiting))
    (promises_goes c M n told v N disk x p s at may apart (goes_grow n told v M N (site (Up x) disk) s g h))
change_goes c M n told v N disk x (Leads p members) s at may apart g t h =
    lines_go n told v N _ (unknown_lines n x.requests.waiting) (telling (entry.Attempt (attempt_entry.Begun p members)) (saving n s)) (unknown_still n x.requests.waiting)
    (leads_goes c M n told v N disk x p members s at may apart h.sound t (goes_grow n told v M N (site (Up x) disk) s g h))
change_goes c M n told v N disk x (Counts a k q i) s at may apart g t h = counts_goes c M n told v N disk x a k q i s at may apart h.sound g t (goes_grow n told v M N (site (Up x) disk) s g h)
change_goes c M n told v N disk x (Installs q i) s at may apart g t h = installs_goes c M n told v N disk x q i s at may (goes_grow n told v M N (site (Up x) disk) s g h)
change_goes c M n told v N disk x (Starts a k q) s at may apart g t h =
    let p : AttemptState = (turn a k).after in
    let adopted : List Output = adopted_by c p (starting_as c n x p q) in
    subst (λ z. Goes n told v N (site (Up (changed c n x (Starts a k q))) (kept_record (changed c n x (Starts a k q)))) z)
    (sym (start_passing n p.plan.epoch p.plan.members (held_set p.devices) (entries.all_committed q.saved.entries).committed adopted (saving n s)))
    (starts_goes c M n told v N disk x a k q adopted s true at may apart h.sound g t (adopted_still c p (starting_as c n x p q)) (goes_grow n told v M N (site (Up x) disk) s g h))
change_goes c M n told v N disk x (Sits q e) s at may apart g t h = sits_goes c M n told v N disk x q e s true at may apart t (goes_grow n told v M N (site (Up x) disk) s g h)
change_goes c M n told v N disk x (Distrusts d) s at may apart g t h =
    state_goes c M n told v N disk x (changed c n x (Distrusts d)) (with_valid (state_of x.seat) (set_without (kept_record x).valid d)) s at apart refl refl refl refl refl (goes_grow n told v M N (site (Up x) disk) s g h)
change_goes c M n told v N disk x (Admits on command a d) s at may apart g t h =
    let t0 : Scene = passing n (first_lines n (Admits on command a d)) s in
    state_goes c M n told v N disk x (changed c n x (Admits on command a d)) (with_joined (state_of x.seat) d) t0 at apart refl refl refl refl refl
    (lines_go n told v N (site (Up x) disk) (first_lines n (Admits on command a d)) s (tt, tt) (goes_grow n told v M N (site (Up x) disk) s g h))
change_goes c M n told v N disk x (Proposes q p text) s at may apart g t h = proposes_goes c M n told v N disk x q p text s at may apart t (goes_grow n told v M N (site (Up x) disk) s g h)
change_goes c M n told v N disk x (Acks q p queue left text) s at may apart g t h = acks_goes c M n told v N disk x q p left queue text s at may apart t (goes_grow n told v M N (site (Up x) disk) s g h)
change_goes c M n told v N disk x (Prepares q text) s at may apart g t h = prepares_goes c M n told v N disk x q text s at may t (goes_grow n told v M N (site (Up x) disk) s g h)
change_goes c M n told v N disk x (Commits q) s at may apart g t h = commits_goes c M n told v N disk x q s at may t (goes_grow n told v M N (site (Up x) disk) s g h)

-- ---- a node goes down

down_site : (M : Memberships) (ms : List Moment) (n : ℕ) (x : Site) → SiteKept M ms n x → SiteKept M ms n (site Down x.disk)
down_site M ms n x h = record { record_so = h.record_so; installed = h.installed; up = tt }

lost_line : (n : ℕ) (told : Delivered) (v : Nodes) (N : Memberships) (kept : NodeRecord) (why : DownCause) (s : Scene) → IsLoss why → Rest n told v N s → Goes n told v N (site Down kept) (passing n (gone_line n why) s)
lost_line n told v N kept why s loss h =
    let o : Own n s.moments (Told (entry.Node n (note.Down why))) = own_lost n s.moments why loss in
    with_here n told v N (site Down kept) (telling (entry.Node n (note.Down why)) s) (own_rest n told v N s (entry.Node n (note.Down why)) o (judged_more s.moments (Told (entry.Node n (note.Down why))) tt tt refl h.judged) h)
    (record {
      record_so = subst (λ z. IfSome z (λ r. r ≡ shown kept)) (sym (lost_record n s.moments why loss).0) tt;
      installed = subst (λ z. IfSome z (λ f. f ≡ kept.installed)) (sym (lost_record n s.moments why loss).1) tt;
      up = tt;
    })

plain_down : (n : ℕ) (told : Delivered) (v : Nodes) (N : Memberships) (x : Site) (why : DownCause) (s : Scene) → (IsLoss why → ⊥) → Goes n told v N x s → Goes n told v N (site Down x.disk) (passing n (gone_line n why) s)
plain_down n told v N x why s other h =
    still_goes n told v N (site Down x.disk) s (entry.Node n (note.Down why)) (down_still s.moments n why other) (goes_at n told v N x (site Down x.disk) s (down_site N s.moments n x h.here) h)

down_goes : (n : ℕ) (told : Delivered) (v : Nodes) (N : Memberships) (x : Site) (why : DownCause) (s : Scene) → Goes n told v N x s → Goes n told v N (site Down x.disk) (passing n (gone_line n why) s)
down_goes n told v N x cause.Crash s h = plain_down n told v N x cause.Crash s (λ e. e) h
down_goes n told v N x cause.Stopped s h = lost_line n told v N x.disk cause.Stopped s tt (rest_of n told v N x s h)
down_goes n told v N x (cause.Panic panic.Disk) s h = lost_line n told v N x.disk (cause.Panic panic.Disk) s tt (rest_of n told v N x s h)
down_goes n told v N x (cause.Panic (panic.Fenced d)) s h = plain_down n told v N x (cause.Panic (panic.Fenced d)) s (λ e. e) h
down_goes n told v N x (cause.Panic (panic.Excluded e)) s h = plain_down n told v N x (cause.Panic (panic.Excluded e)) s (λ e. e) h
down_goes n told v N x (cause.Panic (panic.Stop name)) s h = plain_down n told v N x (cause.Panic (panic.Stop name)) s (λ e. e) h

-- the lines before a save that is lost
first_rest : (c : Cluster) (M : Memberships) (n : ℕ) (told : Delivered) (v : Nodes) (N : Memberships) (disk : NodeRecord) (x : UpNode) (ch : Change) (s : Scene) → At c M n told disk x → MayChange c n told x ch → Goes n told v N (site (Up x) disk) s
    → Rest n told v N (passing n (first_lines n ch) s)
first_rest c M n told v N disk x (Proposes q p text) s at may h = proposed_rest n told v N q text s (presides_own c M n told disk x q p at may.0 may.1) (rest_of n told v N (site (Up x) disk) s h)
first_rest c M n told v N disk x (Admits on command a d) s at may h =
    rest_of n told v N (site (Up x) disk) (passing n (first_lines n (Admits on command a d)) s) (lines_go n told v N (site (Up x) disk) (first_lines n (Admits on command a d)) s (tt, tt) h)
first_rest c M n told v N disk x (Promises p) s at may h = rest_of n told v N (site (Up x) disk) s h
first_rest c M n told v N disk x (Leads p members) s at may h = rest_of n told v N (site (Up x) disk) s h
first_rest c M n told v N disk x (Counts a k q i) s at may h = rest_of n told v N (site (Up x) disk) s h
first_rest c M n told v N disk x (Installs q i) s at may h = rest_of n told v N (site (Up x) disk) s h
first_rest c M n told v N disk x (Starts a k q) s at may h = rest_of n told v N (site (Up x) disk) s h
first_rest c M n told v N disk x (Sits q e) s at may h = rest_of n told v N (site (Up x) disk) s h
first_rest c M n told v N disk x (Distrusts d) s at may h = rest_of n told v N (site (Up x) disk) s h
first_rest c M n told v N disk x (Acks q p queue left text) s at may h = rest_of n told v N (site (Up x) disk) s h
first_rest c M n told v N disk x (Prepares q text) s at may h = rest_of n told v N (site (Up x) disk) s h
first_rest c M n told v N disk x (Commits q) s at may h = rest_of n told v N (site (Up x) disk) s h

lost_goes : (c : Cluster) (M : Memberships) (n : ℕ) (told : Delivered) (v : Nodes) (N : Memberships) (disk kept : NodeRecord) (x : UpNode) (ch : Change) (why : DownCause) (s : Scene) → At c M n told disk x → MayChange c n told x ch → IsLoss why
    → Goes n told v N (site (Up x) disk) s → Goes n told v N (site Down kept) (passing n (first_lines n ch ++ gone_line n why) s)
lost_goes c M n told v N disk kept x ch why s at may loss h =
    subst (λ z. Goes n told v N (site Down kept) z) (sym (passing_append n (first_lines n ch) (gone_line n why) s))
    (lost_line n told v N kept why (passing n (first_lines n ch) s) loss (first_rest c M n told v N disk x ch s at may h))

-- ---- acts

abbrev Acted : Cluster → ℕ → Delivered → Nodes → Memberships → NodeRecord → UpNode → Act → Scene → Type 0
Acted c n told v N disk x a s = Goes n told v N (site (Up (acted c n x a)) disk) (passing n (said c n x a) s)

-- the node has gone on with the same record, and gives what shows none
given_goes : (n : ℕ) (told : Delivered) (v : Nodes) (N : Memberships) (disk : NodeRecord) (x y : UpNode) (os : List Output) (s : Scene) → AllFit n os → Ordinary os → (UpKept N s.moments n x → UpKept N s.moments n y)
    → Goes n told v N (site (Up x) disk) s → Goes n told v N (site (Up y) disk) (passing n os s)
given_goes n told v N disk x y os s fits ordinary next h =
    outputs_go n told v N (site (Up y) disk) os s (ordinary_still n os fits ordinary)
    (goes_at n told v N (site (Up x) disk) (site (Up y) disk) s (record { record_so = h.here.record_so; installed = h.here.installed; up = next h.here.up }) h)

queued_kept : (c : Cluster) (n : ℕ) (x : UpNode) (d : ℕ) (kind : SeizeKind) (a : AttemptState) (N : Memberships) (ms : List Moment) → UpKept N ms n x → UpKept N ms n (seizing_here c n x d kind (Some a))
queued_kept c n x d kind a N ms h = if_either (λ (y : UpNode). UpKept N ms n y) (has a.plan.members n) _ x (record { attempt = h.attempt; seat = h.seat }) h

-- its attempt takes a call, and installs nothing
installing_before : (a : AttemptState) (k : Call) → IsReached a → May_call a k → installs_in (turn a k).steps ≡ None → (turn a k).after.phase ≡ Installing → a.phase ≡ Installing
installing_before a k reached may none is = by_cases (installs_come_first a k reached may is)
  where
    by_cases : (a.phase ≡ Installing) ⊎ IsSome (installs_in (turn a k).steps) → a.phase ≡ Installing
    by_cases (inl was) = was
    by_cases (inr some) = absurd (false_true (subst (λ o. IsSome o) none some))

first_at : (N : Memberships) (ms : List Moment) (n e f : ℕ) → f ≡ e → IfSome (own_record e ms) (λ o. IsOf o ((N.node n).showed e)) → IfSome (own_record f ms) (λ o. IsOf o ((N.node n).showed f))
first_at N ms n e f is h = subst (λ z. IfSome (own_record z ms) (λ o. IsOf o ((N.node n).showed z))) (sym is) h

going_kept : (c : Cluster) (M : Memberships) (n : ℕ) (told : Delivered) (N : Memberships) (disk : NodeRecord) (x : UpNode) (a : AttemptState) (k : Call) (ms : List Moment) → At c M n told disk x → MayAct c n told x (Goes_on a k) → HandKept ms n told
    → UpKept N ms n x → UpKept N ms n (acted c n x (Goes_on a k))
going_kept c M n told N disk x a k ms at may hand h =
    at_attempt c M n told disk x a (UpKept N ms n (acted c n x (Goes_on a k))) at may.0 (λ q shows co.
    let old : AttemptKept N ms n (kept_record x) a = kept_of N ms n (kept_record x) x.attempt a may.0 h.attempt in
    let call : May_call a k = may_be_called c told a k may.1 in
    let same : (turn a k).after.plan.epoch ≡ a.plan.epoch = ap (λ p. p.epoch) (plan_stays a k call) in
    record {
      attempt = record {
        own = ap coordinator same ∙ old.own;
        first = first_at N ms n a.plan.epoch (turn a k).after.plan.epoch same old.first;
        answered = subst (λ e. (N.node n).answered e ≡ true) (sym same) old.answered;
        heard = turn_heard c ms n M q told a k at.holds shows at.known hand co may.1 old.heard;
        epoch = λ is. old.epoch (installing_before a k co.reached call may.2 is) ∙ ap Some (sym same);
        installs = λ is. old.installs (installing_before a k co.reached call may.2 is) ∙ ap brought_by (sym (granted_stays a k call (installing_before a k co.reached call may.2 is)));
      };
      seat = h.seat;
    })

-- a start whose record was saved with its install
made_goes : (c : Cluster) (M : Memberships) (n : ℕ) (told : Delivered) (v : Nodes) (N : Memberships) (disk : NodeRecord) (x : UpNode) (ch : Change) (s : Scene) → At c M n told disk x → MayChange c n told x ch → MadeAt ch → ChangeApart told ch → Grows M N
    → Tied c N n (changed c n x ch) → Goes n told v M (site (Up x) disk) s → Done c n told v N x ch (first_lines n ch ++ last_lines c n x ch) s
made_goes c M n told v N disk x (Starts a k q) s at may made apart g t h =
    let p : AttemptState = (turn a k).after in
    let adopted : List Output = adopted_by c p (starting_as c n x p q) in
    subst (λ z. Goes n told v N (site (Up (changed c n x (Starts a k q))) (kept_record (changed c n x (Starts a k q)))) z)
    (sym (start_passing n p.plan.epoch p.plan.members (held_set p.devices) (entries.all_committed q.saved.entries).committed adopted s))
    (starts_goes c M n told v N disk x a k q adopted s false at may apart h.sound g t (adopted_still c p (starting_as c n x p q)) (goes_grow n told v M N (site (Up x) disk) s g h))
made_goes c M n told v N disk x (Sits q e) s at may made apart g t h = sits_goes c M n told v N disk x q e s false at may apart t (goes_grow n told v M N (site (Up x) disk) s g h)
made_goes c M n told v N disk x (Promises p) s at may made apart g t h = absurd made
made_goes c M n told v N disk x (Leads p members) s at may made apart g t h = absurd made
made_goes c M n told v N disk x (Counts a k q i) s at may made apart g t h = absurd made
made_goes c M n told v N disk x (Installs q i) s at may made apart g t h = absurd made
made_goes c M n told v N disk x (Distrusts d) s at may made apart g t h = absurd made
made_goes c M n told v N disk x (Admits on command a d) s at may made apart g t h = absurd made
made_goes c M n told v N disk x (Proposes q p text) s at may made apart g t h = absurd made
made_goes c M n told v N disk x (Acks q p queue left text) s at may made apart g t h = absurd made
made_goes c M n told v N disk x (Prepares q text) s at may made apart g t h = absurd made
made_goes c M n told v N disk x (Commits q) s at may made apart g t h = absurd made

act_goes : (c : Cluster) (M : Memberships) (n : ℕ) (told : Delivered) (v : Nodes) (N : Memberships) (disk : NodeRecord) (x : UpNode) (a : Act) (s : Scene) → At c M n told disk x → Notes s.moments n (site (Up x) disk) → MayAct c n told x a → ActSo a
    → ActTold told x a → ActApart told a → AllFit n (said c n x a) → Grows M N → NodeTied c N n disk (Up (acted c n x a)) → Holds (setting_of c) N → Goes n told v M (site (Up x) disk) s → Acted c n told v N disk x a s
act_goes c M n told v N disk x a s at noted may so tells apart fits g tied holds h = by_act a may so tells apart fits tied
  where
    now : Goes n told v N (site (Up x) disk) s
    now = goes_grow n told v M N (site (Up x) disk) s g h

    same : UpKept N s.moments n x → UpKept N s.moments n x
    same k = k

    by_act : (b : Act) → MayAct c n told x b → ActSo b → ActTold told x b → ActApart told b → AllFit n (said c n x b) → NodeTied c N n disk (Up (acted c n x b)) → Acted c n told v N disk x b s
    by_act (Hears from b) m o l p f t = given_goes n told v N disk x (acted c n x (Hears from b)) [] s f tt (λ k. record { attempt = k.attempt; seat = k.seat }) now
    by_act Ticks m o l p f t = given_goes n told v N disk x (acted c n x Ticks) (said c n x Ticks) s f (tt, tick_ordinary c x) (λ k. record { attempt = k.attempt; seat = k.seat }) now
    by_act Waits m o l p f t = given_goes n told v N disk x (acted c n x Waits) [] s f tt (λ k. record { attempt = k.attempt; seat = k.seat }) now
    by_act (Goes_on b k) m o l p f t = given_goes n told v N disk x (acted c n x (Goes_on b k)) [] s f tt (λ q. going_kept c M n told N disk x b k s.moments at m h.hand q) now
    by_act (Ends b e) m o l p f t = given_goes n told v N disk x (acted c n x (Ends b e)) (said c n x (Ends b e)) s f (ended_still b.plan.epoch e, tt) (λ k. record { attempt = tt; seat = k.seat }) now
    by_act (Queues b d kind) m o l p f t = given_goes n told v N disk x (acted c n x (Queues b d kind)) [] s f tt (λ k. queued_kept c n x d kind b N s.moments k) now
    by_act (Accepts kind e members d) m o l p f t = given_goes n told v N disk x (acted c n x (Accepts kind e members d)) [] s f tt (λ k. record { attempt = k.attempt; seat = k.seat }) now
    by_act (Takes on command b) m o l p f t = given_goes n told v N disk x (acted c n x (Takes on command b)) (said c n x (Takes on command b)) s f (tt, tt) (λ k. record { attempt = k.attempt; seat = k.seat }) now
    by_act (Stores d value b) m o l p f t = given_goes n told v N disk x x (said c n x (Stores d value b)) s f (tt, lines_ordinary (write_lines n x d value b) (write_still n x d value b)) same now
    by_act (Writes to b) m o l p f t =
        goes_grow n told v M N (site (Up x) disk) (passing n (Sends to b ∷ []) s) g
        (posting_goes n told v M (site (Up x) disk) s to b f.1 (write_send c M n told disk x s.moments to b at noted.up h.sound h.hand h.here m l) h)
    by_act (Gives os) m o l p f t = given_goes n told v N disk x x os s f (minor_ordinary os o m) same now
    by_act (Spreads receivers b) m o l p f t = given_goes n told v N disk x x (said c n x (Spreads receivers b)) s f (spread_ordinary receivers b l) same now
    by_act (Minds q r) m o l p f t = given_goes n told v N disk x (acted c n x (Minds q r)) [] s f tt (λ k. record { attempt = k.attempt; seat = k.seat }) now
    by_act (Hears_prepared from place r) m o l p f t = given_goes n told v N disk x (acted c n x (Hears_prepared from place r)) [] s f tt (λ k. record { attempt = k.attempt; seat = k.seat }) now
    by_act (Dates second) m o l p f t = given_goes n told v N disk x (acted c n x (Dates second)) [] s f tt (λ k. record { attempt = k.attempt; seat = k.seat }) now
    by_act (Works worker) m o l p f t = given_goes n told v N disk x (acted c n x (Works worker)) [] s f tt (λ k. record { attempt = k.attempt; seat = k.seat }) now
    by_act (Makes ch) m o l p f t =
        let kept : kept_record (changed c n x ch) ≡ disk = m.1 ∙ disk_is c M n told disk x at in
        subst (λ r. Goes n told v N (site (Up (changed c n x ch)) r) (passing n (first_lines n ch ++ last_lines c n x ch) s)) kept
        (made_goes c M n told v N disk x ch s at m.0 l p g (record { holds = holds; tied = subst (λ r. NodeTied c N n r (Up (changed c n x ch))) (sym kept) t }) h)

-- ---- small steps

abbrev Went : Cluster → ℕ → Delivered → Nodes → Memberships → Site → Doing → Scene → Type 0
Went c n told v N x d s = Goes n told v N (effect c n x d) (passing n (gives c n x d) s)

up_goes : (c : Cluster) (M : Memberships) (n : ℕ) (told : Delivered) (v : Nodes) (N : Memberships) (disk : NodeRecord) (x : UpNode) (d : Doing) (s : Scene) → At c M n told disk x → Notes s.moments n (site (Up x) disk)
    → May c n told (site (Up x) disk) d → DoingSo d → DoingTold told (site (Up x) disk) d → DoingApart told d → AllFit n (gives c n (site (Up x) disk) d) → Grows M N → SiteTied c N n (effect c n (site (Up x) disk) d) → Holds (setting_of c) N
    → Goes n told v M (site (Up x) disk) s → Went c n told v N (site (Up x) disk) d s
up_goes c M n told v N disk x Comes_up s at noted may so tells apart fits g tied holds h = absurd may
up_goes c M n told v N disk x (Goes_down why) s at noted may so tells apart fits g tied holds h = down_goes n told v N (site (Up x) disk) why s (goes_grow n told v M N (site (Up x) disk) s g h)
up_goes c M n told v N disk x (Does a) s at noted may so tells apart fits g tied holds h = act_goes c M n told v N disk x a s at noted may so tells apart fits g tied holds h
up_goes c M n told v N disk x (Saves ch) s at noted may so tells apart fits g tied holds h = change_goes c M n told v N disk x ch s at may apart g (record { holds = holds; tied = tied }) h
up_goes c M n told v N disk x (Loses ch why) s at noted may so tells apart fits g tied holds h = lost_goes c M n told v N disk (kept_record (changed c n x ch)) x ch why s at may apart (goes_grow n told v M N (site (Up x) disk) s g h)
up_goes c M n told v N disk x (Forgets ch why) s at noted may so tells apart fits g tied holds h = lost_goes c M n told v N disk disk x ch why s at may apart (goes_grow n told v M N (site (Up x) disk) s g h)

comes_up : (c : Cluster) (n : ℕ) (told : Delivered) (v : Nodes) (N : Memberships) (disk : NodeRecord) (s : Scene) → Goes n told v N (site Down disk) s → Went c n told v N (site Down disk) Comes_up s
comes_up c n told v N disk s h =
    let t : Scene = passing n (of_node n note.Up ∷ []) s in
    let k : Goes n told v N (site Down disk) t = lines_go n told v N (site Down disk) (of_node n note.Up ∷ []) s (tt, tt) h in
    goes_at n told v N (site Down disk) (effect c n (site Down disk) Comes_up) t
    (record { record_so = k.here.record_so; installed = k.here.installed; up = record { attempt = tt; seat = λ some same other. absurd (none_below some) } }) k
  where
    none_below : 0 < 0 → ⊥
    none_below e = grind arith

pub doing_goes : (c : Cluster) (M : Memberships) (n : ℕ) (told : Delivered) (v : Nodes) (N : Memberships) (x : Site) (d : Doing) (s : Scene) → Holds (setting_of c) M → Known M told → SiteTied c M n x → Notes s.moments n x
    → May c n told x d → DoingSo d → DoingTold told x d → DoingApart told d → AllFit n (gives c n x d) → Grows M N → SiteTied c N n (effect c n x d) → Holds (setting_of c) N → Goes n told v M x s → Went c n told v N x d s
doing_goes c M n told v N x d s i known tied noted may so tells apart fits g after holds h = by_node x.node d tied noted may so tells apart fits after h
  where
    by_node : (node : Node) (e : Doing) → NodeTied c M n x.disk node → Notes s.moments n (site node x.disk) → May c n told (site node x.disk) e → DoingSo e → DoingTold told (site node x.disk) e → DoingApart told e → AllFit n (gives c n (site node x.disk) e)
        → SiteTied c N n (effect c n (site node x.disk) e) → Goes n told v M (site node x.disk) s → Went c n told v N (site node x.disk) e s
    by_node Down Comes_up t ns m o l p f a k = comes_up c n told v N x.disk s (goes_grow n told v M N (site Down x.disk) s g k)
    by_node Down (Goes_down why) t ns m o l p f a k = absurd m
    by_node Down (Does act) t ns m o l p f a k = absurd m
    by_node Down (Saves ch) t ns m o l p f a k = absurd m
    by_node Down (Loses ch why) t ns m o l p f a k = absurd m
    by_node Down (Forgets ch why) t ns m o l p f a k = absurd m
    by_node (Up y) e t ns m o l p f a k = up_goes c M n told v N x.disk y e s (record { holds = i; known = known; tied = t }) ns m o l p f g a holds k
