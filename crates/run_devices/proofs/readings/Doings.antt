-- Each small step of a node, and all of a step.
use Rattle.std.specs.Prelude.{All, List, None, [], false, nat_le, true, ℕ, ◌++◌, ◌<◌, ◌==◌, ◌∷◌, ◌≡◌, ◌≤◌}
use Rattle.std.specs.List.{list_any}
use Rattle.std.proofs.Common.{arith, refl, subst, sym, ◌∙◌}
use Rattle.attempt_laws.specs.Asking.{numbers_of}
use Rattle.cl_base.specs.declared.header.Header.{Header}
use Rattle.cmm_attempt.specs.Calls.{IsDevice}
use Rattle.cmm_member.specs.Records.{NodeRecord}
use Rattle.history.specs.Contact.{AttemptsDiffer}
use Rattle.history.specs.Member as member
use Rattle.history.specs.Moment.{Moment, Told}
use Rattle.history.specs.Seizing.{is_attempt, progress_of}
use Rattle.membership_machine.specs.Invariant.{Holds}
use Rattle.membership_machine.specs.State.{Memberships}
use Rattle.node_model.specs.Devices.{answer_told}
use Rattle.node_model.specs.Entries.{unknown_lines}
use Rattle.node_model.specs.Seats.{record_of}
use Rattle.node_model.specs.declared.cluster.Cluster.{Cluster}
use Rattle.node_model.specs.declared.node.Node.{Node}
use Rattle.node_model.specs.declared.node.Node.TheVariants.{Down, Up}
use Rattle.node_model.specs.declared.node.UpNode.{UpNode}
use Rattle.node_model.specs.declared.output.Output.{Output}
use Rattle.refinement.proofs.Acts.{does_one}
use Rattle.refinement.proofs.Changes.{sees}
use Rattle.refinement.proofs.Ties.{known_stays}
use Rattle.refinement.specs.Doings.{Act, Change, Doing, Site, after_all, changed, effect, first_lines, given_all, gives, gone_line, last_lines, of_node, said, site}
use Rattle.refinement.specs.Doings.Act.{Accepts, Dates, Ends, Gives, Goes_on, Hears, Makes, Minds, Notes, Queues, Spreads, Stores, Takes, Ticks, Waits, Works, Writes}
use Rattle.refinement.specs.Doings.Change.{Acks, Admits, Commits, Counts, Distrusts, Installs, Leads, Prepares, Promises, Proposes, Sits, Starts}
use Rattle.refinement.specs.Doings.Doing.{Comes_up, Does, Forgets, Goes_down, Loses, Saves}
use Rattle.refinement.specs.Events.{of_doing}
use Rattle.refinement.specs.Guards.{May, MayAct, MayAll}
use Rattle.refinement.specs.Runs.{Nodes}
use Rattle.refinement.specs.Ties.{Delivered, GoesOn, Known, NodeTied, SiteTied, setting_of}
use Rattle.refinement.specs.Worlds.{AllFit}
use Rattle.run_history.proofs.Walk.{passing_append}
use Rattle.run_history.proofs.WholeSteps.{hand_all}
use Rattle.run_history.specs.Guards.{Hand, MadeAt, hand_after}
use Rattle.run_history.specs.Marks.{ActSo, AllSo, DoingSo}
use Rattle.run_history.specs.Scenes.{Scene, passing, telling}
use Rattle.status_report.specs.declared.attempt_entry.AttemptEntry.TheVariants as attempt_entry
use Rattle.status_report.specs.declared.device_entry.DeviceEntry.TheVariants as device_entry
use Rattle.status_report.specs.declared.entry.Entry.{Entry}
use Rattle.status_report.specs.declared.entry.Entry.TheVariants as entry
use Rattle.status_report.specs.declared.node_entry.DownCause.{DownCause}
use Rattle.status_report.specs.declared.node_entry.NodeEntry.TheVariants as note
use Rattle.run_seizings.proofs.Acts.{ActMay}
use Rattle.run_seizings.proofs.Asked.{AllMay, DoingMay}
use Rattle.run_seizings.proofs.Changes.{IsPromise, mid, session_low}
use Rattle.run_seizings.proofs.Progress.{if_so, same_is}
use Rattle.run_seizings.proofs.Promising.{ChangeMay}
use Rattle.run_seizings.proofs.Stays.{is_installed_stays}
use Rattle.run_devices.proofs.readings.Acts.{NoChange, act_goes, own_command}
use Rattle.run_devices.proofs.readings.Unseen.{line_unseen}
use Rattle.run_devices.proofs.readings.ChangeLines.{change_goes}
use Rattle.run_devices.proofs.readings.Changes.{fit_parts}
use Rattle.run_devices.proofs.readings.Goes.{Goes, goes_at, line_goes, mild_goes}
use Rattle.run_devices.proofs.readings.Promising.{Step, below, left_begun}
use Rattle.run_devices.specs.readings.Sites.{SiteSo}
use Rattle.run_devices.proofs.readings.Earlier.{differ_before, rises_so}
use Rattle.run_devices.specs.readings.Readings.{AreInOrder}

-- ---- a node goes down, or comes up

at_most : (a b d : ℕ) → a ≤ b → b ≤ d → a ≤ d
at_most a b d l m = omega (arith, l, m)

down_site : (h : Header) (ms : List Moment) (n : ℕ) (x : UpNode) (disk new : NodeRecord) → disk.promised ≤ new.promised → SiteSo h ms n (site (Up x) disk)
    → SiteSo h ms n (site Down new)
down_site h ms n x disk new rises k = record {
  low = λ e is. at_most e disk.promised new.promised (k.low e is) rises;
  first = k.first;
  unseen = λ e d above. k.unseen e d (below disk.promised new.promised e rises above);
  up = tt;
}

gone_goes : (h : Header) (n : ℕ) (told : Delivered) (v w : Nodes) (disk : NodeRecord) (why : DownCause) (g : Hand) (s : Scene)
    → Goes h n told v w (site Down disk) g s → Goes h n told v w (site Down disk) g (passing n (gone_line n why) s)
gone_goes h n told v w disk why g s k =
    line_goes h n told v w (site Down disk) (site Down disk) g s (entry.Node n (note.Down why)) tt (λ j ne same. ne (sym same)) tt
    (record {
      low = k.here.low;
      first = λ e is. is_installed_stays s.moments (Told (entry.Node n (note.Down why))) e (k.here.first e is);
      unseen = λ e d above. left_begun (n == n) (progress_of h n e d s.moments) (k.here.unseen e d above);
      up = tt;
    }) k

-- it goes down with this record, after what is told before its save
first_goes : (h : Header) (c : Cluster) (M : Memberships) (n : ℕ) (told : Delivered) (v w : Nodes) (disk new : NodeRecord) (x : UpNode) (ch : Change) (why : DownCause)
    (g : Hand) (s : Scene) → Step h c M n told disk x → disk.promised ≤ new.promised → Goes h n told v w (site (Up x) disk) g s
    → Goes h n told v w (site Down new) g (passing n (first_lines n ch ++ gone_line n why) s)
first_goes h c M n told v w disk new x ch why g s step rises k = by_change ch
  where
    falls : (t : Scene) → Goes h n told v w (site (Up x) disk) g t → Goes h n told v w (site Down new) g (passing n (gone_line n why) t)
    falls t l = gone_goes h n told v w new why g t
        (goes_at h n told v w (site (Up x) disk) (site Down new) g g t (down_site h t.moments n x disk new rises l.here) l.turn l)

    by_change : (ch : Change) → Goes h n told v w (site Down new) g (passing n (first_lines n ch ++ gone_line n why) s)
    by_change (Admits on command a d) =
        let z : Entry = entry.Device (device_entry.Command n on command (answer_told a)) in
        gone_goes h n told v w new why g (telling z s)
        (line_goes h n told v w (site (Up x) disk) (site Down new) g s z tt (λ j ne. own_command j n command ne) tt
        (record {
          low = λ e is. at_most e disk.promised new.promised (k.here.low e is) rises;
          first = λ e is. is_installed_stays s.moments (Told z) e (k.here.first e is);
          unseen = λ e j above. line_unseen h s.moments n on e j disk.promised x command (answer_told a) k.here.up (session_low c M n told disk x step.at)
              (below disk.promised new.promised e rises above) (k.here.unseen e j (below disk.promised new.promised e rises above));
          up = tt;
        }) k)
    by_change (Proposes y p text) = falls _ (mild_goes h n told v w (site (Up x) disk) g s _ tt k)
    by_change (Promises p) = falls s k
    by_change (Leads p members) = falls s k
    by_change (Counts a q y i) = falls s k
    by_change (Installs y i) = falls s k
    by_change (Starts a q y) = falls s k
    by_change (Sits y e) = falls s k
    by_change (Distrusts d) = falls s k
    by_change (Acks y p q left text) = falls s k
    by_change (Prepares y text) = falls s k
    by_change (Commits y) = falls s k

comes_up : (h : Header) (c : Cluster) (n : ℕ) (told : Delivered) (v w : Nodes) (disk : NodeRecord) (g : Hand) (s : Scene) → Goes h n told v w (site Down disk) g s
    → Goes h n told v w (effect c n (site Down disk) Comes_up) g (passing n (of_node n note.Up ∷ []) s)
comes_up h c n told v w disk g s k =
    line_goes h n told v w (site Down disk) (effect c n (site Down disk) Comes_up) g s (entry.Node n note.Up) tt (λ j ne same. ne (sym same)) tt
    (record {
      low = k.here.low;
      first = λ e is. is_installed_stays s.moments (Told (entry.Node n note.Up)) e (k.here.first e is);
      unseen = k.here.unseen;
      up = record {
        session = λ some. absurd (none_below some);
        outside = λ is. if_so (n == n) None (member.session_of n s.moments) (same_is n);
        tasks = λ none. tt;
        read = λ some none. absurd (none_below some);
        attempt = tt;
      };
    }) k
  where
    none_below : 0 < 0 → ⊥
    none_below e = omega (arith, e)

-- ---- each small step

act_or : (a : Act) (P : Type 0) → ((ch : Change) → a ≡ Makes ch → P) → (NoChange a → P) → P
act_or (Makes change) P f g = f change refl
act_or (Hears from b) P f g = g tt
act_or Ticks P f g = g tt
act_or Waits P f g = g tt
act_or (Goes_on a k) P f g = g tt
act_or (Ends a e) P f g = g tt
act_or (Queues a d kind) P f g = g tt
act_or (Accepts kind e members d) P f g = g tt
act_or (Takes at command a) P f g = g tt
act_or (Stores d value a) P f g = g tt
act_or (Writes to b) P f g = g tt
act_or (Gives os) P f g = g tt
act_or (Spreads receivers b) P f g = g tt
act_or (Minds q p) P f g = g tt
act_or (Notes from place p) P f g = g tt
act_or (Dates now) P f g = g tt
act_or (Works w) P f g = g tt

made_may : (h : Header) (x : UpNode) (ch : Change) → MadeAt ch → ChangeMay h x ch
made_may h x (Starts a q y) made = tt
made_may h x (Sits y e) made = tt
made_may h x (Promises p) made = absurd made
made_may h x (Leads p members) made = absurd made
made_may h x (Counts a q y i) made = absurd made
made_may h x (Installs y i) made = absurd made
made_may h x (Distrusts d) made = absurd made
made_may h x (Admits on command a d) made = absurd made
made_may h x (Proposes y p text) made = absurd made
made_may h x (Acks y p q left text) made = absurd made
made_may h x (Prepares y text) made = absurd made
made_may h x (Commits y) made = absurd made

no_promise : (ch : Change) → MadeAt ch → IsPromise ch → ⊥
no_promise (Promises p) made is = made
no_promise (Leads p members) made is = is
no_promise (Counts a q y i) made is = is
no_promise (Installs y i) made is = is
no_promise (Starts a q y) made is = is
no_promise (Sits y e) made is = is
no_promise (Distrusts d) made is = is
no_promise (Admits on command a d) made is = is
no_promise (Proposes y p text) made is = is
no_promise (Acks y p q left text) made is = is
no_promise (Prepares y text) made is = is
no_promise (Commits y) made is = is

no_leads : (ch : Change) (p members : ℕ) → MadeAt ch → ch ≡ Leads p members → ⊥
no_leads ch p members made is = subst MadeAt is made

no_truth : false ≡ true → ⊥
no_truth e = cc

abbrev pub Done : Header → Cluster → ℕ → Delivered → Nodes → Nodes → Site → Hand → Doing → Scene → Type 0
Done h c n told v w x g d s = Goes h n told v w (effect c n x d) (hand_after g d) (passing n (gives c n x d) s)

no_less : (a : ℕ) → a ≤ a
no_less a = omega arith

act_done : (h : Header) (c : Cluster) (M : Memberships) (n : ℕ) (told : Delivered) (v w : Nodes) (disk : NodeRecord) (x : UpNode) (g : Hand) (a : Act)
    (s : Scene) → Step h c M n told disk x → MayAct c n told x a → ActSo a
    → ActMay h n told g x a → AllFit n (said c n x a) → Goes h n told v w (site (Up x) disk) g s → Done h c n told v w (site (Up x) disk) g (Does a) s
act_done h c M n told v w disk x g a s step may so guard fit k = act_or a (Goal a) (λ ch is. subst Goal (sym is) (λ m o e f. makes ch m e f))
    (λ none m o e f. act_goes h c M n told v w disk x g a s step.id step.low step.at m o e none f k) may so guard fit
  where
    Goal : Act → Type 0
    Goal b = MayAct c n told x b → ActSo b → ActMay h n told g x b → AllFit n (said c n x b) → Done h c n told v w (site (Up x) disk) g (Does b) s

    makes : (ch : Change) → MayAct c n told x (Makes ch) → MadeAt ch → AllFit n (said c n x (Makes ch)) → Done h c n told v w (site (Up x) disk) g (Does (Makes ch)) s
    makes ch m made f =
        let same : record_of (changed c n x ch) ≡ disk = m.1 ∙ sym (sees c M n disk x.attempt x.seat step.at.tied.0).disk_so in
        subst (λ r. Goes h n told v w (site (Up (changed c n x ch)) r) g (passing n (first_lines n ch ++ last_lines c n x ch) s)) same
        (change_goes h c M n told v w disk x ch g false s step m.0 (subst (λ (r : NodeRecord). disk.promised ≤ r.promised) (sym same) (no_less disk.promised))
        (made_may h x ch made)
        (λ e. absurd (no_truth e)) (λ is. absurd (no_promise ch made is)) (λ p members is. absurd (no_leads ch p members made is)) f k)

new_attempt : (c : Cluster) (n : ℕ) (x : UpNode) (ch : Change) (s : Scene) → AttemptsDiffer
    (passing n (first_lines n ch ++ (mid true n ++ last_lines c n x ch)) s).moments → (p members : ℕ) → ch ≡ Leads p members
    → list_any (is_attempt p) (passing n (mid true n) s).moments ≡ false
new_attempt c n x ch s differ p members is = leads (subst (λ z. AttemptsDiffer (passing n (first_lines n z ++ (mid true n ++ last_lines c n x z)) s).moments) is differ)
  where
    leads : AttemptsDiffer (passing n (first_lines n (Leads p members) ++ (mid true n ++ last_lines c n x (Leads p members))) s).moments
        → list_any (is_attempt p) (passing n (mid true n) s).moments ≡ false
    leads k = (differ_before n (unknown_lines n x.requests.waiting) (telling (entry.Attempt (attempt_entry.Begun p members)) (telling (entry.Node n note.Saved) s)) k).0

up_goes : (h : Header) (c : Cluster) (M : Memberships) (n : ℕ) (told : Delivered) (v w : Nodes) (disk : NodeRecord) (x : UpNode) (g : Hand) (d : Doing)
    (s : Scene) → Step h c M n told disk x → May c n told (site (Up x) disk) d → DoingSo d
    → DoingMay h n told g (site (Up x) disk) d → disk.promised ≤ (effect c n (site (Up x) disk) d).disk.promised → AllFit n (gives c n (site (Up x) disk) d)
    → AttemptsDiffer (passing n (gives c n (site (Up x) disk) d) s).moments
    → Goes h n told v w (site (Up x) disk) g s → Done h c n told v w (site (Up x) disk) g d s
up_goes h c M n told v w disk x g Comes_up s step may so guard rises fit differ k = absurd may
up_goes h c M n told v w disk x g (Goes_down why) s step may so guard rises fit differ k =
    gone_goes h n told v w disk why g s (goes_at h n told v w (site (Up x) disk) (site Down disk) g g s (down_site h s.moments n x disk disk rises k.here) k.turn k)
up_goes h c M n told v w disk x g (Does a) s step may so guard rises fit differ k = act_done h c M n told v w disk x g a s step may so guard fit k
up_goes h c M n told v w disk x g (Saves ch) s step may so guard rises fit differ k =
    change_goes h c M n told v w disk x ch g true s step may rises guard.0 (λ e. guard.1) (λ is. refl) (new_attempt c n x ch s differ) fit k
up_goes h c M n told v w disk x g (Loses ch why) s step may so guard rises fit differ k =
    first_goes h c M n told v w disk (record_of (changed c n x ch)) x ch why g s step rises k
up_goes h c M n told v w disk x g (Forgets ch why) s step may so guard rises fit differ k =
    first_goes h c M n told v w disk disk x ch why g s step rises k

down_goes : (h : Header) (c : Cluster) (n : ℕ) (told : Delivered) (v w : Nodes) (disk : NodeRecord) (g : Hand) (d : Doing) (s : Scene)
    → May c n told (site Down disk) d → Goes h n told v w (site Down disk) g s
    → Done h c n told v w (site Down disk) g d s
down_goes h c n told v w disk g Comes_up s may k = comes_up h c n told v w disk g s k
down_goes h c n told v w disk g (Goes_down why) s may k = absurd may
down_goes h c n told v w disk g (Does a) s may k = absurd may
down_goes h c n told v w disk g (Saves ch) s may k = absurd may
down_goes h c n told v w disk g (Loses ch why) s may k = absurd may
down_goes h c n told v w disk g (Forgets ch why) s may k = absurd may

pub doing_goes : (h : Header) (c : Cluster) (M : Memberships) (n : ℕ) (told : Delivered) (v w : Nodes) (x : Site) (g : Hand) (d : Doing) (s : Scene)
    → c.id ≡ h.cluster → nat_le n 32 ≡ true → AreInOrder (numbers_of c.attached) → Holds (setting_of c) M → Known M told → SiteTied c M n x
    → May c n told x d → DoingSo d → DoingMay h n told g x d → x.disk.promised ≤ (effect c n x d).disk.promised → AllFit n (gives c n x d)
    → AttemptsDiffer (passing n (gives c n x d) s).moments → Goes h n told v w x g s
    → Done h c n told v w x g d s
doing_goes h c M n told v w x g d s id low apart i known tied may so guard rises fit differ k = by_node x.node tied may guard rises fit differ k
  where
    by_node : (node : Node) → NodeTied c M n x.disk node → May c n told (site node x.disk) d → DoingMay h n told g (site node x.disk) d
        → x.disk.promised ≤ (effect c n (site node x.disk) d).disk.promised
        → AllFit n (gives c n (site node x.disk) d) → AttemptsDiffer (passing n (gives c n (site node x.disk) d) s).moments
        → Goes h n told v w (site node x.disk) g s → Done h c n told v w (site node x.disk) g d s
    by_node Down t m e r f q l = down_goes h c n told v w x.disk g d s m l
    by_node (Up y) t m e r f q l = up_goes h c M n told v w x.disk y g d s
        (record { id = id; low = low; apart = apart; at = record { holds = i; known = known; tied = t } }) m so e r f q l

-- ---- one after another

pub all_go : (h : Header) (c : Cluster) (M : Memberships) (n : ℕ) (told : Delivered) (v w : Nodes) (x : Site) (g : Hand) (small : List Doing) (s : Scene)
    → c.id ≡ h.cluster → nat_le n 32 ≡ true → All IsDevice c.attached → AreInOrder (numbers_of c.attached)
    → Holds (setting_of c) M → Known M told → SiteTied c M n x → MayAll c n told x small → AllSo small → AllMay h c n told g x small → AllFit n (given_all c n x small)
    → AttemptsDiffer (passing n (given_all c n x small) s).moments → Goes h n told v w x g s
    → Goes h n told v w (after_all c n x small) (hand_all g small) (passing n (given_all c n x small) s)
all_go h c M n told v w x g [] s id low fits apart i known tied may so guard fit differ k = k
all_go h c M n told v w x g (d ∷ small) s id low fits apart i known tied may so guard fit differ k =
    let first : List Output = gives c n x d in
    let rest : List Output = given_all c n (effect c n x d) small in
    let parts : AllFit n first × AllFit n rest = fit_parts n first rest fit in
    let o : GoesOn c M n (effect c n x d) first (of_doing n d) = does_one c M n told x d fits i known tied may.0 in
    let later : AttemptsDiffer (passing n rest (passing n first s)).moments = subst (λ (t : Scene). AttemptsDiffer t.moments) (passing_append n first rest s) differ in
    let one : Goes h n told v w (effect c n x d) (hand_after g d) (passing n first s) =
    doing_goes h c M n told v w x g d s id low apart i known tied may.0 so.0 guard.0 (rises_so c M o.machine n x (effect c n x d) tied o.tied o.grows) parts.0
    (differ_before n rest (passing n first s) later) k in
    subst (λ t. Goes h n told v w (after_all c n (effect c n x d) small) (hand_all (hand_after g d) small) t) (sym (passing_append n first rest s))
    (all_go h c o.machine n told v w (effect c n x d) (hand_after g d) small (passing n first s) id low fits apart o.holds
    (known_stays c M o.machine told i o.grows known) o.tied may.1 so.1 guard.1 parts.1 later one)
