-- What a node gives in its small steps, one after another, tells what is shown, and so does the node after them.
use Rattle.std.specs.Prelude.{All, List, None, Some, [], ℕ, ◌++◌, ◌==◌, ◌∷◌, ◌≡◌, ◌<◌, ◌≤◌, ◌≢◌}
use Rattle.std.specs.List.{AllByRecursion, list_any}
use Rattle.std.proofs.Common.{ap, refl, subst, sym, arith, ◌∙◌}
use Rattle.cl_base.specs.declared.header.Header.{Header}
use Rattle.cmm_attempt.specs.Calls.{IsDevice}
use Rattle.cmm_member.specs.Records.{NodeRecord}
use Rattle.history.specs.Contact.{AttemptsDiffer}
use Rattle.history.specs.Moment.{Moment, Told}
use Rattle.history.specs.Seizing.{is_attempt}
use Rattle.history.specs.Setting.{coordinator}
use Rattle.history.specs.Member.{members_of}
use Rattle.node_model.specs.Entries.{unknown_lines}
use Rattle.node_model.specs.Seats.{record_of}
use Rattle.node_model.specs.declared.cluster.Cluster.{Cluster}
use Rattle.node_model.specs.declared.node.Node.{Node}
use Rattle.node_model.specs.declared.node.Node.TheVariants.{Down, Up}
use Rattle.node_model.specs.declared.node.UpNode.{UpNode}
use Rattle.node_model.specs.declared.output.Output.{Output}
use Rattle.node_model.specs.declared.output.Output.TheVariants.{Sends, Tells}
use Rattle.refinement.specs.Doings.{Change, Doing, Site, after_all, changed, effect, first_lines, given_all, gives, gone_line, saved_lines, site}
use Rattle.refinement.specs.Doings.Change.{Admits, Distrusts, Leads, Promises, Starts}
use Rattle.refinement.specs.Doings.Doing.{Comes_up, Does, Forgets, Goes_down, Loses, Saves}
use Rattle.refinement.specs.Guards.{May, MayAll, MayChange}
use Rattle.refinement.specs.Ties.{Delivered, GoesOn, Known, NodeTied, SeatTied, SiteTied, setting_of}
use Rattle.run_outcomes.specs.counts.Ends.{AllFit, DoingFits, Last, last_after, last_by_change}
use Rattle.membership_machine.specs.Invariant.{Holds}
use Rattle.membership_machine.specs.State.{Memberships, Node as MachineNode}
use Rattle.refinement.proofs.Acts.{does_one}
use Rattle.refinement.proofs.Ties.{known_stays}
use Rattle.refinement.specs.Events.{of_doing}
use Rattle.run_history.proofs.Lists.{both}
use Rattle.run_history.proofs.Walk.{passing_append}
use Rattle.run_history.specs.Guards.{AtAll, AtChange, AtDoing, Hand, hand_after}
use Rattle.run_history.specs.Marks.{AllSo, DoingSo}
use Rattle.run_history.specs.Scenes.{Scene, passing, telling}
use Rattle.run_seizings.proofs.Progress.{if_so, no_truth, of_stays, or_left, same_is}
use Rattle.run_seizings.specs.Seized.{IsOf}
use Rattle.status_report.specs.declared.attempt_entry.AttemptEntry.TheVariants as attempt_entry
use Rattle.status_report.specs.declared.entry.Entry.TheVariants as entry
use Rattle.status_report.specs.declared.node_entry.NodeEntry.TheVariants as note
use Rattle.history_setting.specs.Settings as settings
use Rattle.node_model.specs.declared.seat.Seat.TheVariants.{Forming}
use Rattle.run_outcomes.proofs.accounts.Votes.{installed_votes}
use Rattle.run_outcomes.proofs.results.Calm.{IsPlain, lost_calm, saved_calm, saved_mute, unknown_calm}
use Rattle.run_outcomes.proofs.results.Passing.{passing_all, passing_lasts}
use Rattle.run_outcomes.proofs.results.Stays.{says_grow}
use Rattle.run_outcomes.proofs.results.Entering.{enters}
use Rattle.run_outcomes.proofs.results.Fresh.{AllGone, DoingGone, GoneIn, IsNewFor, change_fresh, none_fresh}
use Rattle.run_outcomes.proofs.results.Ups.{NoneLate}
use Rattle.run_outcomes.proofs.results.Changed.{change_up}
use Rattle.run_devices.specs.validity.Kept.{AllAgree, DoingAgrees}
use Rattle.run_outcomes.specs.results.Shown.{NodeShown, OfHeader}
use Rattle.run_outcomes.proofs.results.Acted.{Done, Goes, Now, OutShown, OutsShown, act_done, calm_done, change_reached, goes_last, StartsBy, muted_says, outs_last, starts_goes}
use Rattle.run_outcomes.specs.results.Tried.{Collected}
use Rattle.run_outcomes.proofs.results.Freed.{NoneIn, inst, lead_own, none_in, promise_asks}

-- ---- changes that are saved

at_plain : (x : UpNode) (ch : Change) → AtChange x ch → IsPlain ch
at_plain x (Admits on command a d) k = absurd k
at_plain x _ k = tt

-- where an attempt begins, its line is told
leads_of : (c : Cluster) (n : ℕ) (x : UpNode) (p members : ℕ) (s : Scene) → AttemptsDiffer (passing n (first_lines n (Leads p members) ++ saved_lines c n x (Leads p members)) s).moments
    → IsOf (passing n (first_lines n (Leads p members) ++ saved_lines c n x (Leads p members)) s).moments p members
leads_of c n x p members s =
    passing_lasts (λ ms. AttemptsDiffer ms → IsOf ms p members) (λ y ms idle k differ. of_stays ms y p members differ.0 (k differ.1)) n (unknown_lines n x.requests.waiting)
    (telling (entry.Attempt (attempt_entry.Begun p members)) before) (unknown_calm n x.requests.waiting)
    (λ differ. (or_left (p == p) (list_any (is_attempt p) before.moments) (same_is p), if_so (p == p) members (members_of p before.moments) (same_is p)))
  where
    before : Scene
    before = telling (entry.Node n note.Saved) s

begun_in : (c : Cluster) (n : ℕ) (x : UpNode) (ch : Change) (s : Scene) → AttemptsDiffer (passing n (first_lines n ch ++ saved_lines c n x ch) s).moments → (p members : ℕ)
    → ch ≡ Leads p members → IsOf (passing n (first_lines n ch ++ saved_lines c n x ch) s).moments p members
begun_in c n x ch s differ p members is =
    subst (λ z. IsOf (passing n (first_lines n z ++ saved_lines c n x z) s).moments p members) (sym is)
    (leads_of c n x p members s (subst (λ z. AttemptsDiffer (passing n (first_lines n z ++ saved_lines c n x z) s).moments) is differ))

-- an attempt that begins is of a number that none had
change_new : (h : Header) (past : Collected) (c : Cluster) (n : ℕ) (told : Delivered) (f : ℕ → ℕ) (x : UpNode) (ch : Change) (last : Last) (s : Scene)
    → AttemptsDiffer (passing n (first_lines n ch ++ saved_lines c n x ch) s).moments → Goes h past n told f (Up x) last s.moments → IsNewFor past ch
change_new h past c n told f x (Leads p members) last s differ k =
    passing_lasts (λ ms. AttemptsDiffer ms → past p → ⊥) (λ y ms idle new after gone. new after.1 gone) n (unknown_lines n x.requests.waiting)
    (telling (entry.Attempt (attempt_entry.Begun p members)) (telling (entry.Node n note.Saved) s)) (unknown_calm n x.requests.waiting)
    (λ after gone. no_truth (sym after.0 ∙ (k after.1.1).begun p gone)) differ
change_new h past c n told f x _ last s differ k = tt

gone_at : (past : Collected) (x : UpNode) (ch : Change) (d : ℕ) → ch ≡ Distrusts d → DoingGone past (Up x) (Saves ch) → GoneIn past x
gone_at past x ch d is gone = subst (λ z. DoingGone past (Up x) (Saves z)) is gone

-- the lines of a change that is saved
saves_goes : (h : Header) (past : Collected) (c : Cluster) (n : ℕ) (told : Delivered) (f : ℕ → ℕ) (x : UpNode) (ch : Change) (last : Last) (s : Scene) → OfHeader h c → StartsBy h c x → MayChange c n told x ch → AtChange x ch
    → DoingGone past (Up x) (Saves ch) → Goes h past n told f (Up x) last s.moments → Goes h past n told f (Up x) last (passing n (first_lines n ch ++ saved_lines c n x ch) s).moments
saves_goes h past c n told f x (Starts a q y) last s id votes may at gone k =
    starts_goes h past c n told f x a q y last (telling (entry.Node n note.Saved) s) id votes may.0 may.1 may.2 may.3 gone
    (goes_last h past n told f (Up x) last (Told (entry.Node n note.Saved)) s.moments tt k)
saves_goes h past c n told f x ch last s id votes may at gone k =
    passing_lasts (Goes h past n told f (Up x) last) (goes_last h past n told f (Up x) last) n (first_lines n ch ++ saved_lines c n x ch) s (saved_calm c n x ch (at_plain x ch at) tt) k

saves_done : (h : Header) (past : Collected) (c : Cluster) (n : ℕ) (told : Delivered) (f top : ℕ → ℕ) (x : UpNode) (ch : Change) (last : Last) (s : Scene) → All IsDevice c.attached → OfHeader h c → MayChange c n told x ch → AtChange x ch → NoneLate f x
    → ((p : ℕ) → ch ≡ Promises p → n ≢ coordinator p) → ((p members : ℕ) → ch ≡ Leads p members → n ≡ coordinator p) → (disk : NodeRecord) → disk ≡ record_of x
    → DoingAgrees h n (site (Up x) disk) s.moments (Saves ch) → DoingGone past (Up x) (Saves ch) → StartsBy h c x → Goes h past n told f (Up x) last s.moments
    → Done h past n told f top (Up (changed c n x ch)) (last_by_change last ch) (first_lines n ch ++ saved_lines c n x ch) (passing n (first_lines n ch ++ saved_lines c n x ch) s).moments
saves_done h past c n told f top x ch last s fits id may at late others own disk same agrees gone votes k =
    let os : List Output = first_lines n ch ++ saved_lines c n x ch in
    let r : Scene = passing n os s in
    record {
      goes = λ differ.
          let z : Now h past n told f (Up x) last r.moments = saves_goes h past c n told f x ch last s id votes may at gone k differ in
          record {
            here = change_up h past c f r.moments n told x ch fits id may at z.hand (late, z.fresh) (begun_in c n x ch s differ) (enters h c n x disk ch s same others own agrees differ)
                (λ d is. gone_at past x ch d is gone) z.here;
            hand = z.hand;
            lines = z.lines;
            reached = change_reached h past c n told f x ch last last r.moments may z;
            fresh = change_fresh past c n told x ch may (change_new h past c n told f x ch last s differ k) z.fresh;
            begun = z.begun;
          };
      says = λ differ. muted_says h past n top r.moments os (saved_mute c n x ch (at_plain x ch at));
    }

-- ---- each small step

abbrev pub StartsIn : Header → Cluster → Node → Type 0
StartsIn h c Down = Unit {0}
StartsIn h c (Up x) = StartsBy h c x

-- by the machine
starts_by : (h : Header) (c : Cluster) (M : Memberships) (n : ℕ) (disk : NodeRecord) (node : Node) → OfHeader h c → Holds (setting_of c) M → NodeTied c M n disk node → StartsIn h c node
starts_by h c M n disk Down id holds tied = tt
starts_by h c M n disk (Up x) id holds tied = λ a y is seat at.
    let t : SeatTied c M n disk (Some a) (Forming y) = subst (λ z. SeatTied c M n disk (Some a) z) seat (subst (λ o. SeatTied c M n disk o x.seat) is tied.0) in
    installed_votes (settings.setting_of h) c M n y a id.votes holds t.0 t.2 at

fresh_up : (h : Header) (past : Collected) (c : Cluster) (ms : List Moment) (n : ℕ) (disk : NodeRecord) → NodeShown h past ms n (effect c n (site Down disk) Comes_up).node
fresh_up h past c ms n disk = record { tasks = tt; held = tt; seat = λ some ahead d is none. absurd (none_less some); attempt = tt; mine = tt }
  where
    none_less : 0 < 0 → ⊥
    none_less i = omega (arith, i)

pub doing_done : (h : Header) (past : Collected) (c : Cluster) (n : ℕ) (told : Delivered) (f top : ℕ → ℕ) (g : Hand) (node : Node) (disk : NodeRecord) (d : Doing) (last : Last) (s : Scene) → All IsDevice c.attached
    → OfHeader h c → May c n told (site node disk) d → AtDoing n told g (site node disk) d → DoingFits last (site node disk) d → DoingSo d → NoneIn n told f top disk node → DoingAgrees h n (site node disk) s.moments d → DoingGone past node d → StartsIn h c node → Goes h past n told f node last s.moments
    → Done h past n told f top (effect c n (site node disk) d).node (last_after last d) (gives c n (site node disk) d) (passing n (gives c n (site node disk) d) s).moments
doing_done h past c n told f top g (Up x) disk (Does a) last s fits id may at ends so free agrees gone votes k = act_done h past c n told f top g x a last s fits id may at ends so gone free.late free.newer free.opens votes k
doing_done h past c n told f top g Down disk (Does a) last s fits id may at ends so free agrees gone votes k = absurd may
doing_done h past c n told f top g (Up x) disk (Saves ch) last s fits id may at ends so free agrees gone votes k =
    saves_done h past c n told f top x ch last s fits id may at free.late (λ p is. free.others p (promise_asks c n told x ch p may is).0 (promise_asks c n told x ch p may is).1)
    (λ p members is. lead_own c n told x ch p members may is) disk free.same agrees gone votes k
doing_done h past c n told f top g Down disk (Saves ch) last s fits id may at ends so free agrees gone votes k = absurd may
doing_done h past c n told f top g (Up x) disk (Loses ch why) last s fits id may at ends so free agrees gone votes k =
    calm_done h past n told f top (Up x) Down last None (first_lines n ch ++ gone_line n why) s (lost_calm n ch why (at_plain x ch at)) (λ ms z. (tt, tt)) (λ ms z. tt) k
doing_done h past c n told f top g Down disk (Loses ch why) last s fits id may at ends so free agrees gone votes k = absurd may
doing_done h past c n told f top g (Up x) disk (Forgets ch why) last s fits id may at ends so free agrees gone votes k =
    calm_done h past n told f top (Up x) Down last None (first_lines n ch ++ gone_line n why) s (lost_calm n ch why (at_plain x ch at)) (λ ms z. (tt, tt)) (λ ms z. tt) k
doing_done h past c n told f top g Down disk (Forgets ch why) last s fits id may at ends so free agrees gone votes k = absurd may
doing_done h past c n told f top g Down disk Comes_up last s fits id may at ends so free agrees gone votes k =
    calm_done h past n told f top Down (effect c n (site Down disk) Comes_up).node last None (gives c n (site Down disk) Comes_up) s (tt, tt) (λ ms z. (fresh_up h past c ms n disk, none_fresh past)) (λ ms z. tt) k
doing_done h past c n told f top g (Up x) disk Comes_up last s fits id may at ends so free agrees gone votes k = absurd may
doing_done h past c n told f top g node disk (Goes_down why) last s fits id may at ends so free agrees gone votes k =
    calm_done h past n told f top node Down last None (gone_line n why) s (tt, tt) (λ ms z. (tt, tt)) (λ ms z. tt) k

-- ---- one after another

-- what was said stays shown, whatever is told
outs_pass : (h : Header) (past : Collected) (top : ℕ → ℕ) (n : ℕ) (before os : List Output) (s : Scene) → OutsShown h past n top before s.moments → OutsShown h past n top before (passing n os s).moments
outs_pass h past top n before os s k = passing_all (OutsShown h past n top before) (λ x ms z. outs_last h past n top before x ms z) n os s k

outs_grow : (h : Header) (past : Collected) (n : ℕ) (f g : ℕ → ℕ) (ms : List Moment) (os : List Output) → ((k : ℕ) → f k ≤ g k) → AllByRecursion (OutShown h past n f ms) os
    → AllByRecursion (OutShown h past n g ms) os
outs_grow h past n f g ms [] more k = tt
outs_grow h past n f g ms (Tells e ∷ os) more k = (tt, outs_grow h past n f g ms os more k.1)
outs_grow h past n f g ms (Sends to b ∷ os) more k = (says_grow h past past f g ms n b (λ e gone. gone) more k.0, outs_grow h past n f g ms os more k.1)

-- these small steps are done, from a state of the machine to another
pub record Comes (h : Header) (past : Collected) (c : Cluster) (M : Memberships) (n : ℕ) (told : Delivered) (f : ℕ → ℕ) (x : Site) (ds : List Doing) (s : Scene) : Type 0 where
  pub machine : Memberships
  pub grows : (k : ℕ) → inst M k ≤ inst machine k
  pub tied : SiteTied c machine n (after_all c n x ds)
  pub others : (k : ℕ) → k ≢ n → inst machine k ≡ inst M k
  pub last : Last
  pub done : Done h past n told f (inst machine) (after_all c n x ds).node last (given_all c n x ds) (passing n (given_all c n x ds) s).moments

at_most : (a b d : ℕ) → a ≤ b → b ≤ d → a ≤ d
at_most a b d i j = omega (arith, i, j)

same_most : (a : ℕ) → a ≤ a
same_most a = omega arith

pub none_comes : (h : Header) (past : Collected) (c : Cluster) (M : Memberships) (n : ℕ) (told : Delivered) (f : ℕ → ℕ) (x : Site) (last : Last) (s : Scene) → SiteTied c M n x → Goes h past n told f x.node last s.moments
    → Comes h past c M n told f x [] s
none_comes h past c M n told f x last s tied k = record {
  machine = M;
  grows = λ j. same_most (inst M j);
  tied = tied;
  others = λ j ne. refl;
  last = last;
  done = record { goes = k; says = λ differ. tt };
}

-- a small step, and what comes of it in the machine
pub then_comes : (h : Header) (past : Collected) (c : Cluster) (M : Memberships) (n : ℕ) (told : Delivered) (f : ℕ → ℕ) (x : Site) (d : Doing) (ds : List Doing) (s t : Scene)
    → (o : GoesOn c M n (effect c n x d) (gives c n x d) (of_doing n d)) → (z : Comes h past c o.machine n told f (effect c n x d) ds t)
    → Done h past n told f (inst z.machine) (after_all c n (effect c n x d) ds).node z.last (gives c n x d ++ given_all c n (effect c n x d) ds)
    (passing n (gives c n x d ++ given_all c n (effect c n x d) ds) s).moments
    → Comes h past c M n told f x (d ∷ ds) s
then_comes h past c M n told f x d ds s t o z done = record {
  machine = z.machine;
  grows = λ k. at_most (inst M k) (inst o.machine k) (inst z.machine k) (o.grows.node k).installed (z.grows k);
  tied = z.tied;
  others = λ k ne. z.others k ne ∙ ap (λ (y : MachineNode). y.saved.installed) (o.others k ne);
  last = z.last;
  done = done;
}

pub all_done : (h : Header) (past : Collected) (c : Cluster) (M : Memberships) (n : ℕ) (told : Delivered) (f : ℕ → ℕ) (g : Hand) (x : Site) (ds : List Doing) (last : Last) (s : Scene) → All IsDevice c.attached
    → OfHeader h c → Holds (setting_of c) M → Known M told → SiteTied c M n x → ((k : ℕ) → f k ≤ inst M k)
    → MayAll c n told x ds → AtAll c n told g x ds → AllFit c n last x ds → AllSo ds → AllAgree h c n x ds s → AllGone past c n x ds → Goes h past n told f x.node last s.moments → Comes h past c M n told f x ds s
all_done h past c M n told f g x [] last s fits id holds known tied low may at ends so agrees gone k = none_comes h past c M n told f x last s tied k
all_done h past c M n told f g x (d ∷ ds) last s fits id holds known tied low may at ends so agrees gone k =
    let first : List Output = gives c n x d in
    let rest : List Output = given_all c n (effect c n x d) ds in
    let o : GoesOn c M n (effect c n x d) first (of_doing n d) = does_one c M n told x d fits holds known tied may.0 in
    let one : Done h past n told f (inst M) (effect c n x d).node (last_after last d) first (passing n first s).moments =
    doing_done h past c n told f (inst M) g x.node x.disk d last s fits id may.0 at.0 ends.0 so.0 (none_in c M n told x.disk x.node f holds known tied low) agrees.0 gone.0 (starts_by h c M n x.disk x.node id holds tied) k in
    let all : Comes h past c o.machine n told f (effect c n x d) ds (passing n first s) =
    all_done h past c o.machine n told f (hand_after g d) (effect c n x d) ds (last_after last d) (passing n first s) fits id o.holds (known_stays c M o.machine told holds o.grows known) o.tied
    (λ j. at_most (f j) (inst M j) (inst o.machine j) (low j) (o.grows.node j).installed) may.1 at.1 ends.1 so.1 agrees.1 gone.1 one.goes in
    then_comes h past c M n told f x d ds s (passing n first s) o all
    (subst (λ (t : Scene). Done h past n told f (inst all.machine) (after_all c n (effect c n x d) ds).node all.last (first ++ rest) t.moments) (sym (passing_append n first rest s))
    (record {
      goes = all.done.goes;
      says = λ differ. both (OutShown h past n (inst all.machine) (passing n rest (passing n first s)).moments) first rest
          (outs_grow h past n (inst M) (inst all.machine) (passing n rest (passing n first s)).moments first
          (λ j. at_most (inst M j) (inst o.machine j) (inst all.machine j) (o.grows.node j).installed (all.grows j))
          (outs_pass h past (inst M) n first rest (passing n first s) one.says differ)) (all.done.says differ);
    }))
