-- Each small step of a node, and all of a step: what its attempt has of its seizings is so, and what it sends.
use Rattle.std.specs.Prelude.{ℕ, ◌++◌, ◌≡◌, nat_le, All, true, false, List, [], ◌∷◌, None, Some}
use Rattle.std.specs.List.{list_any}
use Rattle.std.proofs.Common.{refl, sym, subst, ◌∙◌, inl, inr}
use Rattle.attempt_laws.specs.Asking.{numbers_of}
use Rattle.cl_base.specs.declared.header.Header.{Header}
use Rattle.cmm_attempt.specs.Calls.{IsDevice}
use Rattle.cmm_member.specs.Records.{NodeRecord}
use Rattle.history.specs.Contact.{AttemptsDiffer}
use Rattle.history.specs.Moment.{Moment}
use Rattle.history.specs.Seizing.{is_attempt, keys_seized}
use Rattle.history.specs.Setting.{coordinator}
use Rattle.membership_machine.proofs.Growth.{grows_same}
use Rattle.membership_machine.specs.Events.{Run}
use Rattle.membership_machine.specs.Growth.{Grows}
use Rattle.membership_machine.specs.Invariant.{Holds}
use Rattle.membership_machine.specs.State.{Memberships}
use Rattle.node_model.specs.Entries.{unknown_lines}
use Rattle.node_model.specs.declared.cluster.Cluster.{Cluster}
use Rattle.node_model.specs.declared.node.Node.{Node}
use Rattle.node_model.specs.declared.node.Node.TheVariants.{Down, Up}
use Rattle.node_model.specs.declared.node.UpNode.{UpNode}
use Rattle.node_model.specs.declared.output.Output.{Output}
use Rattle.refinement.proofs.Acts.{does_one, run_append}
use Rattle.refinement.proofs.Ties.{known_stays}
use Rattle.refinement.specs.Doings.{Act, Change, Doing, Site, after_all, effect, first_lines, given_all, gives, gone_line, last_lines, saved_lines, site}
use Rattle.refinement.specs.Doings.Act.{Accepts, Dates, Ends, Gives as Gives_act, Goes_on, Hears, Makes, Minds, Notes, Queues, Spreads, Stores, Takes, Ticks, Waits, Works, Writes}
use Rattle.refinement.specs.Doings.Change.{Acks, Admits, Commits, Counts, Distrusts, Installs, Leads, Prepares, Promises, Proposes, Sits, Starts}
use Rattle.refinement.specs.Doings.Doing.{Comes_up, Does, Forgets, Goes_down, Loses, Saves}
use Rattle.refinement.specs.Events.{of_doing, of_doings}
use Rattle.refinement.specs.Guards.{May, MayAct, MayAll}
use Rattle.refinement.specs.Runs.{Nodes}
use Rattle.refinement.specs.Ties.{Delivered, GoesOn, Known as KnownIn, NodeTied, SiteTied, setting_of}
use Rattle.refinement.specs.Worlds.{AllFit}
use Rattle.run_history.proofs.Stays.{run_grows}
use Rattle.run_history.proofs.Walk.{passing_append}
use Rattle.run_history.specs.CommandLines.{AllQuiet}
use Rattle.run_history.specs.Guards.{Hand, MadeAt, hand_after}
use Rattle.run_history.specs.Marks.{AllSo}
use Rattle.run_history.specs.Scenes.{Scene, passing, telling}
use Rattle.status_report.specs.declared.attempt_entry.AttemptEntry.TheVariants as attempt_entry
use Rattle.status_report.specs.declared.entry.Entry.TheVariants as entry
use Rattle.status_report.specs.declared.node_entry.NodeEntry.TheVariants as note
use Rattle.wire.specs.declared.message.Body.{Body}
use Rattle.wire.specs.declared.message.Body.TheVariants as body
use Rattle.run_seizings.proofs.Acts.{ActMay}
use Rattle.run_seizings.proofs.Asked.{AllMay, DoingMay}
use Rattle.run_seizings.proofs.Progress.{installed_stays}
use Rattle.run_seizings.proofs.Promising.{ChangeMay}
use Rattle.run_seizings.specs.Seized.{has_installed}
use Rattle.run_devices.proofs.valid.Lines.{passing_lasts, same_keys}
use Rattle.run_devices.proofs.readings.Acts.{NoChange}
use Rattle.run_devices.proofs.readings.Changes.{fit_parts}
use Rattle.run_devices.proofs.readings.Doings.{doing_goes}
use Rattle.run_devices.proofs.readings.Earlier.{differ_before, rises_so}
use Rattle.run_devices.proofs.readings.Goes.{Goes}
use Rattle.run_devices.specs.installs.Shown.{BodyShown, IsCounted, Shown, shown_in}
use Rattle.run_devices.proofs.installs.Acts.{MineIn, StirsAct, act_mine}
use Rattle.run_devices.proofs.installs.Calls.{HandLow, HandShown, Known, ShownNow}
use Rattle.run_devices.proofs.installs.Changes.{Changed, StirsChange, change_mine, first_gives}
use Rattle.run_devices.proofs.installs.Links.{Gives, gives_append, gives_later, passing_stays}
use Rattle.run_devices.specs.readings.Readings.{AreInOrder}

-- ---- what is so stays so

pub counted_later : (M N : Memberships) (ms later : List Moment) → Grows M N → ((k e : ℕ) → has_installed k e ms ≡ true → has_installed k e later ≡ true)
    → (e : ℕ) → IsCounted M ms e → IsCounted N later e
counted_later M N ms later grows installs e (inl installed) = inl (installs (coordinator e) e installed)
counted_later M N ms later grows installs e (inr counted) = inr ((grows.epoch e).counted counted)

pub body_later : (K : Shown) (M N : Memberships) (ms later : List Moment) → Grows M N → ((k e : ℕ) → has_installed k e ms ≡ true → has_installed k e later ≡ true)
    → (from : ℕ) (b : Body) → BodyShown K M ms from b → BodyShown K N later from b
body_later K M N ms later grows installs from (body.Seized e d r) (inl counted) = inl (counted_later M N ms later grows installs e counted)
body_later K M N ms later grows installs from (body.Seized e d r) (inr ended) = inr ended
body_later K M N ms later grows installs from (body.Install i) told = told
body_later K M N ms later grows installs from _ told = tt

pub hand_later : (K : Shown) (M N : Memberships) (ms later : List Moment) (told : Delivered) → Grows M N → ((k e : ℕ) → has_installed k e ms ≡ true → has_installed k e later ≡ true)
    → HandShown K M ms told → HandShown K N later told
hand_later K M N ms later None grows installs k = tt
hand_later K M N ms later (Some d) grows installs k = body_later K M N ms later grows installs d.0 d.1.body k

pub installed_later : (n : ℕ) (os : List Output) (s : Scene) (k e : ℕ) → has_installed k e s.moments ≡ true → has_installed k e (passing n os s).moments ≡ true
installed_later n os s k e is = passing_stays (λ ms. has_installed k e ms ≡ true) (λ x ms old. installed_stays ms x k e old) n os s is

-- lines that are no commands show nothing more
pub quiet_keys : (h : Header) (n : ℕ) (os : List Output) (s : Scene) → AllQuiet os → (k e d : ℕ) → keys_seized h k e d (passing n os s).moments ≡ keys_seized h k e d s.moments
quiet_keys h n os s quiet k e d =
    passing_lasts (λ ms. keys_seized h k e d ms ≡ keys_seized h k e d s.moments) (λ x ms none same. same_keys h k e d x ms none ∙ same) n os s quiet refl

-- ---- each small step

-- those that rest on what the lines show by now
abbrev pub Stirs : Doing → Type 0
Stirs (Does a) = StirsAct a
Stirs (Saves ch) = StirsChange ch
Stirs _ = ⊥

abbrev pub Done : Cluster → Memberships → ℕ → ℕ → Shown → Site → List Moment → Doing → Type 0
Done c M n high K x ms d = MineIn K high (effect c n x d).node × Gives (BodyShown K M ms) n (gives c n x d)

act_or : (a : Act) (P : Type 0) → ((ch : Change) → a ≡ Makes ch → P) → (NoChange a → P) → P
act_or (Makes change) P f g = f change refl
act_or (Hears from b) P f g = g tt
act_or Ticks P f g = g tt
act_or Waits P f g = g tt
act_or (Goes_on a k) P f g = g tt
act_or (Ends a e) P f g = g tt
act_or (Queues a d kind) P f g = g tt
act_or (Accepts kind e members d) P f g = g tt
act_or (Takes at command a) P f g = g tt
act_or (Stores d value a) P f g = g tt
act_or (Writes to b) P f g = g tt
act_or (Gives_act os) P f g = g tt
act_or (Spreads receivers b) P f g = g tt
act_or (Minds q p) P f g = g tt
act_or (Notes from place p) P f g = g tt
act_or (Dates now) P f g = g tt
act_or (Works w) P f g = g tt

-- a change with nothing to save
made_so : (ch : Change) → MadeAt ch → StirsChange ch → ⊥
made_so (Counts a q s i) made stirs = made
made_so (Leads p members) made stirs = made
made_so (Promises p) made stirs = stirs
made_so (Installs y i) made stirs = made
made_so (Starts a q y) made stirs = stirs
made_so (Sits y e) made stirs = stirs
made_so (Distrusts d) made stirs = stirs
made_so (Admits on command a d) made stirs = stirs
made_so (Proposes y p text) made stirs = stirs
made_so (Acks y p q left text) made stirs = stirs
made_so (Prepares y text) made stirs = stirs
made_so (Commits y) made stirs = stirs

made_may : (h : Header) (x : UpNode) (ch : Change) → MadeAt ch → ChangeMay h x ch
made_may h x (Starts a q y) made = tt
made_may h x (Sits y e) made = tt
made_may h x (Promises p) made = absurd made
made_may h x (Leads p members) made = absurd made
made_may h x (Counts a q y i) made = absurd made
made_may h x (Installs y i) made = absurd made
made_may h x (Distrusts d) made = absurd made
made_may h x (Admits on command a d) made = absurd made
made_may h x (Proposes y p text) made = absurd made
made_may h x (Acks y p q left text) made = absurd made
made_may h x (Prepares y text) made = absurd made
made_may h x (Commits y) made = absurd made

no_leads : (ch : Change) (p members : ℕ) → MadeAt ch → ch ≡ Leads p members → ⊥
no_leads ch p members made is = subst MadeAt is made

new_attempt : (c : Cluster) (n : ℕ) (x : UpNode) (ch : Change) (s : Scene) → AttemptsDiffer (passing n (first_lines n ch ++ saved_lines c n x ch) s).moments → (p members : ℕ)
    → ch ≡ Leads p members → list_any (is_attempt p) s.moments ≡ false
new_attempt c n x ch s differ p members is = leads (subst (λ z. AttemptsDiffer (passing n (first_lines n z ++ saved_lines c n x z) s).moments) is differ)
  where
    leads : AttemptsDiffer (passing n (first_lines n (Leads p members) ++ saved_lines c n x (Leads p members)) s).moments → list_any (is_attempt p) s.moments ≡ false
    leads k = (differ_before n (unknown_lines n x.requests.waiting) (telling (entry.Attempt (attempt_entry.Begun p members)) (telling (entry.Node n note.Saved) s)) k).0

up_mine : (h : Header) (c : Cluster) (M : Memberships) (n : ℕ) (told : Delivered) (high : ℕ) (K : Shown) (v w : Nodes) (disk : NodeRecord) (x : UpNode) (g : Hand) (d : Doing) (s : Scene)
    → AreInOrder (numbers_of c.attached) → AttemptsDiffer s.moments → May c n told (site (Up x) disk) d → DoingMay h n told g (site (Up x) disk) d → Known h c M n told high K disk x s.moments
    → Goes h n told v w (site (Up x) disk) g s → (Stirs d → ShownNow h K s.moments) → AttemptsDiffer (passing n (gives c n (site (Up x) disk) d) s).moments → MineIn K high (Up x)
    → Done c M n high K (site (Up x) disk) s.moments d
up_mine h c M n told high K v w disk x g Comes_up s apart differ may guard k goes now later mine = absurd may
up_mine h c M n told high K v w disk x g (Goes_down why) s apart differ may guard k goes now later mine = (tt, tt)
up_mine h c M n told high K v w disk x g (Does a) s apart differ may guard k goes now later mine =
    act_or a (Goal a) (λ ch is. subst Goal (sym is) (λ m o stirs. makes ch m o))
    (λ none m o stirs. act_mine h c M n told high K disk x s.moments g a none m o k goes.here.first stirs mine) may guard now
  where
    Goal : Act → Type 0
    Goal b = MayAct c n told x b → ActMay h n told g x b → (StirsAct b → ShownNow h K s.moments) → Done c M n high K (site (Up x) disk) s.moments (Does b)

    makes : (ch : Change) → MayAct c n told x (Makes ch) → MadeAt ch → Done c M n high K (site (Up x) disk) s.moments (Does (Makes ch))
    makes ch m made =
        let r : Changed h c M n high K x s.moments ch = change_mine h c M n told high K disk x s.moments ch apart differ m.0 (made_may h x ch made) k (λ stirs. absurd (made_so ch made stirs))
        (λ p members is. absurd (no_leads ch p members made is)) mine in
        (r.0, gives_append (BodyShown K M s.moments) n (first_lines n ch) (last_lines c n x ch) (first_gives (BodyShown K M s.moments) n ch) r.1)
up_mine h c M n told high K v w disk x g (Saves ch) s apart differ may guard k goes now later mine =
    let r : Changed h c M n high K x s.moments ch = change_mine h c M n told high K disk x s.moments ch apart differ may guard.0 k now (new_attempt c n x ch s later) mine in
    (r.0, gives_append (BodyShown K M s.moments) n (first_lines n ch) (saved_lines c n x ch) (first_gives (BodyShown K M s.moments) n ch) r.1)
up_mine h c M n told high K v w disk x g (Loses ch why) s apart differ may guard k goes now later mine =
    (tt, gives_append (BodyShown K M s.moments) n (first_lines n ch) (gone_line n why) (first_gives (BodyShown K M s.moments) n ch) tt)
up_mine h c M n told high K v w disk x g (Forgets ch why) s apart differ may guard k goes now later mine =
    (tt, gives_append (BodyShown K M s.moments) n (first_lines n ch) (gone_line n why) (first_gives (BodyShown K M s.moments) n ch) tt)

down_mine : (c : Cluster) (M : Memberships) (n : ℕ) (told : Delivered) (high : ℕ) (K : Shown) (disk : NodeRecord) (d : Doing) (ms : List Moment) → May c n told (site Down disk) d
    → Done c M n high K (site Down disk) ms d
down_mine c M n told high K disk Comes_up ms may = (tt, tt)
down_mine c M n told high K disk (Goes_down why) ms may = absurd may
down_mine c M n told high K disk (Does a) ms may = absurd may
down_mine c M n told high K disk (Saves ch) ms may = absurd may
down_mine c M n told high K disk (Loses ch why) ms may = absurd may
down_mine c M n told high K disk (Forgets ch why) ms may = absurd may

pub doing_mine : (h : Header) (c : Cluster) (M : Memberships) (n : ℕ) (told : Delivered) (high : ℕ) (K : Shown) (v w : Nodes) (x : Site) (g : Hand) (d : Doing) (s : Scene)
    → AreInOrder (numbers_of c.attached) → AttemptsDiffer s.moments → Holds (setting_of c) M → KnownIn M told → SiteTied c M n x → May c n told x d → DoingMay h n told g x d
    → HandLow high told → HandShown K M s.moments told → Goes h n told v w x g s → (Stirs d → ShownNow h K s.moments) → AttemptsDiffer (passing n (gives c n x d) s).moments
    → MineIn K high x.node → Done c M n high K x s.moments d
doing_mine h c M n told high K v w x g d s apart differ holds known tied may guard low hand goes now later mine = by_node x.node tied may guard goes later mine
  where
    by_node : (node : Node) → NodeTied c M n x.disk node → May c n told (site node x.disk) d → DoingMay h n told g (site node x.disk) d → Goes h n told v w (site node x.disk) g s
        → AttemptsDiffer (passing n (gives c n (site node x.disk) d) s).moments → MineIn K high node → Done c M n high K (site node x.disk) s.moments d
    by_node Down t m e l q z = down_mine c M n told high K x.disk d s.moments m
    by_node (Up y) t m e l q z =
        up_mine h c M n told high K v w x.disk y g d s apart differ m e
        (record { at = record { holds = holds; known = known; tied = t }; up = l.here.up; low = low; hand = hand }) l now q z

-- ---- one after another

-- what those rest on that call or send is all shown by then
abbrev pub AllStill : Cluster → ℕ → Site → List Doing → Type 0
AllStill c n x [] = Unit {0}
AllStill c n x (d ∷ ds) = (Stirs d → AllQuiet (gives c n x d ++ given_all c n (effect c n x d) ds)) × AllStill c n (effect c n x d) ds

-- the machine goes on by these steps, and what the node sends is so in the end
pub record Went (h : Header) (c : Cluster) (M : Memberships) (n high : ℕ) (K : Shown) (x : Site) (small : List Doing) (end : List Moment) : Type 0 where
  pub machine : Memberships
  pub run : Run (setting_of c) M (of_doings n small) machine
  pub grows : Grows M machine
  pub mine : MineIn K high (after_all c n x small).node
  pub gives : Gives (BodyShown K machine end) n (given_all c n x small)

-- what the lines show in the end they show by now
pub shown_now : (h : Header) (c : Cluster) (n : ℕ) (end : Scene) (x : Site) (d : Doing) (small : List Doing) (s : Scene) → passing n (given_all c n x (d ∷ small)) s ≡ end
    → AllQuiet (given_all c n x (d ∷ small)) → ShownNow h (shown_in h end.moments) s.moments
shown_now h c n end x d small s ends quiet k e j =
    subst (λ (z : Scene). keys_seized h k e j z.moments ≡ keys_seized h k e j s.moments) ends (quiet_keys h n (given_all c n x (d ∷ small)) s quiet k e j)

pub all_mine : (h : Header) (c : Cluster) (M : Memberships) (n : ℕ) (told : Delivered) (high : ℕ) (end : Scene) (v w : Nodes) (x : Site) (g : Hand) (small : List Doing) (s : Scene)
    → c.id ≡ h.cluster → nat_le n 32 ≡ true → All IsDevice c.attached → AreInOrder (numbers_of c.attached) → Holds (setting_of c) M → KnownIn M told → SiteTied c M n x → MayAll c n told x small
    → AllSo small → AllMay h c n told g x small → AllFit n (given_all c n x small) → AttemptsDiffer end.moments → passing n (given_all c n x small) s ≡ end → AllStill c n x small
    → HandLow high told → HandShown (shown_in h end.moments) M s.moments told → Goes h n told v w x g s → MineIn (shown_in h end.moments) high x.node
    → Went h c M n high (shown_in h end.moments) x small end.moments
all_mine h c M n told high end v w x g [] s id low fits apart holds known tied may so guard fit differ ends still small_one hand goes mine =
    record { machine = M; run = refl; grows = grows_same (setting_of c) M holds; mine = mine; gives = tt }
all_mine h c M n told high end v w x g (d ∷ small) s id low fits apart holds known tied may so guard fit differ ends still small_one hand goes mine =
    let K : Shown = shown_in h end.moments in
    let first : List Output = gives c n x d in
    let rest : List Output = given_all c n (effect c n x d) small in
    let parts : AllFit n first × AllFit n rest = fit_parts n first rest fit in
    let o : GoesOn c M n (effect c n x d) first (of_doing n d) = does_one c M n told x d fits holds known tied may.0 in
    let t : Scene = passing n first s in
    let ahead : passing n rest t ≡ end = sym (passing_append n first rest s) ∙ ends in
    let later : AttemptsDiffer t.moments = differ_before n rest t (subst (λ (z : Scene). AttemptsDiffer z.moments) (sym ahead) differ) in
    let one : Goes h n told v w (effect c n x d) (hand_after g d) t =
    doing_goes h c M n told v w x g d s id low apart holds known tied may.0 so.0 guard.0 (rises_so c M o.machine n x (effect c n x d) tied o.tied o.grows) parts.0 later goes in
    let done : Done c M n high K x s.moments d =
    doing_mine h c M n told high K v w x g d s apart (differ_before n first s later) holds known tied may.0 guard.0 small_one hand goes
    (λ stirs. shown_now h c n end x d small s ends (still.0 stirs)) later mine in
    let more : Went h c o.machine n high K (effect c n x d) small end.moments =
    all_mine h c o.machine n told high end v w (effect c n x d) (hand_after g d) small t id low fits apart o.holds (known_stays c M o.machine told holds o.grows known) o.tied may.1 so.1 guard.1 parts.1
    differ ahead still.1 small_one (hand_later K M o.machine s.moments t.moments told o.grows (installed_later n first s) hand) one done.0 in
    let grows : Grows M more.machine = run_grows (setting_of c) M more.machine (of_doings n (d ∷ small)) holds
    (run_append (setting_of c) M o.machine more.machine (of_doing n d) (of_doings n small) o.run more.run) in
    record {
      machine = more.machine;
      run = run_append (setting_of c) M o.machine more.machine (of_doing n d) (of_doings n small) o.run more.run;
      grows = grows;
      mine = more.mine;
      gives = gives_append (BodyShown K more.machine end.moments) n first rest
          (gives_later (BodyShown K M s.moments) (BodyShown K more.machine end.moments) n first
          (body_later K M more.machine s.moments end.moments grows
          (λ k e is. subst (λ (z : Scene). has_installed k e z.moments ≡ true) ends (installed_later n (first ++ rest) s k e is))) done.1) more.gives;
    }
