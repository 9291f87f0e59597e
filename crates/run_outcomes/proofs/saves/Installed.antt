-- What the lines say that a node has installed, its record has installed, or a newer epoch.
use Rattle.std.specs.Prelude.{ℕ, ◌≡◌, ◌≤◌, ◌==◌, ◌&&◌, ◌++◌, ◌⊎◌, All, true, List, [], ◌∷◌, Option, None, Some}
use Rattle.std.specs.List.{AllByRecursion, list_any}
use Rattle.std.proofs.Common.{refl, sym, ap, subst, ◌∙◌, arith, inl, inr}
use Rattle.cl_base.specs.Limits.{most_nodes}
use Rattle.cl_base.specs.Numbers.{numbers_to}
use Rattle.cl_base.specs.declared.method.Outcome as method
use Rattle.cl_base.specs.declared.packet.DropCause.{DropCause}
use Rattle.cmm_attempt.proofs.Basics.{and_cases, if_either, or_cases, same_number}
use Rattle.cmm_attempt.specs.Calls.{IsDevice}
use Rattle.cmm_member.specs.Records.{NodeRecord}
use Rattle.history.specs.Moment.{Moment, Told}
use Rattle.history.specs.Seizing.{is_install}
use Rattle.interconnect.specs.Links as net
use Rattle.interconnect.specs.Links.{sending}
use Rattle.membership_machine.specs.Growth.{Grows}
use Rattle.membership_machine.specs.Invariant.{Holds}
use Rattle.membership_machine.specs.State.{Memberships}
use Rattle.node_model.specs.Presidents.{sent_to}
use Rattle.node_model.specs.Seats.{record_of}
use Rattle.node_model.specs.Steps.{Outcome, stepped}
use Rattle.node_model.specs.declared.cluster.Cluster.{Cluster}
use Rattle.node_model.specs.declared.input.Input.{Input}
use Rattle.node_model.specs.declared.node.Node.{Node}
use Rattle.node_model.specs.declared.node.Node.TheVariants.{Down, Up}
use Rattle.node_model.specs.declared.node.UpNode.{UpNode}
use Rattle.node_model.specs.declared.output.Output.{Output}
use Rattle.node_model.specs.declared.output.Output.TheVariants.{Sends, Tells}
use Rattle.record_disk.specs.Disks.{DiskState}
use Rattle.refinement.proofs.Acts.{does_one}
use Rattle.refinement.proofs.Disks.{disks_keep_rules}
use Rattle.refinement.proofs.Facts.{known_by, step_may}
use Rattle.refinement.proofs.Handlers.{delivered_by}
use Rattle.refinement.proofs.Replies.{steps_are_cut}
use Rattle.refinement.proofs.Ties.{known_stays}
use Rattle.refinement.specs.Cuts.{doings}
use Rattle.refinement.specs.Doings.{Act, Change, Doing, Site, after_all, changed, effect, first_lines, given_all, gives, gone_line, last_lines, said, saved_in, saved_lines, site}
use Rattle.refinement.specs.Doings.Act.{Accepts, Dates, Ends, Gives, Goes_on, Hears, Makes, Minds, Notes, Queues, Spreads, Stores, Takes, Ticks, Waits, Works, Writes}
use Rattle.refinement.specs.Doings.Change.{Acks, Admits, Commits, Counts, Distrusts, Installs, Leads, Prepares, Promises, Proposes, Sits, Starts}
use Rattle.refinement.specs.Doings.Doing.{Comes_up, Does, Forgets, Goes_down, Loses, Saves}
use Rattle.refinement.specs.Events.{of_doing}
use Rattle.refinement.specs.Guards.{May, MayAct, MayAll}
use Rattle.refinement.specs.Steps.{IsCut, disk_rules}
use Rattle.refinement.specs.Ties.{Delivered, GoesOn, Known, SiteTied, setting_of}
use Rattle.refinement.specs.Whole.{IsTrue, Stands}
use Rattle.status_report.specs.declared.entry.Entry.{Entry}
use Rattle.status_report.specs.declared.entry.Entry.TheVariants as entry
use Rattle.status_report.specs.declared.node_entry.NodeEntry.TheVariants as note
use Rattle.status_report.specs.declared.packet_entry.PacketEntry.TheVariants as packet
use Rattle.wire.specs.Spelling.{spelling}
use Rattle.wire.specs.declared.message.Body.{Body}
use Rattle.wire.specs.declared.message.Message.{Message}
use Rattle.world_model.specs.Sends.{is_sent, name_of}
use Rattle.run_attempts.proofs.Configured.{disk_own}
use Rattle.run_outcomes.proofs.exclusions.Excluded.{tied_installed}
use Rattle.run_outcomes.proofs.exclusions.Plain.{ArePlain, IsBare, IsPlain, gone_plain, said_plain, saved_plain}
use Rattle.run_history.proofs.LineSteps.{doings_small}
use Rattle.run_history.proofs.Lists.{both, mapped, second}
use Rattle.run_history.proofs.Ordinary.{GivesAside, IsAside}
use Rattle.run_history.proofs.Small.{AllSmall, IsSmall, IsSmallAct}
use Rattle.run_history.specs.Scenes.{Scene, dropped_so, passing, posting, sent_as, telling, with_links}
use Rattle.run_outcomes.specs.saves.Kept.{AreLow, IsLow, Within}

-- ---- what a node gives

at_most : (a b : ℕ) → a ≡ b → a ≤ b
at_most a b h = omega (arith, h)

most_then : (a b k : ℕ) → a ≤ b → b ≤ k → a ≤ k
most_then a b k h i = omega (arith, h, i)

one_more : (n a b : ℕ) (o : Output) → a ≤ b → IsLow n a o → IsLow n b o
one_more n a b (Tells (entry.Node m (note.Installed e))) more h = (h.0, most_then e a b h.1 more)
one_more n a b _ more h = tt

low_more : (n a b : ℕ) (os : List Output) → a ≤ b → AreLow n a os → AreLow n b os
low_more n a b [] more h = tt
low_more n a b (o ∷ os) more h = (one_more n a b o more h.0, low_more n a b os more h.1)

one_plain : (n most : ℕ) (o : Output) → IsPlain o → IsLow n most o
one_plain n most (Tells (entry.Node m (note.Installed e))) h = absurd h
one_plain n most _ h = tt

plain_low : (n most : ℕ) (os : List Output) → ArePlain os → AreLow n most os
plain_low n most [] h = tt
plain_low n most (o ∷ os) h = (one_plain n most o h.0, plain_low n most os h.1)

aside_low : (n most : ℕ) (e : Entry) → IsAside e → IsLow n most (Tells e)
aside_low n most (entry.Node m x) h = absurd h
aside_low n most _ h = tt

given_low : (n most : ℕ) (os : List Output) → AllByRecursion GivesAside os → AreLow n most os
given_low n most [] h = tt
given_low n most (Tells e ∷ os) h = (aside_low n most e h.0, given_low n most os h.1)
given_low n most (Sends to b ∷ os) h = (tt, given_low n most os h.1)

spread_low : (n most receivers : ℕ) (b : Body) → AreLow n most (sent_to receivers b)
unfolding sent_to
spread_low n most receivers b = mapped (IsLow n most) (λ k. Sends k b) (numbers_to receivers most_nodes) (λ k. tt)

-- ---- small steps

bare_last : (c : Cluster) (n most : ℕ) (x : UpNode) (change : Change) → IsBare change → AreLow n most (first_lines n change ++ last_lines c n x change)
bare_last c n most x change bare =
    let all : ArePlain (first_lines n change ++ saved_lines c n x change) = saved_plain c n x change bare in
    both (IsLow n most) (first_lines n change) (last_lines c n x change) (first_of n most (first_lines n change) (saved_lines c n x change) all)
    (plain_low n most (last_lines c n x change) (second IsPlain (first_lines n change) (saved_lines c n x change) all).1)
  where
    first_of : (n most : ℕ) (os more : List Output) → ArePlain (os ++ more) → AreLow n most os
    first_of n most [] more h = tt
    first_of n most (o ∷ os) more h = (one_plain n most o h.0, first_of n most os more h.1)

-- a change that is made in memory alone, where it leaves the record
made_low : (c : Cluster) (n : ℕ) (x : UpNode) (change : Change) (most : ℕ) → (record_of (changed c n x change)).installed ≤ most → AreLow n most (first_lines n change ++ last_lines c n x change)
made_low c n x (Counts a k s i) most low = ((refl, low), tt)
made_low c n x (Installs s i) most low = ((refl, low), tt)
made_low c n x (Promises p) most low = bare_last c n most x (Promises p) tt
made_low c n x (Leads p members) most low = bare_last c n most x (Leads p members) tt
made_low c n x (Starts a k s) most low = bare_last c n most x (Starts a k s) tt
made_low c n x (Sits s e) most low = bare_last c n most x (Sits s e) tt
made_low c n x (Distrusts d) most low = bare_last c n most x (Distrusts d) tt
made_low c n x (Admits at k a d) most low = bare_last c n most x (Admits at k a d) tt
made_low c n x (Proposes s p text) most low = bare_last c n most x (Proposes s p text) tt
made_low c n x (Acks s p q left text) most low = bare_last c n most x (Acks s p q left text) tt
made_low c n x (Prepares s text) most low = bare_last c n most x (Prepares s text) tt
made_low c n x (Commits s) most low = bare_last c n most x (Commits s) tt

bare_saved : (c : Cluster) (n : ℕ) (x : UpNode) (change : Change) → IsBare change → AreLow n (record_of (changed c n x change)).installed (saved_in c n change (Up x))
bare_saved c n x change bare = plain_low n (record_of (changed c n x change)).installed (saved_in c n change (Up x)) (saved_plain c n x change bare)

saved_low : (c : Cluster) (n : ℕ) (x : UpNode) (change : Change) → AreLow n (record_of (changed c n x change)).installed (saved_in c n change (Up x))
saved_low c n x (Counts a k s i) = (tt, ((refl, at_most i.epoch i.epoch refl), tt))
saved_low c n x (Installs s i) = (tt, ((refl, at_most i.epoch i.epoch refl), tt))
saved_low c n x (Promises p) = bare_saved c n x (Promises p) tt
saved_low c n x (Leads p members) = bare_saved c n x (Leads p members) tt
saved_low c n x (Starts a k s) = bare_saved c n x (Starts a k s) tt
saved_low c n x (Sits s e) = bare_saved c n x (Sits s e) tt
saved_low c n x (Distrusts d) = bare_saved c n x (Distrusts d) tt
saved_low c n x (Admits at k a d) = bare_saved c n x (Admits at k a d) tt
saved_low c n x (Proposes s p text) = bare_saved c n x (Proposes s p text) tt
saved_low c n x (Acks s p q left text) = bare_saved c n x (Acks s p q left text) tt
saved_low c n x (Prepares s text) = bare_saved c n x (Prepares s text) tt
saved_low c n x (Commits s) = bare_saved c n x (Commits s) tt

act_low : (c : Cluster) (n : ℕ) (told : Delivered) (x : UpNode) (a : Act) → MayAct c n told x a → IsSmallAct a → AreLow n (record_of x).installed (said c n x a)
act_low c n told x (Ends a e) may small = (tt, tt)
act_low c n told x (Writes to b) may small = (tt, tt)
act_low c n told x (Gives os) may small = given_low n (record_of x).installed os small
act_low c n told x (Spreads receivers b) may small = spread_low n (record_of x).installed receivers b
act_low c n told x (Makes change) may small = made_low c n x change (record_of x).installed (at_most (record_of (changed c n x change)).installed (record_of x).installed (ap (λ (r : NodeRecord). r.installed) may.1))
act_low c n told x (Hears from b) may small = tt
act_low c n told x Ticks may small = plain_low n (record_of x).installed (said c n x Ticks) (said_plain c n told x Ticks tt tt tt may)
act_low c n told x Waits may small = tt
act_low c n told x (Goes_on a k) may small = tt
act_low c n told x (Queues a d kind) may small = tt
act_low c n told x (Accepts kind e members d) may small = tt
act_low c n told x (Takes at k a) may small = (tt, tt)
act_low c n told x (Stores d value a) may small = plain_low n (record_of x).installed (said c n x (Stores d value a)) (said_plain c n told x (Stores d value a) tt tt tt may)
act_low c n told x (Minds q p) may small = tt
act_low c n told x (Notes from place p) may small = tt
act_low c n told x (Dates now) may small = tt
act_low c n told x (Works w) may small = tt

doing_low : (c : Cluster) (M : Memberships) (n : ℕ) (told : Delivered) (node : Node) (disk : NodeRecord) (d : Doing) → SiteTied c M n (site node disk) → May c n told (site node disk) d → IsSmall d
    → AreLow n (effect c n (site node disk) d).disk.installed (gives c n (site node disk) d)
doing_low c M n told Down disk (Does a) tied may small = absurd may
doing_low c M n told (Up x) disk (Does a) tied may small = subst (λ (r : NodeRecord). AreLow n r.installed (said c n x a)) (sym (disk_own c M n disk x tied)) (act_low c n told x a may small)
doing_low c M n told Down disk (Saves change) tied may small = absurd may
doing_low c M n told (Up x) disk (Saves change) tied may small = saved_low c n x change
doing_low c M n told node disk (Loses change why) tied may small =
    plain_low n (effect c n (site node disk) (Loses change why)).disk.installed (first_lines n change ++ gone_line n why) (gone_plain n change why)
doing_low c M n told node disk (Forgets change why) tied may small = plain_low n disk.installed (first_lines n change ++ gone_line n why) (gone_plain n change why)
doing_low c M n told node disk (Goes_down why) tied may small = (tt, tt)
doing_low c M n told node disk Comes_up tied may small = (tt, tt)

-- what the disk has installed only grows
disk_grows : (c : Cluster) (M N : Memberships) (n : ℕ) (x y : Site) → Grows M N → SiteTied c M n x → SiteTied c N n y → x.disk.installed ≤ y.disk.installed
disk_grows c M N n x y g h k =
    subst (λ a. a ≤ y.disk.installed) (sym (tied_installed c M n x.disk x.node h)) (subst (λ b. (M.node n).saved.installed ≤ b) (sym (tied_installed c N n y.disk y.node k)) (g.node n).installed)

record Lows (n : ℕ) (x y : Site) (os : List Output) : Type 0 where
  grown : x.disk.installed ≤ y.disk.installed
  low : AreLow n y.disk.installed os

all_low : (c : Cluster) (M : Memberships) (n : ℕ) (told : Delivered) (x : Site) (ds : List Doing) → All IsDevice c.attached → Holds (setting_of c) M → Known M told → SiteTied c M n x → MayAll c n told x ds → AllSmall ds
    → Lows n x (after_all c n x ds) (given_all c n x ds)
all_low c M n told x [] fits holds known tied may small = record { grown = at_most x.disk.installed x.disk.installed refl; low = tt }
all_low c M n told x (d ∷ ds) fits holds known tied may small =
    let y : Site = effect c n x d in
    let g : GoesOn c M n y (gives c n x d) (of_doing n d) = does_one c M n told x d fits holds known tied may.0 in
    let rest : Lows n y (after_all c n y ds) (given_all c n y ds) = all_low c g.machine n told y ds fits g.holds (known_stays c M g.machine told holds g.grows known) g.tied may.1 small.1 in
    record {
      grown = most_then x.disk.installed y.disk.installed (after_all c n y ds).disk.installed (disk_grows c M g.machine n x y g.grows tied g.tied) rest.grown;
      low = both (IsLow n (after_all c n y ds).disk.installed) (gives c n x d) (given_all c n y ds)
          (low_more n y.disk.installed (after_all c n y ds).disk.installed (gives c n x d) rest.grown (doing_low c M n told x.node x.disk d tied may.0 small.0)) rest.low;
    }

-- ---- a step

pub record StepLow (n : ℕ) (before : NodeRecord) (o : Outcome DiskState) : Type 0 where
  pub grown : before.installed ≤ o.disk.kept.installed
  pub low : AreLow n o.disk.kept.installed o.given

pub step_low : (c : Cluster) (M : Memberships) (n now : ℕ) (ends : method.Outcome) (node : Node) (disk : DiskState) (i : Input) → n ≤ 32 → All IsDevice c.attached → Holds (setting_of c) M → IsTrue M i
    → Stands c M n node disk.kept → StepLow n disk.kept (stepped disk_rules c n now ends node disk i)
step_low c M n now ends node disk i low fits holds so stands =
    let o : Outcome DiskState = stepped disk_rules c n now ends node disk i in
    let cut : IsCut disk_rules c n now ends node disk i [] o = steps_are_cut disk_rules disks_keep_rules c n now ends node disk i in
    let x : Site = site node disk.kept in
    let all : Lows n x (after_all c n x (doings c n now ends cut.replies i node)) (given_all c n x (doings c n now ends cut.replies i node)) =
    all_low c M n (delivered_by i) x (doings c n now ends cut.replies i node) fits holds (known_by M i so) stands.tied
    (step_may c M n now ends node disk.kept i cut.replies low fits holds stands.tied stands.joins) (doings_small c n now ends cut.replies i node disk.kept) in
    let there : Lows n x (site o.after o.disk.kept) o.given =
    subst (λ (z : Site). Lows n x z o.given) cut.comes.left (subst (λ os. Lows n x (after_all c n x (doings c n now ends cut.replies i node)) os) cut.comes.given all) in
    record { grown = there.grown; low = there.low }

-- ---- lines

told_within : (B : ℕ → ℕ) (n : ℕ) (x : Entry) (ms : List Moment) → IsLow n (B n) (Tells x) → Within B ms → Within B (Told x ∷ ms)
told_within B n (entry.Node m (note.Installed f)) ms low h k e is = by_one (or_cases ((m == k) && (f == e)) (list_any (is_install k e) ms) is)
  where
    by_one : (((m == k) && (f == e)) ≡ true) ⊎ (list_any (is_install k e) ms ≡ true) → e ≤ B k
    by_one (inl here) =
        let two : ((m == k) ≡ true) × ((f == e) ≡ true) = and_cases (m == k) (f == e) here in
        subst (λ q. q ≤ B k) (same_number f e two.1) (subst (λ j. f ≤ B j) (sym low.0 ∙ same_number m k two.0) low.1)
    by_one (inr there) = h k e there
told_within B n _ ms low h k e is = h k e is

dropped_within : (B : ℕ → ℕ) (o : Option (ℕ × DropCause)) (s : Scene) → Within B s.moments → Within B (dropped_so o s).moments
dropped_within B None s h = h
dropped_within B (Some x) s h = h

posted_within : (B : ℕ → ℕ) (from to : ℕ) (m : Message) (s : Scene) → Within B s.moments → Within B (posting from to m s).moments
posted_within B from to m s h =
    let o : net.Outcome = sending s.links from to (spelling m) in
    if_either (λ (z : Scene). Within B z.moments) (is_sent s.links m) (sent_as from to m o s) s
    (dropped_within B o.sent.dropped (telling (entry.Packet (packet.Sent s.links.next from to (name_of m.body) (spelling m))) (with_links s o.after)) h) h

pub passing_within : (B : ℕ → ℕ) (n : ℕ) (os : List Output) (s : Scene) → AreLow n (B n) os → Within B s.moments → Within B (passing n os s).moments
passing_within B n [] s low h = h
passing_within B n (Tells e ∷ os) s low h = passing_within B n os (telling e s) low.1 (told_within B n e s.moments low.0 h)
passing_within B n (Sends to b ∷ os) s low h =
    let m : Message = record { sender = n; body = b } in
    passing_within B n os (posting n to m s) low.1 (posted_within B n to m s h)
