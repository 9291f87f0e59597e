-- The small steps of a node, one after another, with its joinings, its attempt, what it tells, and its starts.
use Rattle.std.specs.Prelude.{ℕ, ◌≢◌, ◌++◌, All, List, [], ◌∷◌, Option, None, Some}
use Rattle.std.specs.List.{AllByRecursion}
use Rattle.std.proofs.Common.{refl, sym, subst, ◌∙◌}
use Rattle.attempt_laws.specs.Asking.{AreApart, numbers_of}
use Rattle.cmm_attempt.proofs.Basics.{none_some}
use Rattle.cmm_attempt.specs.Attempts.{AttemptState}
use Rattle.cmm_attempt.specs.Calls.{IsDevice}
use Rattle.cmm_member.specs.Records.{NodeRecord}
use Rattle.history.specs.Deeds.{Acked, Deed, Proposed, Started}
use Rattle.history.specs.Moment.{Moment}
use Rattle.membership_machine.specs.Events.{Event, Run}
use Rattle.membership_machine.specs.Growth.{Grows}
use Rattle.membership_machine.specs.Invariant.{Holds}
use Rattle.membership_machine.specs.State.{Memberships}
use Rattle.membership_machine.proofs.Growth.{grows_over, grows_same}
use Rattle.node_model.specs.declared.cluster.Cluster.{Cluster}
use Rattle.node_model.specs.declared.node.Node.{Node}
use Rattle.node_model.specs.declared.node.Node.TheVariants.{Down, Up}
use Rattle.node_model.specs.declared.output.Output.{Output}
use Rattle.node_model.specs.declared.output.Output.TheVariants.{Sends, Tells}
use Rattle.node_model.specs.declared.seat.Seat.{Seat}
use Rattle.node_model.specs.declared.seat.Seat.TheVariants.{Forming, Member}
use Rattle.refinement.proofs.Acts.{does_one, run_append}
use Rattle.refinement.proofs.Changes.{sees}
use Rattle.refinement.proofs.Facts.{facts_of, joins_one}
use Rattle.refinement.proofs.Ties.{known_stays}
use Rattle.refinement.specs.Doings.{Doing, Site, after_all, effect, given_all, gives, site}
use Rattle.refinement.specs.Doings.Act.{Makes}
use Rattle.refinement.specs.Doings.Doing.{Comes_up, Does, Forgets, Goes_down, Loses, Saves}
use Rattle.refinement.specs.Events.{of_doing, of_doings}
use Rattle.refinement.specs.Facts.{JoinsIn}
use Rattle.refinement.specs.Guards.{May, MayAll}
use Rattle.refinement.specs.Ties.{Delivered, GoesOn, Known, NodeTied, SeatTied, SiteTied, setting_of}
use Rattle.run_history.proofs.Idle.{passing_append}
use Rattle.run_history.proofs.Lists.{both}
use Rattle.run_history.proofs.StartAttempts.{NodeHolds, doing_holds}
use Rattle.run_history.specs.Marks.{AllSo, deed_of, deeds_on}
use Rattle.run_history.specs.Scenes.{Scene, passing}
use Rattle.wire.specs.declared.message.Body.{Body}
use Rattle.wire.specs.declared.message.Body.TheVariants as body
use Rattle.run_lines.specs.writes.Covers.{HandCovers, NodeApart, OutputCovers}
use Rattle.run_lines.specs.writes.Joins.{NodeJoins, SiteDone}
use Rattle.run_lines.specs.writes.Ready.{AllReady}
use Rattle.run_lines.specs.writes.Sites.{AllTake, BodySaid, DeedReady, FactsAt, HandReady, NodeReady, OutputReady, PlanIn, Ready}
use Rattle.run_lines.proofs.writes.Done.{doing_done}
use Rattle.run_lines.proofs.writes.Joining.{DoingCovers, SaySame, doing_joins}
use Rattle.run_lines.proofs.writes.Lines.{doing_other, doing_quiet, passing_quiet}
use Rattle.run_lines.proofs.writes.Own.{doing_apart, doing_in}
use Rattle.run_lines.proofs.writes.Says.{doing_deed, doing_says}
use Rattle.run_lines.proofs.writes.Tells.{change_covers, doing_covers, hand_covers_stay, outputs_cover_stay}

-- what is known of the node in the step, and is so of the machine's state
pub record Mid (c : Cluster) (K : Ready) (n : ℕ) (M : Memberships) (x : Site) (ms : List Moment) : Type 0 where
  pub tied : SiteTied c M n x
  pub tasks : JoinsIn x.node
  pub holds : NodeHolds M x.node
  pub apart : NodeApart x.node
  pub joins : NodeJoins c M ms n x.node
  pub ready : NodeReady K x.node

-- .. and of what was delivered to it
pub record Hand (c : Cluster) (K : Ready) (n : ℕ) (told : Delivered) (M : Memberships) : Type 0 where
  pub holds : Holds (setting_of c) M
  pub known : Known M told
  pub covers : HandCovers M told
  pub ready : HandReady K told

-- what the steps come to
pub record Walked (c : Cluster) (K : Ready) (n : ℕ) (M : Memberships) (x y : Site) (os : List Output) (events : List Event) (ds : List Deed) (s t : Scene) : Type 0 where
  pub machine : Memberships
  pub run : Run (setting_of c) M events machine
  pub grows : Grows M machine
  pub mid : Mid c K n machine y t.moments
  pub others : (k : ℕ) → k ≢ n → SaySame k s.moments t.moments
  pub covers : AllByRecursion (OutputCovers machine) os
  pub says : AllByRecursion (OutputReady y) os
  pub deeds : AllByRecursion (DeedReady K n y) ds
  pub done : (p : ℕ) → SiteDone x p → SiteDone y p

-- ---- what the tie says of the node

plan_in : (c : Cluster) (M : Memberships) (n : ℕ) (disk : NodeRecord) (o : Option AttemptState) (seat : Seat) → SeatTied c M n disk o seat → PlanIn n o
plan_in c M n disk None seat tied = tt
plan_in c M n disk (Some a) (Forming s) tied = (tied.2.coordinator, tied.2.has.nodes)
plan_in c M n disk (Some a) (Member s) tied = absurd (none_some a (sym tied.2))

facts_at : (c : Cluster) (M : Memberships) (n : ℕ) (node : Node) (disk : NodeRecord) → Holds (setting_of c) M → NodeTied c M n disk node → JoinsIn node → FactsAt n node disk
facts_at c M n Down disk i tied joins = tt
facts_at c M n (Up x) disk i tied joins = (facts_of c M n disk x i tied joins, (sees c M n disk x.attempt x.seat tied.0).disk_so, plan_in c M n disk x.attempt x.seat tied.0)

-- ---- the change that is made

made_covers : (c : Cluster) (N : Memberships) (n : ℕ) (told : Delivered) (node : Node) (disk : NodeRecord) (d : Doing) → FactsAt n node disk → AreApart (numbers_of c.attached) → May c n told (site node disk) d
    → HandCovers N told → NodeHolds N (effect c n (site node disk) d).node → NodeApart (effect c n (site node disk) d).node → DoingCovers N d
made_covers c N n told Down disk (Does a) f apart may hand h sound = absurd may
made_covers c N n told (Up x) disk (Does (Makes ch)) f apart may hand h sound = change_covers c N n told x ch f.0 apart may.0 hand h sound
made_covers c N n told (Up x) disk (Does _) f apart may hand h sound = tt
made_covers c N n told Down disk (Saves ch) f apart may hand h sound = absurd may
made_covers c N n told (Up x) disk (Saves ch) f apart may hand h sound = change_covers c N n told x ch f.0 apart may hand h sound
made_covers c N n told node disk Comes_up f apart may hand h sound = tt
made_covers c N n told node disk (Goes_down why) f apart may hand h sound = tt
made_covers c N n told node disk (Loses ch why) f apart may hand h sound = tt
made_covers c N n told node disk (Forgets ch why) f apart may hand h sound = tt

-- ---- what is said stays so

body_stays : (x y : Site) → ((p : ℕ) → SiteDone x p → SiteDone y p) → (b : Body) → BodySaid b x → BodySaid b y
body_stays x y done (body.Ready p devices report) h = done p h
body_stays x y done _ h = tt

says_stay : (x y : Site) → ((p : ℕ) → SiteDone x p → SiteDone y p) → (os : List Output) → AllByRecursion (OutputReady x) os → AllByRecursion (OutputReady y) os
says_stay x y done [] h = tt
says_stay x y done (Tells e ∷ os) h = (tt, says_stay x y done os h.1)
says_stay x y done (Sends to b ∷ os) h = (body_stays x y done b h.0, says_stay x y done os h.1)

deeds_stay : (K : Ready) (n : ℕ) (x y : Site) → ((p : ℕ) → SiteDone x p → SiteDone y p) → (ds : List Deed) → AllByRecursion (DeedReady K n x) ds → AllByRecursion (DeedReady K n y) ds
deeds_stay K n x y done [] h = tt
deeds_stay K n x y done (Started s updates ∷ ds) h = ((λ m member. ((h.0 m member).0, (λ is. done s.epoch ((h.0 m member).1 is)))), deeds_stay K n x y done ds h.1)
deeds_stay K n x y done (Proposed u ∷ ds) h = (tt, deeds_stay K n x y done ds h.1)
deeds_stay K n x y done (Acked u ∷ ds) h = (tt, deeds_stay K n x y done ds h.1)

-- ---- one after another

same_done : (x : Site) (p : ℕ) → SiteDone x p → SiteDone x p
same_done x p h = h

pub walk : (c : Cluster) (K : Ready) (n : ℕ) (told : Delivered) (M : Memberships) (x : Site) (small : List Doing) (ds : List Deed) (s : Scene) → All IsDevice c.attached → AreApart (numbers_of c.attached)
    → Hand c K n told M → MayAll c n told x small → AllSo small → AllTake c n x small → AllReady c n x small → AllByRecursion (DeedReady K n x) ds → Mid c K n M x s.moments
    → Walked c K n M x (after_all c n x small) (given_all c n x small) (of_doings n small) (deeds_on ds small) s (passing n (given_all c n x small) s)
walk c K n told M x [] ds s fits apart hand may so take ready deeds mid = record {
  machine = M;
  run = refl;
  grows = grows_same (setting_of c) M hand.holds;
  mid = mid;
  others = λ k ne d e. refl;
  covers = tt;
  says = tt;
  deeds = deeds;
  done = same_done x;
}
walk c K n told M x (d ∷ small) ds s fits apart hand may so take ready deeds mid =
    let y : Site = effect c n x d in
    let os : List Output = gives c n x d in
    let g : GoesOn c M n y os (of_doing n d) = does_one c M n told x d fits hand.holds hand.known mid.tied may.0 in
    let N : Memberships = g.machine in
    let t : Scene = passing n os s in
    let facts : FactsAt n x.node x.disk = facts_at c M n x.node x.disk hand.holds mid.tied mid.tasks in
    let covers : HandCovers N told = hand_covers_stay M N told g.grows hand.covers in
    let holds : NodeHolds N y.node = doing_holds c M N n told x.node x.disk d mid.tied may.0 g.run g.grows mid.holds in
    let sound : NodeApart y.node = doing_apart c n told x.node x.disk d apart may.0 mid.apart in
    let done : ((p : ℕ) → SiteDone x p → SiteDone y p) = λ p h. doing_done c n told x.node x.disk d p facts may.0 h in
    let after : Mid c K n N y t.moments = record {
      tied = g.tied;
      tasks = joins_one c M n told x.node x.disk d hand.holds mid.tied mid.tasks may.0;
      holds = holds;
      apart = sound;
      joins = doing_joins c M N n told x.node x.disk d s facts g.grows may.0 so.0 take.0 (made_covers c N n told x.node x.disk d facts apart may.0 covers holds sound) mid.joins;
      ready = doing_in K c n told x.node x.disk d facts may.0 hand.ready ready.0 mid.ready;
    } in
    let first : AllByRecursion (DeedReady K n y) (deed_of d ++ ds) =
    both (DeedReady K n y) (deed_of d) ds (doing_deed K c n told x.node x.disk d facts hand.ready may.0 ready.0 mid.ready) (deeds_stay K n x y done ds deeds) in
    let w : Walked c K n N y (after_all c n y small) (given_all c n y small) (of_doings n small) (deeds_on (deed_of d ++ ds) small) t (passing n (given_all c n y small) t) =
    walk c K n told N y small (deed_of d ++ ds) t fits apart (record { holds = g.holds; known = known_stays c M N told hand.holds g.grows hand.known; covers = covers; ready = hand.ready }) may.1 so.1 take.1 ready.1 first
    after in
    subst (λ z. Walked c K n M x (after_all c n y small) (os ++ given_all c n y small) (of_doing n d ++ of_doings n small) (deeds_on (deed_of d ++ ds) small) s z) (sym (passing_append n os (given_all c n y small) s))
    (record {
      machine = w.machine;
      run = run_append (setting_of c) M N w.machine (of_doing n d) (of_doings n small) g.run w.run;
      grows = grows_over M N w.machine g.grows w.grows;
      mid = w.mid;
      others = λ k ne e f. w.others k ne e f ∙ passing_quiet k n os s (doing_quiet k c n told x d may.0 so.0 (doing_other k n d ne)) e f;
      covers = both (OutputCovers w.machine) os (given_all c n y small)
          (outputs_cover_stay M w.machine os (grows_over M N w.machine g.grows w.grows) (doing_covers c M n told x.node x.disk d facts may.0 so.0 mid.holds mid.apart)) w.covers;
      says = both (OutputReady (after_all c n y small)) os (given_all c n y small) (says_stay y (after_all c n y small) w.done os (doing_says c n told x.node x.disk d facts may.0 so.0 ready.0)) w.says;
      deeds = w.deeds;
      done = λ p h. w.done p (done p h);
    })
