-- All that a node does in a step leaves what it has proposed as old as its Prepares are.
use Rattle.std.specs.Prelude.{ℕ, ◌+◌, ◌≡◌, ◌⊎◌, ◌++◌, ◌^◌, All, Bool, true, List, [], ◌∷◌, length, Option, None, Some, is_some}
use Rattle.std.proofs.Common.{refl, sym, subst, ◌∙◌, inl, inr}
use Rattle.ccr_commit.specs.Entries.{texts_of}
use Rattle.cl_base.specs.Sets.{has}
use Rattle.cmm_attempt.proofs.Basics.{false_true, if_either}
use Rattle.cmm_attempt.specs.Attempts.{AttemptState}
use Rattle.cmm_attempt.specs.Calls.{IsDevice, turn}
use Rattle.cmm_member.specs.Records.{NodeRecord}
use Rattle.device_queue.specs.Queue.{after_seize}
use Rattle.history.specs.Trace.{ack, saved}
use Rattle.membership_machine.specs.Growth.{Grows}
use Rattle.membership_machine.specs.Invariant.{Holds}
use Rattle.membership_machine.specs.State.{Memberships}
use Rattle.node_model.specs.Members.{rested_by}
use Rattle.node_model.specs.Presidents.{sent_to}
use Rattle.node_model.specs.Seats.{promising, record_of, state_of}
use Rattle.node_model.specs.declared.cluster.Cluster.{Cluster}
use Rattle.node_model.specs.declared.node.Node.{Node}
use Rattle.node_model.specs.declared.node.Node.TheVariants.{Down, Up}
use Rattle.node_model.specs.declared.node.UpNode.{UpNode}
use Rattle.node_model.specs.declared.output.Output.{Output}
use Rattle.node_model.specs.declared.presidency.Presidency.{Presidency}
use Rattle.proposals.specs.Proposing.{less}
use Rattle.proposals.specs.declared.arrived.Proposed.{Proposed}
use Rattle.refinement.proofs.Acts.{does_one}
use Rattle.refinement.proofs.Ties.{known_stays}
use Rattle.refinement.specs.Doings.{Act, Change, Doing, Site, acted, adopted_by, after_all, changed, effect, first_lines, given_all, gives, gone_line, last_lines, of_node, said, saved_lines, site}
use Rattle.node_model.specs.Attempts.{starting_as}
use Rattle.history.specs.Starts.{is_started}
use Rattle.status_report.specs.declared.entry.Entry.TheVariants as entry
use Rattle.status_report.specs.declared.node_entry.NodeEntry.TheVariants as note
use Rattle.node_model.specs.declared.seat.Seat.{Seat}
use Rattle.node_model.specs.declared.seat.Seat.TheVariants.{Forming, Member}
use Rattle.refinement.specs.Doings.Act.{Accepts, Dates, Ends, Gives, Goes_on, Hears, Makes, Minds, Notes, Queues, Spreads, Stores, Takes, Ticks, Waits, Works, Writes}
use Rattle.refinement.specs.Doings.Change.{Acks, Admits, Commits, Counts, Distrusts, Installs, Leads, Prepares, Promises, Proposes, Sits, Starts}
use Rattle.refinement.specs.Doings.Doing.{Comes_up, Does, Forgets, Goes_down, Loses, Saves}
use Rattle.refinement.specs.Events.{of_doing}
use Rattle.refinement.specs.Guards.{May, MayAct, MayAll, MayChange, SameProposed}
use Rattle.refinement.specs.Ties.{Delivered, GoesOn, Known, NodeTied, SeatTied, SiteTied, setting_of}
use Rattle.run_history.proofs.Idle.{passing_append}
use Rattle.run_history.specs.Marks.{ActSo, AllSo, DoingSo}
use Rattle.run_history.specs.Scenes.{Scene, passing, telling}
use Rattle.run_packets.proofs.prepares.Numbers.{left_before, passing_next}
use Rattle.run_packets.specs.prepares.Actors.{FollowsIn, NoProposal}
use Rattle.run_packets.specs.prepares.Events.{IsLeft}
use Rattle.seize.specs.Seizing as seizing
use Rattle.status_report.specs.declared.node_entry.DownCause.{DownCause}
use Rattle.wire.specs.declared.message.Body.{Body}
use Rattle.wire.specs.declared.message.Body.TheVariants as body
use Rattle.run_packets.specs.repeats.Ages.{ActAges, AgeKept, AllAge, DoingAges, IsFresh, NodeIn, OfficeZero, Opened, SpreadSo}
use Rattle.run_packets.proofs.repeats.Lines.{AreQuiet, quiet_plain}
use Rattle.run_packets.proofs.repeats.Quiet.{first_quiet, given_quiet, made_quiet, saved_quiet, spread_plain, spread_quiet, write_quiet}
use Rattle.run_packets.proofs.repeats.Steps.{minds_in, notes_in, seat_fresh, seat_quiet}
use Rattle.run_packets.proofs.repeats.Walk.{Begun, Kept, OpenedIn, ZeroIn, acks_kept, begun_grows, by_more, by_propose, lines_told, member_started, office_begun, ordinary_kept, plain_opened, proposes_kept, starts_kept}

-- what a step leaves
pub record Settled (n : ℕ) (node : Node) (s : Scene) : Type 0 where
  pub here : NodeIn s.moments [] n node
  pub opened : Opened s.moments

-- ---- acts

fresh_zero : (o : Option Presidency) → IsFresh o → OfficeZero o
fresh_zero None h = tt
fresh_zero (Some p) h = λ some. h

module _ (c : Cluster) (n : ℕ) (told : Delivered) (again : Bool) where
  -- what is sent at once is of what is no tick old
  spread_zero : (o : Option Presidency) → (again ≡ true → OfficeZero o) → ((again ≡ true) ⊎ IsFresh o) → OfficeZero o
  spread_zero o zero (inl now) = zero now
  spread_zero o zero (inr fresh) = fresh_zero o fresh

  spread_kept : (x : UpNode) (receivers : ℕ) (b : Body) (rest : List Output) (s : Scene) → SpreadSo again x.presidency b → (again ≡ true → OfficeZero x.presidency) → IsLeft (passing n (sent_to receivers b) s).links.next
      → NodeIn s.moments (sent_to receivers b ++ rest) n (Up x) → NodeIn (passing n (sent_to receivers b) s).moments rest n (Up x)
  spread_kept x receivers (body.Prepare e v text) rest s so zero left h =
      seat_fresh n (sent_to receivers (body.Prepare e v text)) rest s x.presidency x.seat (spread_plain receivers (body.Prepare e v text)) (spread_zero x.presidency zero so) left h
  spread_kept x receivers b rest s so zero left h = seat_quiet n (sent_to receivers b) rest s x.presidency x.seat (spread_quiet receivers b tt) h

  -- the node stays as it is
  stays_kept : (M N : Memberships) (x : UpNode) (first rest : List Output) (s : Scene) → AreQuiet first → Grows M N → Kept M n (first ++ rest) (Up x) s → Kept N n rest (Up x) (passing n first s)
  stays_kept M N x first rest s quiet g h =
      record { here = seat_quiet n first rest s x.presidency x.seat quiet h.here; opened = plain_opened M N n first s g (quiet_plain first quiet) h.opened }

  -- a change that is not saved
  makes_kept : (M N : Memberships) (x : UpNode) (disk : NodeRecord) (change : Change) (rest : List Output) (s : Scene) → NoProposal change → Holds (setting_of c) M → Grows M N → NodeTied c M n disk (Up x)
      → NodeTied c N n (record_of (changed c n x change)) (Up (changed c n x change)) → MayChange c n told x change → Kept M n ((first_lines n change ++ last_lines c n x change) ++ rest) (Up x) s
      → Kept N n rest (Up (changed c n x change)) (passing n (first_lines n change ++ last_lines c n x change) s)
  makes_kept M N x disk (Proposes t p text) rest s none holds g tied later may h = absurd none
  makes_kept M N x disk (Acks t p q left text) rest s none holds g tied later may h =
      let both : NodeIn (ack t.session (length (texts_of t.saved.entries)) text ∷ s.moments) rest n (Up (changed c n x (Acks t p q left text))) × OpenedIn N (ack t.session (length (texts_of t.saved.entries)) text ∷ s.moments) =
      acks_kept c n told M N x disk t p q left text [] ((first_lines n (Acks t p q left text) ++ last_lines c n x (Acks t p q left text)) ++ rest) rest s tt g may h in
      record { here = both.0; opened = both.1 }
  makes_kept M N x disk (Starts a k t) rest s none holds g tied later may h =
      let b : AttemptState = (turn a k).after in
      starts_kept c n told M N x disk a k t (first_lines n (Starts a k t) ++ last_lines c n x (Starts a k t)) rest s holds (made_quiet c n x (Starts a k t) tt) g tied may
      (lines_told n b t (adopted_by c b (starting_as c n x b t) ++ of_node n (note.Member b.plan.epoch) ∷ []) s) h
  makes_kept M N x disk change rest s none holds g tied later may h =
      ordinary_kept c n told M N x disk change (first_lines n change ++ last_lines c n x change) rest s tt (made_quiet c n x change tt) g tied later may h

  -- .. and one that is
  saves_kept : (M N : Memberships) (x : UpNode) (disk : NodeRecord) (change : Change) (ds : List Doing) (s : Scene) → FollowsIn n x change ds → Holds (setting_of c) M → Grows M N → NodeTied c M n disk (Up x)
      → NodeTied c N n (record_of (changed c n x change)) (Up (changed c n x change)) → MayChange c n told x change
      → (let y : Site = site (Up (changed c n x change)) (record_of (changed c n x change)) in
      Kept M n ((first_lines n change ++ saved_lines c n x change) ++ given_all c n y ds) (Up x) s → Kept N n (given_all c n y ds) y.node (passing n (first_lines n change ++ saved_lines c n x change) s))
  saves_kept M N x disk (Proposes t p text) ds s follows holds g tied later may h =
      let y : UpNode = changed c n x (Proposes t p text) in
      proposes_kept c n told M N x disk (record_of y) t p text ds ((first_lines n (Proposes t p text) ++ saved_lines c n x (Proposes t p text)) ++ given_all c n (site (Up y) (record_of y)) ds) s holds g tied may follows h
  saves_kept M N x disk (Acks t p q left text) ds s follows holds g tied later may h =
      let y : UpNode = changed c n x (Acks t p q left text) in
      let rest : List Output = given_all c n (site (Up y) (record_of y)) ds in
      let both : NodeIn (ack t.session (length (texts_of t.saved.entries)) text ∷ saved n ∷ s.moments) rest n (Up y) × OpenedIn N (ack t.session (length (texts_of t.saved.entries)) text ∷ saved n ∷ s.moments) =
      acks_kept c n told M N x disk t p q left text (of_node n note.Saved ∷ []) ((first_lines n (Acks t p q left text) ++ saved_lines c n x (Acks t p q left text)) ++ rest) rest s (tt, tt) g may h in
      record { here = both.0; opened = both.1 }
  saves_kept M N x disk (Starts a k t) ds s follows holds g tied later may h =
      let b : AttemptState = (turn a k).after in
      let y : UpNode = changed c n x (Starts a k t) in
      starts_kept c n told M N x disk a k t (first_lines n (Starts a k t) ++ saved_lines c n x (Starts a k t)) (given_all c n (site (Up y) (record_of y)) ds) s holds (saved_quiet c n x (Starts a k t) tt) g tied may
      (lines_told n b t (adopted_by c b (starting_as c n x b t) ++ of_node n (note.Member b.plan.epoch) ∷ []) (telling (entry.Node n note.Saved) s)) h
  saves_kept M N x disk change ds s follows holds g tied later may h =
      let y : UpNode = changed c n x change in
      ordinary_kept c n told M N x disk change (first_lines n change ++ saved_lines c n x change) (given_all c n (site (Up y) (record_of y)) ds) s tt (saved_quiet c n x change tt) g tied later may h

  -- where the save is lost the node is down
  lost_kept : (M N : Memberships) (x : UpNode) (disk : NodeRecord) (change : Change) (why : DownCause) (old rest : List Output) (s : Scene) → Holds (setting_of c) M → Grows M N → NodeTied c M n disk (Up x)
      → MayChange c n told x change → Kept M n old (Up x) s → Kept N n rest Down (passing n (first_lines n change ++ gone_line n why) s)
  lost_kept M N x disk (Proposes t p text) why old rest s holds g tied may h =
      let place : ℕ = length (texts_of t.saved.entries) + 1 in
      let begun : is_started t.session s.moments ≡ true = office_begun s.moments old n x.presidency x.seat p t may.0 may.1 h.here in
      record {
        here = tt;
        opened = by_propose (Begun N s.moments) t.session place text s.moments (begun, (g.epoch t.session).started (member_started c M n disk x t holds may.1 tied))
            (by_more (Begun M s.moments) (Begun N s.moments) s.moments (begun_grows M N n [] s g) h.opened);
      }
  lost_kept M N x disk (Acks t p q left text) why old rest s holds g tied may h = record { here = tt; opened = plain_opened M N n [] s g tt h.opened }
  lost_kept M N x disk change why old rest s holds g tied may h =
      subst (λ (u : Scene). Kept N n rest Down u) (sym (passing_append n (first_lines n change) (gone_line n why) s))
      (record { here = tt; opened = plain_opened M N n (first_lines n change) s g (quiet_plain (first_lines n change) (first_quiet n change tt)) h.opened })

  -- ---- acts

  act_kept : (M N : Memberships) (x : UpNode) (disk : NodeRecord) (a : Act) (rest : List Output) (s : Scene) → Holds (setting_of c) M → Grows M N → NodeTied c M n disk (Up x) → NodeTied c N n disk (Up (acted c n x a))
      → MayAct c n told x a → ActAges again x a → ActSo a → (again ≡ true → OfficeZero x.presidency) → IsLeft (passing n (said c n x a) s).links.next → Kept M n (said c n x a ++ rest) (Up x) s
      → Kept N n rest (Up (acted c n x a)) (passing n (said c n x a) s)
  act_kept M N x disk (Hears from b) rest s holds g tied later may ages so zero left h = record { here = h.here; opened = plain_opened M N n [] s g tt h.opened }
  act_kept M N x disk Ticks rest s holds g tied later may ages so zero left h = absurd ages
  act_kept M N x disk Waits rest s holds g tied later may ages so zero left h = record { here = h.here; opened = plain_opened M N n [] s g tt h.opened }
  act_kept M N x disk (Goes_on a k) rest s holds g tied later may ages so zero left h = record { here = h.here; opened = plain_opened M N n [] s g tt h.opened }
  act_kept M N x disk (Ends a e) rest s holds g tied later may ages so zero left h =
      let k : Kept N n rest (Up x) (passing n (said c n x (Ends a e)) s) = stays_kept M N x (said c n x (Ends a e)) rest s (tt, tt) g h in record { here = k.here; opened = k.opened }
  act_kept M N x disk (Queues a d kind) rest s holds g tied later may ages so zero left h = record {
    here = if_either (λ (y : UpNode). NodeIn s.moments rest n (Up y)) (has a.plan.members n)
        (record x { tasks = after_seize x.tasks d (seizing.begun kind a.plan.epoch a.plan.members n c.id (has (record_of x).valid d)) }) x h.here h.here;
    opened = plain_opened M N n [] s g tt h.opened;
  }
  act_kept M N x disk (Accepts kind e members d) rest s holds g tied later may ages so zero left h = record { here = h.here; opened = plain_opened M N n [] s g tt h.opened }
  act_kept M N x disk (Takes at command a) rest s holds g tied later may ages so zero left h =
      let k : Kept N n rest (Up x) (passing n (said c n x (Takes at command a)) s) = stays_kept M N x (said c n x (Takes at command a)) rest s (tt, tt) g h in record { here = k.here; opened = k.opened }
  act_kept M N x disk (Stores d value a) rest s holds g tied later may ages so zero left h = stays_kept M N x (said c n x (Stores d value a)) rest s (tt, write_quiet n x d value a) g h
  act_kept M N x disk (Writes to b) rest s holds g tied later may ages so zero left h = stays_kept M N x (said c n x (Writes to b)) rest s (ages, tt) g h
  act_kept M N x disk (Makes change) rest s holds g tied later may ages so zero left h =
      makes_kept M N x disk change rest s ages holds g tied (subst (λ r. NodeTied c N n r (Up (changed c n x change))) (disk_made M x disk change tied may.1) later) may.0 h
    where
      disk_made : (M : Memberships) (x : UpNode) (disk : NodeRecord) (change : Change) → NodeTied c M n disk (Up x) → record_of (changed c n x change) ≡ record_of x → disk ≡ record_of (changed c n x change)
      disk_made M x disk change tied same = own_disk x.seat tied.0 ∙ sym same
        where
          own_disk : (seat : Seat) → SeatTied c M n disk x.attempt seat → disk ≡ (state_of seat).saved
          own_disk (Forming t) here = here.1
          own_disk (Member t) here = here.1
  act_kept M N x disk (Gives os) rest s holds g tied later may ages so zero left h = stays_kept M N x os rest s (given_quiet os so may) g h
  act_kept M N x disk (Spreads receivers b) rest s holds g tied later may ages so zero left h = record {
    here = spread_kept x receivers b rest s ages zero left h.here;
    opened = plain_opened M N n (sent_to receivers b) s g (spread_plain receivers b) h.opened;
  }
  act_kept M N x disk (Minds q p) rest s holds g tied later may ages so zero left h =
      record { here = minds_in c n s.moments rest x.presidency p x.seat may ages h.here; opened = plain_opened M N n [] s g tt h.opened }
  act_kept M N x disk (Notes from place p) rest s holds g tied later may ages so zero left h =
      record { here = notes_in c n s.moments rest x.presidency p x.seat from place may.0 h.here; opened = plain_opened M N n [] s g tt h.opened }
  act_kept M N x disk (Dates now) rest s holds g tied later may ages so zero left h = record { here = h.here; opened = plain_opened M N n [] s g tt h.opened }
  act_kept M N x disk (Works w) rest s holds g tied later may ages so zero left h = record { here = h.here; opened = plain_opened M N n [] s g tt h.opened }

  -- ---- small steps

  doing_kept : (M N : Memberships) (node : Node) (disk : NodeRecord) (d : Doing) (ds : List Doing) (s : Scene) → Holds (setting_of c) M → Grows M N → NodeTied c M n disk node
      → SiteTied c N n (effect c n (site node disk) d) → May c n told (site node disk) d → DoingAges n again (site node disk) d ds → DoingSo d → (again ≡ true → ZeroIn node)
      → IsLeft (passing n (gives c n (site node disk) d) s).links.next
      → (let y : Site = effect c n (site node disk) d in
      Kept M n (gives c n (site node disk) d ++ given_all c n y ds) node s → Kept N n (given_all c n y ds) y.node (passing n (gives c n (site node disk) d) s))
  doing_kept M N Down disk Comes_up ds s holds g tied later may ages so zero left h = record { here = tt; opened = plain_opened M N n (gives c n (site Down disk) Comes_up) s g (tt, tt) h.opened }
  doing_kept M N (Up x) disk Comes_up ds s holds g tied later may ages so zero left h = absurd may
  doing_kept M N node disk (Goes_down why) ds s holds g tied later may ages so zero left h = record { here = tt; opened = plain_opened M N n [] s g tt h.opened }
  doing_kept M N Down disk (Does a) ds s holds g tied later may ages so zero left h = absurd may
  doing_kept M N (Up x) disk (Does a) ds s holds g tied later may ages so zero left h =
      act_kept M N x disk a (given_all c n (effect c n (site (Up x) disk) (Does a)) ds) s holds g tied later may ages so zero left h
  doing_kept M N Down disk (Saves change) ds s holds g tied later may ages so zero left h = absurd may
  doing_kept M N (Up x) disk (Saves change) ds s holds g tied later may ages so zero left h = saves_kept M N x disk change ds s ages holds g tied later may h
  doing_kept M N Down disk (Loses change why) ds s holds g tied later may ages so zero left h = absurd may
  doing_kept M N (Up x) disk (Loses change why) ds s holds g tied later may ages so zero left h =
      lost_kept M N x disk change why (gives c n (site (Up x) disk) (Loses change why) ++ given_all c n (effect c n (site (Up x) disk) (Loses change why)) ds) (given_all c n (effect c n (site (Up x) disk) (Loses change why)) ds) s holds g tied may h
  doing_kept M N Down disk (Forgets change why) ds s holds g tied later may ages so zero left h = absurd may
  doing_kept M N (Up x) disk (Forgets change why) ds s holds g tied later may ages so zero left h =
      lost_kept M N x disk change why (gives c n (site (Up x) disk) (Forgets change why) ++ given_all c n (effect c n (site (Up x) disk) (Forgets change why)) ds) (given_all c n (effect c n (site (Up x) disk) (Forgets change why)) ds) s holds g tied may h

-- ---- what is no tick old stays so

less_some : (o : Option Proposed) (from place : ℕ) → is_some (less o from place) ≡ true → is_some o ≡ true
less_some None from place h = h
less_some (Some p) from place h = refl

minds_zero : (o q : Option Presidency) → SameProposed o q → AgeKept o q → OfficeZero o → OfficeZero q
minds_zero None None same kept h = tt
minds_zero (Some p) (Some q) same kept h = λ some. kept some ∙ h (subst (λ z. is_some z ≡ true) same some)
minds_zero None (Some q) same kept h = absurd same
minds_zero (Some p) None same kept h = absurd same

module _ (c : Cluster) (n : ℕ) (told : Delivered) (again : Bool) where
  rested_zero : (x : UpNode) (p : ℕ) (o : Option AttemptState) → OfficeZero (rested_by (promising x p) o).presidency
  rested_zero x p None = tt
  rested_zero x p (Some a) = tt

  change_zero : (x : UpNode) (change : Change) → MayChange c n told x change → OfficeZero x.presidency → OfficeZero (changed c n x change).presidency
  change_zero x (Promises p) may h = rested_zero x p x.attempt
  change_zero x (Leads p members) may h = tt
  change_zero x (Counts a k s i) may h = h
  change_zero x (Installs s i) may h = h
  change_zero x (Starts a k s) may h = λ some. refl
  change_zero x (Sits s e) may h = h
  change_zero x (Distrusts d) may h = h
  change_zero x (Admits at command a d) may h = h
  change_zero x (Proposes s p text) may h = λ some. refl
  change_zero x (Acks s p q left text) may h = λ some. absurd (false_true (subst (λ (z : Option Proposed). is_some z ≡ true) may.3 some))
  change_zero x (Prepares s text) may h = h
  change_zero x (Commits s) may h = h

  act_zero : (x : UpNode) (a : Act) → MayAct c n told x a → ActAges again x a → OfficeZero x.presidency → OfficeZero (acted c n x a).presidency
  act_zero x Ticks may ages h = absurd ages
  act_zero x (Queues a d kind) may ages h =
      if_either (λ (y : UpNode). OfficeZero y.presidency) (has a.plan.members n)
      (record x { tasks = after_seize x.tasks d (seizing.begun kind a.plan.epoch a.plan.members n c.id (has (record_of x).valid d)) }) x h h
  act_zero x (Makes change) may ages h = change_zero x change may.0 h
  act_zero x (Minds q p) may ages h = minds_zero x.presidency p may ages h
  act_zero x (Notes from place p) may ages h =
      λ some. (subst OfficeZero may.0 h) (less_some p.proposals.proposed from place some)
  act_zero x (Hears from b) may ages h = h
  act_zero x Waits may ages h = h
  act_zero x (Goes_on a k) may ages h = h
  act_zero x (Ends a e) may ages h = h
  act_zero x (Accepts kind e members d) may ages h = h
  act_zero x (Takes at command a) may ages h = h
  act_zero x (Stores d value a) may ages h = h
  act_zero x (Writes to b) may ages h = h
  act_zero x (Gives os) may ages h = h
  act_zero x (Spreads receivers b) may ages h = h
  act_zero x (Dates now) may ages h = h
  act_zero x (Works w) may ages h = h

  doing_zero : (node : Node) (disk : NodeRecord) (d : Doing) (ds : List Doing) → May c n told (site node disk) d → DoingAges n again (site node disk) d ds → ZeroIn node → ZeroIn (effect c n (site node disk) d).node
  doing_zero Down disk Comes_up ds may ages h = tt
  doing_zero (Up x) disk Comes_up ds may ages h = h
  doing_zero node disk (Goes_down why) ds may ages h = tt
  doing_zero Down disk (Does a) ds may ages h = tt
  doing_zero (Up x) disk (Does a) ds may ages h = act_zero x a may ages h
  doing_zero Down disk (Saves change) ds may ages h = tt
  doing_zero (Up x) disk (Saves change) ds may ages h = change_zero x change may h
  doing_zero node disk (Loses change why) ds may ages h = tt
  doing_zero node disk (Forgets change why) ds may ages h = tt

  -- ---- all small steps

  pub all_kept : (ds : List Doing) (M : Memberships) (x : Site) (s : Scene) → All IsDevice c.attached → Holds (setting_of c) M → Known M told → SiteTied c M n x → MayAll c n told x ds → AllAge c n again x ds → AllSo ds
      → (again ≡ true → ZeroIn x.node) → IsLeft (passing n (given_all c n x ds) s).links.next → Kept M n (given_all c n x ds) x.node s → Settled n (after_all c n x ds).node (passing n (given_all c n x ds) s)
  all_kept [] M x s fits holds known tied may ages so zero left h = record { here = h.here; opened = by_more (Begun M s.moments) (λ e. is_started e s.moments ≡ true) s.moments (λ e begun. begun.0) h.opened }
  all_kept (d ∷ ds) M x s fits holds known tied may ages so zero left h =
      let first : List Output = gives c n x d in
      let y : Site = effect c n x d in
      let rest : List Output = given_all c n y ds in
      let u : Scene = passing n first s in
      let g : GoesOn c M n y first (of_doing n d) = does_one c M n told x d fits holds known tied may.0 in
      let more : IsLeft (passing n rest u).links.next = subst (λ (z : Scene). IsLeft z.links.next) (passing_append n first rest s) left in
      let one : Kept g.machine n rest y.node u =
      doing_kept c n told again M g.machine x.node x.disk d ds s holds g.grows tied g.tied may.0 ages.0 so.0 zero (left_before u.links.next (passing n rest u).links.next (2 ^ 63) (passing_next n rest u) more) h in
      subst (λ (z : Scene). Settled n (after_all c n y ds).node z) (sym (passing_append n first rest s))
      (all_kept ds g.machine y u fits g.holds (known_stays c M g.machine told holds g.grows known) g.tied may.1 ages.1 so.1 (λ now. doing_zero x.node x.disk d ds may.0 ages.0 (zero now)) more one)
