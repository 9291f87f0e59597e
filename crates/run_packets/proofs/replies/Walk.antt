-- All that a node does in a step: its orders are of its membership, and are carried out in it.
use Rattle.std.specs.Prelude.{ℕ, ◌≡◌, ◌++◌, All, List, [], ◌∷◌, Option, None, Some, IsSome}
use Rattle.std.proofs.Common.{refl, sym, subst, ◌∙◌}
use Rattle.cmm_attempt.proofs.Basics.{false_true}
use Rattle.cmm_attempt.specs.Calls.{IsDevice}
use Rattle.cmm_member.specs.Records.{NodeRecord}
use Rattle.history.specs.Member.{in_collect, member_of}
use Rattle.history.specs.Moment.{Moment}
use Rattle.membership_machine.specs.Invariant.{Holds}
use Rattle.membership_machine.specs.State.{Memberships}
use Rattle.node_model.specs.Presidents.{sent_to}
use Rattle.node_model.specs.Seats.{session_of, state_of}
use Rattle.node_model.specs.Ticks.{later}
use Rattle.node_model.specs.declared.cluster.Cluster.{Cluster}
use Rattle.node_model.specs.declared.node.Node.TheVariants.{Down, Up}
use Rattle.node_model.specs.declared.node.Node.{Node}
use Rattle.node_model.specs.declared.node.UpNode.{UpNode}
use Rattle.node_model.specs.declared.output.Output.{Output}
use Rattle.node_model.specs.declared.presidency.Presidency.{Presidency}
use Rattle.node_model.specs.declared.seat.Seat.TheVariants.{Forming, Member}
use Rattle.node_model.specs.declared.seat.Seat.{Seat}
use Rattle.refinement.proofs.Acts.{does_one}
use Rattle.refinement.proofs.Ties.{known_stays}
use Rattle.refinement.specs.Doings.Act.{Accepts, Dates, Ends, Gives, Goes_on, Hears, Makes, Minds, Notes, Queues, Spreads, Stores, Takes, Ticks, Waits, Works, Writes}
use Rattle.refinement.specs.Doings.Doing.{Comes_up, Does, Forgets, Goes_down, Loses, Saves}
use Rattle.refinement.specs.Doings.{Act, Doing, Site, after_all, effect, first_lines, given_all, gives, gone_line, last_lines, said, saved_lines, site}
use Rattle.refinement.specs.Events.{of_doing}
use Rattle.refinement.specs.Guards.{May, MayAct, MayAll, MayWrite, TellNothing}
use Rattle.refinement.specs.Ties.{Delivered, GoesOn, Known, NodeTied, PresidentTied, SiteTied, setting_of}
use Rattle.run_history.proofs.Idle.{passing_append}
use Rattle.run_history.proofs.Lists.{both}
use Rattle.run_history.proofs.Small.{AllSmall, IsSmall, IsSmallAct}
use Rattle.run_history.specs.Scenes.{Scene, passing}
use Rattle.run_messages.proofs.Doings.{collects_after, doing_leads, first_good, then_good}
use Rattle.run_messages.proofs.Lines.{evens_still}
use Rattle.run_messages.proofs.Seats.{given_even}
use Rattle.run_messages.specs.Laws.{IsSeated, membership_in}
use Rattle.run_messages.specs.Outputs.{AreGood, AreStill}
use Rattle.run_messages.specs.Steps.{AreCollected, Leads, collecting}
use Rattle.run_packets.proofs.replies.Nodes.{doing_of, office_held}
use Rattle.run_packets.proofs.replies.Plain.{first_none, made_none, saved_none, spread_sends, ticked_none, write_none}
use Rattle.run_packets.proofs.replies.Sending.{orders_say, plain_says, spreads_say}
use Rattle.run_packets.specs.replies.Orders.{ActOrders, AllOrders, AllSaySo, BodySo, DoingOrders, GivesOf, NodeOf, NoOrder, NoOrderOut, OfficeOf}
use Rattle.wire.specs.declared.message.Body.TheVariants as body
use Rattle.wire.specs.declared.message.Body.{Body}

-- what a node gives besides
gives_say : (n : ℕ) (o : Option Presidency) (seat : Seat) (os : List Output) (s : Scene) → AreGood n os → AreStill n os → TellNothing os → ((p : Presidency) → o ≡ Some p → member_of n s.moments ≡ Some (state_of seat).session) → OfficeOf (state_of seat).session o
    → GivesOf o (state_of seat).session os → AllSaySo s.moments → AllSaySo (passing n os s).moments
gives_say n None seat os s good still none member office gives h = plain_says n os s good gives h
gives_say n (Some p) seat os s good still none member office gives h = orders_say n (state_of seat).session os s good still none (gives office) (member p refl) h

-- a president is a member
president_seated : (M : Memberships) (ms : List Moment) (n : ℕ) (o : Option Presidency) (seat : Seat) → PresidentTied M n o seat → member_of n ms ≡ membership_in seat → (p : Presidency) → o ≡ Some p
    → member_of n ms ≡ Some (state_of seat).session
president_seated M ms n o (Forming t) tied seated p has = absurd (subst (λ z. PresidentTied M n z (Forming t)) has tied)
president_seated M ms n o (Member t) tied seated p has = seated

-- a Prepare is sent by a president, in its membership
body_so : (ms : List Moment) (n : ℕ) (x : UpNode) (b : Body) → ((p : Presidency) → x.presidency ≡ Some p → member_of n ms ≡ Some (session_of x)) → NoOrder b → MayWrite x b → BodySo ms n b
body_so ms n x (body.Order o) member none may = absurd none
body_so ms n x (body.Prepare e v text) member none may = subst (λ k. member_of n ms ≡ Some k) (sym may.1) (by_office x.presidency refl may.0)
  where
    by_office : (o : Option Presidency) → x.presidency ≡ o → IsSome o → member_of n ms ≡ Some (session_of x)
    by_office None is some = absurd (false_true some)
    by_office (Some p) is some = member p is
body_so ms n x b member none may = tt

module _ (c : Cluster) (n : ℕ) (told : Delivered) where
  act_says : (M : Memberships) (x : UpNode) (disk : NodeRecord) (a : Act) (s : Scene) → NodeTied c M n disk (Up x) → MayAct c n told x a → ActOrders x a → IsSmallAct a → AreGood n (said c n x a) → IsSeated s.moments n (Up x)
      → NodeOf (Up x) → AllSaySo s.moments → AllSaySo (passing n (said c n x a) s).moments
  act_says M x disk (Hears from b) s tied may so small good seated of h = h
  act_says M x disk Ticks s tied may so small good seated of h = plain_says n (said c n x Ticks) s good (tt, ticked_none c x (later c x)) h
  act_says M x disk Waits s tied may so small good seated of h = h
  act_says M x disk (Goes_on a k) s tied may so small good seated of h = h
  act_says M x disk (Ends a e) s tied may so small good seated of h = plain_says n (said c n x (Ends a e)) s good (tt, tt) h
  act_says M x disk (Queues a d kind) s tied may so small good seated of h = h
  act_says M x disk (Accepts kind e members d) s tied may so small good seated of h = h
  act_says M x disk (Takes at command a) s tied may so small good seated of h = plain_says n (said c n x (Takes at command a)) s good (tt, tt) h
  act_says M x disk (Stores d value a) s tied may so small good seated of h = plain_says n (said c n x (Stores d value a)) s good (tt, write_none n x d value a) h
  act_says M x disk (Writes to b) s tied may so small good seated of h =
      spreads_say n b (said c n x (Writes to b)) s (member_of n s.moments) (refl, tt) good (λ ms is. body_so ms n x b (λ p has. is ∙ president_seated M s.moments n x.presidency x.seat tied.1 seated p has) so may) refl h
  act_says M x disk (Makes change) s tied may so small good seated of h = plain_says n (first_lines n change ++ last_lines c n x change) s good (made_none c n x change) h
  act_says M x disk (Gives os) s tied may so small good seated of h =
      gives_say n x.presidency x.seat os s good (evens_still n os (given_even os small may)) may (president_seated M s.moments n x.presidency x.seat tied.1 seated) (office_held c M n x disk tied of) so h
  act_says M x disk (Spreads receivers b) s tied may so small good seated of h =
      spreads_say n b (sent_to receivers b) s (member_of n s.moments) (spread_sends receivers b) good (λ ms is. body_so ms n x b (λ p has. is ∙ president_seated M s.moments n x.presidency x.seat tied.1 seated p has) so may) refl h
  act_says M x disk (Minds q p) s tied may so small good seated of h = h
  act_says M x disk (Notes from place p) s tied may so small good seated of h = h
  act_says M x disk (Dates now) s tied may so small good seated of h = h
  act_says M x disk (Works w) s tied may so small good seated of h = h

  doing_says : (M : Memberships) (node : Node) (disk : NodeRecord) (d : Doing) (s : Scene) → NodeTied c M n disk node → May c n told (site node disk) d → DoingOrders (site node disk) d → IsSmall d
      → AreGood n (gives c n (site node disk) d) → IsSeated s.moments n node → NodeOf node → AllSaySo s.moments → AllSaySo (passing n (gives c n (site node disk) d) s).moments
  doing_says M node disk Comes_up s tied may so small good seated of h = plain_says n (gives c n (site node disk) Comes_up) s good (tt, tt) h
  doing_says M node disk (Goes_down why) s tied may so small good seated of h = plain_says n (gone_line n why) s good (tt, tt) h
  doing_says M Down disk (Does a) s tied may so small good seated of h = absurd may
  doing_says M (Up x) disk (Does a) s tied may so small good seated of h = act_says M x disk a s tied may so small good seated of h
  doing_says M Down disk (Saves change) s tied may so small good seated of h = absurd may
  doing_says M (Up x) disk (Saves change) s tied may so small good seated of h = plain_says n (first_lines n change ++ saved_lines c n x change) s good (saved_none c n x change) h
  doing_says M node disk (Loses change why) s tied may so small good seated of h =
      plain_says n (first_lines n change ++ gone_line n why) s good (both NoOrderOut (first_lines n change) (gone_line n why) (first_none n change) (tt, tt)) h
  doing_says M node disk (Forgets change why) s tied may so small good seated of h =
      plain_says n (first_lines n change ++ gone_line n why) s good (both NoOrderOut (first_lines n change) (gone_line n why) (first_none n change) (tt, tt)) h

  pub all_walk : (ds : List Doing) (M : Memberships) (x : Site) (s : Scene) → All IsDevice c.attached → Holds (setting_of c) M → Known M told → SiteTied c M n x → MayAll c n told x ds → AllOrders c n x ds → AllSmall ds
      → AreCollected (collecting told) ds → in_collect n s.moments ≡ collecting told → AreGood n (given_all c n x ds) → IsSeated s.moments n x.node → NodeOf x.node → AllSaySo s.moments
      → NodeOf (after_all c n x ds).node × AllSaySo (passing n (given_all c n x ds) s).moments
  all_walk [] M x s fits holds known tied may so small calm at good seated of h = (of, h)
  all_walk (d ∷ ds) M x s fits holds known tied may so small calm at good seated of h =
      let first : List Output = gives c n x d in
      let y : Site = effect c n x d in
      let rest : List Output = given_all c n y ds in
      let u : Scene = passing n first s in
      let here : AreGood n first = first_good n first rest good in
      let g : GoesOn c M n y first (of_doing n d) = does_one c M n told x d fits holds known tied may.0 in
      let l : Leads n y.node first s = doing_leads c n told x.node x.disk d s may.0 small.0 calm.0 at here seated in
      subst (λ (z : Scene). NodeOf (after_all c n y ds).node × AllSaySo z.moments) (sym (passing_append n first rest s))
      (all_walk ds g.machine y u fits g.holds (known_stays c M g.machine told holds g.grows known) g.tied may.1 so.1 small.1 calm.1 (collects_after n first s here ∙ at) (then_good n first rest good) l.own
      (doing_of c M n told x.node x.disk d tied may.0 so.0 of) (doing_says M x.node x.disk d s tied may.0 so.0 small.0 here seated of h))
