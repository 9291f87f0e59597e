-- Small steps one after another are steps of the whole.
use Rattle.std.specs.Prelude.{ℕ, ◌++◌, List, [], ◌∷◌}
use Rattle.std.proofs.Common.{refl}
use Rattle.cluster_machine.specs.Cluster.{Cluster as Whole}
use Rattle.cluster_ties.proofs.Moves.{and_on, nowhere}
use Rattle.cluster_ties.proofs.Others.{reached_stays}
use Rattle.cluster_ties.specs.Moves.{IsReached}
use Rattle.cluster_ties.specs.Ties.{Devices}
use Rattle.cmm_member.specs.Records.{NodeRecord}
use Rattle.membership_machine.specs.Events as membership
use Rattle.membership_machine.specs.Votes.{Setting}
use Rattle.node_model.specs.Seats.{record_of}
use Rattle.node_model.specs.declared.cluster.Cluster.{Cluster}
use Rattle.node_model.specs.declared.node.Node.TheVariants.{Up}
use Rattle.node_model.specs.declared.node.UpNode.{UpNode}
use Rattle.node_model.specs.declared.output.Output.{Output}
use Rattle.refinement.proofs.Acts.{run_append}
use Rattle.refinement.proofs.Ties.{known_stays, outputs_stay, told_append}
use Rattle.refinement.specs.Courses.{Course, Reply, under}
use Rattle.refinement.specs.Courses.Course.{Acts, Falls, Keeps, Stops}
use Rattle.refinement.specs.Courses.Reply.{Done, Lost_new, Lost_old}
use Rattle.refinement.specs.Doings.{Doing, Site, acted, after_all, changed, effect, given_all, gives, site}
use Rattle.refinement.specs.Events.{of_doing, of_doings}
use Rattle.refinement.specs.Guards.{MayAll}
use Rattle.refinement.specs.Ties.{Delivered, setting_of}
use Rattle.run_history.proofs.AtCalls.{Any}
use Rattle.run_history.proofs.WholeDoings.{Ready, doing_goes}
use Rattle.run_history.proofs.Stays.{known_of_stays, outputs_of_stay, run_grows, told_of_append, whole_holds}
use Rattle.run_history.specs.Guards.{AtAll, AtTo, Hand, hand_after, hand_by}
use Rattle.run_history.specs.Sites.{DoingGoes}

-- the hand after all
abbrev pub hand_all : Hand → List Doing → Hand
hand_all h [] = h
hand_all h (d ∷ ds) = hand_all (hand_after h d) ds

-- the two, one after the other
pub then_goes : (c : Cluster) (W : Whole) (n : ℕ) (before devices : Devices) (y z : Site) (os more : List Output) (events after : List membership.Event) (h h' : Hand) → IsReached (setting_of c) W
    → (g : DoingGoes c W n before y os events h) → DoingGoes c g.machine n devices z more after h' → DoingGoes c W n devices z (os ++ more) (events ++ after) h'
then_goes c W n before devices y z os more events after h h' reached g k =
    let S : Setting = setting_of c in
    let V : Whole = g.machine in
    let middle : IsReached S V = reached_stays S W V n reached g.moves in
    record {
      machine = k.machine;
      moves = and_on S W V k.machine n g.moves k.moves;
      run = run_append S W.memberships V.memberships k.machine.memberships events after g.run k.run;
      devices_so = k.devices_so;
      site_so = k.site_so;
      said = told_append k.machine.memberships n os more
          (outputs_stay c V.memberships k.machine.memberships n os (whole_holds S V middle) (run_grows S V.memberships k.machine.memberships after (whole_holds S V middle) k.run) g.said) k.said;
      told = told_of_append k.machine n os more (outputs_of_stay S V k.machine n n os middle k.moves g.told) k.told;
      hand = k.hand;
    }

none_goes : (c : Cluster) (W : Whole) (n : ℕ) (told : Delivered) (h : Hand) (devices : Devices) (x : Site) → Ready c W n told h devices x → DoingGoes c W n devices x [] [] h
none_goes c W n told h devices x r = record {
  machine = W;
  moves = nowhere (setting_of c) W n;
  run = refl;
  devices_so = r.tied;
  site_so = r.site_so;
  said = tt;
  told = tt;
  hand = r.hand;
}

-- what is known stays known
pub ready_after : (c : Cluster) (W : Whole) (n : ℕ) (told : Delivered) (h h' : Hand) (before devices : Devices) (x y : Site) (os : List Output) (events : List membership.Event) → Ready c W n told h before x
    → (g : DoingGoes c W n devices y os events h') → Ready c g.machine n told h' devices y
ready_after c W n told h h' before devices x y os events r g =
    let S : Setting = setting_of c in
    record {
      fits = r.fits;
      low = r.low;
      reached = reached_stays S W g.machine n r.reached g.moves;
      tied = g.devices_so;
      site_so = g.site_so;
      known = known_stays c W.memberships g.machine.memberships told (whole_holds S W r.reached) (run_grows S W.memberships g.machine.memberships events (whole_holds S W r.reached) g.run) r.known;
      known_of = known_of_stays S W g.machine n n told r.reached g.moves r.known_of;
      hand = g.hand;
    }

pub doings_go : (c : Cluster) (W : Whole) (n : ℕ) (told : Delivered) (h : Hand) (devices : Devices) (x : Site) (ds : List Doing) → Ready c W n told h devices x → MayAll c n told x ds
    → AtAll c n told h x ds → DoingGoes c W n devices (after_all c n x ds) (given_all c n x ds) (of_doings n ds) (hand_all h ds)
doings_go c W n told h devices x [] r may so = none_goes c W n told h devices x r
doings_go c W n told h devices x (d ∷ ds) r may so =
    let g : DoingGoes c W n devices (effect c n x d) (gives c n x d) (of_doing n d) (hand_after h d) = doing_goes c W n told h devices x d r may.0 so.0 in
    then_goes c W n devices devices (effect c n x d) (after_all c n (effect c n x d) ds) (gives c n x d) (given_all c n (effect c n x d) ds) (of_doing n d) (of_doings n ds) (hand_after h d)
    (hand_all (hand_after h d) ds) r.reached g
    (doings_go c g.machine n told (hand_after h d) devices (effect c n x d) ds (ready_after c W n told h (hand_after h d) devices devices x (effect c n x d) (gives c n x d) (of_doing n d) r g) may.1 so.1)

-- A course that may go may go under all replies.
pub at_under : (c : Cluster) (n : ℕ) (told : Delivered) (h : Hand) (x : UpNode) (disk : NodeRecord) (replies : List Reply) (k : Course) → AtTo c n told Any h x k
    → AtAll c n told h (site (Up x) disk) (under replies k)
at_under c n told h x disk replies Stops p = tt
at_under c n told h x disk replies (Acts a rest) p = (p.0, at_under c n told (hand_by h a) (acted c n x a) disk replies rest p.1)
at_under c n told h x disk [] (Keeps change rest) p = (p.0, tt)
at_under c n told h x disk (Done ∷ replies) (Keeps change rest) p = (p.0, at_under c n told h (changed c n x change) (record_of (changed c n x change)) replies rest p.1)
at_under c n told h x disk (Lost_new why ∷ replies) (Keeps change rest) p = (p.0, tt)
at_under c n told h x disk (Lost_old why ∷ replies) (Keeps change rest) p = (p.0, tt)
at_under c n told h x disk replies (Falls why) p = (tt, tt)
