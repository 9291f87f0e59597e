-- Small steps one after another.
use Rattle.std.specs.Prelude.{ℕ, List, [], ◌∷◌, All}
use Rattle.std.proofs.Common.{◌∙◌}
use Rattle.cmm_attempt.specs.Calls.{IsDevice}
use Rattle.cmm_member.specs.Records.{NodeRecord}
use Rattle.membership_machine.specs.Invariant.{Holds}
use Rattle.membership_machine.specs.State.{Memberships}
use Rattle.membership_machine.proofs.Growth.{grows_over}
use Rattle.node_model.specs.declared.cluster.Cluster.{Cluster}
use Rattle.node_model.specs.declared.node.Node.TheVariants.{Up}
use Rattle.node_model.specs.declared.node.UpNode.{UpNode}
use Rattle.node_model.specs.Seats.{record_of}
use Rattle.refinement.specs.Doings.{Doing, Site, acted, after_all, changed, effect, given_all, gives, site}
use Rattle.refinement.specs.Events.{of_doing, of_doings}
use Rattle.refinement.specs.Courses.{Course, Reply, under}
use Rattle.refinement.specs.Courses.Course.{Acts, Falls as Course_falls, Keeps, Stops}
use Rattle.refinement.specs.Courses.Reply.{Done, Lost_new, Lost_old}
use Rattle.refinement.specs.Guards.{MayAll, MayGo}
use Rattle.refinement.specs.Ties.{Delivered, GoesOn, Known, SiteTied, setting_of}
use Rattle.refinement.proofs.Acts.{does_one, run_append}
use Rattle.refinement.proofs.Ties.{known_stays, no_event, outputs_stay, told_append}

-- Each of these under its guard: they are events of the machine one after another.
pub does_all : (c : Cluster) (M : Memberships) (n : ℕ) (told : Delivered) (x : Site) (ds : List Doing) → All IsDevice c.attached → Holds (setting_of c) M → Known M told
    → SiteTied c M n x → MayAll c n told x ds → GoesOn c M n (after_all c n x ds) (given_all c n x ds) (of_doings n ds)
does_all c M n told x [] fits i known tied may = no_event c M n x [] i tied tt
does_all c M n told x (d ∷ ds) fits i known tied may =
    let g : GoesOn c M n (effect c n x d) (gives c n x d) (of_doing n d) = does_one c M n told x d fits i known tied may.0 in
    let h : GoesOn c g.machine n (after_all c n (effect c n x d) ds) (given_all c n (effect c n x d) ds) (of_doings n ds) =
    does_all c g.machine n told (effect c n x d) ds fits g.holds (known_stays c M g.machine told i g.grows known) g.tied may.1 in
    record {
      machine = h.machine;
      run = run_append (setting_of c) M g.machine h.machine (of_doing n d) (of_doings n ds) g.run h.run;
      holds = h.holds;
      grows = grows_over M g.machine h.machine g.grows h.grows;
      tied = h.tied;
      others = λ k ne. h.others k ne ∙ g.others k ne;
      said = told_append h.machine n (gives c n x d) (given_all c n (effect c n x d) ds) (outputs_stay c g.machine h.machine n (gives c n x d) g.holds h.grows g.said) h.said;
    }

-- A course that may go may go under all replies.
pub may_under : (c : Cluster) (n : ℕ) (told : Delivered) (x : UpNode) (disk : NodeRecord) (replies : List Reply) (k : Course) → MayGo c n told x k
    → MayAll c n told (site (Up x) disk) (under replies k)
may_under c n told x disk replies Stops h = tt
may_under c n told x disk replies (Acts a rest) h = (h.0, may_under c n told (acted c n x a) disk replies rest h.1)
may_under c n told x disk [] (Keeps change rest) h = (h.0, tt)
may_under c n told x disk (Done ∷ replies) (Keeps change rest) h = (h.0, may_under c n told (changed c n x change) (record_of (changed c n x change)) replies rest h.1)
may_under c n told x disk (Lost_new why ∷ replies) (Keeps change rest) h = (h.0, tt)
may_under c n told x disk (Lost_old why ∷ replies) (Keeps change rest) h = (h.0, tt)
may_under c n told x disk replies (Course_falls why) h = (tt, tt)
