-- A step of a node keeps the book.
use Rattle.std.specs.Prelude.{ℕ, ◌≡◌, ◌≢◌, ◌≤◌, ◌⊎◌, ◌++◌, All, List, [], ◌∷◌}
use Rattle.std.specs.List.{AllByRecursion}
use Rattle.std.proofs.Common.{refl, sym, subst, ◌∙◌, inl, inr}
use Rattle.cl_base.specs.declared.method.Outcome as method
use Rattle.cmm_attempt.specs.Calls.{IsDevice}
use Rattle.cmm_member.specs.Records.{NodeRecord}
use Rattle.history.specs.Deeds.{Deed, deeds}
use Rattle.machine_base.specs.Put.{put}
use Rattle.machine_base.proofs.Puts.{put_here, put_there, same_or_not}
use Rattle.membership_machine.specs.Growth.{Grows}
use Rattle.membership_machine.specs.Invariant.{Holds}
use Rattle.membership_machine.specs.State.{Memberships}
use Rattle.membership_machine.proofs.Growth.{grows_over, grows_same}
use Rattle.node_model.specs.Steps.{Outcome, stepped}
use Rattle.node_model.specs.declared.cluster.Cluster.{Cluster}
use Rattle.node_model.specs.declared.input.Input.{Input}
use Rattle.node_model.specs.declared.node.Node.{Node}
use Rattle.node_model.specs.declared.output.Output.{Output}
use Rattle.node_model.specs.declared.output.Output.TheVariants.{Sends, Tells}
use Rattle.record_disk.specs.Disks.{DiskState}
use Rattle.refinement.specs.Cuts.{doings}
use Rattle.refinement.specs.Doings.{Doing, Site, after_all, effect, given_all, gives, site}
use Rattle.refinement.specs.Events.{of_doing, of_doings}
use Rattle.refinement.specs.Facts.{JoinsIn}
use Rattle.refinement.specs.Guards.{MayAll}
use Rattle.refinement.specs.Runs.{Letter, Nodes, WasSent, letters_of, moved}
use Rattle.refinement.specs.Runs.Move.{Takes as Takes_in}
use Rattle.refinement.specs.Steps.{disk_rules}
use Rattle.refinement.specs.Ties.{AllTold, Delivered, GoesOn, Known, MessageTold, SiteTied, setting_of}
use Rattle.refinement.specs.Whole.{IsTrue, Stands}
use Rattle.refinement.proofs.Acts.{does_one, run_append}
use Rattle.refinement.proofs.Disks.{disks_keep_rules}
use Rattle.refinement.proofs.EveryRun.{is_true}
use Rattle.refinement.proofs.Facts.{known_by, step_may, steps_go}
use Rattle.refinement.proofs.Handlers.{delivered_by}
use Rattle.refinement.proofs.Ties.{known_stays, message_stays, node_stays, outputs_stay, told_append}
use Rattle.run_history.specs.Happenings.{taking}
use Rattle.run_history.specs.Scenes.{Scene, passing}
use Rattle.run_history.specs.Book.{Ledger}
use Rattle.run_history.specs.Booking.{Booking, Books, Keeps}
use Rattle.run_history.specs.Cuts.{StepCut, step_events}
use Rattle.run_history.specs.Marks.{AllSo, deed_of, deeds_on}
use Rattle.run_history.proofs.DeedChanges.{doing_book, one_deed}
use Rattle.run_history.proofs.Courses.{doings_so}
use Rattle.run_history.proofs.DeedDoings.{AllPass, doings_pass}
use Rattle.run_history.proofs.Ledgers.{goes_on}

-- ---- small steps

nothing_keeps : (c : Cluster) (M : Memberships) (n : ℕ) (x : Site) (ds : List Deed) → Holds (setting_of c) M → SiteTied c M n x → Ledger (setting_of c) M ds → Keeps c M n x [] [] ds
nothing_keeps c M n x ds i tied h = record {
  goes = record { machine = M; run = refl; holds = i; grows = grows_same (setting_of c) M i; tied = tied; others = λ k ne. refl; said = tt };
  ledger = h;
}

all_keep : (c : Cluster) (M : Memberships) (n : ℕ) (told : Delivered) (x : Site) (small : List Doing) (ds : List Deed) → All IsDevice c.attached → Holds (setting_of c) M → Known M told
    → SiteTied c M n x → MayAll c n told x small → AllSo small → Ledger (setting_of c) M ds
    → Keeps c M n (after_all c n x small) (given_all c n x small) (of_doings n small) (deeds_on ds small)
all_keep c M n told x [] ds fits i known tied may so h = nothing_keeps c M n x ds i tied h
all_keep c M n told x (d ∷ small) ds fits i known tied may so h =
    let g : GoesOn c M n (effect c n x d) (gives c n x d) (of_doing n d) = does_one c M n told x d fits i known tied may.0 in
    let l : Ledger (setting_of c) g.machine (deed_of d ++ ds) =
    goes_on (setting_of c) M g.machine ds (deed_of d) h g.holds g.grows (one_deed d) (doing_book c M g.machine n told x.node x.disk d ds i tied may.0 so.0 g.run h.booked) in
    let k : Keeps c g.machine n (after_all c n (effect c n x d) small) (given_all c n (effect c n x d) small) (of_doings n small) (deeds_on (deed_of d ++ ds) small) =
    all_keep c g.machine n told (effect c n x d) small (deed_of d ++ ds) fits g.holds (known_stays c M g.machine told i g.grows known) g.tied may.1 so.1 l in
    record {
      goes = record {
        machine = k.goes.machine;
        run = run_append (setting_of c) M g.machine k.goes.machine (of_doing n d) (of_doings n small) g.run k.goes.run;
        holds = k.goes.holds;
        grows = grows_over M g.machine k.goes.machine g.grows k.goes.grows;
        tied = k.goes.tied;
        others = λ j ne. k.goes.others j ne ∙ g.others j ne;
        said = told_append k.goes.machine n (gives c n x d) (given_all c n (effect c n x d) small)
            (outputs_stay c g.machine k.goes.machine n (gives c n x d) g.holds k.goes.grows g.said) k.goes.said;
      };
      ledger = k.ledger;
    }

-- ---- all nodes

abbrev AllTrue : Memberships → List Letter → Type 0
AllTrue M letters = AllByRecursion (λ (l : Letter). MessageTold M l.from l.body) letters

all_stay : (c : Cluster) (M N : Memberships) (letters : List Letter) → Holds (setting_of c) M → Grows M N → AllTrue M letters → AllTrue N letters
all_stay c M N [] i g h = tt
all_stay c M N (l ∷ letters) i g h = (message_stays c M N l.from l.body i g h.0, all_stay c M N letters i g h.1)

more_true : (M : Memberships) (n : ℕ) (os : List Output) (letters : List Letter) → AllTold M n os → AllTrue M letters → AllTrue M (letters_of n os ++ letters)
more_true M n [] letters h k = k
more_true M n (Tells e ∷ os) letters h k = more_true M n os letters h.1 k
more_true M n (Sends to b ∷ os) letters h k = (h.0, more_true M n os letters h.1 k)

stands_stay : (c : Cluster) (M N : Memberships) (n : ℕ) (node : Node) (disk : NodeRecord) → Holds (setting_of c) M → Grows M N → N.node n ≡ M.node n → Stands c M n node disk → Stands c N n node disk
stands_stay c M N n node disk i g same h = record { tied = node_stays c M N n disk node i g same h.tied; joins = h.joins }

-- node n with its disk is replaced
pub put_stands : (c : Cluster) (N : Memberships) (w : Nodes) (n : ℕ) (node : Node) (disk : DiskState) → Stands c N n node disk.kept
    → ((k : ℕ) → k ≢ n → Stands c N k (w.node k) (w.disk k).kept) → (k : ℕ) → Stands c N k (put w.node n node k) (put w.disk n disk k).kept
put_stands c N w n node disk here there k = go (same_or_not k n)
  where
    go : (k ≡ n) ⊎ (k ≢ n) → Stands c N k (put w.node n node k) (put w.disk n disk k).kept
    go (inl e) =
        subst (λ j. Stands c N j (put w.node n node j) (put w.disk n disk j).kept) (sym e)
        (subst (λ x. Stands c N n x (put w.disk n disk n).kept) (sym (put_here w.node n node)) (subst (λ (d : DiskState). Stands c N n node d.kept) (sym (put_here w.disk n disk)) here))
    go (inr ne) =
        subst (λ x. Stands c N k x (put w.disk n disk k).kept) (sym (put_there w.node n node k ne))
        (subst (λ (d : DiskState). Stands c N k (w.node k) d.kept) (sym (put_there w.disk n disk k ne)) (there k ne))

-- ---- a step

pub step_books : (c : Cluster) (n now : ℕ) (ends : method.Outcome) (i : Input) (s : Scene) (M : Memberships) (cut : StepCut c n now ends s.nodes i) → n ≤ 32 → All IsDevice c.attached
    → WasSent s.nodes i → Booking c s M → Books c (taking c n now ends i s) M (step_events c n now ends s.nodes i cut)
step_books c n now ends i s M cut low fits was b =
    let v : Nodes = s.nodes in
    let o : Outcome DiskState = stepped disk_rules c n now ends (v.node n) (v.disk n) i in
    let told : Delivered = delivered_by i in
    let truth : IsTrue M i = is_true M v i was b.sent in
    let known : Known M told = known_by M i truth in
    let x : Site = site (v.node n) (v.disk n).kept in
    let small : List Doing = doings c n now ends cut.replies i (v.node n) in
    let may : MayAll c n told x small = step_may c M n now ends (v.node n) (v.disk n).kept i cut.replies low fits b.holds (b.stands n).tied (b.stands n).joins in
    let so : AllSo small = doings_so c n now ends cut.replies i (v.node n) in
    let k : Keeps c M n (after_all c n x small) (given_all c n x small) (of_doings n small) (deeds_on (deeds s.moments) small) =
    all_keep c M n told x small (deeds s.moments) fits b.holds known (b.stands n).tied may so b.ledger in
    let N : Memberships = k.goes.machine in
    let joins : JoinsIn o.after = (steps_go disk_rules disks_keep_rules c M n now ends (v.node n) (v.disk n) i low fits b.holds truth (b.stands n)).stands.joins in
    let here : Stands c N n o.after o.disk.kept = record { tied = subst (λ z. SiteTied c N n z) cut.comes.left k.goes.tied; joins = joins } in
    let t : Scene = record s { nodes = moved c v (Takes_in n now ends i) } in
    let pass : AllPass t (passing n o.given t) small = subst (λ os. AllPass t (passing n os t) small) cut.comes.given (doings_pass c n told x small t may so b.closed) in
    record {
      machine = N;
      run = k.goes.run;
      booking = record {
        holds = k.goes.holds;
        stands = subst (λ (w : Nodes). (j : ℕ) → Stands c N j (w.node j) (w.disk j).kept) (sym pass.nodes)
            (put_stands c N v n o.after o.disk here (λ j ne. stands_stay c M N j (v.node j) (v.disk j).kept b.holds k.goes.grows (k.goes.others j ne) (b.stands j)));
        sent = subst (λ (w : Nodes). AllTrue N w.sent) (sym pass.nodes)
            (more_true N n o.given v.sent (subst (λ os. AllTold N n os) cut.comes.given k.goes.said) (all_stay c M N v.sent b.holds k.goes.grows b.sent));
        closed = pass.closed;
        ledger = subst (λ ds. Ledger (setting_of c) N ds) (sym pass.deeds) k.ledger;
      };
    }
