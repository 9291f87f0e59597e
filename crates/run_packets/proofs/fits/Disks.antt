-- A node whose records fit, as its disk is: no save of it fails but by a stop.
use Rattle.std.specs.Prelude.{ℕ, suc, ◌+◌, ◌≡◌, ◌<◌, ◌≤◌, ◌^◌, ◌++◌, ◌&&◌, Bool, true, false, if◌then◌else◌, List, [], ◌∷◌, Option, None, Some}
use Rattle.std.specs.List.{AllByRecursion}
use Rattle.std.proofs.Common.{refl, sym, subst, ◌∙◌, arith}
use Rattle.std.proofs.lemmas.List.{append_assoc, append-nil}
use Rattle.cl_base.specs.declared.panic.Panic.TheVariants as panic
use Rattle.cmm_member.specs.Records.{NodeRecord}
use Rattle.node_model.specs.Plans.{Plan}
use Rattle.node_model.specs.Plans.Plan.{Falls as Plan_falls, Saves, Says, Stays}
use Rattle.node_model.specs.Seats.{record_of}
use Rattle.node_model.specs.Steps.{Outcome, carried, gone, unless_lost}
use Rattle.node_model.specs.declared.cluster.Cluster.{Cluster}
use Rattle.node_model.specs.declared.node.UpNode.{UpNode}
use Rattle.node_model.specs.declared.output.Output.{Output}
use Rattle.node_model.specs.declared.output.Output.TheVariants.{Sends, Tells}
use Rattle.record_disk.specs.Disks.{DiskState, crashed, fits, in_four, next_save, saved, saving, stands_after, stops_in_four}
use Rattle.record_disk.specs.Savings.{Saving}
use Rattle.record_disk.specs.declared.error.Loss.{Loss}
use Rattle.record_disk.specs.declared.error.Loss.TheVariants.{Fault, Stopped}
use Rattle.record_store.specs.Images.{other_slot}
use Rattle.refinement.proofs.Plans.{said_singly}
use Rattle.refinement.specs.Courses.{Course, Reply, plan_from, saying, under}
use Rattle.refinement.specs.Courses.Course.{Acts, Falls, Keeps, Stops}
use Rattle.refinement.specs.Courses.Reply.{Done, Lost_new}
use Rattle.refinement.specs.Doings.{Act, acted, after_all, changed, first_lines, gone_line, last_lines, said, saved_lines, site}
use Rattle.refinement.specs.Doings.Act.{Gives}
use Rattle.node_model.specs.declared.node.Node.TheVariants.{Up}
use Rattle.run_downs.proofs.Outputs.{GivesAsides, first_steady, last_steady, said_steady}
use Rattle.run_downs.specs.Calls.{AllSteady, IsSteady}
use Rattle.status_report.specs.declared.entry.Entry.TheVariants as entry
use Rattle.status_report.specs.declared.node_entry.DownCause.{DownCause}
use Rattle.status_report.specs.declared.node_entry.DownCause.TheVariants as cause
use Rattle.status_report.specs.declared.node_entry.NodeEntry.TheVariants as note
use Rattle.run_packets.specs.fits.Known.{FallsSo, IfUp, KnownAct, KnownCourse}

-- ---- what is told

-- that no disk has failed
abbrev pub TellsSo : Output → Type 0
TellsSo (Tells (entry.Node m (note.Down (cause.Panic panic.Disk)))) = ⊥
TellsSo _ = Unit {0}

abbrev pub AllTellSo : List Output → Type 0
AllTellSo os = AllByRecursion TellsSo os

-- how many lines there are
abbrev pub lines_in : List Output → ℕ
lines_in [] = 0
lines_in (Tells e ∷ os) = suc (lines_in os)
lines_in (Sends to b ∷ os) = lines_in os

pub lines_append : (os more : List Output) → lines_in (os ++ more) ≡ lines_in os + lines_in more
lines_append [] more = omega arith
lines_append (Tells e ∷ os) more = omega (arith, lines_append os more)
lines_append (Sends to b ∷ os) more = lines_append os more

so_append : (os more : List Output) → AllTellSo os → AllTellSo more → AllTellSo (os ++ more)
so_append [] more h k = k
so_append (o ∷ os) more h k = (h.0, so_append os more h.1 k)

steady_one : (o : Output) → IsSteady o → TellsSo o
steady_one (Tells (entry.Node m (note.Down (cause.Panic panic.Disk)))) h = absurd h
steady_one _ h = tt

steady_so : (os : List Output) → AllSteady os → AllTellSo os
steady_so [] h = tt
steady_so (o ∷ os) h = (steady_one o h.0, steady_so os h.1)

asides : (c : Cluster) (x : UpNode) (a : Act) → KnownAct c x a → GivesAsides a
asides c x (Gives os) h = h
asides c x _ h = tt

-- ---- records that fit

abbrev pub CanSave : NodeRecord → Type 0
CanSave r = (saves : ℕ) → saves < 2 ^ 63 → fits saves r ≡ true

-- each record that the course saves can be saved
abbrev pub KeepsFit : Cluster → ℕ → UpNode → Course → Type 0
KeepsFit c n x Stops = Unit {0}
KeepsFit c n x (Acts a rest) = KeepsFit c n (acted c n x a) rest
KeepsFit c n x (Keeps ch rest) = CanSave (record_of (changed c n x ch)) × KeepsFit c n (changed c n x ch) rest
KeepsFit c n x (Falls why) = Unit {0}

-- where it is so of what the disk has in the end, whatever becomes of the saves
pub keeps_from : (c : Cluster) (n : ℕ) (x : UpNode) (disk : NodeRecord) (k : Course) → ((replies : List Reply) → CanSave (after_all c n (site (Up x) disk) (under replies k)).disk) → KeepsFit c n x k
keeps_from c n x disk Stops f = tt
keeps_from c n x disk (Acts a rest) f = keeps_from c n (acted c n x a) disk rest f
keeps_from c n x disk (Keeps ch rest) f = (f (Lost_new cause.Stopped ∷ []), keeps_from c n (changed c n x ch) (record_of (changed c n x ch)) rest (λ replies. f (Done ∷ replies)))
keeps_from c n x disk (Falls why) f = tt

-- ---- a save

by_test : {X : Type 0} (P : X → Type 0) (b : Bool) (x y : X) → (b ≡ true → P x) → (b ≡ false → P y) → P (if b then x else y)
by_test P true x y f g = f refl
by_test P false x y f g = g refl

-- what a save has come to, after so many
abbrev SavedSo : ℕ → DiskState → Option Loss → Type 0
SavedSo saves after None = (after.mounted ≡ true) × (after.saves ≤ suc saves)
SavedSo saves after (Some Stopped) = after.saves ≤ suc saves
SavedSo saves after (Some Fault) = ⊥

abbrev SavingSo : ℕ → Saving DiskState → Type 0
SavingSo saves s = SavedSo saves s.after s.lost

next_most : (saves : ℕ) → next_save saves ≤ suc saves
next_most saves = omega arith

same_most : (saves : ℕ) → saves ≤ suc saves
same_most saves = omega arith

both : (a b : Bool) → a ≡ true → b ≡ true → (a && b) ≡ true
both true true h k = refl
both false b h k = absurd (cc)
both true false h k = absurd (cc)

not_both : (b : Bool) → b ≡ true → b ≡ false → ⊥
not_both true h k = cc
not_both false h k = cc

save_so : (d : DiskState) (r : NodeRecord) → d.mounted ≡ true → fits (next_save d.saves) r ≡ true → SavingSo d.saves (saving d r)
save_so d r mounted fit =
    let stands : Bool = stands_after d.stop (other_slot d.slot) in
    let left : DiskState = if stands then saved d r else d in
    by_test (SavingSo d.saves) (d.mounted && fits (next_save d.saves) r) (in_four d.stop (saved d r) left) (record { after = d; lost = Some Fault })
    (λ can. by_test (SavingSo d.saves) (stops_in_four d.stop) (record { after = crashed left; lost = Some Stopped }) (record { after = saved d r; lost = None })
    (λ near. by_test (λ (z : DiskState). z.saves ≤ suc d.saves) stands (saved d r) d (λ at. next_most d.saves) (λ at. same_most d.saves))
    (λ far. (refl, next_most d.saves)))
    (λ cannot. absurd (not_both (d.mounted && fits (next_save d.saves) r) (both d.mounted (fits (next_save d.saves) r) mounted fit) cannot))

-- ---- a course

-- what it gives more tells of no failed disk; there are no more saves than lines, and the disk of a node that is up is mounted
pub record Fine (base : ℕ) (given : List Output) (o : Outcome DiskState) : Type 0 where
  pub more : List Output
  pub given_so : given ++ more ≡ o.given
  pub tells : AllTellSo more
  pub saves : o.disk.saves ≤ base + lines_in o.given
  pub mounted : IfUp (λ x. o.disk.mounted ≡ true) o.after

fine_then : (base : ℕ) (given os : List Output) (o : Outcome DiskState) → AllTellSo os → Fine base (given ++ os) o → Fine base given o
fine_then base given os o so h = record {
  more = os ++ h.more;
  given_so = sym (append_assoc given os h.more) ∙ h.given_so;
  tells = so_append os h.more so h.tells;
  saves = h.saves;
  mounted = h.mounted;
}

says_all : (me : ℕ) (os : List Output) (p : Plan) (given : List Output) (disk : DiskState) → carried saving me p (given ++ os) disk ≡ carried saving me (saying os p) given disk
says_all me os p given disk = (said_singly saving me os p).is given disk

-- a plan gives no less
gives_more : (me : ℕ) (p : Plan) (given : List Output) (disk : DiskState) → lines_in given ≤ lines_in (carried saving me p given disk).given
gives_more me (Stays x) given disk = omega arith
gives_more me (Plan_falls why) given disk = omega (arith, lines_append given (gone_line me why))
gives_more me (Says os rest) given disk = omega (arith, lines_append given os, gives_more me rest (given ++ os) disk)
gives_more me (Saves r rest) given disk = by_loss (saving disk r).lost (gives_more me rest given (saving disk r).after)
  where
    by_loss : (lost : Option Loss) → lines_in given ≤ lines_in (carried saving me rest given (saving disk r).after).given
        → lines_in given ≤ lines_in (unless_lost me given (saving disk r).after lost (carried saving me rest given (saving disk r).after)).given
    by_loss None h = h
    by_loss (Some Stopped) h = omega (arith, lines_append given (gone_line me cause.Stopped))
    by_loss (Some Fault) h = omega (arith, lines_append given (gone_line me (cause.Panic panic.Disk)))

more_lines : (k : ℕ) (given os : List Output) → k ≤ lines_in given → k ≤ lines_in (given ++ os)
more_lines k given os h = omega (arith, h, lines_append given os)

-- a save is told, or the node's fall
told_once : (me : ℕ) (os : List Output) (p : Plan) (told : List Output) (after : DiskState) (lost : Option Loss)
    → suc (lines_in told) ≤ lines_in (unless_lost me told after lost (carried saving me (saying (Tells (entry.Node me note.Saved) ∷ os) p) told after)).given
told_once me os p told after None =
    let last : List Output = Tells (entry.Node me note.Saved) ∷ os in
    subst (λ (o : Outcome DiskState). suc (lines_in told) ≤ lines_in o.given) (says_all me last p told after) (omega (arith, lines_append told last, gives_more me p (told ++ last) after))
told_once me os p told after (Some Stopped) = omega (arith, lines_append told (gone_line me cause.Stopped))
told_once me os p told after (Some Fault) = omega (arith, lines_append told (gone_line me (cause.Panic panic.Disk)))

low_next : (saves base told all : ℕ) → saves ≤ base + told → suc told ≤ all → base + all < 2 ^ 63 → next_save saves < 2 ^ 63
low_next saves base told all h k l = omega (arith, h, k, l)

fine_stopped : (base me : ℕ) (told : List Output) (saves : ℕ) (after : DiskState) → saves ≤ base + lines_in told → after.saves ≤ suc saves → Fine base told (gone me cause.Stopped told after)
fine_stopped base me told saves after few more = record {
  more = gone_line me cause.Stopped;
  given_so = refl;
  tells = (tt, tt);
  saves = omega (arith, few, more, lines_append told (gone_line me cause.Stopped));
  mounted = tt;
}

saved_few : (a saves base told os : ℕ) → a ≤ suc saves → saves ≤ base + told → a ≤ base + (told + suc os)
saved_few a saves base told os h k = omega (arith, h, k)

fall_so : (me : ℕ) (why : DownCause) → FallsSo why → AllTellSo (gone_line me why)
fall_so me (cause.Panic panic.Disk) h = absurd h
fall_so me _ h = (tt, tt)

few_more : (saves base : ℕ) (given os : List Output) → saves ≤ base + lines_in given → saves ≤ base + lines_in (given ++ os)
few_more saves base given os h = omega (arith, h, lines_append given os)

pub course_fine : (base : ℕ) (c : Cluster) (me : ℕ) (x : UpNode) (k : Course) (given : List Output) (disk : DiskState) → KnownCourse c me x k → KeepsFit c me x k → disk.mounted ≡ true → disk.saves ≤ base + lines_in given
    → base + lines_in (carried saving me (plan_from c me x k) given disk).given < 2 ^ 63 → Fine base given (carried saving me (plan_from c me x k) given disk)
course_fine base c me x Stops given disk known fit mounted few small = record { more = []; given_so = append-nil given; tells = tt; saves = few; mounted = mounted }
course_fine base c me x (Acts a rest) given disk known fit mounted few small =
    let os : List Output = said c me x a in
    let p : Plan = plan_from c me (acted c me x a) rest in
    let same : carried saving me p (given ++ os) disk ≡ carried saving me (saying os p) given disk = says_all me os p given disk in
    subst (Fine base given) same
    (fine_then base given os (carried saving me p (given ++ os) disk) (steady_so os (said_steady c me x a (asides c x a known.0)))
    (course_fine base c me (acted c me x a) rest (given ++ os) disk known.1 fit mounted (few_more disk.saves base given os few)
    (subst (λ (o : Outcome DiskState). base + lines_in o.given < 2 ^ 63) (sym same) small)))
course_fine base c me x (Keeps ch rest) given disk known fit mounted few small =
    subst (Fine base given) whole
    (fine_then base given first (carried saving me (Saves r (saying last p)) told disk) (steady_so first (first_steady me ch))
    (by_loss (saving disk r).lost (save_so disk r mounted (fit.0 (next_save disk.saves) low))
    (λ up less. course_fine base c me y rest (told ++ last) after known.1 fit.1 up less)
    (subst (λ (o : Outcome DiskState). base + lines_in o.given < 2 ^ 63) (sym whole) small)))
  where
    y : UpNode
    y = changed c me x ch

    r : NodeRecord
    r = record_of y

    first : List Output
    first = first_lines me ch

    last : List Output
    last = saved_lines c me x ch

    p : Plan
    p = plan_from c me y rest

    told : List Output
    told = given ++ first

    after : DiskState
    after = (saving disk r).after

    whole : carried saving me (Saves r (saying last p)) told disk ≡ carried saving me (saying first (Saves r (saying last p))) given disk
    whole = says_all me first (Saves r (saying last p)) given disk

    few_told : disk.saves ≤ base + lines_in told
    few_told = few_more disk.saves base given first few

    low : next_save disk.saves < 2 ^ 63
    low =
        low_next disk.saves base (lines_in told) (lines_in (carried saving me (Saves r (saying last p)) told disk).given) few_told (told_once me (last_lines c me x ch) p told after (saving disk r).lost)
        (subst (λ (o : Outcome DiskState). base + lines_in o.given < 2 ^ 63) (sym whole) small)

    by_loss : (lost : Option Loss) → SavedSo disk.saves after lost
        → (after.mounted ≡ true → after.saves ≤ base + lines_in (told ++ last) → base + lines_in (carried saving me p (told ++ last) after).given < 2 ^ 63 → Fine base (told ++ last) (carried saving me p (told ++ last) after))
        → base + lines_in (unless_lost me told after lost (carried saving me (saying last p) told after)).given < 2 ^ 63 → Fine base told (unless_lost me told after lost (carried saving me (saying last p) told after))
    by_loss None h go under_it =
        let same : carried saving me p (told ++ last) after ≡ carried saving me (saying last p) told after = says_all me last p told after in
        let now : after.saves ≤ base + lines_in (told ++ last) =
        subst (λ k. after.saves ≤ base + k) (sym (lines_append told last)) (saved_few after.saves disk.saves base (lines_in told) (lines_in (last_lines c me x ch)) h.1 few_told) in
        subst (Fine base told) same
        (fine_then base told last (carried saving me p (told ++ last) after) (tt, steady_so (last_lines c me x ch) (last_steady c me x ch))
        (go h.0 now (subst (λ (o : Outcome DiskState). base + lines_in o.given < 2 ^ 63) (sym same) under_it)))
    by_loss (Some Stopped) h go under_it = fine_stopped base me told disk.saves after few_told h
    by_loss (Some Fault) h go under_it = absurd h
course_fine base c me x (Falls why) given disk known fit mounted few small =
    record { more = gone_line me why; given_so = refl; tells = fall_so me why known; saves = few_more disk.saves base given (gone_line me why) few; mounted = tt }
