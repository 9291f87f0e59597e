-- What is known of small steps; and a node goes down, or comes up.
use Rattle.std.specs.Prelude.{ℕ, ◌≢◌, ◌<◌, ◌+◌, ◌==◌, ◌++◌, Bool, List, [], ◌∷◌, length}
use Rattle.std.proofs.Common.{sym, subst, inl, inr, arith}
use Rattle.cl_base.specs.Sets.{has}
use Rattle.cl_base.specs.declared.header.Header.{Header}
use Rattle.cl_base.specs.declared.panic.Panic.TheVariants as panic
use Rattle.cmm_member.specs.Records.{NodeRecord}
use Rattle.pgr_device.specs.declared.command.PrCommand.{PrCommand}
use Rattle.pgr_device.specs.declared.command.PrCommand.TheVariants as command
use Rattle.status_report.specs.declared.device_entry.DeviceEntry.TheVariants as device_entry
use Rattle.status_report.specs.declared.entry.Entry.{Entry}
use Rattle.status_report.specs.declared.entry.Entry.TheVariants as entry
use Rattle.status_report.specs.declared.node_entry.DownCause.{DownCause}
use Rattle.status_report.specs.declared.node_entry.DownCause.TheVariants as cause
use Rattle.status_report.specs.declared.node_entry.NodeEntry.TheVariants as note
use Rattle.status_report.specs.declared.update_entry.UpdateEntry.TheVariants as update_entry
use Rattle.ccr_commit.specs.Entries.{texts_of}
use Rattle.history.specs.Moment.{Moment}
use Rattle.history.specs.Trace.{down}
use Rattle.history.specs.Validated.{Open, validity}
use Rattle.node_model.specs.Devices.{answer_told}
use Rattle.node_model.specs.declared.cluster.Cluster.{Cluster}
use Rattle.node_model.specs.declared.node.Node.TheVariants.{Down, Up}
use Rattle.node_model.specs.declared.node.UpNode.{UpNode}
use Rattle.refinement.specs.Doings.{Change, Doing, Site, effect, first_lines, given_all, gives, gone_line, of_node, site}
use Rattle.refinement.specs.Doings.Change.{Acks, Admits, Commits, Counts, Distrusts, Installs, Leads, Prepares, Promises, Proposes, Sits, Starts}
use Rattle.refinement.specs.Doings.Doing.{Comes_up, Forgets, Loses}
use Rattle.refinement.specs.Guards.{MayAll}
use Rattle.refinement.specs.Runs.{Nodes}
use Rattle.refinement.specs.Ties.{Delivered}
use Rattle.refinement.specs.Worlds.{AllFit}
use Rattle.run_history.specs.Guards.{Hand, hand_after}
use Rattle.run_history.specs.Marks.{AllSo}
use Rattle.run_history.specs.Scenes.{Scene, passing, telling}
use Rattle.run_messages.specs.records.Losses.{AllApart, DoingApart, IsLoss}
use Rattle.run_seizings.proofs.Asked.{AllMay}
use Rattle.run_seizings.proofs.Changes.{fit_parts}
use Rattle.run_seizings.proofs.Progress.{if_so, same_is}
use Rattle.run_devices.specs.validity.Kept.{Excuse, NoExcuse, SiteSo}
use Rattle.run_devices.specs.validity.Laws.{Agrees}
use Rattle.run_devices.proofs.validity.Acts.{strict}
use Rattle.run_devices.proofs.validity.Goes.{Goes, goes_at, line_goes}
use Rattle.run_devices.proofs.validity.Stills.{IsAside}

-- ---- what is known of small steps

abbrev pub DoingLost : Doing → Type 0
DoingLost (Loses ch why) = IsLoss why
DoingLost (Forgets ch why) = IsLoss why
DoingLost _ = Unit {0}

abbrev pub AllLost : List Doing → Type 0
AllLost [] = Unit {0}
AllLost (d ∷ ds) = DoingLost d × AllLost ds

doing_lost : (told : Delivered) (d : Doing) → DoingApart told d → DoingLost d
doing_lost told (Loses ch why) k = k
doing_lost told (Forgets ch why) k = k
doing_lost told _ k = tt

pub all_lost : (told : Delivered) (ds : List Doing) → AllApart told ds → AllLost ds
all_lost told [] k = tt
all_lost told (d ∷ ds) k = (doing_lost told d k.0, all_lost told ds k.1)

pub record Small (h : Header) (c : Cluster) (n : ℕ) (told : Delivered) (g : Hand) (x : Site) (ds : List Doing) : Type 0 where
  pub may : MayAll c n told x ds
  pub so : AllSo ds
  pub guard : AllMay h c n told g x ds
  pub lost : AllLost ds
  pub fit : AllFit n (given_all c n x ds)

pub small_rest : (h : Header) (c : Cluster) (n : ℕ) (told : Delivered) (g : Hand) (x : Site) (d : Doing) (ds : List Doing) → Small h c n told g x (d ∷ ds)
    → Small h c n told (hand_after g d) (effect c n x d) ds
small_rest h c n told g x d ds k =
    record { may = k.may.1; so = k.so.1; guard = k.guard.1; lost = k.lost.1; fit = (fit_parts n (gives c n x d) (given_all c n (effect c n x d) ds) k.fit).1 }

-- ---- a node goes down, or comes up

crash_told : (h : Header) (ms : List Moment) (n d : ℕ) (b : Bool) (why : DownCause) → Agrees (validity h n d ms) b → Agrees (validity h n d (down n why ∷ ms)) b
crash_told h ms n d b cause.Crash k = k
crash_told h ms n d b cause.Stopped k = subst (λ v. Agrees v b) (sym (if_so (n == n) Open (validity h n d ms) (same_is n))) tt
crash_told h ms n d b (cause.Panic panic.Disk) k = subst (λ v. Agrees v b) (sym (if_so (n == n) Open (validity h n d ms) (same_is n))) tt
crash_told h ms n d b (cause.Panic (panic.Fenced e)) k = k
crash_told h ms n d b (cause.Panic (panic.Excluded q)) k = k
crash_told h ms n d b (cause.Panic (panic.Stop r)) k = k

-- of a save that was lost nothing is told
loss_told : (h : Header) (ms : List Moment) (n d : ℕ) (b : Bool) (why : DownCause) → IsLoss why → Agrees (validity h n d (down n why ∷ ms)) b
loss_told h ms n d b cause.Stopped is = subst (λ v. Agrees v b) (sym (if_so (n == n) Open (validity h n d ms) (same_is n))) tt
loss_told h ms n d b (cause.Panic panic.Disk) is = subst (λ v. Agrees v b) (sym (if_so (n == n) Open (validity h n d ms) (same_is n))) tt
loss_told h ms n d b cause.Crash is = absurd is
loss_told h ms n d b (cause.Panic (panic.Fenced e)) is = absurd is
loss_told h ms n d b (cause.Panic (panic.Excluded q)) is = absurd is
loss_told h ms n d b (cause.Panic (panic.Stop r)) is = absurd is

pub gone_goes : (h : Header) (n : ℕ) (told : Delivered) (v w : Nodes) (disk : NodeRecord) (x : UpNode) (why : DownCause) (s : Scene) → Goes h n told v w NoExcuse (site (Up x) disk) s
    → Goes h n told v w NoExcuse (site Down disk) (passing n (gone_line n why) s)
gone_goes h n told v w disk x why s k =
    line_goes h n told v w NoExcuse NoExcuse (site (Up x) disk) (site Down disk) s (entry.Node n (note.Down why)) tt (λ j ne is. ne (sym is)) (record {
      valid = λ d is. inl (crash_told h s.moments n d (has disk.valid d) why (strict (Agrees (validity h n d s.moments) (has disk.valid d)) (k.here.valid d is)));
      up = tt;
    }) k

-- whatever its record was, and is
abbrev AnyExcuse : Excuse
AnyExcuse d = Unit {0}

any_site : (h : Header) (ms : List Moment) (n : ℕ) (new : NodeRecord) → SiteSo h ms n AnyExcuse (site Down new)
any_site h ms n new = record { valid = λ d is. inr tt; up = tt }

lost_line : (h : Header) (n : ℕ) (told : Delivered) (v w : Nodes) (new : NodeRecord) (why : DownCause) (s : Scene) → IsLoss why → Goes h n told v w AnyExcuse (site Down new) s
    → Goes h n told v w NoExcuse (site Down new) (passing n (gone_line n why) s)
lost_line h n told v w new why s loss k =
    line_goes h n told v w AnyExcuse NoExcuse (site Down new) (site Down new) s (entry.Node n (note.Down why)) tt (λ j ne is. ne (sym is))
    (record { valid = λ d is. inl (loss_told h s.moments n d (has new.valid d) why loss); up = tt }) k

-- a command of n leaves the others
pub own_command : (k n : ℕ) (c : PrCommand) → k ≢ n → IsAside k n c
own_command k n (command.Ignore new) ne = λ is. ne (sym is)
own_command k n command.Word ne = λ is. ne (sym is)
own_command k n command.Keys ne = tt
own_command k n (command.Reserve kind key) ne = tt
own_command k n (command.Register key new) ne = tt
own_command k n (command.Release kind key) ne = tt
own_command k n (command.Clear key) ne = tt
own_command k n (command.Preempt kind key victim) ne = tt
own_command k n command.Holder ne = tt
own_command k n command.Read ne = tt
own_command k n (command.Write value) ne = tt
own_command k n (command.Swap expect new) ne = tt

pub lost_goes : (h : Header) (n : ℕ) (told : Delivered) (v w : Nodes) (e : Excuse) (x : Site) (new : NodeRecord) (ch : Change) (why : DownCause) (s : Scene) → IsLoss why
    → Goes h n told v w e x s → Goes h n told v w NoExcuse (site Down new) (passing n (first_lines n ch ++ gone_line n why) s)
lost_goes h n told v w e x new ch why s loss k = by_change ch
  where
    any : Goes h n told v w AnyExcuse (site Down new) s
    any = goes_at h n told v w e AnyExcuse x (site Down new) s (any_site h s.moments n new) k

    more : (z : Entry) → Goes h n told v w AnyExcuse (site Down new) (telling z s) → Goes h n told v w NoExcuse (site Down new) (passing n (gone_line n why) (telling z s))
    more z l = lost_line h n told v w new why (telling z s) loss l

    none : Goes h n told v w NoExcuse (site Down new) (passing n (gone_line n why) s)
    none = lost_line h n told v w new why s loss any

    by_change : (ch : Change) → Goes h n told v w NoExcuse (site Down new) (passing n (first_lines n ch ++ gone_line n why) s)
    by_change (Admits at q a d) =
        let z : Entry = entry.Device (device_entry.Command n at q (answer_told a)) in
        more z (line_goes h n told v w AnyExcuse AnyExcuse (site Down new) (site Down new) s z tt (λ j ne. own_command j n q ne) (any_site h (telling z s).moments n new) any)
    by_change (Proposes y p text) =
        let z : Entry = entry.Update (update_entry.Proposed y.session (length (texts_of y.saved.entries) + 1) text) in
        more z (line_goes h n told v w AnyExcuse AnyExcuse (site Down new) (site Down new) s z tt (λ j ne. tt) (any_site h (telling z s).moments n new) any)
    by_change (Promises p) = none
    by_change (Leads p members) = none
    by_change (Counts a q y i) = none
    by_change (Installs y i) = none
    by_change (Starts a q y) = none
    by_change (Sits y p) = none
    by_change (Distrusts d) = none
    by_change (Acks y p q left text) = none
    by_change (Prepares y text) = none
    by_change (Commits y) = none

none_below : 0 < 0 → ⊥
none_below e = omega (arith, e)

pub up_goes : (h : Header) (c : Cluster) (n : ℕ) (told : Delivered) (v w : Nodes) (disk : NodeRecord) (s : Scene) → Goes h n told v w NoExcuse (site Down disk) s
    → Goes h n told v w NoExcuse (effect c n (site Down disk) Comes_up) (passing n (of_node n note.Up ∷ []) s)
up_goes h c n told v w disk s k =
    line_goes h n told v w NoExcuse NoExcuse (site Down disk) (effect c n (site Down disk) Comes_up) s (entry.Node n note.Up) tt (λ j ne. tt)
    (record { valid = k.here.valid; up = record { moved = λ some. absurd (none_below some); tasks = tt } }) k
