-- Records: what the record of a node holds of the repository, and which records the coordinator of an attempt has in hand.
use Rattle.std.specs.Prelude.{ℕ, ◌+◌, ◌-◌, ◌==◌, ◌&&◌, ◌||◌, not, nat_lt, Bool, true, false, if◌then◌else◌, List, [], ◌∷◌, ◌++◌, length, find, Option, Some, None, is_some, option_map}
use Rattle.std.specs.List.{list_any}
use Rattle.std.specs.Option.{option_to_list, option_and_then}
use Rattle.wire.specs.declared.message.Body.{Body}
use Rattle.wire.specs.declared.message.Body.TheVariants as body
use Rattle.history.specs.Moment.{Moment}
use Rattle.history.specs.Names as name
use Rattle.history.specs.Names.{Name, named}
use Rattle.history.specs.Trace.{saved, installed, member, sent, start, base, propose, ack, stopped, disk_failed}
use Rattle.history.specs.Order.{before_last}
use Rattle.history.specs.Setting.{coordinator}
use Rattle.history.specs.Letters.{Letter, arriving, arrived, is_letter, says, text_in}
use Rattle.history.specs.Member.{promised_to}
use Rattle.history.specs.Starts.{Start, completed, base_so_far}
use Rattle.history.specs.Deeds.{Deed, deeds, has_started, base_in}
use Rattle.history.specs.Seizing.{is_attempt, is_number, or_else}

-- ---- a record

pub record NodeRecord : Type 0 where
  -- the installed epoch
  pub installed : ℕ
  -- the updates, and whether the last of them is pending
  pub texts : List (List ℕ)
  pub pending : Bool

-- a new node's
abbrev pub first_record : NodeRecord
first_record = record { installed = 0; texts = []; pending = false }

-- what a Promise shows, and what an Install brings: the committed texts and then the pending one
abbrev pub record_in : Option Body → Option NodeRecord
record_in (Some (body.Promise epoch newest members valid flagged committed pending)) =
    Some (record { installed = newest; texts = committed ++ option_to_list pending; pending = is_some pending })
record_in (Some (body.Install i)) = Some (record { installed = i.epoch; texts = i.committed ++ option_to_list i.pending; pending = is_some i.pending })
record_in _ = None

abbrev pub record_told : Option Letter → Option NodeRecord
record_told letter = option_and_then (λ (l : Letter). record_in (says l.bytes)) letter

-- an update at its place; what stands there already is not added again
abbrev pub with_update : ℕ → Option (List ℕ) → NodeRecord → NodeRecord
with_update v None r = r
with_update v (Some words) r = if v == length r.texts + 1 then record r { texts = r.texts ++ words ∷ []; pending = true } else r

abbrev pub all_committed : NodeRecord → NodeRecord
all_committed r = record r { pending = false }

abbrev pub committed_of : NodeRecord → ℕ
committed_of r = length r.texts - (if r.pending then 1 else 0)

-- ---- which is newer

-- a record with a greater installed epoch is newer, and of the same epoch one with more updates ..
abbrev pub is_newer : NodeRecord → NodeRecord → Bool
is_newer a b = nat_lt b.installed a.installed || ((a.installed == b.installed) && nat_lt (length b.texts) (length a.texts))

-- .. and of as many updates one with more committed
abbrev pub exceeds : NodeRecord → NodeRecord → Bool
exceeds a b = is_newer a b || (not (is_newer b a) && nat_lt (committed_of b) (committed_of a))

abbrev pub is_newest : List NodeRecord → NodeRecord → Bool
is_newest records r = not (list_any (λ other. exceeds other r) records)

-- ---- what was promised

abbrev pub is_promise_of : ℕ → Letter → Bool
is_promise_of e l = is_letter name.Promise l.from (coordinator e) l && is_number e (promised_to l.before)

abbrev pub promise_among : ℕ → Option Letter → List Letter
promise_among e None = []
promise_among e (Some l) = if is_promise_of e l then l ∷ [] else []

-- the Promises of e that were delivered to its coordinator since the attempt began, newest first
abbrev pub promises : ℕ → List Moment → List Letter
promises e [] = []
promises e (x ∷ before) = if is_attempt e x then [] else promise_among e (arriving before x) ++ promises e before

abbrev pub records_told : List Letter → List NodeRecord
records_told [] = []
records_told (l ∷ letters) = option_to_list (record_in (says l.bytes)) ++ records_told letters

-- ---- the record of a node

abbrev pub as_installed : ℕ → NodeRecord → NodeRecord
as_installed e r = record r { installed = e }

-- the newest of the coordinator's own record and those promised to it, as installed in e
abbrev pub installed_from : ℕ → Option NodeRecord → List NodeRecord → Option NodeRecord
installed_from e None told = None
installed_from e (Some own) told = option_map (as_installed e) (find (is_newest (own ∷ told)) (own ∷ told))

-- what is saved in the event of a Prepare or of a Commit
abbrev pub saved_of : Letter → Name → NodeRecord → NodeRecord
saved_of l (name.Prepare v) r = with_update v (text_in (says l.bytes)) r
saved_of l (name.Commit v) r = all_committed r
saved_of l _ r = r

abbrev pub saved_in : Option Letter → NodeRecord → NodeRecord
saved_in None r = r
saved_in (Some l) r = saved_of l l.name r

abbrev pub started_from : Option Start → List (List ℕ) → Option NodeRecord → Option NodeRecord
started_from None updates r = r
started_from (Some s) updates r = Some (record { installed = s.epoch; texts = updates; pending = false })

-- a member has the base of its membership
abbrev pub base_record : ℕ → List Deed → Option NodeRecord
base_record e deeds = if has_started e deeds then Some (record { installed = e; texts = base_in e deeds; pending = false }) else None

-- an Install tells what its sender has installed
abbrev pub sent_from : Name → List ℕ → Option NodeRecord → Option NodeRecord
sent_from name.Install bytes r = or_else r (record_in (says bytes))
sent_from _ bytes r = r

-- The record of n, from where it changes in the trace; None, where the trace does not tell: after a stop in a save, until n installs again,
-- and a coordinator until it sends its Install, or starts.
abbrev pub record_of : ℕ → List Moment → Option NodeRecord
record_of n [] = Some first_record
record_of n (installed m e ∷ before) =
    if m == n
    then (if n == coordinator e then installed_from e (record_of n before) (records_told (promises e before)) else record_told (arrived before))
    else record_of n before
record_of n (sent p m b called bytes ∷ before) = if m == n then sent_from (named called) bytes (record_of n before) else record_of n before
record_of n (start e members held count ∷ before) =
    if n == coordinator e then started_from (completed (start e members held count ∷ before)) [] (record_of n before) else record_of n before
record_of n (base e v words ∷ before) =
    if n == coordinator e
    then started_from (completed (base e v words ∷ before)) (base_so_far (base e v words ∷ before)) (record_of n before)
    else record_of n before
record_of n (member m e ∷ before) = if m == n then or_else (option_map all_committed (record_of n before)) (base_record e (deeds before)) else record_of n before
record_of n (propose e v words ∷ before) = if n == coordinator e then option_map (with_update v (Some words)) (record_of n before) else record_of n before
record_of n (ack e v words ∷ before) = if n == coordinator e then option_map all_committed (record_of n before) else record_of n before
record_of n (saved m ∷ before) = if m == n then option_map (saved_in (arrived before)) (record_of n before) else record_of n before
record_of n (stopped m ∷ before) = if m == n then None else record_of n before
record_of n (disk_failed m ∷ before) = if m == n then None else record_of n before
record_of n (_ ∷ before) = record_of n before

-- ---- what a coordinator has in hand

-- its own record at the attempt
abbrev pub own_record : ℕ → List Moment → Option NodeRecord
own_record e before = record_of (coordinator e) (before_last (is_attempt e) before)

-- and those that were promised since
abbrev pub records_in_hand : ℕ → List Moment → Option (List NodeRecord)
records_in_hand e before = option_map (λ own. own ∷ records_told (promises e before)) (own_record e before)
