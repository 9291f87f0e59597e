-- What the fields of a simulated disk are seen as, and what always holds of them.
use Rattle.std.specs.Prelude.{◌≡◌, ℕ, Bool, true, false, if◌then◌else◌, is_some, Option, Some, None, List}
use Rattle.local_disk.specs.Memory.{State}
use Rattle.record_store.specs.declared.slot.Slot.{Slot}
use Rattle.record_store.specs.declared.slot.Slot.TheVariants.{First, Second}
use Rattle.record_store.specs.Images.{selected, text_of}
use Rattle.record_store.specs.Store.{Held}
use Rattle.cmm_member.specs.Views.{kept}
use Rattle.record_disk.specs.declared.simulated.Saved.{Saved}
use Rattle.record_disk.specs.declared.simulated.Tried.{Tried}
use Rattle.record_disk.specs.Disks.{DiskState}
use Rattle.record_disk.specs.Images.{IsTextFor, StandsFor, IsSettled, StandsIf}

abbrev pub same_slot : Slot → Slot → Bool
same_slot First First = true
same_slot First Second = false
same_slot Second First = false
same_slot Second Second = true

-- What stands on a disk that selects this slot: what was tried after the last mounting or save, where it was to this
-- slot, and else the last.
abbrev pub standing : Slot → Saved → Option Tried → Saved
standing slot last None = last
standing slot last (Some tried) = if same_slot slot tried.slot then tried.saved else last

abbrev pub seen : State → Option Held → Saved → DiskState
seen disk store s = record { kept = kept s.durable; saves = s.saves; slot = selected disk.reads; mounted = is_some store; stop = disk.stop }

-- a mounted disk has the last record
abbrev pub NoneTried : Option Held → Option Tried → Type 0
NoneTried None tried = Unit {0}
NoneTried (Some held) tried = tried ≡ None

-- the text is that of what was tried, or stands for the last
abbrev pub StandsBy : Bool → List ℕ → Saved → Saved → Type 0
StandsBy true text last tried = IsTextFor text tried.saves (kept tried.durable)
StandsBy false text last tried = StandsFor text last.saves (kept last.durable)

abbrev pub StandsOn : Slot → List ℕ → Saved → Option Tried → Type 0
StandsOn slot text last None = StandsFor text last.saves (kept last.durable)
StandsOn slot text last (Some tried) = StandsBy (same_slot slot tried.slot) text last tried.saved

pub record IsTied (disk : State) (store : Option Held) (last : Saved) (tried : Option Tried) : Type 0 where
  pub settled : IsSettled disk
  pub ready : StandsIf disk store
  pub none_tried : NoneTried store tried
  pub text : StandsOn (selected disk.reads) (text_of disk.reads) last tried
