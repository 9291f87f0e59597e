-- A simulated disk stays tied to the record that it keeps.
use Rattle.std.proofs.Common.{◌≡◌, ◌≢◌, ℕ, Bool, true, false, List, [], ◌∷◌, get_or, refl, sym, ◌∙◌, ap, subst, arith}
use Rattle.std.specs.Prelude.{Option, Some, None, if◌then◌else◌}
use Rattle.ccr_text.specs.TableText.{table_text}
use Rattle.local_disk.specs.declared.memory.Choice.{Choice}
use Rattle.local_disk.specs.declared.memory.Stop.{Stop}
use Rattle.local_disk.specs.Memory.{State, armed}
use Rattle.record_store.specs.declared.slot.Slot.{Slot}
use Rattle.record_store.specs.Images.{selected, text_of}
use Rattle.record_store.specs.Store.{Held, Stands, replaced}
use Rattle.cmm_member.specs.Records.{NodeRecord, IsRecordText, rows_of}
use Rattle.cmm_member.specs.Nodes.{DownState, NodeState, booted}
use Rattle.cmm_member.specs.Views.{kept}
use Rattle.record_disk.specs.declared.simulated.Saved.{Saved}
use Rattle.record_disk.specs.declared.simulated.Tried.{Tried}
use Rattle.record_disk.specs.Disks.{DiskState, after_four, remounted}
use Rattle.record_disk.specs.Images.{IsTextFor, IsFirst, StandsFor, IsSettled, images}
use Rattle.record_disk.specs.Inside.{IsTied, NoneTried, StandsBy, StandsOn, same_slot, standing, seen}

-- ---- texts

no_table : (saves : ℕ) (r : NodeRecord) → [] ≡ table_text saves (rows_of r) → ⊥
no_table saves r e = let first : 0 ≡ 99 = ap (λ (t : List ℕ). get_or t 0 0) e in omega (arith, first)

pub first_by : (b : Bool) (text : List ℕ) (last tried : Saved) → StandsBy b text last tried → text ≡ [] → IsFirst last.saves (kept last.durable)
first_by true text last tried stands e = absurd (no_table tried.saves (kept tried.durable) (sym e ∙ stands.table.spelled))
first_by false text last tried stands e = stands.first e

-- no text stands for the last record
pub first_is : (slot : Slot) (text : List ℕ) (last : Saved) (tried : Option Tried) → StandsOn slot text last tried → text ≡ [] → IsFirst last.saves (kept last.durable)
first_is slot text last None stands e = stands.first e
first_is slot text last (Some tried) stands e = first_by (same_slot slot tried.slot) text last tried.saved stands e

-- what a boot gives is what stands on the disk
pub record Up (up : NodeState) (saves : ℕ) (down : DownState) (s : Saved) : Type 0 where
  pub is : up ≡ booted down (kept s.durable)
  pub saves_are : saves ≡ s.saves

up_last : (text : List ℕ) (last : Saved) (down : DownState) (up : NodeState) (saves : ℕ) → StandsFor text last.saves (kept last.durable)
    → (text ≡ [] → (up ≡ booted down (kept last.durable)) × (saves ≡ last.saves))
    → ((n : ℕ) (r : NodeRecord) → IsTextFor text n r → (up ≡ booted down r) × (saves ≡ n))
    → Up up saves down last
up_last [] last down up saves stands first table = let is = first refl in record { is = is.0; saves_are = is.1 }
up_last (b ∷ bs) last down up saves stands first table =
    let some : b ∷ bs ≢ [] = λ e. absurd (cc (e)) in
    let is = table last.saves (kept last.durable) (stands.table some) in
    record { is = is.0; saves_are = is.1 }

up_by : (b : Bool) (text : List ℕ) (last tried : Saved) (down : DownState) (up : NodeState) (saves : ℕ) → StandsBy b text last tried
    → (text ≡ [] → (up ≡ booted down (kept last.durable)) × (saves ≡ last.saves))
    → ((n : ℕ) (r : NodeRecord) → IsTextFor text n r → (up ≡ booted down r) × (saves ≡ n))
    → Up up saves down (if b then tried else last)
up_by true text last tried down up saves stands first table = let is = table tried.saves (kept tried.durable) stands in record { is = is.0; saves_are = is.1 }
up_by false text last tried down up saves stands first table = up_last text last down up saves stands first table

up_from : (slot : Slot) (text : List ℕ) (last : Saved) (tried : Option Tried) (down : DownState) (up : NodeState) (saves : ℕ) → StandsOn slot text last tried
    → (text ≡ [] → (up ≡ booted down (kept last.durable)) × (saves ≡ last.saves))
    → ((n : ℕ) (r : NodeRecord) → IsTextFor text n r → (up ≡ booted down r) × (saves ≡ n))
    → Up up saves down (standing slot last tried)
up_from slot text last None down up saves stands first table = up_last text last down up saves stands first table
up_from slot text last (Some tried) down up saves stands first table = up_by (same_slot slot tried.slot) text last tried.saved down up saves stands first table

pub up_from_items : (slot : Slot) (text items : List ℕ) (last : Saved) (tried : Option Tried) (down : DownState) (up : NodeState) (saves : ℕ) → items ≡ text → StandsOn slot text last tried
    → (items ≡ [] → (up ≡ booted down (kept last.durable)) × (saves ≡ last.saves))
    → ((n : ℕ) (r : NodeRecord) → IsTextFor items n r → (up ≡ booted down r) × (saves ≡ n))
    → Up up saves down (standing slot last tried)
up_from_items slot text items last tried down up saves same stands first table =
    up_from slot text last tried down up saves stands (λ e. first (same ∙ e)) (λ n r is. table n r (subst (λ (t : List ℕ). IsTextFor t n r) (sym same) is))

stands_as : (text : List ℕ) (saves : ℕ) (r : NodeRecord) → IsTextFor text saves r → StandsFor text saves r
stands_as text saves r is = record { first = λ e. absurd (no_table saves r (sym e ∙ is.table.spelled)); table = λ some. is }

for_standing : (slot : Slot) (text : List ℕ) (last : Saved) (tried : Option Tried) → StandsOn slot text last tried → (let s = standing slot last tried in StandsFor text s.saves (kept s.durable))
for_standing slot text last None stands = stands
for_standing slot text last (Some tried) stands = by (same_slot slot tried.slot) stands
  where
    by : (b : Bool) → StandsBy b text last tried.saved → (let s = (if b then tried.saved else last) in StandsFor text s.saves (kept s.durable))
    by true is = stands_as text tried.saved.saves (kept tried.saved.durable) is
    by false is = is

-- a text is that of a record
pub record_text : (slot : Slot) (text items : List ℕ) (last : Saved) (tried : Option Tried) → items ≡ text → StandsOn slot text last tried → items ≢ [] → IsRecordText items
record_text slot text items last tried same stands some =
    let s = standing slot last tried in
    let is = (for_standing slot text last tried stands).table (λ e. some (same ∙ e)) in
    subst IsRecordText (sym same) (record { saves = s.saves; kept = kept s.durable; form = is.form; table = is.table })

-- ---- arming a stop

pub tied_armed : (disk : State) (store : Option Held) (last : Saved) (tried : Option Tried) (calls : ℕ) (choice : Choice) → IsTied disk store last tried → IsTied (armed disk calls choice) store last tried
tied_armed disk None last tried calls choice tied = record { settled = record { synced = tied.settled.synced; mountable = tied.settled.mountable }; ready = tt; none_tried = tt; text = tied.text }
tied_armed disk (Some held) last tried calls choice tied = record { settled = record { synced = tied.settled.synced; mountable = tied.settled.mountable }; ready = tied.ready; none_tried = tied.none_tried; text = tied.text }

-- ---- a mounting

pub tied_unmounted : (disk new : State) (store : Option Held) (last : Saved) (tried : Option Tried) → IsTied disk store last tried → IsSettled new → new.reads ≡ disk.reads → IsTied new None last tried
tied_unmounted disk new store last tried tied settled same = record {
  settled = settled;
  ready = tt;
  none_tried = tt;
  text = subst (λ (reads : List ℕ). StandsOn (selected reads) (text_of reads) last tried) (sym same) tied.text;
}

pub tied_mounted : (disk new : State) (store : Option Held) (last : Saved) (tried : Option Tried) (held : Held) (copy : Saved)
    → IsTied disk store last tried → IsSettled new → new.reads ≡ disk.reads → Stands new.reads (images new) held
    → copy.saves ≡ (standing (selected disk.reads) last tried).saves → kept copy.durable ≡ kept (standing (selected disk.reads) last tried).durable
    → IsTied new (Some held) copy None
tied_mounted disk new store last tried held copy tied settled same stands saves is = record {
  settled = settled;
  ready = stands;
  none_tried = refl;
  text =
      subst (λ (reads : List ℕ). StandsFor (text_of reads) copy.saves (kept copy.durable)) (sym same)
      (subst (λ (n : ℕ). StandsFor (text_of disk.reads) n (kept copy.durable)) (sym saves)
      (subst (λ (r : NodeRecord). StandsFor (text_of disk.reads) (standing (selected disk.reads) last tried).saves r) (sym is)
      (for_standing (selected disk.reads) (text_of disk.reads) last tried tied.text)));
}

abbrev state_of : NodeRecord → ℕ → Slot → Bool → Option Stop → DiskState
state_of r saves slot mounted stop = record { kept = r; saves = saves; slot = slot; mounted = mounted; stop = stop }

pub seen_mounted : (disk new : State) (store : Option Held) (held : Held) (s copy : Saved) → new.reads ≡ disk.reads
    → new.stop ≡ after_four disk.stop → copy.saves ≡ s.saves → kept copy.durable ≡ kept s.durable → seen new (Some held) copy ≡ remounted (seen disk store s)
seen_mounted disk new store held s copy same stop saves record_is =
    ap (λ (r : NodeRecord). state_of r copy.saves (selected new.reads) true new.stop) record_is
    ∙ ap (λ (n : ℕ). state_of (kept s.durable) n (selected new.reads) true new.stop) saves
    ∙ ap (λ (reads : List ℕ). state_of (kept s.durable) s.saves (selected reads) true new.stop) same
    ∙ ap (state_of (kept s.durable) s.saves (selected disk.reads) true) stop

-- ---- a save

none_tried_is : (store : Option Held) (held : Held) (tried : Option Tried) → store ≡ Some held → NoneTried store tried → tried ≡ None
none_tried_is store held tried is none = subst (λ (o : Option Held). NoneTried o tried) is none

pub tied_saved : (new : State) (store : Option Held) (held kept_by : Held) (saved : Saved) (tried : Option Tried) (text : List ℕ) → store ≡ Some held → NoneTried store tried
    → IsSettled new → Stands new.reads (images new) kept_by → kept_by ≡ replaced held text → IsTextFor text saved.saves (kept saved.durable) → IsTied new (Some kept_by) saved tried
tied_saved new store held kept_by saved tried text is none_before settled stands same form =
    let none : tried ≡ None = none_tried_is store held tried is none_before in
    record {
      settled = settled;
      ready = stands;
      none_tried = none;
      text =
          subst (StandsOn (selected new.reads) (text_of new.reads) saved) (sym none)
          (stands_as (text_of new.reads) saved.saves (kept saved.durable)
          (subst (λ (t : List ℕ). IsTextFor t saved.saves (kept saved.durable)) (sym (stands.mounts.gives ∙ ap (λ (h : Held). h.text) same)) form));
    }
