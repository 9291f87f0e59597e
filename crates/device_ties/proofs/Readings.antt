-- What a reading of the keys shows, and who may read and write.
use Rattle.std.proofs.Common.{◌≡◌, ℕ, ◌==◌, nat_le, ◌⊎◌, inl, inr, Bool, true, false, not, cond, List, [], ◌∷◌, Option, Some, None, refl, sym, ap, subst, ◌∙◌, arith}
use Rattle.std.proofs.lemmas.Bool.{eqb-true, or_cases, and_from, and_right, le-leb}
use Rattle.std.proofs.lemmas.Option.{same_Some}
use Rattle.cl_base.specs.Sets.{has}
use Rattle.pgr_device.specs.declared.registration.Registration.{Registration}
use Rattle.pgr_device.specs.declared.registration.Reservation.{Reservation}
use Rattle.pgr_device.specs.Registered.{is_registered, keys_of}
use Rattle.pgr_device.specs.Spc.{may_read, may_write}
use Rattle.cl_base.specs.Keys.{key_of}
use Rattle.seize.specs.Keys as seize
use Rattle.device_machine.specs.Device.{Device, LetsWrite}
use Rattle.device_ties.specs.Devices.{OwnKeys, HeldTied}
use Rattle.device_ties.specs.Tasks.{is_member}
use Rattle.device_ties.proofs.Registrations.{node_of_key}

-- the key of the first that is registered and no member
pub record IsStranger (cluster members : ℕ) (rs : List Registration) (key : ℕ) : Type 0 where
  pub node : ℕ
  pub key_is : key ≡ key_of cluster node
  pub registered : is_registered rs node ≡ true
  pub outside : is_member members node ≡ false

-- whether a registration is of a member
of_member : (cluster members : ℕ) (r : Registration) → r.key ≡ key_of cluster r.node → seize.is_key_of cluster members r.key ≡ has members r.node
of_member cluster members r e = ap (λ k. has members (seize.node_of cluster k)) e ∙ ap (λ k. has members k) (node_of_key cluster r.node)

-- a search ends at the first, or goes on
search_ends : (b : Bool) (key : ℕ) (rest : Option ℕ) (found : ℕ) → cond (not b) (Some key) rest ≡ Some found → ((b ≡ false) × (key ≡ found)) ⊎ (rest ≡ Some found)
search_ends true key rest found e = inr e
search_ends false key rest found e = inl (refl, same_Some _ _ e)

search_fails : (b : Bool) (key : ℕ) (rest : Option ℕ) → cond (not b) (Some key) rest ≡ None → (b ≡ true) × (rest ≡ None)
search_fails true key rest e = (refl, e)
search_fails false key rest e = absurd (cc)

pub all_members : (cluster members : ℕ) (rs : List Registration) → OwnKeys cluster rs → seize.first_stranger cluster members (keys_of rs) ≡ None → (k : ℕ) → is_registered rs k ≡ true → is_member members k ≡ true
all_members cluster members [] own e k there = absurd (cc)
all_members cluster members (r ∷ rs) own e k there = go (or_cases (r.node == k) (is_registered rs k) there) (λ h. all_members cluster members rs own.4 parts.1 k h)
  where
    parts : (seize.is_key_of cluster members r.key ≡ true) × (seize.first_stranger cluster members (keys_of rs) ≡ None)
    parts = search_fails (seize.is_key_of cluster members r.key) r.key (seize.first_stranger cluster members (keys_of rs)) e

    here : is_member members r.node ≡ true
    here = and_from (nat_le r.node 32) (has members r.node) (le-leb r.node 32 own.1) (sym (of_member cluster members r own.2) ∙ parts.0)

    go : ((r.node == k) ≡ true) ⊎ (is_registered rs k ≡ true) → (is_registered rs k ≡ true → is_member members k ≡ true) → is_member members k ≡ true
    go (inl same) later = subst (λ j. is_member members j ≡ true) (eqb-true r.node k same) here
    go (inr h) later = later h

more_registered : (r : Registration) (rs : List Registration) (k : ℕ) → is_registered rs k ≡ true → is_registered (r ∷ rs) k ≡ true
more_registered r rs k h = grind arith

first_registered : (r : Registration) (rs : List Registration) → is_registered (r ∷ rs) r.node ≡ true
first_registered r rs = grind arith

pub stranger : (cluster members : ℕ) (rs : List Registration) (key : ℕ) → OwnKeys cluster rs → seize.first_stranger cluster members (keys_of rs) ≡ Some key → IsStranger cluster members rs key
stranger cluster members [] key own e = absurd (cc)
stranger cluster members (r ∷ rs) key own e =
    go (search_ends (seize.is_key_of cluster members r.key) r.key (seize.first_stranger cluster members (keys_of rs)) key e) (λ h. stranger cluster members rs key own.4 h)
  where
    go : ((seize.is_key_of cluster members r.key ≡ false) × (r.key ≡ key)) ⊎ (seize.first_stranger cluster members (keys_of rs) ≡ Some key)
        → (seize.first_stranger cluster members (keys_of rs) ≡ Some key → IsStranger cluster members rs key) → IsStranger cluster members (r ∷ rs) key
    go (inl h) later = record {
      node = r.node;
      key_is = sym h.1 ∙ own.2;
      registered = first_registered r rs;
      outside = and_right (nat_le r.node 32) (has members r.node) (sym (of_member cluster members r own.2) ∙ h.0);
    }
    go (inr h) later = let s = later h in record { node = s.node; key_is = s.key_is; registered = more_registered r rs s.node s.registered; outside = s.outside }

-- under a reservation of type 5h everyone reads, and the registered write
pub reads : (rs : List Registration) (n : ℕ) (r : Option Reservation) (reserved : Bool) (holder : ℕ) → HeldTied r reserved holder → may_read rs n r ≡ true
reads rs n None reserved holder h = refl
reads rs n (Some held) reserved holder h = rw h.2 refl

pub lets : (rs : List Registration) (n : ℕ) (r : Option Reservation) (d : Device) → HeldTied r d.reserved d.holder → is_registered rs n ≡ d.keys n → may_write rs n r ≡ true → LetsWrite d n
lets rs n None d h k w = inl h
lets rs n (Some held) d h k w = inr (sym k ∙ (rw h.2 at w))

pub lets_not : (rs : List Registration) (n : ℕ) (r : Option Reservation) (d : Device) → HeldTied r d.reserved d.holder → is_registered rs n ≡ d.keys n → may_write rs n r ≡ false → LetsWrite d n → ⊥
lets_not rs n None d h k w l = absurd (cc)
lets_not rs n (Some held) d h k w (inl none) = let r : d.reserved ≡ true = h.0 in absurd (cc)
lets_not rs n (Some held) d h k w (inr key) = let f : is_registered rs n ≡ false = rw h.2 at w in absurd (cc)
