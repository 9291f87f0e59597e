-- The machine's state: what each node holds, and what was ever begun, counted, installed, proposed and acknowledged in each epoch.
-- A message is no part of it. What a message tells is a fact of the state that stays once it stands, so a message that comes
-- late, twice or not at all needs no case of its own.
use Rattle.std.specs.Prelude.{ℕ, zero, Bool, false, List, []}
use Rattle.membership_machine.specs.Records.{Update, Saved, first_record}

-- A node. Durable are its promise and its record; session, membership and an attempt of its own are lost when it goes down.
-- The last four fields are its history, by epochs: no node reads them.
pub record Node : Type 0 where
  -- the greatest epoch that it promised
  pub promised : ℕ
  pub saved : Saved
  -- the epoch of its last promise since it came up, or 0
  pub session : ℕ
  -- it is a member of the membership of its session
  pub member : Bool
  -- it coordinates an attempt that has not counted its votes yet
  pub seeking : Bool
  -- it answered the Collect of this epoch with a Promise ..
  pub answered : ℕ → Bool
  -- .. which showed this record
  pub showed : ℕ → Saved
  -- it installed the record of this epoch
  pub ready : ℕ → Bool
  -- so many entries it has saved under this epoch
  pub reached : ℕ → ℕ

-- An epoch: the attempt with this number, and the membership that it may have become. Its coordinator made all of it.
pub record Epoch : Type 0 where
  -- an attempt was begun with this number, among these nodes
  pub tried : Bool
  pub members : ℕ → Bool
  -- its votes were counted and are a majority, these devices being held; the Install is known from then on
  pub counted : Bool
  pub holds : ℕ → Bool
  -- the node that had shown the newest record; the entries of that record, which Install carries; so many of them were committed
  pub newest : ℕ
  pub base : List Update
  pub settled : ℕ
  -- every member had installed it and it started
  pub started : Bool
  -- the base and then what was proposed; so many of these are acknowledged, the base counting as such once started
  pub log : List Update
  pub acked : ℕ

pub record Memberships : Type 0 where
  pub node : ℕ → Node
  pub epoch : ℕ → Epoch

abbrev pub first_node : Node
first_node = record { promised = zero; saved = first_record; session = zero; member = false; seeking = false; answered = λ _. false; showed = λ _. first_record; ready = λ _. false; reached = λ _. zero }

abbrev pub no_epoch : Epoch
no_epoch = record { tried = false; members = λ _. false; counted = false; holds = λ _. false; newest = zero; base = []; settled = zero; started = false; log = []; acked = zero }

-- all nodes are down with an empty disk, and nothing was ever tried
abbrev pub first_memberships : Memberships
first_memberships = record { node = λ _. first_node; epoch = λ _. no_epoch }
