-- A node as an initiator: what of it concerns the device, and what each step makes of that.
-- Handlers of the layers above are held to these steps.
use Rattle.std.specs.Prelude.{ℕ, suc, Bool, true, false}
use Rattle.machine_base.specs.Put.{put}
use Rattle.device_machine.specs.Phase.{Phase}

-- What a node has done so far, by epochs. No node reads it.
pub record Past : Type 0 where
  -- when it promised this epoch, its installed epoch was that one
  pub showed : ℕ → ℕ
  -- so many seizings, and so many joinings, it has begun for this epoch
  pub seizings : ℕ → ℕ
  pub joinings : ℕ → ℕ
  -- its seizing for this epoch ended, the device held
  pub seized : ℕ → Bool
  -- its seizing for this epoch ended not-registered
  pub unregistered : ℕ → Bool
  -- its seizing for this epoch ended, one way or the other
  pub ended : ℕ → Bool
  -- a swap of it set the word to this epoch
  pub wrote : ℕ → Bool

-- Durable are the promise, the installed epoch and whether the key is validated. The session, the joined mark and the task are lost
-- when it stops.
pub record Initiator : Type 0 where
  -- the greatest epoch that it promised
  pub promised : ℕ
  -- the epoch of its last promise since it came up, or 0
  pub session : ℕ
  -- the epoch of its record
  pub installed : ℕ
  -- its record says that its key on the device is validated
  pub valid : Bool
  -- it joined the device in the membership that it installed in this session
  pub joined : Bool
  -- its task
  pub phase : Phase
  -- .. which seizes the device as a quorum device, or as one without votes
  pub quorum : Bool
  -- .. whose swap expects this word
  pub expected : ℕ
  -- .. which preempts the key of this node
  pub target : ℕ
  pub past : Past

abbrev pub no_past : Past
no_past =
    record { showed = λ _. 0; seizings = λ _. 0; joinings = λ _. 0; seized = λ _. false; unregistered = λ _. false; ended = λ _. false; wrote = λ _. false }

abbrev pub first_initiator : Bool → Initiator
first_initiator registered =
    record {
      promised = 0;
      session = 0;
      installed = 0;
      valid = registered;
      joined = false;
      phase = Phase.Idle;
      quorum = false;
      expected = 0;
      target = 0;
      past = no_past;
    }

-- Promise: the node enters session q and shows its installed epoch. The joined mark and the task go with the session before.
abbrev pub promising : Initiator → ℕ → Initiator
promising v q =
    record v { promised = q; session = q; joined = false; phase = Phase.Idle; past = record v.past { showed = put v.past.showed q v.installed } }

-- The node goes down, by a crash, a panic or a stop in a save: promise, installed epoch and the valid mark stay.
abbrev pub crashing : Initiator → Initiator
crashing v = record v { session = 0; joined = false; phase = Phase.Idle }

-- A command is done, or a task fails that is no seizing.
abbrev pub to_phase : Initiator → Phase → Initiator
to_phase v p = record v { phase = p }

-- A seizing is begun.
abbrev pub seizing : Initiator → Bool → Initiator
seizing v quorum =
    record v {
      phase = Phase.Asked;
      quorum = quorum;
      past = record v.past { seizings = put v.past.seizings v.session (suc (v.past.seizings v.session)) };
    }

-- Seizing without votes: in the event of the first command, and before it, the record says that the key is not validated.
abbrev pub unvalidated : Initiator → Initiator
unvalidated v = record v { valid = false; phase = Phase.Untrusted }

-- The word told is smaller than the session: the swap is to be from it.
abbrev pub expecting : Initiator → ℕ → Initiator
expecting v w = record v { phase = Phase.Swapping; expected = w }

-- The swap is done, and the node knows it.
abbrev pub marking : Initiator → Initiator
marking v = record v { phase = Phase.Marked; past = record v.past { wrote = put v.past.wrote v.session true } }

-- The key of node k, no member, was read: it is to be preempted.
abbrev pub aiming : Initiator → ℕ → Initiator
aiming v k = record v { phase = Phase.Preempting; target = k }

-- The seizing ended, and the device is held.
abbrev pub holding : Initiator → Initiator
holding v =
    record v { phase = Phase.Seized; past = record v.past { seized = put v.past.seized v.session true; ended = put v.past.ended v.session true } }

-- The seizing ended not-registered: no swap was done.
abbrev pub rejecting : Initiator → Initiator
rejecting v =
    record v {
      phase = Phase.Over;
      past = record v.past { unregistered = put v.past.unregistered v.session true; ended = put v.past.ended v.session true };
    }

-- The seizing ended in another way.
abbrev pub ending : Initiator → Initiator
ending v = record v { phase = Phase.Over; past = record v.past { ended = put v.past.ended v.session true } }

-- The swap is done, its answer is lost, and the seizing ends by that fault.
abbrev pub marking_lost : Initiator → Initiator
marking_lost v = ending (marking v)

-- Install of an attempt that does not hold the device, or at a node that is not attached to it: nothing is joined.
abbrev pub installing : Initiator → Initiator
installing v = record v { installed = v.session; phase = Phase.Over }

-- The device is joined, and the key is validated: at the install where the node is the seizer or its key was validated already,
-- else after the word was read.
abbrev pub admitted : Initiator → Initiator
admitted v = record v { valid = true; joined = true; phase = Phase.Over }

-- Install at a node whose key is not validated, or was not seen: the record says so, and a joining is begun.
abbrev pub joining : Initiator → Initiator
joining v =
    record v {
      installed = v.session;
      valid = false;
      phase = Phase.Joining;
      past = record v.past { joinings = put v.past.joinings v.session (suc (v.past.joinings v.session)) };
    }
