-- What a node keeps of the others' heartbeats since its boot.
use Rattle.std.specs.Prelude.{ℕ, List, Option}
use Rattle.heartbeats.specs.declared.peer.Peer.{Peer}

pub record State : Type 0 where
  pub me : ℕ
  pub peers : List (Option Peer)  -- node n's at place n - 1; None of a node not heard since the boot
  pub view : Option ℕ  -- that of the last tick; None before the first
  pub stable : ℕ  -- for how many ticks the view has been the same; from 3 on it stays 3
  pub wait : ℕ  -- for how many ticks no attempt begins
