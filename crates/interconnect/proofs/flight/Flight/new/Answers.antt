use Rattle.std.proofs.Common.{◌<◌, [], ℕ, List, arith}
use Rattle.std.proofs.lemmas.List.{get_or-replicate}
use Rattle.interconnect.specs.Keys.{link_of}
use Rattle.interconnect.proofs.Steps.{sound_none}
use Rattle.interconnect.proofs.Slots.{holding_none}
use Rattle.interconnect.proofs.flight.Flight.new.Goals as goal

pub invariant_of-result : goal.invariant_of-result
invariant_of-result c =
    rw (c.in_ok-pool.ensures, c.in_ok-numbers.ensures, c.in_ok-links.ensures) (record {
      holding = holding_none c.in_ok-packets.packets c.args.cells 1 c.in_ok-packets.ensures.empty c.in_ok-packets.ensures.capacity (omega arith);
      sound = sound_none c.args.cells;
      index = λ from to nodes.
          let a = nodes.from_high in let b = nodes.to_high in
          let low : link_of from to < 1024 = omega arith in
          get_or-replicate 1024 (link_of from to) (let l : List ℕ = [] in l) [] low;
    })
