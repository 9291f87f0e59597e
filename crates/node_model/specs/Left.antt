-- What a call comes to that changes the node in place.
use Rattle.std.specs.Prelude.{Result, Ok, Err}
use Rattle.node_model.specs.declared.node.UpNode.{UpNode}
use Rattle.node_model.specs.declared.stop.Stop.{Stop}

-- what a call has come to that leaves the node so
abbrev pub left_so : {T : Type 0} → UpNode → Result T Stop → Result UpNode Stop
left_so x (Ok t) = Ok x
left_so x (Err stop) = Err stop
