use Rattle.std.proofs.Common.{◌≡◌, ◌<◌, map, drop, Ok, IfOk}
use Rattle.schedule_text.specs.Allowed.{AreNodes, AreWithin}
use Rattle.schedule_text.specs.Fields.{nodes_from}
use Rattle.schedule_text.proofs.field.nodes.Given as goal

abbrev pub invariant-loop-word : goal.invariant-loop-word
invariant-loop-word l = record {
  rest : nodes_from l.header (Ok 0) (map (λ w. w.now) l.words) ≡ nodes_from l.header l.nodes (map (λ w. w.now) (drop l.word-index l.words));
  within : IfOk l.nodes (AreWithin l.header.nodes);
  some : 0 < l.word-index → IfOk l.nodes (AreNodes l.header.nodes);
}
