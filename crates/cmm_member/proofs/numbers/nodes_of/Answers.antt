use Rattle.std.proofs.Common.{◌≡◌, ◌+◌, ◌∙◌, arith, subst}
use Rattle.cmm_member.proofs.ListLemmas.{Read, read_none, read_next, read_back}
use Rattle.cmm_member.proofs.numbers.nodes_of.Goals as goal

pub loop-n-init : goal.loop-n-init
loop-n-init c = record { low = omega arith; read = read_none c.args.text.now c.empty-nodes.result c.empty-nodes.ensures.members }

pub loop-n-preserved : goal.loop-n-preserved
loop-n-preserved c = record {
  low = omega arith;
  read = read_next c.args.text.now c.loop-n.n c.loop-n.nodes c.with_node-nodes.result c.loop-n.invariant.low c.loop-n.invariant.read c.with_node-nodes.ensures;
}

pub returns : goal.returns
returns c = λ set fits is.
    let last : c.loop-n.n ≡ 32 + 1 = omega arith in
    let all : Read c.args.text.now (32 + 1) c.loop-n.nodes = subst (λ n. Read c.args.text.now n c.loop-n.nodes) last c.loop-n.invariant.read in
    c.from_bits.ensures.value ∙ c.bits.ensures.value ∙ read_back set 32 c.loop-n.nodes c.args.text.now (omega arith) fits (omega (arith, c.bits.ensures.value)) all is
