use Rattle.run_packets.proofs.waiting.Runs as proof
use Rattle.run_packets.proofs.canonical_words_are_short.Goals as goal

pub returns : goal.returns
returns c = proof.canonical_words_are_short
