use Rattle.run_packets.proofs.views.Runs as proof
use Rattle.run_packets.proofs.plain_views_where_none_is_foreign.Goals as goal

pub returns : goal.returns
returns c = proof.plain_views_where_none_is_foreign
