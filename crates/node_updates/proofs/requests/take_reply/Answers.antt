use Rattle.std.proofs.Common.{rules}
use Rattle.answer_words.specs.Answers.{answer_in}
use Rattle.node_model.specs.Seats.{is_in, is_member}
use Rattle.node_updates.proofs.Replying.{reads_member}
use Rattle.node_updates.proofs.requests.take_reply.Goals as goal

pub take_answer-requires : goal.take_answer-requires
take_answer-requires g c = record {
  member = reads_member (is_member c.args.up.seat) (is_in c.args.up c.args.epoch) (answer_in c.args.text.now) c.in-Ok-Some.answer (search rules);
}
