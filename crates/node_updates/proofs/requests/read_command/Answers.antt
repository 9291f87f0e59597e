use Rattle.std.proofs.Common.{◌≡◌, ◌⊎◌, Err, subst}
use Rattle.admin_words.specs.Commands.{command_of}
use Rattle.admin_words.specs.declared.error.WordError.TheVariants.{NoMemory}
use Rattle.cl_base.specs.declared.header.Header.{Header}
use Rattle.node_model.specs.Seats.{is_member, version_of}
use Rattle.node_updates.proofs.Commanding.{reads_error}
use Rattle.node_updates.proofs.requests.read_command.Goals as goal

-- src/requests.rt:57:1
pub returns-in_ok-word_answer-in-Err : goal.returns-in_ok-word_answer-in-Err
returns-in_ok-word_answer-in-Err c = record {
  value = reads_error (command_of (version_of c.args.cluster.now) c.args.words.now) c.in-Err.e c.in_ok-word_answer-in-Err.field-0 (is_member c.args.seat.now)
      (subst (λ (h : Header). (c.in-Err.e ≡ NoMemory) ⊎ (command_of h.version c.args.words.now ≡ Err c.in-Err.e)) c.get.ensures.value c.in-Err.ensures.err)
      c.in_ok-word_answer-in-Err.ensures.memory c.in_ok-word_answer-in-Err.ensures.value;
}
