-- The trace of the failover is a history, with the bytes of all messages.
use Rattle.std.proofs.Common.{rules, refl, arith, [], ◌∷◌, Some}
use Rattle.cl_base.specs.Sets.{has}
use Rattle.cl_base.specs.declared.method.Method.TheVariants.{Start}
use Rattle.cl_base.specs.declared.method.Outcome.TheVariants.{Success}
use Rattle.quorum_votes.specs.Sums.{sum_to}
use Rattle.wire.specs.Spelling.{number, text, list}
use Rattle.wire.specs.Reads.{number_at, byte_at, truth_at, node_at, device_at, text_at, devices_at, items_at, list_at, at_most_one_at, method_at, outcome_at, kind_at, marks_at, failures_at, reading_at, resource_at, group_at, report_at, seized_result_at, heartbeat_at, collect_at, promise_at, nack_at, install_at, ready_at, start_at, prepare_at, prepared_at, order_at, done_at, request_at, answer_at, body_at, message_at, whole_of}
use Rattle.wire.specs.declared.message.Body.TheVariants as body
use Rattle.history.specs.Contents.{Spells, Spelled}
use Rattle.history.specs.History.{History, Holds, Contact, Contents, Answers}
use Rattle.history_samples.proofs.TwoNodes as two_nodes
use Rattle.history_samples.specs.SampleNames as name
use Rattle.group_samples.specs.SampleConfigurations.{moving}
use Rattle.group_samples.specs.SampleFailover as sample

order : Spells 1 (name.Order 3) (sample.order 3)
unfolding number text list
order = record {
  message = record { sender = 1; body = body.Order (record { epoch = 65; number = 3; method = Some Start; resource = 97 ∷ [] }) };
  fits = search arith;
  spelled = refl;
  sender = refl;
  named = refl;
}

done : Spells 2 (name.Done 3) (sample.done_bytes 3 0)
unfolding number text list
done = record { message = record { sender = 2; body = body.Done 65 3 Success }; fits = search arith; spelled = refl; sender = refl; named = refl }

spelled_failed : Spelled sample.failed_twice
spelled_failed = (tt, (tt, (tt, (tt, (tt, (tt, (tt, (tt, (tt, (tt, (tt, (tt, two_nodes.history.holds.contents.spelled))))))))))))

spelled : Spelled sample.failed_over
spelled = (tt, (tt, (tt, (tt, (tt, (tt, (tt, (done, (tt, (tt, (tt, (tt, (order, spelled_failed)))))))))))))

contact : Contact moving.cluster sample.failed_over
unfolding has sum_to
contact = record { once = search; ready = search; installed = search; held = search; votes = search arith; prepared = search; told = search; asked = search; answered = search }

contents : Contents moving.cluster sample.failed_over
unfolding has number_at byte_at truth_at node_at device_at text_at devices_at items_at list_at at_most_one_at method_at outcome_at kind_at marks_at failures_at reading_at resource_at group_at report_at seized_result_at heartbeat_at collect_at promise_at nack_at install_at ready_at start_at prepare_at prepared_at order_at done_at request_at answer_at body_at message_at whole_of
contents = record {
  spelled = spelled;
  records = search;
  newest = search;
  installed_base = search;
  newest_base = search;
  held = search;
  heartbeats = search;
  updates = search;
}

holds : Holds moving.cluster sample.failed_over
unfolding has
holds = record {
  devices = search;
  links = search;
  start_lines = search;
  repository = record { lineage = search; placed = search; kept = search };
  disk_rule = search;
  contact = contact;
  contents = contents;
}

answers : Answers moving.cluster sample.failed_over
unfolding has number_at byte_at truth_at node_at device_at text_at devices_at items_at list_at at_most_one_at method_at outcome_at kind_at marks_at failures_at reading_at resource_at group_at report_at seized_result_at heartbeat_at collect_at promise_at nack_at install_at ready_at start_at prepare_at prepared_at order_at done_at request_at answer_at body_at message_at whole_of
answers = record { lines = search; attempts = search; in_time = search; accounted = search; downs = search; commands = search rules; once = search rules; messages = search }

pub history : History moving.cluster sample.failed_over
unfolding has
history = record { holds = holds; answers = answers; rounds = search; whole = search }
