-- Two nodes form a membership: this trace, with the bytes of all messages, is a history.
use Rattle.std.proofs.Common.{refl, false, [], ◌∷◌, ◌++◌, None, arith}
use Rattle.cl_base.specs.Sets.{has}
use Rattle.quorum_votes.specs.Sums.{sum_to}
use Rattle.wire.specs.Spelling.{number, text, list}
use Rattle.wire.specs.Reads.{number_at, byte_at, truth_at, node_at, device_at, text_at, devices_at, items_at, list_at, at_most_one_at, method_at, outcome_at, kind_at, marks_at, failures_at, reading_at, resource_at, group_at, report_at, seized_result_at, heartbeat_at, collect_at, promise_at, nack_at, install_at, ready_at, start_at, prepare_at, prepared_at, request_at, answer_at, body_at, message_at, whole_of}
use Rattle.wire.specs.declared.message.Body.TheVariants as body
use Rattle.history_samples.specs.SampleNames as name
use Rattle.history.specs.Contents.{Spells, Spelled}
use Rattle.history.specs.History.{History, Holds, Contact, Contents, Answers}
use Rattle.history_samples.specs.SampleContents as sample

heartbeat : Spells 2 name.Heartbeat (sample.heartbeat 2 0 0)
unfolding number text list
heartbeat = record { message = record { sender = 2; body = body.Heartbeat 0 0 false }; fits = search arith; spelled = refl; sender = refl; named = refl }

collect : Spells 1 name.Collect (2 ∷ 1 ∷ sample.long 65 ++ sample.short 3)
unfolding number text list
collect = record { message = record { sender = 1; body = body.Collect 65 3 }; fits = search arith; spelled = refl; sender = refl; named = refl }

promise : Spells 2 name.Promise (sample.promise 2 65 0 sample.none)
unfolding number text list
promise = record { message = record { sender = 2; body = body.Promise 65 0 3 0 false [] None }; fits = search arith; spelled = refl; sender = refl; named = refl }

install : Spells 1 name.Install (sample.install 65 sample.none)
unfolding number text list
install = record {
  message = record { sender = 1; body = body.Install (record { epoch = 65; members = 3; committed = []; pending = None; readings = [] }) };
  fits = search arith;
  spelled = refl;
  sender = refl;
  named = refl;
}

ready : Spells 2 name.Ready (sample.ready_bytes 2 65)
unfolding number text list
ready = record { message = record { sender = 2; body = body.Ready 65 0 (record { resources = []; groups = [] }) }; fits = search arith; spelled = refl; sender = refl; named = refl }

start : Spells 1 name.Start (10 ∷ 1 ∷ sample.long 65)
unfolding number text list
start = record { message = record { sender = 1; body = body.Start 65 }; fits = search arith; spelled = refl; sender = refl; named = refl }

spelled_heard : Spelled sample.heard
spelled_heard = (tt, (tt, (heartbeat, (tt, (tt, (tt, (tt, (tt, (tt, tt)))))))))

spelled_promised : Spelled sample.promised
spelled_promised = (promise, (tt, (tt, (tt, (collect, (tt, (tt, (tt, (tt, spelled_heard)))))))))

spelled_ready : Spelled sample.ready
spelled_ready = (ready, (tt, (tt, (tt, (tt, (install, (tt, (tt, (tt, (tt, spelled_promised))))))))))

spelled : Spelled sample.formed
spelled = (tt, (tt, (tt, (tt, (start, (tt, (tt, (tt, (tt, (tt, spelled_ready))))))))))

contact : Contact sample.bare sample.formed
unfolding has sum_to
contact = record { once = search; ready = search; installed = search; held = search; votes = search arith; prepared = search; told = search; asked = search; answered = search }

contents : Contents sample.bare sample.formed
unfolding has number_at byte_at truth_at node_at device_at text_at devices_at items_at list_at at_most_one_at method_at outcome_at kind_at marks_at failures_at reading_at resource_at group_at report_at seized_result_at heartbeat_at collect_at promise_at nack_at install_at ready_at start_at prepare_at prepared_at request_at answer_at body_at message_at whole_of
contents = record {
  spelled = spelled;
  records = search;
  newest = search;
  installed_base = search;
  newest_base = search;
  held = search;
  heartbeats = search;
  updates = search;
}

holds : Holds sample.bare sample.formed
unfolding has
holds = record {
  devices = search;
  links = search;
  start_lines = search;
  repository = record { lineage = search; placed = search; kept = search };
  disk_rule = search;
  contact = contact;
  contents = contents;
}

answers : Answers sample.bare sample.formed
unfolding has number_at byte_at truth_at node_at device_at text_at devices_at items_at list_at at_most_one_at method_at outcome_at kind_at marks_at failures_at reading_at resource_at group_at report_at seized_result_at heartbeat_at collect_at promise_at nack_at install_at ready_at start_at prepare_at prepared_at request_at answer_at body_at message_at whole_of
answers = record { lines = search; attempts = search; in_time = search; accounted = search; downs = search; commands = search; once = search; messages = search }

pub history : History sample.bare sample.formed
unfolding has
history = record { holds = holds; answers = answers; rounds = search; whole = search }
