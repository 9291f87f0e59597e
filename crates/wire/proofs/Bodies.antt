-- The laws of the fields of each kind.
use Rattle.std.proofs.Common.{◌≡◌, ℕ, Bool, List, [], ◌++◌, Option, Some, refl, ap, subst, ◌∙◌}
use Rattle.std.specs.Prelude.{IfSome}
use Rattle.cl_base.specs.declared.method.Method.{Method}
use Rattle.cl_base.specs.declared.method.Outcome.{Outcome}
use Rattle.wire.specs.declared.lists.Reading.{Reading}
use Rattle.wire.specs.declared.report.Report.{Report}
use Rattle.cl_base.specs.Seizings.{SeizeResult}
use Rattle.cl_base.specs.declared.packet.MessageKind.{MessageKind}
use Rattle.cl_base.specs.declared.packet.MessageKind.TheVariants as kind
use Rattle.wire.specs.declared.message.Body.{Body}
use Rattle.wire.specs.declared.message.Body.TheVariants as body
use Rattle.wire.specs.Kinds.{kind_of}
use Rattle.wire.specs.Spelling.{word, one, set, truth, text, list, at_most_one, method_byte, outcome_byte, reading, report, seized_result, fields, IsWord, IsNodes, IsDevices, IsDevice, IsShortText, IsShortList, FitsReading, FitsReport, FitsResult, FitsBody}
use Rattle.wire.specs.Reads.{heartbeat_at, collect_at, promise_at, nack_at, seize_quorum_at, seize_data_at, seized_at, install_at, ready_at, start_at, prepare_at, prepared_at, commit_at, order_at, done_at, request_at, answer_at, excluded_at, body_at}
use Rattle.wire.proofs.Fields.{IsBytes, Law, finish, then, number4, number8, text_law, list_law}
use Rattle.wire.proofs.Parts.{device_law, devices_law, truth_law, method_law, outcome_law, at_most_one_law, reading_law, report_law, seized_result_law}

heartbeat_parts : Law (λ (q : ℕ × (ℕ × (Bool × Unit {0}))). word q.0 ++ (word q.1.0 ++ (truth q.1.1.0 ++ [])))
    (λ q. IsWord q.0 × (IsWord q.1.0 × (Unit {0} × Unit {0})))
    (λ q. body.Heartbeat q.0 q.1.0 q.1.1.0) heartbeat_at
unfolding heartbeat_at
heartbeat_parts = then number8 (λ a. then number8 (λ b. then truth_law (λ c. finish (body.Heartbeat a b c))))

collect_parts : Law (λ (q : ℕ × (ℕ × Unit {0})). word q.0 ++ (set q.1.0 ++ []))
    (λ q. IsWord q.0 × (IsNodes q.1.0 × Unit {0}))
    (λ q. body.Collect q.0 q.1.0) collect_at
unfolding collect_at
collect_parts = then number8 (λ a. then number4 (λ b. finish (body.Collect a b)))

promise_parts : Law (λ (q : ℕ × (ℕ × (ℕ × (ℕ × (Bool × (List (List ℕ) × (Option (List ℕ) × Unit {0}))))))). word q.0 ++ (word q.1.0 ++ (set q.1.1.0 ++ (set q.1.1.1.0 ++ (truth q.1.1.1.1.0 ++ (list text q.1.1.1.1.1.0 ++ (at_most_one text q.1.1.1.1.1.1.0 ++ [])))))))
    (λ q. IsWord q.0 × (IsWord q.1.0 × (IsNodes q.1.1.0 × (IsDevices q.1.1.1.0 × (Unit {0} × (IsShortList IsShortText q.1.1.1.1.1.0 × (IfSome q.1.1.1.1.1.1.0 IsShortText × Unit {0})))))))
    (λ q. body.Promise q.0 q.1.0 q.1.1.0 q.1.1.1.0 q.1.1.1.1.0 q.1.1.1.1.1.0 q.1.1.1.1.1.1.0) promise_at
unfolding promise_at
promise_parts = then number8 (λ a. then number8 (λ b. then number4 (λ c. then devices_law (λ d. then truth_law (λ e. then (list_law text_law) (λ f. then (at_most_one_law text_law) (λ g. finish (body.Promise a b c d e f g))))))))

nack_parts : Law (λ (q : ℕ × (ℕ × Unit {0})). word q.0 ++ (word q.1.0 ++ []))
    (λ q. IsWord q.0 × (IsWord q.1.0 × Unit {0}))
    (λ q. body.Nack q.0 q.1.0) nack_at
unfolding nack_at
nack_parts = then number8 (λ a. then number8 (λ b. finish (body.Nack a b)))

seize_quorum_parts : Law (λ (q : ℕ × (ℕ × (ℕ × Unit {0}))). word q.0 ++ (set q.1.0 ++ (one q.1.1.0 ++ [])))
    (λ q. IsWord q.0 × (IsNodes q.1.0 × (IsDevice q.1.1.0 × Unit {0})))
    (λ q. body.SeizeQuorum q.0 q.1.0 q.1.1.0) seize_quorum_at
unfolding seize_quorum_at
seize_quorum_parts = then number8 (λ a. then number4 (λ b. then device_law (λ c. finish (body.SeizeQuorum a b c))))

seize_data_parts : Law (λ (q : ℕ × (ℕ × (ℕ × Unit {0}))). word q.0 ++ (set q.1.0 ++ (one q.1.1.0 ++ [])))
    (λ q. IsWord q.0 × (IsNodes q.1.0 × (IsDevice q.1.1.0 × Unit {0})))
    (λ q. body.SeizeData q.0 q.1.0 q.1.1.0) seize_data_at
unfolding seize_data_at
seize_data_parts = then number8 (λ a. then number4 (λ b. then device_law (λ c. finish (body.SeizeData a b c))))

seized_parts : Law (λ (q : ℕ × (ℕ × (SeizeResult × Unit {0}))). word q.0 ++ (one q.1.0 ++ (seized_result q.1.1.0 ++ [])))
    (λ q. IsWord q.0 × (IsDevice q.1.0 × (FitsResult q.1.1.0 × Unit {0})))
    (λ q. body.Seized q.0 q.1.0 q.1.1.0) seized_at
unfolding seized_at
seized_parts = then number8 (λ a. then device_law (λ b. then seized_result_law (λ c. finish (body.Seized a b c))))

install_parts : Law (λ (q : ℕ × (ℕ × (List (List ℕ) × (Option (List ℕ) × (List Reading × Unit {0}))))). word q.0 ++ (set q.1.0 ++ (list text q.1.1.0 ++ (at_most_one text q.1.1.1.0 ++ (list reading q.1.1.1.1.0 ++ [])))))
    (λ q. IsWord q.0 × (IsNodes q.1.0 × (IsShortList IsShortText q.1.1.0 × (IfSome q.1.1.1.0 IsShortText × (IsShortList FitsReading q.1.1.1.1.0 × Unit {0})))))
    (λ q. body.Install (record { epoch = q.0; members = q.1.0; committed = q.1.1.0; pending = q.1.1.1.0; readings = q.1.1.1.1.0 })) install_at
unfolding install_at
install_parts = then number8 (λ a. then number4 (λ b. then (list_law text_law) (λ c. then (at_most_one_law text_law) (λ d. then (list_law reading_law) (λ e. finish (body.Install (record { epoch = a; members = b; committed = c; pending = d; readings = e })))))))

ready_parts : Law (λ (q : ℕ × (ℕ × (Report × Unit {0}))). word q.0 ++ (set q.1.0 ++ (report q.1.1.0 ++ [])))
    (λ q. IsWord q.0 × (IsDevices q.1.0 × (FitsReport q.1.1.0 × Unit {0})))
    (λ q. body.Ready q.0 q.1.0 q.1.1.0) ready_at
unfolding ready_at
ready_parts = then number8 (λ a. then devices_law (λ b. then report_law (λ c. finish (body.Ready a b c))))

start_parts : Law (λ (q : ℕ × Unit {0}). word q.0 ++ [])
    (λ q. IsWord q.0 × Unit {0})
    (λ q. body.Start q.0) start_at
unfolding start_at
start_parts = then number8 (λ a. finish (body.Start a))

prepare_parts : Law (λ (q : ℕ × (ℕ × (List ℕ × Unit {0}))). word q.0 ++ (word q.1.0 ++ (text q.1.1.0 ++ [])))
    (λ q. IsWord q.0 × (IsWord q.1.0 × (IsShortText q.1.1.0 × Unit {0})))
    (λ q. body.Prepare q.0 q.1.0 q.1.1.0) prepare_at
unfolding prepare_at
prepare_parts = then number8 (λ a. then number8 (λ b. then text_law (λ c. finish (body.Prepare a b c))))

prepared_parts : Law (λ (q : ℕ × (ℕ × Unit {0})). word q.0 ++ (word q.1.0 ++ []))
    (λ q. IsWord q.0 × (IsWord q.1.0 × Unit {0}))
    (λ q. body.Prepared q.0 q.1.0) prepared_at
unfolding prepared_at
prepared_parts = then number8 (λ a. then number8 (λ b. finish (body.Prepared a b)))

commit_parts : Law (λ (q : ℕ × (ℕ × Unit {0})). word q.0 ++ (word q.1.0 ++ []))
    (λ q. IsWord q.0 × (IsWord q.1.0 × Unit {0}))
    (λ q. body.Commit q.0 q.1.0) commit_at
unfolding commit_at
commit_parts = then number8 (λ a. then number8 (λ b. finish (body.Commit a b)))

order_parts : Law (λ (q : ℕ × (ℕ × (Option Method × (List ℕ × Unit {0})))). word q.0 ++ (word q.1.0 ++ (one (method_byte q.1.1.0) ++ (text q.1.1.1.0 ++ []))))
    (λ q. IsWord q.0 × (IsWord q.1.0 × (Unit {0} × (IsShortText q.1.1.1.0 × Unit {0}))))
    (λ q. body.Order (record { epoch = q.0; number = q.1.0; method = q.1.1.0; resource = q.1.1.1.0 })) order_at
unfolding order_at
order_parts = then number8 (λ a. then number8 (λ b. then method_law (λ c. then text_law (λ d. finish (body.Order (record { epoch = a; number = b; method = c; resource = d }))))))

done_parts : Law (λ (q : ℕ × (ℕ × (Outcome × Unit {0}))). word q.0 ++ (word q.1.0 ++ (one (outcome_byte q.1.1.0) ++ [])))
    (λ q. IsWord q.0 × (IsWord q.1.0 × (Unit {0} × Unit {0})))
    (λ q. body.Done q.0 q.1.0 q.1.1.0) done_at
unfolding done_at
done_parts = then number8 (λ a. then number8 (λ b. then outcome_law (λ c. finish (body.Done a b c))))

request_parts : Law (λ (q : ℕ × (ℕ × (List ℕ × Unit {0}))). word q.0 ++ (word q.1.0 ++ (text q.1.1.0 ++ [])))
    (λ q. IsWord q.0 × (IsWord q.1.0 × (IsShortText q.1.1.0 × Unit {0})))
    (λ q. body.Request q.0 q.1.0 q.1.1.0) request_at
unfolding request_at
request_parts = then number8 (λ a. then number8 (λ b. then text_law (λ c. finish (body.Request a b c))))

answer_parts : Law (λ (q : ℕ × (ℕ × (List ℕ × Unit {0}))). word q.0 ++ (word q.1.0 ++ (text q.1.1.0 ++ [])))
    (λ q. IsWord q.0 × (IsWord q.1.0 × (IsShortText q.1.1.0 × Unit {0})))
    (λ q. body.Answer q.0 q.1.0 q.1.1.0) answer_at
unfolding answer_at
answer_parts = then number8 (λ a. then number8 (λ b. then text_law (λ c. finish (body.Answer a b c))))

excluded_parts : Law (λ (q : ℕ × (ℕ × Unit {0})). word q.0 ++ (word q.1.0 ++ []))
    (λ q. IsWord q.0 × (IsWord q.1.0 × Unit {0}))
    (λ q. body.Excluded q.0 q.1.0) excluded_at
unfolding excluded_at
excluded_parts = then number8 (λ a. then number8 (λ b. finish (body.Excluded a b)))

-- what was read: a body of the kind that fits, and its spelling before the rest
pub record BodyTaken (k : MessageKind) (bytes : List ℕ) (b : Body) (rest : List ℕ) : Type 0 where
  pub kind : kind_of b ≡ k
  pub fitting : FitsBody b
  pub parts : bytes ≡ fields b ++ rest
  pub left : IsBytes rest

body_taken : {A : Type 0} {spell : A → List ℕ} {fits : A → Type 0} {make : A → Body} {read : List ℕ → Option (Body × List ℕ)} (k : MessageKind) → Law spell fits make read
    → ((a : A) → fits a → (kind_of (make a) ≡ k) × (spell a ≡ fields (make a)) × FitsBody (make a))
    → (bytes : List ℕ) (b : Body) (rest : List ℕ) → IsBytes bytes → read bytes ≡ Some (b, rest) → BodyTaken k bytes b rest
body_taken k law to bytes b rest h e =
    let t = law.takes bytes b rest h e in
    let there = to t.value t.fitting in
    subst (λ (x : Body). BodyTaken k bytes x rest) t.made (record {
      kind = there.0;
      fitting = there.2;
      parts = t.parts ∙ ap (λ (l : List ℕ). l ++ rest) there.1;
      left = t.left;
    })

pub body_takes : (k : MessageKind) (bytes : List ℕ) (b : Body) (rest : List ℕ) → IsBytes bytes → body_at k bytes ≡ Some (b, rest) → BodyTaken k bytes b rest
unfolding body_at
body_takes kind.Heartbeat = body_taken kind.Heartbeat heartbeat_parts (λ q f. (refl, refl, (f.0, f.1.0)))
body_takes kind.Collect = body_taken kind.Collect collect_parts (λ q f. (refl, refl, (f.0, f.1.0)))
body_takes kind.Promise = body_taken kind.Promise promise_parts (λ q f. (refl, refl, (f.0, f.1.0, f.1.1.0, f.1.1.1.0, f.1.1.1.1.1.0, f.1.1.1.1.1.1.0)))
body_takes kind.Nack = body_taken kind.Nack nack_parts (λ q f. (refl, refl, (f.0, f.1.0)))
body_takes kind.SeizeQuorum = body_taken kind.SeizeQuorum seize_quorum_parts (λ q f. (refl, refl, (f.0, f.1.0, f.1.1.0)))
body_takes kind.SeizeData = body_taken kind.SeizeData seize_data_parts (λ q f. (refl, refl, (f.0, f.1.0, f.1.1.0)))
body_takes kind.Seized = body_taken kind.Seized seized_parts (λ q f. (refl, refl, (f.0, f.1.0, f.1.1.0)))
body_takes kind.Install = body_taken kind.Install install_parts (λ q f. (refl, refl, (f.0, f.1.0, f.1.1.0, f.1.1.1.0, f.1.1.1.1.0)))
body_takes kind.Ready = body_taken kind.Ready ready_parts (λ q f. (refl, refl, (f.0, f.1.0, f.1.1.0)))
body_takes kind.Start = body_taken kind.Start start_parts (λ q f. (refl, refl, f.0))
body_takes kind.Prepare = body_taken kind.Prepare prepare_parts (λ q f. (refl, refl, (f.0, f.1.0, f.1.1.0)))
body_takes kind.Prepared = body_taken kind.Prepared prepared_parts (λ q f. (refl, refl, (f.0, f.1.0)))
body_takes kind.Commit = body_taken kind.Commit commit_parts (λ q f. (refl, refl, (f.0, f.1.0)))
body_takes kind.Order = body_taken kind.Order order_parts (λ q f. (refl, refl, (f.0, f.1.0, f.1.1.1.0)))
body_takes kind.Done = body_taken kind.Done done_parts (λ q f. (refl, refl, (f.0, f.1.0)))
body_takes kind.Request = body_taken kind.Request request_parts (λ q f. (refl, refl, (f.0, f.1.0, f.1.1.0)))
body_takes kind.Answer = body_taken kind.Answer answer_parts (λ q f. (refl, refl, (f.0, f.1.0, f.1.1.0)))
body_takes kind.Excluded = body_taken kind.Excluded excluded_parts (λ q f. (refl, refl, (f.0, f.1.0)))

pub body_again : (b : Body) (rest : List ℕ) → FitsBody b → body_at (kind_of b) (fields b ++ rest) ≡ Some (b, rest)
unfolding body_at
body_again (body.Heartbeat a b c) rest fits = heartbeat_parts.again (a, (b, (c, tt))) rest (fits.0, (fits.1, (tt, tt)))
body_again (body.Collect a b) rest fits = collect_parts.again (a, (b, tt)) rest (fits.0, (fits.1, tt))
body_again (body.Promise a b c d e f g) rest fits = promise_parts.again (a, (b, (c, (d, (e, (f, (g, tt))))))) rest (fits.0, (fits.1, (fits.2, (fits.3, (tt, (fits.4, (fits.5, tt)))))))
body_again (body.Nack a b) rest fits = nack_parts.again (a, (b, tt)) rest (fits.0, (fits.1, tt))
body_again (body.SeizeQuorum a b c) rest fits = seize_quorum_parts.again (a, (b, (c, tt))) rest (fits.0, (fits.1, (fits.2, tt)))
body_again (body.SeizeData a b c) rest fits = seize_data_parts.again (a, (b, (c, tt))) rest (fits.0, (fits.1, (fits.2, tt)))
body_again (body.Seized a b c) rest fits = seized_parts.again (a, (b, (c, tt))) rest (fits.0, (fits.1, (fits.2, tt)))
body_again (body.Install i) rest fits = install_parts.again (i.epoch, (i.members, (i.committed, (i.pending, (i.readings, tt))))) rest (fits.0, (fits.1, (fits.2, (fits.3, (fits.4, tt)))))
body_again (body.Ready a b c) rest fits = ready_parts.again (a, (b, (c, tt))) rest (fits.0, (fits.1, (fits.2, tt)))
body_again (body.Start a) rest fits = start_parts.again (a, tt) rest (fits, tt)
body_again (body.Prepare a b c) rest fits = prepare_parts.again (a, (b, (c, tt))) rest (fits.0, (fits.1, (fits.2, tt)))
body_again (body.Prepared a b) rest fits = prepared_parts.again (a, (b, tt)) rest (fits.0, (fits.1, tt))
body_again (body.Commit a b) rest fits = commit_parts.again (a, (b, tt)) rest (fits.0, (fits.1, tt))
body_again (body.Order i) rest fits = order_parts.again (i.epoch, (i.number, (i.method, (i.resource, tt)))) rest (fits.0, (fits.1, (tt, (fits.2, tt))))
body_again (body.Done a b c) rest fits = done_parts.again (a, (b, (c, tt))) rest (fits.0, (fits.1, (tt, tt)))
body_again (body.Request a b c) rest fits = request_parts.again (a, (b, (c, tt))) rest (fits.0, (fits.1, (fits.2, tt)))
body_again (body.Answer a b c) rest fits = answer_parts.again (a, (b, (c, tt))) rest (fits.0, (fits.1, (fits.2, tt)))
body_again (body.Excluded a b) rest fits = excluded_parts.again (a, (b, tt)) rest (fits.0, (fits.1, tt))
