-- What a run keeps of requests: of each node, and of what was told.
use Rattle.std.specs.Prelude.{ℕ, ◌≡◌, ◌≤◌, ◌<◌, ◌&&◌, false, List, Option, None, Some, Ok}
use Rattle.std.specs.List.{AllByRecursion}
use Rattle.admin_words.specs.Commands.{request_of}
use Rattle.admin_words.specs.declared.request.Request.TheVariants as wish
use Rattle.ccr_tables.specs.declared.update.Update.{Update}
use Rattle.proposals.specs.State.{State}
use Rattle.request_queue.specs.declared.request.Request.{Request}
use Rattle.update_words.specs.Words.{words_of}
use Rattle.wire.specs.declared.message.Body.TheVariants as body
use Rattle.history.specs.Letters.{Letter, says}
use Rattle.history.specs.Moment.{Moment}
use Rattle.history.specs.Requests.{Asked, asked_in, requests_of, same_words}
use Rattle.history.specs.Setting.{Setting, coordinator}
use Rattle.node_model.specs.declared.cluster.Cluster.{Cluster}
use Rattle.node_model.specs.declared.node.Node.{Node}
use Rattle.node_model.specs.declared.node.Node.TheVariants.{Down, Up}
use Rattle.node_model.specs.declared.node.UpNode.{UpNode}
use Rattle.node_model.specs.declared.presidency.Presidency.{Presidency}
use Rattle.node_model.specs.Seats.{session_of, version_of}
use Rattle.run_messages.specs.Laws.{membership_in}
use Rattle.run_commands.specs.acknowledged.Askings.{AskedOnce, LettersAre, Test, asked_as, held, is_it, proposals, requested_as}
use Rattle.run_commands.specs.acknowledged.Hands.{Sound, is_past}

-- ---- a membership, for a node

-- the node asked nothing as a member of it, sent no Request of it, and proposed nothing in it
pub record Unused (k e : ℕ) (ms : List Moment) : Type 0 where
  pub asked : (q : ℕ) → asked_as k q e ms ≡ false
  pub requested : (q : ℕ) → requested_as k q e ms ≡ false
  pub proposed : coordinator e ≡ k → (words : List ℕ) → proposals e words ms ≡ 0

-- ---- a president

-- where the text is an update's, a request of this number with its words has come
abbrev pub Backed : Setting → Cluster → ℕ → List Moment → ℕ → ℕ → List ℕ → Type 0
Backed S c e ms n q text = (u : Update) → request_of (version_of c) text ≡ Ok (wish.Change u) → 1 ≤ held (is_it n q (words_of u)) (requests_of S e ms)

-- a request with these words that is past
abbrev pub past_with : State → List ℕ → Test
past_with s words = λ n q found. is_past s n q && same_words found words

-- each request that waits has come, and for each update that was proposed one is past
pub record Hand (S : Setting) (c : Cluster) (ms : List Moment) (e : ℕ) (s : State) : Type 0 where
  pub sound : Sound s
  pub backed : AllByRecursion (λ a. Backed S c e ms a.from a.number a.text) s.arrived
  pub counts : (words : List ℕ) → proposals e words ms ≤ held (past_with s words) (requests_of S e ms)

abbrev pub HandIn : Setting → Cluster → List Moment → ℕ → Option Presidency → Type 0
HandIn S c ms e None = Unit {0}
HandIn S c ms e (Some p) = Hand S c ms e p.proposals

-- ---- a node

-- a monitor asks for no update
abbrev pub IsQuiet : Cluster → Request → Type 0
IsQuiet c r = r.told ≡ false → (u : Update) → request_of (version_of c) r.text ≡ Ok (wish.Change u) → ⊥

-- memberships above its promise are not used, nor is its session before it is a member
pub record UpSo (S : Setting) (c : Cluster) (k : ℕ) (ms : List Moment) (promised : ℕ) (x : UpNode) : Type 0 where
  pub within : (e : ℕ) → promised < e → Unused k e ms
  pub forming : membership_in x.seat ≡ None → 0 < session_of x → Unused k (session_of x) ms
  pub member : (e q : ℕ) → membership_in x.seat ≡ Some e → x.requests.asked < q → asked_as k q e ms ≡ false
  pub requested : (e q : ℕ) → membership_in x.seat ≡ Some e → x.requests.asked < q → requested_as k q e ms ≡ false
  pub quiet : AllByRecursion (IsQuiet c) x.requests.waiting
  pub hand : HandIn S c ms (session_of x) x.presidency

abbrev pub NodeSo : Setting → Cluster → ℕ → List Moment → ℕ → Node → Type 0
NodeSo S c k ms promised Down = (e : ℕ) → promised < e → Unused k e ms
NodeSo S c k ms promised (Up x) = UpSo S c k ms promised x

-- ---- what was told

-- a Request of an update was asked for in its membership, with its words
abbrev pub LetterSo : Setting → Cluster → Letter → Type 0
LetterSo S c l = (e q : ℕ) (text : List ℕ) (u : Update) → says l.bytes ≡ Some (body.Request e q text) → request_of (version_of c) text ≡ Ok (wish.Change u)
    → asked_in S e l.from q l.before ≡ Some (words_of u)

pub record ToldSo (S : Setting) (c : Cluster) (ms : List Moment) : Type 0 where
  pub once : AskedOnce ms
  pub letters : LettersAre (LetterSo S c) ms
  pub asked : Asked S ms

-- what moments leave of a node's memberships: it asks nothing and proposes nothing, no request is lost, and no Request is sent but of the
-- membership v, with numbers up to the last
pub record FrameOf (S : Setting) (k : ℕ) (v : Option ℕ) (last : ℕ) (before after : List Moment) : Type 0 where
  pub asked : (q e : ℕ) → asked_as k q e after ≡ asked_as k q e before
  pub requested : (q e : ℕ) → (v ≡ Some e → last < q) → requested_as k q e after ≡ requested_as k q e before
  pub proposed : (e : ℕ) (words : List ℕ) → coordinator e ≡ k → proposals e words after ≡ proposals e words before
  pub grows : (T : Test) (e : ℕ) → held T (requests_of S e before) ≤ held T (requests_of S e after)

-- .. and the node sends none
abbrev pub Frame : Setting → ℕ → List Moment → List Moment → Type 0
Frame S k before after = FrameOf S k None 0 before after
