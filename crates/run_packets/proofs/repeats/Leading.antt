-- A message that a course surely comes to: it is sent, or the node goes down before that.
use Rattle.std.specs.Prelude.{ℕ, ◌⊎◌, ◌++◌, List, [], ◌∷◌}
use Rattle.std.proofs.Common.{refl, inl, inr}
use Rattle.cmm_member.specs.Records.{NodeRecord}
use Rattle.node_model.specs.declared.cluster.Cluster.{Cluster}
use Rattle.node_model.specs.declared.node.Node.TheVariants.{Up}
use Rattle.node_model.specs.declared.node.UpNode.{UpNode}
use Rattle.node_model.specs.declared.output.Output.{Output}
use Rattle.refinement.specs.Courses.{Course, Reply, joined, under}
use Rattle.refinement.specs.Courses.Course.{Acts, Falls, Keeps, Stops}
use Rattle.refinement.specs.Courses.Reply.{Done, Lost_new, Lost_old}
use Rattle.refinement.specs.Doings.{acted, changed, effect, first_lines, given_all, gone_line, said, saved_lines, site}
use Rattle.refinement.specs.Doings.Doing.{Saves}
use Rattle.status_report.specs.declared.node_entry.DownCause.{DownCause}
use Rattle.status_report.specs.declared.node_entry.DownCause.TheVariants as down
use Rattle.wire.specs.declared.message.Body.{Body}
use Rattle.run_packets.specs.prepares.Proposals.{IsBehind}

-- node n sends m this message in the course, or goes down in it
abbrev pub LeadsTo : Cluster → ℕ → ℕ → Body → UpNode → Course → Type 0
LeadsTo c n m b x Stops = ⊥
LeadsTo c n m b x (Acts a rest) = IsBehind n m b (said c n x a) ⊎ LeadsTo c n m b (acted c n x a) rest
LeadsTo c n m b x (Keeps change rest) = LeadsTo c n m b (changed c n x change) rest
LeadsTo c n m b x (Falls why) = Unit {0}

pub behind_first : (n m : ℕ) (b : Body) (os more : List Output) → IsBehind n m b os → IsBehind n m b (os ++ more)
behind_first n m b [] more h = absurd h
behind_first n m b (o ∷ os) more (inl here) = inl here
behind_first n m b (o ∷ os) more (inr later) = inr (behind_first n m b os more later)

pub behind_later : (n m : ℕ) (b : Body) (os more : List Output) → IsBehind n m b more → IsBehind n m b (os ++ more)
behind_later n m b [] more h = h
behind_later n m b (o ∷ os) more h = inr (behind_later n m b os more h)

module _ (c : Cluster) (n m : ℕ) (b : Body) where
  -- .. in what comes behind a course
  pub leads_behind : (x : UpNode) (k : Course) (next : UpNode → Course) → ((y : UpNode) → LeadsTo c n m b y (next y)) → LeadsTo c n m b x (joined c n x k next)
  leads_behind x Stops next h = h x
  leads_behind x (Acts a rest) next h = inr (leads_behind (acted c n x a) rest next h)
  leads_behind x (Keeps change rest) next h = leads_behind (changed c n x change) rest next h
  leads_behind x (Falls why) next h = tt

  -- .. or in the course itself
  pub leads_first : (x : UpNode) (k : Course) (next : UpNode → Course) → LeadsTo c n m b x k → LeadsTo c n m b x (joined c n x k next)
  leads_first x Stops next h = absurd h
  leads_first x (Acts a rest) next (inl here) = inl here
  leads_first x (Acts a rest) next (inr later) = inr (leads_first (acted c n x a) rest next later)
  leads_first x (Keeps change rest) next h = leads_first (changed c n x change) rest next h
  leads_first x (Falls why) next h = tt

  -- the node goes down
  gone : (why : DownCause) (first more : List Output) → IsBehind n m b ((first ++ gone_line n why) ++ more)
  gone why first more = behind_first n m b (first ++ gone_line n why) more (behind_later n m b first (gone_line n why) (inl refl))

  -- under all replies of the disk it is among what the node gives
  pub leads_given : (replies : List Reply) (kept : NodeRecord) (x : UpNode) (k : Course) → LeadsTo c n m b x k → IsBehind n m b (given_all c n (site (Up x) kept) (under replies k))
  leads_given replies kept x Stops h = absurd h
  leads_given replies kept x (Acts a rest) (inl here) = behind_first n m b (said c n x a) (given_all c n (site (Up (acted c n x a)) kept) (under replies rest)) here
  leads_given replies kept x (Acts a rest) (inr later) =
      behind_later n m b (said c n x a) (given_all c n (site (Up (acted c n x a)) kept) (under replies rest)) (leads_given replies kept (acted c n x a) rest later)
  leads_given [] kept x (Keeps change rest) h = gone down.Stopped (first_lines n change) []
  leads_given (Done ∷ replies) kept x (Keeps change rest) h =
      behind_later n m b (first_lines n change ++ saved_lines c n x change) (given_all c n (effect c n (site (Up x) kept) (Saves change)) (under replies rest))
      (leads_given replies (effect c n (site (Up x) kept) (Saves change)).disk (changed c n x change) rest h)
  leads_given (Lost_new why ∷ replies) kept x (Keeps change rest) h = gone why (first_lines n change) []
  leads_given (Lost_old why ∷ replies) kept x (Keeps change rest) h = gone why (first_lines n change) []
  leads_given replies kept x (Falls why) h = inl refl
