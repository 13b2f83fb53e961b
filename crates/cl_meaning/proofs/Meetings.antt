-- What the log of a launch tells of its items, and where they meet.
use Rattle.std.proofs.Common.{◌≡◌, ℕ, ◌<◌, List, [], ◌∷◌, Some, refl, sym, ap, ◌∙◌}
use Rattle.clv_steps.specs.Machines.{Asks}
use Rattle.clv_worlds.specs.Worlds.{World, Entry}
use Rattle.clv_worlds.specs.Histories.{Waited, Met}
use Rattle.clv_worlds.proofs.Logs.{log_tells, memory_tells, groups_meet}
use Rattle.cl_tree.specs.declared.event.NodeId.{NodeId}
use Rattle.cl_tree.specs.declared.event.Event.{Event}
use Rattle.cl_tree.specs.declared.event.Event.TheVariants as event
use Rattle.launch_text.specs.Rules.{LoadedLaunch}
use Rattle.launch_text.specs.WorkItems.{volume, group_of}
use Rattle.cl_common.specs.Events.{Asked, numbers_of, gate_of}
use Rattle.cl_common.specs.SharedMemory.{SharedMemory, shared_by, opening_memory}
use Rattle.cl_meaning.specs.Source.{Unit as Compiled, source_world}
use Rattle.cl_meaning.specs.Laws.{LogsTell, EventsAreTold, StoodAt, GroupsMeetAtOne}

pub logs_tell : LogsTell
logs_tell u l = log_tells (shared_by u.constants l) (source_world u l) (opening_memory l.buffers)

pub events_are_told : EventsAreTold
events_are_told u l = memory_tells (shared_by u.constants l) (source_world u l) (opening_memory l.buffers)

-- ---- the numbers of nodes tell nodes apart

one_node : (m n : NodeId) → m.function ≡ n.function → m.node ≡ n.node → m ≡ n
one_node m n e f =
    let a : ◌≡◌ {A = NodeId} (record { function = m.function; node = m.node }) (record { function = n.function; node = m.node }) = ap (λ k. record { function = k; node = m.node }) e in
    let b : ◌≡◌ {A = NodeId} (record { function = n.function; node = m.node }) (record { function = n.function; node = n.node }) = ap (λ k. record { function = n.function; node = k }) f in
    a ∙ b

pub one_chain : (ms ns : List NodeId) → numbers_of ms ≡ numbers_of ns → ms ≡ ns
one_chain [] [] e = refl
one_chain [] (n ∷ ns) e = cc
one_chain (m ∷ ms) [] e = cc
one_chain (m ∷ ms) (n ∷ ns) e =
    let z : m.function ∷ m.node ∷ numbers_of ms ≡ n.function ∷ n.node ∷ numbers_of ns = e in
    let functions : m.function ≡ n.function = cc in
    let numbers : m.node ≡ n.node = cc in
    let behind : numbers_of ms ≡ numbers_of ns = cc in
    let head = one_node m n functions numbers in
    let rest = one_chain ms ns behind in
    cc

-- an event with a chain is a barrier
barrier_of : (e : Event) (chain : List ℕ) → gate_of e ≡ Some chain → (nodes : List NodeId) × (e ≡ event.Barrier nodes) × (numbers_of nodes ≡ chain)
barrier_of (event.Barrier nodes) chain h = (nodes, refl, (let z : Some (numbers_of nodes) ≡ Some chain = h in cc))
barrier_of _ chain h = cc

asked_at : (a : Asked) (e : Event) → a.event ≡ e → a ≡ record { calls = a.calls; event = e }
asked_at a e h = ap (λ z. record { calls = a.calls; event = z }) h

module _ (u : Compiled) (l : LoadedLaunch) (w : World Asked SharedMemory) (before : List (Entry Asked)) where
  stood : (chain : List ℕ) (nodes : List NodeId) → numbers_of nodes ≡ chain → (item : ℕ) → Waited (shared_by u.constants l) (source_world u l) w before chain item → StoodAt u l w nodes item
  stood chain nodes is item h =
      let b = barrier_of h.event.event chain h.gate in
      let same = one_chain b.0 nodes (b.2 ∙ sym is) in
      record {
        front = h.front;
        back = h.back;
        history = h.history;
        calls = h.event.calls;
        stands = h.asks ∙ ap Asks (asked_at h.event (event.Barrier nodes) (b.1 ∙ ap event.Barrier same));
      }

  met : (group : ℕ) → Met (shared_by u.constants l) (source_world u l) w before group → (nodes : List NodeId) × ((item : ℕ) → item < volume l.global → group_of l.global l.local item ≡ group → StoodAt u l w nodes item)
  met group h =
      let first = h.each h.one.0 h.one.1 h.one.2 in
      let b = barrier_of first.event.event h.chain first.gate in
      (b.0, λ item low there. stood h.chain b.0 b.2 item (h.each item low there))

pub groups_meet_at_one : GroupsMeetAtOne
groups_meet_at_one u l w run before behind group is = met u l w before group (groups_meet (shared_by u.constants l) (source_world u l) (opening_memory l.buffers) w run before behind group is)
