-- Each invocation of a kernel's module does what its work-item does.
use Rattle.std.proofs.Common.{◌≡◌, ℕ, ◌+◌, ◌-◌, ◌*◌, ◌/◌, ◌%◌, ◌^◌, ◌<◌, ◌≤◌, List, [], length, Some, None, refl, sym, ap, ◌∙◌, subst, arith, inl, inr, All, option_map}
use Rattle.std.proofs.lemmas.Bool.{lt-ltb}
use Rattle.clv_steps.specs.Runs.{counted, valued, Follows}
use Rattle.clv_worlds.specs.Simulation.{Serves}
use Rattle.clv_worlds.proofs.Simulated.{simulated}
use Rattle.clv_steps.proofs.Follow.{Goes, wrong, ended, asks, at_credit, follows}
use Rattle.clv_steps.proofs.Moments.{moments}
use Rattle.clv_engine.specs.declared.form.Kernel.{Kernel}
use Rattle.clv_engine.specs.declared.id.TheConstants as id
use Rattle.clv_engine.specs.FirstForm.{IsTerm, IsKernel}
use Rattle.launch_text.specs.Rules.{LoadedLaunch}
use Rattle.launch_text.specs.WorkItems.{place_in}
use Rattle.clv_engine.specs.SourceItem.{Item, item, Surroundings, source_item, weight, first_state}
use Rattle.clv_engine.specs.Emitted.{body_of}
use Rattle.spv_reflect.specs.declared.rows.ArgKindRow.TheVariants.{Buffer as BufferRow}
use Rattle.spv_meaning.specs.Start.{Start}
use Rattle.launch_text.specs.Rules.{buffer_given}
use Rattle.vk_bind.specs.Binding.{BindsTo, bound_by}
use Rattle.spv_meaning.specs.Worlds.{Buffers, after_event, module_world}
use Rattle.clv_engine.specs.LaunchWorlds.{shared_of, source_world, WorldSimulation}
use Rattle.launch_text.specs.Rules.{size_of}
use Rattle.spv_module.specs.Options.{or_default}
use Rattle.spv_meaning.specs.Invocation.{Run, run, over, Given, place_after, invocation, first_run}
use Rattle.spv_meaning.specs.Invocation.{given_of}
use Rattle.clv_engine.specs.Promises.{Fits, surroundings_of, in_function, ItemSimulation}
use Rattle.clv_engine.proofs.NumberTests.{less_or_not}
use Rattle.clv_steps.proofs.Quiet.{Quietly, source_quiet, target_quiet}
use Rattle.clv_engine.proofs.Places.{lies_found}
use Rattle.clv_engine.proofs.Launches.{HasBuffer, has_buffer, global_id_is, global_id_within, start_for, start_only}
use Rattle.clv_engine.proofs.Defined.{each_defined}
use Rattle.clv_engine.proofs.SourceRun.{total_of, at_index, at_store, written, index_fails, store_fails, store_asks, to_index, to_store}
use Rattle.clv_engine.proofs.TargetRun.{IsStart, Writes, to_write}

-- Behind the write the item has ended, and the invocation returns. So much is still paid for.
record Left (g : Given) (c : ℕ) (i : Item) (r : Run) : Type 0 where
  done : i ≡ item [] []
  returns : Quietly (invocation g) 1 r over
  paid : 257 ≤ c

-- From an item and a run on, with so many instructions paid for, both come to where they ask the same write.
abbrev GoesOn : Surroundings → Given → ℕ → ℕ → Item → Run → Type 0
GoesOn s g f c i r = Goes (source_item s) (invocation g) (in_function f) (valued weight 256) (counted (λ z. 1)) (Left g) c i r

item_alone : (s : Surroundings) (g : Given) (f n c : ℕ) (i j : Item) (r : Run) → Quietly (source_item s) n i j → GoesOn s g f (c + n * 256) j r → GoesOn s g f c i r
item_alone s g f n c i j r q go = source_quiet (source_item s) (invocation g) (in_function f) 256 (counted (λ z. 1)) (Left g) n c i j r q go

run_alone : (s : Surroundings) (g : Given) (f n c : ℕ) (i : Item) (r q : Run) → n ≤ c → Quietly (invocation g) n r q → GoesOn s g f (c - n) i q → GoesOn s g f c i r
run_alone s g f n c i r q low runs go = at_credit (n + (c - n)) c (omega (arith, low)) (target_quiet (source_item s) (invocation g) (in_function f) (valued weight 256) (Left g) n (c - n) i r q runs go)

left_goes : (s : Surroundings) (g : Given) (f c : ℕ) (i : Item) (r : Run) → Left g c i r → GoesOn s g f c i r
left_goes s g f c i r l =
    let paid = l.paid in
    subst (λ j. GoesOn s g f c j r) (sym l.done) (run_alone s g f 1 c (item [] []) r over (omega (arith, paid)) l.returns (ended (c - 1) (item [] []) over refl refl (omega (arith, paid))))

-- What the item needs of the launch, and the module where there is room for the element.
record Both (k : Kernel) (s : Surroundings) (g : Given) (f p : ℕ) : Type 0 where
  word : s.global_id 0 < 2 ^ 32
  terms : All IsTerm k.terms
  writes : 0 + 4 * s.global_id 0 + 4 ≤ s.size → Writes g f p (6 + 5 * length k.terms) s.buffer (s.global_id 0) (total_of (s.global_id 0) k.terms)

-- The item is at its write and has room for it: the run comes there, and both ask.
write_goes : (k : Kernel) (s : Surroundings) (g : Given) (f p c most : ℕ) → Writes g f p most s.buffer (s.global_id 0) (total_of (s.global_id 0) k.terms) → 0 + 4 * s.global_id 0 + 4 ≤ s.size → most + 2 ≤ c → GoesOn s g f c (at_store s k.terms) (run f p [] [])
write_goes k s g f p c most w room paid =
    let few = w.few in
    let left : (x : ℕ) → Left g 257 (item [] []) ((invocation g).next x w.here) = λ x. record { done = refl; returns = subst (λ r. Quietly (invocation g) 1 r over) (sym (w.goes_on x)) w.returns; paid = omega arith } in
    run_alone s g f w.count c (at_store s k.terms) (run f p [] []) w.here (omega (arith, few, paid)) w.runs
    (asks (c - w.count) (at_store s k.terms) w.here (written s k.terms) (store_asks s k.terms room) w.asks (λ x. (257, left x, omega (arith, paid, few))))

store_goes : (k : Kernel) (s : Surroundings) (g : Given) (f p c : ℕ) → Both k s g f p → 8 + 5 * length k.terms ≤ c → GoesOn s g f c (at_store s k.terms) (run f p [] [])
store_goes k s g f p c b paid = elim (less_or_not s.size (0 + 4 * s.global_id 0 + 4)) [
  | inl h ↦ wrong c (at_store s k.terms) (run f p [] []) (store_fails s k.terms h.0)
  | inr h ↦ write_goes k s g f p c (6 + 5 * length k.terms) (b.writes h.1) h.1 (omega (arith, paid))
]

index_goes : (k : Kernel) (s : Surroundings) (g : Given) (f p c : ℕ) → Both k s g f p → 8 ≤ c → GoesOn s g f c (at_index s k.terms) (run f p [] [])
index_goes k s g f p c b paid = elim (less_or_not s.size (0 + 4 * s.global_id 0)) [
  | inl h ↦ wrong c (at_index s k.terms) (run f p [] []) (index_fails s k.terms h.0)
  | inr h ↦
      let q = to_store s k b.word b.terms h.1 in
      let enough = q.1 in
      item_alone s g f q.0 c (at_index s k.terms) (at_store s k.terms) (run f p [] []) q.2 (store_goes k s g f p (c + q.0 * 256) b (omega (arith, enough, paid)))
]

both_follow : (k : Kernel) (s : Surroundings) (g : Given) (f p : ℕ) → Both k s g f p → Follows (source_item s) (invocation g) (in_function f) (valued weight 256) (counted (λ z. 1)) (first_state k) (run f p [] [])
both_follow k s g f p b =
    let begin = item_alone s g f 9 256 (first_state k) (at_index s k.terms) (run f p [] []) (to_index s k) (index_goes k s g f p (256 + 9 * 256) b (omega arith)) in
    follows (source_item s) (invocation g) (in_function f) (valued weight 256) (counted (λ z. 1)) (Left g) (left_goes s g f) 256 (first_state k) (run f p [] []) (omega arith) begin

-- the item's invocation follows it
abbrev ItemFollows : Kernel → LoadedLaunch → Start → ℕ → Type 0
ItemFollows k l start n = Follows (source_item (surroundings_of l n)) (invocation (given_of (body_of k) start n)) (in_function start.function) (valued weight 256) (counted (λ z. 1)) (first_state k) (first_run (given_of (body_of k) start n))

-- the launch's side
start_is : (k : Kernel) (l : LoadedLaunch) (b : HasBuffer l) → IsStart (start_for k l) b.file (length b.bytes)
start_is k l b = record {
  function = refl;
  bound = ap (λ as_. bound_by (BufferRow 0 0) (buffer_given 0 as_) []) b.arguments;
  sized = ap (option_map length) b.found;
}

buffer_is : (l : LoadedLaunch) (n : ℕ) (b : HasBuffer l) → (surroundings_of l n).buffer ≡ b.file
buffer_is l n b = ap (λ as_. or_default (buffer_given 0 as_) 0) b.arguments

size_is : (l : LoadedLaunch) (n : ℕ) (b : HasBuffer l) → (surroundings_of l n).size ≡ length b.bytes
size_is l n b = ap (λ m. or_default (size_of l.buffers m) 0) (buffer_is l n b) ∙ ap (λ o. or_default (option_map length o) 0) b.found

writes_found : (k : Kernel) (l : LoadedLaunch) (n : ℕ) → Fits k l → 0 + 4 * (surroundings_of l n).global_id 0 + 4 ≤ (surroundings_of l n).size
    → Writes (given_of (body_of k) (start_for k l) n) id.MAIN (place_after (body_of k) id.MAIN) (6 + 5 * length k.terms) (surroundings_of l n).buffer ((surroundings_of l n).global_id 0) (total_of ((surroundings_of l n).global_id 0) k.terms)
writes_found k l n f room =
    let b = has_buffer k l f in
    let g = given_of (body_of k) (start_for k l) n in
    let p = place_after (body_of k) id.MAIN in
    let x = n % l.global.x in
    let sized = size_is l n b in
    let same = global_id_is l n f.launch.some in
    let low : x < (length b.bytes - 0) / 4 = omega (arith, room, sized, same) in
    let w = to_write k (start_for k l) (place_in l.global n) id.MAIN p b.file (length b.bytes) (start_is k l b) (lt-ltb x ((length b.bytes - 0) / 4) low) (lies_found k) in
    subst (λ y. Writes g id.MAIN p (6 + 5 * length k.terms) (surroundings_of l n).buffer y (total_of y k.terms)) (sym same) (subst (λ m. Writes g id.MAIN p (6 + 5 * length k.terms) m x (total_of x k.terms)) (sym (buffer_is l n b)) w)

both_found : (k : Kernel) (l : LoadedLaunch) (n : ℕ) → IsKernel k → Fits k l → Both k (surroundings_of l n) (given_of (body_of k) (start_for k l) n) id.MAIN (place_after (body_of k) id.MAIN)
both_found k l n kernel f = record {
  word = let low = global_id_within k l n f in let word = f.launch.global.x.word in omega (arith, low, word);
  terms = kernel.terms;
  writes = writes_found k l n f;
}

-- each item of a launch is followed by its invocation
pub item_follows : (k : Kernel) (l : LoadedLaunch) (start : Start) (n : ℕ) → IsKernel k → Fits k l → BindsTo (body_of k) l start → ItemFollows k l start n
item_follows k l start n kernel f b = subst (λ at. ItemFollows k l at n) (start_only k l start f b) (both_follow k (surroundings_of l n) (given_of (body_of k) (start_for k l) n) id.MAIN (place_after (body_of k) id.MAIN) (both_found k l n kernel f))

pub item_simulation : (k : Kernel) → IsKernel k → ItemSimulation (body_of k) k
item_simulation k kernel = record {
  serves = λ l start n f b low. moments (source_item (surroundings_of l n)) (invocation (given_of (body_of k) start n)) (in_function start.function) weight 256 (first_state k) (first_run (given_of (body_of k) start n)) (item_follows k l start n kernel f b);
}

-- both have one memory
abbrev SameBuffers : Buffers → Buffers → Type 0
SameBuffers old new = old ≡ new

-- nothing is a barrier
no_chain : {A : Type 0} (k : List ℕ) → None ≡ Some k → A
no_chain k e = absurd (let c : None ≡ Some k = e in cc)

worlds_serve : (k : Kernel) (l : LoadedLaunch) (start : Start) → IsKernel k → Fits k l → BindsTo (body_of k) l start → Serves (shared_of l) (shared_of l) (source_world k l start.function) (module_world (body_of k) start) (in_function start.function) (λ seen. seen) SameBuffers 256
worlds_serve k l start kernel f b = record {
  count = refl;
  group = λ n. refl;
  follows = λ n low. item_follows k l start n kernel f b;
  words = λ asked. refl;
  chain = λ chain. chain;
  meets = λ asked chain e. no_chain chain e;
  open_gate = λ asked e. refl;
  tells = λ asked asked2 chain chain2 same e e2. no_chain chain e;
  alike = λ n asked old new low can gate same. record { denies = λ e. e; reply = λ e. refl; leave = λ e. ap (after_event asked.event) same };
  denied = refl;
}

pub world_simulation : (k : Kernel) → IsKernel k → WorldSimulation (body_of k) k
world_simulation k kernel = record {
  worlds = λ l start f b defined. simulated (shared_of l) (shared_of l) (source_world k l start.function) (module_world (body_of k) start) (in_function start.function) (λ seen. seen) SameBuffers 256 (worlds_serve k l start kernel f b) l.buffers l.buffers refl defined;
  defined = λ l function f room. each_defined k l function kernel f room;
}
