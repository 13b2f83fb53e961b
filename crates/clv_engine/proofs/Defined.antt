-- No run of the source's world goes wrong where each item has room for its element.
use Rattle.std.proofs.Common.{◌≡◌, ℕ, ◌+◌, ◌*◌, ◌^◌, ◌<◌, ◌≤◌, List, [], ◌∷◌, true, false, Option, Some, None, refl, sym, ap, ◌∙◌, subst, arith, All}
use Rattle.clv_steps.specs.Machines.{Status, Runs, Ends, Fails, after}
use Rattle.clv_steps.proofs.Quiet.{Quietly, stays, goes, and_then}
use Rattle.clv_worlds.specs.Worlds.{World, WaitsAt, IsWrong, fails, denied, mismatched, IsDefined}
use Rattle.clv_steps.proofs.Statuses.{asks_fails}
use Rattle.clv_engine.specs.declared.form.Kernel.{Kernel}
use Rattle.clv_engine.specs.declared.form.Term.{Term}
use Rattle.clv_engine.specs.FirstForm.{IsTerm, IsKernel}
use Rattle.spv_meaning.specs.Events.{Asked}
use Rattle.launch_text.specs.Rules.{LoadedLaunch}
use Rattle.clv_engine.specs.SourceItem.{Item, item, Surroundings, source_item, first_state}
use Rattle.clv_engine.specs.Promises.{Fits, surroundings_of}
use Rattle.spv_meaning.specs.Worlds.{Buffers}
use Rattle.clv_engine.specs.LaunchWorlds.{shared_of, source_world, HasRoom}
use Rattle.clv_engine.proofs.Launches.{global_id_within}
use Rattle.clv_engine.proofs.SourceRun.{at_index, at_store, written, store_asks, to_index, to_store}

-- An item's straight line: it comes to its write by steps of its own, or it has ended.
data OnLine (s : Surroundings) (ts : List Term) : Item → Type 0 where
  comes : (n : ℕ) (i : Item) → Quietly (source_item s) n i (at_store s ts) → OnLine s ts i
  is_over : (i : Item) → i ≡ item [] [] → OnLine s ts i

-- What an item needs for that: a place that is a number of 32 bits, and an element there.
record CanWrite (k : Kernel) (s : Surroundings) : Type 0 where
  word : s.global_id 0 < 2 ^ 32
  terms : All IsTerm k.terms
  room : 4 * s.global_id 0 + 4 ≤ s.size

begins : (k : Kernel) (s : Surroundings) → CanWrite k s → OnLine s k.terms (first_state k)
begins k s c =
    let room = c.room in
    let q = to_store s k c.word c.terms (omega (arith, room)) in
    comes (9 + q.0) (first_state k) (and_then (source_item s) 9 q.0 (first_state k) (at_index s k.terms) (at_store s k.terms) (to_index s k) q.2)

-- One step keeps to the line, whatever number it is given.
quiet_keeps : (s : Surroundings) (ts : List Term) (x n : ℕ) (i j : Item) → j ≡ at_store s ts → Quietly (source_item s) n i j → OnLine s ts ((source_item s).next x i)
quiet_keeps s ts x _ _ _ e (stays i) = is_over ((source_item s).next x i) (ap ((source_item s).next x) e)
quiet_keeps s ts x _ _ j e (goes n i u _ runs next q) = comes n ((source_item s).next x i) (subst (λ z. Quietly (source_item s) n z (at_store s ts)) (sym (next x)) (subst (Quietly (source_item s) n u) e q))

step_keeps : (s : Surroundings) (ts : List Term) (x : ℕ) (i : Item) → OnLine s ts i → OnLine s ts ((source_item s).next x i)
step_keeps s ts x _ (comes n i q) = quiet_keeps s ts x n i (at_store s ts) refl q
step_keeps s ts x _ (is_over i e) = is_over ((source_item s).next x i) (ap ((source_item s).next x) e)

stays_on : (s : Surroundings) (ts : List Term) (h : List ℕ) (i : Item) → OnLine s ts i → OnLine s ts (after (source_item s) h i)
stays_on s ts [] i o = o
stays_on s ts (x ∷ h) i o = stays_on s ts h ((source_item s).next x i) (step_keeps s ts x i o)

-- Nothing on the line is undefined.
runs_fails : (s : Surroundings) (i : Item) → (source_item s).status i ≡ Runs → (source_item s).status i ≡ Fails → ⊥
runs_fails s i h k = let c : ◌≡◌ {A = Status Asked} Runs Fails = sym h ∙ k in cc

quiet_defined : (k : Kernel) (s : Surroundings) (c : CanWrite k s) (n : ℕ) (i j : Item) → j ≡ at_store s k.terms → Quietly (source_item s) n i j → (source_item s).status i ≡ Fails → ⊥
quiet_defined k s c _ _ _ e (stays i) undefined =
    let room = c.room in
    asks_fails ((source_item s).status (at_store s k.terms)) (written s k.terms) (store_asks s k.terms (omega (arith, room))) (ap (source_item s).status (sym e) ∙ undefined)
quiet_defined k s c _ _ j e (goes n i u _ runs next q) undefined = runs_fails s i runs undefined

line_defined : (k : Kernel) (s : Surroundings) (c : CanWrite k s) (i : Item) → OnLine s k.terms i → (source_item s).status i ≡ Fails → ⊥
line_defined k s c _ (comes n i q) undefined = quiet_defined k s c n i (at_store s k.terms) refl q undefined
line_defined k s c _ (is_over i e) undefined = let ends_fails : ◌≡◌ {A = Status Asked} Ends Fails = ap (source_item s).status (sym e) ∙ undefined in cc

-- So no item is undefined after any history.
never_undefined : (k : Kernel) (s : Surroundings) (h : List ℕ) → CanWrite k s → (source_item s).status (after (source_item s) h (first_state k)) ≡ Fails → ⊥
never_undefined k s h c = line_defined k s c (after (source_item s) h (first_state k)) (stays_on s k.terms h (first_state k) (begins k s c))

-- each item of the launch has its element
can_write : (k : Kernel) (l : LoadedLaunch) (n : ℕ) → IsKernel k → Fits k l → HasRoom l → CanWrite k (surroundings_of l n)
can_write k l n kernel f room =
    let low = global_id_within k l n f in
    let word = f.launch.global.x.word in
    let here : 4 * l.global.x ≤ (surroundings_of l n).size = room in
    record { word = omega (arith, low, word); terms = kernel.terms; room = omega (arith, low, here) }

no_wait : (k : Kernel) (l : LoadedLaunch) (function n : ℕ) (w : World Asked Buffers) (chain : List ℕ) → WaitsAt (source_world k l function) w n chain → ⊥
no_wait k l function n w chain waits = let c : ◌≡◌ {A = Option (List ℕ)} None (Some chain) = waits.gate in cc

never_wrong : (k : Kernel) (l : LoadedLaunch) (function : ℕ) → IsKernel k → Fits k l → HasRoom l → (w : World Asked Buffers) → IsWrong (shared_of l) (source_world k l function) w → ⊥
never_wrong k l function kernel f room w (fails n low undefined) = never_undefined k (surroundings_of l n) (w.items n) (can_write k l n kernel f room) undefined
never_wrong k l function kernel f room w (denied n asked low asks denies taken) = let c : false ≡ true = denies in cc
never_wrong k l function kernel f room w (mismatched g unmet) = no_wait k l function unmet.one.0 w unmet.one.3 unmet.one.4

-- Nothing goes wrong in any world, however it was reached.
pub each_defined : (k : Kernel) (l : LoadedLaunch) (function : ℕ) → IsKernel k → Fits k l → HasRoom l → IsDefined (shared_of l) (source_world k l function) l.buffers
each_defined k l function kernel f room = λ w run wrong. never_wrong k l function kernel f room w wrong
