-- The items of a target that each follow the source's simulate the source together.
use Rattle.std.proofs.Common.{◌≡◌, ℕ, ◌*◌, ◌<◌, ◌≤◌, sym, subst, arith}
use Rattle.clv_steps.specs.Runs.{Matches}
use Rattle.clv_steps.proofs.Append.{paid_times}
use Rattle.clv_worlds.specs.Worlds.{Shared, Program, World, state, IsWrong, fails, denied, mismatched, IsDefined, IsComplete, item_steps, steps_of}
use Rattle.clv_worlds.specs.Simulation.{Serves, Agree, Simulated}
use Rattle.clv_steps.proofs.Statuses.{matches_fails, matches_ends}
use Rattle.clv_worlds.proofs.Steps.{sums}
use Rattle.clv_worlds.proofs.Lift.{Beside, lifted, not_denied}
use Rattle.clv_worlds.proofs.Mismatch.{mismatch}
use Rattle.clv_worlds.proofs.Stuck.{not_stuck}

module _ {S T E D F G M N : Type 0} (l : Shared F M) (k : Shared G N) (a : Program S E F) (b : Program T D G) (word : E → D) (across : F → G) (holds : M → N → Type 0) (worth : ℕ) (s : Serves l k a b word across holds worth) (m : M) (n : N) (at_first : holds m n) (defined : IsDefined l a m) where
  stands : (v : World G N) (q : Beside l k a b word across holds worth m v) (i : ℕ) → i < l.count → Matches word ((a.machine i).status (state a q.world i)) ((b.machine i).status (state b v i))
  stands v q i low = (q.keeps i low).stands

  in_source : (i : ℕ) → i < k.count → i < l.count
  in_source i low = subst (λ c. i < c) (sym s.count) low

  in_target : (i : ℕ) → i < l.count → i < k.count
  in_target i low = subst (λ c. i < c) s.count low

  not_wrong : (v : World G N) → Beside l k a b word across holds worth m v → IsWrong k b v → ⊥
  not_wrong v q (fails i low trap) = matches_fails word _ _ trap (stands v q i (in_source i low))
  not_wrong v q (denied i f low asks denies taken) = let here = in_source i low in not_denied l k a b word across holds worth s m n at_first defined q.world v i f q.run here (q.legal i here) q.memory (stands v q i here) asks denies
  not_wrong v q (mismatched g unmet) = defined q.world q.run (mismatched g (mismatch l k a b word across holds worth s q.world v (stands v q) g unmet))

  -- an item's steps are at most what the source's are worth, once it has ended
  ended_bound : (v : World G N) (q : Beside l k a b word across holds worth m v) → IsComplete k b v → (i : ℕ) → i < l.count → item_steps b i (v.items i) ≤ worth * item_steps a i (q.world.items i)
  ended_bound v q ends i low =
      let most = (q.keeps i low).ended (ends i (in_target i low)) in
      let all = paid_times (a.machine i) a.weight worth (q.world.items i) (a.start i) in
      omega (arith, most, all)

  agree : (v : World G N) (q : Beside l k a b word across holds worth m v) → Agree l k a b across holds worth q.world v
  agree v q = record {
    memory = q.memory;
    log = q.log;
    bound = λ i low.
        let most = (q.keeps i (in_source i low)).bound in
        let all = paid_times (a.machine i) a.weight worth (q.world.items i) (a.start i) in
        omega (arith, most, all);
    complete = λ ends i low. matches_ends word _ _ (ends i (in_target i low)) (stands v q i low);
    steps = λ ends. subst (λ c. steps_of b c v.items ≤ worth * steps_of a l.count q.world.items) s.count (sums a b worth l.count q.world.items v.items (ended_bound v q ends));
  }

-- World simulation, from the items.
pub simulated : {S T E D F G M N : Type 0} (l : Shared F M) (k : Shared G N) (a : Program S E F) (b : Program T D G) (word : E → D) (across : F → G) (holds : M → N → Type 0) (worth : ℕ) → Serves l k a b word across holds worth → (m : M) (n : N) → holds m n → IsDefined l a m → Simulated l k a b across holds worth m n
simulated l k a b word across holds worth s m n at_first defined =
    let beside = lifted l k a b word across holds worth s m n at_first defined in
    record {
      right = λ v run. not_wrong l k a b word across holds worth s m n at_first defined v (beside v run);
      moves = λ v run stuck. not_stuck k b v stuck;
      runs = λ v run. (let q = beside v run in (q.world, q.run, agree l k a b word across holds worth s m n at_first defined v q));
    }
