-- Three machines that ask one question, each following the one before. The source makes one step, after a move that is none; the machine between makes three moves, of costs 12, 32 and 32; the target makes 70.
use Rattle.std.proofs.Common.{ℕ, zero, suc, ◌≤◌, refl, arith}
use Rattle.clv_steps.specs.Machines.{Status, Runs, Asks, Ends, Machine}
use Rattle.clv_steps.specs.Runs.{Meter, counted, valued, Follows, Simulates}
use Rattle.clv_steps.proofs.Follow.{Goes, ended, quiet, skips, asks, follows}
use Rattle.clv_steps.proofs.Quiet.{Quietly, stays, goes, target_quiet}
use Rattle.clv_steps.proofs.Moments.{moments_by}

-- a state is the number of moves to come, of which the last is the question
abbrev status_at : ℕ → Status ℕ
status_at zero = Ends
status_at (suc zero) = Asks 7
status_at (suc (suc n)) = Runs

abbrev one_less : ℕ → ℕ
one_less zero = zero
one_less (suc n) = n

abbrev countdown : Machine ℕ ℕ
countdown = record { status = status_at; next = λ x n. one_less n }

abbrev weight : ℕ → ℕ
weight (suc zero) = 1
weight _ = 0

-- the machine between counts the move that it stands at
abbrev cost : ℕ → ℕ
cost zero = 0
cost (suc (suc (suc zero))) = 12
cost _ = 32

abbrev between : Meter ℕ
between = record { cost = cost; ahead = cost }

abbrev same_word : ℕ → ℕ
same_word e = e

-- behind the question both have ended
data Over (most : ℕ) : ℕ → ℕ → ℕ → Type 0 where
  over : (c : ℕ) → most ≤ c → Over most c zero zero

abbrev Upper : ℕ → ℕ → ℕ → Type 0
Upper = Goes countdown countdown same_word (valued weight 256) between (Over 256)

abbrev Lower : ℕ → ℕ → ℕ → Type 0
Lower = Goes countdown countdown same_word between (counted (λ z. 1)) (Over 0)

upper_over : (c s t : ℕ) → Over 256 c s t → Upper c s t
upper_over _ _ _ (over c low) = ended c zero zero refl refl (omega (arith, low))

lower_over : (c s t : ℕ) → Over 0 c s t → Lower c s t
lower_over _ _ _ (over c low) = ended c zero zero refl refl (omega (arith, low))

upper : Follows countdown countdown same_word (valued weight 256) between 2 3
upper =
    let question : Upper 180 1 1 = asks 180 1 1 7 refl refl (λ x. (404, over 404 (omega arith), omega arith)) in
    let second : Upper 212 1 2 = quiet 212 (λ x. 180) 1 2 refl (λ x. question) (λ x. omega arith) in
    let first : Upper 244 1 3 = quiet 244 (λ x. 212) 1 3 refl (λ x. second) (λ x. omega arith) in
    let start : Upper 244 2 3 = skips 244 244 0 2 3 refl first (omega arith) in
    follows countdown countdown same_word (valued weight 256) between (Over 256) upper_over 244 2 3 (omega arith) start

counts_down : (n : ℕ) → Quietly countdown n (suc n) 1
counts_down zero = stays 1
counts_down (suc n) = goes n (suc (suc n)) (suc n) 1 refl (λ x. refl) (counts_down n)

lower : Follows countdown countdown same_word between (counted (λ z. 1)) 3 70
lower =
    let question : Lower 7 1 1 = asks 7 1 1 7 refl refl (λ x. (6, over 6 (omega arith), omega arith)) in
    let all : Lower 76 1 70 = target_quiet countdown countdown same_word between (Over 0) 69 7 1 70 1 (counts_down 69) question in
    let second : Lower 44 2 70 = skips 44 76 0 2 70 refl all (omega arith) in
    let first : Lower 12 3 70 = skips 12 44 0 3 70 refl second (omega arith) in
    follows countdown countdown same_word between (counted (λ z. 1)) (Over 0) lower_over 12 3 70 (omega arith) first

both : Simulates countdown countdown same_word weight 256 2 70
both = moments_by countdown countdown countdown same_word same_word weight 256 between 2 3 70 upper lower
