-- What the tasks of expressions are, and how many of them come before the first step at most.
use Rattle.std.proofs.Common.{◌≡◌, ℕ, zero, suc, ◌+◌, ◌≤◌, Bool, true, false, if◌then◌else◌, List, [], ◌∷◌, ◌++◌, refl, arith}
use Rattle.cl_meaning.specs.Code.{Expr, Exprs, Tree, NoExpr, AndExpr}
use Rattle.cl_meaning.specs.Operations.{Operation}
use Rattle.cl_meaning.specs.Tasks.{Act, Pass, Operate, Leave, Unless, Choose, Decide, SelectSection, Test, Loop, LoopOnce, Break, Continue, Task, Step, Quiet, steps, making}
use Rattle.cl_common.specs.Operators.{each_from}

-- The most moves before the first step of what gives the value of an expression: ten for each of its nodes.
abbrev mutual
  pub room : Expr → ℕ
  room (Tree node ty number es) = 10 + rooms es

  pub rooms : Exprs → ℕ
  rooms NoExpr = 0
  rooms (AndExpr e es) = room e + rooms es

-- the most moves before the next step where an item goes by `break`, `continue` and `return`
pub record Ways : Type 0 where
  pub breaks : ℕ
  pub continues : ℕ
  pub leaves : ℕ

-- the moves that a task adds before the next step
abbrev pub extra : Ways → Act → ℕ
extra w (Unless decided other) = suc (room other)
extra w (Choose on_true on_false) = room on_true + room on_false
extra w (SelectSection sections) = 1
extra w (Test body) = w.breaks
extra w (Loop test next body) = suc (room test)
extra w Break = w.breaks
extra w Continue = w.continues
extra w Leave = w.leaves
extra w _ = 0

-- the most moves before the first step of a list
abbrev pub lead : Ways → List Task → ℕ
lead w [] = 0
lead w (Step a ∷ ts) = 0
lead w (Quiet a ∷ ts) = suc (extra w a + lead w ts)

-- an act of an expression; such a one after which the tasks behind it come next
abbrev pub IsPlain : Act → Type 0
IsPlain Leave = ⊥
IsPlain (Decide on_true on_false) = ⊥
IsPlain (SelectSection sections) = ⊥
IsPlain (Test body) = ⊥
IsPlain (Loop test next body) = ⊥
IsPlain (LoopOnce body test) = ⊥
IsPlain Break = ⊥
IsPlain Continue = ⊥
IsPlain _ = Unit {0}

abbrev pub IsSimple : Act → Type 0
IsSimple (Unless decided other) = ⊥
IsSimple (Choose on_true on_false) = ⊥
IsSimple a = IsPlain a

abbrev pub act_in : Task → Act
act_in (Step a) = a
act_in (Quiet a) = a

abbrev pub Each : (Act → Type 0) → List Task → Type 0
Each P [] = Unit {0}
Each P (t ∷ ts) = P (act_in t) × Each P ts

pub each_append : (P : Act → Type 0) (ts us : List Task) → Each P ts → Each P us → Each P (ts ++ us)
each_append P [] us h k = k
each_append P (t ∷ ts) us h k = (h.0, each_append P ts us h.1 k)

pub each_of : (P Q : Act → Type 0) → ((a : Act) → P a → Q a) → (ts : List Task) → Each P ts → Each Q ts
each_of P Q f [] h = tt
each_of P Q f (t ∷ ts) h = (f (act_in t) h.0, each_of P Q f ts h.1)

pub lead_append : (w : Ways) (ts us : List Task) → lead w (ts ++ us) ≤ lead w ts + lead w us
lead_append w [] us = omega arith
lead_append w (Step a ∷ ts) us = omega arith
lead_append w (Quiet a ∷ ts) us = let h = lead_append w ts us in omega (arith, h)

-- nothing behind a step counts
pub lead_step : (w : Ways) (ts us : List Task) (a : Act) → lead w ((ts ++ Step a ∷ []) ++ us) ≤ lead w ts
lead_step w [] us a = omega arith
lead_step w (Step b ∷ ts) us a = omega arith
lead_step w (Quiet b ∷ ts) us a = let h = lead_step w ts us a in omega (arith, h)

simple_extra : (w : Ways) (a : Act) → IsSimple a → extra w a ≡ 0
simple_extra w (Unless decided other) h = absurd h
simple_extra w (Choose on_true on_false) h = absurd h
simple_extra w Leave h = absurd h
simple_extra w (SelectSection sections) h = absurd h
simple_extra w (Test body) h = absurd h
simple_extra w (Loop test next body) h = absurd h
simple_extra w Break h = absurd h
simple_extra w Continue h = absurd h
simple_extra w _ h = refl

simple_plain : (a : Act) → IsSimple a → IsPlain a
simple_plain (Unless decided other) h = absurd h
simple_plain (Choose on_true on_false) h = absurd h
simple_plain _ h = h

-- Tasks of expressions, with so many moves before the first step at most.
pub record Fine (ts : List Task) (n : ℕ) : Type 0 where
  pub bound : (w : Ways) → lead w ts ≤ n
  pub plain : Each IsPlain ts

pub none : Fine [] 0
none = record { bound = λ w. omega arith; plain = tt }

pub more : {ts : List Task} (m n : ℕ) → Fine ts m → m ≤ n → Fine ts n
more m n f h = record { bound = λ w. (let b = f.bound w in omega (arith, b, h)); plain = f.plain }

pub both : {ts us : List Task} {m n : ℕ} → Fine ts m → Fine us n → Fine (ts ++ us) (m + n)
both {ts} {us} f g = record { bound = λ w. (let a = lead_append w ts us in let b = f.bound w in let c = g.bound w in omega (arith, a, b, c)); plain = each_append IsPlain ts us f.plain g.plain }

pub stepped : {ts : List Task} {n : ℕ} (a : Act) → IsPlain a → Fine ts n → Fine (Step a ∷ ts) 0
stepped a h f = record { bound = λ w. omega arith; plain = (h, f.plain) }

pub quieted : {ts : List Task} {n : ℕ} (a : Act) → IsSimple a → Fine ts n → Fine (Quiet a ∷ ts) (suc n)
quieted a h f = record { bound = λ w. (let e = simple_extra w a h in let b = f.bound w in omega (arith, e, b)); plain = (simple_plain a h, f.plain) }

pub either : {ts us : List Task} {n : ℕ} (b : Bool) → Fine ts n → Fine us n → Fine (if b then ts else us) n
either true f g = f
either false f g = g

-- what is behind a step of the first
pub behind_step : {ts us : List Task} {m n : ℕ} (a : Act) → IsPlain a → Fine ts m → Fine us n → Fine ((ts ++ Step a ∷ []) ++ us) m
behind_step {ts} {us} a h f g = record {
  bound = λ w. (let k = lead_step w ts us a in let b = f.bound w in omega (arith, k, b));
  plain = each_append IsPlain (ts ++ Step a ∷ []) us (each_append IsPlain ts (Step a ∷ []) f.plain (h, tt)) g.plain;
}

pub at_step : {ts : List Task} {m : ℕ} (a : Act) → IsPlain a → Fine ts m → Fine (ts ++ Step a ∷ []) m
at_step {ts} a h f = record {
  bound = λ w. (let k = lead_append w ts (Step a ∷ []) in let b = f.bound w in omega (arith, k, b));
  plain = each_append IsPlain ts (Step a ∷ []) f.plain (h, tt);
}

pub steps_fine : (n : ℕ) → Fine (steps n) 0
steps_fine zero = none
steps_fine (suc n) = stepped Pass tt (steps_fine n)

pub making_fine : (count : ℕ) (op : Operation) → Fine (making count op) 0
making_fine count op = stepped (Operate op) tt (steps_fine _)

pub each_step : (f : ℕ → Act) → ((k : ℕ) → IsPlain (f k)) → (k n : ℕ) → Fine (each_from (λ j. Step (f j)) k n) 0
each_step f h k zero = none
each_step f h k (suc n) = stepped (f k) (h k) (each_step f h (suc k) n)

pub each_quiet : (f : ℕ → Act) → ((k : ℕ) → IsSimple (f k)) → (k n : ℕ) → Fine (each_from (λ j. Quiet (f j)) k n) n
each_quiet f h k zero = none
each_quiet f h k (suc n) = quieted (f k) (h k) (each_quiet f h (suc k) n)
