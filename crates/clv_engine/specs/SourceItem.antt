-- What a work-item of the kernel does, one step after another (OpenCL C 1.2, 6.3 and 6.12.1).
use Rattle.std.specs.Prelude.{ℕ, ◌+◌, ◌*◌, Bool, true, false, nat_lt, if◌then◌else◌, List, [], ◌∷◌, ◌++◌}
use Rattle.clv_num.specs.Numbers.{add_of, convert_of}
use Rattle.clv_steps.specs.Machines.{Status, Runs, Asks, Ends, Fails, Machine}
use Rattle.clv_engine.specs.declared.form.Kernel.{Kernel}
use Rattle.clv_engine.specs.declared.form.Term.{Term}
use Rattle.clv_engine.specs.declared.form.Term.TheVariants.{GlobalId, Literal}
use Rattle.spv_meaning.specs.Events.{Write, Asked}

-- An expression with its conversions. Numbers are of 32 bits; a decimal literal is an int, and get_global_id gives a uint.
pub data Expr : Type 0 where
  Number : (n : ℕ) → Expr
  Converted : (a : Expr) → Expr
  GlobalIdOf : (d : Expr) → Expr
  Sum : (a b : Expr) → Expr

-- An expression, and whether its type is uint.
pub data Typed : Type 0 where
  typed : (unsigned : Bool) (e : Expr) → Typed

-- what is wanted as a uint: an int is converted
abbrev pub as_uint : Typed → Expr
as_uint (typed true e) = e
as_uint (typed false e) = Converted e

-- a sum of two ints is an int, and any other a uint
abbrev pub sum_of : Typed → Typed → Typed
sum_of (typed false a) (typed false b) = typed false (Sum a b)
sum_of (typed false a) (typed true b) = typed true (Sum (Converted a) b)
sum_of (typed true a) b = typed true (Sum a (as_uint b))

abbrev pub term_of : Term → Typed
term_of GlobalId = typed true (GlobalIdOf (Converted (Number 0)))
term_of (Literal n) = typed false (Number n)

-- sums group to the left
abbrev pub sum_from : Typed → List Term → Typed
sum_from t [] = t
sum_from t (u ∷ us) = sum_from (sum_of t (term_of u)) us

-- the value that is stored: the sum as a uint
abbrev pub value_of : List Term → Expr
value_of [] = Number 0
value_of (t ∷ ts) = as_uint (sum_from (term_of t) ts)

-- A step. Entering the function is one, and one for its parameter; each statement reached is one; so is each node, and each argument that a call passes.
pub data Task : Type 0 where
  Enter : Task
  Bind : Task
  Reach : Task
  PushPointer : Task
  PushNumber : (n : ℕ) → Task
  ConvertTop : Task
  PassTop : Task
  CallTop : Task
  AddTop : Task
  IndexTop : Task
  StoreTop : Task

-- the steps of an expression, operands from left to right
abbrev pub expr_tasks : Expr → List Task
expr_tasks (Number n) = PushNumber n ∷ []
expr_tasks (Converted a) = expr_tasks a ++ ConvertTop ∷ []
expr_tasks (GlobalIdOf d) = expr_tasks d ++ PassTop ∷ CallTop ∷ []
expr_tasks (Sum a b) = expr_tasks a ++ (expr_tasks b ++ AddTop ∷ [])

-- the place first, `a[get_global_id(0)]`; then the value; then the write
abbrev pub assignment_tasks : List Term → List Task
assignment_tasks ts = PushPointer ∷ (expr_tasks (as_uint (term_of GlobalId)) ++ IndexTop ∷ (expr_tasks (value_of ts) ++ StoreTop ∷ []))

-- the kernel: its body is a block with one statement
abbrev pub kernel_tasks : Kernel → List Task
kernel_tasks k = Enter ∷ Bind ∷ Reach ∷ Reach ∷ assignment_tasks k.terms

-- A number of 32 bits, or a pointer: a buffer, an offset in bytes, and the end of the array that it points into.
pub data Value : Type 0 where
  Scalar : (n : ℕ) → Value
  Pointer : (buffer offset end : ℕ) → Value

-- what is left to do, and the values of what was evaluated, the newest first
pub data Item : Type 0 where
  item : (todo : List Task) (stack : List Value) → Item

-- What an item sees of its launch: the number and size in bytes of its argument's buffer, and get_global_id.
pub record Surroundings : Type 0 where
  pub buffer : ℕ
  pub size : ℕ
  pub global_id : ℕ → ℕ

-- where i is at most j the first, and else the second
abbrev pub within : {A : Type 0} → ℕ → ℕ → A → A → A
within i j a b = if nat_lt j i then b else a

-- Pointer arithmetic past one beyond the array's end is undefined, and so is an access outside the array.
abbrev pub status : Surroundings → Item → Status Asked
status s (item [] st) = Ends
status s (item (IndexTop ∷ ts) (Scalar i ∷ Pointer b o e ∷ st)) = within (o + 4 * i) e Runs Fails
status s (item (StoreTop ∷ ts) (Scalar v ∷ Pointer b o e ∷ st)) = within (o + 4) e (Asks (record { function = 0; event = Write (record { buffer = b; offset = o; bits = 32 }) v })) Fails
status s _ = Runs

abbrev pub move : Surroundings → Item → Item
move s (item (PushPointer ∷ ts) st) = item ts (Pointer s.buffer 0 s.size ∷ st)
move s (item (PushNumber n ∷ ts) st) = item ts (Scalar n ∷ st)
move s (item (ConvertTop ∷ ts) (Scalar n ∷ st)) = item ts (Scalar (convert_of 32 n true 32) ∷ st)
move s (item (CallTop ∷ ts) (Scalar d ∷ st)) = item ts (Scalar (s.global_id d) ∷ st)
move s (item (AddTop ∷ ts) (Scalar b ∷ Scalar a ∷ st)) = item ts (Scalar (add_of 32 a b) ∷ st)
move s (item (IndexTop ∷ ts) (Scalar i ∷ Pointer b o e ∷ st)) = item ts (Pointer b (o + 4 * i) e ∷ st)
move s (item (StoreTop ∷ ts) (Scalar v ∷ p ∷ st)) = item ts st
move s (item (t ∷ ts) st) = item ts st
move s i = i

-- No step of this form needs an unspecified value.
abbrev pub source_item : Surroundings → Machine Item Asked
source_item s = record { status = status s; next = λ x i. move s i }

-- each task is a step
abbrev pub weight : Item → ℕ
weight i = 1

abbrev pub first_state : Kernel → Item
first_state k = item (kernel_tasks k) []
