-- Where a run of a module begins: what a launch gives it.
use Rattle.std.specs.Prelude.{ℕ, List}
use Rattle.launch_text.specs.WorkItems.{Sizes}
use Rattle.spv_module.specs.declared.module.Inst.{Inst}
use Rattle.spv_meaning.specs.Start.{Bound, Specialised}

-- The entry function, the sizes of the grid and of a group, the bytes of each buffer by its number, what is bound to them, and the push constants. The first `shared` buffers are memory that the invocations share. Those behind them hold values that are given, and nothing writes them.
pub record Start : Type 0 where
  pub function : ℕ
  pub global : Sizes
  pub local : Sizes
  pub buffers : List (List ℕ)
  pub shared : ℕ
  pub bound : List Bound
  pub push : List ℕ
  pub specialised : List Specialised

-- What an invocation is given: the module's instructions, where the launch begins, and its place in the grid.
pub record Given : Type 0 where
  pub body : List Inst
  pub start : Start
  pub place : Sizes
