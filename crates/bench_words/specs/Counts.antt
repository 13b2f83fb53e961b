-- What is counted of the bytes of a module.
use Rattle.std.specs.Prelude.{◌≡◌, ℕ, List, length}
use Rattle.spv_module.specs.declared.module.Module.{Module}
use Rattle.spv_module.specs.Words.{little_endian, module_words, Spells}

-- the bytes of the module that was read, the lowest byte of each word first
pub record IsWrittenAs (bytes written : List ℕ) : Type 0 where
  pub made : Module
  pub spelled : Spells made bytes
  pub same : written ≡ little_endian (module_words made)

-- how many instructions the module has
pub record IsReadAs (bytes : List ℕ) (count : ℕ) : Type 0 where
  pub made : Module
  pub spelled : Spells made bytes
  pub counted : count ≡ length made.body

-- how many bytes it is written in
pub record IsRewrittenAs (bytes : List ℕ) (count : ℕ) : Type 0 where
  pub made : Module
  pub spelled : Spells made bytes
  pub counted : count ≡ length (little_endian (module_words made))
