-- The declarations that a scope holds.
use Rattle.std.specs.Prelude.{List, [], ◌∷◌}
use Rattle.cl_types.specs.declared.types.ClType.{ClType}
use Rattle.cl_builtins.specs.Found.{IsKnown, AreKnown}
use Rattle.cl_scope.specs.declared.scope.Declared.{Declared}
use Rattle.cl_scope.specs.declared.scope.Scope.{Scope}
use Rattle.cl_scope.specs.declared.scope.Signature.{Signature}
use Rattle.cl_scope.specs.Names.{Env, entered, declare}

-- blocks with their declarations, the outermost block first and each in text order
abbrev pub declared_in : List Declared → Env → Env
declared_in [] env = env
declared_in (d ∷ ds) env = declared_in ds (declare d env)

abbrev pub blocks_in : List (List Declared) → Env → Env
blocks_in [] env = env
blocks_in (b ∷ bs) env = blocks_in bs (declared_in b (entered env))

abbrev pub nothing_declared : List Signature → Env
nothing_declared functions = record { outer = []; inner = []; functions = functions }

abbrev pub env_of : Scope → Env
env_of s = blocks_in s.blocks (nothing_declared s.functions)

-- the types of declarations are in the table
abbrev pub AreKnownIn : List ClType → List Declared → Type 0
AreKnownIn cs [] = Unit {0}
AreKnownIn cs (d ∷ ds) = IsKnown cs d.ty × AreKnownIn cs ds

abbrev pub SignaturesKnownIn : List ClType → List Signature → Type 0
SignaturesKnownIn cs [] = Unit {0}
SignaturesKnownIn cs (f ∷ fs) = AreKnown cs f.params × IsKnown cs f.result × SignaturesKnownIn cs fs

pub record IsKnownEnv (cs : List ClType) (env : Env) : Type 0 where
  pub outer : AreKnownIn cs env.outer
  pub inner : AreKnownIn cs env.inner
  pub functions : SignaturesKnownIn cs env.functions
