-- The declarations that enclose a place of the text, and what a name means there (C99, 6.2.1 to 6.2.3).
use Rattle.std.specs.Prelude.{◌≡◌, ℕ, nat_lt, ◌&&◌, Bool, true, false, if◌then◌else◌, List, [], ◌∷◌, ◌++◌, length, Option, Some, None, bytes_eq, is_some}
use Rattle.cl_builtins.specs.Kinds.{alike}
use Rattle.cl_scope.specs.declared.scope.Declared.{Declared}
use Rattle.cl_scope.specs.declared.scope.DeclaredKind.{DeclaredKind}
use Rattle.cl_scope.specs.declared.scope.DeclaredKind.TheVariants as kind
use Rattle.cl_scope.specs.declared.scope.Signature.{Signature}

-- The declarations of the enclosing blocks, those of the innermost block, each list with the newest first, and the functions that were
-- declared so far. A struct that an expression declares is declared in the innermost block round it.
pub record Env : Type 0 where
  pub outer : List Declared
  pub inner : List Declared
  pub functions : List Signature

abbrev pub nothing : Env
nothing = record { outer = []; inner = []; functions = [] }

-- a block in this place, and what is left of a block behind it
abbrev pub entered : Env → Env
entered env = record env { outer = env.inner ++ env.outer; inner = [] }

abbrev pub left_behind : Env → Env → Env
left_behind env inside = record inside { outer = env.outer; inner = env.inner }

-- the declarations behind the oldest so many, and those
abbrev pub inner_at : ℕ → List Declared → List Declared
inner_at mark [] = []
inner_at mark (d ∷ ds) = if nat_lt (length ds) mark then [] else (d ∷ inner_at mark ds)

abbrev pub outer_at : ℕ → List Declared → List Declared
outer_at mark [] = []
outer_at mark (d ∷ ds) = if nat_lt (length ds) mark then (d ∷ ds) else outer_at mark ds

-- The innermost block is left, and the block round it begins behind the oldest so many declarations.
abbrev pub left_at : ℕ → Env → Env
left_at mark inside = record inside { outer = outer_at mark inside.outer; inner = inner_at mark inside.outer }

-- That is what is left behind in the place where the block was entered, if the mark is that place's.
abbrev pub IsLeft : Env → ℕ → Env → Type 0
IsLeft inside mark left = (env : Env) → inside.outer ≡ env.inner ++ env.outer → mark ≡ length env.outer → left ≡ left_behind env inside

abbrev pub declare : Declared → Env → Env
declare d env = record env { inner = d ∷ env.inner }

-- Tags of structs are a name space of their own.
abbrev pub is_tag : DeclaredKind → Bool
is_tag kind.Tag = true
is_tag _ = false

abbrev pub is_called : Bool → List ℕ → Declared → Bool
is_called tag name d = bytes_eq name d.name && alike tag (is_tag d.kind)

-- the newest declaration of a name
abbrev pub newest : Bool → List ℕ → List Declared → Option Declared
newest tag name [] = None
newest tag name (d ∷ ds) = if is_called tag name d then Some d else newest tag name ds

abbrev pub find : Env → List ℕ → Option Declared
find env name = newest false name (env.inner ++ env.outer)

abbrev pub find_tag : Env → List ℕ → Option Declared
find_tag env name = newest true name (env.inner ++ env.outer)

-- a function that was declared
abbrev pub function_in : List ℕ → List Signature → Option Signature
function_in name [] = None
function_in name (s ∷ ss) = if bytes_eq name s.name then Some s else function_in name ss

abbrev pub find_function : Env → List ℕ → Option Signature
find_function env name = function_in name env.functions

-- the functions that are declared behind this one
abbrev pub and_function : Option Signature → Signature → List Signature → List Signature
and_function None s ss = ss ++ s ∷ []
and_function (Some own) s ss = ss

abbrev pub declared_function : Signature → Env → Env
declared_function s env = record env { functions = and_function (find_function env s.name) s env.functions }

-- whether the innermost block declares the name already
abbrev pub is_declared : Env → List ℕ → Bool
is_declared env name = is_some (newest false name env.inner)

abbrev pub is_tagged : Env → List ℕ → Bool
is_tagged env name = is_some (newest true name env.inner)
