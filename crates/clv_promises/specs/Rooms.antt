-- What a launch of a module may hold: the cells of each kernel's function by the nodes and private scalars of its copies, and the variables in workgroup
-- memory that it names.
use Rattle.std.specs.Prelude.{ℕ, ◌+◌, ◌*◌, ◌≤◌, nat_eq, ◌==◌, Bool, true, false, not, ◌&&◌, ◌||◌, if◌then◌else◌, List, [], ◌∷◌, ◌++◌, ◌≡◌, Option, Some, None, slice_get}
use Rattle.std.specs.List.{list_any}
use Rattle.cl_types.specs.declared.types.ClType.{ClType}
use Rattle.cl_tree.specs.declared.unit.Variable.{Variable}
use Rattle.cl_tree.specs.Statements.{is_local}
use Rattle.cl_common.specs.Types.{count_at}
use Rattle.spv_module.specs.declared.enumerant.storage_class.TheConstants as storage_class
use Rattle.spv_types_rules.specs.Lines.{Line, Whole, first, id_of, names, below, function_of}
use Rattle.cl_provenance.specs.Routines.{Routine, Unit as Functions}
use Rattle.cl_specialise.specs.Copies.{CopyName, copies_of, kernels}
use Rattle.cl_specialise.specs.Nodes.{nodes}
use Rattle.clv_promises.specs.Copied.{function_of_kernel}

-- ---- cells

-- the scalars of the parameters and private variables of a function; a pointer counts one
module _ (cs : List ClType) where
  abbrev pub private_scalars : List Variable → ℕ
  private_scalars [] = 0
  private_scalars (v ∷ vs) = (if is_local v.space then 0 else count_at cs v.ty) + private_scalars vs

  abbrev pub measure_of : Option Routine → ℕ
  measure_of None = 0
  measure_of (Some f) = nodes cs f + private_scalars (f.params ++ f.vars)

abbrev pub measure : Functions → List CopyName → ℕ
measure u [] = 0
measure u (c ∷ cs) = measure_of u.types (slice_get u.functions c.function) + measure u cs

-- The cells of a kernel's function, by its id, are at most 256 times one more than the nodes and private scalars of the kernel's copies.
abbrev pub AreFew : Whole → Functions → (ℕ → ℕ) → List ℕ → Type 0
AreFew w u cells [] = Unit {0}
AreFew w u cells (k ∷ ks) = (cells (function_of_kernel w u k) ≤ 256 * (1 + measure u (copies_of u k))) × AreFew w u cells ks

abbrev pub CellsAreFew : Whole → Functions → (ℕ → ℕ) → Type 0
CellsAreFew w u cells = AreFew w u cells (kernels u)

-- ---- workgroup memory

module _ (w : Whole) where
  -- whether a function, or one that it reaches by calls, names a variable
  abbrev pub is_named_in : ℕ → ℕ → Bool
  is_named_in v f = list_any (names v) (function_of w f)

  abbrev pub is_named_below : ℕ → ℕ → Bool
  is_named_below f v = list_any (is_named_in v) (below w f)

  abbrev pub is_shared : Line → Bool
  is_shared l = first l.numbers == storage_class.WORKGROUP

  -- what it names in workgroup memory is among these
  abbrev pub keeps_to : ℕ → List ℕ → List Line → Bool
  keeps_to f own [] = true
  keeps_to f own (l ∷ ls) = (not (is_shared l) || (not (is_named_below f (id_of l)) || list_any (nat_eq (id_of l)) own)) && keeps_to f own ls

  -- each kernel's function keeps to the variables of its kernel
  abbrev pub each_keeps : Functions → List ℕ → List (List ℕ) → Bool
  each_keeps u [] [] = true
  each_keeps u (k ∷ ks) (own ∷ rest) = keeps_to (function_of_kernel w u k) own w.variables && each_keeps u ks rest
  each_keeps u _ _ = false

abbrev pub KernelsKeepApart : Whole → Functions → List (List ℕ) → Type 0
KernelsKeepApart w u variables = each_keeps w u (kernels u) variables ≡ true
