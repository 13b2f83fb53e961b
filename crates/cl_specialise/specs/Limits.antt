-- Which limits a unit breaks first, and where.
use Rattle.std.specs.Prelude.{ℕ, ◌+◌, nat_eq, nat_lt, if◌then◌else◌, List, [], ◌∷◌, ◌++◌, take, Option, Some, None, slice_get}
use Rattle.clv_place.specs.declared.place.Place.{Place}
use Rattle.clv_place.specs.declared.stop.Offence.{Offence}
use Rattle.cl_types.specs.declared.types.ClType.{ClType}
use Rattle.cl_tree.specs.declared.unit.Variable.{Variable}
use Rattle.cl_tree.specs.Statements.{is_local}
use Rattle.cl_common.specs.Types.{size_at}
use Rattle.cl_provenance.specs.Routines.{Routine, Unit as Functions, node_place, no_place}
use Rattle.cl_provenance.specs.Objects.{first_of}
use Rattle.cl_provenance.specs.Offences.{pointer_offence, recursion}
use Rattle.cl_specialise.specs.Copies.{CopyName, Calling, entered, same_copy, calls, copies}
use Rattle.cl_specialise.specs.Nodes.{nodes}

abbrev pub offence : ℕ → Place → Offence
offence n at = record { code = n; place = at }

-- ---- pointers

-- Recursion, in any function, is looked for first; then what pointers break in so many copies, copy after copy.
module _ (u : Functions) where
  abbrev pub breaks_in : Option Routine → CopyName → Option Offence
  breaks_in None c = None
  breaks_in (Some f) c = pointer_offence u.types f (entered c)

  abbrev pub first_in : List CopyName → Option Offence
  first_in [] = None
  first_in (c ∷ cs) = first_of (breaks_in (slice_get u.functions c.function) c) (first_in cs)

  abbrev pub resolving_within : ℕ → Option Offence
  resolving_within most = first_of (recursion u) (first_in (take most (copies u)))

-- ---- memory

-- 505 and 506: the private variables and parameters of a function are over 4,096 bytes, its `__local` variables over 32,768; at the first variable that
-- goes over, behind others of so many bytes
module _ (cs : List ClType) where
  abbrev pub own_size : Variable → ℕ
  own_size v = if is_local v.space then 0 else size_at cs v.ty

  abbrev pub shared_size : Variable → ℕ
  shared_size v = if is_local v.space then size_at cs v.ty else 0

  abbrev pub goes_over : ℕ → ℕ → Variable → Option Offence
  goes_over own shared v =
      if nat_lt 4096 (own + own_size v) then Some (offence 505 v.place)
      else if nat_lt 32768 (shared + shared_size v) then Some (offence 506 v.place)
      else None

  abbrev pub first_over : ℕ → ℕ → List Variable → Option Offence
  first_over own shared [] = None
  first_over own shared (v ∷ vs) = first_of (goes_over own shared v) (first_over (own + own_size v) (shared + shared_size v) vs)

  abbrev pub memory : List Routine → Option Offence
  memory [] = None
  memory (f ∷ fs) = first_of (first_over 0 0 (f.params ++ f.vars)) (memory fs)

-- ---- copies and nodes

module _ (u : Functions) where
  abbrev pub function_place : Option Routine → Place
  function_place None = no_place
  function_place (Some f) = f.place

  abbrev pub call_place : Option Routine → ℕ → Place
  call_place None n = no_place
  call_place (Some f) n = node_place f n

  -- where the first call of a copy is, in the copies of its kernel
  abbrev pub call_among : CopyName → Option Routine → List Calling → Option Place
  call_among c f [] = None
  call_among c f (k ∷ ks) = if same_copy c k.copy then Some (call_place f k.node) else call_among c f ks

  abbrev pub first_call : CopyName → List CopyName → Option Place
  first_call c [] = None
  first_call c (d ∷ ds) = first_of (call_among c (slice_get u.functions d.function) (calls u d)) (first_call c ds)

  abbrev pub place_or : Option Place → Place
  place_or None = no_place
  place_or (Some at) = at

  -- what adds a copy: its kernel, or a call
  abbrev pub added_by : CopyName → Place
  added_by c = if nat_eq c.kernel c.function then function_place (slice_get u.functions c.function) else place_or (first_call c (copies u))

  abbrev pub one_too_many : Option CopyName → Option Offence
  one_too_many None = None
  one_too_many (Some c) = Some (offence 503 (added_by c))

  -- 503: there is a copy behind so many
  abbrev pub copies_over : ℕ → Option Offence
  copies_over most = one_too_many (slice_get (copies u) most)

  abbrev pub nodes_at : Option Routine → ℕ
  nodes_at None = 0
  nodes_at (Some f) = nodes u.types f

  -- 509: the nodes of the copies are over so many; at the name of the function whose copy goes over
  abbrev pub nodes_of_copy : CopyName → ℕ
  nodes_of_copy c = nodes_at (slice_get u.functions c.function)

  abbrev pub beyond : ℕ → ℕ → CopyName → Option Offence
  beyond most sum c = if nat_lt most (sum + nodes_of_copy c) then Some (offence 509 (function_place (slice_get u.functions c.function))) else None

  abbrev pub first_beyond : ℕ → ℕ → List CopyName → Option Offence
  first_beyond most sum [] = None
  first_beyond most sum (c ∷ cs) = first_of (beyond most sum c) (first_beyond most (sum + nodes_of_copy c) cs)

  abbrev pub nodes_over : ℕ → Option Offence
  nodes_over most = first_beyond most 0 (copies u)

  -- ---- the offences of both phases

  -- of pointers, in the first 1,024 copies
  abbrev pub resolving : Option Offence
  resolving = resolving_within u 1024

  -- of limits: memory, then at most 1,024 copies, then at most 8,000 nodes
  abbrev pub specialising : Option Offence
  specialising = first_of (memory u.types u.functions) (first_of (copies_over 1024) (nodes_over 8000))
