-- The copies of functions that a unit is made into: for each kernel, itself, and a copy of each function for each choice of the objects that its
-- pointers point into.
use Rattle.std.specs.Prelude.{◌≡◌, ℕ, zero, suc, nat_eq, Bool, true, false, ◌&&◌, ◌||◌, if◌then◌else◌, List, [], ◌∷◌, ◌++◌, length, map, Option, Some, None, slice_get}
use Rattle.cl_types.specs.declared.types.TypeId.{TypeId}
use Rattle.cl_tree.specs.declared.unit.Variable.{Variable}
use Rattle.cl_tree.specs.Shapes.{shape_of, is_pointer, same_type}
use Rattle.cl_meaning.specs.Code.{Exprs, NoExpr, AndExpr}
use Rattle.obj_tree.specs.declared.object.Mark.TheVariants.{Index}
use Rattle.obj_tree.specs.declared.object.Root.{Root}
use Rattle.obj_tree.specs.declared.object.Root.TheVariants.{Argument, Private}
use Rattle.obj_tree.specs.declared.object.Where.{Where}
use Rattle.cl_provenance.specs.Routines.{Routine, Unit as Functions, CallSite, reached_calls, joined}
use Rattle.cl_provenance.specs.Objects.{Entered, points_of, private_types}
use Rattle.cl_provenance.specs.Offences.{same_root, same_shape}

-- A copy is named by its kernel, its function, where each of its pointer parameters points, and the types of the private objects among these, which
-- have numbers in order of first mention.
pub record CopyName : Type 0 where
  pub kernel : ℕ
  pub function : ℕ
  pub pointers : List Where
  pub privates : List TypeId

abbrev pub entered : CopyName → Entered
entered c = record { pointers = c.pointers; privates = c.privates }

abbrev pub same_where : Where → Where → Bool
same_where a b = same_root a.root b.root && same_shape a.shape b.shape

abbrev pub same_wheres : List Where → List Where → Bool
same_wheres [] [] = true
same_wheres (a ∷ as_) (b ∷ bs) = same_where a b && same_wheres as_ bs
same_wheres _ _ = false

abbrev pub same_types : List TypeId → List TypeId → Bool
same_types [] [] = true
same_types (a ∷ as_) (b ∷ bs) = same_type a b && same_types as_ bs
same_types _ _ = false

abbrev pub same_copy : CopyName → CopyName → Bool
same_copy a b = nat_eq a.kernel b.kernel && nat_eq a.function b.function && same_wheres a.pointers b.pointers && same_types a.privates b.privates

-- ---- lists without repetition

-- whether it is in a list, and where it comes first
abbrev pub is_in : {A : Type 0} → (A → A → Bool) → A → List A → Bool
is_in same a [] = false
is_in same a (b ∷ bs) = same a b || is_in same a bs

abbrev pub index_of : {A : Type 0} → (A → A → Bool) → A → List A → ℕ
index_of same a [] = 0
index_of same a (b ∷ bs) = if same a b then 0 else suc (index_of same a bs)

-- those that come first, behind these
abbrev pub unless_seen : {A : Type 0} → Bool → A → List A
unless_seen true a = []
unless_seen false a = a ∷ []

abbrev pub first_ones : {A : Type 0} → (A → A → Bool) → List A → List A → List A
first_ones same seen [] = []
first_ones same seen (a ∷ as_) = unless_seen (is_in same a seen) a ++ first_ones same (a ∷ seen) as_

abbrev pub distinct : {A : Type 0} → (A → A → Bool) → List A → List A
distinct same as_ = first_ones same [] as_

-- ---- what a call passes

-- the numbers of the private objects among these, in order of first mention
abbrev pub private_number : Root → List ℕ
private_number (Private k) = k ∷ []
private_number _ = []

abbrev pub private_numbers : List Where → List ℕ
private_numbers [] = []
private_numbers (w ∷ ws) = private_number w.root ++ private_numbers ws

abbrev pub mentioned : List Where → List ℕ
mentioned ws = distinct nat_eq (private_numbers ws)

-- the callee's number of an object
abbrev pub passed_root : List ℕ → Root → Root
passed_root numbers (Private k) = Private (index_of nat_eq k numbers)
passed_root numbers r = r

abbrev pub passed : List ℕ → Where → Where
passed numbers w = record { root = passed_root numbers w.root; shape = w.shape }

abbrev pub some_of : {A : Type 0} → List (Option A) → List A
some_of [] = []
some_of (None ∷ as_) = some_of as_
some_of (Some a ∷ as_) = a ∷ some_of as_

abbrev pub is_some_type : Option (Option TypeId) → List TypeId
is_some_type (Some (Some t)) = t ∷ []
is_some_type _ = []

-- a call: its node, and the copy that it is a call of
pub record Calling : Type 0 where
  pub node : ℕ
  pub copy : CopyName

module _ (u : Functions) where
  -- where the arguments point that are pointers
  abbrev pub pointed : Routine → CopyName → Exprs → List Where
  pointed f c NoExpr = []
  pointed f c (AndExpr e es) = some_of (points_of u.types f (entered c) e ∷ []) ++ pointed f c es

  abbrev pub types_at : List (Option TypeId) → List ℕ → List TypeId
  types_at types [] = []
  types_at types (k ∷ ks) = is_some_type (slice_get types k) ++ types_at types ks

  abbrev pub called_with : Routine → CopyName → ℕ → List Where → CopyName
  called_with f c function ws = record {
    kernel = c.kernel;
    function = function;
    pointers = map (passed (mentioned ws)) ws;
    privates = types_at (private_types u.types f (entered c)) (mentioned ws);
  }

  abbrev pub call_from : Routine → CopyName → CallSite → Calling
  call_from f c call = record { node = call.node; copy = called_with f c call.function (pointed f c call.arguments) }

  abbrev pub calls_in : Option Routine → CopyName → List Calling
  calls_in None c = []
  calls_in (Some f) c = map (call_from f c) (reached_calls u.types f)

  -- the calls of a copy in text order, without those that are passed over
  abbrev pub calls : CopyName → List Calling
  calls c = calls_in (slice_get u.functions c.function) c

  abbrev pub copy_of : Calling → CopyName
  copy_of call = call.copy

  abbrev pub called : List CopyName → List CopyName
  called [] = []
  called (c ∷ cs) = map copy_of (calls c) ++ called cs

  -- ---- the list of copies

  -- A kernel's own copy: each pointer points to the elements of its argument.
  abbrev pub elements_of : ℕ → Where
  elements_of k = record { root = Argument k; shape = Index ∷ [] }

  abbrev pub arguments_from : ℕ → List Variable → List Where
  arguments_from k [] = []
  arguments_from k (p ∷ ps) = (if is_pointer (shape_of u.types p.ty) then elements_of k ∷ [] else []) ++ arguments_from (suc k) ps

  abbrev pub arguments_of : Option Routine → List Where
  arguments_of None = []
  arguments_of (Some f) = arguments_from 0 f.params

  abbrev pub kernel_copy : ℕ → CopyName
  kernel_copy k = record { kernel = k; function = k; pointers = arguments_of (slice_get u.functions k); privates = [] }

  -- A kernel's list begins with the kernel, and then has, copy after copy, what each of them calls, each but once. Since no function is reached from
  -- itself, one list alone is so.
  abbrev pub AreCopies : ℕ → List CopyName → Type 0
  AreCopies kernel copies = copies ≡ distinct same_copy (kernel_copy kernel ∷ called copies)

  -- That list: those that so many calls at most lead to, and more calls than functions lead nowhere.
  abbrev pub copies_within : ℕ → ℕ → List CopyName
  copies_within zero kernel = []
  copies_within (suc n) kernel = distinct same_copy (kernel_copy kernel ∷ called (copies_within n kernel))

  abbrev pub copies_of : ℕ → List CopyName
  copies_of kernel = copies_within (length u.functions) kernel

  -- the kernels in text order, and the list of all copies of the unit
  abbrev pub kernels_from : ℕ → List Routine → List ℕ
  kernels_from k [] = []
  kernels_from k (f ∷ fs) = (if f.kernel then k ∷ [] else []) ++ kernels_from (suc k) fs

  abbrev pub kernels : List ℕ
  kernels = kernels_from 0 u.functions

  abbrev pub copies : List CopyName
  copies = joined (map copies_of kernels)
