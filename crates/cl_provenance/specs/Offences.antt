-- Which pointers break which rule first (C99, 6.5.6, 6.5.8, 6.5.9, 6.5.15 and 6.5.16): pointers that meet agree in object and steps, a pointer variable
-- is given before it is used, casts keep widths, and nothing is called from within itself (OpenCL C 1.2, 6.9.i).
use Rattle.std.specs.Prelude.{ℕ, zero, suc, nat_eq, Bool, true, false, not, ◌&&◌, ◌||◌, if◌then◌else◌, List, [], ◌∷◌, ◌++◌, length, Option, Some, None, slice_get}
use Rattle.clv_place.specs.declared.stop.Offence.{Offence}
use Rattle.cl_types.specs.declared.types.ClType.{ClType}
use Rattle.cl_types.specs.declared.types.TypeId.{TypeId}
use Rattle.cl_tree.specs.declared.shape.Shape.{Shape}
use Rattle.cl_tree.specs.declared.shape.Shape.TheVariants as shape
use Rattle.cl_tree.specs.Shapes.{shape_of, same_type, is_pointer}
use Rattle.cl_meaning.specs.Code.{Expr, Exprs, Tree, NoExpr, AndExpr}
use Rattle.cl_meaning.specs.declared.code.Node.TheVariants as kind
use Rattle.obj_tree.specs.declared.object.Mark.{Mark}
use Rattle.obj_tree.specs.declared.object.Mark.TheVariants.{Member, Index, Single}
use Rattle.obj_tree.specs.declared.object.Root.{Root}
use Rattle.obj_tree.specs.declared.object.Root.TheVariants.{Argument, Constant, Local, Private}
use Rattle.obj_tree.specs.declared.object.Where.{Where}
use Rattle.cl_provenance.specs.Routines.{Routine, Unit as Functions, Point, At, Left, Name, CallSite, place_of, node_place, type_of, in_stmt, calls_of}
use Rattle.cl_provenance.specs.Objects.{Entered, Pointer, Parameter, Declared, operand_of, given, gives, first_of}

-- ---- agreement

abbrev pub same_root : Root → Root → Bool
same_root (Argument j) (Argument k) = nat_eq j k
same_root (Constant j) (Constant k) = nat_eq j k
same_root (Local j) (Local k) = nat_eq j k
same_root (Private j) (Private k) = nat_eq j k
same_root _ _ = false

abbrev pub same_mark : Mark → Mark → Bool
same_mark (Member j) (Member k) = nat_eq j k
same_mark Index Index = true
same_mark Single Single = true
same_mark _ _ = false

abbrev pub same_shape : List Mark → List Mark → Bool
same_shape [] [] = true
same_shape (m ∷ ms) (n ∷ ns) = same_mark m n && same_shape ms ns
same_shape _ _ = false

-- 401: two pointers that meet point into different objects; 402: into one, by different steps
abbrev pub disagree : Option Where → Option Where → Option ℕ
disagree (Some a) (Some b) = if not (same_root a.root b.root) then Some 401 else if not (same_shape a.shape b.shape) then Some 402 else None
disagree _ _ = None

-- ---- casts

-- 404: a pointer is cast to point to what is not the same, nor an integer or vector of the same width and number of components
abbrev pub alike : Shape → Shape → Bool
alike (shape.Integers a) (shape.Integers b) = nat_eq a.bits b.bits && nat_eq a.count b.count
alike _ _ = false

abbrev pub may_point : List ClType → TypeId → TypeId → Bool
may_point cs from to = same_type from to || alike (shape_of cs from) (shape_of cs to)

-- what a pointer points to; of an array its elements
abbrev pub pointee : Shape → Option TypeId
pointee (shape.Pointer space to readonly restricted) = Some to
pointee (shape.Array elem len nested) = Some elem
pointee _ = None

abbrev pub casts : List ClType → Option TypeId → Option TypeId → Option ℕ
casts cs (Some from) (Some to) = if may_point cs from to then None else Some 404
casts cs _ _ = None

-- ---- the offences of a function, as it is entered

module _ (cs : List ClType) (f : Routine) (e : Entered) where
  abbrev pub points : TypeId → Bool
  points ty = is_pointer (shape_of cs ty)

  abbrev pub where_is : Expr → Option Where
  where_is q = (operand_of cs f e (given cs f e) q).points

  -- whether a place among these gives a variable
  abbrev pub is_gift_of : Pointer → Option (Pointer × Expr) → Bool
  is_gift_of p None = false
  is_gift_of (Parameter j) (Some (Parameter k, q)) = nat_eq j k
  is_gift_of (Declared j) (Some (Declared k, q)) = nat_eq j k
  is_gift_of _ (Some _) = false

  abbrev pub is_given_by : Pointer → List Point → Bool
  is_given_by p [] = false
  is_given_by p (at ∷ ps) = is_gift_of p (gives cs f e at) || is_given_by p ps

  -- 403: a pointer variable is used, and no place before gives it
  abbrev pub unless : Bool → ℕ → Option ℕ
  unless true n = None
  unless false n = Some n

  -- What a node breaks, behind these points.
  abbrev pub node_breaks : List Point → Expr → Option ℕ
  node_breaks before (Tree (kind.Var k) ty n es) = if points ty then unless (is_given_by (Declared k) before) 403 else None
  node_breaks before (Tree kind.Convert ty n (AndExpr a es)) = if points ty then casts cs (pointee (shape_of cs (type_of a))) (pointee (shape_of cs ty)) else None
  node_breaks before (Tree (kind.Binary op) ty n (AndExpr a (AndExpr b es))) = disagree (where_is a) (where_is b)
  node_breaks before (Tree (kind.Assign None) ty n (AndExpr a (AndExpr b es))) = disagree (where_is a) (where_is b)
  node_breaks before (Tree kind.Cond ty n (AndExpr test (AndExpr a (AndExpr b es)))) = disagree (where_is a) (where_is b)
  node_breaks before _ = None

  abbrev pub breaks : List Point → Point → Option ℕ
  breaks before (At q) = node_breaks before q
  breaks before (Left q) = None
  breaks before (Name k q) = disagree (given cs f e (Declared k)) (where_is q)

  abbrev pub at_point : Point → Option ℕ → Option Offence
  at_point at None = None
  at_point at (Some n) = Some (record { code = n; place = place_of f at })

  -- the first point that breaks a rule
  abbrev pub first_break : List Point → List Point → Option Offence
  first_break before [] = None
  first_break before (at ∷ ps) = first_of (at_point at (breaks before at)) (first_break (before ++ at ∷ []) ps)

  abbrev pub pointer_offence : Option Offence
  pointer_offence = first_break [] (in_stmt cs f.body)

-- ---- recursion

module _ (u : Functions) where
  -- the functions that a function calls, in text order
  abbrev pub called_by : List CallSite → List ℕ
  called_by [] = []
  called_by (c ∷ cs) = c.function ∷ called_by cs

  abbrev pub calls_in : Option Routine → List CallSite
  calls_in None = []
  calls_in (Some f) = calls_of u.types f

  abbrev pub callees : ℕ → List ℕ
  callees f = called_by (calls_in (slice_get u.functions f))

  -- whether a function is reached from another by so many calls at most; all that are reached are so by as many as there are functions
  abbrev pub some_of : (ℕ → Bool) → List ℕ → Bool
  some_of test [] = false
  some_of test (f ∷ fs) = test f || some_of test fs

  abbrev pub reaches_within : ℕ → ℕ → ℕ → Bool
  reaches_within zero to from = nat_eq from to
  reaches_within (suc n) to from = nat_eq from to || some_of (reaches_within n to) (callees from)

  abbrev pub reaches : ℕ → ℕ → Bool
  reaches from to = reaches_within (length u.functions) to from

  -- 405: a call from which its own function is reached
  abbrev pub first_call_back : ℕ → Routine → List CallSite → Option Offence
  first_call_back k f [] = None
  first_call_back k f (c ∷ cs) = if reaches c.function k then Some (record { code = 405; place = node_place f c.node }) else first_call_back k f cs

  abbrev pub first_recursion : ℕ → List Routine → Option Offence
  first_recursion k [] = None
  first_recursion k (f ∷ fs) = first_of (first_call_back k f (calls_of u.types f)) (first_recursion (suc k) fs)

  abbrev pub recursion : Option Offence
  recursion = first_recursion 0 u.functions
