-- Which object each pointer of a function points into, and by which steps (C99, 6.3.2.1, 6.5.2.1, 6.5.3.2 and 6.5.6; OpenCL C 1.2, 6.5). An object is
-- what an argument of the kernel points to, a constant of the unit, a variable in local memory, or a private variable or parameter. The steps name
-- members and indices: `p[i]` stands where p points, however great i is.
use Rattle.std.specs.Prelude.{ℕ, suc, ◌+◌, nat_eq, Bool, true, false, ◌||◌, if◌then◌else◌, List, [], ◌∷◌, ◌++◌, length, map, take, replicate, Option, Some, None, slice_get}
use Rattle.cl_types.specs.declared.types.ClType.{ClType}
use Rattle.cl_types.specs.declared.types.TypeId.{TypeId}
use Rattle.cl_types.specs.declared.operator.UnOp.TheVariants as un
use Rattle.cl_tree.specs.declared.unit.Variable.{Variable}
use Rattle.cl_tree.specs.Shapes.{shape_of, is_pointer, is_array}
use Rattle.cl_tree.specs.Statements.{is_local}
use Rattle.cl_meaning.specs.declared.code.Node.{Node}
use Rattle.cl_meaning.specs.Code.{Expr, Exprs, Tree, NoExpr, AndExpr}
use Rattle.cl_meaning.specs.declared.code.Node.TheVariants as kind
use Rattle.obj_tree.specs.declared.object.Mark.{Mark}
use Rattle.obj_tree.specs.declared.object.Mark.TheVariants.{Member, Index, Single}
use Rattle.obj_tree.specs.declared.object.Root.{Root}
use Rattle.obj_tree.specs.declared.object.Root.TheVariants.{Constant, Local, Private}
use Rattle.obj_tree.specs.declared.object.Where.{Where}
use Rattle.cl_provenance.specs.Routines.{Routine, Point, At, Left, Name, in_stmt, number_of, type_of}

-- ---- words

-- an object, and a step behind others
abbrev pub whole : Root → Where
whole r = record { root = r; shape = [] }

abbrev pub further : Mark → Where → Where
further m w = record { root = w.root; shape = w.shape ++ m ∷ [] }

abbrev pub step_by : Mark → Option Where → Option Where
step_by m None = None
step_by m (Some w) = Some (further m w)

abbrev pub first_of : {A : Type 0} → Option A → Option A → Option A
first_of (Some a) b = Some a
first_of None b = b

-- ---- the objects of a function

-- a pointer variable: a parameter or a variable of the function
pub data Pointer : Type 0 where
  Parameter : (k : ℕ) → Pointer
  Declared : (k : ℕ) → Pointer

-- How a function is entered: where each of its pointer parameters points, and the types of the private objects among these, which its caller passes.
pub record Entered : Type 0 where
  pub pointers : List Where
  pub privates : List TypeId

-- the marks that are indices
abbrev pub indices_in : List Mark → ℕ
indices_in [] = 0
indices_in (Member k ∷ ms) = indices_in ms
indices_in (Index ∷ ms) = suc (indices_in ms)
indices_in (Single ∷ ms) = suc (indices_in ms)

abbrev pub indices_of : List Where → ℕ
indices_of [] = 0
indices_of (w ∷ ws) = indices_in w.shape + indices_of ws

abbrev pub is_same : Pointer → Pointer → Bool
is_same (Parameter j) (Parameter k) = nat_eq j k
is_same (Declared j) (Declared k) = nat_eq j k
is_same _ _ = false

-- what each pointer variable has, where it has been given something
abbrev pub Given : Type 0
Given = Pointer → Option Where

-- What a node tells the node above it: its type; where it points, if it is a pointer; where it lies, if it is a place; and whether it is `*p` or `p[i]`.
pub record Operand : Type 0 where
  pub ty : TypeId
  pub points : Option Where
  pub lies : Option Where
  pub is_element : Bool

abbrev pub no_operand : Operand
no_operand = record { ty = record { 0 = 0 }; points = None; lies = None; is_element = false }

abbrev pub first_in : List Operand → Operand
first_in [] = no_operand
first_in (o ∷ os) = o

abbrev pub second_in : List Operand → Operand
second_in (o ∷ p ∷ os) = p
second_in _ = no_operand

abbrev pub last_in : List Operand → Operand
last_in [] = no_operand
last_in (o ∷ []) = o
last_in (o ∷ p ∷ os) = last_in (p ∷ os)

abbrev pub is_element : Node → Bool
is_element (kind.Unary un.Deref) = true
is_element kind.Index = true
is_element _ = false

module _ (cs : List ClType) where
  abbrev pub is_elements : TypeId → Bool
  is_elements ty = is_array (shape_of cs ty)

  abbrev pub is_pointed : TypeId → Bool
  is_pointed ty = is_pointer (shape_of cs ty)

  -- the variables that are pointers, those that are none, and those that are private objects
  abbrev pub pointers_among : List Variable → List Variable
  pointers_among [] = []
  pointers_among (v ∷ vs) = (if is_pointed v.ty then v ∷ [] else []) ++ pointers_among vs

  abbrev pub plain_among : List Variable → List Variable
  plain_among [] = []
  plain_among (v ∷ vs) = (if is_pointed v.ty then [] else v ∷ []) ++ plain_among vs

  abbrev pub privates_among : List Variable → List Variable
  privates_among [] = []
  privates_among (v ∷ vs) = (if is_pointed v.ty || is_local v.space then [] else v ∷ []) ++ privates_among vs

  module _ (f : Routine) (e : Entered) where
    -- Private objects are numbered through: those that are passed, parameters that are no pointers, the indices of pointer parameters, variables.
    abbrev pub parameter : ℕ → Root
    parameter k = Private (length e.privates + length (plain_among (take k f.params)))

    abbrev pub variable : ℕ → Root
    variable k = Private (length e.privates + (length (plain_among f.params) + (indices_of e.pointers + length (privates_among (take k f.vars)))))

    abbrev pub some_type : Variable → Option TypeId
    some_type v = Some v.ty

    -- the types of the private objects, by their numbers; an index has none
    abbrev pub private_types : List (Option TypeId)
    private_types = map Some e.privates ++ (map some_type (plain_among f.params) ++ (replicate (indices_of e.pointers) None ++ map some_type (privates_among f.vars)))

    -- ---- pointers and places

    module _ (given : Given) where
      -- Where a place lies: a variable or constant is an object, a member of a place one step further. `p[i]` and `*p` lie where p points, and an
      -- element of an array that is a place one index further.
      abbrev pub element : Operand → Option Where
      element a = if is_elements a.ty then step_by Index a.lies else a.points

      abbrev pub lies_at : Node → List Operand → Option Where
      lies_at (kind.Param k) os = Some (whole (parameter k))
      lies_at (kind.Var k) os = Some (whole (variable k))
      lies_at (kind.Local k) os = Some (whole (Local k))
      lies_at (kind.Constant k) os = Some (whole (Constant k))
      lies_at (kind.Unary un.Deref) (a ∷ os) = element a
      lies_at kind.Index (a ∷ os) = element a
      lies_at (kind.Member k) (a ∷ os) = step_by (Member k) a.lies
      lies_at _ os = None

      -- Where a pointer points. A variable has what it was given. An array's name points to its elements, and `&` to an element or to a single object;
      -- `p + i`, `p += i` and the like stay in the array, and keep the steps.
      abbrev pub addressed : Operand → Option Where
      addressed a = if a.is_element then a.lies else step_by Single a.lies

      abbrev pub points_at : Node → List Operand → Option Where
      points_at (kind.Param k) os = given (Parameter k)
      points_at (kind.Var k) os = given (Declared k)
      points_at kind.Convert os = if is_elements (first_in os).ty then step_by Index (first_in os).lies else (first_in os).points
      points_at (kind.Unary un.Address) os = addressed (first_in os)
      points_at (kind.Unary op) os = (first_in os).points
      points_at (kind.Binary op) os = first_of (first_in os).points (second_in os).points
      points_at (kind.Assign op) os = (first_in os).points
      points_at kind.Cond os = (second_in os).points
      points_at kind.Comma os = (last_in os).points
      points_at kind.Fill os = (last_in os).points
      points_at _ os = None

      abbrev pub operand_in : Node → TypeId → List Operand → Operand
      operand_in node ty os = record {
        ty = ty;
        points = if is_pointed ty then points_at node os else None;
        lies = lies_at node os;
        is_element = is_element node;
      }

      abbrev mutual
        pub operand_of : Expr → Operand
        operand_of (Tree node ty n es) = operand_in node ty (operands_in es)

        pub operands_in : Exprs → List Operand
        operands_in NoExpr = []
        operands_in (AndExpr e es) = operand_of e ∷ operands_in es

    -- ---- what variables are given

    -- A parameter is given by the call.
    abbrev pub given_by_call : Given
    given_by_call (Parameter k) = slice_get e.pointers (length (pointers_among (take k f.params)))
    given_by_call (Declared k) = None

    -- A place that gives: `p = q` gives p, and so does the name of a variable that is declared with an initialiser. It gives where q points.
    abbrev pub gives : Point → Option (Pointer × Expr)
    gives (At (Tree (kind.Assign None) ty n (AndExpr (Tree (kind.Param k) u m os) (AndExpr q es)))) = if is_pointed ty then Some (Parameter k, q) else None
    gives (At (Tree (kind.Assign None) ty n (AndExpr (Tree (kind.Var k) u m os) (AndExpr q es)))) = if is_pointed ty then Some (Declared k, q) else None
    gives (At q) = None
    gives (Left q) = None
    gives (Name k q) = if is_pointed (type_of q) then Some (Declared k, q) else None

    abbrev pub gift : Pointer → Option (Pointer × Expr) → Given → Option Where
    gift p None before = None
    gift p (Some g) before = if is_same p g.0 then (operand_of before g.1).points else None

    -- A variable has what the first text place that gives it gives.
    abbrev pub passing : Point → Given → Given
    passing at before p = first_of (before p) (gift p (gives at) before)

    abbrev pub passing_all : List Point → Given → Given
    passing_all [] before = before
    passing_all (at ∷ ps) before = passing_all ps (passing at before)

    abbrev pub given : Given
    given = passing_all (in_stmt cs f.body) given_by_call

    -- ---- the map

    -- where a pointer node points, by its number
    abbrev pub points_of : Expr → Option Where
    points_of q = (operand_of given q).points

    abbrev pub with_node : ℕ → Option Where → List (ℕ × Where)
    with_node n None = []
    with_node n (Some w) = (n, w) ∷ []

    abbrev pub pointer_at : Point → List (ℕ × Where)
    pointer_at (At q) = with_node (number_of q) (points_of q)
    pointer_at (Left q) = with_node (number_of q) (points_of q)
    pointer_at (Name k q) = []

    abbrev pub pointers_at : List Point → List (ℕ × Where)
    pointers_at [] = []
    pointers_at (at ∷ ps) = pointer_at at ++ pointers_at ps

    -- of each pointer node in text order its number, its object and its steps
    abbrev pub wheres : List (ℕ × Where)
    wheres = pointers_at (in_stmt cs f.body)
