-- The typing rules of expressions: which typed tree an expression has, with what its parent has to know of it, in a table of types that
-- holds all of its types (C99, 6.5; OpenCL C 1.2, 6.3). A struct that an expression declares is in scope behind it, so each rule says
-- which declarations enclose what comes next.
use Rattle.std.specs.Prelude.{◌≡◌, ℕ, nat_lt, not, ◌&&◌, ◌||◌, Bool, true, false, if◌then◌else◌, List, [], ◌∷◌, ◌++◌, Option, Some, None, is_some}
use Rattle.clv_place.specs.declared.place.Place.{Place}
use Rattle.cl_types.specs.declared.types.ClType.{ClType}
use Rattle.cl_types.specs.declared.types.ClType.TheVariants as ty
use Rattle.cl_types.specs.declared.types.Member.{Member}
use Rattle.cl_types.specs.declared.types.TypeId.{TypeId}
use Rattle.cl_types.specs.declared.space.Space.TheVariants as space
use Rattle.cl_types.specs.declared.operator.UnOp.{UnOp}
use Rattle.cl_types.specs.declared.operator.UnOp.TheVariants as un
use Rattle.cl_types.specs.Layout.{size_of}
use Rattle.cl_types.specs.Table.{tree_of}
use Rattle.cl_builtins.specs.declared.call.Found.{Found}
use Rattle.cl_builtins.specs.Kinds.{uint, element_of}
use Rattle.cl_builtins.specs.declared.name.Rule.TheVariants as rule
use Rattle.cl_builtins.specs.Found.{IsKnown, Means}
use Rattle.cl_builtins.specs.Names.{Entry, lookup, entries}
use Rattle.cl_builtins.specs.Tables.{IsAt}
use Rattle.cl_ast.specs.declared.expression.Qual.{Qual}
use Rattle.cl_ast.specs.declared.expression.Expr.{Expr}
use Rattle.cl_ast.specs.declared.expression.ExprNode.{ExprNode}
use Rattle.cl_ast.specs.declared.expression.ExprNode.TheVariants as node
use Rattle.cl_ast.specs.declared.expression.TypeTerm.{TypeTerm}
use Rattle.cl_ast.specs.declared.expression.Spec.{Spec}
use Rattle.cl_ast.specs.declared.expression.Base.{Base}
use Rattle.cl_ast.specs.declared.expression.Base.TheVariants as base
use Rattle.cl_ast.specs.declared.expression.Field.{Field}
use Rattle.cl_ast.specs.declared.expression.Declor.{Declor}
use Rattle.cl_tree.specs.declared.shape.Shape.TheVariants as shape
use Rattle.cl_tree.specs.declared.expression.TExpr.{TExpr}
use Rattle.cl_tree.specs.Constants.{divides, number_of, positive_of, constancy_of}
use Rattle.cl_tree.specs.Shapes.{is_vector, is_array, is_pointer, members_of}
use Rattle.cl_rules.specs.declared.rule.Operand.{Operand}
use Rattle.cl_rules.specs.declared.rule.Want.{Want}
use Rattle.cl_rules.specs.declared.rule.Want.TheVariants as want
use Rattle.cl_rules.specs.declared.rule.Head.{Head}
use Rattle.cl_rules.specs.declared.rule.Head.TheVariants as head
use Rattle.cl_rules.specs.declared.rule.Made.{Made}
use Rattle.cl_rules.specs.declared.rule.Judged.TheVariants.{Makes}
use Rattle.cl_rules.specs.declared.rule.Qualified.{Qualified}
use Rattle.cl_scope.specs.declared.scope.Declared.{Declared}
use Rattle.cl_scope.specs.declared.scope.DeclaredKind.{DeclaredKind}
use Rattle.cl_scope.specs.declared.scope.DeclaredKind.TheVariants as kind
use Rattle.cl_scope.specs.Names.{Env, declare, find, find_tag, is_tagged}
use Rattle.cl_rules.specs.Operands.{first_broken, seen, to_array, integers, type_of, component, value}
use Rattle.cl_rules.specs.Operators.{dereferenced}
use Rattle.cl_rules.specs.Parts.{member}
use Rattle.cl_rules.specs.Calls.{cast_rule, literal, no_size, size_tests, wants_of}
use Rattle.cl_words.specs.declared.naming.Length.{Length}
use Rattle.cl_words.specs.declared.naming.Length.TheVariants.{Open, Wrong}
use Rattle.cl_words.specs.Words.{has_member, word_shape, is_sized, plain, named_type, qualify, restrict_behind, length_from, sketch, member_tests, struct_tests, name_or_none}
use Rattle.cl_make.specs.Wanted.{IsDeclaredAs, IsWanted, target}
use Rattle.cl_type_expr.specs.Judging.{judge}
use Rattle.cl_make.specs.Building.{IsMade, IsNode, IsNumber, number_type, name_head, operand_named}
use Rattle.cl_type_expr.specs.Syntax.{IsExpr, IsSpec, IsTerm, IsField, IsDeclor, IsStruct}

-- Which operand stands on the left of an assignment: the place of `=`, the operand of `++` and `--`, and of such a place what it is a part of.
abbrev pub is_step : UnOp → Bool
is_step un.PreInc = true
is_step un.PreDec = true
is_step un.PostInc = true
is_step un.PostDec = true
is_step _ = false

abbrev pub first_left : Bool → ExprNode → Bool
first_left left (node.Unary op) = is_step op
first_left left (node.Assign op) = true
first_left left node.Index = left
first_left left (node.Member name arrow) = left && not arrow
first_left left _ = false

-- a struct that is not complete, from its `{` on, and one that is
abbrev pub tag : List ℕ → TypeId → Bool → Declared
tag name t complete = record { name = name; ty = t; space = space.Private; readonly = false; kind = kind.Tag; complete = complete }

abbrev pub tagged : Option (List ℕ) → TypeId → Bool → Env → Env
tagged None t complete env = env
tagged (Some name) t complete env = declare (tag name t complete) env

abbrev pub is_tag_again : Env → Option (List ℕ) → Bool
is_tag_again env None = false
is_tag_again env (Some name) = is_tagged env name

-- the value of a typedef's name, or of no name, is none
abbrev pub is_value : Option Declared → Bool
is_value None = false
is_value (Some d) = is_some (name_head d.kind)

abbrev pub is_type_name : DeclaredKind → Bool
is_type_name kind.Typedef = true
is_type_name _ = false

abbrev pub is_typedef : Option Declared → Bool
is_typedef None = false
is_typedef (Some d) = is_type_name d.kind

-- the struct of a tag; none of no tag, which stands in no text without members
abbrev pub tag_of : Env → Option (List ℕ) → Option Declared
tag_of env None = None
tag_of env (Some name) = find_tag env name

-- a struct that is known and complete
abbrev pub is_complete : Option Declared → Bool
is_complete None = false
is_complete (Some d) = d.complete

-- the size of a type in brackets; of a pointer 4
abbrev pub term_size : List ClType → Qualified → Option Bool → ℕ
term_size cs q None = size_of (tree_of cs q.ty.0)
term_size cs q (Some restricted) = 4

-- a constant index of a component
abbrev pub component_in : ℕ → Option ℕ → Option ℕ
component_in n None = None
component_in n (Some k) = if nat_lt k n then Some k else None

abbrev pub component_of : List ClType → Operand → TExpr → Option ℕ
component_of cs o i = component_in (type_of o.shape).count (number_of cs i)

-- The types of the arguments of a built-in function: an array stands for a pointer, but for an array of arrays, which no function takes.
abbrev pub decays : Operand → Bool
decays o = is_array o.shape && is_pointer (seen o) && not (to_array o)

abbrev pub argument_want : Operand → Want
argument_want o = if decays o then want.Of (seen o) else want.Type o.facts.ty

pub data AreArguments (cs : List ClType) : List Operand → List TypeId → Type 0 where
  none : AreArguments cs [] []
  more : (o : Operand) (os : List Operand) (t : TypeId) (ts : List TypeId) → IsWanted cs (argument_want o) t → AreArguments cs os ts → AreArguments cs (o ∷ os) (t ∷ ts)

-- The flags of a barrier or a fence are the constant 1, 2 or 3.
abbrev pub is_fence_rule : Option Entry → Bool
is_fence_rule (Some (b, rule.Fence)) = true
is_fence_rule _ = false

abbrev pub is_fence : List ℕ → Bool
is_fence name = is_fence_rule (lookup entries name)

abbrev pub is_flag : Option ℕ → Bool
is_flag None = false
is_flag (Some n) = nat_lt 0 n && nat_lt n 4

abbrev pub are_flags : List ClType → List TExpr → Bool
are_flags cs [] = true
are_flags cs (t ∷ ts) = is_flag (number_of cs t) && are_flags cs ts

abbrev pub flags_fit : List ClType → List ℕ → List TExpr → Bool
flags_fit cs name ts = not (is_fence name) || are_flags cs ts

abbrev pub or_later : Option Place → Option Place → Option Place
or_later None later = later
or_later (Some p) later = Some p

abbrev pub first_divides : List ClType → List TExpr → Option Place
first_divides cs [] = None
first_divides cs (t ∷ ts) = or_later (divides (constancy_of cs t)) (first_divides cs ts)

abbrev pub flag_divides : List ClType → List ℕ → List TExpr → Option Place
flag_divides cs name ts = if is_fence name then first_divides cs ts else None

mutual
  -- an expression, in these declarations, on the left of an assignment or not; the declarations behind it, its tree, and what it is
  pub data Types (cs : List ClType) : Env → Bool → Expr → Env → TExpr → Operand → Type 0 where
    -- A parameter, a variable or a constant. A name and a number have no operands in any text.
    name : (env after : Env) (left : Bool) (e : Expr) (place : Place) (text : List ℕ) (args : List Expr) (ts : List TExpr) (os : List Operand) (d : Declared) (h : Head) (t : TExpr) → IsExpr e place (node.Name text) args → AreTyped cs env false args after ts os → find after text ≡ Some d → name_head d.kind ≡ Some h → IsKnown cs d.ty → IsNode t d.ty place h [] → Types cs env left e after t (operand_named cs d)
    literal_number : (env after : Env) (left : Bool) (e : Expr) (place : Place) (n ty : ℕ) (args : List Expr) (ts : List TExpr) (os : List Operand) (t : TExpr) (o : Operand) → IsExpr e place (node.Number n ty) args → AreTyped cs env false args after ts os → IsNumber cs (number_type ty) n place t o → Types cs env left e after t o
    -- an operator, a member, a call of a function of the unit, or a comma
    operation : (env after : Env) (left : Bool) (e : Expr) (place : Place) (n : ExprNode) (args : List Expr) (ts : List TExpr) (os : List Operand) (m : Made) (t : TExpr) (o : Operand) → IsExpr e place n args → AreTyped cs env (first_left left n) args after ts os → judge cs after left n os ≡ Some (Makes m) → IsMade cs m place ts t o → Types cs env left e after t o
    -- `p->m` is `(*p).m`
    arrow : (env after : Env) (left : Bool) (e : Expr) (place : Place) (name : List ℕ) (args : List Expr) (t u v : TExpr) (o p q : Operand) (m k : Made) → IsExpr e place (node.Member name true) args → AreTyped cs env false args after (t ∷ []) (o ∷ []) → dereferenced o o.shape ≡ Makes m → IsMade cs m place (t ∷ []) u p → member left (members_of cs p.facts.ty) name p ≡ Makes k → IsMade cs k place (u ∷ []) v q → Types cs env left e after v q
    -- A component of a vector by its number, a constant. The number isn't in the tree.
    component_at : (env after : Env) (left : Bool) (e : Expr) (place : Place) (args : List Expr) (t i u : TExpr) (o p q : Operand) (k : ℕ) → IsExpr e place node.Index args → AreTyped cs env left args after (t ∷ i ∷ []) (o ∷ p ∷ []) → is_vector o.shape ≡ true → component_of cs o i ≡ Some k → IsMade cs (component (head.Components (k ∷ [])) (integers (element_of (type_of o.shape))) o) place (t ∷ []) u q → Types cs env left e after u q
    -- The size of an expression, which isn't in the tree.
    size_of_value : (env after : Env) (left : Bool) (e : Expr) (place : Place) (args : List Expr) (t u : TExpr) (o p : Operand) → IsExpr e place (node.Unary un.Sizeof) args → AreTyped cs env false args after (t ∷ []) (o ∷ []) → no_size o ≡ false → IsNumber cs uint (size_of (tree_of cs o.facts.ty.0)) place u p → Types cs env left e after u p
    size_of_type : (env after : Env) (left : Bool) (e : Expr) (place : Place) (term : TypeTerm) (args : List Expr) (q : Qualified) (star : Option Bool) (t : TExpr) (o : Operand) → IsExpr e place (node.SizeofType term) args → IsTermOf cs env term after q star → first_broken (size_tests q star) ≡ None → IsNumber cs uint (term_size cs q star) place t o → Types cs env left e after t o
    cast : (env middle after : Env) (left : Bool) (e : Expr) (place : Place) (term : TypeTerm) (args : List Expr) (q : Qualified) (star : Option Bool) (ts : List TExpr) (os : List Operand) (m : Made) (t : TExpr) (o : Operand) → IsExpr e place (node.Cast term) args → IsTermOf cs env term middle q star → AreTyped cs middle false args after ts os → cast_rule q star os ≡ Makes m → IsMade cs m place ts t o → Types cs env left e after t o
    vector_literal : (env middle after : Env) (left : Bool) (e : Expr) (place : Place) (term : TypeTerm) (args : List Expr) (q : Qualified) (star : Option Bool) (ts : List TExpr) (os : List Operand) (m : Made) (t : TExpr) (o : Operand) → IsExpr e place (node.Vector term) args → IsTermOf cs env term middle q star → AreTyped cs middle false args after ts os → literal q star os ≡ Makes m → IsMade cs m place ts t o → Types cs env left e after t o
    -- a call of a built-in function; a fence has constant flags
    built_in : (env after : Env) (left : Bool) (e : Expr) (place : Place) (name : List ℕ) (args : List Expr) (ts : List TExpr) (os : List Operand) (tys : List TypeId) (found : Found) (t : TExpr) (o : Operand) → IsExpr e place (node.Call name) args → AreTyped cs env false args after ts os → judge cs after left (node.Call name) os ≡ None → AreArguments cs os tys → Means name cs tys cs found → flags_fit cs name ts ≡ true → IsMade cs (value (wants_of found.params) (head.Builtin found.builtin) (want.Type found.result)) place ts t o → Types cs env left e after t o

  -- operands, of which the first is on the left of an assignment or not
  pub data AreTyped (cs : List ClType) : Env → Bool → List Expr → Env → List TExpr → List Operand → Type 0 where
    no_operand : (env : Env) (left : Bool) → AreTyped cs env left [] env [] []
    more_operands : (env middle after : Env) (left : Bool) (e : Expr) (es : List Expr) (t : TExpr) (ts : List TExpr) (o : Operand) (os : List Operand) → Types cs env left e middle t o → AreTyped cs middle false es after ts os → AreTyped cs env left (e ∷ es) after (t ∷ ts) (o ∷ os)

  -- a type in brackets, and whether a `*` in it is `restrict`
  pub data IsTermOf (cs : List ClType) : Env → TypeTerm → Env → Qualified → Option Bool → Type 0 where
    in_brackets : (env after : Env) (term : TypeTerm) (s : Spec) (star : Option (List Qual)) (q : Qualified) → IsTerm term s star → IsSpecified cs env s after q → IsTermOf cs env term after q (restrict_behind star)

  -- the words of a type
  pub data IsSpecified (cs : List ClType) : Env → Spec → Env → Qualified → Type 0 where
    words : (env after : Env) (s : Spec) (quals : List Qual) (b : Base) (q : Qualified) → IsSpec s quals b → IsBase cs env b after q → IsSpecified cs env s after (qualify quals q)

  pub data IsBase (cs : List ClType) : Env → Base → Env → Qualified → Type 0 where
    word : (env : Env) (b : Base) (s : _) (t : TypeId) → word_shape b ≡ Some s → IsWanted cs (want.Of s) t → IsBase cs env b env (plain (target cs t) (is_sized b))
    -- a typedef's name
    named : (env : Env) (name : List ℕ) (place : Place) (d : Declared) → find env name ≡ Some d → d.kind ≡ kind.Typedef → IsKnown cs d.ty → IsBase cs env (base.Named name place) env (named_type (target cs d.ty) d.readonly d.space)
    -- a struct by its tag, where it is complete
    struct_tag : (env : Env) (b : Base) (name : Option (List ℕ)) (place : Place) (d : Declared) → IsStruct b name place None → tag_of env name ≡ Some d → d.complete ≡ true → IsKnown cs d.ty → IsBase cs env b env (plain (target cs d.ty) false)
    -- a struct with its members
    struct_members : (env after : Env) (b : Base) (name : Option (List ℕ)) (place : Place) (fields : List Field) (members : List Member) (void t : TypeId) → IsStruct b name place (Some fields) → IsWanted cs (want.Of shape.Void) void → AreMembers cs (tagged name void false env) [] fields after members → first_broken (struct_tests cs members (is_tag_again env name)) ≡ None → IsAt cs (ty.Struct (name_or_none name) members) t → IsBase cs env b (tagged name t true after) (plain (target cs t) false)

  -- members behind others
  pub data AreMembers (cs : List ClType) : Env → List Member → List Field → Env → List Member → Type 0 where
    no_field : (env : Env) (before : List Member) → AreMembers cs env before [] env before
    more_fields : (env typed middle after : Env) (before between members : List Member) (f : Field) (fs : List Field) (s : Spec) (names : List Declor) (q : Qualified) → IsField f s names → IsSpecified cs env s typed q → AreNamed cs typed q before names middle between → AreMembers cs middle between fs after members → AreMembers cs env before (f ∷ fs) after members

  -- members of one type behind others
  pub data AreNamed (cs : List ClType) : Env → Qualified → List Member → List Declor → Env → List Member → Type 0 where
    no_name : (env : Env) (q : Qualified) (before : List Member) → AreNamed cs env q before [] env before
    more_names : (env middle after : Env) (q : Qualified) (before members : List Member) (d : Declor) (ds : List Declor) (star : Option (List Qual)) (name : List ℕ) (place : Place) (es : List (Option Expr)) (ls : List Length) (t : TypeId) → IsDeclor d star name place es → AreLengths cs env false es middle ls → first_broken (member_tests cs (sketch q star ls) (has_member name before)) ≡ None → IsDeclaredAs cs (sketch q star ls) 1 t → AreNamed cs middle q (before ++ record { name = name; ty = t } ∷ []) ds after members → AreNamed cs env q before (d ∷ ds) after members

  -- lengths of arrays, of which the first may be missing or not
  pub data AreLengths (cs : List ClType) : Env → Bool → List (Option Expr) → Env → List Length → Type 0 where
    no_length : (env : Env) (may_miss : Bool) → AreLengths cs env may_miss [] env []
    missing : (env after : Env) (may_miss : Bool) (es : List (Option Expr)) (ls : List Length) → AreLengths cs env false es after ls → AreLengths cs env may_miss (None ∷ es) after ((if may_miss then Open else Wrong) ∷ ls)
    given : (env middle after : Env) (may_miss : Bool) (e : Expr) (es : List (Option Expr)) (t : TExpr) (o : Operand) (n : Option ℕ) (ls : List Length) → Types cs env false e middle t o → divides (constancy_of cs t) ≡ None → positive_of cs t ≡ n → AreLengths cs middle false es after ls → AreLengths cs env may_miss (Some e ∷ es) after (length_from n ∷ ls)
