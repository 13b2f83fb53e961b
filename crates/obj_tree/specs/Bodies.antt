-- Which statements of a copy stand where they may (C99, 6.8): conditions, labels, `break`, `continue` and `return`.
use Rattle.std.specs.Prelude.{ℕ, suc, nat_eq, nat_lt, nat_le, not, ◌&&◌, ◌||◌, Bool, true, false, List, [], ◌∷◌, ◌++◌, length, Option, Some, None, slice_get}
use Rattle.cl_types.specs.declared.types.TypeId.{TypeId}
use Rattle.cl_tree.specs.Shapes.{shape_of, is_void, is_number}
use Rattle.cl_tree.specs.Statements.{type_in, has_type, is_new, and_value, is_tested}
use Rattle.obj_tree.specs.declared.expression.OExpr.{OExpr}
use Rattle.obj_tree.specs.declared.statement.OStmt.{OStmt}
use Rattle.obj_tree.specs.declared.statement.OStmtNode.TheOpen.{OStmtNode-F, OStmt-F, Section-F, Block, Decl, Expr, If, While, Do, For, Switch, Break, Continue, Return, Empty}
use Rattle.obj_tree.specs.declared.statement.OStmtNode.TheFolds.{fold-OStmt}
use Rattle.obj_tree.specs.Code.{expr_of, literal_of}
use Rattle.obj_tree.specs.Typing.{Scope, facts_of}

-- where a statement stands: the lists of its copy, the copy's variables and result, and whether `break` and `continue` may stand there
pub record Frame : Type 0 where
  pub scope : Scope
  pub vars : List TypeId
  pub result : TypeId
  pub breaks : Bool
  pub continues : Bool

abbrev pub in_loop : Frame → Frame
in_loop f = record f { breaks = true; continues = true }

abbrev pub in_switch : Frame → Frame
in_switch f = record f { breaks = true }

-- Whether a statement ends its list, so that nothing behind it is reached; and whether it stands as it may.
pub record Tested : Type 0 where
  pub ends : Bool
  pub fits : Frame → Bool

abbrev pub all_fit : Frame → List Tested → Bool
all_fit f [] = true
all_fit f (t ∷ ts) = t.fits f && all_fit f ts

abbrev pub some_ends : List Tested → Bool
some_ends [] = false
some_ends (t ∷ ts) = t.ends || some_ends ts

-- ---- expressions in statements

abbrev pub type_of : Frame → OExpr → Option TypeId
type_of f e = type_in (facts_of e f.scope)

abbrev pub is_typed : Frame → Option TypeId → Bool
is_typed f None = false
is_typed f (Some t) = true

abbrev pub may_be_typed : Frame → Option OExpr → Bool
may_be_typed f None = true
may_be_typed f (Some e) = is_typed f (type_of f e)

abbrev pub is_condition_of : Frame → Option TypeId → Bool
is_condition_of f None = false
is_condition_of f (Some t) = is_number (shape_of f.scope.types t)

-- a condition is an integer or a bool
abbrev pub is_condition : Frame → OExpr → Bool
is_condition f e = is_condition_of f (type_of f e)

-- a value of the function's type, and none in a function that gives void
abbrev pub returns : Frame → Option OExpr → Bool
returns f None = is_void (shape_of f.scope.types f.result)
returns f (Some e) = has_type f.result (type_of f e) && not (is_void (shape_of f.scope.types f.result))

-- variables of the copy, of which one alone may have an initialiser, of its type
abbrev pub are_variables : Frame → List ℕ → Bool
are_variables f [] = true
are_variables f (k ∷ ks) = nat_lt k (length f.vars) && are_variables f ks

abbrev pub initialises : Frame → Option TypeId → OExpr → Bool
initialises f None e = false
initialises f (Some t) e = has_type t (type_of f e)

abbrev pub declares : Frame → List ℕ → Option OExpr → Bool
declares f vars None = are_variables f vars
declares f (k ∷ []) (Some e) = initialises f (slice_get f.vars k) e
declares f vars (Some e) = false

-- ---- switch

pub record SectionTested : Type 0 where
  pub labels : List (Option OExpr)
  pub ends : Bool
  pub fits : Frame → Bool

abbrev pub defaults : List (Option OExpr) → ℕ
defaults [] = 0
defaults (None ∷ ls) = suc (defaults ls)
defaults (Some e ∷ ls) = defaults ls

abbrev pub labels_of : List SectionTested → List (Option OExpr)
labels_of [] = []
labels_of (s ∷ ss) = s.labels ++ labels_of ss

-- the values are literals of the type of what is tested, and no two are equal
abbrev pub are_cases : Frame → TypeId → List ℕ → List (Option OExpr) → Bool
are_cases f t known [] = true
are_cases f t known (None ∷ ls) = are_cases f t known ls
are_cases f t known (Some e ∷ ls) = has_type t (type_of f e) && is_new (literal_of (expr_of e)) known && are_cases f t (and_value (literal_of (expr_of e)) known) ls

-- a default before the last section stands between sections that end
abbrev pub defaults_end : Bool → List SectionTested → Bool
defaults_end before [] = true
defaults_end before (s ∷ []) = true
defaults_end before (s ∷ t ∷ ss) = (nat_eq (defaults s.labels) 0 || (before && s.ends)) && defaults_end s.ends (t ∷ ss)

abbrev pub sections_fit : Frame → List SectionTested → Bool
sections_fit f [] = true
sections_fit f (s ∷ ss) = s.fits f && sections_fit f ss

-- what is tested has the type int or uint
abbrev pub switches_at : Frame → Option TypeId → List SectionTested → Bool
switches_at f None ss = false
switches_at f (Some t) ss =
    is_tested (shape_of f.scope.types t) && are_cases f t [] (labels_of ss) && nat_le (defaults (labels_of ss)) 1
    && defaults_end true ss && sections_fit (in_switch f) ss

-- ---- statements

abbrev pub two_end : List Tested → Bool
two_end (a ∷ b ∷ []) = a.ends && b.ends
two_end _ = false

-- one arm, or two
abbrev pub are_arms : List Tested → Bool
are_arms (a ∷ []) = true
are_arms (a ∷ b ∷ []) = true
are_arms _ = false

abbrev pub never_ends : (Frame → Bool) → Tested
never_ends fits = record { ends = false; fits = fits }

abbrev pub always_ends : (Frame → Bool) → Tested
always_ends fits = record { ends = true; fits = fits }

abbrev pub node_over : OStmtNode-F Tested Tested SectionTested → Tested
node_over (Block items) = record { ends = some_ends items.items; fits = λ f. all_fit f items.items }
node_over (Decl vars init) = never_ends (λ f. declares f vars init)
node_over (Expr e) = never_ends (λ f. is_typed f (type_of f e))
node_over (If cond arms) = record { ends = two_end arms.items; fits = λ f. is_condition f cond && are_arms arms.items && all_fit f arms.items }
node_over (While cond body) = never_ends (λ f. is_condition f cond && all_fit (in_loop f) body.items)
node_over (Do body cond) = never_ends (λ f. is_condition f cond && all_fit (in_loop f) body.items)
node_over (For decls first cond next body) =
    never_ends (λ f. all_fit f decls.items && may_be_typed f first && is_condition f cond && may_be_typed f next && all_fit (in_loop f) body.items)
node_over (Switch value sections) = never_ends (λ f. switches_at f (type_of f value) sections.items)
node_over Break = always_ends (λ f. f.breaks)
node_over Continue = always_ends (λ f. f.continues)
node_over (Return e) = always_ends (λ f. returns f e)
node_over Empty = never_ends (λ f. true)

abbrev pub section_over : Section-F Tested Tested SectionTested → SectionTested
section_over s = record { labels = s.labels.items; ends = some_ends s.body.items; fits = λ f. all_fit f s.body.items }

abbrev pub stmt_over : OStmt-F Tested Tested SectionTested → Tested
stmt_over s = s.node

abbrev pub tested : OStmt → Tested
tested = fold-OStmt Tested Tested SectionTested node_over stmt_over section_over
