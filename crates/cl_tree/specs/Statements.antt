-- Which typed statements stand where they may (C99, 6.8): conditions, labels, `break`, `continue` and `return`.
use Rattle.std.specs.Prelude.{ℕ, suc, nat_eq, nat_le, not, ◌&&◌, ◌||◌, Bool, true, false, List, [], ◌∷◌, ◌++◌, Option, Some, None, is_some, slice_get}
use Rattle.cl_types.specs.declared.types.TypeId.{TypeId}
use Rattle.cl_types.specs.declared.space.Space.{Space}
use Rattle.cl_types.specs.declared.space.Space.TheVariants as space
use Rattle.cl_tree.specs.declared.shape.Shape.{Shape}
use Rattle.cl_tree.specs.declared.shape.Shape.TheVariants as shape
use Rattle.cl_tree.specs.declared.expression.Facts.{Facts}
use Rattle.cl_tree.specs.declared.expression.TExpr.{TExpr}
use Rattle.cl_tree.specs.declared.statement.TStmt.{TStmt}
use Rattle.cl_tree.specs.declared.statement.TStmtNode.TheOpen.{TStmt-F, TStmtNode-F, Section-F, Block, Decl, Expr, If, While, Do, For, Switch, Break, Continue, Return, Empty}
use Rattle.cl_tree.specs.declared.statement.TStmtNode.TheFolds.{fold-TStmt}
use Rattle.cl_tree.specs.declared.unit.Variable.{Variable}
use Rattle.cl_tree.specs.Constants.{number_of}
use Rattle.cl_tree.specs.Facts.{Lists, facts_of}
use Rattle.cl_tree.specs.Shapes.{shape_of, same_type, is_void, is_number}

-- where a statement stands: the lists of its function, the function's result, and whether `break` and `continue` may stand there
pub record Frame : Type 0 where
  pub lists : Lists
  pub result : TypeId
  pub breaks : Bool
  pub continues : Bool

abbrev pub in_loop : Frame → Frame
in_loop f = record f { breaks = true; continues = true }

abbrev pub in_switch : Frame → Frame
in_switch f = record f { breaks = true }

-- Whether a statement ends its list, so that nothing behind it is reached; and whether it stands as it may.
pub record Tested : Type 0 where
  pub ends : Bool
  pub fits : Frame → Bool

abbrev pub all_fit : Frame → List Tested → Bool
all_fit f [] = true
all_fit f (t ∷ ts) = t.fits f && all_fit f ts

abbrev pub some_ends : List Tested → Bool
some_ends [] = false
some_ends (t ∷ ts) = t.ends || some_ends ts

-- ---- expressions in statements

abbrev pub type_in : Option Facts → Option TypeId
type_in None = None
type_in (Some f) = Some f.ty

abbrev pub type_of : Lists → TExpr → Option TypeId
type_of l e = type_in (facts_of e l)

abbrev pub is_typed : Lists → TExpr → Bool
is_typed l e = is_some (type_of l e)

abbrev pub may_be_typed : Lists → Option TExpr → Bool
may_be_typed l None = true
may_be_typed l (Some e) = is_typed l e

abbrev pub has_type : TypeId → Option TypeId → Bool
has_type t None = false
has_type t (Some own) = same_type t own

abbrev pub is_condition_of : Lists → Option TypeId → Bool
is_condition_of l None = false
is_condition_of l (Some t) = is_number (shape_of l.types t)

-- 318: an integer or a bool
abbrev pub is_condition : Lists → TExpr → Bool
is_condition l e = is_condition_of l (type_of l e)

-- 323: a value of the function's type, and none in a function that gives void
abbrev pub returns : Frame → Option TExpr → Bool
returns f None = is_void (shape_of f.lists.types f.result)
returns f (Some e) = has_type f.result (type_of f.lists e) && not (is_void (shape_of f.lists.types f.result))

-- an initialiser has the variable's type; a variable in local memory has none
abbrev pub is_local : Space → Bool
is_local space.Local = true
is_local _ = false

abbrev pub declares : Lists → Option Variable → Option TExpr → Bool
declares l None init = false
declares l (Some v) None = true
declares l (Some v) (Some e) = has_type v.ty (type_of l e) && not (is_local v.space)

-- ---- switch

-- what a section is: how many times `default`, the values of its cases, whether its statements end, and whether they stand as they may
pub record SectionTested : Type 0 where
  pub labels : List (Option TExpr)
  pub ends : Bool
  pub fits : Frame → Bool

abbrev pub is_default : Option TExpr → Bool
is_default None = true
is_default (Some e) = false

abbrev pub defaults : List (Option TExpr) → ℕ
defaults [] = 0
defaults (None ∷ ls) = suc (defaults ls)
defaults (Some e ∷ ls) = defaults ls

abbrev pub labels_of : List SectionTested → List (Option TExpr)
labels_of [] = []
labels_of (s ∷ ss) = s.labels ++ labels_of ss

-- 320: the values are constants of the type of what is tested, and no two are equal
abbrev pub is_among : ℕ → List ℕ → Bool
is_among n [] = false
is_among n (m ∷ ms) = nat_eq n m || is_among n ms

abbrev pub is_new : Option ℕ → List ℕ → Bool
is_new None ns = false
is_new (Some n) ns = not (is_among n ns)

abbrev pub and_value : Option ℕ → List ℕ → List ℕ
and_value None ns = ns
and_value (Some n) ns = n ∷ ns

abbrev pub are_cases : Lists → TypeId → List ℕ → List (Option TExpr) → Bool
are_cases l t seen [] = true
are_cases l t seen (None ∷ ls) = are_cases l t seen ls
are_cases l t seen (Some e ∷ ls) = has_type t (type_of l e) && is_new (number_of l.types e) seen && are_cases l t (and_value (number_of l.types e) seen) ls

-- 322: a default before the last section stands between sections that end
abbrev pub defaults_end : Bool → List SectionTested → Bool
defaults_end before [] = true
defaults_end before (s ∷ []) = true
defaults_end before (s ∷ t ∷ ss) = (nat_eq (defaults s.labels) 0 || (before && s.ends)) && defaults_end s.ends (t ∷ ss)

abbrev pub sections_fit : Frame → List SectionTested → Bool
sections_fit f [] = true
sections_fit f (s ∷ ss) = s.fits f && sections_fit f ss

-- 318: what is tested has the type int or uint, or is one of fewer bits converted to int
abbrev pub is_tested : Shape → Bool
is_tested (shape.Integers t) = nat_eq t.count 1 && nat_eq t.bits 32
is_tested s = false

abbrev pub switches_at : Frame → Option TypeId → List SectionTested → Bool
switches_at f None ss = false
switches_at f (Some t) ss =
    is_tested (shape_of f.lists.types t) && are_cases f.lists t [] (labels_of ss) && nat_le (defaults (labels_of ss)) 1
    && defaults_end true ss && sections_fit (in_switch f) ss

-- ---- statements

abbrev pub two_end : List Tested → Bool
two_end (a ∷ b ∷ []) = a.ends && b.ends
two_end _ = false

abbrev pub never_ends : (Frame → Bool) → Tested
never_ends fits = record { ends = false; fits = fits }

abbrev pub always_ends : (Frame → Bool) → Tested
always_ends fits = record { ends = true; fits = fits }

abbrev pub node_step : TStmtNode-F Tested SectionTested Tested → Tested
node_step (Block items) = record { ends = some_ends items.items; fits = λ f. all_fit f items.items }
node_step (Decl k init) = never_ends (λ f. declares f.lists (slice_get f.lists.vars k) init)
node_step (Expr e) = never_ends (λ f. is_typed f.lists e)
node_step (If cond arms) = record { ends = two_end arms.items; fits = λ f. is_condition f.lists cond && all_fit f arms.items }
node_step (While cond body) = never_ends (λ f. is_condition f.lists cond && all_fit (in_loop f) body.items)
node_step (Do body cond) = never_ends (λ f. is_condition f.lists cond && all_fit (in_loop f) body.items)
node_step (For decls first cond next body) =
    never_ends (λ f. all_fit f decls.items && may_be_typed f.lists first && is_condition f.lists cond && may_be_typed f.lists next && all_fit (in_loop f) body.items)
node_step (Switch value sections) = never_ends (λ f. switches_at f (type_of f.lists value) sections.items)
node_step Break = always_ends (λ f. f.breaks)
node_step Continue = always_ends (λ f. f.continues)
node_step (Return e) = always_ends (λ f. returns f e)
node_step Empty = never_ends (λ f. true)

abbrev pub section_step : Section-F Tested SectionTested Tested → SectionTested
section_step s = record { labels = s.labels.items; ends = some_ends s.body.items; fits = λ f. all_fit f s.body.items }

abbrev pub stmt_step : TStmt-F Tested SectionTested Tested → Tested
stmt_step s = s.node

abbrev pub tested : TStmt → Tested
tested = fold-TStmt Tested SectionTested Tested node_step section_step stmt_step
