-- A reader of expressions and types, which reads each tree of the grammar.
use Rattle.std.proofs.Common.{◌≡◌, ℕ, ◌+◌, true, false, List, ◌++◌, map, Option, arith}
use Rattle.cl_ast.specs.declared.expression.Qual.{Qual}
use Rattle.cl_ast.specs.declared.expression.Expr.{Expr}
use Rattle.cl_ast.specs.declared.expression.Spec.{Spec}
use Rattle.cl_ast.specs.declared.expression.Declor.{Declor}
use Rattle.cl_grammar.specs.declared.lexeme.Lexeme.{Lexeme}
use Rattle.cl_grammar.specs.ExpressionTrees.{StarOf, SpecTree, DeclorTree, ExprTree, AssignTree, AssignTrees, CondTree}
use Rattle.cl_plain.specs.Plain.{Plain, plain_expr, plain_spec, plain_declor}
use Rattle.cl_plain.proofs.Reading.{Reads, first_is, is_end, is_close, is_spec_end, is_star_end, is_declor_end, begins_type}
use Rattle.cl_plain.proofs.ReadMarks.{begins_expr, first_more, is_no_type}
use Rattle.cl_plain.proofs.Readers
use Rattle.cl_plain.proofs.Readers.{readers, star_step}
use Rattle.cl_plain.proofs.ReadBegins.{spec_first, expr_first}
use Rattle.cl_plain.proofs.ReadDown.{Got}
use Rattle.cl_plain.proofs.ReadWords.{star_is}
use Rattle.cl_plain.proofs.ReadTrees.{spec_got, declor_got, cond_got, assign_got, args_got, expr_got}

pub read_spec : ℕ → List Lexeme → Option (Plain × List Lexeme)
read_spec n ls = (readers n).spec ls

-- the words behind a `*`, where there is one
pub read_star : ℕ → List Lexeme → Option (Option (List Qual) × List Lexeme)
read_star n ls = star_step ls

pub read_declor : ℕ → List Lexeme → Option (Plain × List Lexeme)
read_declor n ls = (readers n).declor ls

pub read_cond : ℕ → List Lexeme → Option (Plain × List Lexeme)
read_cond n ls = (readers n).cond ls

pub read_assign : ℕ → List Lexeme → Option (Plain × List Lexeme)
read_assign n ls = (readers n).assign ls

-- assignments with commas between
pub read_args : ℕ → List Lexeme → Option (List Plain × List Lexeme)
read_args n ls = (readers n).args ls

pub read_expr : ℕ → List Lexeme → Option (Plain × List Lexeme)
read_expr n ls = (readers n).expr ls

enough : {A : Type 0} (of : Readers.Readers → List Lexeme → Option (A × List Lexeme)) (u r : List Lexeme) (x : A) → Got (λ R. of R (u ++ r)) (x, r) → Reads (λ n ls. of (readers n) ls) u r x
enough of u r x h = record { steps = h.count; is = λ k. h.is (h.count + k) (omega arith) }

pub spec_reads : (u : List Lexeme) (s : Spec) → SpecTree u s → (r : List Lexeme) → first_is is_spec_end r ≡ true → Reads read_spec u r (plain_spec s)
unfolding read_spec
spec_reads u s x r e = enough (λ R. R.spec) u r (plain_spec s) (spec_got u s x r e)

-- behind a star neither a word of a pointer may stand nor another star
pub star_reads : (u : List Lexeme) (star : Option (List Qual)) → StarOf u star → (r : List Lexeme) → first_is is_star_end r ≡ true → Reads read_star u r star
unfolding read_star
star_reads u s x r e = record { steps = 0; is = λ k. star_is u s r x e }

pub declor_reads : (u : List Lexeme) (d : Declor) → DeclorTree u d → (r : List Lexeme) → first_is is_declor_end r ≡ true → Reads read_declor u r (plain_declor d)
unfolding read_declor
declor_reads u d x r e = enough (λ R. R.declor) u r (plain_declor d) (declor_got u d x r e)

pub cond_reads : (u : List Lexeme) (x : Expr) → CondTree u x → (r : List Lexeme) → first_is is_end r ≡ true → Reads read_cond u r (plain_expr x)
unfolding read_cond
cond_reads u x h r e = enough (λ R. R.cond) u r (plain_expr x) (cond_got u x h r e).cond

pub assign_reads : (u : List Lexeme) (x : Expr) → AssignTree u x → (r : List Lexeme) → first_is is_end r ≡ true → Reads read_assign u r (plain_expr x)
unfolding read_assign
assign_reads u x h r e = enough (λ R. R.assign) u r (plain_expr x) (assign_got u x h r e)

pub args_reads : (u : List Lexeme) (xs : List Expr) → AssignTrees u xs → (r : List Lexeme) → first_is is_close r ≡ true → Reads read_args u r (map plain_expr xs)
unfolding read_args
args_reads u xs h r e = enough (λ R. R.args) u r (map plain_expr xs) (args_got u xs h r e)

pub expr_reads : (u : List Lexeme) (x : Expr) → ExprTree u x → (r : List Lexeme) → first_is is_close r ≡ true → Reads read_expr u r (plain_expr x)
unfolding read_expr
expr_reads u x h r e = enough (λ R. R.expr) u r (plain_expr x) (expr_got u x h r e)

-- what they begin with
pub spec_begins : (u : List Lexeme) (s : Spec) → SpecTree u s → (r : List Lexeme) → first_is begins_type (u ++ r) ≡ true
spec_begins u s x r = first_more begins_type u r (spec_first u s x)

pub expr_begins : (u : List Lexeme) (x : Expr) → ExprTree u x → (r : List Lexeme) → first_is begins_type (u ++ r) ≡ false
expr_begins u x h r = is_no_type (u ++ r) (first_more begins_expr u r (expr_first u x h))
