-- What expressions, initialisers and declared names begin with.
use Rattle.std.proofs.Common.{◌≡◌, Bool, true, false, List, [], ◌∷◌, ◌++◌, refl, ap}
use Rattle.cl_ast.specs.declared.expression.Expr.{Expr}
use Rattle.cl_ast.specs.declared.expression.Declor.{Declor}
use Rattle.cl_ast.specs.declared.declaration.Init.{Init}
use Rattle.cl_ast.specs.declared.declaration.InitDeclor.{InitDeclor}
use Rattle.cl_grammar.specs.declared.lexeme.Lexeme.{Lexeme}
use Rattle.cl_grammar.specs.declared.terminal.Terminal.{Terminal}
use Rattle.cl_grammar.specs.declared.terminal.Terminal.TheVariants as t
use Rattle.cl_grammar.specs.ExpressionTrees.{DeclorTree, declor, StarOf, ExprTree, only_assign, comma, AssignTree, only_cond, assigned, CondTree, only_bin, conditional, BinTree, bin, CastTree, only_unary, cast, vector_cast, vector_literal, UnaryTree, only_postfix, incremented, prefixed, size_of, size_of_type, PostfixTree, suffixed, PrimaryTree, name, call_of_none, call, number, brackets}
use Rattle.cl_grammar.specs.StatementTrees.{InitTree, value, braces, InitTrees, last_init, last_with_comma, more_inits, InitDeclorTree, bare, initialised, InitDeclorTrees}
use Rattle.cl_grammar.specs.StatementTrees as trees
use Rattle.cl_grammar.specs.ExpressionTrees as words
use Rattle.cl_plain.proofs.Reading.{first_is}
use Rattle.cl_plain.proofs.ReadSteps.{first_apart}
use Rattle.cl_plain.proofs.ReadBegins
use Rattle.cl_plain.proofs.ReadMarks.{begins_expr, first_implies, first_more}

abbrev pub begins_init : Terminal → Bool
begins_init t.OpenBrace = true
begins_init l = begins_expr l

-- a star or a name
abbrev pub begins_declor : Terminal → Bool
begins_declor t.Star = true
begins_declor t.Name = true
begins_declor _ = false

pub expr_first : (u : List Lexeme) (x : Expr) → ExprTree u x → (r : List Lexeme) → first_is begins_expr (u ++ r) ≡ true
expr_first u x h r = first_more begins_expr u r (ReadBegins.expr_first u x h)

pub assign_first : (u : List Lexeme) (x : Expr) → AssignTree u x → (r : List Lexeme) → first_is begins_expr (u ++ r) ≡ true
assign_first u x h r = expr_first u x (only_assign u x h) r

expr_inits : (l : Terminal) → begins_expr l ≡ true → begins_init l ≡ true
expr_inits t.OpenBrace e = refl
expr_inits _ e = e

pub init_first : (u : List Lexeme) (i : Init) → InitTree u i → (r : List Lexeme) → first_is begins_init (u ++ r) ≡ true
init_first _ _ (value u e h) r = first_implies begins_expr begins_init expr_inits (u ++ r) (assign_first u e h r)
init_first _ _ (braces o c u items h k hc) r = ap begins_init h

pub inits_first : (u : List Lexeme) (is : List Init) → InitTrees u is → (r : List Lexeme) → first_is begins_init (u ++ r) ≡ true
inits_first _ _ (last_init u i h) r = init_first u i h r
inits_first _ _ (last_with_comma c u i h hc) r = first_apart begins_init u (c ∷ []) r (init_first u i h (c ∷ r))
inits_first _ _ (more_inits c u v i is h hc k) r = first_apart begins_init u (c ∷ v) r (init_first u i h ((c ∷ v) ++ r))

pub declor_first : (u : List Lexeme) (d : Declor) → DeclorTree u d → (r : List Lexeme) → first_is begins_declor (u ++ r) ≡ true
declor_first _ _ (declor n _ v _ lengths d words.none hn h is) r = ap begins_declor hn
declor_first _ _ (declor n _ v _ lengths d (words.some s u qs hs hu) hn h is) r = ap begins_declor hs

pub declared_first : (u : List Lexeme) (d : InitDeclor) → InitDeclorTree u d → (r : List Lexeme) → first_is begins_declor (u ++ r) ≡ true
declared_first _ _ (bare u d h) r = declor_first u d h r
declared_first _ _ (initialised e u v d i h he k) r = first_apart begins_declor u (e ∷ v) r (declor_first u d h ((e ∷ v) ++ r))

pub declareds_first : (u : List Lexeme) (ds : List InitDeclor) → InitDeclorTrees u ds → (r : List Lexeme) → first_is begins_declor (u ++ r) ≡ true
declareds_first _ _ (trees.last u d h) r = declared_first u d h r
declareds_first _ _ (trees.more c u v d ds h hc k) r = first_apart begins_declor u (c ∷ v) r (declared_first u d h ((c ∷ v) ++ r))
