-- What the steps of the reading of declarations say.
use Rattle.std.specs.Prelude.{◌≡◌, ℕ, ◌+◌, ◌<◌, Bool, true, false, ◌&&◌, ◌⊎◌, Option, Some, None, List, [], ◌∷◌, ◌++◌}
use Rattle.clv_place.specs.declared.place.Place.{Place}
use Rattle.cl_ast.specs.declared.expression.Spec.{Spec}
use Rattle.cl_ast.specs.declared.expression.Declor.{Declor}
use Rattle.cl_ast.specs.declared.expression.Expr.{Expr}
use Rattle.cl_ast.specs.declared.expression.Qual.{Qual}
use Rattle.cl_ast.specs.declared.expression.Base.TheViews.{out-Declor}
use Rattle.cl_ast.specs.declared.declaration.External.{External}
use Rattle.cl_ast.specs.declared.declaration.External.TheVariants as external
use Rattle.cl_ast.specs.declared.declaration.FWord.{FWord}
use Rattle.cl_ast.specs.declared.declaration.Param.{Param}
use Rattle.cl_ast.specs.declared.declaration.InitDeclor.{InitDeclor}
use Rattle.std.specs.Global.{Vec}
use Rattle.cl_ast.specs.declared.statement.Stmt.{Stmt}
use Rattle.cl_grammar.specs.declared.lexeme.Lexeme.{Lexeme}
use Rattle.cl_grammar.specs.declared.stop.ExprStop.{ExprStop}
use Rattle.cl_grammar.specs.declared.terminal.Terminal.TheVariants as t
use Rattle.cl_grammar.specs.Expressions.{IsA}
use Rattle.cl_grammar.specs.Statements.{IsParam, AreParams, IsParamList, AreWords, MayBeStatic}
use Rattle.cl_grammar.specs.StatementTrees.{ParamTree, ParamTrees, ParamListTree, WordTrees, BlockTree, InitDeclorTrees, ExternalTree}
use Rattle.cl_grammar.specs.DeclarationSymbols as decl
use Rattle.cl_grammar.specs.DeclarationSymbols.{NextParam, BehindParam, Params, BehindParams, Words, BehindType, Function}
use Rattle.cl_grammar.specs.Symbols.{Mark, E, D, AnySpec, is_some}
use Rattle.cl_grammar.specs.Items.{between, IsAt, OtherAt, GoesOn, ReadAt, RefusedAt}
use Rattle.cl_parse.specs.Declaring.{Declares, declared_by}

-- A parameter stands from one index to another.
pub record ParamAt (ts : List Lexeme) (at next : ℕ) (p : Param) : Type 0 where
  pub forth : at < next
  pub reads : (named : Bool) → GoesOn (D (NextParam named)) (D (BehindParam (named && is_some p.name)) ∷ []) ts at next
  pub is : IsParam (is_some p.name) (between ts at next)
  pub tree : ParamTree (between ts at next) p

-- No parameter stands there, or memory ran out.
pub record ParamRefusedAt (ts : List Lexeme) (at : ℕ) (stop : ExprStop) : Type 0 where
  pub refused : (named : Bool) → RefusedAt (D (NextParam named)) ts at stop

-- Parameters between commas stand from one index to another, where no comma follows; whether each has a name.
pub record ParamsAt (ts : List Lexeme) (at next : ℕ) (params : List Param) (named : Bool) : Type 0 where
  pub forth : at < next
  pub reads : GoesOn (D (NextParam true)) (Mark t.CloseParen ∷ D (BehindParams named) ∷ []) ts at next
  pub are : AreParams named (between ts at next)
  pub trees : ParamTrees (between ts at next) params

-- the same of a list that may be empty
pub record ParamListAt (ts : List Lexeme) (at next : ℕ) (params : List Param) (named : Bool) : Type 0 where
  pub reads : GoesOn (D Params) (Mark t.CloseParen ∷ D (BehindParams named) ∷ []) ts at next
  pub is : IsParamList named (between ts at next)
  pub trees : IsAt ts next t.CloseParen → ParamListTree (between ts at next) params

-- `void` alone stands before a `)`.
pub record VoidAloneAt (ts : List Lexeme) (at : ℕ) : Type 0 where
  pub void : IsAt ts at t.Void
  pub close : IsAt ts (at + 1) t.CloseParen

pub record NoVoidAloneAt (ts : List Lexeme) (at : ℕ) : Type 0 where
  pub other : IsAt ts at t.Void → IsAt ts (at + 1) t.CloseParen → ⊥

-- Words stand from one index to another, and none follows; behind them a type may stand alone, and behind a type variables.
pub record WordsAt (ts : List Lexeme) (at next : ℕ) (words : List FWord) (lone variables : Bool) : Type 0 where
  pub reads : GoesOn (D (Words true true)) (E AnySpec ∷ D (BehindType lone variables) ∷ []) ts at next
  pub are : AreWords (between ts at next)
  pub trees : WordTrees (between ts at next) words
  pub alone : lone ≡ true → between ts at next ≡ []
  pub few : variables ≡ true → MayBeStatic (between ts at next)

-- what stands behind the `)` of a function: a block, or none
pub data EndTree : List Lexeme → Option Stmt → Type 0 where
  declared : (s : Lexeme) → IsA t.Semicolon s → EndTree (s ∷ []) None
  defined : (u : List Lexeme) (body : Stmt) → BlockTree u body → EndTree u (Some body)

-- a function without its words and its type: its name, the name's place, its parameters and its body
pub data FunctionTree : List Lexeme → List ℕ → Place → List Param → Option Stmt → Type 0 where
  function : (n o c : Lexeme) (u v : List Lexeme) (params : List Param) (body : Option Stmt) → IsA t.Name n → IsA t.OpenParen o → ParamListTree u params → IsA t.CloseParen c → EndTree v body → FunctionTree (n ∷ o ∷ (u ++ c ∷ v)) n.text n.place params body

-- what stands behind the type of an external, and the tree with these words and this type
pub data BehindTypeTree : Bool → Bool → List Lexeme → Vec FWord → Spec → External → Type 0 where
  type_alone : (s : Lexeme) (words : Vec FWord) (spec : Spec) → IsA t.Semicolon s → BehindTypeTree true true (s ∷ []) words spec (external.Struct spec)
  names : (lone : Bool) (s : Lexeme) (u : List Lexeme) (items : Vec InitDeclor) (words : Vec FWord) (spec : Spec) → InitDeclorTrees u items.items → IsA t.Semicolon s → BehindTypeTree lone true (u ++ s ∷ []) words spec (external.Constant spec items)
  called : (lone variables : Bool) (u : List Lexeme) (words : Vec FWord) (spec : Spec) (name : List ℕ) (place : Place) (params : Vec Param) (body : Option Stmt) → FunctionTree u name place params.items body → BehindTypeTree lone variables u words spec (external.Function words spec name place params body)

-- A body stands where parameters with names end, or none does.
pub record BodyAt (ts : List Lexeme) (at : ℕ) (named : Bool) : Type 0 where
  pub all : named ≡ true
  pub opens : IsAt ts at t.OpenBrace

pub record NoBodyAt (ts : List Lexeme) (at : ℕ) (named : Bool) : Type 0 where
  pub other : named ≡ true → OtherAt ts at t.OpenBrace

-- the end of a function stands from one index to another
pub record EndAt (ts : List Lexeme) (at next : ℕ) (named : Bool) (body : Option Stmt) : Type 0 where
  pub read : ReadAt (D (BehindParams named)) ts at next
  pub tree : EndTree (between ts at next) body

-- a function stands from one index to another, without its words and its type
pub record FunctionAt (ts : List Lexeme) (at next : ℕ) (name : List ℕ) (place : Place) (params : List Param) (body : Option Stmt) : Type 0 where
  pub forth : at < next
  pub read : ReadAt (D Function) ts at next
  pub tree : FunctionTree (between ts at next) name place params body

-- a name and `(` stand there, or not
pub record CalledAt (ts : List Lexeme) (at : ℕ) : Type 0 where
  pub name : IsAt ts at t.Name
  pub opens : IsAt ts (at + 1) t.OpenParen

pub record NotCalledAt (ts : List Lexeme) (at : ℕ) : Type 0 where
  pub other : IsAt ts at t.Name → IsAt ts (at + 1) t.OpenParen → ⊥

-- Only a function may stand behind a type: where variables may not, or because it does.
pub record OnlyFunctionAt (ts : List Lexeme) (at : ℕ) (variables : Bool) : Type 0 where
  pub either : (variables ≡ false) ⊎ CalledAt ts at

pub record NotFunctionAt (ts : List Lexeme) (at : ℕ) (variables : Bool) : Type 0 where
  pub may : variables ≡ true
  pub other : NotCalledAt ts at

-- a `;` behind a type that may stand alone
pub record AloneAt (ts : List Lexeme) (at : ℕ) (lone : Bool) : Type 0 where
  pub may : lone ≡ true
  pub ends : IsAt ts at t.Semicolon

pub record NotAloneAt (ts : List Lexeme) (at : ℕ) (lone : Bool) : Type 0 where
  pub other : lone ≡ true → OtherAt ts at t.Semicolon

-- what stands behind a type stands from one index to another
pub record BehindTypeAt (ts : List Lexeme) (at next : ℕ) (lone variables : Bool) (words : Vec FWord) (spec : Spec) (tree : External) : Type 0 where
  pub forth : at < next
  pub read : ReadAt (D (BehindType lone variables)) ts at next
  pub means : BehindTypeTree lone variables (between ts at next) words spec tree

-- A declared name stands for what the words of its type name: it has no `*` and no length.
abbrev pub is_missing : Option (List Qual) → Bool
is_missing None = true
is_missing (Some quals) = false

abbrev pub is_empty : List (Option Expr) → Bool
is_empty [] = true
is_empty (e ∷ es) = false

abbrev pub is_plain : Declor → Bool
is_plain d = is_missing (out-Declor d).star && is_empty (out-Declor d).lengths.items

-- An external stands from one index to another; it declares these names, and no others.
pub record ExternalAt (ts : List Lexeme) (at next : ℕ) (tree : External) (vector : Bool) : Type 0 where
  pub forth : at < next
  pub read : ReadAt (D decl.External) ts at next
  pub declares : Declares (declared_by tree vector) (between ts at next)
  pub means : ExternalTree (between ts at next) tree
