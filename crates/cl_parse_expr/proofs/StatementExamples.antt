-- Each part of statements stands for some tokens.
use Rattle.std.proofs.Common.{List, [], ◌∷◌, refl}
use Rattle.cl_grammar.specs.declared.lexeme.Lexeme.{Lexeme}
use Rattle.cl_grammar.specs.declared.terminal.Terminal.{Terminal}
use Rattle.cl_grammar.specs.declared.terminal.Terminal.TheVariants as t
use Rattle.cl_grammar.specs.Expressions as g
use Rattle.cl_grammar.specs.Expressions.{IsAssign, IsDeclor}
use Rattle.cl_grammar.specs.Statements as s
use Rattle.cl_grammar.specs.StatementSymbols as x
use Rattle.cl_grammar.specs.StatementSymbols.{StmtSym, is_stmt, IsBracketed}

-- a token of a terminal
abbrev pub sample : Terminal → Lexeme
sample k = record { terminal = k; text = []; place = record { line = 1; col = 1 } }

some_assign : IsAssign (sample t.Name ∷ [])
some_assign = g.only_cond _ (g.only_bin _ (g.only_cast _ (g.only_unary _ (g.only_postfix _ (g.suffixed (sample t.Name ∷ []) [] (g.name (sample t.Name) refl) g.no_suffix)))))

some_declor : IsDeclor (sample t.Name ∷ [])
some_declor = g.declor (sample t.Name) [] [] g.none refl g.no_length

some_bracketed : IsBracketed (sample t.OpenParen ∷ sample t.Name ∷ sample t.CloseParen ∷ [])
some_bracketed = x.bracketed (sample t.OpenParen) (sample t.CloseParen) (sample t.Name ∷ []) refl (g.last_assign _ some_assign) refl

pub record StmtExample (y : StmtSym) : Type 0 where
  pub tokens : List Lexeme
  pub is : is_stmt y tokens

pub stmt_example : (y : StmtSym) → StmtExample y
stmt_example x.Init = record { tokens = sample t.Name ∷ []; is = s.value _ some_assign }
stmt_example x.BehindInit = record { tokens = sample t.CloseBrace ∷ []; is = x.closed (sample t.CloseBrace) refl }
stmt_example x.MoreInits = record { tokens = sample t.CloseBrace ∷ []; is = x.no_init (sample t.CloseBrace) refl }
stmt_example x.InitDeclor = record { tokens = sample t.Name ∷ []; is = s.bare _ some_declor }
stmt_example x.BehindDeclor = record { tokens = []; is = x.no_equals }
stmt_example x.InitDeclors = record { tokens = sample t.Name ∷ []; is = s.last _ (s.bare _ some_declor) }
stmt_example x.MoreDeclors = record { tokens = []; is = x.no_declor }
stmt_example x.Label = record { tokens = sample t.Default ∷ sample t.Colon ∷ []; is = s.default (sample t.Default) (sample t.Colon) refl refl }
stmt_example (x.Clause end) = record { tokens = sample end ∷ []; is = x.clause end (sample end) [] s.none refl }
stmt_example x.Bracketed = record { tokens = sample t.OpenParen ∷ sample t.Name ∷ sample t.CloseParen ∷ []; is = some_bracketed }
stmt_example x.ForStart = record { tokens = sample t.Semicolon ∷ []; is = s.evaluates (sample t.Semicolon) [] s.none refl }
stmt_example x.LoopHead = record { tokens = sample t.While ∷ sample t.OpenParen ∷ sample t.Name ∷ sample t.CloseParen ∷ []; is = x.while_head (sample t.While) _ refl some_bracketed }
stmt_example x.Block = record { tokens = sample t.OpenBrace ∷ sample t.CloseBrace ∷ []; is = s.block (sample t.OpenBrace) (sample t.CloseBrace) [] refl s.no_item refl }
stmt_example x.Items = record { tokens = []; is = s.no_item }
stmt_example x.Item = record { tokens = sample t.Semicolon ∷ []; is = s.statement _ (s.empty (sample t.Semicolon) refl) }
stmt_example x.BehindSpec = record { tokens = sample t.Semicolon ∷ []; is = x.no_name (sample t.Semicolon) refl }
stmt_example x.Statement = record { tokens = sample t.Semicolon ∷ []; is = s.empty (sample t.Semicolon) refl }
stmt_example x.MayElse = record { tokens = []; is = x.no_else }
stmt_example x.Sections = record { tokens = []; is = s.no_section }
stmt_example x.BehindLabel = record { tokens = []; is = x.no_more_label [] [] s.no_item s.no_section }
