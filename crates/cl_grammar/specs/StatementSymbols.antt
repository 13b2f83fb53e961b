-- The symbols of initialisers and statements: their lines in `Statements`, and what is left of one of which a piece was read.
use Rattle.std.specs.Prelude.{Bool, true, false, not, List, [], ◌∷◌, ◌++◌}
use Rattle.cl_grammar.specs.declared.lexeme.Lexeme.{Lexeme}
use Rattle.cl_grammar.specs.declared.terminal.Terminal.{Terminal}
use Rattle.cl_grammar.specs.declared.terminal.Terminal.TheVariants as t
use Rattle.cl_grammar.specs.Expressions.{IsA, AreAssigns}
use Rattle.cl_grammar.specs.Statements.{MayBeAssigns, IsInit, AreInits, IsInitDeclor, AreInitDeclors, IsLabel, IsForStart, IsBlock, AreItems, IsItem, IsStmt, AreSections}

pub data StmtSym : Type 0 where
  Init : StmtSym
  BehindInit : StmtSym
  MoreInits : StmtSym
  InitDeclor : StmtSym
  BehindDeclor : StmtSym
  InitDeclors : StmtSym
  MoreDeclors : StmtSym
  Label : StmtSym
  Clause : Terminal → StmtSym
  Bracketed : StmtSym
  ForStart : StmtSym
  LoopHead : StmtSym
  Block : StmtSym
  Items : StmtSym
  Item : StmtSym
  BehindSpec : StmtSym
  Statement : StmtSym
  MayElse : StmtSym
  Sections : StmtSym
  BehindLabel : StmtSym

-- [init {"," init} [","]] "}"
pub data IsMoreInits : List Lexeme → Type 0 where
  no_init : (c : Lexeme) → IsA t.CloseBrace c → IsMoreInits (c ∷ [])
  inits : (c : Lexeme) (u : List Lexeme) → AreInits u → IsA t.CloseBrace c → IsMoreInits (u ++ c ∷ [])

-- what stands behind an initialiser in braces
pub data IsBehindInit : List Lexeme → Type 0 where
  closed : (c : Lexeme) → IsA t.CloseBrace c → IsBehindInit (c ∷ [])
  listed : (k : Lexeme) (u : List Lexeme) → IsA t.Comma k → IsMoreInits u → IsBehindInit (k ∷ u)

-- ["=" init]
pub data IsBehindDeclor : List Lexeme → Type 0 where
  no_equals : IsBehindDeclor []
  equals : (e : Lexeme) (u : List Lexeme) → IsA t.Equals e → IsInit u → IsBehindDeclor (e ∷ u)

-- {"," declor ["=" init]}
pub data IsMoreDeclors : List Lexeme → Type 0 where
  no_declor : IsMoreDeclors []
  declors : (c : Lexeme) (u : List Lexeme) → IsA t.Comma c → AreInitDeclors u → IsMoreDeclors (c ∷ u)

-- [expr] and a mark
pub data IsClause : Terminal → List Lexeme → Type 0 where
  clause : (end : Terminal) (c : Lexeme) (u : List Lexeme) → MayBeAssigns u → IsA end c → IsClause end (u ++ c ∷ [])

-- "(" expr ")"
pub data IsBracketed : List Lexeme → Type 0 where
  bracketed : (o c : Lexeme) (u : List Lexeme) → IsA t.OpenParen o → AreAssigns u → IsA t.CloseParen c → IsBracketed (o ∷ (u ++ c ∷ []))

-- "while" "(" expr ")" | "for" "(" (spec inits ";" | [expr] ";") [expr] ";" [expr] ")"
pub data IsLoopHead : List Lexeme → Type 0 where
  while_head : (h : Lexeme) (u : List Lexeme) → IsA t.While h → IsBracketed u → IsLoopHead (h ∷ u)
  for_head : (f o : Lexeme) (u v w : List Lexeme) → IsA t.For f → IsA t.OpenParen o → IsForStart u → IsClause t.Semicolon v → IsClause t.CloseParen w → IsLoopHead (f ∷ o ∷ (u ++ (v ++ w)))

-- [inits] ";"
pub data IsBehindSpec : List Lexeme → Type 0 where
  no_name : (s : Lexeme) → IsA t.Semicolon s → IsBehindSpec (s ∷ [])
  names : (s : Lexeme) (u : List Lexeme) → AreInitDeclors u → IsA t.Semicolon s → IsBehindSpec (u ++ s ∷ [])

-- ["else" stmt]
pub data MayBeElse : List Lexeme → Type 0 where
  no_else : MayBeElse []
  some_else : (e : Lexeme) (u : List Lexeme) → IsA t.Else e → IsStmt u → MayBeElse (e ∷ u)

-- {label} {item} and the sections behind
pub data IsBehindLabel : List Lexeme → Type 0 where
  more_labels : (u v : List Lexeme) → IsLabel u → IsBehindLabel v → IsBehindLabel (u ++ v)
  no_more_label : (u v : List Lexeme) → AreItems u → AreSections v → IsBehindLabel (u ++ v)

-- tokens that a symbol stands for
abbrev pub is_stmt : StmtSym → List Lexeme → Type 0
is_stmt Init u = IsInit u
is_stmt BehindInit u = IsBehindInit u
is_stmt MoreInits u = IsMoreInits u
is_stmt InitDeclor u = IsInitDeclor u
is_stmt BehindDeclor u = IsBehindDeclor u
is_stmt InitDeclors u = AreInitDeclors u
is_stmt MoreDeclors u = IsMoreDeclors u
is_stmt Label u = IsLabel u
is_stmt (Clause end) u = IsClause end u
is_stmt Bracketed u = IsBracketed u
is_stmt ForStart u = IsForStart u
is_stmt LoopHead u = IsLoopHead u
is_stmt Block u = IsBlock u
is_stmt Items u = AreItems u
is_stmt Item u = IsItem u
is_stmt BehindSpec u = IsBehindSpec u
is_stmt Statement u = IsStmt u
is_stmt MayElse u = MayBeElse u
is_stmt Sections u = AreSections u
is_stmt BehindLabel u = IsBehindLabel u

-- Terminals that may stand behind an initialiser, behind a declared name, behind names, behind items and behind sections.
abbrev pub is_behind_init : Terminal → Bool
is_behind_init t.Comma = true
is_behind_init t.Semicolon = true
is_behind_init t.CloseBrace = true
is_behind_init _ = false

abbrev pub is_behind_declor : Terminal → Bool
is_behind_declor t.Comma = true
is_behind_declor t.Semicolon = true
is_behind_declor _ = false

abbrev pub is_behind_declors : Terminal → Bool
is_behind_declors t.Semicolon = true
is_behind_declors _ = false

abbrev pub is_behind_items : Terminal → Bool
is_behind_items t.CloseBrace = true
is_behind_items t.Case = true
is_behind_items t.Default = true
is_behind_items _ = false

abbrev pub is_behind_sections : Terminal → Bool
is_behind_sections t.CloseBrace = true
is_behind_sections _ = false

-- the tokens that may go on after what is such a symbol already, `else` apart: all but those that stand behind it
abbrev pub stmt_continues : StmtSym → Terminal → Bool
stmt_continues Init t = not (is_behind_init t)
stmt_continues InitDeclor t = not (is_behind_declor t)
stmt_continues BehindDeclor t = not (is_behind_declor t)
stmt_continues InitDeclors t = not (is_behind_declors t)
stmt_continues MoreDeclors t = not (is_behind_declors t)
stmt_continues Items t = not (is_behind_items t)
stmt_continues Sections t = not (is_behind_sections t)
stmt_continues BehindLabel t = not (is_behind_sections t)
stmt_continues _ t = false
