-- The tokens that may stand first in a part of the grammar.
use Rattle.std.proofs.Common.{◌≡◌, ℕ, Bool, true, false, List, [], ◌∷◌, sym, ◌∙◌, subst, ◌⊎◌, inl}
use Rattle.cl_grammar.specs.declared.lexeme.Lexeme.{Lexeme}
use Rattle.cl_grammar.specs.Symbols as s
use Rattle.cl_grammar.specs.Symbols.{Sym, ExprSym, Class, belongs, is_some, is_whole, Is, IsE, Are}
use Rattle.cl_grammar.proofs.TerminalKinds.{kind, has, class_kinds, class_kind}
use Rattle.cl_grammar.proofs.StatementKinds.{stmt_firsts, stmt_empties, stmt_first}
use Rattle.cl_grammar.proofs.DeclarationKinds.{decl_firsts, decl_empties, decl_first}
use Rattle.cl_grammar.proofs.Firsts.{Begins}
use Rattle.cl_grammar.proofs.ExpressionStarts.{firsts, empties_e, self_kind, part_first}

abbrev pub symbol_firsts : Sym → List ℕ
symbol_firsts (s.Mark terminal) = kind terminal ∷ []
symbol_firsts (s.Of class) = class_kinds class
symbol_firsts (s.E x) = firsts x
symbol_firsts (s.S x) = stmt_firsts x
symbol_firsts (s.D x) = decl_firsts x

abbrev pub starts : Sym → ℕ → Bool
starts x k = has (symbol_firsts x) k

abbrev pub empties : Sym → Bool
empties (s.Mark terminal) = false
empties (s.Of class) = false
empties (s.E x) = empties_e x
empties (s.S x) = stmt_empties x
empties (s.D x) = decl_empties x

-- A symbol's tokens begin with one of its first ones, or are none.
pub first_of_symbol : (x : Sym) (u : List Lexeme) → Is x u → Begins (symbol_firsts x) u ⊎ ((u ≡ []) × (empties x ≡ true))
first_of_symbol (s.Mark terminal) u a = inl (record { first = a.token; rest = []; is = a.alone; fits = subst (λ z. has (kind terminal ∷ []) (kind z) ≡ true) (sym a.stands) (self_kind terminal) })
first_of_symbol (s.Of class) u a = inl (record { first = a.token; rest = []; is = a.alone; fits = sym (class_kind class a.token.terminal) ∙ a.stands })
first_of_symbol (s.E x) u a = part_first x u a
first_of_symbol (s.S x) u a = stmt_first x u a
first_of_symbol (s.D x) u a = decl_first x u a
