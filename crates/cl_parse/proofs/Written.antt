-- Each symbol stands for some tokens that can be written, whatever typedefs declared.
use Rattle.std.proofs.Common.{◌≡◌, zero, suc, List, [], ◌∷◌, ◌++◌, Bool, true, false, refl, sym, ap, subst, arith}
use Rattle.std.specs.Prelude.{◌&&◌}
use Rattle.cl_grammar.specs.declared.lexeme.Lexeme.{Lexeme}
use Rattle.cl_grammar.specs.declared.terminal.Terminal.{Terminal}
use Rattle.cl_grammar.specs.declared.terminal.Terminal.TheVariants as t
use Rattle.cl_grammar.specs.Terminals.{whole_type, width_of}
use Rattle.cl_grammar.specs.Expressions as x
use Rattle.cl_grammar.specs.Expressions.{IsPrimary, IsPostfix, IsUnary, IsCast, IsBin, IsCond, IsAssign, AreAssigns, IsSpec, IsDeclor, AreMembers}
use Rattle.cl_grammar.specs.Parts as p
use Rattle.cl_grammar.specs.Statements as w
use Rattle.cl_grammar.specs.Statements.{hints, is_vector_hint}
use Rattle.cl_grammar.specs.StatementSymbols as y
use Rattle.cl_grammar.specs.StatementSymbols.{StmtSym, is_stmt, IsBracketed}
use Rattle.cl_grammar.specs.DeclarationSymbols as d
use Rattle.cl_grammar.specs.DeclarationSymbols.{DeclSym, is_decl, IsBehindParam, IsParams, IsFunction}
use Rattle.cl_grammar.specs.Symbols as s
use Rattle.cl_grammar.specs.Symbols.{Sym, ExprSym, Class, Mark, Of, E, S, D, belongs, Is, IsE, Are, makes, has_example, has_some, have_some}

pub record Example (W : List Lexeme → Type 0) (y : ExprSym) : Type 0 where
  pub tokens : List Lexeme
  pub is : IsE y tokens
  pub written : W tokens

pub record StmtExample (W : List Lexeme → Type 0) (y : StmtSym) : Type 0 where
  pub tokens : List Lexeme
  pub is : is_stmt y tokens
  pub written : W tokens

pub record DeclExample (W : List Lexeme → Type 0) (y : DeclSym) : Type 0 where
  pub tokens : List Lexeme
  pub is : is_decl y tokens
  pub written : W tokens

pub record Made (W : List Lexeme → Type 0) (y : Sym) : Type 0 where
  pub tokens : List Lexeme
  pub is : Is y tokens
  pub written : W tokens

pub record AllMade (W : List Lexeme → Type 0) (todo : List Sym) : Type 0 where
  pub tokens : List Lexeme
  pub are : Are todo tokens
  pub written : W tokens

and_first : (a b : Bool) → (a && b) ≡ true → a ≡ true
and_first true b h = refl
and_first false b h = h

and_second : (a b : Bool) → (a && b) ≡ true → b ≡ true
and_second true b h = h
and_second false b h = absurd (let e : false ≡ true = h in cc)

-- by a token of each terminal, one of a vector type, and the word `vec_type_hint`, where W holds of lists of these
module _ (tok : Terminal → Lexeme) (fit : (k : Terminal) → makes k ≡ true → (tok k).terminal ≡ k) (vec : Lexeme) (fit_vec : vec.terminal ≡ t.Vector 32 true 4) (hint : Lexeme) (fit_hint : is_vector_hint hint.text ≡ true)
    (W : List Lexeme → Type 0) (none : W []) (one : (k : Terminal) (u : List Lexeme) → makes k ≡ true → W u → W (tok k ∷ u)) (one_vec : (u : List Lexeme) → W u → W (vec ∷ u)) (one_hint : (u : List Lexeme) → W u → W (hint ∷ u)) (joined : (u v : List Lexeme) → W u → W v → W (u ++ v)) where
  name_primary : IsPrimary (tok t.Name ∷ [])
  name_primary = x.name (tok t.Name) (fit _ refl)

  name_postfix : IsPostfix (tok t.Name ∷ [])
  name_postfix = x.suffixed (tok t.Name ∷ []) [] name_primary x.no_suffix

  name_unary : IsUnary (tok t.Name ∷ [])
  name_unary = x.only_postfix (tok t.Name ∷ []) name_postfix

  name_cast : IsCast (tok t.Name ∷ [])
  name_cast = x.only_unary (tok t.Name ∷ []) name_unary

  name_bin : IsBin (tok t.Name ∷ [])
  name_bin = x.only_cast (tok t.Name ∷ []) name_cast

  name_cond : IsCond (tok t.Name ∷ [])
  name_cond = x.only_bin (tok t.Name ∷ []) name_bin

  name_assign : IsAssign (tok t.Name ∷ [])
  name_assign = x.only_cond (tok t.Name ∷ []) name_cond

  name_assigns : AreAssigns (tok t.Name ∷ [])
  name_assigns = x.last_assign (tok t.Name ∷ []) name_assign

  void_spec : IsSpec false (tok t.Void ∷ [])
  void_spec = x.spec false [] (tok t.Void ∷ []) [] tt (x.type_word false (tok t.Void) (ap whole_type (fit t.Void refl))) tt

  vector_spec : IsSpec true (vec ∷ [])
  vector_spec = x.spec true [] (vec ∷ []) [] tt (x.type_word true vec (ap whole_type fit_vec)) tt

  name_declor : IsDeclor (tok t.Name ∷ [])
  name_declor = x.declor (tok t.Name) [] [] x.none (fit _ refl) x.no_length

  one_member : AreMembers 1 (tok t.Void ∷ tok t.Name ∷ tok t.Semicolon ∷ [])
  one_member = x.last_member 1 false (tok t.Semicolon) (tok t.Void ∷ []) (tok t.Name ∷ []) void_spec (x.last_declor (tok t.Name ∷ []) name_declor) (fit _ refl)

  plain : p.IsPlainCast (tok t.OpenParen ∷ tok t.Void ∷ tok t.CloseParen ∷ tok t.Name ∷ [])
  plain = p.plain_cast (tok t.OpenParen) (tok t.CloseParen) (tok t.Void ∷ []) (tok t.Name ∷ []) (fit _ refl) (x.plain_type false (tok t.Void ∷ []) void_spec) (fit _ refl) name_cast

  vector : p.IsVectorCast (tok t.OpenParen ∷ vec ∷ tok t.CloseParen ∷ tok t.Name ∷ [])
  vector = p.vector_cast (tok t.OpenParen) (tok t.CloseParen) (vec ∷ []) (tok t.Name ∷ []) (fit _ refl) (x.plain_type true (vec ∷ []) vector_spec) (fit _ refl) (p.cast_operand (tok t.Name ∷ []) (record { is = name_cast; closed = (ap x.is_open (fit t.Name refl)) }))

  body : p.IsBody (tok t.OpenBrace ∷ tok t.Void ∷ tok t.Name ∷ tok t.Semicolon ∷ tok t.CloseBrace ∷ [])
  body = p.body (tok t.OpenBrace) (tok t.CloseBrace) (tok t.Void ∷ tok t.Name ∷ tok t.Semicolon ∷ []) 1 (fit _ refl) one_member (omega arith) (fit _ refl)

  -- a name in brackets
  pub bracketed : IsPrimary (tok t.OpenParen ∷ tok t.Name ∷ tok t.CloseParen ∷ [])
  bracketed = x.brackets (tok t.OpenParen) (tok t.CloseParen) (tok t.Name ∷ []) (fit _ refl) name_assigns (fit _ refl)

  pub example : (y : ExprSym) → has_example y ≡ true → Example W y
  example s.Assigns h = record { tokens = tok t.Name ∷ []; is = name_assigns; written = one t.Name [] refl none }
  example s.MoreAssigns h = record { tokens = []; is = p.no_more_assign; written = none }
  example s.Assign h = record { tokens = tok t.Name ∷ []; is = name_assign; written = one t.Name [] refl none }
  example s.UnaryAssign h = record { tokens = tok t.Name ∷ []; is = p.unary_assign (tok t.Name ∷ []) [] name_unary (p.not_assigned [] (p.behind_cast [] [] p.row_ends p.no_choice)); written = one t.Name [] refl none }
  example s.CastedAssign h = record { tokens = tok t.OpenParen ∷ tok t.Void ∷ tok t.CloseParen ∷ tok t.Name ∷ []; is = p.casted_assign (tok t.OpenParen ∷ tok t.Void ∷ tok t.CloseParen ∷ tok t.Name ∷ []) [] (p.casted_plain _ plain) (p.behind_cast [] [] p.row_ends p.no_choice); written = one t.OpenParen (tok t.Void ∷ tok t.CloseParen ∷ tok t.Name ∷ []) refl (one t.Void (tok t.CloseParen ∷ tok t.Name ∷ []) refl (one t.CloseParen (tok t.Name ∷ []) refl (one t.Name [] refl none))) }
  example s.BehindUnary h = record { tokens = []; is = p.not_assigned [] (p.behind_cast [] [] p.row_ends p.no_choice); written = none }
  example s.BehindCast h = record { tokens = []; is = p.behind_cast [] [] p.row_ends p.no_choice; written = none }
  example s.Cond h = record { tokens = tok t.Name ∷ []; is = name_cond; written = one t.Name [] refl none }
  example s.Bin h = record { tokens = tok t.Name ∷ []; is = name_bin; written = one t.Name [] refl none }
  example s.Row h = record { tokens = []; is = p.row_ends; written = none }
  example s.Choice h = record { tokens = []; is = p.no_choice; written = none }
  example s.Cast h = record { tokens = tok t.Name ∷ []; is = name_cast; written = one t.Name [] refl none }
  example s.Casted h = record { tokens = tok t.OpenParen ∷ tok t.Void ∷ tok t.CloseParen ∷ tok t.Name ∷ []; is = p.casted_plain _ plain; written = one t.OpenParen (tok t.Void ∷ tok t.CloseParen ∷ tok t.Name ∷ []) refl (one t.Void (tok t.CloseParen ∷ tok t.Name ∷ []) refl (one t.CloseParen (tok t.Name ∷ []) refl (one t.Name [] refl none))) }
  example s.PlainCast h = record { tokens = tok t.OpenParen ∷ tok t.Void ∷ tok t.CloseParen ∷ tok t.Name ∷ []; is = plain; written = one t.OpenParen (tok t.Void ∷ tok t.CloseParen ∷ tok t.Name ∷ []) refl (one t.Void (tok t.CloseParen ∷ tok t.Name ∷ []) refl (one t.CloseParen (tok t.Name ∷ []) refl (one t.Name [] refl none))) }
  example s.VectorCast h = record { tokens = tok t.OpenParen ∷ vec ∷ tok t.CloseParen ∷ tok t.Name ∷ []; is = vector; written = one t.OpenParen (vec ∷ tok t.CloseParen ∷ tok t.Name ∷ []) refl (one_vec (tok t.CloseParen ∷ tok t.Name ∷ []) (one t.CloseParen (tok t.Name ∷ []) refl (one t.Name [] refl none))) }
  example s.BehindVector h = record { tokens = tok t.Name ∷ []; is = p.cast_operand (tok t.Name ∷ []) (record { is = name_cast; closed = (ap x.is_open (fit t.Name refl)) }); written = one t.Name [] refl none }
  example s.ClosedCast h = record { tokens = tok t.Name ∷ []; is = record { is = name_cast; closed = (ap x.is_open (fit t.Name refl)) }; written = one t.Name [] refl none }
  example s.Unary h = record { tokens = tok t.Name ∷ []; is = name_unary; written = one t.Name [] refl none }
  example s.Sized h = record { tokens = tok t.Name ∷ []; is = p.sized_unary _ name_unary; written = one t.Name [] refl none }
  example s.TypeInBrackets h = record { tokens = tok t.OpenParen ∷ tok t.Void ∷ tok t.CloseParen ∷ []; is = p.type_in_brackets (tok t.OpenParen) (tok t.CloseParen) false (tok t.Void ∷ []) (fit _ refl) (x.plain_type false (tok t.Void ∷ []) void_spec) (fit _ refl); written = one t.OpenParen (tok t.Void ∷ tok t.CloseParen ∷ []) refl (one t.Void (tok t.CloseParen ∷ []) refl (one t.CloseParen [] refl none)) }
  example s.Postfix h = record { tokens = tok t.Name ∷ []; is = name_postfix; written = one t.Name [] refl none }
  example s.Suffixes h = record { tokens = []; is = x.no_suffix; written = none }
  example s.Primary h = record { tokens = tok t.Name ∷ []; is = name_primary; written = one t.Name [] refl none }
  example s.Call h = record { tokens = []; is = p.no_call; written = none }
  example s.Arguments h = record { tokens = tok t.CloseParen ∷ []; is = p.no_argument (tok t.CloseParen) (fit _ refl); written = one t.CloseParen [] refl none }
  example s.AnyType h = record { tokens = tok t.Void ∷ []; is = p.any_type false _ (x.plain_type false (tok t.Void ∷ []) void_spec); written = one t.Void [] refl none }
  example (s.TypeTerm true) h = record { tokens = vec ∷ []; is = x.plain_type true (vec ∷ []) vector_spec; written = one_vec [] none }
  example (s.TypeTerm false) h = record { tokens = tok t.Void ∷ []; is = x.plain_type false (tok t.Void ∷ []) void_spec; written = one t.Void [] refl none }
  example s.AnySpec h = record { tokens = tok t.Void ∷ []; is = p.any_spec false _ void_spec; written = one t.Void [] refl none }
  example (s.Spec true) h = record { tokens = vec ∷ []; is = vector_spec; written = one_vec [] none }
  example (s.Spec false) h = record { tokens = tok t.Void ∷ []; is = void_spec; written = one t.Void [] refl none }
  example s.Qualifiers h = record { tokens = []; is = tt; written = none }
  example (s.Base true) h = record { tokens = vec ∷ []; is = x.type_word true vec (ap whole_type fit_vec); written = one_vec [] none }
  example (s.Base false) h = record { tokens = tok t.Void ∷ []; is = x.type_word false (tok t.Void) (ap whole_type (fit t.Void refl)); written = one t.Void [] refl none }
  example s.Integer h = record { tokens = tok t.Int ∷ []; is = x.plain (tok t.Int ∷ []) (x.word (tok t.Int) 32 (ap width_of (fit t.Int refl))); written = one t.Int [] refl none }
  example s.MayWidth h = record { tokens = []; is = p.no_width; written = none }
  example s.Width h = record { tokens = tok t.Int ∷ []; is = x.word (tok t.Int) 32 (ap width_of (fit t.Int refl)); written = one t.Int [] refl none }
  example s.MayInt h = record { tokens = []; is = p.no_int; written = none }
  example s.BehindStruct h = record { tokens = tok t.Name ∷ []; is = p.tagged (tok t.Name) [] (fit _ refl) p.no_body; written = one t.Name [] refl none }
  example s.MayBody h = record { tokens = []; is = p.no_body; written = none }
  example s.Body h = record { tokens = tok t.OpenBrace ∷ tok t.Void ∷ tok t.Name ∷ tok t.Semicolon ∷ tok t.CloseBrace ∷ []; is = body; written = one t.OpenBrace (tok t.Void ∷ tok t.Name ∷ tok t.Semicolon ∷ tok t.CloseBrace ∷ []) refl (one t.Void (tok t.Name ∷ tok t.Semicolon ∷ tok t.CloseBrace ∷ []) refl (one t.Name (tok t.Semicolon ∷ tok t.CloseBrace ∷ []) refl (one t.Semicolon (tok t.CloseBrace ∷ []) refl (one t.CloseBrace [] refl none)))) }
  example (s.Members zero) h = absurd (let e : false ≡ true = h in cc)
  example (s.Members (suc room)) h = record { tokens = tok t.Void ∷ tok t.Name ∷ tok t.Semicolon ∷ []; is = p.members_within (suc room) 1 _ one_member (omega arith); written = one t.Void (tok t.Name ∷ tok t.Semicolon ∷ []) refl (one t.Name (tok t.Semicolon ∷ []) refl (one t.Semicolon [] refl none)) }
  example (s.MayMembers room) h = record { tokens = []; is = p.no_members room; written = none }
  example (s.Names zero) h = absurd (let e : false ≡ true = h in cc)
  example (s.Names (suc room)) h = record { tokens = tok t.Name ∷ tok t.Semicolon ∷ []; is = p.names_within room (tok t.Name ∷ []) (tok t.Semicolon ∷ []) name_declor (p.names_end room (tok t.Semicolon) [] (fit _ refl) (p.no_members room)); written = one t.Name (tok t.Semicolon ∷ []) refl (one t.Semicolon [] refl none) }
  example (s.BehindName room) h = record { tokens = tok t.Semicolon ∷ []; is = p.names_end room (tok t.Semicolon) [] (fit _ refl) (p.no_members room); written = one t.Semicolon [] refl none }
  example s.Declor h = record { tokens = tok t.Name ∷ []; is = name_declor; written = one t.Name [] refl none }
  example s.MayStar h = record { tokens = []; is = x.none; written = none }
  example s.Star h = record { tokens = tok t.Star ∷ []; is = x.star (tok t.Star) [] (fit _ refl) tt; written = one t.Star [] refl none }
  example s.PointerQualifiers h = record { tokens = []; is = tt; written = none }
  example s.Lengths h = record { tokens = []; is = x.no_length; written = none }
  example s.Length h = record { tokens = tok t.CloseBracket ∷ []; is = p.no_length (tok t.CloseBracket) [] (fit _ refl) x.no_length; written = one t.CloseBracket [] refl none }

  some_assign : IsAssign (tok t.Name ∷ [])
  some_assign = x.only_cond _ (x.only_bin _ (x.only_cast _ (x.only_unary _ (x.only_postfix _ (x.suffixed (tok t.Name ∷ []) [] (x.name (tok t.Name) (fit _ refl)) x.no_suffix)))))

  some_declor : IsDeclor (tok t.Name ∷ [])
  some_declor = x.declor (tok t.Name) [] [] x.none (fit _ refl) x.no_length

  some_bracketed : IsBracketed (tok t.OpenParen ∷ tok t.Name ∷ tok t.CloseParen ∷ [])
  some_bracketed = y.bracketed (tok t.OpenParen) (tok t.CloseParen) (tok t.Name ∷ []) (fit _ refl) (x.last_assign _ some_assign) (fit _ refl)

  pub stmt_example : (z : StmtSym) → has_some (S z) ≡ true → StmtExample W z
  stmt_example y.Init h = record { tokens = tok t.Name ∷ []; is = w.value _ some_assign; written = one t.Name [] refl none }
  stmt_example y.BehindInit h = record { tokens = tok t.CloseBrace ∷ []; is = y.closed (tok t.CloseBrace) (fit _ refl); written = one t.CloseBrace [] refl none }
  stmt_example y.MoreInits h = record { tokens = tok t.CloseBrace ∷ []; is = y.no_init (tok t.CloseBrace) (fit _ refl); written = one t.CloseBrace [] refl none }
  stmt_example y.InitDeclor h = record { tokens = tok t.Name ∷ []; is = w.bare _ some_declor; written = one t.Name [] refl none }
  stmt_example y.BehindDeclor h = record { tokens = []; is = y.no_equals; written = none }
  stmt_example y.InitDeclors h = record { tokens = tok t.Name ∷ []; is = w.last _ (w.bare _ some_declor); written = one t.Name [] refl none }
  stmt_example y.MoreDeclors h = record { tokens = []; is = y.no_declor; written = none }
  stmt_example y.Label h = record { tokens = tok t.Default ∷ tok t.Colon ∷ []; is = w.default (tok t.Default) (tok t.Colon) (fit _ refl) (fit _ refl); written = one t.Default (tok t.Colon ∷ []) refl (one t.Colon [] refl none) }
  stmt_example (y.Clause end) h = record { tokens = tok end ∷ []; is = y.clause end (tok end) [] w.none (fit end h); written = one end [] h none }
  stmt_example y.Bracketed h = record { tokens = tok t.OpenParen ∷ tok t.Name ∷ tok t.CloseParen ∷ []; is = some_bracketed; written = one t.OpenParen (tok t.Name ∷ tok t.CloseParen ∷ []) refl (one t.Name (tok t.CloseParen ∷ []) refl (one t.CloseParen [] refl none)) }
  stmt_example y.ForStart h = record { tokens = tok t.Semicolon ∷ []; is = w.evaluates (tok t.Semicolon) [] w.none (fit _ refl); written = one t.Semicolon [] refl none }
  stmt_example y.LoopHead h = record { tokens = tok t.While ∷ tok t.OpenParen ∷ tok t.Name ∷ tok t.CloseParen ∷ []; is = y.while_head (tok t.While) _ (fit _ refl) some_bracketed; written = one t.While (tok t.OpenParen ∷ tok t.Name ∷ tok t.CloseParen ∷ []) refl (one t.OpenParen (tok t.Name ∷ tok t.CloseParen ∷ []) refl (one t.Name (tok t.CloseParen ∷ []) refl (one t.CloseParen [] refl none))) }
  stmt_example y.Block h = record { tokens = tok t.OpenBrace ∷ tok t.CloseBrace ∷ []; is = w.block (tok t.OpenBrace) (tok t.CloseBrace) [] (fit _ refl) w.no_item (fit _ refl); written = one t.OpenBrace (tok t.CloseBrace ∷ []) refl (one t.CloseBrace [] refl none) }
  stmt_example y.Items h = record { tokens = []; is = w.no_item; written = none }
  stmt_example y.Item h = record { tokens = tok t.Semicolon ∷ []; is = w.statement _ (w.empty (tok t.Semicolon) (fit _ refl)); written = one t.Semicolon [] refl none }
  stmt_example y.BehindSpec h = record { tokens = tok t.Semicolon ∷ []; is = y.no_name (tok t.Semicolon) (fit _ refl); written = one t.Semicolon [] refl none }
  stmt_example y.Statement h = record { tokens = tok t.Semicolon ∷ []; is = w.empty (tok t.Semicolon) (fit _ refl); written = one t.Semicolon [] refl none }
  stmt_example y.MayElse h = record { tokens = []; is = y.no_else; written = none }
  stmt_example y.Sections h = record { tokens = []; is = w.no_section; written = none }
  stmt_example y.BehindLabel h = record { tokens = []; is = y.no_more_label [] [] w.no_item w.no_section; written = none }

  some_spec : IsSpec false (tok t.Void ∷ [])
  some_spec = x.spec false [] (tok t.Void ∷ []) [] tt (x.type_word false (tok t.Void) (ap whole_type (fit t.Void refl))) tt

  pub closed : (named : Bool) → IsBehindParam named (tok t.CloseParen ∷ tok t.Semicolon ∷ [])
  closed named = d.close named (tok t.CloseParen) _ (fit _ refl) (d.declared named (tok t.Semicolon) (fit _ refl))

  pub no_params : IsParams (tok t.CloseParen ∷ tok t.Semicolon ∷ [])
  no_params = d.no_param (tok t.CloseParen) (tok t.Semicolon ∷ []) (fit _ refl) (d.declared true (tok t.Semicolon) (fit _ refl))

  pub some_function : IsFunction (tok t.Name ∷ tok t.OpenParen ∷ tok t.CloseParen ∷ tok t.Semicolon ∷ [])
  some_function = d.function (tok t.Name) (tok t.OpenParen) _ (fit _ refl) (fit _ refl) no_params

  pub decl_example : (z : DeclSym) → has_some (D z) ≡ true → DeclExample W z
  decl_example d.External h = record { tokens = tok t.Void ∷ tok t.Semicolon ∷ []; is = d.any_external [] _ (w.types false (tok t.Semicolon) (tok t.Void ∷ []) some_spec (fit _ refl)); written = one t.Void (tok t.Semicolon ∷ []) refl (one t.Semicolon [] refl none) }
  decl_example (d.Words lone variables) h = record { tokens = tok t.Void ∷ tok t.Name ∷ tok t.OpenParen ∷ tok t.CloseParen ∷ tok t.Semicolon ∷ []; is = d.typed lone variables false (tok t.Void ∷ []) _ some_spec (d.of_function lone variables _ some_function); written = one t.Void (tok t.Name ∷ tok t.OpenParen ∷ tok t.CloseParen ∷ tok t.Semicolon ∷ []) refl (one t.Name (tok t.OpenParen ∷ tok t.CloseParen ∷ tok t.Semicolon ∷ []) refl (one t.OpenParen (tok t.CloseParen ∷ tok t.Semicolon ∷ []) refl (one t.CloseParen (tok t.Semicolon ∷ []) refl (one t.Semicolon [] refl none)))) }
  decl_example (d.BehindType lone variables) h = record { tokens = tok t.Name ∷ tok t.OpenParen ∷ tok t.CloseParen ∷ tok t.Semicolon ∷ []; is = d.of_function lone variables _ some_function; written = one t.Name (tok t.OpenParen ∷ tok t.CloseParen ∷ tok t.Semicolon ∷ []) refl (one t.OpenParen (tok t.CloseParen ∷ tok t.Semicolon ∷ []) refl (one t.CloseParen (tok t.Semicolon ∷ []) refl (one t.Semicolon [] refl none))) }
  decl_example d.Function h = record { tokens = tok t.Name ∷ tok t.OpenParen ∷ tok t.CloseParen ∷ tok t.Semicolon ∷ []; is = some_function; written = one t.Name (tok t.OpenParen ∷ tok t.CloseParen ∷ tok t.Semicolon ∷ []) refl (one t.OpenParen (tok t.CloseParen ∷ tok t.Semicolon ∷ []) refl (one t.CloseParen (tok t.Semicolon ∷ []) refl (one t.Semicolon [] refl none))) }
  decl_example d.Params h = record { tokens = tok t.CloseParen ∷ tok t.Semicolon ∷ []; is = no_params; written = one t.CloseParen (tok t.Semicolon ∷ []) refl (one t.Semicolon [] refl none) }
  decl_example (d.NextParam named) h = record { tokens = tok t.Void ∷ tok t.CloseParen ∷ tok t.Semicolon ∷ []; is = d.next_param named false (tok t.Void ∷ []) [] _ some_spec x.none (d.has_none named _ (closed false)); written = one t.Void (tok t.CloseParen ∷ tok t.Semicolon ∷ []) refl (one t.CloseParen (tok t.Semicolon ∷ []) refl (one t.Semicolon [] refl none)) }
  decl_example (d.ParamName named) h = record { tokens = tok t.CloseParen ∷ tok t.Semicolon ∷ []; is = d.has_none named _ (closed false); written = one t.CloseParen (tok t.Semicolon ∷ []) refl (one t.Semicolon [] refl none) }
  decl_example (d.BehindParam named) h = record { tokens = tok t.CloseParen ∷ tok t.Semicolon ∷ []; is = closed named; written = one t.CloseParen (tok t.Semicolon ∷ []) refl (one t.Semicolon [] refl none) }
  decl_example (d.BehindParams named) h = record { tokens = tok t.Semicolon ∷ []; is = d.declared named (tok t.Semicolon) (fit _ refl); written = one t.Semicolon [] refl none }
  decl_example d.Word h = record { tokens = tok t.Kernel ∷ []; is = d.kernel (tok t.Kernel) (fit _ refl); written = one t.Kernel [] refl none }
  decl_example d.InAttribute h = record { tokens = hint ∷ tok t.OpenParen ∷ vec ∷ tok t.CloseParen ∷ tok t.CloseParen ∷ tok t.CloseParen ∷ []; is = d.of_vector hint (tok t.OpenParen) (tok t.CloseParen) (tok t.CloseParen) (tok t.CloseParen) (vec ∷ []) (d.vector_hint hint fit_hint) (fit _ refl) (w.word vec (ap hints fit_vec)) (fit _ refl) (fit _ refl) (fit _ refl); written = one_hint (tok t.OpenParen ∷ vec ∷ tok t.CloseParen ∷ tok t.CloseParen ∷ tok t.CloseParen ∷ []) (one t.OpenParen (vec ∷ tok t.CloseParen ∷ tok t.CloseParen ∷ tok t.CloseParen ∷ []) refl (one_vec (tok t.CloseParen ∷ tok t.CloseParen ∷ tok t.CloseParen ∷ []) (one t.CloseParen (tok t.CloseParen ∷ tok t.CloseParen ∷ []) refl (one t.CloseParen (tok t.CloseParen ∷ []) refl (one t.CloseParen [] refl none))))) }
  decl_example d.BehindSize h = record { tokens = tok t.CloseParen ∷ tok t.CloseParen ∷ []; is = d.no_argument (tok t.CloseParen) (tok t.CloseParen) (fit _ refl) (fit _ refl); written = one t.CloseParen (tok t.CloseParen ∷ []) refl (one t.CloseParen [] refl none) }
  decl_example d.Hint h = record { tokens = vec ∷ []; is = w.word vec (ap hints fit_vec); written = one_vec [] none }
  decl_example d.HintWord h = record { tokens = vec ∷ []; is = d.hint_word vec (ap hints fit_vec); written = one_vec [] none }
  decl_example d.VectorHint h = record { tokens = hint ∷ []; is = d.vector_hint hint fit_hint; written = one_hint [] none }
  decl_example d.SizeName h = absurd (let e : false ≡ true = h in cc)

  class_example : (c : Class) → (l : Lexeme) × (belongs c l.terminal ≡ true) × W (l ∷ [])
  class_example s.Number = (tok (t.Number 0 0), subst (λ z. belongs s.Number z ≡ true) (sym (fit (t.Number 0 0) refl)) refl, one (t.Number 0 0) [] refl none)
  class_example s.Binary = (tok t.Plus, subst (λ z. belongs s.Binary z ≡ true) (sym (fit t.Plus refl)) refl, one t.Plus [] refl none)
  class_example s.Assignment = (tok t.Equals, subst (λ z. belongs s.Assignment z ≡ true) (sym (fit t.Equals refl)) refl, one t.Equals [] refl none)
  class_example s.Prefix = (tok t.Plus, subst (λ z. belongs s.Prefix z ≡ true) (sym (fit t.Plus refl)) refl, one t.Plus [] refl none)
  class_example s.BeforeIncrement = (tok t.Increment, subst (λ z. belongs s.BeforeIncrement z ≡ true) (sym (fit t.Increment refl)) refl, one t.Increment [] refl none)
  class_example s.BehindIncrement = (tok t.Increment, subst (λ z. belongs s.BehindIncrement z ≡ true) (sym (fit t.Increment refl)) refl, one t.Increment [] refl none)
  class_example s.OfMember = (tok t.Dot, subst (λ z. belongs s.OfMember z ≡ true) (sym (fit t.Dot refl)) refl, one t.Dot [] refl none)
  class_example s.Qualifier = (tok t.Const, subst (λ z. belongs s.Qualifier z ≡ true) (sym (fit t.Const refl)) refl, one t.Const [] refl none)
  class_example s.PointerQualifier = (tok t.Const, subst (λ z. belongs s.PointerQualifier z ≡ true) (sym (fit t.Const refl)) refl, one t.Const [] refl none)
  class_example (s.Whole true) = (vec, subst (λ z. belongs (s.Whole true) z ≡ true) (sym fit_vec) refl, one_vec [] none)
  class_example (s.Whole false) = (tok t.Void, subst (λ z. belongs (s.Whole false) z ≡ true) (sym (fit t.Void refl)) refl, one t.Void [] refl none)
  class_example s.Sign = (tok t.Signed, subst (λ z. belongs s.Sign z ≡ true) (sym (fit t.Signed refl)) refl, one t.Signed [] refl none)
  class_example s.LoneWidth = (tok t.Int, subst (λ z. belongs s.LoneWidth z ≡ true) (sym (fit t.Int refl)) refl, one t.Int [] refl none)
  class_example s.LongWidth = (tok t.Long, subst (λ z. belongs s.LongWidth z ≡ true) (sym (fit t.Long refl)) refl, one t.Long [] refl none)
  class_example s.Suffix = (tok t.Dot, subst (λ z. belongs s.Suffix z ≡ true) (sym (fit t.Dot refl)) refl, one t.Dot [] refl none)
  class_example s.Called = (tok t.OpenParen, subst (λ z. belongs s.Called z ≡ true) (sym (fit t.OpenParen refl)) refl, one t.OpenParen [] refl none)
  class_example s.Asked = (tok t.Question, subst (λ z. belongs s.Asked z ≡ true) (sym (fit t.Question refl)) refl, one t.Question [] refl none)
  class_example s.Listed = (tok t.Comma, subst (λ z. belongs s.Listed z ≡ true) (sym (fit t.Comma refl)) refl, one t.Comma [] refl none)
  class_example s.Pointing = (tok t.Star, subst (λ z. belongs s.Pointing z ≡ true) (sym (fit t.Star refl)) refl, one t.Star [] refl none)
  class_example s.Braced = (tok t.OpenBrace, subst (λ z. belongs s.Braced z ≡ true) (sym (fit t.OpenBrace refl)) refl, one t.OpenBrace [] refl none)
  class_example s.Bracketed = (tok t.OpenBracket, subst (λ z. belongs s.Bracketed z ≡ true) (sym (fit t.OpenBracket refl)) refl, one t.OpenBracket [] refl none)
  class_example s.TypeWord = (tok t.Void, subst (λ z. belongs s.TypeWord z ≡ true) (sym (fit t.Void refl)) refl, one t.Void [] refl none)

  made_one : (z : Sym) → has_some z ≡ true → Made W z
  made_one (Mark terminal) h = record { tokens = tok terminal ∷ []; is = record { token = tok terminal; stands = fit terminal h; alone = refl }; written = one terminal [] h none }
  made_one (Of class) h = let a = class_example class in record { tokens = a.0 ∷ []; is = record { token = a.0; stands = a.1; alone = refl }; written = a.2 }
  made_one (E y) h = let e = example y h in record { tokens = e.tokens; is = e.is; written = e.written }
  made_one (S y) h = let e = stmt_example y h in record { tokens = e.tokens; is = e.is; written = e.written }
  made_one (D y) h = let e = decl_example y h in record { tokens = e.tokens; is = e.is; written = e.written }

  pub made : (todo : List Sym) → have_some todo ≡ true → AllMade W todo
  made [] h = record { tokens = []; are = refl; written = none }
  made (z ∷ zs) h =
      let a = made_one z (and_first (has_some z) (have_some zs) h) in
      let b = made zs (and_second (has_some z) (have_some zs) h) in
      record { tokens = a.tokens ++ b.tokens; are = (a.tokens, b.tokens, a.is, b.are, refl); written = joined a.tokens b.tokens a.written b.written }
