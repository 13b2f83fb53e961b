-- Each part of expressions stands for some tokens, and so do rows of symbols.
use Rattle.std.proofs.Common.{◌≡◌, zero, suc, List, [], ◌∷◌, ◌++◌, true, false, refl, arith}
use Rattle.cl_grammar.specs.declared.lexeme.Lexeme.{Lexeme}
use Rattle.cl_grammar.specs.declared.terminal.Terminal.{Terminal}
use Rattle.cl_grammar.specs.declared.terminal.Terminal.TheVariants as t
use Rattle.cl_grammar.specs.Expressions as x
use Rattle.cl_grammar.specs.Expressions.{IsPrimary, IsPostfix, IsUnary, IsCast, IsBin, IsCond, IsAssign, AreAssigns, IsSpec, IsDeclor, AreMembers}
use Rattle.cl_grammar.specs.Parts as p
use Rattle.cl_grammar.specs.Symbols as s
use Rattle.cl_grammar.specs.Symbols.{Sym, ExprSym, Class, Mark, Of, E, S, D, belongs, Is, IsE, Are, has_example, has_some, have_some}
use Rattle.cl_grammar.proofs.Steps.{and_first, and_second}
use Rattle.cl_parse_expr.proofs.DeclarationExamples.{decl_example}
use Rattle.cl_parse_expr.proofs.StatementExamples.{sample, stmt_example}

pub record Example (y : ExprSym) : Type 0 where
  pub tokens : List Lexeme
  pub is : IsE y tokens

name_primary : IsPrimary (sample t.Name ∷ [])
name_primary = x.name (sample t.Name) refl

name_postfix : IsPostfix (sample t.Name ∷ [])
name_postfix = x.suffixed (sample t.Name ∷ []) [] name_primary x.no_suffix

name_unary : IsUnary (sample t.Name ∷ [])
name_unary = x.only_postfix (sample t.Name ∷ []) name_postfix

name_cast : IsCast (sample t.Name ∷ [])
name_cast = x.only_unary (sample t.Name ∷ []) name_unary

name_bin : IsBin (sample t.Name ∷ [])
name_bin = x.only_cast (sample t.Name ∷ []) name_cast

name_cond : IsCond (sample t.Name ∷ [])
name_cond = x.only_bin (sample t.Name ∷ []) name_bin

name_assign : IsAssign (sample t.Name ∷ [])
name_assign = x.only_cond (sample t.Name ∷ []) name_cond

name_assigns : AreAssigns (sample t.Name ∷ [])
name_assigns = x.last_assign (sample t.Name ∷ []) name_assign

void_spec : IsSpec false (sample t.Void ∷ [])
void_spec = x.spec false [] (sample t.Void ∷ []) [] tt (x.type_word false (sample t.Void) refl) tt

vector_spec : IsSpec true (sample (t.Vector 32 true 4) ∷ [])
vector_spec = x.spec true [] (sample (t.Vector 32 true 4) ∷ []) [] tt (x.type_word true (sample (t.Vector 32 true 4)) refl) tt

name_declor : IsDeclor (sample t.Name ∷ [])
name_declor = x.declor (sample t.Name) [] [] x.none refl x.no_length

one_member : AreMembers 1 (sample t.Void ∷ sample t.Name ∷ sample t.Semicolon ∷ [])
one_member = x.last_member 1 false (sample t.Semicolon) (sample t.Void ∷ []) (sample t.Name ∷ []) void_spec (x.last_declor (sample t.Name ∷ []) name_declor) refl

plain : p.IsPlainCast (sample t.OpenParen ∷ sample t.Void ∷ sample t.CloseParen ∷ sample t.Name ∷ [])
plain = p.plain_cast (sample t.OpenParen) (sample t.CloseParen) (sample t.Void ∷ []) (sample t.Name ∷ []) refl (x.plain_type false (sample t.Void ∷ []) void_spec) refl name_cast

vector : p.IsVectorCast (sample t.OpenParen ∷ sample (t.Vector 32 true 4) ∷ sample t.CloseParen ∷ sample t.Name ∷ [])
vector = p.vector_cast (sample t.OpenParen) (sample t.CloseParen) (sample (t.Vector 32 true 4) ∷ []) (sample t.Name ∷ []) refl (x.plain_type true (sample (t.Vector 32 true 4) ∷ []) vector_spec) refl (p.cast_operand (sample t.Name ∷ []) (record { is = name_cast; closed = refl }))

body : p.IsBody (sample t.OpenBrace ∷ sample t.Void ∷ sample t.Name ∷ sample t.Semicolon ∷ sample t.CloseBrace ∷ [])
body = p.body (sample t.OpenBrace) (sample t.CloseBrace) (sample t.Void ∷ sample t.Name ∷ sample t.Semicolon ∷ []) 1 refl one_member (omega arith) refl

-- a name in brackets
pub bracketed : IsPrimary (sample t.OpenParen ∷ sample t.Name ∷ sample t.CloseParen ∷ [])
bracketed = x.brackets (sample t.OpenParen) (sample t.CloseParen) (sample t.Name ∷ []) refl name_assigns refl

pub example : (y : ExprSym) → has_example y ≡ true → Example y
example s.Assigns h = record { tokens = _; is = name_assigns }
example s.MoreAssigns h = record { tokens = []; is = p.no_more_assign }
example s.Assign h = record { tokens = _; is = name_assign }
example s.UnaryAssign h = record { tokens = sample t.Name ∷ []; is = p.unary_assign (sample t.Name ∷ []) [] name_unary (p.not_assigned [] (p.behind_cast [] [] p.row_ends p.no_choice)) }
example s.CastedAssign h = record { tokens = sample t.OpenParen ∷ sample t.Void ∷ sample t.CloseParen ∷ sample t.Name ∷ []; is = p.casted_assign (sample t.OpenParen ∷ sample t.Void ∷ sample t.CloseParen ∷ sample t.Name ∷ []) [] (p.casted_plain _ plain) (p.behind_cast [] [] p.row_ends p.no_choice) }
example s.BehindUnary h = record { tokens = []; is = p.not_assigned [] (p.behind_cast [] [] p.row_ends p.no_choice) }
example s.BehindCast h = record { tokens = []; is = p.behind_cast [] [] p.row_ends p.no_choice }
example s.Cond h = record { tokens = _; is = name_cond }
example s.Bin h = record { tokens = _; is = name_bin }
example s.Row h = record { tokens = []; is = p.row_ends }
example s.Choice h = record { tokens = []; is = p.no_choice }
example s.Cast h = record { tokens = _; is = name_cast }
example s.Casted h = record { tokens = sample t.OpenParen ∷ sample t.Void ∷ sample t.CloseParen ∷ sample t.Name ∷ []; is = p.casted_plain _ plain }
example s.PlainCast h = record { tokens = _; is = plain }
example s.VectorCast h = record { tokens = _; is = vector }
example s.BehindVector h = record { tokens = sample t.Name ∷ []; is = p.cast_operand (sample t.Name ∷ []) (record { is = name_cast; closed = refl }) }
example s.ClosedCast h = record { tokens = sample t.Name ∷ []; is = record { is = name_cast; closed = refl } }
example s.Unary h = record { tokens = _; is = name_unary }
example s.Sized h = record { tokens = sample t.Name ∷ []; is = p.sized_unary _ name_unary }
example s.TypeInBrackets h = record { tokens = sample t.OpenParen ∷ sample t.Void ∷ sample t.CloseParen ∷ []; is = p.type_in_brackets (sample t.OpenParen) (sample t.CloseParen) false (sample t.Void ∷ []) refl (x.plain_type false (sample t.Void ∷ []) void_spec) refl }
example s.Postfix h = record { tokens = _; is = name_postfix }
example s.Suffixes h = record { tokens = []; is = x.no_suffix }
example s.Primary h = record { tokens = _; is = name_primary }
example s.Call h = record { tokens = []; is = p.no_call }
example s.Arguments h = record { tokens = sample t.CloseParen ∷ []; is = p.no_argument (sample t.CloseParen) refl }
example s.AnyType h = record { tokens = sample t.Void ∷ []; is = p.any_type false _ (x.plain_type false (sample t.Void ∷ []) void_spec) }
example (s.TypeTerm true) h = record { tokens = sample (t.Vector 32 true 4) ∷ []; is = x.plain_type true (sample (t.Vector 32 true 4) ∷ []) vector_spec }
example (s.TypeTerm false) h = record { tokens = sample t.Void ∷ []; is = x.plain_type false (sample t.Void ∷ []) void_spec }
example s.AnySpec h = record { tokens = sample t.Void ∷ []; is = p.any_spec false _ void_spec }
example (s.Spec true) h = record { tokens = _; is = vector_spec }
example (s.Spec false) h = record { tokens = _; is = void_spec }
example s.Qualifiers h = record { tokens = []; is = tt }
example (s.Base true) h = record { tokens = sample (t.Vector 32 true 4) ∷ []; is = x.type_word true (sample (t.Vector 32 true 4)) refl }
example (s.Base false) h = record { tokens = sample t.Void ∷ []; is = x.type_word false (sample t.Void) refl }
example s.Integer h = record { tokens = sample t.Int ∷ []; is = x.plain (sample t.Int ∷ []) (x.word (sample t.Int) 32 refl) }
example s.MayWidth h = record { tokens = []; is = p.no_width }
example s.Width h = record { tokens = sample t.Int ∷ []; is = x.word (sample t.Int) 32 refl }
example s.MayInt h = record { tokens = []; is = p.no_int }
example s.BehindStruct h = record { tokens = sample t.Name ∷ []; is = p.tagged (sample t.Name) [] refl p.no_body }
example s.MayBody h = record { tokens = []; is = p.no_body }
example s.Body h = record { tokens = _; is = body }
example (s.Members zero) h = absurd (let e : false ≡ true = h in cc)
example (s.Members (suc room)) h = record { tokens = sample t.Void ∷ sample t.Name ∷ sample t.Semicolon ∷ []; is = p.members_within (suc room) 1 _ one_member (omega arith) }
example (s.MayMembers room) h = record { tokens = []; is = p.no_members room }
example (s.Names zero) h = absurd (let e : false ≡ true = h in cc)
example (s.Names (suc room)) h = record { tokens = sample t.Name ∷ sample t.Semicolon ∷ []; is = p.names_within room (sample t.Name ∷ []) (sample t.Semicolon ∷ []) name_declor (p.names_end room (sample t.Semicolon) [] refl (p.no_members room)) }
example (s.BehindName room) h = record { tokens = sample t.Semicolon ∷ []; is = p.names_end room (sample t.Semicolon) [] refl (p.no_members room) }
example s.Declor h = record { tokens = _; is = name_declor }
example s.MayStar h = record { tokens = []; is = x.none }
example s.Star h = record { tokens = sample t.Star ∷ []; is = x.star (sample t.Star) [] refl tt }
example s.PointerQualifiers h = record { tokens = []; is = tt }
example s.Lengths h = record { tokens = []; is = x.no_length }
example s.Length h = record { tokens = sample t.CloseBracket ∷ []; is = p.no_length (sample t.CloseBracket) [] refl x.no_length }

class_example : (c : Class) → (t : Terminal) × (belongs c t ≡ true)
class_example s.Number = (t.Number 0 0, refl)
class_example s.Binary = (t.Plus, refl)
class_example s.Assignment = (t.Equals, refl)
class_example s.Prefix = (t.Plus, refl)
class_example s.BeforeIncrement = (t.Increment, refl)
class_example s.BehindIncrement = (t.Increment, refl)
class_example s.OfMember = (t.Dot, refl)
class_example s.Qualifier = (t.Const, refl)
class_example s.PointerQualifier = (t.Const, refl)
class_example (s.Whole true) = (t.Vector 32 true 4, refl)
class_example (s.Whole false) = (t.Void, refl)
class_example s.Sign = (t.Signed, refl)
class_example s.LoneWidth = (t.Int, refl)
class_example s.LongWidth = (t.Long, refl)
class_example s.Suffix = (t.Dot, refl)
class_example s.Called = (t.OpenParen, refl)
class_example s.Asked = (t.Question, refl)
class_example s.Listed = (t.Comma, refl)
class_example s.Pointing = (t.Star, refl)
class_example s.Braced = (t.OpenBrace, refl)
class_example s.Bracketed = (t.OpenBracket, refl)
class_example s.TypeWord = (t.Void, refl)

one_made : (y : Sym) → has_some y ≡ true → (u : List Lexeme) × Is y u
one_made (Mark terminal) h = (sample terminal ∷ [], record { token = sample terminal; stands = refl; alone = refl })
one_made (Of class) h = let a = class_example class in (sample a.0 ∷ [], record { token = sample a.0; stands = a.1; alone = refl })
one_made (E y) h = let e = example y h in (e.tokens, e.is)
one_made (S y) h = let e = stmt_example y in (e.tokens, e.is)
one_made (D y) h = let e = decl_example y in (e.tokens, e.is)

pub made : (todo : List Sym) → have_some todo ≡ true → (rest : List Lexeme) × Are todo rest
made [] h = ([], refl)
made (y ∷ ys) h =
    let a = one_made y (and_first (has_some y) (have_some ys) h) in
    let b = made ys (and_second (has_some y) (have_some ys) h) in
    (a.0 ++ b.0, (a.0, b.0, a.1, b.1, refl))
