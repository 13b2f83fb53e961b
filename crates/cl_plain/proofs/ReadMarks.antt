-- What a reader tells of a token, and what tokens are not that may stand behind something.
use Rattle.std.proofs.Common.{◌≡◌, ℕ, Bool, true, false, List, [], ◌∷◌, ◌++◌, Option, Some, None, refl}
use Rattle.cl_types.specs.declared.operator.UnOp.{UnOp}
use Rattle.cl_types.specs.declared.operator.UnOp.TheVariants as un
use Rattle.cl_types.specs.declared.operator.BinOp.{BinOp}
use Rattle.cl_ast.specs.declared.expression.Qual.{Qual}
use Rattle.cl_ast.specs.declared.expression.Base.{Base}
use Rattle.cl_ast.specs.declared.expression.Base.TheVariants as base
use Rattle.cl_grammar.specs.declared.lexeme.Lexeme.{Lexeme}
use Rattle.cl_grammar.specs.declared.terminal.Terminal.{Terminal}
use Rattle.cl_grammar.specs.declared.terminal.Terminal.TheVariants as t
use Rattle.cl_grammar.specs.Terminals.{qualifier_of, pointer_qualifier_of, whole_type, sign_of, width_of, takes_int, prefix_of, increment_before, increment_behind, arrow_of, binary_of, assignment_of}
use Rattle.cl_grammar.specs.Expressions.{is_open}
use Rattle.cl_grammar.specs.ExpressionTrees.{type_of_word}
use Rattle.cl_plain.proofs.Reading.{first_is, is_end, is_close, is_spec_end, is_star_end, is_declor_end, begins_type}

-- ---- marks

abbrev pub is_close_paren : Terminal → Bool
is_close_paren t.CloseParen = true
is_close_paren _ = false

abbrev pub is_open_bracket : Terminal → Bool
is_open_bracket t.OpenBracket = true
is_open_bracket _ = false

abbrev pub is_close_bracket : Terminal → Bool
is_close_bracket t.CloseBracket = true
is_close_bracket _ = false

abbrev pub is_open_brace : Terminal → Bool
is_open_brace t.OpenBrace = true
is_open_brace _ = false

abbrev pub is_close_brace : Terminal → Bool
is_close_brace t.CloseBrace = true
is_close_brace _ = false

abbrev pub is_comma : Terminal → Bool
is_comma t.Comma = true
is_comma _ = false

abbrev pub is_semicolon : Terminal → Bool
is_semicolon t.Semicolon = true
is_semicolon _ = false

abbrev pub is_colon : Terminal → Bool
is_colon t.Colon = true
is_colon _ = false

abbrev pub is_question : Terminal → Bool
is_question t.Question = true
is_question _ = false

abbrev pub is_star : Terminal → Bool
is_star t.Star = true
is_star _ = false

abbrev pub is_int : Terminal → Bool
is_int t.Int = true
is_int _ = false

-- ---- what begins something

-- a base without its qualifiers
pub data BaseStart : Type 0 where
  whole : Base → BaseStart
  sign : Bool → BaseStart
  width : ℕ → Bool → BaseStart
  structs : BaseStart
  no_base : BaseStart

abbrev pub base_start : Lexeme → Terminal → BaseStart
base_start l t.Void = whole base.Void
base_start l t.Bool = whole base.Bool
base_start l (t.UnsignedInt bits) = whole (base.Int bits false)
base_start l (t.Vector bits signed n) = whole (base.Vector bits signed n)
base_start l (t.Sized signed) = whole (base.Sized signed)
base_start l (t.TypeName vector) = whole (base.Named l.text l.place)
base_start l t.Signed = sign true
base_start l t.Unsigned = sign false
base_start l t.Char = width 8 false
base_start l t.Short = width 16 true
base_start l t.Int = width 32 false
base_start l t.Long = width 64 true
base_start l t.Struct = structs
base_start l _ = no_base

-- an operand with the operators before it
pub data Start : Type 0 where
  increments : UnOp → Start
  prefixes : UnOp → Start
  sizes : Start
  primary : Start

abbrev pub start_of : Terminal → Start
start_of t.Increment = increments un.PreInc
start_of t.Decrement = increments un.PreDec
start_of t.Plus = prefixes un.Plus
start_of t.Minus = prefixes un.Minus
start_of t.Tilde = prefixes un.Not
start_of t.Exclamation = prefixes un.LogicalNot
start_of t.Star = prefixes un.Deref
start_of t.Ampersand = prefixes un.Address
start_of t.Sizeof = sizes
start_of _ = primary

pub data Primary : Type 0 where
  name : Primary
  number : ℕ → ℕ → Primary
  opens : Primary
  nothing : Primary

abbrev pub primary_of : Terminal → Primary
primary_of t.Name = name
primary_of (t.Number value ty) = number value ty
primary_of t.OpenParen = opens
primary_of _ = nothing

pub data Suffix : Type 0 where
  index : Suffix
  member : Bool → Suffix
  steps : UnOp → Suffix
  no_suffix : Suffix

abbrev pub suffix_of : Terminal → Suffix
suffix_of t.OpenBracket = index
suffix_of t.Dot = member false
suffix_of t.Arrow = member true
suffix_of t.Increment = steps un.PostInc
suffix_of t.Decrement = steps un.PostDec
suffix_of _ = no_suffix

-- what an operand begins with that has no operator before it
abbrev pub begins_primary : Terminal → Bool
begins_primary t.Name = true
begins_primary (t.Number value ty) = true
begins_primary t.OpenParen = true
begins_primary _ = false

-- what an expression begins with
abbrev pub begins_expr : Terminal → Bool
begins_expr t.Name = true
begins_expr (t.Number value ty) = true
begins_expr t.OpenParen = true
begins_expr t.Sizeof = true
begins_expr t.Increment = true
begins_expr t.Decrement = true
begins_expr t.Plus = true
begins_expr t.Minus = true
begins_expr t.Tilde = true
begins_expr t.Exclamation = true
begins_expr t.Star = true
begins_expr t.Ampersand = true
begins_expr _ = false

-- what the words of a type begin with behind the qualifiers before them
abbrev pub begins_base : Terminal → Bool
begins_base (t.TypeName vector) = true
begins_base t.Void = true
begins_base t.Bool = true
begins_base t.Signed = true
begins_base t.Unsigned = true
begins_base t.Char = true
begins_base t.Short = true
begins_base t.Int = true
begins_base t.Long = true
begins_base (t.UnsignedInt bits) = true
begins_base (t.Vector bits signed n) = true
begins_base (t.Sized signed) = true
begins_base t.Struct = true
begins_base _ = false

-- ---- what stands behind something

-- behind a row of operands
abbrev pub ends_row : Terminal → Bool
ends_row t.CloseParen = true
ends_row t.CloseBracket = true
ends_row t.CloseBrace = true
ends_row t.Comma = true
ends_row t.Semicolon = true
ends_row t.Colon = true
ends_row t.Question = true
ends_row _ = false

-- behind an operand
abbrev pub ends_operand : Terminal → Bool
ends_operand t.CloseParen = true
ends_operand t.CloseBracket = true
ends_operand t.CloseBrace = true
ends_operand t.Comma = true
ends_operand t.Semicolon = true
ends_operand t.Colon = true
ends_operand t.Question = true
ends_operand t.Star = true
ends_operand t.Plus = true
ends_operand t.Minus = true
ends_operand t.Ampersand = true
ends_operand (t.Infix op) = true
ends_operand t.Equals = true
ends_operand (t.Compound op) = true
ends_operand _ = false

-- ---- terminals

pub binary_ends : (op : BinOp) (k : Terminal) → binary_of k ≡ Some op → ends_operand k ≡ true
binary_ends op t.End e = cc
binary_ends op _ e = cc

pub assignment_ends : (op : Option BinOp) (k : Terminal) → assignment_of k ≡ Some op → ends_operand k ≡ true
assignment_ends op t.End e = cc
assignment_ends op _ e = cc

end_ends_row : (k : Terminal) → is_end k ≡ true → ends_row k ≡ true
end_ends_row t.End e = cc
end_ends_row _ e = cc

row_ends_operand : (k : Terminal) → ends_row k ≡ true → ends_operand k ≡ true
row_ends_operand t.End e = cc
row_ends_operand _ e = cc

row_no_binary : (k : Terminal) → ends_row k ≡ true → binary_of k ≡ None
row_no_binary t.End e = cc
row_no_binary _ e = cc

row_no_assignment : (k : Terminal) → ends_row k ≡ true → assignment_of k ≡ None
row_no_assignment t.End e = cc
row_no_assignment _ e = cc

pub binary_no_assignment : (op : BinOp) (k : Terminal) → binary_of k ≡ Some op → assignment_of k ≡ None
binary_no_assignment op t.End e = cc
binary_no_assignment op _ e = cc

end_no_question : (k : Terminal) → is_end k ≡ true → is_question k ≡ false
end_no_question t.End e = cc
end_no_question _ e = cc

pub operand_no_suffix : (k : Terminal) → ends_operand k ≡ true → suffix_of k ≡ no_suffix
operand_no_suffix t.End e = cc
operand_no_suffix _ e = cc

operand_no_open : (k : Terminal) → ends_operand k ≡ true → is_open k ≡ false
operand_no_open t.End e = cc
operand_no_open _ e = cc

close_ends : (k : Terminal) → is_close k ≡ true → is_end k ≡ true
close_ends t.End e = cc
close_ends _ e = cc

close_no_comma : (k : Terminal) → is_close k ≡ true → is_comma k ≡ false
close_no_comma t.End e = cc
close_no_comma _ e = cc

pub close_no_qualifier : (k : Terminal) → is_close_paren k ≡ true → qualifier_of k ≡ None
close_no_qualifier t.End e = cc
close_no_qualifier _ e = cc

pub close_no_star : (k : Terminal) → is_close_paren k ≡ true → is_star k ≡ false
close_no_star t.End e = cc
close_no_star _ e = cc

spec_no_qualifier : (k : Terminal) → is_spec_end k ≡ true → qualifier_of k ≡ None
spec_no_qualifier t.End e = cc
spec_no_qualifier _ e = cc

spec_no_width : (k : Terminal) → is_spec_end k ≡ true → width_of k ≡ None
spec_no_width t.End e = cc
spec_no_width _ e = cc

spec_no_int : (k : Terminal) → is_spec_end k ≡ true → is_int k ≡ false
spec_no_int t.End e = cc
spec_no_int _ e = cc

spec_no_brace : (k : Terminal) → is_spec_end k ≡ true → is_open_brace k ≡ false
spec_no_brace t.End e = cc
spec_no_brace _ e = cc

pub qualifier_no_width : (q : Qual) (k : Terminal) → qualifier_of k ≡ Some q → width_of k ≡ None
qualifier_no_width q t.End e = cc
qualifier_no_width q _ e = cc

pub qualifier_no_int : (q : Qual) (k : Terminal) → qualifier_of k ≡ Some q → is_int k ≡ false
qualifier_no_int q t.End e = cc
qualifier_no_int q _ e = cc

pub qualifier_no_brace : (q : Qual) (k : Terminal) → qualifier_of k ≡ Some q → is_open_brace k ≡ false
qualifier_no_brace q t.End e = cc
qualifier_no_brace q _ e = cc

pub qualifier_begins : (q : Qual) (k : Terminal) → qualifier_of k ≡ Some q → begins_type k ≡ true
qualifier_begins q t.End e = cc
qualifier_begins q _ e = cc

star_no_qualifier : (k : Terminal) → is_star_end k ≡ true → pointer_qualifier_of k ≡ None
star_no_qualifier t.End e = cc
star_no_qualifier _ e = cc

star_no_star : (k : Terminal) → is_star_end k ≡ true → is_star k ≡ false
star_no_star t.End e = cc
star_no_star _ e = cc

star_ends_spec : (k : Terminal) → is_star_end k ≡ true → is_spec_end k ≡ true
star_ends_spec t.End e = cc
star_ends_spec _ e = cc

declor_no_bracket : (k : Terminal) → is_declor_end k ≡ true → is_open_bracket k ≡ false
declor_no_bracket t.End e = cc
declor_no_bracket _ e = cc

base_begins : (k : Terminal) → begins_base k ≡ true → begins_type k ≡ true
base_begins t.End e = cc
base_begins _ e = cc

base_no_qualifier : (k : Terminal) → begins_base k ≡ true → qualifier_of k ≡ None
base_no_qualifier t.End e = cc
base_no_qualifier _ e = cc

type_no_brace : (k : Terminal) → begins_type k ≡ true → is_close_brace k ≡ false
type_no_brace t.End e = cc
type_no_brace _ e = cc

expr_no_type : (k : Terminal) → begins_expr k ≡ true → begins_type k ≡ false
expr_no_type t.End e = cc
expr_no_type _ e = cc

expr_no_close_paren : (k : Terminal) → begins_expr k ≡ true → is_close_paren k ≡ false
expr_no_close_paren t.End e = cc
expr_no_close_paren _ e = cc

expr_no_close_bracket : (k : Terminal) → begins_expr k ≡ true → is_close_bracket k ≡ false
expr_no_close_bracket t.End e = cc
expr_no_close_bracket _ e = cc

pub whole_is : (l : Lexeme) (b : Base) (k : Terminal) → type_of_word l k ≡ Some b → base_start l k ≡ whole b
whole_is l b t.End e = cc
whole_is l b _ e = cc

pub whole_begins : (l : Lexeme) (b : Base) (k : Terminal) → type_of_word l k ≡ Some b → begins_base k ≡ true
whole_begins l b t.End e = cc
whole_begins l b _ e = cc

pub whole_type_begins : (vector : Bool) (k : Terminal) → whole_type k ≡ Some vector → begins_base k ≡ true
whole_type_begins vector t.End e = cc
whole_type_begins vector _ e = cc

pub sign_is : (l : Lexeme) (signed : Bool) (k : Terminal) → sign_of k ≡ Some signed → base_start l k ≡ sign signed
sign_is l signed t.End e = cc
sign_is l signed _ e = cc

pub sign_begins : (signed : Bool) (k : Terminal) → sign_of k ≡ Some signed → begins_base k ≡ true
sign_begins signed t.End e = cc
sign_begins signed _ e = cc

pub sign_not_whole : (signed : Bool) (k : Terminal) → sign_of k ≡ Some signed → whole_type k ≡ None
sign_not_whole signed t.End e = cc
sign_not_whole signed _ e = cc

pub width_is : (l : Lexeme) (bits : ℕ) (k : Terminal) → width_of k ≡ Some bits → base_start l k ≡ width bits (takes_int k)
width_is l bits t.End e = cc
width_is l bits _ e = cc

pub width_begins : (bits : ℕ) (k : Terminal) → width_of k ≡ Some bits → begins_base k ≡ true
width_begins bits t.End e = cc
width_begins bits _ e = cc

pub width_not_whole : (bits : ℕ) (k : Terminal) → width_of k ≡ Some bits → whole_type k ≡ None
width_not_whole bits t.End e = cc
width_not_whole bits _ e = cc

pub takes_int_begins : (k : Terminal) → takes_int k ≡ true → begins_base k ≡ true
takes_int_begins t.End e = cc
takes_int_begins _ e = cc

pub takes_int_not_whole : (k : Terminal) → takes_int k ≡ true → whole_type k ≡ None
takes_int_not_whole t.End e = cc
takes_int_not_whole _ e = cc

pub increment_is : (op : UnOp) (k : Terminal) → increment_before k ≡ Some op → start_of k ≡ increments op
increment_is op t.End e = cc
increment_is op _ e = cc

pub increment_begins : (op : UnOp) (k : Terminal) → increment_before k ≡ Some op → begins_expr k ≡ true
increment_begins op t.End e = cc
increment_begins op _ e = cc

pub increment_no_open : (op : UnOp) (k : Terminal) → increment_before k ≡ Some op → is_open k ≡ false
increment_no_open op t.End e = cc
increment_no_open op _ e = cc

pub prefix_is : (op : UnOp) (k : Terminal) → prefix_of k ≡ Some op → start_of k ≡ prefixes op
prefix_is op t.End e = cc
prefix_is op _ e = cc

pub prefix_begins : (op : UnOp) (k : Terminal) → prefix_of k ≡ Some op → begins_expr k ≡ true
prefix_begins op t.End e = cc
prefix_begins op _ e = cc

pub prefix_no_open : (op : UnOp) (k : Terminal) → prefix_of k ≡ Some op → is_open k ≡ false
prefix_no_open op t.End e = cc
prefix_no_open op _ e = cc

pub primary_starts : (k : Terminal) → begins_primary k ≡ true → start_of k ≡ primary
primary_starts t.End e = cc
primary_starts _ e = cc

pub semicolon_ends_declor : (k : Terminal) → is_semicolon k ≡ true → is_declor_end k ≡ true
semicolon_ends_declor t.End e = cc
semicolon_ends_declor _ e = cc

pub semicolon_no_comma : (k : Terminal) → is_semicolon k ≡ true → is_comma k ≡ false
semicolon_no_comma t.End e = cc
semicolon_no_comma _ e = cc

pub arrow_is : (arrow : Bool) (k : Terminal) → arrow_of k ≡ Some arrow → suffix_of k ≡ member arrow
arrow_is arrow t.End e = cc
arrow_is arrow _ e = cc

pub arrow_no_open : (arrow : Bool) (k : Terminal) → arrow_of k ≡ Some arrow → is_open k ≡ false
arrow_no_open arrow t.End e = cc
arrow_no_open arrow _ e = cc

pub step_is : (op : UnOp) (k : Terminal) → increment_behind k ≡ Some op → suffix_of k ≡ steps op
step_is op t.End e = cc
step_is op _ e = cc

pub step_no_open : (op : UnOp) (k : Terminal) → increment_behind k ≡ Some op → is_open k ≡ false
step_no_open op t.End e = cc
step_no_open op _ e = cc

-- ---- the first of some tokens

abbrev pub first : {A : Type 0} → (Terminal → Option A) → List Lexeme → Option A
first f [] = None
first f (l ∷ ls) = f l.terminal

abbrev pub first_suffix : List Lexeme → Suffix
first_suffix [] = no_suffix
first_suffix (l ∷ ls) = suffix_of l.terminal

pub first_implies : (p q : Terminal → Bool) → ((k : Terminal) → p k ≡ true → q k ≡ true) → (r : List Lexeme) → first_is p r ≡ true → first_is q r ≡ true
first_implies p q f [] h = cc
first_implies p q f (l ∷ ls) h = f l.terminal h

pub first_excludes : (p q : Terminal → Bool) → ((k : Terminal) → p k ≡ true → q k ≡ false) → (r : List Lexeme) → first_is p r ≡ true → first_is q r ≡ false
first_excludes p q f [] h = refl
first_excludes p q f (l ∷ ls) h = f l.terminal h

pub first_none : {A : Type 0} (p : Terminal → Bool) (q : Terminal → Option A) → ((k : Terminal) → p k ≡ true → q k ≡ None) → (r : List Lexeme) → first_is p r ≡ true → first q r ≡ None
first_none p q f [] h = refl
first_none p q f (l ∷ ls) h = f l.terminal h

-- tokens begin as their first part does
pub first_more : (p : Terminal → Bool) (u r : List Lexeme) → first_is p u ≡ true → first_is p (u ++ r) ≡ true
first_more p [] r h = cc
first_more p (l ∷ ls) r h = h

pub row_behind : (r : List Lexeme) → first_is is_end r ≡ true → first_is ends_row r ≡ true
row_behind = first_implies is_end ends_row end_ends_row

pub operand_behind : (r : List Lexeme) → first_is ends_row r ≡ true → first_is ends_operand r ≡ true
operand_behind = first_implies ends_row ends_operand row_ends_operand

pub no_binary : (r : List Lexeme) → first_is ends_row r ≡ true → first binary_of r ≡ None
no_binary = first_none ends_row binary_of row_no_binary

pub no_assignment : (r : List Lexeme) → first_is ends_row r ≡ true → first assignment_of r ≡ None
no_assignment = first_none ends_row assignment_of row_no_assignment

pub no_question : (r : List Lexeme) → first_is is_end r ≡ true → first_is is_question r ≡ false
no_question = first_excludes is_end is_question end_no_question

pub no_open : (r : List Lexeme) → first_is ends_operand r ≡ true → first_is is_open r ≡ false
no_open = first_excludes ends_operand is_open operand_no_open

pub end_behind : (r : List Lexeme) → first_is is_close r ≡ true → first_is is_end r ≡ true
end_behind = first_implies is_close is_end close_ends

pub no_comma : (r : List Lexeme) → first_is is_close r ≡ true → first_is is_comma r ≡ false
no_comma = first_excludes is_close is_comma close_no_comma

pub no_qualifier : (r : List Lexeme) → first_is is_spec_end r ≡ true → first qualifier_of r ≡ None
no_qualifier = first_none is_spec_end qualifier_of spec_no_qualifier

pub no_width : (r : List Lexeme) → first_is is_spec_end r ≡ true → first width_of r ≡ None
no_width = first_none is_spec_end width_of spec_no_width

pub no_int : (r : List Lexeme) → first_is is_spec_end r ≡ true → first_is is_int r ≡ false
no_int = first_excludes is_spec_end is_int spec_no_int

pub no_brace : (r : List Lexeme) → first_is is_spec_end r ≡ true → first_is is_open_brace r ≡ false
no_brace = first_excludes is_spec_end is_open_brace spec_no_brace

pub no_pointer_qualifier : (r : List Lexeme) → first_is is_star_end r ≡ true → first pointer_qualifier_of r ≡ None
no_pointer_qualifier = first_none is_star_end pointer_qualifier_of star_no_qualifier

pub no_star : (r : List Lexeme) → first_is is_star_end r ≡ true → first_is is_star r ≡ false
no_star = first_excludes is_star_end is_star star_no_star

pub spec_behind : (r : List Lexeme) → first_is is_star_end r ≡ true → first_is is_spec_end r ≡ true
spec_behind = first_implies is_star_end is_spec_end star_ends_spec

pub no_bracket : (r : List Lexeme) → first_is is_declor_end r ≡ true → first_is is_open_bracket r ≡ false
no_bracket = first_excludes is_declor_end is_open_bracket declor_no_bracket

pub begins_so : (r : List Lexeme) → first_is begins_base r ≡ true → first_is begins_type r ≡ true
begins_so = first_implies begins_base begins_type base_begins

pub no_qualifier_before : (r : List Lexeme) → first_is begins_base r ≡ true → first qualifier_of r ≡ None
no_qualifier_before = first_none begins_base qualifier_of base_no_qualifier

pub no_member : (r : List Lexeme) → first_is begins_type r ≡ true → first_is is_close_brace r ≡ false
no_member = first_excludes begins_type is_close_brace type_no_brace

pub is_no_type : (r : List Lexeme) → first_is begins_expr r ≡ true → first_is begins_type r ≡ false
is_no_type = first_excludes begins_expr begins_type expr_no_type

pub no_close_paren : (r : List Lexeme) → first_is begins_expr r ≡ true → first_is is_close_paren r ≡ false
no_close_paren = first_excludes begins_expr is_close_paren expr_no_close_paren

pub no_close_bracket : (r : List Lexeme) → first_is begins_expr r ≡ true → first_is is_close_bracket r ≡ false
no_close_bracket = first_excludes begins_expr is_close_bracket expr_no_close_bracket

pub no_suffix_behind : (r : List Lexeme) → first_is ends_operand r ≡ true → first_suffix r ≡ no_suffix
no_suffix_behind [] h = refl
no_suffix_behind (l ∷ ls) h = operand_no_suffix l.terminal h
