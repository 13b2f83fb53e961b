-- The symbols of the grammar, and the tokens that they stand for.
use Rattle.std.specs.Prelude.{◌≡◌, ℕ, zero, Bool, true, false, ◌&&◌, ◌||◌, Option, Some, None, List, [], ◌∷◌, ◌++◌}
use Rattle.cl_grammar.specs.declared.lexeme.Lexeme.{Lexeme}
use Rattle.cl_grammar.specs.declared.terminal.Terminal.{Terminal}
use Rattle.cl_grammar.specs.declared.terminal.Terminal.TheVariants as t
use Rattle.cl_grammar.specs.Terminals.{qualifier_of, pointer_qualifier_of, whole_type, sign_of, takes_int, prefix_of, increment_before, increment_behind, arrow_of, binary_of, assignment_of}
use Rattle.cl_grammar.specs.Expressions.{AreQualifiers, ArePointerQualifiers, IsStar, MayBeStar, IsWidth, IsInteger, IsSpec, IsBase, IsDeclor, AreLengths, IsTypeTerm, AreAssigns, IsAssign, IsCond, IsBin, IsCast, IsUnary, IsPostfix, AreSuffixes, IsPrimary}
use Rattle.cl_grammar.specs.Parts.{IsMoreAssigns, IsRow, IsChoice, IsBehindCast, IsBehindUnary, IsPlainCast, IsClosedCast, IsBehindVector, IsVectorCast, IsCasted, IsCastedAssign, IsUnaryAssign, IsTypeInBrackets, IsSized, IsArguments, MayBeCall, IsAnySpec, IsAnyType, MayBeWidth, MayBeInt, IsBody, MayBeBody, IsBehindStruct, IsMembersWithin, MayBeMembersWithin, IsBehindName, IsNamesWithin, IsLength}
use Rattle.cl_grammar.specs.DeclarationSymbols.{DeclSym, SizeName, is_decl, decl_continues}
use Rattle.cl_grammar.specs.StatementSymbols.{StmtSym, Clause, is_stmt, stmt_continues}

-- terminals that stand in the same places
pub data Class : Type 0 where
  Number : Class
  Binary : Class
  Assignment : Class
  Prefix : Class
  BeforeIncrement : Class
  BehindIncrement : Class
  OfMember : Class
  Qualifier : Class
  PointerQualifier : Class
  Whole : Bool → Class
  Sign : Class
  LoneWidth : Class
  LongWidth : Class
  -- what goes on after parts of expressions and types
  Suffix : Class
  Called : Class
  Asked : Class
  Listed : Class
  Pointing : Class
  Braced : Class
  Bracketed : Class
  TypeWord : Class

abbrev pub is_some : {A : Type 0} → Option A → Bool
is_some None = false
is_some (Some a) = true

abbrev pub is_whole : Bool → Option Bool → Bool
is_whole true (Some true) = true
is_whole false (Some false) = true
is_whole _ _ = false

abbrev pub is_number : Terminal → Bool
is_number (t.Number value ty) = true
is_number _ = false

-- "char" | "int"
abbrev pub is_lone : Terminal → Bool
is_lone t.Char = true
is_lone t.Int = true
is_lone _ = false

abbrev pub is_suffix : Terminal → Bool
is_suffix t.OpenParen = true
is_suffix t.OpenBracket = true
is_suffix t.Dot = true
is_suffix t.Arrow = true
is_suffix t.Increment = true
is_suffix t.Decrement = true
is_suffix _ = false

abbrev pub is_called : Terminal → Bool
is_called t.OpenParen = true
is_called _ = false

abbrev pub is_asked : Terminal → Bool
is_asked t.Question = true
is_asked _ = false

abbrev pub is_listed : Terminal → Bool
is_listed t.Comma = true
is_listed _ = false

abbrev pub is_pointing : Terminal → Bool
is_pointing t.Star = true
is_pointing _ = false

abbrev pub is_braced : Terminal → Bool
is_braced t.OpenBrace = true
is_braced _ = false

abbrev pub is_bracketed : Terminal → Bool
is_bracketed t.OpenBracket = true
is_bracketed _ = false

-- the words that begin a type
abbrev pub is_type_word : Terminal → Bool
is_type_word t.Const = true
is_type_word t.Volatile = true
is_type_word (t.Space space) = true
is_type_word t.Void = true
is_type_word t.Bool = true
is_type_word t.Signed = true
is_type_word t.Unsigned = true
is_type_word t.Char = true
is_type_word t.Short = true
is_type_word t.Int = true
is_type_word t.Long = true
is_type_word (t.UnsignedInt bits) = true
is_type_word (t.Vector bits signed n) = true
is_type_word (t.Sized signed) = true
is_type_word (t.TypeName vector) = true
is_type_word t.Struct = true
is_type_word _ = false

abbrev pub belongs : Class → Terminal → Bool
belongs Number t = is_number t
belongs Binary t = is_some (binary_of t)
belongs Assignment t = is_some (assignment_of t)
belongs Prefix t = is_some (prefix_of t)
belongs BeforeIncrement t = is_some (increment_before t)
belongs BehindIncrement t = is_some (increment_behind t)
belongs OfMember t = is_some (arrow_of t)
belongs Qualifier t = is_some (qualifier_of t)
belongs PointerQualifier t = is_some (pointer_qualifier_of t)
belongs (Whole vector) t = is_whole vector (whole_type t)
belongs Sign t = is_some (sign_of t)
belongs LoneWidth t = is_lone t
belongs LongWidth t = takes_int t
belongs Suffix t = is_suffix t
belongs Called t = is_called t
belongs Asked t = is_asked t
belongs Listed t = is_listed t
belongs Pointing t = is_pointing t
belongs Braced t = is_braced t
belongs Bracketed t = is_bracketed t
belongs TypeWord t = is_type_word t

-- the symbols of expressions and types
pub data ExprSym : Type 0 where
  Assigns : ExprSym
  MoreAssigns : ExprSym
  Assign : ExprSym
  UnaryAssign : ExprSym
  CastedAssign : ExprSym
  BehindUnary : ExprSym
  BehindCast : ExprSym
  Cond : ExprSym
  Bin : ExprSym
  Row : ExprSym
  Choice : ExprSym
  Cast : ExprSym
  Casted : ExprSym
  PlainCast : ExprSym
  VectorCast : ExprSym
  BehindVector : ExprSym
  ClosedCast : ExprSym
  Unary : ExprSym
  Sized : ExprSym
  TypeInBrackets : ExprSym
  Postfix : ExprSym
  Suffixes : ExprSym
  Primary : ExprSym
  Call : ExprSym
  Arguments : ExprSym
  AnyType : ExprSym
  TypeTerm : Bool → ExprSym
  AnySpec : ExprSym
  Spec : Bool → ExprSym
  Qualifiers : ExprSym
  Base : Bool → ExprSym
  Integer : ExprSym
  MayWidth : ExprSym
  Width : ExprSym
  MayInt : ExprSym
  BehindStruct : ExprSym
  MayBody : ExprSym
  Body : ExprSym
  Members : ℕ → ExprSym
  MayMembers : ℕ → ExprSym
  Names : ℕ → ExprSym
  BehindName : ℕ → ExprSym
  Declor : ExprSym
  MayStar : ExprSym
  Star : ExprSym
  PointerQualifiers : ExprSym
  Lengths : ExprSym
  Length : ExprSym

-- a token, one of a class, or a part
pub data Sym : Type 0 where
  Mark : Terminal → Sym
  Of : Class → Sym
  E : ExprSym → Sym
  S : StmtSym → Sym
  D : DeclSym → Sym

-- tokens that a symbol of expressions stands for
abbrev pub IsE : ExprSym → List Lexeme → Type 0
IsE Assigns u = AreAssigns u
IsE MoreAssigns u = IsMoreAssigns u
IsE Assign u = IsAssign u
IsE UnaryAssign u = IsUnaryAssign u
IsE CastedAssign u = IsCastedAssign u
IsE BehindUnary u = IsBehindUnary u
IsE BehindCast u = IsBehindCast u
IsE Cond u = IsCond u
IsE Bin u = IsBin u
IsE Row u = IsRow u
IsE Choice u = IsChoice u
IsE Cast u = IsCast u
IsE Casted u = IsCasted u
IsE PlainCast u = IsPlainCast u
IsE VectorCast u = IsVectorCast u
IsE BehindVector u = IsBehindVector u
IsE ClosedCast u = IsClosedCast u
IsE Unary u = IsUnary u
IsE Sized u = IsSized u
IsE TypeInBrackets u = IsTypeInBrackets u
IsE Postfix u = IsPostfix u
IsE Suffixes u = AreSuffixes u
IsE Primary u = IsPrimary u
IsE Call u = MayBeCall u
IsE Arguments u = IsArguments u
IsE AnyType u = IsAnyType u
IsE (TypeTerm vector) u = IsTypeTerm vector u
IsE AnySpec u = IsAnySpec u
IsE (Spec vector) u = IsSpec vector u
IsE Qualifiers u = AreQualifiers u
IsE (Base vector) u = IsBase vector u
IsE Integer u = IsInteger u
IsE MayWidth u = MayBeWidth u
IsE Width u = IsWidth u
IsE MayInt u = MayBeInt u
IsE BehindStruct u = IsBehindStruct u
IsE MayBody u = MayBeBody u
IsE Body u = IsBody u
IsE (Members room) u = IsMembersWithin room u
IsE (MayMembers room) u = MayBeMembersWithin room u
IsE (Names room) u = IsNamesWithin room u
IsE (BehindName room) u = IsBehindName room u
IsE Declor u = IsDeclor u
IsE MayStar u = MayBeStar u
IsE Star u = IsStar u
IsE PointerQualifiers u = ArePointerQualifiers u
IsE Lengths u = AreLengths u
IsE Length u = IsLength u

-- one token that fits
pub record IsToken (terminal : Terminal) (u : List Lexeme) : Type 0 where
  pub token : Lexeme
  pub stands : token.terminal ≡ terminal
  pub alone : u ≡ token ∷ []

pub record IsOneOf (class : Class) (u : List Lexeme) : Type 0 where
  pub token : Lexeme
  pub stands : belongs class token.terminal ≡ true
  pub alone : u ≡ token ∷ []

-- tokens that a symbol stands for
abbrev pub Is : Sym → List Lexeme → Type 0
Is (Mark terminal) u = IsToken terminal u
Is (Of class) u = IsOneOf class u
Is (E x) u = IsE x u
Is (S x) u = is_stmt x u
Is (D x) u = is_decl x u

-- tokens that some symbols stand for, one after another
abbrev pub Are : List Sym → List Lexeme → Type 0
Are [] ts = ts ≡ []
Are (x ∷ xs) ts = (u v : List Lexeme) × Is x u × Are xs v × (ts ≡ u ++ v)

-- the tokens that may go on after what is such a symbol already
abbrev pub tails : ExprSym → List Class
tails Assigns = Suffix ∷ Binary ∷ Asked ∷ Assignment ∷ Listed ∷ []
tails MoreAssigns = Suffix ∷ Binary ∷ Asked ∷ Assignment ∷ Listed ∷ []
tails Assign = Suffix ∷ Binary ∷ Asked ∷ Assignment ∷ []
tails UnaryAssign = Suffix ∷ Binary ∷ Asked ∷ Assignment ∷ []
tails CastedAssign = Suffix ∷ Binary ∷ Asked ∷ []
tails BehindUnary = Suffix ∷ Binary ∷ Asked ∷ Assignment ∷ []
tails BehindCast = Suffix ∷ Binary ∷ Asked ∷ []
tails Cond = Suffix ∷ Binary ∷ Asked ∷ []
tails Bin = Suffix ∷ Binary ∷ []
tails Row = Suffix ∷ Binary ∷ []
tails Choice = Suffix ∷ Binary ∷ Asked ∷ []
tails Cast = Suffix ∷ []
tails Casted = Suffix ∷ []
tails PlainCast = Suffix ∷ []
tails VectorCast = Suffix ∷ []
tails BehindVector = Suffix ∷ []
tails ClosedCast = Suffix ∷ []
tails Unary = Suffix ∷ []
tails Sized = Suffix ∷ []
tails Postfix = Suffix ∷ []
tails Suffixes = Suffix ∷ []
tails Primary = Called ∷ []
tails Call = Called ∷ []
tails AnyType = Qualifier ∷ LoneWidth ∷ LongWidth ∷ Braced ∷ Pointing ∷ PointerQualifier ∷ []
tails (TypeTerm vector) = Qualifier ∷ LoneWidth ∷ LongWidth ∷ Braced ∷ Pointing ∷ PointerQualifier ∷ []
tails AnySpec = Qualifier ∷ LoneWidth ∷ LongWidth ∷ Braced ∷ []
tails (Spec vector) = Qualifier ∷ LoneWidth ∷ LongWidth ∷ Braced ∷ []
tails Qualifiers = Qualifier ∷ []
tails (Base vector) = LoneWidth ∷ LongWidth ∷ Braced ∷ []
tails Integer = LoneWidth ∷ LongWidth ∷ []
tails MayWidth = LoneWidth ∷ LongWidth ∷ []
tails Width = LoneWidth ∷ LongWidth ∷ []
tails MayInt = LoneWidth ∷ LongWidth ∷ []
tails BehindStruct = Braced ∷ []
tails MayBody = Braced ∷ []
tails (Members room) = TypeWord ∷ []
tails (MayMembers room) = TypeWord ∷ []
tails (Names room) = TypeWord ∷ []
tails (BehindName room) = TypeWord ∷ []
tails Declor = Bracketed ∷ []
tails MayStar = Pointing ∷ PointerQualifier ∷ []
tails Star = PointerQualifier ∷ []
tails PointerQualifiers = PointerQualifier ∷ []
tails Lengths = Bracketed ∷ []
tails Length = Bracketed ∷ []
tails _ = []

abbrev pub is_any : List Class → Terminal → Bool
is_any [] t = false
is_any (c ∷ cs) t = belongs c t || is_any cs t

abbrev pub continues : Sym → Terminal → Bool
continues (Mark terminal) t = false
continues (Of class) t = false
continues (E x) t = is_any (tails x) t
continues (S x) t = stmt_continues x t
continues (D x) t = decl_continues x t

-- terminals for which a token can be written, whatever typedefs declared
abbrev pub makes : Terminal → Bool
makes t.End = false
makes (t.TypeName vector) = false
makes t.Attribute = false
makes (t.UnsignedInt bits) = false
makes (t.Sized signed) = false
makes (t.Vector bits signed n) = false
makes (t.Space space) = false
makes (t.Infix op) = false
makes (t.Compound op) = false
makes t.Refused = false
makes t.Stray = false
makes _ = true

-- the parts that there are: none of no names
abbrev pub has_example : ExprSym → Bool
has_example (Members zero) = false
has_example (Names zero) = false
has_example _ = true

-- symbols that stand for some tokens
abbrev pub has_some : Sym → Bool
has_some (Mark terminal) = makes terminal
has_some (Of class) = true
has_some (E y) = has_example y
has_some (S (Clause terminal)) = makes terminal
has_some (S y) = true
has_some (D SizeName) = false
has_some (D y) = true

abbrev pub have_some : List Sym → Bool
have_some [] = true
have_some (y ∷ ys) = has_some y && have_some ys
