-- What the steps of the reading of words before a function say.
use Rattle.std.specs.Prelude.{◌≡◌, ℕ, ◌<◌, Bool, true, false, ◌&&◌, List, [], ◌∷◌, ◌++◌}
use Rattle.std.specs.Global.{Vec}
use Rattle.cl_ast.specs.declared.expression.Expr.{Expr}
use Rattle.cl_ast.specs.declared.declaration.FWord.{FWord}
use Rattle.cl_ast.specs.declared.declaration.FWord.TheVariants as fword
use Rattle.cl_grammar.specs.declared.lexeme.Lexeme.{Lexeme}
use Rattle.cl_grammar.specs.declared.stop.ExprStop.{ExprStop}
use Rattle.cl_grammar.specs.declared.terminal.Terminal.{Terminal}
use Rattle.cl_grammar.specs.declared.terminal.Terminal.TheVariants as t
use Rattle.cl_grammar.specs.Expressions.{IsA}
use Rattle.cl_grammar.specs.ExpressionTrees.{AssignTrees}
use Rattle.cl_grammar.specs.Statements.{IsHint, IsWord, MayBeStatic, is_vector_hint, is_required_size, is_size_name}
use Rattle.cl_grammar.specs.StatementTrees.{SizeOf, WordTree}
use Rattle.cl_grammar.specs.Symbols.{Mark, D}
use Rattle.cl_grammar.specs.DeclarationSymbols.{Words, Word, InAttribute, BehindSize}
use Rattle.cl_grammar.specs.Items.{between, StandsAt, IsAt, GoesOn, ReadAt, RefusedAt}
use Rattle.cl_parse.specs.declared.word.AttributeName.{AttributeName}
use Rattle.cl_parse.specs.declared.word.AttributeName.TheVariants as name

-- the terminals that begin a word
abbrev pub is_word : Terminal → Bool
is_word t.Kernel = true
is_word t.Inline = true
is_word t.Static = true
is_word t.Attribute = true
is_word _ = false

abbrev pub is_static : FWord → Bool
is_static fword.Static = true
is_static _ = false

-- A word begins there, or none does.
pub record BeginsWord (ts : List Lexeme) (at : ℕ) : Type 0 where
  pub terminal : Terminal
  pub stands : IsAt ts at terminal
  pub is : is_word terminal ≡ true

pub record NoWordAt (ts : List Lexeme) (at : ℕ) : Type 0 where
  pub terminal : Terminal
  pub stands : IsAt ts at terminal
  pub none : is_word terminal ≡ false

-- The name of an attribute stands there: that of a hint of a vector, whatever its terminal, or that of a size.
pub record VectorNameAt (ts : List Lexeme) (at : ℕ) : Type 0 where
  pub token : Lexeme
  pub stands : StandsAt ts at token
  pub is : is_vector_hint token.text ≡ true

pub record SizeNameAt (ts : List Lexeme) (at : ℕ) (required : Bool) : Type 0 where
  pub token : Lexeme
  pub stands : StandsAt ts at token
  pub other : is_vector_hint token.text ≡ false
  pub name : IsA t.Name token
  pub is : is_size_name token.text ≡ true
  pub means : is_required_size token.text ≡ required

-- None stands there.
pub record NoNameAt (ts : List Lexeme) (at : ℕ) : Type 0 where
  pub token : Lexeme
  pub stands : StandsAt ts at token
  pub other : is_vector_hint token.text ≡ false
  pub none : IsA t.Name token → is_size_name token.text ≡ true → ⊥

abbrev pub NameAt : AttributeName → List Lexeme → ℕ → Type 0
NameAt name.VectorHint ts at = VectorNameAt ts at
NameAt name.Required ts at = SizeNameAt ts at true
NameAt name.SizeHint ts at = SizeNameAt ts at false
NameAt name.Unknown ts at = NoNameAt ts at

pub record NamedAt (ts : List Lexeme) (at : ℕ) (n : AttributeName) : Type 0 where
  pub is : NameAt n ts at

-- ["(" args ")"]
pub data ArgumentsTree : List Lexeme → List Expr → Type 0 where
  none : ArgumentsTree [] []
  given : (q c : Lexeme) (u : List Lexeme) (es : List Expr) → IsA t.OpenParen q → AssignTrees u es → IsA t.CloseParen c → ArgumentsTree (q ∷ (u ++ c ∷ [])) es

-- the same and ")" ")"
pub data SizeTree : List Lexeme → List Expr → Type 0 where
  behind : (d e : Lexeme) (u : List Lexeme) (es : List Expr) → ArgumentsTree u es → IsA t.CloseParen d → IsA t.CloseParen e → SizeTree (u ++ d ∷ e ∷ []) es

-- what stands behind `__attribute__((`
pub data InAttributeTree : List Lexeme → FWord → Type 0 where
  vector : (n q c d e : Lexeme) (u : List Lexeme) → is_vector_hint n.text ≡ true → IsA t.OpenParen q → IsHint u → IsA t.CloseParen c → IsA t.CloseParen d → IsA t.CloseParen e → InAttributeTree (n ∷ q ∷ (u ++ c ∷ d ∷ e ∷ [])) fword.Hint
  size : (n : Lexeme) (u : List Lexeme) (f : FWord) (args : Vec Expr) → IsA t.Name n → SizeOf n args f → SizeTree u args.items → InAttributeTree (n ∷ u) f

-- The arguments of a size were read, of which there may be none.
pub record ArgumentsAt (ts : List Lexeme) (at next : ℕ) (es : List Expr) : Type 0 where
  pub reads : GoesOn (D BehindSize) (Mark t.CloseParen ∷ Mark t.CloseParen ∷ []) ts at next
  pub tree : ArgumentsTree (between ts at next) es

pub record SizeAt (ts : List Lexeme) (at next : ℕ) (es : List Expr) : Type 0 where
  pub read : ReadAt (D BehindSize) ts at next
  pub tree : SizeTree (between ts at next) es

pub record InAttributeAt (ts : List Lexeme) (at next : ℕ) (word : FWord) : Type 0 where
  pub forth : at < next
  pub read : ReadAt (D InAttribute) ts at next
  pub tree : InAttributeTree (between ts at next) word

-- A word but `static` stands from one index to another.
pub record OtherWordAt (ts : List Lexeme) (at next : ℕ) (word : FWord) : Type 0 where
  pub forth : at < next
  pub read : ReadAt (D Word) ts at next
  pub tree : WordTree (between ts at next) word
  pub other : is_static word ≡ false

-- A word stands from one index to another. Behind it variables may stand only where it is a `static` before which no word stands.
pub record WordAt (ts : List Lexeme) (at next : ℕ) (word : FWord) : Type 0 where
  pub forth : at < next
  pub reads : (lone variables : Bool) → GoesOn (D (Words lone variables)) (D (Words false (lone && is_static word)) ∷ []) ts at next
  pub is : IsWord (between ts at next)
  pub tree : WordTree (between ts at next) word
  pub few : is_static word ≡ true → MayBeStatic (between ts at next)

-- The word that begins there is refused, whatever stands before it, or memory ran out.
pub record WordRefusedAt (ts : List Lexeme) (at : ℕ) (stop : ExprStop) : Type 0 where
  pub refused : (lone variables : Bool) → RefusedAt (D (Words lone variables)) ts at stop
