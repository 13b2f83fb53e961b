-- What the steps of the reader say of the trees that they build.
use Rattle.std.specs.Prelude.{◌≡◌, ℕ, ◌+◌, ◌-◌, ◌<◌, ◌≤◌, length, Bool, true, false, ◌&&◌, not, Option, Some, None, List, [], ◌∷◌, ◌++◌}
use Rattle.clv_place.specs.declared.place.Place.{Place}
use Rattle.cl_types.specs.declared.operator.BinOp.{BinOp}
use Rattle.cl_types.specs.declared.operator.UnOp.{UnOp}
use Rattle.cl_ast.specs.declared.expression.Qual.{Qual}
use Rattle.cl_ast.specs.declared.expression.Expr.{Expr}
use Rattle.cl_ast.specs.declared.expression.ExprNode.TheVariants as node
use Rattle.cl_ast.specs.declared.expression.Base.{Base}
use Rattle.cl_ast.specs.declared.expression.Declor.{Declor}
use Rattle.cl_ast.specs.declared.expression.Field.{Field}
use Rattle.cl_ast.specs.declared.expression.Spec.{Spec}
use Rattle.cl_grammar.specs.declared.lexeme.Lexeme.{Lexeme}
use Rattle.cl_grammar.specs.declared.stop.ExprStop.{ExprStop}
use Rattle.cl_grammar.specs.declared.stop.ExprStop.TheVariants.{NoMemory}
use Rattle.cl_grammar.specs.declared.operator.Operator.{Operator}
use Rattle.cl_grammar.specs.declared.terminal.Terminal.{Terminal}
use Rattle.cl_grammar.specs.declared.terminal.Terminal.TheVariants as t
use Rattle.cl_grammar.specs.Terminals.{whole_type, width_of, sign_of, qualifier_of}
use Rattle.cl_grammar.specs.ExpressionTrees.{Joins, IsExpr, IsTerm, IsSpec, IsField, Qualify, StarOf, AssignTree, AssignTrees, CastTree, CondTree, BinTree, SuffixTrees, SpecTree, TypeTermTree, BaseTree, DeclorTrees, DeclorTree, WidthOf, IntegerOf, type_of_word}
use Rattle.cl_grammar.specs.Items.{between, StandsAt, IsAt, OtherAt, PlaceAt, TextAt, GoesOn, ReadAt, NoneAt, RefusedAt, BarredAt}
use Rattle.cl_grammar.specs.Symbols.{is_type_word, ExprSym, E, Mark}
use Rattle.cl_grammar.specs.Symbols as sym
use Rattle.cl_parse_expr.specs.declared.grouping.Group.{Group}
use Rattle.cl_parse_expr.specs.declared.expression.Operands.{Operands}
use Rattle.cl_parse_expr.specs.declared.expression.SpecRead.{SpecRead}
use Rattle.cl_parse_expr.specs.declared.expression.Taken.{Taken}
use Rattle.cl_parse_expr.specs.declared.simple.BaseRead.{BaseRead}
use Rattle.cl_parse_expr.specs.declared.parts.Names.{Names}
use Rattle.cl_parse_expr.specs.declared.simple.Tag.{Tag}
use Rattle.cl_parse_expr.specs.declared.simple.Head.{Head}
use Rattle.cl_parse_expr.specs.declared.simple.TermRead.{TermRead}

abbrev pub is_none : Option (List Qual) → Bool
is_none None = true
is_none (Some q) = false

-- the marks that go on with an operand
abbrev pub is_suffix_mark : Terminal → Bool
is_suffix_mark t.OpenBracket = true
is_suffix_mark t.Dot = true
is_suffix_mark t.Arrow = true
is_suffix_mark t.Increment = true
is_suffix_mark t.Decrement = true
is_suffix_mark _ = false

-- an operator's group from those of its operands
abbrev pub GroupJoins : Operator → Group → Group → Group → Type 0
GroupJoins o left right whole = Joins o left.tree right.tree whole.tree

-- The words from one index to another are these qualifiers, added to others.
pub record Qualified (word : Terminal → Option Qual) (ts : List Lexeme) (at next : ℕ) (before after : List Qual) : Type 0 where
  pub added : List Qual
  pub is : after ≡ before ++ added
  pub words : Qualify word (between ts at next) added

-- Operands between commas begin at an index: a first one alone, or one with a comma and others behind it.
pub data OperandsAt (ts : List Lexeme) (at : ℕ) (o : Operands) : Type 0 where
  one : o.others.items ≡ [] → o.comma ≡ o.next → AssignTree (between ts at o.next) o.first → OperandsAt ts at o
  many : at ≤ o.comma → o.comma + 1 ≤ o.next → IsAt ts o.comma t.Comma → AssignTree (between ts at o.comma) o.first → AssignTrees (between ts (o.comma + 1) o.next) o.others.items → OperandsAt ts at o

-- The tree of operands is that of the only one, or a list at the first comma.
pub data WholeOf (ts : List Lexeme) (o : Operands) (tree : Expr) : Type 0 where
  alone : o.others.items ≡ [] → tree ≡ o.first → WholeOf ts o tree
  comma : (place : Place) → PlaceAt ts o.comma place → (o.others.items ≡ [] → ⊥) → IsExpr tree place node.Comma (o.first ∷ o.others.items) → WholeOf ts o tree

-- The tokens from one index to another stand behind a first operand, and make this tree with it.
pub record CondFrom (ts : List Lexeme) (at next : ℕ) (first whole : Expr) : Type 0 where
  pub tree : (u : List Lexeme) → CastTree u first → CondTree (u ++ between ts at next) whole

pub record BinFrom (ts : List Lexeme) (at next : ℕ) (first whole : Expr) : Type 0 where
  pub tree : (u : List Lexeme) → CastTree u first → BinTree (u ++ between ts at next) whole

-- an operator's tree over one operand, at the token of an index
pub record PrefixedAt (ts : List Lexeme) (at : ℕ) (op : UnOp) (operand whole : Expr) : Type 0 where
  pub place : Place
  pub stands : PlaceAt ts at place
  pub is : IsExpr whole place (node.Unary op) (operand ∷ [])

-- the word there is a whole type, and this is its meaning
pub record WordAt (ts : List Lexeme) (at : ℕ) (vector : Bool) (base : Base) : Type 0 where
  pub token : Lexeme
  pub stands : StandsAt ts at token
  pub whole : whole_type token.terminal ≡ Some vector
  pub means : type_of_word token token.terminal ≡ Some base

-- The word there is no whole type.
pub record NoWordAt (ts : List Lexeme) (at : ℕ) : Type 0 where
  pub token : Lexeme
  pub stands : StandsAt ts at token
  pub none : whole_type token.terminal ≡ None

-- A `(` stands there, and behind it a word that begins a type.
pub record BeginsTyped (ts : List Lexeme) (at : ℕ) : Type 0 where
  pub opens : IsAt ts at t.OpenParen
  pub second : Terminal
  pub stands : IsAt ts (at + 1) second
  pub begins : is_type_word second ≡ true

-- No `(` stands there, or no type begins behind it.
pub data BeginsUntyped (ts : List Lexeme) (at : ℕ) : Type 0 where
  other : OtherAt ts at t.OpenParen → BeginsUntyped ts at
  untyped : (second : Terminal) → IsAt ts at t.OpenParen → IsAt ts (at + 1) second → is_type_word second ≡ false → BeginsUntyped ts at

-- a word of a width stands there
pub record HasWidth (ts : List Lexeme) (at : ℕ) : Type 0 where
  pub word : Terminal
  pub bits : ℕ
  pub stands : IsAt ts at word
  pub has : width_of word ≡ Some bits

-- The words from one index to another are a width of the bits of the word there.
pub record WidthFrom (ts : List Lexeme) (at next : ℕ) : Type 0 where
  pub is : (word : Terminal) (bits : ℕ) → IsAt ts at word → width_of word ≡ Some bits → WidthOf (between ts at next) bits

-- The words from one index to another stand behind `signed` or `unsigned`.
pub record SignedFrom (ts : List Lexeme) (at next : ℕ) (signed : Bool) (base : Base) : Type 0 where
  pub is : (s : Lexeme) → sign_of s.terminal ≡ Some signed → IntegerOf (s ∷ between ts at next) base

-- A struct with members begins there.
pub data BeginsStruct (ts : List Lexeme) (at : ℕ) : Type 0 where
  bare : IsAt ts at t.Struct → IsAt ts (at + 1) t.OpenBrace → BeginsStruct ts at
  tagged : IsAt ts at t.Struct → IsAt ts (at + 1) t.Name → IsAt ts (at + 2) t.OpenBrace → BeginsStruct ts at

pub data NoStructAt (ts : List Lexeme) (at : ℕ) : Type 0 where
  other : OtherAt ts at t.Struct → NoStructAt ts at
  no_body : IsAt ts at t.Struct → IsAt ts (at + 1) t.Name → OtherAt ts (at + 2) t.OpenBrace → NoStructAt ts at
  no_tag : IsAt ts at t.Struct → OtherAt ts (at + 1) t.Name → OtherAt ts (at + 1) t.OpenBrace → NoStructAt ts at

-- the words before the members of a struct
pub data TagAt (ts : List Lexeme) (at : ℕ) (tag : Tag) : Type 0 where
  bare : IsAt ts at t.Struct → PlaceAt ts at tag.place → tag.name ≡ None → tag.brace ≡ at + 1 → IsAt ts (at + 1) t.OpenBrace → TagAt ts at tag
  tagged : (name : List ℕ) → IsAt ts at t.Struct → IsAt ts (at + 1) t.Name → TextAt ts (at + 1) name → PlaceAt ts (at + 1) tag.place → tag.name ≡ Some name → tag.brace ≡ at + 2 → IsAt ts (at + 2) t.OpenBrace → TagAt ts at tag

-- Another member may begin there: there is room for it, and a word of a type.
pub record MemberAt (ts : List Lexeme) (at room : ℕ) : Type 0 where
  pub word : Terminal
  pub stands : IsAt ts at word
  pub begins : is_type_word word ≡ true
  pub free : 0 < room

pub data NoMemberAt (ts : List Lexeme) (at room : ℕ) : Type 0 where
  full : room ≡ 0 → NoMemberAt ts at room
  other : (word : Terminal) → IsAt ts at word → is_type_word word ≡ false → NoMemberAt ts at room

-- a declared name with its `*`
pub record HeadAt (ts : List Lexeme) (at : ℕ) (head : Head) : Type 0 where
  pub name : ℕ
  pub from : at ≤ name
  pub star : StarOf (between ts at name) head.star
  pub stands : IsAt ts name t.Name
  pub text : TextAt ts name head.name
  pub place : PlaceAt ts name head.place
  pub next : head.next ≡ name + 1

-- The words of a type and what stands behind them are the name of a type.
pub record TermFrom (ts : List Lexeme) (words : SpecRead) (name : TermRead) : Type 0 where
  pub star : Option (List Qual)
  pub words_end : ℕ
  pub here : words_end ≡ words.next
  pub stars : ReadAt (E sym.MayStar) ts words_end name.next
  pub is : IsTerm name.term words.spec star
  pub means : StarOf (between ts words_end name.next) star
  pub vector : name.vector ≡ (words.vector && is_none star)

-- something stands there that goes on with an operand
pub record SuffixAt (ts : List Lexeme) (at : ℕ) : Type 0 where
  pub mark : Terminal
  pub stands : IsAt ts at mark
  pub begins : is_suffix_mark mark ≡ true

pub record NoSuffixAt (ts : List Lexeme) (at : ℕ) : Type 0 where
  pub mark : Terminal
  pub stands : IsAt ts at mark
  pub other : is_suffix_mark mark ≡ false

pub record IndexedAt (ts : List Lexeme) (at : ℕ) (operand index whole : Expr) : Type 0 where
  pub place : Place
  pub stands : PlaceAt ts at place
  pub is : IsExpr whole place node.Index (operand ∷ index ∷ [])

-- The tokens from one index to another make an operand of this one.
pub record SuffixFrom (ts : List Lexeme) (at next : ℕ) (operand whole : Expr) : Type 0 where
  pub tree : (v : List Lexeme) (e : Expr) → SuffixTrees whole v e → SuffixTrees operand (between ts at next ++ v) e

-- A call with arguments begins there, or none does.
pub record CallAt (ts : List Lexeme) (at : ℕ) : Type 0 where
  pub name : IsAt ts at t.Name
  pub opens : IsAt ts (at + 1) t.OpenParen
  pub argument : OtherAt ts (at + 2) t.CloseParen

pub data NoCallAt (ts : List Lexeme) (at : ℕ) : Type 0 where
  no_name : OtherAt ts at t.Name → NoCallAt ts at
  name_alone : IsAt ts at t.Name → OtherAt ts (at + 1) t.OpenParen → NoCallAt ts at
  no_argument : IsAt ts at t.Name → IsAt ts (at + 1) t.OpenParen → IsAt ts (at + 2) t.CloseParen → NoCallAt ts at

-- An expression of a sort stands from an index on, with this tree.
pub record TakenAt (x : ExprSym) (Tree : List Lexeme → Expr → Type 0) (ts : List Lexeme) (at : ℕ) (t : Taken) : Type 0 where
  pub read : ReadAt (E x) ts at t.next
  pub forth : at < t.next
  pub tree : Tree (between ts at t.next) t.tree

-- What goes on with a first operand stands behind it, and makes this tree with it.
pub record BehindAt (x : ExprSym) (From : List Lexeme → ℕ → ℕ → Expr → Expr → Type 0) (ts : List Lexeme) (first t : Taken) : Type 0 where
  pub read : ReadAt (E x) ts first.next t.next
  pub tree : From ts first.next t.next first.tree t.tree

-- Operands between commas stand from an index on.
pub record AssignsAt (ts : List Lexeme) (at : ℕ) (o : Operands) : Type 0 where
  pub read : ReadAt (E sym.Assigns) ts at o.next
  pub forth : at < o.next
  pub tree : OperandsAt ts at o

-- The words of a type stand from an index on.
pub record SpecAt (ts : List Lexeme) (at : ℕ) (t : SpecRead) : Type 0 where
  pub read : ReadAt (E (sym.Spec t.vector)) ts at t.next
  pub none : NoneAt (E (sym.Spec (not t.vector))) ts at t.next
  pub forth : at < t.next
  pub tree : SpecTree (between ts at t.next) t.spec

pub record BaseAt (ts : List Lexeme) (at : ℕ) (t : BaseRead) : Type 0 where
  pub read : ReadAt (E (sym.Base t.vector)) ts at t.next
  pub none : NoneAt (E (sym.Base (not t.vector))) ts at t.next
  pub forth : at < t.next
  pub tree : BaseTree (between ts at t.next) t.base

-- A type is refused there, and so is one that is a vector.
pub record TypeOut (x : Bool → ExprSym) (ts : List Lexeme) (at : ℕ) (stop : ExprStop) : Type 0 where
  pub barred : BarredAt (E (x true)) ts at stop
  pub out : RefusedAt (E (x false)) ts at stop

-- Declared names with a `;` behind them stand there, and leave so much room.
pub record NamesAt (ts : List Lexeme) (room at : ℕ) (names : Names) : Type 0 where
  pub close : ℕ
  pub behind : names.next ≡ close + 1
  pub read : GoesOn (E (sym.Names room)) (E (sym.MayMembers (room - length names.list.items)) ∷ []) ts at names.next
  pub few : length names.list.items ≤ room
  pub forth : at < close
  pub tree : DeclorTrees (between ts at close) names.list.items
  pub closes : IsAt ts close t.Semicolon

pub record DeclorAt (ts : List Lexeme) (at : ℕ) (d : Declor × ℕ) : Type 0 where
  pub read : ReadAt (E sym.Declor) ts at d.1
  pub forth : at < d.1
  pub tree : DeclorTree (between ts at d.1) d.0

-- an assignment's tree over its operands, at the token of an index
pub record AssignedAt (ts : List Lexeme) (at : ℕ) (op : Option BinOp) (left right whole : Expr) : Type 0 where
  pub place : Place
  pub stands : PlaceAt ts at place
  pub is : IsExpr whole place (node.Assign op) (left ∷ right ∷ [])

pub record ChosenAt (ts : List Lexeme) (at : ℕ) (test chosen left whole : Expr) : Type 0 where
  pub place : Place
  pub stands : PlaceAt ts at place
  pub is : IsExpr whole place node.Cond (test ∷ chosen ∷ left ∷ [])

abbrev pub group_of : Expr → Group
group_of e = record { tree = e }

-- an operator at the token of an index and its right operand, added to others
pub record JoinedAt (ts : List Lexeme) (at : ℕ) (op : BinOp) (operand : Expr) (rest more : List (Operator × Group)) : Type 0 where
  pub place : Place
  pub stands : PlaceAt ts at place
  pub is : more ≡ rest ++ (record { op = op; place = place }, group_of operand) ∷ []

-- The words of a type are qualifiers, a base, and the qualifiers behind it.
pub record QualifiedFrom (ts : List Lexeme) (before : List Qual) (b : BaseRead) (words : SpecRead) : Type 0 where
  pub quals : List Qual
  pub read : ReadAt (E sym.Qualifiers) ts b.next words.next
  pub added : Qualified qualifier_of ts b.next words.next before quals
  pub is : IsSpec words.spec quals b.base
  pub vector : words.vector ≡ b.vector

-- a field of these words and names, behind others
pub record FieldBehind (fields : List Field) (spec : Spec) (names : List Declor) (more : List Field) : Type 0 where
  pub field : Field
  pub is : IsField field spec names
  pub added : more ≡ fields ++ field ∷ []

-- The words of a type and what stands behind them are the name of a type, with a `)` behind it.
pub record ClosedFrom (ts : List Lexeme) (words : SpecRead) (name : TermRead) : Type 0 where
  pub close : ℕ
  pub from : TermFrom ts words (record { term = name.term; vector = name.vector; next = close })
  pub closes : IsAt ts close t.CloseParen
  pub behind : name.next ≡ close + 1

-- No `)` stands behind the name of a type, or memory ran out.
pub data Unclosed (ts : List Lexeme) (words : SpecRead) (stop : ExprStop) : Type 0 where
  no_memory : stop ≡ NoMemory → Unclosed ts words stop
  unclosed : (name : TermRead) → TermFrom ts words name → RefusedAt (Mark t.CloseParen) ts name.next stop → Unclosed ts words stop

-- the name of a type in brackets from an index on
pub record TypedAt (ts : List Lexeme) (at : ℕ) (name : TermRead) : Type 0 where
  pub begins : BeginsTyped ts at
  pub close : ℕ
  pub read : ReadAt (E (sym.TypeTerm name.vector)) ts (at + 1) close
  pub none : NoneAt (E (sym.TypeTerm (not name.vector))) ts (at + 1) close
  pub tree : TypeTermTree (between ts (at + 1) close) name.term
  pub closes : IsAt ts close t.CloseParen
  pub behind : name.next ≡ close + 1

-- A `(` stands behind the name of a vector in brackets, or none does.
pub record LiteralAt (ts : List Lexeme) (name : TermRead) : Type 0 where
  pub vector : name.vector ≡ true
  pub opens : IsAt ts name.next t.OpenParen

pub data NoLiteralAt (ts : List Lexeme) (name : TermRead) : Type 0 where
  plain : name.vector ≡ false → NoLiteralAt ts name
  closed : name.vector ≡ true → OtherAt ts name.next t.OpenParen → NoLiteralAt ts name

-- an element by what stands in the brackets behind its operand
pub record ElementAt (ts : List Lexeme) (operand : Taken) (o : Operands) (whole : Taken) : Type 0 where
  pub index : Expr
  pub inside : WholeOf ts o index
  pub closes : IsAt ts o.next t.CloseBracket
  pub is : IndexedAt ts operand.next operand.tree index whole.tree
  pub behind : whole.next ≡ o.next + 1
