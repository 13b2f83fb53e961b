-- The trees of expressions and types: for each line of the grammar, what its tokens mean. Each case has the tokens of the
-- case of `Expressions` of the same name.
use Rattle.std.specs.Global.{Vec}
use Rattle.std.specs.Prelude.{◌≡◌, ℕ, Bool, true, false, Option, Some, None, List, [], ◌∷◌, ◌++◌}
use Rattle.clv_place.specs.declared.place.Place.{Place}
use Rattle.cl_types.specs.declared.operator.UnOp.{UnOp}
use Rattle.cl_types.specs.declared.operator.UnOp.TheVariants as un
use Rattle.cl_types.specs.declared.operator.BinOp.{BinOp}
use Rattle.cl_ast.specs.declared.expression.Qual.{Qual}
use Rattle.cl_ast.specs.declared.expression.Expr.{Expr}
use Rattle.cl_ast.specs.declared.expression.ExprNode.{ExprNode}
use Rattle.cl_ast.specs.declared.expression.ExprNode.TheVariants as node
use Rattle.cl_ast.specs.declared.expression.TypeTerm.{TypeTerm}
use Rattle.cl_ast.specs.declared.expression.Spec.{Spec}
use Rattle.cl_ast.specs.declared.expression.Base.{Base}
use Rattle.cl_ast.specs.declared.expression.Base.TheVariants as base
use Rattle.cl_ast.specs.declared.expression.Field.{Field}
use Rattle.cl_ast.specs.declared.expression.Declor.{Declor}
use Rattle.cl_ast.specs.declared.expression.Base.TheViews.{out-Expr, out-TypeTerm, out-Spec, out-Field, out-Declor}
use Rattle.cl_grammar.specs.declared.lexeme.Lexeme.{Lexeme}
use Rattle.cl_grammar.specs.declared.operator.Operator.{Operator}
use Rattle.cl_grammar.specs.declared.terminal.Terminal.{Terminal}
use Rattle.cl_grammar.specs.declared.terminal.Terminal.TheVariants as t
use Rattle.cl_grammar.specs.Terminals.{qualifier_of, pointer_qualifier_of, sign_of, width_of, takes_int, prefix_of, increment_before, increment_behind, arrow_of, binary_of, assignment_of, level_of}
use Rattle.cl_grammar.specs.Expressions.{IsA, IsTypeTerm, begins_open}
use Rattle.cl_precedence.specs.Grouping.{Groups}

-- an expression with this place, node and operands
pub record IsExpr (e : Expr) (place : Place) (node : ExprNode) (args : List Expr) : Type 0 where
  pub at : (out-Expr e).place ≡ place
  pub is : (out-Expr e).node ≡ node
  pub has : (out-Expr e).args.items ≡ args

-- the words of a type with these qualifiers
pub record IsSpec (s : Spec) (quals : List Qual) (base : Base) : Type 0 where
  pub has : (out-Spec s).quals ≡ quals
  pub is : (out-Spec s).base ≡ base

pub record IsTerm (term : TypeTerm) (spec : Spec) (star : Option (List Qual)) : Type 0 where
  pub is : (out-TypeTerm term).spec ≡ spec
  pub has : (out-TypeTerm term).star ≡ star

pub record IsField (f : Field) (spec : Spec) (names : List Declor) : Type 0 where
  pub is : (out-Field f).spec ≡ spec
  pub has : (out-Field f).names.items ≡ names

pub record IsDeclor (d : Declor) (star : Option (List Qual)) (name : List ℕ) (place : Place) (lengths : List (Option Expr)) : Type 0 where
  pub behind : (out-Declor d).star ≡ star
  pub is : (out-Declor d).name ≡ name
  pub at : (out-Declor d).place ≡ place
  pub has : (out-Declor d).lengths.items ≡ lengths

abbrev pub items_of : Option (Vec Field) → Option (List Field)
items_of None = None
items_of (Some v) = Some v.items

pub record IsStruct (b : Base) (name : Option (List ℕ)) (place : Place) (members : Option (List Field)) : Type 0 where
  pub declared : Option (Vec Field)
  pub is : b ≡ base.Struct name place declared
  pub has : items_of declared ≡ members

-- the qualifiers that words are
abbrev pub Qualify : (Terminal → Option Qual) → List Lexeme → List Qual → Type 0
Qualify word [] [] = Unit {0}
Qualify word [] (q ∷ qs) = ⊥
Qualify word (l ∷ ls) [] = ⊥
Qualify word (l ∷ ls) (q ∷ qs) = (word l.terminal ≡ Some q) × Qualify word ls qs

-- the qualifiers behind a `*`, where there is one
pub data StarOf : List Lexeme → Option (List Qual) → Type 0 where
  none : StarOf [] None
  some : (s : Lexeme) (u : List Lexeme) (qs : List Qual) → IsA t.Star s → Qualify pointer_qualifier_of u qs → StarOf (s ∷ u) (Some qs)

-- the bits of an integer type without its sign
pub data WidthOf : List Lexeme → ℕ → Type 0 where
  word : (w : Lexeme) (bits : ℕ) → width_of w.terminal ≡ Some bits → WidthOf (w ∷ []) bits
  with_int : (w i : Lexeme) (bits : ℕ) → takes_int w.terminal ≡ true → IsA t.Int i → width_of w.terminal ≡ Some bits → WidthOf (w ∷ i ∷ []) bits

-- An integer type is signed where nothing else is said, and an int.
pub data IntegerOf : List Lexeme → Base → Type 0 where
  plain : (u : List Lexeme) (bits : ℕ) → WidthOf u bits → IntegerOf u (base.Int bits true)
  with_sign : (s : Lexeme) (signed : Bool) (u : List Lexeme) (bits : ℕ) → sign_of s.terminal ≡ Some signed → WidthOf u bits → IntegerOf (s ∷ u) (base.Int bits signed)
  sign : (s : Lexeme) (signed : Bool) → sign_of s.terminal ≡ Some signed → IntegerOf (s ∷ []) (base.Int 32 signed)

-- what a word means that is a whole type
abbrev pub type_of_word : Lexeme → Terminal → Option Base
type_of_word l t.Void = Some base.Void
type_of_word l t.Bool = Some base.Bool
type_of_word l (t.UnsignedInt bits) = Some (base.Int bits false)
type_of_word l (t.Vector bits signed n) = Some (base.Vector bits signed n)
type_of_word l (t.Sized signed) = Some (base.Sized signed)
type_of_word l (t.TypeName vector) = Some (base.Named l.text l.place)
type_of_word l _ = None

-- an operator's tree from those of its operands
abbrev pub Joins : Operator → Expr → Expr → Expr → Type 0
Joins o left right e = IsExpr e o.place (node.Binary o.op) (left ∷ right ∷ [])

abbrev pub level_at : Operator → ℕ
level_at o = level_of o.op

mutual
  -- The qualifiers before and behind the base are one list.
  pub data SpecTree : List Lexeme → Spec → Type 0 where
    spec : (u v w : List Lexeme) (before behind : List Qual) (b : Base) (s : Spec) → Qualify qualifier_of u before → BaseTree v b → Qualify qualifier_of w behind → IsSpec s (before ++ behind) b → SpecTree (u ++ (v ++ w)) s

  -- The place of a struct is its name, or the word `struct`.
  pub data BaseTree : List Lexeme → Base → Type 0 where
    type_word : (w : Lexeme) (b : Base) → type_of_word w w.terminal ≡ Some b → BaseTree (w ∷ []) b
    integer : (u : List Lexeme) (b : Base) → IntegerOf u b → BaseTree u b
    struct_name : (s n : Lexeme) (b : Base) → IsA t.Struct s → IsA t.Name n → IsStruct b (Some n.text) n.place None → BaseTree (s ∷ n ∷ []) b
    named_struct : (s n o c : Lexeme) (u : List Lexeme) (fields : List Field) (b : Base) → IsA t.Struct s → IsA t.Name n → IsA t.OpenBrace o → MemberTrees u fields → IsA t.CloseBrace c → IsStruct b (Some n.text) n.place (Some fields) → BaseTree (s ∷ n ∷ o ∷ (u ++ c ∷ [])) b
    struct : (s o c : Lexeme) (u : List Lexeme) (fields : List Field) (b : Base) → IsA t.Struct s → IsA t.OpenBrace o → MemberTrees u fields → IsA t.CloseBrace c → IsStruct b None s.place (Some fields) → BaseTree (s ∷ o ∷ (u ++ c ∷ [])) b

  pub data MemberTrees : List Lexeme → List Field → Type 0 where
    last_member : (s : Lexeme) (u v : List Lexeme) (spec : Spec) (names : List Declor) (f : Field) → SpecTree u spec → DeclorTrees v names → IsA t.Semicolon s → IsField f spec names → MemberTrees (u ++ (v ++ s ∷ [])) (f ∷ [])
    more_members : (s : Lexeme) (u v w : List Lexeme) (spec : Spec) (names : List Declor) (f : Field) (fs : List Field) → SpecTree u spec → DeclorTrees v names → IsA t.Semicolon s → IsField f spec names → MemberTrees w fs → MemberTrees (u ++ (v ++ s ∷ w)) (f ∷ fs)

  pub data DeclorTrees : List Lexeme → List Declor → Type 0 where
    last_declor : (u : List Lexeme) (d : Declor) → DeclorTree u d → DeclorTrees u (d ∷ [])
    more_declors : (c : Lexeme) (u v : List Lexeme) (d : Declor) (ds : List Declor) → DeclorTree u d → IsA t.Comma c → DeclorTrees v ds → DeclorTrees (u ++ c ∷ v) (d ∷ ds)

  pub data DeclorTree : List Lexeme → Declor → Type 0 where
    declor : (n : Lexeme) (u v : List Lexeme) (star : Option (List Qual)) (lengths : List (Option Expr)) (d : Declor) → StarOf u star → IsA t.Name n → LengthTrees v lengths → IsDeclor d star n.text n.place lengths → DeclorTree (u ++ n ∷ v) d

  pub data LengthTrees : List Lexeme → List (Option Expr) → Type 0 where
    no_length : LengthTrees [] []
    missing_length : (o c : Lexeme) (v : List Lexeme) (es : List (Option Expr)) → IsA t.OpenBracket o → IsA t.CloseBracket c → LengthTrees v es → LengthTrees (o ∷ c ∷ v) (None ∷ es)
    length_given : (o c : Lexeme) (u v : List Lexeme) (e : Expr) (es : List (Option Expr)) → IsA t.OpenBracket o → CondTree u e → IsA t.CloseBracket c → LengthTrees v es → LengthTrees (o ∷ (u ++ c ∷ v)) (Some e ∷ es)

  pub data TypeTermTree : List Lexeme → TypeTerm → Type 0 where
    type_term : (u v : List Lexeme) (spec : Spec) (star : Option (List Qual)) (term : TypeTerm) → SpecTree u spec → StarOf v star → IsTerm term spec star → TypeTermTree (u ++ v) term

  -- An expression with commas is one node with all operands, at the first comma.
  pub data ExprTree : List Lexeme → Expr → Type 0 where
    only_assign : (u : List Lexeme) (e : Expr) → AssignTree u e → ExprTree u e
    comma : (c : Lexeme) (u v : List Lexeme) (a e : Expr) (args : List Expr) → AssignTree u a → IsA t.Comma c → AssignTrees v args → IsExpr e c.place node.Comma (a ∷ args) → ExprTree (u ++ c ∷ v) e

  pub data AssignTrees : List Lexeme → List Expr → Type 0 where
    last_assign : (u : List Lexeme) (e : Expr) → AssignTree u e → AssignTrees u (e ∷ [])
    more_assigns : (c : Lexeme) (u v : List Lexeme) (e : Expr) (es : List Expr) → AssignTree u e → IsA t.Comma c → AssignTrees v es → AssignTrees (u ++ c ∷ v) (e ∷ es)

  pub data AssignTree : List Lexeme → Expr → Type 0 where
    only_cond : (u : List Lexeme) (e : Expr) → CondTree u e → AssignTree u e
    assigned : (o : Lexeme) (op : Option BinOp) (u v : List Lexeme) (a b e : Expr) → UnaryTree u a → assignment_of o.terminal ≡ Some op → AssignTree v b → IsExpr e o.place (node.Assign op) (a ∷ b ∷ []) → AssignTree (u ++ o ∷ v) e

  pub data CondTree : List Lexeme → Expr → Type 0 where
    only_bin : (u : List Lexeme) (e : Expr) → BinTree u e → CondTree u e
    conditional : (q c : Lexeme) (u v w : List Lexeme) (a b d e : Expr) → BinTree u a → IsA t.Question q → AssignTree v b → IsA t.Colon c → CondTree w d → IsExpr e q.place node.Cond (a ∷ b ∷ d ∷ []) → CondTree (u ++ q ∷ (v ++ c ∷ w)) e

  -- Operands and operators group by how tight these bind, and operators of one level to the left.
  pub data BinTree : List Lexeme → Expr → Type 0 where
    bin : (u v : List Lexeme) (a e : Expr) (row : List (Operator × Expr)) → CastTree u a → RowTrees v row → Groups level_at Joins a row e → BinTree (u ++ v) e

  pub data RowTrees : List Lexeme → List (Operator × Expr) → Type 0 where
    row_ends : RowTrees [] []
    row_goes_on : (o : Lexeme) (op : BinOp) (u v : List Lexeme) (e : Expr) (row : List (Operator × Expr)) → binary_of o.terminal ≡ Some op → CastTree u e → RowTrees v row → RowTrees (o ∷ (u ++ v)) ((record { op = op; place = o.place }, e) ∷ row)

  pub data CastTree : List Lexeme → Expr → Type 0 where
    only_unary : (u : List Lexeme) (e : Expr) → UnaryTree u e → CastTree u e
    cast : (o c : Lexeme) (u v : List Lexeme) (term : TypeTerm) (a e : Expr) → IsA t.OpenParen o → IsTypeTerm false u → TypeTermTree u term → IsA t.CloseParen c → CastTree v a → IsExpr e o.place (node.Cast term) (a ∷ []) → CastTree (o ∷ (u ++ c ∷ v)) e
    vector_cast : (o c : Lexeme) (u v : List Lexeme) (term : TypeTerm) (a e : Expr) → IsA t.OpenParen o → IsTypeTerm true u → TypeTermTree u term → IsA t.CloseParen c → CastTree v a → begins_open v ≡ false → IsExpr e o.place (node.Cast term) (a ∷ []) → CastTree (o ∷ (u ++ c ∷ v)) e
    vector_literal : (o c p d : Lexeme) (u v : List Lexeme) (term : TypeTerm) (args : List Expr) (e : Expr) → IsA t.OpenParen o → IsTypeTerm true u → TypeTermTree u term → IsA t.CloseParen c → IsA t.OpenParen p → AssignTrees v args → IsA t.CloseParen d → IsExpr e o.place (node.Vector term) args → CastTree (o ∷ (u ++ c ∷ p ∷ (v ++ d ∷ []))) e

  pub data UnaryTree : List Lexeme → Expr → Type 0 where
    only_postfix : (u : List Lexeme) (e : Expr) → PostfixTree u e → UnaryTree u e
    incremented : (o : Lexeme) (op : UnOp) (u : List Lexeme) (a e : Expr) → increment_before o.terminal ≡ Some op → UnaryTree u a → IsExpr e o.place (node.Unary op) (a ∷ []) → UnaryTree (o ∷ u) e
    prefixed : (o : Lexeme) (op : UnOp) (u : List Lexeme) (a e : Expr) → prefix_of o.terminal ≡ Some op → CastTree u a → IsExpr e o.place (node.Unary op) (a ∷ []) → UnaryTree (o ∷ u) e
    size_of : (s : Lexeme) (u : List Lexeme) (a e : Expr) → IsA t.Sizeof s → UnaryTree u a → IsExpr e s.place (node.Unary un.Sizeof) (a ∷ []) → UnaryTree (s ∷ u) e
    size_of_type : (s o c : Lexeme) (u : List Lexeme) (term : TypeTerm) (e : Expr) → IsA t.Sizeof s → IsA t.OpenParen o → TypeTermTree u term → IsA t.CloseParen c → IsExpr e s.place (node.SizeofType term) [] → UnaryTree (s ∷ o ∷ (u ++ c ∷ [])) e

  pub data PostfixTree : List Lexeme → Expr → Type 0 where
    suffixed : (u v : List Lexeme) (a e : Expr) → PrimaryTree u a → SuffixTrees a v e → PostfixTree (u ++ v) e

  -- what suffixes make of the expression before them
  pub data SuffixTrees : Expr → List Lexeme → Expr → Type 0 where
    no_suffix : (a : Expr) → SuffixTrees a [] a
    indexed : (o c : Lexeme) (u v : List Lexeme) (a i b e : Expr) → IsA t.OpenBracket o → ExprTree u i → IsA t.CloseBracket c → IsExpr b o.place node.Index (a ∷ i ∷ []) → SuffixTrees b v e → SuffixTrees a (o ∷ (u ++ c ∷ v)) e
    member : (d n : Lexeme) (arrow : Bool) (v : List Lexeme) (a b e : Expr) → arrow_of d.terminal ≡ Some arrow → IsA t.Name n → IsExpr b d.place (node.Member n.text arrow) (a ∷ []) → SuffixTrees b v e → SuffixTrees a (d ∷ n ∷ v) e
    increments : (o : Lexeme) (op : UnOp) (v : List Lexeme) (a b e : Expr) → increment_behind o.terminal ≡ Some op → IsExpr b o.place (node.Unary op) (a ∷ []) → SuffixTrees b v e → SuffixTrees a (o ∷ v) e

  pub data PrimaryTree : List Lexeme → Expr → Type 0 where
    name : (n : Lexeme) (e : Expr) → IsA t.Name n → IsExpr e n.place (node.Name n.text) [] → PrimaryTree (n ∷ []) e
    call_of_none : (n o c : Lexeme) (e : Expr) → IsA t.Name n → IsA t.OpenParen o → IsA t.CloseParen c → IsExpr e n.place (node.Call n.text) [] → PrimaryTree (n ∷ o ∷ c ∷ []) e
    call : (n o c : Lexeme) (u : List Lexeme) (args : List Expr) (e : Expr) → IsA t.Name n → IsA t.OpenParen o → AssignTrees u args → IsA t.CloseParen c → IsExpr e n.place (node.Call n.text) args → PrimaryTree (n ∷ o ∷ (u ++ c ∷ [])) e
    number : (n : Lexeme) (value ty : ℕ) (e : Expr) → IsA (t.Number value ty) n → IsExpr e n.place (node.Number value ty) [] → PrimaryTree (n ∷ []) e
    brackets : (o c : Lexeme) (u : List Lexeme) (e : Expr) → IsA t.OpenParen o → ExprTree u e → IsA t.CloseParen c → PrimaryTree (o ∷ (u ++ c ∷ [])) e
