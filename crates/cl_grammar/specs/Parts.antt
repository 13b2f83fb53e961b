-- What is left of a part of the grammar of which a piece was read, and parts that are one of several by their first tokens.
-- Each family says with the lines of `Expressions` what may stand there.
use Rattle.std.specs.Prelude.{◌≡◌, ℕ, suc, ◌≤◌, Bool, true, false, Option, Some, List, [], ◌∷◌, ◌++◌}
use Rattle.cl_types.specs.declared.operator.BinOp.{BinOp}
use Rattle.cl_grammar.specs.declared.lexeme.Lexeme.{Lexeme}
use Rattle.cl_grammar.specs.declared.terminal.Terminal.TheVariants as t
use Rattle.cl_grammar.specs.Terminals.{binary_of, assignment_of}
use Rattle.cl_grammar.specs.Expressions.{IsA, IsWidth, IsSpec, AreMembers, IsDeclor, AreLengths, IsTypeTerm, AreAssigns, IsAssign, IsCond, IsBin, IsCast, IsUnary, begins_open}

-- {"," assign}
pub data IsMoreAssigns : List Lexeme → Type 0 where
  no_more_assign : IsMoreAssigns []
  next_assign : (c : Lexeme) (u : List Lexeme) → IsA t.Comma c → AreAssigns u → IsMoreAssigns (c ∷ u)

-- {binop cast}
pub data IsRow : List Lexeme → Type 0 where
  row_ends : IsRow []
  row_goes_on : (o : Lexeme) (op : BinOp) (u : List Lexeme) → binary_of o.terminal ≡ Some op → IsBin u → IsRow (o ∷ u)

-- ["?" assign ":" cond]
pub data IsChoice : List Lexeme → Type 0 where
  no_choice : IsChoice []
  choice : (q c : Lexeme) (u v : List Lexeme) → IsA t.Question q → IsAssign u → IsA t.Colon c → IsCond v → IsChoice (q ∷ (u ++ c ∷ v))

-- {binop cast} ["?" assign ":" cond]
pub data IsBehindCast : List Lexeme → Type 0 where
  behind_cast : (u v : List Lexeme) → IsRow u → IsChoice v → IsBehindCast (u ++ v)

-- what stands behind the first unary of an assign
pub data IsBehindUnary : List Lexeme → Type 0 where
  assigned_to : (o : Lexeme) (op : Option BinOp) (u : List Lexeme) → assignment_of o.terminal ≡ Some op → IsAssign u → IsBehindUnary (o ∷ u)
  not_assigned : (u : List Lexeme) → IsBehindCast u → IsBehindUnary u

-- "(" tname that names no vector ")" cast
pub data IsPlainCast : List Lexeme → Type 0 where
  plain_cast : (o c : Lexeme) (u v : List Lexeme) → IsA t.OpenParen o → IsTypeTerm false u → IsA t.CloseParen c → IsCast v → IsPlainCast (o ∷ (u ++ c ∷ v))

-- a cast that doesn't begin with "("
pub record IsClosedCast (u : List Lexeme) : Type 0 where
  pub is : IsCast u
  pub closed : begins_open u ≡ false

-- what stands behind a vector's type in brackets
pub data IsBehindVector : List Lexeme → Type 0 where
  operands : (p d : Lexeme) (u : List Lexeme) → IsA t.OpenParen p → AreAssigns u → IsA t.CloseParen d → IsBehindVector (p ∷ (u ++ d ∷ []))
  cast_operand : (u : List Lexeme) → IsClosedCast u → IsBehindVector u

-- "(" tname that names a vector ")" and what stands behind it
pub data IsVectorCast : List Lexeme → Type 0 where
  vector_cast : (o c : Lexeme) (u v : List Lexeme) → IsA t.OpenParen o → IsTypeTerm true u → IsA t.CloseParen c → IsBehindVector v → IsVectorCast (o ∷ (u ++ c ∷ v))

-- a cast that begins with a type in brackets
pub data IsCasted : List Lexeme → Type 0 where
  casted_plain : (u : List Lexeme) → IsPlainCast u → IsCasted u
  casted_vector : (u : List Lexeme) → IsVectorCast u → IsCasted u

-- an assign that begins with a type in brackets, and one that doesn't
pub data IsCastedAssign : List Lexeme → Type 0 where
  casted_assign : (u v : List Lexeme) → IsCasted u → IsBehindCast v → IsCastedAssign (u ++ v)

pub data IsUnaryAssign : List Lexeme → Type 0 where
  unary_assign : (u v : List Lexeme) → IsUnary u → IsBehindUnary v → IsUnaryAssign (u ++ v)

-- "(" tname ")"
pub data IsTypeInBrackets : List Lexeme → Type 0 where
  type_in_brackets : (o c : Lexeme) (vector : Bool) (u : List Lexeme) → IsA t.OpenParen o → IsTypeTerm vector u → IsA t.CloseParen c → IsTypeInBrackets (o ∷ (u ++ c ∷ []))

-- what stands behind `sizeof`
pub data IsSized : List Lexeme → Type 0 where
  sized_type : (u : List Lexeme) → IsTypeInBrackets u → IsSized u
  sized_unary : (u : List Lexeme) → IsUnary u → IsSized u

-- [args] ")"
pub data IsArguments : List Lexeme → Type 0 where
  no_argument : (c : Lexeme) → IsA t.CloseParen c → IsArguments (c ∷ [])
  arguments : (c : Lexeme) (u : List Lexeme) → AreAssigns u → IsA t.CloseParen c → IsArguments (u ++ c ∷ [])

-- ["(" [args] ")"]
pub data MayBeCall : List Lexeme → Type 0 where
  no_call : MayBeCall []
  called : (o : Lexeme) (u : List Lexeme) → IsA t.OpenParen o → IsArguments u → MayBeCall (o ∷ u)

-- spec and tname of either kind
pub data IsAnySpec : List Lexeme → Type 0 where
  any_spec : (vector : Bool) (u : List Lexeme) → IsSpec vector u → IsAnySpec u

pub data IsAnyType : List Lexeme → Type 0 where
  any_type : (vector : Bool) (u : List Lexeme) → IsTypeTerm vector u → IsAnyType u

-- [width]
pub data MayBeWidth : List Lexeme → Type 0 where
  no_width : MayBeWidth []
  some_width : (u : List Lexeme) → IsWidth u → MayBeWidth u

-- ["int"]
pub data MayBeInt : List Lexeme → Type 0 where
  no_int : MayBeInt []
  some_int : (i : Lexeme) → IsA t.Int i → MayBeInt (i ∷ [])

-- "{" member {member} "}"
pub data IsBody : List Lexeme → Type 0 where
  body : (o c : Lexeme) (u : List Lexeme) (count : ℕ) → IsA t.OpenBrace o → AreMembers count u → count ≤ 65500 → IsA t.CloseBrace c → IsBody (o ∷ (u ++ c ∷ []))

pub data MayBeBody : List Lexeme → Type 0 where
  no_body : MayBeBody []
  some_body : (u : List Lexeme) → IsBody u → MayBeBody u

-- what stands behind `struct`
pub data IsBehindStruct : List Lexeme → Type 0 where
  tagged : (n : Lexeme) (u : List Lexeme) → IsA t.Name n → MayBeBody u → IsBehindStruct (n ∷ u)
  untagged : (u : List Lexeme) → IsBody u → IsBehindStruct u

-- member {member} with at most so many names
pub data IsMembersWithin : ℕ → List Lexeme → Type 0 where
  members_within : (room count : ℕ) (u : List Lexeme) → AreMembers count u → count ≤ room → IsMembersWithin room u

pub data MayBeMembersWithin : ℕ → List Lexeme → Type 0 where
  no_members : (room : ℕ) → MayBeMembersWithin room []
  some_members : (room : ℕ) (u : List Lexeme) → IsMembersWithin room u → MayBeMembersWithin room u

-- {"," declor} ";" {member}, where at most so many names follow
pub data IsBehindName : ℕ → List Lexeme → Type 0 where
  names_end : (room : ℕ) (s : Lexeme) (u : List Lexeme) → IsA t.Semicolon s → MayBeMembersWithin room u → IsBehindName room (s ∷ u)
  names_go_on : (room : ℕ) (c : Lexeme) (u v : List Lexeme) → IsA t.Comma c → IsDeclor u → IsBehindName room v → IsBehindName (suc room) (c ∷ (u ++ v))

-- declor {"," declor} ";" {member} with at most so many names
pub data IsNamesWithin : ℕ → List Lexeme → Type 0 where
  names_within : (room : ℕ) (u v : List Lexeme) → IsDeclor u → IsBehindName room v → IsNamesWithin (suc room) (u ++ v)

-- [cond] "]" {"[" [cond] "]"}
pub data IsLength : List Lexeme → Type 0 where
  no_length : (c : Lexeme) (u : List Lexeme) → IsA t.CloseBracket c → AreLengths u → IsLength (c ∷ u)
  some_length : (c : Lexeme) (u v : List Lexeme) → IsCond u → IsA t.CloseBracket c → AreLengths v → IsLength (u ++ c ∷ v)
