-- The tokens that are an expression, or a part of one, and the types that stand there (C99 6.5, 6.7.2, 6.7.5 and 6.7.6;
-- OpenCL C 1.2, 6.1 and 6.2). A line of the grammar stands before its cases: {x} is any number of x, [x] none or one.
use Rattle.std.specs.Prelude.{◌≡◌, ℕ, suc, ◌+◌, ◌≤◌, Bool, true, false, Option, Some, List, [], ◌∷◌, ◌++◌}
use Rattle.cl_types.specs.declared.operator.UnOp.{UnOp}
use Rattle.cl_types.specs.declared.operator.BinOp.{BinOp}
use Rattle.cl_ast.specs.declared.expression.Qual.{Qual}
use Rattle.cl_grammar.specs.declared.lexeme.Lexeme.{Lexeme}
use Rattle.cl_grammar.specs.declared.terminal.Terminal.{Terminal}
use Rattle.cl_grammar.specs.declared.terminal.Terminal.TheVariants as t
use Rattle.cl_grammar.specs.Terminals.{qualifier_of, pointer_qualifier_of, whole_type, sign_of, width_of, takes_int, prefix_of, increment_before, increment_behind, arrow_of, binary_of, assignment_of}

-- a token is this terminal
abbrev pub IsA : Terminal → Lexeme → Type 0
IsA terminal l = l.terminal ≡ terminal

-- {qual}; qual = "const" | "volatile" | an address space
abbrev pub AreQualifiers : List Lexeme → Type 0
AreQualifiers [] = Unit {0}
AreQualifiers (l ∷ ls) = ((q : Qual) × (qualifier_of l.terminal ≡ Some q)) × AreQualifiers ls

-- {pq}; pq = "const" | "volatile" | "restrict"
abbrev pub ArePointerQualifiers : List Lexeme → Type 0
ArePointerQualifiers [] = Unit {0}
ArePointerQualifiers (l ∷ ls) = ((q : Qual) × (pointer_qualifier_of l.terminal ≡ Some q)) × ArePointerQualifiers ls

-- "*" {pq}
pub data IsStar : List Lexeme → Type 0 where
  star : (s : Lexeme) (u : List Lexeme) → IsA t.Star s → ArePointerQualifiers u → IsStar (s ∷ u)

-- ["*" {pq}]
pub data MayBeStar : List Lexeme → Type 0 where
  none : MayBeStar []
  some : (u : List Lexeme) → IsStar u → MayBeStar u

-- "char" | "short" ["int"] | "int" | "long" ["int"]
pub data IsWidth : List Lexeme → Type 0 where
  word : (w : Lexeme) (bits : ℕ) → width_of w.terminal ≡ Some bits → IsWidth (w ∷ [])
  with_int : (w i : Lexeme) → takes_int w.terminal ≡ true → IsA t.Int i → IsWidth (w ∷ i ∷ [])

-- intbase = ["signed" | "unsigned"] width | "signed" | "unsigned"
pub data IsInteger : List Lexeme → Type 0 where
  plain : (u : List Lexeme) → IsWidth u → IsInteger u
  with_sign : (s : Lexeme) (signed : Bool) (u : List Lexeme) → sign_of s.terminal ≡ Some signed → IsWidth u → IsInteger (s ∷ u)
  sign : (s : Lexeme) (signed : Bool) → sign_of s.terminal ≡ Some signed → IsInteger (s ∷ [])

abbrev pub is_open : Terminal → Bool
is_open t.OpenParen = true
is_open _ = false

-- whether tokens begin with `(`
abbrev pub begins_open : List Lexeme → Bool
begins_open [] = false
begins_open (l ∷ ls) = is_open l.terminal

mutual
  -- spec = {qual} base {qual}; whether it names a vector
  pub data IsSpec : Bool → List Lexeme → Type 0 where
    spec : (vector : Bool) (u v w : List Lexeme) → AreQualifiers u → IsBase vector v → AreQualifiers w → IsSpec vector (u ++ (v ++ w))

  -- base = a word that is a whole type | intbase | "struct" [NAME] "{" member {member} "}" | "struct" NAME
  pub data IsBase : Bool → List Lexeme → Type 0 where
    type_word : (vector : Bool) (w : Lexeme) → whole_type w.terminal ≡ Some vector → IsBase vector (w ∷ [])
    integer : (u : List Lexeme) → IsInteger u → IsBase false u
    struct_name : (s n : Lexeme) → IsA t.Struct s → IsA t.Name n → IsBase false (s ∷ n ∷ [])
    named_struct : (s n o c : Lexeme) (u : List Lexeme) (count : ℕ) → IsA t.Struct s → IsA t.Name n → IsA t.OpenBrace o → AreMembers count u → count ≤ 65500 → IsA t.CloseBrace c → IsBase false (s ∷ n ∷ o ∷ (u ++ c ∷ []))
    struct : (s o c : Lexeme) (u : List Lexeme) (count : ℕ) → IsA t.Struct s → IsA t.OpenBrace o → AreMembers count u → count ≤ 65500 → IsA t.CloseBrace c → IsBase false (s ∷ o ∷ (u ++ c ∷ []))

  -- member {member}; member = spec declor {"," declor} ";"; how many names they declare
  pub data AreMembers : ℕ → List Lexeme → Type 0 where
    last_member : (count : ℕ) (vector : Bool) (s : Lexeme) (u v : List Lexeme) → IsSpec vector u → AreDeclors count v → IsA t.Semicolon s → AreMembers count (u ++ (v ++ s ∷ []))
    more_members : (count rest : ℕ) (vector : Bool) (s : Lexeme) (u v w : List Lexeme) → IsSpec vector u → AreDeclors count v → IsA t.Semicolon s → AreMembers rest w → AreMembers (count + rest) (u ++ (v ++ s ∷ w))

  -- declor {"," declor}; how many there are
  pub data AreDeclors : ℕ → List Lexeme → Type 0 where
    last_declor : (u : List Lexeme) → IsDeclor u → AreDeclors 1 u
    more_declors : (count : ℕ) (c : Lexeme) (u v : List Lexeme) → IsDeclor u → IsA t.Comma c → AreDeclors count v → AreDeclors (suc count) (u ++ c ∷ v)

  -- declor = ["*" {pq}] NAME {"[" [cond] "]"}
  pub data IsDeclor : List Lexeme → Type 0 where
    declor : (n : Lexeme) (u v : List Lexeme) → MayBeStar u → IsA t.Name n → AreLengths v → IsDeclor (u ++ n ∷ v)

  -- {"[" [cond] "]"}
  pub data AreLengths : List Lexeme → Type 0 where
    no_length : AreLengths []
    missing_length : (o c : Lexeme) (v : List Lexeme) → IsA t.OpenBracket o → IsA t.CloseBracket c → AreLengths v → AreLengths (o ∷ c ∷ v)
    length_given : (o c : Lexeme) (u v : List Lexeme) → IsA t.OpenBracket o → IsCond u → IsA t.CloseBracket c → AreLengths v → AreLengths (o ∷ (u ++ c ∷ v))

  -- tname = spec ["*" {pq}]; whether it names a vector
  pub data IsTypeTerm : Bool → List Lexeme → Type 0 where
    plain_type : (vector : Bool) (u : List Lexeme) → IsSpec vector u → IsTypeTerm vector u
    pointer_type : (vector : Bool) (u v : List Lexeme) → IsSpec vector u → IsStar v → IsTypeTerm false (u ++ v)

  -- expr = args = assign {"," assign}
  pub data AreAssigns : List Lexeme → Type 0 where
    last_assign : (u : List Lexeme) → IsAssign u → AreAssigns u
    more_assigns : (c : Lexeme) (u v : List Lexeme) → IsAssign u → IsA t.Comma c → AreAssigns v → AreAssigns (u ++ c ∷ v)

  -- assign = cond | unary asgop assign
  pub data IsAssign : List Lexeme → Type 0 where
    only_cond : (u : List Lexeme) → IsCond u → IsAssign u
    assigned : (o : Lexeme) (op : Option BinOp) (u v : List Lexeme) → IsUnary u → assignment_of o.terminal ≡ Some op → IsAssign v → IsAssign (u ++ o ∷ v)

  -- cond = bin ["?" assign ":" cond]
  pub data IsCond : List Lexeme → Type 0 where
    only_bin : (u : List Lexeme) → IsBin u → IsCond u
    conditional : (q c : Lexeme) (u v w : List Lexeme) → IsBin u → IsA t.Question q → IsAssign v → IsA t.Colon c → IsCond w → IsCond (u ++ q ∷ (v ++ c ∷ w))

  -- bin = cast {binop cast}
  pub data IsBin : List Lexeme → Type 0 where
    only_cast : (u : List Lexeme) → IsCast u → IsBin u
    operated : (o : Lexeme) (op : BinOp) (u v : List Lexeme) → IsCast u → binary_of o.terminal ≡ Some op → IsBin v → IsBin (u ++ o ∷ v)

  -- cast = unary | "(" tname ")" cast | "(" tname that names a vector ")" "(" args ")"
  -- A `(` behind the `)` of a type that names a vector always begins a vector literal.
  pub data IsCast : List Lexeme → Type 0 where
    only_unary : (u : List Lexeme) → IsUnary u → IsCast u
    cast : (o c : Lexeme) (u v : List Lexeme) → IsA t.OpenParen o → IsTypeTerm false u → IsA t.CloseParen c → IsCast v → IsCast (o ∷ (u ++ c ∷ v))
    vector_cast : (o c : Lexeme) (u v : List Lexeme) → IsA t.OpenParen o → IsTypeTerm true u → IsA t.CloseParen c → IsCast v → begins_open v ≡ false → IsCast (o ∷ (u ++ c ∷ v))
    vector_literal : (o c p d : Lexeme) (u v : List Lexeme) → IsA t.OpenParen o → IsTypeTerm true u → IsA t.CloseParen c → IsA t.OpenParen p → AreAssigns v → IsA t.CloseParen d → IsCast (o ∷ (u ++ c ∷ p ∷ (v ++ d ∷ [])))

  -- unary = postfix | ("++"|"--") unary | ("+"|"-"|"~"|"!"|"*"|"&") cast | "sizeof" unary | "sizeof" "(" tname ")"
  pub data IsUnary : List Lexeme → Type 0 where
    only_postfix : (u : List Lexeme) → IsPostfix u → IsUnary u
    incremented : (o : Lexeme) (op : UnOp) (u : List Lexeme) → increment_before o.terminal ≡ Some op → IsUnary u → IsUnary (o ∷ u)
    prefixed : (o : Lexeme) (op : UnOp) (u : List Lexeme) → prefix_of o.terminal ≡ Some op → IsCast u → IsUnary (o ∷ u)
    size_of : (s : Lexeme) (u : List Lexeme) → IsA t.Sizeof s → IsUnary u → IsUnary (s ∷ u)
    size_of_type : (s o c : Lexeme) (vector : Bool) (u : List Lexeme) → IsA t.Sizeof s → IsA t.OpenParen o → IsTypeTerm vector u → IsA t.CloseParen c → IsUnary (s ∷ o ∷ (u ++ c ∷ []))

  -- postfix = prim {"[" expr "]" | ("."|"->") NAME | "++" | "--"}
  pub data IsPostfix : List Lexeme → Type 0 where
    suffixed : (u v : List Lexeme) → IsPrimary u → AreSuffixes v → IsPostfix (u ++ v)

  pub data AreSuffixes : List Lexeme → Type 0 where
    no_suffix : AreSuffixes []
    indexed : (o c : Lexeme) (u v : List Lexeme) → IsA t.OpenBracket o → AreAssigns u → IsA t.CloseBracket c → AreSuffixes v → AreSuffixes (o ∷ (u ++ c ∷ v))
    member : (d n : Lexeme) (arrow : Bool) (v : List Lexeme) → arrow_of d.terminal ≡ Some arrow → IsA t.Name n → AreSuffixes v → AreSuffixes (d ∷ n ∷ v)
    increments : (o : Lexeme) (op : UnOp) (v : List Lexeme) → increment_behind o.terminal ≡ Some op → AreSuffixes v → AreSuffixes (o ∷ v)

  -- prim = NAME | NAME "(" [args] ")" | NUMBER | CHAR | "(" expr ")"
  pub data IsPrimary : List Lexeme → Type 0 where
    name : (n : Lexeme) → IsA t.Name n → IsPrimary (n ∷ [])
    call_of_none : (n o c : Lexeme) → IsA t.Name n → IsA t.OpenParen o → IsA t.CloseParen c → IsPrimary (n ∷ o ∷ c ∷ [])
    call : (n o c : Lexeme) (u : List Lexeme) → IsA t.Name n → IsA t.OpenParen o → AreAssigns u → IsA t.CloseParen c → IsPrimary (n ∷ o ∷ (u ++ c ∷ []))
    number : (n : Lexeme) (value ty : ℕ) → IsA (t.Number value ty) n → IsPrimary (n ∷ [])
    brackets : (o c : Lexeme) (u : List Lexeme) → IsA t.OpenParen o → AreAssigns u → IsA t.CloseParen c → IsPrimary (o ∷ (u ++ c ∷ []))
