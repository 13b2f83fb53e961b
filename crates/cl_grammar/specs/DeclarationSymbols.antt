-- The symbols of declarations at file scope: their lines in `Statements`, and what is left of one of which a piece was read.
use Rattle.std.specs.Prelude.{◌≡◌, Bool, true, false, List, [], ◌∷◌, ◌++◌}
use Rattle.cl_grammar.specs.declared.lexeme.Lexeme.{Lexeme}
use Rattle.cl_grammar.specs.declared.names.TypeName.{TypeName}
use Rattle.cl_grammar.specs.declared.terminal.Terminal.{Terminal}
use Rattle.cl_grammar.specs.declared.terminal.Terminal.TheVariants as t
use Rattle.cl_grammar.specs.Expressions.{IsA, IsSpec, MayBeStar, AreAssigns}
use Rattle.cl_grammar.specs.Statements.{AreInitDeclors, IsBlock, IsHint, IsExternal, hints, is_vector_hint, is_size_name}

pub data DeclSym : Type 0 where
  External : DeclSym
  Words : Bool → Bool → DeclSym
  BehindType : Bool → Bool → DeclSym
  Function : DeclSym
  Params : DeclSym
  NextParam : Bool → DeclSym
  ParamName : Bool → DeclSym
  BehindParam : Bool → DeclSym
  BehindParams : Bool → DeclSym
  Word : DeclSym
  InAttribute : DeclSym
  BehindSize : DeclSym
  Hint : DeclSym
  HintWord : DeclSym
  VectorHint : DeclSym
  SizeName : DeclSym

-- an external, whatever it declares
pub data IsAnyExternal : List Lexeme → Type 0 where
  any_external : (declared : List TypeName) (u : List Lexeme) → IsExternal declared u → IsAnyExternal u

-- ";" | block. A block stands only where all parameters have names.
pub data IsBehindParams : Bool → List Lexeme → Type 0 where
  declared : (named : Bool) (s : Lexeme) → IsA t.Semicolon s → IsBehindParams named (s ∷ [])
  defined : (u : List Lexeme) → IsBlock u → IsBehindParams true u

mutual
  -- param {"," param} ")" (";" | block), where all parameters before have names, or don't
  pub data IsNextParam : Bool → List Lexeme → Type 0 where
    next_param : (named vector : Bool) (u v w : List Lexeme) → IsSpec vector u → MayBeStar v → IsParamName named w → IsNextParam named (u ++ (v ++ w))

  -- [NAME] {"," param} ")" (";" | block)
  pub data IsParamName : Bool → List Lexeme → Type 0 where
    has_name : (named : Bool) (n : Lexeme) (u : List Lexeme) → IsA t.Name n → IsBehindParam named u → IsParamName named (n ∷ u)
    has_none : (named : Bool) (u : List Lexeme) → IsBehindParam false u → IsParamName named u

  -- {"," param} ")" (";" | block)
  pub data IsBehindParam : Bool → List Lexeme → Type 0 where
    another : (named : Bool) (c : Lexeme) (u : List Lexeme) → IsA t.Comma c → IsNextParam named u → IsBehindParam named (c ∷ u)
    close : (named : Bool) (c : Lexeme) (u : List Lexeme) → IsA t.CloseParen c → IsBehindParams named u → IsBehindParam named (c ∷ u)

-- params ")" (";" | block)
pub data IsParams : List Lexeme → Type 0 where
  no_param : (c : Lexeme) (u : List Lexeme) → IsA t.CloseParen c → IsBehindParams true u → IsParams (c ∷ u)
  only_void : (v c : Lexeme) (u : List Lexeme) → IsA t.Void v → IsA t.CloseParen c → IsBehindParams true u → IsParams (v ∷ c ∷ u)
  some_params : (u : List Lexeme) → IsNextParam true u → IsParams u

-- NAME "(" params ")" (";" | block)
pub data IsFunction : List Lexeme → Type 0 where
  function : (n o : Lexeme) (u : List Lexeme) → IsA t.Name n → IsA t.OpenParen o → IsParams u → IsFunction (n ∷ o ∷ u)

-- "vec_type_hint", also where a typedef declared that name, and the names of the sizes
pub data IsVectorHint : List Lexeme → Type 0 where
  vector_hint : (n : Lexeme) → is_vector_hint n.text ≡ true → IsVectorHint (n ∷ [])

pub data IsSizeName : List Lexeme → Type 0 where
  size_name : (n : Lexeme) → IsA t.Name n → is_size_name n.text ≡ true → IsSizeName (n ∷ [])

-- a hint by one word
pub data IsHintWord : List Lexeme → Type 0 where
  hint_word : (w : Lexeme) → hints w.terminal ≡ true → IsHintWord (w ∷ [])

-- ["(" args ")"] ")" ")"
pub data IsBehindSize : List Lexeme → Type 0 where
  no_argument : (d e : Lexeme) → IsA t.CloseParen d → IsA t.CloseParen e → IsBehindSize (d ∷ e ∷ [])
  arguments : (q c d e : Lexeme) (u : List Lexeme) → IsA t.OpenParen q → AreAssigns u → IsA t.CloseParen c → IsA t.CloseParen d → IsA t.CloseParen e → IsBehindSize (q ∷ (u ++ c ∷ d ∷ e ∷ []))

-- ("vec_type_hint" "(" hint ")" | a size's name ["(" args ")"]) ")" ")"
pub data IsInAttribute : List Lexeme → Type 0 where
  of_vector : (n q c d e : Lexeme) (u : List Lexeme) → IsVectorHint (n ∷ []) → IsA t.OpenParen q → IsHint u → IsA t.CloseParen c → IsA t.CloseParen d → IsA t.CloseParen e → IsInAttribute (n ∷ q ∷ (u ++ c ∷ d ∷ e ∷ []))
  of_size : (n : Lexeme) (u : List Lexeme) → IsSizeName (n ∷ []) → IsBehindSize u → IsInAttribute (n ∷ u)

-- fword but "static"
pub data IsOtherWord : List Lexeme → Type 0 where
  kernel : (w : Lexeme) → IsA t.Kernel w → IsOtherWord (w ∷ [])
  inline : (w : Lexeme) → IsA t.Inline w → IsOtherWord (w ∷ [])
  attribute : (a o p : Lexeme) (u : List Lexeme) → IsA t.Attribute a → IsA t.OpenParen o → IsA t.OpenParen p → IsInAttribute u → IsOtherWord (a ∷ o ∷ p ∷ u)

-- What stands behind the type of an external that is no typedef: ";" where no word stands before it, inits ";" where at most
-- one `static` does, or a function.
pub data IsBehindType : Bool → Bool → List Lexeme → Type 0 where
  type_alone : (s : Lexeme) → IsA t.Semicolon s → IsBehindType true true (s ∷ [])
  names : (lone : Bool) (s : Lexeme) (u : List Lexeme) → AreInitDeclors u → IsA t.Semicolon s → IsBehindType lone true (u ++ s ∷ [])
  of_function : (lone variables : Bool) (u : List Lexeme) → IsFunction u → IsBehindType lone variables u

-- {fword} spec and what stands behind, where no word was read so far, one `static`, or other words
pub data IsWords : Bool → Bool → List Lexeme → Type 0 where
  static : (lone variables : Bool) (s : Lexeme) (u : List Lexeme) → IsA t.Static s → IsWords false lone u → IsWords lone variables (s ∷ u)
  word : (lone variables : Bool) (u v : List Lexeme) → IsOtherWord u → IsWords false false v → IsWords lone variables (u ++ v)
  typed : (lone variables vector : Bool) (u v : List Lexeme) → IsSpec vector u → IsBehindType lone variables v → IsWords lone variables (u ++ v)

-- tokens that a symbol of declarations stands for
abbrev pub is_decl : DeclSym → List Lexeme → Type 0
is_decl External u = IsAnyExternal u
is_decl (Words lone variables) u = IsWords lone variables u
is_decl (BehindType lone variables) u = IsBehindType lone variables u
is_decl Function u = IsFunction u
is_decl Params u = IsParams u
is_decl (NextParam named) u = IsNextParam named u
is_decl (ParamName named) u = IsParamName named u
is_decl (BehindParam named) u = IsBehindParam named u
is_decl (BehindParams named) u = IsBehindParams named u
is_decl Word u = IsOtherWord u
is_decl InAttribute u = IsInAttribute u
is_decl BehindSize u = IsBehindSize u
is_decl Hint u = IsHint u
is_decl HintWord u = IsHintWord u
is_decl VectorHint u = IsVectorHint u
is_decl SizeName u = IsSizeName u

abbrev pub is_else : Terminal → Bool
is_else t.Else = true
is_else _ = false

abbrev pub is_width_word : Terminal → Bool
is_width_word t.Char = true
is_width_word t.Short = true
is_width_word t.Int = true
is_width_word t.Long = true
is_width_word _ = false

-- The tokens that may go on after what is such a symbol already: a block that stands last ends in no statement that `else`
-- would go on with, and the others begin with none.
abbrev pub decl_continues : DeclSym → Terminal → Bool
decl_continues Word t = false
decl_continues InAttribute t = false
decl_continues BehindSize t = false
decl_continues Hint t = is_width_word t
decl_continues HintWord t = false
decl_continues VectorHint t = false
decl_continues SizeName t = false
decl_continues _ t = is_else t
