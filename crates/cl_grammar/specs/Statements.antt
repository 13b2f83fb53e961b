-- The tokens that are a declaration, a statement or a part of one (C99 6.7 to 6.9; OpenCL C 1.2, 6.7 and 6.11). A line of
-- the grammar stands before its cases, as in `Expressions`.
use Rattle.std.specs.Prelude.{◌≡◌, ℕ, Bool, true, false, ◌&&◌, ◌||◌, List, [], ◌∷◌, ◌++◌, codes, bytes_eq}
use Rattle.cl_grammar.specs.declared.lexeme.Lexeme.{Lexeme}
use Rattle.cl_grammar.specs.declared.names.TypeName.{TypeName}
use Rattle.cl_grammar.specs.declared.terminal.Terminal.{Terminal}
use Rattle.cl_grammar.specs.declared.terminal.Terminal.TheVariants as t
use Rattle.cl_grammar.specs.Expressions.{IsA, IsSpec, IsDeclor, MayBeStar, AreLengths, IsInteger, AreAssigns, IsAssign, IsCond}

-- [expr]
pub data MayBeAssigns : List Lexeme → Type 0 where
  none : MayBeAssigns []
  some : (u : List Lexeme) → AreAssigns u → MayBeAssigns u

mutual
  -- init = assign | "{" init {"," init} [","] "}"
  pub data IsInit : List Lexeme → Type 0 where
    value : (u : List Lexeme) → IsAssign u → IsInit u
    braces : (o c : Lexeme) (u : List Lexeme) → IsA t.OpenBrace o → AreInits u → IsA t.CloseBrace c → IsInit (o ∷ (u ++ c ∷ []))

  -- init {"," init} [","]
  pub data AreInits : List Lexeme → Type 0 where
    last_init : (u : List Lexeme) → IsInit u → AreInits u
    last_with_comma : (c : Lexeme) (u : List Lexeme) → IsInit u → IsA t.Comma c → AreInits (u ++ c ∷ [])
    more_inits : (c : Lexeme) (u v : List Lexeme) → IsInit u → IsA t.Comma c → AreInits v → AreInits (u ++ c ∷ v)

-- declor ["=" init]
pub data IsInitDeclor : List Lexeme → Type 0 where
  bare : (u : List Lexeme) → IsDeclor u → IsInitDeclor u
  initialised : (e : Lexeme) (u v : List Lexeme) → IsDeclor u → IsA t.Equals e → IsInit v → IsInitDeclor (u ++ e ∷ v)

-- inits = declor ["=" init] {"," declor ["=" init]}
pub data AreInitDeclors : List Lexeme → Type 0 where
  last : (u : List Lexeme) → IsInitDeclor u → AreInitDeclors u
  more : (c : Lexeme) (u v : List Lexeme) → IsInitDeclor u → IsA t.Comma c → AreInitDeclors v → AreInitDeclors (u ++ c ∷ v)

-- label = "case" cond ":" | "default" ":"
pub data IsLabel : List Lexeme → Type 0 where
  case : (l k : Lexeme) (u : List Lexeme) → IsA t.Case l → IsCond u → IsA t.Colon k → IsLabel (l ∷ (u ++ k ∷ []))
  default : (l k : Lexeme) → IsA t.Default l → IsA t.Colon k → IsLabel (l ∷ k ∷ [])

-- label {label}
pub data AreLabels : List Lexeme → Type 0 where
  last : (u : List Lexeme) → IsLabel u → AreLabels u
  more : (u v : List Lexeme) → IsLabel u → AreLabels v → AreLabels (u ++ v)

-- what stands behind the `(` of a `for`, up to its first `;`: spec inits ";" | [expr] ";"
pub data IsForStart : List Lexeme → Type 0 where
  declares : (vector : Bool) (s : Lexeme) (u v : List Lexeme) → IsSpec vector u → AreInitDeclors v → IsA t.Semicolon s → IsForStart (u ++ (v ++ s ∷ []))
  evaluates : (s : Lexeme) (u : List Lexeme) → MayBeAssigns u → IsA t.Semicolon s → IsForStart (u ++ s ∷ [])

mutual
  -- block = "{" {item} "}"
  pub data IsBlock : List Lexeme → Type 0 where
    block : (o c : Lexeme) (u : List Lexeme) → IsA t.OpenBrace o → AreItems u → IsA t.CloseBrace c → IsBlock (o ∷ (u ++ c ∷ []))

  -- {item}
  pub data AreItems : List Lexeme → Type 0 where
    no_item : AreItems []
    more_items : (u v : List Lexeme) → IsItem u → AreItems v → AreItems (u ++ v)

  -- item = spec [inits] ";" | stmt
  pub data IsItem : List Lexeme → Type 0 where
    type_alone : (vector : Bool) (s : Lexeme) (u : List Lexeme) → IsSpec vector u → IsA t.Semicolon s → IsItem (u ++ s ∷ [])
    declaration : (vector : Bool) (s : Lexeme) (u v : List Lexeme) → IsSpec vector u → AreInitDeclors v → IsA t.Semicolon s → IsItem (u ++ (v ++ s ∷ []))
    statement : (u : List Lexeme) → IsStmt u → IsItem u

  -- stmt = block | [expr] ";" | "if" "(" expr ")" stmt ["else" stmt] | "while" "(" expr ")" stmt | "do" stmt "while" "(" expr ")" ";"
  --      | "for" "(" (spec inits ";" | [expr] ";") [expr] ";" [expr] ")" stmt | "switch" "(" expr ")" "{" {label {label} {item}} "}"
  --      | "break" ";" | "continue" ";" | "return" [expr] ";"
  pub data IsStmt : List Lexeme → Type 0 where
    compound : (u : List Lexeme) → IsBlock u → IsStmt u
    empty : (s : Lexeme) → IsA t.Semicolon s → IsStmt (s ∷ [])
    expression : (s : Lexeme) (u : List Lexeme) → AreAssigns u → IsA t.Semicolon s → IsStmt (u ++ s ∷ [])
    only_if : (i o c : Lexeme) (u v : List Lexeme) → IsA t.If i → IsA t.OpenParen o → AreAssigns u → IsA t.CloseParen c → IsStmt v → IsStmt (i ∷ o ∷ (u ++ c ∷ v))
    if_else : (i o c e : Lexeme) (u v w : List Lexeme) → IsA t.If i → IsA t.OpenParen o → AreAssigns u → IsA t.CloseParen c → IsStmt v → IsA t.Else e → IsStmt w → IsStmt (i ∷ o ∷ (u ++ c ∷ (v ++ e ∷ w)))
    while_loop : (h o c : Lexeme) (u v : List Lexeme) → IsA t.While h → IsA t.OpenParen o → AreAssigns u → IsA t.CloseParen c → IsStmt v → IsStmt (h ∷ o ∷ (u ++ c ∷ v))
    do_loop : (d h o c s : Lexeme) (u v : List Lexeme) → IsA t.Do d → IsStmt u → IsA t.While h → IsA t.OpenParen o → AreAssigns v → IsA t.CloseParen c → IsA t.Semicolon s → IsStmt (d ∷ (u ++ h ∷ o ∷ (v ++ c ∷ s ∷ [])))
    for_loop : (f o s c : Lexeme) (u v w x : List Lexeme) → IsA t.For f → IsA t.OpenParen o → IsForStart u → MayBeAssigns v → IsA t.Semicolon s → MayBeAssigns w → IsA t.CloseParen c → IsStmt x → IsStmt (f ∷ o ∷ (u ++ (v ++ s ∷ (w ++ c ∷ x))))
    switch : (h o c b d : Lexeme) (u v : List Lexeme) → IsA t.Switch h → IsA t.OpenParen o → AreAssigns u → IsA t.CloseParen c → IsA t.OpenBrace b → AreSections v → IsA t.CloseBrace d → IsStmt (h ∷ o ∷ (u ++ c ∷ b ∷ (v ++ d ∷ [])))
    break : (h s : Lexeme) → IsA t.Break h → IsA t.Semicolon s → IsStmt (h ∷ s ∷ [])
    continue : (h s : Lexeme) → IsA t.Continue h → IsA t.Semicolon s → IsStmt (h ∷ s ∷ [])
    return : (h s : Lexeme) (u : List Lexeme) → IsA t.Return h → MayBeAssigns u → IsA t.Semicolon s → IsStmt (h ∷ (u ++ s ∷ []))

  -- {label {label} {item}}
  pub data AreSections : List Lexeme → Type 0 where
    no_section : AreSections []
    more_sections : (u v w : List Lexeme) → AreLabels u → AreItems v → AreSections w → AreSections (u ++ (v ++ w))

-- A parameter; whether it has a name: param = spec ["*" {pq}] [NAME]
pub data IsParam : Bool → List Lexeme → Type 0 where
  unnamed : (vector : Bool) (u v : List Lexeme) → IsSpec vector u → MayBeStar v → IsParam false (u ++ v)
  named : (vector : Bool) (n : Lexeme) (u v : List Lexeme) → IsSpec vector u → MayBeStar v → IsA t.Name n → IsParam true (u ++ (v ++ n ∷ []))

-- param {"," param}; whether each has a name
pub data AreParams : Bool → List Lexeme → Type 0 where
  last : (named : Bool) (u : List Lexeme) → IsParam named u → AreParams named u
  more : (named others : Bool) (c : Lexeme) (u v : List Lexeme) → IsParam named u → IsA t.Comma c → AreParams others v → AreParams (named && others) (u ++ c ∷ v)

-- params = ["void"] | param {"," param}; whether each parameter has a name
pub data IsParamList : Bool → List Lexeme → Type 0 where
  none : IsParamList true []
  void : (v : Lexeme) → IsA t.Void v → IsParamList true (v ∷ [])
  params : (named : Bool) (u : List Lexeme) → AreParams named u → IsParamList named u

-- the types of a hint by one word
abbrev pub hints : Terminal → Bool
hints (t.UnsignedInt bits) = true
hints (t.Vector bits signed n) = true
hints (t.TypeName vector) = true
hints _ = false

-- hint = intbase | VECTOR | "uchar" | "ushort" | "uint" | "ulong" | TYPENAME
pub data IsHint : List Lexeme → Type 0 where
  word : (w : Lexeme) → hints w.terminal ≡ true → IsHint (w ∷ [])
  integer : (u : List Lexeme) → IsInteger u → IsHint u

-- the names of the attributes (OpenCL C 1.2, 6.7.2)
abbrev pub is_vector_hint : List ℕ → Bool
is_vector_hint text = bytes_eq text (codes "vec_type_hint")

abbrev pub is_required_size : List ℕ → Bool
is_required_size text = bytes_eq text (codes "reqd_work_group_size")

abbrev pub is_size_name : List ℕ → Bool
is_size_name text = is_required_size text || bytes_eq text (codes "work_group_size_hint")

-- fword = "__kernel" | "kernel" | "inline" | "static" | attribute
-- attribute = "__attribute__" "(" "(" ("vec_type_hint" "(" hint ")" | a size's name ["(" args ")"]) ")" ")"
-- `vec_type_hint` is known by its spelling, also where a typedef declared that name.
pub data IsWord : List Lexeme → Type 0 where
  kernel : (w : Lexeme) → IsA t.Kernel w → IsWord (w ∷ [])
  inline : (w : Lexeme) → IsA t.Inline w → IsWord (w ∷ [])
  static : (w : Lexeme) → IsA t.Static w → IsWord (w ∷ [])
  vector_hint : (a o p n q c d e : Lexeme) (u : List Lexeme) → IsA t.Attribute a → IsA t.OpenParen o → IsA t.OpenParen p → is_vector_hint n.text ≡ true → IsA t.OpenParen q → IsHint u → IsA t.CloseParen c → IsA t.CloseParen d → IsA t.CloseParen e → IsWord (a ∷ o ∷ p ∷ n ∷ q ∷ (u ++ c ∷ d ∷ e ∷ []))
  size_alone : (a o p n d e : Lexeme) → IsA t.Attribute a → IsA t.OpenParen o → IsA t.OpenParen p → IsA t.Name n → is_size_name n.text ≡ true → IsA t.CloseParen d → IsA t.CloseParen e → IsWord (a ∷ o ∷ p ∷ n ∷ d ∷ e ∷ [])
  size : (a o p n q c d e : Lexeme) (u : List Lexeme) → IsA t.Attribute a → IsA t.OpenParen o → IsA t.OpenParen p → IsA t.Name n → is_size_name n.text ≡ true → IsA t.OpenParen q → AreAssigns u → IsA t.CloseParen c → IsA t.CloseParen d → IsA t.CloseParen e → IsWord (a ∷ o ∷ p ∷ n ∷ q ∷ (u ++ c ∷ d ∷ e ∷ []))

-- {fword}
pub data AreWords : List Lexeme → Type 0 where
  none : AreWords []
  more : (u v : List Lexeme) → IsWord u → AreWords v → AreWords (u ++ v)

-- ["static"]
pub data MayBeStatic : List Lexeme → Type 0 where
  none : MayBeStatic []
  static : (w : Lexeme) → IsA t.Static w → MayBeStatic (w ∷ [])

abbrev pub is_none : List Lexeme → Bool
is_none [] = true
is_none (l ∷ ls) = false

-- external = "typedef" spec declor ";" | spec ";" | ["static"] spec inits ";" | {fword} spec NAME "(" params ")" (";" | block)
-- A block stands only behind parameters that have names. The first index has what a typedef declares: a name, which names a
-- vector type where it stands for one by itself, as no pointer and no array.
pub data IsExternal : List TypeName → List Lexeme → Type 0 where
  typedef : (vector : Bool) (h n s : Lexeme) (u v w : List Lexeme) → IsA t.Typedef h → IsSpec vector u → MayBeStar v → IsA t.Name n → AreLengths w → IsA t.Semicolon s → IsExternal (record { name = n.text; vector = vector && (is_none v && is_none w) } ∷ []) (h ∷ (u ++ (v ++ n ∷ (w ++ s ∷ []))))
  types : (vector : Bool) (s : Lexeme) (u : List Lexeme) → IsSpec vector u → IsA t.Semicolon s → IsExternal [] (u ++ s ∷ [])
  constants : (vector : Bool) (s : Lexeme) (u v w : List Lexeme) → MayBeStatic u → IsSpec vector v → AreInitDeclors w → IsA t.Semicolon s → IsExternal [] (u ++ (v ++ (w ++ s ∷ [])))
  declared : (vector named : Bool) (n o c s : Lexeme) (u v w : List Lexeme) → AreWords u → IsSpec vector v → IsA t.Name n → IsA t.OpenParen o → IsParamList named w → IsA t.CloseParen c → IsA t.Semicolon s → IsExternal [] (u ++ (v ++ n ∷ o ∷ (w ++ c ∷ s ∷ [])))
  defined : (vector : Bool) (n o c : Lexeme) (u v w x : List Lexeme) → AreWords u → IsSpec vector v → IsA t.Name n → IsA t.OpenParen o → IsParamList true w → IsA t.CloseParen c → IsBlock x → IsExternal [] (u ++ (v ++ n ∷ o ∷ (w ++ c ∷ x)))
