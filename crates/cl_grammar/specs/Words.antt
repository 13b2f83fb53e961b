-- Which terminal a word is: the keywords of the language and those that this subset leaves out (C99 6.4.1; OpenCL C 1.2, 6.1).
use Rattle.std.specs.Prelude.{ℕ, Bool, true, false, ◌&&◌, nat_eq, nat_lt, if◌then◌else◌, List, [], ◌∷◌, length, Option, Some, None, unwrap_or, codes, bytes_eq}
use Rattle.std.specs.List.{starts_with, ends_with}
use Rattle.cl_types.specs.declared.space.Space.TheVariants as space
use Rattle.cl_grammar.specs.declared.terminal.Terminal.{Terminal}
use Rattle.cl_grammar.specs.declared.terminal.Terminal.TheVariants as t

-- spellings that stand for one terminal each
unfoldable pub words : List (List ℕ × Terminal)
words =
    (codes "typedef", t.Typedef) ∷ (codes "kernel", t.Kernel) ∷ (codes "__kernel", t.Kernel) ∷
    (codes "inline", t.Inline) ∷ (codes "static", t.Static) ∷ (codes "__attribute__", t.Attribute) ∷ (codes "const", t.Const) ∷ (codes "volatile", t.Volatile) ∷
    (codes "restrict", t.Restrict) ∷ (codes "__restrict", t.Restrict) ∷
    (codes "global", t.Space space.Global) ∷ (codes "__global", t.Space space.Global) ∷ (codes "constant", t.Space space.Constant) ∷ (codes "__constant", t.Space space.Constant) ∷
    (codes "local", t.Space space.Local) ∷ (codes "__local", t.Space space.Local) ∷ (codes "private", t.Space space.Private) ∷ (codes "__private", t.Space space.Private) ∷
    (codes "void", t.Void) ∷ (codes "bool", t.Bool) ∷ (codes "signed", t.Signed) ∷ (codes "unsigned", t.Unsigned) ∷
    (codes "char", t.Char) ∷ (codes "short", t.Short) ∷ (codes "int", t.Int) ∷ (codes "long", t.Long) ∷
    (codes "uchar", t.UnsignedInt 8) ∷ (codes "ushort", t.UnsignedInt 16) ∷ (codes "uint", t.UnsignedInt 32) ∷ (codes "ulong", t.UnsignedInt 64) ∷
    (codes "char2", t.Vector 8 true 2) ∷ (codes "char3", t.Vector 8 true 3) ∷ (codes "char4", t.Vector 8 true 4) ∷
    (codes "uchar2", t.Vector 8 false 2) ∷ (codes "uchar3", t.Vector 8 false 3) ∷ (codes "uchar4", t.Vector 8 false 4) ∷
    (codes "short2", t.Vector 16 true 2) ∷ (codes "short3", t.Vector 16 true 3) ∷ (codes "short4", t.Vector 16 true 4) ∷
    (codes "ushort2", t.Vector 16 false 2) ∷ (codes "ushort3", t.Vector 16 false 3) ∷ (codes "ushort4", t.Vector 16 false 4) ∷
    (codes "int2", t.Vector 32 true 2) ∷ (codes "int3", t.Vector 32 true 3) ∷ (codes "int4", t.Vector 32 true 4) ∷
    (codes "uint2", t.Vector 32 false 2) ∷ (codes "uint3", t.Vector 32 false 3) ∷ (codes "uint4", t.Vector 32 false 4) ∷
    (codes "long2", t.Vector 64 true 2) ∷ (codes "long3", t.Vector 64 true 3) ∷ (codes "long4", t.Vector 64 true 4) ∷
    (codes "ulong2", t.Vector 64 false 2) ∷ (codes "ulong3", t.Vector 64 false 3) ∷ (codes "ulong4", t.Vector 64 false 4) ∷
    (codes "size_t", t.Sized false) ∷ (codes "ptrdiff_t", t.Sized true) ∷ (codes "intptr_t", t.Sized true) ∷ (codes "uintptr_t", t.Sized false) ∷
    (codes "struct", t.Struct) ∷ (codes "if", t.If) ∷ (codes "else", t.Else) ∷ (codes "while", t.While) ∷ (codes "do", t.Do) ∷
    (codes "for", t.For) ∷ (codes "switch", t.Switch) ∷ (codes "case", t.Case) ∷ (codes "default", t.Default) ∷ (codes "break", t.Break) ∷ (codes "continue", t.Continue) ∷ (codes "return", t.Return) ∷ (codes "sizeof", t.Sizeof) ∷
    (codes "float", t.Refused) ∷ (codes "float2", t.Refused) ∷ (codes "float3", t.Refused) ∷ (codes "float4", t.Refused) ∷ (codes "float8", t.Refused) ∷ (codes "float16", t.Refused) ∷
    (codes "double", t.Refused) ∷ (codes "double2", t.Refused) ∷ (codes "double3", t.Refused) ∷ (codes "double4", t.Refused) ∷ (codes "double8", t.Refused) ∷ (codes "double16", t.Refused) ∷
    (codes "half", t.Refused) ∷ (codes "half2", t.Refused) ∷ (codes "half3", t.Refused) ∷ (codes "half4", t.Refused) ∷ (codes "half8", t.Refused) ∷ (codes "half16", t.Refused) ∷
    (codes "char8", t.Refused) ∷ (codes "char16", t.Refused) ∷ (codes "uchar8", t.Refused) ∷ (codes "uchar16", t.Refused) ∷
    (codes "short8", t.Refused) ∷ (codes "short16", t.Refused) ∷ (codes "ushort8", t.Refused) ∷ (codes "ushort16", t.Refused) ∷
    (codes "int8", t.Refused) ∷ (codes "int16", t.Refused) ∷ (codes "uint8", t.Refused) ∷ (codes "uint16", t.Refused) ∷
    (codes "long8", t.Refused) ∷ (codes "long16", t.Refused) ∷ (codes "ulong8", t.Refused) ∷ (codes "ulong16", t.Refused) ∷
    (codes "goto", t.Refused) ∷ (codes "enum", t.Refused) ∷ (codes "union", t.Refused) ∷ (codes "auto", t.Refused) ∷ (codes "register", t.Refused) ∷ (codes "extern", t.Refused) ∷ (codes "printf", t.Refused) ∷ (codes "sampler_t", t.Refused) ∷ (codes "event_t", t.Refused) ∷
    (codes "read_only", t.Refused) ∷ (codes "write_only", t.Refused) ∷ (codes "__read_only", t.Refused) ∷ (codes "__write_only", t.Refused) ∷ []

-- the terminal that a word is by a list of spellings, if it is one of them
abbrev pub meaning_among : List (List ℕ × Terminal) → List ℕ → Option Terminal
meaning_among [] word = None
meaning_among (m ∷ ms) word = if bytes_eq m.0 word then Some m.1 else meaning_among ms word

-- the names of image types: each name that begins with `image` and ends in `_t`
abbrev pub is_image : List ℕ → Bool
is_image word = starts_with nat_eq word (codes "image") && ends_with nat_eq word (codes "_t")

-- A word of more than 65,535 bytes stands in no sentence. A word that is none of the above is a name.
unfoldable pub terminal_of_word : List ℕ → Terminal
terminal_of_word word =
    if nat_lt 65535 (length word) then t.Stray
    else if is_image word then t.Refused
    else unwrap_or (meaning_among words word) t.Name
