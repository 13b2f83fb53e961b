-- The names of directives (C99 6.10).
use Rattle.std.specs.Prelude.{Bool, if◌then◌else◌, List, ℕ, codes, bytes_eq}
use Rattle.cl_lexer.specs.declared.token.TokenKind.{TokenKind}
use Rattle.cl_lexer.specs.declared.token.TokenKind.TheVariants as kind
use Rattle.cl_macro.specs.Names.{Name}
use Rattle.cl_pre.specs.declared.word.Word.{Word}
use Rattle.cl_pre.specs.declared.word.Word.TheVariants as word

abbrev pub word_of_name : Name → Word
word_of_name n =
    if bytes_eq n (codes "if") then word.If
    else if bytes_eq n (codes "ifdef") then word.Ifdef
    else if bytes_eq n (codes "ifndef") then word.Ifndef
    else if bytes_eq n (codes "elif") then word.Elif
    else if bytes_eq n (codes "else") then word.Else
    else if bytes_eq n (codes "endif") then word.Endif
    else if bytes_eq n (codes "define") then word.Define
    else if bytes_eq n (codes "undef") then word.Undef
    else if bytes_eq n (codes "error") then word.Error
    else if bytes_eq n (codes "pragma") then word.Pragma
    else word.Unknown

-- the directive that a token behind `#` names
abbrev pub word_of : TokenKind → Word
word_of (kind.Name n) = word_of_name n
word_of _ = word.Unknown

abbrev pub is_defined_word : Name → Bool
is_defined_word n = bytes_eq n (codes "defined")
