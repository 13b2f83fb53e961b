-- The predefined macros (OpenCL C 1.2, 6.10 and 6.12.3).
use Rattle.std.specs.Prelude.{ℕ, zero, suc, Bool, true, false, List, [], ◌∷◌, ◌++◌, Some, None, codes, slice_index_or}
use Rattle.clv_place.specs.declared.place.Place.{Place}
use Rattle.cl_lexer.specs.declared.token.Token.{Token}
use Rattle.cl_lexer.specs.declared.token.TokenKind.{TokenKind}
use Rattle.cl_lexer.specs.declared.token.TokenKind.TheVariants as kind
use Rattle.cl_macro.specs.declared.macros.Entry.{Entry}
use Rattle.cl_macro.specs.declared.macros.Macro.{Macro}
use Rattle.cl_macro.specs.Names.{Name, has}
use Rattle.cl_pre.specs.declared.predefined.Limit.{Limit}
use Rattle.cl_pre.specs.declared.predefined.Limit.TheVariants.{Number, Least, SignedMax, SignedMin}

-- Their names, in the order of their tokens.
unfoldable pub names : List Name
names =
    codes "__OPENCL_VERSION__" ∷ codes "__OPENCL_C_VERSION__" ∷ codes "CL_VERSION_1_2" ∷ codes "CL_VERSION_1_1" ∷ codes "CL_VERSION_1_0" ∷
    codes "__ENDIAN_LITTLE__" ∷ codes "CHAR_BIT" ∷ codes "CHAR_MAX" ∷ codes "CHAR_MIN" ∷ codes "SCHAR_MAX" ∷ codes "SCHAR_MIN" ∷
    codes "SHRT_MAX" ∷ codes "SHRT_MIN" ∷ codes "INT_MAX" ∷ codes "INT_MIN" ∷ codes "LONG_MAX" ∷ codes "LONG_MIN" ∷ codes "UCHAR_MAX" ∷
    codes "USHRT_MAX" ∷ codes "UINT_MAX" ∷ codes "ULONG_MAX" ∷ codes "CLK_LOCAL_MEM_FENCE" ∷ codes "CLK_GLOBAL_MEM_FENCE" ∷ codes "true" ∷
    codes "false" ∷ []

-- What they stand for. Number n t: the number n of type t (0 int, 1 uint, 2 long, 3 ulong). Least n t: `(-n - 1)`. SignedMax and SignedMin: the names `SCHAR_MAX` and `SCHAR_MIN`.
unfoldable pub limits : List Limit
limits =
    Number 120 0 ∷ Number 120 0 ∷ Number 120 0 ∷ Number 110 0 ∷ Number 100 0 ∷
    Number 1 0 ∷ Number 8 0 ∷ SignedMax ∷ SignedMin ∷ Number 127 0 ∷ Least 127 0 ∷
    Number 32767 0 ∷ Least 32767 0 ∷ Number 2147483647 0 ∷ Least 2147483647 0 ∷ Number 9223372036854775807 2 ∷ Least 9223372036854775807 2 ∷ Number 255 0 ∷
    Number 65535 0 ∷ Number 4294967295 1 ∷ Number 18446744073709551615 3 ∷ Number 1 0 ∷ Number 2 0 ∷ Number 1 0 ∷
    Number 0 0 ∷ []

abbrev pub count : ℕ
count = 25

abbrev pub is_predefined : Name → Bool
is_predefined n = has n names

abbrev pub name_at : ℕ → Name
name_at i = slice_index_or names i []

abbrev pub limit_at : ℕ → Limit
limit_at i = slice_index_or limits i (Number 0 0)

-- a token of a predefined macro, with a space before it or not; its place tells nothing
abbrev pub token_of : Bool → TokenKind → Token
token_of spaced k = record { kind = k; place = record { line = 1; col = 1 }; first = false; spaced = spaced }

abbrev pub tokens_of : Limit → List Token
tokens_of (Number n t) = token_of true (kind.Number n t) ∷ []
tokens_of (Least n t) =
    token_of true (kind.Mark 8) ∷ token_of false (kind.Mark 16) ∷ token_of false (kind.Number n t) ∷ token_of true (kind.Mark 16) ∷
    token_of true (kind.Number 1 0) ∷ token_of false (kind.Mark 9) ∷ []
tokens_of SignedMax = token_of true (kind.Name (codes "SCHAR_MAX")) ∷ []
tokens_of SignedMin = token_of true (kind.Name (codes "SCHAR_MIN")) ∷ []

abbrev pub entry_at : ℕ → Entry
entry_at i = record { name = name_at i; means = Some (record { params = None; body = tokens_of (limit_at i) }) }

-- the first of them
abbrev pub first_of : ℕ → List Entry
first_of zero = []
first_of (suc n) = first_of n ++ entry_at n ∷ []

abbrev pub predefined : List Entry
predefined = first_of count
