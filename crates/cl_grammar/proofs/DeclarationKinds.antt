-- What may stand first in a part of declarations, and what goes on with one.
use Rattle.std.proofs.Common.{◌≡◌, ℕ, Bool, true, false, List, [], ◌∷◌, ◌++◌, refl, sym, ◌∙◌, ◌⊎◌, inl, inr}
use Rattle.cl_grammar.specs.declared.lexeme.Lexeme.{Lexeme}
use Rattle.cl_grammar.specs.declared.names.TypeName.{TypeName}
use Rattle.cl_grammar.specs.declared.terminal.Terminal.{Terminal}
use Rattle.cl_grammar.specs.declared.terminal.Terminal.TheVariants as t
use Rattle.cl_grammar.specs.Expressions.{IsSpec}
use Rattle.cl_grammar.specs.Statements as s
use Rattle.cl_grammar.specs.Statements.{IsExternal, IsBlock, IsHint, IsWord, AreWords, MayBeStatic, AreInitDeclors, hints}
use Rattle.cl_grammar.specs.DeclarationSymbols as d
use Rattle.cl_grammar.specs.DeclarationSymbols.{DeclSym, is_decl, decl_continues, is_else, is_width_word, IsAnyExternal, IsBehindParams, IsNextParam, IsParamName, IsBehindParam, IsParams, IsFunction, IsVectorHint, IsSizeName, IsHintWord, IsBehindSize, IsInAttribute, IsOtherWord, IsBehindType, IsWords}
use Rattle.cl_grammar.proofs.TerminalKinds.{kind, has}
use Rattle.cl_grammar.proofs.Firsts.{Begins, begins_more, begins_one}
use Rattle.cl_grammar.proofs.ExpressionStarts.{type_kinds, wider, of_mark, any_spec_begins, integer_begins}
use Rattle.cl_grammar.proofs.StatementKinds.{stmt_first}
use Rattle.cl_grammar.specs.StatementSymbols as x

abbrev pub words_kinds : List ℕ
words_kinds = 5 ∷ 6 ∷ 7 ∷ 8 ∷ 2 ∷ 9 ∷ 10 ∷ 12 ∷ 13 ∷ 14 ∷ 15 ∷ 16 ∷ 17 ∷ 18 ∷ 19 ∷ 20 ∷ 21 ∷ 22 ∷ 23 ∷ 24 ∷ 62 ∷ []

abbrev pub external_kinds : List ℕ
external_kinds = 4 ∷ 5 ∷ 6 ∷ 7 ∷ 8 ∷ 2 ∷ 9 ∷ 10 ∷ 12 ∷ 13 ∷ 14 ∷ 15 ∷ 16 ∷ 17 ∷ 18 ∷ 19 ∷ 20 ∷ 21 ∷ 22 ∷ 23 ∷ 24 ∷ 62 ∷ []

abbrev pub params_kinds : List ℕ
params_kinds = 38 ∷ 2 ∷ 9 ∷ 10 ∷ 12 ∷ 13 ∷ 14 ∷ 15 ∷ 16 ∷ 17 ∷ 18 ∷ 19 ∷ 20 ∷ 21 ∷ 22 ∷ 23 ∷ 24 ∷ 62 ∷ []

-- every kind: a hint of a vector type is known by its word alone
abbrev pub all_kinds : List ℕ
all_kinds = 0 ∷ 1 ∷ 2 ∷ 3 ∷ 4 ∷ 5 ∷ 6 ∷ 7 ∷ 8 ∷ 9 ∷ 10 ∷ 11 ∷ 12 ∷ 13 ∷ 14 ∷ 15 ∷ 16 ∷ 17 ∷ 18 ∷ 19 ∷ 20 ∷ 21 ∷ 22 ∷ 23 ∷ 24 ∷ 25 ∷ 26 ∷ 27 ∷ 28 ∷ 29 ∷ 30 ∷ 31 ∷ 32 ∷ 33 ∷ 34 ∷ 35 ∷ 36 ∷ 37 ∷ 38 ∷ 39 ∷ 40 ∷ 41 ∷ 42 ∷ 43 ∷ 44 ∷ 45 ∷ 46 ∷ 47 ∷ 48 ∷ 49 ∷ 50 ∷ 51 ∷ 52 ∷ 53 ∷ 54 ∷ 55 ∷ 56 ∷ 57 ∷ 58 ∷ 59 ∷ 60 ∷ 61 ∷ 62 ∷ []

any_kind : (t : Terminal) → has all_kinds (kind t) ≡ true
any_kind (t.TypeName true) = refl
any_kind (t.TypeName false) = refl
any_kind _ = refl

-- the kinds that begin a part of declarations
abbrev pub decl_firsts : DeclSym → List ℕ
decl_firsts d.External = external_kinds
decl_firsts (d.Words lone variables) = words_kinds
decl_firsts (d.BehindType lone variables) = 44 ∷ 1 ∷ 54 ∷ []
decl_firsts d.Function = 1 ∷ []
decl_firsts d.Params = params_kinds
decl_firsts (d.NextParam named) = type_kinds
decl_firsts (d.ParamName named) = 1 ∷ 43 ∷ 38 ∷ []
decl_firsts (d.BehindParam named) = 43 ∷ 38 ∷ []
decl_firsts (d.BehindParams named) = 44 ∷ 41 ∷ []
decl_firsts d.Word = 5 ∷ 6 ∷ 8 ∷ []
decl_firsts d.InAttribute = all_kinds
decl_firsts d.BehindSize = 37 ∷ 38 ∷ []
decl_firsts d.Hint = 15 ∷ 16 ∷ 17 ∷ 18 ∷ 19 ∷ 20 ∷ 21 ∷ 22 ∷ 2 ∷ 62 ∷ []
decl_firsts d.HintWord = 21 ∷ 22 ∷ 2 ∷ 62 ∷ []
decl_firsts d.VectorHint = all_kinds
decl_firsts d.SizeName = 1 ∷ []

-- each has a token
abbrev pub decl_empties : DeclSym → Bool
decl_empties x = false

abbrev pub decl_continues_kind : DeclSym → ℕ → Bool
decl_continues_kind d.Word k = false
decl_continues_kind d.InAttribute k = false
decl_continues_kind d.BehindSize k = false
decl_continues_kind d.Hint k = has (17 ∷ 18 ∷ 19 ∷ 20 ∷ []) k
decl_continues_kind d.HintWord k = false
decl_continues_kind d.VectorHint k = false
decl_continues_kind d.SizeName k = false
decl_continues_kind _ k = has (26 ∷ []) k

else_kind : (t : Terminal) → is_else t ≡ has (26 ∷ []) (kind t)
else_kind (t.TypeName true) = refl
else_kind (t.TypeName false) = refl
else_kind _ = refl

width_word_kind : (t : Terminal) → is_width_word t ≡ has (17 ∷ 18 ∷ 19 ∷ 20 ∷ []) (kind t)
width_word_kind (t.TypeName true) = refl
width_word_kind (t.TypeName false) = refl
width_word_kind _ = refl

pub decl_tail : (x : DeclSym) (t : Terminal) → decl_continues x t ≡ decl_continues_kind x (kind t)
decl_tail d.External t = else_kind t
decl_tail (d.Words lone variables) t = else_kind t
decl_tail (d.BehindType lone variables) t = else_kind t
decl_tail d.Function t = else_kind t
decl_tail d.Params t = else_kind t
decl_tail (d.NextParam named) t = else_kind t
decl_tail (d.ParamName named) t = else_kind t
decl_tail (d.BehindParam named) t = else_kind t
decl_tail (d.BehindParams named) t = else_kind t
decl_tail d.Word t = refl
decl_tail d.InAttribute t = refl
decl_tail d.BehindSize t = refl
decl_tail d.Hint t = width_word_kind t
decl_tail d.HintWord t = refl
decl_tail d.VectorHint t = refl
decl_tail d.SizeName t = refl

-- ---- what each begins with

type_begin : (vector : Bool) (u v : List Lexeme) (kinds : List ℕ) → ((w : List Lexeme) → Begins type_kinds w → Begins kinds w) → IsSpec vector u → Begins kinds (u ++ v)
type_begin vector u v kinds f a = begins_more kinds u v (f u (any_spec_begins vector u a))

names_begin : (u : List Lexeme) → AreInitDeclors u → Begins (1 ∷ 54 ∷ []) u
names_begin u a = elim (stmt_first x.InitDeclors u a) as (λ _. Begins (1 ∷ 54 ∷ []) u) [ inl b ↦ b | inr e ↦ absurd (let f : false ≡ true = e.1 in cc) ]

block_begins : (u : List Lexeme) → IsBlock u → Begins (44 ∷ 41 ∷ []) u
block_begins _ (s.block o c u a b e) = of_mark t.OpenBrace _ o _ refl a

behind_params_begin : (named : Bool) (u : List Lexeme) → IsBehindParams named u → Begins (44 ∷ 41 ∷ []) u
behind_params_begin _ _ (d.declared named s a) = of_mark t.Semicolon _ s _ refl a
behind_params_begin _ u (d.defined _ a) = block_begins u a

next_param_begins : (named : Bool) (u : List Lexeme) → IsNextParam named u → Begins type_kinds u
next_param_begins _ _ (d.next_param named vector u v w a b c) = begins_more type_kinds u (v ++ w) (any_spec_begins vector u a)

behind_param_begins : (named : Bool) (u : List Lexeme) → IsBehindParam named u → Begins (43 ∷ 38 ∷ []) u
behind_param_begins _ _ (d.another named c u a b) = of_mark t.Comma _ c _ refl a
behind_param_begins _ _ (d.close named c u a b) = of_mark t.CloseParen _ c _ refl a

param_name_begins : (named : Bool) (u : List Lexeme) → IsParamName named u → Begins (1 ∷ 43 ∷ 38 ∷ []) u
param_name_begins _ _ (d.has_name named n u a b) = of_mark t.Name _ n _ refl a
param_name_begins _ _ (d.has_none named u b) = wider (43 ∷ 38 ∷ []) (1 ∷ 43 ∷ 38 ∷ []) u refl (behind_param_begins false u b)

params_begin : (u : List Lexeme) → IsParams u → Begins params_kinds u
params_begin _ (d.no_param c u a b) = of_mark t.CloseParen _ c _ refl a
params_begin _ (d.only_void v c u a b e) = of_mark t.Void _ v _ refl a
params_begin _ (d.some_params u a) = wider type_kinds params_kinds u refl (next_param_begins true u a)

function_begins : (u : List Lexeme) → IsFunction u → Begins (1 ∷ []) u
function_begins _ (d.function n o u a b e) = of_mark t.Name _ n _ refl a

behind_type_begins : (lone variables : Bool) (u : List Lexeme) → IsBehindType lone variables u → Begins (44 ∷ 1 ∷ 54 ∷ []) u
behind_type_begins _ _ _ (d.type_alone s a) = of_mark t.Semicolon _ s _ refl a
behind_type_begins _ _ _ (d.names lone s u a b) = begins_more _ u _ (wider (1 ∷ 54 ∷ []) (44 ∷ 1 ∷ 54 ∷ []) u refl (names_begin u a))
behind_type_begins _ _ _ (d.of_function lone variables u a) = wider (1 ∷ []) (44 ∷ 1 ∷ 54 ∷ []) u refl (function_begins u a)

other_word_begins : (u : List Lexeme) → IsOtherWord u → Begins (5 ∷ 6 ∷ 8 ∷ []) u
other_word_begins _ (d.kernel w a) = of_mark t.Kernel _ w _ refl a
other_word_begins _ (d.inline w a) = of_mark t.Inline _ w _ refl a
other_word_begins _ (d.attribute a o p u b c e f) = of_mark t.Attribute _ a _ refl b

words_begin : (lone variables : Bool) (u : List Lexeme) → IsWords lone variables u → Begins words_kinds u
words_begin _ _ _ (d.static lone variables s u a b) = of_mark t.Static _ s _ refl a
words_begin _ _ _ (d.word lone variables u v a b) = begins_more _ u v (wider (5 ∷ 6 ∷ 8 ∷ []) words_kinds u refl (other_word_begins u a))
words_begin _ _ _ (d.typed lone variables vector u v a b) = type_begin vector u v words_kinds (λ w f. wider type_kinds words_kinds w refl f) a

word_begins : (u : List Lexeme) → IsWord u → Begins external_kinds u
word_begins _ (s.kernel w a) = of_mark t.Kernel _ w _ refl a
word_begins _ (s.inline w a) = of_mark t.Inline _ w _ refl a
word_begins _ (s.static w a) = of_mark t.Static _ w _ refl a
word_begins _ (s.vector_hint a o p n q c e f u g h i j k l m r v) = of_mark t.Attribute _ a _ refl g
word_begins _ (s.size_alone a o p n e f g h i j k l m) = of_mark t.Attribute _ a _ refl g
word_begins _ (s.size a o p n q c e f u g h i j k l m r v w) = of_mark t.Attribute _ a _ refl g

after_words : (vector : Bool) (u v w : List Lexeme) → AreWords u → IsSpec vector v → Begins external_kinds (u ++ (v ++ w))
after_words vector _ v w s.none b = type_begin vector v w external_kinds (λ y f. wider type_kinds external_kinds y refl f) b
after_words vector _ v w (s.more u z a c) b = begins_more _ (u ++ z) (v ++ w) (begins_more _ u z (word_begins u a))

after_static : (vector : Bool) (u v w : List Lexeme) → MayBeStatic u → IsSpec vector v → Begins external_kinds (u ++ (v ++ w))
after_static vector _ v w s.none b = type_begin vector v w external_kinds (λ y f. wider type_kinds external_kinds y refl f) b
after_static vector _ v w (s.static h a) b = of_mark t.Static _ h _ refl a

external_begins : (declared : List TypeName) (u : List Lexeme) → IsExternal declared u → Begins external_kinds u
external_begins _ _ (s.typedef vector h n k u v w a b c e f g) = of_mark t.Typedef _ h _ refl a
external_begins _ _ (s.types vector k u a b) = type_begin vector u _ external_kinds (λ y f. wider type_kinds external_kinds y refl f) a
external_begins _ _ (s.constants vector k u v w a b c e) = after_static vector u v _ a b
external_begins _ _ (s.declared vector named n o c k u v w a b e f g h i) = after_words vector u v _ a b
external_begins _ _ (s.defined vector n o c u v w z a b e f g h i) = after_words vector u v _ a b

hint_word_kind : (t : Terminal) → hints t ≡ has (21 ∷ 22 ∷ 2 ∷ 62 ∷ []) (kind t)
hint_word_kind (t.TypeName true) = refl
hint_word_kind (t.TypeName false) = refl
hint_word_kind _ = refl

hint_begins : (u : List Lexeme) → IsHint u → Begins (15 ∷ 16 ∷ 17 ∷ 18 ∷ 19 ∷ 20 ∷ 21 ∷ 22 ∷ 2 ∷ 62 ∷ []) u
hint_begins _ (s.word w a) = wider (21 ∷ 22 ∷ 2 ∷ 62 ∷ []) (15 ∷ 16 ∷ 17 ∷ 18 ∷ 19 ∷ 20 ∷ 21 ∷ 22 ∷ 2 ∷ 62 ∷ []) (w ∷ []) refl (begins_one _ w [] (sym (hint_word_kind w.terminal) ∙ a))
hint_begins u (s.integer _ a) = wider (15 ∷ 16 ∷ 17 ∷ 18 ∷ 19 ∷ 20 ∷ []) (15 ∷ 16 ∷ 17 ∷ 18 ∷ 19 ∷ 20 ∷ 21 ∷ 22 ∷ 2 ∷ 62 ∷ []) u refl (integer_begins u a)

in_attribute_begins : (u : List Lexeme) → IsInAttribute u → Begins all_kinds u
in_attribute_begins _ (d.of_vector n q c e f u a g h i j k) = begins_one all_kinds n _ (any_kind n.terminal)
in_attribute_begins _ (d.of_size n u (d.size_name _ a b) g) = of_mark t.Name _ n _ refl a

behind_size_begins : (u : List Lexeme) → IsBehindSize u → Begins (37 ∷ 38 ∷ []) u
behind_size_begins _ (d.no_argument e f a b) = of_mark t.CloseParen _ e _ refl a
behind_size_begins _ (d.arguments q c e f u a b g h i) = of_mark t.OpenParen _ q _ refl a

pub decl_begins : (x : DeclSym) (u : List Lexeme) → is_decl x u → Begins (decl_firsts x) u
decl_begins d.External u (d.any_external declared _ a) = external_begins declared u a
decl_begins (d.Words lone variables) u a = words_begin lone variables u a
decl_begins (d.BehindType lone variables) u a = behind_type_begins lone variables u a
decl_begins d.Function u a = function_begins u a
decl_begins d.Params u a = params_begin u a
decl_begins (d.NextParam named) u a = next_param_begins named u a
decl_begins (d.ParamName named) u a = param_name_begins named u a
decl_begins (d.BehindParam named) u a = behind_param_begins named u a
decl_begins (d.BehindParams named) u a = behind_params_begin named u a
decl_begins d.Word u a = other_word_begins u a
decl_begins d.InAttribute u a = in_attribute_begins u a
decl_begins d.BehindSize u a = behind_size_begins u a
decl_begins d.Hint u a = hint_begins u a
decl_begins d.HintWord _ (d.hint_word w a) = begins_one _ w [] (sym (hint_word_kind w.terminal) ∙ a)
decl_begins d.VectorHint _ (d.vector_hint n a) = begins_one all_kinds n [] (any_kind n.terminal)
decl_begins d.SizeName _ (d.size_name n a b) = of_mark t.Name _ n _ refl a

pub decl_first : (x : DeclSym) (u : List Lexeme) → is_decl x u → Begins (decl_firsts x) u ⊎ ((u ≡ []) × (decl_empties x ≡ true))
decl_first x u a = inl (decl_begins x u a)
