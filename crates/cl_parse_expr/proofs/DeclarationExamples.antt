-- Each part of declarations stands for some tokens.
use Rattle.std.proofs.Common.{Bool, true, false, List, [], ◌∷◌, refl}
use Rattle.std.specs.Prelude.{codes}
use Rattle.cl_grammar.specs.declared.lexeme.Lexeme.{Lexeme}
use Rattle.cl_grammar.specs.declared.terminal.Terminal.TheVariants as t
use Rattle.cl_grammar.specs.Expressions as g
use Rattle.cl_grammar.specs.Expressions.{IsSpec}
use Rattle.cl_grammar.specs.Statements as s
use Rattle.cl_grammar.specs.DeclarationSymbols as d
use Rattle.cl_grammar.specs.DeclarationSymbols.{DeclSym, is_decl, IsBehindParam, IsParams, IsFunction}
use Rattle.cl_parse_expr.proofs.StatementExamples.{sample}

sized : Lexeme
sized = record { terminal = t.Name; text = codes "reqd_work_group_size"; place = record { line = 1; col = 1 } }

hinting : Lexeme
hinting = record { terminal = t.Name; text = codes "vec_type_hint"; place = record { line = 1; col = 1 } }

some_spec : IsSpec false (sample t.Void ∷ [])
some_spec = g.spec false [] (sample t.Void ∷ []) [] tt (g.type_word false (sample t.Void) refl) tt

pub closed : (named : Bool) → IsBehindParam named (sample t.CloseParen ∷ sample t.Semicolon ∷ [])
closed named = d.close named (sample t.CloseParen) _ refl (d.declared named (sample t.Semicolon) refl)

pub no_params : IsParams (sample t.CloseParen ∷ sample t.Semicolon ∷ [])
no_params = d.no_param (sample t.CloseParen) (sample t.Semicolon ∷ []) refl (d.declared true (sample t.Semicolon) refl)

pub some_function : IsFunction (sample t.Name ∷ sample t.OpenParen ∷ sample t.CloseParen ∷ sample t.Semicolon ∷ [])
some_function = d.function (sample t.Name) (sample t.OpenParen) _ refl refl no_params

pub record DeclExample (y : DeclSym) : Type 0 where
  pub tokens : List Lexeme
  pub is : is_decl y tokens

pub decl_example : (y : DeclSym) → DeclExample y
unfolding sized hinting
decl_example d.External = record { tokens = sample t.Void ∷ sample t.Semicolon ∷ []; is = d.any_external [] _ (s.types false (sample t.Semicolon) (sample t.Void ∷ []) some_spec refl) }
decl_example (d.Words lone variables) = record { tokens = sample t.Void ∷ sample t.Name ∷ sample t.OpenParen ∷ sample t.CloseParen ∷ sample t.Semicolon ∷ []; is = d.typed lone variables false (sample t.Void ∷ []) _ some_spec (d.of_function lone variables _ some_function) }
decl_example (d.BehindType lone variables) = record { tokens = _; is = d.of_function lone variables _ some_function }
decl_example d.Function = record { tokens = _; is = some_function }
decl_example d.Params = record { tokens = _; is = no_params }
decl_example (d.NextParam named) = record { tokens = sample t.Void ∷ sample t.CloseParen ∷ sample t.Semicolon ∷ []; is = d.next_param named false (sample t.Void ∷ []) [] _ some_spec g.none (d.has_none named _ (closed false)) }
decl_example (d.ParamName named) = record { tokens = _; is = d.has_none named _ (closed false) }
decl_example (d.BehindParam named) = record { tokens = _; is = closed named }
decl_example (d.BehindParams named) = record { tokens = sample t.Semicolon ∷ []; is = d.declared named (sample t.Semicolon) refl }
decl_example d.Word = record { tokens = sample t.Kernel ∷ []; is = d.kernel (sample t.Kernel) refl }
decl_example d.InAttribute = record { tokens = sized ∷ sample t.CloseParen ∷ sample t.CloseParen ∷ []; is = d.of_size sized _ (d.size_name sized refl refl) (d.no_argument (sample t.CloseParen) (sample t.CloseParen) refl refl) }
decl_example d.BehindSize = record { tokens = sample t.CloseParen ∷ sample t.CloseParen ∷ []; is = d.no_argument (sample t.CloseParen) (sample t.CloseParen) refl refl }
decl_example d.Hint = record { tokens = sample (t.UnsignedInt 32) ∷ []; is = s.word (sample (t.UnsignedInt 32)) refl }
decl_example d.HintWord = record { tokens = sample (t.UnsignedInt 32) ∷ []; is = d.hint_word (sample (t.UnsignedInt 32)) refl }
decl_example d.VectorHint = record { tokens = hinting ∷ []; is = d.vector_hint hinting refl }
decl_example d.SizeName = record { tokens = sized ∷ []; is = d.size_name sized refl refl }
