-- A reader of what stands at file scope.
use Rattle.std.proofs.Common.{◌≡◌, ℕ, ◌+◌, Bool, true, false, ◌&&◌, if◌then◌else◌, List, [], ◌∷◌, ◌++◌, Option, Some, None, refl, sym, ap, ◌∙◌, subst, append_assoc, arith}
use Rattle.cl_ast.specs.declared.expression.Spec.{Spec}
use Rattle.cl_ast.specs.declared.expression.Expr.{Expr}
use Rattle.cl_ast.specs.declared.expression.Declor.{Declor}
use Rattle.cl_ast.specs.declared.declaration.InitDeclor.{InitDeclor}
use Rattle.cl_ast.specs.declared.declaration.External.{External}
use Rattle.cl_ast.specs.declared.declaration.FWord.{FWord}
use Rattle.cl_ast.specs.declared.declaration.FWord.TheVariants as fword
use Rattle.cl_ast.specs.declared.statement.Stmt.{Stmt}
use Rattle.cl_grammar.specs.declared.lexeme.Lexeme.{Lexeme}
use Rattle.cl_grammar.specs.declared.terminal.Terminal.{Terminal}
use Rattle.cl_grammar.specs.declared.terminal.Terminal.TheVariants as t
use Rattle.cl_grammar.specs.Lexemes.{is_name}
use Rattle.cl_grammar.specs.Expressions.{IsA, is_open}
use Rattle.cl_grammar.specs.ExpressionTrees.{SpecTree, DeclorTree, declor, LengthTrees}
use Rattle.cl_grammar.specs.ExpressionTrees as of
use Rattle.cl_grammar.specs.Statements.{MayBeStatic}
use Rattle.cl_grammar.specs.Statements as said
use Rattle.cl_grammar.specs.StatementTrees.{InitDeclorTree, bare, initialised, InitDeclorTrees, BlockTree, block, WordTrees, ParamListTree, ExternalTree}
use Rattle.cl_grammar.specs.StatementTrees as trees
use Rattle.cl_plain.specs.Plain.{Plain, over, leaf, plain_spec, plain_declor, plain_declared, plain_stmt, plain_word, plain_param, plain_external}
use Rattle.cl_plain.specs.Plain as p
use Rattle.cl_plain.proofs.Reading.{Reads, first_is, is_spec_end, is_declor_end, begins_type}
use Rattle.cl_plain.proofs.ReadSteps.{and_then, skip, then_is, if_true, if_false, enough, reads_with}
use Rattle.cl_plain.proofs.PartBegins.{begins_declor, declor_first, declareds_first}
use Rattle.cl_plain.proofs.ReadInits.{read_declareds, declareds_read}
use Rattle.cl_plain.proofs.ReadDeclarations.{declor_ends_spec, declor_no_semicolon}
use Rattle.cl_plain.proofs.ReadStatements.{read_stmt, block_reads}
use Rattle.cl_plain.proofs.ReadParameters.{and_false, is_word, read_words, words_read, words_first, read_param_list, param_list_reads}
use Rattle.cl_plain.proofs.ReadExpressions.{read_spec, spec_reads, spec_begins, read_declor, declor_reads}
use Rattle.cl_plain.proofs.ReadMarks.{is_semicolon, first_excludes, first_implies}

abbrev pub is_typedef : Terminal → Bool
is_typedef t.Typedef = true
is_typedef _ = false

-- a name and a `(`
abbrev pub begins_function : List Lexeme → Bool
begins_function [] = false
begins_function (l ∷ ls) = is_name l.terminal && first_is is_open ls

abbrev pub typedef_at : ℕ → List Lexeme → Option (Plain × List Lexeme)
typedef_at n ls = and_then (read_spec n ls) (λ s rest. and_then (read_declor n rest) (λ d more. Some (over p.typedef (s ∷ d ∷ []), skip more)))

abbrev pub body_at : ℕ → (Plain → Plain) → List Lexeme → Option (Plain × List Lexeme)
body_at n says ls = if first_is is_semicolon ls then Some (says (leaf p.missing), skip ls) else and_then (read_stmt n ls) (λ b rest. Some (says (over p.given (b ∷ [])), rest))

abbrev pub function_says : Lexeme → List Plain → Plain → List Plain → Plain → Plain
function_says f words s params body = over (p.function f.text f.place) (over p.list words ∷ s ∷ over p.list params ∷ body ∷ [])

abbrev pub function_at : ℕ → List Plain → Plain → List Lexeme → Option (Plain × List Lexeme)
function_at n words s [] = None
function_at n words s (f ∷ ls) = and_then (read_param_list n (skip ls)) (λ params rest. body_at n (function_says f words s params) (skip rest))

abbrev pub external_at : ℕ → List Plain → Plain → List Lexeme → Option (Plain × List Lexeme)
external_at n words s ls =
    if first_is is_semicolon ls then Some (over p.types (s ∷ []), skip ls) else (if begins_function ls then function_at n words s ls else and_then (read_declareds n ls) (λ ds rest. Some (over p.constants (s ∷ ds), skip rest)))

abbrev pub read_external : ℕ → List Lexeme → Option (Plain × List Lexeme)
read_external n ls = if first_is is_typedef ls then typedef_at n (skip ls) else and_then (read_words n ls) (λ words rest. and_then (read_spec n rest) (λ s more. external_at n words s more))

-- ---- what tells externals apart

type_no_typedef : (l : Terminal) → begins_type l ≡ true → is_typedef l ≡ false
type_no_typedef t.Typedef e = absurd (cc)
type_no_typedef _ e = refl

word_no_typedef : (l : Terminal) → is_word l ≡ true → is_typedef l ≡ false
word_no_typedef t.Typedef e = absurd (cc)
word_no_typedef _ e = refl

type_no_word : (l : Terminal) → begins_type l ≡ true → is_word l ≡ false
type_no_word t.Kernel e = absurd (cc)
type_no_word t.Inline e = absurd (cc)
type_no_word t.Static e = absurd (cc)
type_no_word t.Attribute e = absurd (cc)
type_no_word _ e = refl

-- words and a spec, with something behind them
no_typedef : (u v : List Lexeme) (fs : List FWord) (s : Spec) → WordTrees u fs → SpecTree v s → (r : List Lexeme) → first_is is_typedef (u ++ (v ++ r)) ≡ false
no_typedef u v fs s hu hv r = words_first is_typedef false word_no_typedef u fs hu (v ++ r) (first_excludes begins_type is_typedef type_no_typedef (v ++ r) (spec_begins v s hv r))

no_word : (v : List Lexeme) (s : Spec) → SpecTree v s → (r : List Lexeme) → first_is is_word (v ++ r) ≡ false
no_word v s h r = first_excludes begins_type is_word type_no_word (v ++ r) (spec_begins v s h r)

pub static_words : (u : List Lexeme) → MayBeStatic u → (fs : List FWord) × WordTrees u fs
static_words _ said.none = ([], trees.none)
static_words _ (said.static w h) = (fword.Static ∷ [], trees.more (w ∷ []) [] fword.Static [] (trees.static w h) trees.none)

end_no_open : (l : Terminal) → is_declor_end l ≡ true → is_open l ≡ false
end_no_open t.OpenParen e = absurd (cc)
end_no_open _ e = refl

lengths_no_open : (u : List Lexeme) (es : List (Option Expr)) → LengthTrees u es → (r : List Lexeme) → first_is is_declor_end r ≡ true → first_is is_open (u ++ r) ≡ false
lengths_no_open _ _ of.no_length r k = first_excludes is_declor_end is_open end_no_open r k
lengths_no_open _ _ (of.missing_length o c v es ho hc h) r k = ap is_open ho
lengths_no_open _ _ (of.length_given o c u v e es ho he hc h) r k = ap is_open ho

function_apart : (u v r : List Lexeme) → begins_function (u ++ (v ++ r)) ≡ false → begins_function ((u ++ v) ++ r) ≡ false
function_apart u v r e = subst (λ z. begins_function z ≡ false) (sym (append_assoc u v r)) e

declor_no_function : (u : List Lexeme) (d : Declor) → DeclorTree u d → (r : List Lexeme) → first_is is_declor_end r ≡ true → begins_function (u ++ r) ≡ false
declor_no_function _ _ (declor n _ v _ lengths d of.none hn h is) r k = ap (λ z. is_name n.terminal && z) (lengths_no_open v lengths h r k) ∙ and_false (is_name n.terminal)
declor_no_function _ _ (declor n _ v _ lengths d (of.some s u qs hs hu) hn h is) r k = ap (λ z. is_name z && first_is is_open ((u ++ n ∷ v) ++ r)) hs

declared_no_function : (u : List Lexeme) (d : InitDeclor) → InitDeclorTree u d → (r : List Lexeme) → first_is is_declor_end r ≡ true → begins_function (u ++ r) ≡ false
declared_no_function _ _ (bare u d h) r k = declor_no_function u d h r k
declared_no_function _ _ (initialised e u v d i h he hi) r k = function_apart u (e ∷ v) r (declor_no_function u d h (e ∷ (v ++ r)) (ap is_declor_end he))

declareds_no_function : (u : List Lexeme) (ds : List InitDeclor) → InitDeclorTrees u ds → (r : List Lexeme) → first_is is_declor_end r ≡ true → begins_function (u ++ r) ≡ false
declareds_no_function _ _ (trees.last u d h) r k = declared_no_function u d h r k
declareds_no_function _ _ (trees.more c u v d ds h hc hs) r k = function_apart u (c ∷ v) r (declared_no_function u d h (c ∷ (v ++ r)) (ap is_declor_end hc))

block_no_semicolon : (u : List Lexeme) (s : Stmt) → BlockTree u s → (r : List Lexeme) → first_is is_semicolon (u ++ r) ≡ false
block_no_semicolon _ _ (block o c u items s ho h hc is) r = ap is_semicolon ho

function_begins : (n o : Lexeme) (r : List Lexeme) → IsA t.Name n → IsA t.OpenParen o → begins_function (n ∷ o ∷ r) ≡ true
function_begins n o r hn ho = ap (λ z. is_name z && is_open o.terminal) hn ∙ ap is_open ho

-- ---- externals

pub external_reads : (u : List Lexeme) (e : External) → ExternalTree u e → (r : List Lexeme) → Reads read_external u r (plain_external e)
external_reads _ _ (trees.typedef h s u v spec name hh hu hv hs) r =
    let first = declor_first v name hv (s ∷ r) in
    let x = spec_reads u spec hu (v ++ s ∷ r) (first_implies begins_declor is_spec_end declor_ends_spec (v ++ s ∷ r) first) in
    let y = declor_reads v name hv (s ∷ r) (ap is_declor_end hs) in
    reads_with read_external (h ∷ (u ++ (v ++ s ∷ []))) r _ (x.steps + y.steps) (λ m le.
    if_true _ (ap is_typedef hh)
    ∙ (ap (typedef_at m) (append_assoc u (v ++ s ∷ []) r ∙ ap (λ z. u ++ z) (append_assoc v (s ∷ []) r)) ∙ (then_is _ (enough x m (omega arith)) ∙ then_is _ (enough y m (omega arith)))))
external_reads _ _ (trees.types s u spec hu hs) r =
    let w = words_read [] [] trees.none (u ++ s ∷ r) (no_word u spec hu (s ∷ r)) in
    let x = spec_reads u spec hu (s ∷ r) (ap is_spec_end hs) in
    reads_with read_external (u ++ s ∷ []) r _ (w.steps + x.steps) (λ m le.
    ap (read_external m) (append_assoc u (s ∷ []) r)
    ∙ (if_false _ (no_typedef [] u [] spec trees.none hu (s ∷ r)) ∙ (then_is _ (enough w m (omega arith)) ∙ (then_is _ (enough x m (omega arith)) ∙ if_true _ (ap is_semicolon hs)))))
external_reads _ _ (trees.constants s u v w spec items hu hv hw hs) r =
    let fs = static_words u hu in
    let first = declareds_first w items.items hw (s ∷ r) in
    let a = words_read u fs.0 fs.1 (v ++ (w ++ s ∷ r)) (no_word v spec hv (w ++ s ∷ r)) in
    let x = spec_reads v spec hv (w ++ s ∷ r) (first_implies begins_declor is_spec_end declor_ends_spec (w ++ s ∷ r) first) in
    let y = declareds_read w items.items hw s r hs in
    reads_with read_external (u ++ (v ++ (w ++ s ∷ []))) r _ (a.steps + (x.steps + y.steps)) (λ m le.
    ap (read_external m) (append_assoc u (v ++ (w ++ s ∷ [])) r ∙ (ap (λ z. u ++ z) (append_assoc v (w ++ s ∷ []) r) ∙ ap (λ z. u ++ (v ++ z)) (append_assoc w (s ∷ []) r)))
    ∙ (if_false _ (no_typedef u v fs.0 spec fs.1 hv (w ++ s ∷ r))
    ∙ (then_is _ (enough a m (omega arith))
    ∙ (then_is _ (enough x m (omega arith))
    ∙ (if_false _ (first_excludes begins_declor is_semicolon declor_no_semicolon (w ++ s ∷ r) first) ∙ (if_false _ (declareds_no_function w items.items hw (s ∷ r) (ap is_declor_end hs)) ∙ then_is _ (enough y m (omega arith))))))))
external_reads _ _ (trees.declared n o c s u v w words spec params hu hv hn ho hw hc hs) r =
    let a = words_read u words.items hu (v ++ n ∷ o ∷ (w ++ c ∷ s ∷ r)) (no_word v spec hv (n ∷ o ∷ (w ++ c ∷ s ∷ r))) in
    let x = spec_reads v spec hv (n ∷ o ∷ (w ++ c ∷ s ∷ r)) (ap is_spec_end hn) in
    let y = param_list_reads w params.items hw c (s ∷ r) hc in
    reads_with read_external (u ++ (v ++ n ∷ o ∷ (w ++ c ∷ s ∷ []))) r _ (a.steps + (x.steps + y.steps)) (λ m le.
    ap (read_external m) (append_assoc u (v ++ n ∷ o ∷ (w ++ c ∷ s ∷ [])) r ∙ (ap (λ z. u ++ z) (append_assoc v (n ∷ o ∷ (w ++ c ∷ s ∷ [])) r) ∙ ap (λ z. u ++ (v ++ n ∷ o ∷ z)) (append_assoc w (c ∷ s ∷ []) r)))
    ∙ (if_false _ (no_typedef u v words.items spec hu hv (n ∷ o ∷ (w ++ c ∷ s ∷ r)))
    ∙ (then_is _ (enough a m (omega arith))
    ∙ (then_is _ (enough x m (omega arith))
    ∙ (if_false _ (ap is_semicolon hn) ∙ (if_true _ (function_begins n o (w ++ c ∷ s ∷ r) hn ho) ∙ (then_is _ (enough y m (omega arith)) ∙ if_true _ (ap is_semicolon hs))))))))
external_reads _ _ (trees.defined n o c u v w x words spec params body hu hv hn ho hw hc hx) r =
    let a = words_read u words.items hu (v ++ n ∷ o ∷ (w ++ c ∷ (x ++ r))) (no_word v spec hv (n ∷ o ∷ (w ++ c ∷ (x ++ r)))) in
    let y = spec_reads v spec hv (n ∷ o ∷ (w ++ c ∷ (x ++ r))) (ap is_spec_end hn) in
    let z = param_list_reads w params.items hw c (x ++ r) hc in
    let b = block_reads x body hx r in
    reads_with read_external (u ++ (v ++ n ∷ o ∷ (w ++ c ∷ x))) r _ (a.steps + (y.steps + (z.steps + b.steps))) (λ m le.
    ap (read_external m) (append_assoc u (v ++ n ∷ o ∷ (w ++ c ∷ x)) r ∙ (ap (λ z. u ++ z) (append_assoc v (n ∷ o ∷ (w ++ c ∷ x)) r) ∙ ap (λ z. u ++ (v ++ n ∷ o ∷ z)) (append_assoc w (c ∷ x) r)))
    ∙ (if_false _ (no_typedef u v words.items spec hu hv (n ∷ o ∷ (w ++ c ∷ (x ++ r))))
    ∙ (then_is _ (enough a m (omega arith))
    ∙ (then_is _ (enough y m (omega arith))
    ∙ (if_false _ (ap is_semicolon hn) ∙ (if_true _ (function_begins n o (w ++ c ∷ (x ++ r)) hn ho) ∙ (then_is _ (enough z m (omega arith)) ∙ (if_false _ (block_no_semicolon x body hx r) ∙ then_is _ (enough b m (omega arith))))))))))
