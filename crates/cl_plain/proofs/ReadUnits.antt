-- A reader of units; tokens have one tree.
use Rattle.std.proofs.Common.{◌≡◌, ℕ, suc, zero, ◌+◌, ◌≤◌, Bool, true, false, if◌then◌else◌, List, [], ◌∷◌, ◌++◌, Option, Some, None, Ok, refl, sym, ap, ◌∙◌, subst, arith, bytes_eq}
use Rattle.std.proofs.lemmas.List.{append-nil}
use Rattle.cl_lexer.specs.declared.token.Tokens.{Tokens}
use Rattle.cl_ast.specs.declared.declaration.Ast.{Ast}
use Rattle.cl_ast.specs.declared.declaration.External.{External}
use Rattle.cl_grammar.specs.declared.lexeme.Lexeme.{Lexeme}
use Rattle.cl_grammar.specs.declared.names.TypeName.{TypeName}
use Rattle.cl_grammar.specs.declared.terminal.Terminal.{Terminal}
use Rattle.cl_grammar.specs.Lexemes.{is_name, typed_as, vector_of, resolve, resolved}
use Rattle.cl_grammar.specs.StatementTrees.{ExternalTree}
use Rattle.cl_grammar.specs.StatementTrees as trees
use Rattle.cl_grammar.specs.Units.{UnitTree, last, more, Judges, parsed, seen_as}
use Rattle.cl_plain.specs.Plain.{Plain, plain_unit}
use Rattle.cl_plain.specs.Laws.{OneTree}
use Rattle.cl_plain.proofs.Reading.{first_is, begins_type}
use Rattle.cl_plain.proofs.ReadSteps.{and_then, then_is, if_true, if_false, enough, first_apart}
use Rattle.cl_plain.proofs.ReadExpressions.{spec_begins}
use Rattle.cl_plain.proofs.ReadParameters.{words_first}
use Rattle.cl_plain.proofs.ReadExternals.{static_words, read_external, external_reads}
use Rattle.cl_plain.proofs.ReadTypedefs.{told, declared_told}
use Rattle.cl_plain.proofs.ReadMarks.{first_implies}

-- ---- names that typedefs declare one behind another

or_else : Option Bool → Option Bool → Option Bool
or_else None b = b
or_else (Some a) b = Some a

vector_of_both : (names next : List TypeName) (text : List ℕ) → vector_of (names ++ next) text ≡ or_else (vector_of names text) (vector_of next text)
unfolding or_else
vector_of_both [] next text = refl
vector_of_both (n ∷ names) next text = by_test (bytes_eq text n.name) (vector_of_both names next text)
  where
    by_test : (b : Bool) → vector_of (names ++ next) text ≡ or_else (vector_of names text) (vector_of next text)
        → (if b then Some n.vector else vector_of (names ++ next) text) ≡ or_else (if b then Some n.vector else vector_of names text) (vector_of next text)
    by_test true e = refl
    by_test false e = e

resolved_twice : (names next : List TypeName) (l : Lexeme) → resolve (names ++ next) l ≡ resolve next (resolve names l)
unfolding or_else
resolved_twice names next l = by_name (is_name l.terminal) refl
  where
    by_vector : is_name l.terminal ≡ true → (v : Option Bool) → typed_as l (or_else v (vector_of next l.text)) ≡ resolve next (typed_as l v)
    by_vector e None = sym (if_true _ e)
    by_vector e (Some v) = refl

    by_name : (b : Bool) → is_name l.terminal ≡ b → resolve (names ++ next) l ≡ resolve next (resolve names l)
    by_name false e = if_false _ e ∙ (sym (if_false _ e) ∙ ap (resolve next) (sym (if_false _ e)))
    by_name true e = if_true _ e ∙ (ap (typed_as l) (vector_of_both names next l.text) ∙ (by_vector e (vector_of names l.text) ∙ ap (resolve next) (sym (if_true _ e))))

all_resolved_twice : (names next : List TypeName) (ls : List Lexeme) → resolved (names ++ next) ls ≡ resolved next (resolved names ls)
all_resolved_twice names next [] = refl
all_resolved_twice names next (l ∷ ls) = λ i. resolved_twice names next l i ∷ all_resolved_twice names next ls i

resolved_apart : (names : List TypeName) (u v : List Lexeme) → resolved names (u ++ v) ≡ resolved names u ++ resolved names v
resolved_apart names [] v = refl
resolved_apart names (l ∷ u) v = ap (λ z. resolve names l ∷ z) (resolved_apart names u v)

-- ---- units

abbrev any : Terminal → Bool
any l = true

abbrev pub read_unit : ℕ → List Lexeme → Option (List Plain × List Lexeme)
read_unit zero ls = None
read_unit (suc n) ls = and_then (read_external n ls) (λ e rest. if first_is any rest then and_then (read_unit n (resolved (told ls) rest)) (λ es end. Some (e ∷ es, end)) else Some (e ∷ [], []))

external_some : (u : List Lexeme) (e : External) → ExternalTree u e → (r : List Lexeme) → first_is any (u ++ r) ≡ true
external_some _ _ (trees.typedef h s u v spec name hh hu hv hs) r = refl
external_some _ _ (trees.types s u spec hu hs) r = first_apart any u (s ∷ []) r (first_implies begins_type any (λ l e. refl) (u ++ s ∷ r) (spec_begins u spec hu (s ∷ r)))
external_some _ _ (trees.constants s u v w spec items hu hv hw hs) r =
    let fs = static_words u hu in
    let b = w ++ s ∷ [] in
    first_apart any u (v ++ b) r (words_first any true (λ l e. refl) u fs.0 fs.1 ((v ++ b) ++ r) (first_apart any v b r (first_implies begins_type any (λ l e. refl) (v ++ (b ++ r)) (spec_begins v spec hv (b ++ r)))))
external_some _ _ (trees.declared n o c s u v w words spec params hu hv hn ho hw hc hs) r =
    let b = n ∷ o ∷ (w ++ c ∷ s ∷ []) in
    first_apart any u (v ++ b) r (words_first any true (λ l e. refl) u words.items hu ((v ++ b) ++ r) (first_apart any v b r (first_implies begins_type any (λ l e. refl) (v ++ (b ++ r)) (spec_begins v spec hv (b ++ r)))))
external_some _ _ (trees.defined n o c u v w x words spec params body hu hv hn ho hw hc hx) r =
    let b = n ∷ o ∷ (w ++ c ∷ x) in
    first_apart any u (v ++ b) r (words_first any true (λ l e. refl) u words.items hu ((v ++ b) ++ r) (first_apart any v b r (first_implies begins_type any (λ l e. refl) (v ++ (b ++ r)) (spec_begins v spec hv (b ++ r)))))

some_however : (names others : List TypeName) (v : List Lexeme) → first_is any (resolved names v) ≡ true → first_is any (resolved others v) ≡ true
some_however names others [] e = e
some_however names others (l ∷ v) e = refl

unit_some : (names : List TypeName) (u : List Lexeme) (es : List External) → UnitTree names u es → first_is any (resolved names u) ≡ true
unit_some _ _ _ (last names declared u e i h) = subst (λ z. first_is any z ≡ true) (append-nil (resolved names u)) (external_some (resolved names u) e h [])
unit_some _ _ _ (more names declared u v e es i h k) = subst (λ z. first_is any z ≡ true) (sym (resolved_apart names u v)) (external_some (resolved names u) e h (resolved names v))

-- with enough steps
record Answers (ls : List Lexeme) (es : List Plain) : Type 0 where
  steps : ℕ
  is : (m : ℕ) → steps ≤ m → read_unit m ls ≡ Some (es, [])

answers : (ls : List Lexeme) (es : List Plain) (s : ℕ) → ((m : ℕ) → s ≤ m → read_unit (suc m) ls ≡ Some (es, [])) → Answers ls es
answers ls es s f = record { steps = suc s; is = by_steps }
  where
    by_steps : (m : ℕ) → suc s ≤ m → read_unit m ls ≡ Some (es, [])
    by_steps zero le = absurd (omega arith)
    by_steps (suc m) le = f m (omega arith)

unit_reads : (names : List TypeName) (u : List Lexeme) (es : List External) → UnitTree names u es → Answers (resolved names u) (plain_unit es)
unit_reads _ _ _ (last names declared u e i h) =
    let x = external_reads (resolved names u) e h [] in
    answers (resolved names u) _ x.steps (λ m le. then_is _ (ap (read_external m) (sym (append-nil (resolved names u))) ∙ enough x m le))
unit_reads _ _ _ (more names declared u v e es i h k) =
    let x = external_reads (resolved names u) e h (resolved names v) in
    let y = unit_reads (names ++ declared) v es k in
    let rest : resolved (told (resolved names u ++ resolved names v)) (resolved names v) ≡ resolved (names ++ declared) v = ap (λ z. resolved z (resolved names v)) (declared_told declared (resolved names u) i (resolved names v)) ∙ sym (all_resolved_twice names declared v) in
    answers (resolved names (u ++ v)) _ (x.steps + y.steps) (λ m le.
    ap (read_unit (suc m)) (resolved_apart names u v)
    ∙ (then_is _ (enough x m (omega arith)) ∙ (if_true _ (some_however (names ++ declared) names v (unit_some (names ++ declared) v es k)) ∙ then_is _ (ap (read_unit m) rest ∙ y.is m (omega arith)))))

of_tree : (tokens : Tokens) (a : Ast) → Judges tokens (Ok a) → UnitTree [] (seen_as tokens.list) a.externals
of_tree tokens _ (parsed a h light) = h

read_of : Option (List Plain × List Lexeme) → List Plain
read_of None = []
read_of (Some x) = x.0

pub one_tree : OneTree
unfolding read_of
one_tree tokens a b h k =
    let x = unit_reads [] (seen_as tokens.list) a.externals (of_tree tokens a h) in
    let y = unit_reads [] (seen_as tokens.list) b.externals (of_tree tokens b k) in
    let m = x.steps + y.steps in
    ap read_of (sym (x.is m (omega arith)) ∙ y.is m (omega arith))
