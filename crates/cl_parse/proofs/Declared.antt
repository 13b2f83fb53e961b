-- What a declaration declares, behind other declarations.
use Rattle.std.proofs.Common.{◌≡◌, ℕ, ◌≤◌, Bool, true, false, Option, Some, None, List, [], ◌∷◌, ◌++◌, length, refl, sym, ap, ◌∙◌, subst, append_assoc, arith}
use Rattle.std.specs.Prelude.{if◌then◌else◌}
use Rattle.cl_ast.specs.declared.declaration.External.{External}
use Rattle.cl_ast.specs.declared.declaration.External.TheVariants as tree
use Rattle.cl_ast.specs.declared.expression.Spec.{Spec}
use Rattle.cl_ast.specs.declared.expression.Declor.{Declor}
use Rattle.cl_ast.specs.declared.expression.Base.TheViews.{out-Declor}
use Rattle.cl_grammar.specs.declared.lexeme.Lexeme.{Lexeme}
use Rattle.cl_grammar.specs.declared.names.TypeName.{TypeName}
use Rattle.cl_grammar.specs.declared.terminal.Terminal.TheVariants as t
use Rattle.cl_grammar.specs.Statements.{IsExternal, typedef, types, constants, declared, defined}
use Rattle.cl_grammar.specs.Lexemes.{resolve, resolved, is_name, typed_as, vector_of}
use Rattle.cl_parse.specs.Declaring.{AreNew, declared_by}

pub few_declared : (e : External) (vector : Bool) → length (declared_by e vector) ≤ 1
few_declared (tree.Typedef spec name) vector = omega arith
few_declared (tree.Struct spec) vector = omega arith
few_declared (tree.Constant spec items) vector = omega arith
few_declared (tree.Function words spec name place params body) vector = omega arith

-- ---- a name declares what no typedef before it did

one_resolved : (names : List TypeName) (ts p : List Lexeme) (n : Lexeme) (q : List Lexeme) → resolved names ts ≡ p ++ n ∷ q → (m : Lexeme) × (resolve names m ≡ n)
one_resolved names [] [] n q e = absurd (let f : [] ≡ n ∷ q = e in cc f)
one_resolved names [] (x ∷ p) n q e = absurd (let f : [] ≡ x ∷ (p ++ n ∷ q) = e in cc f)
one_resolved names (m ∷ ts) [] n q e = (m, let f : resolve names m ∷ resolved names ts ≡ n ∷ q = e in cc f)
one_resolved names (m ∷ ts) (x ∷ p) n q e = one_resolved names ts p n q (let f : resolve names m ∷ resolved names ts ≡ x ∷ (p ++ n ∷ q) = e in cc f)

typed_none : (names : List TypeName) (l : Lexeme) (r : Option Bool) → vector_of names l.text ≡ r → (typed_as l r).terminal ≡ t.Name → vector_of names (typed_as l r).text ≡ None
typed_none names l None e h = e
typed_none names l (Some vector) e h = absurd (let f : t.TypeName vector ≡ t.Name = h in cc f)

undeclared_by : (names : List TypeName) (l : Lexeme) (b : Bool) → is_name l.terminal ≡ b → (if b then typed_as l (vector_of names l.text) else l).terminal ≡ t.Name → vector_of names (if b then typed_as l (vector_of names l.text) else l).text ≡ None
undeclared_by names l true e h = typed_none names l (vector_of names l.text) refl h
undeclared_by names l false e h = absurd (let f : is_name l.terminal ≡ true = ap is_name h in cc (e, f))

undeclared : (names : List TypeName) (l : Lexeme) → (resolve names l).terminal ≡ t.Name → vector_of names (resolve names l).text ≡ None
undeclared names l h = undeclared_by names l (is_name l.terminal) refl h

named_new : (names : List TypeName) (ts p : List Lexeme) (n : Lexeme) (q : List Lexeme) → resolved names ts ≡ p ++ n ∷ q → n.terminal ≡ t.Name → vector_of names n.text ≡ None
named_new names ts p n q e is =
    let m = one_resolved names ts p n q e in
    subst (λ z. vector_of names z.text ≡ None) m.1 (undeclared names m.0 (subst (λ z. z.terminal ≡ t.Name) (sym m.1) is))

one_new : (names : List TypeName) (n : TypeName) → vector_of names n.name ≡ None → AreNew names (n ∷ [])
one_new names n h = record { new = λ m ms e. let same : n ≡ m = cc e in subst (λ z. vector_of names z.name ≡ None) same h }

none_new : (names : List TypeName) → AreNew names []
none_new names = record { new = λ m ms e. absurd (cc e) }

pub are_new : (names : List TypeName) (ts u : List Lexeme) (d : List TypeName) → resolved names ts ≡ u → IsExternal d u → AreNew names d
are_new names ts _ _ e (typedef vector h n s u v w is_typedef is_spec star is_n lengths semicolon) =
    one_new names _ (named_new names ts (h ∷ (u ++ v)) n (w ++ s ∷ []) (e ∙ ap (λ z. h ∷ z) (sym (append_assoc u v (n ∷ (w ++ s ∷ []))))) is_n)
are_new names ts _ _ e (types vector s u a b) = none_new names
are_new names ts _ _ e (constants vector s u v w a b d f) = none_new names
are_new names ts _ _ e (declared vector named n o c s u v w f g h i j k l) = none_new names
are_new names ts _ _ e (defined vector n o c u v w x f g h i j k l) = none_new names

pub typedef_new : (names : List TypeName) (e : External) (vector : Bool) (spec : Spec) (name : Declor) (text : List ℕ) → AreNew names (declared_by e vector) → e ≡ tree.Typedef spec name → text ≡ (out-Declor name).name → vector_of names text ≡ None
typedef_new names e vector spec name text new is named =
    subst (λ z. vector_of names z ≡ None) (sym named) (new.new (record { name = (out-Declor name).name; vector = vector }) [] (ap (λ z. declared_by z vector) is))
