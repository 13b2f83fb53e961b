-- Types that were just built, by the indices of their tokens.
use Rattle.std.proofs.Common.{◌≡◌, ℕ, ◌≤◌, List, [], ◌++◌, refl, ap, ◌∙◌, subst, arith}
use Rattle.std.specs.Prelude.{Option, ◌&&◌}
use Rattle.std.specs.Global.{Vec}
use Rattle.clv_place.specs.declared.place.Place.{Place}
use Rattle.cl_ast.specs.declared.expression.Qual.{Qual}
use Rattle.cl_ast.specs.declared.expression.Expr.{Expr}
use Rattle.cl_ast.specs.declared.expression.Base.{Base}
use Rattle.cl_ast.specs.declared.expression.Spec.{Spec}
use Rattle.cl_ast.specs.declared.expression.Declor.{Declor}
use Rattle.cl_ast.specs.declared.expression.Base.TheViews.{roll-Spec, out-roll-Spec, roll-TypeTerm, out-roll-TypeTerm, roll-Field, out-roll-Field, roll-Declor, out-roll-Declor}
use Rattle.cl_grammar.specs.declared.lexeme.Lexeme.{Lexeme}
use Rattle.cl_grammar.specs.Terminals.{qualifier_of}
use Rattle.cl_grammar.specs.ExpressionTrees as tree
use Rattle.cl_grammar.specs.ExpressionTrees.{IsSpec, IsTerm, IsField, IsDeclor, StarOf, SpecTree, BaseTree}
use Rattle.cl_grammar.specs.Symbols as s
use Rattle.cl_grammar.specs.Symbols.{E}
use Rattle.cl_grammar.specs.Items.{between, ReadAt}
use Rattle.cl_grammar.proofs.Places.{between_join}
use Rattle.cl_parse_expr.specs.declared.expression.SpecRead.{SpecRead}
use Rattle.cl_parse_expr.specs.declared.simple.TermRead.{TermRead}
use Rattle.cl_parse_expr.specs.Reading.{is_none, Qualified, TermFrom}

pub built_spec : (quals : List Qual) (base : Base) → IsSpec (roll-Spec record { quals = quals; base = base }) quals base
built_spec quals base = let e = out-roll-Spec record { quals = quals; base = base } in record { has = ap (λ z. z.quals) e; is = ap (λ z. z.base) e }

pub built_term : (spec : Spec) (star : Option (List Qual)) → IsTerm (roll-TypeTerm record { spec = spec; star = star }) spec star
built_term spec star = let e = out-roll-TypeTerm record { spec = spec; star = star } in record { is = ap (λ z. z.spec) e; has = ap (λ z. z.star) e }

pub built_field : (spec : Spec) (names : Vec Declor) → IsField (roll-Field record { spec = spec; names = names }) spec names.items
built_field spec names = let e = out-roll-Field record { spec = spec; names = names } in record { is = ap (λ z. z.spec) e; has = ap (λ z. z.names.items) e }

pub built_declor : (star : Option (List Qual)) (name : List ℕ) (place : Place) (lengths : Vec (Option Expr)) → IsDeclor (roll-Declor record { star = star; name = name; place = place; lengths = lengths }) star name place lengths.items
built_declor star name place lengths =
    let e = out-roll-Declor record { star = star; name = name; place = place; lengths = lengths } in
    record { behind = ap (λ z. z.star) e; is = ap (λ z. z.name) e; at = ap (λ z. z.place) e; has = ap (λ z. z.lengths.items) e }

-- The words of a type and what stands behind them were read.
pub term_from : (ts : List Lexeme) (words : SpecRead) (name : TermRead) (star : Option (List Qual)) → ReadAt (E s.MayStar) ts words.next name.next → StarOf (between ts words.next name.next) star → IsTerm name.term words.spec star → name.vector ≡ (words.vector && is_none star) → TermFrom ts words name
term_from ts words name star r m i v = record { star = star; words_end = words.next; here = refl; stars = r; is = i; means = m; vector = v }

-- The words of a type are qualifiers, what these qualify, and qualifiers behind it.
pub spec_tree : (ts : List Lexeme) (at a b d : ℕ) (none before all : List Qual) (base : Base) (spec : Spec) → at ≤ a → a ≤ b → b ≤ d → none ≡ [] → Qualified qualifier_of ts at a none before → BaseTree (between ts a b) base → Qualified qualifier_of ts b d before all → IsSpec spec all base → SpecTree (between ts at d) spec
spec_tree ts at a b d none before all base spec h g f e p m q i =
    let first : before ≡ p.added = p.is ∙ ap (λ z. z ++ p.added) e in
    let whole : IsSpec spec (p.added ++ q.added) base = record { has = i.has ∙ q.is ∙ ap (λ z. z ++ q.added) first; is = i.is } in
    subst (λ z. SpecTree z spec) (ap (λ z. between ts at a ++ z) (between_join ts a b d g f) ∙ between_join ts at a d h (omega arith))
    (tree.spec (between ts at a) (between ts a b) (between ts b d) p.added q.added base spec p.words m q.words whole)
