-- The steps of the reading of typedefs.
use Rattle.std.proofs.Common.{◌≡◌, ℕ, suc, ◌+◌, ◌≤◌, ◌<◌, List, [], ◌∷◌, ◌++◌, length, take, drop, Bool, true, false, refl, sym, ap, ◌∙◌, subst, append_assoc, arith}
use Rattle.std.specs.Prelude.{◌&&◌, not, Option, Some, None}
use Rattle.std.proofs.lemmas.List.{append-nil, append_cancel_left, length-append}
use Rattle.std.proofs.Math.Seq.{take-append_seam}
use Rattle.cl_ast.specs.declared.expression.Qual.{Qual}
use Rattle.cl_ast.specs.declared.expression.Expr.{Expr}
use Rattle.cl_ast.specs.declared.expression.Spec.{Spec}
use Rattle.cl_ast.specs.declared.expression.Declor.{Declor}
use Rattle.cl_ast.specs.declared.expression.Base.TheViews.{out-Declor}
use Rattle.cl_ast.specs.declared.declaration.External.TheVariants as external
use Rattle.cl_grammar.specs.declared.lexeme.Lexeme.{Lexeme}
use Rattle.cl_grammar.specs.declared.names.TypeName.{TypeName}
use Rattle.cl_grammar.specs.declared.terminal.Terminal.{Terminal}
use Rattle.cl_grammar.specs.declared.terminal.Terminal.TheVariants as t
use Rattle.cl_grammar.specs.declared.stop.ExprStop.{ExprStop}
use Rattle.cl_grammar.specs.Terminals.{pointer_qualifier_of}
use Rattle.cl_grammar.specs.Expressions as g
use Rattle.cl_grammar.specs.Expressions.{IsA, IsSpec, MayBeStar, ArePointerQualifiers}
use Rattle.cl_grammar.specs.ExpressionTrees as et
use Rattle.cl_grammar.specs.ExpressionTrees.{SpecTree, StarOf, Qualify, DeclorTree, LengthTrees}
use Rattle.cl_grammar.specs.Statements as st
use Rattle.cl_grammar.specs.Statements.{IsExternal, is_none}
use Rattle.cl_grammar.specs.StatementTrees as tree
use Rattle.cl_grammar.specs.StatementTrees.{ExternalTree}
use Rattle.cl_grammar.specs.Symbols as e
use Rattle.cl_grammar.specs.Symbols.{Sym, Mark, E, D, Are, continues}
use Rattle.cl_grammar.specs.DeclarationSymbols as decl
use Rattle.cl_grammar.specs.Items.{Stops, Item, Excluded, between, EndsIn, StandsAt, IsAt, GoesOn, ReadAt, NoneAt, RefusedAt, BarredAt}
use Rattle.cl_grammar.proofs.Predicted.{keeps_part, keeps_mark}
use Rattle.cl_grammar.proofs.Places.{between_join, then_mark, done}
use Rattle.cl_grammar.proofs.StatementPlaces.{stops_next}
use Rattle.cl_parse.specs.Declaring.{declared_by}
use Rattle.cl_parse.specs.Readings.{ExternalAt, is_plain, is_missing, is_empty}
use Rattle.cl_parse.proofs.DeclaredNames.{one_name, behind_typedef}
use Rattle.cl_parse.proofs.Places.{decl_starts, then_part, any_read, any_refused}
use Rattle.cl_parse.proofs.Parameters.{token_there, between_first, between_last, is_spec}

-- ---- a name behind its `*`

NoName : List Lexeme → Type 0
NoName [] = Unit {0}
NoName (l ∷ ls) = (IsA t.Name l → ⊥) × NoName ls

qualifier_no_name : (l : Lexeme) (q : Qual) → pointer_qualifier_of l.terminal ≡ Some q → IsA t.Name l → ⊥
qualifier_no_name l q h n = let f : None ≡ Some q = ap pointer_qualifier_of (sym n) ∙ h in cc

qualified_no_name : (u : List Lexeme) (qs : List Qual) → Qualify pointer_qualifier_of u qs → NoName u
unfolding NoName
qualified_no_name [] [] h = tt
qualified_no_name [] (q ∷ qs) h = tt
qualified_no_name (l ∷ u) [] h = absurd h
qualified_no_name (l ∷ u) (q ∷ qs) h = (qualifier_no_name l q h.0, qualified_no_name u qs h.1)

qualifiers_no_name : (u : List Lexeme) → ArePointerQualifiers u → NoName u
unfolding NoName
qualifiers_no_name [] h = tt
qualifiers_no_name (l ∷ u) h = (qualifier_no_name l h.0.0 h.0.1, qualifiers_no_name u h.1)

mark_no_name : (s : Lexeme) → IsA t.Star s → IsA t.Name s → ⊥
mark_no_name s a n = let f : t.Star ≡ t.Name = sym a ∙ n in cc

star_no_name : (u : List Lexeme) (star : Option (List Qual)) → StarOf u star → NoName u
unfolding NoName
star_no_name _ _ et.none = tt
star_no_name _ _ (et.some s u qs a b) = (mark_no_name s a, qualified_no_name u qs b)

may_no_name : (u : List Lexeme) → MayBeStar u → NoName u
unfolding NoName
may_no_name _ g.none = tt
may_no_name _ (g.some _ (g.star s u a b)) = (mark_no_name s a, qualifiers_no_name u b)

-- The first name parts what stands before it from what stands behind it.
name_split : (u v w z : List Lexeme) (n m : Lexeme) → NoName u → NoName v → IsA t.Name n → IsA t.Name m → u ++ n ∷ w ≡ v ++ m ∷ z → (u ≡ v) × (n ≡ m) × (w ≡ z)
unfolding NoName
name_split [] [] w z n m a b h k e = let f : n ∷ w ≡ m ∷ z = e in (refl, (let i : n ≡ m = cc in i), (let j : w ≡ z = cc in j))
name_split [] (l ∷ v) w z n m a b h k e = let f : n ∷ w ≡ l ∷ (v ++ m ∷ z) = e in let same : n ≡ l = cc in absurd (b.0 (ap (λ y. y.terminal) (sym same) ∙ h))
name_split (l ∷ u) [] w z n m a b h k e = let f : l ∷ (u ++ n ∷ w) ≡ m ∷ z = e in let same : m ≡ l = cc in absurd (a.0 (ap (λ y. y.terminal) (sym same) ∙ k))
name_split (l ∷ u) (p ∷ v) w z n m a b h k e =
    let f : l ∷ (u ++ n ∷ w) ≡ p ∷ (v ++ m ∷ z) = e in
    let same : l ≡ p = cc in
    let rest : u ++ n ∷ w ≡ v ++ m ∷ z = cc in
    let r = name_split u v w z n m a.1 b.1 h k rest in
    (ap (λ y. y ∷ u) same ∙ ap (λ y. p ∷ y) r.0, r.1, r.2)

-- ---- what a declared name is

missing_star : (u : List Lexeme) (star : Option (List Qual)) → StarOf u star → is_missing star ≡ is_none u
missing_star _ _ et.none = refl
missing_star _ _ (et.some s u qs a b) = refl

no_lengths : (v : List Lexeme) (es : List (Option Expr)) → LengthTrees v es → is_empty es ≡ is_none v
no_lengths _ _ et.no_length = refl
no_lengths _ _ (et.missing_length o c v es a b h) = refl
no_lengths _ _ (et.length_given o c u v x es a b h k) = refl

record Named (u : List Lexeme) (n : Lexeme) (v : List Lexeme) (d : Declor) : Type 0 where
  name : (out-Declor d).name ≡ n.text
  plain : is_plain d ≡ (is_none u && is_none v)

named_by : (w u v : List Lexeme) (n : Lexeme) (d : Declor) → DeclorTree w d → w ≡ u ++ n ∷ v → MayBeStar u → IsA t.Name n → Named u n v d
named_by _ u v n _ (et.declor m p q star lengths d a b c f) e s h =
    let r = name_split p u q v m n (star_no_name p star a) (may_no_name u s) b h e in
    record {
      name = f.is ∙ ap (λ z. z.text) r.1;
      plain = ap (λ z. is_missing z && is_empty (out-Declor d).lengths.items) f.behind ∙ ap (λ z. is_missing star && is_empty z) f.has
          ∙ ap (λ z. z && is_empty lengths) (missing_star p star a ∙ ap is_none r.0) ∙ ap (λ z. is_none u && z) (no_lengths q lengths c ∙ ap is_none r.2);
    }

typedef_is : (vector : Bool) (h k : Lexeme) (a w : List Lexeme) (spec : Spec) (d : Declor) → IsA t.Typedef h → IsSpec vector a → g.IsDeclor w → DeclorTree w d → IsA t.Semicolon k → IsExternal (declared_by (external.Typedef spec d) (vector && is_plain d)) (h ∷ (a ++ (w ++ k ∷ [])))
typedef_is vector h k a _ spec d i b (g.declor n u v c f l) m j =
    let q = named_by (u ++ n ∷ v) u v n d m refl c f in
    subst (λ z. IsExternal (record { name = (out-Declor d).name; vector = vector && z } ∷ []) (h ∷ (a ++ ((u ++ n ∷ v) ++ k ∷ [])))) (sym q.plain)
    (subst (λ z. IsExternal (record { name = z; vector = vector && (is_none u && is_none v) } ∷ []) (h ∷ (a ++ ((u ++ n ∷ v) ++ k ∷ [])))) (sym q.name)
    (subst (λ z. IsExternal (record { name = n.text; vector = vector && (is_none u && is_none v) } ∷ []) (h ∷ (a ++ z))) (sym (append_assoc u (n ∷ v) (k ∷ [])))
    (st.typedef vector h n k a u v i b c f l j)))

-- ---- by the places

typedef_start : (ts : List Lexeme) (at : ℕ) → EndsIn ts → IsAt ts at t.Typedef → GoesOn (D decl.External) (E e.AnySpec ∷ E e.Declor ∷ Mark t.Semicolon ∷ []) ts at (at + 1)
typedef_start ts at ends s = then_mark (D decl.External) t.Typedef (E e.AnySpec ∷ E e.Declor ∷ Mark t.Semicolon ∷ []) ts at at ends (decl_starts decl.External 0 ts at t.Typedef s refl) s refl

typedef_typed : (ts : List Lexeme) (at m : ℕ) (vector : Bool) → EndsIn ts → IsAt ts at t.Typedef → ReadAt (E (e.Spec vector)) ts (at + 1) m → NoneAt (E (e.Spec (not vector))) ts (at + 1) m → GoesOn (D decl.External) (E e.Declor ∷ Mark t.Semicolon ∷ []) ts at m
typedef_typed ts at m vector ends s r n = then_part (D decl.External) e.AnySpec (E e.Declor ∷ Mark t.Semicolon ∷ []) ts at (at + 1) m (typedef_start ts at ends s) (any_read vector ts (at + 1) m r n) refl

typedef_named : (ts : List Lexeme) (at m k : ℕ) (vector : Bool) → EndsIn ts → IsAt ts at t.Typedef → ReadAt (E (e.Spec vector)) ts (at + 1) m → NoneAt (E (e.Spec (not vector))) ts (at + 1) m → ReadAt (E e.Declor) ts m k → GoesOn (D decl.External) (Mark t.Semicolon ∷ []) ts at k
typedef_named ts at m k vector ends s r n c = then_part (D decl.External) e.Declor (Mark t.Semicolon ∷ []) ts at m k (typedef_typed ts at m vector ends s r n) c refl

is_declor : (ts : List Lexeme) (at next : ℕ) → ReadAt (E e.Declor) ts at next → g.IsDeclor (between ts at next)
is_declor ts at next r = let i = r.read in let j = i.item in subst g.IsDeclor (append-nil (between ts at next)) (j.builds [] refl)

typedef_split : (ts : List Lexeme) (at m k : ℕ) (h s : Lexeme) → StandsAt ts at h → StandsAt ts k s → at + 1 ≤ m → m ≤ k → h ∷ (between ts (at + 1) m ++ (between ts m k ++ s ∷ [])) ≡ between ts at (k + 1)
typedef_split ts at m k h s a b f g =
    ap (λ z. h ∷ (between ts (at + 1) m ++ z)) (sym (between_last ts m k s b g)) ∙ ap (λ z. h ∷ z) (between_join ts (at + 1) m (k + 1) f (omega arith)) ∙ sym (between_first ts at (k + 1) h a (omega arith))

-- ---- no other names are declared

-- one mark for each token
abbrev marks : List Lexeme → List Sym
marks [] = []
marks (l ∷ ls) = Mark l.terminal ∷ marks ls

marks_are : (u : List Lexeme) → Are (marks u) u
marks_are [] = refl
marks_are (l ∷ u) = (l ∷ [], u, record { token = l; stands = refl; alone = refl }, marks_are u, refl)

as_long : (u v : List Lexeme) → Are (marks u) v → length v ≡ length u
as_long [] v are = ap length are
as_long (l ∷ u) v are =
    let m = are.2 in
    let n = as_long u are.1 are.3 in
    ap length are.4 ∙ ap (λ z. length (z ++ are.1)) m.alone ∙ ap suc n

-- a token that goes on with no type
abbrev behind_type : Terminal → Bool
behind_type k = continues (E e.AnySpec) k

no_more_type : (c : Lexeme) (r : List Lexeme) → behind_type c.terminal ≡ false → (l : Lexeme) (w : List Lexeme) → Are (marks (c ∷ r)) (l ∷ w) → behind_type l.terminal ≡ false
no_more_type c r n l w are =
    let m = are.2 in
    let q : l ∷ w ≡ m.token ∷ are.1 = are.4 ∙ ap (λ z. z ++ are.1) m.alone in
    let same : l ≡ m.token = cc in
    ap behind_type (ap (λ z. z.terminal) same ∙ m.stands) ∙ n

stops_type : (vector : Bool) (c : Lexeme) (r : List Lexeme) → behind_type c.terminal ≡ false → Stops (E (e.Spec vector)) (marks (c ∷ r))
stops_type vector c r n = record { stops = λ l w are. no_more_type c r n l w are }

-- The type is the one that was read.
same_type : (vector other : Bool) (a s s1 : List Lexeme) → Item (E (e.Spec vector)) [] a s s1 → Excluded (E (e.Spec (not vector))) a s s1 → (l : Lexeme) (v w : List Lexeme) → s1 ≡ l ∷ v → (p : List Lexeme) (c : Lexeme) (r : List Lexeme) → behind_type c.terminal ≡ false → IsSpec other p → a ++ l ∷ w ≡ p ++ c ∷ r → (other ≡ vector) × (length (l ∷ w) ≡ length (c ∷ r))
same_type true true a s s1 i x l v w first p c r n b q = (refl, as_long (c ∷ r) (l ∷ w) (i.only (marks (c ∷ r)) (stops_type true c r n) l v w first (p, c ∷ r, b, marks_are (c ∷ r), q)))
same_type false false a s s1 i x l v w first p c r n b q = (refl, as_long (c ∷ r) (l ∷ w) (i.only (marks (c ∷ r)) (stops_type false c r n) l v w first (p, c ∷ r, b, marks_are (c ∷ r), q)))
same_type true false a s s1 i x l v w first p c r n b q = absurd (x.no_more (marks (c ∷ r)) (stops_type false c r n) l v w first (p, c ∷ r, b, marks_are (c ∷ r), q))
same_type false true a s s1 i x l v w first p c r n b q = absurd (x.no_more (marks (c ∷ r)) (stops_type true c r n) l v w first (p, c ∷ r, b, marks_are (c ∷ r), q))

same_front : (a z p r : List Lexeme) → a ++ z ≡ p ++ r → length z ≡ length r → a ≡ p
same_front a z p r q h =
    let n : length a ≡ length p = omega (arith, ap length q, length-append a z, length-append p r, h) in
    sym (take-append_seam a z) ∙ ap (λ k. take k (a ++ z)) n ∙ ap (take (length p)) q ∙ take-append_seam p r

-- a `*` or a name
star_or_name : (u : List Lexeme) (n : Lexeme) (v : List Lexeme) → MayBeStar u → IsA t.Name n → (c : Lexeme) × (r : List Lexeme) × (u ++ n ∷ v ≡ c ∷ r) × (behind_type c.terminal ≡ false)
star_or_name _ n v g.none h = (n, v, refl, ap behind_type h)
star_or_name _ n v (g.some _ (g.star k u a b)) h = (k, u ++ n ∷ v, refl, ap behind_type a)

same_end : (u v : List Lexeme) (m k : Lexeme) → u ++ m ∷ [] ≡ v ++ k ∷ [] → is_none u ≡ is_none v
same_end [] [] m k q = refl
same_end (l ∷ u) (p ∷ v) m k q = refl
same_end [] (p ∷ []) m k q = absurd (let f : m ∷ [] ≡ p ∷ k ∷ [] = q in cc)
same_end [] (p ∷ l ∷ v) m k q = absurd (let f : m ∷ [] ≡ p ∷ l ∷ (v ++ k ∷ []) = q in cc)
same_end (l ∷ []) [] m k q = absurd (let f : l ∷ m ∷ [] ≡ k ∷ [] = q in cc)
same_end (l ∷ p ∷ u) [] m k q = absurd (let f : l ∷ p ∷ (u ++ m ∷ []) ≡ k ∷ [] = q in cc)

-- The name is the one that was read.
same_name : (vector : Bool) (w : List Lexeme) (spec : Spec) (d : Declor) (k : Lexeme) (b : List Lexeme) (n : Lexeme) (z : List Lexeme) (m : Lexeme) → g.IsDeclor w → DeclorTree w d → MayBeStar b → IsA t.Name n → w ++ k ∷ [] ≡ b ++ n ∷ (z ++ m ∷ []) → one_name n.text (vector && (is_none b && is_none z)) ≡ declared_by (external.Typedef spec d) (vector && is_plain d)
same_name vector _ spec d k b n z m (g.declor p u v c f l) h star name q =
    let o = named_by (u ++ p ∷ v) u v p d h refl c f in
    let i = name_split b u (z ++ m ∷ []) (v ++ k ∷ []) n p (may_no_name b star) (may_no_name u c) name f (sym q ∙ append_assoc u (p ∷ v) (k ∷ [])) in
    let plain : (is_none b && is_none z) ≡ is_plain d = ap (λ y. is_none y && is_none z) i.0 ∙ ap (λ y. is_none u && y) (same_end z v m k i.2) ∙ sym o.plain in
    ap (λ y. one_name y (vector && (is_none b && is_none z))) (ap (λ l. l.text) i.1 ∙ sym o.name) ∙ ap (λ y. one_name (out-Declor d).name (vector && y)) plain

typedef_same : (ts : List Lexeme) (at m k : ℕ) (vector : Bool) (spec : Spec) (d : Declor) → IsAt ts at t.Typedef → ReadAt (E (e.Spec vector)) ts (at + 1) m → NoneAt (E (e.Spec (not vector))) ts (at + 1) m → ReadAt (E e.Declor) ts m k → m < k → DeclorTree (between ts m k) d → IsAt ts k t.Semicolon → (ds : List TypeName) → IsExternal ds (between ts at (k + 1)) → ds ≡ declared_by (external.Typedef spec d) (vector && is_plain d)
typedef_same ts at m k vector spec d s r n c h b q ds x =
    let i = r.read in
    let f = i.forth in
    let y = behind_typedef ds (between ts at (k + 1)) s.token (between ts (at + 1) (k + 1)) x (between_first ts at (k + 1) s.token s.stands (omega arith)) s.is in
    let l = token_there ts m (let w = i.within in w) in
    let o = l.1 in
    let rest = between_first ts m (k + 1) l.0 o (omega arith) in
    let z = star_or_name y.star y.name (y.lengths ++ y.end ∷ []) y.is_star y.is_name in
    let both : between ts (at + 1) m ++ l.0 ∷ between ts (m + 1) (k + 1) ≡ y.type ++ z.0 ∷ z.1 =
    ap (λ w. between ts (at + 1) m ++ w) (sym rest) ∙ between_join ts (at + 1) m (k + 1) f (omega arith) ∙ y.split ∙ ap (λ w. y.type ++ w) z.2 in
    let t1 = same_type vector y.vector (between ts (at + 1) m) (drop (at + 1) ts) (drop m ts) i.item n.excluded l.0 (drop (m + 1) ts) (between ts (m + 1) (k + 1)) o.here y.type z.0 z.1 z.3 y.is_type both in
    let front = same_front (between ts (at + 1) m) (l.0 ∷ between ts (m + 1) (k + 1)) y.type (z.0 ∷ z.1) both t1.1 in
    let behind : l.0 ∷ between ts (m + 1) (k + 1) ≡ z.0 ∷ z.1 = append_cancel_left y.type (l.0 ∷ between ts (m + 1) (k + 1)) (z.0 ∷ z.1) (ap (λ w. w ++ l.0 ∷ between ts (m + 1) (k + 1)) (sym front) ∙ both) in
    let whole : between ts m k ++ q.token ∷ [] ≡ y.star ++ y.name ∷ (y.lengths ++ y.end ∷ []) = sym (between_last ts m k q.token q.stands (omega arith)) ∙ rest ∙ behind ∙ sym z.2 in
    let seen : one_name y.name.text (y.vector && (is_none y.star && is_none y.lengths)) ≡ one_name y.name.text (vector && (is_none y.star && is_none y.lengths)) = ap (λ w. one_name y.name.text (w && (is_none y.star && is_none y.lengths))) t1.0 in
    let named : one_name y.name.text (vector && (is_none y.star && is_none y.lengths)) ≡ declared_by (external.Typedef spec d) (vector && is_plain d) = same_name vector (between ts m k) spec d q.token y.star y.name y.lengths y.end (is_declor ts m k c) b y.is_star y.is_name whole in
    y.declares ∙ (seen ∙ named)

typedef_here : (ts : List Lexeme) (at m k : ℕ) (vector : Bool) (spec : Spec) (d : Declor) → EndsIn ts → IsAt ts at t.Typedef → ReadAt (E (e.Spec vector)) ts (at + 1) m → NoneAt (E (e.Spec (not vector))) ts (at + 1) m → SpecTree (between ts (at + 1) m) spec → ReadAt (E e.Declor) ts m k → m < k → DeclorTree (between ts m k) d → IsAt ts k t.Semicolon → ExternalAt ts at (k + 1) (external.Typedef spec d) (vector && is_plain d)
typedef_here ts at m k vector spec d ends s r n a c w b q =
    let f = let i = r.read in i.forth in
    let h = let i = c.read in i.forth in
    let split = typedef_split ts at m k s.token q.token s.stands q.stands f h in
    record {
      forth = omega arith;
      read = done (D decl.External) ts at (k + 1) (then_mark (D decl.External) t.Semicolon [] ts at k ends (typedef_named ts at m k vector ends s r n c) q refl);
      declares = record {
        is = subst (IsExternal (declared_by (external.Typedef spec d) (vector && is_plain d))) split (typedef_is vector s.token q.token (between ts (at + 1) m) (between ts m k) spec d s.is (is_spec vector ts (at + 1) m r) (is_declor ts m k c) b q.is);
        same = λ ds x. typedef_same ts at m k vector spec d s r n c w b q ds x;
      };
      means = subst (λ z. ExternalTree z (external.Typedef spec d)) split (tree.typedef s.token q.token (between ts (at + 1) m) (between ts m k) spec d s.is a b q.is);
    }

pub typedef_at : (ts : List Lexeme) (at i m k next : ℕ) (vector whole : Bool) (spec : Spec) (d : Declor) → EndsIn ts → i ≡ at + 1 → next ≡ k + 1 → whole ≡ (vector && is_plain d) → IsAt ts at t.Typedef → ReadAt (E (e.Spec vector)) ts i m → NoneAt (E (e.Spec (not vector))) ts i m → SpecTree (between ts i m) spec → ReadAt (E e.Declor) ts m k → m < k → DeclorTree (between ts m k) d → IsAt ts k t.Semicolon → ExternalAt ts at next (external.Typedef spec d) whole
typedef_at ts at i m k next vector whole spec d ends e1 e2 e3 s r n a c w b q =
    subst (λ z. ExternalAt ts at z (external.Typedef spec d) whole) (sym e2) (subst (λ z. ExternalAt ts at (k + 1) (external.Typedef spec d) z) (sym e3)
    (typedef_here ts at m k vector spec d ends s (subst (λ z. ReadAt (E (e.Spec vector)) ts z m) e1 r) (subst (λ z. NoneAt (E (e.Spec (not vector))) ts z m) e1 n) (subst (λ z. SpecTree (between ts z m) spec) e1 a) c w b q))

pub typedef_word_refused : (ts : List Lexeme) (at : ℕ) (stop : ExprStop) → IsAt ts at t.Typedef → RefusedAt (Mark t.Typedef) ts at stop → RefusedAt (D decl.External) ts at stop
typedef_word_refused ts at stop s f = stops_next (D decl.External) (Mark t.Typedef) (E e.AnySpec ∷ E e.Declor ∷ Mark t.Semicolon ∷ []) ts at at stop (keeps_mark (D decl.External) t.Typedef (E e.AnySpec ∷ E e.Declor ∷ Mark t.Semicolon ∷ [])) (decl_starts decl.External 0 ts at t.Typedef s refl) f refl

pub typedef_type_refused : (ts : List Lexeme) (at i : ℕ) (stop : ExprStop) → EndsIn ts → i ≡ at + 1 → IsAt ts at t.Typedef → RefusedAt (E (e.Spec false)) ts i stop → BarredAt (E (e.Spec true)) ts i stop → RefusedAt (D decl.External) ts at stop
typedef_type_refused ts at i stop ends e1 s f b = stops_next (D decl.External) (E e.AnySpec) (E e.Declor ∷ Mark t.Semicolon ∷ []) ts at (at + 1) stop (keeps_part (D decl.External) e.AnySpec (E e.Declor ∷ Mark t.Semicolon ∷ []) refl) (typedef_start ts at ends s) (subst (λ z. RefusedAt (E e.AnySpec) ts z stop) e1 (any_refused ts i stop f b)) refl

pub typedef_name_refused : (ts : List Lexeme) (at i m : ℕ) (vector : Bool) (stop : ExprStop) → EndsIn ts → i ≡ at + 1 → IsAt ts at t.Typedef → ReadAt (E (e.Spec vector)) ts i m → NoneAt (E (e.Spec (not vector))) ts i m → RefusedAt (E e.Declor) ts m stop → RefusedAt (D decl.External) ts at stop
typedef_name_refused ts at i m vector stop ends e1 s r n f = stops_next (D decl.External) (E e.Declor) (Mark t.Semicolon ∷ []) ts at m stop (keeps_part (D decl.External) e.Declor (Mark t.Semicolon ∷ []) refl) (typedef_typed ts at m vector ends s (subst (λ z. ReadAt (E (e.Spec vector)) ts z m) e1 r) (subst (λ z. NoneAt (E (e.Spec (not vector))) ts z m) e1 n)) f refl

pub typedef_end_refused : (ts : List Lexeme) (at i m k : ℕ) (vector : Bool) (stop : ExprStop) → EndsIn ts → i ≡ at + 1 → IsAt ts at t.Typedef → ReadAt (E (e.Spec vector)) ts i m → NoneAt (E (e.Spec (not vector))) ts i m → ReadAt (E e.Declor) ts m k → RefusedAt (Mark t.Semicolon) ts k stop → RefusedAt (D decl.External) ts at stop
typedef_end_refused ts at i m k vector stop ends e1 s r n c f = stops_next (D decl.External) (Mark t.Semicolon) [] ts at k stop (keeps_mark (D decl.External) t.Semicolon []) (typedef_named ts at m k vector ends s (subst (λ z. ReadAt (E (e.Spec vector)) ts z m) e1 r) (subst (λ z. NoneAt (E (e.Spec (not vector))) ts z m) e1 n) c) f refl
