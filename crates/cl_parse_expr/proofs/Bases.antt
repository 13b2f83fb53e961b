-- Types that have no members where they stand, by the indices of their tokens.
use Rattle.std.proofs.Common.{◌≡◌, ℕ, ◌+◌, ◌<◌, List, [], ◌∷◌, length, Bool, true, false, refl, sym, ap, ◌∙◌, subst, arith}
use Rattle.std.specs.Prelude.{Some, None, not}
use Rattle.clv_place.specs.declared.place.Place.{Place}
use Rattle.cl_ast.specs.declared.expression.Base.{Base}
use Rattle.cl_ast.specs.declared.expression.Base.TheVariants as base
use Rattle.cl_grammar.specs.declared.lexeme.Lexeme.{Lexeme}
use Rattle.cl_grammar.specs.declared.terminal.Terminal.{Terminal}
use Rattle.cl_grammar.specs.declared.terminal.Terminal.TheVariants as t
use Rattle.cl_grammar.specs.declared.stop.ExprStop.{ExprStop}
use Rattle.cl_grammar.specs.declared.stop.ExprStop.TheVariants.{Out, NoMemory}
use Rattle.cl_grammar.specs.Terminals.{whole_type}
use Rattle.cl_grammar.specs.Symbols as s
use Rattle.cl_grammar.specs.Symbols.{E}
use Rattle.cl_grammar.specs.ExpressionTrees as x
use Rattle.cl_grammar.specs.ExpressionTrees.{IntegerOf, BaseTree}
use Rattle.cl_grammar.specs.Items.{between, EndsIn, IsAt, OtherAt, GoesOn, ReadAt, NoneAt, IsRefused, RefusedAt, IsBarred, BarredAt, PlaceAt, TextAt}
use Rattle.cl_grammar.proofs.TerminalKinds.{kind, has}
use Rattle.cl_grammar.proofs.Predicted.{picks, bars}
use Rattle.cl_grammar.proofs.Places.{between_one, by_class, by_other_kinds, starts_with, expand, then, then_mark, then_of, done, stops_here, stops_in, bars_here, none_more}
use Rattle.cl_parse_expr.specs.Reading.{WordAt, NoWordAt, NoStructAt, other, no_body, no_tag}
use Rattle.cl_parse_expr.proofs.Words.{same_terminal}
use Rattle.cl_parse_expr.proofs.Nodes.{place_of, text_of, two_between}

-- ---- a whole type by one word

is_word : (ts : List Lexeme) (at : ℕ) (vector : Bool) (b : Base) (w : WordAt ts at vector b) → IsAt ts at w.token.terminal
is_word ts at vector b w = record { token = w.token; stands = w.stands; is = refl }

pub word_base_read : (ts : List Lexeme) (at : ℕ) (vector : Bool) (b : Base) → EndsIn ts → WordAt ts at vector b → ReadAt (E (s.Base vector)) ts at (at + 1)
word_base_read ts at true b ends w =
    let k = w.token.terminal in let i = is_word ts at true b w in let f = ap (s.is_whole true) w.whole in
    done (E (s.Base true)) ts at (at + 1) (then_of (E (s.Base true)) (s.Whole true) [] ts at at k ends (starts_with (s.Base true) 0 ts at k i (by_class (s.Whole true) (picks (s.Base true) 0) k refl f)) i f refl)
word_base_read ts at false b ends w =
    let k = w.token.terminal in let i = is_word ts at false b w in let f = ap (s.is_whole false) w.whole in
    done (E (s.Base false)) ts at (at + 1) (then_of (E (s.Base false)) (s.Whole false) [] ts at at k ends (starts_with (s.Base false) 0 ts at k i (by_class (s.Whole false) (picks (s.Base false) 0) k refl f)) i f refl)

pub word_base_tree : (ts : List Lexeme) (at : ℕ) (vector : Bool) (b : Base) → WordAt ts at vector b → BaseTree (between ts at (at + 1)) b
word_base_tree ts at vector b w = subst (λ z. BaseTree z b) (sym (between_one ts at w.token w.stands.here)) (x.type_word w.token b w.means)

word_barred : (ts : List Lexeme) (at : ℕ) (vector : Bool) (b : Base) → WordAt ts at vector b → NoneAt (E (s.Base (not vector))) ts at at
word_barred ts at true b w = let k = w.token.terminal in bars_here (s.Base false) ts at k (is_word ts at true b w) (by_class (s.Whole true) (bars (s.Base false)) k refl (ap (s.is_whole true) w.whole))
word_barred ts at false b w = let k = w.token.terminal in bars_here (s.Base true) ts at k (is_word ts at false b w) (by_class (s.Whole false) (bars (s.Base true)) k refl (ap (s.is_whole false) w.whole))

pub word_base_none : (ts : List Lexeme) (at : ℕ) (vector : Bool) (b : Base) → EndsIn ts → WordAt ts at vector b → NoneAt (E (s.Base (not vector))) ts at (at + 1)
word_base_none ts at vector b ends w = none_more (E (s.Base (not vector))) ts at at (at + 1) (word_barred ts at vector b w) (omega arith) (word_base_read ts at vector b ends w).read.within

-- ---- the name of a struct

differ : {A : Type 0} (ts : List Lexeme) (at : ℕ) (k : Terminal) → IsAt ts at k → OtherAt ts at k → A
differ ts at k i o = absurd (o.differs (same_terminal ts at o.other k o.stands i))

no_body_there : (ts : List Lexeme) (at : ℕ) → NoStructAt ts at → IsAt ts at t.Struct → IsAt ts (at + 1) t.Name → OtherAt ts (at + 2) t.OpenBrace
no_body_there ts at (other o) i n = differ ts at t.Struct i o
no_body_there ts at (no_body a b o) i n = o
no_body_there ts at (no_tag a o b) i n = differ ts (at + 1) t.Name n o

no_brace_there : (ts : List Lexeme) (at : ℕ) → NoStructAt ts at → IsAt ts at t.Struct → OtherAt ts (at + 1) t.Name → OtherAt ts (at + 1) t.OpenBrace
no_brace_there ts at (other o) i n = differ ts at t.Struct i o
no_brace_there ts at (no_body a j b) i n = differ ts (at + 1) t.Name j n
no_brace_there ts at (no_tag a b o) i n = o

other_brace : (k : Terminal) → (k ≡ t.OpenBrace → ⊥) → has (41 ∷ []) (kind k) ≡ false
other_brace t.OpenBrace h = absurd (h refl)
other_brace (t.TypeName true) h = refl
other_brace (t.TypeName false) h = refl
other_brace _ h = refl

other_name : (k : Terminal) → (k ≡ t.Name → ⊥) → (k ≡ t.OpenBrace → ⊥) → has (1 ∷ 41 ∷ []) (kind k) ≡ false
other_name t.Name g h = absurd (g refl)
other_name t.OpenBrace g h = absurd (h refl)
other_name (t.TypeName true) g h = refl
other_name (t.TypeName false) g h = refl
other_name _ g h = refl

struct_begun : (ts : List Lexeme) (at : ℕ) → EndsIn ts → IsAt ts at t.Struct → GoesOn (E (s.Base false)) (E s.BehindStruct ∷ []) ts at (at + 1)
struct_begun ts at ends i = then_mark (E (s.Base false)) t.Struct (E s.BehindStruct ∷ []) ts at at ends (starts_with (s.Base false) 2 ts at t.Struct i refl) i refl

pub behind_struct : (ts : List Lexeme) (at : ℕ) → EndsIn ts → IsAt ts at t.Struct → at + 1 < length ts
behind_struct ts at ends i = (struct_begun ts at ends i).within

pub struct_name_read : (ts : List Lexeme) (at : ℕ) → EndsIn ts → NoStructAt ts at → IsAt ts at t.Struct → IsAt ts (at + 1) t.Name → ReadAt (E (s.Base false)) ts at (at + 2)
struct_name_read ts at ends n i j =
    let o = no_body_there ts at n i j in
    let e : at + 1 + 1 ≡ at + 2 = omega arith in
    let a = expand (E (s.Base false)) s.BehindStruct [] 0 ts at (at + 1) t.Name (struct_begun ts at ends i) j refl refl in
    let b = subst (λ z. GoesOn (E (s.Base false)) (E s.MayBody ∷ []) ts at z) e (then_mark (E (s.Base false)) t.Name (E s.MayBody ∷ []) ts at (at + 1) ends a j refl) in
    done (E (s.Base false)) ts at (at + 2) (expand (E (s.Base false)) s.MayBody [] 0 ts at (at + 2) o.other b o.stands (by_other_kinds (41 ∷ []) (picks s.MayBody 0) o.other refl (other_brace o.other o.differs)) refl)

pub struct_name_tree : (ts : List Lexeme) (at : ℕ) (name : List ℕ) (place : Place) → IsAt ts at t.Struct → IsAt ts (at + 1) t.Name → TextAt ts (at + 1) name → PlaceAt ts (at + 1) place → BaseTree (between ts at (at + 2)) (base.Struct (Some name) place None)
struct_name_tree ts at name place i n text p =
    let b = base.Struct (Some name) place None in
    let e = ap (λ z. base.Struct (Some z) place None) (text_of ts (at + 1) n.token name n.stands text) ∙ ap (λ z. base.Struct (Some n.token.text) z None) (place_of ts (at + 1) n.token place n.stands p) in
    subst (λ z. BaseTree z b) (sym (two_between ts at i.token n.token i.stands n.stands)) (x.struct_name i.token n.token b i.is n.is record { declared = None; is = e; has = refl })

pub struct_refused : (ts : List Lexeme) (at : ℕ) → EndsIn ts → NoStructAt ts at → IsAt ts at t.Struct → OtherAt ts (at + 1) t.Name → RefusedAt (E (s.Base false)) ts at (Out (at + 1))
struct_refused ts at ends n i o =
    let q = no_brace_there ts at n i o in
    let d : o.other ≡ t.OpenBrace → ⊥ = λ e. q.differs (same_terminal ts (at + 1) q.other o.other q.stands o.stands ∙ e) in
    stops_in (E (s.Base false)) s.BehindStruct [] ts at (at + 1) (Out (at + 1)) (struct_begun ts at ends i) (stops_here s.BehindStruct ts (at + 1) o.other o.stands (by_other_kinds (1 ∷ 41 ∷ []) (bars s.BehindStruct) o.other refl (other_name o.other o.differs d)) refl) refl refl

pub no_vector_struct : (ts : List Lexeme) (at next : ℕ) → IsAt ts at t.Struct → ReadAt (E (s.Base false)) ts at next → NoneAt (E (s.Base true)) ts at next
no_vector_struct ts at next i r = none_more (E (s.Base true)) ts at at next (bars_here (s.Base true) ts at t.Struct i refl) r.read.forth r.read.within

-- No vector begins where a token bars it, wherever another part is refused.
barred_where : (ts : List Lexeme) (at : ℕ) (y : s.ExprSym) (stop : ExprStop) → NoneAt (E (s.Base true)) ts at at → IsRefused (E y) ts at stop → IsBarred (E (s.Base true)) ts at stop
barred_where ts at y (Out k) n o = none_more (E (s.Base true)) ts at at k n o.none.forth o.none.within
barred_where ts at y NoMemory n o = tt

pub struct_barred : (ts : List Lexeme) (at : ℕ) (stop : ExprStop) → IsAt ts at t.Struct → RefusedAt (E (s.Base false)) ts at stop → BarredAt (E (s.Base true)) ts at stop
struct_barred ts at stop i r = record { barred = barred_where ts at (s.Base false) stop (bars_here (s.Base true) ts at t.Struct i refl) r.refused }

-- ---- an integer type

no_bool_word : {A : Type 0} (b : Bool) → Some b ≡ None → A
no_bool_word b h = absurd (let e : Some b ≡ None = h in cc)

no_whole_kind : (k : Terminal) → whole_type k ≡ None → (k ≡ t.Struct → ⊥) → has (2 ∷ 13 ∷ 14 ∷ 21 ∷ 22 ∷ 23 ∷ 24 ∷ 62 ∷ []) (kind k) ≡ false
no_whole_kind t.Void h g = no_bool_word false h
no_whole_kind t.Bool h g = no_bool_word false h
no_whole_kind (t.UnsignedInt bits) h g = no_bool_word false h
no_whole_kind (t.Vector bits signed n) h g = no_bool_word true h
no_whole_kind (t.Sized signed) h g = no_bool_word false h
no_whole_kind (t.TypeName vector) h g = no_bool_word vector h
no_whole_kind t.Struct h g = absurd (g refl)
no_whole_kind _ h g = refl

there : (ts : List Lexeme) (at : ℕ) (w : NoWordAt ts at) → IsAt ts at w.token.terminal
there ts at w = record { token = w.token; stands = w.stands; is = refl }

no_whole_there : (ts : List Lexeme) (at : ℕ) (w : NoWordAt ts at) → OtherAt ts at t.Struct → has (2 ∷ 13 ∷ 14 ∷ 21 ∷ 22 ∷ 23 ∷ 24 ∷ 62 ∷ []) (kind w.token.terminal) ≡ false
no_whole_there ts at w o = no_whole_kind w.token.terminal w.none (λ e. o.differs (same_terminal ts at o.other w.token.terminal o.stands (there ts at w) ∙ e))

integer_begun : (ts : List Lexeme) (at : ℕ) → NoWordAt ts at → OtherAt ts at t.Struct → GoesOn (E (s.Base false)) (E s.Integer ∷ []) ts at at
integer_begun ts at w o = let k = w.token.terminal in starts_with (s.Base false) 1 ts at k (there ts at w) (by_other_kinds (2 ∷ 13 ∷ 14 ∷ 21 ∷ 22 ∷ 23 ∷ 24 ∷ 62 ∷ []) (picks (s.Base false) 1) k refl (no_whole_there ts at w o))

no_vector_there : (ts : List Lexeme) (at : ℕ) → NoWordAt ts at → OtherAt ts at t.Struct → NoneAt (E (s.Base true)) ts at at
no_vector_there ts at w o = let k = w.token.terminal in bars_here (s.Base true) ts at k (there ts at w) (by_other_kinds (2 ∷ 13 ∷ 14 ∷ 21 ∷ 22 ∷ 23 ∷ 24 ∷ 62 ∷ []) (bars (s.Base true)) k refl (no_whole_there ts at w o))

pub integer_base_read : (ts : List Lexeme) (at next : ℕ) → NoWordAt ts at → OtherAt ts at t.Struct → ReadAt (E s.Integer) ts at next → ReadAt (E (s.Base false)) ts at next
integer_base_read ts at next w o r = done (E (s.Base false)) ts at next (then (E (s.Base false)) s.Integer [] ts at at next (integer_begun ts at w o) r refl)

pub integer_base_tree : (ts : List Lexeme) (at next : ℕ) (b : Base) → IntegerOf (between ts at next) b → BaseTree (between ts at next) b
integer_base_tree ts at next b i = x.integer (between ts at next) b i

pub integer_base_none : (ts : List Lexeme) (at next : ℕ) → NoWordAt ts at → OtherAt ts at t.Struct → ReadAt (E s.Integer) ts at next → NoneAt (E (s.Base true)) ts at next
integer_base_none ts at next w o r = none_more (E (s.Base true)) ts at at next (no_vector_there ts at w o) r.read.forth r.read.within

pub integer_barred : (ts : List Lexeme) (at : ℕ) (stop : ExprStop) → NoWordAt ts at → OtherAt ts at t.Struct → RefusedAt (E s.Integer) ts at stop → BarredAt (E (s.Base true)) ts at stop
integer_barred ts at stop w o r = record { barred = barred_where ts at s.Integer stop (no_vector_there ts at w o) r.refused }

pub integer_refused : (ts : List Lexeme) (at : ℕ) (stop : ExprStop) → NoWordAt ts at → OtherAt ts at t.Struct → RefusedAt (E s.Integer) ts at stop → RefusedAt (E (s.Base false)) ts at stop
integer_refused ts at stop w o r = stops_in (E (s.Base false)) s.Integer [] ts at at stop (integer_begun ts at w o) r refl refl
