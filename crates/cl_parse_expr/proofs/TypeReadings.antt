-- The steps of the parser's functions that read types.
use Rattle.std.proofs.Common.{◌≡◌, ℕ, zero, suc, ◌+◌, ◌-◌, ◌≤◌, ◌<◌, List, [], ◌∷◌, ◌++◌, length, drop, Bool, true, false, refl, sym, ap, ◌∙◌, subst, append_assoc, arith, ◌⊎◌, inl, inr}
use Rattle.std.specs.Prelude.{not, ◌&&◌, Option, Some, None}
use Rattle.std.proofs.lemmas.List.{append-nil, length-take, length-drop}
use Rattle.cl_ast.specs.declared.expression.Qual.{Qual}
use Rattle.cl_grammar.specs.declared.lexeme.Lexeme.{Lexeme}
use Rattle.cl_grammar.specs.declared.terminal.Terminal.{Terminal}
use Rattle.cl_grammar.specs.declared.terminal.Terminal.TheVariants as t
use Rattle.cl_grammar.specs.declared.stop.ExprStop.{ExprStop}
use Rattle.cl_grammar.specs.declared.stop.ExprStop.TheVariants.{Out, NoMemory}
use Rattle.cl_grammar.specs.Expressions as x
use Rattle.cl_grammar.specs.Expressions.{IsA, IsStar, MayBeStar}
use Rattle.cl_grammar.specs.ExpressionTrees as trees
use Rattle.cl_grammar.specs.ExpressionTrees.{StarOf}
use Rattle.cl_grammar.specs.Symbols as s
use Rattle.cl_grammar.specs.Symbols.{Sym, ExprSym, Mark, E, is_type_word, Is, Are, continues}
use Rattle.cl_grammar.specs.Items.{Fits, Item, Excluded, between, EndsIn, IsAt, OtherAt, GoesOn, ReadAt, NoneAt, RefusedAt, BarredAt, IsRefused, IsBarred}
use Rattle.cl_grammar.proofs.TerminalKinds.{kind}
use Rattle.cl_grammar.proofs.Rules.{Fills}
use Rattle.cl_grammar.proofs.Unfolded.{rows_of, part_of}
use Rattle.cl_grammar.proofs.Steps.{Keeps, first_of, are_join}
use Rattle.cl_grammar.proofs.Predicted.{picks, keeps_part}
use Rattle.cl_grammar.proofs.Places.{between_same, between_join, between_front, starts_with, expand, then, then_mark, done, goes, stops_in, bars_here, barred_in, none_in, none_more, by_class, by_other_class, by_other_kinds}
use Rattle.cl_parse_expr.specs.declared.expression.SpecRead.{SpecRead}
use Rattle.cl_parse_expr.specs.declared.simple.TermRead.{TermRead}
use Rattle.cl_parse_expr.specs.declared.simple.Tag.{Tag}
use Rattle.cl_parse_expr.specs.Reading.{is_none, TermFrom, TagAt, bare, tagged, MemberAt, NoMemberAt, full, other}
use Rattle.cl_parse_expr.proofs.Choices.{first_same, single, expand_single, dropped, stops_in_mark, either_refused, any_spec_read, any_spec_plain, other_comma, other_bracket, other_close_bracket}

-- ---- a part that is one of two rows, by its first symbols

-- what a part is
pub record TwoRows (x : ExprSym) (y : ExprSym) (ys : List Sym) (z : ExprSym) (zs : List Sym) : Type 0 where
  pub out : (u : List Lexeme) → Is (E x) u → Fills (E y ∷ ys) u ⊎ Fills (E z ∷ zs) u
  pub into : (u : List Lexeme) → Fills (E y ∷ ys) u → Is (E x) u

joined : (row others : List Sym) (u v : List Lexeme) → Fills row u → Are others v → Are (row ++ others) (u ++ v)
joined row others u v f are = are_join row others u v f.are are

two_of : {A B : Type 0} → A ⊎ (B ⊎ ⊥) → A ⊎ B
two_of (inl a) = inl a
two_of (inr (inl b)) = inr b
two_of (inr (inr e)) = absurd e

turned : {A B : Type 0} → A ⊎ B → B ⊎ A
turned (inl a) = inr a
turned (inr b) = inl b

star_token : (u v : List Lexeme) (l : Lexeme) (w : List Lexeme) → IsStar u → l ∷ w ≡ u ++ v → IsA t.Star l
star_token _ v l w (x.star q u a b) e = subst (λ z. IsA t.Star z) (sym (first_same l q w (u ++ v) e)) a

two_row_item : (x y z : ExprSym) (ys zs : List Sym) (read s s' : List Lexeme) → TwoRows x y ys z zs → Keeps (E x) (E y) ys → Keeps (E x) (E z) zs → Item (E y) [] read s s' → Excluded (E z) read s s' → Item (E x) ys read s s'
two_row_item x y z ys zs read s s' rows k m i n = record {
  split = i.split;
  builds = λ u are. rows.into (read ++ u) (record { are = (read, u, subst (Is (E y)) (append-nil read) (i.builds [] refl), are, refl) });
  only = λ others fits l v w first are. elim (rows.out are.0 are.2) as (λ _. Are (ys ++ others) (l ∷ w)) [
    | inl f ↦ (let g = joined (E y ∷ ys) others are.0 are.1 f are.3 in i.only (ys ++ others) (k.keeps others fits) l v w first (subst (Are (E y ∷ (ys ++ others))) (sym are.4) g))
    | inr f ↦ absurd (let g = joined (E z ∷ zs) others are.0 are.1 f are.3 in n.no_more (zs ++ others) (m.keeps others fits) l v w first (subst (Are (E z ∷ (zs ++ others))) (sym are.4) g))
  ];
}

pub two_rows_read : (x y z : ExprSym) (ys zs : List Sym) (ts : List Lexeme) (a b : ℕ) → TwoRows x y ys z zs → Keeps (E x) (E y) ys → Keeps (E x) (E z) zs → ReadAt (E y) ts a b → NoneAt (E z) ts a b → GoesOn (E x) ys ts a b
two_rows_read x y z ys zs ts a b rows k m r n = record { forth = r.read.forth; within = r.read.within; item = two_row_item x y z ys zs (between ts a b) (drop a ts) (drop b ts) rows k m r.read.item n.excluded }

term_plain : TwoRows (s.TypeTerm false) (s.Spec false) (E s.MayStar ∷ []) (s.Spec true) (E s.Star ∷ [])
term_plain = record { out = λ u a. two_of (rows_of (s.TypeTerm false) u a); into = λ u f. part_of (s.TypeTerm false) u (inl f) }

term_pointer : TwoRows (s.TypeTerm false) (s.Spec true) (E s.Star ∷ []) (s.Spec false) (E s.MayStar ∷ [])
term_pointer = record { out = λ u a. turned (two_of (rows_of (s.TypeTerm false) u a)); into = λ u f. part_of (s.TypeTerm false) u (inr (inl f)) }

-- ---- the name of a type

no_term : (vector : Bool) (ts : List Lexeme) (at a : ℕ) → at < length ts → NoneAt (E (s.Spec true)) ts at a → NoneAt (E (s.TypeTerm true)) ts at a
no_term vector ts at a h n = none_in (E (s.TypeTerm true)) (s.Spec true) [] ts at at a (single (s.TypeTerm true) ts at h (λ k. refl)) n refl

pub record TermReads (vector : Bool) (ts : List Lexeme) (at next : ℕ) : Type 0 where
  pub read : ReadAt (E (s.TypeTerm vector)) ts at next
  pub none : NoneAt (E (s.TypeTerm (not vector))) ts at next

-- a plain type, and what stands behind it
plain_term : (ts : List Lexeme) (at a b : ℕ) → at < length ts → ReadAt (E (s.Spec false)) ts at a → NoneAt (E (s.Spec true)) ts at a → ReadAt (E s.MayStar) ts a b → TermReads false ts at b
plain_term ts at a b h r n m = record {
  read = done (E (s.TypeTerm false)) ts at b (then (E (s.TypeTerm false)) s.MayStar [] ts at a b (two_rows_read (s.TypeTerm false) (s.Spec false) (s.Spec true) (E s.MayStar ∷ []) (E s.Star ∷ []) ts at a term_plain (keeps_part (E (s.TypeTerm false)) (s.Spec false) (E s.MayStar ∷ []) refl) (keeps_part (E (s.TypeTerm false)) (s.Spec true) (E s.Star ∷ []) refl) r n) m refl);
  none = none_more (E (s.TypeTerm true)) ts at a b (no_term true ts at a h n) m.read.forth m.read.within;
}

-- No `*` stands where none was read.
no_star : (ts : List Lexeme) (a : ℕ) (others : List Sym) (l : Lexeme) (v w : List Lexeme) → ReadAt (E s.MayStar) ts a a → drop a ts ≡ l ∷ v → Are (E s.Star ∷ others) (l ∷ w) → ⊥
no_star ts a others l v w m e are =
    let st = star_token are.0 are.1 l w are.2 are.4 in
    let g = m.read.item.only [] (record { stops = λ l2 w2 are2. absurd (let q : l2 ∷ w2 ≡ [] = are2 in cc) }) l v [] e (subst (λ z. Are (E s.MayStar ∷ []) (z ++ l ∷ [])) (sym (between_same ts a)) (l ∷ [], [], x.some (l ∷ []) (x.star l [] st tt), refl, refl)) in
    let q : l ∷ [] ≡ [] = g in cc

vector_alone : (ts : List Lexeme) (at a : ℕ) → at < length ts → ReadAt (E (s.Spec true)) ts at a → NoneAt (E (s.Spec false)) ts at a → ReadAt (E s.MayStar) ts a a → TermReads true ts at a
vector_alone ts at a h r n m = record {
  read = done (E (s.TypeTerm true)) ts at a (then (E (s.TypeTerm true)) (s.Spec true) [] ts at at a (single (s.TypeTerm true) ts at h (λ k. refl)) r refl);
  none = record {
    forth = r.read.forth;
    within = r.read.within;
    excluded = record {
      split = r.read.item.split;
      no_more = λ others fits l v w first are.
          no_star ts a others l v w m first ((two_rows_read (s.TypeTerm false) (s.Spec true) (s.Spec false) (E s.Star ∷ []) (E s.MayStar ∷ []) ts at a term_pointer (keeps_part (E (s.TypeTerm false)) (s.Spec true) (E s.Star ∷ []) refl) (keeps_part (E (s.TypeTerm false)) (s.Spec false) (E s.MayStar ∷ []) refl) r n).item.only others fits l v w first are);
    };
  };
}

-- a `*` was read behind a vector
star_behind : (others : List Sym) → Fits (E (s.TypeTerm false)) others → Fits (E s.MayStar) others
star_behind others f = (keeps_part (E (s.TypeTerm false)) s.MayStar [] refl).keeps others f

pointer_item : (ts : List Lexeme) (at a b : ℕ) → GoesOn (E (s.TypeTerm false)) (E s.Star ∷ []) ts at a → ReadAt (E s.MayStar) ts a b → IsStar (between ts a b) → GoesOn (E (s.TypeTerm false)) [] ts at b
pointer_item ts at a b i m st = record {
  forth = let f = i.forth in let g = m.read.forth in omega arith;
  within = m.read.within;
  item = subst (λ z. Item (E (s.TypeTerm false)) [] z (drop at ts) (drop b ts)) (between_join ts at a b i.forth m.read.forth) (record {
    split = i.item.split ∙ ap (λ z. between ts at a ++ z) m.read.item.split ∙ sym (append_assoc (between ts at a) (between ts a b) (drop b ts));
    builds = λ u are. subst (Is (E (s.TypeTerm false))) (sym (ap (λ z. (between ts at a ++ between ts a b) ++ z) are ∙ append-nil (between ts at a ++ between ts a b))) (i.item.builds (between ts a b) (between ts a b, [], st, refl, sym (append-nil (between ts a b))));
    only = λ others fits l v w first are.
        let f = first_of (between ts a b) (drop a ts) (drop b ts) l v w m.read.item.split first in
        let g = subst (Are (E (s.TypeTerm false) ∷ others)) (append_assoc (between ts at a) (between ts a b) (l ∷ w)) are in
        let d = i.item.only others fits f.0 f.1 f.2 f.3 (subst (λ z. Are (E (s.TypeTerm false) ∷ others) (between ts at a ++ z)) f.4 g) in
        let e = subst (Are (E s.Star ∷ others)) (sym f.4) d in
        m.read.item.only others (star_behind others fits) l v w first (e.0, e.1, x.some e.0 e.2, e.3, e.4);
  });
}

star_of_tree : (u : List Lexeme) (quals : List Qual) → StarOf u (Some quals) → MayBeStar u → IsStar u
star_of_tree _ quals (trees.some st u _ a b) (x.some _ c) = c

-- the first token of a star
pub starred : (u v : List Lexeme) (w : List Lexeme) (l : Lexeme) → IsStar u → u ++ v ≡ l ∷ w → IsA t.Star l
starred _ v w l (x.star q u a b) e = subst (λ z. IsA t.Star z) (first_same q l (u ++ v) w e) a

no_vector_before_star : (ts : List Lexeme) (at a b : ℕ) → ReadAt (E (s.TypeTerm true)) ts at a → ReadAt (E s.MayStar) ts a b → IsStar (between ts a b) → NoneAt (E (s.TypeTerm true)) ts at a
no_vector_before_star ts at a b r m st = record {
  forth = r.read.forth;
  within = r.read.within;
  excluded = record {
    split = r.read.item.split;
    no_more = λ others fits l v w first are.
        let d = r.read.item.only others fits l v w first are in
        let g = fits.stops l w d in
        let q : IsA t.Star l = starred (between ts a b) (drop b ts) v l st (sym (between_front ts a b m.read.forth) ∙ first) in
        let y : true ≡ false = subst (λ z. continues (E (s.TypeTerm true)) z ≡ false) q g in cc;
  };
}

vector_pointer : (ts : List Lexeme) (at a b : ℕ) → at < length ts → ReadAt (E (s.Spec true)) ts at a → NoneAt (E (s.Spec false)) ts at a → ReadAt (E s.MayStar) ts a b → IsStar (between ts a b) → TermReads false ts at b
vector_pointer ts at a b h r n m st = record {
  read = done (E (s.TypeTerm false)) ts at b (pointer_item ts at a b (two_rows_read (s.TypeTerm false) (s.Spec true) (s.Spec false) (E s.Star ∷ []) (E s.MayStar ∷ []) ts at a term_pointer (keeps_part (E (s.TypeTerm false)) (s.Spec true) (E s.Star ∷ []) refl) (keeps_part (E (s.TypeTerm false)) (s.Spec false) (E s.MayStar ∷ []) refl) r n) m st);
  none = none_more (E (s.TypeTerm true)) ts at a b (no_vector_before_star ts at a b (done (E (s.TypeTerm true)) ts at a (then (E (s.TypeTerm true)) (s.Spec true) [] ts at at a (single (s.TypeTerm true) ts at h (λ k. refl)) r refl)) m st) m.read.forth m.read.within;
}

-- ---- the words of a type

spec_first : (vector : Bool) (ts : List Lexeme) (at : ℕ) → at < length ts → GoesOn (E (s.Spec vector)) (E s.Qualifiers ∷ E (s.Base vector) ∷ E s.Qualifiers ∷ []) ts at at
spec_first vector ts at h = single (s.Spec vector) ts at h (λ k. refl)

spec_base : (vector : Bool) (ts : List Lexeme) (at a : ℕ) → at < length ts → ReadAt (E s.Qualifiers) ts at a → GoesOn (E (s.Spec vector)) (E (s.Base vector) ∷ E s.Qualifiers ∷ []) ts at a
spec_base true ts at a h r = then (E (s.Spec true)) s.Qualifiers (E (s.Base true) ∷ E s.Qualifiers ∷ []) ts at at a (spec_first true ts at h) r refl
spec_base false ts at a h r = then (E (s.Spec false)) s.Qualifiers (E (s.Base false) ∷ E s.Qualifiers ∷ []) ts at at a (spec_first false ts at h) r refl

pub spec_refused : (ts : List Lexeme) (at a : ℕ) (stop : ExprStop) → at < length ts → ReadAt (E s.Qualifiers) ts at a → RefusedAt (E (s.Base false)) ts a stop → RefusedAt (E (s.Spec false)) ts at stop
spec_refused ts at a stop h r m = stops_in (E (s.Spec false)) (s.Base false) (E s.Qualifiers ∷ []) ts at a stop (spec_base false ts at a h r) m refl refl

pub spec_barred : (ts : List Lexeme) (at a : ℕ) (stop : ExprStop) → at < length ts → ReadAt (E s.Qualifiers) ts at a → BarredAt (E (s.Base true)) ts a stop → BarredAt (E (s.Spec true)) ts at stop
spec_barred ts at a stop h r m = barred_in (E (s.Spec true)) (s.Base true) (E s.Qualifiers ∷ []) ts at a stop (spec_base true ts at a h r) m refl

pub spec_read : (vector : Bool) (ts : List Lexeme) (at a b d : ℕ) → at < length ts → ReadAt (E s.Qualifiers) ts at a → ReadAt (E (s.Base vector)) ts a b → ReadAt (E s.Qualifiers) ts b d → ReadAt (E (s.Spec vector)) ts at d
spec_read vector ts at a b d h r q m = done (E (s.Spec vector)) ts at d (then (E (s.Spec vector)) s.Qualifiers [] ts at b d (then (E (s.Spec vector)) (s.Base vector) (E s.Qualifiers ∷ []) ts at a b (spec_base vector ts at a h r) q refl) m refl)

pub spec_none : (vector : Bool) (ts : List Lexeme) (at a b d : ℕ) → at < length ts → ReadAt (E s.Qualifiers) ts at a → NoneAt (E (s.Base vector)) ts a b → ReadAt (E s.Qualifiers) ts b d → NoneAt (E (s.Spec vector)) ts at d
spec_none vector ts at a b d h r n m = none_more (E (s.Spec vector)) ts at b d (none_in (E (s.Spec vector)) (s.Base vector) (E s.Qualifiers ∷ []) ts at a b (spec_base vector ts at a h r) n refl) m.read.forth m.read.within

-- the name of a type by its words and what stands behind them
length_between : (ts : List Lexeme) (a b : ℕ) → b ≤ length ts → length (between ts a b) ≡ b - a
length_between ts a b h = simp (length-take, length-drop) (omega arith)

may_star_of : (ts : List Lexeme) (a b : ℕ) → ReadAt (E s.MayStar) ts a b → MayBeStar (between ts a b)
may_star_of ts a b m = subst MayBeStar (append-nil (between ts a b)) (m.read.item.builds [] refl)

term_stop : (ts : List Lexeme) (at : ℕ) (stop : ExprStop) → IsRefused (E (s.Spec false)) ts at stop → IsBarred (E (s.Spec true)) ts at stop → IsRefused (E (s.TypeTerm false)) ts at stop
term_stop ts at (Out k) r n = record {
  none = record {
    forth = r.none.forth;
    within = r.none.within;
    excluded = record {
      split = r.none.excluded.split;
      no_more = λ others fits l v w first are. elim (two_of (rows_of (s.TypeTerm false) are.0 are.2)) as (λ _. ⊥) [
        | inl f ↦ (let g = joined (E (s.Spec false) ∷ E s.MayStar ∷ []) others are.0 are.1 f are.3 in r.none.excluded.no_more (E s.MayStar ∷ others) ((keeps_part (E (s.TypeTerm false)) (s.Spec false) (E s.MayStar ∷ []) refl).keeps others fits) l v w first (subst (Are (E (s.Spec false) ∷ (E s.MayStar ∷ others))) (sym are.4) g))
        | inr f ↦ (let g = joined (E (s.Spec true) ∷ E s.Star ∷ []) others are.0 are.1 f are.3 in n.excluded.no_more (E s.Star ∷ others) ((keeps_part (E (s.TypeTerm false)) (s.Spec true) (E s.Star ∷ []) refl).keeps others fits) l v w first (subst (Are (E (s.Spec true) ∷ (E s.Star ∷ others))) (sym are.4) g))
      ];
    };
  };
  begun = record { todo = r.begun.todo; there = r.begun.there; builds = λ u are. x.plain_type false (between ts at k ++ u) (r.begun.builds u are) };
}
term_stop ts at NoMemory r n = tt

star_end : (ts : List Lexeme) (a b : ℕ) → a ≤ b → b < length ts → between ts a b ≡ [] → b ≡ a
star_end ts a b h g e = let k : length (between ts a b) ≡ b - a = length_between ts a b (omega arith) in let m : length (between ts a b) ≡ 0 = ap length e in omega arith

no_quals : (u : List Lexeme) → StarOf u None → u ≡ []
no_quals _ trees.none = refl

whole_term : (vector : Bool) (star : Option (List Qual)) (ts : List Lexeme) (at a b : ℕ) → at < length ts → ReadAt (E (s.Spec vector)) ts at a → NoneAt (E (s.Spec (not vector))) ts at a → ReadAt (E s.MayStar) ts a b → StarOf (between ts a b) star → TermReads (vector && is_none star) ts at b
whole_term false star ts at a b h r n m st = plain_term ts at a b h r n m
whole_term true None ts at a b h r n m st =
    let e : b ≡ a = star_end ts a b m.read.forth m.read.within (no_quals (between ts a b) st) in
    subst (λ z. TermReads true ts at z) (sym e) (vector_alone ts at a h r n (subst (λ z. ReadAt (E s.MayStar) ts a z) e m))
whole_term true (Some quals) ts at a b h r n m st = vector_pointer ts at a b h r n m (star_of_tree (between ts a b) quals st (may_star_of ts a b m))

pub term_reads : (ts : List Lexeme) (at : ℕ) (words : SpecRead) (name : TermRead) → at < length ts → ReadAt (E (s.Spec words.vector)) ts at words.next → NoneAt (E (s.Spec (not words.vector))) ts at words.next → TermFrom ts words name → TermReads name.vector ts at name.next
term_reads ts at words name h r n f =
    subst (λ z. TermReads z ts at name.next) (sym f.vector) (whole_term words.vector f.star ts at words.next name.next h r n (subst (λ z. ReadAt (E s.MayStar) ts z name.next) f.here f.stars) (subst (λ z. StarOf (between ts z name.next) f.star) f.here f.means))

-- a refused type's words are a refused type
pub term_refused : (ts : List Lexeme) (at : ℕ) (stop : ExprStop) → at < length ts → RefusedAt (E (s.Spec false)) ts at stop → BarredAt (E (s.Spec true)) ts at stop → RefusedAt (E (s.TypeTerm false)) ts at stop
term_refused ts at stop h r n = record { refused = term_stop ts at stop r.refused n.barred }

pub term_barred : (ts : List Lexeme) (at : ℕ) (stop : ExprStop) → at < length ts → BarredAt (E (s.Spec true)) ts at stop → BarredAt (E (s.TypeTerm true)) ts at stop
term_barred ts at stop h n = barred_in (E (s.TypeTerm true)) (s.Spec true) [] ts at at stop (single (s.TypeTerm true) ts at h (λ k. refl)) n refl

-- ---- a struct with its members

struct_first : (ts : List Lexeme) (at : ℕ) → EndsIn ts → IsAt ts at t.Struct → GoesOn (E (s.Base false)) (E s.BehindStruct ∷ []) ts at (at + 1)
struct_first ts at ends c = then_mark (E (s.Base false)) t.Struct (E s.BehindStruct ∷ []) ts at at ends (starts_with (s.Base false) 2 ts at t.Struct c refl) c refl

open_body : (ts : List Lexeme) (at a : ℕ) → EndsIn ts → GoesOn (E (s.Base false)) (E s.Body ∷ []) ts at a → IsAt ts a t.OpenBrace → GoesOn (E (s.Base false)) (E (s.Members 65500) ∷ Mark t.CloseBrace ∷ []) ts at (a + 1)
open_body ts at a ends i c = then_mark (E (s.Base false)) t.OpenBrace (E (s.Members 65500) ∷ Mark t.CloseBrace ∷ []) ts at a ends (expand_single (E (s.Base false)) s.Body [] ts at a i (λ k. refl) refl) c refl

-- The words before the members were read.
pub struct_open : (ts : List Lexeme) (at : ℕ) (tag : Tag) → EndsIn ts → TagAt ts at tag → GoesOn (E (s.Base false)) (E (s.Members 65500) ∷ Mark t.CloseBrace ∷ []) ts at (tag.brace + 1)
struct_open ts at tag ends (bare c p n e b) =
    let i = expand (E (s.Base false)) s.BehindStruct [] 1 ts at (at + 1) t.OpenBrace (struct_first ts at ends c) b refl refl in
    subst (λ z. GoesOn (E (s.Base false)) (E (s.Members 65500) ∷ Mark t.CloseBrace ∷ []) ts at (z + 1)) (sym e) (open_body ts at (at + 1) ends i b)
struct_open ts at tag ends (tagged name c n x p q e b) =
    let i = expand (E (s.Base false)) s.BehindStruct [] 0 ts at (at + 1) t.Name (struct_first ts at ends c) n refl refl in
    let j = then_mark (E (s.Base false)) t.Name (E s.MayBody ∷ []) ts at (at + 1) ends i n refl in
    let two : (at + 1) + 1 ≡ at + 2 = omega arith in
    let k = expand (E (s.Base false)) s.MayBody [] 1 ts at (at + 2) t.OpenBrace (subst (λ z. GoesOn (E (s.Base false)) (E s.MayBody ∷ []) ts at z) two j) b refl refl in
    subst (λ z. GoesOn (E (s.Base false)) (E (s.Members 65500) ∷ Mark t.CloseBrace ∷ []) ts at (z + 1)) (sym e) (open_body ts at (at + 2) ends k b)

-- How far the members of a struct were read: some may follow, or some must.
pub data StructSoFar (ts : List Lexeme) (at here room count : ℕ) : Type 0 where
  none_yet : count ≡ 0 → room ≡ 65500 → GoesOn (E (s.Base false)) (E (s.Members 65500) ∷ Mark t.CloseBrace ∷ []) ts at here → StructSoFar ts at here room count
  some_read : 0 < count → GoesOn (E (s.Base false)) (E (s.MayMembers room) ∷ Mark t.CloseBrace ∷ []) ts at here → StructSoFar ts at here room count

pub positive : (n : ℕ) → 0 < n → (m : ℕ) × (n ≡ suc m)
positive zero h = absurd (omega arith)
positive (suc m) h = (m, refl)

pub member_here : (ts : List Lexeme) (at here m : ℕ) (k : Terminal) → GoesOn (E (s.Base false)) (E (s.MayMembers (suc m)) ∷ Mark t.CloseBrace ∷ []) ts at here → IsAt ts here k → is_type_word k ≡ true → GoesOn (E (s.Base false)) (E (s.Members (suc m)) ∷ Mark t.CloseBrace ∷ []) ts at here
member_here ts at here m k i c w = expand (E (s.Base false)) (s.MayMembers (suc m)) (Mark t.CloseBrace ∷ []) 1 ts at here k i c (by_class s.TypeWord (picks (s.MayMembers (suc m)) 1) k refl w) refl

-- Another member is to be read.
pub record MemberNext (ts : List Lexeme) (at here room : ℕ) : Type 0 where
  pub free : ℕ
  pub is : room ≡ suc free
  pub goes : GoesOn (E (s.Base false)) (E s.AnySpec ∷ E (s.Names (suc free)) ∷ Mark t.CloseBrace ∷ []) ts at here

pub member_next : (ts : List Lexeme) (at here room m : ℕ) → room ≡ suc m → GoesOn (E (s.Base false)) (E (s.Members (suc m)) ∷ Mark t.CloseBrace ∷ []) ts at here → MemberNext ts at here room
member_next ts at here room m e i = record { free = m; is = e; goes = expand_single (E (s.Base false)) (s.Members (suc m)) (Mark t.CloseBrace ∷ []) ts at here i (λ k. refl) refl }

pub first_member : (ts : List Lexeme) (at here room count : ℕ) → StructSoFar ts at here room count → count ≡ 0 → MemberNext ts at here room
first_member ts at here room count (none_yet z r i) e = member_next ts at here room 65499 r i
first_member ts at here room count (some_read z i) e = absurd (omega arith)

pub another_member : (ts : List Lexeme) (at here room count : ℕ) → StructSoFar ts at here room count → MemberAt ts here room → MemberNext ts at here room
another_member ts at here room count (none_yet z r i) m = member_next ts at here room 65499 r i
another_member ts at here room count (some_read z i) m =
    let p = positive room m.free in
    member_next ts at here room p.0 p.1 (member_here ts at here p.0 m.word (subst (λ z. GoesOn (E (s.Base false)) (E (s.MayMembers z) ∷ Mark t.CloseBrace ∷ []) ts at here) p.1 i) m.stands m.begins)

pub member_refused_words : (ts : List Lexeme) (at here room : ℕ) (stop : ExprStop) → MemberNext ts at here room → RefusedAt (E (s.Spec false)) ts here stop → BarredAt (E (s.Spec true)) ts here stop → RefusedAt (E (s.Base false)) ts at stop
member_refused_words ts at here room stop m r n = stops_in (E (s.Base false)) s.AnySpec (E (s.Names (suc m.free)) ∷ Mark t.CloseBrace ∷ []) ts at here stop m.goes (either_refused s.AnySpec (s.Spec false) (s.Spec true) ts here stop any_spec_plain r n) refl refl

pub member_words : (vector : Bool) (ts : List Lexeme) (at here room a : ℕ) (m : MemberNext ts at here room) → ReadAt (E (s.Spec vector)) ts here a → NoneAt (E (s.Spec (not vector))) ts here a → GoesOn (E (s.Base false)) (E (s.Names room) ∷ Mark t.CloseBrace ∷ []) ts at a
member_words vector ts at here room a m r n = subst (λ z. GoesOn (E (s.Base false)) (E (s.Names z) ∷ Mark t.CloseBrace ∷ []) ts at a) (sym m.is) (then (E (s.Base false)) s.AnySpec (E (s.Names (suc m.free)) ∷ Mark t.CloseBrace ∷ []) ts at here a m.goes (any_spec_read vector ts here a r n) refl)

pub member_refused_names : (vector : Bool) (ts : List Lexeme) (at here room a : ℕ) (stop : ExprStop) → MemberNext ts at here room → ReadAt (E (s.Spec vector)) ts here a → NoneAt (E (s.Spec (not vector))) ts here a → RefusedAt (E (s.Names room)) ts a stop → RefusedAt (E (s.Base false)) ts at stop
member_refused_names vector ts at here room a stop m r n q = stops_in (E (s.Base false)) (s.Names room) (Mark t.CloseBrace ∷ []) ts at a stop (member_words vector ts at here room a m r n) q refl refl

pub member_read : (vector : Bool) (ts : List Lexeme) (at here room a b left count : ℕ) → MemberNext ts at here room → ReadAt (E (s.Spec vector)) ts here a → NoneAt (E (s.Spec (not vector))) ts here a → GoesOn (E (s.Names room)) (E (s.MayMembers left) ∷ []) ts a b → 0 < count → StructSoFar ts at b left count
member_read vector ts at here room a b left count m r n q h = some_read h (goes (E (s.Base false)) (E (s.Names room)) (Mark t.CloseBrace ∷ []) (E (s.MayMembers left) ∷ []) ts at a b (keeps_part (E (s.Base false)) (s.Names room) (Mark t.CloseBrace ∷ []) refl) (member_words vector ts at here room a m r n) q)

no_member_picked : (room : ℕ) (k : Terminal) → is_type_word k ≡ false → picks (s.MayMembers room) 0 (kind k) ≡ true
no_member_picked zero k h = refl
no_member_picked (suc room) k h = by_other_class s.TypeWord (picks (s.MayMembers (suc room)) 0) k refl h

pub members_over : (ts : List Lexeme) (at here room : ℕ) → GoesOn (E (s.Base false)) (E (s.MayMembers room) ∷ Mark t.CloseBrace ∷ []) ts at here → NoMemberAt ts here room → GoesOn (E (s.Base false)) (Mark t.CloseBrace ∷ []) ts at here
members_over ts at here zero i m = expand_single (E (s.Base false)) (s.MayMembers zero) (Mark t.CloseBrace ∷ []) ts at here i (λ k. refl) refl
members_over ts at here (suc room) i (full e) = absurd (omega arith)
members_over ts at here (suc room) i (other k c w) = expand (E (s.Base false)) (s.MayMembers (suc room)) (Mark t.CloseBrace ∷ []) 0 ts at here k i c (no_member_picked (suc room) k w) refl

-- All members were read.
pub members_done : (ts : List Lexeme) (at here room count : ℕ) → StructSoFar ts at here room count → 0 < count → NoMemberAt ts here room → GoesOn (E (s.Base false)) (Mark t.CloseBrace ∷ []) ts at here
members_done ts at here room count (none_yet z r i) h m = absurd (omega arith)
members_done ts at here room count (some_read z i) h m = members_over ts at here room i m

pub struct_refused_close : (ts : List Lexeme) (at here : ℕ) (stop : ExprStop) → GoesOn (E (s.Base false)) (Mark t.CloseBrace ∷ []) ts at here → RefusedAt (Mark t.CloseBrace) ts here stop → RefusedAt (E (s.Base false)) ts at stop
struct_refused_close ts at here stop i m = stops_in_mark (E (s.Base false)) t.CloseBrace [] ts at here stop i m refl

pub struct_read : (ts : List Lexeme) (at here : ℕ) → EndsIn ts → GoesOn (E (s.Base false)) (Mark t.CloseBrace ∷ []) ts at here → IsAt ts here t.CloseBrace → ReadAt (E (s.Base false)) ts at (here + 1)
struct_read ts at here ends i c = done (E (s.Base false)) ts at (here + 1) (then_mark (E (s.Base false)) t.CloseBrace [] ts at here ends i c refl)

-- A struct names no vector.
pub struct_no_vector : (ts : List Lexeme) (at n : ℕ) → IsAt ts at t.Struct → at ≤ n → n < length ts → NoneAt (E (s.Base true)) ts at n
struct_no_vector ts at n c h g = none_more (E (s.Base true)) ts at at n (bars_here (s.Base true) ts at t.Struct c refl) h g

struct_stop : (ts : List Lexeme) (at : ℕ) (stop : ExprStop) → IsAt ts at t.Struct → IsRefused (E (s.Base false)) ts at stop → IsBarred (E (s.Base true)) ts at stop
struct_stop ts at (Out k) c h = struct_no_vector ts at k c h.none.forth h.none.within
struct_stop ts at NoMemory c h = tt

pub struct_barred : (ts : List Lexeme) (at : ℕ) (stop : ExprStop) → IsAt ts at t.Struct → RefusedAt (E (s.Base false)) ts at stop → BarredAt (E (s.Base true)) ts at stop
struct_barred ts at stop c h = record { barred = struct_stop ts at stop c h.refused }

-- ---- declared names

names_first : (room : ℕ) (ts : List Lexeme) (at : ℕ) → at < length ts → GoesOn (E (s.Names (suc room))) (E s.Declor ∷ E (s.BehindName room) ∷ []) ts at at
names_first room ts at h = single (s.Names (suc room)) ts at h (λ k. refl)

pub names_refused : (room : ℕ) (ts : List Lexeme) (at : ℕ) (stop : ExprStop) → at < length ts → 0 < room → RefusedAt (E s.Declor) ts at stop → RefusedAt (E (s.Names room)) ts at stop
names_refused zero ts at stop h g r = absurd (omega arith)
names_refused (suc room) ts at stop h g r = stops_in (E (s.Names (suc room))) s.Declor (E (s.BehindName room) ∷ []) ts at at stop (names_first room ts at h) r refl refl

pub names_read : (room left : ℕ) (ts : List Lexeme) (at a : ℕ) → at < length ts → room ≡ suc left → ReadAt (E s.Declor) ts at a → GoesOn (E (s.Names room)) (E (s.BehindName left) ∷ []) ts at a
names_read room left ts at a h e r = subst (λ z. GoesOn (E (s.Names z)) (E (s.BehindName left) ∷ []) ts at a) (sym e) (then (E (s.Names (suc left))) s.Declor (E (s.BehindName left) ∷ []) ts at at a (names_first left ts at h) r refl)

names_next : (room left : ℕ) (ts : List Lexeme) (at a : ℕ) → EndsIn ts → GoesOn (E (s.Names room)) (E (s.BehindName (suc left)) ∷ []) ts at a → IsAt ts a t.Comma → GoesOn (E (s.Names room)) (E s.Declor ∷ E (s.BehindName left) ∷ []) ts at (a + 1)
names_next room left ts at a ends i c =
    let j = expand (E (s.Names room)) (s.BehindName (suc left)) [] 1 ts at a t.Comma i c refl refl in
    let k = then_mark (E (s.Names room)) t.Comma (E (s.Names (suc left)) ∷ []) ts at a ends j c refl in
    expand_single (E (s.Names room)) (s.Names (suc left)) [] ts at (a + 1) k (λ n. refl) refl

pub names_more : (room before left : ℕ) (ts : List Lexeme) (at a b : ℕ) → EndsIn ts → before ≡ suc left → GoesOn (E (s.Names room)) (E (s.BehindName before) ∷ []) ts at a → IsAt ts a t.Comma → ReadAt (E s.Declor) ts (a + 1) b → GoesOn (E (s.Names room)) (E (s.BehindName left) ∷ []) ts at b
names_more room before left ts at a b ends e i c r = then (E (s.Names room)) s.Declor (E (s.BehindName left) ∷ []) ts at (a + 1) b (names_next room left ts at a ends (subst (λ z. GoesOn (E (s.Names room)) (E (s.BehindName z) ∷ []) ts at a) e i) c) r refl

pub names_refused_more : (room before left : ℕ) (ts : List Lexeme) (at a : ℕ) (stop : ExprStop) → EndsIn ts → before ≡ suc left → GoesOn (E (s.Names room)) (E (s.BehindName before) ∷ []) ts at a → IsAt ts a t.Comma → RefusedAt (E s.Declor) ts (a + 1) stop → RefusedAt (E (s.Names room)) ts at stop
names_refused_more room before left ts at a stop ends e i c r = stops_in (E (s.Names room)) s.Declor (E (s.BehindName left) ∷ []) ts at (a + 1) stop (names_next room left ts at a ends (subst (λ z. GoesOn (E (s.Names room)) (E (s.BehindName z) ∷ []) ts at a) e i) c) r refl refl

-- No comma, or no room for another name: only `;` goes on.
semicolon_next : (room left : ℕ) (ts : List Lexeme) (at a : ℕ) (k : Terminal) → GoesOn (E (s.Names room)) (E (s.BehindName left) ∷ []) ts at a → IsAt ts a k → (left ≡ 0) ⊎ (k ≡ t.Comma → ⊥) → GoesOn (E (s.Names room)) (Mark t.Semicolon ∷ E (s.MayMembers left) ∷ []) ts at a
semicolon_next room zero ts at a k i c h = expand_single (E (s.Names room)) (s.BehindName zero) [] ts at a i (λ n. refl) refl
semicolon_next room (suc left) ts at a k i c (inl e) = absurd (omega arith)
semicolon_next room (suc left) ts at a k i c (inr h) = expand (E (s.Names room)) (s.BehindName (suc left)) [] 0 ts at a k i c (by_other_kinds (43 ∷ []) (picks (s.BehindName (suc left)) 0) k refl (other_comma k h)) refl

pub names_refused_semicolon : (room left : ℕ) (ts : List Lexeme) (at a : ℕ) (k : Terminal) (stop : ExprStop) → GoesOn (E (s.Names room)) (E (s.BehindName left) ∷ []) ts at a → IsAt ts a k → (left ≡ 0) ⊎ (k ≡ t.Comma → ⊥) → RefusedAt (Mark t.Semicolon) ts a stop → RefusedAt (E (s.Names room)) ts at stop
names_refused_semicolon room left ts at a k stop i c h m = stops_in_mark (E (s.Names room)) t.Semicolon (E (s.MayMembers left) ∷ []) ts at a stop (semicolon_next room left ts at a k i c h) m refl

pub names_done : (room left : ℕ) (ts : List Lexeme) (at a : ℕ) (k : Terminal) → EndsIn ts → GoesOn (E (s.Names room)) (E (s.BehindName left) ∷ []) ts at a → IsAt ts a k → (left ≡ 0) ⊎ (k ≡ t.Comma → ⊥) → IsAt ts a t.Semicolon → GoesOn (E (s.Names room)) (E (s.MayMembers left) ∷ []) ts at (a + 1)
names_done room left ts at a k ends i c h m = then_mark (E (s.Names room)) t.Semicolon (E (s.MayMembers left) ∷ []) ts at a ends (semicolon_next room left ts at a k i c h) m refl

-- ---- lengths

lengths_open : (ts : List Lexeme) (at a : ℕ) → EndsIn ts → GoesOn (E s.Declor) (E s.Lengths ∷ []) ts at a → IsAt ts a t.OpenBracket → GoesOn (E s.Declor) (E s.Length ∷ []) ts at (a + 1)
lengths_open ts at a ends i c = then_mark (E s.Declor) t.OpenBracket (E s.Length ∷ []) ts at a ends (expand (E s.Declor) s.Lengths [] 1 ts at a t.OpenBracket i c refl refl) c refl

pub lengths_missing : (ts : List Lexeme) (at a : ℕ) → EndsIn ts → GoesOn (E s.Declor) (E s.Lengths ∷ []) ts at a → IsAt ts a t.OpenBracket → IsAt ts (a + 1) t.CloseBracket → GoesOn (E s.Declor) (E s.Lengths ∷ []) ts at (a + 2)
lengths_missing ts at a ends i c d =
    let two : (a + 1) + 1 ≡ a + 2 = omega arith in
    subst (λ z. GoesOn (E s.Declor) (E s.Lengths ∷ []) ts at z) two (then_mark (E s.Declor) t.CloseBracket (E s.Lengths ∷ []) ts at (a + 1) ends (expand (E s.Declor) s.Length [] 0 ts at (a + 1) t.CloseBracket (lengths_open ts at a ends i c) d refl refl) d refl)

length_first : (ts : List Lexeme) (at a : ℕ) → EndsIn ts → GoesOn (E s.Declor) (E s.Lengths ∷ []) ts at a → IsAt ts a t.OpenBracket → OtherAt ts (a + 1) t.CloseBracket → GoesOn (E s.Declor) (E s.Cond ∷ Mark t.CloseBracket ∷ E s.Lengths ∷ []) ts at (a + 1)
length_first ts at a ends i c o = dropped (E s.Declor) s.Length [] 1 t.CloseBracket (40 ∷ []) ts at (a + 1) (lengths_open ts at a ends i c) o other_close_bracket refl refl

pub length_refused : (ts : List Lexeme) (at a : ℕ) (stop : ExprStop) → EndsIn ts → GoesOn (E s.Declor) (E s.Lengths ∷ []) ts at a → IsAt ts a t.OpenBracket → OtherAt ts (a + 1) t.CloseBracket → RefusedAt (E s.Cond) ts (a + 1) stop → RefusedAt (E s.Declor) ts at stop
length_refused ts at a stop ends i c o r = stops_in (E s.Declor) s.Cond (Mark t.CloseBracket ∷ E s.Lengths ∷ []) ts at (a + 1) stop (length_first ts at a ends i c o) r refl refl

length_read : (ts : List Lexeme) (at a b : ℕ) → EndsIn ts → GoesOn (E s.Declor) (E s.Lengths ∷ []) ts at a → IsAt ts a t.OpenBracket → OtherAt ts (a + 1) t.CloseBracket → ReadAt (E s.Cond) ts (a + 1) b → GoesOn (E s.Declor) (Mark t.CloseBracket ∷ E s.Lengths ∷ []) ts at b
length_read ts at a b ends i c o r = then (E s.Declor) s.Cond (Mark t.CloseBracket ∷ E s.Lengths ∷ []) ts at (a + 1) b (length_first ts at a ends i c o) r refl

pub length_refused_close : (ts : List Lexeme) (at a b : ℕ) (stop : ExprStop) → EndsIn ts → GoesOn (E s.Declor) (E s.Lengths ∷ []) ts at a → IsAt ts a t.OpenBracket → OtherAt ts (a + 1) t.CloseBracket → ReadAt (E s.Cond) ts (a + 1) b → RefusedAt (Mark t.CloseBracket) ts b stop → RefusedAt (E s.Declor) ts at stop
length_refused_close ts at a b stop ends i c o r n = stops_in_mark (E s.Declor) t.CloseBracket (E s.Lengths ∷ []) ts at b stop (length_read ts at a b ends i c o r) n refl

pub lengths_given : (ts : List Lexeme) (at a b : ℕ) → EndsIn ts → GoesOn (E s.Declor) (E s.Lengths ∷ []) ts at a → IsAt ts a t.OpenBracket → OtherAt ts (a + 1) t.CloseBracket → ReadAt (E s.Cond) ts (a + 1) b → IsAt ts b t.CloseBracket → GoesOn (E s.Declor) (E s.Lengths ∷ []) ts at (b + 1)
lengths_given ts at a b ends i c o r e = then_mark (E s.Declor) t.CloseBracket (E s.Lengths ∷ []) ts at b ends (length_read ts at a b ends i c o r) e refl

pub declor_done : (ts : List Lexeme) (at a : ℕ) → GoesOn (E s.Declor) (E s.Lengths ∷ []) ts at a → OtherAt ts a t.OpenBracket → ReadAt (E s.Declor) ts at a
declor_done ts at a i o = done (E s.Declor) ts at a (dropped (E s.Declor) s.Lengths [] 0 t.OpenBracket (39 ∷ []) ts at a i o other_bracket refl refl)
