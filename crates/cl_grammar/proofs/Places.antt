-- The steps of a reading by the indices of its tokens.
use Rattle.std.proofs.Common.{◌≡◌, ◌≢◌, ℕ, zero, suc, ◌+◌, ◌-◌, ◌≤◌, ◌<◌, List, [], ◌∷◌, ◌++◌, length, take, drop, Bool, true, false, refl, sym, ap, ◌∙◌, subst, arith}
use Rattle.std.specs.Prelude.{◌||◌}
use Rattle.std.proofs.lemmas.List.{length-append, drop-drop, take-append-drop}
use Rattle.cl_grammar.specs.declared.lexeme.Lexeme.{Lexeme}
use Rattle.cl_grammar.specs.declared.terminal.Terminal.{Terminal}
use Rattle.cl_grammar.specs.declared.stop.ExprStop.{ExprStop}
use Rattle.cl_grammar.specs.declared.stop.ExprStop.TheVariants.{Out, NoMemory}
use Rattle.cl_grammar.specs.Symbols.{Sym, ExprSym, Class, Mark, Of, E, belongs, makes, has_some, have_some}
use Rattle.cl_grammar.specs.Items.{Item, Excluded, Begun, between, EndsIn, StandsAt, IsAt, OtherAt, GoesOn, ReadAt, NoneAt, OutAt, IsRefused, RefusedAt, IsBarred, BarredAt}
use Rattle.cl_grammar.proofs.TerminalKinds.{kind, has, class_has, class_kind, implies, implied, not, all_below, each}
use Rattle.cl_grammar.proofs.Rules.{rules}
use Rattle.cl_grammar.proofs.Steps.{Keeps, advance, bar, begun_by, begun_of, and_first, and_second, excluded_more, take_mark, take_of, no_mark}
use Rattle.cl_grammar.proofs.Predicted.{keeps_ok, keeps_part, keeps_mark, keeps_of, row_at, picks, bars, predict, exclude}

-- ---- tokens between indices

take-zero : (ts : List Lexeme) → take 0 ts ≡ []
take-zero [] = refl
take-zero (l ∷ ts) = refl

pub between_same : (ts : List Lexeme) (at : ℕ) → between ts at at ≡ []
between_same ts at = let e : at - at ≡ 0 = omega arith in ap (λ n. take n (drop at ts)) e ∙ take-zero (drop at ts)

pub between_one : (ts : List Lexeme) (at : ℕ) (l : Lexeme) → drop at ts ≡ l ∷ drop (at + 1) ts → between ts at (at + 1) ≡ l ∷ []
between_one ts at l h = let e : (at + 1) - at ≡ 1 = omega arith in ap (λ n. take n (drop at ts)) e ∙ ap (take 1) h ∙ ap (λ z. l ∷ z) (take-zero (drop (at + 1) ts))

take-none : (n : ℕ) → take {A = Lexeme} n [] ≡ []
take-none zero = refl
take-none (suc n) = refl

take_both : (m n : ℕ) (xs : List Lexeme) → take (m + n) xs ≡ take m xs ++ take n (drop m xs)
take_both zero n xs = let e : 0 + n ≡ n = omega arith in ap (λ k. take k xs) e ∙ ap (λ z. z ++ take n xs) (sym (take-zero xs))
take_both (suc m) n [] = take-none (suc m + n) ∙ sym (take-none n)
take_both (suc m) n (l ∷ xs) = let e : suc m + n ≡ suc (m + n) = omega arith in ap (λ k. take k (l ∷ xs)) e ∙ ap (λ z. l ∷ z) (take_both m n xs)

pub between_join : (ts : List Lexeme) (a b c : ℕ) → a ≤ b → b ≤ c → between ts a b ++ between ts b c ≡ between ts a c
between_join ts a b c h g =
    let e : c - a ≡ (b - a) + (c - b) = omega arith in
    let d : drop (b - a) (drop a ts) ≡ drop b ts = drop-drop (b - a) a ts ∙ (let f : a + (b - a) ≡ b = omega arith in ap (λ n. drop n ts) f) in
    sym (ap (λ n. take n (drop a ts)) e ∙ take_both (b - a) (c - b) (drop a ts) ∙ ap (λ z. between ts a b ++ take (c - b) z) d)

pub between_front : (ts : List Lexeme) (a b : ℕ) → a ≤ b → drop a ts ≡ between ts a b ++ drop b ts
between_front ts a b h =
    let d : drop (b - a) (drop a ts) ≡ drop b ts = drop-drop (b - a) a ts ∙ (let f : a + (b - a) ≡ b = omega arith in ap (λ n. drop n ts) f) in
    sym (take-append-drop (b - a) (drop a ts)) ∙ ap (λ z. between ts a b ++ z) d

drop-none : (n : ℕ) → drop {A = Lexeme} n [] ≡ []
drop-none zero = refl
drop-none (suc n) = refl

not_last : (front : List Lexeme) (last : Lexeme) (at : ℕ) (l : Lexeme) (rest : List Lexeme) → drop at (front ++ last ∷ []) ≡ l ∷ rest → (l ≡ last → ⊥) → at + 1 < length (front ++ last ∷ [])
not_last [] last zero l rest e other = absurd (other (let h : last ∷ [] ≡ l ∷ rest = e in cc))
not_last [] last (suc n) l rest e other = absurd (let f : [] ≡ l ∷ rest = sym (drop-none n) ∙ e in cc)
not_last (x ∷ front) last zero l rest e other = omega (arith, length-append front (last ∷ []))
not_last (x ∷ front) last (suc n) l rest e other = let h = not_last front last n l rest e other in omega arith

not_end : (m : ℕ) → m ≡ 0 → has (0 ∷ []) m ≡ false → ⊥
not_end m e h = let f : true ≡ false = subst (λ z. has (0 ∷ []) z ≡ false) e h in cc

-- Behind a token that isn't the end another token stands.
pub more_tokens : (ts : List Lexeme) (at : ℕ) (k : Terminal) → EndsIn ts → IsAt ts at k → has (0 ∷ []) (kind k) ≡ false → at + 1 < length ts
more_tokens ts at k ends s other =
    subst (λ z. at + 1 < length z) (sym ends.is) (not_last ends.front ends.last at s.token (drop (at + 1) ts) (ap (drop at) (sym ends.is) ∙ s.stands.here)
    (λ e. not_end (kind k) (ap kind (sym s.is) ∙ ap (λ z. kind z.terminal) e ∙ ap kind ends.ends) other))

-- Behind a word another token stands.
pub more_behind_word : (ts : List Lexeme) (at : ℕ) (l : Lexeme) → EndsIn ts → StandsAt ts at l → l.text ≢ [] → at + 1 < length ts
more_behind_word ts at l ends s word =
    subst (λ z. at + 1 < length z) (sym ends.is) (not_last ends.front ends.last at l (drop (at + 1) ts) (ap (drop at) (sym ends.is) ∙ s.here)
    (λ e. word (ap (λ z. z.text) e ∙ ends.no_word)))

-- ---- facts of a token from its class

pub by_class : (c : Class) (q : ℕ → Bool) (k : Terminal) → all_below 63 (λ n. implies (class_has c n) (q n)) ≡ true → belongs c k ≡ true → q (kind k) ≡ true
by_class c q k h f = implied (class_has c (kind k)) (q (kind k)) (each (λ n. implies (class_has c n) (q n)) h k) (sym (class_kind c k) ∙ f)

from_not : (a b : Bool) → (a || b) ≡ true → a ≡ false → b ≡ true
from_not true b h f = absurd (let e : true ≡ false = f in cc)
from_not false b h f = h

pub by_other_class : (c : Class) (q : ℕ → Bool) (k : Terminal) → all_below 63 (λ n. class_has c n || q n) ≡ true → belongs c k ≡ false → q (kind k) ≡ true
by_other_class c q k h f = from_not (class_has c (kind k)) (q (kind k)) (each (λ n. class_has c n || q n) h k) (sym (class_kind c k) ∙ f)

pub by_kinds : (ks : List ℕ) (q : ℕ → Bool) (k : Terminal) → all_below 63 (λ n. implies (has ks n) (q n)) ≡ true → has ks (kind k) ≡ true → q (kind k) ≡ true
by_kinds ks q k h f = implied (has ks (kind k)) (q (kind k)) (each (λ n. implies (has ks n) (q n)) h k) f

pub by_other_kinds : (ks : List ℕ) (q : ℕ → Bool) (k : Terminal) → all_below 63 (λ n. has ks n || q n) ≡ true → has ks (kind k) ≡ false → q (kind k) ≡ true
by_other_kinds ks q k h f = from_not (has ks (kind k)) (q (kind k)) (each (λ n. has ks n || q n) h k) f

-- ---- steps

-- A part's reading begins with the row that the token there picks.
pub starts_with : (y : ExprSym) (n : ℕ) (ts : List Lexeme) (at : ℕ) (k : Terminal) → IsAt ts at k → picks y n (kind k) ≡ true → GoesOn (E y) (row_at n (rules y)) ts at at
starts_with y n ts at k s h = record {
  forth = omega arith;
  within = s.stands.within;
  item = subst (λ z. Item (E y) (row_at n (rules y)) z (drop at ts) (drop at ts)) (sym (between_same ts at)) (predict y n s.token (drop at ts) (drop (at + 1) ts) s.stands.here (subst (λ z. picks y n (kind z) ≡ true) (sym s.is) h));
}

pub goes : (x y : Sym) (todo rhs : List Sym) (ts : List Lexeme) (a b c : ℕ) → Keeps x y todo → GoesOn x (y ∷ todo) ts a b → GoesOn y rhs ts b c → GoesOn x (rhs ++ todo) ts a c
goes x y todo rhs ts a b c k i j = record {
  forth = let p = i.forth in let q = j.forth in omega arith;
  within = j.within;
  item = subst (λ z. Item x (rhs ++ todo) z (drop a ts) (drop c ts)) (between_join ts a b c i.forth j.forth) (advance x y todo rhs (between ts a b) (between ts b c) (drop a ts) (drop b ts) (drop c ts) k i.item j.item);
}

-- The next symbol goes on with the row that the token there picks.
pub expand : (x : Sym) (y : ExprSym) (todo : List Sym) (n : ℕ) (ts : List Lexeme) (a b : ℕ) (k : Terminal) → GoesOn x (E y ∷ todo) ts a b → IsAt ts b k → picks y n (kind k) ≡ true → keeps_ok x (E y) todo ≡ true → GoesOn x (row_at n (rules y) ++ todo) ts a b
expand x y todo n ts a b k i s h g = goes x (E y) todo (row_at n (rules y)) ts a b b (keeps_part x y todo g) i (starts_with y n ts b k s h)

-- The next symbol was read.
pub then : (x : Sym) (y : ExprSym) (todo : List Sym) (ts : List Lexeme) (a b c : ℕ) → GoesOn x (E y ∷ todo) ts a b → ReadAt (E y) ts b c → keeps_ok x (E y) todo ≡ true → GoesOn x todo ts a c
then x y todo ts a b c i r g = goes x (E y) todo [] ts a b c (keeps_part x y todo g) i r.read

mark_read : (ts : List Lexeme) (b : ℕ) (k : Terminal) → IsAt ts b k → b + 1 < length ts → GoesOn (Mark k) [] ts b (b + 1)
mark_read ts b k s h = record {
  forth = omega arith;
  within = h;
  item = subst (λ z. Item (Mark k) [] z (drop b ts) (drop (b + 1) ts)) (sym (between_one ts b s.token s.stands.here)) (take_mark k s.token (drop b ts) (drop (b + 1) ts) s.stands.here s.is);
}

of_read : (ts : List Lexeme) (b : ℕ) (c : Class) (k : Terminal) → IsAt ts b k → belongs c k ≡ true → b + 1 < length ts → GoesOn (Of c) [] ts b (b + 1)
of_read ts b c k s f h = record {
  forth = omega arith;
  within = h;
  item = subst (λ z. Item (Of c) [] z (drop b ts) (drop (b + 1) ts)) (sym (between_one ts b s.token s.stands.here)) (take_of c s.token (drop b ts) (drop (b + 1) ts) s.stands.here (subst (λ z. belongs c z ≡ true) (sym s.is) f));
}

not_of : (a : Bool) → not a ≡ true → a ≡ false
not_of true h = absurd (let e : false ≡ true = h in cc)
not_of false h = refl

-- The next token was read.
pub then_mark : (x : Sym) (k : Terminal) (todo : List Sym) (ts : List Lexeme) (a b : ℕ) → EndsIn ts → GoesOn x (Mark k ∷ todo) ts a b → IsAt ts b k → has (0 ∷ []) (kind k) ≡ false → GoesOn x todo ts a (b + 1)
then_mark x k todo ts a b ends i s h = goes x (Mark k) todo [] ts a b (b + 1) (keeps_mark x k todo) i (mark_read ts b k s (more_tokens ts b k ends s h))

pub then_of : (x : Sym) (c : Class) (todo : List Sym) (ts : List Lexeme) (a b : ℕ) (k : Terminal) → EndsIn ts → GoesOn x (Of c ∷ todo) ts a b → IsAt ts b k → belongs c k ≡ true → all_below 63 (λ n. implies (class_has c n) (not (has (0 ∷ []) n))) ≡ true → GoesOn x todo ts a (b + 1)
then_of x c todo ts a b k ends i s f h = goes x (Of c) todo [] ts a b (b + 1) (keeps_of x c todo) i (of_read ts b c k s f (more_tokens ts b k ends s (not_of (has (0 ∷ []) (kind k)) (by_class c (λ n. not (has (0 ∷ []) n)) k h f))))

pub done : (x : Sym) (ts : List Lexeme) (a b : ℕ) → GoesOn x [] ts a b → ReadAt x ts a b
done x ts a b i = record { read = i }

-- ---- refusals

pub none_next : (x y : Sym) (todo : List Sym) (ts : List Lexeme) (a b c : ℕ) → Keeps x y todo → GoesOn x (y ∷ todo) ts a b → NoneAt y ts b c → NoneAt x ts a c
none_next x y todo ts a b c k i n = record {
  forth = let p = i.forth in let q = n.forth in omega arith;
  within = n.within;
  excluded = subst (λ z. Excluded x z (drop a ts) (drop c ts)) (between_join ts a b c i.forth n.forth) (bar x y todo (between ts a b) (between ts b c) (drop a ts) (drop b ts) (drop c ts) k i.item n.excluded);
}

pub out_next : (x y : Sym) (todo : List Sym) (ts : List Lexeme) (a b c : ℕ) → Keeps x y todo → have_some todo ≡ true → GoesOn x (y ∷ todo) ts a b → OutAt y ts b c → OutAt x ts a c
out_next x y todo ts a b c k m i o = record {
  none = none_next x y todo ts a b c k i o.none;
  begun = subst (λ z. Begun x z) (between_join ts a b c i.forth o.none.forth) (begun_by x y todo (between ts a b) (between ts b c) (drop a ts) (drop b ts) i.item m o.begun);
}

refused_by : (x : Sym) (y : ExprSym) (todo : List Sym) (ts : List Lexeme) (a b : ℕ) (stop : ExprStop) → keeps_ok x (E y) todo ≡ true → have_some todo ≡ true → GoesOn x (E y ∷ todo) ts a b → IsRefused (E y) ts b stop → IsRefused x ts a stop
refused_by x y todo ts a b (Out k) g m i h = out_next x (E y) todo ts a b k (keeps_part x y todo g) m i h
refused_by x y todo ts a b NoMemory g m i h = tt

-- The next symbol was refused.
pub stops_in : (x : Sym) (y : ExprSym) (todo : List Sym) (ts : List Lexeme) (a b : ℕ) (stop : ExprStop) → GoesOn x (E y ∷ todo) ts a b → RefusedAt (E y) ts b stop → keeps_ok x (E y) todo ≡ true → have_some todo ≡ true → RefusedAt x ts a stop
stops_in x y todo ts a b stop i h g m = record { refused = refused_by x y todo ts a b stop g m i h.refused }

pub out_at_mark : (ts : List Lexeme) (b : ℕ) (k : Terminal) → makes k ≡ true → OtherAt ts b k → OutAt (Mark k) ts b b
out_at_mark ts b k m o = record {
  none = record {
    forth = omega arith;
    within = o.stands.stands.within;
    excluded = subst (λ z. Excluded (Mark k) z (drop b ts) (drop b ts)) (sym (between_same ts b)) (no_mark k o.stands.token (drop b ts) (drop (b + 1) ts) o.stands.stands.here (λ e. o.differs (sym o.stands.is ∙ e)));
  };
  begun = subst (λ z. Begun (Mark k) z) (sym (between_same ts b)) (begun_of (Mark k) m);
}

-- Another token stands where a mark is to stand.
pub stops_at : (x : Sym) (k : Terminal) (todo : List Sym) (ts : List Lexeme) (a b : ℕ) → GoesOn x (Mark k ∷ todo) ts a b → OtherAt ts b k → have_some (Mark k ∷ todo) ≡ true → RefusedAt x ts a (Out b)
stops_at x k todo ts a b i o m = record { refused = out_next x (Mark k) todo ts a b b (keeps_mark x k todo) (and_second (makes k) (have_some todo) m) i (out_at_mark ts b k (and_first (makes k) (have_some todo) m) o) }

none_here : (y : ExprSym) (ts : List Lexeme) (at : ℕ) (k : Terminal) → IsAt ts at k → bars y (kind k) ≡ true → NoneAt (E y) ts at at
none_here y ts at k s h = record {
  forth = omega arith;
  within = s.stands.within;
  excluded = subst (λ z. Excluded (E y) z (drop at ts) (drop at ts)) (sym (between_same ts at)) (exclude y s.token (drop at ts) (drop (at + 1) ts) s.stands.here (subst (λ z. bars y (kind z) ≡ true) (sym s.is) h));
}

-- No part of this sort begins with the token there.
pub bars_here : (y : ExprSym) (ts : List Lexeme) (at : ℕ) (k : Terminal) → IsAt ts at k → bars y (kind k) ≡ true → NoneAt (E y) ts at at
bars_here y ts at k s h = none_here y ts at k s h

pub stops_here : (y : ExprSym) (ts : List Lexeme) (at : ℕ) (k : Terminal) → IsAt ts at k → bars y (kind k) ≡ true → has_some (E y) ≡ true → RefusedAt (E y) ts at (Out at)
stops_here y ts at k s h m = record { refused = record { none = none_here y ts at k s h; begun = subst (λ z. Begun (E y) z) (sym (between_same ts at)) (begun_of (E y) m) } }

pub no_memory : (x : Sym) (ts : List Lexeme) (at : ℕ) → RefusedAt x ts at NoMemory
no_memory x ts at = record { refused = tt }

pub no_memory_barred : (x : Sym) (ts : List Lexeme) (at : ℕ) → BarredAt x ts at NoMemory
no_memory_barred x ts at = record { barred = tt }

-- ---- what no tokens there begin

barred_by : (x : Sym) (y : ExprSym) (todo : List Sym) (ts : List Lexeme) (a b : ℕ) (stop : ExprStop) → keeps_ok x (E y) todo ≡ true → GoesOn x (E y ∷ todo) ts a b → IsBarred (E y) ts b stop → IsBarred x ts a stop
barred_by x y todo ts a b (Out k) g i h = none_next x (E y) todo ts a b k (keeps_part x y todo g) i h
barred_by x y todo ts a b NoMemory g i h = tt

pub barred_in : (x : Sym) (y : ExprSym) (todo : List Sym) (ts : List Lexeme) (a b : ℕ) (stop : ExprStop) → GoesOn x (E y ∷ todo) ts a b → BarredAt (E y) ts b stop → keeps_ok x (E y) todo ≡ true → BarredAt x ts a stop
barred_in x y todo ts a b stop i h g = record { barred = barred_by x y todo ts a b stop g i h.barred }

pub none_in : (x : Sym) (y : ExprSym) (todo : List Sym) (ts : List Lexeme) (a b c : ℕ) → GoesOn x (E y ∷ todo) ts a b → NoneAt (E y) ts b c → keeps_ok x (E y) todo ≡ true → NoneAt x ts a c
none_in x y todo ts a b c i h g = none_next x (E y) todo ts a b c (keeps_part x y todo g) i h

pub none_more : (x : Sym) (ts : List Lexeme) (a b c : ℕ) → NoneAt x ts a b → b ≤ c → c < length ts → NoneAt x ts a c
none_more x ts a b c n h g = record {
  forth = let f = n.forth in omega arith;
  within = g;
  excluded = subst (λ z. Excluded x z (drop a ts) (drop c ts)) (between_join ts a b c n.forth h) (excluded_more x (between ts a b) (between ts b c) (drop a ts) (drop b ts) (drop c ts) n.excluded (between_front ts b c h));
}
