-- How a symbol's reading goes on, for any grammar.
use Rattle.std.proofs.Common.{◌≡◌, ◌≢◌, ◌&&◌, List, [], ◌∷◌, ◌++◌, Bool, true, false, refl, sym, ap, ◌∙◌, subst, append_assoc}
use Rattle.std.proofs.lemmas.List.{append-nil}
use Rattle.cl_grammar.specs.declared.lexeme.Lexeme.{Lexeme}
use Rattle.cl_grammar.specs.declared.terminal.Terminal.{Terminal}
use Rattle.cl_grammar.specs.Symbols.{Sym, Mark, Of, Class, belongs, Is, Are, has_some, have_some}
use Rattle.cl_grammar.specs.Items.{Fits, Item, Excluded, Begun}

-- what was read, and then l, begins with the first token of what was there
pub first_of : (r s s' : List Lexeme) (l : Lexeme) (v w : List Lexeme) → s ≡ r ++ s' → s' ≡ l ∷ v → (m : Lexeme) × (v1 w1 : List Lexeme) × (s ≡ m ∷ v1) × (r ++ l ∷ w ≡ m ∷ w1)
first_of [] s s' l v w e f = (l, v, w, e ∙ f, refl)
first_of (a ∷ r) s s' l v w e f = (a, r ++ s', r ++ l ∷ w, e, refl)

pub are_join : (xs ys : List Sym) (u v : List Lexeme) → Are xs u → Are ys v → Are (xs ++ ys) (u ++ v)
are_join [] ys u v a b = subst (λ z. Are ys (z ++ v)) (sym a) b
are_join (x ∷ xs) ys u v a b = (a.0, a.1 ++ v, a.2, are_join xs ys a.1 v a.3 b, ap (λ z. z ++ v) a.4 ∙ append_assoc a.0 a.1 v)

pub are_part : (xs ys : List Sym) (ts : List Lexeme) → Are (xs ++ ys) ts → (u v : List Lexeme) × Are xs u × Are ys v × (ts ≡ u ++ v)
are_part [] ys ts a = ([], ts, refl, a, refl)
are_part (x ∷ xs) ys ts a = let p = are_part xs ys a.1 a.3 in (a.0 ++ p.0, p.1, (a.0, p.0, a.2, p.2, refl), p.3, a.4 ∙ ap (λ z. a.0 ++ z) p.4 ∙ sym (append_assoc a.0 p.0 p.1))

-- what may stand behind an x may stand behind a y with these symbols between
pub record Keeps (x y : Sym) (todo : List Sym) : Type 0 where
  pub keeps : (others : List Sym) → Fits x others → Fits y (todo ++ others)

-- The next symbol was read as far as these symbols.
pub advance : (x y : Sym) (todo rhs : List Sym) (r r2 s s1 s2 : List Lexeme) → Keeps x y todo → Item x (y ∷ todo) r s s1 → Item y rhs r2 s1 s2 → Item x (rhs ++ todo) (r ++ r2) s s2
advance x y todo rhs r r2 s s1 s2 k i j = record {
  split = i.split ∙ ap (λ z. r ++ z) j.split ∙ sym (append_assoc r r2 s2);
  builds = λ u are.
      let p = are_part rhs todo u are in
      subst (Is x) (ap (λ z. r ++ z) (append_assoc r2 p.0 p.1 ∙ ap (λ z. r2 ++ z) (sym p.4)) ∙ sym (append_assoc r r2 u))
      (i.builds ((r2 ++ p.0) ++ p.1) (r2 ++ p.0, p.1, j.builds p.0 p.2, p.3, refl));
  only = λ others fits l v w first are.
      let f = first_of r2 s1 s2 l v w j.split first in
      let a = subst (Are (x ∷ others)) (append_assoc r r2 (l ∷ w)) are in
      let b = i.only others fits f.0 f.1 f.2 f.3 (subst (λ z. Are (x ∷ others) (r ++ z)) f.4 a) in
      subst (λ z. Are z (l ∷ w)) (sym (append_assoc rhs todo others))
      (j.only (todo ++ others) (k.keeps others fits) l v w first (subst (Are (y ∷ (todo ++ others))) (sym f.4) b));
}

-- None of the next symbol begins so.
pub bar : (x y : Sym) (todo : List Sym) (r r2 s s1 s2 : List Lexeme) → Keeps x y todo → Item x (y ∷ todo) r s s1 → Excluded y r2 s1 s2 → Excluded x (r ++ r2) s s2
bar x y todo r r2 s s1 s2 k i j = record {
  split = i.split ∙ ap (λ z. r ++ z) j.split ∙ sym (append_assoc r r2 s2);
  no_more = λ others fits l v w first are.
      let f = first_of r2 s1 s2 l v w j.split first in
      let a = subst (Are (x ∷ others)) (append_assoc r r2 (l ∷ w)) are in
      let b = i.only others fits f.0 f.1 f.2 f.3 (subst (λ z. Are (x ∷ others) (r ++ z)) f.4 a) in
      j.no_more (todo ++ others) (k.keeps others fits) l v w first (subst (Are (y ∷ (todo ++ others))) (sym f.4) b);
}

pub and_first : (a b : Bool) → (a && b) ≡ true → a ≡ true
and_first true b h = refl
and_first false b h = h

pub and_second : (a b : Bool) → (a && b) ≡ true → b ≡ true
and_second true b h = h
and_second false b h = absurd (let e : false ≡ true = h in cc)

have_step : (a b c : Bool) → (a && b) ≡ true → (b ≡ true → c ≡ true) → (a && c) ≡ true
have_step true b c h g = g h
have_step false b c h g = absurd (let e : false ≡ true = h in cc)

and_true : (a : Bool) → a ≡ true → (a && true) ≡ true
and_true true h = refl
and_true false h = h

have_join : (xs ys : List Sym) → have_some xs ≡ true → have_some ys ≡ true → have_some (xs ++ ys) ≡ true
have_join [] ys h g = g
have_join (x ∷ xs) ys h g = have_step (has_some x) (have_some xs) (have_some (xs ++ ys)) h (λ f. have_join xs ys f g)

-- Some of the next symbol begins so, and what is left can stand behind it.
pub begun_by : (x y : Sym) (todo : List Sym) (r r2 s s1 : List Lexeme) → Item x (y ∷ todo) r s s1 → have_some todo ≡ true → Begun y r2 → Begun x (r ++ r2)
begun_by x y todo r r2 s s1 i h b = record {
  todo = b.todo ++ todo;
  there = have_join b.todo todo b.there h;
  builds = λ u are.
      let p = are_part b.todo todo u are in
      subst (Is x) (ap (λ z. r ++ z) (append_assoc r2 p.0 p.1 ∙ ap (λ z. r2 ++ z) (sym p.4)) ∙ sym (append_assoc r r2 u))
      (i.builds ((r2 ++ p.0) ++ p.1) (r2 ++ p.0, p.1, b.builds p.0 p.2, p.3, refl));
}

only_one : (x : Sym) (u : List Lexeme) → Are (x ∷ []) u → Is x u
only_one x u a = subst (Is x) (sym (append-nil a.0) ∙ ap (λ z. a.0 ++ z) (sym a.3) ∙ sym a.4) a.2

-- An x begins with nothing read.
pub begun_of : (x : Sym) → has_some x ≡ true → Begun x []
begun_of x h = record { todo = x ∷ []; there = and_true (has_some x) h; builds = λ u are. only_one x u are }

-- What is excluded stays so behind more tokens.
pub excluded_more : (x : Sym) (r r2 s s1 s2 : List Lexeme) → Excluded x r s s1 → s1 ≡ r2 ++ s2 → Excluded x (r ++ r2) s s2
excluded_more x r r2 s s1 s2 h e = record {
  split = h.split ∙ ap (λ z. r ++ z) e ∙ sym (append_assoc r r2 s2);
  no_more = λ others fits l v w first are.
      let f = first_of r2 s1 s2 l v w e first in
      let a = subst (Are (x ∷ others)) (append_assoc r r2 (l ∷ w)) are in
      h.no_more others fits f.0 f.1 f.2 f.3 (subst (λ z. Are (x ∷ others) (r ++ z)) f.4 a);
}

-- the same by equal lists
pub item_as : (x : Sym) (todo : List Sym) (r r2 s s1 : List Lexeme) → r ≡ r2 → Item x todo r s s1 → Item x todo r2 s s1
item_as x todo r r2 s s1 e i = subst (λ z. Item x todo z s s1) e i

-- ---- tokens

pub take_mark : (k : Terminal) (l : Lexeme) (s v : List Lexeme) → s ≡ l ∷ v → l.terminal ≡ k → Item (Mark k) [] (l ∷ []) s v
take_mark k l s v e h = record {
  split = e;
  builds = λ u are. record { token = l; stands = h; alone = ap (λ z. l ∷ z) are };
  only = λ others fits l2 v2 w first are.
      let alone = are.2.alone in
      let is : l ∷ (l2 ∷ w) ≡ are.2.token ∷ are.1 = are.4 ∙ ap (λ z. z ++ are.1) alone in
      let rest : are.1 ≡ l2 ∷ w = cc in
      subst (Are others) rest are.3;
}

pub take_of : (c : Class) (l : Lexeme) (s v : List Lexeme) → s ≡ l ∷ v → belongs c l.terminal ≡ true → Item (Of c) [] (l ∷ []) s v
take_of c l s v e h = record {
  split = e;
  builds = λ u are. record { token = l; stands = h; alone = ap (λ z. l ∷ z) are };
  only = λ others fits l2 v2 w first are.
      let alone = are.2.alone in
      let is : l ∷ (l2 ∷ w) ≡ are.2.token ∷ are.1 = are.4 ∙ ap (λ z. z ++ are.1) alone in
      let rest : are.1 ≡ l2 ∷ w = cc in
      subst (Are others) rest are.3;
}

pub no_mark : (k : Terminal) (l : Lexeme) (s v : List Lexeme) → s ≡ l ∷ v → l.terminal ≢ k → Excluded (Mark k) [] s s
no_mark k l s v e other = record {
  split = refl;
  no_more = λ others fits l2 v2 w first are.
      let alone = are.2.alone in
      let is : l2 ∷ w ≡ are.2.token ∷ are.1 = are.4 ∙ ap (λ z. z ++ are.1) alone in
      let same : l ≡ are.2.token = cc in
      other (ap (λ z. z.terminal) same ∙ are.2.stands);
}
