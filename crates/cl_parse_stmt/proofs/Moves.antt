-- Steps over tokens that several functions make.
use Rattle.std.proofs.Common.{◌≡◌, ℕ, zero, suc, ◌+◌, ◌-◌, ◌<◌, ◌≤◌, false, List, [], ◌∷◌, ◌++◌, length, drop, get_or, refl, sym, ap, ◌∙◌, subst, add-one, arith, ◌⊎◌, inl, inr}
use Rattle.std.specs.Prelude.{Result, IfErr, IsErrAnd}
use Rattle.std.proofs.lemmas.Result.{err_from_is_err_and}
use Rattle.std.proofs.lemmas.List.{append-nil}
use Rattle.std.proofs.Math.Seq.{drop-cons}
use Rattle.cl_grammar.specs.declared.lexeme.Lexeme.{Lexeme}
use Rattle.cl_grammar.specs.declared.terminal.Terminal.{Terminal}
use Rattle.cl_grammar.specs.declared.stop.ExprStop.{ExprStop}
use Rattle.cl_grammar.specs.declared.stop.ExprStop.TheVariants.{NoMemory}
use Rattle.clv_place.specs.declared.place.Place.{Place}
use Rattle.cl_grammar.specs.Symbols.{Sym, Mark, Is}
use Rattle.cl_grammar.specs.StatementTrees.{BeginsAt, begins}
use Rattle.cl_grammar.specs.Items.{Item, between, EndsIn, StandsAt, IsAt, PlaceAt, GoesOn, ReadAt, RefusedAt}
use Rattle.cl_grammar.proofs.TerminalKinds.{kind, has, excluded_middle}
use Rattle.cl_grammar.proofs.Starts.{empties, first_of_symbol}
use Rattle.cl_grammar.proofs.Places.{between_same, between_one, between_join, then_mark, more_tokens}

-- some token stands at an index below the length
pub record TokenAt (ts : List Lexeme) (at : ℕ) : Type 0 where
  pub terminal : Terminal
  pub stands : IsAt ts at terminal

pub token_at : (ts : List Lexeme) (at : ℕ) → at < length ts → TokenAt ts at
token_at [] at h = absurd (omega arith)
token_at (l ∷ ts) at h =
    let d = get_or (l ∷ ts) at l in
    record { terminal = d.terminal; stands = record { token = d; stands = record { within = h; here = rw (add-one, drop-cons (l ∷ ts) at l h) refl }; is = refl } }

-- A token that is not the end was read.
pub then_expect : (y : Sym) (k : Terminal) (todo : List Sym) (ts : List Lexeme) (a b c : ℕ) → EndsIn ts → GoesOn y (Mark k ∷ todo) ts a b → IsAt ts b k → c ≡ b + 1 → has (0 ∷ []) (kind k) ≡ false → GoesOn y todo ts a c
then_expect y k todo ts a b c ends i s e h = subst (λ n. GoesOn y todo ts a n) (sym e) (then_mark y k todo ts a b ends i s h)

-- Nothing of a symbol was read.
pub itself : (y : Sym) (ts : List Lexeme) (at : ℕ) → at < length ts → GoesOn y (y ∷ []) ts at at
itself y ts at h = record {
  forth = omega arith;
  within = h;
  item = subst (λ z. Item y (y ∷ []) z (drop at ts) (drop at ts)) (sym (between_same ts at)) (record {
    split = refl;
    builds = λ u are. subst (Is y) (sym (are.4 ∙ ap (λ z. are.0 ++ z) are.3 ∙ append-nil are.0)) are.2;
    only = λ others fits l v w first are. are;
  });
}

no_tokens : (y : Sym) (u : List Lexeme) → empties y ≡ false → u ≡ [] → Is y u → ⊥
no_tokens y u h e i = elim (first_of_symbol y u i) as (λ _. ⊥) [
  | inl b ↦ (let f : [] ≡ b.first ∷ b.rest = sym e ∙ b.is in cc)
  | inr b ↦ excluded_middle (empties y) b.1 h
]

less_or_same : (a b : ℕ) → a ≤ b → (a ≡ b) ⊎ (a < b)
less_or_same zero zero h = inl refl
less_or_same zero (suc b) h = inr (omega arith)
less_or_same (suc a) zero h = absurd (omega arith)
less_or_same (suc a) (suc b) h = elim (less_or_same a b (omega arith)) as (λ _. (suc a ≡ suc b) ⊎ (suc a < suc b)) [ inl e ↦ inl (ap suc e) | inr g ↦ inr (omega arith) ]

-- A part that can't be no tokens was read over some.
pub reads_some : (y : Sym) (ts : List Lexeme) (a b : ℕ) → empties y ≡ false → ReadAt y ts a b → a < b
reads_some y ts a b h r = elim (less_or_same a b r.read.forth) as (λ _. a < b) [
  | inl e ↦ absurd (no_tokens y (between ts a b) h (subst (λ n. between ts a n ≡ []) e (between_same ts a)) (subst (Is y) (append-nil (between ts a b)) (r.read.item.builds [] refl)))
  | inr g ↦ g
]

-- ---- the exit of a `?`

pub out_by : {A : Type 0} (r : Result A ExprStop) (e : ExprStop) (y : Sym) (ts : List Lexeme) (at : ℕ) → IsErrAnd r (λ s. s ≡ e) → RefusedAt y ts at e → IfErr r (RefusedAt y ts at)
out_by r e y ts at is h = let p = err_from_is_err_and r is in rw (p.1, p.2) h

pub no_memory : {A : Type 0} (r : Result A ExprStop) (y : Sym) (ts : List Lexeme) (at : ℕ) → IsErrAnd r (λ s. s ≡ NoMemory) → IfErr r (RefusedAt y ts at)
no_memory r y ts at is = out_by r NoMemory y ts at is (record { refused = tt })

-- What is left is less, the further one has come.
pub shorter : (n a b : ℕ) → a < b → b < n → n - b < n - a
shorter n a b h g = omega arith

pub shorter_from : (n a b c : ℕ) → a < b → b ≤ c → c < n → n - c < n - a
shorter_from n a b c f g h = omega arith

pub shorter_behind : (n a next b : ℕ) → next ≡ a + 1 → next < b → b < n → n - b < n - a
shorter_behind n a next b e h g = omega arith

-- Behind a token that is not the end another one stands.
pub more_behind : (k : Terminal) (ts : List Lexeme) (at next : ℕ) → EndsIn ts → IsAt ts at k → has (0 ∷ []) (kind k) ≡ false → next ≡ at + 1 → next < length ts
more_behind k ts at next ends s h e = subst (λ n. n < length ts) (sym e) (more_tokens ts at k ends s h)

-- ---- lists that grow

pub two_of : {A : Type 0} (new old : List A) (a b : A) → old ≡ a ∷ [] → new ≡ old ++ b ∷ [] → new ≡ a ∷ b ∷ []
two_of new old a b e g = g ∙ ap (λ z. z ++ b ∷ []) e

pub pushed_first : {A : Type 0} (P : List A → Type 0) (new old : List A) (x : A) → new ≡ old ++ x ∷ [] → old ≡ [] → P (x ∷ []) → P new
pushed_first P new old x e g h = subst P (sym (e ∙ ap (λ z. z ++ x ∷ []) g)) h

pub pushed : {A : Type 0} (P : List A → Type 0) (new old : List A) (x : A) → new ≡ old ++ x ∷ [] → P (old ++ x ∷ []) → P new
pushed P new old x e h = subst P (sym e) h

-- ---- the tokens of a part, one after another

pub tokens_mark : (P : List Lexeme → Type 0) (ts : List Lexeme) (a b c : ℕ) (l : Lexeme) → StandsAt ts a l → b ≡ a + 1 → b ≤ c → P (l ∷ between ts b c) → P (between ts a c)
tokens_mark P ts a b c l s e h p =
    let first : between ts a b ≡ l ∷ [] = subst (λ n. between ts a n ≡ l ∷ []) (sym e) (between_one ts a l s.here) in
    subst P (ap (λ z. z ++ between ts b c) (sym first) ∙ between_join ts a b c (omega arith) h) p

pub tokens_end : (P : List Lexeme → Type 0) (ts : List Lexeme) (a b : ℕ) (l : Lexeme) → StandsAt ts a l → b ≡ a + 1 → P (l ∷ []) → P (between ts a b)
tokens_end P ts a b l s e p = subst P (sym (subst (λ n. between ts a n ≡ l ∷ []) (sym e) (between_one ts a l s.here))) p

pub tokens_part : (P : List Lexeme → Type 0) (ts : List Lexeme) (a b c : ℕ) → a ≤ b → b ≤ c → P (between ts a b ++ between ts b c) → P (between ts a c)
tokens_part P ts a b c h g p = subst P (between_join ts a b c h g) p

-- ---- places

pub same_token : (ts : List Lexeme) (at : ℕ) (l m : Lexeme) → StandsAt ts at l → StandsAt ts at m → l ≡ m
same_token ts at l m s r = let e : l ∷ drop (at + 1) ts ≡ m ∷ drop (at + 1) ts = sym s.here ∙ r.here in cc

pub place_of : (ts : List Lexeme) (at : ℕ) (l : Lexeme) (place : Place) → StandsAt ts at l → PlaceAt ts at place → place ≡ l.place
place_of ts at l place s p = sym p.is ∙ ap (λ z. z.place) (same_token ts at p.token l p.stands s)

-- tokens that are some begin where the first one stands
pub begins_there : (ts : List Lexeme) (a b : ℕ) (place : Place) → PlaceAt ts a place → a < b → BeginsAt (between ts a b) place
begins_there ts a b place p h =
    tokens_mark (λ z. BeginsAt z place) ts a (a + 1) b p.token p.stands refl (omega arith) (subst (BeginsAt (p.token ∷ between ts (a + 1) b)) p.is (begins p.token (between ts (a + 1) b)))

pub place_at : (ts : List Lexeme) (at : ℕ) (k : Terminal) (s : IsAt ts at k) → PlaceAt ts at s.token.place
place_at ts at k s = record { token = s.token; stands = s.stands; is = refl }
