-- What stands at an index.
use Rattle.std.proofs.Common.{◌≡◌, ◌≢◌, ℕ, zero, suc, ◌+◌, ◌<◌, List, [], ◌∷◌, length, drop, add-one, refl, sym, ap, ◌∙◌, subst, arith}
use Rattle.std.specs.Prelude.{Bool, Option, Some, None, slice_get, MatchOption}
use Rattle.cl_condition.specs.declared.term.Term.{Term}
use Rattle.cl_condition.specs.declared.term.Term.TheVariants as term
use Rattle.cl_condition.specs.declared.operator.BinaryOperator.{BinaryOperator}
use Rattle.cl_condition.specs.Operators.{binary_of}
use Rattle.cl_condition.specs.Readings.{EndsRow, StandsAt, IsEndAt, OtherAt, OperatorAt, NoOperatorAt}

none_from : {A : Type 0} (xs : List A) (at : ℕ) → slice_get xs at ≡ None → drop at xs ≡ []
none_from [] zero e = refl
none_from [] (suc at) e = refl
none_from (x ∷ xs) zero e = absurd (let h : Some x ≡ None = e in cc)
none_from (x ∷ xs) (suc at) e = none_from xs at e

some_from : {A : Type 0} (xs : List A) (at : ℕ) (x : A) → slice_get xs at ≡ Some x → (at < length xs) × (drop at xs ≡ x ∷ drop (suc at) xs)
some_from [] zero x e = absurd (let h : None ≡ Some x = e in cc)
some_from [] (suc at) x e = absurd (let h : None ≡ Some x = e in cc)
some_from (y ∷ xs) zero x e = let h : Some y ≡ Some x = e in let f : y ≡ x = cc in (omega arith, ap (λ z. z ∷ xs) f)
some_from (y ∷ xs) (suc at) x e = let r = some_from xs at x e in let lt = r.0 in (omega arith, r.1)

read_cases : (ts : List Term) (at : ℕ) (o : Option Term) → slice_get ts at ≡ o → MatchOption o (IsEndAt ts at) (StandsAt ts at)
read_cases ts at None e = record { none = none_from ts at e }
read_cases ts at (Some t) e = let r = some_from ts at t e in record { within = r.0; here = r.1 ∙ ap (λ z. t ∷ drop z ts) (sym (add-one at)) }

pub read_term : (ts : List Term) (at : ℕ) (o : Option Term) → o ≡ slice_get ts at → MatchOption o (IsEndAt ts at) (StandsAt ts at)
read_term ts at o e = read_cases ts at o (sym e)

pub other_end : (ts : List Term) (at mark : ℕ) → IsEndAt ts at → OtherAt ts at mark
other_end ts at mark h = record { other = λ rest e. let k : [] ≡ term.Mark mark ∷ rest = sym h.none ∙ e in cc }

other_from : (ts : List Term) (at mark : ℕ) (t : Term) → StandsAt ts at t → t ≢ term.Mark mark → OtherAt ts at mark
other_from ts at mark t h ne = record { other = λ rest e. let k : t ∷ drop (at + 1) ts ≡ term.Mark mark ∷ rest = sym h.here ∙ e in let f : t ≡ term.Mark mark = cc in ne f }

pub other_value : (ts : List Term) (at mark bits : ℕ) (unsigned : Bool) → StandsAt ts at (term.Value bits unsigned) → OtherAt ts at mark
other_value ts at mark bits unsigned h = other_from ts at mark (term.Value bits unsigned) h (λ e. cc)

pub other_stray : (ts : List Term) (at mark : ℕ) → StandsAt ts at term.Stray → OtherAt ts at mark
other_stray ts at mark h = other_from ts at mark term.Stray h (λ e. cc)

pub same_mark : (ts : List Term) (at mark other : ℕ) → StandsAt ts at (term.Mark other) → other ≡ mark → StandsAt ts at (term.Mark mark)
same_mark ts at mark other h e = subst (λ z. StandsAt ts at (term.Mark z)) e h

pub other_mark : (ts : List Term) (at mark other : ℕ) → StandsAt ts at (term.Mark other) → other ≢ mark → OtherAt ts at mark
other_mark ts at mark other h ne = other_from ts at mark (term.Mark other) h (λ e. let f : other ≡ mark = cc in ne f)

ends_from : (ts : List Term) (at : ℕ) (t : Term) → StandsAt ts at t → EndsRow (t ∷ drop (at + 1) ts) → NoOperatorAt ts at
ends_from ts at t h k = record { ends = subst EndsRow (sym h.here) k }

pub no_operator_end : (ts : List Term) (at : ℕ) → IsEndAt ts at → NoOperatorAt ts at
no_operator_end ts at h = record { ends = subst EndsRow (sym h.none) tt }

pub no_operator_value : (ts : List Term) (at bits : ℕ) (unsigned : Bool) → StandsAt ts at (term.Value bits unsigned) → NoOperatorAt ts at
no_operator_value ts at bits unsigned h = ends_from ts at (term.Value bits unsigned) h tt

pub no_operator_stray : (ts : List Term) (at : ℕ) → StandsAt ts at term.Stray → NoOperatorAt ts at
no_operator_stray ts at h = ends_from ts at term.Stray h tt

pub operator_cases : (ts : List Term) (at mark : ℕ) (o : Option BinaryOperator) → StandsAt ts at (term.Mark mark) → binary_of mark ≡ o → MatchOption o (NoOperatorAt ts at) (OperatorAt ts at)
operator_cases ts at mark None h e = ends_from ts at (term.Mark mark) h e
operator_cases ts at mark (Some op) h e = record { mark = mark; stands = h; is = e }

pub ruleset terms = (read_term, other_end, other_value, other_stray, same_mark, other_mark, no_operator_end, no_operator_value, no_operator_stray, operator_cases)
