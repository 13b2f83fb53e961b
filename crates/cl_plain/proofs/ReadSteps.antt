-- Readers put together, and what they answer.
use Rattle.std.proofs.Common.{◌≡◌, ℕ, suc, ◌+◌, ◌-◌, ◌≤◌, Bool, true, false, if◌then◌else◌, List, [], ◌∷◌, ◌++◌, Option, Some, None, sym, ap, subst, append_assoc, arith}
use Rattle.cl_grammar.specs.declared.lexeme.Lexeme.{Lexeme}
use Rattle.cl_grammar.specs.declared.terminal.Terminal.{Terminal}
use Rattle.cl_grammar.specs.declared.terminal.Terminal.TheVariants as t
use Rattle.cl_plain.proofs.Reading.{Reads, first_is}

-- what is read, and then more of what is left
abbrev pub and_then : {A B : Type 0} → Option (A × List Lexeme) → (A → List Lexeme → Option (B × List Lexeme)) → Option (B × List Lexeme)
and_then None g = None
and_then (Some x) g = g x.0 x.1

abbrev pub skip : List Lexeme → List Lexeme
skip [] = []
skip (l ∷ ls) = ls

abbrev pub first_of : List Lexeme → Terminal
first_of [] = t.End
first_of (l ∷ ls) = l.terminal

pub then_is : {A B : Type 0} {x : Option (A × List Lexeme)} (g : A → List Lexeme → Option (B × List Lexeme)) {a : A} {r : List Lexeme} → x ≡ Some (a, r) → and_then x g ≡ g a r
then_is g e = ap (λ z. and_then z g) e

pub if_true : {A : Type 0} {b : Bool} {x : A} (y : A) → b ≡ true → (if b then x else y) ≡ x
if_true {x} y e = ap (λ z. if z then x else y) e

pub if_false : {A : Type 0} {b : Bool} (x : A) {y : A} → b ≡ false → (if b then x else y) ≡ y
if_false x {y} e = ap (λ z. if z then x else y) e

pub enough : {A : Type 0} {read : ℕ → List Lexeme → Option (A × List Lexeme)} {u r : List Lexeme} {x : A} (a : Reads read u r x) (m : ℕ) → a.steps ≤ m → read m (u ++ r) ≡ Some (x, r)
enough {read} {u} {r} {x} a m le =
    let e : a.steps + (m - a.steps) ≡ m = omega arith in
    subst (λ k. read k (u ++ r) ≡ Some (x, r)) e (a.is (m - a.steps))

-- one step, and then as many as its parts take
pub reads_from : {A : Type 0} (read : ℕ → List Lexeme → Option (A × List Lexeme)) (u r : List Lexeme) (x : A) (s : ℕ) → ((m : ℕ) → s ≤ m → read (suc m) (u ++ r) ≡ Some (x, r)) → Reads read u r x
reads_from read u r x s f =
    record {
      steps = suc s;
      is = λ k.
          let e : suc (s + k) ≡ suc s + k = omega arith in
          subst (λ z. read z (u ++ r) ≡ Some (x, r)) e (f (s + k) (omega arith));
    }

-- as many steps as its parts take
pub reads_with : {A : Type 0} (read : ℕ → List Lexeme → Option (A × List Lexeme)) (u r : List Lexeme) (x : A) (s : ℕ) → ((m : ℕ) → s ≤ m → read m (u ++ r) ≡ Some (x, r)) → Reads read u r x
reads_with read u r x s f = record { steps = s; is = λ k. f (s + k) (omega arith) }

-- what stands first in two lists, the second with more behind it
pub first_apart : (p : Terminal → Bool) {b : Bool} (u v r : List Lexeme) → first_is p (u ++ (v ++ r)) ≡ b → first_is p ((u ++ v) ++ r) ≡ b
first_apart p {b} u v r e = subst (λ z. first_is p z ≡ b) (sym (append_assoc u v r)) e

pub first_so : (p : Terminal → Bool) (ls : List Lexeme) → first_is p ls ≡ true → p (first_of ls) ≡ true
first_so p [] e = absurd (cc)
first_so p (l ∷ ls) e = e
