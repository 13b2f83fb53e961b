-- Rows as they are read, one operator at a time.
use Rattle.std.proofs.Common.{◌≡◌, ℕ, ◌+◌, List, [], ◌∷◌, ◌++◌, length, refl, sym, ap, ◌∙◌, subst, append_assoc, arith}
use Rattle.std.specs.Prelude.{Result, Ok, Err, IfOk, OnOk}
use Rattle.std.proofs.lemmas.List.{append-nil}
use Rattle.cl_precedence.specs.Grouping.{Groups}
use Rattle.cl_precedence.specs.Waiting.{IsLoose, Held, Keeps}
use Rattle.cl_precedence.proofs.Standing.{held_more, held_last}

-- The row was read so far, and this is left of it.
pub record IsRead {A : Type 0} (whole read left : List A) (count : ℕ) : Type 0 where
  pub split : whole ≡ read ++ left
  pub counted : count ≡ length left

pub read_more : {A : Type 0} (whole read left rest : List A) (x : A) (count n : ℕ) → IsRead whole read left count → left ≡ x ∷ rest → n + 1 ≡ count → IsRead whole (read ++ x ∷ []) rest n
read_more whole read left rest x count n r e f = record {
  split = r.split ∙ ap (λ z. read ++ z) e ∙ sym (append_assoc read (x ∷ []) rest);
  counted = let g = r.counted in omega (arith, ap length e);
}

empty : {A : Type 0} (xs : List A) → 0 ≡ length xs → xs ≡ []
empty [] e = refl
empty (x ∷ xs) e = absurd (omega arith)

pub read_all : {A : Type 0} (whole read left : List A) (count : ℕ) → IsRead whole read left count → count ≡ 0 → whole ≡ read
read_all whole read left count r e = r.split ∙ ap (λ z. read ++ z) (empty left (sym e ∙ r.counted)) ∙ append-nil read

pub next_held : {Op Node : Type 0} (level : Op → ℕ) (Joins : Op → Node → Node → Node → Type 0) (first : Node) (read : List (Op × Node)) (old waiting all : List (Node × Op)) (right tree : Node) (x : Op × Node) (l m : ℕ)
    → l ≡ level x.0 → Held level Joins first read old right l → Keeps level Joins old right waiting tree l → IsLoose level waiting l → all ≡ waiting ++ (tree, x.0) ∷ []
    → Held level Joins first (read ++ x ∷ []) all x.1 m
next_held level Joins first read old waiting all right tree x l m e held keeps loose is =
    subst (λ z. Held level Joins first (read ++ x ∷ []) z x.1 m) (sym is)
    (held_more level Joins first read waiting tree x.0 x.1 m (subst (Held level Joins first read waiting tree) e (keeps.keeps first read held)) (subst (IsLoose level waiting) e loose))

pub last_held : {Op Node E : Type 0} (level : Op → ℕ) (Joins : Op → Node → Node → Node → Type 0) (first : Node) (whole read : List (Op × Node)) (old waiting : List (Node × Op)) (right : Node) (r : Result Node E)
    → Held level Joins first read old right 0 → whole ≡ read → IfOk r (λ tree. Keeps level Joins old right waiting tree 0) → OnOk r (IsLoose level waiting 0)
    → IfOk r (λ tree. Groups level Joins first whole tree)
last_held level Joins first whole read old waiting right (Ok tree) held e keeps loose =
    subst (λ z. Groups level Joins first z tree) (sym e) (held_last level Joins first read waiting tree (keeps.keeps first read held) loose)
last_held level Joins first whole read old waiting right (Err x) held e keeps loose = tt
