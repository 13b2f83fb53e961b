-- Three words that are a command.
use Rattle.std.proofs.Common.{◌≡◌, ℕ, ◌<◌, ◌≤◌, Bool, true, false, not, cond, List, [], ◌∷◌, length, map, get_or, Option, Some, None, refl, sym, ap, ◌∙◌, subst, arith}
use Rattle.std.specs.Prelude.{codes, IfSome, option_map}
use Rattle.std.specs.Str.{bytes_eq}
use Rattle.std.proofs.lemmas.Slice.Eq.{bytes_eq-Decides}
use Rattle.clv_engine.specs.declared.command.Command.{Command as Said}
use Rattle.clv_engine.specs.Asking.{asked_by, asked_of}
use Rattle.clv_engine.specs.Command.{Command, Compile, Run, words_of, first_file, second_file, is_file_word, IsCommand}

-- a list of three is its members
pub three : {A : Type 0} (xs : List A) (a b c : A) → 3 ≤ length xs → length xs < 4 → a ≡ get_or xs 0 a → b ≡ get_or xs 1 b → c ≡ get_or xs 2 c → xs ≡ a ∷ b ∷ c ∷ []
three [] a b c low high e f g = absurd (omega arith)
three (x ∷ []) a b c low high e f g = absurd (omega arith)
three (x ∷ y ∷ []) a b c low high e f g = absurd (omega arith)
three (x ∷ y ∷ z ∷ []) a b c low high e f g = cc
three (x ∷ y ∷ z ∷ w ∷ xs) a b c low high e f g = absurd (omega arith)

-- The command of a name and two files.
record Asks (name first second : List ℕ) (c : Command) : Type 0 where
  words : words_of c ≡ name ∷ first ∷ second ∷ []
  first_is : first_file c ≡ first
  second_is : second_file c ≡ second

compile_asks : (name first second : List ℕ) → codes "compile" ≡ name → Asks name first second (Compile first second)
compile_asks name first second e = record { words = ap (λ n. n ∷ first ∷ second ∷ []) e; first_is = refl; second_is = refl }

run_asks : (name first second : List ℕ) → codes "run" ≡ name → Asks name first second (Run first second)
run_asks name first second e = record { words = ap (λ n. n ∷ first ∷ second ∷ []) e; first_is = refl; second_is = refl }

some_is : (c d : Command) → Some c ≡ Some d → d ≡ c
some_is c d e = cc

asks_if : (name first second : List ℕ) (c : Command) (a b : Bool) → bytes_eq name (codes "compile") ≡ a → bytes_eq name (codes "run") ≡ b → Some c ≡ cond a (Some (Compile first second)) (cond b (Some (Run first second)) None) → Asks name first second c
asks_if name first second c true b same other e = subst (Asks name first second) (some_is c (Compile first second) e) (compile_asks name first second (sym ((bytes_eq-Decides name (codes "compile")).0 same)))
asks_if name first second c false true other same e = subst (Asks name first second) (some_is c (Run first second) e) (run_asks name first second (sym ((bytes_eq-Decides name (codes "run")).0 same)))
asks_if name first second c false false other more e = absurd (let h : ◌≡◌ {A = Option Command} (Some c) None = e in cc)

is_command : (words : List (List ℕ)) (name first second : List ℕ) (c : Command) → words ≡ name ∷ first ∷ second ∷ [] → is_file_word first ≡ true → is_file_word second ≡ true → Asks name first second c → IsCommand words c
is_command words name first second c e f s a = record { words_are = e ∙ sym a.words; first_word = ap is_file_word a.first_is ∙ f; second_word = ap is_file_word a.second_is ∙ s }

named_is : (words : List (List ℕ)) (name first second : List ℕ) (o : Option Said) → words ≡ name ∷ first ∷ second ∷ [] → is_file_word first ≡ true → is_file_word second ≡ true → option_map asked_by o ≡ asked_of name first second → IfSome o (λ c. IsCommand words (asked_by c))
named_is words name first second None e f s h = tt
named_is words name first second (Some c) e f s h = is_command words name first second (asked_by c) e f s (asks_if name first second (asked_by c) (bytes_eq name (codes "compile")) (bytes_eq name (codes "run")) refl refl h)

-- a test that is turned
turned : (b r : Bool) → r ≡ b → not r ≡ false → b ≡ true
turned true r e f = refl
turned false r e f = absurd (let h : true ≡ false = ap not (sym e) ∙ f in cc)

pub command_is : {A : Type 0} (bytes : A → List ℕ) (xs : List A) (a b c : A) (name first second : List ℕ) (o : Option Said) → 3 ≤ length xs → length xs < 4 → a ≡ get_or xs 0 a → b ≡ get_or xs 1 b → c ≡ get_or xs 2 c → name ≡ bytes a → first ≡ bytes b → second ≡ bytes c → is_file_word first ≡ true → is_file_word second ≡ true → option_map asked_by o ≡ asked_of name first second → IfSome o (λ d. IsCommand (map bytes xs) (asked_by d))
command_is bytes xs a b c name first second o low high e f g is_a is_b is_c one two h =
    let words : map bytes xs ≡ name ∷ first ∷ second ∷ [] = ap (map bytes) (three xs a b c low high e f g) ∙ (let i = sym is_a in let j = sym is_b in let k = sym is_c in cc) in
    named_is (map bytes xs) name first second o words one two h
