-- Tests that compute, and so settle by `refl` what holds of instructions that are written out. The opcodes' row opens only by a line
-- `unfolding row_of` under the type of the lemma that says `refl`.
use Rattle.std.proofs.Common.{◌≡◌, ℕ, ◌<◌, ◌^◌, Bool, true, List, arith}
use Rattle.std.specs.Prelude.{All, nat_lt, nat_le, ◌&&◌}
use Rattle.std.specs.List.{flat_map, list_all, AllByRecursion}
use Rattle.std.proofs.lemmas.List.Elements.{All-weaker, All-from_recursion}
use Rattle.std.proofs.lemmas.List.Sums.{AllPass-from_list_all}
use Rattle.std.proofs.lemmas.Bool.{and_parts}
use Rattle.std.proofs.lemmas.Bool.Decides.{nat_tests}
use Rattle.std.proofs.lemmas.Str.Ascii.{IsAscii-from_all}
use Rattle.std.proofs.lemmas.Str.{IsUtf8-from_ascii}
use Rattle.spv_module.specs.declared.module.Inst.{Inst}
use Rattle.spv_module.specs.Grammar.{has_form}
use Rattle.spv_module.specs.Words.{HasForm, HasCount, IsIdBelow, IsWord, IsNotZero, IsString, AreSpelled, ids_of, numbers_of, texts_of, word_count}

-- what each element's test says holds of all that pass it
tested : {X : Type 0} (P : X → Type 0) (p : X → Bool) → ((x : X) → p x ≡ true → P x) → (xs : List X) → list_all p xs ≡ true → All P xs
tested P p says xs e = All-weaker (λ x. p x ≡ true) P says xs (AllPass-from_list_all p xs e)

abbrev pub is_formed : Inst → Bool
is_formed i = has_form i.op i.operands

pub HasForm-tested : (body : List Inst) → list_all is_formed body ≡ true → All HasForm body
HasForm-tested = tested HasForm is_formed (λ i e. record { form = e })

abbrev pub is_counted : Inst → Bool
is_counted i = nat_lt (word_count i) 65536

HasCount-one : (i : Inst) → is_counted i ≡ true → HasCount i
HasCount-one i e = record { count = grind (arith, nat_tests) }

pub HasCount-tested : (body : List Inst) → list_all is_counted body ≡ true → All HasCount body
HasCount-tested = tested HasCount is_counted HasCount-one

abbrev pub is_id_below : ℕ → ℕ → Bool
is_id_below bound n = nat_le 1 n && nat_lt n bound

IsIdBelow-one : (bound n : ℕ) → is_id_below bound n ≡ true → IsIdBelow bound n
IsIdBelow-one bound n e = record { positive = grind (arith, nat_tests); below = grind (arith, nat_tests) }

pub IsIdBelow-tested : (bound : ℕ) (ids : List ℕ) → list_all (is_id_below bound) ids ≡ true → All (IsIdBelow bound) ids
IsIdBelow-tested bound = tested (IsIdBelow bound) (is_id_below bound) (IsIdBelow-one bound)

abbrev pub is_word_number : ℕ → Bool
is_word_number n = nat_lt n (2 ^ 32)

IsWord-one : (n : ℕ) → is_word_number n ≡ true → IsWord n
IsWord-one n e = record { below = grind (arith, nat_tests) }

pub IsWord-tested : (ns : List ℕ) → list_all is_word_number ns ≡ true → All IsWord ns
IsWord-tested = tested IsWord is_word_number IsWord-one

-- ---- strings of ASCII

abbrev pub is_ascii_byte : ℕ → Bool
is_ascii_byte b = nat_le 1 b && nat_lt b 128

abbrev pub is_ascii_string : List ℕ → Bool
is_ascii_string s = list_all is_ascii_byte s

pub IsString-ascii : (s : List ℕ) → is_ascii_string s ≡ true → IsString s
IsString-ascii s e = record {
  utf8 = IsUtf8-from_ascii s (IsAscii-from_all s (tested (λ b. b < 128) is_ascii_byte (λ b h. grind (arith, nat_tests)) s e));
  no_zero = tested IsNotZero is_ascii_byte (λ b h. record { other = grind (arith, nat_tests) }) s e;
}

pub IsString-tested : (ss : List (List ℕ)) → list_all is_ascii_string ss ≡ true → All IsString ss
IsString-tested = tested IsString is_ascii_string IsString-ascii

-- ---- all at once

abbrev pub are_spelled : ℕ → List Inst → Bool
are_spelled bound body =
    list_all is_formed body
    && list_all is_counted body
    && list_all (is_id_below bound) (flat_map ids_of body)
    && list_all is_word_number (flat_map numbers_of body)
    && list_all is_ascii_string (flat_map texts_of body)

pub AreSpelled-tested : (bound : ℕ) (body : List Inst) → are_spelled bound body ≡ true → AreSpelled bound body
AreSpelled-tested bound body e =
    let four = and_parts _ (list_all is_ascii_string (flat_map texts_of body)) e in
    let three = and_parts _ (list_all is_word_number (flat_map numbers_of body)) four.0 in
    let two = and_parts _ (list_all (is_id_below bound) (flat_map ids_of body)) three.0 in
    let one = and_parts (list_all is_formed body) (list_all is_counted body) two.0 in
    record {
      forms = HasForm-tested body one.0;
      counts = HasCount-tested body one.1;
      ids = IsIdBelow-tested bound (flat_map ids_of body) two.1;
      numbers = IsWord-tested (flat_map numbers_of body) three.1;
      texts = IsString-tested (flat_map texts_of body) four.1;
    }

-- Of instructions that hold variables as ids and literal words, which these two tests don't look at: a fact is given for each id, each
-- literal word and each string, in order, as `(a, (b, tt))`.
pub AreSpelled-given : (bound : ℕ) (body : List Inst) → list_all is_formed body ≡ true → list_all is_counted body ≡ true → AllByRecursion (IsIdBelow bound) (flat_map ids_of body) → AllByRecursion IsWord (flat_map numbers_of body) → AllByRecursion IsString (flat_map texts_of body) → AreSpelled bound body
AreSpelled-given bound body forms counts ids numbers texts = record {
  forms = HasForm-tested body forms;
  counts = HasCount-tested body counts;
  ids = All-from_recursion (IsIdBelow bound) (flat_map ids_of body) ids;
  numbers = All-from_recursion IsWord (flat_map numbers_of body) numbers;
  texts = All-from_recursion IsString (flat_map texts_of body) texts;
}
