-- What is spelled stays so when instructions are joined or taken apart, and under a larger bound.
use Rattle.std.proofs.Common.{ℕ, ◌<◌, ◌≤◌, List, [], ◌∷◌, ◌++◌, length, get_or, zero, suc, sym, arith}
use Rattle.std.specs.Prelude.{All}
use Rattle.std.specs.List.{flat_map}
use Rattle.std.proofs.lemmas.List.Concat.{flat_map-append}
use Rattle.std.proofs.lemmas.List.Elements.{All-append, All-weaker, All-same, All-nil, All-take, All-drop}
use Rattle.std.proofs.Math.Seq.{take-append_seam, drop-append_seam}
use Rattle.spv_module.specs.declared.module.Inst.{Inst}
use Rattle.spv_module.specs.Words.{HasForm, HasCount, IsIdBelow, IsWord, IsString, AreSpelled, ids_of, numbers_of, texts_of}

-- ---- what holds of all that some elements hold

pub All-left : {A : Type 0} (P : A → Type 0) (xs ys : List A) → All P (xs ++ ys) → All P xs
All-left P xs ys p = All-same P _ _ (sym (take-append_seam xs ys)) (All-take P (length xs) (xs ++ ys) p)

pub All-right : {A : Type 0} (P : A → Type 0) (xs ys : List A) → All P (xs ++ ys) → All P ys
All-right P xs ys p = All-same P _ _ (sym (drop-append_seam xs ys)) (All-drop P (length xs) (xs ++ ys) p)

pub All-flat_map-append : {X A : Type 0} (P : A → Type 0) (f : X → List A) (xs ys : List X) → All P (flat_map f xs) → All P (flat_map f ys) → All P (flat_map f (xs ++ ys))
All-flat_map-append P f xs ys p q = All-same P _ _ (flat_map-append f xs ys) (All-append P _ _ p q)

pub All-flat_map-left : {X A : Type 0} (P : A → Type 0) (f : X → List A) (xs ys : List X) → All P (flat_map f (xs ++ ys)) → All P (flat_map f xs)
All-flat_map-left P f xs ys p = All-left P (flat_map f xs) (flat_map f ys) (All-same P _ _ (sym (flat_map-append f xs ys)) p)

pub All-flat_map-right : {X A : Type 0} (P : A → Type 0) (f : X → List A) (xs ys : List X) → All P (flat_map f (xs ++ ys)) → All P (flat_map f ys)
All-flat_map-right P f xs ys p = All-right P (flat_map f xs) (flat_map f ys) (All-same P _ _ (sym (flat_map-append f xs ys)) p)

-- of one element among them
pub All-flat_map-at : {X A : Type 0} (P : A → Type 0) (f : X → List A) (xs : List X) (k : ℕ) (d : X) → k < length xs → All P (flat_map f xs) → All P (f (get_or xs k d))
All-flat_map-at P f [] k d h p = absurd (omega arith)
All-flat_map-at P f (x ∷ xs) zero d h p = All-left P (f x) (flat_map f xs) p
All-flat_map-at P f (x ∷ xs) (suc k) d h p = All-flat_map-at P f xs k d (omega arith) (All-right P (f x) (flat_map f xs) p)

-- ---- instructions

pub AreSpelled-nil : (bound : ℕ) → AreSpelled bound []
AreSpelled-nil bound = record { forms = All-nil HasForm; counts = All-nil HasCount; ids = All-nil (IsIdBelow bound); numbers = All-nil IsWord; texts = All-nil IsString }

pub AreSpelled-append : (bound : ℕ) (xs ys : List Inst) → AreSpelled bound xs → AreSpelled bound ys → AreSpelled bound (xs ++ ys)
AreSpelled-append bound xs ys p q = record {
  forms = All-append HasForm xs ys p.forms q.forms;
  counts = All-append HasCount xs ys p.counts q.counts;
  ids = All-flat_map-append (IsIdBelow bound) ids_of xs ys p.ids q.ids;
  numbers = All-flat_map-append IsWord numbers_of xs ys p.numbers q.numbers;
  texts = All-flat_map-append IsString texts_of xs ys p.texts q.texts;
}

pub AreSpelled-left : (bound : ℕ) (xs ys : List Inst) → AreSpelled bound (xs ++ ys) → AreSpelled bound xs
AreSpelled-left bound xs ys p = record {
  forms = All-left HasForm xs ys p.forms;
  counts = All-left HasCount xs ys p.counts;
  ids = All-flat_map-left (IsIdBelow bound) ids_of xs ys p.ids;
  numbers = All-flat_map-left IsWord numbers_of xs ys p.numbers;
  texts = All-flat_map-left IsString texts_of xs ys p.texts;
}

pub AreSpelled-right : (bound : ℕ) (xs ys : List Inst) → AreSpelled bound (xs ++ ys) → AreSpelled bound ys
AreSpelled-right bound xs ys p = record {
  forms = All-right HasForm xs ys p.forms;
  counts = All-right HasCount xs ys p.counts;
  ids = All-flat_map-right (IsIdBelow bound) ids_of xs ys p.ids;
  numbers = All-flat_map-right IsWord numbers_of xs ys p.numbers;
  texts = All-flat_map-right IsString texts_of xs ys p.texts;
}

-- ---- a larger bound

pub IsIdBelow-larger : (low high n : ℕ) → low ≤ high → IsIdBelow low n → IsIdBelow high n
IsIdBelow-larger low high n h p = record { positive = p.positive; below = let q = p.below in omega arith }

pub AllIdsBelow-larger : (low high : ℕ) (ids : List ℕ) → low ≤ high → All (IsIdBelow low) ids → All (IsIdBelow high) ids
AllIdsBelow-larger low high ids h p = All-weaker (IsIdBelow low) (IsIdBelow high) (λ n. IsIdBelow-larger low high n h) ids p

pub AreSpelled-larger : (low high : ℕ) (body : List Inst) → low ≤ high → AreSpelled low body → AreSpelled high body
AreSpelled-larger low high body h p = record {
  forms = p.forms;
  counts = p.counts;
  ids = AllIdsBelow-larger low high (flat_map ids_of body) h p.ids;
  numbers = p.numbers;
  texts = p.texts;
}
