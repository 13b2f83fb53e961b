-- What a work-item of a kernel does by itself, up to its write.
use Rattle.std.proofs.Common.{nat_lt, ◌≡◌, ℕ, suc, ◌+◌, ◌-◌, ◌*◌, ◌%◌, ◌^◌, ◌<◌, ◌≤◌, List, [], ◌∷◌, ◌++◌, length, true, false, cond, pos, negsuc, ◌-ℤ◌, refl, sym, ap, ◌∙◌, subst, arith, append_assoc, inl, inr, All}
use Rattle.std.proofs.lemmas.Int.{ints}
use Rattle.std.proofs.lemmas.List.Elements.{All-head, All-tail}
use Rattle.clv_num.specs.Numbers.{add_of, convert_of, pattern_of}
use Rattle.std.proofs.lemmas.Bool.{le-ltb}
use Rattle.clv_steps.specs.Machines.{Runs, Asks, Fails}
use Rattle.clv_engine.specs.declared.form.Kernel.{Kernel}
use Rattle.clv_engine.specs.declared.form.Term.{Term}
use Rattle.clv_engine.specs.declared.form.Term.TheVariants.{GlobalId, Literal}
use Rattle.clv_engine.specs.FirstForm.{IsTerm}
use Rattle.clv_engine.specs.SourceItem.{Expr, Number, Converted, GlobalIdOf, Sum, Typed, typed, as_uint, sum_of, term_of, sum_from, value_of, Task, Bind, Reach, PushPointer, PushNumber, ConvertTop, PassTop, CallTop, AddTop, IndexTop, StoreTop, expr_tasks, Value, Scalar, Pointer, Item, item, Surroundings, source_item, first_state}
use Rattle.spv_meaning.specs.Events.{Write, Asked}
use Rattle.clv_engine.proofs.NumberTests.{less_or_not}
use Rattle.clv_steps.proofs.Quiet.{Quietly, stays, goes, and_then, one_more}

-- The value of the terms: the sum modulo 2 ^ 32, where get_global_id(0) is x.
abbrev pub term_value : ℕ → Term → ℕ
term_value x GlobalId = x
term_value x (Literal n) = n

abbrev pub total_from : ℕ → ℕ → List Term → ℕ
total_from x v [] = v
total_from x v (t ∷ ts) = total_from x (add_of 32 v (term_value x t)) ts

abbrev pub total_of : ℕ → List Term → ℕ
total_of x [] = 0
total_of x (t ∷ ts) = total_from x (term_value x t) ts

-- a number of 32 bits is its own pattern, signed or not
high_pattern : (n : ℕ) → 2 ^ 31 ≤ n → n < 2 ^ 32 → pattern_of 32 (pos n -ℤ pos (2 ^ 32)) ≡ n
high_pattern n low high =
    let e : pos n -ℤ pos (2 ^ 32) ≡ negsuc (4294967295 - n) = omega (arith, ints) in
    let m : 2 ^ 32 - suc ((4294967295 - n) % 2 ^ 32) ≡ n = omega arith in
    ap (pattern_of 32) e ∙ m

pub same_pattern : (n : ℕ) → n < 2 ^ 32 → convert_of 32 n true 32 ≡ n
same_pattern n high = elim (less_or_not n (2 ^ 31)) [
  | inl h ↦
      let m : n % 2 ^ 32 ≡ n = omega arith in
      ap (λ b. pattern_of 32 (cond b (pos n) (pos n -ℤ pos (2 ^ 32)))) h.0 ∙ m
  | inr h ↦ ap (λ b. pattern_of 32 (cond b (pos n) (pos n -ℤ pos (2 ^ 32)))) h.0 ∙ high_pattern n h.1 high
]

-- The expression has this value, after so many steps of the item at least, whatever is left to do.
pub record Evaluates (s : Surroundings) (least : ℕ) (e : Expr) (v : ℕ) : Type 0 where
  pub count : ℕ
  pub enough : least ≤ count
  pub word : v < 2 ^ 32
  pub runs : (ts : List Task) (st : List Value) → Quietly (source_item s) count (item (expr_tasks e ++ ts) st) (item ts (Scalar v ∷ st))

at_tasks : (s : Surroundings) (count : ℕ) (st : List Value) (a b c : List Task) (i : Item) → Quietly (source_item s) count (item (a ++ (b ++ c)) st) i → Quietly (source_item s) count (item ((a ++ b) ++ c) st) i
at_tasks s count st a b c i q = subst (λ l. Quietly (source_item s) count (item l st) i) (sym (append_assoc a b c)) q

number : (s : Surroundings) (n : ℕ) → n < 2 ^ 32 → Evaluates s 1 (Number n) n
number s n low = record {
  count = 1;
  enough = omega arith;
  word = low;
  runs = λ ts st. goes 0 (item (PushNumber n ∷ ts) st) (item ts (Scalar n ∷ st)) (item ts (Scalar n ∷ st)) refl (λ x. refl) (stays (item ts (Scalar n ∷ st)));
}

converted : (s : Surroundings) (least v : ℕ) (a : Expr) → Evaluates s least a v → Evaluates s least (Converted a) v
converted s least v a h = record {
  count = h.count + 1;
  enough = let e = h.enough in omega (arith, e);
  word = h.word;
  runs = λ ts st.
      let done = item ts (Scalar v ∷ st) in
      at_tasks s (h.count + 1) st (expr_tasks a) (ConvertTop ∷ []) ts done
      (one_more (source_item s) h.count (item (expr_tasks a ++ ConvertTop ∷ ts) st) (item (ConvertTop ∷ ts) (Scalar v ∷ st)) done refl (λ x. ap (λ n. item ts (Scalar n ∷ st)) (same_pattern v h.word)) (h.runs (ConvertTop ∷ ts) st));
}

-- get_global_id(0): the number, its conversion, its passing, and the call
call_runs : (s : Surroundings) (ts : List Task) (st : List Value) → Quietly (source_item s) 4 (item (expr_tasks (GlobalIdOf (Converted (Number 0))) ++ ts) st) (item ts (Scalar (s.global_id 0) ∷ st))
call_runs s ts st =
    let second = item (ConvertTop ∷ PassTop ∷ CallTop ∷ ts) (Scalar 0 ∷ st) in
    let third = item (PassTop ∷ CallTop ∷ ts) (Scalar 0 ∷ st) in
    let fourth = item (CallTop ∷ ts) (Scalar 0 ∷ st) in
    let done = item ts (Scalar (s.global_id 0) ∷ st) in
    goes 3 (item (PushNumber 0 ∷ ConvertTop ∷ PassTop ∷ CallTop ∷ ts) st) second done refl (λ x. refl)
    (goes 2 second third done refl (λ x. refl) (goes 1 third fourth done refl (λ x. refl) (goes 0 fourth done done refl (λ x. refl) (stays done))))

call_evaluates : (s : Surroundings) → s.global_id 0 < 2 ^ 32 → Evaluates s 1 (GlobalIdOf (Converted (Number 0))) (s.global_id 0)
call_evaluates s low = record { count = 4; enough = omega arith; word = low; runs = call_runs s }

added : (s : Surroundings) (m n v w : ℕ) (a b : Expr) → Evaluates s m a v → Evaluates s n b w → Evaluates s (m + n) (Sum a b) (add_of 32 v w)
added s m n v w a b h k = record {
  count = h.count + k.count + 1;
  enough = let e = h.enough in let f = k.enough in omega (arith, e, f);
  word = omega arith;
  runs = λ ts st.
      let done = item ts (Scalar (add_of 32 v w) ∷ st) in
      let middle = item (expr_tasks b ++ AddTop ∷ ts) (Scalar v ∷ st) in
      let last = item (AddTop ∷ ts) (Scalar w ∷ Scalar v ∷ st) in
      let begin = item (expr_tasks a ++ (expr_tasks b ++ AddTop ∷ ts)) st in
      let both = and_then (source_item s) h.count k.count begin middle last (h.runs (expr_tasks b ++ AddTop ∷ ts) st) (k.runs (AddTop ∷ ts) (Scalar v ∷ st)) in
      subst (λ l. Quietly (source_item s) (h.count + k.count + 1) (item l st) done) (simp append_assoc) (one_more (source_item s) (h.count + k.count) begin last done refl (λ x. refl) both);
}

-- an expression without its type
abbrev plain : Typed → Expr
plain (typed unsigned e) = e

uint_of : (s : Surroundings) (least v : ℕ) (t : Typed) → Evaluates s least (plain t) v → Evaluates s least (as_uint t) v
uint_of s least v (typed true e) h = h
uint_of s least v (typed false e) h = converted s least v e h

sum_evaluates : (s : Surroundings) (m n v w : ℕ) (a b : Typed) → Evaluates s m (plain a) v → Evaluates s n (plain b) w → Evaluates s (m + n) (plain (sum_of a b)) (add_of 32 v w)
sum_evaluates s m n v w (typed false a) (typed false b) h k = added s m n v w a b h k
sum_evaluates s m n v w (typed false a) (typed true b) h k = added s m n v w (Converted a) b (converted s m v a h) k
sum_evaluates s m n v w (typed true a) b h k = added s m n v w a (as_uint b) h (uint_of s n w b k)

term_evaluates : (s : Surroundings) (t : Term) → s.global_id 0 < 2 ^ 32 → IsTerm t → Evaluates s 1 (plain (term_of t)) (term_value (s.global_id 0) t)
term_evaluates s GlobalId low h = call_evaluates s low
term_evaluates s (Literal n) low h = number s n (omega arith)

at_least : (s : Surroundings) (m n v : ℕ) (e : Expr) → n ≤ m → Evaluates s m e v → Evaluates s n e v
at_least s m n v e low h = record { count = h.count; enough = let k = h.enough in omega (arith, k); word = h.word; runs = h.runs }

sums_evaluate : (s : Surroundings) (least v : ℕ) (a : Typed) (ts : List Term) → s.global_id 0 < 2 ^ 32 → All IsTerm ts → Evaluates s least (plain a) v → Evaluates s (least + length ts) (plain (sum_from a ts)) (total_from (s.global_id 0) v ts)
sums_evaluate s least v a [] low all h = at_least s least (least + 0) v (plain a) (omega arith) h
sums_evaluate s least v a (t ∷ ts) low all h =
    let w = term_value (s.global_id 0) t in
    let sum = sum_of a (term_of t) in
    let first = sum_evaluates s least 1 v w a (term_of t) h (term_evaluates s t low (All-head IsTerm t ts all)) in
    at_least s (least + 1 + length ts) (least + suc (length ts)) (total_from (s.global_id 0) (add_of 32 v w) ts) (plain (sum_from sum ts)) (omega arith) (sums_evaluate s (least + 1) (add_of 32 v w) sum ts low (All-tail IsTerm t ts all) first)

pub value_evaluates : (s : Surroundings) (ts : List Term) → s.global_id 0 < 2 ^ 32 → All IsTerm ts → Evaluates s (length ts) (value_of ts) (total_of (s.global_id 0) ts)
value_evaluates s [] low all = at_least s 1 0 0 (Number 0) (omega arith) (number s 0 (omega arith))
value_evaluates s (t ∷ ts) low all =
    let v = term_value (s.global_id 0) t in
    let all_terms = sums_evaluate s 1 v (term_of t) ts low (All-tail IsTerm t ts all) (term_evaluates s t low (All-head IsTerm t ts all)) in
    at_least s (1 + length ts) (suc (length ts)) (total_from (s.global_id 0) v ts) (value_of (t ∷ ts)) (omega arith) (uint_of s (1 + length ts) (total_from (s.global_id 0) v ts) (sum_from (term_of t) ts) all_terms)

-- what is left behind the place's index
abbrev pub value_tasks : List Term → List Task
value_tasks ts = expr_tasks (value_of ts) ++ StoreTop ∷ []

-- at the place's index, and at the write
abbrev pub at_index : Surroundings → List Term → Item
at_index s ts = item (IndexTop ∷ value_tasks ts) (Scalar (s.global_id 0) ∷ Pointer s.buffer 0 s.size ∷ [])

abbrev pub at_store : Surroundings → List Term → Item
at_store s ts = item (StoreTop ∷ []) (Scalar (total_of (s.global_id 0) ts) ∷ Pointer s.buffer (0 + 4 * s.global_id 0) s.size ∷ [])

-- what is written
abbrev pub written : Surroundings → List Term → Asked
written s ts = record { function = 0; event = Write (record { buffer = s.buffer; offset = 0 + 4 * s.global_id 0; bits = 32 }) (total_of (s.global_id 0) ts) }

pub index_fails : (s : Surroundings) (ts : List Term) → nat_lt s.size (0 + 4 * s.global_id 0) ≡ true → (source_item s).status (at_index s ts) ≡ Fails
index_fails s ts e = ap (λ b. cond b Fails Runs) e

index_runs : (s : Surroundings) (ts : List Term) → 0 + 4 * s.global_id 0 ≤ s.size → (source_item s).status (at_index s ts) ≡ Runs
index_runs s ts h = ap (λ b. cond b Fails Runs) (le-ltb s.size (0 + 4 * s.global_id 0) h)

pub store_fails : (s : Surroundings) (ts : List Term) → nat_lt s.size (0 + 4 * s.global_id 0 + 4) ≡ true → (source_item s).status (at_store s ts) ≡ Fails
store_fails s ts e = ap (λ b. cond b Fails (Asks (written s ts))) e

pub store_asks : (s : Surroundings) (ts : List Term) → 0 + 4 * s.global_id 0 + 4 ≤ s.size → (source_item s).status (at_store s ts) ≡ Asks (written s ts)
store_asks s ts h = ap (λ b. cond b Fails (Asks (written s ts))) (le-ltb s.size (0 + 4 * s.global_id 0 + 4) h)

pub to_index : (s : Surroundings) (k : Kernel) → Quietly (source_item s) 9 (first_state k) (at_index s k.terms)
to_index s k =
    let place = expr_tasks (GlobalIdOf (Converted (Number 0))) ++ IndexTop ∷ value_tasks k.terms in
    let done = at_index s k.terms in
    let array : List Value = Pointer s.buffer 0 s.size ∷ [] in
    goes 8 (first_state k) (item (Bind ∷ Reach ∷ Reach ∷ PushPointer ∷ place) []) done refl (λ x. refl)
    (goes 7 (item (Bind ∷ Reach ∷ Reach ∷ PushPointer ∷ place) []) (item (Reach ∷ Reach ∷ PushPointer ∷ place) []) done refl (λ x. refl)
    (goes 6 (item (Reach ∷ Reach ∷ PushPointer ∷ place) []) (item (Reach ∷ PushPointer ∷ place) []) done refl (λ x. refl)
    (goes 5 (item (Reach ∷ PushPointer ∷ place) []) (item (PushPointer ∷ place) []) done refl (λ x. refl)
    (goes 4 (item (PushPointer ∷ place) []) (item place array) done refl (λ x. refl) (call_runs s (IndexTop ∷ value_tasks k.terms) array)))))

-- from the place's index, where it is not past one beyond the array's end
pub to_store : (s : Surroundings) (k : Kernel) → s.global_id 0 < 2 ^ 32 → All IsTerm k.terms → 0 + 4 * s.global_id 0 ≤ s.size → (n : ℕ) × (length k.terms ≤ n) × Quietly (source_item s) n (at_index s k.terms) (at_store s k.terms)
to_store s k low all room =
    let v = value_evaluates s k.terms low all in
    let array : List Value = Pointer s.buffer (0 + 4 * s.global_id 0) s.size ∷ [] in (
      suc v.count,
      (let e = v.enough in omega (arith, e)),
      goes v.count (at_index s k.terms) (item (value_tasks k.terms) array) (at_store s k.terms) (index_runs s k.terms room) (λ x. refl) (v.runs (StoreTop ∷ []) array),
    )
