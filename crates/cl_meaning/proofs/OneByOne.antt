-- Loops that push or count scalars, operands or members one after another.
use Rattle.std.proofs.Common.{◌≡◌, ℕ, zero, suc, ◌+◌, ◌<◌, ◌≤◌, min, List, [], ◌∷◌, ◌++◌, length, get_or, take, drop, map, refl, sym, ap, ◌∙◌, arith, add-one, drop-cons}
use Rattle.std.proofs.lemmas.List.{append_assoc, drop_all, map_push, take_min}
use Rattle.cl_types.specs.declared.types.ClType.{ClType}
use Rattle.cl_types.specs.declared.types.TypeId.{TypeId}
use Rattle.cl_types.specs.declared.types.Member.{Member}
use Rattle.cl_common.specs.Operators.{each_from}
use Rattle.cl_common.specs.Types.{count_at, member_types}
use Rattle.cl_meaning.specs.declared.code.Expr.{Expr as PlainExpr, out-Expr}
use Rattle.cl_meaning.specs.declared.task.Task.{Task as PlainTask}
use Rattle.cl_meaning.specs.Tasks.{Task}
use Rattle.cl_meaning.specs.Expressions.{operand_of, types_of, total}
use Rattle.cl_meaning.specs.Views.{expr_by, task_by, tasks_by}
use Rattle.cl_meaning.proofs.Unfolded.{seen, type_seen}

-- ---- tasks of scalars

each_last : {A : Type 0} (f : ℕ → A) (k n : ℕ) → each_from f k (suc n) ≡ each_from f k n ++ f (k + n) ∷ []
each_last f k zero = ap (λ j. f j ∷ []) (omega arith)
each_last f k (suc n) = ap (λ z. f k ∷ z) (each_last f (suc k) n ∙ ap (λ j. each_from f (suc k) n ++ f j ∷ []) (omega arith))

each_more : {A : Type 0} (f : ℕ → A) (n : ℕ) → each_from f 0 (n + 1) ≡ each_from f 0 n ++ f n ∷ []
each_more f n = ap (each_from f 0) (add-one n) ∙ each_last f 0 n ∙ ap (λ j. each_from f 0 n ++ f j ∷ []) (omega arith)

-- one more is pushed
pub one_more : (f : ℕ → Task) (n : ℕ) (old : List Task) (so_far now : List PlainTask) (t : PlainTask) → tasks_by so_far ≡ old ++ each_from f 0 n → now ≡ so_far ++ t ∷ [] → task_by t ≡ f n → tasks_by now ≡ old ++ each_from f 0 (n + 1)
one_more f n old so_far now t is pushed made =
    ap tasks_by pushed
    ∙ map_push task_by so_far t
    ∙ ap (λ z. z ++ task_by t ∷ []) is
    ∙ append_assoc old (each_from f 0 n) (task_by t ∷ [])
    ∙ ap (λ x. old ++ (each_from f 0 n ++ x ∷ [])) made
    ∙ ap (λ z. old ++ z) (sym (each_more f n))

-- ---- numbers of scalars

first_of : {A : Type 0} (xs : List A) (at : ℕ) (x : A) → at < length xs → x ≡ get_or xs at x → drop at xs ≡ x ∷ drop (at + 1) xs
first_of xs at x h e = drop-cons xs at x h ∙ ap (λ z. z ∷ drop (suc at) xs) (sym e) ∙ ap (λ n. x ∷ drop n xs) (sym (add-one at))

-- the scalars that are counted, and those of the types that are left, are all
pub record Counted (cs : List ClType) (all left : List TypeId) (sum : ℕ) : Type 0 where
  pub whole : sum + total cs left ≡ total cs all

counted_next : (cs : List ClType) (all left rest : List TypeId) (t : TypeId) (sum : ℕ) → Counted cs all left sum → left ≡ t ∷ rest → Counted cs all rest (sum + count_at cs t)
counted_next cs all left rest t sum so_far is =
    let e : total cs left ≡ count_at cs t + total cs rest = ap (total cs) is in
    record { whole = omega (arith, e, so_far.whole) }

counted_last : (cs : List ClType) (all left : List TypeId) (sum : ℕ) → Counted cs all left sum → left ≡ [] → sum ≡ total cs all
counted_last cs all left sum so_far is =
    let e : total cs left ≡ 0 = ap (total cs) is in
    omega (arith, e, so_far.whole)

pub operands_begin : (cs : List ClType) (es : List PlainExpr) → Counted cs (types_of (map (λ e. operand_of cs (expr_by e)) es)) (types_of (map (λ e. operand_of cs (expr_by e)) (drop 0 es))) 0
operands_begin cs es = record { whole = omega arith }

pub operands_more : (cs : List ClType) (all : List TypeId) (es : List PlainExpr) (at : ℕ) (e : PlainExpr) (sum next : ℕ) → Counted cs all (types_of (map (λ e. operand_of cs (expr_by e)) (drop at es))) sum → at < length es → e ≡ get_or es at e → next ≡ sum + count_at cs (out-Expr e).ty → Counted cs all (types_of (map (λ e. operand_of cs (expr_by e)) (drop (at + 1) es))) next
operands_more cs all es at e sum next so_far h is adds =
    let left : types_of (map (seen cs) (drop at es)) ≡ (seen cs e).ty ∷ types_of (map (seen cs) (drop (at + 1) es)) = ap (λ l. types_of (map (seen cs) l)) (first_of es at e h is) in
    let one = counted_next cs all _ _ (seen cs e).ty sum so_far left in
    let same : next ≡ sum + count_at cs (seen cs e).ty = adds ∙ sym (ap (λ t. sum + count_at cs t) (type_seen cs e)) in
    record { whole = omega (arith, same, one.whole) }

pub operands_end : (cs : List ClType) (all : List TypeId) (es : List PlainExpr) (at sum : ℕ) → Counted cs all (types_of (map (λ e. operand_of cs (expr_by e)) (drop at es))) sum → length es ≤ at → sum ≡ total cs all
operands_end cs all es at sum so_far h = counted_last cs all _ sum so_far (ap (λ l. types_of (map (seen cs) l)) (drop_all at es h))

pub ruleset operands_counted = (operands_begin, operands_more, operands_end)

pub members_begin : (cs : List ClType) (ms : List Member) → Counted cs (member_types ms) (member_types (drop 0 ms)) 0
members_begin cs ms = record { whole = omega arith }

pub members_more : (cs : List ClType) (all : List TypeId) (ms : List Member) (at : ℕ) (m : Member) (sum next : ℕ) → Counted cs all (member_types (drop at ms)) sum → at < length ms → m ≡ get_or ms at m → next ≡ sum + count_at cs m.ty → Counted cs all (member_types (drop (at + 1) ms)) next
members_more cs all ms at m sum next so_far h is adds =
    let one = counted_next cs all _ _ m.ty sum so_far (ap member_types (first_of ms at m h is)) in
    record { whole = omega (arith, adds, one.whole) }

pub members_end : (cs : List ClType) (all : List TypeId) (ms : List Member) (at sum : ℕ) → Counted cs all (member_types (drop at ms)) sum → length ms ≤ at → sum ≡ total cs all
members_end cs all ms at sum so_far h = counted_last cs all _ sum so_far (ap member_types (drop_all at ms h))

pub ruleset members_counted = (members_begin, members_more, members_end)

types_taken : (ms : List Member) (k : ℕ) → member_types (take k ms) ≡ take k (member_types ms)
types_taken [] zero = refl
types_taken [] (suc k) = refl
types_taken (m ∷ ms) zero = refl
types_taken (m ∷ ms) (suc k) = ap (λ ts. m.ty ∷ ts) (types_taken ms k)

pub types_before : (ms : List Member) (k before : ℕ) → before ≡ min (length ms) k → member_types (take before ms) ≡ take k (member_types ms)
types_before ms k before is =
    let same : before ≡ min k (length ms) = omega (arith, is) in
    ap (λ n. member_types (take n ms)) same ∙ ap member_types (take_min k ms) ∙ types_taken ms k

pub ruleset members_before = (types_before)
