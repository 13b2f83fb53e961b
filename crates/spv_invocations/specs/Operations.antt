-- What the operations on numbers and bools give, one component at a time (SPIR-V 1.3, sections 3.32.11 and 3.32.13 to 3.32.15, 3.32.18).
use Rattle.std.specs.Prelude.{ℕ, zero, suc, ◌+◌, ◌-◌, ◌^◌, ◌==◌, ◌&&◌, ◌||◌, nat_eq, nat_lt, nat_le, min, max, Bool, true, false, not, if◌then◌else◌, List, [], ◌∷◌, map, slice_index, bit_and, bit_or, bit_xor, int_lt, int_le}
use Rattle.clv_num.specs.Numbers.{signed_of, add_of, sub_of, mul_of, neg_of, udiv_of, urem_of, sdiv_of, srem_of, not_of, shl_of, lshr_of, ashr_of, convert_of}
use Rattle.spv_module.specs.declared.op.TheConstants as op
use Rattle.spv_meaning.specs.declared.trap.TrapKind.{TrapKind}
use Rattle.spv_meaning.specs.declared.trap.TrapKind.TheVariants.{Divide, Shift, Unreachable}

-- a number, or a trap
pub data Made : Type 0 where
  Gives : (n : ℕ) → Made
  Breaks : (kind : TrapKind) → Made

-- An operation: the widths of the components of its first operand and of its result, and the operands.
abbrev pub Operating : Type 0
Operating = ℕ → ℕ → List ℕ → Made

abbrev pub on_one : (ℕ → ℕ → ℕ → ℕ) → Operating
on_one f from to (a ∷ []) = Gives (f from to a)
on_one f from to _ = Breaks Unreachable

abbrev pub on_two : (ℕ → ℕ → ℕ → ℕ) → Operating
on_two f from to (a ∷ b ∷ []) = Gives (f from a b)
on_two f from to _ = Breaks Unreachable

abbrev pub truth_of : Bool → ℕ
truth_of true = 1
truth_of false = 0

abbrev pub compared : (ℕ → ℕ → Bool) → Operating
compared f = on_two (λ w a b. truth_of (f a b))

abbrev pub signed_less : ℕ → ℕ → ℕ → Bool
signed_less w a b = int_lt (signed_of w a) (signed_of w b)

abbrev pub signed_no_more : ℕ → ℕ → ℕ → Bool
signed_no_more w a b = int_le (signed_of w a) (signed_of w b)

abbrev pub compared_signed : (ℕ → ℕ → ℕ → Bool) → Operating
compared_signed f = on_two (λ w a b. truth_of (f w a b))

-- Division by zero traps, and signed division besides of the least number by -1.
abbrev pub divided : (ℕ → ℕ → ℕ → ℕ) → Operating
divided f from to (a ∷ b ∷ []) = if nat_eq b 0 then Breaks Divide else Gives (f from a b)
divided f from to _ = Breaks Unreachable

abbrev pub divided_signed : (ℕ → ℕ → ℕ → ℕ) → Operating
divided_signed f from to (a ∷ b ∷ []) = if nat_eq b 0 || (nat_eq a (2 ^ (from - 1)) && nat_eq b (2 ^ from - 1)) then Breaks Divide else Gives (f from a b)
divided_signed f from to _ = Breaks Unreachable

-- A shift by the width or more traps.
abbrev pub shifted : (ℕ → ℕ → ℕ → ℕ) → Operating
shifted f from to (a ∷ by ∷ []) = if nat_lt by from then Gives (f from a by) else Breaks Shift
shifted f from to _ = Breaks Unreachable

abbrev pub selected : Operating
selected from to (condition ∷ a ∷ b ∷ []) = Gives (if nat_eq condition 0 then b else a)
selected from to _ = Breaks Unreachable

abbrev pub operations : List (ℕ × Operating)
operations =
    (op.U_CONVERT, on_one (λ from to a. convert_of from a false to)) ∷ (op.S_CONVERT, on_one (λ from to a. convert_of from a true to))
    ∷ (op.S_NEGATE, on_one (λ from to a. neg_of to a)) ∷ (op.NOT, on_one (λ from to a. not_of to a)) ∷ (op.LOGICAL_NOT, on_one (λ from to a. 1 - a))
    ∷ (op.I_ADD, on_two add_of) ∷ (op.I_SUB, on_two sub_of) ∷ (op.I_MUL, on_two mul_of)
    ∷ (op.U_DIV, divided udiv_of) ∷ (op.U_MOD, divided urem_of) ∷ (op.S_DIV, divided_signed sdiv_of) ∷ (op.S_REM, divided_signed srem_of)
    ∷ (op.LOGICAL_OR, on_two (λ w a b. max a b)) ∷ (op.LOGICAL_AND, on_two (λ w a b. min a b)) ∷ (op.SELECT, selected)
    ∷ (op.I_EQUAL, compared nat_eq) ∷ (op.I_NOT_EQUAL, compared (λ a b. not (nat_eq a b)))
    ∷ (op.U_LESS_THAN, compared nat_lt) ∷ (op.U_LESS_THAN_EQUAL, compared nat_le) ∷ (op.U_GREATER_THAN, compared (λ a b. nat_lt b a)) ∷ (op.U_GREATER_THAN_EQUAL, compared (λ a b. nat_le b a))
    ∷ (op.S_LESS_THAN, compared_signed signed_less) ∷ (op.S_LESS_THAN_EQUAL, compared_signed signed_no_more)
    ∷ (op.S_GREATER_THAN, compared_signed (λ w a b. signed_less w b a)) ∷ (op.S_GREATER_THAN_EQUAL, compared_signed (λ w a b. signed_no_more w b a))
    ∷ (op.SHIFT_RIGHT_LOGICAL, shifted lshr_of) ∷ (op.SHIFT_RIGHT_ARITHMETIC, shifted ashr_of) ∷ (op.SHIFT_LEFT_LOGICAL, shifted shl_of)
    ∷ (op.BITWISE_OR, on_two (λ w a b. bit_or a b)) ∷ (op.BITWISE_XOR, on_two (λ w a b. bit_xor a b)) ∷ (op.BITWISE_AND, on_two (λ w a b. bit_and a b)) ∷ []

abbrev pub among : List (ℕ × Operating) → ℕ → Operating
among [] code from to ns = Breaks Unreachable
among (row ∷ rows) code from to ns = if code == row.0 then row.1 from to ns else among rows code from to ns

abbrev pub operated : ℕ → ℕ → ℕ → List ℕ → Made
operated code from to ns = among operations code from to ns

-- ---- all components

pub data Lanes : Type 0 where
  Each : (ns : List ℕ) → Lanes
  Stops : (kind : TrapKind) → Lanes

abbrev pub and_lane : Made → Lanes → Lanes
and_lane (Gives n) (Each ns) = Each (n ∷ ns)
and_lane (Gives n) (Stops kind) = Stops kind
and_lane (Breaks kind) _ = Stops kind

abbrev pub at_lane : ℕ → List ℕ → ℕ
at_lane k ns = slice_index ns k

-- The operation on so many components from the kth on, of operands by their components. It traps where one of them does.
abbrev pub lanes_from : ℕ → ℕ → ℕ → List (List ℕ) → ℕ → ℕ → Lanes
lanes_from code from to operands k zero = Each []
lanes_from code from to operands k (suc n) = and_lane (operated code from to (map (at_lane k) operands)) (lanes_from code from to operands (k + 1) n)

-- ---- atomics

abbrev pub least_signed : ℕ → ℕ → ℕ
least_signed a b = if signed_no_more 32 a b then a else b

abbrev pub greatest_signed : ℕ → ℕ → ℕ
greatest_signed a b = if signed_no_more 32 b a then a else b

-- what an atomic on a 32-bit number with one value stores
abbrev pub stored : List (ℕ × (ℕ → ℕ → ℕ))
stored =
    (op.ATOMIC_EXCHANGE, λ old n. n) ∷ (op.ATOMIC_I_ADD, add_of 32) ∷ (op.ATOMIC_I_SUB, sub_of 32)
    ∷ (op.ATOMIC_S_MIN, least_signed) ∷ (op.ATOMIC_U_MIN, min) ∷ (op.ATOMIC_S_MAX, greatest_signed) ∷ (op.ATOMIC_U_MAX, max)
    ∷ (op.ATOMIC_AND, bit_and) ∷ (op.ATOMIC_OR, bit_or) ∷ (op.ATOMIC_XOR, bit_xor) ∷ []

abbrev pub stored_by : List (ℕ × (ℕ → ℕ → ℕ)) → ℕ → ℕ → ℕ → ℕ
stored_by [] code old n = old
stored_by (row ∷ rows) code old n = if code == row.0 then row.1 old n else stored_by rows code old n

-- What an atomic stores: a value and what the old one is compared with; a value; or one more or less.
abbrev pub after_atomic : ℕ → ℕ → List ℕ → ℕ
after_atomic code old (value ∷ comparator ∷ []) = if nat_eq old comparator then value else old
after_atomic code old (n ∷ []) = stored_by stored code old n
after_atomic code old _ = if code == op.ATOMIC_I_INCREMENT then add_of 32 old 1 else sub_of 32 old 1
