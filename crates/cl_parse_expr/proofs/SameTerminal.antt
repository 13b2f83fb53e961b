-- The test of two terminals by `==` is exact: what the derived test says of each variant's fields, one after another.
use Rattle.std.proofs.Common.{◌≡◌, ℕ, Bool, true, false, refl, sym, ap, ◌∙◌, subst, List, [], ◌∷◌}
use Rattle.std.specs.Prelude.{MatchBool}
use mathlib.Core.Logic.{inl, inr}
use mathlib.Core.Bool.{beq, ◌&&◌}
use lib.Dec.{T, eqb, eqb→eq, eqb_refl}
use denote.Struct.Field.{Field}
use denote.Struct.Values.{Values}
use denote.Enum.Bare.{sameb, same_true}
use denote.Enum.Declared.{Choice, tag_of}
use denote.Enum.Compared.{Each, by}
use Rattle.cl_types.specs.declared.space.Space.{Space}
use Rattle.cl_types.specs.declared.operator.BinOp.{BinOp}
use Rattle.cl_types.specs.contracts.space.Space.{the_type as the_space}
use Rattle.cl_types.specs.contracts.operator.BinOp.{the_type as the_operator}

-- each variant's test finds only equal values
abbrev pub Sound : (Fss : List (List Field)) → Each Bool Fss → Type 0
Sound [] each = Unit
Sound (Fs ∷ Fss) each = ((x y : Values Fs) → each.0 x y ≡ true → x ≡ y) × Sound Fss each.1

-- and finds each value equal to itself
abbrev pub Whole : (Fss : List (List Field)) → Each Bool Fss → Type 0
Whole [] each = Unit
Whole (Fs ∷ Fss) each = ((x : Values Fs) → each.0 x x ≡ true) × Whole Fss each.1

apart : {A : Type 0} → false ≡ true → A
apart e = absurd (cc)

pub same : (Fss : List (List Field)) (each : Each Bool Fss) → Sound Fss each → (c d : Choice Fss) → by false false Fss each c d ≡ true → c ≡ d
same [] each all c d h = absurd c
same (Fs ∷ Fss) each all (inl x) (inl y) h = ap inl (all.0 x y h)
same (Fs ∷ Fss) each all (inl x) (inr y) h = apart h
same (Fs ∷ Fss) each all (inr x) (inl y) h = apart h
same (Fs ∷ Fss) each all (inr x) (inr y) h = ap inr (same Fss each.1 all.1 x y h)

itself : (Fss : List (List Field)) (each : Each Bool Fss) → Whole Fss each → (c : Choice Fss) → by false false Fss each c c ≡ true
itself [] each all c = absurd c
itself (Fs ∷ Fss) each all (inl x) = all.0 x
itself (Fs ∷ Fss) each all (inr x) = itself Fss each.1 all.1 x

pub differ : (Fss : List (List Field)) (each : Each Bool Fss) → Whole Fss each → (c d : Choice Fss) → c ≡ d → false ≡ by false false Fss each c d → ⊥
differ Fss each all c d e h = apart (h ∙ subst (λ z. by false false Fss each c z ≡ true) e (itself Fss each all c))

pub decided : {P Q : Type 0} (r b : Bool) → r ≡ b → (true ≡ b → P) → (false ≡ b → Q) → MatchBool r P Q
decided true b e f g = f e
decided false b e f g = g e

-- ---- tests of fields

and_left : (a b : Bool) → (a && b) ≡ true → a ≡ true
and_left true b h = refl
and_left false b h = apart h

and_right : (a b : Bool) → (a && b) ≡ true → b ≡ true
and_right true b h = h
and_right false b h = apart h

and_both : (a b : Bool) → a ≡ true → b ≡ true → (a && b) ≡ true
and_both true true g h = refl
and_both true false g h = apart h
and_both false b g h = apart g

is_true : (b : Bool) → T b → b ≡ true
is_true true h = refl
is_true false h = absurd h

one_number : (x y : ℕ) → eqb x y ≡ true → x ≡ y
one_number x y h = eqb→eq x y (subst T (sym h) tt)

own_number : (x : ℕ) → eqb x x ≡ true
own_number x = is_true (eqb x x) (eqb_refl x)

one_flag : (x y : Bool) → beq x y ≡ true → x ≡ y
one_flag true true h = refl
one_flag false false h = refl
one_flag true false h = apart h
one_flag false true h = apart h

own_flag : (x : Bool) → beq x x ≡ true
own_flag true = refl
own_flag false = refl

pub none : (x y : Unit {0}) → true ≡ true → x ≡ y
none x y h = refl

pub flag : (x y : Bool × Unit {0}) → beq x.0 y.0 ≡ true → x ≡ y
flag (x, u) (y, v) h = ap (λ z. (z, u)) (one_flag x y h)

pub number : (x y : ℕ × Unit {0}) → eqb x.0 y.0 ≡ true → x ≡ y
number (x, u) (y, v) h = ap (λ z. (z, u)) (one_number x y h)

pub numbers : (x y : ℕ × (ℕ × Unit {0})) → (eqb x.0 y.0 && eqb x.1.0 y.1.0) ≡ true → x ≡ y
numbers (a, (b, u)) (c, (d, v)) h =
    ap (λ z. (z, (b, u))) (one_number a c (and_left (eqb a c) (eqb b d) h)) ∙ ap (λ z. (c, (z, u))) (one_number b d (and_right (eqb a c) (eqb b d) h))

pub vector : (x y : ℕ × (Bool × (ℕ × Unit {0}))) → (eqb x.0 y.0 && (beq x.1.0 y.1.0 && eqb x.1.1.0 y.1.1.0)) ≡ true → x ≡ y
vector (a, (s, (n, u))) (b, (t, (m, v))) h =
    let g = and_right (eqb a b) (beq s t && eqb n m) h in
    ap (λ z. (z, (s, (n, u)))) (one_number a b (and_left (eqb a b) (beq s t && eqb n m) h))
    ∙ ap (λ z. (b, (z, (n, u)))) (one_flag s t (and_left (beq s t) (eqb n m) g))
    ∙ ap (λ z. (b, (t, (z, u)))) (one_number n m (and_right (beq s t) (eqb n m) g))

pub space : (x y : Space × Unit {0}) → sameb the_space x.0 y.0 ≡ true → x ≡ y
space (x, u) (y, v) h = ap (λ z. (z, u)) (same_true the_space tt x y h)

pub operator : (x y : BinOp × Unit {0}) → sameb the_operator x.0 y.0 ≡ true → x ≡ y
operator (x, u) (y, v) h = ap (λ z. (z, u)) (same_true the_operator tt x y h)

pub own_none : (x : Unit {0}) → true ≡ true
own_none x = refl

pub own_flags : (x : Bool × Unit {0}) → beq x.0 x.0 ≡ true
own_flags x = own_flag x.0

pub own_numbers : (x : ℕ × Unit {0}) → eqb x.0 x.0 ≡ true
own_numbers x = own_number x.0

pub own_two : (x : ℕ × (ℕ × Unit {0})) → (eqb x.0 x.0 && eqb x.1.0 x.1.0) ≡ true
own_two x = and_both (eqb x.0 x.0) (eqb x.1.0 x.1.0) (own_number x.0) (own_number x.1.0)

pub own_vector : (x : ℕ × (Bool × (ℕ × Unit {0}))) → (eqb x.0 x.0 && (beq x.1.0 x.1.0 && eqb x.1.1.0 x.1.1.0)) ≡ true
own_vector x = and_both (eqb x.0 x.0) (beq x.1.0 x.1.0 && eqb x.1.1.0 x.1.1.0) (own_number x.0) (and_both (beq x.1.0 x.1.0) (eqb x.1.1.0 x.1.1.0) (own_flag x.1.0) (own_number x.1.1.0))

pub own_space : (x : Space × Unit {0}) → sameb the_space x.0 x.0 ≡ true
own_space x = is_true (sameb the_space x.0 x.0) (eqb_refl (tag_of the_space x.0))

pub own_operator : (x : BinOp × Unit {0}) → sameb the_operator x.0 x.0 ≡ true
own_operator x = is_true (sameb the_operator x.0 x.0) (eqb_refl (tag_of the_operator x.0))
