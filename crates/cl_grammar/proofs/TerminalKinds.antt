-- Terminals by their kind, and sets of kinds, so that a table is proved by computing it for every kind.
use Rattle.std.proofs.Common.{◌≡◌, ℕ, zero, suc, ◌<◌, Bool, true, false, refl, sym, ap, ◌∙◌, subst, arith, ◌⊎◌, inl, inr}
use Rattle.std.specs.Prelude.{List, [], ◌∷◌, ◌||◌, ◌&&◌, ◌==◌}
use Rattle.cl_grammar.specs.declared.terminal.Terminal.{Terminal}
use Rattle.cl_grammar.specs.declared.terminal.Terminal.TheVariants as t
use Rattle.cl_grammar.specs.Symbols.{Class, Number, Binary, Assignment, Prefix, BeforeIncrement, BehindIncrement, OfMember, Qualifier, PointerQualifier, Whole, Sign, LoneWidth, LongWidth, Suffix, Called, Asked, Listed, Pointing, Braced, Bracketed, TypeWord, belongs, is_any}

abbrev pub kind : Terminal → ℕ
kind t.End = 0
kind t.Name = 1
kind (t.TypeName true) = 62
kind (t.TypeName false) = 2
kind (t.Number value ty) = 3
kind t.Typedef = 4
kind t.Kernel = 5
kind t.Inline = 6
kind t.Static = 7
kind t.Attribute = 8
kind t.Const = 9
kind t.Volatile = 10
kind t.Restrict = 11
kind (t.Space space) = 12
kind t.Void = 13
kind t.Bool = 14
kind t.Signed = 15
kind t.Unsigned = 16
kind t.Char = 17
kind t.Short = 18
kind t.Int = 19
kind t.Long = 20
kind (t.UnsignedInt bits) = 21
kind (t.Vector bits signed n) = 22
kind (t.Sized signed) = 23
kind t.Struct = 24
kind t.If = 25
kind t.Else = 26
kind t.While = 27
kind t.Do = 28
kind t.For = 29
kind t.Switch = 30
kind t.Case = 31
kind t.Default = 32
kind t.Break = 33
kind t.Continue = 34
kind t.Return = 35
kind t.Sizeof = 36
kind t.OpenParen = 37
kind t.CloseParen = 38
kind t.OpenBracket = 39
kind t.CloseBracket = 40
kind t.OpenBrace = 41
kind t.CloseBrace = 42
kind t.Comma = 43
kind t.Semicolon = 44
kind t.Colon = 45
kind t.Question = 46
kind t.Dot = 47
kind t.Arrow = 48
kind t.Increment = 49
kind t.Decrement = 50
kind t.Tilde = 51
kind t.Exclamation = 52
kind t.Ampersand = 53
kind t.Star = 54
kind t.Plus = 55
kind t.Minus = 56
kind (t.Infix op) = 57
kind t.Equals = 58
kind (t.Compound op) = 59
kind t.Refused = 60
kind t.Stray = 61

abbrev pub has : List ℕ → ℕ → Bool
has [] k = false
has (a ∷ rest) k = (k == a) || has rest k

abbrev pub implies : Bool → Bool → Bool
implies true b = b
implies false b = true

abbrev pub not : Bool → Bool
not true = false
not false = true

abbrev pub all_below : ℕ → (ℕ → Bool) → Bool
all_below zero p = true
all_below (suc n) p = p n && all_below n p

and_left : (a b : Bool) → (a && b) ≡ true → a ≡ true
and_left true b h = refl
and_left false b h = h

and_right : (a b : Bool) → (a && b) ≡ true → b ≡ true
and_right true b h = h
and_right false b h = absurd (let e : false ≡ true = h in cc)

pub both_left : (a b : Bool) → (a && b) ≡ true → a ≡ true
both_left = and_left

pub both_right : (a b : Bool) → (a && b) ≡ true → b ≡ true
both_right = and_right

pub implied : (a b : Bool) → implies a b ≡ true → a ≡ true → b ≡ true
implied true b h e = h
implied false b h e = absurd (let f : false ≡ true = e in cc)

pub not_true : (a : Bool) → not a ≡ true → a ≡ false
not_true true h = absurd (let e : false ≡ true = h in cc)
not_true false h = refl

pub excluded_middle : (a : Bool) → a ≡ true → a ≡ false → ⊥
excluded_middle a h g = let e : true ≡ false = sym h ∙ g in cc

last_or : (n k : ℕ) → k < suc n → (k ≡ n) ⊎ (k < n)
last_or zero zero less = inl refl
last_or zero (suc k) less = absurd (omega arith)
last_or (suc n) zero less = inr (omega arith)
last_or (suc n) (suc k) less = elim (last_or n k (omega arith)) as (λ _. (suc k ≡ suc n) ⊎ (suc k < suc n)) [ inl e ↦ inl (ap suc e) | inr g ↦ inr (omega arith) ]

below_here : (p : ℕ → Bool) (n k : ℕ) → all_below n p ≡ true → k < n → p k ≡ true
below_here p zero k h less = absurd (omega arith)
below_here p (suc n) k h less = elim (last_or n k less) as (λ _. p k ≡ true) [ inl e ↦ subst (λ z. p z ≡ true) (sym e) (and_left (p n) (all_below n p) h) | inr g ↦ below_here p n k (and_right (p n) (all_below n p) h) g ]

-- the kinds of a class
abbrev pub class_kinds : Class → List ℕ
class_kinds Number = 3 ∷ []
class_kinds Binary = 53 ∷ 54 ∷ 55 ∷ 56 ∷ 57 ∷ []
class_kinds Assignment = 58 ∷ 59 ∷ []
class_kinds Prefix = 51 ∷ 52 ∷ 53 ∷ 54 ∷ 55 ∷ 56 ∷ []
class_kinds BeforeIncrement = 49 ∷ 50 ∷ []
class_kinds BehindIncrement = 49 ∷ 50 ∷ []
class_kinds OfMember = 47 ∷ 48 ∷ []
class_kinds Qualifier = 9 ∷ 10 ∷ 12 ∷ []
class_kinds PointerQualifier = 9 ∷ 10 ∷ 11 ∷ []
class_kinds (Whole true) = 22 ∷ 62 ∷ []
class_kinds (Whole false) = 2 ∷ 13 ∷ 14 ∷ 21 ∷ 23 ∷ []
class_kinds Sign = 15 ∷ 16 ∷ []
class_kinds LoneWidth = 17 ∷ 19 ∷ []
class_kinds LongWidth = 18 ∷ 20 ∷ []
class_kinds Suffix = 37 ∷ 39 ∷ 47 ∷ 48 ∷ 49 ∷ 50 ∷ []
class_kinds Called = 37 ∷ []
class_kinds Asked = 46 ∷ []
class_kinds Listed = 43 ∷ []
class_kinds Pointing = 54 ∷ []
class_kinds Braced = 41 ∷ []
class_kinds Bracketed = 39 ∷ []
class_kinds TypeWord = 2 ∷ 9 ∷ 10 ∷ 12 ∷ 13 ∷ 14 ∷ 15 ∷ 16 ∷ 17 ∷ 18 ∷ 19 ∷ 20 ∷ 21 ∷ 22 ∷ 23 ∷ 24 ∷ 62 ∷ []

abbrev pub class_has : Class → ℕ → Bool
class_has c k = has (class_kinds c) k

kind_of_number : (t : Terminal) → belongs Number t ≡ class_has Number (kind t)
kind_of_number (t.TypeName true) = refl
kind_of_number (t.TypeName false) = refl
kind_of_number _ = refl

kind_of_binary : (t : Terminal) → belongs Binary t ≡ class_has Binary (kind t)
kind_of_binary (t.TypeName true) = refl
kind_of_binary (t.TypeName false) = refl
kind_of_binary _ = refl

kind_of_assignment : (t : Terminal) → belongs Assignment t ≡ class_has Assignment (kind t)
kind_of_assignment (t.TypeName true) = refl
kind_of_assignment (t.TypeName false) = refl
kind_of_assignment _ = refl

kind_of_prefix : (t : Terminal) → belongs Prefix t ≡ class_has Prefix (kind t)
kind_of_prefix (t.TypeName true) = refl
kind_of_prefix (t.TypeName false) = refl
kind_of_prefix _ = refl

kind_of_beforeincrement : (t : Terminal) → belongs BeforeIncrement t ≡ class_has BeforeIncrement (kind t)
kind_of_beforeincrement (t.TypeName true) = refl
kind_of_beforeincrement (t.TypeName false) = refl
kind_of_beforeincrement _ = refl

kind_of_behindincrement : (t : Terminal) → belongs BehindIncrement t ≡ class_has BehindIncrement (kind t)
kind_of_behindincrement (t.TypeName true) = refl
kind_of_behindincrement (t.TypeName false) = refl
kind_of_behindincrement _ = refl

kind_of_ofmember : (t : Terminal) → belongs OfMember t ≡ class_has OfMember (kind t)
kind_of_ofmember (t.TypeName true) = refl
kind_of_ofmember (t.TypeName false) = refl
kind_of_ofmember _ = refl

kind_of_qualifier : (t : Terminal) → belongs Qualifier t ≡ class_has Qualifier (kind t)
kind_of_qualifier (t.TypeName true) = refl
kind_of_qualifier (t.TypeName false) = refl
kind_of_qualifier _ = refl

kind_of_pointerqualifier : (t : Terminal) → belongs PointerQualifier t ≡ class_has PointerQualifier (kind t)
kind_of_pointerqualifier (t.TypeName true) = refl
kind_of_pointerqualifier (t.TypeName false) = refl
kind_of_pointerqualifier _ = refl

kind_of_whole_true : (t : Terminal) → belongs (Whole true) t ≡ class_has (Whole true) (kind t)
kind_of_whole_true (t.TypeName true) = refl
kind_of_whole_true (t.TypeName false) = refl
kind_of_whole_true _ = refl

kind_of_whole_false : (t : Terminal) → belongs (Whole false) t ≡ class_has (Whole false) (kind t)
kind_of_whole_false (t.TypeName true) = refl
kind_of_whole_false (t.TypeName false) = refl
kind_of_whole_false _ = refl

kind_of_sign : (t : Terminal) → belongs Sign t ≡ class_has Sign (kind t)
kind_of_sign (t.TypeName true) = refl
kind_of_sign (t.TypeName false) = refl
kind_of_sign _ = refl

kind_of_lonewidth : (t : Terminal) → belongs LoneWidth t ≡ class_has LoneWidth (kind t)
kind_of_lonewidth (t.TypeName true) = refl
kind_of_lonewidth (t.TypeName false) = refl
kind_of_lonewidth _ = refl

kind_of_longwidth : (t : Terminal) → belongs LongWidth t ≡ class_has LongWidth (kind t)
kind_of_longwidth (t.TypeName true) = refl
kind_of_longwidth (t.TypeName false) = refl
kind_of_longwidth _ = refl

kind_of_suffix : (t : Terminal) → belongs Suffix t ≡ class_has Suffix (kind t)
kind_of_suffix (t.TypeName true) = refl
kind_of_suffix (t.TypeName false) = refl
kind_of_suffix _ = refl

kind_of_called : (t : Terminal) → belongs Called t ≡ class_has Called (kind t)
kind_of_called (t.TypeName true) = refl
kind_of_called (t.TypeName false) = refl
kind_of_called _ = refl

kind_of_asked : (t : Terminal) → belongs Asked t ≡ class_has Asked (kind t)
kind_of_asked (t.TypeName true) = refl
kind_of_asked (t.TypeName false) = refl
kind_of_asked _ = refl

kind_of_listed : (t : Terminal) → belongs Listed t ≡ class_has Listed (kind t)
kind_of_listed (t.TypeName true) = refl
kind_of_listed (t.TypeName false) = refl
kind_of_listed _ = refl

kind_of_pointing : (t : Terminal) → belongs Pointing t ≡ class_has Pointing (kind t)
kind_of_pointing (t.TypeName true) = refl
kind_of_pointing (t.TypeName false) = refl
kind_of_pointing _ = refl

kind_of_braced : (t : Terminal) → belongs Braced t ≡ class_has Braced (kind t)
kind_of_braced (t.TypeName true) = refl
kind_of_braced (t.TypeName false) = refl
kind_of_braced _ = refl

kind_of_bracketed : (t : Terminal) → belongs Bracketed t ≡ class_has Bracketed (kind t)
kind_of_bracketed (t.TypeName true) = refl
kind_of_bracketed (t.TypeName false) = refl
kind_of_bracketed _ = refl

kind_of_typeword : (t : Terminal) → belongs TypeWord t ≡ class_has TypeWord (kind t)
kind_of_typeword (t.TypeName true) = refl
kind_of_typeword (t.TypeName false) = refl
kind_of_typeword _ = refl

pub class_kind : (c : Class) (t : Terminal) → belongs c t ≡ class_has c (kind t)
class_kind Number t = kind_of_number t
class_kind Binary t = kind_of_binary t
class_kind Assignment t = kind_of_assignment t
class_kind Prefix t = kind_of_prefix t
class_kind BeforeIncrement t = kind_of_beforeincrement t
class_kind BehindIncrement t = kind_of_behindincrement t
class_kind OfMember t = kind_of_ofmember t
class_kind Qualifier t = kind_of_qualifier t
class_kind PointerQualifier t = kind_of_pointerqualifier t
class_kind (Whole true) t = kind_of_whole_true t
class_kind (Whole false) t = kind_of_whole_false t
class_kind Sign t = kind_of_sign t
class_kind LoneWidth t = kind_of_lonewidth t
class_kind LongWidth t = kind_of_longwidth t
class_kind Suffix t = kind_of_suffix t
class_kind Called t = kind_of_called t
class_kind Asked t = kind_of_asked t
class_kind Listed t = kind_of_listed t
class_kind Pointing t = kind_of_pointing t
class_kind Braced t = kind_of_braced t
class_kind Bracketed t = kind_of_bracketed t
class_kind TypeWord t = kind_of_typeword t

abbrev pub any_has : List Class → ℕ → Bool
any_has [] k = false
any_has (c ∷ cs) k = class_has c k || any_has cs k

pub any_kind : (cs : List Class) (t : Terminal) → is_any cs t ≡ any_has cs (kind t)
any_kind [] t = refl
any_kind (c ∷ cs) t = rw (class_kind c t, any_kind cs t) refl

kind_below : (t : Terminal) → kind t < 63
kind_below (t.TypeName true) = omega arith
kind_below (t.TypeName false) = omega arith
kind_below _ = omega arith

-- what holds of each kind holds of each terminal's
pub each : (p : ℕ → Bool) → all_below 63 p ≡ true → (t : Terminal) → p (kind t) ≡ true
each p h t = below_here p 63 (kind t) h (kind_below t)
