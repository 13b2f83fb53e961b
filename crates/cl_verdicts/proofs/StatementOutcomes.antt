-- What judging comes to, something or an offence; judgements one behind another; and two judgements of one text.
use Rattle.std.proofs.Common.{◌≡◌, ℕ, refl, sym, ap, ◌∙◌, subst, Bool, true, false, Option, Some, None}
use Rattle.clv_place.specs.declared.place.Place.{Place}
use Rattle.clv_place.specs.declared.stop.Offence.{Offence}
use Rattle.cl_make.proofs.Growing.{none_some, some_same}
use Rattle.cl_type_expr.specs.Offences.{at}

pub data Outcome (A : Type 0) : Type 0 where
  gives : A → Outcome A
  stops : Offence → Outcome A

-- the same outcome, where what is given is related so
abbrev pub Agree : {A : Type 0} → (A → A → Type 0) → Outcome A → Outcome A → Type 0
Agree R (gives a) (gives b) = R a b
Agree R (gives a) (stops p) = ⊥
Agree R (stops o) (gives b) = ⊥
Agree R (stops o) (stops p) = p ≡ o

-- ---- tests

abbrev pub code_if : Bool → ℕ → Option ℕ
code_if true code = Some code
code_if false code = None

abbrev pub offence_at : Option ℕ → Place → Option Offence
offence_at None place = None
offence_at (Some code) place = Some (at code place)

abbrev pub division : Option Place → Option Offence
division None = None
division (Some p) = Some (at 334 p)

-- what comes behind a test, or its offence
pub record Unless {A : Type 0} (o : Option Offence) (Q : Outcome A → Type 0) (v : Outcome A) : Type 0 where
  pub pass : o ≡ None → Q v
  pub fail : (p : Offence) → o ≡ Some p → v ≡ stops p

pub no_offence : (code : Option ℕ) (place : Place) → code ≡ None → offence_at code place ≡ None
no_offence code place e = ap (λ z. offence_at z place) e

pub an_offence : (code : Option ℕ) (c : ℕ) (place : Place) → code ≡ Some c → offence_at code place ≡ Some (at c place)
an_offence code c place e = ap (λ z. offence_at z place) e

pub no_code : (b : Bool) (code : ℕ) → b ≡ false → code_if b code ≡ None
no_code b code e = ap (λ z. code_if z code) e

pub a_code : (b : Bool) (code : ℕ) → b ≡ true → code_if b code ≡ Some code
a_code b code e = ap (λ z. code_if z code) e

-- ---- one judgement behind another

abbrev pub Then : {A B : Type 0} → Outcome A → (A → Outcome B → Type 0) → Outcome B → Type 0
Then (gives a) Q v = Q a v
Then (stops o) Q v = v ≡ stops o

pub record First {A B : Type 0} (P : Outcome A → Type 0) (Q : A → Outcome B → Type 0) (v : Outcome B) : Type 0 where
  pub first : Outcome A
  pub comes : P first
  pub rest : Then first Q v

module _ {A B : Type 0} where
  pub behind : {P : Outcome A → Type 0} {Q : A → Outcome B → Type 0} (a : A) (v : Outcome B) → P (gives a) → Q a v → First P Q v
  behind a v p q = record { first = gives a; comes = p; rest = q }

  pub stopped : {P : Outcome A → Type 0} {Q : A → Outcome B → Type 0} (o : Offence) → P (stops o) → First P Q (stops o)
  stopped o p = record { first = stops o; comes = p; rest = refl }

  -- where the first judgement gives something in one place, it gives that in the other
  pub gives_then : (R : A → A → Type 0) (S : B → B → Type 0) (a : A) (v w : Outcome B) {P : Outcome A → Type 0} {Q : A → Outcome B → Type 0} → First P Q w → ((y : Outcome A) → P y → Agree R (gives a) y) → ((c : A) → R a c → Q c w → Agree S v w) → Agree S v w
  gives_then R S a v w {P = P} {Q = Q} x one rest = by x.first x.comes x.rest
    where
      by : (y : Outcome A) → P y → Then y Q w → Agree S v w
      by (gives c) p q = rest c (one (gives c) p) q
      by (stops o) p q = absurd (one (stops o) p)

  pub stops_then : (R : A → A → Type 0) (S : B → B → Type 0) (o : Offence) (w : Outcome B) {P : Outcome A → Type 0} {Q : A → Outcome B → Type 0} → First P Q w → ((y : Outcome A) → P y → Agree R (stops o) y) → Agree S (stops o) w
  stops_then R S o w {P = P} {Q = Q} x one = by x.first x.comes x.rest
    where
      by : (y : Outcome A) → P y → Then y Q w → Agree S (stops o) w
      by (gives c) p q = absurd (one (gives c) p)
      by (stops k) p q = subst (Agree S (stops o)) (sym q) (one (stops k) p)

module _ {A : Type 0} where
  pub passes : {o : Option Offence} {Q : Outcome A → Type 0} {v : Outcome A} → o ≡ None → Q v → Unless o Q v
  passes e q = record { pass = λ f. q; fail = λ p f. absurd (none_some (sym e ∙ f)) }

  pub fails : {o : Option Offence} {Q : Outcome A → Type 0} (p : Offence) → o ≡ Some p → Unless o Q (stops p)
  fails p e = record { pass = λ f. absurd (none_some (sym f ∙ e)); fail = λ q f. ap stops (some_same p q (sym e ∙ f)) }

  pub given : (R : A → A → Type 0) (v w x : Outcome A) → Agree R v x → w ≡ x → Agree R v w
  given R v w x a f = subst (Agree R v) (sym f) a

  pub broken : (R : A → A → Type 0) (o : Offence) (w : Outcome A) → w ≡ stops o → Agree R (stops o) w
  broken R o w f = subst (Agree R (stops o)) (sym f) refl
