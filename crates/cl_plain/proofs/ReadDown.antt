-- The readers a step down.
use Rattle.std.proofs.Common.{◌≡◌, Bool, true, List, ◌∷◌, Option, Some, refl, ap, ◌∙◌}
use Rattle.cl_grammar.specs.declared.lexeme.Lexeme.{Lexeme}
use Rattle.cl_grammar.specs.declared.operator.Operator.{Operator}
use Rattle.cl_grammar.specs.declared.terminal.Terminal.{Terminal}
use Rattle.cl_plain.specs.Plain.{Plain}
use Rattle.cl_plain.proofs.Comes.{Comes, and_then, past, now, on, behind, said, down}
use Rattle.cl_plain.proofs.Readers

abbrev pub Got : {A : Type 0} → (Readers.Readers → Option A) → A → Type 0
Got m x = Comes Readers.Readers Readers.readers m x

pub done : {A : Type 0} (x : A) → Got (λ R. Some x) x
done = now Readers.Readers Readers.readers

pub fixed : {A : Type 0} {m : Option A} {x : A} → m ≡ Some x → Got (λ R. m) x
fixed e = record { count = 0; is = λ n h. e }

pub next : {A B : Type 0} {m : Readers.Readers → Option (A × List Lexeme)} {x : A} {r : List Lexeme} {y : B} (g : Readers.Readers → A → List Lexeme → Option B)
    → Got m (x, r) → Got (λ R. g R x r) y → Got (λ R. and_then (m R) (g R)) y
next {m = m} {x = x} {r = r} {y = y} g = on Readers.Readers Readers.readers m g x r y

pub mark : {B : Type 0} {y : B} (p : Terminal → Bool) {l : Lexeme} {k : Terminal} (ls : List Lexeme) (g : Readers.Readers → Lexeme → List Lexeme → Option B)
    → l.terminal ≡ k → p k ≡ true → Got (λ R. g R l ls) y → Got (λ R. past p (l ∷ ls) (g R)) y
mark {y = y} p {l} ls g h e = behind Readers.Readers Readers.readers p l ls g y (ap p h ∙ e)

pub as_said : {A : Type 0} {m : Readers.Readers → Option (A × List Lexeme)} {x y : A} {r : List Lexeme} → x ≡ y → Got m (y, r) → Got m (x, r)
as_said {m = m} {x = x} {y = y} {r = r} = said Readers.Readers Readers.readers m x y r

pub spec_down : {ls : List Lexeme} {y : Plain × List Lexeme} → Got (λ R. Readers.spec_step R ls) y → Got (λ R. R.spec ls) y
unfolding Readers.readers
spec_down {ls} {y} = down Readers.Readers Readers.readers (λ R. R.spec ls) (λ R. Readers.spec_step R ls) y (λ n. refl)

pub members_down : {ls : List Lexeme} {y : List Plain × List Lexeme} → Got (λ R. Readers.members_step R ls) y → Got (λ R. R.members ls) y
unfolding Readers.readers
members_down {ls} {y} = down Readers.Readers Readers.readers (λ R. R.members ls) (λ R. Readers.members_step R ls) y (λ n. refl)

pub declors_down : {ls : List Lexeme} {y : List Plain × List Lexeme} → Got (λ R. Readers.declors_step R ls) y → Got (λ R. R.declors ls) y
unfolding Readers.readers
declors_down {ls} {y} = down Readers.Readers Readers.readers (λ R. R.declors ls) (λ R. Readers.declors_step R ls) y (λ n. refl)

pub declor_down : {ls : List Lexeme} {y : Plain × List Lexeme} → Got (λ R. Readers.declor_step R ls) y → Got (λ R. R.declor ls) y
unfolding Readers.readers
declor_down {ls} {y} = down Readers.Readers Readers.readers (λ R. R.declor ls) (λ R. Readers.declor_step R ls) y (λ n. refl)

pub lengths_down : {ls : List Lexeme} {y : List Plain × List Lexeme} → Got (λ R. Readers.lengths_step R ls) y → Got (λ R. R.lengths ls) y
unfolding Readers.readers
lengths_down {ls} {y} = down Readers.Readers Readers.readers (λ R. R.lengths ls) (λ R. Readers.lengths_step R ls) y (λ n. refl)

pub term_down : {ls : List Lexeme} {y : Plain × List Lexeme} → Got (λ R. Readers.term_step R ls) y → Got (λ R. R.term ls) y
unfolding Readers.readers
term_down {ls} {y} = down Readers.Readers Readers.readers (λ R. R.term ls) (λ R. Readers.term_step R ls) y (λ n. refl)

pub expr_down : {ls : List Lexeme} {y : Plain × List Lexeme} → Got (λ R. Readers.expr_step R ls) y → Got (λ R. R.expr ls) y
unfolding Readers.readers
expr_down {ls} {y} = down Readers.Readers Readers.readers (λ R. R.expr ls) (λ R. Readers.expr_step R ls) y (λ n. refl)

pub args_down : {ls : List Lexeme} {y : List Plain × List Lexeme} → Got (λ R. Readers.args_step R ls) y → Got (λ R. R.args ls) y
unfolding Readers.readers
args_down {ls} {y} = down Readers.Readers Readers.readers (λ R. R.args ls) (λ R. Readers.args_step R ls) y (λ n. refl)

pub assign_down : {ls : List Lexeme} {y : Plain × List Lexeme} → Got (λ R. Readers.assign_step R ls) y → Got (λ R. R.assign ls) y
unfolding Readers.readers
assign_down {ls} {y} = down Readers.Readers Readers.readers (λ R. R.assign ls) (λ R. Readers.assign_step R ls) y (λ n. refl)

pub cond_down : {ls : List Lexeme} {y : Plain × List Lexeme} → Got (λ R. Readers.cond_step R ls) y → Got (λ R. R.cond ls) y
unfolding Readers.readers
cond_down {ls} {y} = down Readers.Readers Readers.readers (λ R. R.cond ls) (λ R. Readers.cond_step R ls) y (λ n. refl)

pub row_down : {ls : List Lexeme} {y : List (Operator × Plain) × List Lexeme} → Got (λ R. Readers.row_step R ls) y → Got (λ R. R.row ls) y
unfolding Readers.readers
row_down {ls} {y} = down Readers.Readers Readers.readers (λ R. R.row ls) (λ R. Readers.row_step R ls) y (λ n. refl)

pub cast_down : {ls : List Lexeme} {y : Plain × List Lexeme} → Got (λ R. Readers.cast_step R ls) y → Got (λ R. R.cast ls) y
unfolding Readers.readers
cast_down {ls} {y} = down Readers.Readers Readers.readers (λ R. R.cast ls) (λ R. Readers.cast_step R ls) y (λ n. refl)

pub unary_down : {ls : List Lexeme} {y : Plain × List Lexeme} → Got (λ R. Readers.unary_step R ls) y → Got (λ R. R.unary ls) y
unfolding Readers.readers
unary_down {ls} {y} = down Readers.Readers Readers.readers (λ R. R.unary ls) (λ R. Readers.unary_step R ls) y (λ n. refl)

pub primary_down : {ls : List Lexeme} {y : Plain × List Lexeme} → Got (λ R. Readers.primary_step R ls) y → Got (λ R. R.primary ls) y
unfolding Readers.readers
primary_down {ls} {y} = down Readers.Readers Readers.readers (λ R. R.primary ls) (λ R. Readers.primary_step R ls) y (λ n. refl)

pub suffixes_down : {ls : List Lexeme} {a : Plain} {y : Plain × List Lexeme} → Got (λ R. Readers.suffixes_step R a ls) y → Got (λ R. R.suffixes a ls) y
unfolding Readers.readers
suffixes_down {ls} {a} {y} = down Readers.Readers Readers.readers (λ R. R.suffixes a ls) (λ R. Readers.suffixes_step R a ls) y (λ n. refl)
