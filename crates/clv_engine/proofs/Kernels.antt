-- The parts of a kernel's tokens.
use Rattle.std.proofs.Common.{◌≡◌, ◌≢◌, ℕ, ◌≤◌, List, ◌++◌, length, take, drop, refl, sym, ap, ◌∙◌, subst, None}
use Rattle.std.specs.Prelude.{All}
use Rattle.std.proofs.lemmas.List.{take-append-drop}
use Rattle.cl_lexer.specs.declared.token.TokenKind.{TokenKind}
use Rattle.clv_engine.specs.declared.form.Kernel.{Kernel}
use Rattle.clv_engine.specs.declared.form.Term.{Term}
use Rattle.clv_engine.specs.FirstForm.{is_lower_case, sum_tokens, kernel_tokens, IsTerm, IsKernel}
use Rattle.clv_engine.specs.Forming.{head_tokens, end_tokens, IsNoKernel, AreLetters, IsSum, IsBody}

kernel-head : (k : Kernel) → take 18 (kernel_tokens k) ≡ head_tokens k.name k.argument
kernel-head k = refl

kernel-body : (k : Kernel) → drop 18 (kernel_tokens k) ≡ sum_tokens k.terms ++ end_tokens
kernel-body k = refl

sum_of : (k : Kernel) → IsKernel k → IsSum k.terms
sum_of k h = record { some = h.some; few = h.few; terms = h.terms }

pub no_head : (ts : List TokenKind) (name argument : ℕ) → AreLetters ts name argument → take 18 ts ≢ head_tokens name argument → IsNoKernel ts
no_head ts name argument letters other = λ k h e.
    let same = letters.only k h e in
    other (ap (take 18) e ∙ ap (λ a. head_tokens a k.argument) same.0 ∙ ap (head_tokens name) same.1)

pub no_body : (ts rest : List TokenKind) → rest ≡ drop 18 ts → IsBody rest None → IsNoKernel ts
no_body ts rest back none = λ k h e. none k.terms (sum_of k h) (back ∙ ap (drop 18) e)

pub kernel_formed : (ts rest : List TokenKind) (name argument : ℕ) (us : List Term) → AreLetters ts name argument → take 18 ts ≡ head_tokens name argument → rest ≡ drop 18 ts → IsSum us → rest ≡ sum_tokens us ++ end_tokens → (k : Kernel) → k.name ≡ name → k.argument ≡ argument → k.terms ≡ us → IsKernel k × (ts ≡ kernel_tokens k)
kernel_formed ts rest name argument us letters front back sum body k n a t = (
  record {
    name = ap is_lower_case n ∙ letters.name_letter;
    argument = ap is_lower_case a ∙ letters.argument_letter;
    different = λ e. letters.different (sym n ∙ e ∙ a);
    some = subst (λ z. 1 ≤ length z) (sym t) sum.some;
    few = subst (λ z. length z ≤ 100) (sym t) sum.few;
    terms = subst (All IsTerm) (sym t) sum.terms;
  },
  sym (take-append-drop 18 ts) ∙ ap (λ z. z ++ drop 18 ts) front ∙ ap (λ z. head_tokens name argument ++ z) (sym back ∙ body) ∙ ap (λ z. head_tokens z argument ++ (sum_tokens us ++ end_tokens)) (sym n) ∙ ap (λ z. head_tokens k.name z ++ (sum_tokens us ++ end_tokens)) (sym a) ∙ ap (λ z. head_tokens k.name k.argument ++ (sum_tokens z ++ end_tokens)) (sym t),
)

pub ruleset kernels = (no_head, no_body, kernel_formed)
